-- TURNS OF THE LOOPS of a marking: over roots, over the entries of an object, and what is left to be done after each.
use Rattle.std.specs.Prelude.{slice_get}
use Rattle.std.proofs.Common.{◌≡◌, ℕ, zero, suc, ◌+◌, ◌<◌, ◌≤◌, Bool, true, false, List, [], ◌∷◌, ◌++◌, length, drop, drop-cons, add-one, Option, Some, None, option_map, refl, sym, ◌∙◌, ap, arith, count_by}
use Rattle.std.proofs.lemmas.Option.{get_or_from_slice_get, slice_get_within}
use Rattle.std.proofs.Math.Seq.{drop-length}
use Rattle.cc_names.specs.declared.kind.Colour.{Colour}
use Rattle.cc_script.specs.Objects.{AreWhole, is_there, places_at}
use Rattle.cc_script.specs.Marking.{Marking, raise_each, to_do}
use Rattle.cc_script.specs.Underway.{Underway, looked_into, marks_of, started, with_marks}
use Rattle.cc_script.proofs.Raising.{raise_key-spends, raise_each-spends}
use Rattle.cc_weakmaps.specs.Entries.{KeyedEntry}
use Rattle.cc_weakmaps.specs.Index.{has_object, IsPlaceOf, place_below}
use Rattle.cc_weakmaps.proofs.Below.{below-last}
use Rattle.cc_marking.specs.Joints.{Joint, joints, joints_of}
use Rattle.cc_marking.specs.Looking.{with_all_started, with_all_given, with_given, with_given_of, with_joint, with_joints}
use Rattle.cc_marking.proofs.Looked.{count_below, count-all, count-next, count-none}
use Rattle.cc_marking.proofs.There.{AreThere}

-- OVER ROOTS: those that are left lead where all do
pub record IsStarting (all : List ℕ) (u : Underway) (left : List ℕ) (v : Underway) : Type 0 where
  pub started : with_all_started u.to left (marks_of v) ≡ with_all_started u.to all (marks_of u)
  pub colour : v.to ≡ u.to
  pub live : AreThere left v.objects
  pub whole : AreWhole v.objects

pub starting-next : (all : List ℕ) (u : Underway) (before left : List ℕ) (key : ℕ) (v w : Underway) → before ≡ key ∷ left → w ≡ started key v →
    ((k : ℕ) → is_there w.objects k ≡ is_there v.objects k) → (AreWhole v.objects → AreWhole w.objects) → IsStarting all u before v → IsStarting all u left w
starting-next all u before left key v w taken next there whole h = grind (arith)

-- none is left
pub starting-done : (all : List ℕ) (u : Underway) (left : List ℕ) (v : Underway) → left ≡ [] → IsStarting all u left v → marks_of v ≡ with_all_started u.to all (marks_of u)
starting-done all u left v none h = sym (ap (λ ks. with_all_started u.to ks (marks_of v)) none) ∙ h.started

-- OVER THE ENTRIES OF AN OBJECT

-- at its next place, and where there is none
pub values-next : (to : Colour) (es : List KeyedEntry) (object n i : ℕ) (e : KeyedEntry) (m : Marking) → place_below es object n ≡ Some i → slice_get es i ≡ Some e →
    with_all_given to es object n m ≡ with_all_given to es object i (with_given to e m)
values-next to es object zero i e m f at = absurd (cc)
values-next to es object (suc n) i e m f at = go (slice_get es n) refl (λ g. values-next to es object n i e m g at) f
  where
    go : (o : Option KeyedEntry) → slice_get es n ≡ o → (place_below es object n ≡ Some i → with_all_given to es object n m ≡ with_all_given to es object i (with_given to e m)) →
        ◌≡◌ {A = Option ℕ} (elim (option_map (has_object object) o) [ None ↦ place_below es object n | Some b ↦ elim b [ true ↦ Some n | false ↦ place_below es object n ] ]) (Some i) →
        with_all_given to es object n (with_given_of to object o m) ≡ with_all_given to es object i (with_given to e m)
    go None q ih g = ih g
    go (Some d) q ih g = each (has_object object d) g
      where
        each : (b : Bool) → ◌≡◌ {A = Option ℕ} (elim b [ true ↦ Some n | false ↦ place_below es object n ]) (Some i) →
            with_all_given to es object n (elim b [ true ↦ with_given to d m | false ↦ m ]) ≡ with_all_given to es object i (with_given to e m)
        each true h =
            let same : n ≡ i = cc in
            let found : Some d ≡ Some e = sym q ∙ (ap (slice_get es) same ∙ at) in
            let it : d ≡ e = cc in
            ap (λ k. with_all_given to es object k (with_given to d m)) same ∙ ap (λ k. with_all_given to es object i (with_given to k m)) it
        each false h = ih h

pub values-none : (to : Colour) (es : List KeyedEntry) (object n : ℕ) (m : Marking) → place_below es object n ≡ None → with_all_given to es object n m ≡ m
values-none to es object zero m e = refl
values-none to es object (suc n) m e = grind (arith, values-none to es object n m)

-- the looks at the entries of an object that are left lead where all do, and take as many steps
pub record IsLooking (to : Colour) (es : List KeyedEntry) (object : ℕ) (u : Underway) (before : ℕ) (v : Underway) (now : ℕ) (place : Option ℕ) : Type 0 where
  pub n : ℕ
  pub last : place ≡ place_below es object n
  pub valued : with_all_given to es object n (marks_of v) ≡ with_all_given to es object (length es) (marks_of u)
  pub steps : now + count_below es object n ≡ before + count_by (has_object object) es
  pub colour : v.to ≡ u.to
  pub there : (k : ℕ) → is_there v.objects k ≡ is_there u.objects k
  pub whole : AreWhole v.objects

module _ (to : Colour) (es : List KeyedEntry) (object : ℕ) (u : Underway) (before : ℕ) where
  pub looking-begins : (place : Option ℕ) → place ≡ place_below es object (length es) → AreWhole u.objects → IsLooking to es object u before u before place
  looking-begins place e whole = search (count-all)

  -- the place is one of the object
  pub looking-place : (v : Underway) (now : ℕ) (place : Option ℕ) (i : ℕ) → place ≡ Some i → IsLooking to es object u before v now place → IsPlaceOf es object i
  looking-place v now place i is h = (below-last es object h.n i (sym h.last ∙ is)).there

  -- its entry was looked at
  pub looking-next : (v : Underway) (now : ℕ) (place : Option ℕ) (i : ℕ) → place ≡ Some i → (e : KeyedEntry) (w : Underway) (next : Option ℕ) → slice_get es i ≡ Some e → next ≡ place_below es object i →
      marks_of w ≡ with_given to e (marks_of v) → w.to ≡ v.to → ((k : ℕ) → is_there w.objects k ≡ is_there v.objects k) → AreWhole w.objects →
      IsLooking to es object u before v now place → IsLooking to es object u before w (now + 1) next
  looking-next v now place i is e w next at further valued colour there whole h = grind (arith, values-next, count-next)

  -- all were
  pub looking-done : (v : Underway) (now : ℕ) (place : Option ℕ) → place ≡ None → IsLooking to es object u before v now place →
      (marks_of v ≡ with_all_given to es object (length es) (marks_of u)) × (now ≡ before + count_by (has_object object) es)
  looking-done v now place is h = grind (arith, values-none, count-none)

-- WHAT IS LEFT TO BE DONE

joint-spends : (to : Colour) (j : Joint) (m : Marking) → to_do to (with_joint to j m) ≤ to_do to m
joint-spends to j m = grind (arith, raise_key-spends)

joints-spend : (to : Colour) (js : List Joint) (m : Marking) → to_do to (with_joints to js m) ≤ to_do to m
joints-spend to [] m = omega arith
joints-spend to (j ∷ js) m = omega (arith, joints-spend to js (with_joint to j m), joint-spends to j m)

value-spends : (to : Colour) (object : ℕ) (o : Option KeyedEntry) (m : Marking) → to_do to (with_given_of to object o m) ≤ to_do to m
value-spends to object o m = grind (arith, joints-spend)

pub values-spend : (to : Colour) (es : List KeyedEntry) (object n : ℕ) (m : Marking) → to_do to (with_all_given to es object n m) ≤ to_do to m
values-spend to es object zero m = omega arith
values-spend to es object (suc n) m = omega (arith, values-spend to es object n (with_given_of to object (slice_get es n) m), value-spends to object (slice_get es n) m)

-- less, once one more was looked into
pub turn-spends : (to : Colour) (es : List KeyedEntry) (m : Marking) (key : ℕ) (rest : List ℕ) → m.waiting ≡ key ∷ rest → (n : Marking) →
    n ≡ with_all_given to es key (length es) (raise_each to (places_at m.objects key) (record { objects = m.objects; waiting = rest })) → to_do to n < to_do to m
turn-spends to es m key rest front n e = grind (arith, values-spend, raise_each-spends)

-- where none waits, none is looked into
pub looked-none : (u : Underway) → u.waiting ≡ [] → looked_into u ≡ u
looked-none u none = ap (with_marks u) (grind (arith))

-- OVER ALL ENTRIES, at each once

joints-append : (to : Colour) (firsts seconds : List Joint) (m : Marking) → with_joints to (firsts ++ seconds) m ≡ with_joints to seconds (with_joints to firsts m)
joints-append to [] seconds m = refl
joints-append to (j ∷ js) seconds m = joints-append to js seconds (with_joint to j m)

-- the looks that are left lead where all do, and one step was taken for each of the others
pub record IsLookingOver (to : Colour) (es : List KeyedEntry) (u : Underway) (before : ℕ) (v : Underway) (now i : ℕ) : Type 0 where
  pub given : with_joints to (joints (drop i es)) (marks_of v) ≡ with_joints to (joints es) (marks_of u)
  pub steps : now ≡ before + i
  pub colour : v.to ≡ u.to
  pub there : (k : ℕ) → is_there v.objects k ≡ is_there u.objects k
  pub whole : AreWhole v.objects

module _ (to : Colour) (es : List KeyedEntry) (u : Underway) (before : ℕ) where
  pub over-begins : AreWhole u.objects → IsLookingOver to es u before u before 0
  over-begins whole = record { given = refl; steps = omega arith; colour = refl; there = λ k. refl; whole = whole }

  -- the entry at the next place was looked at
  pub over-next : (v : Underway) (now i : ℕ) (e : KeyedEntry) (w : Underway) → slice_get es i ≡ Some e → marks_of w ≡ with_given to e (marks_of v) → w.to ≡ v.to →
      ((k : ℕ) → is_there w.objects k ≡ is_there v.objects k) → AreWhole w.objects → IsLookingOver to es u before v now i → IsLookingOver to es u before w (now + 1) (i + 1)
  over-next v now i e w at given colour there whole h = record {
    given =
        ap (with_joints to (joints (drop (i + 1) es))) given
        ∙ (sym (joints-append to (joints_of e) (joints (drop (i + 1) es)) (marks_of v))
        ∙ (ap (λ (left : List KeyedEntry). with_joints to (joints left) (marks_of v)) (sym (next_left)) ∙ h.given));
    steps = let so_far = h.steps in omega (arith, so_far);
    colour = colour ∙ h.colour;
    there = λ k. there k ∙ h.there k;
    whole = whole;
  }
    where
      next_left : drop i es ≡ e ∷ drop (i + 1) es
      next_left =
          drop-cons es i e (slice_get_within es i e at)
          ∙ (ap (λ x. x ∷ drop (suc i) es) (get_or_from_slice_get es i e e at) ∙ ap (λ n. e ∷ drop n es) (sym (add-one i)))

  -- all were
  pub over-done : (v : Underway) (now i : ℕ) → i ≡ length es → IsLookingOver to es u before v now i →
      (marks_of v ≡ with_joints to (joints es) (marks_of u)) × (now ≡ before + length es)
  over-done v now i end h = (
    ap (λ (left : List KeyedEntry). with_joints to (joints left) (marks_of v)) (sym (ap (λ n. drop n es) end ∙ drop-length es)) ∙ h.given,
    h.steps ∙ ap (λ n. before + n) end,
  )
