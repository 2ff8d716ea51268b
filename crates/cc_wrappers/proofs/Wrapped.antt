-- WHAT A NATIVE WRAPPED GIVES: the reflector that it has, exposed, or a new one; and what a reflector preserved gives.
use Rattle.std.proofs.Common.{◌≡◌, ◌==◌, ℕ, Bool, true, false, List, [], ◌∷◌, Option, Some, None, Result, Ok, Err, IfOk, OnOk, OnErr, is_some, option_map, refl, sym, ◌∙◌, ap, subst, ⊎_elim, IsSome}
use Rattle.std.specs.Prelude.{IsTrue}
use Rattle.std.specs.Option.{option_and_then}
use Rattle.std.proofs.lemmas.Bool.{false≢true}
use Rattle.cc_lists.specs.Members.{Among}
use Rattle.cc_lists.proofs.Members.{Among-map}
use Rattle.cc_lists.proofs.Filtering.{find-among}
use Rattle.cc_lists.proofs.Least.{derive-along}
use Rattle.cc_lists.proofs.ListWrites.{each-push}
use Rattle.cc_names.specs.declared.name.Name.{Name}
use Rattle.cc_names.specs.declared.name.Name.TheVariants as name
use Rattle.cc_names.specs.declared.number.NKey.{NKey}
use Rattle.cc_names.specs.declared.number.SKey.{SKey}
use Rattle.cc_names.specs.declared.no_memory.NoMemory.{NoMemory}
use Rattle.cc_names.specs.declared.kind.Kind.TheVariants.{Reflector}
use Rattle.cc_names.specs.declared.kind.Colour.TheVariants.{Black}
use Rattle.cc_names.specs.Names.{native, reflector}
use Rattle.cc_model.specs.Slots.{reflector_slots}
use Rattle.cc_model.specs.Checks.{native_of}
use Rattle.cc_model.specs.Entries.{joints, rules_of}
use Rattle.cc_model.specs.Exposure.{exposed}
use Rattle.cc_model.specs.Effects.{with_reflector, wrapped}
use Rattle.cc_model.specs.Graph as graph
use Rattle.cc_model.specs.Heap.{Heap, HeapScript, has_reflector, set_preserved, new_script}
use Rattle.cc_model.specs.View.{view, ReachedIn}
use Rattle.cc_model.specs.WellFormed.{IsWellFormed, script_names}
use Rattle.cc_laws_heap.proofs.Face.{IsHeldBlack, exposed-black, has_reflector-none, script_names-exposed}
use Rattle.cc_laws_snapshot.proofs.Face.{edge-from_reflector}
use Rattle.cc_counted.specs.Counts.{reflector_at}
use Rattle.cc_script.specs.Objects.{Object, is_there, name_at, colour_at, native_at}
use Rattle.cc_heaps.specs.Keyed.{Keyed, IsInOrder, Reflects, counts_of, number_at, the_number}
use Rattle.cc_heaps.specs.Changes.{IsNativeThere, KeepsKeys, native_name}
use Rattle.cc_heaps.specs.Standing.{IsReached, MayHold, StandsAfter}
use Rattle.cc_heaps.proofs.ReflectingMade.{wrapped_by, wrapped-stands, exposed-reached, made-reached}
use Rattle.cc_heaps.proofs.ReflectingPreserved.{preserved-reached}
use Rattle.cc_heaps.proofs.HasReflector.{has_reflector-named}
use Rattle.cc_wrappers.proofs.ReflectorKeys.{object-at, name-held, black-at, reflector-at, reflector_at-number}

-- A native's reflector, by the key that the counted heap has

module _ {owned : List ℕ} (v : Keyed) (o : IsInOrder owned v) (key : ℕ) (live : IsSome (number_at v key)) where
  -- the number of the native
  abbrev number : ℕ
  number = the_number v key

  -- Where it has a key, the reflector stands there,
  pub reflector-name : (r : ℕ) → reflector_at (counts_of v) key ≡ Some r → name_at v.scripts r ≡ Some (reflector number)
  reflector-name r e = reflector-at owned v o number r (sym (reflector_at-number v key live) ∙ e)

  -- and where it has none, there is none.
  pub reflector-none : reflector_at (counts_of v) key ≡ None → has_reflector v.heap number ≡ false
  reflector-none e = has_reflector-named v o.named number ∙ ap is_some (sym (reflector_at-number v key live) ∙ e)

  pub reflector-has : (r : ℕ) → reflector_at (counts_of v) key ≡ Some r → has_reflector v.heap number ≡ true
  reflector-has r e = has_reflector-named v o.named number ∙ ap is_some (sym (reflector_at-number v key live) ∙ e)

-- what is handed in is reached still, where all that was reached is
still-reached : (h g : Heap) (x : Option Name) → ((y : Name) → ReachedIn (view h) y → ReachedIn (view g) y) → IsReached h x → IsReached g x
still-reached h g None kept d = tt
still-reached h g (Some y) kept d = kept y d

-- THE REFLECTOR THAT IS THERE, EXPOSED
module _ {owned : List ℕ} (v w : Keyed) (o : IsInOrder owned v) (p : IsInOrder owned w) (k r : ℕ) (named : name_at v.scripts r ≡ Some (reflector k)) (has : has_reflector v.heap k ≡ true)
    (heap : w.heap ≡ exposed v.heap (name_at v.scripts r)) (keys : KeepsKeys v w) where
  -- the heap by its name
  exposed-heap : w.heap ≡ exposed v.heap (Some (reflector k))
  exposed-heap = heap ∙ ap (exposed v.heap) named

  -- The heaps are those in which the native is wrapped.
  pub exposed-wrapped : w.heap ≡ wrapped v.heap (Some (native k))
  exposed-wrapped = exposed-heap ∙ ap (wrapped_by v.heap k) (sym has)

  -- It has its name still,
  pub exposed-name : name_at w.scripts r ≡ Some (reflector k)
  exposed-name = keys.scripts r (reflector k) named
      (subst (Among (reflector k)) (sym (ap script_names exposed-heap ∙ script_names-exposed v.heap (Some (reflector k)) o.sound.well_formed))
      (name-held owned v o r (reflector k) named))

  -- it is black,
  pub exposed-colour : colour_at w.scripts r ≡ Some Black
  exposed-colour = black-at owned w p r (reflector k) exposed-name
      (subst (λ h. IsHeldBlack h.scripts (Some (reflector k))) (sym exposed-heap) (exposed-black v.heap (Some (reflector k))))

  -- and the heaps stand for the graph in which the native is wrapped.
  pub exposed-stands : IsReached v.heap (Some (native k)) → StandsAfter v.heap w.heap (λ g. graph.wrapped g (Some (native k)))
  exposed-stands d = subst (λ h. StandsAfter v.heap h (λ g. graph.wrapped g (Some (native k)))) (sym exposed-wrapped)
      (wrapped-stands v.heap k o.sound (o.sound.well_formed.reflected k (name-held owned v o r (reflector k) named)) d)

  -- What is reached stays reached.
  pub exposed-keeps_reached : (x : Option Name) → IsReached v.heap x → IsReached w.heap x
  exposed-keeps_reached x d = subst (λ h. IsReached h x) (sym exposed-heap)
      (still-reached v.heap (exposed v.heap (Some (reflector k))) x (exposed-reached v.heap (Some (reflector k)) o.sound) d)

-- A REFLECTOR MADE
module _ {owned : List ℕ} (v w : Keyed) (p : IsInOrder owned w) (k : ℕ) (none : has_reflector v.heap k ≡ false) where
  -- it is the last of the script objects, and black
  made-black : IsHeldBlack (with_reflector v.heap k).scripts (Some (reflector k))
  made-black = each-push (λ s. Among s.name (reflector k ∷ []) → s.colour ≡ Black) v.heap.scripts (new_script (reflector k) Reflector reflector_slots None)
      (λ s m i. absurd (has_reflector-none v.heap k none
      (⊎_elim (λ e. subst (λ x. Among x (script_names v.heap)) (sym e) (Among-map (λ (q : HeapScript). q.name) s v.heap.scripts m)) (λ t. absurd t) i)))
      (λ i. refl)

  -- The heaps are those in which the native is wrapped.
  pub made-wrapped : w.heap ≡ with_reflector v.heap k → w.heap ≡ wrapped v.heap (Some (native k))
  made-wrapped e = e ∙ ap (wrapped_by v.heap k) (sym none)

  -- It is black.
  pub made-colour : (result : Result SKey NoMemory) → OnOk result (w.heap ≡ with_reflector v.heap k) →
      IfOk result (λ made. name_at w.scripts made.0 ≡ Some (reflector k)) → IfOk result (λ made. colour_at w.scripts made.0 ≡ Some Black)
  made-colour (Ok made) e n = black-at owned w p made.0 (reflector k) n (subst (λ h. IsHeldBlack h.scripts (Some (reflector k))) (sym e) made-black)
  made-colour (Err stop) e n = tt

  -- What is reached stays reached.
  pub made-keeps_reached : (result : Result SKey NoMemory) → OnOk result (w.heap ≡ with_reflector v.heap k) → OnErr result (w ≡ v) →
      (x : Option Name) → IsReached v.heap x → IsReached w.heap x
  made-keeps_reached (Ok made) e f x d = subst (λ h. IsReached h x) (sym e)
      (still-reached v.heap (with_reflector v.heap k) x (made-reached v.heap k (subst IsWellFormed e p.sound.well_formed)) d)
  made-keeps_reached (Err stop) e f x d = subst (λ (u : Keyed). IsReached u.heap x) (sym f) d

-- Natives of reflectors

-- WHAT AN OBJECT HAS FOR A NATIVE is the native that it stands for, where it is a reflector.
pub record IsBehind (v : Keyed) (result : Option NKey) (x : Option Name) : Type 0 where
  pub name : native_name v result ≡ native_of x
  pub there : IsNativeThere v result

pub behind-named : (v : Keyed) (result : Option NKey) (x : Name) → Reflects v x (option_map (λ (k : NKey). k.0) result) → IsBehind v result (Some x)
behind-named v result (name.Native k) r = absurd r
behind-named v None (name.Script k) r = record { name = refl; there = tt }
behind-named v (Some q) (name.Script k) r = absurd (cc)
behind-named v None (name.Reflector k) r = absurd r
behind-named v (Some q) (name.Reflector k) r = record { name = ap (option_map native) r; there = ap is_some r }

pub behind-at : {owned : List ℕ} (v : Keyed) → IsInOrder owned v → (key : ℕ) (result : Option NKey) → IsTrue (is_there v.scripts key) →
    option_map (λ (k : NKey). k.0) result ≡ native_at v.scripts key → IsBehind v result (name_at v.scripts key)
behind-at v o key result live e =
    let q = object-at v.scripts key live in
    let native_is : option_map (λ (k : NKey). k.0) result ≡ q.0.native = e ∙ ap (λ (p : Option Object). option_and_then (λ (p : Object). p.native) p) q.1 in
    subst (IsBehind v result) (sym (ap (λ (p : Option Object). option_map (λ (p : Object). p.name) p) q.1))
    (behind-named v result q.0.name (subst (Reflects v q.0.name) (sym native_is)
    (o.reflecting q.0 (find-among (λ (p : Object). p.key == key) v.scripts q.0 q.1))))

-- REFLECTORS PRESERVED

-- what a native was found behind is its reflector
pub found-reflector : (v : Keyed) (q : NKey) (x : Option Name) → IsSome (number_at v q.0) → native_name v (Some q) ≡ native_of x → x ≡ Some (reflector (the_number v q.0))
found-reflector v q x live e = go (number_at v q.0) refl live x e
  where
    go : (n : Option ℕ) → number_at v q.0 ≡ n → IsSome n → (x : Option Name) → option_map native (number_at v q.0) ≡ native_of x → x ≡ Some (reflector (the_number v q.0))
    go None f l x e = absurd (false≢true l)
    go (Some j) f l None e = let both : Some (native j) ≡ None = sym (ap (option_map native) f) ∙ e in absurd (cc)
    go (Some j) f l (Some (name.Native k)) e = let both : Some (native j) ≡ None = sym (ap (option_map native) f) ∙ e in absurd (cc)
    go (Some j) f l (Some (name.Script k)) e = let both : Some (native j) ≡ None = sym (ap (option_map native) f) ∙ e in absurd (cc)
    go (Some j) f l (Some (name.Reflector k)) e =
        let both : Some (native j) ≡ Some (native k.0) = sym (ap (option_map native) f) ∙ e in
        let same : k.0 ≡ j = cc in
        ap (λ i. Some (reflector i)) same ∙ ap (λ i. Some (reflector i)) (sym (rw f refl))

-- so the native has one
pub found-has : {owned : List ℕ} (v : Keyed) (o : IsInOrder owned v) (key k : ℕ) → name_at v.scripts key ≡ Some (reflector k) → has_reflector v.heap k ≡ true
found-has {owned} v o key k e = go (has_reflector v.heap k) refl
  where
    go : (b : Bool) → has_reflector v.heap k ≡ b → b ≡ true
    go true f = refl
    go false f = absurd (has_reflector-none v.heap k f (name-held owned v o key (reflector k) e))

-- the native of a reflector that is reached is reached
pub behind-reached : (h : Heap) (k : ℕ) → Among (reflector k) (script_names h) → ReachedIn (view h) (reflector k) → ReachedIn (view h) (native k)
behind-reached h k there d = derive-along (view h).registers (view h).edges (rules_of (joints h.entries)) (reflector k) (native k) (edge-from_reflector h k there) d

-- What is no reflector holds what it may.
pub no_reflector-may_hold : (h : Heap) (x : Option Name) → native_of x ≡ None → MayHold h x
no_reflector-may_hold h None e = tt
no_reflector-may_hold h (Some (name.Native k)) e = tt
no_reflector-may_hold h (Some (name.Script k)) e = tt
no_reflector-may_hold h (Some (name.Reflector k)) e = absurd (cc)

-- a reflector preserved leaves what is handed in reached
pub preserved-keeps_reached : {owned : List ℕ} (v : Keyed) (o : IsInOrder owned v) (key k : ℕ) → name_at v.scripts key ≡ Some (reflector k) → (x : Option Name) →
    IsReached v.heap x → IsReached (set_preserved v.heap k true) x
preserved-keeps_reached {owned} v o key k e x = still-reached v.heap (set_preserved v.heap k true) x
    (preserved-reached v.heap k o.sound (name-held owned v o key (reflector k) e))
