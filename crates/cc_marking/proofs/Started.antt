-- OBJECTS STARTED, one after another: what was looked into stays what was, and only what may be marked gets the colour.
use Rattle.std.specs.Prelude.{IsTrue, is_some, slice_get}
use Rattle.std.proofs.Common.{◌≡◌, ℕ, zero, suc, ◌+◌, ◌<◌, ◌≤◌, ◌==◌, Bool, true, false, not, cond, ◌||◌, ◌&&◌, List, [], ◌∷◌, ◌++◌, Option, Some, None, refl, sym, ◌∙◌, ap, subst, inl, inr, ◌⊎◌, ⊎_elim, arith, count_by}
use Rattle.std.proofs.lemmas.Bool.{and_from, and_parts, or_cases, true≢false, false≢true, eq-eqb, eqb-true}
use Rattle.std.proofs.lemmas.Bool.Decides.{eqb_tells}
use Rattle.std.proofs.lemmas.List.{map-id}
use Rattle.cc_lists.specs.Members.{Among, has}
use Rattle.cc_lists.proofs.Counting.{count_by-append, count_by-cons}
use Rattle.cc_lists.proofs.CountsOf.{count_by-none, count_by-none_passes}
use Rattle.cc_lists.proofs.ListWrites.{map-agree}
use Rattle.cc_lists.proofs.Members.{Among-append, has-among, has-there}
use Rattle.cc_lists.proofs.Numbers.{eqb-sym, number-exact}
use Rattle.cc_lists.proofs.Places.{place-among}
use Rattle.cc_names.specs.declared.kind.Colour.{Colour}
use Rattle.cc_script.specs.Objects.{Object, object_at, is_there, change_object, raised, raised_among}
use Rattle.cc_script.specs.Marking.{Marking, is_lower, raise_key, raise_each}
use Rattle.cc_script.proofs.Colours.{not_below-self}
use Rattle.cc_script.proofs.Raising.{raise_key-lower, raise_key-enough, lower-some}
use Rattle.cc_script.proofs.Wholeness.{there-raised}
use Rattle.cc_weakmaps.specs.Entries.{KeyedEntry}
use Rattle.cc_weakmaps.specs.Index.{has_object}
use Rattle.cc_marking.specs.Joints.{Joint, joints, joints_of}
use Rattle.cc_marking.specs.Levels.{has_at_least}
use Rattle.cc_marking.specs.Looking.{with_all_started, with_all_given, with_given, with_given_of, with_joint, with_joints}
use Rattle.cc_marking.specs.Carrying.{is_looked_into, IsTidy}
use Rattle.cc_marking.proofs.Joints.{entry-joint}
use Rattle.cc_marking.proofs.Levels.{at_least-cases, at_least-kept, at_least-risen}
use Rattle.cc_marking.proofs.Raising.{raised-twice}

-- a list has what its two parts have
pub has-append : (xs ys : List ℕ) (key : ℕ) → has ◌==◌ (xs ++ ys) key ≡ (has ◌==◌ xs key || has ◌==◌ ys key)
has-append [] ys key = refl
has-append (x ∷ xs) ys key = grind (arith, has-append xs ys key)

module _ (to : Colour) where
  -- what has the colour has a property
  abbrev pub AllHave : (ℕ → Type 0) → Marking → Type 0
  AllHave P m = (key : ℕ) → IsTrue (has_at_least to m.objects key) → P key

  -- FURTHER: objects were raised, which wait; of those nothing was looked into; and they have a property
  pub record IsFurther (P : ℕ → Type 0) (m n : Marking) : Type 0 where
    pub keys : List ℕ
    pub raised : n.objects ≡ raised_among keys to m.objects
    pub looked : (key : ℕ) → is_looked_into to n key ≡ is_looked_into to m key
    pub tidy : IsTidy to m → IsTidy to n
    pub have : AllHave P m → AllHave P n

  pub further-none : (P : ℕ → Type 0) (m : Marking) → IsFurther P m m
  further-none P m = record { keys = []; raised = sym (map-id m.objects); looked = λ key. refl; tidy = λ t. t; have = λ h. h }

  pub further-then : (P : ℕ → Type 0) (a b c : Marking) → IsFurther P a b → IsFurther P b c → IsFurther P a c
  further-then P a b c f g = record {
    keys = f.keys ++ g.keys;
    raised = g.raised ∙ (ap (raised_among g.keys to) f.raised ∙ raised-twice f.keys g.keys (f.keys ++ g.keys) to a.objects (has-append f.keys g.keys));
    looked = λ key. g.looked key ∙ f.looked key;
    tidy = λ t. g.tidy (f.tidy t);
    have = λ h. g.have (f.have h);
  }

  module _ (P : ℕ → Type 0) (m n : Marking) (f : IsFurther P m n) where
    pub further-more : (key : ℕ) → IsTrue (has_at_least to m.objects key) → IsTrue (has_at_least to n.objects key)
    further-more key h = ap (λ os. has_at_least to os key) f.raised ∙ at_least-kept f.keys to to (not_below-self to) m.objects key h

    pub further-there : (key : ℕ) → is_there n.objects key ≡ is_there m.objects key
    further-there key = ap (λ os. is_there os key) f.raised ∙ there-raised f.keys to m.objects key

  -- One object

  -- what is not lower, and is there, has the colour; what is lower has not
  enough-at_least : (objects : List Object) (key : ℕ) → is_lower to (object_at objects key) ≡ false → IsTrue (is_there objects key) → IsTrue (has_at_least to objects key)
  enough-at_least objects key = grind (arith, false≢true)

  lower-less : (objects : List Object) (key : ℕ) → is_lower to (object_at objects key) ≡ true → has_at_least to objects key ≡ false
  lower-less objects key = grind arith

  lower-there : (objects : List Object) (key : ℕ) → is_lower to (object_at objects key) ≡ true → IsTrue (is_there objects key)
  lower-there objects key e = let f = lower-some to (object_at objects key) e in ap is_some f.1

  -- the one object at a key, as a list
  changed-among : (objects : List Object) (key : ℕ) → change_object objects key (raised to) ≡ raised_among (key ∷ []) to objects
  changed-among objects key = grind (arith, map-agree, eqb-sym)

  has-one : (key j : ℕ) → IsTrue (has ◌==◌ (key ∷ []) j) → key ≡ j
  has-one key j h = ⊎_elim (λ e. eqb-true key j e) (λ f. absurd (false≢true f)) (or_cases (key == j) false h)

  module _ (P : ℕ → Type 0) (key : ℕ) (m : Marking) where
    abbrev next : Marking
    next = raise_key to key m

    abbrev risen_one : Marking
    risen_one = record { objects = change_object m.objects key (raised to); waiting = m.waiting ++ key ∷ [] }

    module _ (low : is_lower to (object_at m.objects key) ≡ true) where
      one-raised : risen_one.objects ≡ raised_among (key ∷ []) to m.objects
      one-raised = changed-among m.objects key

      one-more : (j : ℕ) → IsTrue (has_at_least to m.objects j) → IsTrue (has_at_least to risen_one.objects j)
      one-more j h = ap (λ os. has_at_least to os j) one-raised ∙ at_least-kept (key ∷ []) to to (not_below-self to) m.objects j h

      one-here : IsTrue (has_at_least to risen_one.objects key)
      one-here = grind (arith, one-raised, at_least-risen, not_below-self, lower-there, has-there, number-exact)

      one-cases : (j : ℕ) → IsTrue (has_at_least to risen_one.objects j) → IsTrue (has_at_least to m.objects j) ⊎ (key ≡ j)
      one-cases j h = grind (arith, has-one, at_least-cases, not_below-self, one-raised)

      -- what waits has the colour, so the one that has not does not wait
      one-absent : IsTidy to m → ¬ (Among key m.waiting)
      one-absent tidy n = true≢false (sym (tidy.risen key n) ∙ lower-less m.objects key low)

      one-looked : (j : ℕ) → is_looked_into to risen_one j ≡ is_looked_into to m j
      one-looked j = grind (arith, has-append, eqb-true, lower-less, one-more, true≢false, eq-eqb, one-cases)

      one-tidy : IsTidy to m → IsTidy to risen_one
      one-tidy tidy = record {
        risen = λ j n. ⊎_elim
            (λ was. one-more j (tidy.risen j was))
            (λ new. ⊎_elim (λ s. subst (λ z. IsTrue (has_at_least to risen_one.objects z)) s one-here) (λ x. absurd x) new)
            (Among-append j m.waiting (key ∷ []) n);
        once = λ j. each j (j == key) refl;
      }
        where
          each : (j : ℕ) (b : Bool) → (j == key) ≡ b → count_by (λ i. j == i) (m.waiting ++ key ∷ []) ≤ 1
          each j true e =
              let same : j ≡ key = eqb-true j key e in
              let none : count_by (λ i. j == i) m.waiting ≡ 0 = count_by-none (λ i. j == i) m.waiting
              (λ i n. apart i (λ s. one-absent tidy (subst (λ z. Among z m.waiting) (sym s ∙ same) n))) in
              let one : ◌≡◌ {A = ℕ} (cond (j == key) 1 0) 1 = ap (λ b. cond b 1 0) e in
              omega (arith, count_by-append (λ i. j == i) m.waiting (key ∷ []), count_by-cons (λ i. j == i) key [], none, one)
            where
              apart : (i : ℕ) → ¬ (j ≡ i) → (j == i) ≡ false
              apart i differ = go (j == i) refl
                where
                  go : (b : Bool) → (j == i) ≡ b → b ≡ false
                  go true f = absurd (differ (eqb-true j i f))
                  go false f = refl
          each j false e =
              let none : ◌≡◌ {A = ℕ} (cond (j == key) 1 0) 0 = ap (λ b. cond b 1 0) e in
              omega (arith, count_by-append (λ i. j == i) m.waiting (key ∷ []), count_by-cons (λ i. j == i) key [], none, tidy.once j)

    -- one started, that has the property
    pub further-one : P key → IsFurther P m next
    further-one p = go (is_lower to (object_at m.objects key)) refl
      where
        go : (b : Bool) → is_lower to (object_at m.objects key) ≡ b → IsFurther P m next
        go true low = subst (IsFurther P m) (sym (raise_key-lower to key m low)) (record {
          keys = key ∷ [];
          raised = one-raised low;
          looked = one-looked low;
          tidy = one-tidy low;
          have = λ h j a. ⊎_elim (h j) (λ s. subst P s p) (one-cases low j a);
        })
        go false enough = subst (IsFurther P m) (sym (raise_key-enough to key m enough)) (further-none P m)

    -- has the colour
    pub started-here : IsTrue (is_there m.objects key) → IsTrue (has_at_least to next.objects key)
    started-here there = grind (arith, raise_key-lower, one-here, raise_key-enough, enough-at_least)

  -- Roots

  pub further-roots : (P : ℕ → Type 0) (keys : List ℕ) (m : Marking) → ((key : ℕ) → Among key keys → P key) → IsFurther P m (with_all_started to keys m)
  further-roots P [] m p = further-none P m
  further-roots P (key ∷ keys) m p =
      further-then P m (raise_key to key m) (with_all_started to keys (raise_key to key m))
      (further-one P key m (p key (inl refl))) (further-roots P keys (raise_key to key m) (λ k n. p k (inr n)))

  pub roots-here : (keys : List ℕ) (m : Marking) → ((key : ℕ) → Among key keys → IsTrue (is_there m.objects key)) →
      (key : ℕ) → Among key keys → IsTrue (has_at_least to (with_all_started to keys m).objects key)
  roots-here [] m there key n = absurd n
  roots-here (k ∷ ks) m there key n =
      let one : IsFurther (λ z. Unit {0}) m (raise_key to k m) = further-one (λ z. Unit {0}) k m tt in
      let rest : IsFurther (λ z. Unit {0}) (raise_key to k m) (with_all_started to ks (raise_key to k m)) = further-roots (λ z. Unit {0}) ks (raise_key to k m) (λ z o. tt) in
      ⊎_elim
      (λ s. subst (λ z. IsTrue (has_at_least to (with_all_started to ks (raise_key to k m)).objects z)) s
      (further-more (λ z. Unit {0}) (raise_key to k m) (with_all_started to ks (raise_key to k m)) rest k (started-here (λ z. Unit {0}) k m (there k (inl refl)))))
      (λ t. roots-here ks (raise_key to k m) (λ j o. further-there (λ z. Unit {0}) m (raise_key to k m) one j ∙ there j (inr o)) key t)
      n

  -- Slots

  pub further-slots : (P : ℕ → Type 0) (xs : List (Option ℕ)) (m : Marking) → ((key : ℕ) → Among (Some key) xs → P key) → IsFurther P m (raise_each to xs m)
  further-slots P [] m p = further-none P m
  further-slots P (None ∷ xs) m p = further-slots P xs m (λ k n. p k (inr n))
  further-slots P (Some key ∷ xs) m p =
      further-then P m (raise_key to key m) (raise_each to xs (raise_key to key m))
      (further-one P key m (p key (inl refl))) (further-slots P xs (raise_key to key m) (λ k n. p k (inr n)))

  pub slots-here : (xs : List (Option ℕ)) (m : Marking) → ((key : ℕ) → Among (Some key) xs → IsTrue (is_there m.objects key)) →
      (key : ℕ) → Among (Some key) xs → IsTrue (has_at_least to (raise_each to xs m).objects key)
  slots-here [] m there key n = absurd n
  slots-here (None ∷ xs) m there key n = slots-here xs m (λ k o. there k (inr o)) key (⊎_elim (λ e. absurd (cc)) (λ t. t) n)
  slots-here (Some k ∷ xs) m there key n =
      let one : IsFurther (λ z. Unit {0}) m (raise_key to k m) = further-one (λ z. Unit {0}) k m tt in
      let rest : IsFurther (λ z. Unit {0}) (raise_key to k m) (raise_each to xs (raise_key to k m)) = further-slots (λ z. Unit {0}) xs (raise_key to k m) (λ z o. tt) in
      ⊎_elim
      (λ e. let s : k ≡ key = cc in
      subst (λ z. IsTrue (has_at_least to (raise_each to xs (raise_key to k m)).objects z)) s
      (further-more (λ z. Unit {0}) (raise_key to k m) (raise_each to xs (raise_key to k m)) rest k (started-here (λ z. Unit {0}) k m (there k (inl refl)))))
      (λ t. slots-here xs (raise_key to k m) (λ j o. further-there (λ z. Unit {0}) m (raise_key to k m) one j ∙ there j (inr o)) key t)
      n

  -- What entries give

  module _ (P : ℕ → Type 0) (es : List KeyedEntry) (joined : (j : Joint) → Among j (joints es) → P j.the_map → P j.key → P j.value) where
    pub further-joint : (j : Joint) (m : Marking) → Among j (joints es) → AllHave P m → IsFurther P m (with_joint to j m)
    further-joint j m among h = go (has_at_least to m.objects j.the_map && has_at_least to m.objects j.key) refl
      where
        go : (b : Bool) → (has_at_least to m.objects j.the_map && has_at_least to m.objects j.key) ≡ b → IsFurther P m (elim b [ true ↦ raise_key to j.value m | false ↦ m ])
        go true both =
            let each = and_parts (has_at_least to m.objects j.the_map) (has_at_least to m.objects j.key) both in
            further-one P j.value m (joined j among (h j.the_map each.0) (h j.key each.1))
        go false none = further-none P m

    pub further-joints : (js : List Joint) (m : Marking) → ((j : Joint) → Among j js → Among j (joints es)) → AllHave P m → IsFurther P m (with_joints to js m)
    further-joints [] m among h = further-none P m
    further-joints (j ∷ js) m among h =
        let one = further-joint j m (among j (inl refl)) h in
        further-then P m (with_joint to j m) (with_joints to js (with_joint to j m)) one (further-joints js (with_joint to j m) (λ i n. among i (inr n)) (one.have h))

    pub further-value : (e : KeyedEntry) (m : Marking) → Among e es → AllHave P m → IsFurther P m (with_given to e m)
    further-value e m among h = further-joints (joints_of e) m (λ j n. entry-joint es e j among n) h

    pub further-value_of : (object : ℕ) (o : Option KeyedEntry) (m : Marking) → ((e : KeyedEntry) → o ≡ Some e → Among e es) → AllHave P m → IsFurther P m (with_given_of to object o m)
    further-value_of object None m among h = further-none P m
    further-value_of object (Some e) m among h = go (has_object object e)
      where
        go : (b : Bool) → IsFurther P m (elim b [ true ↦ with_given to e m | false ↦ m ])
        go true = further-value e m (among e refl) h
        go false = further-none P m

    pub further-values : (all : List KeyedEntry) → ((e : KeyedEntry) → Among e all → Among e es) → (object n : ℕ) (m : Marking) → AllHave P m → IsFurther P m (with_all_given to all object n m)
    further-values all part object zero m h = further-none P m
    further-values all part object (suc n) m h =
        let one = further-value_of object (slice_get all n) m (λ e at. part e (place-member e n at)) h in
        further-then P m (with_given_of to object (slice_get all n) m) (with_all_given to all object (suc n) m)
        one (further-values all part object n (with_given_of to object (slice_get all n) m) (one.have h))
      where
        place-member : (e : KeyedEntry) (place : ℕ) → slice_get all place ≡ Some e → Among e all
        place-member e place at = place-among e all place at

  -- a joint of which the first two were looked into gives the third the colour
  looked-at_least : (m : Marking) (key : ℕ) → IsTrue (is_looked_into to m key) → IsTrue (has_at_least to m.objects key)
  looked-at_least m key h = (and_parts (has_at_least to m.objects key) (not (has ◌==◌ m.waiting key)) h).0

  -- whatever they are
  abbrev Any : ℕ → Type 0
  Any key = Unit {0}

  joint-here : (j : Joint) (m : Marking) → IsTrue (is_there m.objects j.value) → IsTrue (is_looked_into to m j.the_map) → IsTrue (is_looked_into to m j.key) →
      IsTrue (has_at_least to (with_joint to j m).objects j.value)
  joint-here j m there the_map key =
      let both : (has_at_least to m.objects j.the_map && has_at_least to m.objects j.key) ≡ true =
      and_from (has_at_least to m.objects j.the_map) (has_at_least to m.objects j.key) (looked-at_least m j.the_map the_map) (looked-at_least m j.key key) in
      subst (λ (z : Marking). IsTrue (has_at_least to z.objects j.value))
      (sym (ap (λ (b : Bool). elim b [ true ↦ raise_key to j.value m | false ↦ m ]) both))
      (started-here (λ z. Unit {0}) j.value m there)

  any-joint : (j : Joint) (m : Marking) → IsFurther Any m (with_joint to j m)
  any-joint j m = go (has_at_least to m.objects j.the_map && has_at_least to m.objects j.key)
    where
      go : (b : Bool) → IsFurther Any m (elim b [ true ↦ raise_key to j.value m | false ↦ m ])
      go true = further-one Any j.value m tt
      go false = further-none Any m

  any-joints : (js : List Joint) (m : Marking) → IsFurther Any m (with_joints to js m)
  any-joints [] m = further-none Any m
  any-joints (j ∷ js) m = further-then Any m (with_joint to j m) (with_joints to js (with_joint to j m)) (any-joint j m) (any-joints js (with_joint to j m))

  -- so does one of many
  pub joints-here : (js : List Joint) (m : Marking) (j : Joint) → Among j js → IsTrue (is_there m.objects j.value) → IsTrue (is_looked_into to m j.the_map) → IsTrue (is_looked_into to m j.key) →
      IsTrue (has_at_least to (with_joints to js m).objects j.value)
  joints-here [] m j n there the_map key = absurd n
  joints-here (i ∷ js) m j n there the_map key = ⊎_elim
      (λ is.
      subst (λ (z : Joint). IsTrue (has_at_least to (with_joints to js (with_joint to i m)).objects z.value)) is
      (further-more Any (with_joint to i m) (with_joints to js (with_joint to i m)) (any-joints js (with_joint to i m)) i.value
      (joint-here i m (subst (λ (z : Joint). IsTrue (is_there m.objects z.value)) (sym is) there) (subst (λ (z : Joint). IsTrue (is_looked_into to m z.the_map)) (sym is) the_map)
      (subst (λ (z : Joint). IsTrue (is_looked_into to m z.key)) (sym is) key))))
      (λ t.
      let one = any-joint i m in
      joints-here js (with_joint to i m) j t (further-there Any m (with_joint to i m) one j.value ∙ there) (one.looked j.the_map ∙ the_map) (one.looked j.key ∙ key))
      n

  any-value_of : (es : List KeyedEntry) (object n : ℕ) (m : Marking) → IsFurther Any m (with_given_of to object (slice_get es n) m)
  any-value_of es object n m = further-value_of Any es (λ e among a b. tt) object (slice_get es n) m (λ e at. place-among e es n at) (λ key h. tt)

  any-values : (es : List KeyedEntry) (object n : ℕ) (m : Marking) → IsFurther Any m (with_all_given to es object n m)
  any-values es object n m = further-values Any es (λ e among a b. tt) es (λ e among. among) object n m (λ key h. tt)

  pub values-here : (es : List KeyedEntry) (object n : ℕ) (m : Marking) (i : ℕ) (e : KeyedEntry) (j : Joint) → Among j (joints_of e) → i < n → slice_get es i ≡ Some e → has_object object e ≡ true →
      IsTrue (is_there m.objects j.value) → IsTrue (is_looked_into to m j.the_map) → IsTrue (is_looked_into to m j.key) →
      IsTrue (has_at_least to (with_all_given to es object n m).objects j.value)
  values-here es object zero m i e j among below at has there the_map key = absurd (omega (arith, below))
  values-here es object (suc n) m i e j among below at has there the_map key = ⊎_elim
      (λ t. here t.1)
      (λ t.
      let other : ¬ (i ≡ n) = t.1 in
      values-here es object n after i e j among (omega (arith, below, other)) at has
      (further-there Any m after one j.value ∙ there)
      (one.looked j.the_map ∙ the_map)
      (one.looked j.key ∙ key))
      (eqb_tells i n)
    where
      after : Marking
      after = with_given_of to object (slice_get es n) m

      one : IsFurther Any m after
      one = any-value_of es object n m

      here : i ≡ n → IsTrue (has_at_least to (with_all_given to es object n after).objects j.value)
      here same =
          let at_n : slice_get es n ≡ Some e = subst (λ z. slice_get es z ≡ Some e) same at in
          let valued : after ≡ with_given to e m = ap (λ o. with_given_of to object o m) at_n ∙ ap (λ (b : Bool). elim b [ true ↦ with_given to e m | false ↦ m ]) has in
          further-more Any after (with_all_given to es object n after) (any-values es object n after) j.value
          (subst (λ (z : Marking). IsTrue (has_at_least to z.objects j.value)) (sym valued) (joints-here (joints_of e) m j among there the_map key))

  -- The first of those that wait leaves

  module _ (m : Marking) (key : ℕ) (rest : List ℕ) (front : m.waiting ≡ key ∷ rest) (tidy : IsTidy to m) where
    abbrev pub left : Marking
    left = record { objects = m.objects; waiting = rest }

    front-at_least : IsTrue (has_at_least to m.objects key)
    front-at_least = tidy.risen key (subst (Among key) (sym front) (inl refl))

    counted : (j : ℕ) → cond (j == key) 1 0 + count_by (λ i. j == i) rest ≤ 1
    counted j =
        let all : count_by (λ i. j == i) (key ∷ rest) ≤ 1 = subst (λ ks. count_by (λ i. j == i) ks ≤ 1) front (tidy.once j) in
        omega (arith, all, count_by-cons (λ i. j == i) key rest)

    pub left-tidy : IsTidy to left
    left-tidy = record {
      risen = λ j n. tidy.risen j (subst (Among j) (sym front) (inr n));
      once = λ j. let c = counted j in omega (arith, c);
    }

    pub front-waits : is_looked_into to m key ≡ false
    front-waits = grind (arith, has-there, number-exact)

    -- it alone is looked into then
    pub left-looked : (j : ℕ) → is_looked_into to left j ≡ (is_looked_into to m j || key == j)
    left-looked j = go (key == j) refl
      where
        none : has ◌==◌ rest key ≡ false
        none = go (has ◌==◌ rest key) refl
          where
            go : (b : Bool) → has ◌==◌ rest key ≡ b → b ≡ false
            go false e = refl
            go true e =
                let some : ¬ (count_by (λ i. key == i) rest ≤ 0) = λ few. true≢false (sym (eq-eqb key key refl) ∙ count_by-none_passes (λ i. key == i) rest key few (has-among ◌==◌ number-exact rest key e)) in
                let one : ◌≡◌ {A = ℕ} (cond (key == key) 1 0) 1 = ap (λ b. cond b 1 0) (eq-eqb key key refl) in
                let c = counted key in
                absurd (some (omega (arith, one, c)))

        right : (b : Bool) → true ≡ (b || true)
        right true = refl
        right false = refl

        same : (b : Bool) → b ≡ (b || false)
        same true = refl
        same false = refl

        go : (b : Bool) → (key == j) ≡ b → is_looked_into to left j ≡ (is_looked_into to m j || b)
        go true e =
            let it : key ≡ j = eqb-true key j e in
            subst (λ z. is_looked_into to left z ≡ true) it
            (ap (λ b. b && not (has ◌==◌ rest key)) front-at_least ∙ ap not none)
            ∙ right (is_looked_into to m j)
        go false e =
            let waits : has ◌==◌ m.waiting j ≡ has ◌==◌ rest j = ap (λ ks. has ◌==◌ ks j) front ∙ ap (λ b. b || has ◌==◌ rest j) e in
            ap (λ b. has_at_least to m.objects j && not b) (sym waits) ∙ same (is_looked_into to m j)
