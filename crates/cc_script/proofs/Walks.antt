-- A WALK RAISES EXACTLY WHAT IS REACHED.
use Rattle.std.proofs.Common.{◌≡◌, ℕ, Bool, true, false, ◌||◌, List, [], ◌∷◌, ◌++◌, Option, Some, None, option_map, refl, sym, ◌∙◌, ap, subst, ⊎_elim, ◌⊎◌, inl, inr, ◌==◌, if◌then◌else◌, arith}
use Rattle.std.proofs.lemmas.Bool.{cases_Bool, ne_eqb, true≢false}
use Rattle.std.proofs.lemmas.Bool.Decides.{eqb_tells}
use Rattle.std.proofs.lemmas.List.{map-id}
use Rattle.std.proofs.lemmas.Simd.{map-map}
use Rattle.cc_lists.specs.Members.{Among, has}
use Rattle.cc_lists.proofs.Members.{Among-append, Among-left, Among-right, has-there, has-among}
use Rattle.cc_lists.proofs.Closure.{closure-decides}
use Rattle.cc_lists.proofs.ListWrites.{map-agree, changed_where-either}
use Rattle.cc_lists.proofs.Numbers.{number-exact}
use Rattle.cc_names.specs.declared.kind.Colour.{Colour}
use Rattle.cc_names.specs.declared.kind.Colour.TheVariants.{White}
use Rattle.cc_script.specs.Objects.{Object, object_at, places_at, places_of, places_or_none, change_object, is_below, raised, raised_among}
use Rattle.cc_script.specs.Walking.{reach_rules, keys_reached, IsReachedOverSlots}
use Rattle.cc_script.specs.ColourOrder.{HasColourOrder}
use Rattle.cc_script.specs.Marking.{Marking, is_lower, raise_key, raise_each}
use Rattle.cc_script.specs.Underway.{with_first_looked_into}
use Rattle.cc_script.proofs.Keys.{object_at-among, object_at-key, object_at-map, changed_at, changed_at-same}
use Rattle.cc_script.proofs.Colours.{not_below-trans, not_below-cases, not_below-white, raised-key, raised-slots, raised-delegate, raised-again, raised-enough, raised-same}
use Rattle.cc_script.proofs.PlacesOf.{places-same}
use Rattle.cc_script.proofs.Reaching.{reached-root, reached-slot, reached-within}
use Rattle.cc_script.proofs.Raising.{places_at-kept, raise_key-cases}

-- Objects raised at some keys

abbrev pub risen : List ℕ → Colour → Object → Object
risen keys to o = if has ◌==◌ keys o.key then raised to o else o

pub risen-key : (keys : List ℕ) (to : Colour) (o : Object) → (risen keys to o).key ≡ o.key
risen-key keys to o = changed_where-either (λ z. z.key ≡ o.key) (λ z. has ◌==◌ keys z.key) (raised to) o (λ e. raised-key to o) refl

pub risen-slots : (keys : List ℕ) (to : Colour) (o : Object) → (risen keys to o).slots ≡ o.slots
risen-slots keys to o = changed_where-either (λ z. z.slots ≡ o.slots) (λ z. has ◌==◌ keys z.key) (raised to) o (λ e. raised-slots to o) refl

pub risen-delegate : (keys : List ℕ) (to : Colour) (o : Object) → (risen keys to o).delegate ≡ o.delegate
risen-delegate keys to o = changed_where-either (λ z. z.delegate ≡ o.delegate) (λ z. has ◌==◌ keys z.key) (raised to) o (λ e. raised-delegate to o) refl

pub risen-places : (keys : List ℕ) (to : Colour) (o : Object) → places_of (risen keys to o) ≡ places_of o
risen-places keys to o = places-same (risen keys to o) o (risen-slots keys to o) (risen-delegate keys to o)

risen-in : (keys : List ℕ) (to : Colour) (o : Object) → has ◌==◌ keys o.key ≡ true → risen keys to o ≡ raised to o
risen-in keys to o e = rw e refl

risen-out : (keys : List ℕ) (to : Colour) (o : Object) → has ◌==◌ keys o.key ≡ false → risen keys to o ≡ o
risen-out keys to o e = rw e refl

-- one more
raised-more : (keys : List ℕ) (to : Colour) (k : ℕ) (objects : List Object) → change_object (raised_among keys to objects) k (raised to) ≡ raised_among (k ∷ keys) to objects
raised-more keys to k objects = map-map (changed_at k (raised to)) (risen keys to) objects ∙ map-agree (λ o. changed_at k (raised to) (risen keys to o)) (risen (k ∷ keys) to) objects (λ o m. each o)
  where
    twice : (o : Object) (b : Bool) → raised to (if b then raised to o else o) ≡ raised to o
    twice o true = raised-again to o
    twice o false = refl

    each : (o : Object) → changed_at k (raised to) (risen keys to o) ≡ risen (k ∷ keys) to o
    each o = ⊎_elim
        (λ t.
        let there : has ◌==◌ (k ∷ keys) o.key ≡ true = ap (λ b. b || has ◌==◌ keys o.key) t.0 in
        changed_at-same k (raised to) (risen keys to o) (risen-key keys to o ∙ sym t.1) ∙ (twice o (has ◌==◌ keys o.key) ∙ sym (risen-in (k ∷ keys) to o there)))
        (λ t.
        let there : has ◌==◌ (k ∷ keys) o.key ≡ has ◌==◌ keys o.key = ap (λ b. b || has ◌==◌ keys o.key) t.0 in
        let other : ((risen keys to o).key == k) ≡ false = ne_eqb (risen keys to o).key k (λ e. t.1 (sym (sym (risen-key keys to o) ∙ e))) in
        ap (λ b. if b then raised to (risen keys to o) else risen keys to o) other ∙ ap (λ b. if b then raised to o else o) (sym there))
        (eqb_tells k o.key)

-- what the slots at a key hold, an object there holds
slot-object : (objects : List Object) (k q : ℕ) → Among (Some q) (places_at objects k) → (o : Object) × (object_at objects k ≡ Some o) × Among (Some q) (places_of o)
slot-object objects k q m = go (object_at objects k) refl m
  where
    go : (a : Option Object) → object_at objects k ≡ a → Among (Some q) (places_or_none a) → (o : Object) × (object_at objects k ≡ Some o) × Among (Some q) (places_of o)
    go None e n = absurd n
    go (Some o) e n = (o, e, n)

module _ (before : List Object) (to : Colour) where
  -- a key that was raised, or that needs no raising
  abbrev pub IsMet : List ℕ → ℕ → Type 0
  IsMet keys q = Among q keys ⊎ (is_lower to (object_at before q) ≡ false)

  pub met-more : (keys more : List ℕ) → ((k : ℕ) → Among k keys → Among k more) → (q : ℕ) → IsMet keys q → IsMet more q
  met-more keys more sub q m = ⊎_elim (λ t. inl (sub q t)) (λ e. inr e) m

  -- what isn't lower then
  met-enough : (keys : List ℕ) (q : ℕ) → is_lower to (object_at (raised_among keys to before) q) ≡ false → IsMet keys q
  met-enough keys q e = grind (arith, object_at-map, risen-key, risen-out, object_at-key, has-among, number-exact)

  -- what is lower then was lower
  lower-before : (keys : List ℕ) (q : ℕ) → is_lower to (object_at (raised_among keys to before) q) ≡ true → is_lower to (object_at before q) ≡ true
  lower-before keys q e = go (object_at before q) (ap (is_lower to) (sym (object_at-map (risen keys to) (risen-key keys to) before q)) ∙ e)
    where
      go : (a : Option Object) → is_lower to (option_map (risen keys to) a) ≡ true → is_lower to a ≡ true
      go None f = f
      go (Some o) f = ⊎_elim
          (λ t. t)
          (λ t. absurd (true≢false (sym f ∙ changed_where-either (λ z. is_below z.colour to ≡ false) (λ z. has ◌==◌ keys z.key) (raised to) o (λ x. raised-enough to o) t)))
          (cases_Bool (is_below o.colour to))

-- WHAT A WALK MAY RAISE: where they are lower, its first object, and what a place of an object that it may raise leads to.
pub record LeadsOn (before : List Object) (to : Colour) (May : ℕ → Type 0) (root : ℕ) : Type 0 where
  pub first : is_lower to (object_at before root) ≡ true → May root
  pub onward : (o : Object) (q : ℕ) → Among o before → Among (Some q) (places_of o) → May o.key → is_lower to (object_at before q) ≡ true → May q

module _ (before : List Object) (to : Colour) (May : ℕ → Type 0) where
  -- THE WALK SO FAR: these keys were raised, each is one that may be, and what the slots of each hold was met, but for those
  -- that wait or are in hand.
  pub record IsMarking (hand : List ℕ) (m : Marking) : Type 0 where
    pub keys : List ℕ
    pub objects : m.objects ≡ raised_among keys to before
    pub allowed : (k : ℕ) → Among k keys → May k
    pub waits : (k : ℕ) → Among k m.waiting → Among k keys
    pub followed : (k q : ℕ) → Among k keys → Among (Some q) (places_at before k) → (Among k hand ⊎ Among k m.waiting) ⊎ IsMet before to keys q

  pub marking-start : IsMarking [] (record { objects = before; waiting = [] })
  marking-start = record {
    keys = [];
    objects = sym (map-id before);
    allowed = λ k m. absurd m;
    waits = λ k m. absurd m;
    followed = λ k q m s. absurd m;
  }

  -- what stands in the list is as it was there
  pub marking-slots : (hand : List ℕ) (m : Marking) → IsMarking hand m → (q : ℕ) → places_at m.objects q ≡ places_at before q
  marking-slots hand m h q = ap (λ os. places_at os q) h.objects ∙ places_at-kept (risen h.keys to) (risen-key h.keys to) (risen-places h.keys to) before q

  -- One object raised

  pub record Raises (hand keys : List ℕ) (q : ℕ) (new : Marking) : Type 0 where
    pub after : IsMarking hand new
    pub met : IsMet before to after.keys q
    pub more : (k : ℕ) → Among k keys → Among k after.keys

  pub raise_key-marks : (hand : List ℕ) (m : Marking) (h : IsMarking hand m) (q : ℕ) → (is_lower to (object_at before q) ≡ true → May q) → Raises hand h.keys q (raise_key to q m)
  raise_key-marks hand m h q may = raise_key-cases to q m (Raises hand h.keys q)
      (λ e. lower (may (lower-before before to h.keys q (ap (λ os. is_lower to (object_at os q)) (sym h.objects) ∙ e))))
      (λ e. record {
        after = h;
        met = met-enough before to h.keys q (ap (λ os. is_lower to (object_at os q)) (sym h.objects) ∙ e);
        more = λ k n. n;
      })
    where
      mine : (j p : ℕ) → Among j (q ∷ h.keys) → Among (Some p) (places_at before j) → (Among j hand ⊎ Among j (m.waiting ++ q ∷ [])) ⊎ IsMet before to (q ∷ h.keys) p
      mine j p w s = ⊎_elim
          (λ e. inl (inr (Among-right j m.waiting (q ∷ []) (inl e))))
          (λ t. ⊎_elim
          (λ x. inl (⊎_elim (λ y. inl y) (λ y. inr (Among-left j m.waiting (q ∷ []) y)) x))
          (λ x. inr (met-more before to h.keys (q ∷ h.keys) (λ k n. inr n) p x))
          (h.followed j p t s)) w

      lower : May q → Raises hand h.keys q (record { objects = change_object m.objects q (raised to); waiting = m.waiting ++ q ∷ [] })
      lower r = record {
        after = record {
          keys = q ∷ h.keys;
          objects = ap (λ os. change_object os q (raised to)) h.objects ∙ raised-more h.keys to q before;
          allowed = λ k n. ⊎_elim (λ s. subst May s r) (λ t. h.allowed k t) n;
          waits = λ k n. ⊎_elim (λ t. inr (h.waits k t)) (λ t. ⊎_elim (λ s. inl s) (λ x. absurd x) t) (Among-append k m.waiting (q ∷ []) n);
          followed = mine;
        };
        met = inl (inl refl);
        more = λ k n. inr n;
      }

  -- and what each of some slots holds
  pub record RaisesEach (hand keys : List ℕ) (xs : List (Option ℕ)) (new : Marking) : Type 0 where
    pub after : IsMarking hand new
    pub met : (q : ℕ) → Among (Some q) xs → IsMet before to after.keys q
    pub more : (k : ℕ) → Among k keys → Among k after.keys

  pub raise_each-marks : (hand : List ℕ) (xs : List (Option ℕ)) (m : Marking) (h : IsMarking hand m) → ((q : ℕ) → Among (Some q) xs → is_lower to (object_at before q) ≡ true → May q) →
      RaisesEach hand h.keys xs (raise_each to xs m)
  raise_each-marks hand [] m h r = record { after = h; met = λ q n. absurd n; more = λ k n. n }
  raise_each-marks hand (None ∷ xs) m h r =
      let s = raise_each-marks hand xs m h (λ q n. r q (inr n)) in
      record { after = s.after; met = λ q n. ⊎_elim (λ e. let bad : None ≡ Some q = e in absurd (cc)) (λ t. s.met q t) n; more = s.more }
  raise_each-marks hand (Some p ∷ xs) m h r =
      let f = raise_key-marks hand m h p (r p (inl refl)) in
      let s = raise_each-marks hand xs (raise_key to p m) f.after (λ q n. r q (inr n)) in
      record {
        after = s.after;
        met = λ q n. ⊎_elim
            (λ e. let same : Some p ≡ Some q = e in let it : p ≡ q = cc in subst (IsMet before to s.after.keys) it (met-more before to f.after.keys s.after.keys s.more p f.met))
            (λ t. s.met q t) n;
        more = λ k n. s.more k (f.more k n);
      }

module _ (before : List Object) (to : Colour) (May : ℕ → Type 0) (root : ℕ) where
  -- THE WALK: the first object was met.
  pub record IsWalk (m : Marking) : Type 0 where
    pub marking : IsMarking before to May [] m
    pub begun : IsMet before to marking.keys root

  pub walk-start : LeadsOn before to May root → IsWalk (raise_key to root (record { objects = before; waiting = [] }))
  walk-start leads =
      let f = raise_key-marks before to May [] (record { objects = before; waiting = [] }) (marking-start before to May) root leads.first in
      record { marking = f.after; begun = f.met }

  -- the first that waits looked into: what its slots hold raised
  module _ (leads : LeadsOn before to May root) (m : Marking) (w : IsWalk m) (key : ℕ) (ks : List ℕ) (front : m.waiting ≡ key ∷ ks) where
    abbrev rest : Marking
    rest = record { objects = m.objects; waiting = ks }

    abbrev taken : IsMarking before to May (key ∷ []) rest
    taken = record {
      keys = w.marking.keys;
      objects = w.marking.objects;
      allowed = w.marking.allowed;
      waits = λ k n. w.marking.waits k (subst (Among k) (sym front) (inr n));
      followed = λ k q n s. ⊎_elim
          (λ t. inl (⊎_elim
          (λ x. absurd x)
          (λ x. ⊎_elim (λ e. inl (inl e)) (λ y. inr y) (subst (Among k) front x)) t))
          (λ t. inr t)
          (w.marking.followed k q n s);
    }

    -- it may be raised, and so may what its slots hold
    walk-allowed : May key
    walk-allowed = w.marking.allowed key (w.marking.waits key (subst (Among key) (sym front) (inl refl)))

    walk-slots : places_at m.objects key ≡ places_at before key
    walk-slots = marking-slots before to May [] m w.marking key

    walk-held : (q : ℕ) → Among (Some q) (places_at m.objects key) → is_lower to (object_at before q) ≡ true → May q
    walk-held q n =
        let f = slot-object before key q (subst (λ xs. Among (Some q) xs) walk-slots n) in
        leads.onward f.0 q (object_at-among before key f.0 f.1) f.2 (subst May (sym (object_at-key before key f.0 f.1)) walk-allowed)

    walk-next : IsWalk (raise_each to (places_at m.objects key) (record { objects = m.objects; waiting = ks }))
    walk-next =
        let s = raise_each-marks before to May (key ∷ []) (places_at m.objects key) rest taken walk-held in
        record {
          marking = record {
            keys = s.after.keys;
            objects = s.after.objects;
            allowed = s.after.allowed;
            waits = s.after.waits;
            followed = λ k q n t. ⊎_elim
                (λ x. ⊎_elim
                (λ y. ⊎_elim
                (λ e. inr (s.met q (subst (λ xs. Among (Some q) xs) (sym walk-slots) (subst (λ j. Among (Some q) (places_at before j)) (sym e) t))))
                (λ z. absurd z) y)
                (λ y. inl (inr y)) x)
                (λ x. inr x)
                (s.after.followed k q n t);
          };
          begun = met-more before to w.marking.keys s.after.keys s.more root w.begun;
        }

  pub walk-looked : LeadsOn before to May root → (m : Marking) → IsWalk m → IsWalk (with_first_looked_into to m)
  walk-looked leads m w = grind (arith, walk-next)

  -- where nothing waits, what a place of a raised object leads to was met
  pub walk-followed : (own : (o : Object) → Among o before → object_at before o.key ≡ Some o) (m : Marking) (w : IsWalk m) → m.waiting ≡ [] →
      (o : Object) (q : ℕ) → Among o before → Among (Some q) (places_of o) → Among o.key w.marking.keys → IsMet before to w.marking.keys q
  walk-followed own m w emptied o q n s there = ⊎_elim
      (λ x. ⊎_elim (λ y. absurd y) (λ y. absurd (subst (Among o.key) emptied y)) x)
      (λ x. x)
      (w.marking.followed o.key q there (subst (λ a. Among (Some q) (places_or_none a)) (sym (own o n)) s))

-- the same keys raised
pub risen-agree : (keys more : List ℕ) (to : Colour) (objects : List Object) → ((o : Object) → Among o objects → has ◌==◌ keys o.key ≡ has ◌==◌ more o.key) →
    raised_among keys to objects ≡ raised_among more to objects
risen-agree keys more to objects same = map-agree (risen keys to) (risen more to) objects (λ o m. ap (λ b. if b then raised to o else o) (same o m))

-- THE END of a walk over ordered colours: where nothing waits, all that is reached was met
abbrev pub Reached : List Object → ℕ → ℕ → Type 0
Reached before root = IsReachedOverSlots before (root ∷ [])

pub reached-leads : (before : List Object) (to : Colour) (root : ℕ) → LeadsOn before to (Reached before root) root
reached-leads before to root = record { first = λ e. reached-root before root; onward = λ o q m s r e. reached-slot before root o q m s r }

module _ (before : List Object) (root : ℕ) (to : Colour) (own : (o : Object) → Among o before → object_at before o.key ≡ Some o) (ordered : HasColourOrder before)
    (m : Marking) (w : IsWalk before to (Reached before root) root m) (emptied : m.waiting ≡ []) where
  abbrev keys : List ℕ
  keys = w.marking.keys

  -- an object that has the colour holds only such
  enough : (o : Object) (q : ℕ) → Among o before → Among (Some q) (places_of o) → is_below o.colour to ≡ false → is_lower to (object_at before q) ≡ false
  enough o q n s e = ⊎_elim
      (λ white. go white (object_at before q))
      (λ above. let f = ordered.held o q n above s in ap (is_lower to) f.1 ∙ not_below-trans f.0.colour o.colour to f.2 e)
      (not_below-cases o.colour to e)
    where
      go : to ≡ White → (a : Option Object) → is_lower to a ≡ false
      go white None = refl
      go white (Some d) = ap (is_below d.colour) white ∙ not_below-white d.colour

  step : (o : Object) (q : ℕ) → Among o before → Among (Some q) (places_of o) → IsMet before to keys o.key → IsMet before to keys q
  step o q n s t = ⊎_elim
      (λ there. walk-followed before to (Reached before root) root own m w emptied o q n s there)
      (λ e. inr (enough o q n s (ap (is_lower to) (sym (own o n)) ∙ e))) t

  met : (k : ℕ) → Reached before root k → IsMet before to keys k
  met = reached-within before root (IsMet before to keys) w.begun step

  reached_keys : (k : ℕ) → (has ◌==◌ (keys_reached before (root ∷ [])) k ≡ true → Reached before root k) × (Reached before root k → has ◌==◌ (keys_reached before (root ∷ [])) k ≡ true)
  reached_keys k = closure-decides ◌==◌ number-exact (reach_rules before (root ∷ [])) k

  each : (o : Object) → Among o before → risen keys to o ≡ risen (keys_reached before (root ∷ [])) to o
  each o n = grind (arith, risen-in, risen-out, true≢false, reached_keys, has-among, number-exact, has-there, raised-same, met, w.marking.allowed)

  pub walk-end : m.objects ≡ raised_among (keys_reached before (root ∷ [])) to before
  walk-end = w.marking.objects ∙ map-agree (risen keys to) (risen (keys_reached before (root ∷ [])) to) before each
