-- ONE OBJECT RAISED: what stays as it is, and what of the walk is spent.
use Rattle.cc_lists.proofs.ListWrites.{changed_where-either}
use Rattle.cc_lists.proofs.Held.{is_some-map, of-one}
use Rattle.std.proofs.Common.{◌≡◌, ℕ, ◌+◌, ◌<◌, ◌≤◌, Bool, true, false, List, [], ◌∷◌, ◌++◌, map, length, get_or, drop, drop-cons, add-one, Option, Some, None, option_map, option_and_then, is_some, refl, sym, ◌∙◌, ap, subst, arith, count_by, ⊎_elim, inr, ◌==◌}
use Rattle.std.proofs.lemmas.List.{length_push}
use Rattle.std.proofs.lemmas.Bool.{true≢false, false≢true, cases_Bool}
use Rattle.cc_lists.specs.Members.{Among}
use Rattle.cc_lists.proofs.Members.{Among-append}
use Rattle.cc_lists.proofs.Counting.{count_by-map}
use Rattle.cc_lists.proofs.Filtering.{count_by-wider}
use Rattle.cc_names.specs.declared.kind.Colour.{Colour}
use Rattle.cc_script.specs.Objects.{Object, object_at, is_there, delegate_at, places_at, places_of, places_or_none, slots_at, change_object, is_below, raised}
use Rattle.cc_script.specs.Marking.{Marking, is_lower, raise_key, raise_slot, raise_each, count_lower, to_do, AreRaised}
use Rattle.cc_script.proofs.Keys.{object_at-among, object_at-key, object_at-map, changed_at, changed_at-key, changed_at-same}
use Rattle.cc_script.proofs.PlacesOf.{places-read, places-same}
use Rattle.cc_script.proofs.Colours.{raised-key, raised-slots, raised-delegate, raised-enough, raised-keeps}

-- a change that keeps keys keeps what is there,
pub is_there-kept : (g : Object → Object) → ((o : Object) → (g o).key ≡ o.key) → (objects : List Object) (q : ℕ) → is_there (map g objects) q ≡ is_there objects q
is_there-kept g keeps_key objects q = ap is_some (object_at-map g keeps_key objects q) ∙ is_some-map g (object_at objects q)

-- and one that keeps slots, delegates or places too keeps those that stand there
module _ (g : Object → Object) (keeps_key : (o : Object) → (g o).key ≡ o.key) (keeps_places : (o : Object) → places_of (g o) ≡ places_of o) (objects : List Object) (q : ℕ) where
  pub places_at-kept : places_at (map g objects) q ≡ places_at objects q
  places_at-kept = ap places_or_none (object_at-map g keeps_key objects q) ∙ go (object_at objects q)
    where
      go : (o : Option Object) → places_or_none (option_map g o) ≡ places_or_none o
      go None = refl
      go (Some o) = keeps_places o

module _ (g : Object → Object) (keeps_key : (o : Object) → (g o).key ≡ o.key) (keeps_delegate : (o : Object) → (g o).delegate ≡ o.delegate) (objects : List Object) (q : ℕ) where
  pub delegate_at-kept : delegate_at (map g objects) q ≡ delegate_at objects q
  delegate_at-kept = ap (option_and_then (λ (o : Object). o.delegate)) (object_at-map g keeps_key objects q) ∙ go (object_at objects q)
    where
      go : (o : Option Object) → option_and_then (λ (z : Object). z.delegate) (option_map g o) ≡ option_and_then (λ (z : Object). z.delegate) o
      go None = refl
      go (Some o) = keeps_delegate o

module _ (g : Object → Object) (keeps_key : (o : Object) → (g o).key ≡ o.key) (keeps_slots : (o : Object) → (g o).slots ≡ o.slots) (objects : List Object) (q : ℕ) where
  pub slots_at-kept : slots_at (map g objects) q ≡ slots_at objects q
  slots_at-kept = grind (arith, object_at-map)

-- The two cases

pub raise_key-lower : (to : Colour) (key : ℕ) (m : Marking) → is_lower to (object_at m.objects key) ≡ true →
    raise_key to key m ≡ record { objects = change_object m.objects key (raised to); waiting = m.waiting ++ key ∷ [] }
raise_key-lower to key m e = rw (e, raise_key) refl

pub raise_key-enough : (to : Colour) (key : ℕ) (m : Marking) → is_lower to (object_at m.objects key) ≡ false → raise_key to key m ≡ m
raise_key-enough to key m e = rw (e, raise_key) refl

pub raise_key-cases : (to : Colour) (key : ℕ) (m : Marking) (P : Marking → Type 0) →
    (is_lower to (object_at m.objects key) ≡ true → P (record { objects = change_object m.objects key (raised to); waiting = m.waiting ++ key ∷ [] })) →
    (is_lower to (object_at m.objects key) ≡ false → P m) → P (raise_key to key m)
raise_key-cases to key m P lower enough = grind (arith, raise_key-lower, raise_key-enough, cases_Bool)

-- what is lower is there
pub lower-some : (to : Colour) (o : Option Object) → is_lower to o ≡ true → (x : Object) × (o ≡ Some x) × (is_below x.colour to ≡ true)
lower-some to o e = grind (arith, false≢true)

-- What stays

module _ (to : Colour) (key : ℕ) where
  abbrev one_raised : Object → Object
  one_raised = changed_at key (raised to)

  one_raised-key : (o : Object) → (one_raised o).key ≡ o.key
  one_raised-key = changed_at-key key (raised to) (raised-key to)

  pub one_raised-slots : (o : Object) → (one_raised o).slots ≡ o.slots
  one_raised-slots o = changed_where-either (λ z. z.slots ≡ o.slots) (λ z. z.key == key) (raised to) o (λ e. raised-slots to o) refl

  pub one_raised-delegate : (o : Object) → (one_raised o).delegate ≡ o.delegate
  one_raised-delegate o = changed_where-either (λ z. z.delegate ≡ o.delegate) (λ z. z.key == key) (raised to) o (λ e. raised-delegate to o) refl

  pub one_raised-places : (o : Object) → places_of (one_raised o) ≡ places_of o
  one_raised-places o = places-same (one_raised o) o (one_raised-slots o) (one_raised-delegate o)

  pub raise_key-there : (m : Marking) (q : ℕ) → is_there (raise_key to key m).objects q ≡ is_there m.objects q
  raise_key-there m q = raise_key-cases to key m (λ z. is_there z.objects q ≡ is_there m.objects q) (λ e. is_there-kept one_raised one_raised-key m.objects q) (λ e. refl)

  pub raise_key-slots : (m : Marking) (q : ℕ) → slots_at (raise_key to key m).objects q ≡ slots_at m.objects q
  raise_key-slots m q = raise_key-cases to key m (λ z. slots_at z.objects q ≡ slots_at m.objects q) (λ e. slots_at-kept one_raised one_raised-key one_raised-slots m.objects q) (λ e. refl)

  pub raise_key-delegate : (m : Marking) (q : ℕ) → delegate_at (raise_key to key m).objects q ≡ delegate_at m.objects q
  raise_key-delegate m q = raise_key-cases to key m (λ z. delegate_at z.objects q ≡ delegate_at m.objects q) (λ e. delegate_at-kept one_raised one_raised-key one_raised-delegate m.objects q) (λ e. refl)

  -- one object less is lower then
  abbrev lower : Object → Bool
  lower o = is_below o.colour to

  pub fewer-lower : (objects : List Object) → is_lower to (object_at objects key) ≡ true → count_lower to (change_object objects key (raised to)) < count_lower to objects
  fewer-lower objects e =
      let f = lower-some to (object_at objects key) e in
      let here : lower (one_raised f.0) ≡ false = ap lower (changed_at-same key (raised to) f.0 (object_at-key objects key f.0 f.1)) ∙ raised-enough to f.0 in
      let less : count_by (λ o. lower (one_raised o)) objects < count_by lower objects = count_by-wider (λ o. lower (one_raised o)) lower objects f.0 was (object_at-among objects key f.0 f.1) here f.2 in
      let same : count_lower to (change_object objects key (raised to)) ≡ count_by (λ o. lower (one_raised o)) objects = count_by-map lower one_raised objects in
      omega arith
    where
      stays : (o : Object) → lower o ≡ false → lower (one_raised o) ≡ false
      stays o e = changed_where-either (λ z. lower z ≡ false) (λ z. z.key == key) (raised to) o (λ k. raised-keeps to o to e) e

      was : (o : Object) → lower (one_raised o) ≡ true → lower o ≡ true
      was o h = ⊎_elim (λ k. k) (λ k. absurd (true≢false (sym h ∙ stays o k))) (cases_Bool (lower o))

pub raise_slot-there : (to : Colour) (x : Option ℕ) (m : Marking) (q : ℕ) → is_there (raise_slot to x m).objects q ≡ is_there m.objects q
raise_slot-there to x m q = grind (arith, raise_key-there)

pub raise_slot-slots : (to : Colour) (x : Option ℕ) (m : Marking) (q : ℕ) → slots_at (raise_slot to x m).objects q ≡ slots_at m.objects q
raise_slot-slots to x m q = grind (arith, raise_key-slots)

-- so of many
pub raise_each-there : (to : Colour) (xs : List (Option ℕ)) (m : Marking) (q : ℕ) → is_there (raise_each to xs m).objects q ≡ is_there m.objects q
raise_each-there to [] m q = refl
raise_each-there to (x ∷ xs) m q = raise_each-there to xs (raise_slot to x m) q ∙ raise_slot-there to x m q

pub raise_each-delegate : (to : Colour) (xs : List (Option ℕ)) (m : Marking) (q : ℕ) → delegate_at (raise_each to xs m).objects q ≡ delegate_at m.objects q
raise_each-delegate to [] m q = refl
raise_each-delegate to (None ∷ xs) m q = raise_each-delegate to xs m q
raise_each-delegate to (Some key ∷ xs) m q = raise_each-delegate to xs (raise_key to key m) q ∙ raise_key-delegate to key m q

-- one after others
pub raise_each-append : (to : Colour) (xs ys : List (Option ℕ)) (m : Marking) → raise_each to (xs ++ ys) m ≡ raise_each to ys (raise_each to xs m)
raise_each-append to [] ys m = refl
raise_each-append to (x ∷ xs) ys m = raise_each-append to xs ys (raise_slot to x m)

-- the places of an object: its slots, and its delegate then
pub raise_places : (to : Colour) (key : ℕ) (x : Option ℕ) (m : Marking) → is_there m.objects key ≡ true → delegate_at (raise_each to (slots_at m.objects key) m).objects key ≡ x →
    raise_each to (places_at m.objects key) m ≡ raise_slot to x (raise_each to (slots_at m.objects key) m)
raise_places to key x m live is =
    ap (λ xs. raise_each to xs m) (places-read m.objects key live)
    ∙ (raise_each-append to (slots_at m.objects key) (delegate_at m.objects key ∷ []) m
    ∙ ap (λ d. raise_slot to d (raise_each to (slots_at m.objects key) m)) (sym (raise_each-delegate to (slots_at m.objects key) m key) ∙ is))

-- a slot more
pub raise_each-more : (to : Colour) (slots : List (Option ℕ)) (i : ℕ) (m : Marking) → i < length slots →
    raise_each to (drop (i + 1) slots) (raise_slot to (get_or slots i None) m) ≡ raise_each to (drop i slots) m
raise_each-more to slots i m within =
    let first : drop i slots ≡ get_or slots i None ∷ drop (i + 1) slots = drop-cons slots i None within ∙ ap (λ j. get_or slots i None ∷ drop j slots) (sym (add-one i)) in
    sym (ap (λ xs. raise_each to xs m) first)

-- No more is to be done: an object that is raised waits, and is one less that may be raised
pub raise_key-spends : (to : Colour) (key : ℕ) (m : Marking) → to_do to (raise_key to key m) ≤ to_do to m
raise_key-spends to key m = grind (arith, raise_key-cases, fewer-lower, length_push)

pub raise_each-spends : (to : Colour) (xs : List (Option ℕ)) (m : Marking) → to_do to (raise_each to xs m) ≤ to_do to m
raise_each-spends to [] m = omega arith
raise_each-spends to (None ∷ xs) m = raise_each-spends to xs m
raise_each-spends to (Some key ∷ xs) m = omega (arith, raise_each-spends to xs (raise_key to key m), raise_key-spends to key m)

-- What waits was raised

pub raised-none : (to : Colour) (objects : List Object) (waiting : List ℕ) → waiting ≡ [] → AreRaised to (record { objects = objects; waiting = waiting })
raised-none to objects waiting e k n = absurd (subst (Among k) e n)

-- the first leaves,
pub raised-front : (to : Colour) (m : Marking) (key : ℕ) (ks : List ℕ) → m.waiting ≡ key ∷ ks → AreRaised to m → AreRaised to (record { objects = m.objects; waiting = ks })
raised-front to m key ks front h k n = h k (subst (Among k) (sym front) (inr n))

-- and one that is raised comes
pub raise_key-raised : (to : Colour) (key : ℕ) (m : Marking) → AreRaised to m → AreRaised to (raise_key to key m)
raise_key-raised to key m h = raise_key-cases to key m (AreRaised to)
    (λ e k n. ⊎_elim (λ t. stays k (h k t)) (of-one (λ j. is_lower to (object_at after j) ≡ false) key here k) (Among-append k m.waiting (key ∷ []) n))
    (λ e. h)
  where
    after : List Object
    after = change_object m.objects key (raised to)

    found : (k : ℕ) → object_at after k ≡ option_map (one_raised to key) (object_at m.objects k)
    found k = object_at-map (one_raised to key) (one_raised-key to key) m.objects k

    stays : (k : ℕ) → is_lower to (object_at m.objects k) ≡ false → is_lower to (object_at after k) ≡ false
    stays k e = ap (is_lower to) (found k) ∙ each (object_at m.objects k) e
      where
        each : (o : Option Object) → is_lower to o ≡ false → is_lower to (option_map (one_raised to key) o) ≡ false
        each None f = refl
        each (Some o) f = changed_where-either (λ z. is_below z.colour to ≡ false) (λ z. z.key == key) (raised to) o (λ e. raised-enough to o) f

    here : is_lower to (object_at after key) ≡ false
    here = ap (is_lower to) (found key) ∙ each (object_at m.objects key) refl
      where
        each : (o : Option Object) → object_at m.objects key ≡ o → is_lower to (option_map (one_raised to key) o) ≡ false
        each None e = refl
        each (Some o) e = ap (λ (z : Object). is_below z.colour to) (changed_at-same key (raised to) o (object_at-key m.objects key o e)) ∙ raised-enough to o

-- one that is lower does not wait
pub lower-absent : (to : Colour) (key : ℕ) (m : Marking) → AreRaised to m → is_lower to (object_at m.objects key) ≡ true → ¬ (Among key m.waiting)
lower-absent to key m h e n = true≢false (sym e ∙ h key n)
