-- The tables go on having the place of each name: where one is added, taken out or moved, and where places without names go.
use Rattle.std.specs.Prelude.{not}
use Rattle.std.proofs.Common.{◌≡◌, ◌≢◌, ℕ, ◌+◌, ◌-◌, ◌<◌, ◌≤◌, true, false, [], ◌∷◌, ◌++◌, length, set, take, Option, Some, None, refl, sym, ◌∙◌, ap, subst, inl, inr, ◌⊎◌, ⊎_elim, arith, is_some, length-append, length-set, if◌then◌else◌}
use Rattle.std.proofs.lemmas.Bool.{cases_Bool, cases_lt, true≢false}
use Rattle.std.proofs.lemmas.Bool.Decides.{eqb_tells}
use Rattle.std.proofs.lemmas.List.{get_or_append_left, get_or_past, get_or_push, take-set-le, take_more_set}
use Rattle.cc_names.specs.declared.name.Name.{Name}
use Rattle.cc_names.specs.Names.{same_name}
use Rattle.cc_names.proofs.NameTests.{same_name-exact, same_name-true, same_name-refl}
use Rattle.cc_lists.specs.Members.{Among, has, without}
use Rattle.cc_lists.proofs.CountsOf.{false-left}
use Rattle.cc_lists.proofs.Filtering.{filter-each}
use Rattle.cc_lists.proofs.Members.{has-there, has-among}
use Rattle.cc_model.specs.Slots.{Slots, contents}
use Rattle.cc_model.proofs.Places.{contents-last}
use Rattle.cc_pages.specs.declared.by_name.ByName.{ByName}
use Rattle.cc_pages.specs.ByName.{place_of}
use Rattle.cc_listed.specs.Found.{slot_at, AreFound, AreListed}
use Rattle.cc_listed.proofs.Standing.{among-stands, contents-emptied, contents-few, length-emptied, slot-front, slot-set_other, slot-set_same, stands-among, stands-within}

-- Names and numbers told apart

same-or-other : (x y : Name) → (x ≡ y) ⊎ (x ≢ y)
same-or-other x y = ⊎_elim
    (λ t. inl (same_name-true x y t))
    (λ f. inr (λ e. true≢false (sym ((same_name-exact x y).1 e) ∙ f)))
    (cases_Bool (same_name x y))

at-or-beside : (i j : ℕ) → (i ≡ j) ⊎ (i ≢ j)
at-or-beside i j = ⊎_elim (λ t. inl t.1) (λ f. inr f.1) (eqb_tells i j)

-- What the tables have once one name has another place, or none

abbrev pub IsPut : ByName → ByName → Name → Option ℕ → Type 0
IsPut t s x o = (y : Name) → place_of s y ≡ (if same_name x y then o else place_of t y)

put-same : (t s : ByName) (x : Name) (o : Option ℕ) → IsPut t s x o → place_of s x ≡ o
put-same t s x o put = let on : same_name x x ≡ true = same_name-refl x in put x ∙ rw on refl

put-other : (t s : ByName) (x : Name) (o : Option ℕ) → IsPut t s x o → (y : Name) → x ≢ y → place_of s y ≡ place_of t y
put-other t s x o put y other =
    let off : same_name x y ≡ false = false-left (same_name x y) (λ e. other (same_name-true x y e)) in
    put y ∙ rw off refl

-- A name stands at no two places, and no two names at one

pub found-once : (xs : Slots) (t : ByName) (i k : ℕ) (x : Name) → AreFound xs t → slot_at xs i ≡ Some x → slot_at xs k ≡ Some x → k ≡ i
found-once xs t i k x f a b = let p = f.here i x a in let q = f.here k x b in cc

-- A name has a place exactly where it is there

pub found-has : (xs : Slots) (t : ByName) (x : Name) → AreFound xs t → is_some (place_of t x) ≡ has same_name (contents xs) x
found-has xs t x f = go (place_of t x) refl
  where
    go : (o : Option ℕ) → place_of t x ≡ o → is_some o ≡ has same_name (contents xs) x
    go (Some i) e = sym (has-there same_name same_name-exact (contents xs) x (stands-among xs i x (f.there i x e)))
    go None e = sym (false-left (has same_name (contents xs) x) (λ h.
        let k = among-stands xs x (has-among same_name same_name-exact (contents xs) x h) in
        let p = f.here k.0 x k.1 in
        absurd (cc)))

-- The same names at the same places

pub found-alike : (xs ys : Slots) (t s : ByName) → AreFound xs t → ((k : ℕ) → slot_at ys k ≡ slot_at xs k) → ((y : Name) → place_of s y ≡ place_of t y) → AreFound ys s
found-alike xs ys t s f slots places = record {
  here = λ i x e. places x ∙ f.here i x (sym (slots i) ∙ e);
  there = λ i x e. slots i ∙ f.there i x (sym (places x) ∙ e);
}

-- places from which on there is none are given back
pub found-front : (n : ℕ) (xs : Slots) (t : ByName) → AreFound xs t → ((k : ℕ) → n ≤ k → k < length xs → slot_at xs k ≡ None) → AreFound (take n xs) t
found-front n xs t f none = found-alike xs (take n xs) t t f (slot-front n xs none) (λ y. refl)

-- A name that was not there comes last

pub found-added : (xs : Slots) (t s : ByName) (x : Name) → AreFound xs t → has same_name (contents xs) x ≡ false → IsPut t s x (Some (length xs)) →
    AreFound (xs ++ Some x ∷ []) s
found-added xs t s x f new put = record {
  here = λ i y e. ⊎_elim (before i y e) (λ late. ⊎_elim (last i y e) (λ past. absurd (beyond i y e late past)) (at-or-beside i (length xs))) (cases_lt i (length xs));
  there = λ i y e. ⊎_elim
      (λ same.
      let here : place_of s y ≡ Some (length xs) = ap (place_of s) (sym same) ∙ put-same t s x _ put in
      let last : length xs ≡ i = cc in
      get_or_push xs (Some x) None i last ∙ ap Some same)
      (λ other.
      let there = f.there i y (sym (put-other t s x _ put y other) ∙ e) in
      get_or_append_left xs (Some x ∷ []) None i (stands-within xs i y there) ∙ there)
      (same-or-other x y);
}
  where
    absent : (i : ℕ) (y : Name) → slot_at xs i ≡ Some y → x ≢ y
    absent i y e same = true≢false (sym (has-there same_name same_name-exact (contents xs) x (subst (λ z. Among z (contents xs)) (sym same) (stands-among xs i y e))) ∙ new)

    before : (i : ℕ) (y : Name) → slot_at (xs ++ Some x ∷ []) i ≡ Some y → i < length xs → place_of s y ≡ Some i
    before i y e l =
        let there : slot_at xs i ≡ Some y = sym (get_or_append_left xs (Some x ∷ []) None i l) ∙ e in
        put-other t s x _ put y (absent i y there) ∙ f.here i y there

    last : (i : ℕ) (y : Name) → slot_at (xs ++ Some x ∷ []) i ≡ Some y → i ≡ length xs → place_of s y ≡ Some i
    last i y e l =
        let there = get_or_push xs (Some x) None i (sym l) in
        let same : x ≡ y = cc in
        ap (place_of s) (sym same) ∙ (put-same t s x _ put ∙ ap Some (sym l))

    beyond : (i : ℕ) (y : Name) → slot_at (xs ++ Some x ∷ []) i ≡ Some y → length xs ≤ i → i ≢ length xs → ⊥
    beyond i y e l other =
        let past : length (xs ++ Some x ∷ []) ≤ i = omega (arith, length-append xs (Some x ∷ [])) in
        let none = get_or_past (xs ++ Some x ∷ []) i None past in
        cc

-- A name is taken out

pub found-removed : (xs : Slots) (t s : ByName) (i : ℕ) (x : Name) → AreFound xs t → slot_at xs i ≡ Some x → IsPut t s x None → AreFound (set xs i None) s
found-removed xs t s i x f at put = record {
  here = λ k y e. ⊎_elim
      (λ same. absurd (emptied k y e same))
      (λ beside.
      let there : slot_at xs k ≡ Some y = sym (slot-set_other xs i None k beside) ∙ e in
      put-other t s x _ put y (λ same. beside (found-once xs t i k x f at (there ∙ ap Some (sym same)))) ∙ f.here k y there)
      (at-or-beside k i);
  there = λ k y e. ⊎_elim
      (λ same. let none : place_of s y ≡ None = ap (place_of s) (sym same) ∙ put-same t s x _ put in absurd (cc))
      (λ other.
      let there : slot_at xs k ≡ Some y = f.there k y (sym (put-other t s x _ put y other) ∙ e) in
      slot-set_other xs i None k (λ same. let both : slot_at xs k ≡ Some x = ap (slot_at xs) same ∙ at in other (cc)) ∙ there)
      (same-or-other x y);
}
  where
    emptied : (k : ℕ) (y : Name) → slot_at (set xs i None) k ≡ Some y → k ≡ i → ⊥
    emptied k y e same =
        let none : slot_at (set xs i None) k ≡ None = ap (slot_at (set xs i None)) same ∙ slot-set_same xs i None (stands-within xs i x at) in
        cc

-- A name moves to a place from which on there was none before it

module _ (xs : Slots) (from to : ℕ) (x : Name) (at : slot_at xs from ≡ Some x) (order : to ≤ from) (none : (k : ℕ) → to ≤ k → k < from → slot_at xs k ≡ None) where
  pub moved-here : slot_at (set (set xs from None) to (Some x)) to ≡ Some x
  moved-here =
      let within : from < length xs = stands-within xs from x at in
      let inside : to < length (set xs from None) = omega (arith, length-set xs from None) in
      slot-set_same (set xs from None) to (Some x) inside

  pub moved-away : (k : ℕ) → k ≢ to → k ≡ from → slot_at (set (set xs from None) to (Some x)) k ≡ None
  moved-away k beside same =
      slot-set_other (set xs from None) to (Some x) k beside
      ∙ (ap (slot_at (set xs from None)) same ∙ slot-set_same xs from None (stands-within xs from x at))

  pub moved-beside : (k : ℕ) → k ≢ to → k ≢ from → slot_at (set (set xs from None) to (Some x)) k ≡ slot_at xs k
  moved-beside k other beside = slot-set_other (set xs from None) to (Some x) k other ∙ slot-set_other xs from None k beside

  -- from there on to where it stood there is none behind it
  pub moved-empty : (k : ℕ) → to < k → k ≤ from → slot_at (set (set xs from None) to (Some x)) k ≡ None
  moved-empty k behind within = ⊎_elim
      (λ same. moved-away k (λ e. omega arith) same)
      (λ beside. moved-beside k (λ e. omega arith) beside ∙ none k (omega arith) (omega arith))
      (at-or-beside k from)

  -- the places up to its own
  pub moved-front : take (to + 1) (set (set xs from None) to (Some x)) ≡ take to xs ++ Some x ∷ []
  moved-front =
      let within : from < length xs = stands-within xs from x at in
      let inside : to < length (set xs from None) = omega (arith, length-set xs from None) in
      take_more_set (set xs from None) to (Some x) inside ∙ ap (λ ys. ys ++ Some x ∷ []) (take-set-le to xs from None order)

  pub found-moved : (t s : ByName) → AreFound xs t → IsPut t s x (Some to) → AreFound (set (set xs from None) to (Some x)) s
  found-moved t s f put = record {
    here = λ k y e. ⊎_elim (λ same. arrived k y e same) (λ other. ⊎_elim (λ same. absurd (left k y e other same)) (λ beside. stayed k y e other beside) (at-or-beside k from)) (at-or-beside k to);
    there = λ k y e. ⊎_elim
        (λ same.
        let here : place_of s y ≡ Some to = ap (place_of s) (sym same) ∙ put-same t s x _ put in
        let arrived : k ≡ to = cc in
        ap (slot_at (set (set xs from None) to (Some x))) arrived ∙ (moved-here ∙ ap Some same))
        (λ other. kept k y other (f.there k y (sym (put-other t s x _ put y other) ∙ e)))
        (same-or-other x y);
  }
    where
      arrived : (k : ℕ) (y : Name) → slot_at (set (set xs from None) to (Some x)) k ≡ Some y → k ≡ to → place_of s y ≡ Some k
      arrived k y e same =
          let there : slot_at (set (set xs from None) to (Some x)) k ≡ Some x = ap (slot_at (set (set xs from None) to (Some x))) same ∙ moved-here in
          let it : x ≡ y = cc in
          ap (place_of s) (sym it) ∙ (put-same t s x _ put ∙ ap Some (sym same))

      left : (k : ℕ) (y : Name) → slot_at (set (set xs from None) to (Some x)) k ≡ Some y → k ≢ to → k ≡ from → ⊥
      left k y e other same = let gone = moved-away k other same in cc

      stayed : (k : ℕ) (y : Name) → slot_at (set (set xs from None) to (Some x)) k ≡ Some y → k ≢ to → k ≢ from → place_of s y ≡ Some k
      stayed k y e other beside =
          let there : slot_at xs k ≡ Some y = sym (moved-beside k other beside) ∙ e in
          put-other t s x _ put y (λ same. beside (found-once xs t from k x f at (there ∙ ap Some (sym same)))) ∙ f.here k y there

      kept : (k : ℕ) (y : Name) → x ≢ y → slot_at xs k ≡ Some y → slot_at (set (set xs from None) to (Some x)) k ≡ Some y
      kept k y other there =
          let beside : k ≢ from = λ same. let both : slot_at xs k ≡ Some x = ap (slot_at xs) same ∙ at in other (cc) in
          let away : k ≢ to = λ same. ⊎_elim
          (λ stays. beside (same ∙ stays))
          (λ moves. let empty : slot_at xs k ≡ None = ap (slot_at xs) same ∙ none to (omega arith) (omega arith) in absurd (cc))
          (at-or-beside to from) in
          moved-beside k away beside ∙ there

-- THE LIST: what it has, with the tables and the count

-- the same names at the same places
pub listed-alike : (xs ys : Slots) (t s : ByName) (n : ℕ) → AreListed xs t n → ys ≡ xs → ((y : Name) → place_of s y ≡ place_of t y) → AreListed ys s n
listed-alike xs ys t s n l same places = record {
  found = found-alike xs ys t s l.found (λ k. ap (λ zs. slot_at zs k) same) places;
  counted = l.counted ∙ ap (λ zs. length (contents zs)) (sym same);
}

-- a name that was not there comes last
pub listed-added : (xs ys : Slots) (t s : ByName) (x : Name) (place n : ℕ) → AreListed xs t n → has same_name (contents xs) x ≡ false →
    place ≡ length xs → IsPut t s x (Some place) → ys ≡ xs ++ Some x ∷ [] → AreListed ys s (n + 1)
listed-added xs ys t s x place n l new last put same =
    subst (λ zs. AreListed zs s (n + 1)) (sym same) (record {
      found = found-added xs t s x l.found new (subst (λ p. IsPut t s x (Some p)) last put);
      counted = let more = contents-last xs (Some x) in
          let longer = length-append (contents xs) (x ∷ []) in
          let before = l.counted in
          let after : length (contents (xs ++ Some x ∷ [])) ≡ length (contents xs ++ x ∷ []) = ap length more in
          omega arith;
    })

-- a name is taken out
pub listed-removed : (xs : Slots) (t s : ByName) (x : Name) (i n : ℕ) → AreListed xs t n → place_of t x ≡ Some i → IsPut t s x None → AreListed (set xs i None) s (n - 1)
listed-removed xs t s x i n l at put = record {
  found = found-removed xs t s i x l.found (l.found.there i x at) put;
  counted = omega (arith, l.counted, length-emptied xs i x (l.found.there i x at));
}

-- it is there, and one of those that are counted
pub listed-within : (xs : Slots) (t : ByName) (x : Name) (i n : ℕ) → AreListed xs t n → place_of t x ≡ Some i → i < length xs
listed-within xs t x i n l at = stands-within xs i x (l.found.there i x at)

pub listed-some : (xs : Slots) (t : ByName) (x : Name) (i n : ℕ) → AreListed xs t n → place_of t x ≡ Some i → 1 ≤ n
listed-some xs t x i n l at = omega (arith, l.counted, length-emptied xs i x (l.found.there i x at))

-- what is left
pub listed-left : (xs : Slots) (t : ByName) (x : Name) (i n : ℕ) → AreListed xs t n → place_of t x ≡ Some i → contents (set xs i None) ≡ without same_name x (contents xs)
listed-left xs t x i n l at = contents-emptied xs i x (l.found.there i x at) (λ k e. found-once xs t i k x l.found (l.found.there i x at) e)

pub listed-absent : (xs : Slots) (t : ByName) (x : Name) (n : ℕ) → AreListed xs t n → place_of t x ≡ None → contents xs ≡ without same_name x (contents xs)
listed-absent xs t x n l none = sym (filter-each (λ y. not (same_name y x)) (contents xs) (λ y m.
    let k = among-stands xs y m in
    ap not (false-left (same_name y x) (λ e.
    let same : y ≡ x = same_name-true y x e in
    let place : place_of t x ≡ Some k.0 = ap (place_of t) (sym same) ∙ l.found.here k.0 y k.1 in
    cc))))

-- there are no more names than places
pub listed-few : (xs : Slots) (t : ByName) (n : ℕ) → AreListed xs t n → n ≤ length xs
listed-few xs t n l = omega (arith, l.counted, contents-few xs)
