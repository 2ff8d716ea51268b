-- The entry of a map and a key is looked for on both chains at once.
use Rattle.std.proofs.Common.{◌≡◌, ℕ, ◌+◌, ◌<◌, ◌≤◌, zero, suc, Bool, true, false, List, [], ◌∷◌, length, get_or, count_by, Option, Some, None, refl, sym, ◌∙◌, ap, subst, arith, not, ⊎_elim, is_some}
use Rattle.std.specs.Prelude.{filter, remove, nat_lt, IfSome}
use Rattle.std.proofs.lemmas.Bool.{true≢false, cases_Bool, ltb-true, ltb-false}
use Rattle.std.proofs.lemmas.Bool.Decides.{eqb_tells}
use Rattle.std.proofs.lemmas.Option.{slice_get-get_or}
use Rattle.cc_lists.proofs.Counting.{count_by-cons}
use Rattle.cc_weakmaps.specs.Entries.{KeyedEntry, HasOneEach, is_entry_of, has_value_in, value_in, without_entry}
use Rattle.cc_weakmaps.specs.Index.{has_object, IsPlaceOf, place_below}
use Rattle.cc_weakmaps.specs.Places.{StandsAt}
use Rattle.cc_weakmaps.proofs.Below.{below-last, below-none, other-map, other-key}

-- an element that passes is counted
counted-there : {X : Type 0} (p : X → Bool) (xs : List X) (i : ℕ) (d : X) → i < length xs → p (get_or xs i d) ≡ true → 1 ≤ count_by p xs
counted-there p [] i d within passes = absurd (omega (arith, within))
counted-there p (x ∷ xs) zero d within passes = let here : count_by p (x ∷ xs) ≡ 1 + count_by p xs = rw (count_by-cons p x xs, passes) refl in omega (arith, here)
counted-there p (x ∷ xs) (suc i) d within passes =
    let rest : 1 ≤ count_by p xs = counted-there p xs i d (omega (arith, within)) passes in
    omega (arith, rest, count_by-cons p x xs)

-- where there is at most one, the entry stands where it is found
stands-counted : (es : List KeyedEntry) (m k place : ℕ) (d : KeyedEntry) → count_by (is_entry_of m k) es ≤ 1 → place < length es → is_entry_of m k (get_or es place d) ≡ true → StandsAt es m k place
stands-counted [] m k place d once within at = absurd (omega (arith, within))
stands-counted (e ∷ es) m k zero d once within at = at
stands-counted (e ∷ es) m k (suc place) d once within at =
    go (λ o. stands-counted es m k place d o (omega (arith, within)) at) (counted-there (is_entry_of m k) es place d (omega (arith, within)) at) (is_entry_of m k e) refl
  where
    go : (count_by (is_entry_of m k) es ≤ 1 → StandsAt es m k place) → 1 ≤ count_by (is_entry_of m k) es → (b : Bool) → is_entry_of m k e ≡ b → StandsAt (e ∷ es) m k (suc place)
    go ih more true is = let both : count_by (is_entry_of m k) (e ∷ es) ≡ 1 + count_by (is_entry_of m k) es = rw (count_by-cons (is_entry_of m k) e es, is) refl in absurd (omega (arith, both, once, more))
    go ih more false is = let rest : count_by (is_entry_of m k) (e ∷ es) ≡ 0 + count_by (is_entry_of m k) es = rw (count_by-cons (is_entry_of m k) e es, is) refl in (is, ih (omega (arith, rest, once)))

pub stands-one : (es : List KeyedEntry) (m k place : ℕ) (d : KeyedEntry) → HasOneEach es → place < length es → is_entry_of m k (get_or es place d) ≡ true → StandsAt es m k place
stands-one es m k place d h within at = stands-counted es m k place d (h.at_most m k) within at

-- where it is found nowhere, the key has no value in the map
pub none-found : (es : List KeyedEntry) (m k : ℕ) → ((i : ℕ) (d : KeyedEntry) → i < length es → is_entry_of m k (get_or es i d) ≡ false) → has_value_in es m k ≡ false
none-found [] m k h = refl
none-found (e ∷ es) m k h = go (none-found es m k (λ i d l. h (suc i) d (omega (arith, l)))) (is_entry_of m k e) (h zero e (omega arith))
  where
    go : has_value_in es m k ≡ false → (b : Bool) → b ≡ false → is_some (elim b [ true ↦ Some e.value | false ↦ value_in es m k ]) ≡ false
    go ih true f = absurd (true≢false f)
    go ih false f = ih

-- The search

-- no entry from a place on is the one that is looked for
abbrev pub IsPast : List KeyedEntry → ℕ → ℕ → ℕ → Type 0
IsPast es m k n = (i : ℕ) (d : KeyedEntry) → n ≤ i → i < length es → is_entry_of m k (get_or es i d) ≡ false

-- of an object whose entries are gone over, the next place, and how far they are
pub record IsFollowed (es : List KeyedEntry) (m k object : ℕ) (next : Option ℕ) : Type 0 where
  pub end : ℕ
  pub within : end ≤ length es
  pub place : next ≡ place_below es object end
  pub past : IsPast es m k end

pub followed-start : (es : List KeyedEntry) (m k object : ℕ) (next : Option ℕ) → next ≡ place_below es object (length es) → IsFollowed es m k object next
followed-start es m k object next e = record { end = length es; within = omega arith; place = e; past = λ i d from l. absurd (omega (arith, from, l)) }

module _ (es : List KeyedEntry) (m k object : ℕ) (lacks : (e : KeyedEntry) → has_object object e ≡ false → is_entry_of m k e ≡ false) where
  -- another entry at the next place
  pub followed-next : (place : ℕ) (next : Option ℕ) (d : KeyedEntry) → IsFollowed es m k object (Some place) → is_entry_of m k (get_or es place d) ≡ false →
      next ≡ place_below es object place → IsFollowed es m k object next
  followed-next place next d h other e =
      let last = below-last es object h.end place (sym h.place) in
      record {
        end = place;
        within = omega (arith, last.below, h.within);
        place = e;
        past = λ i f from l. ⊎_elim
            (λ t. let same : i ≡ place = t.1 in subst (λ z. is_entry_of m k (get_or es z f) ≡ false) (sym same)
            (subst (λ x. is_entry_of m k x ≡ false) (one _ _ (sym (slice_get-get_or es place d (omega (arith, same, l))) ∙ slice_get-get_or es place f (omega (arith, same, l)))) other))
            (λ t. let apart : ¬ (i ≡ place) = t.1 in ⊎_elim
            (λ b. let below : i < h.end = ltb-true i h.end b in lacks (get_or es i f) (last.last i f (omega (arith, from, apart)) below l))
            (λ b. let past : h.end ≤ i = ltb-false i h.end b in h.past i f past l)
            (cases_Bool (nat_lt i h.end)))
            (eqb_tells i place);
      }
    where
      one : (x y : KeyedEntry) → Some x ≡ Some y → x ≡ y
      one x y q = cc

  -- no next place
  pub followed-none : IsFollowed es m k object None → (i : ℕ) (d : KeyedEntry) → i < length es → is_entry_of m k (get_or es i d) ≡ false
  followed-none h i d l = grind (arith, ltb-true, below-none, ltb-false, cases_Bool, h.past)

-- Both chains

pub record IsSought (es : List KeyedEntry) (m k : ℕ) (of_map of_key : Option ℕ) : Type 0 where
  pub by_map : IsFollowed es m k m of_map
  pub by_key : IsFollowed es m k k of_key

pub sought-next : (es : List KeyedEntry) (m k i j : ℕ) (of_map of_key : Option ℕ) (d e : KeyedEntry) → IsSought es m k (Some i) (Some j) →
    is_entry_of m k (get_or es i d) ≡ false → is_entry_of m k (get_or es j e) ≡ false → of_map ≡ place_below es m i → of_key ≡ place_below es k j → IsSought es m k of_map of_key
sought-next es m k i j of_map of_key d e h one other first second = search (followed-next, other-map, other-key)

pub sought-no_map : (es : List KeyedEntry) (m k : ℕ) (of_key : Option ℕ) → IsSought es m k None of_key → has_value_in es m k ≡ false
sought-no_map es m k of_key h = none-found es m k (followed-none es m k m (other-map m k) h.by_map)

pub sought-no_key : (es : List KeyedEntry) (m k : ℕ) (of_map : Option ℕ) → IsSought es m k of_map None → has_value_in es m k ≡ false
sought-no_key es m k of_map h = none-found es m k (followed-none es m k k (other-key m k) h.by_key)

pub sought-both : (es : List KeyedEntry) (m k i j : ℕ) (of_map of_key : Option ℕ) → of_map ≡ Some i → of_key ≡ Some j → IsSought es m k of_map of_key → IsSought es m k (Some i) (Some j)
sought-both es m k i j of_map of_key one other h = subst (λ o. IsSought es m k o (Some j)) one (subst (IsSought es m k of_map) other h)

-- the next places are places of the map and of the key
pub sought-places : (es : List KeyedEntry) (m k i j : ℕ) → IsSought es m k (Some i) (Some j) → IsPlaceOf es m i × IsPlaceOf es k j
sought-places es m k i j h = ((below-last es m h.by_map.end i (sym h.by_map.place)).there, (below-last es k h.by_key.end j (sym h.by_key.place)).there)

-- An entry is taken out

-- where none passes, the others are all
filter-none : (p : KeyedEntry → Bool) (es : List KeyedEntry) → count_by p es ≤ 0 → filter (λ e. not (p e)) es ≡ es
filter-none p [] h = refl
filter-none p (e ∷ es) h = grind (arith, count_by-cons, filter-none p es)

without-counted : (es : List KeyedEntry) (m k place : ℕ) → count_by (is_entry_of m k) es ≤ 1 → StandsAt es m k place → without_entry es m k ≡ remove es place
without-counted [] m k place once s = absurd s
without-counted (e ∷ es) m k zero once s =
    let here : count_by (is_entry_of m k) (e ∷ es) ≡ 1 + count_by (is_entry_of m k) es = rw (count_by-cons (is_entry_of m k) e es, s) refl in
    rw (s) (filter-none (is_entry_of m k) es (omega (arith, here, once)))
without-counted (e ∷ es) m k (suc place) once s =
    let here : count_by (is_entry_of m k) (e ∷ es) ≡ 0 + count_by (is_entry_of m k) es = rw (count_by-cons (is_entry_of m k) e es, s.0) refl in
    rw (s.0) (ap (λ xs. e ∷ xs) (without-counted es m k place (omega (arith, here, once)) s.1))

pub without-removed : (es : List KeyedEntry) (m k place : ℕ) → HasOneEach es → StandsAt es m k place → without_entry es m k ≡ remove es place
without-removed es m k place h s = without-counted es m k place (h.at_most m k) s

pub without-absent : (es : List KeyedEntry) (m k : ℕ) → has_value_in es m k ≡ false → without_entry es m k ≡ es
without-absent [] m k h = refl
without-absent (e ∷ es) m k h = grind (arith, true≢false, without-absent es m k)

-- How many places a chain can still have

abbrev pub places_left : Option ℕ → ℕ
places_left o = elim o [ None ↦ 0 | Some place ↦ suc place ]

pub left-smaller : (next : Option ℕ) (place : ℕ) → IfSome next (λ i. i < place) → places_left next < places_left (Some place)
left-smaller next place h = grind arith
