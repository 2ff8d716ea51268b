-- THE ENTRIES OF A MAP BY PLACES: from the last one on, and the one behind that of a key.
use Rattle.std.proofs.Common.{◌≡◌, ℕ, zero, suc, ◌==◌, Bool, true, false, ◌&&◌, ◌||◌, [], List, ◌∷◌, map, Option, Some, None, option_map, refl, sym, ◌∙◌, ap}
use Rattle.std.specs.Prelude.{slice_get}
use Rattle.std.proofs.lemmas.Bool.{true≢false}
use Rattle.cc_lists.specs.Walks.{first_of}
use Rattle.cc_weakmaps.specs.Entries.{KeyedEntry, is_entry_of}
use Rattle.cc_weakmaps.specs.Index.{IsPlaceOf, has_object, is_it, place_below}
use Rattle.cc_weakmaps.proofs.Below.{entry-has, other-key, other-map}
use Rattle.cc_host.specs.Walks.{IsEntryPlace, behind_entry, entries_below, entries_from, entry_behind, is_entry_at}

-- the first of mapped ones
pub first_of-map : {X Y : Type 0} (f : X → Y) (xs : List X) → first_of (map f xs) ≡ option_map f (first_of xs)
first_of-map f [] = refl
first_of-map f (x ∷ xs) = refl

-- an entry that has not the object has not the map
map-lacks : (m : ℕ) (e : KeyedEntry) → has_object m e ≡ false → (e.the_map == m) ≡ false
map-lacks m e h = go (e.the_map == m) (e.key == m) (is_it m e.delegate) h
  where
    go : (b c d : Bool) → (b || c) || d ≡ false → b ≡ false
    go true c d f = absurd (true≢false f)
    go false c d f = refl

module _ (es : List KeyedEntry) where
  -- Places of an object

  module _ (j n : ℕ) where
    place-none : slice_get es n ≡ None → place_below es j (suc n) ≡ place_below es j n
    place-none e = ap (λ x. elim (option_map (has_object j) x) [ None ↦ place_below es j n | Some b ↦ elim b [ true ↦ Some n | false ↦ place_below es j n ] ]) e

    place-is : (e : KeyedEntry) → slice_get es n ≡ Some e → (b : Bool) → has_object j e ≡ b → place_below es j (suc n) ≡ elim b [ true ↦ Some n | false ↦ place_below es j n ]
    place-is e s b h =
        ap (λ x. elim (option_map (has_object j) x) [ None ↦ place_below es j n | Some b ↦ elim b [ true ↦ Some n | false ↦ place_below es j n ] ]) s
        ∙ ap (λ b. elim b [ true ↦ Some n | false ↦ place_below es j n ]) h

  module _ (m : ℕ) where
    -- One place more

    module _ (n : ℕ) where
      at-none : slice_get es n ≡ None → entries_below es m (suc n) ≡ entries_below es m n
      at-none s = ap (λ x. elim x [ None ↦ entries_below es m n | Some e ↦ elim (e.the_map == m) [ true ↦ e ∷ entries_below es m n | false ↦ entries_below es m n ] ]) s

      at-entry : (e : KeyedEntry) → slice_get es n ≡ Some e → (b : Bool) → (e.the_map == m) ≡ b → entries_below es m (suc n) ≡ elim b [ true ↦ e ∷ entries_below es m n | false ↦ entries_below es m n ]
      at-entry e s b h =
          ap (λ x. elim x [ None ↦ entries_below es m n | Some e ↦ elim (e.the_map == m) [ true ↦ e ∷ entries_below es m n | false ↦ entries_below es m n ] ]) s
          ∙ ap (λ b. elim b [ true ↦ e ∷ entries_below es m n | false ↦ entries_below es m n ]) h

      -- one of the map stands in front of those below,
      pub from-mine : (e : KeyedEntry) → slice_get es n ≡ Some e → (e.the_map == m) ≡ true → entries_from es m (Some n) ≡ e ∷ entries_below es m n
      from-mine e s h = at-entry e s true h

      -- another one does not
      pub from-other : (e : KeyedEntry) → slice_get es n ≡ Some e → (e.the_map == m) ≡ false → entries_from es m (Some n) ≡ entries_below es m n
      from-other e s h = at-entry e s false h

    -- THE LAST PLACE OF THE MAP has all entries below another
    pub below-last_place : (n : ℕ) → entries_below es m n ≡ entries_from es m (place_below es m n)
    below-last_place zero = refl
    below-last_place (suc n) = go (below-last_place n) (slice_get es n) refl
      where
        more : entries_below es m n ≡ entries_from es m (place_below es m n) → (e : KeyedEntry) → slice_get es n ≡ Some e → (b : Bool) → has_object m e ≡ b →
            entries_below es m (suc n) ≡ entries_from es m (place_below es m (suc n))
        more below e s true h = ap (entries_from es m) (sym (place-is m n e s true h))
        more below e s false h = from-other n e s (map-lacks m e h) ∙ (below ∙ ap (entries_from es m) (sym (place-is m n e s false h)))

        go : entries_below es m n ≡ entries_from es m (place_below es m n) → (x : Option KeyedEntry) → slice_get es n ≡ x →
            entries_below es m (suc n) ≡ entries_from es m (place_below es m (suc n))
        go below None s = at-none n s ∙ (below ∙ ap (entries_from es m) (sym (place-none m n s)))
        go below (Some e) s = more below e s (has_object m e) refl

    -- Behind the entry of a key

    module _ (k : ℕ) where
      -- another entry is passed over,
      pub behind-other : (n : ℕ) (e : KeyedEntry) → slice_get es n ≡ Some e → is_entry_of m k e ≡ false →
          entry_behind k (entries_from es m (Some n)) ≡ entry_behind k (entries_below es m n)
      behind-other n e s h = go (e.the_map == m) (e.key == k) refl refl h
        where
          go : (b c : Bool) → (e.the_map == m) ≡ b → (e.key == k) ≡ c → (b && c) ≡ false → entry_behind k (entries_from es m (Some n)) ≡ entry_behind k (entries_below es m n)
          go true true p q f = absurd (true≢false f)
          go true false p q f =
              ap (entry_behind k) (from-mine n e s p)
              ∙ ap (λ t. elim t [ true ↦ first_of (entries_below es m n) | false ↦ entry_behind k (entries_below es m n) ]) q
          go false c p q f = ap (entry_behind k) (from-other n e s p)

      -- and at its own stands what is below.
      pub behind-own : (n : ℕ) (e : KeyedEntry) → slice_get es n ≡ Some e → is_entry_of m k e ≡ true →
          entry_behind k (entries_from es m (Some n)) ≡ first_of (entries_below es m n)
      behind-own n e s h = go (e.the_map == m) (e.key == k) refl refl h
        where
          go : (b c : Bool) → (e.the_map == m) ≡ b → (e.key == k) ≡ c → (b && c) ≡ true → entry_behind k (entries_from es m (Some n)) ≡ first_of (entries_below es m n)
          go false c p q f = absurd (true≢false (sym f))
          go true false p q f = absurd (true≢false (sym f))
          go true true p q f =
              ap (entry_behind k) (from-mine n e s p)
              ∙ ap (λ t. elim t [ true ↦ first_of (entries_below es m n) | false ↦ entry_behind k (entries_below es m n) ]) q

      -- Entries without an object that the one that is looked for has are passed over
      module _ (j : ℕ) (lacks : (e : KeyedEntry) → has_object j e ≡ false → is_entry_of m k e ≡ false) where
        passed-to : (n : ℕ) → entry_behind k (entries_below es m n) ≡ entry_behind k (entries_from es m (place_below es j n))
        passed-to zero = refl
        passed-to (suc n) = go (passed-to n) (slice_get es n) refl
          where
            more : entry_behind k (entries_below es m n) ≡ entry_behind k (entries_from es m (place_below es j n)) → (e : KeyedEntry) → slice_get es n ≡ Some e →
                (b : Bool) → has_object j e ≡ b → entry_behind k (entries_below es m (suc n)) ≡ entry_behind k (entries_from es m (place_below es j (suc n)))
            more below e s true h = ap (λ p. entry_behind k (entries_from es m p)) (sym (place-is j n e s true h))
            more below e s false h =
                behind-other n e s (lacks e h) ∙ (below ∙ ap (λ p. entry_behind k (entries_from es m p)) (sym (place-is j n e s false h)))

            go : entry_behind k (entries_below es m n) ≡ entry_behind k (entries_from es m (place_below es j n)) → (x : Option KeyedEntry) → slice_get es n ≡ x →
                entry_behind k (entries_below es m (suc n)) ≡ entry_behind k (entries_from es m (place_below es j (suc n)))
            go below None s = ap (entry_behind k) (at-none n s) ∙ (below ∙ ap (λ p. entry_behind k (entries_from es m p)) (sym (place-none j n s)))
            go below (Some e) s = more below e s (has_object j e) refl

      -- of the map, and of the key
      pub passed-map : (n : ℕ) → entry_behind k (entries_below es m n) ≡ entry_behind k (entries_from es m (place_below es m n))
      passed-map = passed-to m (other-map m k)

      pub passed-key : (n : ℕ) → entry_behind k (entries_below es m n) ≡ entry_behind k (entries_from es m (place_below es k n))
      passed-key = passed-to k (other-key m k)

      -- WHERE THE ENTRY IS FOUND
      pub found-place : (n : ℕ) → is_entry_at es m k n ≡ true → behind_entry es m k ≡ entry_behind k (entries_from es m (Some n)) → IsEntryPlace es m k n
      found-place n h same = go (slice_get es n) refl h
        where
          go : (x : Option KeyedEntry) → slice_get es n ≡ x → elim x [ None ↦ false | Some e ↦ is_entry_of m k e ] ≡ true → IsEntryPlace es m k n
          go None s f = absurd (true≢false (sym f))
          go (Some e) s f = record {
            there = ap (option_map (has_object m)) s ∙ ap Some (entry-has m k e f).0;
            behind = same ∙ behind-own n e s f;
          }

      -- and where it is not
      pub other-place : (n : ℕ) (j : ℕ) → IsPlaceOf es j n → is_entry_at es m k n ≡ false →
          entry_behind k (entries_from es m (Some n)) ≡ entry_behind k (entries_below es m n)
      other-place n j placed h = go (slice_get es n) refl h placed
        where
          go : (x : Option KeyedEntry) → slice_get es n ≡ x → elim x [ None ↦ false | Some e ↦ is_entry_of m k e ] ≡ false → option_map (has_object j) x ≡ Some true →
              entry_behind k (entries_from es m (Some n)) ≡ entry_behind k (entries_below es m n)
          go None s f p = absurd (cc)
          go (Some e) s f p = behind-other n e s f
