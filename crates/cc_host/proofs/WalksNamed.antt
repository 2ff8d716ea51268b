-- THE ENTRIES OF A MAP BY KEYS ARE THOSE BY NAMES, in the order of a walk.
use Rattle.std.proofs.Common.{◌≡◌, ℕ, zero, suc, ◌==◌, Bool, true, false, [], List, ◌∷◌, ◌++◌, length, map, reverse, Option, Some, None, option_map, refl, sym, ◌∙◌, ap, subst, inl, inr, ⊎_elim, arith}
use Rattle.std.specs.Prelude.{IsTrue, if◌then◌else◌, slice_get}
use Rattle.std.specs.List.{filter}
use Rattle.std.proofs.lemmas.Bool.{eq-eqb, eqb-true}
use Rattle.std.proofs.lemmas.List.{map-append, reverse-append}
use Rattle.std.proofs.lemmas.List.Elements.{filter-append}
use Rattle.std.proofs.lemmas.Simd.{map-map}
use Rattle.cc_lists.specs.Members.{Among}
use Rattle.cc_lists.specs.Walks.{first_of}
use Rattle.cc_lists.proofs.Filtering.{filter-agree}
use Rattle.cc_lists.proofs.Members.{Among-append, Among-filtered}
use Rattle.cc_lists.proofs.Searching.{filter-map}
use Rattle.cc_names.specs.declared.name.Name.{Name}
use Rattle.cc_names.specs.Names.{same_name}
use Rattle.cc_names.proofs.NameTests.{same_name-refl, same_name-true}
use Rattle.cc_model.specs.Entries.{Entry}
use Rattle.cc_script.specs.Objects.{Object, is_there, name_at}
use Rattle.cc_weakmaps.specs.Entries.{KeyedEntry}
use Rattle.cc_weakmaps.specs.Index.{place_below}
use Rattle.cc_heaps.specs.Keyed.{Keyed, IsInOrder, named_entry, the_name_at}
use Rattle.cc_heaps.proofs.EntryNames.{one_name-order}
use Rattle.cc_heaps.proofs.Reaching.{HasOneName, key-named, name_at-found, same-tests, the_name-is, the_name-there}
use Rattle.cc_host.specs.Walks.{IsEntryPlace, behind_entry, behind_key, entries_below, entries_from, entries_of, entry_behind, names_in, pairs_from}
use Rattle.cc_host.proofs.WalksEntries.{below-last_place, first_of-map}

-- Lists from the last on

pub map-reversed : {X Y : Type 0} (f : X → Y) (xs : List X) → reverse (map f xs) ≡ map f (reverse xs)
map-reversed f [] = refl
map-reversed f (x ∷ xs) =
    reverse-append (f x ∷ []) (map f xs)
    ∙ (ap (λ ys. ys ++ f x ∷ []) (map-reversed f xs)
    ∙ (sym (map-append f (reverse xs) (x ∷ [])) ∙ ap (map f) (sym (reverse-append (x ∷ []) xs))))

pub among-reversed : {X : Type 0} (x : X) (xs : List X) → Among x (reverse xs) → Among x xs
among-reversed x [] m = m
among-reversed x (y ∷ ys) m = ⊎_elim
    (λ i. inr (among-reversed x ys i))
    (λ i. ⊎_elim (λ e. inl e) (λ f. absurd f) i)
    (Among-append x (reverse ys) (y ∷ []) (subst (Among x) (reverse-append (y ∷ []) ys) m))

-- By places

module _ (m : ℕ) where
  abbrev pub mine : KeyedEntry → Bool
  mine e = e.the_map == m

  -- one more in front is the last below
  below-more : (e : KeyedEntry) (es : List KeyedEntry) (n : ℕ) → entries_below (e ∷ es) m (suc n) ≡ entries_below es m n ++ filter mine (e ∷ [])
  below-more e es zero = go (mine e)
    where
      go : (b : Bool) → elim b [ true ↦ e ∷ [] | false ↦ [] ] ≡ (if b then e ∷ [] else [])
      go true = refl
      go false = refl
  below-more e es (suc n) = go (slice_get es n) (below-more e es n)
    where
      more : (f : KeyedEntry) (b : Bool) → entries_below (e ∷ es) m (suc n) ≡ entries_below es m n ++ filter mine (e ∷ []) →
          elim b [ true ↦ f ∷ entries_below (e ∷ es) m (suc n) | false ↦ entries_below (e ∷ es) m (suc n) ]
          ≡ elim b [ true ↦ f ∷ entries_below es m n | false ↦ entries_below es m n ] ++ filter mine (e ∷ [])
      more f true below = ap (λ xs. f ∷ xs) below
      more f false below = below

      go : (x : Option KeyedEntry) → entries_below (e ∷ es) m (suc n) ≡ entries_below es m n ++ filter mine (e ∷ []) →
          elim x [ None ↦ entries_below (e ∷ es) m (suc n) | Some f ↦ elim (mine f) [ true ↦ f ∷ entries_below (e ∷ es) m (suc n) | false ↦ entries_below (e ∷ es) m (suc n) ] ]
          ≡ elim x [ None ↦ entries_below es m n | Some f ↦ elim (mine f) [ true ↦ f ∷ entries_below es m n | false ↦ entries_below es m n ] ] ++ filter mine (e ∷ [])
      go None below = below
      go (Some f) below = more f (mine f) below

  -- all places give the list from the last on
  pub below-all : (es : List KeyedEntry) → entries_below es m (length es) ≡ filter mine (reverse es)
  below-all [] = refl
  below-all (e ∷ es) =
      below-more e es (length es)
      ∙ (ap (λ xs. xs ++ filter mine (e ∷ [])) (below-all es)
      ∙ sym (ap (filter mine) (reverse-append (e ∷ []) es) ∙ filter-append mine (reverse es) (e ∷ [])))

-- By names

-- two keys are one where their names are
same-key : (objects : List Object) → HasOneName objects → (a b : ℕ) → IsTrue (is_there objects a) → IsTrue (is_there objects b) →
    same_name (the_name_at objects a) (the_name_at objects b) ≡ (a == b)
same-key objects one_name a b s t = grind (arith, same-tests, name_at-found, the_name-there, same_name-true, eq-eqb, key-named, eqb-true, same_name-refl)

-- the entry behind that of a key, by its name
behind-named : (objects : List Object) (k : ℕ) (y : Name) (es : List KeyedEntry) → ((e : KeyedEntry) → Among e es → same_name (the_name_at objects e.key) y ≡ (e.key == k)) →
    behind_key y (map (names_in objects) es) ≡ option_map (names_in objects) (entry_behind k es)
behind-named objects k y [] same = refl
behind-named objects k y (e ∷ es) same =
    ap (λ b. elim b [ true ↦ first_of (map (names_in objects) es) | false ↦ behind_key y (map (names_in objects) es) ]) (same e (inl refl))
    ∙ go (e.key == k) (behind-named objects k y es (λ f i. same f (inr i)))
  where
    go : (b : Bool) → behind_key y (map (names_in objects) es) ≡ option_map (names_in objects) (entry_behind k es) →
        elim b [ true ↦ first_of (map (names_in objects) es) | false ↦ behind_key y (map (names_in objects) es) ]
        ≡ option_map (names_in objects) (elim b [ true ↦ first_of es | false ↦ entry_behind k es ])
    go true below = first_of-map (names_in objects) es
    go false below = below

module _ (v : Keyed) (o : IsInOrder [] v) (m : ℕ) (x : Name) (named : name_at v.scripts m ≡ Some x) (m-there : IsTrue (is_there v.scripts m)) where
  same-map : (e : KeyedEntry) → Among e v.entries → same_name (the_name_at v.scripts e.the_map) x ≡ (e.the_map == m)
  same-map e i =
      ap (same_name (the_name_at v.scripts e.the_map)) (sym (the_name-is v.scripts m x named))
      ∙ same-key v.scripts (one_name-order [] v o) e.the_map m (o.entries_there e i).the_map m-there

  -- THE ENTRIES OF A MAP
  pub entries-named : entries_of v.heap x ≡ map (names_in v.scripts) (entries_below v.entries m (length v.entries))
  entries-named =
      ap (λ (es : List Entry). map (λ (e : Entry). (e.key, e.value)) (filter (λ (e : Entry). same_name e.the_map x) (reverse es))) o.entries
      ∙ (ap (λ (es : List Entry). map (λ (e : Entry). (e.key, e.value)) (filter (λ (e : Entry). same_name e.the_map x) es)) (map-reversed (named_entry v.scripts) v.entries)
      ∙ (ap (map (λ (e : Entry). (e.key, e.value))) (filter-map (λ (e : Entry). same_name e.the_map x) (named_entry v.scripts) (reverse v.entries))
      ∙ (map-map (λ (e : Entry). (e.key, e.value)) (named_entry v.scripts) (filter (λ (e : KeyedEntry). same_name (the_name_at v.scripts e.the_map) x) (reverse v.entries))
      ∙ ap (map (names_in v.scripts))
      (filter-agree (λ (e : KeyedEntry). same_name (the_name_at v.scripts e.the_map) x) (mine m) (reverse v.entries) (λ e i. same-map e (among-reversed e v.entries i))
      ∙ sym (below-all m v.entries)))))

  -- its first one,
  pub entries-first : (at : Option ℕ) → at ≡ place_below v.entries m (length v.entries) → first_of (pairs_from v m at) ≡ first_of (entries_of v.heap x)
  entries-first at e =
      ap (λ p. first_of (map (names_in v.scripts) (entries_from v.entries m p))) e
      ∙ ap first_of (ap (map (names_in v.scripts)) (sym (below-last_place v.entries m (length v.entries))) ∙ sym entries-named)

  module _ (k : ℕ) (y : Name) (key_named : name_at v.scripts k ≡ Some y) (k-there : IsTrue (is_there v.scripts k)) where
    -- the one behind that of a key,
    entries-behind : behind_key y (entries_of v.heap x) ≡ option_map (names_in v.scripts) (behind_entry v.entries m k)
    entries-behind =
        ap (behind_key y) entries-named
        ∙ behind-named v.scripts k y (entries_below v.entries m (length v.entries)) (λ e i.
        ap (same_name (the_name_at v.scripts e.key)) (sym (the_name-is v.scripts k y key_named))
        ∙ same-key v.scripts (one_name-order [] v o) e.key k
        (o.entries_there e (among-reversed e v.entries (Among-filtered (mine m) e (reverse v.entries) (subst (Among e) (below-all m v.entries) i)))).key k-there)

    -- by its place,
    pub entries-next : (i : ℕ) → IsEntryPlace v.entries m k i → (at : Option ℕ) → at ≡ place_below v.entries m i → first_of (pairs_from v m at) ≡ behind_key y (entries_of v.heap x)
    entries-next i p at e =
        ap (λ q. first_of (map (names_in v.scripts) (entries_from v.entries m q))) e
        ∙ (ap (λ es. first_of (map (names_in v.scripts) es)) (sym (below-last_place v.entries m i))
        ∙ (first_of-map (names_in v.scripts) (entries_below v.entries m i)
        ∙ (ap (option_map (names_in v.scripts)) (sym p.behind) ∙ sym entries-behind)))

    -- and none where there is no entry.
    pub entries-none : behind_entry v.entries m k ≡ None → behind_key y (entries_of v.heap x) ≡ None
    entries-none e = entries-behind ∙ ap (option_map (names_in v.scripts)) e
