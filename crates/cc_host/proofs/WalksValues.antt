-- THE WALK OVER THE ENTRIES OF A MAP is whole: each key once, with the value that is read of it.
use Rattle.std.proofs.Common.{◌≡◌, ℕ, ◌≤◌, Bool, true, false, ◌&&◌, cond, [], List, ◌∷◌, ◌++◌, map, reverse, count_by, Option, Some, None, refl, ◌∙◌, ap, arith}
use Rattle.std.specs.List.{filter}
use Rattle.std.specs.Option.{option_or}
use Rattle.std.proofs.lemmas.List.{reverse-append}
use Rattle.cc_lists.proofs.Counting.{count_by-append, count_by-cons, count_by-filter, count_by-map}
use Rattle.cc_names.specs.declared.name.Name.{Name}
use Rattle.cc_names.specs.Names.{same_name}
use Rattle.cc_model.specs.Checks.{value_at}
use Rattle.cc_model.specs.Entries.{Entry, is_entry_of, value_in}
use Rattle.cc_model.specs.Heap.{Heap, objects_of}
use Rattle.cc_model.specs.WellFormed.{IsWellFormed}
use Rattle.cc_host.specs.Walks.{entries_of, value_of}

module _ (m k : Name) where
  abbrev of_map : Entry → Bool
  of_map e = same_name e.the_map m

  abbrev pair : Entry → Name × Name
  pair e = (e.key, e.value)

  -- among the pairs of a map a key has the value of its entry
  value-listed : (es : List Entry) → value_of k (map pair (filter of_map es)) ≡ value_in es m k
  value-listed [] = refl
  value-listed (e ∷ es) = go (of_map e) (value-listed es)
    where
      more : (c : Bool) → value_of k (map pair (filter of_map es)) ≡ value_in es m k →
          ◌≡◌ {A = Option Name} (elim c [ true ↦ Some e.value | false ↦ value_of k (map pair (filter of_map es)) ]) (elim c [ true ↦ Some e.value | false ↦ value_in es m k ])
      more true rest = refl
      more false rest = rest

      go : (b : Bool) → value_of k (map pair (filter of_map es)) ≡ value_in es m k →
          value_of k (map pair (cond b (e ∷ filter of_map es) (filter of_map es))) ≡ elim (b && same_name e.key k) [ true ↦ Some e.value | false ↦ value_in es m k ]
      go true rest = more (same_name e.key k) rest
      go false rest = rest

  -- entries in a row
  value-append : (es fs : List Entry) → value_in (es ++ fs) m k ≡ option_or (value_in es m k) (value_in fs m k)
  value-append [] fs = refl
  value-append (e ∷ es) fs = go (is_entry_of m k e) (value-append es fs)
    where
      go : (b : Bool) → value_in (es ++ fs) m k ≡ option_or (value_in es m k) (value_in fs m k) →
          ◌≡◌ {A = Option Name} (elim b [ true ↦ Some e.value | false ↦ value_in (es ++ fs) m k ]) (option_or (elim b [ true ↦ Some e.value | false ↦ value_in es m k ]) (value_in fs m k))
      go true rest = refl
      go false rest = rest

  -- where none passes there is no value
  value-none : (es : List Entry) → count_by (is_entry_of m k) es ≤ 0 → value_in es m k ≡ None
  value-none [] none = refl
  value-none (e ∷ es) none = go (is_entry_of m k e) refl (value-none es)
    where
      go : (b : Bool) → is_entry_of m k e ≡ b → (count_by (is_entry_of m k) es ≤ 0 → value_in es m k ≡ None) →
          ◌≡◌ {A = Option Name} (elim b [ true ↦ Some e.value | false ↦ value_in es m k ]) None
      go true is rest = absurd (omega (arith, none, count_by-cons (is_entry_of m k) e es, ap {B = ℕ} (λ b. cond b 1 0) is))
      go false is rest = rest (omega (arith, none, count_by-cons (is_entry_of m k) e es))

  or-none : (x : Option Name) → option_or x None ≡ x
  or-none None = refl
  or-none (Some x) = refl

  -- where one passes at most, it is the same from the last on
  value-reversed : (es : List Entry) → count_by (is_entry_of m k) es ≤ 1 → value_in (reverse es) m k ≡ value_in es m k
  value-reversed [] once = refl
  value-reversed (e ∷ es) once =
      ap (λ fs. value_in fs m k) (reverse-append (e ∷ []) es)
      ∙ (value-append (reverse es) (e ∷ [])
      ∙ (ap (λ x. option_or x (value_in (e ∷ []) m k)) (value-reversed es (omega (arith, once, count_by-cons (is_entry_of m k) e es)))
      ∙ go (is_entry_of m k e) refl))
    where
      go : (b : Bool) → is_entry_of m k e ≡ b →
          ◌≡◌ {A = Option Name} (option_or (value_in es m k) (elim b [ true ↦ Some e.value | false ↦ None ])) (elim b [ true ↦ Some e.value | false ↦ value_in es m k ])
      go true is = ap (λ x. option_or x (Some e.value)) (value-none es (omega (arith, once, count_by-cons (is_entry_of m k) e es, ap {B = ℕ} (λ b. cond b 1 0) is)))
      go false is = or-none (value_in es m k)

  -- as many pass from the last on
  count-reversed : (es : List Entry) → count_by (is_entry_of m k) (reverse es) ≡ count_by (is_entry_of m k) es
  count-reversed [] = refl
  count-reversed (e ∷ es) = omega (
    arith,
    ap (count_by (is_entry_of m k)) (reverse-append (e ∷ []) es),
    count_by-append (is_entry_of m k) (reverse es) (e ∷ []),
    count-reversed es,
    count_by-cons (is_entry_of m k) e es,
    count_by-cons (is_entry_of m k) e [],
  )

  module _ (h : Heap) (w : IsWellFormed h) where
    -- A KEY HAS THE VALUE that is read of it,
    pub entries-whole : value_of k (entries_of h m) ≡ value_at (objects_of h) (Some m) (Some k)
    entries-whole = value-listed (reverse h.entries) ∙ value-reversed h.entries (w.one_entry m k)

    -- AND STANDS ONCE.
    pub entries-once : count_by (λ (e : Name × Name). same_name e.0 k) (entries_of h m) ≤ 1
    entries-once = omega (
      arith,
      count_by-map (λ (e : Name × Name). same_name e.0 k) pair (filter of_map (reverse h.entries)),
      count_by-filter (λ (e : Entry). same_name e.key k) of_map (reverse h.entries),
      count-reversed h.entries,
      w.one_entry m k,
    )
