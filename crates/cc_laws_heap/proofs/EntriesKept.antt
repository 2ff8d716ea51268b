-- ENTRIES SET AND TAKEN OUT keep the heaps well formed: at most one entry for each map and key, of what is there.
use Rattle.std.proofs.Common.{◌≡◌, ℕ, Bool, not, List, [], ◌∷◌, subst, ⊎_elim, arith, Option}
use Rattle.std.specs.Option.{option_to_list}
use Rattle.cc_lists.specs.Members.{Among}
use Rattle.cc_lists.proofs.Members.{Among-filtered}
use Rattle.cc_lists.proofs.Filtering.{count_by-filter-le}
use Rattle.cc_names.specs.declared.name.Name.{Name}
use Rattle.cc_model.specs.Entries.{Entry, entry, is_entry_of, value_in, with_entry, without_entry}
use Rattle.cc_model.specs.Heap.{Heap}
use Rattle.cc_model.specs.WellFormed.{HasMembers}
use Rattle.cc_laws_heap.specs.Sound.{IsSound}
use Rattle.cc_laws_heap.proofs.EntryLists.{entries_of-set, with_entry-cases}
use Rattle.cc_laws_heap.proofs.Kept.{with_entries, IsWellFormed-entries}

-- the value of a map and a key is that of one of the entries
pub value_in-among : (es : List Entry) (m k y : Name) → Among y (option_to_list (value_in es m k)) → (e : Entry) × Among e es × (e.value ≡ y)
value_in-among [] m k y i = absurd i
value_in-among (e ∷ es) m k y i = grind (arith, value_in-among es m k y)

-- An entry of what is there is set.
pub with_entry-sound : (owned : List ℕ) (h : Heap) (m k : Name) (d : Option Name) (v : Name) → HasMembers h (entry m k d v) → IsSound owned h →
    IsSound owned (with_entries h (with_entry h.entries m k d v))
with_entry-sound owned h m k d v members s = record {
  well_formed = IsWellFormed-entries h (with_entry h.entries m k d v) s.well_formed
      (λ e i. ⊎_elim (λ same. subst (HasMembers h) same members) (s.well_formed.entries e) (with_entry-cases h.entries m k d v e i))
      (entries_of-set h.entries m k d v s.well_formed.one_entry);
  counts = s.counts;
  none_zero = s.none_zero;
  owned_there = s.owned_there;
}

-- An entry is taken out.
pub without_entry-sound : (owned : List ℕ) (h : Heap) (m k : Name) → IsSound owned h → IsSound owned (with_entries h (without_entry h.entries m k))
without_entry-sound owned h m k s = record {
  well_formed = IsWellFormed-entries h (without_entry h.entries m k) s.well_formed
      (λ e i. s.well_formed.entries e (Among-filtered others e h.entries i))
      (λ a b. omega (arith, count_by-filter-le (is_entry_of a b) others h.entries, s.well_formed.one_entry a b));
  counts = s.counts;
  none_zero = s.none_zero;
  owned_there = s.owned_there;
}
  where
    others : Entry → Bool
    others e = not (is_entry_of m k e)
