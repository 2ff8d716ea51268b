-- WHAT A SWEEP LEAVES: natives as they were, but for counts, and some of the script objects and entries. A round changes colours
-- besides.
use Rattle.std.proofs.Common.{arith, ◌≡◌, Bool, true, cond, ℕ, List, [], ◌∷◌, map, refl, subst, inr, ⊎_elim}
use Rattle.std.specs.List.{filter}
use Rattle.cc_lists.specs.Members.{Among}
use Rattle.cc_lists.proofs.Members.{Among-map, Among-map_cases, Among-filtered, Among-passes}
use Rattle.cc_names.specs.declared.name.Name.{Name}
use Rattle.cc_model.specs.Entries.{Entry, is_entry_of, value_in}
use Rattle.cc_model.specs.Heap.{Heap, HeapNative, HeapScript}
use Rattle.cc_model.specs.Colours.{marked}
use Rattle.cc_model.specs.Sweep.{unmarked, sweep}
use Rattle.cc_model.specs.StandsFor.{ArePart}
use Rattle.cc_model.specs.WellFormed.{script_names}
use Rattle.cc_laws_heap.specs.Sound.{IsSound}
use Rattle.cc_laws_heap.specs.Freeing.{uncounted}
use Rattle.cc_laws_heap.specs.Marks.{Stays}
use Rattle.cc_laws_heap.proofs.NameLists.{is_not_among-apart}
use Rattle.cc_laws_heap.proofs.ReachedAlike.{ArePart-none, ArePart-skip}
use Rattle.cc_laws_heap.proofs.TakenOut.{is_native_left}
use Rattle.cc_laws_heap.proofs.Marking.{as_marked}
use Rattle.cc_laws_heap.proofs.MarkingKeeps.{IsSound-marked}
use Rattle.cc_laws_heap.proofs.MarkedWellFormed.{is_spared_entry}
use Rattle.cc_laws_heap.proofs.Swept.{scripts-sweep, taken-sweep, entries-sweep}

-- Entries that are left

-- an entry that is not dropped is found as before
pub value_in-filter : (q : Entry → Bool) (es : List Entry) (m k : Name) → ((e : Entry) → Among e es → is_entry_of m k e ≡ true → q e ≡ true) →
    value_in (filter q es) m k ≡ value_in es m k
value_in-filter q [] m k h = refl
value_in-filter q (e ∷ es) m k h = grind (arith, value_in-filter q es m k (λ d i. h d (inr i)))

-- a part of a part is a part
pub ArePart-filter : {X : Type 0} (q : X → Bool) (xs ys : List X) → ArePart xs ys → ArePart (filter q xs) ys
ArePart-filter q [] ys p = ArePart-none ys
ArePart-filter q (x ∷ xs) [] p = absurd p
ArePart-filter {X} q (x ∷ xs) (y ∷ ys) p = ⊎_elim
    (λ s. go (q x) s.0 (ArePart-filter q xs ys s.1))
    (λ t. ArePart-skip (filter q (x ∷ xs)) y ys (ArePart-filter q (x ∷ xs) ys t)) p
  where
    go : (b : Bool) → x ≡ y → ArePart (filter q xs) ys → ArePart (cond b (x ∷ filter q xs) (filter q xs)) (y ∷ ys)
    go b e r = grind (arith, ArePart-skip)

-- Objects that are left

-- a native that a sweep leaves was there, as it is but for its count
pub sweep-natives : {owned : List ℕ} (h : Heap) → IsSound owned h → (n : HeapNative) → Among n (sweep h).heap.natives →
    (m : HeapNative) × Among m h.natives × (uncounted m ≡ uncounted n)
sweep-natives h s n m =
    let t = taken-sweep h s in
    let i : Among (uncounted n) (filter (is_native_left t.0) (map uncounted h.natives)) =
    subst (Among (uncounted n)) t.1.natives (Among-map uncounted n (sweep h).heap.natives m) in
    Among-map_cases uncounted h.natives (uncounted n) (Among-filtered (is_native_left t.0) (uncounted n) (map uncounted h.natives) i)

-- a script object that a sweep leaves was there
pub sweep-scripts : (h : Heap) (o : HeapScript) → Among o (sweep h).heap.scripts → Among o h.scripts
sweep-scripts h o m = grind (arith, scripts-sweep, Among-filtered)

-- the name of a script object that a sweep leaves stays
pub left-stays : (h : Heap) (x : Name) → Among x (script_names (sweep h).heap) → Stays h x
left-stays h x m = grind (arith, Among-map_cases, scripts-sweep, is_not_among-apart, Among-passes)

-- Rounds

-- a native that a round leaves was there, as it is but for its count
pub round-natives : {owned : List ℕ} (h : Heap) → IsSound owned h → (n : HeapNative) → Among n (sweep (marked h)).heap.natives →
    (m : HeapNative) × Among m h.natives × (uncounted m ≡ uncounted n)
unfolding marked
round-natives {owned} h s = sweep-natives (marked h) (IsSound-marked owned h s)

-- a script object that a round leaves was there, as it is but for its colour
pub round-scripts : (h : Heap) (o : HeapScript) → Among o (sweep (marked h)).heap.scripts → (p : HeapScript) × Among p h.scripts × (as_marked h p ≡ o)
unfolding marked
round-scripts h o m = grind (arith, sweep-scripts, Among-map_cases)

-- the entries that are left are those whose map and key are not unmarked
pub round-entries : {owned : List ℕ} (h : Heap) → IsSound owned h → (sweep (marked h)).heap.entries ≡ filter (is_spared_entry (unmarked (marked h))) h.entries
unfolding marked
round-entries {owned} h s = entries-sweep (marked h) (IsSound-marked owned h s)
