-- NATIVES LEAVE THE HEAPS: those that were freed are there no more, all others are, and nothing changes beside natives
-- and the buffer.
use Rattle.std.proofs.Common.{◌≡◌, ℕ, ◌≤◌, Bool, true, false, not, ◌&&◌, List, [], ◌∷◌, ◌++◌, map, Some, refl, sym, ◌∙◌, ap, subst, ⊎_elim, arith, ◌==◌}
use Rattle.std.specs.List.{filter}
use Rattle.std.proofs.Math.Bool.{or-false}
use Rattle.std.proofs.Math.Path.{fun_ext}
use Rattle.std.proofs.lemmas.Grind.{flat_map-append}
use Rattle.std.proofs.lemmas.Bool.{cases_lt, not-true}
use Rattle.std.proofs.lemmas.Simd.{map-map}
use Rattle.cc_lists.specs.Members.{Among, has}
use Rattle.cc_lists.proofs.Members.{Among-map, Among-map_cases, Among-append, Among-filtered, Among-passes, has-there}
use Rattle.cc_names.specs.Names.{native}
use Rattle.cc_model.specs.declared.item.Event.{Event}
use Rattle.cc_model.specs.Heap.{Heap, HeapNative, Buffered, Outcome, native_at, change_native, with_mark, forget}
use Rattle.cc_model.specs.Cascade.{add_ref, removed}
use Rattle.cc_model.specs.WellFormed.{native_names}
use Rattle.cc_model.specs.Counts.{times}
use Rattle.cc_laws_heap.specs.Freeing.{uncounted, is_none_of, SameBeside, Frees}
use Rattle.cc_laws_heap.specs.Ending.{freed_in, freed_numbers}
use Rattle.cc_laws_heap.specs.Stages.{Stage, Done, Ending}
use Rattle.cc_lists.proofs.Searching.{filter-true, filter-map, filter-filter}
use Rattle.cc_lists.proofs.Numbers.{eqb-sym, number-exact, at-each}
use Rattle.cc_laws_heap.proofs.Natives.{native_at-named, named-member, KeepsNumber, changed_at-number}
use Rattle.cc_laws_heap.proofs.References.{times-append, times-cons_same, times-cons_other, times-among}
use Rattle.cc_laws_heap.proofs.Beside.{SameBeside-with, SameBeside-refl, SameBeside-trans}
use Rattle.cc_laws_heap.proofs.GiveUp.{lower_native}
use Rattle.cc_laws_heap.proofs.HoldsTheSame.{raise_native}
use Rattle.cc_laws_heap.proofs.Folding.{done-keeps}
use Rattle.cc_lists.proofs.ListWrites.{map-kept}

-- the numbers of the natives that are there
abbrev pub numbers_there : Heap → List ℕ
numbers_there h = map (λ n. n.number) h.natives

-- whether a number is none of those freed
abbrev pub is_left : List ℕ → ℕ → Bool
is_left freed k = not (has ◌==◌ freed k)

-- the natives `freed` of the first heaps have left the second, and no others
pub record Leave (h : Heap) (freed : List ℕ) (g : Heap) : Type 0 where
  pub once : (k : ℕ) → times k freed ≤ 1
  pub were_there : (k : ℕ) → Among k freed → Among (native k) (native_names h)
  pub numbers : numbers_there g ≡ filter (is_left freed) (numbers_there h)
  pub beside : SameBeside h g

-- Names and numbers

-- a number that is there is that of a name
pub numbers_there-named : (h : Heap) (k : ℕ) → Among k (numbers_there h) → Among (native k) (native_names h)
numbers_there-named h k m = grind (arith, Among-map_cases, Among-map)

-- and a name that is there has its number there
named-numbers_there : (h : Heap) (k : ℕ) → Among (native k) (native_names h) → Among k (numbers_there h)
named-numbers_there h k m = grind (arith, named-member, Among-map)

-- What has left

-- what is there now was there before
pub Leave-before : (h : Heap) (freed : List ℕ) (g : Heap) → Leave h freed g → (k : ℕ) → Among (native k) (native_names g) → Among (native k) (native_names h)
Leave-before h freed g l k m = grind (arith, numbers_there-named, Among-filtered, named-numbers_there)

-- what is there now was not freed
pub Leave-not_freed : (h : Heap) (freed : List ℕ) (g : Heap) → Leave h freed g → (k : ℕ) → Among (native k) (native_names g) → ¬ (Among k freed)
Leave-not_freed h freed g l k m f = grind (arith, Among-passes, named-numbers_there, has-there, number-exact, not-true)

-- what does not stand in a list is not counted there
times-none : (k : ℕ) (xs : List ℕ) → ¬ (Among k xs) → times k xs ≡ 0
times-none k xs d = ⊎_elim (λ some. absurd (d (times-among k xs some))) (λ none. omega arith) (cases_lt 0 (times k xs))

-- what is there now was freed at no time
pub Leave-none : (h : Heap) (freed : List ℕ) (g : Heap) → Leave h freed g → (k : ℕ) → Among (native k) (native_names g) → times k freed ≡ 0
Leave-none h freed g l k m = times-none k freed (Leave-not_freed h freed g l k m)

-- to be left after two lists were freed is to be left after each
is_left-append : (early late : List ℕ) (k : ℕ) → is_left (early ++ late) k ≡ (is_left early k && is_left late k)
is_left-append [] late k = refl
is_left-append (a ∷ early) late k = grind (arith, is_left-append early late k)

-- Natives leave one after another.
pub Leave-trans : (h : Heap) (early : List ℕ) (g : Heap) (late : List ℕ) (f : Heap) → Leave h early g → Leave g late f → Leave h (early ++ late) f
Leave-trans h early g late f l m = record {
  once = λ k. ⊎_elim
      (λ some. omega (arith, times-append k early late, m.once k, Leave-none h early g l k (m.were_there k (times-among k late some))))
      (λ none. omega (arith, times-append k early late, l.once k))
      (cases_lt 0 (times k late));
  were_there = λ k i. ⊎_elim (l.were_there k) (λ r. Leave-before h early g l k (m.were_there k r)) (Among-append k early late i);
  numbers = m.numbers
      ∙ (ap (filter (is_left late)) l.numbers
      ∙ (filter-filter (is_left late) (is_left early) (numbers_there h)
      ∙ ap (λ p. filter p (numbers_there h)) (fun_ext (λ k. sym (is_left-append early late k)))));
  beside = SameBeside-trans h g f l.beside m.beside;
}

-- What a cascade frees leaves.
pub Leave-frees : (h : Heap) (ks : List ℕ) (o : Outcome) → Frees h ks o → Leave h ks o.heap
Leave-frees h ks o f = record {
  once = f.once;
  were_there = f.were_there;
  numbers = sym (map-map number uncounted o.heap.natives)
      ∙ (ap (map number) f.natives
      ∙ (sym (filter-map (is_left ks) number (map uncounted h.natives))
      ∙ ap (filter (is_left ks)) (map-map number uncounted h.natives)));
  beside = f.beside;
}
  where
    number : HeapNative → ℕ
    number u = u.number

-- where the same numbers are there, nothing has left
Leave-same : (h g : Heap) → SameBeside h g → numbers_there g ≡ numbers_there h → Leave h [] g
Leave-same h g b e = grind (arith, filter-true)

-- nothing leaves heaps that stay
pub Leave-refl : (h : Heap) → Leave h [] h
Leave-refl h = Leave-same h h (SameBeside-refl h) refl

-- nothing leaves where a native changes and keeps its number, whatever the buffer is
Leave-changed : (h : Heap) (k : ℕ) (f : HeapNative → HeapNative) (bs : List Buffered) → KeepsNumber f →
    Leave h [] (record h { natives = (change_native h k f).natives; buffer = bs })
Leave-changed h k f bs e = grind (arith, Leave-same, SameBeside-with, map-kept, changed_at-number)

-- nothing leaves where a native changes and keeps its number, and the buffer stays
pub Leave-change_native : (h : Heap) (k : ℕ) (f : HeapNative → HeapNative) → KeepsNumber f → Leave h [] (change_native h k f)
Leave-change_native h k f e = Leave-changed h k f h.buffer e

-- nothing leaves where a reference is taken
pub Leave-add_ref : (h : Heap) (k : ℕ) → Leave h [] (add_ref h k)
Leave-add_ref h k = Leave-changed h k raise_native (with_mark false k h.buffer) (λ n. refl)

-- a native that is taken out leaves
Leave-removed : (h : Heap) (k : ℕ) (n : HeapNative) → native_at h k ≡ Some n → Leave h (k ∷ []) (removed h k)
Leave-removed h k n e = grind (arith, at-each, times-cons_same, times-cons_other, native_at-named, filter-map, eqb-sym, or-false, SameBeside-with)

-- What is done

-- those told as freed have left the second stage
abbrev LeavesTo : Stage → List Event → Stage → Type 0
LeavesTo s es t = Leave s.heap (freed_numbers es) t.heap

-- what the end of a collection does besides takes none out
ending-leaves : (ks : List ℕ) (s : Stage) (es : List Event) (t : Stage) → Ending ks s es t → LeavesTo s es t
ending-leaves ks _ es t e = grind (arith, Leave-refl, Leave-add_ref, Leave-change_native)

-- WHAT IS TOLD AS FREED LEAVES, and no others: in cascades, and in ends of collections.
pub done-leaves : (ks : List ℕ) (s : Stage) (es : List Event) (t : Stage) → Done (Ending ks) s es t → Leave s.heap (freed_numbers es) t.heap
done-leaves ks = done-keeps LeavesTo (Ending ks) (record {
  nothing = λ s. Leave-refl s.heap;
  followed = λ s t u xs ys a b. subst (λ ks. Leave s.heap ks u.heap) (sym (flat_map-append freed_in xs ys))
      (Leave-trans s.heap (freed_numbers xs) t.heap (freed_numbers ys) u.heap a b);
  suspected = λ hand queue h k n e c. Leave-changed h k lower_native (with_mark true k h.buffer) (λ m. refl);
  waits = λ hand queue h k n e c. Leave-changed h k lower_native (forget h k).buffer (λ m. refl);
  freed = λ hand ks h k n e d r. Leave-removed h k n e;
}) (ending-leaves ks)

-- The natives that stay

-- a native is one of the heaps, but for its count
abbrev pub IsOf : Heap → HeapNative → Type 0
IsOf h n = (m : HeapNative) × Among m h.natives × (uncounted m ≡ uncounted n)

-- all natives but k are as they were in the first heaps
abbrev pub OthersStay : Heap → ℕ → Heap → Type 0
OthersStay h k g = (n : HeapNative) → Among n g.natives → ¬ (n.number ≡ k) → IsOf h n

-- after a cascade each native is as it was
pub IsOf-frees : (h : Heap) (ks : List ℕ) (o : Outcome) → Frees h ks o → (n : HeapNative) → Among n o.heap.natives → IsOf h n
IsOf-frees h ks o f n m =
    let there : Among (uncounted n) (filter (is_none_of ks) (map uncounted h.natives)) = subst (λ us. Among (uncounted n) us) f.natives (Among-map uncounted n o.heap.natives m) in
    Among-map_cases uncounted h.natives (uncounted n) (Among-filtered (is_none_of ks) (uncounted n) (map uncounted h.natives) there)

-- where counts and the buffer alone change too
pub IsOf-alike : (h g : Heap) → map uncounted g.natives ≡ map uncounted h.natives → (n : HeapNative) → Among n g.natives → IsOf h n
IsOf-alike h g e n m = Among-map_cases uncounted h.natives (uncounted n) (subst (λ us. Among (uncounted n) us) e (Among-map uncounted n g.natives m))

-- a change of native k leaves the others
pub OthersStay-change_native : (h : Heap) (k : ℕ) (f : HeapNative → HeapNative) → KeepsNumber f → OthersStay h k (change_native h k f)
OthersStay-change_native h k f e = grind (arith, Among-map_cases, changed_at-number)
