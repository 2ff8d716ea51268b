-- HOW MANY SUSPECTS there may be, how a native is named, and what is kept with a premise.
use Rattle.std.proofs.Common.{◌≡◌, ℕ, ◌+◌, ◌<◌, ◌≤◌, ◌==◌, List, ◌∷◌, [], map, length, Some, option_map, sym, ◌∙◌, ap, arith, count_by}
use Rattle.std.specs.Prelude.{IsSome}
use Rattle.std.proofs.lemmas.Bool.{eqb-true, eq-eqb}
use Rattle.std.proofs.lemmas.List.{length-map}
use Rattle.cc_lists.specs.Members.{Among}
use Rattle.cc_lists.proofs.Counting.{count_by-map}
use Rattle.cc_lists.proofs.Filtering.{count_by-weaker}
use Rattle.cc_lists.proofs.Members.{Among-map_cases}
use Rattle.cc_lists.proofs.Places.{once-few}
use Rattle.cc_names.specs.Names.{native, natives_in}
use Rattle.cc_model.specs.Heap.{HeapNative, Buffered}
use Rattle.cc_model.specs.Skipping.{forgotten}
use Rattle.cc_model.specs.WellFormed.{IsWellFormed, native_names, script_names}
use Rattle.cc_names.specs.declared.number.NKey.{NKey}
use Rattle.cc_laws_heap.proofs.Face.{is_some-found}
use Rattle.cc_counted.specs.Counts.{number_or_none}
use Rattle.cc_counted.specs.declared.held.Held.TheVariants as held
use Rattle.cc_heaps.specs.Keyed.{Keyed, IsInOrder, number_at, the_number}
use Rattle.cc_heaps.specs.Changes.{held_name}
use Rattle.cc_heaps.specs.Keeping.{KeepsAll, KeepsAllIfReached}
use Rattle.cc_skip.proofs.Entering.{kept-over}

-- the buffer has no more places than there were natives
pub buffer-few : (owned : List ℕ) (v : Keyed) → IsInOrder owned v → length v.heap.buffer ≤ 1000001
buffer-few owned v order = omega (arith, few, length-map v.heap.buffer (λ (b : Buffered). b.number), well.natives_allowed, order.limits.0)
  where
    well : IsWellFormed v.heap
    well = order.sound.well_formed

    numbers : List ℕ
    numbers = map (λ (b : Buffered). b.number) v.heap.buffer

    once : (k : ℕ) → count_by (λ j. k == j) numbers ≤ 1
    once k = omega (
      arith,
      well.buffered_once k,
      count_by-map (λ j. k == j) (λ (b : Buffered). b.number) v.heap.buffer,
      count_by-weaker (λ (b : Buffered). k == b.number) (λ (b : Buffered). b.number == k) v.heap.buffer (λ b t. eq-eqb b.number k (sym (eqb-true k b.number t))),
    )

    below : (k : ℕ) → Among k numbers → k < v.heap.natives_made + 1
    below k m =
        let f = Among-map_cases (λ (b : Buffered). b.number) v.heap.buffer k m in
        let g = Among-map_cases (λ (n : HeapNative). native n.number) v.heap.natives (native f.0.number) (well.buffered f.0 f.1) in
        let both : g.0.number ∷ [] ≡ f.0.number ∷ [] = ap natives_in g.2 in
        let same : g.0.number ≡ f.0.number = cc in
        omega (arith, (well.native_numbers g.0 g.1).1, same, f.2)

    few : length numbers ≤ v.heap.natives_made + 1
    few = once-few (v.heap.natives_made + 1) numbers once below

-- a native has the name of its number
pub native-named : (v : Keyed) (key : NKey) → IsSome (number_at v key.0) → held_name v (Some (held.Native key)) ≡ Some (native (the_number v key.0))
native-named v key live =
    let f = is_some-found (number_at v key.0) live in
    ap (option_map native) f.1 ∙ ap (λ o. Some (native (number_or_none o))) (sym f.1)

-- what is kept whatever holds
pub kept-if : {premise : Type 0} {v w : Keyed} → KeepsAll v w → KeepsAllIfReached premise v w
kept-if k = record {
  keys = k.keys;
  order = k.order;
  counts = k.counts;
  colours = k.colours;
  fresh = k.fresh;
  suspected = λ p. k.suspected;
  marks = k.marks;
}

-- all is kept, where suspects are forgotten after what was kept before
pub kept-forgotten : (a b c : Keyed) → c.heap ≡ forgotten b.heap → KeepsAll a b → KeepsAll b c → KeepsAll a c
unfolding forgotten
kept-forgotten a b c e s t = kept-over a b c (ap native_names e) (ap script_names e) s t
