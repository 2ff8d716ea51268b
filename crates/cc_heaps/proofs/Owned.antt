-- WHO OWNS THE REFERENCES OF THE COUNTED HEAP: the native registers, the reflectors, and those who own some besides.
use Rattle.std.proofs.Common.{◌≡◌, ℕ, ◌≤◌, List, [], ◌∷◌, ◌++◌, map, refl, subst, ⊎_elim, arith, count_by}
use Rattle.std.specs.List.{flat_map}
use Rattle.cc_lists.specs.Members.{Among}
use Rattle.cc_lists.proofs.Members.{Among-append, Among-map}
use Rattle.cc_lists.proofs.Counting.{count_by-some, count_by-cons, count_by-map}
use Rattle.cc_names.specs.declared.name.Name.{Name}
use Rattle.cc_names.specs.declared.name.Name.TheVariants as name
use Rattle.cc_names.proofs.NameTests.{same_name-refl}
use Rattle.cc_names.specs.Names.{native, reflector, same_name, natives_in, behind}
use Rattle.cc_model.specs.Slots.{contents}
use Rattle.cc_model.specs.Heap.{Heap, HeapScript}
use Rattle.cc_model.specs.WellFormed.{native_names}
use Rattle.cc_model.specs.Counts.{refs_to, slots_of_natives, times}
use Rattle.cc_laws_heap.proofs.Face.{refs_to-there, times-among, times-append, times-cons, times-natives_in, times-some}
use Rattle.cc_counted.specs.Counts.{Counts}
use Rattle.cc_counted.specs.Counts as counts
use Rattle.cc_counted.specs.Owning.{AreOwned, CallersOwn}
use Rattle.cc_heaps.specs.declared.heaps.Heaps.TheInside.{Inside}
use Rattle.cc_heaps.specs.Keyed.{IsInOrder}
use Rattle.cc_heaps.specs.Named.{named_native}
use Rattle.cc_heaps.specs.Fields.{heap_of, keyed_of}
use Rattle.cc_heaps.proofs.Fit.{IsFit}
use Rattle.cc_heaps.proofs.Naming.{native_names-shown, references-shown}

-- the references are the same in another order
pub AreOwned-permuted : (early late : List ℕ) (c : Counts) → ((k : ℕ) → times k late ≡ times k early) → AreOwned early c → AreOwned late c
AreOwned-permuted early late c same o = record {
  counts = λ n m. omega (arith, same n.number, o.counts n m);
  none_zero = o.none_zero;
  held_there = o.held_there;
  owned_there = λ k m. o.owned_there k (times-among k early (omega (arith, times-some k late m, same k)));
  buffered = o.buffered;
  buffered_once = o.buffered_once;
}

-- what the registers hold
abbrev pub in_registers : Inside → List ℕ
in_registers p = flat_map natives_in (contents (heap_of p).native_registers)

-- the natives of reflectors
abbrev pub in_reflectors : Inside → List ℕ
in_reflectors p = flat_map behind (map (λ o. o.name) p.scripts)

-- a native stands behind the names of its reflectors
times-behind : (k : ℕ) (xs : List Name) → times k (flat_map behind xs) ≡ count_by (λ x. same_name x (reflector k)) xs
times-behind k [] = refl
times-behind k (name.Native i ∷ xs) = rw (count_by-cons (λ x. same_name x (reflector k)) (name.Native i) xs, times-behind k xs) (omega arith)
times-behind k (name.Script i ∷ xs) = rw (count_by-cons (λ x. same_name x (reflector k)) (name.Script i) xs, times-behind k xs) (omega arith)
times-behind k (name.Reflector i ∷ xs) =
    rw (times-cons k i.0 (flat_map behind xs), count_by-cons (λ x. same_name x (reflector k)) (name.Reflector i) xs, times-behind k xs) refl

module _ (owned : List ℕ) (p : Inside) (f : IsFit owned p) where
  abbrev h : Heap
  h = heap_of p

  abbrev alone : Heap
  alone = counts.heap_of p.counted

  abbrev o : IsInOrder owned (keyed_of p)
  o = f.order

  times-registers : (k : ℕ) → times k (in_registers p) ≡ count_by (same_name (native k)) (contents h.native_registers)
  times-registers k = times-natives_in k (contents h.native_registers)

  references : (k : ℕ) → count_by (same_name (native k)) (slots_of_natives h) ≡ count_by (same_name (native k)) (slots_of_natives alone)
  references k = references-shown p.scripts f.linked.script_names h alone k

  times-reflectors : (k : ℕ) → times k (in_reflectors p) ≡ count_by (λ (s : HeapScript). same_name s.name (reflector k)) h.scripts
  times-reflectors k = search (times-behind, count_by-map)

  names : native_names h ≡ native_names alone
  names = native_names-shown p.scripts h alone

  there : (k : ℕ) → Among (native k) (native_names h) → Among (native k) (native_names alone)
  there k m = subst (λ xs. Among (native k) xs) names m

  referred : (k : ℕ) → 1 ≤ refs_to h k → Among (native k) (native_names alone)
  referred k some = there k (refs_to-there h k o.sound.well_formed some)

  in_slots : (k : ℕ) → Among (native k) (slots_of_natives alone) → 1 ≤ count_by (same_name (native k)) (slots_of_natives alone)
  in_slots k m = count_by-some (same_name (native k)) (native k) (slots_of_natives alone) m (same_name-refl (native k))

  in_registers-there : (k : ℕ) → Among k (in_registers p) → Among (native k) (native_names alone)
  in_registers-there k m = referred k (omega (arith, times-some k (in_registers p) m, times-registers k))

  in_reflectors-there : (k : ℕ) → Among k (in_reflectors p) → Among (native k) (native_names alone)
  in_reflectors-there k m = referred k (omega (arith, times-some k (in_reflectors p) m, times-reflectors k))

  -- Registers own what they hold, reflectors their natives, and the others what they own.
  pub all-owned : AreOwned (in_registers p ++ (in_reflectors p ++ owned)) p.counted
  all-owned = record {
    counts = λ n m. omega (
      arith,
      o.sound.counts (named_native p.scripts n) (Among-map (named_native p.scripts) n p.counted.natives m),
      references n.number,
      times-registers n.number,
      times-reflectors n.number,
      times-append n.number (in_registers p) (in_reflectors p ++ owned),
      times-append n.number (in_reflectors p) owned,
    );
    none_zero = λ n m. o.sound.none_zero (named_native p.scripts n) (Among-map (named_native p.scripts) n p.counted.natives m);
    held_there = λ k m. referred k (omega (arith, in_slots k m, references k));
    owned_there = λ k m. ⊎_elim (in_registers-there k)
        (λ t. ⊎_elim (in_reflectors-there k) (λ u. there k (o.sound.owned_there k u)) (Among-append k (in_reflectors p) owned t))
        (Among-append k (in_registers p) (in_reflectors p ++ owned) m);
    buffered = λ b m. there b.number (o.sound.well_formed.buffered b m);
    buffered_once = o.sound.well_formed.buffered_once;
  }

  pub callers-own : CallersOwn [] p.counted
  callers-own = (in_registers p ++ (in_reflectors p ++ owned), all-owned)

-- What is owned besides may be given up, or put into a slot.
pub callers-own-some : (ks owned : List ℕ) (p : Inside) → IsFit (ks ++ owned) p → CallersOwn ks p.counted
callers-own-some ks owned p f = (
  in_registers p ++ (in_reflectors p ++ owned),
  AreOwned-permuted (in_registers p ++ (in_reflectors p ++ (ks ++ owned))) (ks ++ (in_registers p ++ (in_reflectors p ++ owned))) p.counted
      (λ k. omega (
        arith,
        times-append k (in_registers p) (in_reflectors p ++ (ks ++ owned)),
        times-append k (in_reflectors p) (ks ++ owned),
        times-append k ks owned,
        times-append k ks (in_registers p ++ (in_reflectors p ++ owned)),
        times-append k (in_registers p) (in_reflectors p ++ owned),
        times-append k (in_reflectors p) owned,
      ))
      (all-owned (ks ++ owned) p f),
)
