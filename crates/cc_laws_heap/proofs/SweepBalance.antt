-- SWEEPING KEEPS THE BALANCE: a reflector that is taken out leaves a reference to its native in hand, and a cascade
-- gives that up; the slots of script objects hold nothing that is counted.
use Rattle.std.proofs.Common.{◌≡◌, ℕ, ◌≤◌, List, ◌∷◌, sym, ap, arith, count_by}
use Rattle.std.proofs.lemmas.Bool.{not-true}
use Rattle.cc_lists.specs.Members.{Among}
use Rattle.cc_lists.proofs.Members.{Among-map_cases}
use Rattle.cc_lists.proofs.Counting.{count_by-some}
use Rattle.cc_names.specs.declared.name.Name.{Name}
use Rattle.cc_names.specs.Names.{object, reflector, same_name, number_of}
use Rattle.cc_names.proofs.NameTests.{same_name-true, same_name-refl}
use Rattle.cc_model.specs.Heap.{Heap, HeapScript}
use Rattle.cc_model.specs.Sweep.{without_script}
use Rattle.cc_model.specs.WellFormed.{script_names}
use Rattle.cc_lists.proofs.Searching.{count_by-kept, count_by-dropped}
use Rattle.cc_lists.proofs.Numbers.{at-each}
use Rattle.cc_laws_heap.proofs.References.{times-cons_same, times-cons_other}
use Rattle.cc_laws_heap.specs.Balance.{IsSteady}
use Rattle.cc_laws_heap.proofs.NameLists.{same_name-other}

-- A script object taken out

-- how often the reflector of native k is there
abbrev pub reflectors : ℕ → Heap → ℕ
reflectors k h = count_by (λ (o : HeapScript). same_name o.name (reflector k)) h.scripts

-- another script object taken out leaves it
reflectors-other : (h : Heap) (x : Name) (k : ℕ) → ¬ (x ≡ reflector k) → reflectors k (without_script h x) ≡ reflectors k h
reflectors-other h x k d = grind (arith, count_by-kept, same_name-other, same_name-true)

-- itself taken out, it is there no more
reflectors-same : (h : Heap) (k : ℕ) → reflectors k (without_script h (reflector k)) ≡ 0
reflectors-same h k = grind (arith, count_by-dropped, not-true)

-- it is there once, where script objects have distinct names
reflectors-once : (h : Heap) (k : ℕ) → count_by (λ (o : HeapScript). same_name o.name (reflector k)) h.scripts ≤ 1 → Among (reflector k) (script_names h) →
    reflectors k h ≡ 1
reflectors-once h k few m = grind (arith, Among-map_cases, same_name-refl, count_by-some)

-- a plain script object or a weak map taken out leaves the heaps steady
pub IsSteady-without_object : (owned : List ℕ) (h : Heap) (k : ℕ) → IsSteady owned h → IsSteady owned (without_script h (object k))
IsSteady-without_object owned h k b = record {
  distinct = b.distinct;
  counts = λ j. omega (arith, b.counts j, reflectors-other h (object k) j (λ e. absurd (cc)));
  queue = b.queue;
  buffer = b.buffer;
}

-- a reflector taken out leaves a reference to its native in hand
pub IsSteady-without_reflector : (owned : List ℕ) (h : Heap) (k : ℕ) → IsSteady owned h → reflectors k h ≤ 1 → Among (reflector k) (script_names h) →
    IsSteady (k ∷ owned) (without_script h (reflector k))
IsSteady-without_reflector owned h k b few m = record {
  distinct = b.distinct;
  counts = at-each (λ j. _) k
      (omega (arith, b.counts k, reflectors-same h k, reflectors-once h k few m, times-cons_same k owned))
      (λ j o. omega (arith, b.counts j, reflectors-other h (reflector k) j (λ e. o (sym (ap number_of e))), times-cons_other j k owned (λ e. o (sym e))));
  queue = b.queue;
  buffer = b.buffer;
}
