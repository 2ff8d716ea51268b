-- WHAT THE CALLS OF THE COUNTED HEAP COME TO, with the rest of the parts beside it.
use Rattle.cc_laws_heap.proofs.Face.{count-bound, is_some-found, with_buffer, native_at-number, native_at-there}
use Rattle.std.proofs.Common.{◌≡◌, ℕ, ◌+◌, ◌≤◌, Bool, true, List, ◌∷◌, length, map, Option, Some, None, option_map, refl, sym, ◌∙◌, ap, subst, arith}
use Rattle.std.specs.Option.{is_some}
use Rattle.std.proofs.lemmas.Simd.{map-map}
use Rattle.cc_lists.specs.Members.{Among}
use Rattle.cc_names.specs.declared.name.Name.{Name}
use Rattle.cc_names.specs.declared.kind.Walked.{Walked}
use Rattle.cc_names.specs.Names.{native}
use Rattle.cc_names.specs.Sizes.{most_references, most_roots}
use Rattle.cc_model.specs.Telling.{Telling, TellsEvents}
use Rattle.cc_model.specs.Slots.{contents}
use Rattle.cc_model.specs.Heap.{Heap, HeapNative, Outcome, native_at, set_preserved, with_mark}
use Rattle.cc_model.specs.Cascade.{add_ref, cascade}
use Rattle.cc_model.specs.End.{unlink}
use Rattle.cc_model.specs.WellFormed.{native_names}
use Rattle.cc_model.specs.Counts.{times}
use Rattle.cc_counted.specs.Counts.{Counts, key_left, reflectors_left, state_left, number_or_none, count_at, with_heap}
use Rattle.cc_counted.specs.Counts as counts
use Rattle.cc_counted.proofs.States.{walks_left-agree}
use Rattle.cc_script.specs.Objects.{Object}
use Rattle.cc_heaps.specs.declared.heaps.Heaps.TheInside.{Inside}
use Rattle.cc_heaps.specs.Keyed.{Keyed, IsInOrder, keyed_native, number_at, the_number, changed_to, left_with}
use Rattle.cc_heaps.specs.Named.{named, named_native}
use Rattle.cc_heaps.specs.Fields.{heap_of, keyed_of, IsLinked}
use Rattle.cc_heaps.proofs.Keying.{AreHeldThere}
use Rattle.cc_heaps.proofs.Linked.{IsLinked-counted, reflectors-left, held-add_ref, held-cascade, held-preserved, held-unlink, with_counted}
use Rattle.cc_heaps.proofs.Naming.{native_at-shown, native_names-shown, add_ref-shown, set_preserved-shown, cascade-shown, unlink-shown, outcome_shown, shown}
use Rattle.cc_heaps.proofs.Ordered.{IsInOrder-cascade, IsInOrder-unlink}
use Rattle.cc_heaps.proofs.Registers.{AreLive-same, left-same, registers-same}

-- what is held is there, with its number
pub number-named : (v : Keyed) (owned : List ℕ) (key k : ℕ) → IsInOrder owned v → number_at v key ≡ Some k → Among (native k) (native_names v.heap)
number-named v owned key k o e = subst (λ xs. Among (native k) xs) (map-map (λ (n : HeapNative). native n.number) (keyed_native v.scripts) v.heap.natives) (o.keyed.there key k e)

pub number-there : (owned : List ℕ) (v : Keyed) (key : ℕ) → IsInOrder owned v → is_some (number_at v key) ≡ true → Among (native (the_number v key)) (native_names v.heap)
number-there owned v key o live =
    let f = is_some-found (number_at v key) live in
    subst (λ x. Among (native (number_or_none x)) (native_names v.heap)) (sym f.1) (number-named v owned key f.0 o f.1)

-- counts fit their type
pub count-fits : (owned : List ℕ) (p : Inside) (k : ℕ) → IsInOrder owned (keyed_of p) → count_at (native_at (counts.heap_of p.counted) k) ≤ most_references most_roots + times k owned
count-fits owned p k o = go (native_at (counts.heap_of p.counted) k) refl
  where
    go : (x : Option HeapNative) → native_at (counts.heap_of p.counted) k ≡ x → count_at x ≤ most_references most_roots + times k owned
    go None e = omega arith
    go (Some n) e =
        let bound : n.count ≤ most_references (length (heap_of p).native_registers) + times n.number owned =
        count-bound owned (heap_of p) (named_native p.scripts n) o.sound o.limits.0
        (native_at-there (heap_of p) k (named_native p.scripts n) (native_at-shown p.scripts (heap_of p) (counts.heap_of p.counted) k ∙ ap (option_map (named_native p.scripts)) e)) in
        subst (λ j. n.count ≤ most_references most_roots + times j owned) (native_at-number (counts.heap_of p.counted) k n e)
        (omega (arith, bound, o.sound.well_formed.registers.0.allowed))

-- keys are left by numbers
pub key_left-shown : (objects : List Object) (h g : Heap) (o : Option ℕ) → key_left g o ≡ key_left (shown h objects g) o
key_left-shown objects h g o = grind (arith, native_at-shown)

pub state_left-shown : (objects : List Object) (h g : Heap) (o : Option ℕ) (state : Walked) → state_left g o state ≡ state_left (shown h objects g) o state
state_left-shown objects h g o state = grind (arith, native_at-shown)

-- Natives changed, each at its key

-- a call that changes natives, of the counted heap and by names
pub record Changes (p : Inside) (next : Counts) (alone whole : Heap) : Type 0 where
  pub linked : IsLinked p
  pub is : next ≡ with_heap p.counted alone
  pub beside : whole ≡ shown (heap_of p) p.scripts alone
  pub held : AreHeldThere p.scripts alone.natives

module _ {p : Inside} {next : Counts} {alone whole : Heap} (l : Changes p next alone whole) where
  pub changed-keyed : keyed_of (with_counted p next) ≡ changed_to (keyed_of p) whole
  changed-keyed = ap (λ d. keyed_of (with_counted p d)) l.is ∙ ap (changed_to (keyed_of p)) (sym l.beside)

  pub changed-order : {owned : List ℕ} → IsInOrder owned (changed_to (keyed_of p) whole) → IsInOrder owned (keyed_of (with_counted p next))
  changed-order {owned} o = subst (IsInOrder owned) (sym changed-keyed) o

  pub changed-linked : IsLinked (with_counted p next)
  changed-linked = subst (λ d. IsLinked (with_counted p d)) (sym l.is) (IsLinked-counted p (with_heap p.counted alone) l.linked.native_registers l.held l.linked.reflectors l.linked)

-- a native given back or touched, one more reference to it taken, and its reflector preserved
module _ (p : Inside) (l : IsLinked p) (k : ℕ) where
  pub mark-changes : (purple : Bool) {next : Counts} → next ≡ with_heap p.counted (with_buffer (counts.heap_of p.counted) (with_mark purple k p.counted.buffer)) →
      Changes p next (with_buffer (counts.heap_of p.counted) (with_mark purple k p.counted.buffer)) (with_buffer (heap_of p) (with_mark purple k p.counted.buffer))
  mark-changes purple is = record { linked = l; is = is; beside = refl; held = l.held }

  pub root-changes : {next : Counts} → next ≡ with_heap p.counted (add_ref (counts.heap_of p.counted) k) → Changes p next (add_ref (counts.heap_of p.counted) k) (add_ref (heap_of p) k)
  root-changes is = record {
    linked = l;
    is = is;
    beside = add_ref-shown p.scripts (heap_of p) (counts.heap_of p.counted) k;
    held = held-add_ref p.scripts (counts.heap_of p.counted) l.held k;
  }

  pub preserve-changes : {next : Counts} → next ≡ with_heap p.counted (set_preserved (counts.heap_of p.counted) k true) →
      Changes p next (set_preserved (counts.heap_of p.counted) k true) (set_preserved (heap_of p) k true)
  preserve-changes is = record {
    linked = l;
    is = is;
    beside = set_preserved-shown p.scripts (heap_of p) (counts.heap_of p.counted) k true;
    held = held-preserved p.scripts (counts.heap_of p.counted) l.held k true;
  }

-- Natives left

-- a call that leaves natives, of the counted heap and by names: these references are owned afterwards
pub record Leaves (p : Inside) (next : Counts) (owned : List ℕ) (call : Heap → Outcome) : Type 0 where
  pub linked : IsLinked p
  pub is : next ≡ counts.left_with p.counted (call (counts.heap_of p.counted)).heap
  pub beside : call (heap_of p) ≡ outcome_shown (heap_of p) p.scripts (call (counts.heap_of p.counted))
  pub after : IsInOrder owned (left_with (keyed_of p) (call (heap_of p)).heap)
  pub held : AreHeldThere p.scripts (call (counts.heap_of p.counted)).heap.natives

module _ {p : Inside} {next : Counts} {owned : List ℕ} {call : Heap → Outcome} (l : Leaves p next owned call) where
  abbrev v : Keyed
  v = keyed_of p

  abbrev alone : Outcome
  alone = call (counts.heap_of p.counted)

  registers-there : (y : Name) → Among y (contents v.heap.native_registers) → Among y (native_names alone.heap)
  registers-there y m = subst (λ xs. Among y xs) (native_names-shown p.scripts v.heap alone.heap)
      (subst (λ (o : Outcome). (y : Name) → Among y (contents o.heap.native_registers) → Among y (native_names o.heap)) l.beside l.after.sound.well_formed.native_registers y m)

  abbrev left_keys : List (Option ℕ)
  left_keys = map (key_left alone.heap) p.counted.keys

  same : map (named left_keys) p.native_registers.items ≡ map (named p.counted.keys) p.native_registers.items
  same = registers-same p.counted.keys left_keys p.native_registers.items
      (left-same p.counted.keys alone.heap p.native_registers.items l.linked.native_registers registers-there)

  -- the natives and the keys that are left
  pub left-keyed : keyed_of (with_counted p next) ≡ left_with v (call (heap_of p)).heap
  left-keyed =
      ap (λ d. keyed_of (with_counted p d)) l.is
      ∙ ((λ i. record {
        heap = record (shown v.heap p.scripts alone.heap) { native_registers = same i };
        keys = map (λ o. key_left-shown p.scripts v.heap alone.heap o i) p.counted.keys;
        scripts = p.scripts;
        entries = p.weak;
        walks = walks_left-agree alone.heap (shown v.heap p.scripts alone.heap) (state_left-shown p.scripts v.heap alone.heap) p.counted.keys p.counted.walks i;
        marking = p.to_scan.marking;
      })
      ∙ ap (λ (o : Outcome). left_with v o.heap) (sym l.beside))

  -- what is told of them
  pub left-told : {before after : Telling} → TellsEvents before after alone.events → TellsEvents before after (call (heap_of p)).events
  left-told {before} {after} told = subst (TellsEvents before after) (sym (ap (λ (o : Outcome). o.events) l.beside)) told

  pub left-order : IsInOrder owned (keyed_of (with_counted p next))
  left-order = subst (IsInOrder owned) (sym left-keyed) l.after

  pub left-linked : IsLinked (with_counted p next)
  left-linked = subst (λ d. IsLinked (with_counted p d)) (sym l.is)
      (IsLinked-counted p (counts.left_with p.counted alone.heap)
      (AreLive-same p.counted.keys left_keys p.native_registers.items
      (left-same p.counted.keys alone.heap p.native_registers.items l.linked.native_registers registers-there) l.linked.native_registers)
      l.held
      (ap (reflectors_left left_keys) l.linked.reflectors ∙ reflectors-left p.scripts alone.heap p.counted.keys)
      l.linked)

-- a reference to the native at a key given up, and that native unlinked
module _ (p : Inside) (l : IsLinked p) (key : ℕ) (f : (owned : List ℕ) × IsInOrder (the_number (keyed_of p) key ∷ owned) (keyed_of p)) where
  abbrev number : ℕ
  number = the_number (keyed_of p) key

  pub release-leaves : {next : Counts} → next ≡ counts.left_with p.counted (cascade (counts.heap_of p.counted) number).heap → Leaves p next f.0 (λ h. cascade h number)
  release-leaves is = record {
    linked = l;
    is = is;
    beside = cascade-shown p.scripts l.script_names (heap_of p) (counts.heap_of p.counted) number;
    after = IsInOrder-cascade f.0 (keyed_of p) number f.1;
    held = held-cascade p.scripts (counts.heap_of p.counted) l.held number;
  }

  pub unlink-leaves : {next : Counts} → next ≡ counts.left_with p.counted (unlink (counts.heap_of p.counted) number).heap → Leaves p next (number ∷ f.0) (λ h. unlink h number)
  unlink-leaves is = record {
    linked = l;
    is = is;
    beside = unlink-shown p.scripts l.script_names (heap_of p) (counts.heap_of p.counted) number;
    after = IsInOrder-unlink f.0 (keyed_of p) number f.1;
    held = held-unlink p.scripts (counts.heap_of p.counted) l.held number;
  }
