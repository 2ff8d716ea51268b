-- A SLOT OF A NATIVE READ AND WRITTEN, where the rest of the parts stands beside the counted heap.
use Rattle.cc_lists.proofs.Held.{is_some-map}
use Rattle.std.proofs.Common.{◌≡◌, ℕ, ◌<◌, List, [], ◌++◌, length, get_or, Option, Some, None, IsTrue, option_map, refl, sym, ◌∙◌, ap, subst, arith}
use Rattle.std.proofs.Math.ListN.{get_or-map}
use Rattle.std.proofs.lemmas.List.{length-map}
use Rattle.cc_names.specs.declared.name.Name.{Name}
use Rattle.cc_names.specs.Names.{native, object}
use Rattle.cc_model.specs.Slots.{Slots}
use Rattle.cc_model.specs.Checks.{slots_or_none}
use Rattle.cc_model.specs.Heap.{Heap, HeapNative, native_at, set_slot}
use Rattle.cc_model.specs.Cascade.{take_up}
use Rattle.cc_model.specs.End.{slots_now}
use Rattle.cc_laws_heap.proofs.Face.{HoldsTheSame-take_up, contents-get, native_at-there, slots_in-alike}
use Rattle.cc_laws_heap.specs.Sound.{numbers_of}
use Rattle.cc_counted.specs.declared.held.Held.{Held}
use Rattle.cc_counted.specs.declared.held.Held.TheVariants as held
use Rattle.cc_counted.specs.Counts.{Counts, is_live, name_of, slots_at, with_heap}
use Rattle.cc_counted.specs.Counts as counts
use Rattle.cc_heaps.specs.declared.heaps.Heaps.TheInside.{Inside}
use Rattle.cc_heaps.specs.Keyed.{Keyed, IsInOrder, number_at, changed_to}
use Rattle.cc_heaps.specs.Changes.{IsThere, held_name}
use Rattle.cc_heaps.specs.Named.{IsHeldThere}
use Rattle.cc_heaps.specs.Fields.{keyed_of, IsLinked}
use Rattle.cc_heaps.proofs.Calls.{Changes, changed-keyed, changed-linked}
use Rattle.cc_heaps.proofs.Content.{held-in, held-named, new-held}
use Rattle.cc_heaps.proofs.Linked.{held-slot, with_counted}
use Rattle.cc_heaps.proofs.Naming.{name_in, named_slots, native_at-shown, set_slot-shown, slots_now-named}
use Rattle.cc_heaps.proofs.Ordered.{IsInOrder-slot}

-- a native that has a slot is there
pub has-slot : (o : Option HeapNative) (i : ℕ) → i < length (slots_now o) → (n : HeapNative) × (o ≡ Some n)
has-slot o i within = grind arith

-- what slots hold is read alike once a reference is taken
slots-by : (o : Option HeapNative) (ss : Option Slots) → option_map (λ (n : HeapNative). n.slots) o ≡ ss → slots_now o ≡ slots_or_none ss
slots-by o ss e = grind arith

pub slots-taken : (h : Heap) (x : Option Name) (k : ℕ) → slots_now (native_at (take_up h x) k) ≡ slots_now (native_at h k)
slots-taken h x k =
    slots-by (native_at (take_up h x) k) (option_map (λ (n : HeapNative). n.slots) (native_at h k)) (slots_in-alike h (take_up h x) (HoldsTheSame-take_up h x) (native k))
    ∙ sym (slots-by (native_at h k) (option_map (λ (n : HeapNative). n.slots) (native_at h k)) refl)

module _ (p : Inside) (l : IsLinked p) (k : ℕ) where
  abbrev v : Keyed
  v = keyed_of p

  abbrev alone : Heap
  alone = counts.heap_of p.counted

  -- its slots under their names
  slots-shown : slots_now (native_at v.heap k) ≡ named_slots p.scripts (slots_at (native_at alone k))
  slots-shown = ap slots_now (native_at-shown p.scripts v.heap alone k) ∙ slots_now-named p.scripts l.script_names (native_at alone k)

  pub slots-length : length (slots_now (native_at v.heap k)) ≡ length (slots_at (native_at alone k))
  slots-length = ap length slots-shown ∙ length-map (slots_at (native_at alone k)) (name_in p.scripts)

  module _ (i : ℕ) (was : Option Held) (name : name_of p.counted was ≡ get_or (slots_at (native_at alone k)) i None) where
    -- what a slot holds, by name
    pub read-named : held_name v was ≡ get_or (slots_now (native_at v.heap k)) i None
    read-named =
        sym (held-named p was)
        ∙ (ap (name_in p.scripts) name
        ∙ (sym (get_or-map (name_in p.scripts) (slots_at (native_at alone k)) i None)
        ∙ ap (λ ss. get_or ss i None) (sym slots-shown)))

  -- what a slot holds is there
  held-there : (o : Option HeapNative) → native_at alone k ≡ o → (i : ℕ) (x : Name) → Some x ≡ get_or (slots_at o) i None → IsHeldThere p.scripts x
  held-there None e i x f = absurd (contents-get [] i x (sym f))
  held-there (Some n) e i x f = l.held n x (native_at-there alone k n e) (contents-get n.slots i x (sym f))

  pub read-there : (i : ℕ) (was : Option Held) → name_of p.counted was ≡ get_or (slots_at (native_at alone k)) i None → IsTrue (is_live p.counted was) → IsThere v was
  read-there i None name live = tt
  read-there i (Some (held.Native key)) name live = sym (is_some-map native (number_at v key.0)) ∙ live
  read-there i (Some (held.Script key)) name live = held-there (native_at alone k) refl i (object key.0) name

  -- A slot written
  module _ (i : ℕ) (x was : Option Held) (next : Counts) (is : next ≡ with_heap p.counted (set_slot alone (Some (native k)) i (name_of p.counted x)))
      (there : IsThere v x) where
    written : Changes p next (set_slot alone (Some (native k)) i (name_of p.counted x)) (set_slot v.heap (Some (native k)) i (held_name v x))
    written = record {
      linked = l;
      is = is;
      beside = sym (ap (set_slot v.heap (Some (native k)) i) (held-named p x)) ∙ set_slot-shown p.scripts v.heap alone k i (name_of p.counted x);
      held = held-slot p.scripts alone l.held k i (name_of p.counted x) (new-held p x there);
    }

    pub written-keyed : keyed_of (with_counted p next) ≡ changed_to v (set_slot v.heap (Some (native k)) i (held_name v x))
    written-keyed = changed-keyed written

    pub written-linked : IsLinked (with_counted p next)
    written-linked = changed-linked written

    pub was-there : IsThere v was → IsThere (keyed_of (with_counted p next)) was
    was-there held = subst (λ (w : Keyed). IsThere w was) (sym written-keyed) held

    pub written-order : (owned : List ℕ) → i < length (slots_now (native_at v.heap k)) → held_name v was ≡ get_or (slots_now (native_at v.heap k)) i None →
        IsInOrder (numbers_of (held_name v x) ++ owned) v → IsInOrder (numbers_of (held_name (keyed_of (with_counted p next)) was) ++ owned) (keyed_of (with_counted p next))
    written-order owned within read o =
        let n = has-slot (native_at v.heap k) i within in
        subst (λ (w : Keyed). IsInOrder (numbers_of (held_name w was) ++ owned) w) (sym written-keyed)
        (subst (λ y. IsInOrder (numbers_of y ++ owned) (changed_to v (set_slot v.heap (Some (native k)) i (held_name v x))))
        (sym (read ∙ ap (λ m. get_or (slots_now m) i None) n.1))
        (IsInOrder-slot owned v k i n.0 (held_name v x) n.1 (subst (λ m. i < length (slots_now m)) n.1 within)
        (held-in (numbers_of (held_name v x) ++ owned) v x o) o))
