-- HEAPS THAT ARE ALIKE: the same but for counts and the buffer. Registers and slots hold the same, and names are there as before.
use Rattle.std.proofs.Common.{arith, ◌≡◌, ℕ, ◌+◌, map, Option, option_map, refl, sym, ◌∙◌, ap, ◌==◌}
use Rattle.std.specs.List.{find}
use Rattle.std.proofs.lemmas.Simd.{map-map}
use Rattle.cc_names.specs.declared.name.Name.{Name}
use Rattle.cc_names.specs.declared.register.Reg.{Reg}
use Rattle.cc_names.specs.Names.{native}
use Rattle.cc_model.specs.Checks.{slots_at}
use Rattle.cc_model.specs.Heap.{Heap, HeapNative, HeapScript, native_at, slots_in, register, objects_of}
use Rattle.cc_model.specs.Cascade.{add_ref, take_up}
use Rattle.cc_model.specs.WellFormed.{native_names, script_names, names_there}
use Rattle.cc_laws_heap.specs.Freeing.{uncounted, SameBeside}
use Rattle.cc_lists.proofs.Searching.{find-map}
use Rattle.cc_laws_heap.proofs.Natives.{uncounted-change}
use Rattle.cc_laws_heap.proofs.Beside.{SameBeside-with, SameBeside-refl}

-- the second heaps differ from the first in counts and the buffer alone
pub record HoldsTheSame (h g : Heap) : Type 0 where
  pub beside : SameBeside h g
  pub natives : map uncounted g.natives ≡ map uncounted h.natives

-- heaps hold the same as themselves
HoldsTheSame-refl : (h : Heap) → HoldsTheSame h h
HoldsTheSame-refl h = grind (arith, SameBeside-refl)

-- a native with one reference more
abbrev pub raise_native : HeapNative → HeapNative
raise_native n = record n { count = n.count + 1 }

-- a reference taken changes counts and the buffer alone
pub HoldsTheSame-add_ref : (h : Heap) (k : ℕ) → HoldsTheSame h (add_ref h k)
HoldsTheSame-add_ref h k = grind (arith, SameBeside-with, uncounted-change)

-- and so does a reference to what a register or a slot is to hold
pub HoldsTheSame-take_up : (h : Heap) (x : Option Name) → HoldsTheSame h (take_up h x)
HoldsTheSame-take_up h x = grind (arith, HoldsTheSame-add_ref, HoldsTheSame-refl)

module _ (h g : Heap) (a : HoldsTheSame h g) where
  -- the same natives are there
  pub native_names-alike : native_names g ≡ native_names h
  native_names-alike = named g ∙ (ap (λ us. map (λ (u : HeapNative). native u.number) us) a.natives ∙ sym (named h))
    where
      named : (f : Heap) → native_names f ≡ map (λ (u : HeapNative). native u.number) (map uncounted f.natives)
      named f = sym (map-map (λ (u : HeapNative). native u.number) uncounted f.natives)

  -- the same script objects are there
  pub script_names-alike : script_names g ≡ script_names h
  script_names-alike = ap (λ os. map (λ (o : HeapScript). o.name) os) a.beside.scripts

  -- the same objects are there
  pub names_there-alike : names_there g ≡ names_there h
  names_there-alike = rw (native_names-alike, script_names-alike) refl

  -- registers hold the same
  pub register-alike : (r : Reg) → register g r ≡ register h r
  register-alike r = grind arith

  -- natives have the same slots
  native_slots-alike : (k : ℕ) → option_map (λ (n : HeapNative). n.slots) (native_at g k) ≡ option_map (λ (n : HeapNative). n.slots) (native_at h k)
  native_slots-alike k = found g ∙ (ap (λ us. option_map (λ (u : HeapNative). u.slots) (find (λ (u : HeapNative). u.number == k) us)) a.natives ∙ sym (found h))
    where
      slots : (o : Option HeapNative) → option_map (λ (n : HeapNative). n.slots) o ≡ option_map (λ (u : HeapNative). u.slots) (option_map uncounted o)
      slots o = grind arith

      found : (f : Heap) → option_map (λ (n : HeapNative). n.slots) (native_at f k) ≡
          option_map (λ (u : HeapNative). u.slots) (find (λ (u : HeapNative). u.number == k) (map uncounted f.natives))
      found f = grind (arith, find-map)

  -- objects have the same slots
  pub slots_in-alike : (x : Name) → slots_in g x ≡ slots_in h x
  slots_in-alike x = grind (arith, native_slots-alike)

  -- what a register holds has the same slots
  pub slots_at-alike : (r : Reg) → slots_at (objects_of g) r ≡ slots_at (objects_of h) r
  slots_at-alike r = grind (arith, register-alike, slots_in-alike)
