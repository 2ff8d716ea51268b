-- THE PARTS STAY LINKED as their counted heap changes: what registers and slots hold is there, and natives that are left
-- have their reflectors still.
use Rattle.std.proofs.Common.{arith, ◌≡◌, ℕ, Bool, true, false, List, [], ◌∷◌, map, set, Option, Some, None, refl, ap, ⊎_elim, if◌then◌else◌}
use Rattle.std.specs.Option.{is_some, option_and_then, option_to_list}
use Rattle.cc_lists.specs.Members.{Among}
use Rattle.cc_lists.proofs.ListWrites.{Among-flat_map_set}
use Rattle.cc_names.specs.declared.name.Name.{Name}
use Rattle.cc_model.specs.Slots.{Slots, contents}
use Rattle.cc_model.specs.Heap.{Heap, HeapNative, native_at, with_native_slot, change_native, set_preserved}
use Rattle.cc_model.specs.Cascade.{add_ref, cascade}
use Rattle.cc_model.specs.End.{unlink}
use Rattle.cc_counted.specs.Counts.{Counts, key_left, reflectors_left}
use Rattle.cc_script.specs.Objects.{Object}
use Rattle.cc_heaps.specs.declared.heaps.Heaps.TheInside.{Inside}
use Rattle.cc_heaps.specs.Keyed.{reflector_key, reflectors_by}
use Rattle.cc_heaps.specs.Named.{IsHeldThere}
use Rattle.cc_heaps.specs.Fields.{IsLinked}
use Rattle.cc_heaps.proofs.EachNative.{IsOfEach, each-add_ref, each-cascade, each-changed, each-unlink}
use Rattle.cc_heaps.proofs.Keying.{AreHeldThere}
use Rattle.cc_heaps.proofs.Registers.{AreLive}

-- the parts with another counted heap
abbrev pub with_counted : Inside → Counts → Inside
with_counted p c = record p { counted = c }

-- they are linked where registers and slots of natives are, and each native has its reflector
pub IsLinked-counted : (p : Inside) (c : Counts) → AreLive c.keys p.native_registers.items → AreHeldThere p.scripts c.natives →
    c.reflectors ≡ reflectors_by p.scripts c.keys → IsLinked p → IsLinked (with_counted p c)
IsLinked-counted p c live held reflectors l = grind arith

-- natives that left took the keys of their reflectors along
pub reflectors-left : (objects : List Object) (h : Heap) (keys : List (Option ℕ)) →
    reflectors_left (map (key_left h) keys) (reflectors_by objects keys) ≡ reflectors_by objects (map (key_left h) keys)
reflectors-left objects h [] = refl
reflectors-left objects h (None ∷ keys) = ap (λ rs. None ∷ rs) (reflectors-left objects h keys)
reflectors-left objects h (Some k ∷ keys) = go (is_some (native_at h k)) (reflectors-left objects h keys)
  where
    go : (b : Bool) → reflectors_left (map (key_left h) keys) (reflectors_by objects keys) ≡ reflectors_by objects (map (key_left h) keys) →
        reflectors_left ((if b then Some k else None) ∷ map (key_left h) keys) (reflector_key objects k ∷ reflectors_by objects keys) ≡
        option_and_then (reflector_key objects) (if b then Some k else None) ∷ reflectors_by objects (map (key_left h) keys)
    go true e = ap (λ rs. reflector_key objects k ∷ rs) e
    go false e = ap (λ rs. None ∷ rs) e

-- What natives hold

-- a native, its count aside, holds what is there
abbrev pub HoldsThere : List Object → HeapNative → Type 0
HoldsThere objects u = (x : Name) → Among x (contents u.slots) → IsHeldThere objects x

each-held : (objects : List Object) (ns : List HeapNative) → AreHeldThere objects ns → IsOfEach (HoldsThere objects) ns
each-held objects ns held n m x a = held n x m a

held-each : (objects : List Object) (ns : List HeapNative) → IsOfEach (HoldsThere objects) ns → AreHeldThere objects ns
held-each objects ns each n x m a = each n m x a

-- slots that are written hold what they held, and what was written
HoldsThere-set : (objects : List Object) (slots : Slots) (i : ℕ) (y : Option Name) → ((x : Name) → Among x (option_to_list y) → IsHeldThere objects x) →
    ((x : Name) → Among x (contents slots) → IsHeldThere objects x) → (x : Name) → Among x (contents (set slots i y)) → IsHeldThere objects x
HoldsThere-set objects slots i y new old x m = ⊎_elim (new x) (old x) (Among-flat_map_set option_to_list slots i y x m)

module _ (objects : List Object) (g : Heap) (held : AreHeldThere objects g.natives) where
  abbrev Q : HeapNative → Type 0
  Q = HoldsThere objects

  pub held-add_ref : (k : ℕ) → AreHeldThere objects (add_ref g k).natives
  held-add_ref k = held-each objects (add_ref g k).natives (each-add_ref Q g k (each-held objects g.natives held))

  pub held-cascade : (k : ℕ) → AreHeldThere objects (cascade g k).heap.natives
  held-cascade k = held-each objects (cascade g k).heap.natives (each-cascade Q g k (each-held objects g.natives held))

  pub held-unlink : (k : ℕ) → AreHeldThere objects (unlink g k).heap.natives
  held-unlink k = held-each objects (unlink g k).heap.natives
      (each-unlink Q (λ u i h. HoldsThere-set objects u.slots i None (λ x m. absurd m) h) (λ u h. h) g k (each-held objects g.natives held))

  pub held-slot : (k i : ℕ) (y : Option Name) → ((x : Name) → Among x (option_to_list y) → IsHeldThere objects x) →
      AreHeldThere objects (change_native g k (with_native_slot i y)).natives
  held-slot k i y new = held-each objects (change_native g k (with_native_slot i y)).natives
      (each-changed Q g k (with_native_slot i y) (λ n h. HoldsThere-set objects n.slots i y new h) (each-held objects g.natives held))

  pub held-preserved : (k : ℕ) (on : Bool) → AreHeldThere objects (set_preserved g k on).natives
  held-preserved k on = held-each objects (set_preserved g k on).natives
      (each-changed Q g k (λ n. record n { preserved = on }) (λ n h. h) (each-held objects g.natives held))
