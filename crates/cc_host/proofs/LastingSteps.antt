-- WHAT EACH CHANGE LEAVES OF NATIVES: each was there, unlinked or not as it is, or was made; and numbers made never fall.
use Rattle.std.proofs.Common.{◌≡◌, ℕ, ◌+◌, ◌≤◌, Bool, true, false, List, [], Option, Some, None, refl, sym, ◌∙◌, ap, subst, arith}
use Rattle.cc_names.specs.declared.name.Name.{Name}
use Rattle.cc_names.specs.declared.kind.Kind.{Kind}
use Rattle.cc_names.specs.declared.kind.Kind.TheVariants.{Proxy, Reflector}
use Rattle.cc_names.specs.declared.register.Reg.TheVariants.{N, S}
use Rattle.cc_names.specs.Names.{native, reflector}
use Rattle.cc_model.specs.Slots.{reflector_slots}
use Rattle.cc_model.specs.Banks.{of_natives, of_scripts}
use Rattle.cc_model.specs.Given.{is_usable}
use Rattle.cc_model.specs.Heap.{Heap, HeapNative, has_reflector, lengthen, preserve, set_register, set_slot}
use Rattle.cc_model.specs.Cascade.{take_up}
use Rattle.cc_model.specs.Exposure.{exposed}
use Rattle.cc_model.specs.Effects.{hold_native, hold_script, make_object, make_proxy, root_at, set_entry, touched, with_reflector, with_script, wrapped}
use Rattle.cc_laws_heap.proofs.Face.{IsWellFormed-distinct}
use Rattle.cc_laws_told.specs.Lasting.{KeepsEnded}
use Rattle.cc_laws_told.proofs.Face.{Stays, Stays-add_ref, Stays-exposed, Stays-hold, Stays-lengthen, Stays-let_go, Stays-natives, Stays-preserve, Stays-refl, Stays-register, Stays-slot, Stays-take_up, Stays-then, Stays-touched, ended-stays, ended-then}
use Rattle.cc_heaps.specs.Keyed.{Keyed, IsInOrder, changed_to, left_with}
use Rattle.cc_heaps.specs.Walking.{unwalked}
use Rattle.cc_model.specs.Skipping.{forgotten}
use Rattle.cc_heaps.specs.Changes.{moved_in, native_name, slot_held, stored_in, taken_from, written_in}
use Rattle.cc_heaps.proofs.ReflectingMade.{wrapped_by}
use Rattle.cc_names.specs.declared.number.NKey.{NKey}
use Rattle.cc_host.specs.Exposing.{Exposes}
use Rattle.cc_host.specs.Holding.{IsHeld, IsLetGo}
use Rattle.cc_host.specs.Hosted.{spare}

-- of heaps that are another's
pub stays-as : (a b c : Heap) → c ≡ b → Stays a b → Stays a c
stays-as a b c is s = subst (Stays a) (sym is) s

-- WHERE NATIVES STAY SO, those that have ended do
pub stays-ended : (v w : Keyed) → IsInOrder [] v → Stays v.heap w.heap → KeepsEnded v.heap w.heap
stays-ended v w order s = ended-stays v.heap w.heap (IsWellFormed-distinct v.heap order.sound.well_formed) s

-- Natives

module _ (h : Heap) where
  -- a slot of a native written
  written-stays : (k i : ℕ) (x : Option Name) → Stays h (written_in h k i x).heap
  written-stays k i x = Stays-then h (set_slot h (Some (native k)) i x) (written_in h k i x).heap (Stays-slot h (Some (native k)) i x)
      (Stays-let_go (set_slot h (Some (native k)) i x) (slot_held h k i))

stored_in-stays : (h : Heap) (k i : ℕ) (x : Option Name) → Stays h (stored_in h k i x).heap
stored_in-stays h k i x = Stays-then h (take_up h x) (stored_in h k i x).heap (Stays-take_up h x) (written-stays (take_up h x) k i x)

-- what a slot of one holds moved
moved_in-stays : (h : Heap) (k i m j : ℕ) → Stays h (moved_in h k i m j).heap
moved_in-stays h k i m j =
    let x = slot_held h m j in
    let taken = taken_from h m j in
    Stays-then h taken (moved_in h k i m j).heap (Stays-then h (touched h x) taken (Stays-touched h x) (Stays-slot (touched h x) (Some (native m)) j None))
    (written-stays taken k i x)

-- one wrapped
wrapped-stays : (h : Heap) (k : ℕ) → Stays h (wrapped h (Some (native k)))
wrapped-stays h k = go (has_reflector h k)
  where
    go : (b : Bool) → Stays h (wrapped_by h k b)
    go true = Stays-exposed h (Some (reflector k))
    go false =
        let made : Heap = with_script h (reflector k) Reflector reflector_slots None in
        Stays-then h made (with_reflector h k) (Stays-natives h made refl refl refl) (Stays-add_ref made k)

module _ (v w : Keyed) where
  pub held-stays : (r : ℕ) (x : Option Name) → w ≡ left_with v (hold_native v.heap r x).heap → Stays v.heap w.heap
  held-stays r x is = stays-as v.heap (hold_native v.heap r x).heap w.heap (ap (λ (u : Keyed). u.heap) is) (Stays-hold v.heap r x)

  pub hold-stays : (key : NKey) → IsHeld key v w → Stays v.heap w.heap
  hold-stays key h =
      let x = native_name v (Some key) in
      stays-as v.heap (set_register (take_up v.heap x) (N spare) x) w.heap h.heap
      (Stays-then v.heap (take_up v.heap x) (set_register (take_up v.heap x) (N spare) x) (Stays-take_up v.heap x) (Stays-register (take_up v.heap x) (N spare) x))

  pub let_go-stays : IsLetGo v w → Stays v.heap w.heap
  let_go-stays l = held-stays spare None l.given_up

  pub stored-stays : (k i : ℕ) (x : Option Name) → w ≡ left_with v (stored_in v.heap k i x).heap → Stays v.heap w.heap
  stored-stays k i x is = stays-as v.heap (stored_in v.heap k i x).heap w.heap (ap (λ (u : Keyed). u.heap) is) (stored_in-stays v.heap k i x)

  pub moved-stays : (k i m j : ℕ) → w.heap ≡ (moved_in v.heap k i m j).heap → Stays v.heap w.heap
  moved-stays k i m j is = stays-as v.heap (moved_in v.heap k i m j).heap w.heap is (moved_in-stays v.heap k i m j)

  pub wrap-stays : (k : ℕ) → w.heap ≡ wrapped v.heap (Some (native k)) → Stays v.heap w.heap
  wrap-stays k is = stays-as v.heap (wrapped v.heap (Some (native k))) w.heap is (wrapped-stays v.heap k)

  pub same-stays : w ≡ v → Stays v.heap w.heap
  same-stays is = stays-as v.heap v.heap w.heap (ap (λ (u : Keyed). u.heap) is) (Stays-refl v.heap)

-- while one is held, and let go again
pub around-ended : {key : NKey} (a b c d : Keyed) → IsInOrder [] a → IsHeld key a b → Stays b.heap c.heap → IsLetGo c d → KeepsEnded a.heap d.heap
around-ended {key} a b c d order held s gone = stays-ended a d order
    (Stays-then a.heap c.heap d.heap (Stays-then a.heap b.heap c.heap (hold-stays a b key held) s) (let_go-stays c d gone))

-- a register that the bank was lengthened for
pub place-ended : (v mid w : Keyed) (r : ℕ) (x : Option Name) → IsInOrder [] v → mid.heap ≡ lengthen v.heap of_natives (r + 1) → w ≡ left_with mid (hold_native mid.heap r x).heap → KeepsEnded v.heap w.heap
place-ended v mid w r x order longer is = stays-ended v w order (Stays-then v.heap mid.heap w.heap
    (stays-as v.heap (lengthen v.heap of_natives (r + 1)) mid.heap longer (Stays-lengthen v.heap of_natives (r + 1)))
    (held-stays mid w r x is))

-- Script objects

-- an exposure
pub exposes-stays : {premise : Type 0} (v w : Keyed) → Exposes premise v w → Stays v.heap w.heap
exposes-stays v w e = Stays-natives v.heap w.heap (ap (λ (h : Heap). h.natives) e.rest) (ap (λ (h : Heap). h.natives_made) e.rest) (ap (λ (h : Heap). h.scripts_made) e.rest)

-- a script register written, what comes into it exposed
pub hold_script-stays : (h : Heap) (r : ℕ) (x : Option Name) → Stays h (hold_script h r x)
hold_script-stays h r x = Stays-then h (exposed h x) (hold_script h r x) (Stays-exposed h x) (Stays-register (exposed h x) (S r) x)

-- one behind the bank
pub root_script-stays : (h : Heap) (r : ℕ) (x : Option Name) → Stays h (root_at h (S r) x).heap
root_script-stays h r x =
    let long : Heap = lengthen h of_scripts (r + 1) in
    Stays-then h long (root_at h (S r) x).heap (Stays-lengthen h of_scripts (r + 1)) (hold_script-stays long r x)

-- an entry set or taken out
pub entry-stays : (h : Heap) (m k v : Option Name) → Stays h (set_entry h m k v)
entry-stays h (Some m) (Some k) (Some v) =
    let p : Stays h (preserve h (Some k)) = Stays-preserve h (Some k) in
    record { natives = p.natives; natives_made = p.natives_made; scripts_made = p.scripts_made }
entry-stays h (Some m) (Some k) None = Stays-natives h (set_entry h (Some m) (Some k) None) refl refl refl
entry-stays h (Some m) None v = Stays-refl h
entry-stays h None k v = Stays-refl h

-- Script objects made

-- where natives are the same, and no fewer script objects were made
natives-ended : (h k : Heap) → k.natives ≡ h.natives → k.natives_made ≡ h.natives_made → h.scripts_made ≤ k.scripts_made → KeepsEnded h k
natives-ended h k natives made scripts = record {
  natives_made = omega (arith, made);
  scripts_made = scripts;
  ended = λ j few u. ap (λ (ns : List HeapNative). is_usable (record h { natives = ns }) (native j)) natives ∙ u;
}

pub object-ended : (h : Heap) (r : ℕ) (kind : Kind) (n : ℕ) (d : Option Name) → KeepsEnded h (make_object h r kind n d)
object-ended h r kind n d = natives-ended h (make_object h r kind n d) refl refl (omega arith)

pub proxy-ended : (v w : Keyed) (r : ℕ) (x : Option Name) → IsInOrder [] v → w.heap ≡ make_proxy v.heap r x → KeepsEnded v.heap w.heap
proxy-ended v w r x order is = subst (KeepsEnded v.heap) (sym is) (go x)
  where
    go : (x : Option Name) → KeepsEnded v.heap (make_proxy v.heap r x)
    go None = ended-stays v.heap v.heap (IsWellFormed-distinct v.heap order.sound.well_formed) (Stays-refl v.heap)
    go (Some x) =
        let k : Heap = preserve v.heap (Some x) in
        ended-then v.heap k (make_object k r Proxy 0 (Some x))
        (ended-stays v.heap k (IsWellFormed-distinct v.heap order.sound.well_formed) (Stays-preserve v.heap (Some x)))
        (object-ended k r Proxy 0 (Some x))

-- Suspects forgotten

forgotten-stays : (h : Heap) → Stays h (forgotten h)
unfolding forgotten
forgotten-stays h = Stays-natives h (forgotten h) refl refl refl

pub forgotten-ended : (v w : Keyed) → IsInOrder [] v → w ≡ unwalked (changed_to v (forgotten v.heap)) → KeepsEnded v.heap w.heap
forgotten-ended v w order is = stays-ended v w order (stays-as v.heap (forgotten v.heap) w.heap (ap (λ (u : Keyed). u.heap) is) (forgotten-stays v.heap))
