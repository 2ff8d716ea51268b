-- WHAT PLACES HOLD STAYS, whatever is written before them: registers stay, or one before the places is written.
use Rattle.std.proofs.Common.{◌≡◌, ℕ, ◌+◌, ◌≤◌, Bool, true, false, get_or, Option, Some, None, refl, sym, ◌∙◌, ap, subst, arith}
use Rattle.std.proofs.lemmas.List.{get_or-set_other}
use Rattle.cc_names.specs.declared.name.Name.{Name}
use Rattle.cc_names.specs.declared.name.Name.TheVariants as name
use Rattle.cc_names.specs.declared.register.Reg.TheVariants.{N}
use Rattle.cc_names.specs.Names.{native, object, reflector}
use Rattle.cc_model.specs.Slots.{Slots}
use Rattle.cc_model.specs.Heap.{Heap, has_reflector, register, set_register, set_slot}
use Rattle.cc_model.specs.Cascade.{take_up}
use Rattle.cc_model.specs.Effects.{hold_native, hold_script, make_native, touched, with_native, wrapped}
use Rattle.cc_model.specs.Exposure.{exposed}
use Rattle.cc_laws_heap.specs.Freeing.{SameBeside}
use Rattle.cc_laws_heap.proofs.Face.{HoldsTheSame-take_up, Leaves-let_go}
use Rattle.cc_heaps.specs.Keyed.{Keyed, left_with}
use Rattle.cc_heaps.specs.Changes.{moved_in, slot_held, stored_in, taken_from}
use Rattle.cc_heaps.proofs.ReflectingMade.{wrapped_by}
use Rattle.cc_host.specs.declared.runtime.rooted.TheConstants.{FIRST_PLACE}
use Rattle.cc_host.specs.Hosted.{spare}
use Rattle.cc_host.specs.Places.{KeepsPlaces}
use Rattle.cc_host.specs.Writing.{WritesNative, WritesScript}
use Rattle.cc_host.proofs.Exposed.{exposed-rest}
use Rattle.cc_host.proofs.Placed.{held-writes, held_script-writes}

module _ (h k : Heap) where
  -- registers hold what they held
  pub registers-places : k.native_registers ≡ h.native_registers → k.script_registers ≡ h.script_registers → KeepsPlaces h k
  registers-places e f = record {
    natives = λ p. ap (λ (rs : Slots). get_or rs (FIRST_PLACE + p) None) e;
    scripts = λ p. ap (λ (rs : Slots). get_or rs (FIRST_PLACE + p) None) f;
  }

  -- all but one native register do, before the places
  native-places : (r : ℕ) → r ≤ spare → WritesNative r h k → KeepsPlaces h k
  native-places r few w = record { natives = λ p. w.natives (FIRST_PLACE + p) (λ same. omega (arith, few, same)); scripts = λ p. w.scripts (FIRST_PLACE + p) }

  -- all but one script register
  script-places : (r : ℕ) → r ≤ spare → WritesScript r h k → KeepsPlaces h k
  script-places r few w = record { natives = λ p. w.natives (FIRST_PLACE + p); scripts = λ p. w.scripts (FIRST_PLACE + p) (λ same. omega (arith, few, same)) }

pub places-same : (h : Heap) → KeepsPlaces h h
places-same h = registers-places h h refl refl

pub places-then : (a b c : Heap) → KeepsPlaces a b → KeepsPlaces b c → KeepsPlaces a c
places-then a b c f g = record {
  natives = λ p. g.natives p ∙ f.natives p;
  scripts = λ p. g.scripts p ∙ f.scripts p;
}

-- of heaps that are another's
pub places-as : (a b c : Heap) → c ≡ b → KeepsPlaces a b → KeepsPlaces a c
places-as a b c is f = subst (KeepsPlaces a) (sym is) f

-- round a change
pub places-round : (a b c d : Heap) → KeepsPlaces a b → KeepsPlaces b c → KeepsPlaces c d → KeepsPlaces a d
places-round a b c d f g e = places-then a c d (places-then a b c f g) e

-- What is given up, or taken up, leaves registers.
module _ (h : Heap) where
  raised : (x : Option Name) → SameBeside h (take_up h x)
  raised x = (HoldsTheSame-take_up h x).beside

  -- a native made
  pub make_native-places : (r n : ℕ) → r ≤ spare → KeepsPlaces h (make_native h r n).heap
  unfolding make_native
  make_native-places r n few =
      let x : Option Name = Some (native (h.natives_made + 1)) in
      let left = (Leaves-let_go (set_register (with_native h n) (N r) x) (register (with_native h n) (N r))).beside in
      native-places h (make_native h r n).heap r few (record {
        natives = λ q apart. ap (λ (rs : Slots). get_or rs q None) left.native_registers ∙ get_or-set_other h.native_registers r q x None apart;
        scripts = λ q. ap (λ (rs : Slots). get_or rs q None) left.script_registers;
      })

  -- a slot of a native written
  stored_in-places : (k i : ℕ) (x : Option Name) → KeepsPlaces h (stored_in h k i x).heap
  stored_in-places k i x =
      let left = (Leaves-let_go (set_slot (take_up h x) (Some (native k)) i x) (slot_held (take_up h x) k i)).beside in
      registers-places h (stored_in h k i x).heap (left.native_registers ∙ (raised x).native_registers) (left.script_registers ∙ (raised x).script_registers)

-- What is exposed leaves registers.
module _ (h : Heap) where
  exposed-natives : (x : Option Name) → (exposed h x).native_registers ≡ h.native_registers
  exposed-natives x = ap (λ (k : Heap). k.native_registers) (exposed-rest h x)

  exposed-scripts : (x : Option Name) → (exposed h x).script_registers ≡ h.script_registers
  exposed-scripts x = ap (λ (k : Heap). k.script_registers) (exposed-rest h x)

  pub exposed-places : (x : Option Name) → KeepsPlaces h (exposed h x)
  exposed-places x = registers-places h (exposed h x) (exposed-natives x) (exposed-scripts x)

  touched-places : (x : Option Name) → KeepsPlaces h (touched h x)
  touched-places None = places-same h
  touched-places (Some (name.Native k)) = registers-places h (touched h (Some (name.Native k))) refl refl
  touched-places (Some (name.Script k)) = exposed-places (Some (object k.0))
  touched-places (Some (name.Reflector k)) = exposed-places (Some (reflector k.0))

  -- what a slot of a native holds moved
  moved_in-places : (k i m j : ℕ) → KeepsPlaces h (moved_in h k i m j).heap
  moved_in-places k i m j =
      let x = slot_held h m j in
      let taken = taken_from h m j in
      let left = (Leaves-let_go (set_slot taken (Some (native k)) i x) (slot_held taken k i)).beside in
      places-then h (touched h x) (moved_in h k i m j).heap (touched-places x)
      (registers-places (touched h x) (moved_in h k i m j).heap left.native_registers left.script_registers)

  -- a script register written
  pub hold_script-places : (r : ℕ) (x : Option Name) → r ≤ spare → KeepsPlaces h (hold_script h r x)
  hold_script-places r x few = script-places h (hold_script h r x) r few (held_script-writes h r x)

  -- a native wrapped
  pub wrapped-places : (k : ℕ) → KeepsPlaces h (wrapped h (Some (native k)))
  wrapped-places k = go (has_reflector h k)
    where
      go : (b : Bool) → KeepsPlaces h (wrapped_by h k b)
      go true = exposed-places (Some (reflector k))
      go false = registers-places h (wrapped_by h k false) refl refl

-- By what the heaps' calls come to

pub held-places : (v w : Keyed) (r : ℕ) (x : Option Name) → r ≤ spare → w ≡ left_with v (hold_native v.heap r x).heap → KeepsPlaces v.heap w.heap
held-places v w r x few is = native-places v.heap w.heap r few (held-writes v w r x is)

pub stored-places : (v w : Keyed) (k i : ℕ) (x : Option Name) → w ≡ left_with v (stored_in v.heap k i x).heap → KeepsPlaces v.heap w.heap
stored-places v w k i x is = places-as v.heap (stored_in v.heap k i x).heap w.heap (ap (λ (u : Keyed). u.heap) is) (stored_in-places v.heap k i x)

pub moved-places : (h g : Heap) (k i m j : ℕ) → g ≡ (moved_in h k i m j).heap → KeepsPlaces h g
moved-places h g k i m j is = places-as h (moved_in h k i m j).heap g is (moved_in-places h k i m j)
