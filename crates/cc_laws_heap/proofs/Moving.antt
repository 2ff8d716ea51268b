-- WHAT A SLOT HOLDS TAKEN OUT OF IT AND PUT INTO ANOTHER: it is touched, the slot is emptied, and its reference is in hand; then the other
-- slot takes it, and gives up what it held.
use Rattle.std.proofs.Common.{arith, ◌≡◌, ℕ, ◌<◌, false, List, ◌++◌, length, Option, Some, None, refl, sym, ◌∙◌, ap, subst, inl, slice_index_or, option_to_list}
use Rattle.std.proofs.lemmas.List.{length-set}
use Rattle.cc_lists.specs.Members.{Among}
use Rattle.cc_names.specs.declared.name.Name.{Name}
use Rattle.cc_names.specs.declared.name.Name.TheVariants as name
use Rattle.cc_names.specs.declared.register.Reg.TheVariants.{N}
use Rattle.cc_names.specs.Names.{native, object, reflector}
use Rattle.cc_model.specs.Slots.{Slots}
use Rattle.cc_model.specs.Checks.{slots_at}
use Rattle.cc_model.specs.Heap.{Heap, HeapNative, Outcome, native_at, objects_of, with_mark}
use Rattle.cc_model.specs.Exposure.{exposed}
use Rattle.cc_model.specs.End.{slots_now}
use Rattle.cc_model.specs.Effects.{touched, taken_out, put_in_slot, move_slot}
use Rattle.cc_model.specs.WellFormed.{IsWellFormed, names_there}
use Rattle.cc_laws_heap.specs.Sound.{IsSound, numbers_of}
use Rattle.cc_laws_heap.proofs.Natives.{native_at-there, native_at-change_same, native_at-change_other, native_names-change}
use Rattle.cc_laws_heap.proofs.References.{native-there}
use Rattle.cc_laws_heap.proofs.Kept.{IsWellFormed-buffer}
use Rattle.cc_laws_heap.proofs.Owning.{IsIn, IsBuffer-touch}
use Rattle.cc_laws_heap.proofs.Writes.{contents-at, native_slot-sound}
use Rattle.cc_laws_heap.proofs.ScriptsKept.{exposed-sound, script_names-exposed}
use Rattle.cc_laws_heap.proofs.NativeCommands.{HasSlot, HasSlot-from, put_in_slot-sound}

-- What is touched

-- it leaves natives as they are
pub touched-natives : (h : Heap) (x : Option Name) → (touched h x).natives ≡ h.natives
unfolding exposed
touched-natives h x = grind arith

-- and native registers
pub touched-registers : (h : Heap) (x : Option Name) → (touched h x).native_registers ≡ h.native_registers
unfolding exposed
touched-registers h x = grind arith

-- and what is there
pub touched-names : (h : Heap) (x : Option Name) → IsWellFormed h → names_there (touched h x) ≡ names_there h
touched-names h x w = grind (arith, touched-natives, script_names-exposed)

-- and the heaps sound
pub touched-sound : (owned : List ℕ) (h : Heap) (x : Option Name) → IsIn (names_there h) x → IsSound owned h → IsSound owned (touched h x)
touched-sound owned h None there s = s
touched-sound owned h (Some (name.Native k)) there s = record {
  well_formed = IsWellFormed-buffer h (with_mark false k.0 h.buffer) s.well_formed
      (IsBuffer-touch h k.0 s.well_formed (native-there h k.0 s.well_formed (there (native k.0) (inl refl))));
  counts = s.counts;
  none_zero = s.none_zero;
  owned_there = s.owned_there;
}
touched-sound owned h (Some (name.Script k)) there s = exposed-sound owned h (Some (object k.0)) s
touched-sound owned h (Some (name.Reflector k)) there s = exposed-sound owned h (Some (reflector k.0)) s

-- What is taken out

-- what a slot of a native holds is there
pub slot-there : (h : Heap) (m j : ℕ) (a : HeapNative) (x : Option Name) → IsWellFormed h → native_at h m ≡ Some a → slice_index_or a.slots j None ≡ x →
    IsIn (names_there h) x
slot-there h m j a x w found is = λ y i. w.native_contents a y (native_at-there h m a found)
    (contents-at a.slots j y (subst (λ o. Among y (option_to_list o)) (sym is) i))

module _ (h : Heap) (m j : ℕ) (x : Option Name) where
  -- the heaps with that slot emptied
  abbrev left : Heap
  left = taken_out h (Some (native m)) j x

  -- what is there stays
  pub taken_out-names : IsWellFormed h → names_there left ≡ names_there h
  taken_out-names w = grind (arith, touched-names, native_names-change)

  -- natives keep their number of slots
  pub taken_out-length : (k : ℕ) → length (slots_now (native_at left k)) ≡ length (slots_now (native_at h k))
  taken_out-length k = grind (arith, touched-natives, native_at-change_same, native_at-change_other, length-set)

  -- the reference of what the slot held is in hand
  pub taken_out-sound : (owned : List ℕ) (a : HeapNative) → native_at h m ≡ Some a → j < length a.slots → slice_index_or a.slots j None ≡ x → IsSound owned h →
      IsSound (numbers_of x ++ owned) left
  taken_out-sound owned a found room is s = subst (λ y. IsSound (numbers_of y ++ owned) left) is
      (native_slot-sound owned (touched h x) m j a None found_then room (λ y i. absurd i)
      (touched-sound owned h x (slot-there h m j a x s.well_formed found is) s))
    where
      found_then : native_at (touched h x) m ≡ Some a
      found_then = grind (arith, touched-natives)

-- what it held is there still
pub taken_out-there : (h : Heap) (m j : ℕ) (a : HeapNative) (x : Option Name) → IsWellFormed h → native_at h m ≡ Some a → slice_index_or a.slots j None ≡ x →
    IsIn (names_there (taken_out h (Some (native m)) j x)) x
taken_out-there h m j a x w found is = subst (λ ys. IsIn ys x) (sym (taken_out-names h m j x w)) (slot-there h m j a x w found is)

-- A move

-- a native register whose native has the slot is one afterwards
pub HasSlot-taken_out : (h : Heap) (m j : ℕ) (x : Option Name) (d i : ℕ) → HasSlot h d i → HasSlot (taken_out h (Some (native m)) j x) d i
HasSlot-taken_out h m j x d i e = go (native_at left_there e.number) refl
    (taken_out-length h m j x e.number ∙ ap (λ o. length (slots_now o)) e.found)
  where
    left_there : Heap
    left_there = taken_out h (Some (native m)) j x

    go : (o : Option HeapNative) → native_at left_there e.number ≡ o → length (slots_now o) ≡ length e.there.slots → HasSlot left_there d i
    go None q l = absurd (omega (arith, e.room))
    go (Some b) q l = record {
      number = e.number;
      there = b;
      held = ap (λ (rs : Slots). slice_index_or rs d None) (touched-registers h x) ∙ e.held;
      found = q;
      room = omega (arith, e.room);
    }

-- what a slot of what a native register holds holds is taken out first
pub move_slot-is : (h : Heap) (d i s j : ℕ) (f : HasSlot h s j) →
    move_slot h d i s j ≡ put_in_slot (taken_out h (Some (native f.number)) j (slice_index_or f.there.slots j None)) d i (slice_index_or f.there.slots j None)
unfolding move_slot
move_slot-is h d i s j f = grind arith

-- WHAT A SLOT HOLDS IS MOVED into another.
pub move_slot-sound : (owned : List ℕ) (h : Heap) (d i s j : ℕ) → i < length (slots_at (objects_of h) (N d)) → j < length (slots_at (objects_of h) (N s)) → IsSound owned h →
    IsSound owned (move_slot h d i s j).heap
move_slot-sound owned h d i s j to from sound = subst (λ (o : Outcome). IsSound owned o.heap) (sym (move_slot-is h d i s j f))
    (put_in_slot-sound owned (taken_out h (Some (native f.number)) j x) d i x (taken_out-there h f.number j f.there x sound.well_formed f.found refl)
    (HasSlot-taken_out h f.number j x d i (HasSlot-from h d i sound.well_formed to))
    (taken_out-sound h f.number j x owned f.there f.found f.room refl sound))
  where
    f : HasSlot h s j
    f = HasSlot-from h s j sound.well_formed from

    x : Option Name
    x = slice_index_or f.there.slots j None
