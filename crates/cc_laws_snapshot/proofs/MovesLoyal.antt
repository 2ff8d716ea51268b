-- WHAT A SLOT HOLDS MOVED INTO ANOTHER IS A LOYAL CHANGE, where the native that has the other is reached: so is what it takes.
use Rattle.std.proofs.Common.{arith, ℕ, ◌<◌, ◌≡◌, map, List, ◌++◌, length, Option, Some, None, refl, sym, ◌∙◌, ap, subst, inl, inr, ⊎_elim, slice_index_or}
use Rattle.std.specs.List.{filter}
use Rattle.std.specs.Option.{option_to_list}
use Rattle.cc_lists.specs.Members.{Among}
use Rattle.cc_names.specs.declared.name.Name.{Name}
use Rattle.cc_names.specs.declared.name.Name.TheVariants as name
use Rattle.cc_names.specs.declared.register.Reg.TheVariants.{N}
use Rattle.cc_names.specs.Names.{native, object, reflector}
use Rattle.cc_model.specs.Slots.{contents}
use Rattle.cc_model.specs.Checks.{slots_at}
use Rattle.cc_model.specs.Heap.{Heap, HeapNative, Outcome, native_at, objects_of, change_native, with_native_slot}
use Rattle.cc_model.specs.View.{view, buffered, ReachedIn}
use Rattle.cc_model.specs.Cascade.{let_go}
use Rattle.cc_model.specs.Effects.{touched, taken_out, move_slot}
use Rattle.cc_model.specs.WellFormed.{native_names}
use Rattle.cc_laws_heap.specs.Sound.{IsSound, numbers_of}
use Rattle.cc_laws_heap.specs.Balance.{HasDistinctNumbers}
use Rattle.cc_laws_heap.proofs.Natives.{IsWellFormed-distinct, native_names-change}
use Rattle.cc_laws_heap.proofs.Writes.{contents-at, native_slot-sound}
use Rattle.cc_laws_heap.proofs.NativeCommands.{HasSlot, HasSlot-from, put_in_slot-written}
use Rattle.cc_laws_heap.proofs.Moving.{touched-natives, touched-sound, slot-there, taken_out-sound, taken_out-there, HasSlot-taken_out, move_slot-is}
use Rattle.cc_laws_snapshot.specs.Losing.{IsLoyal}
use Rattle.cc_laws_snapshot.proofs.SlotsWritten.{slot_written-kept}
use Rattle.cc_laws_snapshot.proofs.ReachedStays.{slot_written-reached}
use Rattle.cc_laws_snapshot.proofs.Handing.{register-reached, handed-loyal}
use Rattle.cc_laws_snapshot.proofs.Handed.{TakesUp, TakesUp-nothing, TakesUp-touch, Hands-slot, Still}
use Rattle.cc_laws_snapshot.proofs.StillNatives.{Still-exposed}

-- what natives hold stays
TakesUp-still : (h g : Heap) (x : Option Name) → Still h g → TakesUp h g x
TakesUp-still h g x t = record {
  slots = λ n i m c. let k = t.natives n m in inl (k.0, k.1, k.2, subst (λ s. Among (native i) (contents s)) (sym k.3) c);
  reflectors = t.reflectors;
  registers = t.registers;
  purple = λ i p. inl (subst (λ bs. Among (native i) (map buffered (filter (λ b. b.purple) bs))) (sym t.buffer) p);
  buffer = λ i m. inl (subst (λ bs. Among (native i) (map buffered bs)) t.buffer m);
}

-- what is touched
TakesUp-touched : (h : Heap) (x : Option Name) → TakesUp h (touched h x) x
TakesUp-touched h None = TakesUp-nothing h None
TakesUp-touched h (Some (name.Native k)) = TakesUp-touch h k.0
TakesUp-touched h (Some (name.Script k)) = TakesUp-still h (touched h (Some (name.Script k))) (Some (name.Script k)) (Still-exposed h (Some (object k.0)))
TakesUp-touched h (Some (name.Reflector k)) = TakesUp-still h (touched h (Some (name.Reflector k))) (Some (name.Reflector k)) (Still-exposed h (Some (reflector k.0)))

-- and then leaves a slot
TakesUp-emptied : (h g : Heap) (m j : ℕ) (a : HeapNative) (x : Option Name) → HasDistinctNumbers g → native_at g m ≡ Some a → slice_index_or a.slots j None ≡ x → TakesUp h g x →
    TakesUp h (change_native g m (with_native_slot j None)) x
TakesUp-emptied h g m j a x distinct found is t = record {
  slots = λ n i there held. ⊎_elim
      (λ k. ⊎_elim
      (λ s. inl (s.0, s.1, s.2 ∙ k.2, s.3))
      (λ o. inr (subst (λ y. Among (native i) (option_to_list y)) is o))
      (slot_written-kept g m j a None distinct found k.0 (native i) k.1 k.3))
      (λ o. inr o)
      (t.slots n i there held);
  reflectors = t.reflectors;
  registers = t.registers;
  purple = t.purple;
  buffer = t.buffer;
}

-- what a slot of native m holds comes into a slot of native k, which is reached without it
pub moved-loyal : {owned : List ℕ} (h : Heap) (m j : ℕ) (a : HeapNative) (x : Option Name) (k i : ℕ) (b : HeapNative) → native_at h m ≡ Some a → j < length a.slots →
    slice_index_or a.slots j None ≡ x → native_at (taken_out h (Some (native m)) j x) k ≡ Some b → i < length b.slots →
    ReachedIn (view (taken_out h (Some (native m)) j x)) (native k) → IsSound owned h →
    IsLoyal (view h) (view (let_go (change_native (taken_out h (Some (native m)) j x) k (with_native_slot i x)) (slice_index_or b.slots i None)).heap)
moved-loyal {owned} h m j a x k i b found room is at within reached s = handed-loyal owned (slice_index_or b.slots i None) h (change_native left k (with_native_slot i x)) s.well_formed
    (native_slot-sound owned left k i b x at within (taken_out-there h m j a x s.well_formed found is) taken)
    (Hands-slot h left k i b x (IsWellFormed-distinct left taken.well_formed)
    (TakesUp-emptied h t m j a x (IsWellFormed-distinct t seen.well_formed) found_then is (TakesUp-touched h x)) at within
    (slot_written-reached left k i x reached) (λ n e. subst (λ ys. Among (native n) ys) names e))
  where
    t : Heap
    t = touched h x

    left : Heap
    left = taken_out h (Some (native m)) j x

    seen : IsSound owned t
    seen = touched-sound owned h x (slot-there h m j a x s.well_formed found is) s

    taken : IsSound (numbers_of x ++ owned) left
    taken = taken_out-sound h m j x owned a found room is s

    found_then : native_at t m ≡ Some a
    found_then = grind (arith, touched-natives)

    names : native_names left ≡ native_names h
    names = native_names-change t m (with_native_slot j None) (λ n. refl) ∙ ap (map (λ (n : HeapNative). native n.number)) (touched-natives h x)

-- WHAT A SLOT HOLDS IS MOVED into another.
pub move_slot-loyal : {owned : List ℕ} (h : Heap) (d i s j : ℕ) → i < length (slots_at (objects_of h) (N d)) → j < length (slots_at (objects_of h) (N s)) → IsSound owned h →
    IsLoyal (view h) (view (move_slot h d i s j).heap)
move_slot-loyal {owned} h d i s j to from sound = subst (λ (o : Outcome). IsLoyal (view h) (view o.heap)) (sym (move_slot-is h d i s j f ∙ put_in_slot-written left d i x e))
    (moved-loyal h f.number j f.there x e.number i e.there f.found f.room refl e.found e.room
    (register-reached left (native e.number) (contents-at left.native_registers d (native e.number) (subst (λ o. Among (native e.number) (option_to_list o)) (sym e.held) (inl refl)))) sound)
  where
    f : HasSlot h s j
    f = HasSlot-from h s j sound.well_formed from

    x : Option Name
    x = slice_index_or f.there.slots j None

    left : Heap
    left = taken_out h (Some (native f.number)) j x

    e : HasSlot left d i
    e = HasSlot-taken_out h f.number j x d i (HasSlot-from h d i sound.well_formed to)
