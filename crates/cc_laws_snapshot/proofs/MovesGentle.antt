-- WHAT A SLOT HOLDS MOVED INTO ANOTHER, gentle as a whole: a native stands in the buffer first, a script object is black; then the
-- slot is emptied, the other one is written, and what that held is given up.
use Rattle.std.proofs.Common.{arith, ℕ, ◌<◌, ◌≡◌, false, List, length, Option, Some, None, refl, sym, subst, inl, slice_index_or}
use Rattle.std.specs.Option.{option_to_list}
use Rattle.cc_lists.specs.Members.{Among}
use Rattle.cc_names.specs.declared.name.Name.{Name}
use Rattle.cc_names.specs.declared.name.Name.TheVariants as name
use Rattle.cc_names.specs.declared.register.Reg.TheVariants.{N}
use Rattle.cc_names.specs.Names.{native, object, reflector}
use Rattle.cc_model.specs.Checks.{slots_at}
use Rattle.cc_model.specs.Heap.{Heap, HeapNative, Outcome, native_at, objects_of, touch}
use Rattle.cc_model.specs.View.{view}
use Rattle.cc_model.specs.Effects.{touched, taken_out, put_in_slot, move_slot}
use Rattle.cc_model.specs.WellFormed.{IsWellFormed}
use Rattle.cc_laws_heap.specs.Sound.{IsSound}
use Rattle.cc_laws_heap.proofs.NativeCommands.{HasSlot, HasSlot-from}
use Rattle.cc_laws_heap.proofs.Moving.{touched-natives, touched-sound, slot-there, taken_out-sound, taken_out-there, HasSlot-taken_out, move_slot-is}
use Rattle.cc_laws_heap.proofs.CommandsColours.{taken_out-black}
use Rattle.cc_laws_snapshot.proofs.SoundView.{living-native}
use Rattle.cc_laws_snapshot.proofs.Marked.{with_mark-there, with_mark-keeps}
use Rattle.cc_laws_snapshot.proofs.GentleBut.{AreGentle, AreGentle-refl, AreGentle-then, IsGentleBut-then}
use Rattle.cc_laws_snapshot.proofs.NativeParts.{AreTaken, native_slot-gentle}
use Rattle.cc_laws_snapshot.proofs.ScriptParts.{not_gray-held, exposed-gentle}
use Rattle.cc_laws_snapshot.proofs.NativesHeld.{put_in_slot-gentle}

-- A native touched is gentle: one more stands in the buffer.
pub touch-gentle : (h : Heap) (k : ℕ) → AreGentle h (touch h k)
touch-gentle h k = record {
  made_more = omega arith;
  outside = λ u c m o l. (m, λ b. o (with_mark-keeps false k h.buffer u b));
  as_often = λ u w c m o l. refl;
  gray_edge = λ x y m g. (m, g);
  gray_joint = λ e m g. (m, g);
  black_stays = λ x m. m;
  scripts_stay = λ x m. m;
  lives = λ i c m. inl (c, m);
}

-- So is what is touched,
touched-gentle : (h : Heap) (x : Option Name) → IsWellFormed h → AreGentle h (touched h x)
touched-gentle h None w = AreGentle-refl h
touched-gentle h (Some (name.Native k)) w = touch-gentle h k.0
touched-gentle h (Some (name.Script k)) w = exposed-gentle h (Some (object k.0)) w
touched-gentle h (Some (name.Reflector k)) w = exposed-gentle h (Some (reflector k.0)) w

-- which is in the buffer then, where it is a native.
pub taken_out-taken : (h : Heap) (m j : ℕ) (x : Option Name) → AreTaken (taken_out h (Some (native m)) j x) x
taken_out-taken h m j x k i = grind (arith, with_mark-there)

-- What is taken out of a slot is gentle.
pub taken_out-gentle : (h : Heap) (m j : ℕ) (x : Option Name) (owned : List ℕ) (a : HeapNative) → native_at h m ≡ Some a → j < length a.slots →
    slice_index_or a.slots j None ≡ x → IsSound owned h → AreGentle h (taken_out h (Some (native m)) j x)
taken_out-gentle h m j x owned a found room is s = AreGentle-then h t left (touched-gentle h x s.well_formed)
    (IsGentleBut-then (option_to_list (slice_index_or a.slots j None)) t.natives_made left.natives_made left.natives_made (view t) (view left) (view left)
    (native_slot-gentle t m j a None (touched-sound owned h x (slot-there h m j a x s.well_formed found is) s).well_formed found_then room (λ k i. absurd i) (λ y i. absurd i))
    (AreGentle-refl left) (λ u c i o l. caught u c i o (subst (λ y. Among u (option_to_list y)) is l)))
  where
    t : Heap
    t = touched h x

    left : Heap
    left = taken_out h (Some (native m)) j x

    found_then : native_at t m ≡ Some a
    found_then = grind (arith, touched-natives)

    caught : (u : Name) (c : ℕ) → Among (u, c) (view left).natives → ¬ (Among u (view left).buffer) → ¬ (Among u (option_to_list x))
    caught u c i o l =
        let f = living-native left u c i in
        o (subst (λ z. Among z (view left).buffer) f.2 (taken_out-taken h m j x f.0.number (subst (λ z. Among z (option_to_list x)) (sym f.2) l)))

-- WHAT A SLOT HOLDS IS MOVED into another.
pub move_slot-gentle : (owned : List ℕ) (h : Heap) (d i s j : ℕ) → i < length (slots_at (objects_of h) (N d)) → j < length (slots_at (objects_of h) (N s)) → IsSound owned h →
    AreGentle h (move_slot h d i s j).heap
move_slot-gentle owned h d i s j to from sound = subst (λ (o : Outcome). AreGentle h o.heap) (sym (move_slot-is h d i s j f))
    (AreGentle-then h left (put_in_slot left d i x).heap (taken_out-gentle h f.number j x owned f.there f.found f.room refl sound)
    (put_in_slot-gentle owned left d i x (taken_out-there h f.number j f.there x sound.well_formed f.found refl)
    (HasSlot-taken_out h f.number j x d i (HasSlot-from h d i sound.well_formed to)) (taken_out-taken h f.number j x)
    (not_gray-held left x (taken_out-black h f.number j x sound.well_formed))
    (taken_out-sound h f.number j x owned f.there f.found f.room refl sound)))
  where
    f : HasSlot h s j
    f = HasSlot-from h s j sound.well_formed from

    x : Option Name
    x = slice_index_or f.there.slots j None

    left : Heap
    left = taken_out h (Some (native f.number)) j x
