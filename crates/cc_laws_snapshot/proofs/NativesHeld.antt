-- NATIVES HELD, STORED AND MADE, each gentle as a whole: the new reference is taken first, so its native is in the buffer;
-- then the place is written, then the old reference is given up, so its native is in the buffer too, or no more.
use Rattle.std.proofs.Common.{ℕ, ◌+◌, ◌<◌, ◌≤◌, List, ◌++◌, length, Option, Some, None, sym, subst, slice_index_or}
use Rattle.std.specs.Option.{option_to_list}
use Rattle.cc_names.specs.declared.name.Name.{Name}
use Rattle.cc_names.specs.declared.name.Name.TheVariants as name
use Rattle.cc_names.specs.declared.register.Reg.TheVariants.{N}
use Rattle.cc_names.specs.Names.{native}
use Rattle.cc_names.specs.Sizes.{most_slots}
use Rattle.cc_model.specs.Checks.{slots_at}
use Rattle.cc_model.specs.Heap.{Heap, Outcome, register, set_register, change_native, with_native_slot, objects_of}
use Rattle.cc_model.specs.Cascade.{take_up, let_go}
use Rattle.cc_model.specs.View.{view}
use Rattle.cc_model.specs.Effects.{put_in_register, hold_native, put_in_slot, store_native, with_native, make_native}
use Rattle.cc_model.specs.WellFormed.{native_names, names_there}
use Rattle.cc_laws_heap.specs.Sound.{IsSound, numbers_of}
use Rattle.cc_laws_heap.proofs.Owning.{IsIn, take_up-sound}
use Rattle.cc_laws_heap.proofs.Writes.{native_register-sound, native_slot-sound}
use Rattle.cc_laws_heap.proofs.MadeSound.{with_native-sound}
use Rattle.cc_laws_heap.proofs.Holding.{IsIn-natives}
use Rattle.cc_laws_heap.proofs.NativeCommands.{IsIn-take_up, room-take_up, HasSlot, HasSlot-take_up, put_in_slot-written, names_there-take_up, IsIn-made}
use Rattle.cc_laws_snapshot.proofs.GentleBut.{AreGentle, IsGentleBut-then, AreGentle-then}
use Rattle.cc_laws_snapshot.proofs.NativeParts.{IsNotGray, AreTaken, take_up-taken, register-gentle, take_up-gentle, native_slot-gentle, with_native-gentle}
use Rattle.cc_laws_snapshot.proofs.CascadesGentle.{let_go-gentle, let_go-caught}

-- Native registers

-- A native register written, its new reference owned, and the old one given up.
pub put_in_register-gentle : (owned : List ℕ) (h : Heap) (d : ℕ) (x : Option Name) → d < length h.native_registers → IsIn (native_names h) x →
    IsSound (numbers_of x ++ owned) h → AreGentle h (put_in_register h d x).heap
put_in_register-gentle owned h d x room there s = AreGentle-then h (set_register h (N d) x) (put_in_register h d x).heap (register-gentle h (N d) x)
    (let_go-gentle owned (set_register h (N d) x) (register h (N d)) (native_register-sound owned h d x room there s))

-- The same with the reference taken first.
pub hold_native-gentle : (owned : List ℕ) (h : Heap) (d : ℕ) (x : Option Name) → d < length h.native_registers → IsIn (native_names h) x → IsSound owned h →
    AreGentle h (hold_native h d x).heap
unfolding hold_native
hold_native-gentle owned h d x room there s = AreGentle-then h (take_up h x) (put_in_register (take_up h x) d x).heap (take_up-gentle h x)
    (put_in_register-gentle owned (take_up h x) d x (room-take_up h x d room) (IsIn-take_up h x x there) (take_up-sound owned h x (IsIn-natives h x there) s))

-- Slots of natives

-- a slot of a native written, its new reference owned, and the old one given up
pub put_in_slot-gentle : (owned : List ℕ) (h : Heap) (d i : ℕ) (x : Option Name) → IsIn (names_there h) x → HasSlot h d i → AreTaken h x → IsNotGray h x →
    IsSound (numbers_of x ++ owned) h → AreGentle h (put_in_slot h d i x).heap
put_in_slot-gentle owned h d i x there f taken pale s = subst (λ (o : Outcome). AreGentle h o.heap) (sym (put_in_slot-written h d i x f))
    (IsGentleBut-then (option_to_list old) h.natives_made h.natives_made (let_go written old).heap.natives_made (view h) (view written) (view (let_go written old).heap)
    (native_slot-gentle h f.number i f.there x s.well_formed f.found f.room taken pale)
    (let_go-gentle owned written old owed)
    (let_go-caught owned written old owed))
  where
    old : Option Name
    old = slice_index_or f.there.slots i None

    written : Heap
    written = change_native h f.number (with_native_slot i x)

    owed : IsSound (numbers_of old ++ owned) written
    owed = native_slot-sound owned h f.number i f.there x f.found f.room there s

-- a reference taken makes nothing gray
not_gray-take_up : (h : Heap) (x : Option Name) → IsNotGray h x → IsNotGray (take_up h x) x
not_gray-take_up h (Some (name.Native k)) pale = pale
not_gray-take_up h _ pale = pale

-- The same with the reference taken first.
pub store_native-gentle : (owned : List ℕ) (h : Heap) (d i : ℕ) (x : Option Name) → IsIn (names_there h) x → IsNotGray h x →
    i < length (slots_at (objects_of h) (N d)) → IsSound owned h → AreGentle h (store_native h d i x).heap
unfolding store_native
store_native-gentle owned h d i x there pale room s =
    let taken : IsSound (numbers_of x ++ owned) (take_up h x) = take_up-sound owned h x there s in
    AreGentle-then h (take_up h x) (put_in_slot (take_up h x) d i x).heap (take_up-gentle h x)
    (put_in_slot-gentle owned (take_up h x) d i x (names_there-take_up h x there) (HasSlot-take_up (numbers_of x ++ owned) h d i x taken room)
    (take_up-taken h x) (not_gray-take_up h x pale) taken)

-- Natives made

-- A native is made, and a native register holds it.
pub make_native-gentle : (owned : List ℕ) (h : Heap) (d n : ℕ) → d < length h.native_registers → n ≤ most_slots → h.natives_made < h.limits.natives → IsSound owned h →
    AreGentle h (make_native h d n).heap
unfolding make_native
make_native-gentle owned h d n room few allowed s = AreGentle-then h (with_native h n) (put_in_register (with_native h n) d (Some (native (h.natives_made + 1)))).heap
    (with_native-gentle h n)
    (put_in_register-gentle owned (with_native h n) d (Some (native (h.natives_made + 1))) room
    (IsIn-made h n s.well_formed) (with_native-sound owned h n s few allowed))
