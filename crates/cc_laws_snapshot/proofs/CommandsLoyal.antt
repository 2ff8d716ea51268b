-- WHAT A COMMAND COMES TO IS A LOYAL CHANGE, so each command that is not refused is one.
use Rattle.std.proofs.Common.{◌≡◌, ℕ, ◌+◌, ◌<◌, ◌≤◌, List, ◌++◌, length, Option, Some, None, refl, sym, ◌∙◌, subst, inl, slice_index_or}
use Rattle.std.specs.Prelude.{IsTrue}
use Rattle.std.specs.Option.{option_to_list}
use Rattle.cc_lists.specs.Members.{Among}
use Rattle.cc_names.specs.declared.name.Name.{Name}
use Rattle.cc_names.specs.declared.register.Reg.TheVariants.{N, S}
use Rattle.cc_names.specs.declared.kind.Kind.TheVariants.{Plain, Map}
use Rattle.cc_names.specs.Names.{native}
use Rattle.cc_names.specs.Sizes.{most_slots}
use Rattle.cc_model.specs.declared.command.Command.{Command}
use Rattle.cc_model.specs.Slots.{contents}
use Rattle.cc_model.specs.Ranges.{in_range}
use Rattle.cc_model.specs.Checks.{slots_at, reflector_of}
use Rattle.cc_model.specs.Deeds.{Deed, nothing_done, native_made, plain_made, map_made, proxy_made, native_held, script_held, script_copied, native_stored, slot_moved, script_stored, reflector_held, reflector_preserved, entry_written, object_exposed, weak_written, deed_of}
use Rattle.cc_model.specs.Heap.{Heap, HeapNative, Outcome, native_at, register, set_register, change_native, with_native_slot, objects_of}
use Rattle.cc_model.specs.View.{view, ReachedIn}
use Rattle.cc_model.specs.Cascade.{take_up, let_go}
use Rattle.cc_model.specs.Effects.{done_in, effects, hold_native, store_native, with_native, make_native, wrapped}
use Rattle.cc_model.specs.WellFormed.{native_names, names_there}
use Rattle.cc_laws_heap.specs.Sound.{IsSound, numbers_of}
use Rattle.cc_laws_heap.proofs.Natives.{IsWellFormed-distinct}
use Rattle.cc_laws_heap.proofs.HoldsTheSame.{HoldsTheSame-take_up, native_names-alike, register-alike}
use Rattle.cc_laws_heap.proofs.Owning.{IsIn, take_up-sound}
use Rattle.cc_laws_heap.proofs.Writes.{contents-at, native_register-sound, native_slot-sound}
use Rattle.cc_laws_heap.proofs.MadeSound.{with_native-sound}
use Rattle.cc_laws_heap.proofs.Holding.{IsIn-natives}
use Rattle.cc_laws_heap.proofs.NativeCommands.{IsIn-take_up, room-take_up, IsIn-made, HasSlot, HasSlot-take_up, put_in_slot-written, names_there-take_up}
use Rattle.cc_laws_heap.proofs.MayBeDone.{MayBeDone, may_be_done}
use Rattle.cc_laws_heap.proofs.CommandsSound.{done_in-sound}
use Rattle.cc_laws_heap.proofs.Taken.{IsTaken}
use Rattle.cc_laws_heap.proofs.ScriptsKept.{native-no_script}
use Rattle.cc_laws_snapshot.specs.Losing.{IsLoyal}
use Rattle.cc_laws_snapshot.proofs.ReachedStays.{written-reached}
use Rattle.cc_laws_snapshot.proofs.Handing.{register-reached, handed-loyal}
use Rattle.cc_laws_snapshot.proofs.Handed.{TakesUp-take_up, TakesUp-with_native, made-living, Hands-register, Hands-slot, Still, Hands-still}
use Rattle.cc_laws_snapshot.proofs.StillNatives.{Still-refl, Still-script_register, Still-exposed, Still-hold_script, Still-preserve, Still-set_entry, Still-put_in_script, Still-make_object, Still-make_proxy, Hands-wrapped}
use Rattle.cc_laws_snapshot.proofs.MovesLoyal.{move_slot-loyal}

-- a native comes into a native register
pub hold_native-loyal : {owned : List ℕ} (h : Heap) (d : ℕ) (x : Option Name) → d < length h.native_registers → IsIn (native_names h) x → IsSound owned h → IsLoyal (view h) (view (hold_native h d x).heap)
unfolding hold_native
hold_native-loyal {owned} h d x room there s =
    let taken = take_up-sound owned h x (IsIn-natives h x there) s in
    let enough : d < length (take_up h x).native_registers = room-take_up h x d room in
    let names : native_names (take_up h x) ≡ native_names h = native_names-alike h (take_up h x) (HoldsTheSame-take_up h x) in
    handed-loyal owned (register (take_up h x) (N d)) h (set_register (take_up h x) (N d) x) s.well_formed
    (native_register-sound owned (take_up h x) d x enough (IsIn-take_up h x x there) taken)
    (Hands-register h (take_up h x) d x enough (TakesUp-take_up h x) (λ i m. inl (subst (λ xs. Among (native i) xs) names m)))

-- a native is made
pub make_native-loyal : {owned : List ℕ} (h : Heap) (d n : ℕ) → d < length h.native_registers → n ≤ most_slots → h.natives_made < h.limits.natives → IsSound owned h →
    IsLoyal (view h) (view (make_native h d n).heap)
unfolding make_native
make_native-loyal {owned} h d n room few allowed s =
    let made = with_native-sound owned h n s few allowed in
    handed-loyal owned (register (with_native h n) (N d)) h (set_register (with_native h n) (N d) (Some (native (h.natives_made + 1)))) s.well_formed
    (native_register-sound owned (with_native h n) d (Some (native (h.natives_made + 1))) room (IsIn-made h n s.well_formed) made)
    (Hands-register h (with_native h n) d (Some (native (h.natives_made + 1))) room (TakesUp-with_native h n) (made-living h n))

-- what is there comes into a slot of a native that is reached
pub stored-loyal : {owned : List ℕ} (h : Heap) (k i : ℕ) (n : HeapNative) (x : Option Name) → IsIn (names_there h) x → native_at (take_up h x) k ≡ Some n → i < length n.slots →
    ReachedIn (view h) (native k) → IsSound owned h →
    IsLoyal (view h) (view (let_go (change_native (take_up h x) k (with_native_slot i x)) (slice_index_or n.slots i None)).heap)
stored-loyal {owned} h k i n x there found room reached s =
    let taken = take_up-sound owned h x there s in
    let names : native_names (take_up h x) ≡ native_names h = native_names-alike h (take_up h x) (HoldsTheSame-take_up h x) in
    handed-loyal owned (slice_index_or n.slots i None) h (change_native (take_up h x) k (with_native_slot i x)) s.well_formed
    (native_slot-sound owned (take_up h x) k i n x found room (names_there-take_up h x there) taken)
    (Hands-slot h (take_up h x) k i n x (IsWellFormed-distinct (take_up h x) taken.well_formed) (TakesUp-take_up h x) found room
    (written-reached h k i x reached) (λ j m. subst (λ xs. Among (native j) xs) names m))

-- so it is where a native register holds the native
store_native-loyal : {owned : List ℕ} (h : Heap) (d i : ℕ) (x : Option Name) → IsIn (names_there h) x → i < length (slots_at (objects_of h) (N d)) → IsSound owned h →
    IsLoyal (view h) (view (store_native h d i x).heap)
unfolding store_native
store_native-loyal {owned} h d i x there room s = subst (λ (o : Outcome). IsLoyal (view h) (view o.heap)) (sym (put_in_slot-written (take_up h x) d i x f))
    (stored-loyal h f.number i f.there x there f.found f.room (register-reached h (native f.number) held) s)
  where
    f : HasSlot (take_up h x) d i
    f = HasSlot-take_up (numbers_of x ++ owned) h d i x (take_up-sound owned h x there s) room

    held : Among (native f.number) (contents h.native_registers)
    held = contents-at h.native_registers d (native f.number)
        (subst (λ o. Among (native f.number) (option_to_list o)) (sym (sym (register-alike h (take_up h x) (HoldsTheSame-take_up h x) (N d)) ∙ f.held)) (inl refl))

-- where natives stay as they are
pub still-loyal : {owned : List ℕ} (h g : Heap) → IsSound owned h → IsSound owned g → Still h g → IsLoyal (view h) (view g)
still-loyal {owned} h g s t k = handed-loyal owned None h g s.well_formed t (Hands-still h g k)

-- a deed that leaves natives as they are is loyal
still_done-loyal : {owned : List ℕ} (h : Heap) (d : Deed) → IsSound owned h → MayBeDone h d → Still h (done_in h d).heap → IsLoyal (view h) (view (done_in h d).heap)
still_done-loyal h d s m k = still-loyal h (done_in h d).heap s (done_in-sound h d s m) k

-- WHAT IS DONE IS A LOYAL CHANGE.
pub done_in-loyal : {owned : List ℕ} (h : Heap) (d : Deed) → IsSound owned h → MayBeDone h d → IsLoyal (view h) (view (done_in h d).heap)
unfolding done_in
done_in-loyal h nothing_done s m = still_done-loyal h nothing_done s m (Still-refl h)
done_in-loyal h (native_made d n) s m = make_native-loyal h d n m.register m.few m.room s
done_in-loyal h (plain_made d n) s m = still_done-loyal h (plain_made d n) s m (Still-make_object h d Plain n None)
done_in-loyal h (map_made d) s m = still_done-loyal h (map_made d) s m (Still-make_object h d Map 0 None)
done_in-loyal h (proxy_made d x) s m = still_done-loyal h (proxy_made d x) s m (Still-make_proxy h d x)
done_in-loyal h (native_held d x) s m = hold_native-loyal h d x m.0 m.1 s
done_in-loyal h (script_held d x) s m = still_done-loyal h (script_held d x) s m (Still-hold_script h d x)
done_in-loyal h (script_copied d x) s m = still_done-loyal h (script_copied d x) s m (Still-script_register h d x)
done_in-loyal h (native_stored d i x) s m = store_native-loyal h d i x m.0.there m.1 s
done_in-loyal h (slot_moved d i q j) s m = move_slot-loyal h d i q j m.0 m.1 s
done_in-loyal h (script_stored x i y) s m = still_done-loyal h (script_stored x i y) s m
    (Still-put_in_script h x i y (λ k n. native-no_script h k s.well_formed (m.0.there (native k) n)))
done_in-loyal {owned} h (reflector_held d x) s m = handed-loyal owned None h (set_register (wrapped h x) (S d) (reflector_of x)) s.well_formed
    (done_in-sound h (reflector_held d x) s m) (Hands-wrapped h d x (λ j n. m.held (native j) n))
done_in-loyal h (reflector_preserved x) s m = still_done-loyal h (reflector_preserved x) s m (Still-preserve h x)
done_in-loyal h (entry_written m k v) s t = still_done-loyal h (entry_written m k v) s t (Still-set_entry h m k v)
done_in-loyal h (object_exposed x) s m = still_done-loyal h (object_exposed x) s m (Still-exposed h x)
done_in-loyal h (weak_written w x) s m = still_done-loyal h (weak_written w x) s m (Still-refl h)

-- A command that is not refused is a loyal change.
pub effects-loyal : {owned : List ℕ} (h : Heap) (c : Command) → IsSound owned h → IsTrue (in_range c) → IsTaken (objects_of h) c → IsLoyal (view h) (view (effects h c).heap)
unfolding effects
effects-loyal h c s r t = done_in-loyal h (deed_of (objects_of h) c) s (may_be_done h c s r t)
