-- WHAT A COMMAND COMES TO IS GENTLE, so each command that is not refused keeps every snapshot fresh.
use Rattle.std.proofs.Common.{ℕ, List, None}
use Rattle.std.specs.Prelude.{IsTrue}
use Rattle.cc_names.specs.declared.register.Reg.TheVariants.{S}
use Rattle.cc_names.specs.declared.kind.Kind.TheVariants.{Plain, Map}
use Rattle.cc_model.specs.declared.command.Command.{Command}
use Rattle.cc_model.specs.Ranges.{in_range}
use Rattle.cc_model.specs.Deeds.{Deed, nothing_done, native_made, plain_made, map_made, proxy_made, native_held, script_held, script_copied, native_stored, slot_moved, script_stored, reflector_held, reflector_preserved, entry_written, object_exposed, weak_written, deed_of}
use Rattle.cc_model.specs.Heap.{Heap, objects_of}
use Rattle.cc_model.specs.View.{view}
use Rattle.cc_model.specs.Snapshot.{Snapshot}
use Rattle.cc_model.specs.Fresh.{IsFresh}
use Rattle.cc_model.specs.Effects.{done_in, effects}
use Rattle.cc_laws_heap.specs.Sound.{IsSound}
use Rattle.cc_laws_heap.proofs.Taken.{IsTaken}
use Rattle.cc_laws_heap.proofs.MayBeDone.{MayBeDone, may_be_done}
use Rattle.cc_laws_heap.proofs.CommandsSound.{done_in-sound}
use Rattle.cc_laws_heap.proofs.Coloured.{IsColoured, AreColoured-from_view, HasColourInvariant-from}
use Rattle.cc_laws_heap.proofs.CommandsColours.{done_in-coloured}
use Rattle.cc_laws_snapshot.proofs.GentleKeeps.{fresh-kept}
use Rattle.cc_laws_snapshot.proofs.GentleBut.{AreGentle, AreGentle-refl, IsGentle-from}
use Rattle.cc_laws_snapshot.proofs.NativeParts.{register-gentle, preserve-gentle}
use Rattle.cc_laws_snapshot.proofs.ScriptParts.{not_gray-held, exposed-gentle, hold_script-gentle, put_in_script-gentle, make_object-gentle, make_proxy-gentle, wrapped-gentle, set_entry-gentle}
use Rattle.cc_laws_snapshot.proofs.NativesHeld.{hold_native-gentle, store_native-gentle, make_native-gentle}
use Rattle.cc_laws_snapshot.proofs.MovesGentle.{move_slot-gentle}

-- WHAT IS DONE IS GENTLE.
pub done_in-gentle : {owned : List ℕ} (h : Heap) (d : Deed) → IsSound owned h → IsColoured h → MayBeDone h d → AreGentle h (done_in h d).heap
unfolding done_in
done_in-gentle h nothing_done s c m = AreGentle-refl h
done_in-gentle {owned} h (native_made d n) s c m = make_native-gentle owned h d n m.register m.few m.room s
done_in-gentle h (plain_made d n) s c m = make_object-gentle h d Plain n None s.well_formed (λ y i. absurd i) (λ y i. absurd i)
done_in-gentle h (map_made d) s c m = make_object-gentle h d Map 0 None s.well_formed (λ y i. absurd i) (λ y i. absurd i)
done_in-gentle {owned} h (proxy_made d x) s c m = make_proxy-gentle owned h d x m.0.there (not_gray-held h x (m.0.black c)) s
done_in-gentle {owned} h (native_held d x) s c m = hold_native-gentle owned h d x m.0 m.1 s
done_in-gentle h (script_held d x) s c m = hold_script-gentle h d x s.well_formed
done_in-gentle h (script_copied d x) s c m = register-gentle h (S d) x
done_in-gentle {owned} h (native_stored d i x) s c m = store_native-gentle owned h d i x m.0.there (not_gray-held h x (m.0.black c)) m.1 s
done_in-gentle {owned} h (slot_moved d i q j) s c m = move_slot-gentle owned h d i q j m.0 m.1 s
done_in-gentle {owned} h (script_stored x i y) s c m = put_in_script-gentle owned h x i y m.0.there m.1.there
    (not_gray-held h x (m.0.black c)) (not_gray-held h y (m.1.black c)) s
done_in-gentle {owned} h (reflector_held d x) s c m = wrapped-gentle owned h d x m.there s
done_in-gentle h (reflector_preserved x) s c m = preserve-gentle h x (not_gray-held h x (m.black c))
done_in-gentle h (entry_written m k v) s c t = set_entry-gentle h m k v (not_gray-held h k (t.key.black c)) (not_gray-held h v (t.value.black c))
done_in-gentle h (object_exposed x) s c m = exposed-gentle h x s.well_formed
done_in-gentle h (weak_written w x) s c m = AreGentle-refl h

-- It keeps a fresh snapshot fresh.
pub done_in-fresh : {owned : List ℕ} (h : Heap) (s : Snapshot) (d : Deed) → IsSound owned h → IsFresh h.natives_made (view h) s → MayBeDone h d →
    IsFresh (done_in h d).heap.natives_made (view (done_in h d).heap) s
done_in-fresh h s d sound f m =
    let coloured : IsColoured h = AreColoured-from_view h sound.well_formed f.colours in
    fresh-kept h.natives_made (done_in h d).heap.natives_made (view h) (view (done_in h d).heap)
    (IsGentle-from h.natives_made (done_in h d).heap.natives_made (view h) (view (done_in h d).heap) (done_in-gentle h d sound coloured m)
    (HasColourInvariant-from (done_in h d).heap (done_in-sound h d sound m).well_formed (done_in-coloured h d sound coloured m))) s f

-- A command that is not refused keeps a fresh snapshot fresh.
pub effects-fresh : {owned : List ℕ} (h : Heap) (s : Snapshot) (c : Command) → IsSound owned h → IsFresh h.natives_made (view h) s → IsTrue (in_range c) → IsTaken (objects_of h) c →
    IsFresh (effects h c).heap.natives_made (view (effects h c).heap) s
unfolding effects
effects-fresh h s c sound f r t = done_in-fresh h s (deed_of (objects_of h) c) sound f (may_be_done h c sound r t)
