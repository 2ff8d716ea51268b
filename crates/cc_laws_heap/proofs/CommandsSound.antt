-- EACH COMMAND THAT IS NOT REFUSED LEAVES THE HEAPS SOUND: whatever it comes to does.
use Rattle.std.proofs.Common.{ℕ, ◌≤◌, List, Option, None, refl, sym, subst}
use Rattle.std.specs.Prelude.{IsTrue}
use Rattle.std.proofs.lemmas.List.{length-replicate}
use Rattle.cc_names.specs.declared.name.Name.{Name}
use Rattle.cc_names.specs.declared.kind.Kind.TheVariants.{Plain, Map}
use Rattle.cc_names.specs.Sizes.{most_slots}
use Rattle.cc_model.specs.declared.command.Command.{Command}
use Rattle.cc_model.specs.Ranges.{in_range}
use Rattle.cc_model.specs.Deeds.{Deed, nothing_done, native_made, plain_made, map_made, proxy_made, native_held, script_held, script_copied, native_stored, slot_moved, script_stored, reflector_held, reflector_preserved, entry_written, object_exposed, weak_written, deed_of}
use Rattle.cc_model.specs.Heap.{Heap, objects_of}
use Rattle.cc_model.specs.Effects.{done_in, effects}
use Rattle.cc_laws_heap.specs.Sound.{IsSound}
use Rattle.cc_laws_heap.proofs.Writes.{script_register-sound}
use Rattle.cc_laws_heap.proofs.ScriptsKept.{preserve-sound, put_in_script-sound, exposed-sound, hold_script-sound}
use Rattle.cc_laws_heap.proofs.NativeCommands.{hold_native-sound, store_native-sound, make_native-sound}
use Rattle.cc_laws_heap.proofs.Moving.{move_slot-sound}
use Rattle.cc_laws_heap.proofs.ScriptCommands.{make_object-sound, wrapped-sound, set_entry-sound, no_delegate, make_proxy-sound}
use Rattle.cc_laws_heap.proofs.Taken.{IsTaken}
use Rattle.cc_laws_heap.proofs.MayBeDone.{MayBeDone, may_be_done}

-- WHAT IS DONE LEAVES THE HEAPS SOUND.
pub done_in-sound : {owned : List ℕ} (h : Heap) (d : Deed) → IsSound owned h → MayBeDone h d → IsSound owned (done_in h d).heap
unfolding done_in
done_in-sound {owned} h nothing_done s m = s
done_in-sound {owned} h (native_made d n) s m = make_native-sound owned h d n m.register m.few m.room s
done_in-sound {owned} h (plain_made d n) s m = make_object-sound owned h d Plain n None
    (subst (λ l. l ≤ most_slots) (sym (length-replicate {A = Option Name} n None)) m.0) (no_delegate h Plain refl) m.1 s
done_in-sound {owned} h (map_made d) s m = make_object-sound owned h d Map 0 None refl (no_delegate h Map refl) m s
done_in-sound {owned} h (proxy_made d x) s m = make_proxy-sound owned h d x m.0.there m.2 s
done_in-sound {owned} h (native_held d x) s m = hold_native-sound owned h d x m.0 m.1 s
done_in-sound {owned} h (script_held d x) s m = hold_script-sound owned h d x m s
done_in-sound {owned} h (script_copied d x) s m = script_register-sound owned h d x m.there s
done_in-sound {owned} h (native_stored d i x) s m = store_native-sound owned h d i x m.0.there m.1 s
done_in-sound {owned} h (slot_moved d i q j) s m = move_slot-sound owned h d i q j m.0 m.1 s
done_in-sound {owned} h (script_stored x i y) s m = put_in_script-sound owned h x i y m.0.there m.1.there s
done_in-sound {owned} h (reflector_held d x) s m = wrapped-sound owned h d x m.there s
done_in-sound {owned} h (reflector_preserved x) s m = preserve-sound owned h x m.there s
done_in-sound {owned} h (entry_written m k v) s t = set_entry-sound owned h m k v t.the_map.there t.key.there t.value.there t.is_map s
done_in-sound {owned} h (object_exposed x) s m = exposed-sound owned h x s
done_in-sound {owned} h (weak_written w x) s m = s

-- A command that is not refused leaves the heaps sound.
pub effects-sound : {owned : List ℕ} (h : Heap) (c : Command) → IsSound owned h → IsTrue (in_range c) → IsTaken (objects_of h) c → IsSound owned (effects h c).heap
unfolding effects
effects-sound h c s r t = done_in-sound h (deed_of (objects_of h) c) s (may_be_done h c s r t)
