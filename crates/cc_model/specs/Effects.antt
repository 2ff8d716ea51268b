-- What each command that passes its checks does to the heaps, in its order.
use Rattle.std.specs.Prelude.{ℕ, ◌+◌, Bool, true, false, not, [], ◌∷◌, ◌++◌, Option, Some, None, is_none}
use Rattle.cc_names.specs.declared.name.Name.{Name}
use Rattle.cc_names.specs.declared.name.Name.TheVariants as name
use Rattle.cc_names.specs.declared.register.Reg.{Reg}
use Rattle.cc_names.specs.declared.register.Reg.TheVariants.{N, S, W}
use Rattle.cc_names.specs.declared.kind.Kind.{Kind}
use Rattle.cc_names.specs.declared.kind.Kind.TheVariants.{Plain, Reflector, Map, Proxy as proxy_kind}
use Rattle.cc_names.specs.Names.{native, object, reflector}
use Rattle.cc_model.specs.declared.command.Command.{Command}
use Rattle.cc_model.specs.declared.command.Command.TheVariants.{Native, Script, WeakMap, Proxy, Wrap, SetEntry}
use Rattle.cc_model.specs.Banks.{of_natives, of_scripts}
use Rattle.cc_model.specs.Slots.{reflector_slots}
use Rattle.cc_model.specs.Entries.{with_entry, without_entry}
use Rattle.cc_model.specs.Checks.{slot_at, value_at, reflector_of}
use Rattle.cc_model.specs.Deeds.{Deed, nothing_done, native_made, plain_made, map_made, proxy_made, native_held, script_held, script_copied, native_stored, slot_moved, script_stored, reflector_held, reflector_preserved, entry_written, object_exposed, weak_written, deed_of}
use Rattle.cc_model.specs.Heap.{Heap, Outcome, silently, new_script, native_to_make, register, objects_of, delegate_at, has_reflector, set_register, lengthen, set_slot, preserve, touch}
use Rattle.cc_model.specs.Cascade.{add_ref, take_up, let_go}
use Rattle.cc_model.specs.Exposure.{exposed}

-- native register d written, whose new reference was taken before: the old content is given up
abbrev pub put_in_register : Heap → ℕ → Option Name → Outcome
put_in_register h d x = let_go (set_register h (N d) x) (register h (N d))

-- the new reference is taken first, then the register is written, then the old one is given up
unfoldable pub hold_native : Heap → ℕ → Option Name → Outcome
hold_native h d x = put_in_register (take_up h x) d x

-- the same for slot i of what native register d holds
abbrev pub put_in_slot : Heap → ℕ → ℕ → Option Name → Outcome
put_in_slot h d i x = let_go (set_slot h (register h (N d)) i x) (slot_at (objects_of h) (N d) i)

unfoldable pub store_native : Heap → ℕ → ℕ → Option Name → Outcome
store_native h d i x = put_in_slot (take_up h x) d i x

-- a move takes no reference, so that a collection sees it the native stands in the buffer, without the purple mark; a script
-- object is exposed
abbrev pub touched : Heap → Option Name → Heap
touched h (Some (name.Native k)) = touch h k.0
touched h (Some (name.Script k)) = exposed h (Some (object k.0))
touched h (Some (name.Reflector k)) = exposed h (Some (reflector k.0))
touched h None = h

-- what slot j of an object holds is touched, and leaves the slot: its reference, where it is a native, is in hand
abbrev pub taken_out : Heap → Option Name → ℕ → Option Name → Heap
taken_out h from j x = set_slot (touched h x) from j None

-- what slot j of what native register s holds holds, moved into slot i of what native register d holds, which gives up what it
-- held. Where both places are one, that is nothing by then
unfoldable pub move_slot : Heap → ℕ → ℕ → ℕ → ℕ → Outcome
move_slot h d i s j = let x = slot_at (objects_of h) (N s) j in put_in_slot (taken_out h (register h (N s)) j x) d i x

-- what comes into a script register is exposed
abbrev pub hold_script : Heap → ℕ → Option Name → Heap
hold_script h d x = set_register (exposed h x) (S d) x

-- A ROOT AT A PLACE: the bank is lengthened where the place is beyond it, and the register holds x from then on. No command does this.
abbrev pub root_at : Heap → Reg → Option Name → Outcome
root_at h (N d) x = hold_native (lengthen h of_natives (d + 1)) d x
root_at h (S d) x = silently (hold_script (lengthen h of_scripts (d + 1)) d x)
root_at h (W d) x = silently h

-- a native with the next number, count 1, in the buffer without the purple mark
abbrev pub with_native : Heap → ℕ → Heap
with_native h n = touch (record h {
  natives = h.natives ++ native_to_make h n ∷ [];
  natives_made = h.natives_made + 1;
}) (h.natives_made + 1)

-- a native made, and register d holds it
unfoldable pub make_native : Heap → ℕ → ℕ → Outcome
make_native h d n = put_in_register (with_native h n) d (Some (native (h.natives_made + 1)))

-- a black script object
abbrev pub with_script : Heap → Name → Kind → ℕ → Option Name → Heap
with_script h x kind n d = record h { scripts = h.scripts ++ new_script x kind n d ∷ [] }

-- one with the next number
abbrev pub with_object : Heap → Kind → ℕ → Option Name → Heap
with_object h kind n d = record (with_script h (object (h.scripts_made + 1)) kind n d) { scripts_made = h.scripts_made + 1 }

-- a script object made, and register d holds it
abbrev pub make_object : Heap → ℕ → Kind → ℕ → Option Name → Heap
make_object h d kind n its_delegate = set_register (with_object h kind n its_delegate) (S d) (Some (object (h.scripts_made + 1)))

-- a proxy of an object made, which is preserved first where it is a reflector
abbrev pub make_proxy : Heap → ℕ → Option Name → Heap
make_proxy h d None = h
make_proxy h d (Some x) = make_object (preserve h (Some x)) d proxy_kind 0 (Some x)

-- a black blank reflector, and its reference to its native
abbrev pub with_reflector : Heap → ℕ → Heap
with_reflector h k = add_ref (with_script h (reflector k) Reflector reflector_slots None) k

-- a reflector that is there is exposed; else one is made
abbrev pub wrapped : Heap → Option Name → Heap
wrapped h (Some (name.Native k)) = elim (has_reflector h k.0) [ true ↦ exposed h (Some (reflector k.0)) | false ↦ with_reflector h k.0 ]
wrapped h (Some (name.Script k)) = h
wrapped h (Some (name.Reflector k)) = h
wrapped h None = h

-- an entry set, its key preserved where it is a reflector; or taken out, nothing preserved
abbrev pub set_entry : Heap → Option Name → Option Name → Option Name → Heap
set_entry h (Some m) (Some k) (Some v) = record (preserve h (Some k)) { entries = with_entry h.entries m k (delegate_at h k) v }
set_entry h (Some m) (Some k) None = record h { entries = without_entry h.entries m k }
set_entry h (Some m) None v = h
set_entry h None k v = h

-- a reflector preserved, and slot i of a script object written
abbrev pub put_in_script : Heap → Option Name → ℕ → Option Name → Heap
put_in_script h x i y = set_slot (preserve h x) x i y

-- what a deed does to the heaps, and what is told meanwhile
unfoldable pub done_in : Heap → Deed → Outcome
done_in h nothing_done = silently h
done_in h (native_made d n) = make_native h d n
done_in h (plain_made d n) = silently (make_object h d Plain n None)
done_in h (map_made d) = silently (make_object h d Map 0 None)
done_in h (proxy_made d x) = silently (make_proxy h d x)
done_in h (native_held d x) = hold_native h d x
done_in h (script_held d x) = silently (hold_script h d x)
done_in h (script_copied d x) = silently (set_register h (S d) x)
done_in h (native_stored d i x) = store_native h d i x
done_in h (slot_moved d i s j) = move_slot h d i s j
done_in h (script_stored x i y) = silently (put_in_script h x i y)
done_in h (reflector_held d x) = silently (set_register (wrapped h x) (S d) (reflector_of x))
done_in h (reflector_preserved x) = silently (preserve h x)
done_in h (entry_written m k v) = silently (set_entry h m k v)
done_in h (object_exposed x) = silently (exposed h x)
done_in h (weak_written w x) = silently h

-- THE EFFECTS of a command that passes its checks and has its memory
unfoldable pub effects : Heap → Command → Outcome
effects h c = done_in h (deed_of (objects_of h) c)

abbrev pub lacks_reflector : Heap → Option Name → Bool
lacks_reflector h (Some (name.Native k)) = not (has_reflector h k.0)
lacks_reflector h (Some (name.Script k)) = false
lacks_reflector h (Some (name.Reflector k)) = false
lacks_reflector h None = false

-- whether a command that passes its checks takes memory
abbrev pub takes_memory : Heap → Command → Bool
takes_memory h (Native d n) = true
takes_memory h (Script d n) = true
takes_memory h (WeakMap d) = true
takes_memory h (Proxy d s) = true
takes_memory h (SetEntry m k (Some v)) = is_none (value_at (objects_of h) (register h (S m)) (register h (S k)))
takes_memory h (Wrap d s) = lacks_reflector h (register h (N s))
takes_memory h _ = false
