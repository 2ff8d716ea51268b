use Rattle.std.proofs.Common.{◌≡◌, None, subst}
use Rattle.std.proofs.lemmas.Bool.{leb-false, not-false, or_parts}
use Rattle.cc_model.specs.Checks.{refusal_of, reply_if_taken}
use Rattle.cc_model.specs.Deeds.{deed_of}
use Rattle.cc_model.specs.Heap.{objects_of}
use Rattle.cc_mutator.proofs.Carrying.{as-taken}
use Rattle.cc_mutator.proofs.applying.carry_out.Goals as goal

pub make_native-requires-clause-room : goal.make_native-requires-clause-room
make_native-requires-clause-room g c = leb-false _ _ (as-taken _ _ _ c.in-Native.is c.requires.taken).room

pub make_plain-requires-clause-room : goal.make_plain-requires-clause-room
make_plain-requires-clause-room g c = leb-false _ _ (as-taken _ _ _ c.in-Script.is c.requires.taken).room

pub make_map-requires-clause-room : goal.make_map-requires-clause-room
make_map-requires-clause-room g c = leb-false _ _ (as-taken _ _ _ c.in-WeakMap.is c.requires.taken).room

pub make_proxy-requires-clause-room : goal.make_proxy-requires-clause-room
make_proxy-requires-clause-room g c = leb-false _ _ (as-taken _ _ _ c.in-Proxy.is c.requires.taken).room

pub make_proxy-requires-clause-there : goal.make_proxy-requires-clause-there
make_proxy-requires-clause-there g c = (or_parts _ _ (as-taken _ _ _ c.in-Proxy.is c.requires.taken).objects).0

pub set-requires-clause-slot : goal.set-requires-clause-slot
set-requires-clause-slot g c = leb-false _ _ (as-taken _ _ _ c.in-Set.is c.requires.taken).slot

pub put-requires-clause-slot : goal.put-requires-clause-slot
put-requires-clause-slot g c = leb-false _ _ (as-taken _ _ _ c.in-Put.is c.requires.taken).slot

pub take-requires-clause-slot : goal.take-requires-clause-slot
take-requires-clause-slot g c = leb-false _ _ (as-taken _ _ _ c.in-Take.is c.requires.taken).slot

pub expose-requires-clause-slot : goal.expose-requires-clause-slot
expose-requires-clause-slot g c = leb-false _ _ (as-taken _ _ _ c.in-Expose.is c.requires.taken).slot

pub expose-requires-clause-content : goal.expose-requires-clause-content
expose-requires-clause-content g c = (as-taken _ _ _ c.in-Expose.is c.requires.taken).content

pub move_slot-requires-clause-to_slot : goal.move_slot-requires-clause-to_slot
move_slot-requires-clause-to_slot g c = leb-false _ _ (or_parts _ _ (as-taken _ _ _ c.in-Move.is c.requires.taken).slot).0

pub move_slot-requires-clause-from_slot : goal.move_slot-requires-clause-from_slot
move_slot-requires-clause-from_slot g c = leb-false _ _ (or_parts _ _ (as-taken _ _ _ c.in-Move.is c.requires.taken).slot).1

pub wrap-requires-clause-there : goal.wrap-requires-clause-there
wrap-requires-clause-there g c = (or_parts _ _ (as-taken _ _ _ c.in-Wrap.is c.requires.taken).objects).0

pub set_entry-requires-clause-the_map : goal.set_entry-requires-clause-the_map
set_entry-requires-clause-the_map g c = not-false _ (as-taken _ _ _ c.in-SetEntry.is c.requires.taken).kinds

pub set_entry-requires-clause-key : goal.set_entry-requires-clause-key
set_entry-requires-clause-key g c = (or_parts _ _ (or_parts _ _ (as-taken _ _ _ c.in-SetEntry.is c.requires.taken).objects).1).0

pub preserve-requires-clause-there : goal.preserve-requires-clause-there
preserve-requires-clause-there g c = (or_parts _ _ (as-taken _ _ _ c.in-Preserve.is c.requires.taken).objects).0

pub returns-in-Script : goal.returns-in-Script
unfolding deed_of reply_if_taken
returns-in-Script g c = rw c.in-Script.is (c.make_plain.ensures _)

pub returns-in-WeakMap : goal.returns-in-WeakMap
unfolding deed_of reply_if_taken
returns-in-WeakMap g c = rw c.in-WeakMap.is (c.make_map.ensures _)

pub returns-in-Proxy : goal.returns-in-Proxy
unfolding deed_of reply_if_taken
returns-in-Proxy g c = rw c.in-Proxy.is (c.make_proxy.ensures _)

pub returns-in-CopyScript : goal.returns-in-CopyScript
unfolding deed_of reply_if_taken
returns-in-CopyScript g c = rw c.in-CopyScript.is (c.copy_script.ensures _)

pub returns-in-Put : goal.returns-in-Put
unfolding deed_of reply_if_taken
returns-in-Put g c = rw c.in-Put.is (c.put.ensures _)

pub returns-in-Take : goal.returns-in-Take
unfolding deed_of reply_if_taken
returns-in-Take g c = rw c.in-Take.is (c.take.ensures _)

pub returns-in-Wrap : goal.returns-in-Wrap
unfolding deed_of reply_if_taken
returns-in-Wrap g c = rw c.in-Wrap.is (c.wrap.ensures _)

pub returns-in-Preserve : goal.returns-in-Preserve
unfolding deed_of reply_if_taken
returns-in-Preserve g c = rw c.in-Preserve.is (c.preserve.ensures _)

pub returns-in-SetEntry : goal.returns-in-SetEntry
unfolding deed_of reply_if_taken
returns-in-SetEntry g c = rw c.in-SetEntry.is (c.set_entry.ensures _)

pub returns-in-GetEntry : goal.returns-in-GetEntry
unfolding deed_of reply_if_taken
returns-in-GetEntry g c = rw c.in-GetEntry.is (c.get_entry.ensures _)

pub returns-in-Expose : goal.returns-in-Expose
unfolding deed_of reply_if_taken
returns-in-Expose g c = rw c.in-Expose.is (c.expose.ensures _)

pub get-requires-clause-taken : goal.get-requires-clause-taken
get-requires-clause-taken g c = subst (λ e. refusal_of (objects_of c.args.heaps.now.heap) e ≡ None) c.in-Get.is c.requires.taken

pub returns-in-Weak : goal.returns-in-Weak
unfolding deed_of reply_if_taken
returns-in-Weak g c = rw c.in-Weak.is (c.name_noted.ensures _)
