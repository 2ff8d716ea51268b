use Rattle.std.proofs.lemmas.Bool.{or_parts}
use Rattle.cc_model.specs.Deeds.{deed_of}
use Rattle.cc_model.specs.Heap.{objects_of}
use Rattle.cc_mutator.proofs.Carrying.{as-taken}
use Rattle.cc_mutator.proofs.WeakRead.{deed-notes}
use Rattle.cc_mutator.proofs.weak.note.Goals as goal

pub note_native-requires-clause-there : goal.note_native-requires-clause-there
note_native-requires-clause-there c = (or_parts _ _ (as-taken _ _ _ c.in-Weak.is c.requires.taken).objects).0

pub returns-in-Weak-clause-noted : goal.returns-in-Weak-clause-noted
unfolding deed_of
returns-in-Weak-clause-noted c = rw c.in-Weak.is c.note_native.ensures.noted

pub returns-in-Drop-clause-noted : goal.returns-in-Drop-clause-noted
returns-in-Drop-clause-noted c = rw c.in-Drop.is (c.empty_weak.ensures.noted (objects_of c.args.heaps.now.heap))

pub returns-in-Drop-clause-keys : goal.returns-in-Drop-clause-keys
returns-in-Drop-clause-keys c = c.empty_weak.ensures.keys c.args.heaps.now c.requires.keys

pub returns-in_default-clause-noted : goal.returns-in_default-clause-noted
returns-in_default-clause-noted c = deed-notes _ _ _ c.in_default.not-Weak c.in_default.not-Drop
