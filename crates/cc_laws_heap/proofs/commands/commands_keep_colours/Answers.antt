use Rattle.cc_model.specs.Heap.{objects_of}
use Rattle.cc_model.specs.Effects.{effects}
use Rattle.cc_laws_heap.proofs.Taken.{IsTaken, IsTaken-from}
use Rattle.cc_laws_heap.proofs.CommandsSound.{effects-sound}
use Rattle.cc_laws_heap.proofs.Coloured.{AreColoured-from_view, HasColourInvariant-from}
use Rattle.cc_laws_heap.proofs.CommandsColours.{effects-coloured}
use Rattle.cc_laws_heap.proofs.commands.commands_keep_colours.Goals as goal

pub returns-clause-command : goal.returns-clause-command
returns-clause-command c = λ h command s i r e.
    let taken : IsTaken (objects_of h) command = IsTaken-from (objects_of h) command e in
    HasColourInvariant-from (effects h command).heap (effects-sound h command s r taken).well_formed
    (effects-coloured h command s (AreColoured-from_view h s.well_formed i) r taken)
