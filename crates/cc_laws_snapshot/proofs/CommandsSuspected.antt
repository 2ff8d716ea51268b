-- NO COMMAND THAT IS NOT REFUSED FORGETS AN UNREACHED NATIVE.
use Rattle.std.proofs.Common.{◌≡◌, ℕ, List, None}
use Rattle.std.specs.Prelude.{IsTrue}
use Rattle.cc_model.specs.declared.command.Command.{Command}
use Rattle.cc_model.specs.Ranges.{in_range}
use Rattle.cc_model.specs.Checks.{refusal_of}
use Rattle.cc_model.specs.Heap.{Heap, objects_of}
use Rattle.cc_model.specs.View.{view}
use Rattle.cc_model.specs.Effects.{effects}
use Rattle.cc_model.specs.Suspected.{IsSuspected}
use Rattle.cc_laws_heap.specs.Sound.{IsSound}
use Rattle.cc_laws_heap.proofs.Taken.{IsTaken, IsTaken-from}
use Rattle.cc_laws_heap.proofs.CommandsSound.{effects-sound}
use Rattle.cc_laws_snapshot.proofs.LoyalSuspected.{loyal-suspected}
use Rattle.cc_laws_snapshot.proofs.CommandsLoyal.{effects-loyal}

-- THE EFFECTS OF A COMMAND FORGET NONE.
pub effects-suspected : {owned : List ℕ} (h : Heap) (c : Command) (candidates : List ℕ) → IsSound owned h → IsTrue (in_range c) → refusal_of (objects_of h) c ≡ None →
    IsSuspected (view h) candidates → IsSuspected (view (effects h c).heap) candidates
effects-suspected {owned} h c candidates s i e =
    let taken : IsTaken (objects_of h) c = IsTaken-from (objects_of h) c e in
    let sound : IsSound owned (effects h c).heap = effects-sound h c s i taken in
    loyal-suspected h (effects h c).heap candidates s.well_formed sound.well_formed (effects-loyal h c s i taken)
