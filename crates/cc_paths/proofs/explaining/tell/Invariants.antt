use Rattle.std.proofs.Common.{map, take}
use Rattle.cc_model.specs.Answers.{item_of_step}
use Rattle.cc_model.specs.Telling.{Tells}
use Rattle.cc_paths.proofs.explaining.tell.Given as goal

abbrev pub invariant-loop-i : goal.invariant-loop-i
invariant-loop-i g l = Tells (g.N.Notices.telling l.fn.out) (g.N.Notices.telling l.out) (map item_of_step (take l.i l.path))
