-- Each piece that is read leaves fewer bytes.
use Rattle.std.proofs.Common.{length}
use Rattle.ccmade.proofs.write_script.Given as goal

abbrev pub decreases-pieces : goal.decreases-pieces
decreases-pieces g l = length l.source.left
