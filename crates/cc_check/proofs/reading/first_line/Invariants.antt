use Rattle.std.proofs.Common.{◌≡◌, take, drop}
use Rattle.cc_model.specs.Lines.{lines_from, lines_of}
use Rattle.cc_check.proofs.reading.first_line.Given as goal

abbrev pub invariant-bytes : goal.invariant-bytes
invariant-bytes l = lines_of l.script ≡ lines_from (take l.place l.script) (drop l.place l.script)
