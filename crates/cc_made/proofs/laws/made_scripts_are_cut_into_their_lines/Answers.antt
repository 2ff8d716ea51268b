use Rattle.std.proofs.Common.{arith}
use Rattle.cc_made.specs.Made.{seeded}
use Rattle.cc_made.proofs.Lines.{bytes-made, cut-script, each-short, many-made, uncut-made}
use Rattle.cc_made.proofs.laws.made_scripts_are_cut_into_their_lines.Goals as goal

pub returns-clause-lines : goal.returns-clause-lines
returns-clause-lines c = λ seed count. cut-script _ (uncut-made count (seeded seed))

pub returns-clause-many : goal.returns-clause-many
returns-clause-many c = λ seed count. many-made count (seeded seed)

pub returns-clause-short : goal.returns-clause-short
returns-clause-short c = λ seed count. each-short count (seeded seed)

pub returns-clause-bytes : goal.returns-clause-bytes
returns-clause-bytes c = λ seed count. bytes-made count (seeded seed)

pub returns-clause-within : goal.returns-clause-within
returns-clause-within c = λ seed count h. omega (arith, h, bytes-made count (seeded seed))
