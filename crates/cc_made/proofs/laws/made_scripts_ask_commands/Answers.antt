use Rattle.std.proofs.Common.{ap, length, map, ◌∙◌}
use Rattle.std.proofs.lemmas.List.{length-map}
use Rattle.std.specs.List.{list_all}
use Rattle.cc_model.specs.Asks.{ask_of}
use Rattle.cc_model.specs.declared.dialect.Dialect.TheVariants.{One}
use Rattle.cc_made.specs.Asked.{writes_of_eight, is_command}
use Rattle.cc_made.specs.Made.{lines_from, seeded}
use Rattle.cc_made.proofs.Lines.{asks-made, commands-made, drawn_lines, many-made, registers-made, tail-made}
use Rattle.cc_made.proofs.laws.made_scripts_ask_commands.Goals as goal

pub returns-clause-many : goal.returns-clause-many
returns-clause-many c = λ seed count.
    ap length (asks-made count (seeded seed)) ∙ length-map (lines_from count (seeded seed)) (ask_of One) ∙ many-made count (seeded seed)

pub returns-clause-commands : goal.returns-clause-commands
returns-clause-commands c = λ seed count. ap (list_all is_command) (asks-made count (seeded seed)) ∙ commands-made count (seeded seed)

pub returns-clause-registers : goal.returns-clause-registers
returns-clause-registers c = λ o seed count. ap (list_all (writes_of_eight o)) (asks-made count (seeded seed)) ∙ registers-made o count (seeded seed)

pub returns-clause-tail : goal.returns-clause-tail
returns-clause-tail c = λ seed count. (map (ask_of One) (drawn_lines count (seeded seed)), asks-made count (seeded seed) ∙ tail-made count (seeded seed))
