use Rattle.std.proofs.Common.{List, map, subst, ◌∙◌}
use Rattle.std.proofs.lemmas.List.{length-map}
use Rattle.cc_model.specs.Asks.{Ask, ask_of}
use Rattle.cc_model.specs.declared.dialect.Dialect.TheVariants.{One}
use Rattle.cc_model.specs.Lawful.{IsLawful}
use Rattle.cc_model.specs.Quiet.{IsQuiet}
use Rattle.cc_made.specs.Made.{seeded}
use Rattle.cc_made.proofs.Ending.{ends}
use Rattle.cc_made.proofs.Lines.{asks-made, drawn-fill, drawn_lines, many-drawn, tail-made}
use Rattle.cc_made.proofs.laws.made_scripts_leave_nothing.Goals as goal

pub returns : goal.returns
returns c = λ seed count limits answers lawful quiet.
    let words = seeded seed in
    let drawn = map (ask_of One) (drawn_lines count words) in
    let are = asks-made count words ∙ tail-made count words in
    ends limits drawn count answers (drawn-fill count words)
    (length-map (drawn_lines count words) (ask_of One) ∙ many-drawn count words)
    (subst (λ (asks : List Ask). IsLawful limits asks answers) are lawful)
    (subst (λ (asks : List Ask). IsQuiet limits asks answers) are quiet)
