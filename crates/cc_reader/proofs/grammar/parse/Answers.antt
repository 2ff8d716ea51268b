use Rattle.std.proofs.Common.{sym, ap, ◌∙◌, arith}
use Rattle.cc_model.specs.Tokens.{tokens_of}
use Rattle.cc_reader.proofs.Reading.{command_of-blank, command_of-comment, command_of-word}
use Rattle.cc_reader.proofs.grammar.parse.Goals as goal

pub returns-in_default-clause-command : goal.returns-in_default-clause-command
returns-in_default-clause-command c = sym (command_of-blank c.args.dialect c.args.text.now (ap tokens_of (sym c.without_return-line.ensures) ∙ c.in_default.ensures.none))

pub returns-then-word-eq37-clause-command : goal.returns-then-word-eq37-clause-command
returns-then-word-eq37-clause-command c = grind (arith, command_of-comment)

pub returns-clause-command : goal.returns-clause-command
returns-clause-command c = c.read_word.ensures.form ∙ sym (command_of-word c.args.dialect c.args.text.now c.in-Some.word.now c.in-Some.after.now
    (ap tokens_of (sym c.without_return-line.ensures) ∙ c.in-Some.ensures.cut) c.in-Some.ensures.some c.if-word-eq37.false)
