use Rattle.std.proofs.Common.{[], ◌∷◌, codes, ap, sym, ◌∙◌}
use Rattle.cc_model.specs.declared.dialect.Dialect.{Dialect}
use Rattle.cc_model.specs.declared.dialect.Dialect.TheVariants.{Two}
use Rattle.cc_model.specs.Asks.{command_in}
use Rattle.cc_model.specs.Forms.{move_form}
use Rattle.cc_model.specs.Tokens.{tokens_of}
use Rattle.cc_reader.specs.Words.{first_read, own_forms}
use Rattle.cc_reader.proofs.Reading.{command_in-word}
use Rattle.cc_reader.proofs.grammar.read_of_dialect.Goals as goal

pub returns-then-eq-2-clause-form : goal.returns-then-eq-2-clause-form
returns-then-eq-2-clause-form c =
    let word = c.args.word.now in
    let after = tokens_of c.args.after.now in
    c.read_move.ensures.form
    ∙ (ap (λ (v : Dialect). first_read (move_form v ∷ []) after) c.in-Two.is
    ∙ sym (ap (λ (v : Dialect). command_in (own_forms v) word after) c.in-Two.is
    ∙ command_in-word (own_forms Two) word _ (codes "move") after c.if-eq-2.ensures c.as_slice-in-Two.ensures))

pub returns-then-eq-4-clause-form : goal.returns-then-eq-4-clause-form
returns-then-eq-4-clause-form c =
    let word = c.args.word.now in
    let after = tokens_of c.args.after.now in
    c.read_forget.ensures.form
    ∙ sym (ap (λ (v : Dialect). command_in (own_forms v) word after) c.in-Two.is
    ∙ command_in-word (own_forms Two) word _ (codes "forget") after c.if-eq-4.ensures c.as_slice-else-eq-3.ensures)
