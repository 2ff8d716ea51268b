use Rattle.std.proofs.Common.{codes, sym, ◌∙◌}
use Rattle.cc_model.specs.Tokens.{tokens_of}
use Rattle.cc_reader.specs.Words.{slot_forms}
use Rattle.cc_reader.proofs.Reading.{command_in-word}
use Rattle.cc_reader.proofs.grammar.read_of_slots.Goals as goal

pub returns-then-eq-clause-form : goal.returns-then-eq-clause-form
returns-then-eq-clause-form c = c.read_set.ensures.form ∙ sym (command_in-word (slot_forms c.args.dialect) c.args.word.now _ (codes "set") (tokens_of c.args.after.now) c.if-eq.ensures c.as_slice.ensures)

pub returns-then-eq-2-clause-form : goal.returns-then-eq-2-clause-form
returns-then-eq-2-clause-form c = c.read_get.ensures.form ∙ sym (command_in-word (slot_forms c.args.dialect) c.args.word.now _ (codes "get") (tokens_of c.args.after.now) c.if-eq-2.ensures c.as_slice-else-eq.ensures)

pub returns-then-eq-3-clause-form : goal.returns-then-eq-3-clause-form
returns-then-eq-3-clause-form c = c.read_put.ensures.form ∙ sym (command_in-word (slot_forms c.args.dialect) c.args.word.now _ (codes "put") (tokens_of c.args.after.now) c.if-eq-3.ensures c.as_slice-else-eq-2.ensures)

pub returns-then-eq-4-clause-form : goal.returns-then-eq-4-clause-form
returns-then-eq-4-clause-form c = c.read_take.ensures.form ∙ sym (command_in-word (slot_forms c.args.dialect) c.args.word.now _ (codes "take") (tokens_of c.args.after.now) c.if-eq-4.ensures c.as_slice-else-eq-3.ensures)
