use Rattle.std.proofs.Common.{codes, sym, ◌∙◌}
use Rattle.cc_model.specs.Tokens.{tokens_of}
use Rattle.cc_reader.specs.Words.{reflector_forms}
use Rattle.cc_reader.proofs.Reading.{command_in-word}
use Rattle.cc_reader.proofs.grammar.read_of_reflectors.Goals as goal

pub returns-then-eq-clause-form : goal.returns-then-eq-clause-form
returns-then-eq-clause-form c = c.read_wrap.ensures.form ∙ sym (command_in-word (reflector_forms c.args.dialect) c.args.word.now _ (codes "wrap") (tokens_of c.args.after.now) c.if-eq.ensures c.as_slice.ensures)

pub returns-then-eq-2-clause-form : goal.returns-then-eq-2-clause-form
returns-then-eq-2-clause-form c = c.read_unwrap.ensures.form ∙ sym (command_in-word (reflector_forms c.args.dialect) c.args.word.now _ (codes "unwrap") (tokens_of c.args.after.now) c.if-eq-2.ensures c.as_slice-else-eq.ensures)

pub returns-then-eq-3-clause-form : goal.returns-then-eq-3-clause-form
returns-then-eq-3-clause-form c = c.read_preserve.ensures.form ∙ sym (command_in-word (reflector_forms c.args.dialect) c.args.word.now _ (codes "preserve") (tokens_of c.args.after.now) c.if-eq-3.ensures c.as_slice-else-eq-2.ensures)

pub returns-then-eq-4-clause-form : goal.returns-then-eq-4-clause-form
returns-then-eq-4-clause-form c = c.read_set_entry.ensures.form ∙ sym (command_in-word (reflector_forms c.args.dialect) c.args.word.now _ (codes "wset") (tokens_of c.args.after.now) c.if-eq-4.ensures c.as_slice-else-eq-3.ensures)

pub returns-then-eq-5-clause-form : goal.returns-then-eq-5-clause-form
returns-then-eq-5-clause-form c = c.read_get_entry.ensures.form ∙ sym (command_in-word (reflector_forms c.args.dialect) c.args.word.now _ (codes "wget") (tokens_of c.args.after.now) c.if-eq-5.ensures c.as_slice-else-eq-4.ensures)

pub returns-then-eq-6-clause-form : goal.returns-then-eq-6-clause-form
returns-then-eq-6-clause-form c = c.read_expose.ensures.form ∙ sym (command_in-word (reflector_forms c.args.dialect) c.args.word.now _ (codes "expose") (tokens_of c.args.after.now) c.if-eq-6.ensures c.as_slice-else-eq-5.ensures)
