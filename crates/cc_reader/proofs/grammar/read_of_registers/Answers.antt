use Rattle.std.proofs.Common.{codes, sym, ◌∙◌}
use Rattle.cc_model.specs.Tokens.{tokens_of}
use Rattle.cc_reader.specs.Words.{register_forms}
use Rattle.cc_reader.proofs.Reading.{command_in-word}
use Rattle.cc_reader.proofs.grammar.read_of_registers.Goals as goal

pub returns-then-eq-clause-form : goal.returns-then-eq-clause-form
returns-then-eq-clause-form c = c.read_native.ensures.form ∙ sym (command_in-word (register_forms c.args.dialect) c.args.word.now _ (codes "native") (tokens_of c.args.after.now) c.if-eq.ensures c.as_slice.ensures)

pub returns-then-eq-2-clause-form : goal.returns-then-eq-2-clause-form
returns-then-eq-2-clause-form c = c.read_script.ensures.form ∙ sym (command_in-word (register_forms c.args.dialect) c.args.word.now _ (codes "script") (tokens_of c.args.after.now) c.if-eq-2.ensures c.as_slice-else-eq.ensures)

pub returns-then-eq-3-clause-form : goal.returns-then-eq-3-clause-form
returns-then-eq-3-clause-form c = c.read_weak_map.ensures.form ∙ sym (command_in-word (register_forms c.args.dialect) c.args.word.now _ (codes "weakmap") (tokens_of c.args.after.now) c.if-eq-3.ensures c.as_slice-else-eq-2.ensures)

pub returns-then-eq-4-clause-form : goal.returns-then-eq-4-clause-form
returns-then-eq-4-clause-form c = c.read_proxy.ensures.form ∙ sym (command_in-word (register_forms c.args.dialect) c.args.word.now _ (codes "proxy") (tokens_of c.args.after.now) c.if-eq-4.ensures c.as_slice-else-eq-3.ensures)

pub returns-then-eq-5-clause-form : goal.returns-then-eq-5-clause-form
returns-then-eq-5-clause-form c = c.read_copy.ensures.form ∙ sym (command_in-word (register_forms c.args.dialect) c.args.word.now _ (codes "copy") (tokens_of c.args.after.now) c.if-eq-5.ensures c.as_slice-else-eq-4.ensures)

pub returns-then-eq-6-clause-form : goal.returns-then-eq-6-clause-form
returns-then-eq-6-clause-form c = c.read_drop.ensures.form ∙ sym (command_in-word (register_forms c.args.dialect) c.args.word.now _ (codes "drop") (tokens_of c.args.after.now) c.if-eq-6.ensures c.as_slice-else-eq-5.ensures)
