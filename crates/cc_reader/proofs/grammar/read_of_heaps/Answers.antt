use Rattle.std.proofs.Common.{codes, sym, ◌∙◌}
use Rattle.cc_model.specs.Tokens.{tokens_of}
use Rattle.cc_reader.specs.Words.{heap_forms}
use Rattle.cc_reader.proofs.Reading.{command_in-word}
use Rattle.cc_reader.proofs.grammar.read_of_heaps.Goals as goal

pub returns-then-eq-clause-form : goal.returns-then-eq-clause-form
returns-then-eq-clause-form c = c.read_slice.ensures.form ∙ sym (command_in-word heap_forms c.args.word.now _ (codes "slice") (tokens_of c.args.after.now) c.if-eq.ensures c.as_slice.ensures)

pub returns-then-eq-2-clause-form : goal.returns-then-eq-2-clause-form
returns-then-eq-2-clause-form c = c.read_collect.ensures.form ∙ sym (command_in-word heap_forms c.args.word.now _ (codes "collect") (tokens_of c.args.after.now) c.if-eq-2.ensures c.as_slice-else-eq.ensures)

pub returns-then-eq-3-clause-form : goal.returns-then-eq-3-clause-form
returns-then-eq-3-clause-form c = c.read_gc.ensures.form ∙ sym (command_in-word heap_forms c.args.word.now _ (codes "gc") (tokens_of c.args.after.now) c.if-eq-3.ensures c.as_slice-else-eq-2.ensures)

pub returns-then-eq-4-clause-form : goal.returns-then-eq-4-clause-form
returns-then-eq-4-clause-form c = c.read_census.ensures.form ∙ sym (command_in-word heap_forms c.args.word.now _ (codes "census") (tokens_of c.args.after.now) c.if-eq-4.ensures c.as_slice-else-eq-3.ensures)
