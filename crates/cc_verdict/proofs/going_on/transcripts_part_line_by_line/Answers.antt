use Rattle.std.proofs.Common.{refl, sym, ap, ◌∙◌}
use Rattle.cc_model.specs.Answers.{all_items_of, text_of_answers}
use Rattle.cc_model.specs.Lines.{lines_of}
use Rattle.cc_verdict.proofs.Uncut.{lines-of_items}
use Rattle.cc_verdict.proofs.going_on.transcripts_part_line_by_line.Goals as goal

pub returns-clause-so_far : goal.returns-clause-so_far
returns-clause-so_far c = λ limits script lines rest f. record {
  text = text_of_answers f.answers;
  rest = rest;
  lawful = record { answers = f.answers; text_is = refl; lawful = f.lawful; quiet = f.quiet };
  lines_are = lines-of_items (all_items_of f.answers) ∙ sym f.lines_are;
}

pub returns-clause-parted : goal.returns-clause-parted
returns-clause-parted c = λ limits script lines none so_far.
    let l = so_far.lawful in
    none so_far.rest (record {
      answers = l.answers;
      lines_are = sym so_far.lines_are ∙ (ap lines_of l.text_is ∙ lines-of_items (all_items_of l.answers));
      lawful = l.lawful;
      quiet = l.quiet;
    })
