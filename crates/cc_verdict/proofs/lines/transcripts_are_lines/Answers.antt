use Rattle.std.proofs.Common.{length, sym, ap, ◌∙◌}
use Rattle.cc_model.specs.Answers.{all_items_of}
use Rattle.cc_model.specs.Lines.{lines_of}
use Rattle.cc_verdict.specs.Verdicts.{length_of_lines}
use Rattle.cc_verdict.proofs.Uncut.{lines-of_items, length-of_items}
use Rattle.cc_verdict.proofs.Ended.{text-of_items}
use Rattle.cc_verdict.proofs.lines.transcripts_are_lines.Goals as goal

pub returns : goal.returns
returns c = record {
  lawful = λ limits asks text. (
    (λ l. (
      ap length l.text_is ∙ (length-of_items (all_items_of l.answers) ∙ ap length_of_lines (sym (lines-of_items (all_items_of l.answers)) ∙ sym (ap lines_of l.text_is))),
      record {
        answers = l.answers;
        lines_are = ap lines_of l.text_is ∙ lines-of_items (all_items_of l.answers);
        lawful = l.lawful;
        quiet = l.quiet;
      },
    )),
    (λ f. record {
      answers = f.1.answers;
      text_is = text-of_items text (all_items_of f.1.answers) f.0 f.1.lines_are;
      lawful = f.1.lawful;
      quiet = f.1.quiet;
    }),
  );
}
