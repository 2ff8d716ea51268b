use Rattle.std.proofs.Common.{[], ◌∷◌, ◌++◌, Ok, sym, ap, ◌∙◌}
use Rattle.cc_check.proofs.Endings.{given-within, stop-within, whole-within}
use Rattle.cc_check.proofs.checking.hear_next.Goals as goal

pub returns-in_err-next-clause-within : goal.returns-in_err-next-clause-within
returns-in_err-next-clause-within g c = λ limits script start t.
    stop-within start _ _ t.lines _ c.next.result c.in_err-next.was (λ e. c.next.ensures.broken e start t.lines t.given) (λ e. c.next.ensures.over e start t.lines t.given)

pub returns-in-End-clause-within : goal.returns-in-End-clause-within
returns-in-End-clause-within g c = λ limits script start t.
    whole-within start _ _ t.lines (c.next.ensures.whole (c.in_ok-next.was ∙ ap Ok c.in-End.is) start t.lines t.given)

pub returns-in_err-hear-in-TooLong-clause-within : goal.returns-in_err-hear-in-TooLong-clause-within
returns-in_err-hear-in-TooLong-clause-within g c = λ limits script start t.
    let l = c.next.ensures.long (c.in_ok-next.was ∙ ap Ok c.in-TooLong.is) in
    given-within start _ _ (t.lines ++ l.0 ∷ []) (l.2 start t.lines t.given)

pub returns-in_ok-hear-in-TooLong-clause-within : goal.returns-in_ok-hear-in-TooLong-clause-within
returns-in_ok-hear-in-TooLong-clause-within g c = λ limits script start t.
    let l = c.next.ensures.long (c.in_ok-next.was ∙ ap Ok c.in-TooLong.is) in
    given-within start _ _ (t.lines ++ l.0 ∷ []) (l.2 start t.lines t.given)

pub returns-in_err-hear-in-Text-clause-within : goal.returns-in_err-hear-in-Text-clause-within
returns-in_err-hear-in-Text-clause-within g c = λ limits script start t.
    given-within start _ _ _ (c.next.ensures.kept (c.in_ok-next.was ∙ ap Ok c.in-Text.is) start t.lines t.given)

pub returns-in_ok-hear-in-Text-clause-within : goal.returns-in_ok-hear-in-Text-clause-within
returns-in_ok-hear-in-Text-clause-within g c = λ limits script start t.
    given-within start _ _ _ (c.next.ensures.kept (c.in_ok-next.was ∙ ap Ok c.in-Text.is) start t.lines t.given)

pub returns-in_ok-hear-in-TooLong-clause-more : goal.returns-in_ok-hear-in-TooLong-clause-more
returns-in_ok-hear-in-TooLong-clause-more g c = λ same limits script start t.
    let l = c.next.ensures.long (c.in_ok-next.was ∙ ap Ok c.in-TooLong.is) in
    record {
      lines = t.lines ++ l.0 ∷ [];
      given = l.2 start t.lines t.given;
      tried = c.in_ok-hear-in-TooLong.ensures.tried limits script t.lines l.0 l.1 t.tried;
    }

pub returns-in_ok-hear-in-Text-clause-more : goal.returns-in_ok-hear-in-Text-clause-more
returns-in_ok-hear-in-Text-clause-more g c = λ same limits script start t.
    record {
      lines = t.lines ++ c.next.new.self.text ∷ [];
      given = c.next.ensures.kept (c.in_ok-next.was ∙ ap Ok c.in-Text.is) start t.lines t.given;
      tried = c.in_ok-hear-in-Text.ensures.tried limits script t.lines c.next.new.self.text (sym c.text.ensures) t.tried;
    }

pub returns-in-End-clause-whole : goal.returns-in-End-clause-whole
returns-in-End-clause-whole g c = λ same limits script start t.
    record {
      lines = t.lines;
      given = c.next.ensures.whole (c.in_ok-next.was ∙ ap Ok c.in-End.is) start t.lines t.given;
      tried = t.tried;
    }
