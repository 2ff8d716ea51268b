use Rattle.std.proofs.Common.{◌≡◌, Result, Ok, Err, sym, ap, ◌∙◌, arith}
use Rattle.std.specs.Result.{IsErrAnd}
use Rattle.cc_check.specs.declared.verdict.CheckStop.{CheckStop}
use Rattle.cc_check.specs.declared.verdict.CheckStop.TheVariants.{Fault, Limit}
use Rattle.cc_check.proofs.Endings.{all-tried, broken-unended, found-over, reads-within}
use Rattle.cc_check.proofs.checking.try_lines.Goals as goal

pub returns-in_err-hear_all-clause-over : goal.returns-in_err-hear_all-clause-over
returns-in_err-hear_all-clause-over g c = λ is.
    let was : c.hear_all.result ≡ Err Limit = grind arith in
    found-over c.args.limits c.args.script.now _ _ _ _ _ _ c.in_ok-trial.trial c.hear_all.new.trial c.requires.within c.requires.start c.hear_all.ensures.limit
    c.hear_all.ensures.reads c.in_ok-trial.ensures.tried (c.hear_all.ensures.over was)

pub returns-in_err-hear_all-clause-reads : goal.returns-in_err-hear_all-clause-reads
returns-in_err-hear_all-clause-reads g c =
    reads-within c.args.limits c.args.script.now _ (g.S.Source.left c.hear_all.new.lines.source.now) _ _ _ _ c.in_ok-trial.trial c.hear_all.new.trial c.requires.within c.requires.start c.hear_all.ensures.limit
    c.hear_all.ensures.reads c.in_ok-trial.ensures.tried c.hear_all.ensures.within

pub returns-in_err-hear_all-clause-end_unread : goal.returns-in_err-hear_all-clause-end_unread
returns-in_err-hear_all-clause-end_unread g c = λ is.
    let was : c.hear_all.result ≡ Err Fault = grind arith in
    broken-unended c.args.limits c.args.script.now _ _ _ _ _ _ c.in_ok-trial.trial c.hear_all.new.trial c.requires.within c.requires.start c.hear_all.ensures.limit
    c.hear_all.ensures.reads c.in_ok-trial.ensures.tried (c.hear_all.ensures.fault was)

pub returns-clause-tried : goal.returns-clause-tried
returns-clause-tried g c =
    all-tried c.args.limits c.args.script.now _ _ _ _ _ _ c.in_ok-trial.trial c.hear_all.new.trial c.requires.within c.requires.start c.hear_all.ensures.limit
    c.hear_all.ensures.reads c.in_ok-trial.ensures.tried c.in_ok-hear_all.ensures.whole _ c.taken.ensures

pub returns-clause-reads : goal.returns-clause-reads
returns-clause-reads g c =
    reads-within c.args.limits c.args.script.now _ (g.S.Source.left c.hear_all.new.lines.source.now) _ _ _ _ c.in_ok-trial.trial c.hear_all.new.trial c.requires.within c.requires.start c.hear_all.ensures.limit
    c.hear_all.ensures.reads c.in_ok-trial.ensures.tried c.hear_all.ensures.within

-- an error that is passed on is the same
passed : {A : Type 0} (r : Result A CheckStop) (e f : CheckStop) → IsErrAnd r (λ x. x ≡ e) → e ≡ f → r ≡ Err f
passed (Err x) e f is same = ap Err (is ∙ same)
passed (Ok a) e f is same = absurd is

pub returns-in_err-hear_all-clause-calm : goal.returns-in_err-hear_all-clause-calm
returns-in_err-hear_all-clause-calm g c = λ other. c.hear_all.ensures.calm (λ e.
    let both : Err c.in_err-hear_all.field-0.0 ≡ Err Fault = sym c.in_err-hear_all.was ∙ e in
    let fault : c.in_err-hear_all.field-0.0 ≡ Fault = cc in
    other (passed c.from_residual-in_err-hear_all.result c.in_err-hear_all.field-0.0 Fault c.from_residual-in_err-hear_all.ensures.1 fault))
