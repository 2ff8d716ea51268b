use Rattle.std.proofs.Common.{◌≡◌, true, false, Ok, Err, sym, ap, ◌∙◌, arith}
use Rattle.cc_check.specs.declared.verdict.CheckStop.TheVariants.{Fault, Limit}
use Rattle.cc_check.proofs.checking.hear_all.Goals as goal

pub returns-in_err-hear_next-clause-within : goal.returns-in_err-hear_next-clause-within
returns-in_err-hear_next-clause-within g c = λ limits script start t. c.hear_next.ensures.within limits script start (c.lines.invariant.tried limits script start t)

pub returns-in_err-hear_next-clause-fault : goal.returns-in_err-hear_next-clause-fault
returns-in_err-hear_next-clause-fault g c = λ is limits script start t.
    let was : c.hear_next.result ≡ Err Fault = grind arith in
    c.hear_next.ensures.fault was limits script start (c.lines.invariant.tried limits script start t)

pub returns-in_err-hear_next-clause-over : goal.returns-in_err-hear_next-clause-over
returns-in_err-hear_next-clause-over g c = λ is limits script start t.
    let was : c.hear_next.result ≡ Err Limit = grind arith in
    c.hear_next.ensures.over was limits script start (c.lines.invariant.tried limits script start t)

pub lines-preserved : goal.lines-preserved
lines-preserved g c =
    let yes : c.hear_next.result ≡ Ok true = c.in_ok-hear_next.was ∙ ap Ok c.if-branch.true in
    record {
      tried = λ limits script start t. c.hear_next.ensures.more yes limits script start (c.lines.invariant.tried limits script start t);
      going = c.hear_next.ensures.going_on yes;
      ready = c.in_ok-hear_next.ensures.ready;
      bytes = omega (arith, c.in_ok-hear_next.ensures.bytes, c.hear_next.ensures.falls yes, c.lines.invariant.bytes);
      counted = omega (arith, c.in_ok-hear_next.ensures.lines, c.hear_next.ensures.falls yes, c.lines.invariant.counted);
      limit = c.hear_next.ensures.limit ∙ c.lines.invariant.limit;
      reads = λ r h. c.hear_next.ensures.reads r (c.lines.invariant.reads r h);
      same = c.hear_next.ensures.same ∙ c.lines.invariant.same;
      calm = c.hear_next.ensures.calm (λ e. let both : Ok true ≡ Err Fault = sym yes ∙ e in cc) ∙ c.lines.invariant.calm;
    }

pub returns-clause-within : goal.returns-clause-within
returns-clause-within g c = λ limits script start t. c.hear_next.ensures.within limits script start (c.lines.invariant.tried limits script start t)

pub returns-clause-whole : goal.returns-clause-whole
returns-clause-whole g c = λ limits script start t.
    let no : c.hear_next.result ≡ Ok false = c.in_ok-hear_next.was ∙ ap Ok c.if-branch.false in
    c.hear_next.ensures.whole no limits script start (c.lines.invariant.tried limits script start t)

pub returns-clause-lines : goal.returns-clause-lines
returns-clause-lines g c = omega (arith, c.in_ok-hear_next.ensures.lines, c.lines.invariant.counted, c.requires.line)
