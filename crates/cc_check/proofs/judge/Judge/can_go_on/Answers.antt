use Rattle.std.proofs.Common.{sym, ap, subst, refl}
use Rattle.std.specs.Prelude.{◌↔◌, IsTrue}
use Rattle.cc_verdict.specs.GoingOn.{CanGoOn}
use Rattle.cc_verdict.specs.Positions.{Position}
use Rattle.cc_check.specs.Standing.{asks_left, position_in}
use Rattle.cc_check.proofs.Ahead.{row-can}
use Rattle.cc_check.proofs.judge.Judge.can_go_on.Goals as goal

pub returns-in-Some-clause-can : goal.returns-in-Some-clause-can
returns-in-Some-clause-can c =
    let j = c.args.self.now in
    subst (λ (p : Position). IsTrue c.can_go_on.result ↔ CanGoOn p (asks_left c.args.script)) (sym (ap (position_in j) c.in-Some.is))
    (c.can_go_on.ensures j.graph j.listed j.ended j.row (asks_left c.args.script))

pub returns-in_default-row : goal.returns-in_default-row
returns-in_default-row c =
    let j = c.args.self.now in
    record {
      kept = c.requires.kept;
      same = refl;
      reads = refl;
      can = (
        (λ _. subst (λ (p : Position). CanGoOn p (asks_left c.args.script)) (sym (ap (position_in j) c.in_default.is))
            (row-can j.graph j.listed j.ended j.row (asks_left c.args.script) c.in_default-row.not-AfterAll)),
        (λ _. refl),
      );
    }
