use Rattle.std.proofs.Common.{◌≡◌, ◌∷◌, false, Ok, sym, ap, subst, ◌∙◌}
use Rattle.std.specs.Prelude.{◌↔◌}
use Rattle.cc_verdict.specs.GoingOn.{CanGoOn}
use Rattle.cc_verdict.specs.Positions.{GoesOn, Position}
use Rattle.cc_check.specs.Standing.{IsKept, asks_left, position_of}
use Rattle.cc_check.specs.Causes.{part_behind, part_here}
use Rattle.cc_check.proofs.Kept.{all-at}
use Rattle.cc_check.proofs.Ranges.{left-in_range}
use Rattle.cc_check.proofs.judge.Judge.hear.Goals as goal

pub returns-then-branch-clause-goes_on : goal.returns-then-branch-clause-goes_on
returns-then-branch-clause-goes_on c = λ is unread none.
    let mid = c.accept.new.self in
    let asks = asks_left c.accept.new.script in
    let kept : IsKept mid = c.in_ok-accept.ensures.kept in
    let can : CanGoOn (position_of mid) asks = c.in_ok-can_go_on.ensures.can.0 c.if-branch.true in
    let same : position_of c.can_go_on.new.self ≡ position_of mid = c.in_ok-can_go_on.ensures.same in
    let g = c.other_ends_lead_on.ensures (position_of mid) asks (left-in_range c.accept.new.script) none (all-at mid kept (sym c.in_ok-can_go_on.ensures.reads ∙ unread)) can in
    (g.0, subst (λ (p : Position). GoesOn p asks g.0) (sym same) g.1)

pub returns-then-not-branch-clause-cause : goal.returns-then-not-branch-clause-cause
returns-then-not-branch-clause-cause c =
    let no : c.accept.result ≡ Ok false = c.in_ok-accept.was ∙ ap Ok (c.if-not-branch.true) in
    part_here (position_of c.accept.new.self) (c.accept.ensures.stands no) c.in_ok-cause.ensures

pub returns-clause-cause : goal.returns-clause-cause
returns-clause-cause c =
    let yes = c.in_ok-accept.was ∙ ap Ok c.if-not-branch.false in
    part_behind (position_of c.can_go_on.new.self)
    (λ line lines hd. subst (λ (p : Position). GoesOn (position_of c.args.self.now) (asks_left c.args.script.now) (line ∷ lines) ↔ GoesOn p (asks_left c.accept.new.script) lines)
    (sym c.in_ok-can_go_on.ensures.same) (c.accept.ensures.yes yes line lines hd))
    c.in_ok-dead_end.ensures
