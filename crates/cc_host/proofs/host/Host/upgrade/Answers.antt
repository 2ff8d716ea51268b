use Rattle.std.proofs.Common.{◌≡◌, None, Err, Option, sym, ◌∙◌, subst, arith}
use Rattle.cc_host.specs.Referring.{referent, stop_weak}
use Rattle.cc_host.specs.Stops.{stop_at}
use Rattle.cc_host.proofs.MadeTaken.{followed-taken}
use Rattle.cc_host.proofs.Placing.{passed, refused-alike}
use Rattle.cc_host.specs.declared.root.Root.{Root}
use Rattle.cc_host.specs.Hosts.{State}
use Rattle.cc_host.proofs.host.Host.upgrade.Goals as goal

-- a native that has not ended is refused a root for want of room alone
pub returns-in_err-root-clause-stops : goal.returns-in_err-root-clause-stops
returns-in_err-root-clause-stops c =
    let h = c.self.inside.runtime in
    let w = c.args.w in
    let none = passed (stop_weak h w) c.in_ok-has_ended.field-0 c.in_ok-has_ended.ensures.stops in
    let there = followed-taken h w c.self.invariant.0.kept none (sym c.in_ok-has_ended.ensures.ended ∙ c.if-branch.false) in
    let is : c.from_residual-in_err-root.result ≡ Err c.in_err-root.field-0.0 = grind arith in
    refused-alike Root (Option Root) (stop_at c.args.self.now.host (referent w)) (stop_weak c.args.self.now.host w) c.in_err-root.field-0.0
    c.from_residual-in_err-root.result
    (subst (λ (s : State). stop_at s.host (referent w) ≡ None) c.self.view_is there) (subst (λ (s : State). stop_weak s.host w ≡ None) c.self.view_is none) is c.in_err-root.ensures.stops
