use Rattle.std.proofs.Common.{[], ◌∙◌, sym, subst}
use Rattle.cc_host.specs.Hosted.{IsKept}
use Rattle.cc_host.proofs.Referring.{key-held}
use Rattle.cc_host.proofs.runtime.Runtime.followed.Goals as goal

pub returns-then-found_native-clause-usable : goal.returns-then-found_native-clause-usable
returns-then-found_native-clause-usable c =
    key-held c.args.self.now.heaps [] (subst IsKept c.self.view_is c.self.invariant).runs.order c.args.w.key c.args.w.number (sym c.found_native.ensures ∙ c.if-found_native.true)
