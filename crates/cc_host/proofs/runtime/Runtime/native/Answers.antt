use Rattle.std.proofs.Common.{[], subst}
use Rattle.cc_host.specs.Hosted.{IsKept}
use Rattle.cc_host.specs.Stops.{stop_at}
use Rattle.cc_host.proofs.Referring.{found-native, key-held}
use Rattle.cc_host.proofs.Stopping.{passed}
use Rattle.cc_host.proofs.runtime.Runtime.native.Goals as goal

pub returns-in-Native-clause-usable : goal.returns-in-Native-clause-usable
returns-in-Native-clause-usable c =
    let h = c.args.self.now in
    key-held h.heaps [] (subst IsKept c.self.view_is c.self.invariant).runs.order (record { 0 = c.args.x.key }) c.in-Native.field-0
    (found-native h c.args.x c.in-Native.field-0 c.in-Native.is (passed (stop_at h c.args.x) _ c.in_ok-look.ensures))
