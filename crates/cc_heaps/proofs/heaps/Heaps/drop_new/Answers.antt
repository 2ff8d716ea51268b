use Rattle.cc_heaps.proofs.Remarked.{remarked-same, room-same}
use Rattle.cc_heaps.proofs.RemarkedHeaps.{AreRemarked, heaps-remarked}
use Rattle.std.proofs.Common.{length, refl}
use Rattle.cc_heaps.proofs.heaps.Heaps.drop_new.Goals as goal

dropped : (c : goal.After-discard) → AreRemarked c.self.inside (record c.self.inside { to_scan = c.discard.new.self })
dropped c =
    let p = c.self.inside in
    heaps-remarked p c.self.invariant p.scripts c.discard.new.self (remarked-same p.scripts)
    (room-same p.to_scan c.discard.new.self (length p.scripts) (length p.scripts) c.discard.ensures.room refl c.self.invariant.room)

pub returns-clause-kept : goal.returns-clause-kept
returns-clause-kept c = rw (← c.self.view_is) (dropped c).kept
