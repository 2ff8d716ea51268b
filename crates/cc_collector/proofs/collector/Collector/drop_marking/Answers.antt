use Rattle.std.proofs.Common.{[], subst, sym}
use Rattle.cc_heaps.specs.Keeping.{KeepsHeaps}
use Rattle.cc_heaps.proofs.KeysKept.{KeepsKeys-same}
use Rattle.cc_heaps.proofs.Kept.{kept-alone}
use Rattle.cc_collector.proofs.Marking.{but_marks}
use Rattle.cc_collector.proofs.collector.Collector.drop_marking.Goals as goal
use Rattle.cc_collector.proofs.collector.Collector.drop_marking.Goals.{then-is_some, else-is_some}

pub returns-clause-kept : goal.returns-clause-kept
returns-clause-kept c = elim c.if-is_some.branch [
  | then-is_some w ↦ subst (KeepsHeaps [] [] c.args.heaps.now) (sym w.heaps-is) (but_marks c.args.heaps.now w.drop_new.new.self w.drop_new.ensures.kept)
  | else-is_some w ↦ let v = c.args.heaps.now in subst (KeepsHeaps [] [] v) (sym w.heaps-is) (kept-alone v v c.requires.order c.requires.order (KeepsKeys-same v) (λ colours. colours))
]
