use Rattle.cc_laws_told.proofs.LastingUnits.{collect-lasts, gc-lasts, mark-lasts, slice-lasts}
use Rattle.cc_laws_told.proofs.ended.collections_bring_nothing_back.Goals as goal

pub returns-clause-slice : goal.returns-clause-slice
returns-clause-slice c = λ units m s t. let l = slice-lasts units m s t in (l.ended, l.frees)

pub returns-clause-collect : goal.returns-clause-collect
returns-clause-collect c = λ m s t. let l = collect-lasts m s t in (l.ended, l.frees)

pub returns-clause-gc : goal.returns-clause-gc
returns-clause-gc c = λ m s. let l = gc-lasts m s in (l.ended, l.frees)

pub returns-clause-mark : goal.returns-clause-mark
returns-clause-mark c = λ units m s t. let l = mark-lasts units m s t in (l.ended, l.frees)
