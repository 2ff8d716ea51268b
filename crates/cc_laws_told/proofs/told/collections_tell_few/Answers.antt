use Rattle.cc_laws_run.proofs.QuietUnits.{gc-unmarked}
use Rattle.cc_laws_told.proofs.CollectionsTell.{slice-tells, collect-tells, collect_alone-tells, gc-tells, gc_alone-tells, mark-tells, mark_alone-tells, collect-drops, gc-drops, mark-drops, slice-unmarks, collect-unmarks}
use Rattle.cc_laws_told.proofs.told.collections_tell_few.Goals as goal

pub returns-clause-slice : goal.returns-clause-slice
returns-clause-slice c = slice-tells

pub returns-clause-collect : goal.returns-clause-collect
returns-clause-collect c = collect-tells

pub returns-clause-collect_alone : goal.returns-clause-collect_alone
returns-clause-collect_alone c = collect_alone-tells

pub returns-clause-gc : goal.returns-clause-gc
returns-clause-gc c = gc-tells

pub returns-clause-gc_alone : goal.returns-clause-gc_alone
returns-clause-gc_alone c = gc_alone-tells

pub returns-clause-over : goal.returns-clause-over
returns-clause-over c = λ m. (collect-drops m, gc-drops m, collect-unmarks m, gc-unmarked m)

pub returns-clause-mark : goal.returns-clause-mark
returns-clause-mark c = mark-tells

pub returns-clause-mark_alone : goal.returns-clause-mark_alone
returns-clause-mark_alone c = mark_alone-tells

pub returns-clause-over_slices : goal.returns-clause-over_slices
returns-clause-over_slices c = slice-unmarks

pub returns-clause-over_marks : goal.returns-clause-over_marks
returns-clause-over_marks c = mark-drops
