use Rattle.std.proofs.Common.{[]}
use Rattle.cc_tests_heaps.proofs.new_marks.three_scans.Goals as goal

pub scan_new-first-requires-clause-order : goal.scan_new-first-requires-clause-order
scan_new-first-requires-clause-order c = ([], c.begin_new.ensures.kept.order [] c.requires.order)

pub scan_new-second-requires-clause-order : goal.scan_new-second-requires-clause-order
scan_new-second-requires-clause-order c = ([], c.scan_new-first.ensures.kept.order [] (c.begin_new.ensures.kept.order [] c.requires.order))

pub scan_new-third-requires-clause-order : goal.scan_new-third-requires-clause-order
scan_new-third-requires-clause-order c =
    ([], c.scan_new-second.ensures.kept.order [] (c.scan_new-first.ensures.kept.order [] (c.begin_new.ensures.kept.order [] c.requires.order)))

pub returns-clause-order : goal.returns-clause-order
returns-clause-order c = c.drop_new.ensures.kept.order []
    (c.scan_new-third.ensures.kept.order [] (c.scan_new-second.ensures.kept.order [] (c.scan_new-first.ensures.kept.order [] (c.begin_new.ensures.kept.order [] c.requires.order))))
