use Rattle.cc_laws_marking.proofs.Few.{few-black, few-gray, few-scans}
use Rattle.cc_laws_marking.proofs.lists.markings_scan_few.Goals as goal

pub returns-clause-black : goal.returns-clause-black
returns-clause-black c = λ h m s u so_far l. few-black h m s.well_formed u so_far l

pub returns-clause-gray : goal.returns-clause-gray
returns-clause-gray c = λ h m s u so_far l. few-gray h m s.well_formed u so_far l

pub returns-clause-scans : goal.returns-clause-scans
returns-clause-scans c = λ h m s u so_far l. few-scans h m s.well_formed u so_far l
