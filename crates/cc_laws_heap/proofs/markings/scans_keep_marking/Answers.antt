use Rattle.cc_model.specs.Marking.{scanned}
use Rattle.cc_laws_heap.proofs.Raising.{Raises-scanned, IsUnderMarking-raised}
use Rattle.cc_laws_heap.proofs.ScanningOn.{IsScannedSoFar-scanned}
use Rattle.cc_laws_heap.proofs.ScansLeft.{scanned-less}
use Rattle.cc_laws_heap.proofs.markings.scans_keep_marking.Goals as goal

pub returns-clause-scanned : goal.returns-clause-scanned
returns-clause-scanned c = λ h m u. IsUnderMarking-raised h m (scanned h m) (Raises-scanned h m) u

pub returns-clause-given_on : goal.returns-clause-given_on
returns-clause-given_on c = λ h m s u so_far. IsScannedSoFar-scanned h m s.well_formed u.within u.there so_far

pub returns-clause-less : goal.returns-clause-less
returns-clause-less c = λ h m e. scanned-less h m e
