use Rattle.cc_laws_marking.proofs.Unmarkable.{not_marked-cases, IsUnmarkable-begun, IsUnmarkable-scanned, unmarkable-freed}
use Rattle.cc_laws_marking.proofs.freed.markings_free_what_was_not_marked.Goals as goal

pub returns-clause-not_marked : goal.returns-clause-not_marked
returns-clause-not_marked c = not_marked-cases

pub returns-clause-begun : goal.returns-clause-begun
returns-clause-begun c = λ h s. IsUnmarkable-begun h s

pub returns-clause-scanned : goal.returns-clause-scanned
returns-clause-scanned c = λ h m them s u so_far w. IsUnmarkable-scanned h m them u w so_far

pub returns-clause-freed : goal.returns-clause-freed
returns-clause-freed c = λ h m them x s u w i. unmarkable-freed h m them u w s x i
