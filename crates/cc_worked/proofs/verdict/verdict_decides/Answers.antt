use Rattle.cc_worked.proofs.LawfulTest.{is_lawful-decided}
use Rattle.cc_worked.proofs.QuietTest.{is_quiet-decided, verdict-decided}
use Rattle.cc_worked.proofs.verdict.verdict_decides.Goals as goal

pub returns-clause-lawful : goal.returns-clause-lawful
returns-clause-lawful c = is_lawful-decided

pub returns-clause-quiet : goal.returns-clause-quiet
returns-clause-quiet c = is_quiet-decided

pub returns-clause-both : goal.returns-clause-both
returns-clause-both c = verdict-decided
