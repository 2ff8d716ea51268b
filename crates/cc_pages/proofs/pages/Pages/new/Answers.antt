use Rattle.cc_pages.proofs.Numbers.{value-none}
use Rattle.cc_pages.proofs.Putting.{groups-none}
use Rattle.cc_pages.proofs.pages.Pages.new.Goals as goal

pub returns-clause-values : goal.returns-clause-values
returns-clause-values c = λ n. value-none (record { groups = c.new.result }) n (λ small. groups-none c.new.result.items n c.new.ensures.items)
