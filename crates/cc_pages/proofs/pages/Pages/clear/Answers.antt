use Rattle.cc_pages.proofs.Numbers.{value-none}
use Rattle.cc_pages.proofs.Putting.{groups-none}
use Rattle.cc_pages.proofs.pages.Pages.clear.Goals as goal

pub returns-clause-values : goal.returns-clause-values
returns-clause-values c = λ n. value-none (record { groups = c.clear.new.self }) n (λ small. groups-none c.clear.new.self.items n c.clear.ensures.items)
