use Rattle.std.proofs.Common.{ap}
use Rattle.cc_holders.specs.Entries.{in_groups}
use Rattle.cc_holders.proofs.Known.{entry-none}
use Rattle.cc_holders.proofs.holders.Holders.new.Goals as goal

pub returns-clause-entries : goal.returns-clause-entries
returns-clause-entries c = λ n. entry-none (record { groups = c.new.result }) n (λ small. ap (λ gs. in_groups gs n) c.new.ensures.items)
