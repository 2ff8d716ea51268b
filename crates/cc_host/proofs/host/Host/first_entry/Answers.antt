use Rattle.std.proofs.Common.{◌≤◌, OnOk, count_by, subst}
use Rattle.cc_names.specs.declared.name.Name.{Name}
use Rattle.cc_names.specs.Names.{same_name}
use Rattle.cc_host.specs.Hosts.{State}
use Rattle.cc_host.specs.Walks.{entries_of}
use Rattle.cc_host.proofs.host.Host.first_entry.Goals as goal

pub returns-clause-once : goal.returns-clause-once
returns-clause-once c =
    subst (λ (s : State). OnOk c.first_entry.result ((k : Name) → count_by (λ (e : Name × Name). same_name e.0 k) (entries_of s.host.heaps.heap c.args.the_map.name) ≤ 1))
    c.self.view_is c.first_entry.ensures.once
