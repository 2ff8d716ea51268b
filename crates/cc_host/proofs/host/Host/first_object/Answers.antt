use Rattle.std.proofs.Common.{◌≤◌, count_by, subst}
use Rattle.cc_names.specs.Names.{same_name}
use Rattle.cc_host.specs.Hosts.{State}
use Rattle.cc_host.specs.Walks.{objects_in}
use Rattle.cc_host.proofs.host.Host.first_object.Goals as goal

pub returns-clause-once : goal.returns-clause-once
returns-clause-once c x = subst (λ (s : State). count_by (same_name x) (objects_in s.host.heaps.heap) ≤ 1) c.self.view_is (c.first_object.ensures.once x)
