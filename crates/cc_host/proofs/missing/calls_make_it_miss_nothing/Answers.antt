use Rattle.std.proofs.Common.{ap, ◌∙◌}
use Rattle.cc_collector.specs.Kept.{running_snapshot}
use Rattle.cc_host.specs.Missing.{KeepsDoomed, KeepsDoomedBut}
use Rattle.cc_host.proofs.missing.calls_make_it_miss_nothing.Goals as goal

pub returns-clause-does : goal.returns-clause-does
unfolding KeepsDoomed
returns-clause-does c = λ change old new ds does k. record {
  graph = let s = does.stands tt k.graph.0 k.graph.1 k.graph.2 in (change k.graph.0, s.0, s.1);
  reflectors = k.reflectors;
  doomed = (k.doomed.0, ap running_snapshot does.running ∙ k.doomed.1, (does.doomed tt).0 k.doomed.0 ds k.reflectors k.doomed.2);
}

pub returns-clause-brings : goal.returns-clause-brings
unfolding KeepsDoomedBut
returns-clause-brings c = λ x change old new ds does none k. record {
  graph = let s = does.stands k.graph.0 k.graph.1 k.graph.2 in (change k.graph.0, s.0, s.1);
  reflectors = k.reflectors;
  doomed = (k.doomed.0, ap running_snapshot does.running ∙ k.doomed.1, does.doomed.0 k.doomed.0 ds k.reflectors none k.doomed.2);
}

pub returns-clause-tries : goal.returns-clause-tries
unfolding KeepsDoomed
returns-clause-tries c = λ old new ds tries k. record {
  graph = (k.graph.0, k.graph.1, tries.stands k.graph.0 k.graph.1 k.graph.2);
  reflectors = k.reflectors;
  doomed = (k.doomed.0, ap running_snapshot tries.running ∙ k.doomed.1, (tries.doomed tt).0 k.doomed.0 ds k.reflectors k.doomed.2);
}
