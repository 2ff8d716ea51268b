use Rattle.std.proofs.Common.{◌∙◌}
use Rattle.cc_host.specs.Missing.{KeepsDoomed, KeepsDoomedBut}
use Rattle.cc_host.proofs.next.what_was_lost_is_taken_later.Goals as goal

pub returns-clause-does : goal.returns-clause-does
unfolding KeepsDoomed
returns-clause-does c = λ change old new ds does w. record {
  graph = let s = does.stands tt w.graph.0 w.graph.1 w.graph.2 in (change w.graph.0, s.0, s.1);
  reflectors = w.reflectors;
  idle = does.running ∙ w.idle;
  unmarked = does.marking ∙ w.unmarked;
  lost = (does.doomed tt).2 ds w.reflectors w.lost;
}

pub returns-clause-brings : goal.returns-clause-brings
unfolding KeepsDoomedBut
returns-clause-brings c = λ x change old new ds brings none w. record {
  graph = let s = brings.stands w.graph.0 w.graph.1 w.graph.2 in (change w.graph.0, s.0, s.1);
  reflectors = w.reflectors;
  idle = brings.running ∙ w.idle;
  unmarked = brings.marking ∙ w.unmarked;
  lost = brings.doomed.2 ds w.reflectors none w.lost;
}

pub returns-clause-tries : goal.returns-clause-tries
unfolding KeepsDoomed
returns-clause-tries c = λ old new ds tries w. record {
  graph = (w.graph.0, w.graph.1, tries.stands w.graph.0 w.graph.1 w.graph.2);
  reflectors = w.reflectors;
  idle = tries.running ∙ w.idle;
  unmarked = tries.marking ∙ w.unmarked;
  lost = (tries.doomed tt).2 ds w.reflectors w.lost;
}
