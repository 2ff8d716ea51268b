use Rattle.cc_counted.specs.Resting.{IsAtRest}
use Rattle.cc_counted.proofs.Unlinking.{EmptiesSoFar}
use Rattle.cc_counted.proofs.natives.Natives.empty_each.Given as goal

abbrev pub invariant-loop-i : goal.invariant-loop-i
invariant-loop-i g l = record {
  so_far : EmptiesSoFar l.initial.self.lists l.self.lists l.key.0 l.i (g.N.Notices.telling l.initial.out) (g.N.Notices.telling l.out);
  at_rest : IsAtRest l.self;
}
