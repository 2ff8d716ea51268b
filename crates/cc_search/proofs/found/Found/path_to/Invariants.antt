use Rattle.std.proofs.Common.{◌≡◌, ◌≤◌, length}
use Rattle.cc_model.specs.Derivations.{steps_of}
use Rattle.cc_search.proofs.Wanted.{IsNeeding}
use Rattle.cc_search.proofs.found.Found.path_to.Given as goal

abbrev pub invariant-steps : goal.invariant-steps
invariant-steps l = record {
  needing : IsNeeding (steps_of l.self) l.wanted.items l.name l.path.items l.i;
  long : length l.wanted.items ≡ length (steps_of l.self);
  below : l.i ≤ length (steps_of l.self);
}

abbrev pub decreases-steps : goal.decreases-steps
decreases-steps l = l.i
