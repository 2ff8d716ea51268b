use Rattle.std.proofs.Common.{◌≡◌, length}
use Rattle.cc_search.specs.Found.{IsKept}
use Rattle.cc_search.proofs.found.Found.forget.Given as goal

abbrev pub invariant-steps : goal.invariant-steps
invariant-steps l = record {
  none_walked : l.self-inside.walked ≡ 0;
  kept : IsKept 0 l.self-inside.steps.items l.self-inside.places;
}

abbrev pub decreases-steps : goal.decreases-steps
decreases-steps l = length l.self-inside.steps.items
