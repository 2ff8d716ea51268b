use Rattle.std.proofs.Common.{◌≡◌, ◌++◌, filter, take}
use Rattle.cc_model.specs.Slots.{contents}
use Rattle.cc_listed.specs.Found.{is_of_kind}
use Rattle.cc_listed.proofs.census.add.Given as goal

abbrev pub invariant-loop-place : goal.invariant-loop-place
invariant-loop-place l = l.names.items ≡ l.initial.names.items ++ filter (is_of_kind l.natives) (contents (take l.place-index l.places))
