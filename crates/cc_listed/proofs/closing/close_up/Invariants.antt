use Rattle.std.proofs.Common.{◌≡◌, ℕ, ◌<◌, ◌≤◌, length, take, None}
use Rattle.cc_model.specs.Slots.{contents}
use Rattle.cc_listed.specs.Found.{AreFound, slot_at}
use Rattle.cc_listed.proofs.closing.close_up.Given as goal

abbrev pub invariant-loop-place : goal.invariant-loop-place
invariant-loop-place l = record {
  found : AreFound l.places.items l.by_name;
  names : contents l.places.items ≡ contents l.initial.places.items;
  places : length l.places.items ≡ length l.initial.places.items;
  order : l.end ≤ l.place;
  full : length (contents (take l.end l.places.items)) ≡ l.end;
  empty : (k : ℕ) → l.end ≤ k → k < l.place → slot_at l.places.items k ≡ None;
}
