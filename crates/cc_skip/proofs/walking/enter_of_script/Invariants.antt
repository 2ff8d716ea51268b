use Rattle.std.proofs.Common.{◌≡◌, ◌+◌, length, take}
use Rattle.cc_model.specs.Slots.{contents}
use Rattle.cc_counted.specs.declared.held.Held.TheVariants as held
use Rattle.cc_heaps.specs.Places.{places_at}
use Rattle.cc_skip.specs.Walked.{Enters}
use Rattle.cc_skip.proofs.walking.enter_of_script.Given as goal

abbrev pub invariant-loop-i : goal.invariant-loop-i
invariant-loop-i l = record {
  came : Enters l.fn.heaps l.heaps (contents (take l.i (places_at l.fn.heaps (held.Script l.key))));
  many : length (places_at l.fn.heaps (held.Script l.key)) ≡ l.i-end + 2;
}
