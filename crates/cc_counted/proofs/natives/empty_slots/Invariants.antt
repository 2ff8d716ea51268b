use Rattle.std.specs.Prelude.{◌≡◌, None, replicate, vec_capacity, vec_len}
use Rattle.cc_counted.proofs.natives.empty_slots.Given as goal

abbrev pub invariant-loop : goal.invariant-loop
invariant-loop l = record {
  items : l.empty.items ≡ replicate l.counter None;
  count : vec_len l.empty ≡ l.counter;
  room : vec_capacity l.empty ≡ l.slots;
}
