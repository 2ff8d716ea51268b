use Rattle.std.proofs.Common.{◌≡◌, ◌-◌, ◌≤◌, ◌++◌, drop, length, take}
use Rattle.cc_made.proofs.script.Script.give.Given as goal

abbrev pub invariant-pieces : goal.invariant-pieces
invariant-pieces l = record {
  filled : l.buf ≡ take l.given l.fn.self ++ drop l.given l.fn.buf;
  rest : l.self ≡ drop l.given l.fn.self;
  within : l.given ≤ length l.fn.self;
  room : l.given ≤ length l.fn.buf;
}

abbrev pub decreases-pieces : goal.decreases-pieces
decreases-pieces l = length l.initial.buf - l.given
