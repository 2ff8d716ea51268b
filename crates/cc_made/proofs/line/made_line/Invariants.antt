use Rattle.std.proofs.Common.{◌≡◌, ◌+◌, ◌*◌, ◌≤◌, drop, length}
use Rattle.cc_made.specs.Made.{with_operands}
use Rattle.cc_made.proofs.line.made_line.Given as goal

abbrev pub invariant-operands : goal.invariant-operands
invariant-operands l = record {
  made : with_operands l.operands (record { text = l.initial.line; words = l.initial.words })
      ≡ with_operands (drop l.operand-index l.operands) (record { text = l.line; words = l.words });
  short : length l.line ≤ length l.initial.line + 3 * l.operand-index;
  room : length l.initial.line + 3 * length l.operands ≤ 16;
}
