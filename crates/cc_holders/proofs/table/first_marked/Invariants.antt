use Rattle.std.proofs.Common.{◌≡◌, ℕ, ◌-◌, ◌<◌, ◌≤◌, None}
use Rattle.cc_holders.specs.Entries.{in_groups, key_of}
use Rattle.cc_holders.proofs.table.first_marked.Given as goal

abbrev pub invariant-loop-number : goal.invariant-loop-number
invariant-loop-number l = record {
  from : l.start ≤ l.number;
  none : (n : ℕ) → l.start ≤ n → n < l.number → key_of (in_groups l.groups.items n) ≡ None;
}

abbrev pub decreases-loop-number : goal.decreases-loop-number
decreases-loop-number l = l.last - l.number
