use Rattle.std.proofs.Common.{◌≡◌, ℕ, ◌+◌, ◌<◌, ◌≤◌, None}
use Rattle.cc_holders.specs.Entries.{in_group, key_of}
use Rattle.cc_holders.proofs.group.Group.next_marked_page.Given as goal

abbrev pub invariant-loop-next : goal.invariant-loop-next
invariant-loop-next l = record {
  from : l.page + 1 ≤ l.next;
  none : (k i : ℕ) → l.page < k → k < l.next → key_of (in_group l.self-inside.pages.items k i) ≡ None;
}
