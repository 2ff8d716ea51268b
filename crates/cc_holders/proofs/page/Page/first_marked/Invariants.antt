use Rattle.std.proofs.Common.{◌≡◌, ℕ, ◌<◌, ◌≤◌, None}
use Rattle.cc_holders.specs.Entries.{in_page, key_of}
use Rattle.cc_holders.proofs.page.Page.first_marked.Given as goal

abbrev pub invariant-loop-place : goal.invariant-loop-place
invariant-loop-place l = record {
  from : l.start ≤ l.place;
  none : (i : ℕ) → l.start ≤ i → i < l.place → key_of (in_page l.self-inside.entries.items i) ≡ None;
}
