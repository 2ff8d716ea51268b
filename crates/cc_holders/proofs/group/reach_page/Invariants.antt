use Rattle.std.proofs.Common.{◌≡◌, ℕ, ◌+◌, ◌-◌, [], length, count_by, get_or}
use Rattle.cc_holders.specs.Entries.{has_marked}
use Rattle.cc_holders.proofs.group.reach_page.Given as goal

abbrev pub invariant-loop-pages : goal.invariant-loop-pages
invariant-loop-pages l = record {
  same : (k : ℕ) → get_or l.pages.items k [] ≡ get_or l.fn.pages.items k [];
  marked : count_by has_marked l.pages.items ≡ count_by has_marked l.fn.pages.items;
}

abbrev pub decreases-loop-pages : goal.decreases-loop-pages
decreases-loop-pages l = l.place + 1 - length l.pages.items
