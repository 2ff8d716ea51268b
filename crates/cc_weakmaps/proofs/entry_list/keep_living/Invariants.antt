use Rattle.cc_weakmaps.proofs.Keeping.{IsKeeping}
use Rattle.cc_weakmaps.proofs.entry_list.keep_living.Given as goal

abbrev pub invariant-loop-place : goal.invariant-loop-place
invariant-loop-place g l = record { keeping : IsKeeping (goal.F-post g l.alive) l.fn.entries.items l.start l.entries.items l.kept l.place }
