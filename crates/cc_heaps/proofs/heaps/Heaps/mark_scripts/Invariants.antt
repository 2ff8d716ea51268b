use Rattle.cc_heaps.proofs.heaps.Heaps.mark_scripts.Given as goal

abbrev pub ghosts-mark_uncounted : goal.ghosts-mark_uncounted
ghosts-mark_uncounted a = record { name = a.blank.name; parts = a.blank.parts }
