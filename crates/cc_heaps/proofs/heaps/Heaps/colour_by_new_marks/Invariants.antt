use Rattle.cc_heaps.proofs.heaps.Heaps.colour_by_new_marks.Given as goal

abbrev pub ghosts-mark_on_uncounted : goal.ghosts-mark_on_uncounted
ghosts-mark_on_uncounted a = record { name = a.blank.name; parts = a.blank.parts }
