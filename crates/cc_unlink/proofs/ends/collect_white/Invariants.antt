use Rattle.cc_unlink.proofs.ends.collect_white.Given as goal

abbrev pub ghosts-end_uncounted : goal.ghosts-end_uncounted
ghosts-end_uncounted g a = record { name = a.blank.name; parts = a.blank.parts }
