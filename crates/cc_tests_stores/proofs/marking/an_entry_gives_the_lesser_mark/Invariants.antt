use Rattle.cc_tests_stores.proofs.marking.an_entry_gives_the_lesser_mark.Given as goal

abbrev pub ghosts-gives_the_lesser_mark : goal.ghosts-gives_the_lesser_mark
ghosts-gives_the_lesser_mark g a = record { name = a.blank.name; parts = a.blank.parts }
