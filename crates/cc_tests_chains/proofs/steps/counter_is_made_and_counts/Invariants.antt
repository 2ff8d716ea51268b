use Rattle.cc_tests_chains.proofs.steps.counter_is_made_and_counts.Given as goal

abbrev pub ghosts-count : goal.ghosts-count
ghosts-count a = record { name = a.blank.name; parts = a.blank.parts }
