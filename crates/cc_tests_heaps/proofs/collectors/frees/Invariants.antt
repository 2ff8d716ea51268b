use Rattle.cc_tests_heaps.proofs.collectors.frees.Given as goal

abbrev pub ghosts-marks : goal.ghosts-marks
ghosts-marks a = record { name = a.blank.name; parts = a.blank.parts }
