-- The definitions that a run computes with, in one word, for the proofs by computation: those of the commands that have a deed or
-- collect, those of a marking, and the suspects forgotten.
use Rattle.cc_model.specs.Collecting.{slice_cycles, collect_cycles, finish_marking, mark}
use Rattle.cc_model.specs.Marking.{begun_marks, scanned, exposed_marks, ended_marks}
use Rattle.cc_model.specs.Skipping.{forgotten}
use Rattle.cc_model.proofs.Opened.{all_of_a_run as all_of_whole_runs}

unfoldable pub all_of_a_run : Unit {0}
unfolding all_of_whole_runs slice_cycles collect_cycles finish_marking mark begun_marks scanned exposed_marks ended_marks forgotten
all_of_a_run = tt
