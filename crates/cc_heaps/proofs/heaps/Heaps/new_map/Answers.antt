use Rattle.cc_heaps.proofs.heaps.Heaps.new_map.Goals as goal

pub returns-clause-kept : goal.returns-clause-kept
returns-clause-kept c = c.new_object.ensures.kept

pub returns-clause-marks : goal.returns-clause-marks
returns-clause-marks c = c.new_object.ensures.marks
