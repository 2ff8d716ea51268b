use Rattle.cc_heaps.proofs.MarksKept.{listed-still}
use Rattle.cc_heaps.proofs.laws.marks_stay_listed.Goals as goal

pub returns : goal.returns
returns c = listed-still
