-- Joints of some of the entries are some of the joints.
use Rattle.cc_lists.specs.Members.{Among}
use Rattle.std.proofs.Common.{List}
use Rattle.cc_model.specs.Entries.{Entry, Joint, joints}
use Rattle.cc_model.proofs.Joints.{joint-cases, gives-joint}

pub joints-within : (es fs : List Entry) → ((e : Entry) → Among e es → Among e fs) → (j : Joint) → Among j (joints es) → Among j (joints fs)
joints-within es fs within j m = let f = joint-cases es j m in gives-joint fs f.0 j (within f.0 f.1) f.2
