use Rattle.std.proofs.Common.{sym, ◌∙◌}
use Rattle.std.proofs.lemmas.Result.{on_ok_weaker}
use Rattle.cc_heaps.proofs.Following.{proxy-made}
use Rattle.cc_heaps.proofs.heaps.Heaps.new_proxy.Goals as goal

pub returns-clause-heap : goal.returns-clause-heap
returns-clause-heap c = on_ok_weaker c.new_object.result (λ e. e ∙ sym (proxy-made c.args.self.now c.args.r c.args.delegate c.requires.black)) c.new_object.ensures.heap

pub returns-clause-kept : goal.returns-clause-kept
returns-clause-kept c = c.new_object.ensures.kept

pub returns-clause-marks : goal.returns-clause-marks
returns-clause-marks c = c.new_object.ensures.marks
