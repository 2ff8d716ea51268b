use Rattle.std.proofs.lemmas.Result.{on_ok_weaker}
use Rattle.std.proofs.Common.{◌∙◌}
use Rattle.cc_heaps.proofs.Leaving.{nothing-told}
use Rattle.cc_heaps.proofs.Lengthened.{silent-told}
use Rattle.cc_heaps.proofs.ExposedMarks.{native-marked}
use Rattle.cc_heaps.proofs.heaps.Heaps.root_at.Goals as goal

pub root_script_at-requires-clause-order : goal.root_script_at-requires-clause-order
root_script_at-requires-clause-order g c = (c.requires.order.0, c.requires.order.1)

pub returns-in-Script-clause-told : goal.returns-in-Script-clause-told
returns-in-Script-clause-told g c = rw c.in-Script.is (silent-told c.root_script_at.result (g.N.Notices.telling c.args.out.now))

pub returns-in-Script-clause-tells : goal.returns-in-Script-clause-tells
returns-in-Script-clause-tells g c =
    nothing-told c.args.self.now.heap c.root_script_at.new.self.heap (g.N.Notices.telling c.args.out.now) c.root_script_at.ensures.left

pub returns-in-Native-clause-marks : goal.returns-in-Native-clause-marks
returns-in-Native-clause-marks g c = λ natives. c.root_native_at.ensures.marks

pub returns-in-Script-clause-marks : goal.returns-in-Script-clause-marks
returns-in-Script-clause-marks g c = rw c.in-Script.is (λ natives. absurd natives)

pub returns-in-Native-clause-marking : goal.returns-in-Native-clause-marking
returns-in-Native-clause-marking g c =
    let v = c.args.self.now in
    let f = c.requires.order in
    rw c.in-Native.is (on_ok_weaker c.root_native_at.result (λ e. c.root_native_at.ensures.marking ∙ native-marked f.0 v f.1 c.in-Native.native) c.root_native_at.ensures.heap)

pub returns-in-Script-clause-marking : goal.returns-in-Script-clause-marking
returns-in-Script-clause-marking g c = rw c.in-Script.is c.root_script_at.ensures.marking
