use Rattle.std.proofs.Common.{◌≡◌, None, get_or, sym, ◌∙◌, ap, arith}
use Rattle.cc_heaps.specs.Changes.{script_name}
use Rattle.cc_heaps.specs.Keyed.{Keyed}
use Rattle.cc_skip.proofs.Entering.{Enters-more, Enters-none}
use Rattle.cc_skip.proofs.walking.enter_scripts.Goals as goal

pub loop-r-init : goal.loop-r-init
loop-r-init c = Enters-none c.args.heaps.now

pub loop-r-preserved : goal.loop-r-preserved
loop-r-preserved c =
    let v = c.args.heaps.now in
    let b = c.loop-r.heaps in
    let content = c.script_reg-content.result in
    let read : get_or v.heap.script_registers c.loop-r.r None ≡ script_name b content =
    ap (λ (u : Keyed). get_or u.heap.script_registers c.loop-r.r None) (sym c.loop-r.invariant.rest) ∙ sym c.script_reg-content.ensures.name in
    Enters-more v b c.enter_script.new.heaps v.heap.script_registers c.loop-r.r (script_name b content) (omega (arith, c.loop-r-test.true, c.script_reg_count-r-end.ensures)) read
    c.loop-r.invariant c.enter_script.ensures
