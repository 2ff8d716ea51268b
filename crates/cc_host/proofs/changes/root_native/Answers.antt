use Rattle.std.proofs.Common.{sym, ap, subst, arith, []}
use Rattle.cc_heaps.specs.Keyed.{Keyed}
use Rattle.cc_heaps.proofs.FewCounts.{none-owned}
use Rattle.cc_host.specs.Missing.{KeepsDoomed, KeepsDoomedBut}
use Rattle.cc_host.proofs.KeptDoomed.{hold_native-doomed, hold_native-doomed_but}
use Rattle.cc_heaps.specs.Changes.{native_name}
use Rattle.cc_host.proofs.Spare.{root-held, root-spared}
use Rattle.cc_lists.specs.Members.{Among}
use Rattle.cc_model.specs.WellFormed.{names_there}
use Rattle.cc_host.proofs.Coming.{hold_native-none_came}
use Rattle.cc_host.proofs.Referring.{reached-held}
use Rattle.cc_host.proofs.MarkedCalls.{held-marking}
use Rattle.cc_host.proofs.PlacesKept.{held-places}
use Rattle.cc_host.proofs.LastingSteps.{held-stays, stays-ended}
use Rattle.cc_host.proofs.Usable.{stays-usable}
use Rattle.cc_host.proofs.changes.root_native.Goals as goal
use Rattle.cc_host.proofs.SpotsKeyed.{held-only}

pub set_native_reg-requires-clause-within : goal.set_native_reg-requires-clause-within
set_native_reg-requires-clause-within g c = omega (arith, c.requires.within, c.requires.ready.order.sound.well_formed.registers.0.enough)

pub set_native_reg-requires-clause-order : goal.set_native_reg-requires-clause-order
set_native_reg-requires-clause-order g c = none-owned c.args.heaps.now c.requires.ready.order

pub returns-clause-change : goal.returns-clause-change
returns-clause-change g c =
    let v = c.args.heaps.now in
    let e = c.set_native_reg.ensures in
    record {
      kept = e.kept;
      spared = root-spared v c.set_native_reg.new.self c.args.r (native_name v c.args.content) c.requires.within c.requires.ready e.heap;
      stands = λ p. e.stands (reached-held v.heap (native_name v c.args.content) p);
      doomed = λ p. subst (KeepsDoomed v.heap) (sym (ap (λ (w : Keyed). w.heap) e.heap)) (hold_native-doomed v.heap c.args.r (native_name v c.args.content) p);
    }

pub returns-clause-none_came : goal.returns-clause-none_came
returns-clause-none_came g c x m =
    let v = c.args.heaps.now in
    hold_native-none_came v.heap c.args.r (native_name v c.args.content) x (subst (λ (w : Keyed). Among x (names_there w.heap)) c.set_native_reg.ensures.heap m)

pub returns-clause-doomed : goal.returns-clause-doomed
returns-clause-doomed g c =
    let v = c.args.heaps.now in
    let x = native_name v c.args.content in
    subst (KeepsDoomedBut x v.heap) (sym (ap (λ (w : Keyed). w.heap) c.set_native_reg.ensures.heap)) (hold_native-doomed_but v.heap c.args.r x)

pub returns-clause-held : goal.returns-clause-held
returns-clause-held g c =
    let v = c.args.heaps.now in
    root-held v c.set_native_reg.new.self c.args.r (native_name v c.args.content) (omega (arith, c.requires.within, c.requires.ready.order.sound.well_formed.registers.0.enough)) c.set_native_reg.ensures.heap

pub returns-clause-marking : goal.returns-clause-marking
returns-clause-marking g c =
    let v = c.args.heaps.now in
    held-marking v c.set_native_reg.new.self c.args.r (native_name v c.args.content) c.set_native_reg.ensures.heap c.set_native_reg.ensures.marks

pub returns-clause-places : goal.returns-clause-places
returns-clause-places g c =
    let v = c.args.heaps.now in
    held-places v c.set_native_reg.new.self c.args.r (native_name v c.args.content) (omega (arith, c.requires.within)) c.set_native_reg.ensures.heap

pub returns-clause-writes : goal.returns-clause-writes
returns-clause-writes g c =
    let v = c.args.heaps.now in
    let e = c.set_native_reg.ensures in
    held-only v c.set_native_reg.new.self c.args.r (native_name v c.args.content) e.heap (e.kept.order [] c.requires.ready.order).sound.well_formed

pub returns-clause-written : goal.returns-clause-written
returns-clause-written g c = record { holds = λ has. returns-clause-held g c }

pub returns-clause-ended : goal.returns-clause-ended
returns-clause-ended g c =
    let v = c.args.heaps.now in
    let w = c.set_native_reg.new.self in
    stays-ended v w c.requires.ready.order (held-stays v w c.args.r (native_name v c.args.content) c.set_native_reg.ensures.heap)

pub returns-clause-usable : goal.returns-clause-usable
returns-clause-usable g c =
    let v = c.args.heaps.now in
    let w = c.set_native_reg.new.self in
    stays-usable v w c.requires.ready.order (held-stays v w c.args.r (native_name v c.args.content) c.set_native_reg.ensures.heap)
