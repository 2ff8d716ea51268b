use Rattle.std.proofs.Common.{[], None, sym, subst}
use Rattle.cc_script.specs.Objects.{name_at}
use Rattle.cc_host.specs.Missing.{KeepsDoomed}
use Rattle.cc_host.proofs.KeptDoomed.{set_entry-doomed}
use Rattle.cc_host.proofs.ScriptSteps.{StaysBeside, beside-none_came, beside-none_left, beside-spared, entry-beside}
use Rattle.cc_host.proofs.MarkedCalls.{unset-marking}
use Rattle.cc_model.specs.Graph as graph
use Rattle.cc_laws_heap.specs.Sound.{IsSound}
use Rattle.cc_heaps.specs.Standing.{StandsAfter}
use Rattle.cc_host.proofs.ReflectsEntries.{unset-stands}
use Rattle.cc_host.proofs.LastingSteps.{entry-stays, stays-as, stays-ended}
use Rattle.cc_host.proofs.Usable.{stays-usable}
use Rattle.cc_host.proofs.changes.scripts.unset_entry.Goals as goal
use Rattle.cc_host.proofs.SpotsKeyed.{unset-only, unset-written}

pub unset_entry-requires-clause-order : goal.unset_entry-requires-clause-order
unset_entry-requires-clause-order c = ([], c.requires.ready.order)

beside : (c : goal.After-unset_entry) → StaysBeside c.args.heaps.now.heap c.unset_entry.new.self.heap
beside c =
    let v = c.args.heaps.now in
    subst (StaysBeside v.heap) (sym c.unset_entry.ensures.heap) (entry-beside v.heap (name_at v.scripts c.args.the_map.0) (name_at v.scripts c.args.key.0) None)

pub returns-clause-change : goal.returns-clause-change
returns-clause-change c =
    let v = c.args.heaps.now in
    let e = c.unset_entry.ensures in
    record {
      kept = e.kept;
      spared = beside-spared c.args.heaps.now c.unset_entry.new.self (beside c) c.requires.ready.spared;
      stands = λ d. subst (λ h. StandsAfter v.heap h (λ g. graph.set_entry g (name_at v.scripts c.args.the_map.0) (name_at v.scripts c.args.key.0) None)) (sym e.heap)
          (unset-stands v.heap (name_at v.scripts c.args.the_map.0) (name_at v.scripts c.args.key.0) c.requires.ready.order.sound
          (subst (IsSound []) e.heap (e.kept.order [] c.requires.ready.order).sound));
      doomed = λ d. subst (KeepsDoomed v.heap) (sym e.heap)
          (set_entry-doomed v.heap c.requires.ready.order.sound.well_formed (name_at v.scripts c.args.the_map.0) (name_at v.scripts c.args.key.0) None d.0 d.1 tt);
    }

pub returns-clause-none_left : goal.returns-clause-none_left
returns-clause-none_left c = beside-none_left c.args.heaps.now c.unset_entry.new.self (beside c)

pub returns-clause-none_came : goal.returns-clause-none_came
returns-clause-none_came c = beside-none_came c.args.heaps.now c.unset_entry.new.self (beside c)

pub returns-clause-marking : goal.returns-clause-marking
returns-clause-marking c =
    let v = c.args.heaps.now in
    unset-marking v c.unset_entry.new.self (name_at v.scripts c.args.the_map.0) (name_at v.scripts c.args.key.0) c.unset_entry.ensures.heap c.unset_entry.ensures.marks

pub returns-clause-writes : goal.returns-clause-writes
returns-clause-writes c m k em ek =
    let v = c.args.heaps.now in
    let e = c.unset_entry.ensures in
    unset-only v.heap c.unset_entry.new.self.heap (name_at v.scripts c.args.the_map.0) (name_at v.scripts c.args.key.0) m k em ek e.heap (e.kept.order [] c.requires.ready.order).sound.well_formed

pub returns-clause-written : goal.returns-clause-written
returns-clause-written c m k em ek =
    let v = c.args.heaps.now in
    let e = c.unset_entry.ensures in
    unset-written v.heap c.unset_entry.new.self.heap (name_at v.scripts c.args.the_map.0) (name_at v.scripts c.args.key.0) m k em ek e.heap (e.kept.order [] c.requires.ready.order).sound.well_formed

pub returns-clause-ended : goal.returns-clause-ended
returns-clause-ended c =
    let v = c.args.heaps.now in
    let w = c.unset_entry.new.self in
    stays-ended v w c.requires.ready.order (stays-as v.heap _ w.heap c.unset_entry.ensures.heap (entry-stays v.heap _ _ None))

pub returns-clause-usable : goal.returns-clause-usable
returns-clause-usable c =
    let v = c.args.heaps.now in
    let w = c.unset_entry.new.self in
    stays-usable v w c.requires.ready.order (stays-as v.heap _ w.heap c.unset_entry.ensures.heap (entry-stays v.heap _ _ None))
