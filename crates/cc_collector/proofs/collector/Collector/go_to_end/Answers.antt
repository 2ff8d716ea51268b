use Rattle.std.proofs.Common.{◌+◌, Ok, refl, subst, ap, ◌∙◌, arith}
use Rattle.cc_lists.proofs.KnownBytes.{on_err_of}
use Rattle.cc_model.proofs.Tellings.{Tells-nil}
use Rattle.cc_model.specs.End.{Progress, went_on}
use Rattle.cc_collector.specs.declared.collector.Ended.{Ended}
use Rattle.cc_collector.specs.Collected.{progress_of}
use Rattle.cc_collector.specs.Kept.{machine_with}
use Rattle.cc_collector.specs.Units.{HasDoneUnit}
use Rattle.cc_collector.proofs.Rows.{HasGoneOn-none, HasGoneOn-more}
use Rattle.cc_collector.proofs.Keeping.{Keeps-nothing, Keeps-then}
use Rattle.cc_collector.proofs.Coming.{all-done, still-told}
use Rattle.cc_collector.proofs.collector.Collector.go_to_end.Goals as goal

pub units-init : goal.units-init
units-init g c = record {
  so_far = (0, HasGoneOn-none (machine_with c.args.heaps.now c.args.self.now.running));
  told = Tells-nil (g.N.Notices.telling c.args.out.now);
  marking = refl;
  keeps = Keeps-nothing c.args.heaps.now c.args.self.now.running c.requires;
}

pub returns-in_err-unit-clause-refused : goal.returns-in_err-unit-clause-refused
returns-in_err-unit-clause-refused g c = grind (arith, on_err_of, all-done)

pub returns-in-Yes-clause-done : goal.returns-in-Yes-clause-done
returns-in-Yes-clause-done g c = grind (arith, all-done)

pub units-preserved : goal.units-preserved
units-preserved g c =
    let telling = g.N.Notices.telling in
    let i = c.units.invariant in
    let v = c.args.heaps.now in
    let u : HasDoneUnit c.units.heaps c.units.self.running c.unit.new.heaps c.unit.new.self.running went_on (telling c.units.out) (telling c.unit.new.out) =
    subst (λ (p : Progress). HasDoneUnit c.units.heaps c.units.self.running c.unit.new.heaps c.unit.new.self.running p (telling c.units.out) (telling c.unit.new.out))
    (ap (λ (e : Ended). progress_of (Ok e)) c.in-No.is) c.in_ok-unit.ensures.done in
    record {
      so_far = (
        i.so_far.0 + 1,
        HasGoneOn-more i.so_far.0 (machine_with v c.args.self.now.running) (machine_with c.units.heaps c.units.self.running) (machine_with c.unit.new.heaps c.unit.new.self.running)
            u.events i.so_far.1 u.unit,
      );
      told = still-told c.units.heaps c.units.self.running c.unit.new.heaps c.unit.new.self.running (telling c.args.out.now) (telling c.units.out) (telling c.unit.new.out) i.told u;
      marking = c.unit.ensures.marking ∙ i.marking;
      keeps = Keeps-then v c.args.self.now.running c.units.heaps c.units.self.running c.unit.new.heaps c.unit.new.self.running i.keeps u.keeps;
    }
