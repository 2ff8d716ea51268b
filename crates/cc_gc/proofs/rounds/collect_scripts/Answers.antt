use Rattle.std.proofs.Common.{◌≡◌, true, [], sym, ap, subst, ◌∙◌}
use Rattle.cc_lists.specs.Members.{Among}
use Rattle.cc_model.specs.Colours.{HasColours, HasColourInvariant}
use Rattle.cc_model.specs.Heap.{Heap}
use Rattle.cc_model.specs.Suspected.{IsSuspected}
use Rattle.cc_model.specs.Sweep.{collect_scripts}
use Rattle.cc_model.specs.View.{view}
use Rattle.cc_model.specs.WellFormed.{native_names, script_names}
use Rattle.cc_heaps.specs.Keyed.{Keyed}
use Rattle.cc_heaps.specs.Standing.{StillStands}
use Rattle.cc_gc.specs.Sparing.{KeepsWhatIsReached, SparesWhatIsReached}
use Rattle.cc_gc.proofs.RoundsLeft.{KeepsKeys-then, IsRound, IsCollected, IsCollecting-start, IsCollecting-fewer, IsCollecting-next, IsCollected-last}
use Rattle.cc_gc.proofs.RoundsSpare.{collect_scripts-keeps, collect_scripts-spares}
use Rattle.cc_gc.proofs.rounds.collect_scripts.Given as given
use Rattle.cc_gc.proofs.rounds.collect_scripts.Goals as goal

-- a round that is not the last
sweeping : (g : given.Over) (c : goal.In-rounds g) →
    IsRound c.rounds.heaps c.round.new.heaps (g.N.Notices.telling c.rounds.out) (g.N.Notices.telling c.round.new.out) true
sweeping g c =
    let e = c.round.ensures in
    record { swept_is = sym c.rounds-test.true ∙ e.swept; heap = e.heap; told = e.told; keys = e.kept.keys; order = e.kept.order }

pub rounds-init : goal.rounds-init
rounds-init g c = record { steps = IsCollecting-start c.args.heaps.now (g.N.Notices.telling c.args.out.now) }

pub round-requires : goal.round-requires
round-requires g c = let f = c.requires.order in record { order = (f.0, c.rounds.invariant.steps.order f.0 f.1) }

pub rounds-smaller : goal.rounds-smaller
rounds-smaller g c = IsCollecting-fewer _ _ _ _ _ _ c.rounds.invariant.steps c.requires.order (sweeping g c)

pub rounds-preserved : goal.rounds-preserved
rounds-preserved g c = record { steps = IsCollecting-next _ _ _ _ _ _ c.rounds.invariant.steps c.requires.order (sweeping g c) }

-- what all rounds came to
rounds : (g : given.Over) (c : goal.After-drop_new g) → IsCollected c.args.heaps.now c.round.new.heaps (g.N.Notices.telling c.args.out.now) (g.N.Notices.telling c.round.new.out)
rounds g c =
    let e = c.round.ensures in
    IsCollected-last _ _ _ _ _ _ c.rounds.invariant.steps c.requires.order
    (record { swept_is = sym c.rounds-test.false ∙ e.swept; heap = e.heap; told = e.told; keys = e.kept.keys; order = e.kept.order })

pub returns : goal.returns
returns g c =
    let h : Heap = c.args.heaps.now.heap in
    let sound = c.requires.order.1.sound in
    let done = rounds g c in
    let dropped = c.drop_new.ensures in
    let same : c.drop_new.new.self.heap ≡ c.round.new.heaps.heap = ap (λ (v : Keyed). v.heap) dropped.marking in
    let heap : c.drop_new.new.self.heap ≡ (collect_scripts h).heap = same ∙ done.heap in
    record {
      heap = heap;
      told = done.told;
      keeps = subst (KeepsWhatIsReached h) (sym heap) (collect_scripts-keeps h sound);
      spares = subst (λ k. SparesWhatIsReached h k (collect_scripts h).events) (sym heap) (collect_scripts-spares h sound);
      stands = subst (StillStands h) (sym same) done.stands;
      suspected = λ s. subst (λ k. IsSuspected (view k) []) (sym same) (done.suspected s);
      colours = subst HasColours (sym same) done.colours;
      invariant = subst (λ k. HasColourInvariant (view k)) (sym same) done.invariant;
      kept = record {
        keys = KeepsKeys-then c.args.heaps.now c.round.new.heaps c.drop_new.new.self done.keys dropped.kept.keys
            (λ x i. subst (λ k. Among x (native_names k)) same i) (λ x i. subst (λ k. Among x (script_names k)) same i);
        order = λ owned o. dropped.kept.order owned (done.order owned o);
        counts = dropped.kept.counts;
        colours = λ before. subst (λ k. HasColourInvariant (view k)) (sym same) done.invariant;
        fresh = tt;
        suspected = tt;
        marks = tt;
      };
      marking = ap (λ (v : Keyed). v.marking) dropped.marking;
    }
