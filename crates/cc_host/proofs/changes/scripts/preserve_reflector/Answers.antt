use Rattle.std.proofs.Common.{◌≡◌, [], sym, ◌∙◌, ap, subst, ◌∷◌}
use Rattle.cc_model.specs.Graph as graph
use Rattle.cc_script.specs.Objects.{name_at}
use Rattle.cc_heaps.specs.Keyed.{Keyed}
use Rattle.cc_heaps.specs.Standing.{IsReached, IsReachedOrReflects, MayHold, StandsAfter}
use Rattle.cc_heaps.proofs.Kept.{KeepsAll-black}
use Rattle.cc_host.specs.Exposing.{AreSame}
use Rattle.cc_host.specs.Missing.{KeepsDoomed}
use Rattle.cc_host.proofs.KeptDoomed.{doomed-then, preserve-doomed}
use Rattle.cc_host.proofs.Exposed.{KeepsAll-after, StandsAfter-still, exposed-none_came, exposed-none_left}
use Rattle.cc_host.proofs.ScriptSteps.{StaysBeside, beside-none_came, beside-none_left, beside-spared, preserve-beside}
use Rattle.cc_host.proofs.MarkedCalls.{preserved-marking}
use Rattle.cc_host.proofs.Marked.{marking-after}
use Rattle.cc_host.specs.Marked.{IsPastIfAny}
use Rattle.cc_heaps.proofs.Following.{name_at-there}
use Rattle.cc_host.proofs.Reflects.{preserved-held, preserved-reflects, reflects-kept}
use Rattle.cc_laws_told.proofs.Face.{Stays-preserve, Stays-then}
use Rattle.cc_host.proofs.LastingSteps.{exposes-stays, stays-as, stays-ended}
use Rattle.cc_host.proofs.Usable.{stays-usable}
use Rattle.cc_host.proofs.changes.scripts.preserve_reflector.Goals as goal
use Rattle.cc_host.proofs.SpotsKeyed.{preserved-holds, preserved-only}
use Rattle.cc_host.proofs.SpotsThen.{writes-after}
use Rattle.cc_model.specs.WellFormed.{IsWellFormed}
use Rattle.cc_host.specs.Spots.{Spot}

pub preserve-requires-clause-order : goal.preserve-requires-clause-order
preserve-requires-clause-order c = ([], c.expose_key.ensures.ready.order)

pub preserve-requires-clause-live : goal.preserve-requires-clause-live
preserve-requires-clause-live c = (c.expose_key.ensures.exposes.same c.args.key.0 c.requires.live).there

-- it has its name still
name : (c : goal.After-preserve) → name_at c.expose_key.new.heaps.scripts c.args.key.0 ≡ name_at c.args.heaps.now.scripts c.args.key.0
name c = (c.expose_key.ensures.exposes.same c.args.key.0 c.requires.live).name

beside : (c : goal.After-preserve) → StaysBeside c.expose_key.new.heaps.heap c.preserve.new.heaps.heap
beside c =
    let v = c.expose_key.new.heaps in
    subst (λ (w : Keyed). StaysBeside v.heap w.heap) (sym c.preserve.ensures.heap) (preserve-beside v.heap (name_at v.scripts c.args.key.0))

pub returns-clause-change : goal.returns-clause-change
returns-clause-change c =
    let u = c.args.heaps.now in
    let v = c.expose_key.new.heaps in
    let w = c.preserve.new.heaps in
    let e = c.expose_key.ensures in
    let own = name_at v.scripts c.args.key.0 in
    let heap = ap (λ (x : Keyed). x.heap) c.preserve.ensures.heap in
    record {
      kept = KeepsAll-after u v w e.exposes.keys e.exposes.same e.exposes.kept (KeepsAll-black c.preserve.ensures.kept e.black);
      spared = beside-spared v w (beside c) e.ready.spared;
      stands = λ d. StandsAfter-still u.heap v.heap w.heap e.exposes.stands
          (subst (λ x. IsReachedOrReflects v.heap x → StandsAfter v.heap w.heap (λ g. graph.preserve g x)) (name c)
          (subst (λ k. IsReachedOrReflects v.heap own → StandsAfter v.heap k (λ g. graph.preserve g own)) (sym heap)
          (preserved-reflects v.heap own e.ready.order.sound (name_at-there [] v e.ready.order c.args.key.0)
          (subst (λ k. IsReached v.heap own → StandsAfter v.heap k (λ g. graph.preserve g own)) heap c.preserve.ensures.stands)))
          (reflects-kept u.heap v.heap e.exposes.reached _ d));
      doomed = λ d. doomed-then u.heap v.heap w.heap (e.exposes.doomed d)
          (subst (KeepsDoomed v.heap) (sym (ap (λ (x : Keyed). x.heap) c.preserve.ensures.heap))
          (preserve-doomed v.heap e.ready.order.sound.well_formed (name_at v.scripts c.args.key.0) (subst (IsReachedOrReflects v.heap) (sym (name c)) (reflects-kept u.heap v.heap e.exposes.reached _ d))));
    }

pub returns-clause-keys : goal.returns-clause-keys
returns-clause-keys c = ap (λ (w : Keyed). w.keys) c.preserve.ensures.heap ∙ c.expose_key.ensures.exposes.keys

pub returns-clause-same : goal.returns-clause-same
returns-clause-same c = subst (λ (w : Keyed). AreSame c.args.heaps.now.scripts w.scripts) (sym c.preserve.ensures.heap) c.expose_key.ensures.exposes.same

pub returns-clause-reached : goal.returns-clause-reached
returns-clause-reached c x d = c.preserve.ensures.reached x (c.expose_key.ensures.exposes.reached x d)

pub returns-clause-may_hold : goal.returns-clause-may_hold
returns-clause-may_hold c = subst (MayHold c.preserve.new.heaps.heap) (name c) c.preserve.ensures.may_hold

pub returns-clause-none_left : goal.returns-clause-none_left
returns-clause-none_left c x i =
    beside-none_left c.expose_key.new.heaps c.preserve.new.heaps (beside c) x (exposed-none_left c.args.heaps.now c.expose_key.new.heaps c.expose_key.ensures.exposes x i)

pub returns-clause-none_came : goal.returns-clause-none_came
returns-clause-none_came c x i =
    exposed-none_came c.args.heaps.now c.expose_key.new.heaps c.expose_key.ensures.exposes x (beside-none_came c.expose_key.new.heaps c.preserve.new.heaps (beside c) x i)

pub returns-clause-marking : goal.returns-clause-marking
returns-clause-marking c =
    let u = c.args.heaps.now in
    let v = c.expose_key.new.heaps in
    let e = c.expose_key.ensures in
    marking-after u v c.preserve.new.heaps e.marking (λ k. preserved-marking v c.preserve.new.heaps (name_at v.scripts c.args.key.0) c.preserve.ensures.heap
    (λ its. subst (IsPastIfAny v) (sym (name c)) (e.past k)))

pub returns-clause-held : goal.returns-clause-held
returns-clause-held c d =
    let u = c.args.heaps.now in
    let v = c.expose_key.new.heaps in
    let e = c.expose_key.ensures in
    let own = name_at v.scripts c.args.key.0 in
    let heap = ap (λ (x : Keyed). x.heap) c.preserve.ensures.heap in
    subst (IsReached c.preserve.new.heaps.heap) (name c)
    (subst (λ h. IsReached h own) (sym heap)
    (preserved-held v.heap own e.ready.order.sound (name_at-there [] v e.ready.order c.args.key.0)
    (subst (IsReachedOrReflects v.heap) (sym (name c)) (reflects-kept u.heap v.heap e.exposes.reached _ d))
    (λ y i. subst (λ h. IsReached h y) heap (c.preserve.ensures.reached y i))))

well : (c : goal.After-preserve) → IsWellFormed c.preserve.new.heaps.heap
well c = ((KeepsAll-black c.preserve.ensures.kept c.expose_key.ensures.black).order [] c.expose_key.ensures.ready.order).sound.well_formed

pub returns-clause-writes : goal.returns-clause-writes
returns-clause-writes c x e =
    let v = c.expose_key.new.heaps in
    let w = c.preserve.new.heaps in
    writes-after (Spot.preserved x ∷ []) c.args.heaps.now.heap v.heap w.heap c.expose_key.ensures.spots
    (preserved-only v.heap w.heap (name_at v.scripts c.args.key.0) x (name c ∙ e) (ap (λ (u : Keyed). u.heap) c.preserve.ensures.heap) (well c))

pub returns-clause-preserves : goal.returns-clause-preserves
returns-clause-preserves c x e =
    let v = c.expose_key.new.heaps in
    preserved-holds v.heap c.preserve.new.heaps.heap (name_at v.scripts c.args.key.0) x (name c ∙ e) (ap (λ (u : Keyed). u.heap) c.preserve.ensures.heap) (well c)

pub returns-clause-ended : goal.returns-clause-ended
returns-clause-ended c =
    let u = c.args.heaps.now in
    let v = c.expose_key.new.heaps in
    let w = c.preserve.new.heaps in
    stays-ended u w c.requires.ready.order (Stays-then u.heap v.heap w.heap (exposes-stays u v c.expose_key.ensures.exposes)
    (stays-as v.heap _ w.heap (ap (λ (k : Keyed). k.heap) c.preserve.ensures.heap) (Stays-preserve v.heap (name_at v.scripts c.args.key.0))))

pub returns-clause-usable : goal.returns-clause-usable
returns-clause-usable c =
    let u = c.args.heaps.now in
    let v = c.expose_key.new.heaps in
    let w = c.preserve.new.heaps in
    stays-usable u w c.requires.ready.order (Stays-then u.heap v.heap w.heap (exposes-stays u v c.expose_key.ensures.exposes)
    (stays-as v.heap _ w.heap (ap (λ (k : Keyed). k.heap) c.preserve.ensures.heap) (Stays-preserve v.heap (name_at v.scripts c.args.key.0))))
