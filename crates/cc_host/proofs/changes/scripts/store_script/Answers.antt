use Rattle.std.proofs.Common.{◌<◌, [], Some, sym, subst, ◌∷◌, ◌∙◌, inl, inr, ⊎_elim}
use Rattle.cc_model.specs.Graph as graph
use Rattle.cc_script.specs.Objects.{name_at}
use Rattle.cc_heaps.specs.Changes.{script_name}
use Rattle.cc_heaps.specs.Standing.{IsReached, IsReachedOrReflects, MayHold, StandsAfter}
use Rattle.cc_host.specs.Exposing.{AreSame}
use Rattle.cc_host.specs.Missing.{KeepsDoomed}
use Rattle.cc_host.proofs.KeptDoomed.{doomed-then, slot-doomed}
use Rattle.cc_host.proofs.Exposed.{AreSame-then, KeepsAll-after, StandsAfter-still, exposed-none_came, exposed-none_left}
use Rattle.cc_host.proofs.Composing.{stands-then}
use Rattle.cc_host.proofs.ScriptSteps.{StaysBeside, beside-none_came, beside-none_left, beside-spared, content-black, content-name, content-there, slot-beside}
use Rattle.cc_host.proofs.MarkedCalls.{slot-marking}
use Rattle.cc_host.proofs.Marked.{marking-after}
use Rattle.cc_host.specs.Marked.{IsPastIfAny}
use Rattle.cc_host.proofs.Reflects.{reflects-kept, script_slot-reflects}
use Rattle.cc_laws_told.proofs.Face.{Stays-slot, ended-then}
use Rattle.cc_host.proofs.LastingSteps.{exposes-stays, stays-as, stays-ended}
use Rattle.cc_host.proofs.Usable.{stays-usable, usable-still, usable-then}
use Rattle.cc_host.proofs.changes.scripts.store_script.Goals as goal
use Rattle.cc_host.specs.Spots.{IsWritten, Spot}
use Rattle.cc_host.proofs.SpotsKeyed.{script_many, slot-only, slot-written}
use Rattle.cc_host.proofs.SpotsThen.{writes-after, writes-more, writes-then, written-then}

pub preserve_reflector-requires-clause-ready : goal.preserve_reflector-requires-clause-ready
preserve_reflector-requires-clause-ready c = c.expose_content.ensures.ready

pub preserve_reflector-requires-clause-live : goal.preserve_reflector-requires-clause-live
preserve_reflector-requires-clause-live c = (c.expose_content.ensures.exposes.same c.args.key.0 c.requires.live).there

pub store_script-requires-clause-order : goal.store_script-requires-clause-order
store_script-requires-clause-order c = ([], c.preserve_reflector.ensures.change.kept.order [] c.expose_content.ensures.ready.order)

pub store_script-requires-clause-live : goal.store_script-requires-clause-live
store_script-requires-clause-live c = (AreSame-then _ _ _ c.expose_content.ensures.exposes.same c.preserve_reflector.ensures.same c.args.key.0 c.requires.live).there

pub store_script-requires-clause-within : goal.store_script-requires-clause-within
store_script-requires-clause-within c = subst (λ n. c.args.i < n) (sym (AreSame-then _ _ _ c.expose_content.ensures.exposes.same c.preserve_reflector.ensures.same c.args.key.0 c.requires.live).slots) c.requires.within

pub store_script-requires-clause-there : goal.store_script-requires-clause-there
store_script-requires-clause-there c = content-there c.args.heaps.now c.preserve_reflector.new.heaps (AreSame-then _ _ _ c.expose_content.ensures.exposes.same c.preserve_reflector.ensures.same) c.args.content c.requires.there

pub store_script-requires-clause-black : goal.store_script-requires-clause-black
store_script-requires-clause-black c =
    let v = c.expose_content.new.heaps in
    content-black v c.preserve_reflector.new.heaps c.preserve_reflector.ensures.same c.args.content
    (content-there c.args.heaps.now v c.expose_content.ensures.exposes.same c.args.content c.requires.there) c.expose_content.ensures.black

-- what was there is there, as it was
same : (c : goal.After-store_script) → AreSame c.args.heaps.now.scripts c.preserve_reflector.new.heaps.scripts
same c = AreSame-then _ _ _ c.expose_content.ensures.exposes.same c.preserve_reflector.ensures.same

beside : (c : goal.After-store_script) → StaysBeside c.preserve_reflector.new.heaps.heap c.store_script.new.self.heap
beside c =
    let v = c.preserve_reflector.new.heaps in
    subst (StaysBeside v.heap) (sym c.store_script.ensures.heap) (slot-beside v.heap (name_at v.scripts c.args.key.0) c.args.i (script_name v c.args.content))

pub returns-clause-none_left : goal.returns-clause-none_left
returns-clause-none_left c x i = beside-none_left c.preserve_reflector.new.heaps c.store_script.new.self (beside c) x
    (c.preserve_reflector.ensures.none_left x (exposed-none_left c.args.heaps.now c.expose_content.new.heaps c.expose_content.ensures.exposes x i))

pub returns-clause-change : goal.returns-clause-change
returns-clause-change c =
    let t = c.args.heaps.now in
    let u = c.expose_content.new.heaps in
    let v = c.preserve_reflector.new.heaps in
    let w = c.store_script.new.self in
    let e = c.expose_content.ensures.exposes in
    let p = c.preserve_reflector.ensures in
    let was = (e.same c.args.key.0 c.requires.live).name in
    let name = (same c c.args.key.0 c.requires.live).name in
    let content = content-name t v (same c) c.args.content c.requires.there in
    let now = p.change.kept.order [] c.expose_content.ensures.ready.order in
    let own : IsReachedOrReflects t.heap (script_name t (Some c.args.key)) → IsReachedOrReflects u.heap (script_name u (Some c.args.key)) =
    λ r. subst (IsReachedOrReflects u.heap) (sym was) (reflects-kept t.heap u.heap e.reached _ r) in
    let held : IsReachedOrReflects t.heap (script_name t (Some c.args.key)) → IsReached v.heap (script_name t (Some c.args.key)) =
    λ r. subst (IsReached v.heap) was (p.held (own r)) in
    let handed : IsReachedOrReflects t.heap (script_name t c.args.content) → IsReachedOrReflects v.heap (script_name t c.args.content) =
    λ r. reflects-kept u.heap v.heap p.reached _ (reflects-kept t.heap u.heap e.reached _ r) in
    record {
      kept = KeepsAll-after t u w e.keys e.same e.kept (KeepsAll-after u v w p.keys p.same p.change.kept c.store_script.ensures.kept);
      spared = beside-spared v w (beside c) p.change.spared;
      stands = λ d.
          let preserved : StandsAfter t.heap v.heap (λ g. graph.preserve g (script_name t (Some c.args.key))) =
          StandsAfter-still t.heap u.heap v.heap e.stands
          (subst (λ x. IsReachedOrReflects u.heap x → StandsAfter u.heap v.heap (λ g. graph.preserve g x)) was p.change.stands (reflects-kept t.heap u.heap e.reached _ d.0)) in
          let stored : IsReached v.heap (script_name t (Some c.args.key)) → IsReachedOrReflects v.heap (script_name t c.args.content) → MayHold v.heap (script_name t (Some c.args.key)) →
          StandsAfter v.heap w.heap (λ g. graph.set_slot g (script_name t (Some c.args.key)) c.args.i (script_name t c.args.content)) =
          subst (λ x. IsReached v.heap x → IsReachedOrReflects v.heap (script_name t c.args.content) → MayHold v.heap x → StandsAfter v.heap w.heap (λ g. graph.set_slot g x c.args.i (script_name t c.args.content))) name
          (subst (λ y. IsReached v.heap (script_name v (Some c.args.key)) → IsReachedOrReflects v.heap y → MayHold v.heap (script_name v (Some c.args.key)) →
          StandsAfter v.heap w.heap (λ g. graph.set_slot g (script_name v (Some c.args.key)) c.args.i y)) content
          (script_slot-reflects v w now c.args.key.0 c.args.i c.args.content (same c c.args.key.0 c.requires.live).there c.store_script.ensures.heap)) in
          stands-then t.heap v.heap w.heap _ _ preserved
          (stored (held d.0) (handed d.1) (subst (MayHold v.heap) was p.may_hold));
      doomed = λ d. doomed-then t.heap u.heap w.heap (e.doomed d.1)
          (doomed-then u.heap v.heap w.heap (p.change.doomed (own d.0))
          (subst (KeepsDoomed v.heap) (sym c.store_script.ensures.heap)
          (slot-doomed v.heap (name_at v.scripts c.args.key.0) c.args.i (script_name v c.args.content)
          (subst (IsReached v.heap) (sym name) (held d.0))
          (subst (IsReachedOrReflects v.heap) (sym content) (handed d.1)))));
    }

pub returns-clause-none_came : goal.returns-clause-none_came
returns-clause-none_came c x i = exposed-none_came c.args.heaps.now c.expose_content.new.heaps c.expose_content.ensures.exposes x
    (c.preserve_reflector.ensures.none_came x (beside-none_came c.preserve_reflector.new.heaps c.store_script.new.self (beside c) x i))

pub returns-clause-marking : goal.returns-clause-marking
returns-clause-marking c =
    let t = c.args.heaps.now in
    let u = c.expose_content.new.heaps in
    let v = c.preserve_reflector.new.heaps in
    let w = c.store_script.new.self in
    let e = c.expose_content.ensures in
    let p = c.preserve_reflector.ensures in
    marking-after t u w e.marking (λ k. marking-after u v w p.marking (λ l. slot-marking v w (name_at v.scripts c.args.key.0) c.args.i (script_name v c.args.content)
    c.store_script.ensures.heap c.store_script.ensures.marks
    (λ its. subst (IsPastIfAny v) (sym (content-name t v (same c) c.args.content c.requires.there)) (λ y i. p.marking.past l y (e.past k y i)))))

pub returns-clause-writes : goal.returns-clause-writes
returns-clause-writes c x e =
    let u = c.expose_content.new.heaps in
    let v = c.preserve_reflector.new.heaps in
    let w = c.store_script.new.self in
    let own = Spot.slot x c.args.i in
    let kept = Spot.preserved x in
    let p = c.preserve_reflector.ensures in
    let now = p.change.kept.order [] c.expose_content.ensures.ready.order in
    let before = (c.expose_content.ensures.exposes.same c.args.key.0 c.requires.live).name ∙ e in
    let name = (same c c.args.key.0 c.requires.live).name ∙ e in
    writes-after (own ∷ kept ∷ []) c.args.heaps.now.heap u.heap w.heap c.expose_content.ensures.spots
    (writes-then (own ∷ kept ∷ []) u.heap v.heap w.heap (beside-none_came v w (beside c))
    (writes-more (kept ∷ []) (own ∷ kept ∷ []) u.heap v.heap (λ s i. inr i) (p.writes x before))
    (writes-more (own ∷ []) (own ∷ kept ∷ []) v.heap w.heap (λ s i. ⊎_elim (λ l. inl l) (λ n. absurd n) i)
    (slot-only v.heap w.heap (name_at v.scripts c.args.key.0) x c.args.i (script_name v c.args.content) name c.store_script.ensures.heap
    (c.store_script.ensures.kept.order [] now).sound.well_formed)))

pub returns-clause-written : goal.returns-clause-written
returns-clause-written c x e =
    let v = c.preserve_reflector.new.heaps in
    let w = c.store_script.new.self in
    let now = c.preserve_reflector.ensures.change.kept.order [] c.expose_content.ensures.ready.order in
    let name = (same c c.args.key.0 c.requires.live).name ∙ e in
    let within = subst (λ n. c.args.i < n) (sym (same c c.args.key.0 c.requires.live).slots ∙ script_many v now c.args.key.0 x name) c.requires.within in
    subst (λ y. IsWritten (Spot.slot x c.args.i) y w.heap) (content-name c.args.heaps.now v (same c) c.args.content c.requires.there)
    (slot-written v.heap w.heap (name_at v.scripts c.args.key.0) x c.args.i (script_name v c.args.content) name c.store_script.ensures.heap within)

pub returns-clause-preserves : goal.returns-clause-preserves
returns-clause-preserves c x e =
    let v = c.preserve_reflector.new.heaps in
    let w = c.store_script.new.self in
    let own = Spot.slot x c.args.i in
    let now = c.preserve_reflector.ensures.change.kept.order [] c.expose_content.ensures.ready.order in
    let before = (c.expose_content.ensures.exposes.same c.args.key.0 c.requires.live).name ∙ e in
    let name = (same c c.args.key.0 c.requires.live).name ∙ e in
    written-then (own ∷ []) v.heap w.heap (beside-none_came v w (beside c)) (Spot.preserved x) _ (λ i. ⊎_elim (λ d. absurd (cc)) (λ n. n) i)
    (c.preserve_reflector.ensures.preserves x before)
    (slot-only v.heap w.heap (name_at v.scripts c.args.key.0) x c.args.i (script_name v c.args.content) name c.store_script.ensures.heap
    (c.store_script.ensures.kept.order [] now).sound.well_formed)

pub returns-clause-ended : goal.returns-clause-ended
returns-clause-ended c =
    let t = c.args.heaps.now in
    let u = c.expose_content.new.heaps in
    let v = c.preserve_reflector.new.heaps in
    let w = c.store_script.new.self in
    ended-then t.heap v.heap w.heap
    (ended-then t.heap u.heap v.heap (stays-ended t u c.requires.ready.order (exposes-stays t u c.expose_content.ensures.exposes)) c.preserve_reflector.ensures.ended)
    (stays-ended v w (c.preserve_reflector.ensures.change.kept.order [] c.expose_content.ensures.ready.order)
    (stays-as v.heap _ w.heap c.store_script.ensures.heap (Stays-slot v.heap (name_at v.scripts c.args.key.0) c.args.i (script_name v c.args.content))))

pub returns-clause-usable : goal.returns-clause-usable
returns-clause-usable c =
    let t = c.args.heaps.now in
    let u = c.expose_content.new.heaps in
    let v = c.preserve_reflector.new.heaps in
    let w = c.store_script.new.self in
    let e = c.preserve_reflector.ensures in
    let order = c.expose_content.ensures.ready.order in
    usable-still t.heap v w (e.change.kept.order [] order)
    (stays-as v.heap _ w.heap c.store_script.ensures.heap (Stays-slot v.heap (name_at v.scripts c.args.key.0) c.args.i (script_name v c.args.content)))
    (usable-then t.heap u.heap v.heap order.sound.well_formed e.none_came
    (stays-usable t u c.requires.ready.order (exposes-stays t u c.expose_content.ensures.exposes)) e.usable)
