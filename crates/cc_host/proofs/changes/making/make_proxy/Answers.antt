use Rattle.std.proofs.Common.{rules, [], ◌<◌, ◌+◌, Some, sym, ◌∙◌, ap, subst, inl, inr, ⊎_elim, arith, ◌∷◌}
use Rattle.cc_names.specs.declared.register.Reg.TheVariants.{N, S}
use Rattle.cc_model.specs.Graph as graph
use Rattle.cc_model.specs.Heap.{Heap, register}
use Rattle.cc_script.specs.Objects.{name_at}
use Rattle.cc_heaps.specs.Standing.{IsReached, IsReachedOrReflects, StandsAfter}
use Rattle.cc_host.specs.Hosted.{spare}
use Rattle.cc_host.specs.Missing.{KeepsDoomed}
use Rattle.cc_host.proofs.KeptDoomed.{doomed-then, make_proxy-doomed}
use Rattle.cc_host.proofs.Exposed.{KeepsAll-after, StandsAfter-still, exposed-none_came, exposed-none_left}
use Rattle.cc_host.proofs.Making.{proxy-beside}
use Rattle.cc_lists.specs.Members.{Among}
use Rattle.cc_names.specs.Names.{object}
use Rattle.cc_model.specs.WellFormed.{names_there}
use Rattle.cc_heaps.specs.Changes.{script_name}
use Rattle.cc_host.proofs.Coming.{OneCame-named, left-into, proxy-came, proxy-left}
use Rattle.cc_host.proofs.MarkedCalls.{made_proxy-marking}
use Rattle.cc_host.proofs.Marked.{marking-after}
use Rattle.cc_heaps.proofs.Following.{name_at-there}
use Rattle.cc_host.specs.Marked.{IsPastIfAny}
use Rattle.cc_host.proofs.Reflects.{proxy-reflects, reflects-kept}
use Rattle.cc_laws_told.proofs.Face.{ended-then}
use Rattle.cc_host.proofs.LastingSteps.{exposes-stays, proxy-ended, stays-ended}
use Rattle.cc_host.proofs.Usable.{proxy-usable}
use Rattle.cc_host.proofs.changes.making.make_proxy.Goals as goal
use Rattle.cc_heaps.proofs.ObjectsKept.{there-named}
use Rattle.cc_host.specs.Spots.{IsWritten, Spot, WritesOnly}
use Rattle.cc_host.proofs.SpotsKeyed.{proxy-delegate, proxy-only, proxy-preserved}
use Rattle.cc_host.proofs.SpotsThen.{writes-after}
use Rattle.cc_host.proofs.MadeKinds.{proxy-kind}

pub new_proxy-requires-clause-within : goal.new_proxy-requires-clause-within
new_proxy-requires-clause-within c = omega (arith, c.requires.within, c.expose_key.ensures.ready.order.sound.well_formed.registers.1.enough)

pub returns-clause-change : goal.returns-clause-change
returns-clause-change c =
    let u = c.args.heaps.now in
    let v = c.expose_key.new.heaps in
    let w = c.new_proxy.new.self in
    let e = c.expose_key.ensures in
    let p = c.in_ok-new_proxy.ensures in
    let own = name_at v.scripts c.args.delegate.0 in
    let allowed : v.heap.scripts_made < v.heap.limits.scripts = search (rules, arith) in
    record {
      kept = KeepsAll-after u v w e.exposes.keys e.exposes.same e.exposes.kept p.kept;
      spared = ap (λ (h : Heap). register h (N spare)) p.heap ∙ (proxy-beside v.heap c.args.r (name_at v.scripts c.args.delegate.0) spare ∙ e.ready.spared);
      stands = λ d. StandsAfter-still u.heap v.heap w.heap e.exposes.stands
          (subst (λ x. IsReachedOrReflects v.heap x → StandsAfter v.heap w.heap (λ g. graph.with_proxy g c.args.r x)) (e.exposes.same c.args.delegate.0 c.requires.live).name
          (subst (λ k. IsReachedOrReflects v.heap own → StandsAfter v.heap k (λ g. graph.with_proxy g c.args.r own)) (sym p.heap)
          (proxy-reflects v.heap c.args.r own e.ready.order.sound allowed (name_at-there [] v e.ready.order c.args.delegate.0)
          (subst (λ k. IsReached v.heap own → StandsAfter v.heap k (λ g. graph.with_proxy g c.args.r own)) p.heap p.stands)))
          (reflects-kept u.heap v.heap e.exposes.reached _ d));
      doomed = λ d. doomed-then u.heap v.heap w.heap (e.exposes.doomed d)
          (subst (KeepsDoomed v.heap) (sym p.heap)
          (make_proxy-doomed v.heap e.ready.order.sound.well_formed c.args.r (name_at v.scripts c.args.delegate.0)
          (subst (IsReachedOrReflects v.heap) (sym (e.exposes.same c.args.delegate.0 c.requires.live).name) (reflects-kept u.heap v.heap e.exposes.reached _ d))));
    }

pub returns-clause-came : goal.returns-clause-came
returns-clause-came c =
    let u = c.args.heaps.now in
    let v = c.expose_key.new.heaps in
    let w = c.new_proxy.new.self in
    OneCame-named u.heap w.heap (object (u.heap.scripts_made + 1)) (script_name w (Some c.in-Some.key)) (search rules)
    (λ y m. ⊎_elim (λ l. inl (exposed-none_came u v c.expose_key.ensures.exposes y l))
    (λ e. inr (e ∙ ap (λ (k : Heap). object (k.scripts_made + 1)) c.expose_key.ensures.exposes.rest))
    (proxy-came v.heap c.args.r (name_at v.scripts c.args.delegate.0) y (subst (λ (k : Heap). Among y (names_there k)) c.in_ok-new_proxy.ensures.heap m)))

pub returns-clause-marking : goal.returns-clause-marking
returns-clause-marking c =
    let u = c.args.heaps.now in
    let v = c.expose_key.new.heaps in
    let w = c.new_proxy.new.self in
    let e = c.expose_key.ensures in
    marking-after u v w e.marking (λ k. made_proxy-marking v w c.args.r (name_at v.scripts c.args.delegate.0) e.ready.order.sound.well_formed
    c.in_ok-new_proxy.ensures.heap c.new_proxy.ensures.marks
    (λ its. subst (IsPastIfAny v) (sym (e.exposes.same c.args.delegate.0 c.requires.live).name) (e.past k)))

pub returns-clause-none_left : goal.returns-clause-none_left
returns-clause-none_left c x i =
    let v = c.expose_key.new.heaps in
    left-into v.heap _ c.new_proxy.new.self.heap c.in_ok-new_proxy.ensures.heap (proxy-left v.heap c.args.r (name_at v.scripts c.args.delegate.0)) x
    (exposed-none_left c.args.heaps.now v c.expose_key.ensures.exposes x i)

pub returns-clause-writes : goal.returns-clause-writes
returns-clause-writes c d e =
    let u = c.args.heaps.now in
    let v = c.expose_key.new.heaps in
    let w = c.new_proxy.new.self in
    let p = c.in_ok-new_proxy.ensures in
    let x = c.expose_key.ensures in
    subst (λ n. WritesOnly (Spot.register (S c.args.r) ∷ Spot.delegate (object (n + 1)) ∷ Spot.preserved d ∷ []) u.heap w.heap) (ap (λ (k : Heap). k.scripts_made) x.exposes.rest)
    (writes-after (Spot.register (S c.args.r) ∷ Spot.delegate (object (v.heap.scripts_made + 1)) ∷ Spot.preserved d ∷ []) u.heap v.heap w.heap x.spots
    (proxy-only v.heap w.heap c.args.r (name_at v.scripts c.args.delegate.0) d ((x.exposes.same c.args.delegate.0 c.requires.live).name ∙ e) p.heap (p.kept.order [] x.ready.order).sound.well_formed))

pub returns-clause-written : goal.returns-clause-written
returns-clause-written c =
    let v = c.expose_key.new.heaps in
    let w = c.new_proxy.new.self in
    let p = c.in_ok-new_proxy.ensures in
    let x = c.expose_key.ensures in
    let own = x.exposes.same c.args.delegate.0 c.requires.live in
    let f = there-named v.scripts c.args.delegate.0 own.there in
    subst (λ n. IsWritten (Spot.delegate (object (n + 1))) (script_name c.args.heaps.now (Some c.args.delegate)) w.heap) (ap (λ (k : Heap). k.scripts_made) x.exposes.rest)
    (subst (λ y. IsWritten (Spot.delegate (object (v.heap.scripts_made + 1))) y w.heap) (sym f.1 ∙ own.name)
    (proxy-delegate v.heap w.heap c.args.r (name_at v.scripts c.args.delegate.0) f.0 f.1 p.heap (p.kept.order [] x.ready.order).sound.well_formed x.ready.order.sound.well_formed))

pub returns-clause-preserves : goal.returns-clause-preserves
returns-clause-preserves c d e =
    let v = c.expose_key.new.heaps in
    let p = c.in_ok-new_proxy.ensures in
    let x = c.expose_key.ensures in
    proxy-preserved v.heap c.new_proxy.new.self.heap c.args.r (name_at v.scripts c.args.delegate.0) d ((x.exposes.same c.args.delegate.0 c.requires.live).name ∙ e) p.heap
    (p.kept.order [] x.ready.order).sound.well_formed

pub returns-clause-ended : goal.returns-clause-ended
returns-clause-ended c =
    let u = c.args.heaps.now in
    let v = c.expose_key.new.heaps in
    let w = c.new_proxy.new.self in
    let e = c.expose_key.ensures in
    ended-then u.heap v.heap w.heap (stays-ended u v c.requires.ready.order (exposes-stays u v e.exposes))
    (proxy-ended v w c.args.r (name_at v.scripts c.args.delegate.0) e.ready.order c.in_ok-new_proxy.ensures.heap)

pub returns-clause-kind : goal.returns-clause-kind
returns-clause-kind c =
    let v = c.expose_key.new.heaps in
    let w = c.new_proxy.new.self in
    let p = c.in_ok-new_proxy.ensures in
    let x = c.expose_key.ensures in
    let own = x.exposes.same c.args.delegate.0 c.requires.live in
    let f = there-named v.scripts c.args.delegate.0 own.there in
    proxy-kind w (p.kept.order [] x.ready.order) v.heap c.args.r (name_at v.scripts c.args.delegate.0) f.0 f.1 p.heap c.in-Some.key.0 (search rules)

pub returns-clause-usable : goal.returns-clause-usable
returns-clause-usable c =
    let u = c.args.heaps.now in
    let v = c.expose_key.new.heaps in
    let w = c.new_proxy.new.self in
    proxy-usable u v w c.args.r (name_at v.scripts c.args.delegate.0) c.requires.ready.order (exposes-stays u v c.expose_key.ensures.exposes) c.in_ok-new_proxy.ensures.heap
