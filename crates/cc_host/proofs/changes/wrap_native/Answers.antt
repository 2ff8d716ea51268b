use Rattle.std.proofs.Common.{[], Some, sym, subst, ap, ◌∙◌, inl, inr, ⊎_elim, ◌∷◌}
use Rattle.std.proofs.lemmas.Result.{on_err_weaker}
use Rattle.cc_lists.specs.Members.{Among}
use Rattle.cc_names.specs.Names.{native, reflector}
use Rattle.cc_model.specs.Graph as graph
use Rattle.cc_heaps.specs.Keyed.{Keyed, the_number}
use Rattle.cc_heaps.specs.Changes.{native_name, script_name}
use Rattle.cc_heaps.specs.Keeping.{KeepsAll}
use Rattle.cc_heaps.specs.Standing.{IsReached, StandsAfter}
use Rattle.cc_heaps.proofs.FewCounts.{none-owned}
use Rattle.cc_heaps.proofs.Kept.{KeepsAll-reached}
use Rattle.cc_host.specs.Holding.{IsLetGo}
use Rattle.cc_host.specs.Missing.{KeepsDoomed}
use Rattle.cc_host.proofs.KeptDoomed.{wrapped-doomed}
use Rattle.cc_host.proofs.ScriptSteps.{either-way, ok-both}
use Rattle.cc_host.proofs.Around.{around-none_came, around-change, nothing-change}
use Rattle.cc_host.proofs.Composing.{tells-after}
use Rattle.cc_host.proofs.Spare.{wrapped-leaves}
use Rattle.cc_host.proofs.Storing.{held-reached, native_name-is}
use Rattle.cc_host.proofs.Wrapping.{held-lacks, wrapped-natives, wrapped-none_left}
use Rattle.cc_model.specs.WellFormed.{names_there}
use Rattle.cc_host.proofs.Coming.{OneCame-named, if_ok-with, wrapped-came}
use Rattle.cc_host.proofs.LastingSteps.{around-ended, same-stays, wrap-stays}
use Rattle.cc_host.proofs.changes.wrap_native.Given as given
use Rattle.cc_host.proofs.MarkedCalls.{wrapped-marking}
use Rattle.cc_host.proofs.Marked.{marking-then}
use Rattle.cc_host.proofs.PlacesKept.{places-as, places-round, places-same, wrapped-places}
use Rattle.cc_host.proofs.Usable.{around-usable}
use Rattle.cc_host.proofs.changes.wrap_native.Goals as goal
use Rattle.cc_names.specs.declared.register.Reg.TheVariants.{N}
use Rattle.cc_host.specs.Hosted.{spare}
use Rattle.cc_host.specs.Spots.{Spot, WritesOnly}
use Rattle.cc_host.proofs.SpotsKeyed.{wrapped-only}
use Rattle.cc_host.proofs.SpotsThen.{writes-but, writes-then}

pub wrap-made-requires-clause-order : goal.wrap-made-requires-clause-order
wrap-made-requires-clause-order g c = none-owned c.hold.new.heaps (c.hold.ensures.held.kept.order [] c.requires.ready.order)

pub let_go-requires : goal.let_go-requires
let_go-requires g c =
    let h = c.hold.ensures.held in
    let k = KeepsAll-reached c.wrap-made.ensures.kept (held-reached c.args.heaps.now c.hold.new.heaps h c.requires.live) in
    record { order = k.order [] (h.kept.order [] c.requires.ready.order) }

kept : (g : given.Over) (c : goal.After-let_go g) → KeepsAll c.hold.new.heaps c.wrap-made.new.heaps
kept g c = KeepsAll-reached c.wrap-made.ensures.kept (held-reached c.args.heaps.now c.hold.new.heaps c.hold.ensures.held c.requires.live)

pub returns-clause-change : goal.returns-clause-change
returns-clause-change g c =
    let v = c.args.heaps.now in
    let w = c.hold.new.heaps in
    let u = c.wrap-made.new.heaps in
    let h = c.hold.ensures.held in
    let x = native_name v (Some c.args.key) in
    let held = held-reached v w h c.requires.live in
    ok-both c.wrap-made.result c.wrap-made.ensures.heap c.wrap-made.ensures.stands (λ heap stands.
    around-change v w u c.let_go.new.heaps c.requires.ready h (kept g c) c.let_go.ensures.empty (IsReached v.heap x)
    (λ k. graph.wrapped k x) (wrapped-leaves x) (λ p. p)
    (λ p. subst (λ z. StandsAfter w.heap u.heap (λ k. graph.wrapped k z)) (sym (native_name-is v w h.keys c.args.key c.requires.live)) (stands held))
    (λ p. subst (KeepsDoomed w.heap) (sym heap) (wrapped-doomed w.heap (Some (native (the_number w c.args.key.0))) held)))

pub returns-clause-tried : goal.returns-clause-tried
returns-clause-tried g c =
    let v = c.args.heaps.now in
    let w = c.hold.new.heaps in
    on_err_weaker c.wrap-made.result (λ same. nothing-change v w c.let_go.new.heaps c.requires.ready c.hold.ensures.held
    (subst (λ u. IsLetGo u c.let_go.new.heaps) same c.let_go.ensures.empty)) c.wrap-made.ensures.same

pub returns-clause-tells : goal.returns-clause-tells
returns-clause-tells g c =
    let v = c.args.heaps.now in
    let w = c.hold.new.heaps in
    let u = c.wrap-made.new.heaps in
    let h = c.hold.ensures.held in
    let e = c.wrap-made.ensures in
    let k = the_number w c.args.key.0 in
    let early = h.kept.order [] c.requires.ready.order in
    let late = (kept g c).order [] early in
    tells-after v.heap u.heap c.let_go.new.heaps.heap (g.N.Notices.telling c.args.out.now) (g.N.Notices.telling c.hold.new.out) (g.N.Notices.telling c.let_go.new.out) c.hold.ensures.told
    (λ x m. wrapped-none_left w u k c.wrap-made.result early late e.heap e.same x (subst (Among x) (sym h.names) m))
    (λ j m. subst (Among (native j)) h.names (wrapped-natives w u k c.wrap-made.result early late e.heap e.same j m))
    c.let_go.ensures.tells

pub returns-clause-came : goal.returns-clause-came
returns-clause-came g c =
    let v = c.args.heaps.now in
    let w = c.hold.new.heaps in
    let d = c.let_go.new.heaps in
    let h = c.hold.ensures.held in
    let k = the_number w c.args.key.0 in
    if_ok-with c.wrap-made.result c.wrap-made.ensures.heap c.wrap-made.ensures.name (λ heap made name.
    OneCame-named v.heap d.heap (reflector k) (script_name d (Some made)) (ap (λ (u : Keyed). script_name u (Some made)) c.let_go.ensures.empty.given_up ∙ name)
    (λ y m. ⊎_elim (λ l. inl (subst (Among y) h.names l)) (λ e. inr e)
    (wrapped-came w.heap k (h.kept.order [] c.requires.ready.order).sound.well_formed y
    (subst (λ u. Among y (names_there u)) heap (c.let_go.ensures.empty.none_came y m)))))

pub returns-clause-none_came : goal.returns-clause-none_came
returns-clause-none_came g c =
    on_err_weaker c.wrap-made.result (λ same. around-none_came c.args.heaps.now c.hold.new.heaps c.wrap-made.new.heaps c.let_go.new.heaps c.requires.ready c.hold.ensures.held (kept g c) c.let_go.ensures.empty
    (λ x m. subst (λ (w : Keyed). Among x (names_there w.heap)) same m)) c.wrap-made.ensures.same

pub returns-clause-marking : goal.returns-clause-marking
returns-clause-marking g c =
    let w = c.hold.new.heaps in
    let u = c.wrap-made.new.heaps in
    let e = c.wrap-made.ensures in
    marking-then c.args.heaps.now w c.let_go.new.heaps c.hold.ensures.marking (marking-then w u c.let_go.new.heaps
    (wrapped-marking w u c.wrap-made.result (the_number w c.args.key.0) (c.hold.ensures.held.kept.order [] c.requires.ready.order).sound.well_formed
    e.heap e.same e.marking e.kept.marks)
    c.let_go.ensures.marking)

pub returns-clause-places : goal.returns-clause-places
returns-clause-places g c =
    let w = c.hold.new.heaps in
    let u = c.wrap-made.new.heaps in
    let e = c.wrap-made.ensures in
    places-round c.args.heaps.now.heap w.heap u.heap c.let_go.new.heaps.heap c.hold.ensures.places
    (either-way c.wrap-made.result e.heap e.same
    (λ heap. places-as w.heap _ u.heap heap (wrapped-places w.heap (the_number w c.args.key.0)))
    (λ same. places-as w.heap w.heap u.heap (ap (λ (k : Keyed). k.heap) same) (places-same w.heap)))
    c.let_go.ensures.places

pub returns-clause-wanted : goal.returns-clause-wanted
returns-clause-wanted g c =
    let v = c.args.heaps.now in
    let w = c.hold.new.heaps in
    on_err_weaker c.wrap-made.result
    (λ lacks. held-lacks v w c.hold.ensures.held.keys c.args.key c.hold.ensures.held.heap lacks)
    c.wrap-made.ensures.lacks

pub returns-clause-writes : goal.returns-clause-writes
returns-clause-writes g c =
    let v = c.args.heaps.now in
    let w = c.hold.new.heaps in
    let u = c.wrap-made.new.heaps in
    let h = c.hold.ensures.held in
    let only = Spot.register (N spare) ∷ [] in
    writes-but spare [] v.heap c.let_go.new.heaps.heap c.requires.ready.spared c.let_go.ensures.empty.change.spared
    (writes-then only v.heap u.heap c.let_go.new.heaps.heap c.let_go.ensures.empty.none_came
    (either-way c.wrap-made.result c.wrap-made.ensures.heap c.wrap-made.ensures.same
    (λ heap. wrapped-only v.heap w.heap u.heap spare (native_name v (Some c.args.key)) (the_number w c.args.key.0) h.heap heap ((kept g c).order [] (h.kept.order [] c.requires.ready.order)).sound.well_formed)
    (λ same. subst (λ (k : Keyed). WritesOnly only v.heap k.heap) (sym same) c.hold.ensures.writes))
    c.let_go.ensures.writes)

pub returns-clause-ended : goal.returns-clause-ended
returns-clause-ended g c =
    let w = c.hold.new.heaps in
    let u = c.wrap-made.new.heaps in
    let e = c.wrap-made.ensures in
    around-ended c.args.heaps.now w u c.let_go.new.heaps c.requires.ready.order c.hold.ensures.held
    (either-way c.wrap-made.result e.heap e.same (λ heap. wrap-stays w u (the_number w c.args.key.0) heap) (λ same. same-stays w u same))
    c.let_go.ensures.empty

pub returns-clause-usable : goal.returns-clause-usable
returns-clause-usable g c =
    let w = c.hold.new.heaps in
    let u = c.wrap-made.new.heaps in
    let e = c.wrap-made.ensures in
    around-usable c.args.heaps.now w u c.let_go.new.heaps c.requires.ready.order c.hold.ensures.held
    (either-way c.wrap-made.result e.heap e.same (λ heap. wrap-stays w u (the_number w c.args.key.0) heap) (λ same. same-stays w u same))
    c.let_go.ensures.empty
