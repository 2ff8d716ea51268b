use Rattle.std.proofs.Common.{◌<◌, length, sym, ◌∙◌, ap, subst, arith}
use Rattle.std.proofs.lemmas.Result.{on_ok_weaker}
use Rattle.cc_builder.specs.Building.{Built, IsBuilt, vertex_name}
use Rattle.cc_graph.specs.Held.{AreHeld}
use Rattle.cc_heaps.specs.HasKey.{HasKey}
use Rattle.cc_builder.specs.BuildSteps.{contents_at, sample_of}
use Rattle.cc_builder.proofs.BuildStates.{IsSampleOf}
use Rattle.cc_builder.proofs.BuildTraversed.{IsBuilt-traversed, AreHeld-traversed, IsBuilt-roomed, AreHeld-roomed, candidates-traversed, noting-traversed}
use Rattle.cc_builder.proofs.FewObjects.{nodes-limited}
use Rattle.cc_builder.proofs.NotedObjects.{sample-kind}
use Rattle.cc_builder.proofs.build.Build.traverse.Goals as goal

pub returns-in_err-reserve-clause-built : goal.returns-in_err-reserve-clause-built
returns-in_err-reserve-clause-built c = IsBuilt-roomed c.args.self.now c.reserve.new.self c.args.heaps.now c.in_err-reserve.ensures.rest c.requires.built

pub returns-in_err-reserve-clause-held : goal.returns-in_err-reserve-clause-held
returns-in_err-reserve-clause-held c = AreHeld-roomed c.args.self.now c.reserve.new.self c.args.heaps.now c.in_err-reserve.ensures.rest c.requires.held

pub pass_next-requires-clause-few : goal.pass_next-requires-clause-few
pass_next-requires-clause-few c =
    let v = c.args.heaps.now in
    omega (arith, nodes-limited c.reserve.new.self v c.requires.order (IsBuilt-roomed c.args.self.now c.reserve.new.self v c.in_ok-reserve.ensures.rest c.requires.built))

pub note_places-requires-clause-built : goal.note_places-requires-clause-built
note_places-requires-clause-built c =
    let b = c.args.self.now in
    let d = c.reserve.new.self in
    let v = c.args.heaps.now in
    let rest = c.in_ok-reserve.ensures.rest in
    subst (λ a. IsBuilt a v) (sym c.pass_next.ensures)
    (IsBuilt-traversed d v c.sample_of.result (IsBuilt-roomed b d v rest c.requires.built)
    (subst (λ (a : Built). a.next < length a.graph.nodes) (sym rest) c.requires.within)
    (subst (λ (a : Built). IsSampleOf c.sample_of.result (vertex_name a.graph.nodes a.next)) (sym rest)
    (subst (λ n. IsSampleOf n (vertex_name b.graph.nodes b.next)) (sym c.sample_of.ensures)
    (subst (IsSampleOf (sample_of v c.args.object)) c.requires.name (sample-kind v c.args.object c.requires.order c.requires.there)))))

pub note_places-requires-clause-held : goal.note_places-requires-clause-held
note_places-requires-clause-held c =
    let d = c.reserve.new.self in
    let v = c.args.heaps.now in
    subst (λ (a : Built). AreHeld a.graph (HasKey v)) (sym c.pass_next.ensures)
    (AreHeld-traversed d v c.sample_of.result (AreHeld-roomed c.args.self.now d v c.in_ok-reserve.ensures.rest c.requires.held))

pub returns-clause-candidates : goal.returns-clause-candidates
returns-clause-candidates c =
    c.note_places.ensures.candidates ∙ candidates-traversed c.args.self.now c.reserve.new.self c.pass_next.new.self c.sample_of.result c.in_ok-reserve.ensures.rest c.pass_next.ensures

pub returns-clause-noted : goal.returns-clause-noted
returns-clause-noted c =
    let b = c.args.self.now in
    let v = c.args.heaps.now in
    let rest = c.in_ok-reserve.ensures.rest in
    on_ok_weaker c.note_places.result
    (λ e. e ∙ noting-traversed b c.reserve.new.self c.pass_next.new.self c.sample_of.result (sample_of v c.args.object) c.self.inside.next (contents_at v c.args.object)
    rest c.pass_next.ensures (ap (λ (a : Built). a.next) (c.self.view_is ∙ rest)) c.sample_of.ensures)
    c.note_places.ensures.noted
