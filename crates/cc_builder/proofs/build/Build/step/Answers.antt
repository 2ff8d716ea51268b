use Rattle.std.proofs.Common.{◌≡◌, ◌≢◌, ℕ, ◌+◌, ◌<◌, ◌≤◌, length, Option, Some, None, IsSome, refl, sym, ◌∙◌, ap, subst, arith}
use Rattle.cc_lists.proofs.KnownBytes.{on_err_of}
use Rattle.cc_model.specs.Units.{to_note}
use Rattle.cc_laws_snapshot.specs.Kinds.{IsFreshIn}
use Rattle.cc_builder.proofs.Promises.{unit-fresh}
use Rattle.cc_builder.specs.Building.{Built, IsBuilt, IsNodeUnit, vertex_name, snapshot_of}
use Rattle.cc_graph.specs.Held.{AreHeld}
use Rattle.cc_heaps.specs.HasKey.{HasKey}
use Rattle.cc_builder.specs.BuildSteps.{contents_at}
use Rattle.cc_builder.proofs.BuildStates.{first-none}
use Rattle.cc_builder.proofs.BuildTraversed.{IsBuilt-passed}
use Rattle.cc_builder.proofs.BuildUnits.{note-named, traversed-unit, may_be-refused, gone-unit}
use Rattle.cc_builder.proofs.build.Build.step.Goals as goal

-- there is a next node, where not all are behind
is-next : (b : Built) (next len : ℕ) → next ≡ b.next → len ≡ length b.graph.nodes → next ≢ len → b.next ≤ length b.graph.nodes → b.next < length b.graph.nodes
is-next b next len e f other behind = omega arith

some-some : {X : Type 0} (o : Option X) (x : X) → o ≡ Some x → IsSome o
some-some o x e = subst (λ p. IsSome p) (sym e) refl

pub returns-then-self-len-clause-complete : goal.returns-then-self-len-clause-complete
returns-then-self-len-clause-complete c = λ _.
    let b = c.args.self.now in
    let all : b.next ≡ length b.graph.nodes = sym (ap (λ (a : Built). a.next) c.self.view_is) ∙ c.if-self-len.true ∙ c.len.ensures in
    first-none b.next b.graph.nodes (omega arith)

pub returns-then-self-len-clause-behind : goal.returns-then-self-len-clause-behind
returns-then-self-len-clause-behind c = λ _. sym (ap (λ (a : Built). a.next) c.self.view_is) ∙ c.if-self-len.true ∙ c.len.ensures

pub returns-in_err-traverse-in-Some-clause-refused : goal.returns-in_err-traverse-in-Some-clause-refused
returns-in_err-traverse-in-Some-clause-refused c =
    let b = c.args.self.now in
    let at : c.self.inside.next ≡ b.next = ap (λ (a : Built). a.next) c.self.view_is in
    let many : c.len.result ≡ length b.graph.nodes = c.len.ensures in
    let l = is-next b c.self.inside.next c.len.result at many c.if-self-len.false c.requires.built.behind in
    on_err_of c.from_residual.result
    (may_be-refused b c.args.heaps.now c.in-Some.object c.requires.order l c.in-Some.ensures.there (c.in-Some.ensures.name ∙ ap (vertex_name b.graph.nodes) at)
    c.in_err-traverse-in-Some.ensures.refused)

pub returns-in_ok-traverse-in-Some-clause-unit : goal.returns-in_ok-traverse-in-Some-clause-unit
returns-in_ok-traverse-in-Some-clause-unit c = λ _.
    let b = c.args.self.now in
    let at : c.self.inside.next ≡ b.next = ap (λ (a : Built). a.next) c.self.view_is in
    let many : c.len.result ≡ length b.graph.nodes = c.len.ensures in
    let l = is-next b c.self.inside.next c.len.result at many c.if-self-len.false c.requires.built.behind in
    traversed-unit b c.traverse.new.self c.args.heaps.now c.in-Some.object c.requires.order l c.in-Some.ensures.there (c.in-Some.ensures.name ∙ ap (vertex_name b.graph.nodes) at)
    c.in_ok-traverse-in-Some.ensures.noted

pub returns-in_ok-traverse-in-Some-clause-fresh : goal.returns-in_ok-traverse-in-Some-clause-fresh
returns-in_ok-traverse-in-Some-clause-fresh c =
    unit-fresh c.args.heaps.now (snapshot_of c.args.self.now) (snapshot_of c.traverse.new.self) c.requires.order
    (returns-in_ok-traverse-in-Some-clause-unit c (λ e. cc))

pub returns-in_ok-traverse-in-Some-clause-traversed : goal.returns-in_ok-traverse-in-Some-clause-traversed
returns-in_ok-traverse-in-Some-clause-traversed c = λ _.
    let b = c.args.self.now in
    let v = c.args.heaps.now in
    let x = vertex_name b.graph.nodes b.next in
    let at : c.self.inside.next ≡ b.next = ap (λ (a : Built). a.next) c.self.view_is in
    some-some (to_note v.heap x) (contents_at v c.in-Some.object)
    (note-named v c.in-Some.object x c.requires.order c.in-Some.ensures.there (c.in-Some.ensures.name ∙ ap (vertex_name b.graph.nodes) at))

pub returns-in-None-clause-unit : goal.returns-in-None-clause-unit
returns-in-None-clause-unit c = λ _.
    let b = c.args.self.now in
    let v = c.args.heaps.now in
    let at : c.self.inside.next ≡ b.next = ap (λ (a : Built). a.next) c.self.view_is in
    let many : c.len.result ≡ length b.graph.nodes = c.len.ensures in
    let l = is-next b c.self.inside.next c.len.result at many c.if-self-len.false c.requires.built.behind in
    subst (λ (a : Built). IsNodeUnit v.heap (snapshot_of b) (snapshot_of (record a { next = a.next + 1 }))) (sym c.self.view_is)
    (gone-unit b v c.requires.built c.requires.held c.requires.order l (subst (λ n. to_note v.heap (vertex_name b.graph.nodes n) ≡ None) at (c.in-None.ensures.gone refl)))

pub returns-in-None-clause-fresh : goal.returns-in-None-clause-fresh
returns-in-None-clause-fresh c =
    subst (λ (a : Built). IsFreshIn c.args.heaps.now.heap (snapshot_of c.args.self.now) → IsFreshIn c.args.heaps.now.heap (snapshot_of (record a { next = a.next + 1 }))) (sym c.self.view_is)
    (unit-fresh c.args.heaps.now (snapshot_of c.args.self.now) (snapshot_of (record c.args.self.now { next = c.args.self.now.next + 1 })) c.requires.order
    (subst (λ (a : Built). IsNodeUnit c.args.heaps.now.heap (snapshot_of c.args.self.now) (snapshot_of (record a { next = a.next + 1 }))) c.self.view_is
    (returns-in-None-clause-unit c (λ e. cc))))

pub returns-in-None-clause-gone : goal.returns-in-None-clause-gone
returns-in-None-clause-gone c = λ _.
    let b = c.args.self.now in
    let v = c.args.heaps.now in
    let at : c.self.inside.next ≡ b.next = ap (λ (a : Built). a.next) c.self.view_is in
    subst (λ n. to_note v.heap (vertex_name b.graph.nodes n) ≡ None) at (c.in-None.ensures.gone refl)

pub returns-in-None-clause-built : goal.returns-in-None-clause-built
returns-in-None-clause-built c =
    let b = c.args.self.now in
    let v = c.args.heaps.now in
    let at : c.self.inside.next ≡ b.next = ap (λ (a : Built). a.next) c.self.view_is in
    let many : c.len.result ≡ length b.graph.nodes = c.len.ensures in
    let l = is-next b c.self.inside.next c.len.result at many c.if-self-len.false c.requires.built.behind in
    subst (λ (a : Built). IsBuilt (record a { next = a.next + 1 }) v) (sym c.self.view_is) (IsBuilt-passed b v c.requires.built l)

pub returns-in-None-clause-held : goal.returns-in-None-clause-held
returns-in-None-clause-held c =
    subst (λ (a : Built). AreHeld a.graph (HasKey c.args.heaps.now)) (sym c.self.view_is) c.requires.held
