use Rattle.std.proofs.Common.{◌≡◌, ◌<◌, ◌∙◌, ap, subst, sym, length}
use Rattle.std.specs.Prelude.{IfSome, slice_get}
use Rattle.cc_graph.specs.Closed.{IsClosed}
use Rattle.cc_graph.proofs.Numbering.{length-vertices}
use Rattle.cc_graph.proofs.Whole.{each-got, whole-closed}
use Rattle.cc_graph.proofs.graph.Graph.black_at.Goals as goal

pub returns-clause-within : goal.returns-clause-within
returns-clause-within c =
    let within = each-got (λ k. k < length c.self.inside.nodes.nodes) c.self.inside.nodes.blacks c.args.i c.self.invariant.within.members in
    let count : length c.self.inside.nodes.nodes ≡ length c.args.self.now.nodes = sym (length-vertices c.self.inside.nodes.nodes) ∙ ap (λ v. length v.nodes) c.self.view_is in
    subst (λ o. IfSome o (λ k. k < length c.args.self.now.nodes)) (sym c.black_at.ensures)
    (subst (λ n. IfSome (slice_get c.self.inside.nodes.blacks c.args.i) (λ k. k < n)) count within)

pub returns-clause-closed : goal.returns-clause-closed
returns-clause-closed c = subst IsClosed c.self.view_is (whole-closed _ _ _ _ _ c.self.invariant)
