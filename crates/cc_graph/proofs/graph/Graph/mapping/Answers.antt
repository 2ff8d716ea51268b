use Rattle.std.proofs.Common.{◌≡◌, ◌<◌, ◌∙◌, ap, subst, sym, arith, length, Some}
use Rattle.std.specs.Prelude.{slice_get}
use Rattle.std.proofs.lemmas.Option.{slice_get-get_or}
use Rattle.cc_graph.specs.Closed.{IsClosed}
use Rattle.cc_graph.specs.Kept.{hyperedge_of, hyperedges}
use Rattle.cc_graph.proofs.Numbering.{length-vertices}
use Rattle.cc_graph.proofs.Mappings.{length-hyperedges}
use Rattle.cc_graph.proofs.Whole.{mapping-at, mapping-within, whole-closed}
use Rattle.cc_graph.proofs.graph.Graph.mapping.Goals as goal

pub returns-then-j-len-clause-closed : goal.returns-then-j-len-clause-closed
returns-then-j-len-clause-closed c = subst IsClosed c.self.view_is (whole-closed _ _ _ _ _ c.self.invariant)

pub returns-clause-value : goal.returns-clause-value
returns-clause-value c =
    let inside : c.args.j < length c.self.inside.mappings.items = omega (arith, c.len.ensures.count, c.if-j-len.false) in
    sym (ap (λ v. slice_get v.hyperedges c.args.j) (sym c.self.view_is)
    ∙ (slice_get-get_or (hyperedges c.self.inside.mappings.items) c.args.j (hyperedge_of c.at-mapping.result.now) (omega (arith, inside, length-hyperedges c.self.inside.mappings.items))
    ∙ ap Some (mapping-at c.self.inside.mappings.items c.args.j c.at-mapping.result.now inside ∙ ap hyperedge_of (sym c.at-mapping.ensures))))

pub returns-clause-map_within : goal.returns-clause-map_within
returns-clause-map_within c =
    let inside : c.args.j < length c.self.inside.mappings.items = omega (arith, c.len.ensures.count, c.if-j-len.false) in
    let count : length c.self.inside.nodes.nodes ≡ length c.args.self.now.nodes = sym (length-vertices c.self.inside.nodes.nodes) ∙ ap (λ v. length v.nodes) c.self.view_is in
    rw (← count) (mapping-within c.self.inside.mappings.items (length c.self.inside.nodes.nodes) c.args.j c.at-mapping.result.now c.self.invariant.mapped inside c.at-mapping.ensures).the_map

pub returns-clause-key_within : goal.returns-clause-key_within
returns-clause-key_within c =
    let inside : c.args.j < length c.self.inside.mappings.items = omega (arith, c.len.ensures.count, c.if-j-len.false) in
    let count : length c.self.inside.nodes.nodes ≡ length c.args.self.now.nodes = sym (length-vertices c.self.inside.nodes.nodes) ∙ ap (λ v. length v.nodes) c.self.view_is in
    rw (← count) (mapping-within c.self.inside.mappings.items (length c.self.inside.nodes.nodes) c.args.j c.at-mapping.result.now c.self.invariant.mapped inside c.at-mapping.ensures).key

pub returns-clause-value_within : goal.returns-clause-value_within
returns-clause-value_within c =
    let inside : c.args.j < length c.self.inside.mappings.items = omega (arith, c.len.ensures.count, c.if-j-len.false) in
    let count : length c.self.inside.nodes.nodes ≡ length c.args.self.now.nodes = sym (length-vertices c.self.inside.nodes.nodes) ∙ ap (λ v. length v.nodes) c.self.view_is in
    rw (← count) (mapping-within c.self.inside.mappings.items (length c.self.inside.nodes.nodes) c.args.j c.at-mapping.result.now c.self.invariant.mapped inside c.at-mapping.ensures).value

pub returns-clause-closed : goal.returns-clause-closed
returns-clause-closed c = subst IsClosed c.self.view_is (whole-closed _ _ _ _ _ c.self.invariant)
