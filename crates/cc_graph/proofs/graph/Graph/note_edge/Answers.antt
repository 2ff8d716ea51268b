use Rattle.std.proofs.Common.{◌≡◌, ◌<◌, ◌+◌, ◌-◌, ◌∙◌, ◌++◌, [], ◌∷◌, ap, arith, length, get_or, None}
use Rattle.std.proofs.Math.ListN.{set}
use Rattle.std.proofs.lemmas.List.{length_push}
use Rattle.cc_graph.specs.Shown.{Shown}
use Rattle.cc_graph.specs.Kept.{with_reference, with_next, vertex_of, vertices, edges}
use Rattle.cc_graph.proofs.Numbering.{length-vertices}
use Rattle.cc_graph.proofs.Whole.{rooms-same, shown-same, vertices-noted, edges-noted, length-with_next, whole-noted}
use Rattle.cc_graph.proofs.graph.Graph.note_edge.Goals as goal

pub invariant_of-self : goal.invariant_of-self
invariant_of-self c =
    let count = ap (λ v. length v.nodes) c.self.view_is in
    let from : c.args.from < length c.self.inside.nodes.nodes = omega (arith, count, length-vertices c.self.inside.nodes.nodes, c.requires.from) in
    let to : c.args.to < length c.self.inside.nodes.nodes = omega (arith, count, length-vertices c.self.inside.nodes.nodes, c.requires.to) in
    let nodes : c.put-2.new.self.nodes ≡ set (set c.self.inside.nodes.nodes c.args.to c.note.new.self) c.args.from (with_reference c.at-source.result c.len-place.result) =
    ap (λ n. n.nodes) c.put-2.ensures ∙ (ap (λ n. set n.nodes c.args.from c.add_reference.new.self) c.put.ensures ∙ ap (set (set c.self.inside.nodes.nodes c.args.to c.note.new.self) c.args.from) c.add_reference.ensures) in
    let blacks : c.put-2.new.self.blacks ≡ c.self.inside.nodes.blacks = ap (λ n. n.blacks) c.put-2.ensures ∙ ap (λ n. n.blacks) c.put.ensures in
    let references : c.push.new.self.items ≡ with_next c.self.inside.references.items c.at-source.result.references.last c.len-place.result ++ record { source = c.args.from; target = c.args.to; next = None } ∷ [] =
    ap (λ p. p.items) c.push.ensures ∙ ap (λ p. p.items ++ record { source = c.args.from; target = c.args.to; next = None } ∷ []) c.link.ensures in
    rw (nodes, blacks, references) (whole-noted _ _ _ _ _ c.args.from c.args.to c.len-place.result c.at-target.result c.note.new.self c.at-source.result c.self.invariant from to c.len-place.ensures.count
    (ap (λ k. k.noted) c.note.ensures ∙ ap (λ k. k.noted + 1) c.at-target.ensures.value)
    (ap (λ k. k.references) c.note.ensures ∙ ap (λ k. k.references) c.at-target.ensures.value)
    (ap (λ k. k.mappings) c.note.ensures ∙ ap (λ k. k.mappings) c.at-target.ensures.value)
    (c.at-source.ensures.value ∙ ap (λ n. get_or n.nodes c.args.from c.at-source.result) c.put.ensures))

pub returns : goal.returns
returns c =
    let count = ap (λ v. length v.nodes) c.self.view_is in
    let from : c.args.from < length c.self.inside.nodes.nodes = omega (arith, count, length-vertices c.self.inside.nodes.nodes, c.requires.from) in
    let to : c.args.to < length c.self.inside.nodes.nodes = omega (arith, count, length-vertices c.self.inside.nodes.nodes, c.requires.to) in
    let nodes : c.put-2.new.self.nodes ≡ set (set c.self.inside.nodes.nodes c.args.to c.note.new.self) c.args.from (with_reference c.at-source.result c.len-place.result) =
    ap (λ n. n.nodes) c.put-2.ensures ∙ (ap (λ n. set n.nodes c.args.from c.add_reference.new.self) c.put.ensures ∙ ap (set (set c.self.inside.nodes.nodes c.args.to c.note.new.self) c.args.from) c.add_reference.ensures) in
    let kept = vertices-noted c.self.inside.nodes.nodes c.args.from c.args.to c.len-place.result c.at-target.result c.note.new.self c.at-source.result from to
    (ap vertex_of c.note.ensures ∙ ap vertex_of c.at-target.ensures.value)
    (c.at-source.ensures.value ∙ ap (λ n. get_or n.nodes c.args.from c.at-source.result) c.put.ensures) in
    let references : c.push.new.self.items ≡ with_next c.self.inside.references.items c.at-source.result.references.last c.len-place.result ++ record { source = c.args.from; target = c.args.to; next = None } ∷ [] =
    ap (λ p. p.items) c.push.ensures ∙ ap (λ p. p.items ++ record { source = c.args.from; target = c.args.to; next = None } ∷ []) c.link.ensures in
    let blacks : c.put-2.new.self.blacks ≡ c.self.inside.nodes.blacks = ap (λ n. n.blacks) c.put-2.ensures ∙ ap (λ n. n.blacks) c.put.ensures in
    let room : c.push.new.self.capacity ≡ c.self.inside.references.capacity = ap (λ p. p.capacity) c.push.ensures ∙ ap (λ p. p.capacity) c.link.ensures in
    let longer : length c.push.new.self.items ≡ length c.self.inside.references.items + 1 =
    ap length references ∙ (length_push (with_next c.self.inside.references.items c.at-source.result.references.last c.len-place.result) (record { source = c.args.from; target = c.args.to; next = None })
    ∙ ap (λ n. n + 1) (length-with_next c.self.inside.references.items c.at-source.result.references.last c.len-place.result)) in
    shown-same _ _ _ _ _ _ _ _ _ _ _ (ap vertices nodes ∙ kept)
    (ap edges references ∙ edges-noted c.self.inside.references.items c.at-source.result.references.last c.len-place.result (record { source = c.args.from; target = c.args.to; next = None }))
    blacks (omega (arith, room, longer))
    (rooms-same _ _ _ _ _ (ap (λ n. n.node_room) c.put-2.ensures ∙ ap (λ n. n.node_room) c.put.ensures) (ap (λ n. n.black_room) c.put-2.ensures ∙ ap (λ n. n.black_room) c.put.ensures))
    ∙ ap {A = Shown} {B = Shown} (λ v. record v { edges = v.edges ++ record { source = c.args.from; target = c.args.to } ∷ []; spare = v.spare - 1 }) c.self.view_is
