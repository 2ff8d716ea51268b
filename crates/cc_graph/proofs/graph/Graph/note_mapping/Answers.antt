use Rattle.std.proofs.Common.{◌≡◌, ◌<◌, ◌∙◌, ◌++◌, ◌∷◌, [], ap, subst, sym, length, refl}
use Rattle.std.specs.Prelude.{IfSome}
use Rattle.std.proofs.lemmas.List.{map_push}
use Rattle.cc_graph.specs.Shown.{Shown, hyperedge}
use Rattle.cc_graph.specs.Closed.{IsHyperedgeWithin}
use Rattle.cc_graph.specs.Kept.{AreMappings, chain_of, hyperedge_of, hyperedges}
use Rattle.cc_graph.proofs.Numbering.{length-vertices}
use Rattle.cc_graph.proofs.Whole.{but-shown, rooms-same, shown-mapped, whole-mapped}
use Rattle.cc_graph.proofs.graph.Graph.note_mapping.Goals as goal

pub chain_members-requires-clause-chained : goal.chain_members-requires-clause-chained
chain_members-requires-clause-chained c =
    subst (λ ms. AreMappings (chain_of c.self.inside.nodes.nodes c.self.inside.loose) (λ n. hyperedges ms) ms) (sym c.reserve.ensures.items) c.self.invariant.mapping

pub invariant_of-self-2 : goal.invariant_of-self-2
invariant_of-self-2 c =
    let nodes : length c.args.self.now.nodes ≡ length c.self.inside.nodes.nodes = sym (ap (λ v. length v.nodes) c.self.view_is) ∙ length-vertices c.self.inside.nodes.nodes in
    let within : IsHyperedgeWithin (length c.self.inside.nodes.nodes) (hyperedge c.args.the_map c.args.key c.args.value) = record {
      the_map = subst (λ n. IfSome c.args.the_map (λ i. i < n)) nodes c.requires.the_map;
      key = subst (λ n. IfSome c.args.key (λ i. i < n)) nodes c.requires.key;
      value = subst (λ n. c.args.value < n) nodes c.requires.value;
    } in
    let chained = subst (λ ms. AreMappings (chain_of c.chain_members.new.nodes.nodes c.chain_members.new.loose)
    (λ node. hyperedges ms ++ hyperedge c.args.the_map c.args.key c.args.value ∷ []) c.chain_members.new.mappings.items) c.reserve.ensures.items (c.chain_members.ensures.chained c.args.value) in
    rw (c.push.ensures, c.new.ensures, c.chain_members.ensures.blacks)
    (whole-mapped _ _ _ c.self.inside.mappings.items _ _ _ _ _ _ c.self.invariant within c.chain_members.ensures.nodes
    (c.chain_members.ensures.shown ∙ ap hyperedges c.reserve.ensures.items) chained refl refl refl)

pub returns-clause-noted : goal.returns-clause-noted
returns-clause-noted c =
    shown-mapped _ _ _ _ _ _ _ _ _ _ (but-shown c.self.inside.nodes.nodes c.chain_members.new.nodes.nodes c.chain_members.ensures.nodes)
    (ap (λ p. hyperedges p.items) c.push.ensures
    ∙ (map_push hyperedge_of c.chain_members.new.mappings.items c.new.result
    ∙ (ap (λ xs. xs ++ hyperedge_of c.new.result ∷ []) (c.chain_members.ensures.shown ∙ ap hyperedges c.reserve.ensures.items)
    ∙ ap (λ m. hyperedges c.self.inside.mappings.items ++ hyperedge_of m ∷ []) c.new.ensures)))
    c.chain_members.ensures.blacks
    (rooms-same _ _ _ _ _ c.chain_members.ensures.node_room c.chain_members.ensures.black_room)
    ∙ ap {A = Shown} {B = Shown} (λ v. record v { hyperedges = v.hyperedges ++ hyperedge c.args.the_map c.args.key c.args.value ∷ []; room = record v.room { mappings = c.push.new.self.capacity } }) c.self.view_is
