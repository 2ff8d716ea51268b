use Rattle.std.proofs.Common.{◌∙◌, ap, sym, arith}
use Rattle.cc_graph.specs.Kept.{but_mappings, hyperedges}
use Rattle.cc_graph.proofs.Mappings.{but-nodes_with, hyperedges-linked, members-one, members-two, second-there}
use Rattle.cc_graph.proofs.graph.chain_members.Goals as goal

pub returns-then-is_one-clause-chained : goal.returns-then-is_one-clause-chained
returns-then-is_one-clause-chained c value =
    rw (c.chain.ensures.nodes, c.chain.ensures.loose, c.chain.ensures.mappings, c.or.ensures)
    (members-one c.args.nodes.now.nodes c.args.loose.now c.args.mappings.now.items c.args.the_map c.args.key value c.len-place.result c.requires.chained c.requires.the_map c.requires.key
    c.len-place.ensures.count (sym c.is_one.ensures ∙ c.if-is_one.true))

pub returns-then-is_one-clause-nodes : goal.returns-then-is_one-clause-nodes
returns-then-is_one-clause-nodes c = ap (λ n. but_mappings n.nodes) c.chain.ensures.nodes ∙ but-nodes_with c.args.nodes.now.nodes _ _

pub returns-then-is_one-clause-shown : goal.returns-then-is_one-clause-shown
returns-then-is_one-clause-shown c = ap (λ p. hyperedges p.items) c.chain.ensures.mappings ∙ hyperedges-linked c.args.mappings.now.items _ _ _

pub chain-requires-2-clause-last : goal.chain-requires-2-clause-last
chain-requires-2-clause-last c =
    rw (c.chain.ensures.nodes, c.chain.ensures.loose, c.chain.ensures.mappings, c.or.ensures)
    (second-there c.args.nodes.now.nodes c.args.loose.now c.args.mappings.now.items c.args.the_map c.args.key 0 c.len-place.result c.requires.chained c.requires.the_map c.requires.key
    c.len-place.ensures.count (sym c.is_one.ensures ∙ c.if-is_one.false))

pub returns-clause-chained : goal.returns-clause-chained
returns-clause-chained c value =
    rw (c.chain-2.ensures.nodes, c.chain-2.ensures.loose, c.chain-2.ensures.mappings, c.chain.ensures.nodes, c.chain.ensures.loose, c.chain.ensures.mappings, c.or.ensures)
    (members-two c.args.nodes.now.nodes c.args.loose.now c.args.mappings.now.items c.args.the_map c.args.key value c.len-place.result c.requires.chained c.requires.the_map c.requires.key
    c.len-place.ensures.count (sym c.is_one.ensures ∙ c.if-is_one.false))

pub returns-clause-nodes : goal.returns-clause-nodes
returns-clause-nodes c = grind (arith, but-nodes_with)

pub returns-clause-shown : goal.returns-clause-shown
returns-clause-shown c = grind (arith, hyperedges-linked)
