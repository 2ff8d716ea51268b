use Rattle.std.proofs.Common.{◌≡◌, ◌≤◌, ◌<◌, ◌+◌, ◌∙◌, ◌++◌, ◌∷◌, [], ap, arith, length, Some, if◌then◌else◌, rules, sym}
use Rattle.cc_names.specs.Names.{same_name}
use Rattle.cc_graph.specs.Shown.{number_of}
use Rattle.cc_graph.specs.Kept.{added, number_at, vertices, with_node}
use Rattle.cc_graph.proofs.Numbering.{number-new, number-old, numbered-more, numbered-added, numbers-given, numbers-taken, with_node-new, with_node-there}
use Rattle.cc_graph.proofs.nodes.Nodes.add.Goals as goal

pub invariant_of-self : goal.invariant_of-self
invariant_of-self c = numbered-more _ _ _ _ _ _ c.self.invariant (omega arith) c.in_err-number.ensures.err

pub invariant_of-self-then-number-count : goal.invariant_of-self-then-number-count
invariant_of-self-then-number-count c =
    numbered-more _ _ _ _ _ _ c.self.invariant (omega arith)
    (numbers-given c.self.inside.numbers c.get_or_add.new.self c.args.name c.in_ok-number.number (c.self.invariant.numbered c.args.name ∙ (number-old _ _ _ _ c.args.name c.in_ok-number.number c.len-count.result c.self.invariant c.in_ok-number.ensures.found c.if-number-count.true)) c.in_ok-number.ensures.added)

pub returns-then-number-count-clause-nodes : goal.returns-then-number-count-clause-nodes
returns-then-number-count-clause-nodes c = grind (arith, with_node-there, number-old)

pub invariant_of-self-then-is_err : goal.invariant_of-self-then-is_err
invariant_of-self-then-is_err c =
    rw (c.reserve_one.ensures.nodes, c.reserve_one.ensures.blacks)
    (numbered-more _ _ _ _ _ _ c.self.invariant c.reserve_one.ensures.blacks_taken.kept
    (numbers-taken c.self.inside.numbers c.get_or_add.new.self c.remove.new.self c.args.name c.in_ok-number.number (c.self.invariant.numbered c.args.name ∙ (number-new _ _ _ _ c.args.name c.in_ok-number.number c.len-count.result c.self.invariant c.in_ok-number.ensures.found c.len-count.ensures.count c.if-number-count.false)) c.in_ok-number.ensures.added c.remove.ensures))

pub returns-then-is_err-clause-absent : goal.returns-then-is_err-clause-absent
returns-then-is_err-clause-absent c = ap (λ v. number_of (vertices v.nodes) c.args.name) (sym c.self.view_is) ∙ (number-new _ _ _ _ c.args.name c.in_ok-number.number c.len-count.result c.self.invariant c.in_ok-number.ensures.found c.len-count.ensures.count c.if-number-count.false)

pub invariant_of-self-2 : goal.invariant_of-self-2
invariant_of-self-2 c =
    let nodes = ap (λ v. v.nodes) c.self.view_is in
    let items : c.push.new.self.items ≡ c.self.inside.nodes.items ++ added c.args.name c.args.held ∷ [] =
    ap (λ p. p.items) c.push.ensures ∙ (ap (λ xs. xs ++ c.new.result ∷ []) c.reserve_one.ensures.nodes ∙ ap (λ k. c.self.inside.nodes.items ++ k ∷ []) c.new.ensures) in
    let few : length c.self.inside.nodes.items < 4294967295 = omega (arith, ap length nodes, c.requires.few) in
    let enough : length c.self.inside.nodes.items + 1 ≤ c.reserve_one.new.blacks.capacity = search rules in
    rw (items, c.reserve_one.ensures.blacks)
    (numbered-added _ _ _ _ _ _ c.args.name c.args.held c.self.invariant few enough (number-new _ _ _ _ c.args.name c.in_ok-number.number c.len-count.result c.self.invariant c.in_ok-number.ensures.found c.len-count.ensures.count c.if-number-count.false)
    (λ x. c.in_ok-number.ensures.added x
    ∙ ap (λ n. if same_name c.args.name x then Some n else number_at c.self.inside.numbers x) (c.if-number-count.false ∙ c.len-count.ensures.count)))

pub returns-clause-nodes : goal.returns-clause-nodes
returns-clause-nodes c =
    let nodes = ap (λ v. v.nodes) c.self.view_is in
    ap (λ p. p.items) c.push.ensures ∙ (ap (λ xs. xs ++ c.new.result ∷ []) c.reserve_one.ensures.nodes ∙ ap (λ k. c.self.inside.nodes.items ++ k ∷ []) c.new.ensures)
    ∙ sym (with_node-new c.self.inside.nodes.items c.args.name c.args.held (number-new _ _ _ _ c.args.name c.in_ok-number.number c.len-count.result c.self.invariant c.in_ok-number.ensures.found c.len-count.ensures.count c.if-number-count.false)) ∙ ap (λ ks. with_node ks c.args.name c.args.held) nodes
