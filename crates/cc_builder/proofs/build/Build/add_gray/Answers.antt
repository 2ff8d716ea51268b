use Rattle.std.proofs.Common.{◌≡◌, true, false, None, Some, sym, ◌∙◌}
use Rattle.cc_model.specs.Heap.{is_gray_in}
use Rattle.cc_heaps.specs.Keyed.{the_name_at}
use Rattle.cc_builder.proofs.EntryMappings.{IsMember, IsMember-none, IsMember-some, added-value}
use Rattle.cc_builder.proofs.HeldObjects.{object-gray}
use Rattle.cc_builder.proofs.build.Build.add_gray.Goals as goal

-- what is gray is a node, with the number that was answered
member : (c : goal.In_ok-node) → IsMember c.args.heaps.now.heap c.args.self.now.graph.nodes c.add_object.new.self.graph.nodes (the_name_at c.args.heaps.now.scripts c.args.object.0) (Some c.in_ok-node.node)
member c =
    let v = c.args.heaps.now in
    let b = c.args.self.now in
    let d = c.add_object.new.self in
    let x = the_name_at v.scripts c.args.object.0 in
    let gray : is_gray_in v.heap x ≡ true =
    object-gray v c.scripts.result.now c.args.object c.colour.result c.requires.order c.requires.there c.scripts.ensures c.colour.ensures ∙ sym c.eq.ensures ∙ c.if-eq.true in
    IsMember-some v.heap b.graph.nodes d.graph.nodes x c.in_ok-node.node gray
    (added-value b d v c.args.object c.in_ok-node.node c.requires.there c.in_ok-node.ensures.added c.in_ok-node.ensures.number)

pub returns-then-eq-clause-names : goal.returns-then-eq-clause-names
returns-then-eq-clause-names c = (member c).names

pub returns-then-eq-clause-number : goal.returns-then-eq-clause-number
returns-then-eq-clause-number c = (member c).number

pub returns-then-eq-clause-within : goal.returns-then-eq-clause-within
returns-then-eq-clause-within c = (member c).within

-- what is not gray is none
no-member : (c : goal.Else-eq) → IsMember c.args.heaps.now.heap c.args.self.now.graph.nodes c.args.self.now.graph.nodes (the_name_at c.args.heaps.now.scripts c.args.object.0) None
no-member c =
    let v = c.args.heaps.now in
    let x = the_name_at v.scripts c.args.object.0 in
    let gray : is_gray_in v.heap x ≡ false =
    object-gray v c.scripts.result.now c.args.object c.colour.result c.requires.order c.requires.there c.scripts.ensures c.colour.ensures ∙ sym c.eq.ensures ∙ c.if-eq.false in
    IsMember-none v.heap c.args.self.now.graph.nodes x gray

pub returns-clause-names : goal.returns-clause-names
returns-clause-names c = (no-member c).names

pub returns-clause-number : goal.returns-clause-number
returns-clause-number c = (no-member c).number
