use Rattle.std.proofs.Common.{◌≡◌, [], ◌∷◌, ◌++◌, flat_map, map, sym, ◌∙◌, ap}
use Rattle.std.proofs.lemmas.List.{append-nil}
use Rattle.cc_lists.specs.Members.{with_all_last}
use Rattle.cc_lists.proofs.KnownBytes.{on_err_of}
use Rattle.cc_names.specs.Names.{same_name}
use Rattle.cc_model.specs.Units.{members_of}
use Rattle.cc_model.specs.Units as units
use Rattle.cc_builder.specs.Building.{mapping_of, vertex_names}
use Rattle.cc_builder.specs.BuildSteps.{mappings_in, named_joint}
use Rattle.cc_builder.proofs.EntryMappings.{noted-none, noted-one}
use Rattle.cc_builder.proofs.build.Build.add_joint.Goals as goal

-- where what is given is gray, it is noted
one : (c : goal.In_ok-node) → mappings_in c.args.heaps.now.heap (named_joint c.args.heaps.now.scripts c.args.the_map.0 c.args.key.0 c.args.value.0)
    ≡ units.mapping_of c.args.heaps.now.heap (named_joint c.args.heaps.now.scripts c.args.the_map.0 c.args.key.0 c.args.value.0) ∷ []
one c =
    noted-one c.args.heaps.now c.requires.order c.scripts.result.now c.args.the_map c.args.key c.args.value c.colour.result c.requires.value c.scripts.ensures c.colour.ensures
    (sym c.eq.ensures ∙ c.if-eq.true)

pub returns-in_err-node-clause-refused : goal.returns-in_err-node-clause-refused
returns-in_err-node-clause-refused c =
    let noted = noted-one c.args.heaps.now c.requires.order c.scripts.result.now c.args.the_map c.args.key c.args.value c.colour.result c.requires.value c.scripts.ensures c.colour.ensures
    (sym c.eq.ensures ∙ c.if-eq.true) in
    on_err_of c.from_residual.result (λ none. cc)

pub returns-then-eq-clause-names : goal.returns-then-eq-clause-names
returns-then-eq-clause-names c =
    let xs = vertex_names c.args.self.now.graph.nodes in
    c.in_ok-node.ensures.names
    ∙ ap (with_all_last same_name xs) (sym (ap (flat_map members_of) (one c) ∙ append-nil _))

pub returns-then-eq-clause-mappings : goal.returns-then-eq-clause-mappings
returns-then-eq-clause-mappings c =
    let ms = map (mapping_of c.args.self.now.graph.nodes) c.args.self.now.graph.hyperedges in
    c.in_ok-node.ensures.mappings ∙ ap (λ ns. ms ++ ns) (sym (one c))

-- where it is not, nothing is
none : (c : goal.Else-eq) → mappings_in c.args.heaps.now.heap (named_joint c.args.heaps.now.scripts c.args.the_map.0 c.args.key.0 c.args.value.0) ≡ []
none c =
    noted-none c.args.heaps.now c.requires.order c.scripts.result.now c.args.the_map c.args.key c.args.value c.colour.result c.requires.value c.scripts.ensures c.colour.ensures
    (sym c.eq.ensures ∙ c.if-eq.false)

pub returns-clause-names : goal.returns-clause-names
returns-clause-names c = sym (ap (λ ms. with_all_last same_name (vertex_names c.args.self.now.graph.nodes) (flat_map members_of ms)) (none c))

pub returns-clause-mappings : goal.returns-clause-mappings
returns-clause-mappings c =
    let ms = map (mapping_of c.args.self.now.graph.nodes) c.args.self.now.graph.hyperedges in
    sym (ap (λ ns. ms ++ ns) (none c) ∙ append-nil ms)
