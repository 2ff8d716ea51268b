use Rattle.std.proofs.Common.{◌≡◌, ℕ, [], ◌∷◌, ◌++◌, map, length, Some, sym, ◌∙◌, ap, subst}
use Rattle.cc_model.specs.Entries.{Joint}
use Rattle.cc_counted.specs.declared.held.Held.TheVariants as held
use Rattle.cc_graph.specs.Shown.{Shown, hyperedge, number_of}
use Rattle.cc_graph.specs.Closed.{IsHyperedgeWithin}
use Rattle.cc_graph.specs.Held.{AreHeld}
use Rattle.cc_heaps.specs.HasKey.{HasKey}
use Rattle.cc_builder.specs.Building.{Built, IsBuilt, mapping_of, vertex_names}
use Rattle.cc_builder.specs.BuildSteps.{IsMapNode, named_joint, the_name, with_mapping}
use Rattle.cc_builder.proofs.BuildNodes.{number_of-at}
use Rattle.cc_builder.proofs.BuildKept.{built_of, IsBuilt-mapping}
use Rattle.cc_builder.proofs.EntryMappings.{IsMember, IsValue, added-value, entry-mappings, entry-names, entry-within, map-number, map-within}
use Rattle.cc_builder.proofs.build.Build.note_joint.Goals as goal

-- the joint by names
abbrev the_joint : goal.In_ok-note_mapping → Joint
the_joint c = named_joint c.args.heaps.now.scripts c.args.the_map.0 c.args.key.0 c.args.value.0

-- its map, its key and its value are nodes now
map-added : (c : goal.In_ok-note_mapping) → IsMember c.args.heaps.now.heap c.args.self.now.graph.nodes c.map_node.new.self.graph.nodes (the_joint c).the_map c.in_ok-the_map.the_map
map-added c = let e = c.in_ok-the_map.ensures in record { names = e.names; number = e.number; within = e.within }

key-added : (c : goal.In_ok-note_mapping) → IsMember c.args.heaps.now.heap c.map_node.new.self.graph.nodes c.add_gray.new.self.graph.nodes (the_joint c).key c.in_ok-key.key
key-added c = let e = c.in_ok-key.ensures in record { names = e.names; number = e.number; within = e.within }

value-added : (c : goal.In_ok-note_mapping) → IsValue c.add_gray.new.self.graph.nodes c.add_object.new.self.graph.nodes (the_joint c).value c.in_ok-value.value
value-added c =
    added-value c.add_gray.new.self c.add_object.new.self c.args.heaps.now c.args.value c.in_ok-value.value c.requires.value c.in_ok-value.ensures.added c.in_ok-value.ensures.number

-- the number of the value's node
pub note_mapping-requires-clause-value : goal.note_mapping-requires-clause-value
note_mapping-requires-clause-value c =
    let x = the_name c.args.heaps.now (held.Script c.args.value) in
    (number_of-at c.self.inside.graph.nodes x c.in_ok-value.value
    (subst (λ (b : Built). number_of b.graph.nodes x ≡ Some c.in_ok-value.value) (sym c.self.view_is) c.in_ok-value.ensures.number)).0

pub returns-in_err-note_mapping-clause-held : goal.returns-in_err-note_mapping-clause-held
returns-in_err-note_mapping-clause-held c =
    let v = c.args.heaps.now in
    subst (λ g. AreHeld g (HasKey v)) (sym c.in_err-note_mapping.ensures.err)
    (subst (λ (b : Built). AreHeld b.graph (HasKey v)) (sym c.self.view_is) c.in_ok-value.ensures.held)

pub returns-clause-names : goal.returns-clause-names
returns-clause-names c =
    ap (λ (g : Shown). vertex_names g.nodes) c.in_ok-note_mapping.ensures.noted
    ∙ ap (λ (b : Built). vertex_names b.graph.nodes) c.self.view_is
    ∙ entry-names c.args.heaps.now.heap (the_joint c) c.args.self.now.graph.nodes c.map_node.new.self.graph.nodes c.add_gray.new.self.graph.nodes c.add_object.new.self.graph.nodes
    c.in_ok-the_map.the_map c.in_ok-key.key c.in_ok-value.value (map-added c) (key-added c) (value-added c)

pub returns-clause-mappings : goal.returns-clause-mappings
returns-clause-mappings c =
    let m = hyperedge c.in_ok-the_map.the_map c.in_ok-key.key c.in_ok-value.value in
    let zs = c.add_object.new.self.graph.nodes in
    let before : c.add_object.new.self.graph.hyperedges ≡ c.args.self.now.graph.hyperedges =
    ap (λ (b : Built). b.graph.hyperedges) c.in_ok-value.ensures.added ∙ c.in_ok-key.ensures.hyperedges ∙ c.in_ok-the_map.ensures.hyperedges in
    ap (λ (g : Shown). map (mapping_of g.nodes) g.hyperedges) c.in_ok-note_mapping.ensures.noted
    ∙ ap (λ (b : Built). map (mapping_of b.graph.nodes) (b.graph.hyperedges ++ m ∷ [])) c.self.view_is
    ∙ ap (λ ms. map (mapping_of zs) (ms ++ m ∷ [])) before
    ∙ entry-mappings c.args.heaps.now.heap (the_joint c) c.args.self.now.graph.nodes c.map_node.new.self.graph.nodes c.add_gray.new.self.graph.nodes zs
    c.in_ok-the_map.the_map c.in_ok-key.key c.in_ok-value.value (map-added c) (key-added c) (value-added c) c.args.self.now.graph.hyperedges c.requires.built.mapped

pub returns-clause-built : goal.returns-clause-built
returns-clause-built c =
    let v = c.args.heaps.now in
    let m = hyperedge c.in_ok-the_map.the_map c.in_ok-key.key c.in_ok-value.value in
    let within : IsHyperedgeWithin (length c.add_object.new.self.graph.nodes) m =
    entry-within v.heap (the_joint c) c.args.self.now.graph.nodes c.map_node.new.self.graph.nodes c.add_gray.new.self.graph.nodes c.add_object.new.self.graph.nodes
    c.in_ok-the_map.the_map c.in_ok-key.key c.in_ok-value.value (map-added c) (key-added c) (value-added c) in
    let mappings : ℕ = c.note_mapping.new.self.room.mappings in
    let built : IsBuilt (with_mapping c.add_object.new.self m mappings) v = IsBuilt-mapping c.add_object.new.self v m mappings c.in_ok-value.ensures.built within in
    subst (λ g. IsBuilt (built_of g c.self.inside.candidates c.self.inside.next) v) (sym c.in_ok-note_mapping.ensures.noted)
    (subst (λ b. IsBuilt (with_mapping b m mappings) v) (sym c.self.view_is) built)

pub returns-clause-held : goal.returns-clause-held
returns-clause-held c =
    let v = c.args.heaps.now in
    subst (λ g. AreHeld g (HasKey v)) (sym c.in_ok-note_mapping.ensures.noted)
    (subst (λ (b : Built). AreHeld b.graph (HasKey v)) (sym c.self.view_is) c.in_ok-value.ensures.held)

pub returns-clause-node : goal.returns-clause-node
returns-clause-node c =
    let v = c.args.heaps.now in
    let known : IsMapNode v c.add_object.new.self.graph.nodes c.args.the_map.0 c.in_ok-the_map.the_map = record {
      number = map-number v.heap (the_joint c) c.args.self.now.graph.nodes c.map_node.new.self.graph.nodes c.add_gray.new.self.graph.nodes c.add_object.new.self.graph.nodes
          c.in_ok-the_map.the_map c.in_ok-key.key c.in_ok-value.value (map-added c) (key-added c) (value-added c);
      within = map-within v.heap (the_joint c) c.args.self.now.graph.nodes c.map_node.new.self.graph.nodes c.add_gray.new.self.graph.nodes c.add_object.new.self.graph.nodes
          c.in_ok-the_map.the_map c.in_ok-key.key c.in_ok-value.value (map-added c) (key-added c) (value-added c);
    } in
    subst (λ (g : Shown). IsMapNode v g.nodes c.args.the_map.0 c.in_ok-the_map.the_map) (sym c.in_ok-note_mapping.ensures.noted)
    (subst (λ (b : Built). IsMapNode v b.graph.nodes c.args.the_map.0 c.in_ok-the_map.the_map) (sym c.self.view_is) known)
