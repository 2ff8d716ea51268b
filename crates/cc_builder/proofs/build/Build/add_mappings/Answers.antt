use Rattle.std.proofs.Common.{◌<◌, ◌≤◌, List, ◌++◌, flat_map, map, length, refl, sym, ◌∙◌, ap, subst, arith}
use Rattle.std.proofs.lemmas.List.{append-nil}
use Rattle.cc_lists.specs.Members.{with_all_last}
use Rattle.cc_lists.proofs.KnownBytes.{on_err_of}
use Rattle.cc_names.specs.Names.{same_name}
use Rattle.cc_model.specs.Units.{mappings_of, members_of}
use Rattle.cc_weakmaps.specs.Entries.{KeyedEntry}
use Rattle.cc_builder.specs.Building.{mapping_of, vertex_names}
use Rattle.cc_builder.proofs.EntryMappings.{mappings-all, mappings-end, mappings-some, turn-mappings, turn-members}
use Rattle.cc_builder.proofs.NoGray.{mappings-passed, members-passed}
use Rattle.cc_builder.proofs.build.Build.add_mappings.Goals as goal

pub returns-then-not-has_colour-clause-names : goal.returns-then-not-has_colour-clause-names
returns-then-not-has_colour-clause-names c =
    members-passed c.args.heaps.now c.scripts.result.now c.has_colour.result c.requires.order c.scripts.ensures c.has_colour.ensures c.if-not-has_colour.true
    (vertex_names c.args.self.now.graph.nodes)

pub returns-then-not-has_colour-clause-mappings : goal.returns-then-not-has_colour-clause-mappings
returns-then-not-has_colour-clause-mappings c =
    mappings-passed c.args.heaps.now c.scripts.result.now c.has_colour.result c.requires.order c.scripts.ensures c.has_colour.ensures c.if-not-has_colour.true
    (map (mapping_of c.args.self.now.graph.nodes) c.args.self.now.graph.hyperedges)

pub loop-i-init : goal.loop-i-init
loop-i-init c =
    let v = c.args.heaps.now in
    let b = c.args.self.now in
    record {
      names = ap (λ ms. with_all_last same_name (vertex_names b.graph.nodes) (flat_map members_of ms)) (mappings-all v c.requires.order);
      mappings = ap (λ ms. map (mapping_of b.graph.nodes) b.graph.hyperedges ++ ms) (mappings-all v c.requires.order);
      edges = refl;
      next = refl;
      candidates = refl;
      spare = refl;
      built = c.requires.built;
      held = c.requires.held;
      last = tt;
    }

-- the loop stands at an entry
within : (c : goal.In_ok-last) → c.loop-i.i < length c.args.heaps.now.entries
within c = subst (λ (es : List KeyedEntry). c.loop-i.i < length es) c.weak.ensures (omega (arith, c.loop-i-test.true, c.len-i-end.ensures.count))

pub returns-in_err-last-clause-refused : goal.returns-in_err-last-clause-refused
returns-in_err-last-clause-refused c =
    let v = c.args.heaps.now in
    let l : c.loop-i.i < length v.entries =
    subst (λ (es : List KeyedEntry). c.loop-i.i < length es) c.weak.ensures (omega (arith, c.loop-i-test.true, c.len-i-end.ensures.count)) in
    on_err_of c.from_residual.result (mappings-some v c.loop-i.i c.requires.order l c.in_err-last.ensures.refused)

pub loop-i-preserved : goal.loop-i-preserved
loop-i-preserved c =
    let v = c.args.heaps.now in
    let l = c.loop-i.invariant in
    let e = c.in_ok-last.ensures in
    let b = c.args.self.now in
    let old = c.loop-i.self in
    let new = c.add_mapping.new.self in
    record {
      names = turn-members v c.loop-i.i (vertex_names old.graph.nodes) (vertex_names new.graph.nodes)
          (with_all_last same_name (vertex_names b.graph.nodes) (flat_map members_of (mappings_of v.heap))) (within c) e.names l.names;
      mappings = turn-mappings v c.loop-i.i (map (mapping_of old.graph.nodes) old.graph.hyperedges) (map (mapping_of new.graph.nodes) new.graph.hyperedges)
          (map (mapping_of b.graph.nodes) b.graph.hyperedges ++ mappings_of v.heap) (within c) e.mappings l.mappings;
      edges = e.edges ∙ l.edges;
      next = e.next ∙ l.next;
      candidates = e.candidates ∙ l.candidates;
      spare = e.spare ∙ l.spare;
      built = e.built;
      held = e.held;
      last = e.last;
    }

-- no entry is left
past : (c : goal.After-loop-i) → length c.args.heaps.now.entries ≤ c.loop-i.i
past c = subst (λ (es : List KeyedEntry). length es ≤ c.loop-i.i) c.weak.ensures (omega (arith, c.loop-i-test.false, c.len-i-end.ensures.count))

pub returns-clause-names : goal.returns-clause-names
returns-clause-names c =
    let xs = vertex_names c.loop-i.self.graph.nodes in
    sym (ap (λ ms. with_all_last same_name xs (flat_map members_of ms)) (mappings-end c.args.heaps.now c.loop-i.i (past c))) ∙ c.loop-i.invariant.names

pub returns-clause-mappings : goal.returns-clause-mappings
returns-clause-mappings c =
    let ms = map (mapping_of c.loop-i.self.graph.nodes) c.loop-i.self.graph.hyperedges in
    sym (ap (λ ns. ms ++ ns) (mappings-end c.args.heaps.now c.loop-i.i (past c)) ∙ append-nil ms) ∙ c.loop-i.invariant.mappings
