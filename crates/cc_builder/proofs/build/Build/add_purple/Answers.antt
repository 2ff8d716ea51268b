use Rattle.std.proofs.Common.{◌≡◌, true, sym, ◌∙◌, ap}
use Rattle.cc_lists.specs.Members.{with_last, with_all_last}
use Rattle.cc_names.specs.Names.{same_name}
use Rattle.cc_counted.specs.declared.held.Held.TheVariants as held
use Rattle.cc_counted.specs.Counts.{Counts}
use Rattle.cc_counted.specs.Counts as counts
use Rattle.cc_heaps.specs.Keyed.{the_number}
use Rattle.cc_counted.specs.Suspects.{is_purple_in}
use Rattle.cc_builder.specs.Building.{Built, vertex_names}
use Rattle.cc_builder.specs.BuildSteps.{the_name}
use Rattle.cc_builder.proofs.BuildNodes.{names-with_vertex}
use Rattle.cc_builder.proofs.BuildWalks.{purple-one, name-there}
use Rattle.cc_builder.proofs.build.Build.add_purple.Goals as goal

pub returns-in_ok-add_object-clause-names : goal.returns-in_ok-add_object-clause-names
returns-in_ok-add_object-clause-names c =
    let v = c.args.heaps.now in
    let k = the_number v c.args.key.0 in
    let vs = c.args.self.now.graph.nodes in
    let purple : is_purple_in v.heap.buffer k ≡ true =
    ap (λ (d : Counts). is_purple_in d.buffer (counts.the_number d c.args.key.0)) (sym c.counted.ensures) ∙ sym c.purple.ensures ∙ c.if-purple.true in
    ap (λ (b : Built). vertex_names b.graph.nodes) c.in_ok-add_object.ensures.added
    ∙ names-with_vertex vs (the_name v (held.Native c.args.key)) (held.Native c.args.key)
    ∙ ap (with_last same_name (vertex_names vs)) (name-there v c.args.key c.requires.live)
    ∙ ap (with_all_last same_name (vertex_names vs)) (sym (purple-one v.heap k purple))
