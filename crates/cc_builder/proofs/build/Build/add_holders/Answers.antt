use Rattle.std.proofs.Common.{◌≡◌, None, refl, ◌∙◌, ap, subst}
use Rattle.cc_lists.specs.Members.{with_last, with_all_last}
use Rattle.cc_lists.proofs.KnownBytes.{on_err_of}
use Rattle.cc_names.specs.Names.{native, same_name}
use Rattle.cc_model.specs.Units.{holders_of}
use Rattle.cc_counted.specs.declared.held.Held.TheVariants as held
use Rattle.cc_heaps.specs.Keyed.{number_at, the_number}
use Rattle.cc_heaps.specs.Changes.{IsNativeThere}
use Rattle.cc_builder.specs.Building.{Built, vertex_names}
use Rattle.cc_builder.specs.BuildSteps.{the_name}
use Rattle.cc_builder.proofs.BuildNodes.{names-with_vertex}
use Rattle.cc_builder.proofs.BuildWalks.{name-there}
use Rattle.cc_builder.proofs.NoGray.{holders-passed}
use Rattle.cc_builder.proofs.HolderWalks.{holders-start, holders-turn, holders-shorter, some-holder}
use Rattle.cc_builder.proofs.build.Build.add_holders.Goals as goal

pub returns-then-not-has_colour-clause-names : goal.returns-then-not-has_colour-clause-names
returns-then-not-has_colour-clause-names c =
    holders-passed c.args.heaps.now c.scripts.result.now c.has_colour.result c.requires.order c.scripts.ensures c.has_colour.ensures c.if-not-has_colour.true
    (vertex_names c.args.self.now.graph.nodes)

pub holders-init : goal.holders-init
holders-init c =
    let v = c.args.heaps.now in
    record {
      names = ap (with_all_last same_name (vertex_names c.args.self.now.graph.nodes)) (holders-start v c.next_holder-holder.result c.requires.order c.next_holder-holder.ensures.number);
      there = c.next_holder-holder.ensures.there;
      found = (None, c.next_holder-holder.ensures.number);
      edges = refl;
      hyperedges = refl;
      next = refl;
      candidates = refl;
      spare = refl;
      built = c.requires.built;
      held = c.requires.held;
    }

pub returns-in_err-add_object-clause-refused : goal.returns-in_err-add_object-clause-refused
returns-in_err-add_object-clause-refused c =
    let l = c.holders.invariant in
    on_err_of c.from_residual.result (some-holder c.args.heaps.now c.holders.holder c.in-Some.key c.in-Some.is l.there l.found.0 l.found.1)

pub holders-smaller : goal.holders-smaller
holders-smaller c =
    holders-shorter c.args.heaps.now c.holders.holder c.in-Some.key c.in-Some.is c.holders.invariant.there
    c.next_holder-holder-in-Some.result c.requires.order c.next_holder-holder-in-Some.ensures.number

pub holders-preserved : goal.holders-preserved
holders-preserved c =
    let v = c.args.heaps.now in
    let l = c.holders.invariant in
    let key = c.in-Some.key in
    let r = c.next_holder-holder-in-Some.result in
    let next = c.next_holder-holder-in-Some.ensures.number in
    let vs = c.holders.self.graph.nodes in
    let ws = c.add_object.new.self.graph.nodes in
    let object = held.Native key in
    let added = c.in_ok-add_object.ensures.added in
    let names : vertex_names ws ≡ with_last same_name (vertex_names vs) (native (the_number v key.0)) =
    ap (λ (b : Built). vertex_names b.graph.nodes) added
    ∙ names-with_vertex vs (the_name v object) object
    ∙ ap (with_last same_name (vertex_names vs)) (name-there v key (subst (IsNativeThere v) c.in-Some.is l.there)) in
    record {
      names = holders-turn v c.holders.holder key c.in-Some.is l.there r (vertex_names vs) (vertex_names ws) (with_all_last same_name (vertex_names c.args.self.now.graph.nodes) (holders_of v.heap))
          c.requires.order next names l.names;
      there = c.next_holder-holder-in-Some.ensures.there;
      found = (number_at v key.0, next);
      edges = ap (λ (b : Built). b.graph.edges) added ∙ l.edges;
      hyperedges = ap (λ (b : Built). b.graph.hyperedges) added ∙ l.hyperedges;
      next = ap (λ (b : Built). b.next) added ∙ l.next;
      candidates = ap (λ (b : Built). b.candidates) added ∙ l.candidates;
      spare = ap (λ (b : Built). b.graph.spare) added ∙ l.spare;
      built = c.add_object.ensures.built;
      held = c.add_object.ensures.held;
    }
