use Rattle.std.proofs.Common.{◌≡◌, ◌+◌, ◌∙◌, ap, subst, sym, arith, true, Some}
use Rattle.std.specs.Prelude.{slice_get, option_map}
use Rattle.cc_graph.specs.Shown.{Shown, is_with, place_with}
use Rattle.cc_graph.proofs.Mappings.{length-hyperedges, next-there}
use Rattle.cc_graph.proofs.Chains.{place-within, place-behind, place-passes, passes-within}
use Rattle.cc_graph.proofs.graph.Graph.next_with.Goals as goal

pub at-requires : goal.at-requires
at-requires c = grind (arith, passes-within, length-hyperedges)

pub returns-clause-place : goal.returns-clause-place
returns-clause-place c =
    let member = subst (λ (v : Shown). option_map (is_with c.args.node) (slice_get v.hyperedges c.args.place) ≡ Some true) (sym c.self.view_is) c.requires in
    c.widen.ensures
    ∙ (c.next_with.ensures
    ∙ (next-there _ _ _ c.args.node c.args.place c.at.result.now c.self.invariant.mapping c.self.invariant.mapped member c.at.ensures
    ∙ ap (λ (v : Shown). place_with v.hyperedges c.args.node (c.args.place + 1)) c.self.view_is))

pub returns-clause-within : goal.returns-clause-within
returns-clause-within c =
    place-within (is_with c.args.node) c.args.self.now.hyperedges (c.args.place + 1) c.widen.result (omega (arith, passes-within (is_with c.args.node) c.args.self.now.hyperedges c.args.place c.requires)) (returns-clause-place c)

pub returns-clause-behind : goal.returns-clause-behind
returns-clause-behind c =
    place-behind (is_with c.args.node) c.args.self.now.hyperedges c.args.place c.widen.result (omega (arith, passes-within (is_with c.args.node) c.args.self.now.hyperedges c.args.place c.requires)) (returns-clause-place c)

pub returns-clause-member : goal.returns-clause-member
returns-clause-member c =
    place-passes (is_with c.args.node) c.args.self.now.hyperedges (c.args.place + 1) c.widen.result (omega (arith, passes-within (is_with c.args.node) c.args.self.now.hyperedges c.args.place c.requires)) (returns-clause-place c)
