use Rattle.std.proofs.Common.{◌≡◌, ◌++◌, ◌∷◌, [], length, Some, ◌∙◌, ap, arith}
use Rattle.std.specs.Prelude.{if◌then◌else◌}
use Rattle.std.proofs.lemmas.Grind.{common_steps}
use Rattle.cc_names.specs.Names.{same_name}
use Rattle.cc_pages.specs.ByName.{place_of}
use Rattle.cc_search.proofs.Kept.{IsPut, kept-absent, kept-added}
use Rattle.cc_search.proofs.found.Found.add.Goals as goal

pub invariant_of-self-2 : goal.invariant_of-self-2
invariant_of-self-2 c =
    let f = c.self.inside in
    let x = c.args.name in
    let none = kept-absent f.walked f.steps.items f.places c.args.self.now x c.self.invariant c.self.view_is c.requires in
    let items : c.push_reserved.new.self.items ≡ f.steps.items ++ (x, c.args.reason) ∷ [] = grind (arith, common_steps) in
    let place : c.len.result ≡ length f.steps.items = grind (arith, common_steps) in
    let put : IsPut f.places c.set.new.self x (Some (length f.steps.items)) =
    λ y. c.in_ok-set.ensures.places y ∙ ap (λ k. if same_name x y then Some k else place_of f.places y) place in
    rw items (kept-added f.walked f.steps.items f.places c.set.new.self x c.args.reason c.self.invariant none put)
