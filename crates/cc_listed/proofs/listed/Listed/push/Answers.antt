use Rattle.std.proofs.Common.{◌≡◌, ◌∙◌, ap, arith, length, false, Some, [], ◌∷◌, ◌++◌}
use Rattle.cc_lists.specs.Members.{has}
use Rattle.cc_names.specs.Names.{same_name}
use Rattle.cc_model.specs.Slots.{contents}
use Rattle.cc_listed.proofs.Finding.{listed-added, listed-alike, listed-few}
use Rattle.cc_listed.proofs.listed.Listed.push.Goals as goal

pub invariant_of-self-in_err-set : goal.invariant_of-self-in_err-set
invariant_of-self-in_err-set c = listed-alike _ _ _ _ _ c.self.invariant c.reserve.ensures.items c.in_err-set.ensures.err

pub overflow_add-self : goal.overflow_add-self
overflow_add-self c = omega (arith, listed-few _ _ _ c.self.invariant, c.self.inside.places.ok.0)

pub invariant_of-self-2 : goal.invariant_of-self-2
invariant_of-self-2 c =
    let new : has same_name (contents c.self.inside.places.items) c.args.name ≡ false = ap (λ xs. has same_name xs c.args.name) c.self.view_is ∙ c.requires in
    let kept = c.reserve.ensures.items in
    let last : c.len.result ≡ length c.self.inside.places.items = omega (arith, c.len.ensures, c.reserve.new.self.ok.0, ap length kept) in
    let same : c.push_reserved.new.self.items ≡ c.self.inside.places.items ++ Some c.args.name ∷ [] = c.push_reserved.ensures.items ∙ ap (λ xs. xs ++ Some c.args.name ∷ []) kept in
    listed-added c.self.inside.places.items _ _ _ c.args.name c.len.result _ c.self.invariant new last c.in_ok-set.ensures.places same
