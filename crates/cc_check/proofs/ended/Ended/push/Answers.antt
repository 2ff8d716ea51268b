use Rattle.std.proofs.Common.{◌≡◌, List, [], ◌∷◌, ◌++◌, reverse, sym, ap, ◌∙◌, subst}
use Rattle.cc_names.specs.declared.name.Name.{Name}
use Rattle.cc_check.specs.EndedNames.{HavePlaces}
use Rattle.cc_check.proofs.Placed.{HavePlaces-more, HavePlaces-same, ended-last}
use Rattle.cc_check.proofs.ended.Ended.push.Goals as goal

pub invariant_of-self-in_err-set : goal.invariant_of-self-in_err-set
invariant_of-self-in_err-set c = subst (λ (xs : List Name). HavePlaces (reverse xs) c.set.new.self) (sym c.reserve.ensures.items)
    (HavePlaces-same (reverse c.self.inside.names.items) c.self.inside.by_name c.set.new.self c.self.invariant c.in_err-set.ensures.err)

pub invariant_of-self-2 : goal.invariant_of-self-2
invariant_of-self-2 c =
    let items = c.self.inside.names.items in
    let new : reverse c.push_reserved.new.self.items ≡ c.args.name ∷ reverse items =
    ap (λ (xs : List Name). reverse xs) (c.push_reserved.ensures.items ∙ ap (λ (xs : List Name). xs ++ c.args.name ∷ []) c.reserve.ensures.items) ∙ ended-last items c.args.name in
    subst (λ (xs : List Name). HavePlaces xs c.set.new.self) (sym new)
    (HavePlaces-more (reverse items) c.self.inside.by_name c.set.new.self c.args.name c.len.result c.self.invariant c.in_ok-set.ensures.places)

pub returns : goal.returns
returns c =
    let items = c.self.inside.names.items in
    ap (λ (xs : List Name). reverse xs) (c.push_reserved.ensures.items ∙ ap (λ (xs : List Name). xs ++ c.args.name ∷ []) c.reserve.ensures.items)
    ∙ (ended-last items c.args.name ∙ ap (λ (xs : List Name). c.args.name ∷ xs) c.self.view_is)
