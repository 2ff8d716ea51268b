use Rattle.std.proofs.Common.{◌∙◌, sym, ap, arith}
use Rattle.cc_lists.specs.Members.{without}
use Rattle.cc_names.specs.Names.{same_name}
use Rattle.cc_listed.proofs.Finding.{listed-absent, listed-left, listed-removed, listed-some, listed-within}
use Rattle.cc_listed.proofs.listed.Listed.remove.Goals as goal

pub index_mut-requires : goal.index_mut-requires
index_mut-requires c = omega (arith, listed-within _ _ _ _ _ c.self.invariant (sym c.in-Some.ensures), c.self.inside.places.ok.0)

pub overflow_sub-self : goal.overflow_sub-self
overflow_sub-self c = listed-some _ _ _ _ _ c.self.invariant (sym c.in-Some.ensures)

pub invariant_of-self : goal.invariant_of-self
invariant_of-self c = listed-removed _ _ _ c.args.name.now c.in-Some.place _ c.self.invariant (sym c.in-Some.ensures) c.remove.ensures

pub returns-in-Some : goal.returns-in-Some
returns-in-Some c =
    listed-left _ _ c.args.name.now c.in-Some.place _ c.self.invariant (sym c.in-Some.ensures) ∙ ap (without same_name c.args.name.now) c.self.view_is

pub returns-in_default : goal.returns-in_default
returns-in_default c =
    sym c.self.view_is ∙ (listed-absent _ _ c.args.name.now _ c.self.invariant (sym c.in_default.ensures) ∙ ap (without same_name c.args.name.now) c.self.view_is)
