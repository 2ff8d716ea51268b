use Rattle.std.proofs.Common.{[], subst, sym, refl}
use Rattle.cc_chain.specs.Links.{HasNone}
use Rattle.cc_chain.specs.Stores.{part_at}
use Rattle.cc_chain.proofs.Stores.{HasNone-part_at}
use Rattle.cc_tests_chains.specs.declared.purple.Cell.{Cell}
use Rattle.cc_tests_chains.proofs.purple.Kept.new.Goals as goal

pub returns : goal.returns
returns c = ([], c.new.ensures _ _ (subst (λ cells. HasNone (part_at (λ (cell : Cell). cell.link) cells)) (sym c.in_ok-free.ensures) (HasNone-part_at _ _ _ refl)))
