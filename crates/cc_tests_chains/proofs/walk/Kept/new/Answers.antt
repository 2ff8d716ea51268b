use Rattle.std.proofs.Common.{subst, sym}
use Rattle.std.specs.Prelude.{slice_get}
use Rattle.cc_chain.specs.Links.{HasNone}
use Rattle.cc_chain.proofs.Stores.{HasNone-replicate}
use Rattle.cc_walk.specs.Walks.{no_walk}
use Rattle.cc_tests_chains.proofs.walk.Kept.new.Goals as goal

pub returns : goal.returns
returns c = (no_walk, c.new.ensures _ (subst (λ links. HasNone (slice_get links)) (sym c.in_ok-free.ensures) (HasNone-replicate _)))
