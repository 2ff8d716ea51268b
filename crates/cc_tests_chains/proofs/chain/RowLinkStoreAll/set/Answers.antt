use Rattle.cc_chain.proofs.Stores.{slice_get-set, slice_get-live}
use Rattle.cc_tests_chains.proofs.chain.RowLinkStoreAll.set.Goals as goal

pub returns-clause-links : goal.returns-clause-links
returns-clause-links c = slice_get-set _ _ _ (slice_get-live _ _ c.requires)
