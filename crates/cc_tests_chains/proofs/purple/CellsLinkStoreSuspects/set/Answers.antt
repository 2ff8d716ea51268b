use Rattle.std.proofs.Common.{◌≡◌, refl}
use Rattle.std.proofs.lemmas.Option.{slice_get_read}
use Rattle.cc_chain.proofs.Stores.{part_at-set, part_at-kept, part_at-live}
use Rattle.cc_tests_chains.proofs.purple.CellsLinkStoreSuspects.set.Goals as goal

both : {A B : Type 0} (a c : A) (b d : B) → a ≡ c → b ≡ d → ◌≡◌ {A = A × B} (a, b) (c, d)
both a c b d e f = rw (e, f) refl

pub returns-clause-links : goal.returns-clause-links
returns-clause-links c = part_at-set (λ c. c.link) _ _ _ (part_at-live (λ c. c.link) c.args.self.now.cells.items _ c.requires)

pub returns-clause-rest : goal.returns-clause-rest
returns-clause-rest c =
    let cells = c.args.self.now.cells.items in
    let read = slice_get_read cells _ c.args.key c.index_mut.result.now refl (part_at-live (λ c. c.link) cells _ c.requires) c.index_mut.ensures.value in
    both _ _ _ _ (part_at-kept (λ c. c.purple) cells c.args.key _ _ read refl) (part_at-kept (λ c. c.count) cells c.args.key _ _ read refl)
