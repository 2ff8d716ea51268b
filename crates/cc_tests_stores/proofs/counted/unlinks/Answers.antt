use Rattle.std.proofs.Common.{[], ◌∷◌, subst, sym, ap}
use Rattle.cc_counted.specs.Counts.{number_or_none}
use Rattle.cc_counted.specs.Owning.{CallersOwn}
use Rattle.cc_tests_stores.proofs.counted.unlinks.Goals as goal

pub unlink-requires-clause-owned : goal.unlink-requires-clause-owned
unlink-requires-clause-owned c =
    let e = c.in-Ok.ensures in
    subst (λ k. CallersOwn (k ∷ []) c.create.new.self) (sym (ap number_or_none e.key)) ([], e.owned [] c.requires.first)
