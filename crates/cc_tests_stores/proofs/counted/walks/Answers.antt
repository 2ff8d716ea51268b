use Rattle.std.proofs.Common.{[], ◌∷◌, ◌∙◌, None, slice_index_or, subst, sym, ap}
use Rattle.cc_counted.specs.Counts.{Counts, number_or_none}
use Rattle.cc_counted.specs.Owning.{CallersOwn}
use Rattle.cc_tests_stores.proofs.counted.walks.Goals as goal

pub release-requires-clause-owned : goal.release-requires-clause-owned
release-requires-clause-owned c =
    let kept = c.in-Ok.ensures in
    let made = c.in-Ok-create.ensures in
    let both = made.owned (1 ∷ []) (kept.owned [] c.requires.first) in
    let owned = c.walk_add-2.ensures.owned (2 ∷ 1 ∷ []) (c.walk_add.ensures.owned (2 ∷ 1 ∷ []) both) in
    let keys = ap (λ (s : Counts). s.keys) c.walk_add-2.ensures.walks ∙ ap (λ (s : Counts). s.keys) c.walk_add.ensures.walks in
    let there = ap (λ ks. slice_index_or ks c.in-Ok-create.released.0 None) keys ∙ made.key in
    subst (λ k. CallersOwn (k ∷ []) c.walk_add-2.new.self) (sym (ap number_or_none there)) (1 ∷ [], owned)
