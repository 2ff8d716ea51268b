-- STEPS ARE TOLD one after another: those before a place are told.
use Rattle.std.specs.Prelude.{slice_get}
use Rattle.std.proofs.Common.{◌≡◌, ℕ, ◌+◌, ◌<◌, List, [], ◌∷◌, ◌++◌, map, length, take, Some, sym, ◌∙◌, ap, subst}
use Rattle.std.proofs.lemmas.List.{map_push, take_more}
use Rattle.std.proofs.lemmas.Option.{get_or_from_slice_get}
use Rattle.cc_model.specs.Answers.{Step, item_of_step}
use Rattle.cc_model.specs.Telling.{Telling, Tells}
use Rattle.cc_model.proofs.Tellings.{Tells-trans}

pub told-turn : (path : List Step) (i : ℕ) (s : Step) (old mid new : Telling) → slice_get path i ≡ Some s → i < length path → Tells old mid (map item_of_step (take i path)) →
    Tells mid new (item_of_step s ∷ []) → Tells old new (map item_of_step (take (i + 1) path))
told-turn path i s old mid new at l before told =
    let more : take (i + 1) path ≡ take i path ++ s ∷ [] = take_more path i s l ∙ ap (λ t. take i path ++ t ∷ []) (get_or_from_slice_get path i s s at) in
    subst (Tells old new) (sym (ap (map item_of_step) more ∙ map_push item_of_step (take i path) s))
    (Tells-trans old mid new (map item_of_step (take i path)) (item_of_step s ∷ []) before told)
