-- How a made script ends: the last four answers.
use Rattle.std.specs.Prelude.{◌≡◌, ℕ, ◌+◌, List, [], ◌∷◌, drop, Some}
use Rattle.cc_model.specs.declared.item.Reply.TheVariants.{Done}
use Rattle.cc_model.specs.Answers.{Answer}
use Rattle.cc_model.specs.Lawful.{census_of}

-- where the tail's `collect` is answered `= ok`, its census is that of nothing
abbrev pub LeavesNothing : ℕ → List Answer → Type 0
LeavesNothing count answers = (swept collected swept_again census : Answer) →
    drop (count + 16) answers ≡ swept ∷ collected ∷ swept_again ∷ census ∷ [] → collected.reply ≡ Some Done → census ≡ census_of []
