-- WHAT ASKS NOTHING IS PASSED OVER; and a judge between two answers stands at its place.
use Rattle.std.proofs.Common.{◌≡◌, ℕ, Bool, true, false, List, [], ◌∷◌, None, reverse, refl, sym, ◌∙◌, ap, subst}
use Rattle.std.specs.Prelude.{◌↔◌}
use Rattle.std.proofs.lemmas.Bool.{false≢true}
use Rattle.cc_model.specs.declared.command.Command.{Command}
use Rattle.cc_model.specs.declared.command.Command.TheVariants as command
use Rattle.cc_model.specs.declared.item.Item.{Item}
use Rattle.cc_model.specs.Asks.{Ask, long, bad, taken}
use Rattle.cc_verdict.specs.Following.{Place, Follows}
use Rattle.cc_verdict.specs.Positions.{reciting}
use Rattle.cc_check.specs.declared.judge.Judge.{Judge}
use Rattle.cc_check.specs.Judging.{asks_nothing, from_next}
use Rattle.cc_check.specs.Standing.{place_of, position_in, position_of}

-- what asks nothing is a blank line or a comment
asks_nothing-command : (c : Command) → asks_nothing (taken c) ≡ true → taken c ≡ taken command.Nothing
asks_nothing-command command.Nothing e = refl
asks_nothing-command _ e = absurd (false≢true e)

asks_nothing-is : (ask : Ask) → asks_nothing ask ≡ true → ask ≡ taken command.Nothing
asks_nothing-is long e = absurd (false≢true e)
asks_nothing-is bad e = absurd (false≢true e)
asks_nothing-is (taken c) e = asks_nothing-command c e

-- the law by which they are passed over
abbrev pub PassesOver : Type 0
PassesOver = (p : Place) (asks : List Ask) (lines : List (List ℕ)) → Follows p (taken command.Nothing ∷ asks) lines ↔ Follows p asks lines

-- THE SAME LINES MAY FOLLOW from the next ask on that has an answer.
pub Follows-from_next : PassesOver → (p : Place) (asks : List Ask) (lines : List (List ℕ)) → Follows p asks lines ↔ Follows p (from_next asks) lines
Follows-from_next law p [] lines = ((λ f. f), (λ f. f))
Follows-from_next law p (ask ∷ asks) lines = go (asks_nothing ask) refl (Follows-from_next law p asks lines)
  where
    go : (b : Bool) → asks_nothing ask ≡ b → Follows p asks lines ↔ Follows p (from_next asks) lines →
        Follows p (ask ∷ asks) lines ↔ Follows p (elim b [ true ↦ from_next asks | false ↦ ask ∷ asks ]) lines
    go false e ih = ((λ f. f), (λ f. f))
    go true e ih =
        let l = law p asks lines in
        let same : ask ≡ taken command.Nothing = asks_nothing-is ask e in (
          (λ f. ih.0 (l.0 (subst (λ (a : Ask). Follows p (a ∷ asks) lines) same f))),
          (λ f. subst (λ (a : Ask). Follows p (a ∷ asks) lines) (sym same) (l.1 (ih.1 f))),
        )

-- a judge between two answers recites nothing
pub stands : (j : Judge) → j.answer ≡ None → j.recital.items ≡ [] → position_of j ≡ reciting [] (place_of j)
stands j answer recital = ap (position_in j) answer ∙ ap (λ (is : List Item). reciting (reverse is) (place_of j)) recital
