-- WHERE NO LINE COMES: a transcript ends only where nothing is left of an answer, and nothing is asked any more.
use Rattle.std.proofs.Common.{arith, ◌≡◌, ℕ, ◌<◌, false, List, [], ◌∷◌, length, Option, Some, None, reverse, refl, ap, subst}
use Rattle.std.specs.Prelude.{◌↔◌, IsTrue}
use Rattle.std.proofs.lemmas.Bool.{true≢false}
use Rattle.std.proofs.lemmas.List.{length-reverse}
use Rattle.cc_names.specs.declared.name.Name.{Name}
use Rattle.cc_model.specs.declared.command.Command.{Command}
use Rattle.cc_model.specs.declared.command.Command.TheVariants as command
use Rattle.cc_model.specs.declared.item.Item.{Item}
use Rattle.cc_model.specs.declared.item.Item.TheVariants.{Listed, Reply as of_reply}
use Rattle.cc_model.specs.declared.item.Refusal.TheVariants as refusals
use Rattle.cc_model.specs.declared.item.Reply.{Reply}
use Rattle.cc_model.specs.declared.item.Reply.TheVariants as replies
use Rattle.cc_model.specs.Answers.{items_of, listing, replying}
use Rattle.cc_model.specs.Asks.{Ask, long, bad, taken}
use Rattle.cc_model.specs.Lawful.{census_of}
use Rattle.cc_model.specs.Listed.{census_order}
use Rattle.cc_model.specs.Quiet.{CensusIsQuiet}
use Rattle.cc_verdict.specs.Following.{Place, Follows, Recites, place_after}
use Rattle.cc_verdict.specs.Hearing.{Hearing, Hears, is_heard}
use Rattle.cc_verdict.specs.Positions.{Position, GoesOn}
use Rattle.cc_check.specs.declared.answer.Answer.{Answer}
use Rattle.cc_check.specs.declared.judge.Judge.{Judge}
use Rattle.cc_check.specs.Judging.{asks_nothing}
use Rattle.cc_check.specs.Standing.{hearing_in, place_of, position_in, position_of}

abbrev refusing : Reply → Place → Ask → List Ask → List (List ℕ) → Type 0
refusing r p ask asks lines = Follows p (ask ∷ asks) lines ↔ Recites (items_of (replying [] r)) (place_after p ask (replying [] r)) asks lines

-- the laws of ends
pub record LawsOfEnds : Type 0 where
  pub recited : (i : Item) (items : List Item) (p : Place) (asks : List Ask) → ¬ (Recites (i ∷ items) p asks [])
  pub heard : (h : Hearing) (asks : List Ask) → ¬ (Hears asks h [])
  pub long : (p : Place) (asks : List Ask) (lines : List (List ℕ)) → refusing (replies.Refused refusals.Long) p long asks lines
  pub bad : (p : Place) (asks : List Ask) (lines : List (List ℕ)) → refusing (replies.Refused refusals.Line) p bad asks lines
  pub census : (p : Place) (asks : List Ask) (lines : List (List ℕ)) → CensusIsQuiet p.row p.state (taken command.Census) →
      Follows p (taken command.Census ∷ asks) lines
      ↔ Recites (items_of (census_of p.state.listed)) (place_after p (taken command.Census) (census_of p.state.listed)) asks lines
  pub unquiet : (p : Place) (asks : List Ask) (lines : List (List ℕ)) → ¬ (CensusIsQuiet p.row p.state (taken command.Census)) →
      ¬ (Follows p (taken command.Census ∷ asks) lines)
  pub reasons : (p : Place) (x : Name) (asks : List Ask) → ¬ (Follows p (taken (command.Why x) ∷ asks) [])
  pub others : (p : Place) (c : Command) (asks : List Ask) → IsTrue (is_heard c) → ¬ (Follows p (taken c ∷ asks) [])

module _ (laws : LawsOfEnds) where
  -- Something is left of the answer

  recited-end : (items : List Item) (p : Place) (asks : List Ask) → 0 < length items → ¬ (Recites items p asks [])
  recited-end [] p asks some r = absurd (omega arith)
  recited-end (i ∷ items) p asks some r = laws.recited i items p asks r

  -- an answer that is heard has no end yet,
  pub heard-end : (j : Judge) (a : Answer) (asks : List Ask) → j.answer ≡ Some a → ¬ (GoesOn (position_of j) asks [])
  heard-end j a asks e g = laws.heard (hearing_in j a) asks (subst (λ (q : Position). GoesOn q asks []) (ap (position_in j) e) g)

  -- nor has one of which items are left
  pub left-end : (j : Judge) (asks : List Ask) → 0 < length j.recital.items → ¬ (GoesOn (position_of j) asks [])
  left-end j asks some g = go j.answer refl
    where
      go : (o : Option Answer) → j.answer ≡ o → ⊥
      go (Some a) e = heard-end j a asks e g
      go None e = recited-end (reverse j.recital.items) (place_of j) asks (omega (arith, length-reverse j.recital.items))
          (subst (λ (q : Position). GoesOn q asks []) (ap (position_in j) e) g)

  -- Something is asked

  listed-end : (names : List Name) (r : Reply) (p : Place) (asks : List Ask) → ¬ (Recites (items_of (listing names r)) p asks [])
  listed-end [] r p asks t = laws.recited (of_reply r) [] p asks t
  listed-end (x ∷ xs) r p asks t = laws.recited (Listed x) _ p asks t

  census-end : (p : Place) (asks : List Ask) → ¬ (Follows p (taken command.Census ∷ asks) [])
  census-end p asks f = laws.unquiet p asks [] (λ q. listed-end (census_order p.state.listed) (replies.Census (length p.state.listed))
      (place_after p (taken command.Census) (census_of p.state.listed)) asks ((laws.census p asks [] q).0 f)) f

  taken-end : (p : Place) (c : Command) (asks : List Ask) → asks_nothing (taken c) ≡ false → ¬ (Follows p (taken c ∷ asks) [])
  taken-end p command.Nothing asks e f = true≢false e
  taken-end p command.Census asks e f = census-end p asks f
  taken-end p (command.Why x) asks e f = laws.reasons p x asks f
  taken-end p c asks e f = laws.others p c asks refl f

  -- what has an answer has a line
  pub asked-end : (p : Place) (ask : Ask) (asks : List Ask) → asks_nothing ask ≡ false → ¬ (Follows p (ask ∷ asks) [])
  asked-end p long asks e f = laws.recited _ [] _ asks ((laws.long p asks []).0 f)
  asked-end p bad asks e f = laws.recited _ [] _ asks ((laws.bad p asks []).0 f)
  asked-end p (taken c) asks e f = taken-end p c asks e f
