use Rattle.std.proofs.Common.{◌≡◌, ℕ, List, ◌∷◌, ◌+◌, true, Option, Ok, refl, ap, ◌∙◌, subst, arith}
use Rattle.std.specs.Prelude.{IfSome}
use Rattle.cc_verdict.specs.Positions.{GoesOn}
use Rattle.cc_check.specs.declared.cause.Cause.{Cause}
use Rattle.cc_check.specs.Causes.{IsPart}
use Rattle.cc_check.specs.Standing.{IsHeard, asks_left, position_of}
use Rattle.cc_check.proofs.Trials.{tries-after, tries-lawful, tries-parted}
use Rattle.cc_check.proofs.trial.Trial.hear.Goals as goal

pub returns-then-not-self-clause-tried : goal.returns-then-not-self-clause-tried
returns-then-not-self-clause-tried c = tries-after c.args.self.now c.args.heard (grind arith)

pub returns-in-Some-clause-tried : goal.returns-in-Some-clause-tried
returns-in-Some-clause-tried c =
    let p = position_of c.args.self.now.judge in
    let asks = asks_left c.args.self.now.script in
    tries-parted c.args.self.now _ c.args.heard c.in-Some.cause (grind arith) refl refl refl c.in_ok-cause.ensures.along
    (subst (λ (o : Option Cause). IfSome o (IsPart p asks c.args.heard (asks_left c.hear.new.script))) c.in-Some.is c.in_ok-cause.ensures.cause)
    (subst (λ (o : Option Cause). IfSome o (λ k. (line : List ℕ) (rest : List (List ℕ)) → IsHeard c.args.heard line → ¬ (GoesOn p asks (line ∷ rest)))) c.in-Some.is c.in_ok-cause.ensures.no)
    c.transcripts_part_line_by_line.ensures.parted

pub returns-clause-tried : goal.returns-clause-tried
returns-clause-tried c =
    let yes = c.in_ok-cause.was ∙ ap Ok c.in_default.is in
    let was : c.args.self.now.is_lawful ≡ true = grind arith in
    tries-lawful c.args.self.now _ c.args.heard was was (ap (λ n. c.args.self.now.bytes + n) c.bytes.ensures) refl refl c.in_ok-cause.ensures.along
    (c.hear.ensures.yes yes) (c.hear.ensures.reads yes) (c.hear.ensures.goes_on yes) c.transcripts_part_line_by_line.ensures.so_far
