use Rattle.std.proofs.Common.{◌≡◌, ◌↔◌, ◌++◌, [], Bool, true, false, IsTrue, refl, sym, ◌∙◌, subst, append-nil}
use Rattle.cc_model.specs.Asks.{asks_of}
use Rattle.cc_model.specs.Lines.{lines_of}
use Rattle.cc_check.specs.Tried.{AnswersScript}
use Rattle.cc_check.proofs.trial.Trial.verdict.Goals as goal
use Rattle.cc_check.proofs.trial.Trial.verdict.Goals.{else-self-via-then-self+then-self-taken+else-may_end, else-self-via-then-self+else-self-taken, else-self-via-else-self}

-- what a test denies does not hold
end-not : (b : Bool) {P : Type 0} → IsTrue b ↔ P → b ≡ false → P → ⊥
end-not b decides denied p = let told : b ≡ true = decides.1 p in cc

pub returns-else-self-clause-unlawful : goal.returns-else-self-clause-unlawful
returns-else-self-clause-unlawful c = λ same limits script text count tried is.
    let l = (c.transcripts_are_lines.ensures.lawful limits (asks_of script) text).0 is in
    let answers : AnswersScript limits script (lines_of text ++ []) =
    subst (AnswersScript limits script) (sym (append-nil (lines_of text))) (record { rest = lines_of text; lines_are = refl; follows = l.1 }) in
    elim c.else-self.branch [
      | else-self-via-then-self+then-self-taken+else-may_end w ↦ end-not w.may_end.result w.may_end.ensures w.if-may_end.false ((tried.lawful w.if-self.true []).0 answers)
      | else-self-via-then-self+else-self-taken w ↦ w.if-self-taken.false (tried.counted w.if-self.true [] answers ∙ (sym l.0 ∙ count))
      | else-self-via-else-self w ↦ tried.unlawful w.if-self.false [] answers
    ]
