use Rattle.std.proofs.Common.{◌≡◌, ◌∙◌, ℕ, sym, subst}
use Rattle.cc_names.specs.Allowance.{Allowance}
use Rattle.cc_replay.specs.declared.status.Status.TheVariants.{Done, Unlawful}
use Rattle.cc_replay.specs.declared.words.Request.TheVariants.{Check}
use Rattle.cc_replay.specs.Verdicts.{IsLawfulInput}
use Rattle.cc_replay.proofs.program.run.Goals as goal

-- what holds of the one check that the words ask for
of_one_check : (P : ℕ → Allowance → Type 0) (script n : ℕ) (limits l : Allowance) → Check script limits ≡ Check n l → P n l → P script limits
of_one_check P script n limits l e p =
    let same : script ≡ n = cc in
    let alike : limits ≡ l = cc in
    subst (λ (x : ℕ). P x limits) (sym same) (subst (P n) (sym alike) p)

pub returns-in-Check-clause-decides : goal.returns-in-Check-clause-decides
returns-in-Check-clause-decides g c = λ bytes script limits known given.
    of_one_check (λ n l. (c.check_input.result ≡ Done → IsLawfulInput l n bytes) × (c.check_input.result ≡ Unlawful → ¬ (IsLawfulInput l n bytes))) script c.in-Check.script limits c.in-Check.limits
    (c.in-Ok.ensures.only (Check script limits) given ∙ c.in-Check.is) (c.check_input.ensures.decides bytes known)
