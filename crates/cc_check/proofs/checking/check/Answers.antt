use Rattle.std.proofs.Common.{◌≡◌, ℕ, List, length, sym, ap, subst, arith}
use Rattle.cc_verdict.specs.Verdicts.{IsLawfulTranscript}
use Rattle.cc_check.specs.declared.verdict.Verdict.TheVariants.{Lawful, Unlawful}
use Rattle.cc_check.proofs.Read.{found-lawful, found-unlawful, given-all}
use Rattle.cc_check.proofs.checking.check.Goals as goal

pub returns-clause-lawful : goal.returns-clause-lawful
returns-clause-lawful g c = λ is.
    let found : c.verdict.result ≡ Lawful = cc in
    found-lawful c.args.limits c.args.script.now _ c.in_ok-tried.tried.0 c.in_ok-tried.tried.1 c.in_ok-tried.ensures.tried
    (λ text count tried. c.verdict.ensures.lawful found c.args.limits c.args.script.now text count tried)

pub returns-clause-unlawful : goal.returns-clause-unlawful
returns-clause-unlawful g c = λ is.
    let found : c.verdict.result ≡ Unlawful = cc in
    found-unlawful c.args.limits c.args.script.now _ c.in_ok-tried.tried.0 c.in_ok-tried.tried.1 c.in_ok-tried.ensures.tried
    (λ text count tried. c.verdict.ensures.unlawful found c.args.limits c.args.script.now text count tried)

pub returns-clause-decides : goal.returns-clause-decides
returns-clause-decides g c = λ bytes known.
    let all = c.in_ok-tried.ensures.tried in
    let same = given-all _ _ all.given bytes all.whole.consumed all.whole.at_end known in (
      (λ is. let found : c.verdict.result ≡ Lawful = cc in
          subst (IsLawfulTranscript c.args.limits c.args.script.now) (sym same) (c.verdict.ensures.lawful found c.args.limits c.args.script.now all.given all.counted all.tried)),
      (λ is lawful. let found : c.verdict.result ≡ Unlawful = cc in
          c.verdict.ensures.unlawful found c.args.limits c.args.script.now all.given all.counted all.tried (subst (IsLawfulTranscript c.args.limits c.args.script.now) same lawful)),
    )

pub returns-clause-over_always : goal.returns-clause-over_always
returns-clause-over_always g c = λ bytes known above still room.
    let all = c.in_ok-tried.ensures.tried in
    absurd (omega (arith, all.whole.within, ap (λ (bs : List ℕ). length bs) (given-all _ _ all.given bytes all.whole.consumed all.whole.at_end known)))
