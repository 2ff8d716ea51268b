-- THE VERDICT on a script and a transcript that were read one behind the other.
use Rattle.std.proofs.Common.{◌≡◌, ℕ, ◌+◌, ◌≤◌, List, ◌++◌, length, take, drop, Option, Result, Ok, Err, refl, sym, subst, ◌∙◌, length-append, arith}
use Rattle.std.specs.Prelude.{IfOk}
use Rattle.std.proofs.Math.Seq.{drop-append_seam, take-append_seam}
use Rattle.cc_lists.proofs.KnownBytes.{Consumes-trans}
use Rattle.cc_names.specs.Allowance.{Allowance}
use Rattle.cc_outside.specs.Reads.{Reads}
use Rattle.cc_reader.specs.HasRead.{ReadsBytes, ReadsToEnd}
use Rattle.cc_check.specs.declared.verdict.Verdict.{Verdict}
use Rattle.cc_check.specs.declared.verdict.Verdict.TheVariants.{Lawful, Unlawful}
use Rattle.cc_check.specs.declared.verdict.CheckStop.{CheckStop}
use Rattle.cc_check.specs.Checked
use Rattle.cc_check.specs.Checked.{IsFoundLawful, IsFoundUnlawful, IsOverLimit, ReadsWhole}
use Rattle.cc_replay.specs.Verdicts.{IsJudged, IsVerdict, IsVerdictOn, PassesLimit, ReadsScript}

-- reads in a row
ReadsBytes-trans : (a b c : Reads) (n m : ℕ) → ReadsBytes a b n → ReadsBytes b c m → ReadsBytes a c (n + m)
ReadsBytes-trans a b c n m r s = grind arith

ReadsToEnd-trans : (a b c : Reads) (n m : ℕ) → ReadsBytes a b n → ReadsToEnd b c m → ReadsToEnd a c (n + m)
ReadsToEnd-trans a b c n m r s = grind arith

-- the same script and the same limit
pub ReadsScript-same : (most limit bytes : ℕ) (left now : Option (List ℕ)) (counts counts_now : Reads) (script given : List ℕ) → limit ≡ bytes → given ≡ script →
    ReadsScript most limit left now counts counts_now script → ReadsScript most bytes left now counts counts_now given
ReadsScript-same most limit bytes left now counts counts_now script given e f r =
    subst (λ (n : ℕ). ReadsScript most n left now counts counts_now given) e (subst (λ (s : List ℕ). ReadsScript most limit left now counts counts_now s) (sym f) r)

-- a script that was read whole, and what was read behind it
module _ (limits : Allowance) (most : ℕ) (left mid now : Option (List ℕ)) (counts counts_mid counts_now : Reads) (script : List ℕ)
    (r : ReadsScript most limits.bytes left mid counts counts_mid script) (whole : most ≤ length script) where
  abbrev behind : Checked.Ends
  behind = record { left = mid; left_now = now; reads = counts_mid; reads_now = counts_now }

  full : length script ≡ most
  full = omega (arith, r.most_bytes)

  split : (v : Verdict) (rest : List ℕ) → IsVerdict v limits script rest → IsVerdictOn v limits most (script ++ rest)
  split v rest is = subst (λ (n : ℕ). IsVerdict v limits (take n (script ++ rest)) (drop n (script ++ rest))) full
      (subst (λ (s : List ℕ). IsVerdict v limits s (drop (length script) (script ++ rest))) (sym (take-append_seam script rest))
      (subst (λ (t : List ℕ). IsVerdict v limits script t) (sym (drop-append_seam script rest)) is))

  judged : (v : Verdict) (rest : List ℕ) → ReadsWhole limits.bytes script behind rest → IsVerdict v limits script rest → IsJudged limits most left now counts counts_now v
  judged v rest w is = record {
    given = script ++ rest;
    consumed = Consumes-trans left mid now script rest r.consumed w.consumed;
    at_end = w.at_end;
    within = omega (arith, w.within, length-append script rest);
    reads = subst (ReadsToEnd counts counts_now) (sym (length-append script rest)) (ReadsToEnd-trans counts counts_mid counts_now (length script) (length rest) (r.whole full) w.reads);
    verdict_is = split v rest is;
  }

  pub judged-behind : (found : Result Verdict CheckStop) → (found ≡ Ok Lawful → IsFoundLawful limits script behind) → (found ≡ Ok Unlawful → IsFoundUnlawful limits script behind) →
      IfOk found (λ v. IsJudged limits most left now counts counts_now v)
  judged-behind (Ok Lawful) lawful unlawful = let f = lawful refl in judged Lawful f.given f.whole f.lawful
  judged-behind (Ok Unlawful) lawful unlawful = let f = unlawful refl in judged Unlawful f.given f.whole f.unlawful
  judged-behind (Err stop) lawful unlawful = tt

  pub passed-behind : IsOverLimit limits script behind → PassesLimit limits.bytes left now counts counts_now
  passed-behind o = record {
    given = script ++ o.given;
    consumed = Consumes-trans left mid now script o.given r.consumed o.consumed;
    above = length-append script o.given ∙ o.above;
    reads = subst (ReadsBytes counts counts_now) (sym (length-append script o.given)) (ReadsBytes-trans counts counts_mid counts_now (length script) (length o.given) (r.whole full) o.reads);
  }
