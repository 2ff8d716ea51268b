-- WHAT IS FOUND of a source whose lines were all tried.
use Rattle.std.proofs.Common.{◌≡◌, ℕ, List, ◌++◌, length, Option, Some, None, ap, ◌∙◌, subst, append-nil}
use Rattle.std.specs.Io.KnownBytes.{Consumes, IsAtEnd}
use Rattle.cc_names.specs.Allowance.{Allowance}
use Rattle.cc_model.specs.Lines.{lines_of}
use Rattle.cc_verdict.specs.Verdicts.{IsLawfulTranscript}
use Rattle.cc_check.specs.declared.parting.Blame.{Blame}
use Rattle.cc_check.specs.declared.trial.Trial.{Trial}
use Rattle.cc_check.specs.Checked.{Ends, IsFoundLawful, IsFoundUnlawful}
use Rattle.cc_check.specs.Parted.{IsEarly, IsFoundEarly, IsFoundParted, PartsFor}
use Rattle.cc_check.specs.Tried.{AreAllTried, IsTried}

-- Bytes that are known

-- all of them were given at the end
pub given-all : (left now : Option (List ℕ)) (given bytes : List ℕ) → Consumes left now given → IsAtEnd now → left ≡ Some bytes → bytes ≡ given
given-all left now given bytes consumed end is = go now (subst (λ (o : Option (List ℕ)). Consumes o now given) is consumed) end
  where
    go : (o : Option (List ℕ)) → Consumes (Some bytes) o given → IsAtEnd o → bytes ≡ given
    go None c e = absurd c
    go (Some ys) c e = c ∙ (ap (λ (zs : List ℕ). given ++ zs) e ∙ append-nil given)

-- What is read off the trial

module _ (limits : Allowance) (script : List ℕ) (e : Ends) (t : Trial) (taken : ℕ) (all : AreAllTried limits script e t taken) where
  pub found-lawful : ((text : List ℕ) → length text ≡ taken → IsTried limits script t (lines_of text) → IsLawfulTranscript limits script text) → IsFoundLawful limits script e
  found-lawful decides = record { given = all.given; whole = all.whole; lawful = decides all.given all.counted all.tried }

  pub found-unlawful : ((text : List ℕ) → length text ≡ taken → IsTried limits script t (lines_of text) → ¬ (IsLawfulTranscript limits script text)) →
      IsFoundUnlawful limits script e
  found-unlawful decides = record { given = all.given; whole = all.whole; unlawful = decides all.given all.counted all.tried }

  pub found-parted : (b : Blame) → ((lines : List (List ℕ)) → IsTried limits script t lines → PartsFor limits script lines b) → IsFoundParted limits script e b
  found-parted b parts = record { given = all.given; whole = all.whole; parts = parts (lines_of all.given) all.tried }

  pub found-early : ((text : List ℕ) → length text ≡ taken → IsTried limits script t (lines_of text) → IsEarly limits script text) → IsFoundEarly limits script e
  found-early early = record { given = all.given; whole = all.whole; early = early all.given all.counted all.tried }
