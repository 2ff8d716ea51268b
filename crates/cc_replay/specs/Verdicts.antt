-- WHAT IS WRITTEN FOR A TRANSCRIPT THAT IS CHECKED: the verdict on it, as a line.
use Rattle.std.specs.Prelude.{◌≡◌, ℕ, ◌+◌, ◌<◌, ◌≤◌, List, [], ◌∷◌, ◌++◌, codes, drop, length, take, Option}
use Rattle.std.specs.Io.KnownBytes.{Appends, Consumes, IsAtEnd}
use Rattle.cc_names.specs.Allowance.{Allowance}
use Rattle.cc_model.specs.Telling.{AppendsFront}
use Rattle.cc_outside.specs.Reads.{Reads}
use Rattle.cc_reader.specs.HasRead.{ReadsBytes, ReadsToEnd}
use Rattle.cc_verdict.specs.Verdicts.{IsLawfulTranscript}
use Rattle.cc_check.specs.declared.verdict.Verdict.{Verdict}
use Rattle.cc_check.specs.declared.verdict.Verdict.TheVariants.{Lawful, Unlawful}
use Rattle.cc_replay.specs.Transcripts.{Ends}

-- the verdict on a transcript of a script
abbrev pub IsVerdict : Verdict → Allowance → List ℕ → List ℕ → Type 0
IsVerdict Lawful limits script text = IsLawfulTranscript limits script text
IsVerdict Unlawful limits script text = ¬ (IsLawfulTranscript limits script text)

-- THE VERDICT ON AN INPUT: its first so many bytes are a script, or all if there are fewer, and the rest is a transcript of it
abbrev pub IsVerdictOn : Verdict → Allowance → ℕ → List ℕ → Type 0
IsVerdictOn verdict limits script input = IsVerdict verdict limits (take script input) (drop script input)

-- an input is a script with a lawful transcript of it
abbrev pub IsLawfulInput : Allowance → ℕ → List ℕ → Type 0
IsLawfulInput limits script input = IsVerdictOn Lawful limits script input

-- the line that is written for a verdict
abbrev pub line_of_verdict : Verdict → List ℕ
line_of_verdict Lawful = codes "lawful" ++ 10 ∷ []
line_of_verdict Unlawful = codes "unlawful" ++ 10 ∷ []

-- a script of `most` bytes was read, or of all bytes if there were fewer, within the limit: of fewer one read said the end, and
-- each other that was answered gave a byte
pub record ReadsScript (most limit : ℕ) (left left_now : Option (List ℕ)) (counts counts_now : Reads) (script : List ℕ) : Type 0 where
  pub consumed : Consumes left left_now script
  pub most_bytes : length script ≤ most
  pub within : length script ≤ limit
  pub whole : length script ≡ most → ReadsBytes counts counts_now (length script)
  pub fewer : length script < most → IsAtEnd left_now × ReadsToEnd counts counts_now (length script)

-- all was read to the end, within the limit, and this is the verdict on it; one read said the end, and each other that was
-- answered gave a byte
pub record IsJudged (limits : Allowance) (script : ℕ) (left left_now : Option (List ℕ)) (counts counts_now : Reads) (verdict : Verdict) : Type 0 where
  pub given : List ℕ
  pub consumed : Consumes left left_now given
  pub at_end : IsAtEnd left_now
  pub within : length given ≤ limits.bytes
  pub reads : ReadsToEnd counts counts_now (length given)
  pub verdict_is : IsVerdictOn verdict limits script given

-- one byte more than the limit was taken; each read that was answered gave a byte
pub record PassesLimit (limit : ℕ) (left left_now : Option (List ℕ)) (counts counts_now : Reads) : Type 0 where
  pub given : List ℕ
  pub consumed : Consumes left left_now given
  pub above : length given ≡ limit + 1
  pub reads : ReadsBytes counts counts_now (length given)

-- all was read to the end, and the verdict was written
pub record WritesVerdict (limits : Allowance) (script : ℕ) (verdict : Verdict) (e : Ends) : Type 0 where
  pub judged : IsJudged limits script e.left e.left_now e.reads e.reads_now verdict
  pub written : Appends e.written e.written_now (line_of_verdict verdict)

abbrev pub WritesLawful : Allowance → ℕ → Ends → Type 0
WritesLawful limits script e = WritesVerdict limits script Lawful e

abbrev pub WritesUnlawful : Allowance → ℕ → Ends → Type 0
WritesUnlawful limits script e = WritesVerdict limits script Unlawful e

-- all was read to the end, and a write failed: a front of the verdict's line was written
pub record WritesVerdictFront (limits : Allowance) (script : ℕ) (e : Ends) : Type 0 where
  pub verdict : Verdict
  pub judged : IsJudged limits script e.left e.left_now e.reads e.reads_now verdict
  pub written : AppendsFront e.written e.written_now (line_of_verdict verdict)
