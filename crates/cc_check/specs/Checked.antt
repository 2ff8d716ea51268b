-- WHAT A CHECK COMES TO, told of the bytes that were read.
use Rattle.std.specs.Prelude.{◌≡◌, ℕ, ◌+◌, ◌≤◌, List, length, Option}
use Rattle.std.specs.Io.KnownBytes.{Consumes, IsAtEnd}
use Rattle.cc_names.specs.Allowance.{Allowance}
use Rattle.cc_outside.specs.Reads.{Reads}
use Rattle.cc_reader.specs.HasRead.{ReadsBytes, ReadsToEnd}
use Rattle.cc_verdict.specs.Verdicts.{IsLawfulTranscript}

-- what a source had left and has left now, and how often it was read
pub record Ends : Type 0 where
  pub left : Option (List ℕ)
  pub left_now : Option (List ℕ)
  pub reads : Reads
  pub reads_now : Reads

abbrev pub ends : {S : Type 0} → (S → Option (List ℕ)) → (S → Reads) → S → S → Ends
ends left reads source source_now = record { left = left source; left_now = left source_now; reads = reads source; reads_now = reads source_now }

-- the source was read to its end: these bytes, which with the script are within the limit; one read said the end, and each other that was
-- answered gave a byte
pub record ReadsWhole (bytes : ℕ) (script : List ℕ) (e : Ends) (given : List ℕ) : Type 0 where
  pub consumed : Consumes e.left e.left_now given
  pub at_end : IsAtEnd e.left_now
  pub within : length script + length given ≤ bytes
  pub reads : ReadsToEnd e.reads e.reads_now (length given)

-- the bytes to the end of the source are a lawful transcript of the script
pub record IsFoundLawful (limits : Allowance) (script : List ℕ) (e : Ends) : Type 0 where
  pub given : List ℕ
  pub whole : ReadsWhole limits.bytes script e given
  pub lawful : IsLawfulTranscript limits script given

-- they are none
pub record IsFoundUnlawful (limits : Allowance) (script : List ℕ) (e : Ends) : Type 0 where
  pub given : List ℕ
  pub whole : ReadsWhole limits.bytes script e given
  pub unlawful : ¬ (IsLawfulTranscript limits script given)

-- one byte more than the limit was taken, script and source together; each read that was answered gave a byte
pub record IsOverLimit (limits : Allowance) (script : List ℕ) (e : Ends) : Type 0 where
  pub given : List ℕ
  pub consumed : Consumes e.left e.left_now given
  pub above : length script + length given ≡ limits.bytes + 1
  pub reads : ReadsBytes e.reads e.reads_now (length given)
