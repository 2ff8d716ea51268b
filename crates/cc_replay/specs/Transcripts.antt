-- WHAT IS WRITTEN FOR AN INPUT: the text of a transcript that is the plain run's, lawful and quiet.
use Rattle.std.specs.Prelude.{◌≡◌, ◌≢◌, ℕ, ◌+◌, ◌≤◌, ◌⊎◌, Bool, List, [], ◌++◌, length, take, Option}
use Rattle.std.specs.Io.KnownBytes.{Appends, Consumes, IsAtEnd}
use Rattle.cc_names.specs.Allowance.{Allowance}
use Rattle.cc_model.specs.Telling.{AppendsFront}
use Rattle.cc_model.specs.declared.dialect.Dialect.TheVariants.{Start}
use Rattle.cc_model.specs.declared.sums.Sums.{Sums}
use Rattle.cc_model.specs.Summed.{sums_after}
use Rattle.cc_model.specs.Answers.{Answer, all_items_of, text_of_answers}
use Rattle.cc_model.specs.Asks.{Ask, asks_from, asks_of, ended}
use Rattle.cc_model.specs.Lines.{lines_of, ended_lines_of, rest_from}
use Rattle.cc_model.specs.Lawful.{IsLawful}
use Rattle.cc_model.specs.Quiet.{IsQuiet}
use Rattle.cc_model.specs.Run.{plain_run}
use Rattle.cc_laws_run.specs.Memory.{noes, all_noes_told}
use Rattle.cc_laws_headline.specs.Headline.{TellsOfAGraph}
use Rattle.cc_outside.specs.Reads.{Reads}
use Rattle.cc_reader.specs.HasRead.{ReadsBytes, ReadsToEnd}

-- A RUN of these asks: the plain run's answers, for some answers of memory
pub record IsRun (limits : Allowance) (asks : List Ask) (answers : List Answer) : Type 0 where
  -- memory says no once for each want of memory that is told, and never else
  pub memory : List Bool
  pub noes_are_told : noes memory ≡ all_noes_told asks answers
  pub answers_are : answers ≡ plain_run limits memory asks
  -- they tell of an object graph from which nothing is freed: each reply but `! nomem`, the census and `deref` is that graph's, nothing
  -- is unlinked or freed that a root then reaches, and after `gc`, `collect`, `gc` the census lists exactly what is reached
  pub tells : TellsOfAGraph limits asks answers
  -- the same along the asks, with the order of events and the places of abandonments
  pub lawful : IsLawful limits asks answers
  pub quiet : IsQuiet limits asks answers
  -- where no want of memory is told, these limits and asks alone decide them: memory was there at every place
  pub with_all_memory : all_noes_told asks answers ≡ 0 → answers ≡ plain_run limits [] asks

-- A TRANSCRIPT of these asks: the text of such answers
pub record IsTranscript (limits : Allowance) (asks : List Ask) (text : List ℕ) : Type 0 where
  pub answers : List Answer
  pub run : IsRun limits asks answers
  pub text_is : text ≡ text_of_answers answers

-- such answers were counted: sums, where they are told, grew by their items
pub record Counts (limits : Allowance) (asks : List Ask) (old new : Option Sums) : Type 0 where
  pub answers : List Answer
  pub run : IsRun limits asks answers
  pub summed : new ≡ sums_after (all_items_of answers) old

-- the text of a transcript of these asks was written
pub record Writes (limits : Allowance) (asks : List Ask) (old new : Option (List ℕ)) : Type 0 where
  pub text : List ℕ
  pub transcript : IsTranscript limits asks text
  pub written : Appends old new text

-- a front of one was written
pub record WritesFront (limits : Allowance) (asks : List Ask) (old new : Option (List ℕ)) : Type 0 where
  pub text : List ℕ
  pub transcript : IsTranscript limits asks text
  pub written : AppendsFront old new text

-- what was left and what is left now; how many reads were answered and are answered now; what was written and what is
-- written now
pub record Ends : Type 0 where
  pub left : Option (List ℕ)
  pub left_now : Option (List ℕ)
  pub reads : Reads
  pub reads_now : Reads
  pub written : Option (List ℕ)
  pub written_now : Option (List ℕ)

-- at the begin and at the end of a run: what a source has left, how often it was read, and what was written to a sink
abbrev pub ends : {S K : Type 0} → (S → Option (List ℕ)) → (S → Reads) → (K → Option (List ℕ)) → S → S → K → K → Ends
ends left reads written source source_now sink sink_now = record {
  left = left source;
  left_now = left source_now;
  reads = reads source;
  reads_now = reads source_now;
  written = written sink;
  written_now = written sink_now;
}

-- all was read to the end, within the limit, and all of it is answered; one read said the end, and each other that was
-- answered gave a byte
pub record IsDone (limits : Allowance) (e : Ends) : Type 0 where
  pub given : List ℕ
  pub consumed : Consumes e.left e.left_now given
  pub at_end : IsAtEnd e.left_now
  pub within : length given ≤ limits.bytes
  pub reads : ReadsToEnd e.reads e.reads_now (length given)
  pub writes : Writes limits (asks_of given) e.written e.written_now

-- a read failed after these bytes: the lines that ended are answered; each read that was answered gave a byte
pub record StopsAtFault (limits : Allowance) (e : Ends) : Type 0 where
  pub given : List ℕ
  pub consumed : Consumes e.left e.left_now given
  pub within : length given ≤ limits.bytes
  pub reads : ReadsBytes e.reads e.reads_now (length given)
  pub writes : Writes limits (ended given) e.written e.written_now

-- one byte more than the limit was taken: the lines that ended within the limit are answered; each read that was
-- answered gave a byte
pub record StopsAtLimit (limits : Allowance) (e : Ends) : Type 0 where
  pub given : List ℕ
  pub consumed : Consumes e.left e.left_now given
  pub above : length given ≡ limits.bytes + 1
  pub reads : ReadsBytes e.reads e.reads_now (length given)
  pub writes : Writes limits (ended (take limits.bytes given)) e.written e.written_now

-- these bytes were all, within the limit: one read said the end, and each other that was answered gave a byte
pub record ReadsAll (limits : Allowance) (e : Ends) (given : List ℕ) : Type 0 where
  pub at_end : IsAtEnd e.left_now
  pub within : length given ≤ limits.bytes
  pub reads : ReadsToEnd e.reads e.reads_now (length given)

-- no read said the end, and each that was answered gave a byte: these are the first of the lines that ended within the
-- limit
pub record AreFirstEnded (limits : Allowance) (e : Ends) (given : List ℕ) (lines : List (List ℕ)) : Type 0 where
  pub reads : ReadsBytes e.reads e.reads_now (length given)
  pub more : List (List ℕ)
  pub first : lines ++ more ≡ ended_lines_of (take limits.bytes given)

-- all was read to the end: these are all lines, and the last lacks its line feed
pub record AreAllUnended (limits : Allowance) (e : Ends) (given : List ℕ) (lines : List (List ℕ)) : Type 0 where
  pub all : ReadsAll limits e given
  pub lines_are : lines ≡ lines_of given
  pub rest : rest_from [] given ≢ []

-- a write failed: a front of what answers these lines is written. A line that no line feed ended is among them only
-- where all was read to the end
pub record StopsAtWrite (limits : Allowance) (e : Ends) : Type 0 where
  pub given : List ℕ
  pub consumed : Consumes e.left e.left_now given
  pub most : length given ≤ limits.bytes + 1
  pub lines : List (List ℕ)
  pub first : AreFirstEnded limits e given lines ⊎ AreAllUnended limits e given lines
  pub writes : WritesFront limits (asks_from Start lines) e.written e.written_now
