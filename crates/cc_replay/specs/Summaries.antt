-- THE SUMMARY OF A MADE RUN: the plain run's answers to a made script, counted, in ten lines.
use Rattle.std.specs.Prelude.{◌≡◌, ℕ, ◌+◌, List, [], ◌∷◌, ◌++◌, codes, decimal, drop, flat_map, Option, Some}
use Rattle.std.specs.Io.KnownBytes.{Appends}
use Rattle.cc_names.specs.Allowance.{Allowance}
use Rattle.cc_model.specs.declared.sums.Sums.{Sums}
use Rattle.cc_model.specs.declared.item.Reply.TheVariants.{Done}
use Rattle.cc_model.specs.Summed.{none_summed, summed}
use Rattle.cc_model.specs.Telling.{AppendsFront}
use Rattle.cc_model.specs.Answers.{Answer, all_items_of}
use Rattle.cc_model.specs.Asks.{Ask, asks_of}
use Rattle.cc_model.specs.Run.{plain_run}
use Rattle.cc_made.specs.Made.{made_script}
use Rattle.cc_replay.specs.Transcripts.{IsRun}

-- a line: a word, a space and a number in decimal digits
abbrev pub line_of : List ℕ × ℕ → List ℕ
line_of l = l.0 ++ 32 ∷ decimal l.1 ++ 10 ∷ []

-- the ten lines
abbrev pub summary_lines : Sums → List (List ℕ × ℕ)
summary_lines s =
    (codes "commands", s.commands)
    ∷ (codes "ok", s.ok)
    ∷ (codes "named", s.named)
    ∷ (codes "none", s.none)
    ∷ (codes "refused", s.refused)
    ∷ (codes "nomem", s.nomem)
    ∷ (codes "abandoned", s.abandoned)
    ∷ (codes "unlinked", s.unlinked)
    ∷ (codes "freed", s.freed)
    ∷ (codes "census", s.census)
    ∷ []

-- THE TEXT OF A SUMMARY
abbrev pub summary_text : Sums → List ℕ
summary_text s = flat_map line_of (summary_lines s)

-- the limits of a made run are the widest
abbrev pub widest : Allowance
widest = record { natives = 1000000; scripts = 1000000; bytes = 4294967295 }

-- what a made script asks
abbrev pub made_asks : ℕ → ℕ → List Ask
made_asks seed count = asks_of (made_script seed count)

-- the sums over all items of answers
abbrev pub sums_of : List Answer → Sums
sums_of answers = summed (all_items_of answers) none_summed

-- THESE ARE THE SUMS OF A MADE RUN
pub record IsMadeRun (seed count : ℕ) (sums : Sums) : Type 0 where
  -- the sums over the answers of a run of what the script asks
  pub answers : List Answer
  pub run : IsRun widest (made_asks seed count) answers
  pub sums_are : sums ≡ sums_of answers
  -- each line of the script is a command and has one reply: `= ok`, a name, `= none`, a refusal, `! nomem`, or, once, the census
  pub commands : sums.commands ≡ count + 20
  pub replies : sums.ok + sums.named + sums.none + sums.refused + sums.nomem + 1 ≡ sums.commands
  -- where the `collect` of the tail, which is two before the census, is answered `= ok`, that counts nothing;
  pub census : (swept collected swept_again last : Answer) → drop (count + 16) answers ≡ swept ∷ collected ∷ swept_again ∷ last ∷ [] →
      collected.reply ≡ Some Done → sums.census ≡ 0
  -- and so it is where no want of memory is counted
  pub nothing_left : sums.nomem ≡ 0 → sums.census ≡ 0
  -- where no want of memory and no abandonment is counted, seed and count alone decide them: memory was there at every place
  pub with_all_memory : sums.nomem ≡ 0 → sums.abandoned ≡ 0 → sums ≡ sums_of (plain_run widest [] (made_asks seed count))

-- the summary of a made run was written
pub record WritesSummary (seed count : ℕ) (old new : Option (List ℕ)) : Type 0 where
  pub sums : Sums
  pub of_run : IsMadeRun seed count sums
  pub written : Appends old new (summary_text sums)

-- a front of one was written
pub record WritesSummaryFront (seed count : ℕ) (old new : Option (List ℕ)) : Type 0 where
  pub sums : Sums
  pub of_run : IsMadeRun seed count sums
  pub written : AppendsFront old new (summary_text sums)
