-- THE SUMS OF A MADE RUN: what is counted for what a made script asks.
use Rattle.std.proofs.Common.{◌≡◌, ℕ, zero, suc, ◌+◌, ◌≤◌, true, false, not, Bool, List, length, map, Option, Some, refl, ap, ◌∙◌, arith, count_by, cond}
use Rattle.std.specs.List.{list_all}
use Rattle.std.proofs.lemmas.Bool.{false≢true}
use Rattle.std.proofs.lemmas.List.{length-map}
use Rattle.cc_lists.specs.Faults.{Rose}
use Rattle.cc_lists.proofs.Counting.{count_by-append, count_by-cons}
use Rattle.cc_names.specs.Allowance.{Allowance}
use Rattle.cc_model.specs.declared.sums.Sums.{Sums}
use Rattle.cc_model.specs.Summed.{none_summed}
use Rattle.cc_model.specs.Asks.{ask_of, command_of}
use Rattle.cc_model.specs.declared.dialect.Dialect.TheVariants.{One}
use Rattle.cc_made.specs.Asked.{is_command}
use Rattle.cc_made.specs.Made.{made_line, made_script, seeded}
use Rattle.cc_made.proofs.Lines.{asks-made, bytes-made, commands-made, drawn_lines, many-made, tail-made}
use Rattle.cc_made.proofs.Passing.{passes-made}
use Rattle.cc_replay.specs.declared.status.Status.{Status}
use Rattle.cc_replay.specs.declared.status.Status.TheVariants.{Done}
use Rattle.cc_replay.specs.Transcripts.{Counts}
use Rattle.cc_replay.specs.Summaries.{IsMadeRun, made_asks, widest}
use Rattle.cc_replay.proofs.MadeEnds.{collected-nothing, leaves-nothing, nothing-left}
use Rattle.cc_replay.proofs.Totals.{asks_census, kinds, sums-lawful}
use Rattle.cc_replay.proofs.Wants.{none-told}

-- a made script asks so many commands
commands-asked : (seed count : ℕ) → list_all is_command (made_asks seed count) ≡ true
commands-asked seed count = ap (list_all is_command) (asks-made count (seeded seed)) ∙ commands-made count (seeded seed)

many-asked : (seed count : ℕ) → length (made_asks seed count) ≡ count + 20
many-asked seed count = search (asks-made, length-map, many-made)

-- no line that is drawn asks for a census
drawn-no_census : (words : _) → not (asks_census (ask_of One (made_line words).text)) ≡ true
unfolding command_of
drawn-no_census words = passes-made (λ line. not (asks_census (ask_of One line))) refl words

uncounted : (b : Bool) → not b ≡ true → cond {A = ℕ} b 1 0 ≡ 0
uncounted true e = absurd (false≢true e)
uncounted false e = refl

drawn-censuses : (count : ℕ) (words : _) → count_by asks_census (map (ask_of One) (drawn_lines count words)) ≡ 0
drawn-censuses zero words = refl
drawn-censuses (suc count) words = omega (
  arith,
  count_by-cons asks_census (ask_of One (made_line words).text) (map (ask_of One) (drawn_lines count (made_line words).words)),
  uncounted (asks_census (ask_of One (made_line words).text)) (drawn-no_census words),
  drawn-censuses count (made_line words).words,
)

-- and the tail asks for one
one-census : (seed count : ℕ) → count_by asks_census (made_asks seed count) ≡ 1
one-census seed count = grind (arith, asks_census, asks-made, tail-made, count_by-append, drawn_lines, drawn-censuses)

-- the widest limits, by their parts
pub widest-is : (l : Allowance) → l.natives ≡ 1000000 → l.scripts ≡ 1000000 → l.bytes ≡ 4294967295 → l ≡ widest
widest-is l natives scripts bytes = grind arith

-- A MADE SCRIPT IS ANSWERED WHOLE: nothing fails, and it is within the widest limit
pub made-done : (seed count : ℕ) → count ≤ 1000000 → (s : Status) (left : Option (List ℕ)) (limits : Allowance) → left ≡ Some (made_script seed count) → limits ≡ widest →
    ((bytes : List ℕ) → left ≡ Some bytes → length bytes ≤ limits.bytes → ¬ (Rose 0 0) → ¬ (Rose 0 0) → s ≡ Done) → s ≡ Done
made-done seed count few s left limits given wide done =
    done (made_script seed count) given (omega (arith, few, bytes-made count (seeded seed), ap (λ (l : Allowance). l.bytes) wide)) none none
  where
    none : ¬ (Rose 0 0)
    none r = omega (arith, r)

-- WHAT IS COUNTED for a made script, from nothing on, are the sums of a made run
pub made-run : (seed count : ℕ) → count ≤ 1000000 → (limits : Allowance) → limits ≡ widest → (begun told sums : Sums) → begun ≡ none_summed → sums ≡ told →
    Counts limits (made_asks seed count) (Some begun) (Some told) → IsMadeRun seed count sums
made-run seed count few limits wide begun told sums nothing is c =
    grind (arith, many-asked, kinds, one-census, collected-nothing, leaves-nothing, nothing-left, none-told, asks_census, sums-lawful, commands-asked)
