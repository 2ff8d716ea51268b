-- WHAT A JUDGE SAYS OF A LINE, and what is asked next.
use Rattle.std.specs.Prelude.{◌≡◌, ◌≢◌, ◌↔◌, ℕ, Bool, true, false, ◌&&◌, List, [], ◌∷◌, drop, zero, suc, Some, None, slice_get}
use Rattle.cc_model.specs.declared.command.Command.TheVariants as command
use Rattle.cc_model.specs.declared.item.Item.{Item}
use Rattle.cc_model.specs.declared.item.Refusal.{Refusal}
use Rattle.cc_model.specs.declared.item.Refusal.TheVariants as refusal
use Rattle.cc_model.specs.declared.item.Refusal.TheVariants.{NoMemory}
use Rattle.cc_model.specs.declared.item.Reply.{Reply}
use Rattle.cc_model.specs.declared.item.Reply.TheVariants.{Refused}
use Rattle.cc_model.specs.declared.item.Event.{Event}
use Rattle.cc_model.specs.Asks.{Ask, long, bad, taken}
use Rattle.cc_model.specs.Lawful.{runs_units}
use Rattle.cc_model.specs.Texts.{text_of_event, text_of_reply, words_of}
use Rattle.cc_verdict.specs.Following.{Place, Follows, Recites}
use Rattle.cc_verdict.specs.Hearing.{Hearing, Hears, MayCome}
use Rattle.cc_verdict.specs.Positions.{Position, GoesOn, reciting, within}
use Rattle.cc_check.specs.declared.heard.Heard.{Heard}
use Rattle.cc_check.specs.declared.judge.Judge.{Judge}
use Rattle.cc_check.specs.declared.script.Script.{Script}
use Rattle.cc_check.specs.Standing.{IsHeard, IsKept, asks_left, position_of}

-- lines that ask nothing are passed over
abbrev pub asks_nothing : Ask → Bool
asks_nothing (taken command.Nothing) = true
asks_nothing _ = false

-- THE ASKS FROM THE NEXT ONE ON that has an answer
abbrev pub from_next : List Ask → List Ask
from_next [] = []
from_next (ask ∷ asks) = elim (asks_nothing ask) [ true ↦ from_next asks | false ↦ ask ∷ asks ]

-- whether a census is asked first
abbrev pub is_census : Ask → Bool
is_census (taken command.Census) = true
is_census _ = false

abbrev pub begins_with_census : List Ask → Bool
begins_with_census [] = false
begins_with_census (ask ∷ asks) = is_census ask

-- these lines go on where this is asked next
abbrev pub MayAnswer : Place → Ask → List Ask → List (List ℕ) → Type 0
MayAnswer p ask asks lines = Follows p (ask ∷ asks) lines

-- or where these items are to be recited
abbrev pub MayRecite : List Item → Place → List Ask → List (List ℕ) → Type 0
MayRecite items p asks lines = Recites items p asks lines

-- or within an answer
abbrev pub MayGoOn : Hearing → List Ask → List (List ℕ) → Type 0
MayGoOn h asks lines = Hears asks h lines

-- the refusal of a line that is no command
abbrev pub IsRefusal : Ask → Refusal → Type 0
IsRefusal long r = r ≡ refusal.Long
IsRefusal bad r = r ≡ refusal.Line
IsRefusal (taken c) r = ⊥

-- the judge is kept, and stands between two answers
pub record IsBetween (j : Judge) : Type 0 where
  pub kept : IsKept j
  pub answer : j.answer ≡ None
  pub recital : j.recital.items ≡ []

-- the one line that may come in place of a whole answer: want of memory
abbrev pub no_memory_line : List ℕ
no_memory_line = text_of_reply (Refused NoMemory)

-- the one reply that can end an answer: want of memory for a collection that was abandoned, and else that of the graph
abbrev pub reply_due : Hearing → Reply
reply_due h = elim (runs_units h.command && h.told.abandoned) [ true ↦ Refused NoMemory | false ↦ h.reply ]

-- a position stands for lines that may come: whatever lines come, but for want of memory first, they may where they go on from there
abbrev pub StandsFor : (List Ask → List (List ℕ) → Type 0) → Position → Type 0
StandsFor may q = (asks : List Ask) (line : List ℕ) (lines : List (List ℕ)) → line ≢ no_memory_line →
    may asks (line ∷ lines) ↔ GoesOn q asks (line ∷ lines)

-- the line is not the next item that is left; it is no event that may come, and not the reply that ends the answer; or nothing is
-- asked any more
abbrev pub IsRefusedAt : Position → List Ask → List ℕ → Type 0
IsRefusedAt (reciting [] p) asks line = from_next asks ≡ []
IsRefusedAt (reciting (i ∷ items) p) asks line = line ≢ words_of i
IsRefusedAt (within h) asks line = ((e : Event) → line ≡ text_of_event e → ¬ (MayCome h e)) × (line ≢ text_of_reply (reply_due h))

-- A LINE IS JUDGED, and the judge is kept: after yes what goes on after the line is what goes on from where it stands; after no
-- nothing goes on with the line, and the judge stands in the answer that the line is none of
pub record IsJudged (heard : Heard) (may : List Ask → List (List ℕ) → Type 0) (j : Judge) (answer : Bool) : Type 0 where
  pub kept : IsKept j
  pub yes : answer ≡ true → (asks : List Ask) (line : List ℕ) (lines : List (List ℕ)) → IsHeard heard line →
      may asks (line ∷ lines) ↔ GoesOn (position_of j) asks lines
  pub no : answer ≡ false → (asks : List Ask) (line : List ℕ) (lines : List (List ℕ)) → IsHeard heard line → ¬ (may asks (line ∷ lines))
  pub stands : answer ≡ false → StandsFor may (position_of j)
  pub refused : answer ≡ false → (asks : List Ask) (line : List ℕ) → IsHeard heard line → IsRefusedAt (position_of j) asks line

-- so many asks were asked, where it is none, or the last of them has an answer
abbrev pub HasAnswer : List Ask → ℕ → Type 0
HasAnswer asks zero = Unit {0}
HasAnswer asks (suc n) = (ask : Ask) × (slice_get asks n ≡ Some ask) × (asks_nothing ask ≡ false)

-- a script of these asks was read so far: what is left stands behind as many as were asked, the last of which has an answer
pub record IsReadOf (s : Script) (asks : List Ask) : Type 0 where
  pub left : asks_left s ≡ drop s.asked asks
  pub last : HasAnswer asks s.asked

-- a script is read on
abbrev pub GoesAlong : Script → Script → Type 0
GoesAlong old new = (asks : List Ask) → IsReadOf old asks → IsReadOf new asks
