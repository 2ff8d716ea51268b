-- WHY NO LAWFUL TRANSCRIPT GOES ON with a line: each cause says what is the case of the line where the check stands.
use Rattle.std.specs.Prelude.{◌≡◌, ◌≢◌, ◌↔◌, ℕ, Bool, true, false, not, ◌&&◌, ◌||◌, IsTrue, List, [], ◌∷◌, ◌++◌, drop, nat_le}
use Rattle.cc_lists.specs.Members.{Among}
use Rattle.cc_names.specs.Allowance.{Allowance}
use Rattle.cc_names.specs.declared.name.Name.{Name}
use Rattle.cc_model.specs.declared.command.Command.{Command}
use Rattle.cc_model.specs.declared.item.Event.{Event}
use Rattle.cc_model.specs.declared.item.Event.TheVariants.{Unlinked, Freed, Abandoned}
use Rattle.cc_model.specs.declared.item.Item.{Item}
use Rattle.cc_model.specs.declared.item.Reply.{Reply}
use Rattle.cc_model.specs.Answers.{Step}
use Rattle.cc_model.specs.Asks.{Ask, asks_of}
use Rattle.cc_model.specs.Derivations.{leads_made, path_to}
use Rattle.cc_model.specs.Lawful.{is_gc, is_refused, may_free, may_unlink, runs_allowed, runs_units}
use Rattle.cc_model.specs.Quiet.{after_all}
use Rattle.cc_model.specs.Reached.{Reached}
use Rattle.cc_model.specs.Texts.{text_of_event, text_of_reply, words_of}
use Rattle.cc_verdict.specs.Following.{Place, first_place}
use Rattle.cc_verdict.specs.Hearing.{Hearing, Told, may_come, may_go_on, runs_with}
use Rattle.cc_verdict.specs.Positions.{Position, GoesOn, reciting, within}
use Rattle.cc_check.specs.declared.cause.Cause.{Cause}
use Rattle.cc_check.specs.declared.heard.Heard.{Heard}
use Rattle.cc_check.specs.declared.cause.Cause.TheVariants as cause
use Rattle.cc_check.specs.Items.{IsNoItem}
use Rattle.cc_check.specs.Judging.{HasAnswer, begins_with_census, from_next, no_memory_line, reply_due}
use Rattle.cc_check.specs.Standing.{IsHeard, IsNumberedIn}

-- what an event frees or unlinks
abbrev pub names_in : Event → List Name
names_in (Freed x) = x ∷ []
names_in (Unlinked x) = x ∷ []
names_in Abandoned = []

-- The order in which the causes of an event are tried: what the command may have at all, where an abandonment stands, and whether
-- the unlinked numbers rise as they must

abbrev pub may_have : Command → Event → Bool
may_have c (Freed x) = may_free c x
may_have c (Unlinked x) = may_unlink c x
may_have c Abandoned = is_gc c || runs_units c

-- an event behind an abandonment that ends what comes; a second abandonment; one behind an event of a script collection
abbrev pub is_misplaced : Command → Told → Event → Bool
is_misplaced c t (Freed x) = not (may_go_on c t)
is_misplaced c t (Unlinked x) = not (may_go_on c t)
is_misplaced c t Abandoned = elim (is_gc c) [ true ↦ t.any | false ↦ t.abandoned ]

-- The causes within an answer that is heard event by event

-- the command has no such event
pub record IsForbidden (e : Event) (h : Hearing) (line : List ℕ) : Type 0 where
  pub line_is : line ≡ text_of_event e
  pub forbidden : may_have h.command e ≡ false

-- it has, but not here
pub record IsMisplaced (e : Event) (h : Hearing) (line : List ℕ) : Type 0 where
  pub line_is : line ≡ text_of_event e
  pub had : may_have h.command e ≡ true
  pub misplaced : is_misplaced h.command h.told e ≡ true

-- it has, and here, but the numbers of what was unlinked make one rising run too many
pub record IsOutOfOrder (e : Event) (h : Hearing) (line : List ℕ) : Type 0 where
  pub line_is : line ≡ text_of_event e
  pub had : may_have h.command e ≡ true
  pub placed : is_misplaced h.command h.told e ≡ false
  pub name : Name
  pub unlinked : e ≡ Unlinked name
  pub runs : nat_le (runs_with h.told name) (runs_allowed h.command) ≡ false

-- an event of this kind may come, but its object is not listed
pub record IsUnlisted (e : Event) (h : Hearing) (line : List ℕ) : Type 0 where
  pub line_is : line ≡ text_of_event e
  pub may : IsTrue (may_come h.command h.told e)
  pub name : Name
  pub of : names_in e ≡ name ∷ []
  pub unlisted : ¬ (Among name h.told.names)

-- it is listed, but a root reaches it: by these steps, which are those of the derivation
pub record IsOfReached (e : Event) (steps : List Step) (h : Hearing) (line : List ℕ) : Type 0 where
  pub line_is : line ≡ text_of_event e
  pub may : IsTrue (may_come h.command h.told e)
  pub name : Name
  pub of : names_in e ≡ name ∷ []
  pub listed : Among name h.told.names
  pub reached : Reached h.graph name
  pub steps_are : steps ≡ path_to (leads_made h.graph) name

-- the line is neither this reply nor an event
pub record IsOtherThanReply (r : Reply) (h : Hearing) (line : List ℕ) : Type 0 where
  pub due : r ≡ reply_due h
  pub other : line ≢ text_of_reply r
  pub no_event : (e : Event) → IsNumberedIn e → line ≢ text_of_event e

-- The causes elsewhere

-- of an answer that can be but one way this item comes, and the line is another
pub record IsOtherThanItem (i : Item) (q : Position) (line : List ℕ) : Type 0 where
  pub items : List Item
  pub place : Place
  pub stands : q ≡ reciting (i ∷ items) place
  pub other : line ≢ words_of i

-- nothing is left of an answer, and nothing is asked any more
pub record IsOver (q : Position) (asks : List Ask) : Type 0 where
  pub place : Place
  pub stands : q ≡ reciting [] place
  pub none : from_next asks ≡ []

-- within an answer that is heard
abbrev pub Within : Position → (Hearing → Type 0) → Type 0
Within q P = (h : Hearing) × (q ≡ within h) × P h

-- THE CAUSE HOLDS OF THE LINE where the check stands before it, with these asks left behind the answer
abbrev pub IsCause : Cause → Position → List Ask → List ℕ → Type 0
IsCause cause.NoItem q asks line = IsNoItem line
IsCause cause.Over q asks line = IsOver q asks
IsCause (cause.Forbidden e) q asks line = Within q (λ h. IsForbidden e h line)
IsCause (cause.Misplaced e) q asks line = Within q (λ h. IsMisplaced e h line)
IsCause (cause.OutOfOrder e) q asks line = Within q (λ h. IsOutOfOrder e h line)
IsCause (cause.Unlisted e) q asks line = Within q (λ h. IsUnlisted e h line)
IsCause (cause.Reached e steps) q asks line = Within q (λ h. IsOfReached e steps.items h line)
IsCause (cause.Reply r) q asks line = Within q (λ h. IsOtherThanReply r h line)
IsCause (cause.Item i) q asks line = IsOtherThanItem i q line
IsCause (cause.Refused r) q asks line = ⊥
IsCause (cause.Kept x) q asks line = ⊥
IsCause (cause.Lost x) q asks line = ⊥

-- The three dead ends

-- a command that the graph refuses has no events, and one came
pub record IsRefusedWith (r : Reply) (h : Hearing) : Type 0 where
  pub reply : r ≡ h.reply
  pub refused : IsTrue (is_refused h.reply && not (runs_units h.command))
  pub came : h.told.any ≡ true

-- a census is asked next that must list exactly what is reached, and lists this object, which is not
pub record IsKeptBefore (x : Name) (q : Position) (asks : List Ask) : Type 0 where
  pub items : List Item
  pub place : Place
  pub stands : q ≡ reciting items place
  pub row : place.row ≡ after_all
  pub census : begins_with_census (from_next asks) ≡ true
  pub listed : Among x place.state.listed
  pub unreached : ¬ (Reached place.state.graph x)

-- such a census is asked next, and lists this object not, which is reached: it was freed, and what leads to it was brought back
pub record IsLostBefore (x : Name) (q : Position) (asks : List Ask) : Type 0 where
  pub items : List Item
  pub place : Place
  pub stands : q ≡ reciting items place
  pub row : place.row ≡ after_all
  pub census : begins_with_census (from_next asks) ≡ true
  pub unlisted : ¬ (Among x place.state.listed)
  pub reached : Reached place.state.graph x

-- THE CAUSE HOLDS BEHIND THE LINE, where no line may come at all
abbrev pub IsDeadEnd : Cause → Position → List Ask → Type 0
IsDeadEnd (cause.Refused r) q asks = Within q (IsRefusedWith r)
IsDeadEnd (cause.Kept x) q asks = IsKeptBefore x q asks
IsDeadEnd (cause.Lost x) q asks = IsLostBefore x q asks
IsDeadEnd _ q asks = ⊥

-- WHERE A CHECK STANDS

-- behind these lines it stands there, in the answer to the line of the script with this number, which has one: whatever lines come, they are lawful
-- exactly where they go on from there, with the asks behind that line left
abbrev pub StandsBehind : Allowance → List ℕ → List (List ℕ) → ℕ → Position → Type 0
StandsBehind limits script lines asked q = (rest : List (List ℕ)) →
    GoesOn (reciting [] (first_place limits)) (asks_of script) (lines ++ rest) ↔ GoesOn q (drop asked (asks_of script)) rest

-- the same where the answer may have begun; want of memory alone, which may come in place of a whole answer, is left out
abbrev pub StandsBefore : Allowance → List ℕ → List (List ℕ) → ℕ → Position → Type 0
StandsBefore limits script lines asked q = (line : List ℕ) (rest : List (List ℕ)) → line ≢ no_memory_line →
    GoesOn (reciting [] (first_place limits)) (asks_of script) (lines ++ (line ∷ rest)) ↔ GoesOn q (drop asked (asks_of script)) (line ∷ rest)

-- between a position with asks and the asks left behind a line that was heard: why nothing goes on with it
pub data IsPart (p : Position) (asks : List Ask) (heard : Heard) (left : List Ask) (c : Cause) : Type 0 where
  part_here : (q : Position) →
      ((line : List ℕ) (rest : List (List ℕ)) → line ≢ no_memory_line → GoesOn p asks (line ∷ rest) ↔ GoesOn q left (line ∷ rest)) →
      ((line : List ℕ) → IsHeard heard line → IsCause c q left line) → IsPart p asks heard left c
  part_behind : (q : Position) →
      ((line : List ℕ) (rest : List (List ℕ)) → IsHeard heard line → GoesOn p asks (line ∷ rest) ↔ GoesOn q left rest) →
      IsDeadEnd c q left → IsPart p asks heard left c

-- WHY A TRANSCRIPT PARTS AT A LINE, which answers the line of the script with this number, counted from one. Where nothing is asked any
-- more, that is the last line of the script that has an answer; 0 where none has
pub data IsBlamed (limits : Allowance) (script : List ℕ) (before : List (List ℕ)) (line : List ℕ) (asked : ℕ) (c : Cause) : Type 0 where
  at_line : (q : Position) → HasAnswer (asks_of script) asked → StandsBefore limits script before asked q → IsCause c q (drop asked (asks_of script)) line →
      IsBlamed limits script before line asked c
  behind_line : (q : Position) → HasAnswer (asks_of script) asked → StandsBehind limits script (before ++ line ∷ []) asked q →
      IsDeadEnd c q (drop asked (asks_of script)) → IsBlamed limits script before line asked c
