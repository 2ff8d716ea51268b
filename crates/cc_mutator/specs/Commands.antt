-- WHAT A COMMAND COMES TO: it is refused, or it lacks memory, or it is carried out; and how contents are held.
use Rattle.std.specs.Prelude.{◌≡◌, ◌≢◌, true, false, Bool, ℕ, List, Option, Some, None, IfSome, option_map}
use Rattle.cc_lists.specs.Members.{Among}
use Rattle.cc_names.specs.declared.name.Name.{Name}
use Rattle.cc_names.specs.declared.number.SKey.{SKey}
use Rattle.cc_model.specs.declared.command.Command.{Command}
use Rattle.cc_model.specs.declared.item.Refusal.{Refusal}
use Rattle.cc_model.specs.declared.item.Refusal.TheVariants.{NoMemory as no_memory}
use Rattle.cc_model.specs.declared.item.Reply.{Reply}
use Rattle.cc_model.specs.declared.item.Reply.TheVariants.{Refused, Done}
use Rattle.cc_model.specs.Telling.{Telling, TellsEvents}
use Rattle.cc_model.specs.Checks.{named_or_nothing, refusal_of, reply_if_taken}
use Rattle.cc_model.specs.Deeds.{Deed, deed_of}
use Rattle.cc_model.specs.Heap.{objects_of}
use Rattle.cc_model.specs.Effects.{done_in, takes_memory}
use Rattle.cc_model.specs.Marking.{marking_after}
use Rattle.cc_model.specs.Slots.{contents}
use Rattle.cc_counted.specs.declared.held.Held.{Held}
use Rattle.cc_counted.specs.declared.held.Held.TheVariants as held
use Rattle.cc_heaps.specs.Keyed.{Keyed, IsInOrder}
use Rattle.cc_heaps.specs.Changes.{KeepsKeys}
use Rattle.cc_heaps.specs.Marks.{MarksGoOn}
use Rattle.cc_heaps.specs.NewMarks.{AreListed, marks_of}
use Rattle.cc_weakrefs.specs.declared.noted.Noted.{Noted}
use Rattle.cc_weakrefs.specs.Noting.{HoldKeys, names_noted}
use Rattle.cc_mutator.specs.Applied.{IsCarriedOut, deed_by, reply_by}

-- WHAT SCRIPT REGISTERS HOLD IS BLACK BY THE NEW MARK, where a marking goes on in slices. So it is from its begin on: what comes into a
-- register is exposed or made, or stood in one.
abbrev pub AreHeldMarked : Keyed → Type 0
AreHeldMarked v = IfSome (marks_of v) (λ m. (x : Name) → Among x (contents v.heap.script_registers) → ¬ (Among x m.unblack))

-- A DEED LEAVES THE NEW MARKS that it comes to, where what is to be scanned is well listed and registers hold what is black by them
abbrev pub HasMarksAfter : Deed → Keyed → Keyed → Type 0
HasMarksAfter d old new = AreListed old → AreHeldMarked old → marks_of new ≡ option_map (marking_after old.heap d) (marks_of old)

-- A DEED IS ANSWERED: it is done, and answered so; or, where it may lack memory, it does, and nothing changes.
pub record IsAnswered (d : Deed) (answer : Reply) (may_lack : Bool) (old new : Keyed) (reply : Reply) (before after : Telling) : Type 0 where
  pub answered : reply ≢ Refused no_memory → reply ≡ answer
  pub heap : reply ≢ Refused no_memory → new.heap ≡ (done_in old.heap d).heap
  pub told : reply ≢ Refused no_memory → TellsEvents before after (done_in old.heap d).events
  pub memory : reply ≡ Refused no_memory → (may_lack ≡ true) × (new ≡ old) × (after ≡ before)
  pub keys : KeepsKeys old new
  pub order : (owned : List ℕ) → IsInOrder owned old → IsInOrder owned new
  pub marks : MarksGoOn old new
  pub marking : reply ≢ Refused no_memory → HasMarksAfter d old new

-- a deed that takes no memory
abbrev pub IsDone : Deed → Keyed → Keyed → Reply → Telling → Telling → Type 0
IsDone d = IsAnswered d Done false

-- one that is answered by what is held from then on, or was
abbrev pub IsNamed : Deed → Option Name → Keyed → Keyed → Reply → Telling → Telling → Type 0
IsNamed d x = IsAnswered d (named_or_nothing x) false

-- the deed of a command
abbrev pub IsTakenUp : Command → Keyed → Keyed → Reply → Telling → Telling → Type 0
IsTakenUp c old = IsAnswered (deed_of (objects_of old.heap) c) (reply_if_taken (objects_of old.heap) c) (takes_memory old.heap c) old

-- that of a command beside what weak registers note
abbrev pub IsTakenBeside : Command → List (Option Noted) → Keyed → Keyed → Reply → Telling → Telling → Type 0
IsTakenBeside c weak old = IsAnswered (deed_by old.heap (names_noted weak) c) (reply_by old.heap (names_noted weak) c) (takes_memory old.heap c) old

-- A COMMAND IS ANSWERED, beside weak registers that note `weak` before and `noted` after
pub record IsApplied (c : Command) (old new : Keyed) (weak noted : List (Option Noted)) (reply : Reply) (before after : Telling) : Type 0 where
  pub refused : (r : Refusal) → refusal_of (objects_of old.heap) c ≡ Some r → (reply ≡ Refused r) × (new ≡ old) × (noted ≡ weak) × (after ≡ before)
  pub done : refusal_of (objects_of old.heap) c ≡ None → reply ≢ Refused no_memory →
      IsCarriedOut c old.heap new.heap (names_noted weak) (names_noted noted) reply before after
  pub memory : reply ≡ Refused no_memory →
      (refusal_of (objects_of old.heap) c ≡ None) × (takes_memory old.heap c ≡ true) × (new ≡ old) × (noted ≡ weak) × (after ≡ before)
  pub keys : KeepsKeys old new
  pub order : (owned : List ℕ) → IsInOrder owned old → IsInOrder owned new
  pub marks : MarksGoOn old new
  pub marking : refusal_of (objects_of old.heap) c ≡ None → reply ≢ Refused no_memory → HasMarksAfter (deed_by old.heap (names_noted weak) c) old new
  -- what they note has its key in the heaps as these were
  pub held : HoldKeys noted old

-- Contents of one kind alone

abbrev pub held_of_script : Option SKey → Option Held
held_of_script None = None
held_of_script (Some key) = Some (held.Script key)

abbrev pub is_native_held : Option Held → Bool
is_native_held None = false
is_native_held (Some (held.Native key)) = true
is_native_held (Some (held.Script key)) = false

abbrev pub is_script_held : Option Held → Bool
is_script_held None = false
is_script_held (Some (held.Native key)) = false
is_script_held (Some (held.Script key)) = true
