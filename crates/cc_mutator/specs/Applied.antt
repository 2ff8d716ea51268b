-- WHAT A COMMAND OF THE MUTATOR COMES TO.
use Rattle.std.specs.Prelude.{◌≡◌}
use Rattle.cc_model.specs.declared.command.Command.{Command}
use Rattle.cc_model.specs.declared.item.Reply.{Reply}
use Rattle.cc_model.specs.Telling.{Telling, TellsEvents}
use Rattle.cc_model.specs.Mutating.{Class, reads_weak, class_of}
use Rattle.cc_model.specs.Slots.{Slots}
use Rattle.cc_model.specs.Checks.{named_or_nothing, reply_if_taken}
use Rattle.cc_model.specs.Deeds.{Deed, native_held, deed_of}
use Rattle.cc_model.specs.Heap.{Heap, objects_of}
use Rattle.cc_model.specs.Effects.{done_in}
use Rattle.cc_model.specs.Run.{weak_after}
use Rattle.cc_weakrefs.specs.Noting.{usable_noted}

-- Beside what weak registers note: the command that reads one has a native register hold what it notes, where that was not unlinked

-- THE DEED of a command
abbrev pub deed_in : Heap → Slots → Command → Class → Deed
deed_in h weak c (reads_weak d w) = native_held d (usable_noted h weak w)
deed_in h weak c _ = deed_of (objects_of h) c

abbrev pub deed_by : Heap → Slots → Command → Deed
deed_by h weak c = deed_in h weak c (class_of c)

-- and the reply to it
abbrev pub reply_in : Heap → Slots → Command → Class → Reply
reply_in h weak c (reads_weak d w) = named_or_nothing (usable_noted h weak w)
reply_in h weak c _ = reply_if_taken (objects_of h) c

abbrev pub reply_by : Heap → Slots → Command → Reply
reply_by h weak c = reply_in h weak c (class_of c)

-- A COMMAND IS CARRIED OUT: this is its reply, its deed is done, what that tells is told, and weak registers note what it leaves them
pub record IsCarriedOut (c : Command) (old new : Heap) (weak noted : Slots) (reply : Reply) (before after : Telling) : Type 0 where
  pub reply_is : reply ≡ reply_by old weak c
  pub heap : new ≡ (done_in old (deed_by old weak c)).heap
  pub told : TellsEvents before after (done_in old (deed_by old weak c)).events
  pub weak_registers : noted ≡ weak_after weak (deed_by old weak c)
