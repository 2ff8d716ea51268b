-- DEEDS ANSWERED: they are done, or lack memory; and what that is for a command.
use Rattle.std.proofs.Common.{◌≡◌, ◌≢◌, ℕ, Bool, true, false, List, Option, Some, None, option_map, refl, sym, ◌∙◌, ap, subst, arith, ◌≤◌, ◌<◌}
use Rattle.std.proofs.lemmas.Bool.{leb-true, leb-false}
use Rattle.cc_names.specs.declared.name.Name.{Name}
use Rattle.cc_model.specs.declared.command.Command.{Command}
use Rattle.cc_model.specs.declared.item.Refusal.{Refusal}
use Rattle.cc_model.specs.declared.item.Refusal.TheVariants.{NoMemory}
use Rattle.cc_model.specs.declared.item.Reply.{Reply}
use Rattle.cc_model.specs.declared.item.Reply.TheVariants.{Named, Done, Refused}
use Rattle.cc_model.specs.Telling.{Telling, TellsEvents}
use Rattle.cc_model.specs.Checks.{Objects, named_or_nothing, refusal_of}
use Rattle.cc_model.specs.Mutating.{does as does_deed, class_of}
use Rattle.cc_model.specs.Deeds.{Deed, weak_written}
use Rattle.cc_model.specs.Run.{weak_after}
use Rattle.cc_model.specs.Heap.{Heap, Outcome, objects_of, silently}
use Rattle.cc_model.specs.Effects.{done_in, takes_memory}
use Rattle.cc_model.specs.Exposure.{exposed}
use Rattle.cc_model.specs.Marking.{exposed_by, exposed_marks}
use Rattle.cc_model.proofs.Tellings.{Tells-nil}
use Rattle.cc_laws_heap.proofs.Face.{IsTaken, IsTaken-from}
use Rattle.cc_heaps.specs.Keyed.{Keyed, IsInOrder, left_with}
use Rattle.cc_heaps.specs.Changes.{KeepsKeys}
use Rattle.cc_heaps.specs.Marks.{MarksGoOn}
use Rattle.cc_heaps.specs.NewMarks.{AreListed, marks_of}
use Rattle.cc_weakrefs.specs.declared.noted.Noted.{Noted}
use Rattle.cc_weakrefs.specs.Noting.{HoldKeys, names_noted}
use Rattle.cc_mutator.specs.Applied.{deed_by, deed_in, reply_in}
use Rattle.cc_mutator.specs.Commands.{HasMarksAfter, IsAnswered, IsApplied, IsNamed, IsTakenBeside, IsTakenUp}
use Rattle.cc_heaps.proofs.KeysKept.{KeepsKeys-left, KeepsKeys-same}
use Rattle.cc_heaps.proofs.MarksKept.{marks-left, marks-same, marks-stay-left}
use Rattle.cc_heaps.proofs.ExposedMarks.{nothing-in}

-- Replies

-- no test is for want of memory
refused-not_memory : (o : Objects) (c : Command) (r : Refusal) → refusal_of o c ≡ Some r → r ≢ NoMemory
unfolding refusal_of
refused-not_memory o c r = grind arith

-- what names a content is no refusal
pub named-not_refused : (x : Option Name) (r : Refusal) → named_or_nothing x ≢ Refused r
named-not_refused x r e = grind arith

pub done-not_refused : (r : Refusal) → Done ≢ Refused r
done-not_refused r e = grind arith

pub name-not_refused : (x : Name) (r : Refusal) → Named x ≢ Refused r
name-not_refused x r e = grind arith

-- where nothing changed, a marking is left as it is
marks-still : (v w : Keyed) → w ≡ v → MarksGoOn v w
marks-still v w e = marks-same v w (ap (λ (u : Keyed). u.marking) e) (ap (λ (u : Keyed). u.scripts) e)

-- a deed that exposes nothing leaves the new marks by names
marks-unexposed : (d : Deed) (v w : Keyed) → exposed_by v.heap d ≡ None → (AreListed v → marks_of w ≡ marks_of v) → HasMarksAfter d v w
marks-unexposed d v w none same = λ listed held.
    same listed ∙ (nothing-in v.heap (marks_of v) ∙ ap (λ x. option_map (exposed_marks v.heap x) (marks_of v)) (sym none))

module _ (d : Deed) (answer : Reply) (old new : Keyed) (reply : Reply) (before after : Telling) where
  -- A DEED THAT IS DONE
  pub answered-done : (may_lack : Bool) → reply ≡ answer → answer ≢ Refused NoMemory → new.heap ≡ (done_in old.heap d).heap → TellsEvents before after (done_in old.heap d).events →
      KeepsKeys old new → ((owned : List ℕ) → IsInOrder owned old → IsInOrder owned new) → MarksGoOn old new → HasMarksAfter d old new → IsAnswered d answer may_lack old new reply before after
  answered-done may_lack is n h t k o marks marking = record {
    answered = λ m. is;
    heap = λ m. h;
    told = λ m. t;
    memory = λ e. absurd (n (sym is ∙ e));
    keys = k;
    order = o;
    marks = marks;
    marking = λ m. marking;
  }

  -- and exposes nothing
  pub answered-unexposed : (may_lack : Bool) → reply ≡ answer → answer ≢ Refused NoMemory → new.heap ≡ (done_in old.heap d).heap → TellsEvents before after (done_in old.heap d).events →
      KeepsKeys old new → ((owned : List ℕ) → IsInOrder owned old → IsInOrder owned new) → MarksGoOn old new → exposed_by old.heap d ≡ None →
      (AreListed old → marks_of new ≡ marks_of old) → IsAnswered d answer may_lack old new reply before after
  answered-unexposed may_lack is n h t k o marks none same = answered-done may_lack is n h t k o marks (marks-unexposed d old new none same)

  -- where some natives are no more
  pub answered-left : (o : Outcome) → done_in old.heap d ≡ o → reply ≡ answer → answer ≢ Refused NoMemory → new ≡ left_with old o.heap → TellsEvents before after o.events →
      ((owned : List ℕ) → IsInOrder owned old → IsInOrder owned new) → exposed_by old.heap d ≡ None → IsAnswered d answer false old new reply before after
  answered-left o does is n h t order none =
      answered-unexposed false is n (ap (λ (v : Keyed). v.heap) h ∙ sym (ap (λ (p : Outcome). p.heap) does)) (subst (λ (p : Outcome). TellsEvents before after p.events) (sym does) t)
      (KeepsKeys-left old new o.heap h) order (marks-left old new o.heap h) none (marks-stay-left old new o.heap h).by_names

  -- where it lacks memory
  pub answered-denied : (may_lack : Bool) → may_lack ≡ true → reply ≡ Refused NoMemory → new ≡ old → after ≡ before → IsAnswered d answer may_lack old new reply before after
  answered-denied may_lack lacks is same quiet = record {
    answered = λ m. absurd (m is);
    heap = λ m. absurd (m is);
    told = λ m. absurd (m is);
    memory = λ e. (lacks, same, quiet);
    keys = subst (KeepsKeys old) (sym same) (KeepsKeys-same old);
    order = λ owned o. subst (IsInOrder owned) (sym same) o;
    marks = marks-still old new same;
    marking = λ m. absurd (m is);
  }

-- where it tells nothing
pub answered-silently : (d : Deed) (answer : Reply) (old new : Keyed) (reply : Reply) (t : Telling) (may_lack : Bool) (h : Heap) → done_in old.heap d ≡ silently h → reply ≡ answer →
    answer ≢ Refused NoMemory → new.heap ≡ h → KeepsKeys old new → ((owned : List ℕ) → IsInOrder owned old → IsInOrder owned new) → MarksGoOn old new →
    HasMarksAfter d old new → IsAnswered d answer may_lack old new reply t t
answered-silently d answer old new reply t may_lack h does is n e k o marks marking =
    answered-done d answer old new reply t t may_lack is n (e ∙ sym (ap (λ (p : Outcome). p.heap) does)) (subst (λ (p : Outcome). TellsEvents t t p.events) (sym does) (Tells-nil t)) k o marks marking

-- and exposes nothing
pub silently-unexposed : (d : Deed) (answer : Reply) (old new : Keyed) (reply : Reply) (t : Telling) (may_lack : Bool) (h : Heap) → done_in old.heap d ≡ silently h → reply ≡ answer →
    answer ≢ Refused NoMemory → new.heap ≡ h → KeepsKeys old new → ((owned : List ℕ) → IsInOrder owned old → IsInOrder owned new) → MarksGoOn old new →
    exposed_by old.heap d ≡ None → (AreListed old → marks_of new ≡ marks_of old) → IsAnswered d answer may_lack old new reply t t
silently-unexposed d answer old new reply t may_lack h does is n e k o marks none same =
    answered-silently d answer old new reply t may_lack h does is n e k o marks (marks-unexposed d old new none same)

-- where the heaps do nothing
pub answered-still : (d : Deed) (answer : Reply) (v : Keyed) (reply : Reply) (t : Telling) → done_in v.heap d ≡ silently v.heap → reply ≡ answer → answer ≢ Refused NoMemory →
    exposed_by v.heap d ≡ None → IsAnswered d answer false v v reply t t
answered-still d answer v reply t does is n none =
    silently-unexposed d answer v v reply t false v.heap does is n refl (KeepsKeys-same v) (λ owned o. o) (marks-still v v refl) none (λ listed. refl)

-- where a weak register is written
pub weak-still : (w : ℕ) (x : Option Name) (answer : Reply) (v : Keyed) (reply : Reply) (t : Telling) → reply ≡ answer → answer ≢ Refused NoMemory →
    IsAnswered (weak_written w x) answer false v v reply t t
unfolding done_in
weak-still w x answer v reply t is n = answered-still (weak_written w x) answer v reply t refl is n refl

-- by what is held
pub named-as : (deed : Option Name → Deed) (x y : Option Name) (old new : Keyed) (reply : Reply) (before after : Telling) → x ≡ y → IsNamed (deed x) x old new reply before after →
    IsNamed (deed y) y old new reply before after
named-as deed x y old new reply before after e a = subst (λ z. IsNamed (deed z) z old new reply before after) e a

module _ (c : Command) (old new : Keyed) (weak noted : List (Option Noted)) (reply : Reply) (before after : Telling) (held : HoldKeys noted old) where
  -- A COMMAND THAT IS REFUSED
  pub applied-refused : (r : Refusal) → refusal_of (objects_of old.heap) c ≡ Some r → reply ≡ Refused r → new ≡ old → noted ≡ weak → after ≡ before →
      IsApplied c old new weak noted reply before after
  applied-refused r refuses is same still quiet = grind (arith, refused-not_memory, KeepsKeys-same, marks-still, held)

  -- one that is not
  pub applied-taken : refusal_of (objects_of old.heap) c ≡ None → IsTakenBeside c weak old new reply before after →
      names_noted noted ≡ weak_after (names_noted weak) (deed_by old.heap (names_noted weak) c) → (takes_memory old.heap c ≡ true → noted ≡ weak) →
      IsApplied c old new weak noted reply before after
  applied-taken none a names still = record {
    refused = λ r e. let f = sym none ∙ e in absurd (cc);
    done = λ e m. record { reply_is = a.answered m; heap = a.heap m; told = a.told m; weak_registers = names };
    memory = λ e. let f = a.memory e in (none, f.0, f.1, still f.0, f.2);
    keys = a.keys;
    order = a.order;
    marks = a.marks;
    marking = λ e m. a.marking m;
    held = held;
  }

-- A COMMAND THAT DOES A DEED does it beside weak registers, whatever they note
pub taken-beside : (c : Command) (weak : List (Option Noted)) (old new : Keyed) (reply : Reply) (before after : Telling) → class_of c ≡ does_deed →
    IsTakenUp c old new reply before after → IsTakenBeside c weak old new reply before after
taken-beside c weak old new reply before after e a =
    subst (λ k. IsAnswered (deed_in old.heap (names_noted weak) c k) (reply_in old.heap (names_noted weak) c k) (takes_memory old.heap c) old new reply before after) (sym e) a

-- what is known of it
pub as-taken : (o : Objects) (c e : Command) → c ≡ e → refusal_of o c ≡ None → IsTaken o e
as-taken o c e is none = subst (IsTaken o) is (IsTaken-from o c none)

-- an exposure of nothing
pub exposed-none : (h : Heap) → exposed h None ≡ h
unfolding exposed
exposed-none h = refl

-- what is not at least is less
pub room-left : (a b : ℕ) → ¬ (a ≤ b) → b < a
room-left a b h = grind (arith, leb-true, leb-false)
