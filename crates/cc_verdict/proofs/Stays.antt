-- COLLECTIONS LEAVE THE GRAPH, and no reply by the graph is want of memory.
use Rattle.std.proofs.Common.{◌≡◌, Bool, true, false, List, Option, Some, None, refl, sym, ap, ◌∙◌, arith}
use Rattle.cc_names.specs.declared.name.Name.{Name}
use Rattle.cc_model.specs.declared.command.Command.{Command}
use Rattle.cc_model.specs.declared.item.Refusal.{Refusal}
use Rattle.cc_model.specs.declared.item.Refusal.TheVariants.{Empty, Kind, Slot, Full}
use Rattle.cc_model.specs.declared.item.Reply.{Reply}
use Rattle.cc_model.specs.declared.item.Reply.TheVariants.{Refused}
use Rattle.cc_model.specs.Mutating.{Class, reads_weak, class_of, is_deed, is_units, is_script_collection, is_weak_reader, reads_weakly}
use Rattle.cc_model.specs.Checks.{Objects, named_or_nothing, refusal_of, refused_or, reply_if_taken, lacks_object, has_wrong_object, has_no_slot, has_wrong_content, is_full}
use Rattle.cc_model.specs.Graph.{Graph, objects_of, reply_to, step}
use Rattle.cc_model.specs.Lawful.{State, class_may_want_memory, noted_in, step_of, step_with, reply_of_class, reply_with, graph_after, is_gc, is_refused, is_without_memory, may_want_memory, runs_units}
use Rattle.cc_model.proofs.NoDeeds.{no_deed-allowed, no_deed-leaves}

-- Replies by the graph

-- a name, or that nothing is there, is no refusal
named-not_refused : (x : Option Name) → is_refused (named_or_nothing x) ≡ false
named-not_refused x = grind arith

-- the reply to a command that is not refused is no refusal
taken-not_refused : (o : Objects) (c : Command) → is_refused (reply_if_taken o c) ≡ false
unfolding reply_if_taken
taken-not_refused o c = grind (arith, named-not_refused)

not_refused-granted : (reply : Reply) → is_refused reply ≡ false → is_without_memory reply ≡ false
not_refused-granted reply e = grind arith

-- no check refuses for want of memory
refusal-granted : (o : Objects) (c : Command) (refusal : Refusal) → refusal_of o c ≡ Some refusal → is_without_memory (Refused refusal) ≡ false
unfolding refusal_of
refusal-granted o c refusal e = go (lacks_object o c) (has_wrong_object o c) (has_no_slot o c) (has_wrong_content o c) (is_full o c) e
  where
    granted : (r : Refusal) → is_without_memory (Refused r) ≡ false → Some r ≡ Some refusal → is_without_memory (Refused refusal) ≡ false
    granted r g is = sym (ap without is) ∙ g
      where
        without : Option Refusal → Bool
        without None = false
        without (Some r) = is_without_memory (Refused r)

    go : (a b c d f : Bool) → elim a [ true ↦ Some Empty | false ↦ elim b [ true ↦ Some Kind | false ↦ elim c [ true ↦ Some Slot | false ↦ elim d [ true ↦ Some Kind | false ↦ elim f [ true ↦ Some Full | false ↦ None ] ] ] ] ] ≡ Some refusal →
        is_without_memory (Refused refusal) ≡ false
    go true b c d f e = granted Empty refl e
    go false true c d f e = granted Kind refl e
    go false false true d f e = granted Slot refl e
    go false false false true f e = granted Kind refl e
    go false false false false true e = granted Full refl e
    go false false false false false e = absurd (cc)

-- THE REPLY BY THE GRAPH IS NO WANT OF MEMORY.
pub graph-granted : (g : Graph) (c : Command) → is_without_memory (reply_to g c) ≡ false
graph-granted g c = go (refusal_of (objects_of g) c) refl
  where
    go : (r : Option Refusal) → refusal_of (objects_of g) c ≡ r → is_without_memory (refused_or r (reply_if_taken (objects_of g) c)) ≡ false
    go None e = not_refused-granted (reply_if_taken (objects_of g) c) (taken-not_refused (objects_of g) c)
    go (Some refusal) e = refusal-granted (objects_of g) c refusal e

-- beside ended names neither
reply_of-granted : (ended : List Name) (g : Graph) (c : Command) (k : Class) → is_without_memory (reply_of_class ended g c k) ≡ false
reply_of-granted ended g c (reads_weak d w) = not_refused-granted (named_or_nothing (noted_in ended g w)) (named-not_refused (noted_in ended g w))
reply_of-granted ended g c k = graph-granted g c

pub reply-granted : (ended : List Name) (g : Graph) (c : Command) → is_without_memory (reply_with ended g c) ≡ false
reply-granted ended g c = reply_of-granted ended g c (class_of c)

-- the reply by the graph takes the graph to its step
pub graph_after-granted : (ended : List Name) (g : Graph) (c : Command) → graph_after ended g c (Some (reply_with ended g c)) ≡ step_with ended g c
graph_after-granted ended g c = ap (λ b. elim b [ true ↦ g | false ↦ step_with ended g c ]) (reply-granted ended g c)

-- where no weak register is read, the step and the reply are the graph's own
step_of-plain : (ended : List Name) (g : Graph) (c : Command) (k : Class) → is_weak_reader k ≡ false → step_of ended g c k ≡ step g c
step_of-plain ended g c k e = grind arith

pub step-plain : (ended : List Name) (g : Graph) (c : Command) → reads_weakly c ≡ false → step_with ended g c ≡ step g c
step-plain ended g c e = step_of-plain ended g c (class_of c) e

reply_of-plain : (ended : List Name) (g : Graph) (c : Command) (k : Class) → is_weak_reader k ≡ false → reply_of_class ended g c k ≡ reply_to g c
reply_of-plain ended g c k e = grind arith

pub reply-plain : (ended : List Name) (g : Graph) (c : Command) → reads_weakly c ≡ false → reply_with ended g c ≡ reply_to g c
reply-plain ended g c e = reply_of-plain ended g c (class_of c) e

-- Collections in units

-- units are no deed
units-no_deed : (k : Class) → is_units k ≡ true → is_deed k ≡ false
units-no_deed k e = grind arith

-- units read no weak register
units-read_none : (k : Class) → is_units k ≡ true → is_weak_reader k ≡ false
units-read_none k e = grind arith

-- collections in units leave the graph
pub units-stay : (ended : List Name) (g : Graph) (c : Command) → runs_units c ≡ true → step_with ended g c ≡ g
units-stay ended g c e = step-plain ended g c (units-read_none (class_of c) e) ∙ no_deed-leaves c (units-no_deed (class_of c) e) g

-- the graph refuses no collection in units
pub units-allowed : (o : Objects) (c : Command) → runs_units c ≡ true → refusal_of o c ≡ None
units-allowed o c e = no_deed-allowed c (units-no_deed (class_of c) e) o

-- collections in units may want memory
pub units-want : (s : State) (c : Command) → runs_units c ≡ true → may_want_memory s c ≡ true
units-want s c e = wants (class_of c) e
  where
    wants : (k : Class) → is_units k ≡ true → class_may_want_memory s c k ≡ true
    wants k e = grind arith

-- a script collection runs no units
apart : (k : Class) → is_units k ≡ true → is_script_collection k ≡ false
apart k e = grind arith

-- collections in units are not `gc`
pub units-no_gc : (c : Command) → runs_units c ≡ true → is_gc c ≡ false
units-no_gc c e = apart (class_of c) e

-- `gc` runs no units
pub gc-no_units : (c : Command) → is_gc c ≡ true → runs_units c ≡ false
gc-no_units c e = units (class_of c) e
  where
    units : (k : Class) → is_script_collection k ≡ true → is_units k ≡ false
    units k e = grind arith
