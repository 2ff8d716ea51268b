-- A COMMAND THAT DOES NO DEED passes its checks, takes no memory as a deed, and leaves the graph and the listed names.
use Rattle.std.proofs.Common.{◌≡◌, true, false, List, Option, None, ◌∙◌, ap, arith}
use Rattle.cc_names.specs.declared.name.Name.{Name}
use Rattle.cc_model.specs.declared.command.Command.{Command}
use Rattle.cc_model.specs.declared.item.Reply.{Reply}
use Rattle.cc_model.specs.declared.item.Reply.TheVariants.{Done}
use Rattle.cc_model.specs.Ranges.{in_range}
use Rattle.cc_model.specs.Mutating.{Class, is_deed, is_mutator, is_units, class_of}
use Rattle.cc_model.specs.Checks.{Objects, refusal_of, reply_if_taken, refused_or, reply_of}
use Rattle.cc_model.specs.Deeds.{nothing_done, deed_of}
use Rattle.cc_model.specs.Graph.{Graph, objects_of, done_to, changed, unless_refused, step}
use Rattle.cc_model.specs.Heap.{Heap}
use Rattle.cc_model.specs.Effects.{takes_memory}
use Rattle.cc_model.specs.Listed.{after_reply}
use Rattle.cc_model.specs.Lawful.{step_of, step_with, reply_of_class, reply_with, graph_after}

-- a command that runs units of a collection is in range
pub units-in_range : (c : Command) → is_units (class_of c) ≡ true → in_range c ≡ true
units-in_range c e = grind arith

module _ (c : Command) (none : is_deed (class_of c) ≡ false) where
  -- no check refuses it
  pub no_deed-allowed : (o : Objects) → refusal_of o c ≡ None
  unfolding refusal_of
  no_deed-allowed o = grind arith

  -- what is not refused is done
  no_deed-done : (o : Objects) → reply_if_taken o c ≡ Done
  unfolding reply_if_taken
  no_deed-done o = grind arith

  -- its reply is `= ok`, where it is answered as a deed is
  pub no_deed-reply : (o : Objects) → reply_of o c ≡ Done
  no_deed-reply o = ap (λ r. refused_or r (reply_if_taken o c)) (no_deed-allowed o) ∙ no_deed-done o

  -- as a deed it takes no memory
  pub no_deed-takes : (h : Heap) → takes_memory h c ≡ false
  no_deed-takes h = grind arith

  -- its deed is none
  no_deed-nothing : (o : Objects) → deed_of o c ≡ nothing_done
  unfolding deed_of
  no_deed-nothing o = grind arith

  -- the graph takes no step
  pub no_deed-leaves : (g : Graph) → step g c ≡ g
  unfolding changed done_to
  no_deed-leaves g = ap (λ r. unless_refused r g (changed g c)) (no_deed-allowed (objects_of g)) ∙ ap (done_to g) (no_deed-nothing (objects_of g))

  -- where it reads no weak register, it takes none beside ended names either
  step_of-leaves : (ended : List Name) (g : Graph) (k : Class) → is_mutator k ≡ false → step_of ended g c k ≡ g
  step_of-leaves ended g k e = grind (arith, no_deed-leaves)

  pub no_deed-steps : is_mutator (class_of c) ≡ false → (ended : List Name) (g : Graph) → step_with ended g c ≡ g
  no_deed-steps e ended g = step_of-leaves ended g (class_of c) e

  -- its reply is `= ok` there too
  reply_of-done : (ended : List Name) (g : Graph) (k : Class) → is_mutator k ≡ false → reply_of_class ended g c k ≡ Done
  reply_of-done ended g k e = grind (arith, no_deed-reply)

  pub no_deed-replies : is_mutator (class_of c) ≡ false → (ended : List Name) (g : Graph) → reply_with ended g c ≡ Done
  no_deed-replies e ended g = reply_of-done ended g (class_of c) e

  -- whatever is replied
  pub no_deed-graph : is_mutator (class_of c) ≡ false → (ended : List Name) (g : Graph) (reply : Option Reply) → graph_after ended g c reply ≡ g
  no_deed-graph e ended g reply = grind (arith, step_of-leaves)

  -- nothing is listed for it
  pub no_deed-lists : (names : List Name) (reply : Option Reply) → after_reply names c reply ≡ names
  no_deed-lists names reply = grind arith
