-- A STEP OF THE GRAPH BESIDE THE ENDED NAMES keeps what a step of the graph keeps.
use Rattle.std.proofs.Common.{◌≡◌, true, false, ◌||◌, List, refl, sym, ◌∙◌, ap, subst, arith}
use Rattle.std.specs.Prelude.{IsTrue}
use Rattle.std.proofs.lemmas.Bool.{false≢true}
use Rattle.cc_names.specs.declared.name.Name.{Name}
use Rattle.cc_names.specs.declared.register.Reg.TheVariants.{N}
use Rattle.cc_model.specs.declared.command.Command.{Command}
use Rattle.cc_model.specs.declared.command.Command.TheVariants.{Native, Script, WeakMap, Proxy, Wrap}
use Rattle.cc_model.specs.declared.item.Reply.TheVariants.{Named}
use Rattle.cc_model.specs.Graph.{Graph}
use Rattle.cc_model.specs.Lawful.{is_gc, is_refused, noted_in, reply_with, runs_units, step_of, step_with}
use Rattle.cc_model.specs.Mutating.{Class, reads_weak, class_of, is_script_collection, is_units, is_weak_reader, reads_weakly}
use Rattle.cc_model.specs.WellMade.{IsWellMade, was_made}
use Rattle.cc_verdict.proofs.AllListed.{collection-granted}
use Rattle.cc_verdict.proofs.Stays.{reply-plain, step-plain}
use Rattle.cc_check.specs.Standing.{lists, makes}
use Rattle.cc_check.proofs.Naming.{reply-made, reply-new}
use Rattle.cc_check.proofs.Stays.{Stays, Stays-register, Stays-step}

module _ (ended : List Name) (g : Graph) where
  -- its limits, and what was made
  pub Stays-step_with : (c : Command) → Stays g (step_with ended g c)
  Stays-step_with c = of_class (class_of c)
    where
      of_class : (k : Class) → Stays g (step_of ended g c k)
      of_class (reads_weak d w) = Stays-register g (N d) (noted_in ended g w)
      of_class _ = Stays-step g c

  -- A command whose reply names what a census lists reads no weak register

  listed-plain : (c : Command) → lists c ≡ true → reads_weakly c ≡ false
  listed-plain (Native d n) l = refl
  listed-plain (Script d n) l = refl
  listed-plain (WeakMap d) l = refl
  listed-plain (Proxy d s) l = refl
  listed-plain (Wrap d s) l = refl
  listed-plain _ l = absurd (false≢true l)

  made-listed : (c : Command) → makes c ≡ true → lists c ≡ true
  made-listed (Wrap d s) m = refl
  made-listed c m = m

  -- what its reply names was made, where a census lists it
  pub reply_with-made : (c : Command) (x : Name) → IsWellMade g → reply_with ended g c ≡ Named x → lists c ≡ true → IsTrue (was_made (step_with ended g c) x)
  reply_with-made c x w e l =
      let plain = listed-plain c l in
      subst (λ (f : Graph). IsTrue (was_made f x)) (sym (step-plain ended g c plain)) (reply-made g c x w (sym (reply-plain ended g c plain) ∙ e) l)

  -- what the command made was not made before
  pub reply_with-new : (c : Command) (x : Name) → reply_with ended g c ≡ Named x → makes c ≡ true → was_made g x ≡ false
  reply_with-new c x e m = reply-new g c x (sym (reply-plain ended g c (listed-plain c (made-listed c m))) ∙ e) m

  -- A collection reads no weak register

  collection-plain : (k : Class) → (is_script_collection k || is_units k) ≡ true → is_weak_reader k ≡ false
  collection-plain k e = grind arith

  -- no collection is refused
  pub reply_with-granted : (c : Command) → IsTrue (is_gc c || runs_units c) → is_refused (reply_with ended g c) ≡ false
  reply_with-granted c e = ap is_refused (reply-plain ended g c (collection-plain (class_of c) e)) ∙ collection-granted g c e
