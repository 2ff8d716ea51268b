use Rattle.std.proofs.Common.{arith, ◌≡◌, ◌+◌, ◌≤◌, [], subst}
use Rattle.std.specs.Prelude.{IsTrue}
use Rattle.std.proofs.lemmas.Bool.{and_parts, leb-true}
use Rattle.cc_names.specs.declared.name.Name.{Name}
use Rattle.cc_names.specs.Names.{number_of}
use Rattle.cc_model.specs.declared.command.Command.{Command}
use Rattle.cc_model.specs.declared.item.Event.{Event}
use Rattle.cc_model.specs.declared.item.Event.TheVariants.{Unlinked}
use Rattle.cc_model.specs.Mutating.{Class, class_of}
use Rattle.cc_model.specs.Lawful.{may_unlink, runs_in, runs_allowed}
use Rattle.cc_verdict.specs.Hearing.{Told, may_come, runs_begun, runs_with}
use Rattle.cc_check.specs.Standing.{told_of}
use Rattle.cc_check.proofs.answer.Answer.after.Goals as goal

allowed-few : (c : Command) → runs_allowed c ≤ 2
allowed-few c = few_in (class_of c)
  where
    few_in : (k : Class) → runs_in k ≤ 2
    few_in k = grind arith

-- as many runs as there are with a native that may be unlinked are few
few : (c : Command) (t : Told) (e : Event) (x : Name) → IsTrue (may_come c t e) → e ≡ Unlinked x → runs_begun t.last (number_of x) ≡ 1 → t.runs + 1 ≤ 2
few c t e x may is begun =
    let own : IsTrue (may_come c t (Unlinked x)) = subst (λ (f : Event). IsTrue (may_come c t f)) is may in
    let parts = and_parts _ _ (and_parts (may_unlink c x) _ own).1 in
    let within : runs_with t x ≤ runs_allowed c = leb-true (runs_with t x) (runs_allowed c) parts.1 in
    omega (arith, allowed-few c)

pub overflow_add-after : goal.overflow_add-after
overflow_add-after c =
    let h : c.args.self.runs + 1 ≤ 2 = few c.args.self.command (told_of c.args.self [] []) c.args.event c.in-Unlinked.name (c.requires [] []) c.in-Unlinked.is c.if-begins_run.ensures in
    omega arith
