use Rattle.std.proofs.Common.{◌≡◌, option_map, sym, ◌∙◌, ap, subst}
use Rattle.cc_counted.specs.declared.held.Held.TheVariants as held
use Rattle.cc_heaps.specs.Fields.{keyed_of}
use Rattle.cc_heaps.proofs.Walking.{GivesNext, native-next, script-next}
use Rattle.cc_heaps.proofs.heaps.Heaps.walk_next.Goals as goal
use Rattle.cc_heaps.proofs.heaps.Heaps.walk_next.Goals.{in-Some-walk_next, in-None}

pub invariant_of-self : goal.invariant_of-self
invariant_of-self c = (native-next c.self.inside c.self.invariant c.in-Some.key c.walk_next.new.self c.in-Some.ensures.next).linked

pub returns-in-Some-clause-kept : goal.returns-in-Some-clause-kept
returns-in-Some-clause-kept c = rw (← c.self.view_is) (native-next c.self.inside c.self.invariant c.in-Some.key c.walk_next.new.self c.in-Some.ensures.next).kept

pub invariant_of-self-2 : goal.invariant_of-self-2
invariant_of-self-2 c =
    (script-next c.self.inside c.self.invariant c.walk_next.new.self c.in_default.ensures.next.1 c.in_default.ensures.next.0 c.walk_next-2.new.self c.walk_next-2.result
    c.walk_next-2.ensures.some c.walk_next-2.ensures.none).linked

-- no native waits: what a script object answers is the answer
pub returns-clause-next : goal.returns-clause-next
returns-clause-next c =
    let given = script-next c.self.inside c.self.invariant c.walk_next.new.self c.in_default.ensures.next.1 c.in_default.ensures.next.0 c.walk_next-2.new.self c.walk_next-2.result
    c.walk_next-2.ensures.some c.walk_next-2.ensures.none in
    let answered : c.match-walk_next-2.result ≡ option_map held.Script c.walk_next-2.result = elim c.match-walk_next-2.branch [
      | in-Some-walk_next b ↦ b.result-is ∙ sym (ap (option_map held.Script) b.in-Some-walk_next.is)
      | in-None b ↦ b.result-is ∙ sym (ap (option_map held.Script) b.in-None.is)
    ] in
    let next : GivesNext (keyed_of c.self.inside) (keyed_of (record c.self.inside { counted = c.walk_next.new.self; scripts = c.walk_next-2.new.self })) c.match-walk_next-2.result =
    subst (λ o. GivesNext (keyed_of c.self.inside) (keyed_of (record c.self.inside { counted = c.walk_next.new.self; scripts = c.walk_next-2.new.self })) o) (sym answered) given.next in
    subst (λ v. GivesNext v (keyed_of (record c.self.inside { counted = c.walk_next.new.self; scripts = c.walk_next-2.new.self })) c.match-walk_next-2.result) c.self.view_is next

pub returns-clause-heap : goal.returns-clause-heap
returns-clause-heap c =
    rw (← c.self.view_is) (script-next c.self.inside c.self.invariant c.walk_next.new.self c.in_default.ensures.next.1 c.in_default.ensures.next.0 c.walk_next-2.new.self c.walk_next-2.result
    c.walk_next-2.ensures.some c.walk_next-2.ensures.none).heap

pub returns-clause-kept : goal.returns-clause-kept
returns-clause-kept c =
    rw (← c.self.view_is) (script-next c.self.inside c.self.invariant c.walk_next.new.self c.in_default.ensures.next.1 c.in_default.ensures.next.0 c.walk_next-2.new.self c.walk_next-2.result
    c.walk_next-2.ensures.some c.walk_next-2.ensures.none).kept

pub returns-in-Some-clause-marks : goal.returns-in-Some-clause-marks
returns-in-Some-clause-marks c = rw (← c.self.view_is) (native-next c.self.inside c.self.invariant c.in-Some.key c.walk_next.new.self c.in-Some.ensures.next).marks

pub returns-clause-marks : goal.returns-clause-marks
returns-clause-marks c =
    rw (← c.self.view_is) (script-next c.self.inside c.self.invariant c.walk_next.new.self c.in_default.ensures.next.1 c.in_default.ensures.next.0 c.walk_next-2.new.self c.walk_next-2.result
    c.walk_next-2.ensures.some c.walk_next-2.ensures.none).marks
