use Rattle.std.proofs.Common.{Some, refl, sym, subst}
use Rattle.std.specs.Prelude.{IsTrue}
use Rattle.cc_counted.specs.declared.held.Held.TheVariants as held
use Rattle.cc_walk.specs.Walks.{entered}
use Rattle.cc_script.specs.Objects.{is_there}
use Rattle.cc_heaps.specs.Changes.{IsThere}
use Rattle.cc_heaps.specs.Fields.{keyed_of}
use Rattle.cc_heaps.specs.Keyed.{Keyed}
use Rattle.cc_heaps.specs.Walking.{with_state_in}
use Rattle.cc_heaps.proofs.Linked.{with_counted}
use Rattle.cc_heaps.proofs.Walking.{IsWalked, native-stated, script-stated, state-changed}
use Rattle.cc_heaps.proofs.heaps.Heaps.walk_add.Goals as goal

of-native : (c : goal.After-walk_add) → IsWalked c.self.inside (with_counted c.self.inside c.walk_add.new.self) (with_state_in (keyed_of c.self.inside) (held.Native c.in-Native.key) entered)
of-native c = native-stated c.self.inside c.self.invariant (held.Native c.in-Native.key) entered c.in-Native.key refl c.walk_add.new.self c.walk_add.ensures.walks

of-script : (c : goal.After-walk_add-in-Script) →
    IsWalked c.self.inside (record c.self.inside { scripts = c.walk_add-in-Script.new.self }) (with_state_in (keyed_of c.self.inside) (held.Script c.in-Script.key) entered)
of-script c = script-stated c.self.inside c.self.invariant (held.Script c.in-Script.key) entered c.in-Script.key refl c.walk_add-in-Script.new.self c.walk_add-in-Script.ensures

pub invariant_of-self : goal.invariant_of-self
invariant_of-self c = (of-native c).linked

pub invariant_of-self-in-Script : goal.invariant_of-self-in-Script
invariant_of-self-in-Script c = (of-script c).linked

pub returns-in-Native-clause-came : goal.returns-in-Native-clause-came
returns-in-Native-clause-came c = rw (← c.self.view_is, c.in-Native.is) c.walk_add.ensures.came

pub returns-in-Script-clause-came : goal.returns-in-Script-clause-came
returns-in-Script-clause-came c =
    let v = c.args.self.now in
    let key = c.in-Script.key.0 in
    let there : IsTrue (is_there v.scripts key) = subst (λ o. IsThere v (Some o)) c.in-Script.is c.requires.there in
    let inside : IsTrue (is_there c.self.inside.scripts key) = subst (λ (w : Keyed). IsTrue (is_there w.scripts key)) (sym c.self.view_is) there in
    rw (← c.self.view_is, c.in-Script.is, c.walk_add-in-Script.ensures) (state-changed c.self.inside.scripts key entered inside)

pub returns-in-Native-clause-kept : goal.returns-in-Native-clause-kept
returns-in-Native-clause-kept c = rw (← c.self.view_is) (of-native c).kept

pub returns-in-Script-clause-walk : goal.returns-in-Script-clause-walk
returns-in-Script-clause-walk c = rw (← c.self.view_is, c.in-Script.is) (of-script c).keyed

pub returns-in-Script-clause-heap : goal.returns-in-Script-clause-heap
returns-in-Script-clause-heap c = rw (← c.self.view_is) (of-script c).heap

pub returns-in-Script-clause-kept : goal.returns-in-Script-clause-kept
returns-in-Script-clause-kept c = rw (← c.self.view_is) (of-script c).kept

pub returns-in-Native-clause-marks : goal.returns-in-Native-clause-marks
returns-in-Native-clause-marks c = rw (← c.self.view_is) (of-native c).marks

pub returns-in-Script-clause-marks : goal.returns-in-Script-clause-marks
returns-in-Script-clause-marks c = rw (← c.self.view_is) (of-script c).marks
