use Rattle.std.proofs.Common.{sym, subst}
use Rattle.std.specs.Option.{option_to_list}
use Rattle.cc_counted.specs.declared.held.Held.TheVariants as held
use Rattle.cc_heaps.specs.Changes.{native_name}
use Rattle.cc_skip.specs.Walked.{Enters}
use Rattle.cc_skip.proofs.Entering.{Enters-none, Enters-one}
use Rattle.cc_skip.proofs.walking.enter_native.Goals as goal

pub returns-in-Some : goal.returns-in-Some
returns-in-Some c =
    let v = c.args.heaps.now in
    let e = c.walk_add.ensures in
    subst (λ o. Enters v c.walk_add.new.self (option_to_list (native_name v o))) (sym c.in-Some.is)
    (Enters-one v c.walk_add.new.self (held.Native c.in-Some.key) e.walk e.came e.kept)

pub returns-in_default : goal.returns-in_default
returns-in_default c =
    let v = c.args.heaps.now in
    subst (λ o. Enters v v (option_to_list (native_name v o))) (sym c.in_default.is) (Enters-none v)
