use Rattle.std.proofs.Common.{◌≡◌, subst, arith, length}
use Rattle.std.proofs.lemmas.List.Elements.{Contains-get_or}
use Rattle.cc_lists.proofs.Members.{Among-contains}
use Rattle.cc_weakmaps.specs.Living.{Stays, StayBefore}
use Rattle.cc_weakmaps.proofs.Keeping.{stay-further}
use Rattle.cc_weakmaps.proofs.entry_list.first_dead.Goals as goal

pub stays-requires-clause-the_map : goal.stays-requires-clause-the_map
stays-requires-clause-the_map g c = grind (arith, Among-contains, Contains-get_or, c.requires)

pub stays-requires-clause-key : goal.stays-requires-clause-key
stays-requires-clause-key g c = grind (arith, Among-contains, Contains-get_or, c.requires)

pub loop-place-preserved : goal.loop-place-preserved
loop-place-preserved g c =
    let answers = goal.F-post g c.args.alive.now in
    let x = c.index-entries-place.result in
    record { stay = stay-further answers c.args.entries.now c.loop-place.place x c.loop-place.invariant.stay c.loop-place-test.true c.index-entries-place.is (subst (Stays answers x) c.if-not-stays.false c.stays.ensures) }

pub returns-clause-stay : goal.returns-clause-stay
returns-clause-stay g c =
    let same : c.loop-place.place ≡ length c.args.entries.now = omega (arith, c.loop-place-test.false, c.loop-place.auto.place-end) in
    subst (StayBefore (goal.F-post g c.args.alive.now) c.args.entries.now) same c.loop-place.invariant.stay
