use Rattle.std.proofs.Common.{◌∙◌, Some, arith}
use Rattle.cc_pages.proofs.Places.{err-always, err-then, ok-then}
use Rattle.cc_pages.proofs.Putting.{groups-added, groups-here, groups-kept, groups-others}
use Rattle.cc_pages.proofs.group.put_in_new.Goals as goal

pub index_mut-group-requires : goal.index_mut-group-requires
index_mut-group-requires c = omega (arith, c.in_ok-reach.ensures.room, c.reach.new.lists.ok.0)

pub returns-in_err-reach-clause-err : goal.returns-in_err-reach-clause-err
returns-in_err-reach-clause-err c = err-always c.from_residual.result (groups-added c.args.groups.now.items c.reach.new.lists.items c.reach.ensures.added)

pub returns-clause-here : goal.returns-clause-here
returns-clause-here c = ok-then c.put_in_group.result c.put_in_group.ensures.here
    (λ put. groups-here c.reach.new.lists.items c.args.number _ _ c.in_ok-reach.ensures.room c.index_mut-group.ensures.value (Some c.args.value) put)

pub returns-clause-others : goal.returns-clause-others
returns-clause-others c = ok-then c.put_in_group.result c.put_in_group.ensures.others
    (λ same n other.
    groups-others c.reach.new.lists.items c.args.number _ _ c.in_ok-reach.ensures.room c.index_mut-group.ensures.value same n other
    ∙ groups-added c.args.groups.now.items c.reach.new.lists.items c.reach.ensures.added n)

pub returns-clause-err : goal.returns-clause-err
returns-clause-err c = err-then c.put_in_group.result c.put_in_group.ensures.err
    (λ same n.
    groups-kept c.reach.new.lists.items c.args.number _ _ c.in_ok-reach.ensures.room c.index_mut-group.ensures.value same n
    ∙ groups-added c.args.groups.now.items c.reach.new.lists.items c.reach.ensures.added n)
