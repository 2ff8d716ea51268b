use Rattle.std.proofs.Common.{◌∙◌, Some, arith}
use Rattle.cc_pages.proofs.Places.{err-always, err-then, ok-then}
use Rattle.cc_pages.proofs.Putting.{group-added, group-here, group-kept, group-others}
use Rattle.cc_pages.proofs.group.put_in_group.Goals as goal

pub index_mut-requires : goal.index_mut-requires
index_mut-requires c = omega (arith, c.in_ok-reach.ensures.room, c.reach.new.lists.ok.0)

pub returns-in_err-reach-clause-err : goal.returns-in_err-reach-clause-err
returns-in_err-reach-clause-err c = err-always c.from_residual.result (group-added c.args.group.now.items c.reach.new.lists.items c.reach.ensures.added)

pub returns-clause-here : goal.returns-clause-here
returns-clause-here c = ok-then c.put_in_page.result c.put_in_page.ensures.put
    (λ put. group-here c.reach.new.lists.items c.args.page c.args.place (Some c.args.value) _ _ c.in_ok-reach.ensures.room c.index_mut.ensures.value put)

pub returns-clause-others : goal.returns-clause-others
returns-clause-others c = ok-then c.put_in_page.result c.put_in_page.ensures.put
    (λ put k i other.
    group-others c.reach.new.lists.items c.args.page c.args.place (Some c.args.value) _ _ c.in_ok-reach.ensures.room c.index_mut.ensures.value put k i other
    ∙ group-added c.args.group.now.items c.reach.new.lists.items c.reach.ensures.added k i)

pub returns-clause-err : goal.returns-clause-err
returns-clause-err c = err-then c.put_in_page.result c.put_in_page.ensures.err
    (λ same k i.
    group-kept c.reach.new.lists.items c.args.page _ _ c.in_ok-reach.ensures.room c.index_mut.ensures.value same k i
    ∙ group-added c.args.group.now.items c.reach.new.lists.items c.reach.ensures.added k i)
