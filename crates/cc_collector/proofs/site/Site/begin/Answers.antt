use Rattle.std.proofs.Common.{ap, ◌∙◌, arith}
use Rattle.cc_heaps.specs.Keyed.{Keyed}
use Rattle.cc_collector.proofs.Keeping.{begin-done, begin-refused}
use Rattle.cc_collector.proofs.site.Site.begin.Goals as goal

pub returns-in-Ok-clause-done : goal.returns-in-Ok-clause-done
returns-in-Ok-clause-done g c =
    let b = c.in-Ok.build in
    let e = c.in-Ok.ensures in
    begin-done c.args.heaps.now c.begin_in.new.heaps b (g.N.Notices.telling c.args.out.now) c.requires.runs e.begun.heap e.begun.snapshot
    (record { order = e.unseen.order; colours = e.unseen.colours c.requires.runs.colours; goes_on = record { built = e.begun.built; held = e.begun.held; fresh = e.begun.fresh c.requires.runs.colours }; unmarked = ap (λ (v : Keyed). v.marking) e.begun.heap ∙ c.requires.runs.unmarked })
    e.unseen.stands e.begun.suspected

pub returns-in-Err-clause-done : goal.returns-in-Err-clause-done
returns-in-Err-clause-done g c = grind (arith, begin-refused, g.N.Notices.telling)
