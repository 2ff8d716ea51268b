use Rattle.cc_heaps.proofs.FewCounts.{few-owned}
use Rattle.cc_mutator.proofs.Following.{applied-replies, applied-fresh, applied-colours, applied-held, applied-remembers, applied-stands}
use Rattle.cc_mutator.proofs.applying.apply.Goals as goal

pub returns-clause-replies : goal.returns-clause-replies
returns-clause-replies g c = search (applied-replies)

pub returns-clause-stands : goal.returns-clause-stands
returns-clause-stands g c = λ s agrees made stands.
    applied-stands c.args.command.now c.args.heaps.now c.answer.new.heaps c.args.weak.now c.answer.new.weak c.answer.result (g.N.Notices.telling c.args.out.now) (g.N.Notices.telling c.answer.new.out)
    c.answer.ensures c.requires.order.1 c.requires.in_range c.requires.applied c.requires.keys s agrees made stands

pub returns-clause-keys : goal.returns-clause-keys
returns-clause-keys g c =
    applied-held c.args.command.now c.args.heaps.now c.answer.new.heaps c.args.weak.now c.answer.new.weak c.answer.result (g.N.Notices.telling c.args.out.now) (g.N.Notices.telling c.answer.new.out)
    c.answer.ensures c.requires.order.1 c.requires.in_range c.requires.colours

pub returns-clause-kept : goal.returns-clause-kept
returns-clause-kept g c = search (few-owned, applied-colours, applied-fresh, applied-remembers)
