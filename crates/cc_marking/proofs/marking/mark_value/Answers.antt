use Rattle.cc_marking.proofs.marking.mark_value.Goals as goal

pub returns-then-is_at_least-2-clause-whole : goal.returns-then-is_at_least-2-clause-whole
returns-then-is_at_least-2-clause-whole c = c.start.ensures.whole c.requires.whole
