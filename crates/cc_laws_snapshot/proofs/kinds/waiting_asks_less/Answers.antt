use Rattle.cc_laws_snapshot.proofs.KindsFresh.{buffered_wait-fresh, more_wait-fresh, some_wait-fresh, none_waits-fresh}
use Rattle.cc_laws_snapshot.proofs.kinds.waiting_asks_less.Goals as goal

pub returns-clause-more_wait : goal.returns-clause-more_wait
returns-clause-more_wait c = more_wait-fresh

pub returns-clause-some_wait : goal.returns-clause-some_wait
returns-clause-some_wait c = some_wait-fresh

pub returns-clause-none_waits : goal.returns-clause-none_waits
returns-clause-none_waits c = none_waits-fresh

pub returns-clause-buffered_need_not : goal.returns-clause-buffered_need_not
returns-clause-buffered_need_not c = buffered_wait-fresh
