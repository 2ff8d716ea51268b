use Rattle.std.proofs.Common.{inl}
use Rattle.cc_laws_snapshot.proofs.KindsWaiting.{reached_wait-suspected, some_wait-suspected, none_waits-suspected}
use Rattle.cc_laws_snapshot.proofs.kinds.waiting_keeps_suspected.Goals as goal

pub returns-clause-more_wait : goal.returns-clause-more_wait
returns-clause-more_wait c = λ h candidates ks js w more. reached_wait-suspected h candidates ks js w (λ k m. inl (more k m))

pub returns-clause-reached_need_not : goal.returns-clause-reached_need_not
returns-clause-reached_need_not c = reached_wait-suspected

pub returns-clause-some_wait : goal.returns-clause-some_wait
returns-clause-some_wait c = some_wait-suspected

pub returns-clause-none_waits : goal.returns-clause-none_waits
returns-clause-none_waits c = none_waits-suspected
