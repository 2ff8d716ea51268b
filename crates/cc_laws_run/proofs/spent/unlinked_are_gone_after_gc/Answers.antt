use Rattle.cc_model.specs.declared.command.Command.TheVariants.{Gc}
use Rattle.cc_model.specs.Asks.{taken}
use Rattle.cc_model.specs.Lawful.{next}
use Rattle.cc_model.specs.Collecting.{gc}
use Rattle.cc_model.specs.Run.{do_ask}
use Rattle.cc_laws_run.proofs.SpentAsks.{gc-gone, ask-spends, asks-spend}
use Rattle.cc_laws_run.proofs.FollowedAsks.{after_gc-runs, after_gc-dooms}
use Rattle.cc_laws_run.proofs.WholeRuns.{asks-end, asks-end_all, asks-gone, asks-gone_all, begun-end, begun-end_all}
use Rattle.cc_laws_run.proofs.spent.unlinked_are_gone_after_gc.Goals as goal

pub returns-clause-begins : goal.returns-clause-begins
returns-clause-begins c = λ m s ask asks r suspected e range ended.
    begun-end (gc m).machine (next s (taken Gc) (do_ask m (taken Gc)).answer) (after_gc-runs m s r) (after_gc-dooms m s r suspected) ask asks e range ended

pub returns-clause-ends : goal.returns-clause-ends
returns-clause-ends c = λ m s asks ds met r i now ended. asks-end m s asks ds r i met now ended

pub returns-clause-begins_at_all : goal.returns-clause-begins_at_all
returns-clause-begins_at_all c = λ m s ask asks r suspected e range none ended.
    begun-end_all (gc m).machine (next s (taken Gc) (do_ask m (taken Gc)).answer) (after_gc-runs m s r) (after_gc-dooms m s r suspected) ask asks e range none ended

pub returns-clause-ends_at_all : goal.returns-clause-ends_at_all
returns-clause-ends_at_all c = λ m s asks ds r i none keeps d ended. asks-end_all m s asks ds r i none keeps d ended

pub returns-clause-stays : goal.returns-clause-stays
returns-clause-stays c = λ m s ask ds r i keeps d. ask-spends m s ask ds r i keeps d

pub returns-clause-all_stay : goal.returns-clause-all_stay
returns-clause-all_stay c = λ m s asks ds r i keeps d. asks-spend m s asks ds r i keeps d

pub returns-clause-gone : goal.returns-clause-gone
returns-clause-gone c = λ m s x ds r keeps d i. gc-gone m s x ds r d i

pub returns-clause-gone_with_it : goal.returns-clause-gone_with_it
returns-clause-gone_with_it c = λ m s asks x ds met r i now unrefused member out. asks-gone m s asks ds r i met now unrefused x member out

pub returns-clause-gone_with_it_at_all : goal.returns-clause-gone_with_it_at_all
returns-clause-gone_with_it_at_all c = λ m s asks x ds r i none keeps d unrefused member. asks-gone_all m s asks ds r i none keeps d unrefused x member
