use Rattle.cc_model.specs.declared.command.Command.TheVariants.{Gc}
use Rattle.cc_model.specs.Asks.{taken}
use Rattle.cc_model.specs.Lawful.{next}
use Rattle.cc_model.specs.Collecting.{gc}
use Rattle.cc_model.specs.Run.{do_ask}
use Rattle.cc_laws_run.proofs.MissesLost.{native-lost}
use Rattle.cc_laws_run.proofs.FirstCollection.{first_collection-told}
use Rattle.cc_laws_run.proofs.FollowedAsks.{after_gc-runs, after_gc-dooms}
use Rattle.cc_laws_run.proofs.WholeRuns.{after_gc-keeps, asks-miss, asks-miss_none, begun-misses, begun-misses_none}
use Rattle.cc_laws_run.proofs.misses.collections_after_gc_miss_nothing.Goals as goal

pub returns-clause-all_natives : goal.returns-clause-all_natives
returns-clause-all_natives c = λ h k m. native-lost h k m

pub returns-clause-with_natives : goal.returns-clause-with_natives
returns-clause-with_natives c = λ m s r. after_gc-keeps m s r

pub returns-clause-begins : goal.returns-clause-begins
returns-clause-begins c = λ m s ask asks r suspected e range.
    begun-misses (gc m).machine (next s (taken Gc) (do_ask m (taken Gc)).answer) (after_gc-runs m s r) (after_gc-dooms m s r suspected) ask asks e range

pub returns-clause-goes_on : goal.returns-clause-goes_on
returns-clause-goes_on c = λ m s asks ds met r i now. asks-miss m s asks ds r i met now

pub returns-clause-begins_at_all : goal.returns-clause-begins_at_all
returns-clause-begins_at_all c = λ m s ask asks r suspected e range none.
    begun-misses_none (gc m).machine (next s (taken Gc) (do_ask m (taken Gc)).answer) (after_gc-runs m s r) (after_gc-dooms m s r suspected) ask asks e range none

pub returns-clause-goes_on_at_all : goal.returns-clause-goes_on_at_all
returns-clause-goes_on_at_all c = λ m s asks ds r i none keeps d. asks-miss_none m s asks ds r i none keeps d

pub returns-clause-told : goal.returns-clause-told
returns-clause-told c = λ m asks stopped. first_collection-told m asks stopped
