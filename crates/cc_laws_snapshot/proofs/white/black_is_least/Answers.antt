use Rattle.cc_laws_snapshot.proofs.BlackRules.{black-by_rules, by_rules-black, black-listed, white-by_rules, white_natives-by_rules}
use Rattle.cc_laws_snapshot.proofs.white.black_is_least.Goals as goal

pub returns-clause-set : goal.returns-clause-set
returns-clause-set c = λ v s x. (black-by_rules v s x, by_rules-black v s x)

pub returns-clause-list : goal.returns-clause-list
returns-clause-list c = λ v s x. black-listed v s x

pub returns-clause-white : goal.returns-clause-white
returns-clause-white c = λ v s x. white-by_rules v s x

pub returns-clause-white_natives : goal.returns-clause-white_natives
returns-clause-white_natives c = λ h s k. white_natives-by_rules h s k
