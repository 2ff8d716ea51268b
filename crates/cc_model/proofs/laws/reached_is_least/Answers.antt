use Rattle.cc_lists.proofs.Closure.{closure-derived, derived-closure}
use Rattle.cc_names.specs.Names.{same_name}
use Rattle.cc_names.proofs.NameTests.{same_name-exact}
use Rattle.cc_model.specs.Reached.{reach_rules}
use Rattle.cc_model.proofs.Reaching.{reached-derived, derived-reached, reached-decided}
use Rattle.cc_model.proofs.laws.reached_is_least.Goals as goal

pub returns-clause-least : goal.returns-clause-least
returns-clause-least c = λ g x. (reached-derived g x, derived-reached g x)

pub returns-clause-list : goal.returns-clause-list
returns-clause-list c = λ g x. (
  (λ d. derived-closure same_name same_name-exact (reach_rules g) x (reached-derived g x d)),
  (λ m. derived-reached g x (closure-derived same_name same_name-exact (reach_rules g) x m)),
)

pub returns-clause-decided : goal.returns-clause-decided
returns-clause-decided c = reached-decided
