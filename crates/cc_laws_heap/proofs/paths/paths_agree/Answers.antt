use Rattle.std.proofs.Common.{[], ◌∷◌, ap}
use Rattle.cc_lists.specs.Members.{has}
use Rattle.cc_names.specs.Names.{same_name}
use Rattle.cc_model.specs.Derivations.{named, needed_for}
use Rattle.cc_laws_heap.proofs.WalksAlike.{derivation-alike, why-alike}
use Rattle.cc_laws_heap.proofs.paths.paths_agree.Goals as goal

pub returns-clause-steps : goal.returns-clause-steps
returns-clause-steps c = λ h g x w m s. ap (λ ss. (needed_for ss (x ∷ [])).steps) (derivation-alike h g w m s)

pub returns-clause-led : goal.returns-clause-led
returns-clause-led c = λ h g x w m s. ap (λ ss. has same_name (named ss) x) (derivation-alike h g w m s)

pub returns-clause-answers : goal.returns-clause-answers
returns-clause-answers c = λ h g x w m s. why-alike h g w m s x
