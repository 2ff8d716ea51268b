use Rattle.cc_lists.proofs.Members.{has-decides}
use Rattle.cc_lists.proofs.membership_is_decided.Goals as goal

pub returns : goal.returns
returns g c = λ same xs x exact. has-decides same exact xs x
