use Rattle.cc_lists.proofs.Counting.{count_by-below, count_by-less}
use Rattle.cc_lists.proofs.rarer_is_shorter.Goals as goal

pub returns-clause-below : goal.returns-clause-below
returns-clause-below g c = λ k xs ys h. count_by-below k.same k.exact k.first_counts k.first_key k.second_counts k.second_key xs ys h

pub returns-clause-less : goal.returns-clause-less
returns-clause-less g c = λ k xs ys w h l. count_by-less k.same k.exact k.first_counts k.first_key k.second_counts k.second_key xs ys w h l
