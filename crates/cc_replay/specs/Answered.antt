-- What is answered to one ask.
use Rattle.cc_model.specs.Telling.{Telling, Tells}
use Rattle.cc_model.specs.Answers.{Answer, items_of}
use Rattle.cc_model.specs.Asks.{Ask}
use Rattle.cc_model.specs.Collecting.{Machine}
use Rattle.cc_laws_run.specs.Memory.{IsDoneFor}

-- THE ASK IS ANSWERED as the plain run answers it for some answers of memory, from one machine to another, and the answer
-- is told
pub record IsAnswered (old new : Machine) (ask : Ask) (before after : Telling) : Type 0 where
  pub answer : Answer
  pub done : IsDoneFor old ask answer new
  pub told : Tells before after (items_of answer)
