use Rattle.cc_host.proofs.LastingRuns.{given-apart, lasts-then, later-away, later-gone, left-gone, left-once}
use Rattle.cc_host.proofs.lasting.nothing_comes_back.Goals as goal

pub returns-clause-composes : goal.returns-clause-composes
returns-clause-composes c = lasts-then

pub returns-clause-gone : goal.returns-clause-gone
returns-clause-gone c = λ a b x l plain given e. later-gone a b l x plain given e

pub returns-clause-away : goal.returns-clause-away
returns-clause-away c = λ a b x l plain given none. later-away a b l x plain given none

pub returns-clause-by_calls : goal.returns-clause-by_calls
returns-clause-by_calls c = λ a b number left. record { before = left.before; gone = left.gone }

pub returns-clause-by_collections : goal.returns-clause-by_collections
returns-clause-by_collections c = λ a b before after x told m. record { before = told.frees.were_there x m; gone = told.frees.gone x m }

pub returns-clause-freed : goal.returns-clause-freed
returns-clause-freed c = λ a b x ka kb plain left mark. left-gone a b x ka kb mark plain left

pub returns-clause-once : goal.returns-clause-once
returns-clause-once c = left-once

pub returns-clause-numbers : goal.returns-clause-numbers
returns-clause-numbers c = λ a b x l given. given-apart a b l x given
