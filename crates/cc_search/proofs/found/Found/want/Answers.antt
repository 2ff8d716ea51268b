use Rattle.std.proofs.Common.{arith}
use Rattle.cc_model.specs.Derivations.{steps_of}
use Rattle.cc_search.proofs.Wanted.{wanted-found}
use Rattle.cc_search.proofs.found.Found.want.Goals as goal

pub returns-in-Some : goal.returns-in-Some
returns-in-Some c = λ names wanted.
    wanted-found (steps_of c.args.self.now) c.args.wanted.now c.args.name.now c.in-Some.i names (omega (arith, c.requires, c.in-Some.ensures.within)) c.in-Some.ensures.place wanted
