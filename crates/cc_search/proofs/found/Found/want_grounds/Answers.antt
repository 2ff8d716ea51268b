use Rattle.std.proofs.Common.{◌++◌, ◌∷◌, sym, subst}
use Rattle.cc_model.specs.declared.item.Reason.{Reason}
use Rattle.cc_model.specs.Derivations.{grounds, steps_of}
use Rattle.cc_search.specs.Needed.{AreWanted}
use Rattle.cc_search.proofs.found.Found.want_grounds.Goals as goal

pub returns-in-Pair : goal.returns-in-Pair
returns-in-Pair c = λ names wanted.
    subst (λ (r : Reason). AreWanted (steps_of c.args.self.now) c.want-in-Pair-2.new.wanted (grounds r ++ names)) (sym c.in-Pair.is)
    (c.want-in-Pair-2.ensures (c.in-Pair.with ∷ names) (c.want-in-Pair.ensures names wanted))
