-- THE FIRST CAUSES, which are told before memory is wanted.
use Rattle.std.proofs.Common.{◌≡◌, Option, Some, None, Result, Err, arith}
use Rattle.std.proofs.lemmas.Bool.{false≢true}
use Rattle.cc_host.specs.Stops.{IsStoppedBy, IsStoppedOrRefused, first}
use Rattle.cc_host.specs.declared.stop.Stop.{Stop}

-- the first of two causes is the first of three
pub first-cause : {T : Type 0} (t u v : Option Stop) (r : Result T Stop) (s : Stop) → IsStoppedOrRefused (first t (first u v)) r → first t u ≡ Some s → r ≡ Err s
first-cause None None v r s h f = grind arith
first-cause None (Some k) v r s h f = cc
first-cause (Some k) u v r s h f = cc

-- a test before it did not pass
pub failed-first : (T U : Type 0) (t u : Option Stop) (e s : Stop) (r : Result U Stop) → r ≡ Err e → IsStoppedBy {T = T} t (Err e) → first t u ≡ Some s → r ≡ Err s
failed-first T U None u e s r is h f = absurd (false≢true h)
failed-first T U (Some k) u e s r is h f = cc
