-- WHAT IT MEANS THAT A COMMAND IS NOT REFUSED: none of the five tests holds.
use Rattle.std.proofs.Common.{arith, ◌≡◌, false, None}
use Rattle.cc_model.specs.declared.command.Command.{Command}
use Rattle.cc_model.specs.Checks.{Objects, lacks_object, has_wrong_object, has_no_slot, has_wrong_content, is_full, refusal_of}

-- the tests of a command that is not refused
pub record IsTaken (o : Objects) (c : Command) : Type 0 where
  pub objects : lacks_object o c ≡ false
  pub kinds : has_wrong_object o c ≡ false
  pub slot : has_no_slot o c ≡ false
  pub content : has_wrong_content o c ≡ false
  pub room : is_full o c ≡ false

-- where there is no refusal, none of them holds
pub IsTaken-from : (o : Objects) (c : Command) → refusal_of o c ≡ None → IsTaken o c
unfolding refusal_of
IsTaken-from o c e = grind arith
