use Rattle.std.proofs.Common.{◌≡◌, ◌≤◌, drop}
use Rattle.cc_model.specs.Tokens.{digits_from}
use Rattle.cc_reader.proofs.tokens.digits.Given as goal

abbrev pub invariant-digits : goal.invariant-digits
invariant-digits l = record {
  left : digits_from l.most 0 l.token ≡ digits_from l.most l.value (drop l.byte-index l.token);
  within : l.value ≤ l.most;
}
