use Rattle.std.proofs.Common.{◌≡◌, drop}
use Rattle.cc_model.specs.Tokens.{tokens_of}
use Rattle.cc_reader.proofs.tokens.without_spaces.Given as goal

abbrev pub invariant-bytes : goal.invariant-bytes
invariant-bytes l = tokens_of l.line ≡ tokens_of (drop l.place l.line)
