use Rattle.std.proofs.Common.{◌≡◌, take, drop}
use Rattle.std.specs.List.{filter}
use Rattle.cc_model.specs.Tokens.{has_bytes, pieces_from, tokens_of}
use Rattle.cc_reader.proofs.tokens.cut_token.Given as goal

abbrev pub invariant-bytes : goal.invariant-bytes
invariant-bytes l = tokens_of l.line ≡ filter has_bytes (pieces_from (take l.place l.line) (drop l.place l.line))
