-- What was appended so far is the front of the part.
use Rattle.std.proofs.Common.{◌≡◌, ◌++◌, take, vec_capacity}
use Rattle.cc_outside.proofs.bytes_sink.append_in_place.Given as goal

abbrev pub invariant-loop-byte : goal.invariant-loop-byte
invariant-loop-byte l = (l.bytes.items ≡ l.fn.bytes.items ++ take l.byte-index l.part) × (vec_capacity l.bytes ≡ vec_capacity l.fn.bytes)
