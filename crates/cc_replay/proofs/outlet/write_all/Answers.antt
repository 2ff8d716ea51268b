use Rattle.std.proofs.Common.{arith, take, drop, sym}
use Rattle.std.proofs.lemmas.List.{take-append-drop}
use Rattle.std.proofs.lemmas.Grind.{common_steps}
use Rattle.std.proofs.KnownBytes.{Appends-kept}
use Rattle.cc_lists.proofs.KnownBytes.{on_err_of}
use Rattle.cc_model.specs.Telling.{AppendsFront}
use Rattle.cc_replay.proofs.Pieces.{Appends-more}
use Rattle.cc_replay.proofs.outlet.write_all.Goals as goal

pub returns-in_err-taken-clause-part : goal.returns-in_err-taken-clause-part
returns-in_err-taken-clause-part g c =
    let written = g.K.Sink.written in
    let part : AppendsFront (written c.args.sink.now) (written c.write.new.self) c.args.bytes.now = record {
      front = take c.pieces.done c.args.bytes.now;
      rest = drop c.pieces.done c.args.bytes.now;
      whole = sym (take-append-drop c.pieces.done c.args.bytes.now);
      grown = Appends-kept (written c.args.sink.now) (written c.pieces.sink) (written c.write.new.self) _ c.pieces.invariant.grown c.in_err-taken.ensures.unwritten;
    } in
    on_err_of c.from_residual.result part

pub pieces-preserved : goal.pieces-preserved
pieces-preserved g c = grind (arith, common_steps, Appends-more)
