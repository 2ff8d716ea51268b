use Rattle.std.proofs.Common.{ap, arith, drop, length-drop, length-take, ◌∙◌, ◌++◌, ◌-◌, length, take}
use Rattle.std.proofs.lemmas.List.{drop-drop}
use Rattle.cc_made.proofs.Filling.{all-given, filled-more}
use Rattle.cc_made.proofs.script.Script.give.Goals as goal

pub pieces-preserved : goal.pieces-preserved
pieces-preserved c =
    let left = c.args.self.now in
    let buf = c.pieces.buf in
    let given = c.pieces.given in
    let count = c.give_piece-count.result in
    let done = c.pieces.invariant in
    let more = c.give_piece-count.ensures in
    let part = drop given buf in
    record {
      filled = filled-more left c.args.buf.now buf c.give_piece-count.new.buf given count done.within done.filled
          (more.filled ∙ ap (λ l. take count l ++ drop count (take (length buf - given) part)) done.rest);
      rest = more.rest ∙ ap (drop count) done.rest ∙ drop-drop count given left;
      within = omega (arith, done.within, more.within, ap length done.rest, length-drop given left);
      room = omega (arith, more.bound, length-take (length buf - given) part, length-drop given buf, c.pieces-test.true, c.pieces.auto.buf);
    }

pub returns-then-count-eq0-clause-count : goal.returns-then-count-eq0-clause-count
returns-then-count-eq0-clause-count c =
    let given = c.pieces.given in
    let part = drop given c.pieces.buf in
    let done = c.pieces.invariant in
    let more = c.give_piece-count.ensures in
    all-given c.args.self.now c.give_piece-count.new.self given (length c.args.buf.now) c.give_piece-count.result done.within
    (omega (arith, c.pieces-test.true, c.pieces.auto.buf))
    c.if-count-eq0.true
    (more.rest ∙ ap (drop c.give_piece-count.result) done.rest)
    (more.end c.if-count-eq0.true (omega (arith, length-take (length c.pieces.buf - given) part, length-drop given c.pieces.buf, c.pieces-test.true)))
