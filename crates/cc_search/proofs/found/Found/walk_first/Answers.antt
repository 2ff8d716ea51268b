use Rattle.std.proofs.Common.{◌<◌, length, arith}
use Rattle.std.proofs.lemmas.Option.{slice_get_read}
use Rattle.cc_search.proofs.Turns.{first-walked}
use Rattle.cc_search.proofs.found.Found.walk_first.Goals as goal

pub returns-clause-first : goal.returns-clause-first
returns-clause-first c =
    let f = c.self.inside in
    let within : f.walked < length f.steps.items = grind (arith, c.self.invariant.walked, c.if-self-len.false, c.len.ensures) in
    first-walked f.walked f.steps.items c.args.self.now c.index.result.now c.self.view_is
    (slice_get_read f.steps.items (length f.steps.items) f.walked c.index.result.now (omega arith) within c.index.ensures)
