use Rattle.std.proofs.Common.{sym, ◌∙◌, ap, option_map}
use Rattle.cc_names.specs.declared.number.SKey.{SKey}
use Rattle.cc_chain.proofs.Slots.{among-linked}
use Rattle.cc_script.specs.Threads.{of_order}
use Rattle.cc_script.specs.Cells.{links_in}
use Rattle.cc_script.specs.Parts.{lists_of, shows}
use Rattle.cc_script.proofs.Places.{live-cell}
use Rattle.cc_script.proofs.Ordering.{behind-shown, live-after}
use Rattle.cc_script.proofs.parts.ScriptParts.next.Goals as goal

pub next-requires : goal.next-requires
next-requires c =
    let p = c.args.self.now in
    let l = lists_of p in
    let f = live-cell l c.requires.at_rest.placed c.args.key.0 c.requires.live in
    among-linked (links_in of_order p.cells.slots) p.order l.order c.requires.at_rest.chained.order c.args.key.0 (c.requires.at_rest.placed.ordered c.args.key.0 f.0 f.1)

pub returns-in_err-next-clause-key : goal.returns-in_err-next-clause-key
returns-in_err-next-clause-key c =
    let l = lists_of c.args.self.now in
    ap (option_map (λ (k : SKey). k.0)) c.from_residual.ensures ∙ (c.in_err-next.ensures l.order c.requires.at_rest.chained.order ∙ sym (behind-shown l c.args.key.0))

pub returns-clause-key : goal.returns-clause-key
returns-clause-key c = search (behind-shown, c.in_ok-next.ensures)

pub returns-clause-live : goal.returns-clause-live
returns-clause-live c =
    let l = lists_of c.args.self.now in
    live-after (shows c.args.self.now) c.args.key.0 c.in_ok-next.next (c.in_ok-next.ensures l.order c.requires.at_rest.chained.order ∙ sym (behind-shown l c.args.key.0))
