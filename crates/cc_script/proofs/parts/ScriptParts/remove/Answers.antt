use Rattle.std.proofs.Common.{is_some, ap, sym, subst, ◌∙◌}
use Rattle.cc_lists.proofs.Held.{is_some-found}
use Rattle.cc_names.specs.declared.kind.Walked.TheVariants.{Out}
use Rattle.cc_chain.proofs.Slots.{among-linked, held-live}
use Rattle.cc_script.specs.ColourOrder.{HasColourOrder}
use Rattle.cc_script.specs.Lists.{cell_at, objects_of, with_walk, IsPlaced}
use Rattle.cc_script.specs.Threads.{of_order, of_walk}
use Rattle.cc_script.specs.Cells.{Beside, link_of, links_in}
use Rattle.cc_script.specs.Parts.{lists_of, shows, walk_in}
use Rattle.cc_script.proofs.Places.{live-cell, live-some}
use Rattle.cc_script.proofs.Keys.{coloured-there}
use Rattle.cc_script.proofs.Leaving.{IsPlaced-left, objects-left_out}
use Rattle.cc_script.proofs.Linking.{cell-held}
use Rattle.cc_script.proofs.Parting.{lists-parted, order-parted}
use Rattle.cc_script.proofs.Walked.{IsPlaced-walked}
use Rattle.cc_script.proofs.InOrder.{HasColourOrder-without}
use Rattle.cc_script.proofs.parts.ScriptParts.remove.Goals as goal

pub leave-requires-clause-walk : goal.leave-requires-clause-walk
leave-requires-clause-walk c = (walk_in c.args.self.now, c.requires.at_rest.chained.walk)

pub leave-requires-clause-live : goal.leave-requires-clause-live
leave-requires-clause-live c =
    let p = c.args.self.now in
    held-live (link_of of_walk) p.cells.slots c.args.key.0
    (cell-held p.cells.slots c.args.key.0 (live-some (lists_of p) c.requires.at_rest.placed c.args.key.0 (coloured-there (shows p) c.args.key.0 _ c.requires.white)))

pub unlink_at-requires-clause-chain : goal.unlink_at-requires-clause-chain
unlink_at-requires-clause-chain c =
    let p = c.args.self.now in
    let h = c.requires.at_rest.chained in
    ((lists_of p).order, order-parted p h c.args.key.0 c.leave.new.store c.leave.new.self (c.leave.ensures.walk (walk_in p) h.walk) c.leave.ensures.rest)

pub unlink_at-requires-clause-linked : goal.unlink_at-requires-clause-linked
unlink_at-requires-clause-linked c =
    let p = c.args.self.now in
    let l = lists_of p in
    let h = c.requires.at_rest.chained in
    let f = live-cell l c.requires.at_rest.placed c.args.key.0 (coloured-there (shows p) c.args.key.0 _ c.requires.white) in
    among-linked (links_in of_order c.leave.new.store.slots) p.order l.order
    (order-parted p h c.args.key.0 c.leave.new.store c.leave.new.self (c.leave.ensures.walk (walk_in p) h.walk) c.leave.ensures.rest) c.args.key.0
    (c.requires.at_rest.placed.ordered c.args.key.0 f.0 f.1)

pub remove-requires : goal.remove-requires
remove-requires c =
    let p = c.args.self.now in
    cell-held c.unlink_at.new.store.slots c.args.key.0
    (ap (λ (b : Beside). is_some (cell_at b.cells c.args.key.0)) c.unlink_at.ensures.rest
    ∙ (ap (λ (b : Beside). is_some (cell_at b.cells c.args.key.0)) c.leave.ensures.rest
    ∙ live-some (lists_of p) c.requires.at_rest.placed c.args.key.0 (coloured-there (shows p) c.args.key.0 _ c.requires.white)))

pub returns-clause-shows : goal.returns-clause-shows
returns-clause-shows c =
    let p = c.args.self.now in
    let l = lists_of p in
    let h = c.requires.at_rest.chained in
    let f = live-cell l c.requires.at_rest.placed c.args.key.0 (coloured-there (shows p) c.args.key.0 _ c.requires.white) in
    let walk = c.leave.ensures.walk (walk_in p) h.walk in
    let order = order-parted p h c.args.key.0 c.leave.new.store c.leave.new.self walk c.leave.ensures.rest in
    let held = is_some-found _ (cell-held c.unlink_at.new.store.slots c.args.key.0
    (ap (λ (b : Beside). is_some (cell_at b.cells c.args.key.0)) c.unlink_at.ensures.rest
    ∙ (ap (λ (b : Beside). is_some (cell_at b.cells c.args.key.0)) c.leave.ensures.rest ∙ ap is_some f.1))) in
    let a = lists-parted p h c.args.key.0 c.leave.new.store c.leave.new.self walk c.leave.ensures.rest c.requires.at_rest.emptied _ _
    (c.unlink_at.ensures.keys l.order order) c.unlink_at.ensures.rest _ held.0 held.1 c.remove.ensures.slots c.remove.ensures.updates in
    ap objects_of a.lists ∙ objects-left_out l c.requires.at_rest.placed c.args.key.0 f.0 f.1

pub returns-clause-at_rest : goal.returns-clause-at_rest
returns-clause-at_rest c =
    let p = c.args.self.now in
    let l = lists_of p in
    let h = c.requires.at_rest.chained in
    let f = live-cell l c.requires.at_rest.placed c.args.key.0 (coloured-there (shows p) c.args.key.0 _ c.requires.white) in
    let walk = c.leave.ensures.walk (walk_in p) h.walk in
    let order = order-parted p h c.args.key.0 c.leave.new.store c.leave.new.self walk c.leave.ensures.rest in
    let held = is_some-found _ (cell-held c.unlink_at.new.store.slots c.args.key.0
    (ap (λ (b : Beside). is_some (cell_at b.cells c.args.key.0)) c.unlink_at.ensures.rest
    ∙ (ap (λ (b : Beside). is_some (cell_at b.cells c.args.key.0)) c.leave.ensures.rest ∙ ap is_some f.1))) in
    let a = lists-parted p h c.args.key.0 c.leave.new.store c.leave.new.self walk c.leave.ensures.rest c.requires.at_rest.emptied _ _
    (c.unlink_at.ensures.keys l.order order) c.unlink_at.ensures.rest _ held.0 held.1 c.remove.ensures.slots c.remove.ensures.updates in
    let out = with_walk l c.args.key.0 Out in
    record {
      placed = subst IsPlaced (sym a.lists) (IsPlaced-left out (IsPlaced-walked l out.walks c.requires.at_rest.placed) c.args.key.0 f.0 f.1);
      chained = a.chained;
      coloured = subst HasColourOrder (sym (returns-clause-shows c)) (HasColourOrder-without (shows p) c.args.key.0 c.requires.at_rest.coloured c.requires.white);
      emptied = a.waits ∙ c.requires.at_rest.emptied;
    }
