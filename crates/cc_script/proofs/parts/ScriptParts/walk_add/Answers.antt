use Rattle.std.proofs.Common.{refl, ap, sym, subst, ◌∙◌}
use Rattle.cc_chain.proofs.Slots.{held-live}
use Rattle.cc_walk.specs.Walks.{Walks, entered, with_member}
use Rattle.cc_walk.proofs.Sets.{states-with_member}
use Rattle.cc_script.specs.Objects.{entering}
use Rattle.cc_script.specs.ColourOrder.{HasColourOrder}
use Rattle.cc_script.specs.Lists.{objects_of, IsPlaced}
use Rattle.cc_script.specs.Threads.{of_walk}
use Rattle.cc_script.specs.Cells.{link_of}
use Rattle.cc_script.specs.Parts.{lists_of, shows, walk_in}
use Rattle.cc_script.proofs.Places.{live-some}
use Rattle.cc_script.proofs.Linking.{cell-held}
use Rattle.cc_script.proofs.Chained.{lists-walked}
use Rattle.cc_script.proofs.Walked.{HasColourOrder-changed, IsPlaced-walked, objects-walked}
use Rattle.cc_script.proofs.parts.ScriptParts.walk_add.Goals as goal

pub add-requires-clause-walk : goal.add-requires-clause-walk
add-requires-clause-walk c = (walk_in c.args.self.now, c.requires.at_rest.chained.walk)

pub add-requires-clause-live : goal.add-requires-clause-live
add-requires-clause-live c =
    let p = c.args.self.now in
    held-live (link_of of_walk) p.cells.slots c.args.key.0
    (cell-held p.cells.slots c.args.key.0 (live-some (lists_of p) c.requires.at_rest.placed c.args.key.0 c.requires.live))

pub returns-clause-shows : goal.returns-clause-shows
returns-clause-shows c =
    let p = c.args.self.now in
    let l = lists_of p in
    let h = c.requires.at_rest.chained in
    let w = walk_in p in
    let a = lists-walked p h c.add.new.store c.add.new.self (with_member c.args.key.0 w) (c.add.ensures.walk w h.walk) c.add.ensures.rest in
    ap objects_of a.lists
    ∙ (ap (λ (walks : Walks). objects_of (record l { walks = walks })) (states-with_member c.args.key.0 w)
    ∙ objects-walked l c.args.key.0 (entered (l.walks c.args.key.0)) entering refl)

pub returns-clause-at_rest : goal.returns-clause-at_rest
returns-clause-at_rest c =
    let p = c.args.self.now in
    let h = c.requires.at_rest.chained in
    let w = walk_in p in
    let a = lists-walked p h c.add.new.store c.add.new.self (with_member c.args.key.0 w) (c.add.ensures.walk w h.walk) c.add.ensures.rest in
    record {
      placed = subst IsPlaced (sym a.lists) (IsPlaced-walked (lists_of p) _ c.requires.at_rest.placed);
      chained = a.chained;
      coloured = subst HasColourOrder (sym (returns-clause-shows c))
          (HasColourOrder-changed (shows p) c.args.key.0 entering (λ o. refl) (λ o. refl) (λ o. refl) c.requires.at_rest.coloured);
      emptied = a.waits ∙ c.requires.at_rest.emptied;
    }
