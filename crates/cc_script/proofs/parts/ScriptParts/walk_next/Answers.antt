use Rattle.std.proofs.Common.{◌≡◌, Some, None, refl, ap, sym, subst, ◌∙◌}
use Rattle.cc_lists.specs.Walks.{first_of}
use Rattle.cc_lists.proofs.Members.{Among-right, Among-map_cases}
use Rattle.cc_lists.proofs.Walks.{first-among}
use Rattle.cc_names.specs.declared.kind.Walked.TheVariants.{Given}
use Rattle.cc_walk.specs.Walks.{Walk, Walks, gone_on, states_of}
use Rattle.cc_walk.proofs.Sets.{gone_on-none, states-first, states-gone_on, states-none}
use Rattle.cc_walk.proofs.WalkLists.{first-waits}
use Rattle.cc_script.specs.Objects.{Object, NoObjectWaits, with_walked}
use Rattle.cc_script.specs.ColourOrder.{HasColourOrder}
use Rattle.cc_script.specs.Lists.{objects_of, shown_at, IsPlaced}
use Rattle.cc_script.specs.Threads.{of_walk}
use Rattle.cc_script.specs.Cells.{links_in}
use Rattle.cc_script.specs.Parts.{lists_of, shows, walk_in}
use Rattle.cc_script.proofs.Places.{walked_at-cell}
use Rattle.cc_script.proofs.Chained.{lists-walked}
use Rattle.cc_script.proofs.Walked.{HasColourOrder-changed, IsPlaced-walked, member-cell, objects-walked}
use Rattle.cc_script.proofs.parts.ScriptParts.walk_next.Goals as goal

pub give-requires : goal.give-requires
give-requires c = (walk_in c.args.self.now, c.requires.at_rest.chained.walk)

pub returns-in_err-key-clause-none : goal.returns-in_err-key-clause-none
returns-in_err-key-clause-none c =
    let p = c.args.self.now in
    let l = lists_of p in
    let h = c.requires.at_rest.chained in
    let w = walk_in p in
    let none : first_of w.waiting ≡ None = sym (c.give.ensures.first w h.walk) ∙ c.in_err-key.was in
    let a = lists-walked p h p.cells c.give.new.self (gone_on w) (c.give.ensures.walk w h.walk) refl in
    let waits : NoObjectWaits (shows p) = λ o m waiting. let k = Among-map_cases (shown_at l) l.order o m in states-none w none k.0 (ap (λ (z : Object). z.walked) k.2 ∙ waiting) in
    let same = ap objects_of a.lists ∙ ap (λ (v : Walk). objects_of (record l { walks = states_of v })) (gone_on-none w none) in
    rw c.from_residual.ensures (waits, same)

pub returns-in_err-key-clause-at_rest : goal.returns-in_err-key-clause-at_rest
returns-in_err-key-clause-at_rest c =
    let p = c.args.self.now in
    let h = c.requires.at_rest.chained in
    let w = walk_in p in
    let none : first_of w.waiting ≡ None = sym (c.give.ensures.first w h.walk) ∙ c.in_err-key.was in
    let a = lists-walked p h p.cells c.give.new.self (gone_on w) (c.give.ensures.walk w h.walk) refl in
    record {
      placed = subst IsPlaced (sym a.lists) (IsPlaced-walked (lists_of p) _ c.requires.at_rest.placed);
      chained = a.chained;
      coloured = subst HasColourOrder (sym (ap objects_of a.lists ∙ ap (λ (v : Walk). objects_of (record (lists_of p) { walks = states_of v })) (gone_on-none w none))) c.requires.at_rest.coloured;
      emptied = a.waits ∙ c.requires.at_rest.emptied;
    }

pub returns-clause-some : goal.returns-clause-some
returns-clause-some c =
    let p = c.args.self.now in
    let l = lists_of p in
    let h = c.requires.at_rest.chained in
    let w = walk_in p in
    let key = c.in_ok-key.key in
    let first : first_of w.waiting ≡ Some key = sym (c.give.ensures.first w h.walk) ∙ c.in_ok-key.was in
    let f = member-cell p h key (Among-right key w.given w.waiting (first-among w.waiting key first)) in
    let a = lists-walked p h p.cells c.give.new.self (gone_on w) (c.give.ensures.walk w h.walk) refl in (
      walked_at-cell l c.requires.at_rest.placed key f.0 f.1
          ∙ ap Some (states-first w key first (first-waits (links_in of_walk p.cells.slots) p.walk w h.walk key first)),
      ap objects_of a.lists
          ∙ (ap (λ (walks : Walks). objects_of (record l { walks = walks })) (states-gone_on w key first)
          ∙ objects-walked l key Given (with_walked Given) refl),
    )

pub returns-clause-at_rest : goal.returns-clause-at_rest
returns-clause-at_rest c =
    let p = c.args.self.now in
    let l = lists_of p in
    let h = c.requires.at_rest.chained in
    let w = walk_in p in
    let key = c.in_ok-key.key in
    let first : first_of w.waiting ≡ Some key = sym (c.give.ensures.first w h.walk) ∙ c.in_ok-key.was in
    let a = lists-walked p h p.cells c.give.new.self (gone_on w) (c.give.ensures.walk w h.walk) refl in
    record {
      placed = subst IsPlaced (sym a.lists) (IsPlaced-walked l _ c.requires.at_rest.placed);
      chained = a.chained;
      coloured = subst HasColourOrder
          (sym (ap objects_of a.lists ∙ (ap (λ (walks : Walks). objects_of (record l { walks = walks })) (states-gone_on w key first) ∙ objects-walked l key Given (with_walked Given) refl)))
          (HasColourOrder-changed (shows p) key (with_walked Given) (λ o. refl) (λ o. refl) (λ o. refl) c.requires.at_rest.coloured);
      emptied = a.waits ∙ c.requires.at_rest.emptied;
    }
