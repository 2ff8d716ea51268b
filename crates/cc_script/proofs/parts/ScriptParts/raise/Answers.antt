use Rattle.std.proofs.Common.{◌≡◌, ℕ, List, [], ◌∷◌, ◌++◌, Some, option_map, true, false, ap, sym, subst, ◌∙◌}
use Rattle.cc_chain.specs.Links.{is_live}
use Rattle.cc_chain.proofs.Slots.{absent-free, held-live}
use Rattle.cc_script.specs.Objects.{Object, object_at, is_below, raised}
use Rattle.cc_script.specs.Lists.{Placed, with_key, objects_of, IsPlaced}
use Rattle.cc_script.specs.Threads.{of_waiting}
use Rattle.cc_script.specs.Cells.{cells_of, link_of, links_in}
use Rattle.cc_script.specs.Marking.{Marking, is_lower, AreRaised}
use Rattle.cc_script.specs.Parts.{lists_of, shows, marking_of}
use Rattle.cc_script.proofs.Places.{object_at-placed, live-cell, live-some}
use Rattle.cc_script.proofs.Linking.{cell-held}
use Rattle.cc_script.proofs.Painting.{IsPlaced-painted, objects-painted}
use Rattle.cc_script.proofs.Colours.{raised-below}
use Rattle.cc_script.proofs.Chained.{waiting-kept, lists-kept, lists-waiting, marking-is}
use Rattle.cc_script.proofs.Raising.{raise_key-lower, raise_key-enough, raise_key-raised, lower-absent}
use Rattle.cc_script.proofs.parts.ScriptParts.raise.Goals as goal

-- one value
some-same : {X : Type 0} {x y : X} → Some x ≡ Some y → x ≡ y
some-same e = cc

-- a walk of these objects
abbrev marking : List Object → List ℕ → Marking
marking objects waiting = record { objects = objects; waiting = waiting }

pub paint-requires : goal.paint-requires
paint-requires c = record { live = live-some (lists_of c.args.self.now) c.requires.under_way.placed c.args.key.0 c.requires.live }

pub push_back-requires-clause-chain : goal.push_back-requires-clause-chain
push_back-requires-clause-chain c =
    let p = c.args.self.now in
    ((marking_of p).waiting, waiting-kept p c.requires.under_way.chained c.paint.new.self c.paint.ensures.changes.links)

pub push_back-requires-clause-free : goal.push_back-requires-clause-free
push_back-requires-clause-free c =
    let f = live-cell (lists_of c.args.self.now) c.requires.under_way.placed c.args.key.0 c.requires.live in
    let p = c.args.self.now in
    let changes = c.paint.ensures.changes in
    let below : is_below f.0.colour c.args.to ≡ true =
    ap (λ colour. is_below colour c.args.to) (some-same (sym (ap (option_map (λ (z : Placed). z.colour)) f.1) ∙ c.colour.ensures)) ∙ (sym c.is_below.ensures ∙ c.if-is_below.true) in
    let lower : is_lower c.args.to (object_at (shows p) c.args.key.0) ≡ true =
    ap (is_lower c.args.to) (object_at-placed (lists_of p) c.requires.under_way.placed c.args.key.0 f.0 f.1) ∙ below in
    let live = held-live (link_of of_waiting) p.cells.slots c.args.key.0
    (cell-held p.cells.slots c.args.key.0 (live-some (lists_of p) c.requires.under_way.placed c.args.key.0 c.requires.live)) in
    absent-free (links_in of_waiting c.paint.new.self.slots) p.waiting (marking_of p).waiting
    (waiting-kept p c.requires.under_way.chained c.paint.new.self changes.links) c.args.key.0
    (lower-absent c.args.to c.args.key.0 (marking_of p) c.requires.under_way.raised lower)
    (ap (λ links. is_live links c.args.key.0) (changes.links of_waiting) ∙ live)

pub returns-then-is_below-clause-raises : goal.returns-then-is_below-clause-raises
returns-then-is_below-clause-raises c =
    let f = live-cell (lists_of c.args.self.now) c.requires.under_way.placed c.args.key.0 c.requires.live in
    let p = c.args.self.now in
    let l = lists_of p in
    let h = c.requires.under_way.chained in
    let at = c.requires.under_way.placed in
    let changes = c.paint.ensures.changes in
    let below : is_below f.0.colour c.args.to ≡ true =
    ap (λ colour. is_below colour c.args.to) (some-same (sym (ap (option_map (λ (z : Placed). z.colour)) f.1) ∙ c.colour.ensures)) ∙ (sym c.is_below.ensures ∙ c.if-is_below.true) in
    let lower : is_lower c.args.to (object_at (shows p) c.args.key.0) ≡ true = ap (is_lower c.args.to) (object_at-placed l at c.args.key.0 f.0 f.1) ∙ below in
    let painted = lists-kept p h c.paint.new.self changes.links in
    let pushed = c.push_back.ensures.keys (marking_of p).waiting (waiting-kept p h c.paint.new.self changes.links) in
    let objects = ap objects_of painted.lists
    ∙ objects-painted l at c.args.key.0 f.0 f.1 c.args.to (cells_of c.paint.new.self.slots) changes.cells (raised c.args.to)
    (raised-below c.args.to (with_key c.args.key.0 (l.walks c.args.key.0) f.0) below) in
    marking-is _ _ _ (lists-waiting (record p { cells = c.paint.new.self }) painted.chained c.push_back.new.store c.push_back.new.self _ pushed c.push_back.ensures.rest)
    ∙ (ap (λ os. marking os ((marking_of p).waiting ++ c.args.key.0 ∷ [])) objects ∙ sym (raise_key-lower c.args.to c.args.key.0 (marking_of p) lower))

pub returns-then-is_below-clause-under_way : goal.returns-then-is_below-clause-under_way
returns-then-is_below-clause-under_way c =
    let f = live-cell (lists_of c.args.self.now) c.requires.under_way.placed c.args.key.0 c.requires.live in
    let p = c.args.self.now in
    let l = lists_of p in
    let h = c.requires.under_way.chained in
    let changes = c.paint.ensures.changes in
    let painted = lists-kept p h c.paint.new.self changes.links in
    let pushed = c.push_back.ensures.keys (marking_of p).waiting (waiting-kept p h c.paint.new.self changes.links) in
    let a = lists-waiting (record p { cells = c.paint.new.self }) painted.chained c.push_back.new.store c.push_back.new.self _ pushed c.push_back.ensures.rest in
    record {
      placed = subst IsPlaced (sym (a.lists ∙ painted.lists))
          (IsPlaced-painted l c.requires.under_way.placed c.args.key.0 f.0 f.1 c.args.to (cells_of c.paint.new.self.slots) changes.cells);
      chained = a.chained;
      raised = subst (AreRaised c.args.to) (sym (returns-then-is_below-clause-raises c)) (raise_key-raised c.args.to c.args.key.0 (marking_of p) c.requires.under_way.raised);
    }

pub returns-else-is_below-clause-raises : goal.returns-else-is_below-clause-raises
returns-else-is_below-clause-raises c =
    let f = live-cell (lists_of c.args.self.now) c.requires.under_way.placed c.args.key.0 c.requires.live in
    let l = lists_of c.args.self.now in
    let below : is_below f.0.colour c.args.to ≡ false =
    ap (λ colour. is_below colour c.args.to) (some-same (sym (ap (option_map (λ (z : Placed). z.colour)) f.1) ∙ c.colour.ensures)) ∙ (sym c.is_below.ensures ∙ c.if-is_below.false) in
    sym (raise_key-enough c.args.to c.args.key.0 (marking_of c.args.self.now)
    (ap (is_lower c.args.to) (object_at-placed l c.requires.under_way.placed c.args.key.0 f.0 f.1) ∙ below))
