use Rattle.std.proofs.Common.{◌≡◌, true, ◌≤◌, ◌<◌, ◌+◌, ℕ, List, [], ◌∷◌, ◌++◌, Some, ap, arith, refl, sym, subst, ◌∙◌}
use Rattle.cc_purple.specs.Marks.{with_mark, without_key}
use Rattle.cc_laws_heap.specs.Balance.{IsBalanced}
use Rattle.cc_counted.specs.Counts.{the_number}
use Rattle.cc_counted.specs.Lists.{Placed, Lists, cell_at, count_placed, with_one_less, keyed, draining_of, IsPlaced, with_front}
use Rattle.cc_counted.specs.Stored.{Stored, with_cell, with_marks}
use Rattle.cc_counted.specs.Steps.{GivesUp}
use Rattle.cc_counted.proofs.Places.{the_number-cell}
use Rattle.cc_counted.proofs.Each.{IsBalanced-given}
use Rattle.cc_counted.proofs.StepsOf.{count-placed, GivesUp-suspected, GivesUp-waiting, counted}
use Rattle.cc_counted.proofs.Draining.{Drains-none, ComesTo-cascade}
use Rattle.cc_counted.proofs.natives.Natives.release.Goals as goal

module _ (s low new : Stored) (key : ℕ) (p : IsPlaced s.lists) (c : Placed) (at : cell_at s.lists.cells key ≡ Some c) (left : ℕ)
    (fell : left + 1 ≡ count_placed (cell_at s.lists.cells key)) (lowered : low ≡ with_cell key with_one_less s) where
  -- a native that keeps references is suspected
  given-suspected : 0 < left → new ≡ with_marks (with_mark true key) low → GivesUp s.lists new.lists (the_number (keyed s.lists.cells) key ∷ [])
  given-suspected some marked =
      let more : 2 ≤ c.count = omega (arith, fell, some, count-placed s.lists p key c at) in
      GivesUp-suspected s.lists p key c at more new.lists (ap (λ (t : Stored). t.lists) (marked ∙ ap (with_marks (with_mark true key)) lowered))

  -- one that lost its last stands in front, as none waits
  given-front : left ≤ 0 → s.lists.queue ≡ [] → new ≡ with_marks (without_key key) low → GivesUp s.lists (with_front key new.lists) (the_number (keyed s.lists.cells) key ∷ [])
  given-front none empty forgot =
      let one : c.count ≡ 1 = omega (arith, fell, none, count-placed s.lists p key c at) in
      let fallen : Stored = with_marks (without_key key) (with_cell key with_one_less s) in
      let last : key ∷ s.lists.queue ≡ s.lists.queue ++ key ∷ [] = rw empty refl in
      GivesUp-waiting s.lists p key c at one (with_front key new.lists)
      (ap (λ (t : Stored). with_front key t.lists) (forgot ∙ ap (with_marks (without_key key)) lowered) ∙ ap (λ ks. record fallen.lists { queue = ks }) last)

-- one reference given up leaves the balance of the others
balanced-others : (old new : Lists) (key : ℕ) (c : Placed) (owned : List ℕ) → cell_at old.cells key ≡ Some c → GivesUp old new (the_number (keyed old.cells) key ∷ []) →
    IsBalanced (c.number ∷ owned) (draining_of old []) → IsBalanced owned (draining_of new [])
balanced-others old new key c owned at g b =
    IsBalanced-given old new (the_number (keyed old.cells) key ∷ []) owned g
    (subst (λ k. IsBalanced (k ∷ owned) (draining_of old [])) (sym (the_number-cell old.cells key c at)) b)

pub lower-requires : goal.lower-requires
lower-requires g c =
    let (owned, placed, at, balance) = c.requires.balanced in
    omega (arith, count-placed c.args.self.now.lists c.requires.placed c.args.key.0 placed at, counted c.args.self.now.lists c.requires.placed c.args.key.0 placed at owned balance)

pub free_from-requires-clause-placed : goal.free_from-requires-clause-placed
free_from-requires-clause-placed g c =
    let (owned, placed, at, balance) = c.requires.balanced in
    (given-front c.args.self.now c.lower.new.self c.forget.new.self c.args.key.0 c.requires.placed placed at c.lower.result c.lower.ensures.count c.lower.ensures.lists
    c.if-lower-gt0.false c.requires.emptied c.forget.ensures).placed

pub free_from-requires-clause-balanced : goal.free_from-requires-clause-balanced
free_from-requires-clause-balanced g c =
    let (owned, placed, at, balance) = c.requires.balanced in
    let given = given-front c.args.self.now c.lower.new.self c.forget.new.self c.args.key.0 c.requires.placed placed at c.lower.result c.lower.ensures.count c.lower.ensures.lists
    c.if-lower-gt0.false c.requires.emptied c.forget.ensures in
    (owned, balanced-others c.args.self.now.lists _ c.args.key.0 placed owned at given balance)

pub returns-then-lower-gt0 : goal.returns-then-lower-gt0
returns-then-lower-gt0 g c =
    let (owned, placed, at, balance) = c.requires.balanced in
    let given = given-suspected c.args.self.now c.lower.new.self c.suspect.new.self c.args.key.0 c.requires.placed placed at c.lower.result c.lower.ensures.count c.lower.ensures.lists
    c.if-lower-gt0.true c.suspect.ensures in
    let idle : c.suspect.new.self.lists.queue ≡ [] = ap (λ (t : Stored). t.lists.queue) (c.suspect.ensures ∙ ap (with_marks (with_mark true c.args.key.0)) c.lower.ensures.lists) ∙ c.requires.emptied in
    ComesTo-cascade c.args.self.now.lists c.suspect.new.self.lists c.suspect.new.self.lists _ _ _ c.requires.placed c.requires.emptied given
    (Drains-none c.suspect.new.self.lists (g.N.Notices.telling c.args.out.now) given.placed idle)

pub returns : goal.returns
returns g c =
    let (owned, placed, at, balance) = c.requires.balanced in
    let given = given-front c.args.self.now c.lower.new.self c.forget.new.self c.args.key.0 c.requires.placed placed at c.lower.result c.lower.ensures.count c.lower.ensures.lists
    c.if-lower-gt0.false c.requires.emptied c.forget.ensures in
    ComesTo-cascade c.args.self.now.lists (with_front c.args.key.0 c.forget.new.self.lists) c.free_from.new.self.lists _ _ _ c.requires.placed c.requires.emptied given c.free_from.ensures
