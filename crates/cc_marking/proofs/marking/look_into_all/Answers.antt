use Rattle.std.proofs.Common.{◌≡◌, ℕ, ◌+◌, List, [], ◌∷◌, length, drop, refl, sym, ◌∙◌, ap, subst, arith}
use Rattle.cc_script.specs.Objects.{Object, is_there, places_at}
use Rattle.cc_script.specs.Marking.{Marking, raise_each}
use Rattle.cc_script.specs.Underway.{Underway, marks_of}
use Rattle.cc_script.proofs.Popping.{front-popped, none-popped}
use Rattle.cc_script.proofs.Underway.{first-looked}
use Rattle.cc_script.proofs.Wholeness.{there-raised}
use Rattle.cc_marking.specs.Carrying.{is_looked_into}
use Rattle.cc_marking.specs.Looking.{sides_left, with_all_given}
use Rattle.cc_marking.proofs.There.{AreEntriesThere-stay}
use Rattle.cc_marking.proofs.Turns.{looked-none, turn-spends}
use Rattle.cc_marking.proofs.Underway.{IsUnderWay, under_way-begins, under_way-turns, under_way-ends, under_way-spent}
use Rattle.cc_marking.proofs.marking.look_into_all.Given as given
use Rattle.cc_marking.proofs.marking.look_into_all.Goals as goal

pub loop-key-init : goal.loop-key-init
loop-key-init g c = (
  under_way-begins c.args.to c.args.weak.now c.args.marking.now.objects c.args.steps.now (marks_of c.args.marking.now) refl c.requires.so_far,
  sym c.requires.colour,
  c.requires.whole,
)

-- the first of those that wait
module _ (g : given.Over) (c : goal.After-mark_entries g) where
  abbrev old : List Object
  old = c.args.marking.now.objects

  abbrev most : ℕ
  most = c.args.steps.now + sides_left (is_looked_into c.args.to (marks_of c.args.marking.now)) c.args.weak.now

  abbrev m : Marking
  m = marks_of c.loop-key.marking

  front : m.waiting ≡ c.in-Some.key.0 ∷ drop 1 m.waiting
  front = front-popped m.waiting c.in-Some.key.0 c.in-Some.ensures.first

  abbrev slotted : Marking
  slotted = raise_each c.args.to (places_at m.objects c.in-Some.key.0) (record { objects = m.objects; waiting = drop 1 m.waiting })

  slotted-is : marks_of c.next_marked.new.self ≡ slotted
  slotted-is = grind (arith, first-looked, front)

  valued-is : marks_of c.mark_entries.new.marking ≡ with_all_given c.args.to c.args.weak.now c.in-Some.key.0 (length c.args.weak.now) slotted
  valued-is = c.mark_entries.ensures.given ∙ ap (with_all_given c.args.to c.args.weak.now c.in-Some.key.0 (length c.args.weak.now)) slotted-is

pub mark_entries-requires-clause-entries : goal.mark_entries-requires-clause-entries
mark_entries-requires-clause-entries g c =
    let u = c.loop-key.invariant.0 in
    AreEntriesThere-stay c.args.marking.now.objects c.next_marked.new.self.objects
    (λ k h. c.in-Some.ensures.there k ∙ (ap (λ os. is_there os k) u.raised ∙ (there-raised u.keys c.args.to c.args.marking.now.objects k ∙ h))) c.args.weak.now c.requires.so_far.there

pub loop-key-smaller : goal.loop-key-smaller
loop-key-smaller g c =
    turn-spends c.args.to c.args.weak.now (m g c) c.in-Some.key.0 (drop 1 (m g c).waiting) (front g c) (marks_of c.mark_entries.new.marking) (valued-is g c)

pub loop-key-preserved : goal.loop-key-preserved
loop-key-preserved g c = (
  subst (λ n. IsUnderWay c.args.to c.args.weak.now (old g c) (most g c) n (marks_of c.mark_entries.new.marking)) (sym c.mark_entries.ensures.steps)
      (under_way-turns c.args.to c.args.weak.now (old g c) c.requires.whole c.requires.so_far.own c.requires.so_far.there
      (most g c) c.loop-key.steps (m g c) c.loop-key.invariant.0 c.in-Some.key.0 (drop 1 (m g c).waiting) (front g c) (marks_of c.mark_entries.new.marking) (valued-is g c)),
  c.mark_entries.ensures.colour ∙ (ap (λ (u : Underway). u.to) c.in-Some.ensures.looked ∙ c.loop-key.invariant.1),
  c.mark_entries.ensures.whole,
)

-- none waits
module _ (g : given.Over) (c : goal.In_default g) where
  emptied : c.loop-key.marking.waiting ≡ []
  emptied = none-popped c.loop-key.marking.waiting c.in_default.ensures.first

  rests : c.next_marked.new.self ≡ c.loop-key.marking
  rests = c.next_marked.ensures.looked ∙ looked-none c.loop-key.marking emptied

pub returns-clause-carried : goal.returns-clause-carried
returns-clause-carried g c =
    ap (λ (u : Underway). u.objects) (rests g c)
    ∙ under_way-ends c.args.to c.args.weak.now c.args.marking.now.objects c.requires.so_far.own _ c.loop-key.steps (marks_of c.loop-key.marking) c.loop-key.invariant.0 (emptied g c)

pub returns-clause-done : goal.returns-clause-done
returns-clause-done g c = ap (λ (u : Underway). u.waiting) (rests g c) ∙ emptied g c

pub returns-clause-steps : goal.returns-clause-steps
returns-clause-steps g c =
    let spent = under_way-spent c.args.to c.args.weak.now c.args.marking.now.objects c.requires.so_far.own _ c.loop-key.steps (marks_of c.loop-key.marking) c.loop-key.invariant.0 (emptied g c) in
    rw (rests g c) spent
