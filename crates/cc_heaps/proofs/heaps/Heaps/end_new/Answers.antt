use Rattle.std.specs.Prelude.{slice_index_or}
use Rattle.std.proofs.Common.{◌≡◌, ℕ, List, None, Some, map, sym, ◌∙◌, ap, subst}
use Rattle.cc_model.specs.Colours.{HasColourInvariant}
use Rattle.cc_model.specs.Heap.{Heap}
use Rattle.cc_model.specs.Marking.{NewMarks, blacks_by_mark, ended_marks, marks_by_mark}
use Rattle.cc_model.specs.StandsFor.{StandsFor}
use Rattle.cc_model.specs.Sweep.{sweep}
use Rattle.cc_model.specs.Telling.{TellsEvents}
use Rattle.cc_model.specs.View.{view}
use Rattle.cc_laws_heap.specs.Sound.{IsSound}
use Rattle.cc_laws_heap.specs.UnderMarking.{IsUnderMarking}
use Rattle.cc_laws_heap.specs.Marks.{AreMarksClosed, IsBlackClosed}
use Rattle.cc_laws_heap.proofs.MarkingEnded.{AreMarksClosed-ended, IsBlackClosed-ended}
use Rattle.cc_laws_heap.proofs.RoundsStand.{coloured-stands}
use Rattle.cc_counted.specs.Counts.{key_left}
use Rattle.cc_heaps.specs.Keyed.{Keyed, number_at}
use Rattle.cc_heaps.specs.Changes.{KeepsKeys}
use Rattle.cc_heaps.specs.Ending.{coloured_by_marks}
use Rattle.cc_heaps.specs.Standing.{StillStands}
use Rattle.cc_heaps.proofs.FewCounts.{few-owned}
use Rattle.cc_heaps.proofs.heaps.Heaps.end_new.Given as given
use Rattle.cc_heaps.proofs.heaps.Heaps.end_new.Goals as goal

-- heaps with the colours that the end gives
module _ {owned : List ℕ} (h mid : Heap) (m : NewMarks) (s : IsSound owned h) (u : IsUnderMarking h m) (e : mid ≡ coloured_by_marks h m) where
  closed : AreMarksClosed mid
  closed = subst AreMarksClosed (sym e) (AreMarksClosed-ended h m s u)

  black : IsBlackClosed mid
  black = subst IsBlackClosed (sym e) (IsBlackClosed-ended h m s u)

  stands : StillStands h mid
  stands g made t = subst (λ (k : Heap). StandsFor k g) (sym e) (coloured-stands (blacks_by_mark h m) (marks_by_mark h m) h g s made t)

pub sweep-requires-clause-order : goal.sweep-requires-clause-order
sweep-requires-clause-order g c = (c.requires.order.0, c.colour_by_new_marks.ensures.order c.requires.order.0 c.requires.order.1)

pub sweep-requires-clause-closed : goal.sweep-requires-clause-closed
sweep-requires-clause-closed g c =
    let e = c.requires.ending in
    closed c.args.self.now.heap c.colour_by_new_marks.new.self.heap e.0 c.requires.order.1.sound e.2.under (c.colour_by_new_marks.ensures.heap e.0 e.1)

-- no marking goes on, and that is all that is done last
dropped-heap : (g : given.Over) (c : goal.After-drop_new g) → c.drop_new.new.self.heap ≡ c.sweep.new.self.heap
dropped-heap g c = ap (λ (v : Keyed). v.heap) c.drop_new.ensures.marking

pub returns-clause-heap : goal.returns-clause-heap
unfolding ended_marks
returns-clause-heap g c = λ m is. dropped-heap g c ∙ (c.sweep.ensures.heap ∙ ap (λ (h : Heap). (sweep h).heap) (c.colour_by_new_marks.ensures.heap m is))

pub returns-clause-told : goal.returns-clause-told
unfolding ended_marks
returns-clause-told g c = λ m is.
    subst (λ (h : Heap). TellsEvents (g.N.Notices.telling c.args.out.now) (g.N.Notices.telling c.sweep.new.out) (sweep h).events)
    (c.colour_by_new_marks.ensures.heap m is) c.sweep.ensures.told

pub returns-clause-natives : goal.returns-clause-natives
returns-clause-natives g c = subst (λ (v : Keyed). v.keys ≡ map (key_left v.heap) c.args.self.now.keys) (sym c.drop_new.ensures.marking)
    (c.sweep.ensures.natives ∙ ap (map (key_left c.sweep.new.self.heap)) c.colour_by_new_marks.ensures.keys)

pub returns-clause-invariant : goal.returns-clause-invariant
returns-clause-invariant g c =
    let e = c.requires.ending in
    subst (λ (h : Heap). HasColourInvariant (view h)) (sym (dropped-heap g c)) (c.sweep.ensures.invariant
    (black c.args.self.now.heap c.colour_by_new_marks.new.self.heap e.0 c.requires.order.1.sound e.2.under (c.colour_by_new_marks.ensures.heap e.0 e.1)))

pub returns-clause-stands : goal.returns-clause-stands
returns-clause-stands g c =
    let e = c.requires.ending in
    λ h made t. subst (λ (k : Heap). StandsFor k h) (sym (dropped-heap g c)) (c.sweep.ensures.stands h made
    (stands c.args.self.now.heap c.colour_by_new_marks.new.self.heap e.0 c.requires.order.1.sound e.2.under (c.colour_by_new_marks.ensures.heap e.0 e.1) h made t))

-- what is there keeps its key
keys-kept : (g : given.Over) (c : goal.After-drop_new g) → KeepsKeys c.args.self.now c.sweep.new.self
keys-kept g c = record {
  natives = λ key k at there. c.sweep.ensures.kept.keys.natives key k (number key k at) there;
  scripts = λ key x at there. c.sweep.ensures.kept.keys.scripts key x (c.colour_by_new_marks.ensures.names key ∙ at) there;
}
  where
    number : (key k : ℕ) → number_at c.args.self.now key ≡ Some k → number_at c.colour_by_new_marks.new.self key ≡ Some k
    number key k at = ap (λ keys. slice_index_or keys key None) c.colour_by_new_marks.ensures.keys ∙ at

pub returns-clause-kept : goal.returns-clause-kept
returns-clause-kept g c = record {
  keys = subst (KeepsKeys c.args.self.now) (sym c.drop_new.ensures.marking)
      (record { natives = (keys-kept g c).natives; scripts = (keys-kept g c).scripts });
  order = λ owned o. c.drop_new.ensures.kept.order owned (c.sweep.ensures.kept.order owned (c.colour_by_new_marks.ensures.order owned o));
  counts = few-owned _;
  colours = λ old. returns-clause-invariant g c;
  fresh = tt;
  suspected = tt;
  marks = tt;
}
