-- WHAT THE LAWS MAKE of a begin, of a step and of an abandonment.
use Rattle.std.proofs.Common.{◌≡◌, ℕ, List, [], refl, sym, subst}
use Rattle.cc_model.specs.Heap.{Buffered}
use Rattle.cc_model.specs.View.{view}
use Rattle.cc_model.specs.Colours.{HasColourInvariant}
use Rattle.cc_model.specs.Suspected.{IsSuspected}
use Rattle.cc_model.specs.Snapshot.{Snapshot}
use Rattle.cc_model.specs.Units.{begun, with_empty_buffer}
use Rattle.cc_model.specs.End.{give_back}
use Rattle.cc_laws_snapshot.specs.Kinds.{IsFreshIn}
use Rattle.cc_laws_snapshot.proofs.Face.{after_node-fresh, begin-suspected, begun-fresh, give_back-buffer, give_back-suspected, given_back}
use Rattle.cc_heaps.specs.Keyed.{Keyed, IsInOrder, changed_to}
use Rattle.cc_heaps.specs.Standing.{StillStands, KeepsColours}
use Rattle.cc_heaps.proofs.KeysKept.{KeepsKeys-changed}
use Rattle.cc_heaps.proofs.StandingStill.{buffer-goes_on}
use Rattle.cc_heaps.proofs.FewCounts.{few-alone}
use Rattle.cc_builder.specs.Beginning.{IsUnseen}
use Rattle.cc_builder.specs.Building.{IsNodeUnit}

-- another buffer is no more than that
pub with_buffer-unseen : (v w : Keyed) (bs : List Buffered) → IsInOrder [] w → w ≡ changed_to v (record v.heap { buffer = bs }) → IsUnseen v w
with_buffer-unseen v w bs order e = record {
  order = order;
  stands = subst (λ (u : Keyed). StillStands v.heap u.heap) (sym e) (buffer-goes_on v.heap bs).stands;
  colours = subst (λ (u : Keyed). KeepsColours v.heap u.heap) (sym e) (buffer-goes_on v.heap bs).colours;
  keys = KeepsKeys-changed v w (record v.heap { buffer = bs }) e;
  counts = few-alone w order;
}

-- and none at all
pub same-unseen : (v : Keyed) → IsInOrder [] v → IsUnseen v v
same-unseen v order = with_buffer-unseen v v v.heap.buffer order refl

-- A BEGIN takes the suspects for candidates, and its snapshot is fresh.
pub begun-fresh_in : (v w : Keyed) (s : Snapshot) → IsInOrder [] v → w ≡ changed_to v (with_empty_buffer v.heap) → s ≡ begun v.heap →
    HasColourInvariant (view v.heap) → IsFreshIn w.heap s
begun-fresh_in v w s order e f colours =
    subst (λ (u : Keyed). IsFreshIn u.heap s) (sym e) (subst (IsFreshIn (with_empty_buffer v.heap)) (sym f) (begun-fresh v.heap order.sound colours))

pub begun-suspected : (v w : Keyed) (s : Snapshot) → w ≡ changed_to v (with_empty_buffer v.heap) → s ≡ begun v.heap →
    IsSuspected (view v.heap) [] → IsSuspected (view w.heap) s.candidates
begun-suspected v w s e f suspected =
    subst (λ (u : Keyed). IsSuspected (view u.heap) s.candidates) (sym e)
    (subst (λ (t : Snapshot). IsSuspected (view (with_empty_buffer v.heap)) t.candidates) (sym f) (begin-suspected v.heap suspected))

-- A STEP keeps the snapshot fresh, with its candidates.
pub unit-fresh : (v : Keyed) (s t : Snapshot) → IsInOrder [] v → IsNodeUnit v.heap s t → IsFreshIn v.heap s → IsFreshIn v.heap t
unit-fresh v s t order unit fresh = subst (IsFreshIn v.heap) (sym unit.after) (after_node-fresh v.heap s unit.node order.sound fresh unit.first_one)

-- AN ABANDONMENT changes the buffer alone, and hands the candidates back.
pub abandoned-unseen : (v w : Keyed) (ks : List ℕ) → IsInOrder [] w → w ≡ changed_to v (give_back ks v.heap) → IsUnseen v w
abandoned-unseen v w ks order e =
    with_buffer-unseen v w (given_back ks v.heap v.heap.buffer) order (subst (λ h. w ≡ changed_to v h) (give_back-buffer ks v.heap v.heap.buffer) e)

pub abandoned-suspected : (v w : Keyed) (ks : List ℕ) → IsInOrder [] v → w ≡ changed_to v (give_back ks v.heap) →
    IsSuspected (view v.heap) ks → IsSuspected (view w.heap) []
abandoned-suspected v w ks order e suspected =
    subst (λ (u : Keyed). IsSuspected (view u.heap) []) (sym e) (give_back-suspected v.heap ks order.sound suspected)
