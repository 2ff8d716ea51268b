use Rattle.std.proofs.Common.{[], Some, ◌∷◌, ◌≡◌, ◌≢◌, ◌<◌, None, get_or, sym, ◌∙◌, ap, subst, ⊎_elim}
use Rattle.cc_model.specs.Graph as graph
use Rattle.cc_heaps.specs.Keyed.{the_number}
use Rattle.cc_heaps.specs.Changes.{native_name, slot_held}
use Rattle.cc_heaps.specs.Keeping.{KeepsAll}
use Rattle.cc_heaps.specs.Leaving.{NoneCame}
use Rattle.cc_heaps.specs.Standing.{IsReached}
use Rattle.cc_host.proofs.Around.{around-none_came, around-change, around-tells}
use Rattle.cc_host.proofs.Spare.{move-leaves}
use Rattle.cc_host.proofs.Storing.{moved-kept, moved-leaves, moved-none_came, moved-stands, live-same, within-same, native_name-is, slots-counted}
use Rattle.cc_host.proofs.LastingSteps.{around-ended, moved-stays}
use Rattle.cc_host.proofs.changes.move_native.Given as given
use Rattle.cc_host.proofs.MarkedCalls.{moved-marking}
use Rattle.cc_host.proofs.Marked.{marking-then}
use Rattle.cc_host.proofs.PlacesKept.{moved-places, places-round}
use Rattle.cc_host.proofs.Usable.{around-usable}
use Rattle.cc_host.proofs.changes.move_native.Goals as goal
use Rattle.cc_names.specs.declared.name.Name.{Name}
use Rattle.cc_names.specs.declared.register.Reg.TheVariants.{N}
use Rattle.cc_names.specs.Names.{native}
use Rattle.cc_model.specs.WellFormed.{IsWellFormed}
use Rattle.cc_host.specs.Hosted.{spare}
use Rattle.cc_host.specs.Spots.{IsWritten, Spot, WritesOnly, reads}
use Rattle.cc_host.proofs.SpotsKeyed.{moved-emptied, moved-only, moved-written, slot-read, writes-round}
use Rattle.cc_host.proofs.SpotsThen.{written-then}

pub move_slot-requires : goal.move_slot-requires
move_slot-requires g c =
    let v = c.args.heaps.now in
    let w = c.hold.new.heaps in
    let h = c.hold.ensures.held in
    record {
      order = ([], h.kept.order [] c.requires.ready.order);
      to_live = live-same v w h.keys c.args.to c.requires.to_live;
      to_within = within-same v w h.keys h.slots c.args.to.0 c.args.i c.requires.to_within;
      from_live = live-same v w h.keys c.args.from c.requires.from_live;
      from_within = within-same v w h.keys h.slots c.args.from.0 c.args.j c.requires.from_within;
    }

pub let_go-requires : goal.let_go-requires
let_go-requires g c =
    let h = c.hold.ensures.held in
    let k = moved-kept c.args.heaps.now c.hold.new.heaps h c.requires.to_live c.move_slot.new.self c.args.i c.args.from c.args.j c.requires.from_live c.move_slot.ensures.kept in
    record { order = k.order [] (h.kept.order [] c.requires.ready.order) }

kept : (g : given.Over) (c : goal.After-let_go g) → KeepsAll c.hold.new.heaps c.move_slot.new.self
kept g c = moved-kept c.args.heaps.now c.hold.new.heaps c.hold.ensures.held c.requires.to_live c.move_slot.new.self c.args.i c.args.from c.args.j c.requires.from_live c.move_slot.ensures.kept

came : (g : given.Over) (c : goal.After-let_go g) → NoneCame c.hold.new.heaps.heap c.move_slot.new.self.heap
came g c =
    let v = c.hold.new.heaps in
    moved-none_came v.heap c.move_slot.new.self.heap (the_number v c.args.to.0) c.args.i (the_number v c.args.from.0) c.args.j
    (c.hold.ensures.held.kept.order [] c.requires.ready.order).sound.well_formed c.move_slot.ensures.heap

pub returns-clause-change : goal.returns-clause-change
returns-clause-change g c =
    let v = c.args.heaps.now in
    let w = c.hold.new.heaps in
    let u = c.move_slot.new.self in
    let h = c.hold.ensures.held in
    let x = native_name v (Some c.args.to) in
    let y = native_name v (Some c.args.from) in
    let z = slot_held v.heap (the_number v c.args.from.0) c.args.j in
    around-change v w u c.let_go.new.heaps c.requires.ready h (kept g c) c.let_go.ensures.empty (IsReached v.heap x × IsReached v.heap y)
    (λ k. graph.move_slot k x c.args.i y c.args.j z) (move-leaves x c.args.i y c.args.j z) (λ p. p.0)
    (λ p. moved-stands v w h c.requires.to_live u c.args.i c.args.from c.args.j c.requires.from_live c.move_slot.ensures.stands p.1)
    (λ p. moved-leaves v w h c.requires.to_live u c.args.i c.args.from c.args.j c.requires.from_live c.move_slot.ensures.heap p.1)

pub returns-clause-tells : goal.returns-clause-tells
returns-clause-tells g c =
    around-tells c.args.heaps.now c.hold.new.heaps c.move_slot.new.self c.let_go.new.heaps c.requires.ready c.hold.ensures.held (kept g c) c.let_go.ensures.empty
    (g.N.Notices.telling c.args.out.now) (g.N.Notices.telling c.hold.new.out) (g.N.Notices.telling c.move_slot.new.out) (g.N.Notices.telling c.let_go.new.out)
    c.hold.ensures.told (came g c) c.move_slot.ensures.tells c.let_go.ensures.tells

pub returns-clause-none_came : goal.returns-clause-none_came
returns-clause-none_came g c =
    around-none_came c.args.heaps.now c.hold.new.heaps c.move_slot.new.self c.let_go.new.heaps c.requires.ready c.hold.ensures.held (kept g c) c.let_go.ensures.empty (came g c)

pub returns-clause-marking : goal.returns-clause-marking
returns-clause-marking g c =
    let w = c.hold.new.heaps in
    let u = c.move_slot.new.self in
    let e = c.move_slot.ensures in
    marking-then c.args.heaps.now w c.let_go.new.heaps c.hold.ensures.marking (marking-then w u c.let_go.new.heaps
    (moved-marking w u (the_number w c.args.to.0) c.args.i (the_number w c.args.from.0) c.args.j
    (c.hold.ensures.held.kept.order [] c.requires.ready.order).sound.well_formed e.heap e.marking e.kept.marks)
    c.let_go.ensures.marking)

pub returns-clause-places : goal.returns-clause-places
returns-clause-places g c =
    let w = c.hold.new.heaps in
    let u = c.move_slot.new.self in
    places-round c.args.heaps.now.heap w.heap u.heap c.let_go.new.heaps.heap c.hold.ensures.places
    (moved-places w.heap u.heap (the_number w c.args.to.0) c.args.i (the_number w c.args.from.0) c.args.j c.move_slot.ensures.heap)
    c.let_go.ensures.places

-- the names of both natives
to-named : (g : given.Over) (c : goal.After-let_go g) (x : Name) → native_name c.args.heaps.now (Some c.args.to) ≡ Some x → native (the_number c.hold.new.heaps c.args.to.0) ≡ x
to-named g c x e =
    let both = sym (native_name-is c.args.heaps.now c.hold.new.heaps c.hold.ensures.held.keys c.args.to c.requires.to_live) ∙ e in
    cc

from-named : (g : given.Over) (c : goal.After-let_go g) (y : Name) → native_name c.args.heaps.now (Some c.args.from) ≡ Some y → native (the_number c.hold.new.heaps c.args.from.0) ≡ y
from-named g c y e =
    let both = sym (native_name-is c.args.heaps.now c.hold.new.heaps c.hold.ensures.held.keys c.args.from c.requires.from_live) ∙ e in
    cc

well : (g : given.Over) (c : goal.After-let_go g) → IsWellFormed c.move_slot.new.self.heap
well g c = ((kept g c).order [] (c.hold.ensures.held.kept.order [] c.requires.ready.order)).sound.well_formed

pub returns-clause-writes : goal.returns-clause-writes
returns-clause-writes g c x y e f =
    let w = c.hold.new.heaps in
    let u = c.move_slot.new.self in
    let i = c.args.i in
    let j = c.args.j in
    let k = the_number w c.args.to.0 in
    let m = the_number w c.args.from.0 in
    writes-round spare (Spot.slot x i ∷ Spot.slot y j ∷ []) c.args.heaps.now.heap w.heap u.heap c.let_go.new.heaps.heap (came g c) c.let_go.ensures.empty.none_came
    c.requires.ready.spared c.let_go.ensures.empty.change.spared c.hold.ensures.writes
    (subst (λ a. WritesOnly (Spot.slot a i ∷ Spot.slot y j ∷ []) w.heap u.heap) (to-named g c x e)
    (subst (λ a. WritesOnly (Spot.slot (native k) i ∷ Spot.slot a j ∷ []) w.heap u.heap) (from-named g c y f)
    (moved-only w.heap u.heap k i m j c.move_slot.ensures.heap (well g c))))
    c.let_go.ensures.writes

pub returns-clause-written : goal.returns-clause-written
returns-clause-written g c x y e f =
    let v = c.args.heaps.now in
    let w = c.hold.new.heaps in
    let u = c.move_slot.new.self in
    let h = c.hold.ensures.held in
    let i = c.args.i in
    let j = c.args.j in
    let k = the_number w c.args.to.0 in
    let m = the_number w c.args.from.0 in
    let within = subst (λ n. i < n) (slots-counted w c.args.to.0) (within-same v w h.keys h.slots c.args.to.0 i c.requires.to_within) in
    let here : slot_held w.heap m j ≡ reads v.heap (Spot.slot y j) =
    ap (λ ss. get_or ss j None) (h.slots m) ∙ (slot-read v.heap m j ∙ ap (λ a. reads v.heap (Spot.slot a j)) (from-named g c y f)) in
    written-then (Spot.register (N spare) ∷ []) u.heap c.let_go.new.heaps.heap c.let_go.ensures.empty.none_came (Spot.slot x i) (reads v.heap (Spot.slot y j))
    (λ s. ⊎_elim (λ d. absurd (cc)) (λ n. n) s)
    (subst (λ z. IsWritten (Spot.slot x i) z u.heap) here
    (subst (λ a. IsWritten (Spot.slot a i) (slot_held w.heap m j) u.heap) (to-named g c x e)
    (moved-written w.heap u.heap k i m j c.move_slot.ensures.heap (well g c) within)))
    c.let_go.ensures.writes

pub returns-clause-emptied : goal.returns-clause-emptied
returns-clause-emptied g c x y e f apart =
    let w = c.hold.new.heaps in
    let u = c.move_slot.new.self in
    let i = c.args.i in
    let j = c.args.j in
    let k = the_number w c.args.to.0 in
    let m = the_number w c.args.from.0 in
    let far = subst (λ a. Spot.slot a i ≢ Spot.slot (native m) j) (sym (to-named g c x e)) (subst (λ a. Spot.slot x i ≢ Spot.slot a j) (sym (from-named g c y f)) apart) in
    written-then (Spot.register (N spare) ∷ []) u.heap c.let_go.new.heaps.heap c.let_go.ensures.empty.none_came (Spot.slot y j) None
    (λ s. ⊎_elim (λ d. absurd (cc)) (λ n. n) s)
    (subst (λ a. IsWritten (Spot.slot a j) None u.heap) (from-named g c y f) (moved-emptied w.heap u.heap k i m j c.move_slot.ensures.heap (well g c) far))
    c.let_go.ensures.writes

pub returns-clause-ended : goal.returns-clause-ended
returns-clause-ended g c =
    let v = c.hold.new.heaps in
    let w = c.move_slot.new.self in
    around-ended c.args.heaps.now v w c.let_go.new.heaps c.requires.ready.order c.hold.ensures.held
    (moved-stays v w (the_number v c.args.to.0) c.args.i (the_number v c.args.from.0) c.args.j c.move_slot.ensures.heap) c.let_go.ensures.empty

pub returns-clause-usable : goal.returns-clause-usable
returns-clause-usable g c =
    let v = c.hold.new.heaps in
    let w = c.move_slot.new.self in
    around-usable c.args.heaps.now v w c.let_go.new.heaps c.requires.ready.order c.hold.ensures.held
    (moved-stays v w (the_number v c.args.to.0) c.args.i (the_number v c.args.from.0) c.args.j c.move_slot.ensures.heap) c.let_go.ensures.empty
