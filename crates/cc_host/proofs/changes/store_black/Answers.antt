use Rattle.std.proofs.Common.{[], Some, sym, subst, ◌∷◌, ◌≡◌, ◌<◌, ◌∙◌, ⊎_elim}
use Rattle.cc_model.specs.Graph as graph
use Rattle.cc_heaps.specs.Keyed.{the_number}
use Rattle.cc_heaps.specs.Changes.{held_name, native_name}
use Rattle.cc_heaps.specs.Keeping.{KeepsAll}
use Rattle.cc_heaps.specs.Leaving.{NoneCame}
use Rattle.cc_heaps.specs.Standing.{IsReached, IsReachedOrReflects}
use Rattle.cc_heaps.proofs.FewCounts.{none-owned}
use Rattle.cc_host.proofs.Around.{around-none_came, around-change, around-tells}
use Rattle.cc_host.proofs.Exposing.{stays-same}
use Rattle.cc_host.proofs.Spare.{slot-leaves}
use Rattle.cc_host.proofs.Storing.{stored-kept, stored-leaves, stored-none_came, stored-stands, within-same, native_name-is, slots-counted}
use Rattle.cc_host.proofs.LastingSteps.{around-ended, stored-stays}
use Rattle.cc_host.proofs.changes.store_black.Given as given
use Rattle.cc_host.proofs.MarkedCalls.{stored-marking}
use Rattle.cc_host.proofs.Marked.{marking-after, marking-then}
use Rattle.cc_host.specs.Marked.{IsPastIfAny}
use Rattle.cc_host.proofs.PlacesKept.{places-round, stored-places}
use Rattle.cc_host.proofs.Usable.{around-usable}
use Rattle.cc_host.proofs.changes.store_black.Goals as goal
use Rattle.cc_names.specs.declared.name.Name.{Name}
use Rattle.cc_names.specs.declared.register.Reg.TheVariants.{N}
use Rattle.cc_names.specs.Names.{native}
use Rattle.cc_host.specs.Hosted.{spare}
use Rattle.cc_host.specs.Spots.{IsWritten, Spot, WritesOnly}
use Rattle.cc_host.proofs.SpotsKeyed.{stored-only, stored-written, writes-round}
use Rattle.cc_host.proofs.SpotsThen.{written-then}

pub store_native-requires-clause-order : goal.store_native-requires-clause-order
store_native-requires-clause-order g c = none-owned c.hold.new.heaps (c.hold.ensures.held.kept.order [] c.requires.ready.order)

pub store_native-requires-clause-within : goal.store_native-requires-clause-within
store_native-requires-clause-within g c =
    let h = c.hold.ensures.held in
    within-same c.args.heaps.now c.hold.new.heaps h.keys h.slots c.args.key.0 c.args.i c.requires.within

pub store_native-requires-clause-there : goal.store_native-requires-clause-there
store_native-requires-clause-there g c =
    let h = c.hold.ensures.held in
    (stays-same c.args.heaps.now c.hold.new.heaps h.keys h.scripts).there c.args.content c.requires.there

pub let_go-requires : goal.let_go-requires
let_go-requires g c =
    let h = c.hold.ensures.held in
    let k = stored-kept c.args.heaps.now c.hold.new.heaps h c.requires.live c.store_native.new.self c.args.i c.args.content c.requires.there c.requires.black c.store_native.ensures.kept in
    record { order = k.order [] (h.kept.order [] c.requires.ready.order) }

kept : (g : given.Over) (c : goal.After-let_go g) → KeepsAll c.hold.new.heaps c.store_native.new.self
kept g c = stored-kept c.args.heaps.now c.hold.new.heaps c.hold.ensures.held c.requires.live c.store_native.new.self c.args.i c.args.content c.requires.there c.requires.black c.store_native.ensures.kept

came : (g : given.Over) (c : goal.After-let_go g) → NoneCame c.hold.new.heaps.heap c.store_native.new.self.heap
came g c =
    let v = c.hold.new.heaps in
    stored-none_came v c.store_native.new.self (the_number v c.args.key.0) c.args.i (held_name v c.args.content) c.store_native.ensures.heap

pub returns-clause-change : goal.returns-clause-change
returns-clause-change g c =
    let v = c.args.heaps.now in
    let w = c.hold.new.heaps in
    let u = c.store_native.new.self in
    let h = c.hold.ensures.held in
    let x = native_name v (Some c.args.key) in
    let y = held_name v c.args.content in
    around-change v w u c.let_go.new.heaps c.requires.ready h (kept g c) c.let_go.ensures.empty (IsReached v.heap x × IsReachedOrReflects v.heap y)
    (λ k. graph.set_slot k x c.args.i y) (slot-leaves x c.args.i y) (λ p. p.0)
    (λ p. stored-stands v w h c.requires.live u c.args.i c.args.content c.requires.there c.requires.ready.order (kept g c) c.store_native.ensures.heap p.1)
    (λ p. stored-leaves v w h c.requires.live u c.args.i c.args.content c.requires.there c.store_native.ensures.heap p.1)

pub returns-clause-none_came : goal.returns-clause-none_came
returns-clause-none_came g c =
    around-none_came c.args.heaps.now c.hold.new.heaps c.store_native.new.self c.let_go.new.heaps c.requires.ready c.hold.ensures.held (kept g c) c.let_go.ensures.empty (came g c)

pub returns-clause-tells : goal.returns-clause-tells
returns-clause-tells g c =
    around-tells c.args.heaps.now c.hold.new.heaps c.store_native.new.self c.let_go.new.heaps c.requires.ready c.hold.ensures.held (kept g c) c.let_go.ensures.empty
    (g.N.Notices.telling c.args.out.now) (g.N.Notices.telling c.hold.new.out) (g.N.Notices.telling c.store_native.new.out) (g.N.Notices.telling c.let_go.new.out)
    c.hold.ensures.told (came g c) c.store_native.ensures.tells c.let_go.ensures.tells

pub returns-clause-marking : goal.returns-clause-marking
returns-clause-marking g c past =
    let v = c.args.heaps.now in
    let w = c.hold.new.heaps in
    let u = c.store_native.new.self in
    let h = c.hold.ensures in
    let same = (stays-same v w h.held.keys h.held.scripts).same c.args.content c.requires.there in
    marking-after v w c.let_go.new.heaps h.marking (λ k. marking-then w u c.let_go.new.heaps
    (stored-marking w u (the_number w c.args.key.0) c.args.i (held_name w c.args.content) c.store_native.ensures.heap c.store_native.ensures.marks
    (λ its. subst (IsPastIfAny w) (sym same) (λ y i. h.marking.past k y (past k y i))))
    c.let_go.ensures.marking)

pub returns-clause-places : goal.returns-clause-places
returns-clause-places g c =
    let w = c.hold.new.heaps in
    let u = c.store_native.new.self in
    places-round c.args.heaps.now.heap w.heap u.heap c.let_go.new.heaps.heap c.hold.ensures.places
    (stored-places w u (the_number w c.args.key.0) c.args.i (held_name w c.args.content) c.store_native.ensures.heap)
    c.let_go.ensures.places

-- the name of the native that is written
named : (g : given.Over) (c : goal.After-let_go g) (x : Name) → native_name c.args.heaps.now (Some c.args.key) ≡ Some x → native (the_number c.hold.new.heaps c.args.key.0) ≡ x
named g c x e =
    let both = sym (native_name-is c.args.heaps.now c.hold.new.heaps c.hold.ensures.held.keys c.args.key c.requires.live) ∙ e in
    cc

pub returns-clause-writes : goal.returns-clause-writes
returns-clause-writes g c x e =
    let w = c.hold.new.heaps in
    let u = c.store_native.new.self in
    let k = the_number w c.args.key.0 in
    let early = c.hold.ensures.held.kept.order [] c.requires.ready.order in
    let one : WritesOnly (Spot.slot (native k) c.args.i ∷ []) w.heap u.heap =
    stored-only w u k c.args.i (held_name w c.args.content) c.store_native.ensures.heap ((kept g c).order [] early).sound.well_formed in
    writes-round spare (Spot.slot x c.args.i ∷ []) c.args.heaps.now.heap w.heap u.heap c.let_go.new.heaps.heap (came g c) c.let_go.ensures.empty.none_came
    c.requires.ready.spared c.let_go.ensures.empty.change.spared c.hold.ensures.writes
    (subst (λ y. WritesOnly (Spot.slot y c.args.i ∷ []) w.heap u.heap) (named g c x e) one) c.let_go.ensures.writes

pub returns-clause-written : goal.returns-clause-written
returns-clause-written g c x e =
    let v = c.args.heaps.now in
    let w = c.hold.new.heaps in
    let u = c.store_native.new.self in
    let h = c.hold.ensures.held in
    let k = the_number w c.args.key.0 in
    let early = h.kept.order [] c.requires.ready.order in
    let within = subst (λ n. c.args.i < n) (slots-counted w c.args.key.0) (within-same v w h.keys h.slots c.args.key.0 c.args.i c.requires.within) in
    let one = stored-written w u k c.args.i (held_name w c.args.content) c.store_native.ensures.heap ((kept g c).order [] early).sound.well_formed within in
    written-then (Spot.register (N spare) ∷ []) u.heap c.let_go.new.heaps.heap c.let_go.ensures.empty.none_came (Spot.slot x c.args.i) (held_name v c.args.content)
    (λ i. ⊎_elim (λ d. absurd (cc)) (λ n. n) i)
    (subst (λ y. IsWritten (Spot.slot x c.args.i) y u.heap) ((stays-same v w h.keys h.scripts).same c.args.content c.requires.there)
    (subst (λ y. IsWritten (Spot.slot y c.args.i) (held_name w c.args.content) u.heap) (named g c x e) one))
    c.let_go.ensures.writes

pub returns-clause-ended : goal.returns-clause-ended
returns-clause-ended g c =
    let v = c.hold.new.heaps in
    let w = c.store_native.new.self in
    around-ended c.args.heaps.now v w c.let_go.new.heaps c.requires.ready.order c.hold.ensures.held
    (stored-stays v w (the_number v c.args.key.0) c.args.i (held_name v c.args.content) c.store_native.ensures.heap) c.let_go.ensures.empty

pub returns-clause-usable : goal.returns-clause-usable
returns-clause-usable g c =
    let v = c.hold.new.heaps in
    let w = c.store_native.new.self in
    around-usable c.args.heaps.now v w c.let_go.new.heaps c.requires.ready.order c.hold.ensures.held
    (stored-stays v w (the_number v c.args.key.0) c.args.i (held_name v c.args.content) c.store_native.ensures.heap) c.let_go.ensures.empty
