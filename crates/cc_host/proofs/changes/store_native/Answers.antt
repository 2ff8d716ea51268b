use Rattle.std.proofs.Common.{[], Some, sym, subst, ◌∷◌, ◌∙◌}
use Rattle.cc_lists.specs.Members.{Among}
use Rattle.cc_names.specs.Names.{native}
use Rattle.cc_model.specs.Graph as graph
use Rattle.cc_model.proofs.Tellings.{Tells-nil}
use Rattle.cc_heaps.specs.Keyed.{number_at}
use Rattle.cc_heaps.specs.Changes.{held_name, native_name}
use Rattle.cc_heaps.specs.Standing.{IsReached, IsReachedOrReflects}
use Rattle.cc_host.specs.Changes.{IsChange}
use Rattle.cc_host.proofs.Composing.{change-after, tells-after}
use Rattle.cc_host.proofs.Storing.{live-same, native_name-same, within-same}
use Rattle.cc_host.proofs.Marked.{marking-after}
use Rattle.cc_host.proofs.Reflects.{native-or, reflects-kept}
use Rattle.cc_host.specs.Marked.{IsPastIfAny}
use Rattle.cc_laws_told.proofs.Face.{ended-then}
use Rattle.cc_host.proofs.Usable.{usable-then}
use Rattle.cc_host.proofs.changes.store_native.Goals as goal
use Rattle.cc_host.specs.Spots.{IsWritten, Spot}
use Rattle.cc_host.proofs.SpotsThen.{writes-more, writes-then}

pub store_black-requires : goal.store_black-requires
store_black-requires g c =
    let v = c.args.heaps.now in
    let w = c.expose_held.new.heaps in
    let e = c.expose_held.ensures in
    record {
      ready = record { order = e.change.kept.order [] c.requires.ready.order; spared = e.change.spared };
      live = live-same v w e.keys c.args.key c.requires.live;
      within = within-same v w e.keys e.slots c.args.key.0 c.args.i c.requires.within;
      there = e.stays.there c.args.content c.requires.there;
      black = e.black;
    }

pub returns-clause-change : goal.returns-clause-change
returns-clause-change g c =
    let v = c.args.heaps.now in
    let w = c.expose_held.new.heaps in
    let u = c.store_black.new.heaps in
    let e = c.expose_held.ensures in
    let x = native_name v (Some c.args.key) in
    let y = held_name v c.args.content in
    let near = native_name-same v w e.keys c.args.key in
    let same = e.stays.same c.args.content c.requires.there in
    let p = IsReachedOrReflects v.heap x × IsReachedOrReflects v.heap y in
    subst (λ z. IsChange p (λ k. graph.set_slot k z c.args.i y) v u) near
    (subst (λ z. IsChange p (λ k. graph.set_slot k (native_name w (Some c.args.key)) c.args.i z) v u) same
    (change-after v w u c.requires.ready e.change c.store_black.ensures.none_came (λ r. r.1)
    (λ r. (subst (IsReached w.heap) (sym near) (e.reached x (native-or v.heap (number_at v c.args.key.0) r.0)), subst (IsReachedOrReflects w.heap) (sym same) (reflects-kept v.heap w.heap e.reached y r.1))) c.store_black.ensures.change))

pub returns-clause-tells : goal.returns-clause-tells
returns-clause-tells g c =
    let names = c.expose_held.ensures.names in
    let before = g.N.Notices.telling c.args.out.now in
    tells-after c.args.heaps.now.heap c.expose_held.new.heaps.heap c.store_black.new.heaps.heap before before (g.N.Notices.telling c.store_black.new.out)
    (Tells-nil before) (λ x m. subst (Among x) (sym names) m) (λ j m. subst (Among (native j)) names m) c.store_black.ensures.tells

pub returns-clause-none_came : goal.returns-clause-none_came
returns-clause-none_came g c x m = subst (Among x) c.expose_held.ensures.names (c.store_black.ensures.none_came x m)

pub returns-clause-marking : goal.returns-clause-marking
returns-clause-marking g c =
    let w = c.expose_held.new.heaps in
    let e = c.expose_held.ensures in
    marking-after c.args.heaps.now w c.store_black.new.heaps e.marking
    (λ k. c.store_black.ensures.marking (λ its. subst (IsPastIfAny w) (sym (e.stays.same c.args.content c.requires.there)) (e.past k)))

pub returns-clause-writes : goal.returns-clause-writes
returns-clause-writes g c x e =
    let v = c.args.heaps.now in
    let w = c.expose_held.new.heaps in
    let only = Spot.slot x c.args.i ∷ [] in
    writes-then only v.heap w.heap c.store_black.new.heaps.heap c.store_black.ensures.none_came
    (writes-more [] only v.heap w.heap (λ s i. absurd i) c.expose_held.ensures.writes)
    (c.store_black.ensures.writes x (native_name-same v w c.expose_held.ensures.keys c.args.key ∙ e))

pub returns-clause-written : goal.returns-clause-written
returns-clause-written g c x e =
    let v = c.args.heaps.now in
    let w = c.expose_held.new.heaps in
    subst (λ y. IsWritten (Spot.slot x c.args.i) y c.store_black.new.heaps.heap) (c.expose_held.ensures.stays.same c.args.content c.requires.there)
    (c.store_black.ensures.written x (native_name-same v w c.expose_held.ensures.keys c.args.key ∙ e))

pub returns-clause-ended : goal.returns-clause-ended
returns-clause-ended g c = ended-then c.args.heaps.now.heap c.expose_held.new.heaps.heap c.store_black.new.heaps.heap c.expose_held.ensures.ended c.store_black.ensures.ended

pub returns-clause-usable : goal.returns-clause-usable
returns-clause-usable g c =
    let mid = c.expose_held.new.heaps.heap in
    let e = c.expose_held.ensures in
    let f = c.store_black.ensures in
    let order = e.change.kept.order [] c.requires.ready.order in
    usable-then c.args.heaps.now.heap mid c.store_black.new.heaps.heap order.sound.well_formed f.none_came e.usable f.usable
