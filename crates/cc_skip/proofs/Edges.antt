-- WHAT AN OBJECT REFERS TO: what its places hold, and its edges, are the same.
use Rattle.std.proofs.Common.{arith, ◌≡◌, Option, Some, None, refl, sym, ap, subst}
use Rattle.std.specs.Option.{option_and_then}
use Rattle.cc_lists.specs.Members.{Among}
use Rattle.cc_names.specs.declared.name.Name.{Name}
use Rattle.cc_model.specs.Slots.{contents}
use Rattle.cc_model.specs.Checks.{slots_or_none}
use Rattle.cc_model.specs.Heap.{Heap}
use Rattle.cc_model.specs.Places.{places_in}
use Rattle.cc_model.specs.StandsFor.{Shape, shape_at}
use Rattle.cc_model.specs.View.{view}
use Rattle.cc_model.specs.WellFormed.{IsWellFormed}
use Rattle.cc_laws_heap.proofs.HeapShapes.{places_in-shape, edge-held, held-edge}
use Rattle.cc_counted.specs.declared.held.Held.{Held}
use Rattle.cc_heaps.specs.Keyed.{Keyed}
use Rattle.cc_heaps.specs.Changes.{held_name}
use Rattle.cc_heaps.specs.Places.{places_at}

module _ (h : Heap) (w : IsWellFormed h) where
  -- what has no shape has no places
  no_places : (x : Name) → shape_at h x ≡ None → places_in h x ≡ None
  no_places x e = grind arith

  -- what a place holds is at the end of an edge
  place-edge : (x y : Name) → Among y (contents (slots_or_none (places_in h x))) → Among (x, y) (view h).edges
  place-edge x y m = go (shape_at h x) refl
    where
      go : (o : Option Shape) → shape_at h x ≡ o → Among (x, y) (view h).edges
      go None e = absurd (subst (λ p. Among y (contents (slots_or_none p))) (no_places x e) m)
      go (Some s) e = held-edge h w x y s e (subst (Among y) (places_in-shape h w x s e) m)

  -- what is at the end of an edge stands in a place
  edge-place : (x y : Name) → Among (x, y) (view h).edges → Among y (contents (slots_or_none (places_in h x)))
  edge-place x y m = let f = edge-held h w x y m in subst (Among y) (sym (places_in-shape h w x f.0 f.1)) f.2

module _ (v : Keyed) (w : IsWellFormed v.heap) (o : Held) (x : Name) (named : held_name v (Some o) ≡ Some x) where
  -- the places of an object by its key are those of its name
  places-named : places_at v o ≡ slots_or_none (places_in v.heap x)
  places-named = ap (λ n. slots_or_none (option_and_then (places_in v.heap) n)) named

  -- what its places hold is at the end of an edge
  pub held-to : (y : Name) → Among y (contents (places_at v o)) → Among (x, y) (view v.heap).edges
  held-to y m = place-edge v.heap w x y (subst (λ slots. Among y (contents slots)) places-named m)

  -- what is at the end of an edge stands in one of its places
  pub to-held : (y : Name) → Among (x, y) (view v.heap).edges → Among y (contents (places_at v o))
  to-held y m = subst (λ slots. Among y (contents slots)) (sym places-named) (edge-place v.heap w x y m)
