-- OBJECTS BY KEY: what the list shows at a key is what stands there.
use Rattle.std.proofs.Common.{◌≡◌, ℕ, true, false, Option, Some, None, option_map, option_and_then, is_some, refl, sym, ◌∙◌, ap, subst, ◌==◌, arith, count_by, length}
use Rattle.std.specs.List.{find}
use Rattle.std.proofs.lemmas.Bool.{false≢true}
use Rattle.std.proofs.lemmas.List.{length-map}
use Rattle.cc_lists.specs.Members.{Among}
use Rattle.cc_lists.proofs.Members.{Among-map_cases}
use Rattle.cc_lists.proofs.Searching.{find-map}
use Rattle.cc_chain.proofs.Occupied.{few-differ, occupied-length}
use Rattle.cc_script.specs.Objects.{Object, colour_at, delegate_at, new_mark_at, object_at, is_there, slots_at, slots_or_none, walked_at}
use Rattle.cc_script.specs.Lists.{Placed, Lists, cell_at, placed_or_nothing, with_key, shown_at, objects_of, IsPlaced}
use Rattle.cc_script.proofs.Keys.{find-key, find-no_key}

module _ (l : Lists) (p : IsPlaced l) where
  pub object_at-cell : (key : ℕ) → object_at (objects_of l) key ≡ option_map (with_key key (l.walks key)) (cell_at l.cells key)
  object_at-cell key = find-map (λ (o : Object). o.key == key) (shown_at l) l.order ∙ go (cell_at l.cells key) refl
    where
      go : (o : Option Placed) → cell_at l.cells key ≡ o → option_map (shown_at l) (find (λ k. k == key) l.order) ≡ option_map (with_key key (l.walks key)) o
      go None e = ap (option_map (shown_at l)) (find-no_key l.order key (λ m. let f = p.in_order key m in let bad : Some f.0 ≡ None = sym f.1 ∙ e in absurd (cc)))
      go (Some c) e = ap (option_map (shown_at l)) (find-key l.order key (p.ordered key c e)) ∙ ap (λ o. Some (with_key key (l.walks key) (placed_or_nothing o))) e

  pub object_at-placed : (key : ℕ) (c : Placed) → cell_at l.cells key ≡ Some c → object_at (objects_of l) key ≡ Some (with_key key (l.walks key) c)
  object_at-placed key c e = object_at-cell key ∙ ap (option_map (with_key key (l.walks key))) e

  pub colour_at-cell : (key : ℕ) → colour_at (objects_of l) key ≡ option_map (λ (c : Placed). c.colour) (cell_at l.cells key)
  colour_at-cell key = grind (arith, object_at-cell)

  pub new_mark_at-cell : (key : ℕ) → new_mark_at (objects_of l) key ≡ option_map (λ (c : Placed). c.new_mark) (cell_at l.cells key)
  new_mark_at-cell key = grind (arith, object_at-cell)

  pub walked_at-cell : (key : ℕ) (c : Placed) → cell_at l.cells key ≡ Some c → walked_at (objects_of l) key ≡ Some (l.walks key)
  walked_at-cell key c e = ap (option_map (λ (o : Object). o.walked)) (object_at-placed key c e)

  -- a key of an object, and of none
  pub live-cell : (key : ℕ) → is_there (objects_of l) key ≡ true → (c : Placed) × (cell_at l.cells key ≡ Some c)
  live-cell key live = grind (arith, false≢true, object_at-cell)

  pub live-some : (key : ℕ) → is_there (objects_of l) key ≡ true → is_some (cell_at l.cells key) ≡ true
  live-some key live = ap is_some (live-cell key live).1

  pub is_there-none : (key : ℕ) → cell_at l.cells key ≡ None → is_there (objects_of l) key ≡ false
  is_there-none key e = ap is_some (object_at-cell key ∙ ap (option_map (with_key key (l.walks key))) e)

  -- its slots
  pub slots_at-placed : (key : ℕ) (c : Placed) → cell_at l.cells key ≡ Some c → slots_at (objects_of l) key ≡ c.slots
  slots_at-placed key c e = ap slots_or_none (object_at-placed key c e)

  -- its delegate
  pub delegate_at-cell : (key : ℕ) (x : Option ℕ) → option_map (λ (c : Placed). c.delegate) (cell_at l.cells key) ≡ Some x → delegate_at (objects_of l) key ≡ x
  delegate_at-cell key x e = ap (option_and_then (λ (o : Object). o.delegate)) (object_at-cell key) ∙ go (cell_at l.cells key) e
    where
      go : (o : Option Placed) → option_map (λ (c : Placed). c.delegate) o ≡ Some x → option_and_then (λ (z : Object). z.delegate) (option_map (with_key key (l.walks key)) o) ≡ x
      go None f = absurd (cc)
      go (Some c) f = cc

  -- each object is the one at its key
  pub object_at-own : (o : Object) → Among o (objects_of l) → object_at (objects_of l) o.key ≡ Some o
  object_at-own o m =
      let k = Among-map_cases (shown_at l) l.order o m in
      let f = p.in_order k.0 k.1 in
      subst (λ (z : Object). object_at (objects_of l) z.key ≡ Some z) k.2
      (object_at-placed k.0 f.0 f.1 ∙ ap (λ c. Some (with_key k.0 (l.walks k.0) (placed_or_nothing c))) (sym f.1))

  -- the order has each key once, so there are as many objects as keys at which one stands
  pub objects-counted : count_by is_some l.cells ≡ length (objects_of l)
  objects-counted = occupied-length l.cells l.order (few-differ l.order p.once) p.in_order p.ordered ∙ sym (length-map l.order (shown_at l))
