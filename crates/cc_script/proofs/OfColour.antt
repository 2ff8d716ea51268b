-- OBJECTS OF A COLOUR, by key and as they are shown.
use Rattle.std.proofs.Common.{◌≡◌, ℕ, Option, Some, None, option_map, refl, ap, sym, ◌∙◌}
use Rattle.cc_lists.specs.Members.{Among}
use Rattle.cc_lists.proofs.Members.{Among-map, Among-map_cases}
use Rattle.cc_names.specs.declared.kind.Colour.{Colour}
use Rattle.cc_script.specs.Objects.{Object}
use Rattle.cc_script.specs.Lists.{Placed, Lists, cell_at, placed_or_nothing, with_key, shown_at, objects_of, IsPlaced}

module _ (l : Lists) (p : IsPlaced l) (colour : Colour) where
  pub coloured-object : (key : ℕ) → option_map (λ (c : Placed). c.colour) (cell_at l.cells key) ≡ Some colour → (o : Object) × (Among o (objects_of l) × (o.colour ≡ colour))
  coloured-object key e =
      let f = read (cell_at l.cells key) e in
      let here : shown_at l key ≡ with_key key (l.walks key) f.0 = ap (λ c. with_key key (l.walks key) (placed_or_nothing c)) f.1.0 in
      (shown_at l key, (Among-map (shown_at l) key l.order (p.ordered key f.0 f.1.0), ap (λ (z : Object). z.colour) here ∙ f.1.1))
    where
      read : (o : Option Placed) → option_map (λ (c : Placed). c.colour) o ≡ Some colour → (c : Placed) × ((o ≡ Some c) × (c.colour ≡ colour))
      read None f = absurd (cc)
      read (Some c) f = (c, (refl, cc))

  pub coloured-key : (o : Object) → Among o (objects_of l) → o.colour ≡ colour → (key : ℕ) × (option_map (λ (c : Placed). c.colour) (cell_at l.cells key) ≡ Some colour)
  coloured-key o m is =
      let k = Among-map_cases (shown_at l) l.order o m in
      let f = p.in_order k.0 k.1 in
      let shown = ap (λ c. (with_key k.0 (l.walks k.0) (placed_or_nothing c)).colour) (sym f.1) ∙ (ap (λ (z : Object). z.colour) k.2 ∙ is) in
      (k.0, ap (option_map (λ (c : Placed). c.colour)) f.1 ∙ ap Some shown)
