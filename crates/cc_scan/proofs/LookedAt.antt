-- The mappings of a node are looked at one after another, by place.
use Rattle.std.specs.Prelude.{slice_get}
use Rattle.std.proofs.Common.{◌≡◌, ℕ, suc, ◌+◌, ◌≤◌, true, length, drop, filter, Option, Some, None, option_map, refl, sym, ◌∙◌, ap, subst, arith}
use Rattle.std.proofs.lemmas.Option.{same_Some}
use Rattle.cc_graph.specs.Shown.{Shown, is_with, place_with}
use Rattle.cc_scan.specs.Steps.{with_value, with_values}
use Rattle.cc_scan.proofs.Passing.{IsNextPlace, place-next, place-none}

-- The mappings from `start` on are still to be looked at, and the first of them is at `place`.
pub record AreLookedAt (g₀ g : Shown) (node : Option ℕ) (steps₀ steps : ℕ) (place : Option ℕ) : Type 0 where
  pub rest : g ≡ record g₀ { blacks = g.blacks }
  pub start : ℕ
  pub next : place ≡ place_with g₀.hyperedges node start
  pub left : with_values g.blacks (filter (is_with node) (drop start g₀.hyperedges)) ≡ with_values g₀.blacks (filter (is_with node) g₀.hyperedges)
  pub counted : steps + length (filter (is_with node) (drop start g₀.hyperedges)) ≡ steps₀ + length (filter (is_with node) g₀.hyperedges)

-- before the first
pub looked-start : (g : Shown) (node : Option ℕ) (steps : ℕ) (place : Option ℕ) → place ≡ place_with g.hyperedges node 0 → AreLookedAt g g node steps steps place
looked-start g n steps place e = record { rest = refl; start = 0; next = e; left = refl; counted = refl }

module _ (g₀ g : Shown) (node : Option ℕ) (steps₀ steps place : ℕ) (h : AreLookedAt g₀ g node steps₀ steps (Some place)) where
  abbrev the_next : IsNextPlace (is_with node) g₀.hyperedges h.start place
  the_next = place-next (is_with node) g₀.hyperedges h.start place (sym h.next)

  -- there is a mapping at the place,
  there_now : slice_get g.hyperedges place ≡ Some the_next.element
  there_now = ap (λ (z : Shown). slice_get z.hyperedges place) h.rest ∙ the_next.there

  pub looked-within : suc place ≤ length g.hyperedges
  looked-within = subst (λ (z : Shown). suc place ≤ length z.hyperedges) (sym h.rest) (let l = the_next.within in omega (arith, l))

  module _ (new : Shown) (value : option_map (λ m. with_value g.blacks m) (slice_get g.hyperedges place) ≡ Some new.blacks)
      (rest : new ≡ record g { blacks = new.blacks }) where
    same : new ≡ record g₀ { blacks = new.blacks }
    same = rest ∙ ap (λ (z : Shown). record z { blacks = new.blacks }) h.rest

    -- which is of the node,
    pub looked-member : option_map (is_with node) (slice_get new.hyperedges place) ≡ Some true
    looked-member = ap (λ (z : Shown). option_map (is_with node) (slice_get z.hyperedges place)) same ∙ (ap (option_map (is_with node)) the_next.there ∙ ap Some the_next.passes)

    -- and after it was looked at fewer are left
    pub looked-next : (next : Option ℕ) → next ≡ place_with new.hyperedges node (place + 1) → AreLookedAt g₀ new node steps₀ (steps + 1) next
    looked-next next at = record {
      rest = same;
      start = place + 1;
      next = at ∙ ap (λ (z : Shown). place_with z.hyperedges node (place + 1)) same;
      left =
          let blacks : with_value g.blacks the_next.element ≡ new.blacks = same_Some _ _ (sym (ap (option_map (λ m. with_value g.blacks m)) there_now) ∙ value) in
          ap (λ bs. with_values bs (filter (is_with node) (drop (place + 1) g₀.hyperedges))) (sym blacks) ∙ (sym (ap (with_values g.blacks) the_next.left) ∙ h.left);
      counted = let more : length (filter (is_with node) (drop h.start g₀.hyperedges)) ≡ suc (length (filter (is_with node) (drop (place + 1) g₀.hyperedges))) = ap length the_next.left in
          omega (arith, more, h.counted);
    }

-- at the end
pub looked-end : (g₀ g : Shown) (node : Option ℕ) (steps₀ steps : ℕ) → AreLookedAt g₀ g node steps₀ steps None →
    g.blacks ≡ with_values g₀.blacks (filter (is_with node) g₀.hyperedges)
looked-end g₀ g node steps₀ steps h = ap (with_values g.blacks) (sym (place-none (is_with node) g₀.hyperedges h.start (sym h.next))) ∙ h.left

pub looked-count : (g₀ g : Shown) (node : Option ℕ) (steps₀ steps : ℕ) → AreLookedAt g₀ g node steps₀ steps None →
    steps ≡ steps₀ + length (filter (is_with node) g₀.hyperedges)
looked-count g₀ g node steps₀ steps h =
    let none : length (filter (is_with node) (drop h.start g₀.hyperedges)) ≡ 0 = ap length (place-none (is_with node) g₀.hyperedges h.start (sym h.next)) in
    omega (arith, none, h.counted)
