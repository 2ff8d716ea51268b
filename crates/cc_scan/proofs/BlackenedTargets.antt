-- The targets of a node's references become black one after another, by place.
use Rattle.std.specs.Prelude.{slice_get}
use Rattle.std.proofs.Common.{◌≡◌, ℕ, ◌+◌, ◌==◌, List, ◌∷◌, map, filter, drop, Option, Some, None, sym, ◌∙◌, ap}
use Rattle.std.proofs.lemmas.Bool.{eqb-true}
use Rattle.cc_lists.specs.Members.{with_all_last}
use Rattle.cc_graph.specs.Shown.{Edge, Shown, place_from, with_black}
use Rattle.cc_scan.proofs.Passing.{IsNextPlace, place-next, place-none}

-- the targets of a node's references, in order
abbrev pub targets_of : ℕ → List Edge → List ℕ
targets_of i es = map (λ e. e.target) (filter (λ e. e.source == i) es)

-- The targets from `start` on are still to become black, and the first of them is at `place`.
pub record AreFollowed (g₀ g : Shown) (i : ℕ) (place : Option ℕ) : Type 0 where
  pub rest : g ≡ record g₀ { blacks = g.blacks }
  pub start : ℕ
  pub next : place ≡ place_from g₀.edges i start
  pub left : with_all_last ◌==◌ g.blacks (targets_of i (drop start g₀.edges)) ≡ with_all_last ◌==◌ g₀.blacks (targets_of i g₀.edges)

module _ (g₀ g : Shown) (i place : ℕ) (h : AreFollowed g₀ g i (Some place)) where
  abbrev the_next : IsNextPlace (λ (e : Edge). e.source == i) g₀.edges h.start place
  the_next = place-next (λ (e : Edge). e.source == i) g₀.edges h.start place (sym h.next)

  -- there is a reference at the place
  there_now : slice_get g.edges place ≡ Some the_next.element
  there_now = ap (λ (z : Shown). slice_get z.edges place) h.rest ∙ the_next.there

  -- that the node has
  its_edge : (e : Edge) → slice_get g.edges place ≡ Some e → the_next.element ≡ e
  its_edge e there = let f : Some the_next.element ≡ Some e = sym there_now ∙ there in cc

  -- after its target became black
  pub followed-next : (e : Edge) (next : Option ℕ) → slice_get g.edges place ≡ Some e → next ≡ place_from g.edges e.source (place + 1) →
      AreFollowed g₀ (record g { blacks = with_black g.blacks e.target }) i next
  followed-next e next there at =
      let same : the_next.element ≡ e = its_edge e there in
      let source : e.source ≡ i = sym (ap (λ (z : Edge). z.source) same) ∙ eqb-true the_next.element.source i the_next.passes in
      record {
        rest = ap (λ (z : Shown). record z { blacks = with_black g.blacks e.target }) h.rest;
        start = place + 1;
        next = at ∙ (ap (λ (z : Shown). place_from z.edges e.source (place + 1)) h.rest ∙ ap (λ n. place_from g₀.edges n (place + 1)) source);
        left =
            let split : targets_of i (drop h.start g₀.edges) ≡ e.target ∷ targets_of i (drop (place + 1) g₀.edges) =
            ap (map (λ (z : Edge). z.target)) the_next.left ∙ ap (λ (z : Edge). z.target ∷ targets_of i (drop (place + 1) g₀.edges)) same in
            sym (ap (with_all_last ◌==◌ g.blacks) split) ∙ h.left;
      }

-- at the end
pub followed-end : (g₀ g : Shown) (i : ℕ) → AreFollowed g₀ g i None → g.blacks ≡ with_all_last ◌==◌ g₀.blacks (targets_of i g₀.edges)
followed-end g₀ g i h = ap (with_all_last ◌==◌ g.blacks) (sym (ap (map (λ (z : Edge). z.target)) (place-none (λ (e : Edge). e.source == i) g₀.edges h.start (sym h.next)))) ∙ h.left
