-- Nodes that pass a test become black one after another, by rising number.
use Rattle.std.specs.Prelude.{IsTrue, ◌↔◌, slice_get}
use Rattle.std.proofs.Common.{◌≡◌, ℕ, zero, suc, ◌+◌, ◌<◌, ◌≤◌, Bool, true, false, List, [], ◌∷◌, length, Option, Some, option_map, refl, sym, ap, subst, inl, inr, ◌⊎◌, ⊎_elim, arith}
use Rattle.std.proofs.lemmas.Bool.{true≢false}
use Rattle.std.proofs.lemmas.Bool.Decides.{eqb_tells}
use Rattle.std.proofs.lemmas.Option.{slice_get_within}
use Rattle.cc_lists.specs.Members.{Among}
use Rattle.cc_lists.proofs.Members.{has-among, has-there}
use Rattle.cc_lists.proofs.OnceEach.{with_all_last-keeps, with_all_last-there, with_all_last-cases}
use Rattle.cc_lists.proofs.Numbers.{number-exact}
use Rattle.cc_graph.specs.Shown.{Vertex, Shown, is_black, with_black}
use Rattle.cc_graph.specs.Numbers.{numbers_where}

-- a node that passes, by its place from a number on
pub record IsNumbered (p : ℕ → Vertex → Bool) (start : ℕ) (vs : List Vertex) (i : ℕ) : Type 0 where
  pub place : ℕ
  pub node : Vertex
  pub there : slice_get vs place ≡ Some node
  pub number : start + place ≡ i
  pub passes : p i node ≡ true

-- what is numbered passes
pub numbers-passing : (p : ℕ → Vertex → Bool) (start : ℕ) (vs : List Vertex) (i : ℕ) → Among i (numbers_where p start vs) → IsNumbered p start vs i
numbers-passing p start [] i m = absurd m
numbers-passing p start (v ∷ vs) i m = go (numbers-passing p (suc start) vs i) (p start v) refl m
  where
    later : IsNumbered p (suc start) vs i → IsNumbered p start (v ∷ vs) i
    later k = record { place = suc k.place; node = k.node; there = k.there; number = omega (arith, k.number); passes = k.passes }

    go : (Among i (numbers_where p (suc start) vs) → IsNumbered p (suc start) vs i) → (b : Bool) → p start v ≡ b →
        Among i (elim b [ true ↦ start ∷ numbers_where p (suc start) vs | false ↦ numbers_where p (suc start) vs ]) → IsNumbered p start (v ∷ vs) i
    go ih true e n = ⊎_elim
        (λ same. record { place = zero; node = v; there = refl; number = omega arith; passes = subst (λ z. p z v ≡ true) same e })
        (λ t. later (ih t)) n
    go ih false e n = later (ih n)

-- what passes is numbered
pub passing-numbers : (p : ℕ → Vertex → Bool) (start : ℕ) (vs : List Vertex) (place : ℕ) (v : Vertex) (i : ℕ) → slice_get vs place ≡ Some v →
    start + place ≡ i → p i v ≡ true → Among i (numbers_where p start vs)
passing-numbers p start (w ∷ vs) (suc place) v i there e passes = grind (arith, passing-numbers p (suc start) vs place v i there (omega (arith, e)) passes)
passing-numbers p start vs place v i there e passes = grind (arith, true≢false)

-- a node that passes has a place in the list
numbers-within : (p : ℕ → Vertex → Bool) (vs : List Vertex) (i : ℕ) → Among i (numbers_where p 0 vs) → i < length vs
numbers-within p vs i m = grind (arith, numbers-passing, slice_get_within)

-- the nodes below i that pass are black, beside what was black before
pub record AreMarked (p : ℕ → Vertex → Bool) (g₀ g : Shown) (i : ℕ) : Type 0 where
  pub rest : g ≡ record g₀ { blacks = g.blacks }
  pub marked : (j : ℕ) → IsTrue (is_black g j) ↔ (IsTrue (is_black g₀ j) ⊎ ((j < i) × Among j (numbers_where p 0 g₀.nodes)))

-- the test of a node by its number
abbrev pub test_at : (ℕ → Vertex → Bool) → Shown → ℕ → Option Bool
test_at p g i = option_map (λ v. p i v) (slice_get g.nodes i)

abbrev pub blackened : Shown → ℕ → Shown
blackened g i = record g { blacks = with_black g.blacks i }

-- the test of a numbered node
numbered-test : (p : ℕ → Vertex → Bool) (g : Shown) (i : ℕ) → Among i (numbers_where p 0 g.nodes) → test_at p g i ≡ Some true
numbered-test p g i m = grind (arith, numbers-passing)

-- and a node is numbered where its test passes
test-numbered : (p : ℕ → Vertex → Bool) (g : Shown) (i : ℕ) → test_at p g i ≡ Some true → Among i (numbers_where p 0 g.nodes)
test-numbered p g i e = grind (arith, passing-numbers)

-- after a node that passes
pub marked-black : (p : ℕ → Vertex → Bool) (g₀ g new : Shown) (i : ℕ) → AreMarked p g₀ g i → test_at p g₀ i ≡ Some true → new ≡ blackened g i →
    AreMarked p g₀ new (i + 1)
marked-black p g₀ g new i h e change = subst (λ z. AreMarked p g₀ z (i + 1)) (sym change) (record {
  rest = ap (λ (z : Shown). record z { blacks = with_black g.blacks i }) h.rest;
  marked = λ j. (
    λ b. ⊎_elim
        (λ l. ⊎_elim (λ o. inl o) (λ t. let below : j < i = t.0 in inr (omega arith, t.1)) ((h.marked j).0 (has-there _ number-exact g.blacks j l)))
        (λ (same : i ≡ j). inr (omega arith, subst (λ z. Among z (numbers_where p 0 g₀.nodes)) same (test-numbered p g₀ i e)))
        (just i j (with_all_last-cases _ number-exact g.blacks (i ∷ []) j (has-among _ number-exact (with_black g.blacks i) j b))),
    λ s. has-there _ number-exact (with_black g.blacks i) j (⊎_elim
        (λ o. before j (inl o))
        (λ t. ⊎_elim
        (λ below. before j (inr (below, t.1)))
        (λ same. subst (λ z. Among z (with_black g.blacks i)) same (with_all_last-there _ number-exact g.blacks (i ∷ []) i (inl refl)))
        (below_or_same j t.0)) s),
  );
})
  where
    before : (j : ℕ) → IsTrue (is_black g₀ j) ⊎ ((j < i) × Among j (numbers_where p 0 g₀.nodes)) → Among j (with_black g.blacks i)
    before j s = with_all_last-keeps _ number-exact g.blacks (i ∷ []) j (has-among _ number-exact g.blacks j ((h.marked j).1 s))

    below_or_same : (j : ℕ) → j < i + 1 → (j < i) ⊎ (i ≡ j)
    below_or_same j l = ⊎_elim (λ t. inr (sym t.1)) (λ f. let other : ¬ (j ≡ i) = f.1 in inl (omega arith)) (eqb_tells j i)

    just : (n j : ℕ) → Among j g.blacks ⊎ Among j (n ∷ []) → Among j g.blacks ⊎ (n ≡ j)
    just n j s = ⊎_elim (λ l. inl l) (λ r. ⊎_elim (λ e. inr e) (λ t. absurd t) r) s

-- after another
pub marked-other : (p : ℕ → Vertex → Bool) (g₀ g new : Shown) (i : ℕ) → AreMarked p g₀ g i → test_at p g₀ i ≡ Some false → new ≡ g →
    AreMarked p g₀ new (i + 1)
marked-other p g₀ g new i h e change = grind (arith, true≢false, numbered-test)

-- at the end
pub marked-all : (p : ℕ → Vertex → Bool) (g₀ g : Shown) (i : ℕ) → AreMarked p g₀ g i → length g₀.nodes ≤ i →
    (j : ℕ) → IsTrue (is_black g j) ↔ (IsTrue (is_black g₀ j) ⊎ Among j (numbers_where p 0 g₀.nodes))
marked-all p g₀ g i h past j = grind (arith, numbers-within)
