-- WHO STANDS IN THE BUFFER, and who is purple there: after a mark was set, and after a native left.
use Rattle.std.proofs.Common.{◌≡◌, ℕ, Bool, true, not, refl, sym, ◌∙◌, ap, subst, inl, inr, ◌⊎◌, ⊎_elim, ◌==◌}
use Rattle.std.proofs.lemmas.Bool.{eq-eqb, ne_eqb, not-true, true≢false}
use Rattle.cc_lists.specs.Members.{Among}
use Rattle.cc_lists.proofs.Members.{Among-map, Among-map_cases, Among-filter, Among-filtered, Among-passes}
use Rattle.cc_names.specs.declared.name.Name.{Name}
use Rattle.cc_names.specs.Names.{native, number_of}
use Rattle.cc_model.specs.Heap.{Heap, Buffered, with_mark, suspect, forget, buffered_as}
use Rattle.cc_model.specs.View.{view, buffered}
use Rattle.cc_lists.proofs.Numbers.{at-each}
use Rattle.cc_laws_snapshot.proofs.Marked.{purple-name, purple-place, with_mark-place}
use Rattle.cc_laws_snapshot.proofs.GivingBack.{name-was, purple-stays}

-- native i is purple in the buffer
abbrev pub IsPurple : Heap → ℕ → Type 0
IsPurple h i = Among (native i) (view h).purple

-- a purple place makes its native purple
purple-from : (h : Heap) (b : Buffered) → Among b h.buffer → b.purple ≡ true → IsPurple h b.number
purple-from h b m e = purple-name h.buffer b m e

-- who stands in the buffer has a place
pub buffer-place : (h : Heap) (x : Name) → Among x (view h).buffer → (b : Buffered) × Among b h.buffer × (native b.number ≡ x)
buffer-place h x m = Among-map_cases buffered h.buffer x m

-- and a place is that of one who stands there
buffer-from : (h : Heap) (b : Buffered) (x : Name) → Among b h.buffer → native b.number ≡ x → Among x (view h).buffer
buffer-from h b x m e = subst (λ z. Among z (view h).buffer) e (Among-map buffered b h.buffer m)

-- Suspected

-- who is suspected is purple
pub suspect-purple : (h : Heap) (k : ℕ) → IsPurple (suspect h k) k
suspect-purple h k = purple-from (suspect h k) (buffered_as k true) (with_mark-place true k h.buffer) refl

-- who is purple stays so where another is marked
pub marked-keeps_purple : (h : Heap) (m : Bool) (k i : ℕ) → ¬ (i ≡ k) → IsPurple h i → IsPurple (record h { buffer = with_mark m k h.buffer }) i
marked-keeps_purple h m k i d p = ⊎_elim (λ e. absurd (d (ap number_of e))) (λ t. t) (purple-stays m k h.buffer (native i) p)

-- who is purple stays so
pub suspect-keeps_purple : (h : Heap) (k i : ℕ) → IsPurple h i → IsPurple (suspect h k) i
suspect-keeps_purple h k = at-each (λ i. IsPurple h i → IsPurple (suspect h k) i) k
    (λ p. suspect-purple h k)
    (λ i d p. marked-keeps_purple h true k i d p)

-- who stands in the buffer after a mark was set was there, or was marked
pub marked-buffer : (h : Heap) (m : Bool) (k : ℕ) (x : Name) → Among x (view (record h { buffer = with_mark m k h.buffer })).buffer →
    (native k ≡ x) ⊎ Among x (view h).buffer
marked-buffer h m k x i = ⊎_elim (λ e. inl (sym e)) (λ t. inr t) (name-was m k h.buffer x i)

-- Forgotten

-- who is purple stays so where another is forgotten
pub forget-keeps_purple : (h : Heap) (k i : ℕ) → ¬ (i ≡ k) → IsPurple h i → IsPurple (forget h k) i
forget-keeps_purple h k i d p =
    let f = purple-place h.buffer (native i) p in
    let number : f.0.number ≡ i = ap number_of f.3 in
    let other : not (f.0.number == k) ≡ true = ap not (ne_eqb f.0.number k (λ e. d (sym number ∙ e))) in
    subst (IsPurple (forget h k)) number (purple-from (forget h k) f.0 (Among-filter (λ b. not (b.number == k)) f.0 h.buffer f.1 other) f.2)

-- who stands in the buffer after one was forgotten was there, and is another
pub forget-buffer : (h : Heap) (k : ℕ) (x : Name) → Among x (view (forget h k)).buffer → (i : ℕ) × (native i ≡ x) × (¬ (i ≡ k)) × Among x (view h).buffer
forget-buffer h k x m =
    let f = buffer-place (forget h k) x m in
    let passes : not (f.0.number == k) ≡ true = Among-passes (λ b. not (b.number == k)) f.0 h.buffer f.1 in
    let there : Among f.0 h.buffer = Among-filtered (λ b. not (b.number == k)) f.0 h.buffer f.1 in
    (f.0.number, f.2, λ e. true≢false (sym (eq-eqb f.0.number k e) ∙ not-true (f.0.number == k) passes), buffer-from h f.0 x there f.2)
