-- MARKS TAKEN FROM NATIVES THAT THE REGISTERS REACH: they keep their places in the buffer, and nothing else changes. Every snapshot
-- stays fresh, and no native is forgotten.
use Rattle.std.proofs.Common.{◌≡◌, ℕ, ◌==◌, Bool, true, false, ◌&&◌, List, [], map, refl, sym, ◌∙◌, ap, subst, inl, inr, ◌⊎◌, ⊎_elim}
use Rattle.std.specs.Prelude.{IsTrue, ◌↔◌, if◌then◌else◌}
use Rattle.std.proofs.lemmas.Bool.{eqb-true, true≢false}
use Rattle.cc_lists.specs.Members.{Among, has}
use Rattle.cc_lists.proofs.Members.{Among-map, Among-map_cases}
use Rattle.cc_lists.proofs.Least.{derive-root, derive-along, derived-within}
use Rattle.cc_lists.proofs.Closure.{closure-decides}
use Rattle.cc_lists.proofs.ListWrites.{map-kept}
use Rattle.cc_names.specs.declared.name.Name.{Name}
use Rattle.cc_names.specs.Names.{native, same_name}
use Rattle.cc_names.proofs.NameTests.{same_name-exact}
use Rattle.cc_model.specs.Entries.{rules_of}
use Rattle.cc_model.specs.Graph.{Graph}
use Rattle.cc_model.specs.Heap.{Heap, Buffered}
use Rattle.cc_model.specs.View.{view, buffered, ReachedIn}
use Rattle.cc_model.specs.Skipping.{skip_rules, IsSkippable, skippable_names, without_mark, unmarked, unmarked_among, forgotten}
use Rattle.cc_model.specs.WellFormed.{IsWellFormed}
use Rattle.cc_model.specs.Colours.{HasColourInvariant}
use Rattle.cc_model.specs.StandsFor.{StandsFor}
use Rattle.cc_model.specs.Snapshot.{Snapshot}
use Rattle.cc_model.specs.Suspected.{IsSuspected}
use Rattle.cc_laws_heap.specs.Sound.{IsSound}
use Rattle.cc_laws_heap.proofs.Kept.{with_buffer, IsWellFormed-buffer}
use Rattle.cc_laws_heap.proofs.BufferStands.{IsBuffer-marks, IsSound-buffer, HasColourInvariant-buffer, StandsFor-buffer}
use Rattle.cc_laws_snapshot.specs.Kinds.{IsFreshIn}
use Rattle.cc_laws_snapshot.specs.Losing.{IsLoyal}
use Rattle.cc_laws_snapshot.proofs.KindsFresh.{fresh-more}
use Rattle.cc_laws_snapshot.proofs.LoyalSuspected.{loyal-suspected}
use Rattle.cc_laws_snapshot.proofs.Marked.{names_in, IsPurpleName, purple-name, purple-place}

-- Marks changed

module _ (h : Heap) (f : Buffered → Buffered) (same : (b : Buffered) → (f b).number ≡ b.number) where
  -- the heaps with the mark of each native in the buffer changed
  abbrev changed : Heap
  changed = with_buffer h (map f h.buffer)

  -- the same names stand in the buffer, in the same order
  marks-names : names_in (map f h.buffer) ≡ names_in h.buffer
  marks-names = map-kept buffered f h.buffer (λ b. ap native (same b))

  -- Snapshots do not read marks.
  marks-fresh : (s : Snapshot) → IsFreshIn h s → IsFreshIn changed s
  marks-fresh s = fresh-more h.natives_made (view h) (view changed).buffer (view changed).purple
      (λ u m. subst (Among u) (sym marks-names) m) s

  -- Well formed heaps stay so, whatever the marks become.
  marks-well_formed : IsWellFormed h → IsWellFormed changed
  marks-well_formed w = IsWellFormed-buffer h (map f h.buffer) w (IsBuffer-marks h f same w)

  -- Sound heaps stay sound, whatever the marks become.
  marks-sound : {owned : List ℕ} → IsSound owned h → IsSound owned changed
  marks-sound s = IsSound-buffer h (map f h.buffer) s (IsBuffer-marks h f same s.well_formed)

  -- A purple native stays purple, where each place with the mark keeps it.
  marks-either : (P : Name → Type 0) → ((b : Buffered) → Among b h.buffer → b.purple ≡ true → ((f b).purple ≡ true) ⊎ P (native b.number)) →
      (x : Name) → IsPurpleName h.buffer x → IsPurpleName (map f h.buffer) x ⊎ P x
  marks-either P each x m =
      let p = purple-place h.buffer x m in
      ⊎_elim
      (λ e. inl (subst (IsPurpleName (map f h.buffer)) (ap native (same p.0) ∙ p.3) (purple-name (map f h.buffer) (f p.0) (Among-map f p.0 h.buffer p.1) e)))
      (λ q. inr (subst P p.3 q))
      (each p.0 p.1 p.2)

  -- Marks taken from reached natives alone are a loyal change.
  marks-loyal : ((b : Buffered) → Among b h.buffer → b.purple ≡ true → ((f b).purple ≡ true) ⊎ ReachedIn (view h) (native b.number)) →
      IsLoyal (view h) (view changed)
  marks-loyal each = record {
    edge = λ x i m. inl m;
    register = λ i m. inl m;
    purple = λ i m. ⊎_elim (λ p. inl (inl p)) (λ r. inr r) (marks-either (ReachedIn (view h)) each (native i) m);
    buffer = λ x m. inl (subst (Among x) marks-names m);
    living = λ x l. inl l;
  }

  -- No unreached native is forgotten then.
  marks-suspected : ((b : Buffered) → Among b h.buffer → b.purple ≡ true → ((f b).purple ≡ true) ⊎ ReachedIn (view h) (native b.number)) →
      (candidates : List ℕ) → IsWellFormed h → IsSuspected (view h) candidates → IsSuspected (view changed) candidates
  marks-suspected each candidates w = loyal-suspected h changed candidates w (marks-well_formed w) (marks-loyal each)

  -- Who is purple afterwards was purple, and what holds of each place that keeps its mark holds of its name.
  marks-were : (P : Name → Type 0) → ((b : Buffered) → Among b h.buffer → (f b).purple ≡ true → (b.purple ≡ true) × P (native b.number)) →
      (x : Name) → IsPurpleName (map f h.buffer) x → IsPurpleName h.buffer x × P x
  marks-were P each x m =
      let p = purple-place (map f h.buffer) x m in
      let c = Among-map_cases f h.buffer p.0 p.1 in
      let e = each c.0 c.1 (ap (λ (b : Buffered). b.purple) c.2 ∙ p.2) in
      let n : native c.0.number ≡ x = ap native (sym (same c.0) ∙ ap (λ (b : Buffered). b.number) c.2) ∙ p.3 in
      (subst (IsPurpleName h.buffer) n (purple-name h.buffer c.0 c.1 e.0), subst P n e.1)

-- One mark taken

-- a native without its mark keeps its number
without_mark-number : (k : ℕ) (b : Buffered) → (without_mark k b).number ≡ b.number
without_mark-number k b = go (b.number == k)
  where
    go : (t : Bool) → (if t then record b { purple = false } else b).number ≡ b.number
    go true = refl
    go false = refl

-- native k alone loses its mark
without_mark-cases : (k : ℕ) (b : Buffered) → (b.number ≡ k) ⊎ ((without_mark k b).purple ≡ b.purple)
without_mark-cases k b = go (b.number == k) refl
  where
    go : (t : Bool) → (b.number == k) ≡ t → (b.number ≡ k) ⊎ ((if t then record b { purple = false } else b).purple ≡ b.purple)
    go true e = inl (eqb-true b.number k e)
    go false e = inr refl

-- EVERY SNAPSHOT STAYS FRESH when a native loses its mark.
pub unmarked-fresh : (h : Heap) (s : Snapshot) (k : ℕ) → IsFreshIn h s → IsFreshIn (unmarked h k) s
unmarked-fresh h s k = marks-fresh h (without_mark k) (without_mark-number k) s

-- NO UNREACHED NATIVE IS FORGOTTEN when a native that is reached loses its mark.
pub unmarked-suspected : (h : Heap) (k : ℕ) (candidates : List ℕ) → IsWellFormed h → ReachedIn (view h) (native k) →
    IsSuspected (view h) candidates → IsSuspected (view (unmarked h k)) candidates
unmarked-suspected h k candidates w r = marks-suspected h (without_mark k) (without_mark-number k)
    (λ b m p. ⊎_elim (λ e. inr (subst (λ j. ReachedIn (view h) (native j)) (sym e) r)) (λ e. inl (e ∙ p)) (without_mark-cases k b)) candidates w

-- Heaps are sound while a native loses its mark.
pub unmarked-sound : {owned : List ℕ} (h : Heap) (k : ℕ) → IsSound owned h → IsSound owned (unmarked h k)
unmarked-sound h k = marks-sound h (without_mark k) (without_mark-number k)

-- Heaps stand for the same graph when a native loses its mark.
pub unmarked-stands : (h : Heap) (k : ℕ) (g : Graph) → StandsFor h g → StandsFor (unmarked h k) g
unmarked-stands h k g = StandsFor-buffer h (map (without_mark k) h.buffer) g

-- Colours stay as they should be when a native loses its mark.
pub unmarked-colours : (h : Heap) (k : ℕ) → HasColourInvariant (view h) → HasColourInvariant (view (unmarked h k))
unmarked-colours h k = HasColourInvariant-buffer h (map (without_mark k) h.buffer)

-- The same names stand in the buffer when a native loses its mark.
pub unmarked-names : (h : Heap) (k : ℕ) → (view (unmarked h k)).buffer ≡ (view h).buffer
unmarked-names h k = marks-names h (without_mark k) (without_mark-number k)

-- What can be skipped

-- WHAT CAN BE SKIPPED IS REACHED: entries of weak maps only add to what is reached.
pub skippable-reached : (h : Heap) (x : Name) → IsSkippable h x → ReachedIn (view h) x
skippable-reached h = derived-within (view h).registers (view h).edges [] (ReachedIn (view h))
    (derive-root (view h).registers (view h).edges (rules_of (view h).joints))
    (derive-along (view h).registers (view h).edges (rules_of (view h).joints))
    (λ ps v m. absurd m)

-- Whether something can be skipped is decided by the list.
pub skippable-decided : (h : Heap) (x : Name) → IsTrue (has same_name (skippable_names h) x) ↔ IsSkippable h x
skippable-decided h x = closure-decides same_name same_name-exact (skip_rules h) x

-- The suspects forgotten

-- a native without its mark, where it is among some names, keeps its number
unmarked_among-number : (names : List Name) (b : Buffered) → (unmarked_among names b).number ≡ b.number
unmarked_among-number names b = go (b.purple && has same_name names (buffered b))
  where
    go : (t : Bool) → (if t then record b { purple = false } else b).number ≡ b.number
    go true = refl
    go false = refl

-- a purple native keeps its mark, or it is among the names
unmarked_among-either : (names : List Name) (b : Buffered) → b.purple ≡ true →
    ((unmarked_among names b).purple ≡ true) ⊎ (has same_name names (buffered b) ≡ true)
unmarked_among-either names b p = go (has same_name names (buffered b)) refl
  where
    go : (t : Bool) → has same_name names (buffered b) ≡ t → ((if b.purple && t then record b { purple = false } else b).purple ≡ true) ⊎ (t ≡ true)
    go true e = inr refl
    go false e = inl (rw p refl)

-- a native that is purple afterwards was so, and is not among the names
unmarked_among-kept : (names : List Name) (b : Buffered) → (unmarked_among names b).purple ≡ true →
    (b.purple ≡ true) × (¬ (has same_name names (buffered b) ≡ true))
unmarked_among-kept names b p = go b.purple (has same_name names (buffered b)) refl refl p
  where
    go : (t u : Bool) → b.purple ≡ t → has same_name names (buffered b) ≡ u → (if t && u then record b { purple = false } else b).purple ≡ true →
        (b.purple ≡ true) × (¬ (has same_name names (buffered b) ≡ true))
    go true true e f q = absurd (true≢false (sym q))
    go true false e f q = (e, λ s. true≢false (sym s ∙ f))
    go false u e f q = absurd (true≢false (sym q ∙ e))

-- EVERY SNAPSHOT STAYS FRESH when suspects are forgotten.
pub forgotten-fresh : (h : Heap) (s : Snapshot) → IsFreshIn h s → IsFreshIn (forgotten h) s
unfolding forgotten
forgotten-fresh h s = marks-fresh h (unmarked_among (skippable_names h)) (unmarked_among-number (skippable_names h)) s

-- NO UNREACHED NATIVE IS FORGOTTEN when suspects are.
pub forgotten-suspected : (h : Heap) (candidates : List ℕ) → IsWellFormed h → IsSuspected (view h) candidates → IsSuspected (view (forgotten h)) candidates
unfolding forgotten
forgotten-suspected h candidates = marks-suspected h (unmarked_among (skippable_names h)) (unmarked_among-number (skippable_names h))
    (λ b m p. ⊎_elim (λ e. inl e) (λ e. inr (skippable-reached h (buffered b) ((skippable-decided h (buffered b)).0 e)))
    (unmarked_among-either (skippable_names h) b p)) candidates

-- Heaps are sound when suspects are forgotten.
pub forgotten-sound : {owned : List ℕ} (h : Heap) → IsSound owned h → IsSound owned (forgotten h)
unfolding forgotten
forgotten-sound h = marks-sound h (unmarked_among (skippable_names h)) (unmarked_among-number (skippable_names h))

-- Heaps stand for the same graph when suspects are forgotten.
pub forgotten-stands : (h : Heap) (g : Graph) → StandsFor h g → StandsFor (forgotten h) g
unfolding forgotten
forgotten-stands h g = StandsFor-buffer h (map (unmarked_among (skippable_names h)) h.buffer) g

-- Colours stay as they should be when suspects are forgotten.
pub forgotten-colours : (h : Heap) → HasColourInvariant (view h) → HasColourInvariant (view (forgotten h))
unfolding forgotten
forgotten-colours h = HasColourInvariant-buffer h (map (unmarked_among (skippable_names h)) h.buffer)

-- The same names stand in the buffer when suspects are forgotten.
pub forgotten-names : (h : Heap) → (view (forgotten h)).buffer ≡ (view h).buffer
unfolding forgotten
forgotten-names h = marks-names h (unmarked_among (skippable_names h)) (unmarked_among-number (skippable_names h))

-- WHO IS PURPLE AFTERWARDS: exactly who was and cannot be skipped.
pub forgotten-exactly : (h : Heap) (x : Name) → Among x (view (forgotten h)).purple ↔ (Among x (view h).purple × (¬ (IsSkippable h x)))
unfolding forgotten
forgotten-exactly h x = (
  marks-were h f same (λ y. ¬ (IsSkippable h y))
      (λ b m p. let k = unmarked_among-kept (skippable_names h) b p in (k.0, λ s. k.1 ((skippable-decided h (buffered b)).1 s))) x,
  λ m. ⊎_elim (λ p. p) (λ s. absurd (m.1 s)) (marks-either h f same (IsSkippable h)
      (λ b i p. ⊎_elim (λ e. inl e) (λ e. inr ((skippable-decided h (buffered b)).0 e)) (unmarked_among-either (skippable_names h) b p)) x m.0),
)
  where
    f : Buffered → Buffered
    f = unmarked_among (skippable_names h)

    same : (b : Buffered) → (f b).number ≡ b.number
    same = unmarked_among-number (skippable_names h)

-- A purple native that loses its mark can be skipped.
pub forgotten-taken : (h : Heap) (x : Name) → Among x (view h).purple → ¬ (Among x (view (forgotten h)).purple) → IsSkippable h x
unfolding forgotten
forgotten-taken h x m gone = ⊎_elim (λ p. absurd (gone p)) (λ s. s)
    (marks-either h (unmarked_among (skippable_names h)) (unmarked_among-number (skippable_names h)) (IsSkippable h)
    (λ b i p. ⊎_elim (λ e. inl e) (λ e. inr ((skippable-decided h (buffered b)).0 e)) (unmarked_among-either (skippable_names h) b p)) x m)
