-- ONE NATIVE CHANGED AT ITS KEY: what the lists show then is one native changed by its number.
use Rattle.std.proofs.Common.{◌≡◌, ◌≢◌, ℕ, ◌<◌, ◌≤◌, true, false, List, map, length, Option, Some, None, option_map, refl, sym, ◌∙◌, ap, subst, ⊎_elim, ◌⊎◌, inl, inr, ◌==◌}
use Rattle.std.proofs.Math.ListN.{set}
use Rattle.std.proofs.Math.Seq.{map-set_same}
use Rattle.std.proofs.lemmas.Bool.{eq-eqb, ne_eqb, cases_lt}
use Rattle.std.proofs.lemmas.Bool.Decides.{eqb_tells}
use Rattle.std.proofs.lemmas.List.{get_or-set_same, get_or-set_other, get_or_past, length-set}
use Rattle.std.proofs.lemmas.Simd.{map-map}
use Rattle.cc_lists.specs.Members.{Among}
use Rattle.cc_model.specs.Heap.{HeapNative}
use Rattle.cc_lists.proofs.ListWrites.{map-agree}
use Rattle.cc_names.specs.Sizes.{most_slots}
use Rattle.cc_laws_heap.proofs.Face.{changed_at}
use Rattle.cc_walk.specs.Walks.{states_of}
use Rattle.cc_purple.specs.Marks.{Marked}
use Rattle.cc_counted.specs.declared.held.Held.{Held}
use Rattle.cc_counted.specs.Counts.{no_counts, the_number, is_live}
use Rattle.cc_model.specs.WellFormed.{IsRising}
use Rattle.cc_counted.specs.Lists.{Placed, Lists, cell_at, reflector_placed, without_count, keyed, shown, shown_at, states_below, IsPlaced}
use Rattle.cc_counted.proofs.Places.{cell_number, one_key}

-- a key of a native is one of the list
pub cell-within : (cells : List (Option Placed)) (key : ℕ) (c : Placed) → cell_at cells key ≡ Some c → key < length cells
cell-within cells key c e = ⊎_elim (λ l. l) (λ r. let none : Some c ≡ None = sym e ∙ get_or_past cells key None r in absurd (cc)) (cases_lt key (length cells))

module _ (l : Lists) (p : IsPlaced l) (key : ℕ) (c d : Placed) (at : cell_at l.cells key ≡ Some c) (same : d.number ≡ c.number) where
  -- the native at the key is another then
  abbrev pub changed_cells : List (Option Placed)
  changed_cells = set l.cells key (Some d)

  -- the number at each key is the same
  pub keyed-changed : keyed changed_cells ≡ keyed l.cells
  keyed-changed = ap (λ ks. record no_counts { keys = ks }) (map-set_same cell_number l.cells key (Some d) None number)
    where
      number : cell_number (Some d) ≡ cell_number (cell_at l.cells key)
      number = ap Some same ∙ sym (ap cell_number at)

  -- the reflector at each key is the same where the native keeps its own
  pub reflectors-changed : d.reflector ≡ c.reflector → map reflector_placed changed_cells ≡ map reflector_placed l.cells
  reflectors-changed e = map-set_same reflector_placed l.cells key (Some d) None (e ∙ sym (ap reflector_placed at))

  -- each key stands in a walk as it did
  pub walks-changed : states_below (length changed_cells) (states_of l.walk) ≡ states_below (length l.cells) (states_of l.walk)
  walks-changed = ap (λ n. states_below n (states_of l.walk)) (length-set l.cells key (Some d))

  -- what stands at the key
  pub changed-same : cell_at changed_cells key ≡ Some d
  changed-same = get_or-set_same l.cells key (Some d) None (cell-within l.cells key c at)

  -- and at any other
  pub changed-other : (k : ℕ) → k ≢ key → cell_at changed_cells k ≡ cell_at l.cells k
  changed-other k o = get_or-set_other l.cells key k (Some d) None o

  -- but for counts the cells are the same where the native is
  pub cells-changed : without_count d ≡ without_count c → (k : ℕ) → option_map without_count (cell_at changed_cells k) ≡ option_map without_count (cell_at l.cells k)
  cells-changed e k = ⊎_elim
      (λ t. ap (option_map without_count) (ap (cell_at changed_cells) t.1 ∙ changed-same) ∙ (ap Some e ∙ ap (option_map without_count) (sym (ap (cell_at l.cells) t.1 ∙ at))))
      (λ t. ap (option_map without_count) (changed-other k t.1)) (eqb_tells k key)

  -- a key that had a native has one
  pub changed-there : (k : ℕ) → (b : Placed) × (cell_at l.cells k ≡ Some b) → (b : Placed) × (cell_at changed_cells k ≡ Some b)
  changed-there k f = ⊎_elim
      (λ t. (d, ap (cell_at changed_cells) t.1 ∙ changed-same))
      (λ t. (f.0, changed-other k t.1 ∙ f.1)) (eqb_tells k key)

  -- which is the changed one, or was there
  changed-cases : (k : ℕ) (b : Placed) → cell_at changed_cells k ≡ Some b → ((k ≡ key) × (b ≡ d)) ⊎ (cell_at l.cells k ≡ Some b)
  changed-cases k b e = ⊎_elim
      (λ t. let both : Some d ≡ Some b = sym (ap (cell_at changed_cells) t.1 ∙ changed-same) ∙ e in inl (t.1, cc))
      (λ t. inr (sym (changed-other k t.1) ∙ e)) (eqb_tells k key)

  -- the lists fit together where the new slots hold what is there, and so do the queue and the buffer
  pub IsPlaced-changed : length d.slots ≤ most_slots → ((x : Option Held) → Among x d.slots → is_live (keyed l.cells) x ≡ true) → (queue : List ℕ) (marks : List Marked) →
      ((k : ℕ) → Among k queue → (b : Placed) × (cell_at l.cells k ≡ Some b)) → ((m : Marked) → Among m marks → (b : Placed) × (cell_at l.cells m.key ≡ Some b)) →
      IsPlaced (record l { cells = changed_cells; queue = queue; marks = marks })
  IsPlaced-changed few live queue marks q ms = record {
    in_order = λ k m. changed-there k (p.in_order k m);
    ordered = λ k b e. ⊎_elim (λ t. p.ordered k c (ap (cell_at l.cells) t.0 ∙ at)) (λ t. p.ordered k b t) (changed-cases k b e);
    rising = subst (λ n. IsRising (map (the_number n) l.order)) (sym keyed-changed) p.rising;
    small = λ k b e. ⊎_elim (λ t. subst (λ a. length a.slots ≤ most_slots) (sym t.1) few) (λ t. p.small k b t) (changed-cases k b e);
    held = λ k b x e m. subst (λ n. is_live n x ≡ true) (sym keyed-changed) (⊎_elim
        (λ t. live x (subst (λ a. Among x a.slots) t.1 m))
        (λ t. p.held k b x t m) (changed-cases k b e));
    queued = λ k m. changed-there k (q k m);
    marked = λ m n. changed-there m.key (ms m n);
    walking = λ k m. changed-there k (p.walking k m);
  }

  -- what is shown of the native
  pub natives-changed : (f : HeapNative → HeapNative) → f (shown (keyed l.cells) (Some c)) ≡ shown (keyed l.cells) (Some d) →
      map (shown_at changed_cells) l.order ≡ map (changed_at c.number f) (map (shown_at l.cells) l.order)
  natives-changed f e = map-agree (shown_at changed_cells) (λ k. changed_at c.number f (shown_at l.cells k)) l.order each
      ∙ sym (map-map (changed_at c.number f) (shown_at l.cells) l.order)
    where
      here : changed_at c.number f (shown (keyed l.cells) (Some c)) ≡ shown (keyed l.cells) (Some d)
      here = let it : (c.number == c.number) ≡ true = eq-eqb c.number c.number refl in rw it e

      there : (b : Placed) → b.number ≢ c.number → changed_at c.number f (shown (keyed l.cells) (Some b)) ≡ shown (keyed l.cells) (Some b)
      there b o = let it : (b.number == c.number) ≡ false = ne_eqb b.number c.number o in rw it refl

      each : (k : ℕ) → Among k l.order → shown_at changed_cells k ≡ changed_at c.number f (shown_at l.cells k)
      each k m = ap (λ n. shown n (cell_at changed_cells k)) keyed-changed ∙ ⊎_elim
          (λ t. ap (shown (keyed l.cells)) (ap (cell_at changed_cells) t.1 ∙ changed-same)
          ∙ (sym here ∙ ap (λ o. changed_at c.number f (shown (keyed l.cells) o)) (sym (ap (cell_at l.cells) t.1 ∙ at))))
          (λ t. let g = p.in_order k m in
          ap (shown (keyed l.cells)) (changed-other k t.1 ∙ g.1)
          ∙ (sym (there g.0 (λ s. t.1 (one_key l p k key g.0 c g.1 at s))) ∙ ap (λ o. changed_at c.number f (shown (keyed l.cells) o)) (sym g.1)))
          (eqb_tells k key)

  -- nothing is shown of what changed where the native is shown as before
  pub natives-kept : shown (keyed l.cells) (Some d) ≡ shown (keyed l.cells) (Some c) → map (shown_at changed_cells) l.order ≡ map (shown_at l.cells) l.order
  natives-kept e = map-agree (shown_at changed_cells) (shown_at l.cells) l.order
      (λ k m. ap (λ n. shown n (cell_at changed_cells k)) keyed-changed ∙ ⊎_elim
      (λ t. ap (shown (keyed l.cells)) (ap (cell_at changed_cells) t.1 ∙ changed-same) ∙ (e ∙ ap (shown (keyed l.cells)) (sym (ap (cell_at l.cells) t.1 ∙ at))))
      (λ t. ap (shown (keyed l.cells)) (changed-other k t.1))
      (eqb_tells k key))
