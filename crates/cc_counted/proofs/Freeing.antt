-- THE FRONT OF THE QUEUE FREED: taken out at its key, and then what its slots held given up.
use Rattle.std.proofs.Common.{◌≡◌, ℕ, true, List, [], ◌∷◌, ◌++◌, map, Option, Some, None, option_map, sym, ◌∙◌, ap, subst, ⊎_elim, inl, inr, arith}
use Rattle.std.proofs.lemmas.Bool.Decides.{eqb_tells}
use Rattle.std.proofs.lemmas.List.{length-set}
use Rattle.cc_counted.proofs.Leaving.{stays-gone}
use Rattle.cc_lists.specs.Members.{Among}
use Rattle.cc_names.specs.Names.{native}
use Rattle.cc_model.specs.declared.item.Event.{Event}
use Rattle.cc_model.specs.declared.item.Event.TheVariants.{Freed}
use Rattle.cc_model.specs.Telling.{Telling, TellsEvents}
use Rattle.cc_model.specs.Heap.{native_at}
use Rattle.cc_model.specs.Cascade.{Draining, give_up_each, natives_of_slots, told_free, without_native, free_front}
use Rattle.cc_model.specs.Counts.{times}
use Rattle.cc_laws_heap.proofs.Face.{IsBalanced-removed, refs_to-removed, without_native-give_up_each}
use Rattle.cc_laws_heap.specs.Balance.{IsBalanced, count_of}
use Rattle.cc_names.specs.declared.kind.Walked.TheVariants.{Out}
use Rattle.cc_walk.specs.Walks.{Walks, states_of}
use Rattle.cc_walk.proofs.Sets.{states-without, with_state-other}
use Rattle.cc_counted.specs.declared.held.Held.{Held}
use Rattle.cc_counted.specs.Counts.{the_number, is_live}
use Rattle.cc_counted.specs.Lists.{Placed, Lists, cell_at, without_count, keyed, shown, numbers_in, draining_of, IsPlaced, taken_out, LeavesCells}
use Rattle.cc_counted.specs.Steps.{GivesUp, FreesFront}
use Rattle.cc_counted.proofs.Places.{native_at-cell}
use Rattle.cc_counted.proofs.Holding.{natives_of_slots-shown}
use Rattle.cc_counted.proofs.TakingOut.{count-zero, queue-numbers, cell-gone, cell-other, numbers-left, live-left, draining-left, IsPlaced-left}

-- a balance says nothing of what was told
pub IsBalanced-events : (owned : List ℕ) (d : Draining) (es : List Event) → IsBalanced owned d → IsBalanced owned (record d { events = es })
IsBalanced-events owned d es b = record { distinct = b.distinct; counts = b.counts; queue = b.queue; buffer = b.buffer }

module _ (l : Lists) (p : IsPlaced l) (owned : List ℕ) (b : IsBalanced owned (draining_of l [])) (key : ℕ) (ks : List ℕ) (c : Placed)
    (at : cell_at l.cells key ≡ Some c) (front : l.queue ≡ key ∷ ks) where
  -- the lists without it
  abbrev left : Lists
  left = taken_out l key ks

  -- what its slots hold is given up
  abbrev pub freed_numbers : List ℕ
  freed_numbers = numbers_in (keyed left.cells) c.slots

  abbrev number : ℕ
  number = c.number

  abbrev behind : List ℕ
  behind = map (the_number (keyed l.cells)) ks

  held-numbers : natives_of_slots (Some (shown (keyed l.cells) (Some c))) ≡ freed_numbers
  held-numbers = natives_of_slots-shown (keyed l.cells) c.slots (λ x m. p.held key c x at m) ∙ sym (numbers-left owned l [] p b key ks c at front)

  removed-balanced : (es : List Event) →
      IsBalanced (natives_of_slots (Some (shown (keyed l.cells) (Some c))) ++ owned) (without_native (told_free (draining_of l es) number behind) number)
  removed-balanced es =
      IsBalanced-removed owned (draining_of l es) number behind (shown (keyed l.cells) (Some c)) (IsBalanced-events owned (draining_of l []) es b)
      (queue-numbers owned l [] p b key ks c at front) (native_at-cell l p key c at) (count-zero owned l [] p b key ks c at front)

  pub freed-placed : IsPlaced (taken_out l key ks)
  freed-placed = IsPlaced-left owned l [] p b key ks c at front

  pub freed-live : (x : Option Held) → Among x c.slots → is_live (keyed (taken_out l key ks).cells) x ≡ true
  freed-live x m = live-left owned l [] p b key ks c at front x m

  pub freed-balanced : IsBalanced (freed_numbers ++ owned) (draining_of (taken_out l key ks) [])
  freed-balanced =
      subst (λ js. IsBalanced (js ++ owned) (draining_of left [])) held-numbers
      (subst (IsBalanced (natives_of_slots (Some (shown (keyed l.cells) (Some c))) ++ owned)) (sym (draining-left owned l [] p b key ks c at front []))
      (IsBalanced-events _ (without_native (told_free (draining_of l []) number behind) number) [] (removed-balanced [])))

  -- its own slots do not hold it
  none-held : times number freed_numbers ≡ 0
  none-held =
      let zero_count : count_of (native_at (draining_of l []).heap number) ≡ 0 = ap count_of (native_at-cell l p key c at) ∙ count-zero owned l [] p b key ks c at front in
      let none : times number (natives_of_slots (Some (shown (keyed l.cells) (Some c)))) ≡ 0 = omega (
        arith,
        b.counts number,
        refs_to-removed (draining_of l []).heap number (shown (keyed l.cells) (Some c)) b.distinct (native_at-cell l p key c at) number,
      ) in
      sym (ap (times number) held-numbers) ∙ none

  module _ (after : Lists) (g : GivesUp (taken_out l key ks) after freed_numbers) where
    freed-draining : (es : List Event) → draining_of after (es ++ Freed (native number) ∷ []) ≡ free_front (draining_of l es) number behind
    freed-draining es =
        let d : Draining = draining_of l es in
        let held_by : natives_of_slots (native_at d.heap number) ≡ freed_numbers = ap natives_of_slots (native_at-cell l p key c at) ∙ held-numbers in
        g.draining (es ++ Freed (native number) ∷ [])
        ∙ (ap (λ e. give_up_each e freed_numbers) (draining-left owned l [] p b key ks c at front (es ++ Freed (native number) ∷ []))
        ∙ (sym (without_native-give_up_each (told_free d number behind) freed_numbers number none-held)
        ∙ ap (λ js. without_native (give_up_each (told_free d number behind) js) number) (sym held_by)))

    freed-leaves : LeavesCells l after
    freed-leaves = record {
      as_many = g.as_many ∙ length-set l.cells key None;
      each = λ k. ⊎_elim
          (λ t. inl (stays-gone (cell_at after.cells k)
          (g.cells k ∙ ap (option_map without_count) (ap (cell_at left.cells) t.1 ∙ cell-gone owned l [] p b key ks c at front))))
          (λ t. inr (g.cells k ∙ ap (option_map without_count) (cell-other owned l [] p b key ks c at front k t.1)))
          (eqb_tells k key);
      walk = λ k a e.
          ap (λ w. states_of w k) g.walk
          ∙ (ap (λ (ws : Walks). ws k) (states-without key l.walk)
          ∙ with_state-other (states_of l.walk) key Out k (λ s.
          let gone : cell_at after.cells k ≡ None = stays-gone (cell_at after.cells k)
          (g.cells k ∙ ap (option_map without_count) (ap (cell_at left.cells) s ∙ cell-gone owned l [] p b key ks c at front)) in
          let bad : None ≡ Some a = sym gone ∙ e in
          absurd (cc)));
    }

    pub FreesFront-freed : (before now : Telling) → TellsEvents before now (Freed (native c.number) ∷ []) → FreesFront l after before now
    FreesFront-freed before now t = record {
      number = number;
      behind = behind;
      front = queue-numbers owned l [] p b key ks c at front;
      draining = freed-draining;
      placed = g.placed;
      leaves = freed-leaves;
      told = t;
    }
