-- THE QUEUE DRAINED: what is left to drain leads where all of it does, and each step takes a native out.
use Rattle.std.proofs.Common.{◌≡◌, ℕ, suc, ◌-◌, ◌<◌, ◌≤◌, List, [], ◌∷◌, ◌++◌, map, drop, length, Option, Some, None, option_map, refl, sym, ◌∙◌, ap, subst, inr, arith}
use Rattle.cc_lists.specs.Walks.{first_of}
use Rattle.cc_names.specs.Names.{native}
use Rattle.cc_names.specs.declared.number.NKey.{NKey}
use Rattle.cc_model.specs.declared.item.Event.{Event}
use Rattle.cc_model.specs.declared.item.Event.TheVariants.{Freed}
use Rattle.cc_model.specs.Telling.{Telling, TellsEvents}
use Rattle.cc_model.specs.Cascade.{Draining, give_up, free_front, drain, at_rest, drained, cascade}
use Rattle.cc_model.proofs.Tellings.{Tells-nil, TellsEvents-trans}
use Rattle.cc_model.proofs.Draining.{drain-done}
use Rattle.cc_laws_heap.specs.Balance.{IsBalanced}
use Rattle.cc_laws_heap.proofs.Face.{IsBalanced-free_front, free_front-fewer}
use Rattle.cc_walk.specs.Walks.{states_of}
use Rattle.cc_counted.specs.Counts.{the_number, heap_of, left_with}
use Rattle.cc_counted.specs.Lists.{Lists, keyed, counts_of, draining_of, IsPlaced, with_front, LeavesCells}
use Rattle.cc_counted.specs.Stored.{Stored, with_queue}
use Rattle.cc_counted.specs.Steps.{GivesUp, FreesFront, Drains, ComesTo}
use Rattle.cc_counted.proofs.Balanced.{resting}
use Rattle.cc_counted.proofs.Places.{length-natives}
use Rattle.cc_counted.proofs.Freeing.{IsBalanced-events}
use Rattle.cc_counted.proofs.Leaving.{LeavesCells-same, LeavesCells-then, LeavesKeys-cells, counts-left}

-- a front that was taken out, back in its place
abbrev pub put_back : Option NKey → Lists → Lists
put_back None l = l
put_back (Some key) l = with_front key.0 l

-- some steps of a drain are done
pub record DrainsSoFar (start now : Lists) (before after : Telling) : Type 0 where
  pub events : List Event
  pub steps : ℕ
  pub enough : length now.order ≤ steps
  pub rest : drain steps (draining_of now events) ≡ drain (length start.order) (draining_of start [])
  pub placed : IsPlaced now
  pub leaves : LeavesCells start now
  pub balanced : (owned : List ℕ) × IsBalanced owned (draining_of now [])
  pub told : TellsEvents before after events

pub DrainsSoFar-start : (start : Lists) (before : Telling) → IsPlaced start → (owned : List ℕ) × IsBalanced owned (draining_of start []) → DrainsSoFar start start before before
DrainsSoFar-start start before p b = record {
  events = [];
  steps = length start.order;
  enough = omega arith;
  rest = refl;
  placed = p;
  leaves = LeavesCells-same start;
  balanced = b;
  told = Tells-nil before;
}

pub DrainsSoFar-done : (start now : Lists) (before after : Telling) → DrainsSoFar start now before after → now.queue ≡ [] → Drains start now before after
DrainsSoFar-done start now before after s e = grind (arith, drain-done)

-- a step of a drain
drain-step : (n : ℕ) (d : Draining) (k : ℕ) (ks : List ℕ) → d.queue ≡ k ∷ ks → drain (suc n) d ≡ drain n (free_front d k ks)
unfolding drain
drain-step n d k ks e = rw e refl

module _ (start now next : Lists) (before middle after : Telling) (s : DrainsSoFar start now before middle) (f : FreesFront now next middle after) where
  abbrev d : Draining
  d = draining_of now s.events

  abbrev owned : List ℕ
  owned = s.balanced.0

  balance : IsBalanced owned d
  balance = IsBalanced-events owned (draining_of now []) s.events s.balanced.1

  -- a native fewer
  pub fewer : length next.order < length now.order
  fewer =
      let left : length (counts_of next).natives ≡ length (free_front d f.number f.behind).heap.natives = ap (λ (e : Draining). length e.heap.natives) (f.draining s.events) in
      omega (arith, free_front-fewer owned d f.number f.behind balance f.front, length-natives now, length-natives next)

  pub DrainsSoFar-more : DrainsSoFar start next before after
  DrainsSoFar-more = record {
    events = s.events ++ Freed (native f.number) ∷ [];
    steps = s.steps - 1;
    enough = omega (arith, fewer, s.enough);
    rest = ap (drain (s.steps - 1)) (f.draining s.events) ∙ (sym (drain-step (s.steps - 1) d f.number f.behind f.front) ∙ (ap (λ n. drain n d) whole ∙ s.rest));
    placed = f.placed;
    leaves = LeavesCells-then start now next s.leaves f.leaves;
    balanced = (
      owned,
      IsBalanced-events owned (draining_of next (s.events ++ Freed (native f.number) ∷ [])) []
          (subst (IsBalanced owned) (sym (f.draining s.events)) (IsBalanced-free_front owned d f.number f.behind balance f.front)),
    );
    told = TellsEvents-trans before middle after s.events (Freed (native f.number) ∷ []) s.told f.told;
  }
    where
      whole : suc (s.steps - 1) ≡ s.steps
      whole = omega (arith, fewer, s.enough)

-- nothing waits, so there is nothing to drain
pub Drains-none : (l : Lists) (before : Telling) → IsPlaced l → l.queue ≡ [] → Drains l l before before
Drains-none l before p e = record {
  events = [];
  draining = sym (drain-done (length l.order) (draining_of l []) (ap (map (the_number (keyed l.cells))) e));
  emptied = e;
  placed = p;
  leaves = LeavesCells-same l;
  told = Tells-nil before;
}

-- the front taken out after a step, or none where none is left, is back in its place
pub put_back-taken : (s new : Stored) (front : Option NKey) → option_map (λ k. k.0) front ≡ first_of s.lists.queue → new ≡ with_queue (drop 1) s → put_back front new.lists ≡ s.lists
put_back-taken s new front e f = grind arith

-- and where none is left, nothing waits
pub none-left : (s new : Stored) (front : Option NKey) → option_map (λ k. k.0) front ≡ first_of s.lists.queue → new ≡ with_queue (drop 1) s → front ≡ None → new.lists.queue ≡ []
none-left s new front e f none = grind arith

-- ONE REFERENCE GIVEN UP AND THE QUEUE DRAINED is the cascade.
pub ComesTo-cascade : (old mid new : Lists) (before after : Telling) (k : ℕ) → IsPlaced old → old.queue ≡ [] → GivesUp old mid (k ∷ []) → Drains mid new before after →
    ComesTo old new before after (cascade (heap_of (counts_of old)) k)
unfolding drained
ComesTo-cascade old mid new before after k p none g r =
    let first : draining_of mid [] ≡ give_up (at_rest (heap_of (counts_of old))) k = g.draining [] ∙ ap (λ d. give_up d k) (resting old none) in
    let long : length mid.order ≡ length (counts_of old).natives = ap length g.order ∙ sym (length-natives old) in
    let all : draining_of new r.events ≡ drain (length (counts_of old).natives) (give_up (at_rest (heap_of (counts_of old))) k) =
    r.draining ∙ (ap (λ n. drain n (draining_of mid [])) long ∙ ap (drain (length (counts_of old).natives)) first) in
    let first_left : LeavesCells old mid = record { as_many = g.as_many; each = λ k. inr (g.cells k); walk = λ k c at. ap (λ w. states_of w k) g.walk } in
    let left : LeavesCells old new = LeavesCells-then old mid new first_left r.leaves in
    record {
      counts = counts-left old new p r.placed (LeavesKeys-cells old new left)
          ∙ ap (λ (d : Draining). left_with (counts_of old) d.heap) all;
      heap = sym (ap (λ (d : Draining). d.heap) all);
      emptied = r.emptied;
      placed = r.placed;
      leaves = left;
      told = subst (TellsEvents before after) (ap (λ (d : Draining). d.events) all) r.told;
    }
