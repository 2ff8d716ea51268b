-- ROUNDS: what a round keeps they keep, and the last of them sweeps nothing.
use Rattle.std.proofs.Common.{◌≡◌, ℕ, zero, suc, ◌<◌, Bool, true, false, [], length, refl, ◌∙◌, arith}
use Rattle.cc_model.specs.Heap.{Heap, Outcome, after, silently}
use Rattle.cc_model.specs.Colours.{marked}
use Rattle.cc_model.specs.Sweep.{unmarked, sweep, sweeps, rounds, collect_scripts}
use Rattle.cc_model.proofs.Rounds.{length-marked, length-sweep-less}
use Rattle.cc_lists.proofs.Searching.{filter-true}

-- the heaps and what was told, after one round more
abbrev pub next_round : Outcome → Outcome
next_round o = after o.events (sweep (marked o.heap))

-- a round and n more, by whether it sweeps
abbrev rounds_by : ℕ → Outcome → Bool → Outcome
rounds_by n o true = rounds n (next_round o)
rounds_by n o false = next_round o

-- WHAT A ROUND KEEPS, ROUNDS KEEP.
pub rounds-keep : (Q : Outcome → Type 0) → ((o : Outcome) → Q o → Q (next_round o)) → (n : ℕ) (o : Outcome) → Q o → Q (rounds n o)
unfolding rounds
rounds-keep Q step zero o q = q
rounds-keep Q step (suc n) o q = go (rounds-keep Q step n (next_round o)) (sweeps (marked o.heap))
  where
    go : (Q (next_round o) → Q (rounds n (next_round o))) → (b : Bool) → Q (rounds_by n o b)
    go ih true = ih (step o q)
    go ih false = step o q

-- the heaps after a round that swept nothing
abbrev pub IsLastRound : Heap → Heap → Type 0
IsLastRound h k = (sweeps (marked h) ≡ false) × (k ≡ (sweep (marked h)).heap)

-- the last of more rounds than there are script objects sweeps nothing
rounds-last : (n : ℕ) (o : Outcome) → length o.heap.scripts < n → (h : Heap) × IsLastRound h (rounds n o).heap
unfolding rounds
rounds-last zero o small = absurd (omega arith)
rounds-last (suc n) o small = go (rounds-last n (next_round o)) (sweeps (marked o.heap)) refl
  where
    go : (length (next_round o).heap.scripts < n → (h : Heap) × IsLastRound h (rounds n (next_round o)).heap) → (b : Bool) → sweeps (marked o.heap) ≡ b →
        (h : Heap) × IsLastRound h (rounds_by n o b).heap
    go ih true e = ih (omega (arith, length-sweep-less (marked o.heap) e, length-marked o.heap))
    go ih false e = (o.heap, (e, refl))

-- where nothing is swept nothing is unmarked
unmarked-none : (h : Heap) → sweeps h ≡ false → unmarked h ≡ []
unmarked-none h e = grind arith

-- and the heaps stay as they are
sweep-nothing : (h : Heap) → unmarked h ≡ [] → (sweep h).heap ≡ h
unfolding sweep
sweep-nothing h e = grind (arith, filter-true)

-- THE HEAPS AFTER A SCRIPT COLLECTION are marked heaps, in which nothing is unmarked.
pub collect_scripts-marked : (h : Heap) → (g : Heap) × ((collect_scripts h).heap ≡ marked g) × (unmarked (marked g) ≡ [])
unfolding collect_scripts
collect_scripts-marked h =
    let last = rounds-last (suc (length h.scripts)) (silently h) (omega arith) in
    let none : unmarked (marked last.0) ≡ [] = unmarked-none (marked last.0) last.1.0 in
    (last.0, last.1.1 ∙ sweep-nothing (marked last.0) none, none)
