-- Sweeping, and the rounds of a script collection.
use Rattle.std.specs.Prelude.{ℕ, zero, suc, Bool, true, false, not, ◌||◌, List, [], ◌∷◌, length, filter}
use Rattle.cc_lists.specs.Members.{has}
use Rattle.cc_names.specs.declared.name.Name.{Name}
use Rattle.cc_names.specs.declared.name.Name.TheVariants as name
use Rattle.cc_names.specs.Names.{same_name}
use Rattle.cc_model.specs.declared.item.Event.TheVariants.{Freed}
use Rattle.cc_model.specs.Entries.{Entry}
use Rattle.cc_model.specs.Heap.{Heap, Outcome, silently, after, is_white_colour}
use Rattle.cc_model.specs.View.{names_with}
use Rattle.cc_model.specs.Cascade.{cascade}
use Rattle.cc_model.specs.Colours.{marked}

-- the unmarked script objects, in order of making
abbrev pub unmarked : Heap → List Name
unmarked h = names_with (λ o. is_white_colour o.colour) h.scripts

-- an entry whose map or key is among the dead
abbrev pub is_dead_entry : List Name → Entry → Bool
is_dead_entry dead e = has same_name dead e.the_map || has same_name dead e.key

abbrev pub without_dead_entries : List Name → Heap → Heap
without_dead_entries dead h = record h { entries = filter (λ e. not (is_dead_entry dead e)) h.entries }

abbrev pub without_script : Heap → Name → Heap
without_script h x = record h { scripts = filter (λ o. not (same_name o.name x)) h.scripts }

-- a reflector gives up its reference to its native
abbrev pub let_native_go : Heap → Name → Outcome
let_native_go h (name.Reflector k) = cascade h k.0
let_native_go h (name.Native k) = silently h
let_native_go h (name.Script k) = silently h

-- one object is told and removed, and its reference is given up with its cascade
abbrev pub sweep_one : Heap → Name → Outcome
sweep_one h x = after (Freed x ∷ []) (let_native_go (without_script h x) x)

-- the next one only then
abbrev pub sweep_each : List Name → Outcome → Outcome
sweep_each [] o = o
sweep_each (x ∷ xs) o = sweep_each xs (after o.events (sweep_one o.heap x))

-- SWEEPING: entries whose map or key is unmarked are dropped, then each unmarked object is swept
unfoldable pub sweep : Heap → Outcome
sweep h = sweep_each (unmarked h) (silently (without_dead_entries (unmarked h) h))

-- whether something is swept
abbrev pub sweeps : Heap → Bool
sweeps h = elim (unmarked h) [ [] ↦ false | x ∷ xs ↦ true ]

-- marking and sweeping, until a round sweeps nothing, in at most so many rounds
unfoldable pub rounds : ℕ → Outcome → Outcome
rounds zero o = o
rounds (suc n) o = let m = marked o.heap in elim (sweeps m) [
  | true ↦ rounds n (after o.events (sweep m))
  | false ↦ after o.events (sweep m)
]

-- A SCRIPT COLLECTION, the end of a running collection aside: each round but the last takes a script object away
unfoldable pub collect_scripts : Heap → Outcome
collect_scripts h = rounds (suc (length h.scripts)) (silently h)
