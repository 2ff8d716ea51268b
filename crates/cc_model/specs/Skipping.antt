-- SUSPECTS THAT CAN BE SKIPPED: what the registers reach over edges, entries of weak maps aside, is alive, and need not be looked at.
use Rattle.std.specs.Prelude.{ℕ, Bool, false, ◌&&◌, ◌==◌, List, [], map, if◌then◌else◌}
use Rattle.cc_lists.specs.Members.{has}
use Rattle.cc_lists.specs.Least.{Rule, Least, system, closure}
use Rattle.cc_names.specs.declared.name.Name.{Name}
use Rattle.cc_names.specs.Names.{same_name}
use Rattle.cc_model.specs.Heap.{Heap, Buffered}
use Rattle.cc_model.specs.View.{view, buffered}

abbrev pub skip_rules : Heap → List (Rule Name)
skip_rules h = system (view h).registers (view h).edges []

-- a set by rules, and the same as a list
abbrev pub IsSkippable : Heap → Name → Type 0
IsSkippable h = Least (skip_rules h)

abbrev pub skippable_names : Heap → List Name
skippable_names h = closure same_name (skip_rules h)

-- native k without its mark, where it is in the buffer; it keeps its place
abbrev pub without_mark : ℕ → Buffered → Buffered
without_mark k b = if b.number == k then record b { purple = false } else b

abbrev pub unmarked : Heap → ℕ → Heap
unmarked h k = record h { buffer = map (without_mark k) h.buffer }

-- without its mark, where it is among some names; it keeps its place
abbrev pub unmarked_among : List Name → Buffered → Buffered
unmarked_among names b = if b.purple && has same_name names (buffered b) then record b { purple = false } else b

-- THE SUSPECTS FORGOTTEN: those that can be skipped lose their mark, and nothing else changes
unfoldable pub forgotten : Heap → Heap
forgotten h = record h { buffer = map (unmarked_among (skippable_names h)) h.buffer }
