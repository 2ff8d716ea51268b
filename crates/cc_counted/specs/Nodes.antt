-- WHAT THE NODES OF A SLAB HOLD, read part by part.
use Rattle.std.specs.Prelude.{ℕ, false, List, Option, None, map, option_map}
use Rattle.std.specs.Option.{unwrap_or}
use Rattle.slab.specs.Slab.{Slab}
use Rattle.cc_chain.specs.Links.{Links}
use Rattle.cc_chain.specs.Stores.{slot_at}
use Rattle.cc_purple.specs.Stores.{Marks}
use Rattle.cc_counted.specs.declared.node.Node.{Node}
use Rattle.cc_counted.specs.Lists.{Placed}

-- the natives by key
abbrev pub cells_of : List (Option Node) → List (Option Placed)
cells_of slots = map (option_map (λ n. n.cell)) slots

-- the links of each list
abbrev pub order_links : List (Option Node) → Links
order_links slots = slot_at (λ n. n.order) slots

abbrev pub queue_links : List (Option Node) → Links
queue_links slots = slot_at (λ n. n.queue) slots

abbrev pub suspect_links : List (Option Node) → Links
suspect_links slots = slot_at (λ n. n.suspects) slots

abbrev pub walk_links : List (Option Node) → Links
walk_links slots = slot_at (λ n. n.walk) slots

-- who has the purple mark
abbrev pub marks_in : List (Option Node) → Marks
marks_in slots key = unwrap_or (slot_at (λ n. n.purple) slots key) false

-- all of it
pub record Threads : Type 0 where
  pub cells : List (Option Placed)
  pub order : Links
  pub queue : Links
  pub suspects : Links
  pub walk : Links
  pub marks : Marks
  pub capacity : ℕ

abbrev pub threads_of : Slab Node → Threads
threads_of s = record {
  cells = cells_of s.slots;
  order = order_links s.slots;
  queue = queue_links s.slots;
  suspects = suspect_links s.slots;
  walk = walk_links s.slots;
  marks = marks_in s.slots;
  capacity = s.capacity;
}

-- and all of it but the links of one list, or but the buffer with its marks
abbrev pub no_links : Links
no_links key = None

abbrev pub beside_order : Slab Node → Threads
beside_order s = record (threads_of s) { order = no_links }

abbrev pub beside_queue : Slab Node → Threads
beside_queue s = record (threads_of s) { queue = no_links }

abbrev pub beside_suspects : Slab Node → Threads
beside_suspects s = record (threads_of s) { suspects = no_links }

abbrev pub beside_walk : Slab Node → Threads
beside_walk s = record (threads_of s) { walk = no_links }

abbrev pub without_marks : Threads → Threads
without_marks t = record t { marks = λ key. false }
