-- THE NATIVES OF A COUNTED HEAP AS THEIR LISTS: each list is read from its first key by the links.
use Rattle.std.specs.Prelude.{List, Option, map, length}
use Rattle.cc_chain.specs.Chains.{IsChain, walked}
use Rattle.cc_walk.specs.Walks.{split_at}
use Rattle.cc_walk.specs.WalkLists.{IsWalk}
use Rattle.cc_purple.specs.Marks.{marked_as}
use Rattle.cc_purple.specs.Buffers.{IsBuffer}
use Rattle.cc_counted.specs.declared.node.Node.{Node}
use Rattle.cc_counted.specs.declared.natives.Natives.TheInside.{Inside}
use Rattle.cc_counted.specs.Lists.{Lists}
use Rattle.cc_counted.specs.Stored.{Stored}
use Rattle.cc_counted.specs.Scripts.{AreKnown}
use Rattle.cc_counted.specs.Nodes.{cells_of, order_links, queue_links, suspect_links, walk_links, marks_in}

-- the nodes by key
abbrev pub slots_in : Inside → List (Option Node)
slots_in n = n.nodes.slab.slots

abbrev pub lists_of : Inside → Lists
lists_of n = record {
  cells = cells_of (slots_in n);
  order = walked (length (slots_in n)) (order_links (slots_in n)) n.order.first;
  queue = walked (length (slots_in n)) (queue_links (slots_in n)) n.queue.first;
  marks = map (λ key. marked_as key (marks_in (slots_in n) key)) (walked (length (slots_in n)) (suspect_links (slots_in n)) n.buffer.keys.first);
  walk = split_at n.walk.next (walked (length (slots_in n)) (walk_links (slots_in n)) n.walk.chain.first);
}

abbrev pub stored_of : Inside → Stored
stored_of n = record { lists = lists_of n; capacity = n.nodes.slab.capacity }

-- each list so read is a chain, and the walk is a set
pub record IsChained (n : Inside) : Type 0 where
  pub order : IsChain (order_links (slots_in n)) n.order (lists_of n).order
  pub queue : IsChain (queue_links (slots_in n)) n.queue (lists_of n).queue
  pub buffer : IsBuffer (suspect_links (slots_in n)) (marks_in (slots_in n)) n.buffer (lists_of n).marks
  pub walk : IsWalk (walk_links (slots_in n)) n.walk (lists_of n).walk

-- EACH LIST IS A CHAIN, and the table of holders knows each native
pub record IsKept (n : Inside) : Type 0 where
  pub chained : IsChained n
  pub known : AreKnown (lists_of n).cells n.holders
