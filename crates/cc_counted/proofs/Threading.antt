-- THE LISTS READ BACK: where the nodes have the links of some lists, those are the lists.
use Rattle.std.proofs.Common.{◌≡◌, ◌≢◌, ℕ, ◌+◌, ◌<◌, ◌≤◌, true, false, List, [], ◌∷◌, ◌++◌, map, length, Option, Some, None, option_map, is_some, get_or, refl, sym, ◌∙◌, ap, subst, ◌==◌, if◌then◌else◌, Bool, arith}
use Rattle.std.proofs.Math.ListN.{set}
use Rattle.std.proofs.lemmas.Bool.{eq-eqb, ne_eqb, true≢false}
use Rattle.std.proofs.lemmas.List.{get_or-set_other}
use Rattle.std.specs.Option.{option_flatten}
use Rattle.cc_chain.proofs.Slots.{slots-below}
use Rattle.slab.specs.Slab.{Slab}
use Rattle.cc_lists.specs.Members.{Among, without}
use Rattle.cc_lists.proofs.Members.{Among-map_cases}
use Rattle.cc_chain.specs.declared.link.Link.{Link}
use Rattle.cc_chain.specs.declared.chain.Chain.{Chain}
use Rattle.cc_chain.specs.Chains.{AllDiffer, IsChain}
use Rattle.cc_chain.specs.Stores.{slot_at}
use Rattle.cc_chain.proofs.Rows.{without-leaves, link_from-absent}
use Rattle.cc_chain.proofs.Chains.{chain-bounded, chain-live}
use Rattle.cc_walk.specs.declared.walk_list.WalkList.{WalkList}
use Rattle.cc_walk.specs.Walks.{Walk, no_walk, members}
use Rattle.cc_walk.specs.WalkLists.{IsWalk}
use Rattle.cc_walk.proofs.WalkLists.{walk-bounded}
use Rattle.cc_purple.specs.declared.buffer.Buffer.{Buffer}
use Rattle.cc_purple.specs.Stores.{Marks}
use Rattle.cc_purple.specs.Marks.{Marked, marked_as, holds_key, is_purple, keys_of}
use Rattle.cc_purple.specs.Buffers.{IsBuffer}
use Rattle.cc_purple.proofs.Marks.{holds-among}
use Rattle.cc_counted.specs.declared.node.Node.{Node}
use Rattle.cc_counted.specs.declared.node.Nodes.{Nodes}
use Rattle.cc_counted.specs.declared.node.Order.{Order}
use Rattle.cc_counted.specs.declared.node.Queue.{Queue}
use Rattle.cc_counted.specs.declared.node.Members.{Members}
use Rattle.cc_counted.specs.declared.natives.Natives.TheInside.{Inside}
use Rattle.cc_counted.specs.Lists.{Placed, cell_at}
use Rattle.cc_counted.specs.Stored.{Stored, Inserts, with_cell, with_queue, with_marks, with_walk, without_cell}
use Rattle.cc_counted.specs.Nodes.{Threads, beside_order, beside_queue, beside_suspects, beside_walk, without_marks, cells_of, order_links, queue_links, suspect_links, walk_links, marks_in}
use Rattle.cc_counted.specs.Natives.{slots_in, lists_of, stored_of, IsChained, IsKept}
use Rattle.cc_holders.specs.declared.entry.Entry.TheVariants.{Unknown, Known}
use Rattle.cc_holders.specs.declared.holders.Holders.{Holders}
use Rattle.cc_holders.specs.Entries.{count_of, one_if}
use Rattle.cc_holders.specs.Known.{entry_at}
use Rattle.cc_names.specs.Sizes.{most_slots}
use Rattle.cc_counted.specs.Scripts.{AreKnown, recounted, scripts_of}
use Rattle.cc_counted.proofs.Scripts.{known-room, known-same, known-counted, known-recounted, known-inserted, known-removed}
use Rattle.cc_counted.proofs.Nodes.{cell_at-node, cells-written, cells-gone, links-kept, marks-kept, chain-beside, walk-beside, buffer-beside, vacated}

-- the marks of distinct keys
marks-read : (marks : Marks) (ms : List Marked) → AllDiffer (keys_of ms) → ((key : ℕ) → holds_key ms key ≡ true → marks key ≡ is_purple ms key) →
    map (λ key. marked_as key (marks key)) (keys_of ms) ≡ ms
marks-read marks [] d agree = refl
marks-read marks (m ∷ ms) d agree =
    let same : (m.key == m.key) ≡ true = eq-eqb m.key m.key refl in
    let here : marks m.key ≡ m.purple = agree m.key (rw (holds_key, same) refl) ∙ rw (is_purple, same) refl in
    ap (λ p. marked_as m.key p ∷ map (λ key. marked_as key (marks key)) (keys_of ms)) here ∙ ap (λ xs. m ∷ xs) (marks-read marks ms d.1 later)
  where
    later : (key : ℕ) → holds_key ms key ≡ true → marks key ≡ is_purple ms key
    later key h =
        let other : (m.key == key) ≡ false = ne_eqb m.key key (λ s. d.0 (subst (λ k. Among k (keys_of ms)) (sym s) (holds-among ms key h))) in
        agree key (rw (holds_key, other) h) ∙ rw (is_purple, other) refl

stored-same : (c d : List (Option Placed)) (o p q r : List ℕ) (m n : List Marked) (v w : Walk) (j k : ℕ) → c ≡ d → o ≡ p → q ≡ r → m ≡ n → v ≡ w → j ≡ k →
    ◌≡◌ {A = Stored} (record { lists = record { cells = c; order = o; queue = q; marks = m; walk = v }; capacity = j })
    (record { lists = record { cells = d; order = p; queue = r; marks = n; walk = w }; capacity = k })
stored-same c d o p q r m n v w j k e f g h x i = rw (e, f, g, h, x, i) refl

-- WHERE THE NODES HAVE THE LINKS OF SOME LISTS, they stand for these
pub stored-are : (n : Inside) (s : Stored) → cells_of (slots_in n) ≡ s.lists.cells → IsChain (order_links (slots_in n)) n.order s.lists.order →
    IsChain (queue_links (slots_in n)) n.queue s.lists.queue → IsBuffer (suspect_links (slots_in n)) (marks_in (slots_in n)) n.buffer s.lists.marks →
    IsWalk (walk_links (slots_in n)) n.walk s.lists.walk → n.nodes.slab.capacity ≡ s.capacity → (stored_of n ≡ s) × IsChained n
stored-are n s cells o q b w capacity = (
  stored-same _ _ _ _ _ _ _ _ _ _ _ _ cells order queue marks walk capacity,
  record {
    order = subst (λ l. IsChain (order_links (slots_in n)) n.order l) (sym order) o;
    queue = subst (λ l. IsChain (queue_links (slots_in n)) n.queue l) (sym queue) q;
    buffer = subst (λ l. IsBuffer (suspect_links (slots_in n)) (marks_in (slots_in n)) n.buffer l) (sym marks) b;
    walk = subst (IsWalk (walk_links (slots_in n)) n.walk) (sym walk) w;
  },
)
  where
    order : (lists_of n).order ≡ s.lists.order
    order = chain-bounded (order_links (slots_in n)) n.order s.lists.order (length (slots_in n)) o (slots-below (λ (n : Node). n.order) (slots_in n))

    queue : (lists_of n).queue ≡ s.lists.queue
    queue = chain-bounded (queue_links (slots_in n)) n.queue s.lists.queue (length (slots_in n)) q (slots-below (λ (n : Node). n.queue) (slots_in n))

    marks : (lists_of n).marks ≡ s.lists.marks
    marks =
        ap (map (λ key. marked_as key (marks_in (slots_in n) key)))
        (chain-bounded (suspect_links (slots_in n)) n.buffer.keys (keys_of s.lists.marks) (length (slots_in n)) b.keys (slots-below (λ (n : Node). n.suspects) (slots_in n)))
        ∙ marks-read (marks_in (slots_in n)) s.lists.marks b.keys.differ b.agree

    walk : (lists_of n).walk ≡ s.lists.walk
    walk = walk-bounded (walk_links (slots_in n)) n.walk s.lists.walk w (length (slots_in n)) (slots-below (λ (n : Node). n.walk) (slots_in n))

-- no natives
pub chained-none : (n : Inside) → slots_in n ≡ [] → IsChain (order_links (slots_in n)) n.order [] → IsChain (queue_links (slots_in n)) n.queue [] →
    IsBuffer (suspect_links (slots_in n)) (marks_in (slots_in n)) n.buffer [] → IsWalk (walk_links (slots_in n)) n.walk no_walk → IsChained n
chained-none n none o q b w = (stored-are n (record { lists = record { cells = []; order = []; queue = []; marks = []; walk = no_walk }; capacity = n.nodes.slab.capacity })
    (ap cells_of none) o q b w refl).1

-- THE NATIVES n WERE THESE
module _ (n : Inside) (i : IsKept n) (s : Stored) (was : stored_of n ≡ s) where
  -- A native written at its key
  module _ (key : ℕ) (node : Node) (at : get_or (slots_in n) key None ≡ Some node) (change : Placed → Placed) (cell : Placed) (e : cell ≡ change node.cell) (j : Holders) where
    abbrev node_written : Node
    node_written = record node { cell = cell }

    abbrev pub written : Inside
    written = record n { nodes = record n.nodes { slab = record n.nodes.slab { slots = set (slots_in n) key (Some node_written) } }; holders = j }

    pub placed-there : cell_at (cells_of (slots_in n)) key ≡ Some node.cell
    placed-there = cell_at-node (slots_in n) key ∙ ap (option_map (λ (n : Node). n.cell)) at

    cells-then : cells_of (slots_in written) ≡ set (cells_of (slots_in n)) key (Some (change node.cell))
    cells-then = cells-written (slots_in n) key node node_written at ∙ ap (λ c. set (cells_of (slots_in n)) key (Some c)) e

    stands : (stored_of written ≡ with_cell key change (stored_of n)) × IsChained written
    stands = stored-are written (with_cell key change (stored_of n))
        (cells-then ∙ ap (λ o. set (cells_of (slots_in n)) key (option_map change o)) (sym placed-there))
        (subst (λ l. IsChain l n.order (lists_of n).order) (sym (links-kept (slots_in n) key node node_written at (λ (n : Node). n.order) refl)) i.chained.order)
        (subst (λ l. IsChain l n.queue (lists_of n).queue) (sym (links-kept (slots_in n) key node node_written at (λ (n : Node). n.queue) refl)) i.chained.queue)
        (subst (λ l. IsBuffer l (marks_in (slots_in written)) n.buffer (lists_of n).marks) (sym (links-kept (slots_in n) key node node_written at (λ (n : Node). n.suspects) refl))
        (subst (λ m. IsBuffer (suspect_links (slots_in n)) m n.buffer (lists_of n).marks) (sym (marks-kept (slots_in n) key node node_written at refl)) i.chained.buffer))
        (subst (λ l. IsWalk l n.walk (lists_of n).walk) (sym (links-kept (slots_in n) key node node_written at (λ (n : Node). n.walk) refl)) i.chained.walk)
        refl

    pub stored-written : stored_of written ≡ with_cell key change s
    stored-written = stands.0 ∙ ap (with_cell key change) was

    -- the table goes along where it knows the native that was written
    pub kept-written : AreKnown (set (cells_of (slots_in n)) key (Some (change node.cell))) j → IsKept written
    kept-written known = record { chained = stands.1; known = subst (λ cs. AreKnown cs j) (sym cells-then) known }

    module _ (same : (change node.cell).number ≡ node.cell.number) (as_many : length (change node.cell).slots ≡ length node.cell.slots) where
      few : length (change node.cell).slots ≤ most_slots
      few = subst (λ m. m ≤ most_slots) (sym as_many) (i.known.few key node.cell placed-there)

      pub kept-counted : j ≡ n.holders → scripts_of (change node.cell) ≡ scripts_of node.cell → IsKept written
      kept-counted h alike = kept-written (subst (AreKnown _) (sym h) (known-counted (cells_of (slots_in n)) n.holders i.known key node.cell (change node.cell) placed-there same few alike))

      pub room-written : count_of (entry_at n.holders cell.number) < 65535
      room-written = subst (λ m. count_of (entry_at n.holders m) < 65535) (sym (ap (λ (p : Placed). p.number) e ∙ same)) (known-room (cells_of (slots_in n)) n.holders i.known key node.cell placed-there)

      pub kept-recounted : (before after : Bool) → scripts_of (change node.cell) + one_if before ≡ scripts_of node.cell + one_if after →
          ((m : ℕ) → entry_at j m ≡ (if cell.number == m then recounted before after (entry_at n.holders cell.number) else entry_at n.holders m)) → IsKept written
      kept-recounted before after counts entries =
          kept-written (known-recounted (cells_of (slots_in n)) n.holders i.known key node.cell (change node.cell) placed-there same few before after counts j
          (subst (λ (p : Placed). (m : ℕ) → entry_at j m ≡ (if p.number == m then recounted before after (entry_at n.holders p.number) else entry_at n.holders m)) e entries))

  -- The order changed, and nothing else,
  module _ (v : Nodes) (rest : beside_order v.slab ≡ beside_order n.nodes.slab) where
    pub queue-beside : IsChain (queue_links v.slab.slots) n.queue (lists_of n).queue
    queue-beside = subst (λ l. IsChain l n.queue (lists_of n).queue) (sym (ap (λ (t : Threads). t.queue) rest)) i.chained.queue

    pub buffer-beside_order : IsBuffer (suspect_links v.slab.slots) (marks_in v.slab.slots) n.buffer (lists_of n).marks
    buffer-beside_order = grind arith

    pub walk-beside_order : IsWalk (walk_links v.slab.slots) n.walk (lists_of n).walk
    walk-beside_order = subst (λ l. IsWalk l n.walk (lists_of n).walk) (sym (ap (λ (t : Threads). t.walk) rest)) i.chained.walk

  -- or no native itself,
  kept-beside : (m : Inside) → m.holders ≡ n.holders → cells_of (slots_in m) ≡ cells_of (slots_in n) → IsChained m → IsKept m
  kept-beside m same cells chained = record { chained = chained; known = subst (λ cs. AreKnown cs m.holders) (sym cells) (subst (AreKnown _) (sym same) i.known) }

  -- the queue,
  pub stored-queue : (v : Nodes) (q : Chain Queue) (change : List ℕ → List ℕ) → beside_queue v.slab ≡ beside_queue n.nodes.slab →
      IsChain (queue_links v.slab.slots) q (change (lists_of n).queue) →
      (stored_of (record n { nodes = v; queue = q }) ≡ with_queue change s) × IsKept (record n { nodes = v; queue = q })
  stored-queue v q change rest chain =
      let both = stored-are (record n { nodes = v; queue = q }) (with_queue change (stored_of n))
      (ap (λ (t : Threads). t.cells) rest)
      (subst (λ l. IsChain l n.order (lists_of n).order) (sym (ap (λ (t : Threads). t.order) rest)) i.chained.order)
      chain
      (subst (λ l. IsBuffer l (marks_in v.slab.slots) n.buffer (lists_of n).marks) (sym (ap (λ (t : Threads). t.suspects) rest))
      (subst (λ m. IsBuffer (suspect_links (slots_in n)) m n.buffer (lists_of n).marks) (sym (ap (λ (t : Threads). t.marks) rest)) i.chained.buffer))
      (subst (λ l. IsWalk l n.walk (lists_of n).walk) (sym (ap (λ (t : Threads). t.walk) rest)) i.chained.walk)
      (ap (λ (t : Threads). t.capacity) rest) in
      (both.0 ∙ ap (with_queue change) was, kept-beside _ refl (ap (λ (t : Threads). t.cells) rest) both.1)

  -- the buffer,
  pub stored-buffer : (v : Nodes) (b : Buffer) (change : List Marked → List Marked) → without_marks (beside_suspects v.slab) ≡ without_marks (beside_suspects n.nodes.slab) →
      IsBuffer (suspect_links v.slab.slots) (marks_in v.slab.slots) b (change (lists_of n).marks) →
      (stored_of (record n { nodes = v; buffer = b }) ≡ with_marks change s) × IsKept (record n { nodes = v; buffer = b })
  stored-buffer v b change rest buffer =
      let both = stored-are (record n { nodes = v; buffer = b }) (with_marks change (stored_of n))
      (ap (λ (t : Threads). t.cells) rest)
      (subst (λ l. IsChain l n.order (lists_of n).order) (sym (ap (λ (t : Threads). t.order) rest)) i.chained.order)
      (subst (λ l. IsChain l n.queue (lists_of n).queue) (sym (ap (λ (t : Threads). t.queue) rest)) i.chained.queue)
      buffer
      (subst (λ l. IsWalk l n.walk (lists_of n).walk) (sym (ap (λ (t : Threads). t.walk) rest)) i.chained.walk)
      (ap (λ (t : Threads). t.capacity) rest) in
      (both.0 ∙ ap (with_marks change) was, kept-beside _ refl (ap (λ (t : Threads). t.cells) rest) both.1)

  -- or the walk
  pub stored-walk : (v : Nodes) (list : WalkList Members) (change : Walk → Walk) → beside_walk v.slab ≡ beside_walk n.nodes.slab →
      IsWalk (walk_links v.slab.slots) list (change (lists_of n).walk) →
      (stored_of (record n { nodes = v; walk = list }) ≡ with_walk change s) × IsKept (record n { nodes = v; walk = list })
  stored-walk v list change rest walk =
      let both = stored-are (record n { nodes = v; walk = list }) (with_walk change (stored_of n))
      (ap (λ (t : Threads). t.cells) rest)
      (subst (λ l. IsChain l n.order (lists_of n).order) (sym (ap (λ (t : Threads). t.order) rest)) i.chained.order)
      (subst (λ l. IsChain l n.queue (lists_of n).queue) (sym (ap (λ (t : Threads). t.queue) rest)) i.chained.queue)
      (subst (λ l. IsBuffer l (marks_in v.slab.slots) n.buffer (lists_of n).marks) (sym (ap (λ (t : Threads). t.suspects) rest))
      (subst (λ m. IsBuffer (suspect_links (slots_in n)) m n.buffer (lists_of n).marks) (sym (ap (λ (t : Threads). t.marks) rest)) i.chained.buffer))
      walk
      (ap (λ (t : Threads). t.capacity) rest) in
      (both.0 ∙ ap (with_walk change) was, kept-beside _ refl (ap (λ (t : Threads). t.cells) rest) both.1)

-- the slab took memory, and the table says the same
pub kept-reserved : (n : Inside) → IsKept n → (t : Slab Node) (j : Holders) → t ≡ record n.nodes.slab { capacity = t.capacity } → ((m : ℕ) → entry_at j m ≡ entry_at n.holders m) →
    IsKept (record n { nodes = record n.nodes { slab = t }; holders = j })
kept-reserved n i t j e same =
    subst (λ (u : Slab Node). IsKept (record n { nodes = record n.nodes { slab = u }; holders = j })) (sym e)
    (record { chained = record { order = i.chained.order; queue = i.chained.queue; buffer = i.chained.buffer; walk = i.chained.walk }; known = known-same (cells_of (slots_in n)) n.holders i.known j same })

-- the natives after the order changed, and the table
abbrev pub inserted : Inside → Nodes → Chain Order → Holders → Inside
inserted n v o h = record n { nodes = v; order = o; holders = h }

-- A NATIVE CAME to stand at a key that held nothing, in no list, once there was room,
module _ (n : Inside) (i : IsKept n) (t u : Slab Node) (reserved : t ≡ record n.nodes.slab { capacity = t.capacity }) (key : ℕ) (cell : Placed) (was_vacant : get_or t.slots key None ≡ None)
    (there : get_or u.slots key None ≡ Some (record { cell = cell; order = None; queue = None; suspects = None; walk = None; purple = false }))
    (others_stayed : (k : ℕ) → k ≢ key → get_or u.slots k None ≡ get_or t.slots k None) where
  vacant : get_or (slots_in n) key None ≡ None
  vacant = sym (ap (λ (s : Slab Node). get_or s.slots key None) reserved) ∙ was_vacant

  others : (k : ℕ) → k ≢ key → get_or u.slots k None ≡ get_or (slots_in n) k None
  others k o = others_stayed k o ∙ ap (λ (s : Slab Node). get_or s.slots k None) reserved

  unlinked : (part : Node → Option Link) → part (record { cell = cell; order = None; queue = None; suspects = None; walk = None; purple = false }) ≡ None →
      option_flatten (slot_at part u.slots key) ≡ option_flatten (slot_at part (slots_in n) key)
  unlinked part none = ap (λ o. option_flatten (option_map part o)) there ∙ (none ∙ sym (ap (λ o. option_flatten (option_map part o)) vacant))

  pub order-inserted : IsChain (order_links u.slots) n.order (lists_of n).order
  order-inserted = chain-beside (slots_in n) u.slots key others (λ (n : Node). n.order) n.order (lists_of n).order (unlinked (λ (n : Node). n.order) refl) i.chained.order

  -- and last in the order
  module _ (v : Nodes) (o : Chain Order) (h : Holders) (rest : beside_order v.slab ≡ beside_order u) (chain : IsChain (order_links v.slab.slots) o ((lists_of n).order ++ key ∷ [])) where
    cells : cells_of v.slab.slots ≡ cells_of u.slots
    cells = ap (λ (t : Threads). t.cells) rest

    elsewhere : (j : ℕ) → holds_key (lists_of n).marks j ≡ true → j ≢ key
    elsewhere j h e =
        let live : is_some (suspect_links (slots_in n) j) ≡ true = chain-live (suspect_links (slots_in n)) n.buffer.keys (keys_of (lists_of n).marks) i.chained.buffer.keys j (holds-among (lists_of n).marks j h) in
        true≢false (sym live ∙ (ap (λ k. is_some (suspect_links (slots_in n) k)) e ∙ ap (λ o. is_some (option_map (λ (n : Node). n.suspects) o)) vacant))

    both : (stored_of (inserted n v o h) ≡ record { lists = record (lists_of n) { cells = cells_of v.slab.slots; order = (lists_of n).order ++ key ∷ [] }; capacity = v.slab.capacity }) × IsChained (inserted n v o h)
    both = stored-are (inserted n v o h) (record { lists = record (lists_of n) { cells = cells_of v.slab.slots; order = (lists_of n).order ++ key ∷ [] }; capacity = v.slab.capacity })
        refl
        chain
        (subst (λ l. IsChain l n.queue (lists_of n).queue) (sym (ap (λ (t : Threads). t.queue) rest))
        (chain-beside (slots_in n) u.slots key others (λ (n : Node). n.queue) n.queue (lists_of n).queue (unlinked (λ (n : Node). n.queue) refl) i.chained.queue))
        (subst (λ l. IsBuffer l (marks_in v.slab.slots) n.buffer (lists_of n).marks) (sym (ap (λ (t : Threads). t.suspects) rest))
        (subst (λ m. IsBuffer (suspect_links u.slots) m n.buffer (lists_of n).marks) (sym (ap (λ (t : Threads). t.marks) rest))
        (buffer-beside (slots_in n) u.slots key others n.buffer (lists_of n).marks (unlinked (λ (n : Node). n.suspects) refl) elsewhere i.chained.buffer)))
        (subst (λ l. IsWalk l n.walk (lists_of n).walk) (sym (ap (λ (t : Threads). t.walk) rest))
        (walk-beside (slots_in n) u.slots key others n.walk (lists_of n).walk (unlinked (λ (n : Node). n.walk) refl) i.chained.walk))
        refl

    inserts-here : Inserts (lists_of n) (lists_of (inserted n v o h)) key cell
    inserts-here = record {
      vacant = cell_at-node (slots_in n) key ∙ ap (option_map (λ (n : Node). n.cell)) vacant;
      there = ap (λ cs. cell_at cs key) cells ∙ (cell_at-node u.slots key ∙ ap (option_map (λ (n : Node). n.cell)) there);
      others = λ k o. ap (λ cs. cell_at cs k) cells
          ∙ (cell_at-node u.slots k ∙ (ap (option_map (λ (n : Node). n.cell)) (others k o) ∙ sym (cell_at-node (slots_in n) k)));
      lists = ap (λ (t : Stored). t.lists) both.0;
    }

    pub inserts : (s : Stored) → stored_of n ≡ s → Inserts s.lists (lists_of (inserted n v o h)) key cell
    inserts s was = subst (λ (t : Stored). Inserts t.lists (lists_of (inserted n v o h)) key cell) was inserts-here

    pub kept-inserted : ((q : ℕ) (c : Placed) → cell_at (lists_of n).cells q ≡ Some c → c.number ≢ cell.number) → scripts_of cell ≡ 0 → length cell.slots ≤ most_slots →
        ((m : ℕ) → entry_at h m ≡ (if cell.number == m then Known 0 key else entry_at n.holders m)) → IsKept (inserted n v o h)
    kept-inserted fresh none few entries = record {
      chained = both.1;
      known = known-inserted (lists_of n).cells n.holders i.known (cells_of v.slab.slots) key cell inserts-here.vacant inserts-here.there inserts-here.others fresh none few h entries;
    }

-- A NATIVE LEFT the order and its key, and was in no other list
module _ (n : Inside) (i : IsKept n) (s : Stored) (was : stored_of n ≡ s) (key : ℕ) (idle : ¬ (Among key s.lists.queue)) (unmarked : (m : Marked) → Among m s.lists.marks → m.key ≢ key)
    (out : ¬ (Among key (members s.lists.walk)))
    (v : Nodes) (o : Chain Order) (rest : beside_order v.slab ≡ beside_order n.nodes.slab) (chain : IsChain (order_links v.slab.slots) o (without ◌==◌ key (lists_of n).order))
    (u : Slab Node) (gone : u.slots ≡ set v.slab.slots key None) (capacity : u.capacity ≡ v.slab.capacity) (h : Holders) where
  abbrev pub removed : Inside
  removed = record n { nodes = record v { slab = u }; order = o; holders = h }

  others_stay : (k : ℕ) → k ≢ key → get_or u.slots k None ≡ get_or v.slab.slots k None
  others_stay k o = ap (λ xs. get_or xs k None) gone ∙ get_or-set_other v.slab.slots key k None None o

  nothing : get_or u.slots key None ≡ None
  nothing = ap (λ xs. get_or xs key None) gone ∙ vacated v.slab.slots key

  absent : {R : Type 0} (part : Node → Option Link) (c : Chain R) (keys : List ℕ) → IsChain (slot_at part v.slab.slots) c keys → ¬ (Among key keys) →
      option_flatten (slot_at part u.slots key) ≡ option_flatten (slot_at part v.slab.slots key)
  absent part c keys d a = ap (λ o. option_flatten (option_map part o)) nothing ∙ sym (d.linked key ∙ link_from-absent None keys key a)

  not-held : (j : ℕ) → holds_key (lists_of n).marks j ≡ true → j ≢ key
  not-held j h e =
      let f = Among-map_cases (λ (m : Marked). m.key) (lists_of n).marks j (holds-among (lists_of n).marks j h) in
      unmarked f.0 (subst (λ (t : Stored). Among f.0 t.lists.marks) was f.1) (f.2 ∙ e)

  not-marked : ¬ (Among key (keys_of (lists_of n).marks))
  not-marked m =
      let f = Among-map_cases (λ (m : Marked). m.key) (lists_of n).marks key m in
      unmarked f.0 (subst (λ (t : Stored). Among f.0 t.lists.marks) was f.1) f.2

  cells-removed : cells_of (slots_in removed) ≡ set (lists_of n).cells key None
  cells-removed = ap cells_of gone ∙ (cells-gone v.slab.slots key ∙ ap (λ (t : Threads). set t.cells key None) rest)

  both-removed : (stored_of removed ≡ without_cell key (stored_of n)) × IsChained removed
  both-removed =
      stored-are removed (without_cell key (stored_of n))
      cells-removed
      (chain-beside v.slab.slots u.slots key others_stay (λ (n : Node). n.order) o (without ◌==◌ key (lists_of n).order)
      (absent (λ (n : Node). n.order) o (without ◌==◌ key (lists_of n).order) chain (without-leaves key (lists_of n).order)) chain)
      (chain-beside v.slab.slots u.slots key others_stay (λ (n : Node). n.queue) n.queue (lists_of n).queue
      (absent (λ (n : Node). n.queue) n.queue (lists_of n).queue queue (λ m. idle (subst (λ (t : Stored). Among key t.lists.queue) was m))) queue)
      (buffer-beside v.slab.slots u.slots key others_stay n.buffer (lists_of n).marks
      (absent (λ (n : Node). n.suspects) n.buffer.keys (keys_of (lists_of n).marks) buffer.keys not-marked) not-held buffer)
      (walk-beside v.slab.slots u.slots key others_stay n.walk (lists_of n).walk
      (absent (λ (n : Node). n.walk) n.walk.chain (members (lists_of n).walk) walk.chain (λ m. out (subst (λ (t : Stored). Among key (members t.lists.walk)) was m))) walk)
      (capacity ∙ ap (λ (t : Threads). t.capacity) rest)
    where
      queue : IsChain (queue_links v.slab.slots) n.queue (lists_of n).queue
      queue = queue-beside n i s was v rest

      buffer : IsBuffer (suspect_links v.slab.slots) (marks_in v.slab.slots) n.buffer (lists_of n).marks
      buffer = buffer-beside_order n i s was v rest

      walk : IsWalk (walk_links v.slab.slots) n.walk (lists_of n).walk
      walk = walk-beside_order n i s was v rest

  pub stored-removed : stored_of removed ≡ without_cell key s
  stored-removed = both-removed.0 ∙ ap (without_cell key) was

  pub kept-removed : (node : Node) → get_or v.slab.slots key None ≡ Some node → ((m : ℕ) → entry_at h m ≡ (if node.cell.number == m then Unknown else entry_at n.holders m)) → IsKept removed
  kept-removed node was_there entries =
      let at = ap (λ (t : Threads). cell_at t.cells key) (sym rest) ∙ (cell_at-node v.slab.slots key ∙ ap (option_map (λ (n : Node). n.cell)) was_there) in
      record { chained = both-removed.1; known = subst (λ cs. AreKnown cs h) (sym cells-removed) (known-removed (lists_of n).cells n.holders i.known key node.cell at h entries) }
