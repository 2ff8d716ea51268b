-- WHAT A WRITE TO A NODE LEAVES of the natives, the links and the marks.
use Rattle.std.proofs.Common.{◌≡◌, ◌≢◌, ℕ, Bool, true, false, zero, suc, List, [], ◌∷◌, Option, Some, None, option_map, is_some, get_or, refl, sym, ◌∙◌, ap}
use Rattle.std.specs.Prelude.{IsTrue}
use Rattle.std.specs.Option.{option_flatten, unwrap_or}
use Rattle.std.proofs.Math.ListN.{set, get_or-map}
use Rattle.std.proofs.Math.Seq.{map-set_same}
use Rattle.std.proofs.lemmas.List.{map-set}
use Rattle.cc_chain.specs.declared.link.Link.{Link}
use Rattle.cc_chain.specs.declared.chain.Chain.{Chain}
use Rattle.cc_chain.specs.Links.{Links}
use Rattle.cc_chain.specs.Chains.{IsChain}
use Rattle.cc_chain.specs.Stores.{slot_at}
use Rattle.cc_chain.proofs.Links.{SameLinks-at}
use Rattle.cc_chain.proofs.Stores.{slot_at-kept}
use Rattle.cc_chain.proofs.Chains.{chain-kept}
use Rattle.cc_walk.specs.declared.walk_list.WalkList.{WalkList}
use Rattle.cc_walk.specs.Walks.{Walk, members}
use Rattle.cc_walk.specs.WalkLists.{IsWalk}
use Rattle.cc_purple.specs.declared.buffer.Buffer.{Buffer}
use Rattle.cc_purple.specs.Stores.{Marks}
use Rattle.cc_purple.specs.Marks.{Marked, holds_key}
use Rattle.cc_purple.specs.Buffers.{IsBuffer}
use Rattle.cc_counted.specs.declared.node.Node.{Node}
use Rattle.cc_counted.specs.Lists.{Placed, cell_at}
use Rattle.cc_counted.specs.Nodes.{Threads, cells_of, suspect_links, walk_links, marks_in}

-- what is read is the same where each part is
pub threads-same : (c d : List (Option Placed)) (o p q r s t u v : Links) (m n : Marks) (k : ℕ) → c ≡ d → o ≡ p → q ≡ r → s ≡ t → u ≡ v → m ≡ n →
    ◌≡◌ {A = Threads} (record { cells = c; order = o; queue = q; suspects = s; walk = u; marks = m; capacity = k })
    (record { cells = d; order = p; queue = r; suspects = t; walk = v; marks = n; capacity = k })
threads-same c d o p q r s t u v m n k e f g h w i = rw (e, f, g, h, w, i) refl

-- the native at a key
pub cell_at-node : (slots : List (Option Node)) (key : ℕ) → cell_at (cells_of slots) key ≡ option_map (λ (n : Node). n.cell) (get_or slots key None)
cell_at-node slots key = get_or-map (option_map (λ (n : Node). n.cell)) slots key None

-- where a native stands, a node does
pub node-there : (slots : List (Option Node)) (key : ℕ) → is_some (cell_at (cells_of slots) key) ≡ true → (n : Node) × (get_or slots key None ≡ Some n) × (cell_at (cells_of slots) key ≡ Some n.cell)
node-there slots key live = go (get_or slots key None) refl
  where
    go : (o : Option Node) → get_or slots key None ≡ o → (n : Node) × (get_or slots key None ≡ Some n) × (cell_at (cells_of slots) key ≡ Some n.cell)
    go None e = let bad : false ≡ true = sym (ap is_some (cell_at-node slots key ∙ ap (option_map (λ (n : Node). n.cell)) e)) ∙ live in absurd (cc)
    go (Some n) e = (n, e, cell_at-node slots key ∙ ap (option_map (λ (n : Node). n.cell)) e)

-- so its key is live in each list
pub live-part : {Y : Type 0} (part : Node → Y) (slots : List (Option Node)) (key : ℕ) → is_some (cell_at (cells_of slots) key) ≡ true → IsTrue (is_some (slot_at part slots key))
live-part part slots key live = let f = node-there slots key live in ap (λ o. is_some (option_map part o)) f.1

module _ (slots : List (Option Node)) (key : ℕ) (n m : Node) (at : get_or slots key None ≡ Some n) where
  pub cells-written : cells_of (set slots key (Some m)) ≡ set (cells_of slots) key (Some m.cell)
  cells-written = map-set (option_map (λ (n : Node). n.cell)) slots key (Some m)

  pub cells-kept : m.cell ≡ n.cell → cells_of (set slots key (Some m)) ≡ cells_of slots
  cells-kept same = map-set_same (option_map (λ (n : Node). n.cell)) slots key (Some m) None (ap Some same ∙ sym (ap (option_map (λ (n : Node). n.cell)) at))

  pub links-kept : (part : Node → Option Link) → part m ≡ part n → slot_at part (set slots key (Some m)) ≡ slot_at part slots
  links-kept part same = slot_at-kept part slots key m n at same

  pub marks-kept : m.purple ≡ n.purple → marks_in (set slots key (Some m)) ≡ marks_in slots
  marks-kept same = ap {B = Marks} (λ (f : ℕ → Option Bool) k. unwrap_or (f k) false) (slot_at-kept (λ (n : Node). n.purple) slots key m n at same)

-- a native that goes
pub cells-gone : (slots : List (Option Node)) (key : ℕ) → cells_of (set slots key None) ≡ set (cells_of slots) key None
cells-gone slots key = map-set (option_map (λ (n : Node). n.cell)) slots key None

-- A native comes or goes whose key is in no list.
module _ (slots after : List (Option Node)) (key : ℕ) (others : (k : ℕ) → k ≢ key → get_or after k None ≡ get_or slots k None) where
  pub chain-beside : {R : Type 0} (part : Node → Option Link) (chain : Chain R) (keys : List ℕ) →
      option_flatten (slot_at part after key) ≡ option_flatten (slot_at part slots key) → IsChain (slot_at part slots) chain keys → IsChain (slot_at part after) chain keys
  chain-beside part chain keys same c = chain-kept (slot_at part slots) (slot_at part after) chain keys
      (SameLinks-at (slot_at part slots) (slot_at part after) key same (λ k o. ap (option_map part) (others k o))) c

  pub walk-beside : {R : Type 0} (list : WalkList R) (w : Walk) → option_flatten (walk_links after key) ≡ option_flatten (walk_links slots key) →
      IsWalk (walk_links slots) list w → IsWalk (walk_links after) list w
  walk-beside list w same i = record { chain = chain-beside (λ (n : Node). n.walk) list.chain (members w) same i.chain; next = i.next }

  pub buffer-beside : (buffer : Buffer) (ms : List Marked) → option_flatten (suspect_links after key) ≡ option_flatten (suspect_links slots key) →
      ((j : ℕ) → holds_key ms j ≡ true → j ≢ key) → IsBuffer (suspect_links slots) (marks_in slots) buffer ms → IsBuffer (suspect_links after) (marks_in after) buffer ms
  buffer-beside buffer ms same absent b = record {
    keys = chain-beside (λ (n : Node). n.suspects) buffer.keys _ same b.keys;
    agree = λ j h. ap (λ o. unwrap_or (option_map (λ (n : Node). n.purple) o) false) (others j (absent j h)) ∙ b.agree j h;
  }

-- a key of a vacant slot is in no list
pub vacated : {X : Type 0} (slots : List (Option X)) (key : ℕ) → get_or (set slots key None) key None ≡ None
vacated [] key = refl
vacated (x ∷ slots) zero = refl
vacated (x ∷ slots) (suc key) = vacated slots key
