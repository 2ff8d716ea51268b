-- AN OBJECT MADE in the slab, and put last in the order.
use Rattle.std.proofs.Common.{◌≡◌, ◌≢◌, ℕ, List, ◌∷◌, [], ◌++◌, Some, None, true, false, is_some, option_map, refl, sym, ◌∙◌, ap, subst}
use Rattle.std.proofs.lemmas.Bool.{false≢true}
use Rattle.slab.specs.Slab.{Slab, Updates, get}
use Rattle.cc_chain.specs.declared.chain.Chain.{Chain}
use Rattle.cc_chain.specs.Chains.{IsChain}
use Rattle.cc_chain.proofs.Chains.{chain-live}
use Rattle.cc_chain.proofs.Slots.{chain-made}
use Rattle.cc_names.specs.declared.kind.Walked.TheVariants.{Out}
use Rattle.cc_walk.specs.Walks.{members, states_of}
use Rattle.cc_walk.specs.WalkLists.{IsWalk}
use Rattle.cc_walk.proofs.Sets.{states-absent}
use Rattle.cc_script.specs.declared.links.Order.{Order}
use Rattle.cc_script.specs.declared.parts.ScriptParts.{ScriptParts}
use Rattle.cc_script.specs.Lists.{cell_at, made}
use Rattle.cc_script.specs.Threads.{Thread, of_order, of_waiting, of_walk}
use Rattle.cc_script.specs.Cells.{Linked, Beside, beside, cells_of, link_of, links_in}
use Rattle.cc_script.specs.Parts.{lists_of, marking_of, walk_in, IsChained}
use Rattle.cc_script.proofs.Linking.{cell-read, cell-vacant, cell-other}
use Rattle.cc_script.proofs.Chained.{AreLists, are-lists}

-- the slab has one object more, which is in no list
pub record IsJoined (p : ScriptParts) (mid : Slab Linked) (key : ℕ) (x : Linked) : Type 0 where
  pub vacant : get p.cells key ≡ None
  pub at : get mid key ≡ Some x
  pub others : (k : ℕ) → k ≢ key → get mid k ≡ get p.cells k
  pub free : (t : Thread) → link_of t x ≡ None

pub joined : (p : ScriptParts) (mid : Slab Linked) (key : ℕ) (x : Linked) → get p.cells key ≡ None → Updates p.cells mid key (Some x) → ((t : Thread) → link_of t x ≡ None) → IsJoined p mid key x
joined p mid key x vacant updates free = record { vacant = vacant; at = updates.changed; others = updates.others; free = free }

module _ (p : ScriptParts) (h : IsChained p) (mid : Slab Linked) (key : ℕ) (x : Linked) (j : IsJoined p mid key x) where
  -- each list is what it was
  chain-joined : {R : Type 0} (t : Thread) (chain : Chain R) (keys : List ℕ) → IsChain (links_in t p.cells.slots) chain keys → IsChain (links_in t mid.slots) chain keys
  chain-joined t chain keys c = chain-made (link_of t) p.cells.slots mid.slots chain keys c key x (j.free t) j.vacant j.at j.others

  pub order-joined : IsChain (links_in of_order mid.slots) p.order (lists_of p).order
  order-joined = chain-joined of_order p.order (lists_of p).order h.order

  -- the object is one more
  pub vacant-joined : cell_at (lists_of p).cells key ≡ None
  vacant-joined = cell-vacant p.cells.slots key j.vacant

  pub at-joined : cell_at (cells_of mid.slots) key ≡ Some x.placed
  at-joined = cell-read mid.slots key x j.at

  pub others-joined : (k : ℕ) → k ≢ key → cell_at (cells_of mid.slots) k ≡ cell_at (lists_of p).cells k
  others-joined k o = cell-other p.cells.slots mid.slots k (j.others k o)

  -- it is in no walk
  pub out-joined : states_of (walk_in p) key ≡ Out
  out-joined = states-absent (walk_in p) key
      (λ m. let bad : false ≡ true = sym (ap (λ o. is_some (option_map (link_of of_walk) o)) j.vacant) ∙ chain-live (links_in of_walk p.cells.slots) p.walk.chain (members (walk_in p)) h.walk.chain key m in
      absurd (false≢true bad))

  -- and it goes last
  pub lists-joined : (cells : Slab Linked) (order : Chain Order) → IsChain (links_in of_order cells.slots) order ((lists_of p).order ++ key ∷ []) →
      beside of_order cells ≡ beside of_order mid →
      AreLists (record p { cells = cells; order = order }) (made (lists_of p) (cells_of mid.slots) key) (marking_of p).waiting
  lists-joined cells order pushed rest = are-lists (record p { cells = cells; order = order }) (made (lists_of p) (cells_of mid.slots) key) (marking_of p).waiting (walk_in p)
      (ap (λ (b : Beside). b.cells) rest)
      pushed
      (subst (λ links. IsChain links p.waiting (marking_of p).waiting) (sym (ap (λ (b : Beside). b.others of_waiting) rest))
      (chain-joined of_waiting p.waiting (marking_of p).waiting h.waiting))
      (subst (λ links. IsWalk links p.walk (walk_in p)) (sym (ap (λ (b : Beside). b.others of_walk) rest))
      (record { chain = chain-joined of_walk p.walk.chain (members (walk_in p)) h.walk.chain; next = h.walk.next }))
      refl
