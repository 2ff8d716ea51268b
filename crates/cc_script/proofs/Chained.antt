-- THE PARTS AS LISTS: what they stand for once the chains are known, and after a change of one object, of those that wait or of
-- the walk.
use Rattle.std.proofs.Common.{◌≡◌, ℕ, List, length, refl, sym, ◌∙◌, ap, subst}
use Rattle.slab.specs.Slab.{Slab}
use Rattle.cc_chain.specs.declared.chain.Chain.{Chain}
use Rattle.cc_chain.specs.Chains.{IsChain}
use Rattle.cc_chain.proofs.Chains.{chain-bounded}
use Rattle.cc_chain.proofs.Slots.{slots-below}
use Rattle.cc_walk.specs.declared.walk_list.WalkList.{WalkList}
use Rattle.cc_walk.specs.Walks.{Walk, states_of}
use Rattle.cc_walk.specs.WalkLists.{IsWalk}
use Rattle.cc_walk.proofs.WalkLists.{walk-bounded}
use Rattle.cc_script.specs.declared.links.Waiting.{Waiting}
use Rattle.cc_script.specs.declared.links.Walking.{Walking}
use Rattle.cc_script.specs.declared.parts.ScriptParts.{ScriptParts}
use Rattle.cc_script.specs.Lists.{Lists, objects_of}
use Rattle.cc_script.specs.Threads.{Thread, of_order, of_waiting, of_walk}
use Rattle.cc_script.specs.Cells.{Linked, Beside, beside, cells_of, link_of, links_in}
use Rattle.cc_script.specs.Parts.{lists_of, marking_of, walk_in, IsChained}

-- the parts are these lists, and these wait
pub record AreLists (p : ScriptParts) (l : Lists) (waiting : List ℕ) : Type 0 where
  pub lists : lists_of p ≡ l
  pub waits : (marking_of p).waiting ≡ waiting
  pub chained : IsChained p

-- the walk is this set
pub walk-is : (p : ScriptParts) (w : Walk) → IsWalk (links_in of_walk p.cells.slots) p.walk w → walk_in p ≡ w
walk-is p w walk = walk-bounded (links_in of_walk p.cells.slots) p.walk w walk (length p.cells.slots) (slots-below (link_of of_walk) p.cells.slots)

-- where the cells are those, the chains the lists, and the walk a set in which each key stands so
pub are-lists : (p : ScriptParts) (l : Lists) (waiting : List ℕ) (w : Walk) → cells_of p.cells.slots ≡ l.cells → IsChain (links_in of_order p.cells.slots) p.order l.order →
    IsChain (links_in of_waiting p.cells.slots) p.waiting waiting → IsWalk (links_in of_walk p.cells.slots) p.walk w → states_of w ≡ l.walks → AreLists p l waiting
are-lists p l waiting w cells order waits walk walks =
    let slots = p.cells.slots in
    let ordered = chain-bounded (links_in of_order slots) p.order l.order (length slots) order (slots-below (link_of of_order) slots) in
    let waited = chain-bounded (links_in of_waiting slots) p.waiting waiting (length slots) waits (slots-below (link_of of_waiting) slots) in
    let walked = walk-is p w walk in
    let states = ap states_of walked ∙ walks in
    record {
      lists = λ i. record { cells = cells i; order = ordered i; walks = states i };
      waits = waited;
      chained = record {
        order = subst (IsChain (links_in of_order slots) p.order) (sym ordered) order;
        waiting = subst (IsChain (links_in of_waiting slots) p.waiting) (sym waited) waits;
        walk = subst (IsWalk (links_in of_walk slots) p.walk) (sym walked) walk;
      };
    }

-- the slab written where no link changes
module _ (p : ScriptParts) (h : IsChained p) (cells : Slab Linked) (same : (t : Thread) → links_in t cells.slots ≡ links_in t p.cells.slots) where
  pub waiting-kept : IsChain (links_in of_waiting cells.slots) p.waiting (marking_of p).waiting
  waiting-kept = subst (λ links. IsChain links p.waiting (marking_of p).waiting) (sym (same of_waiting)) h.waiting

  pub lists-kept : AreLists (record p { cells = cells }) (record (lists_of p) { cells = cells_of cells.slots }) (marking_of p).waiting
  lists-kept = are-lists (record p { cells = cells }) (record (lists_of p) { cells = cells_of cells.slots }) (marking_of p).waiting (walk_in p) refl
      (subst (λ links. IsChain links p.order (lists_of p).order) (sym (same of_order)) h.order)
      waiting-kept
      (subst (λ links. IsWalk links p.walk (walk_in p)) (sym (same of_walk)) h.walk)
      refl

-- the list of those that wait written, and nothing else
pub lists-waiting : (p : ScriptParts) → IsChained p → (cells : Slab Linked) (chain : Chain Waiting) (waiting : List ℕ) → IsChain (links_in of_waiting cells.slots) chain waiting →
    beside of_waiting cells ≡ beside of_waiting p.cells → AreLists (record p { cells = cells; waiting = chain }) (lists_of p) waiting
lists-waiting p h cells chain waiting waits rest = are-lists (record p { cells = cells; waiting = chain }) (lists_of p) waiting (walk_in p)
    (ap (λ (b : Beside). b.cells) rest)
    (subst (λ links. IsChain links p.order (lists_of p).order) (sym (ap (λ (b : Beside). b.others of_order) rest)) h.order)
    waits
    (subst (λ links. IsWalk links p.walk (walk_in p)) (sym (ap (λ (b : Beside). b.others of_walk) rest)) h.walk)
    refl

-- the walk written, and nothing else
pub lists-walked : (p : ScriptParts) → IsChained p → (cells : Slab Linked) (walk : WalkList Walking) (w : Walk) → IsWalk (links_in of_walk cells.slots) walk w →
    beside of_walk cells ≡ beside of_walk p.cells → AreLists (record p { cells = cells; walk = walk }) (record (lists_of p) { walks = states_of w }) (marking_of p).waiting
lists-walked p h cells walk w walks rest = are-lists (record p { cells = cells; walk = walk }) (record (lists_of p) { walks = states_of w }) (marking_of p).waiting w
    (ap (λ (b : Beside). b.cells) rest)
    (subst (λ links. IsChain links p.order (lists_of p).order) (sym (ap (λ (b : Beside). b.others of_order) rest)) h.order)
    (subst (λ links. IsChain links p.waiting (marking_of p).waiting) (sym (ap (λ (b : Beside). b.others of_waiting) rest)) h.waiting)
    walks
    refl

-- the objects, and those that wait to be looked into
pub marking-is : (p : ScriptParts) (l : Lists) (waiting : List ℕ) → AreLists p l waiting → marking_of p ≡ record { objects = objects_of l; waiting = waiting }
marking-is p l waiting a = λ i. record { objects = objects_of (a.lists i); waiting = a.waits i }
