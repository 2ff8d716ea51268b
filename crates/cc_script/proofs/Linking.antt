-- THE SLAB WRITTEN at a key: the object or a link there changes, and all else stays.
use Rattle.std.proofs.Common.{◌≡◌, ℕ, Bool, true, false, List, Option, Some, None, option_map, is_some, set, refl, sym, ◌∙◌, ap}
use Rattle.std.specs.Prelude.{slice_index_or}
use Rattle.std.proofs.Math.Path.{fun_ext}
use Rattle.std.proofs.lemmas.Bool.{true≢false}
use Rattle.slab.specs.Slab.{Slab, get}
use Rattle.cc_chain.specs.declared.link.Link.{Link}
use Rattle.cc_chain.specs.Links.{with_link}
use Rattle.cc_chain.proofs.Stores.{slot_at-kept, slot_at-live, slot_at-set}
use Rattle.cc_chain.proofs.Slots.{parts-read, parts-set, parts-kept, parts-held}
use Rattle.cc_script.specs.Lists.{Placed, cell_at}
use Rattle.cc_script.specs.Threads.{Thread, of_order, of_waiting, of_walk, same_thread, threaded}
use Rattle.cc_script.specs.Cells.{Linked, Changes, beside, cells_of, link_of, links_in, unless}

abbrev object_in : Linked → Placed
object_in c = c.placed

-- what stands at a key
pub cell-read : (slots : List (Option Linked)) (key : ℕ) (x : Linked) → slice_index_or slots key None ≡ Some x → cell_at (cells_of slots) key ≡ Some x.placed
cell-read slots key x e = parts-read object_in slots key ∙ ap (option_map object_in) e

pub cell-vacant : (slots : List (Option Linked)) (key : ℕ) → slice_index_or slots key None ≡ None → cell_at (cells_of slots) key ≡ None
cell-vacant slots key e = parts-read object_in slots key ∙ ap (option_map object_in) e

pub cell-other : (slots new : List (Option Linked)) (key : ℕ) → slice_index_or new key None ≡ slice_index_or slots key None → cell_at (cells_of new) key ≡ cell_at (cells_of slots) key
cell-other slots new key e = parts-read object_in new key ∙ (ap (option_map object_in) e ∙ sym (parts-read object_in slots key))

pub cell-held : (slots : List (Option Linked)) (key : ℕ) → is_some (cell_at (cells_of slots) key) ≡ true → is_some (slice_index_or slots key None) ≡ true
cell-held slots key e = sym (parts-held object_in slots key) ∙ e

-- an object changed that keeps its links
pub changes-written : (s : Slab Linked) (key : ℕ) (x y : Linked) (change : Placed → Placed) → get s key ≡ Some x → y.placed ≡ change x.placed → ((t : Thread) → link_of t y ≡ link_of t x) →
    Changes s (record s { slots = set s.slots key (Some y) }) key change
changes-written s key x y change at e links = record {
  cells = parts-set object_in s.slots key (Some y)
      ∙ (ap (λ c. set (cells_of s.slots) key (Some c)) e ∙ ap (λ o. set (cells_of s.slots) key (option_map change o)) (sym (cell-read s.slots key x at)));
  links = λ t. slot_at-kept (link_of t) s.slots key y x at (links t);
  capacity = refl;
}

-- THE LINK OF ONE LIST at a key written, and nothing else
pub record Relinks (t : Thread) (key : ℕ) (link : Option Link) (old new : Slab Linked) : Type 0 where
  pub links : links_in t new.slots ≡ with_link (links_in t old.slots) key link
  pub rest : beside t new ≡ beside t old

beside-same : (t : Thread) (old new : Slab Linked) → cells_of new.slots ≡ cells_of old.slots →
    ((u : Thread) → same_thread t u ≡ false → links_in u new.slots ≡ links_in u old.slots) → new.capacity ≡ old.capacity → beside t new ≡ beside t old
beside-same t old new cells links capacity = λ i. record { cells = cells i; others = fun_ext (λ u. go u (same_thread t u) refl) i; capacity = capacity i }
  where
    go : (u : Thread) (b : Bool) → same_thread t u ≡ b → unless b (links_in u new.slots) ≡ unless b (links_in u old.slots)
    go u true e = refl
    go u false e = links u e

pub relinks-written : (s : Slab Linked) (t : Thread) (key : ℕ) (x y : Linked) (link : Option Link) → get s key ≡ Some x → y.placed ≡ x.placed → link_of t y ≡ link →
    ((u : Thread) → same_thread t u ≡ false → link_of u y ≡ link_of u x) → Relinks t key link s (record s { slots = set s.slots key (Some y) })
relinks-written s t key x y link at placed here others = record {
  links = slot_at-set (link_of t) s.slots key y (slot_at-live (link_of t) s.slots key (ap (λ o. is_some (option_map (link_of t) o)) at))
      ∙ ap (with_link (links_in t s.slots) key) here;
  rest = beside-same t s (record s { slots = set s.slots key (Some y) }) (parts-kept object_in s.slots key y x at placed)
      (λ u other. slot_at-kept (link_of u) s.slots key y x at (others u other)) refl;
}

-- the links of the other lists stay
pub threaded-order : (order before waiting walk : Option Link) (u : Thread) → same_thread of_order u ≡ false → threaded order waiting walk u ≡ threaded before waiting walk u
threaded-order order before waiting walk of_order e = absurd (true≢false e)
threaded-order order before waiting walk of_waiting e = refl
threaded-order order before waiting walk of_walk e = refl

pub threaded-waiting : (order waiting before walk : Option Link) (u : Thread) → same_thread of_waiting u ≡ false → threaded order waiting walk u ≡ threaded order before walk u
threaded-waiting order waiting before walk of_order e = refl
threaded-waiting order waiting before walk of_waiting e = absurd (true≢false e)
threaded-waiting order waiting before walk of_walk e = refl

pub threaded-walk : (order waiting walk before : Option Link) (u : Thread) → same_thread of_walk u ≡ false → threaded order waiting walk u ≡ threaded order waiting before u
threaded-walk order waiting walk before of_order e = refl
threaded-walk order waiting walk before of_waiting e = refl
threaded-walk order waiting walk before of_walk e = absurd (true≢false e)

-- in no list
pub threaded-none : (order waiting walk : Option Link) → order ≡ None → waiting ≡ None → walk ≡ None → (t : Thread) → threaded order waiting walk t ≡ None
threaded-none order waiting walk unordered idle out of_order = unordered
threaded-none order waiting walk unordered idle out of_waiting = idle
threaded-none order waiting walk unordered idle out of_walk = out
