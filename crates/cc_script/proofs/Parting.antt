-- AN OBJECT TAKEN OUT of a walk, of the order, and then out of the slab, while none waits.
use Rattle.std.proofs.Common.{◌≡◌, ℕ, [], Some, None, set, refl, sym, ◌∙◌, ap, subst}
use Rattle.std.specs.Prelude.{◌==◌}
use Rattle.slab.specs.Slab.{Slab, Updates, get}
use Rattle.cc_lists.specs.Members.{Among, without}
use Rattle.cc_names.specs.declared.kind.Walked.TheVariants.{Out}
use Rattle.cc_chain.specs.declared.chain.Chain.{Chain}
use Rattle.cc_chain.specs.Chains.{IsChain}
use Rattle.cc_chain.proofs.Rows.{without-leaves}
use Rattle.cc_chain.proofs.Slots.{parts-set, chain-left}
use Rattle.cc_walk.specs.declared.walk_list.WalkList.{WalkList}
use Rattle.cc_walk.specs.Walks.{members, without_member}
use Rattle.cc_walk.specs.WalkLists.{IsWalk}
use Rattle.cc_walk.proofs.Sets.{member-left, states-without}
use Rattle.cc_script.specs.declared.links.Order.{Order}
use Rattle.cc_script.specs.declared.links.Walking.{Walking}
use Rattle.cc_script.specs.declared.parts.ScriptParts.{ScriptParts}
use Rattle.cc_script.specs.Lists.{taken_out, with_walk}
use Rattle.cc_script.specs.Threads.{of_order, of_waiting, of_walk}
use Rattle.cc_script.specs.Cells.{Linked, Beside, beside, cells_of, link_of, links_in}
use Rattle.cc_script.specs.Parts.{lists_of, marking_of, walk_in, IsChained}
use Rattle.cc_script.proofs.Chained.{AreLists, are-lists}

-- it has left the walk
module _ (p : ScriptParts) (h : IsChained p) (key : ℕ) (first : Slab Linked) (walk : WalkList Walking) (left : IsWalk (links_in of_walk first.slots) walk (without_member key (walk_in p)))
    (kept : beside of_walk first ≡ beside of_walk p.cells) where
  pub order-parted : IsChain (links_in of_order first.slots) p.order (lists_of p).order
  order-parted = subst (λ links. IsChain links p.order (lists_of p).order) (sym (ap (λ (b : Beside). b.others of_order) kept)) h.order

  -- and leaves the order and the slab
  pub lists-parted : (marking_of p).waiting ≡ [] → (mid : Slab Linked) (order : Chain Order) →
      IsChain (links_in of_order mid.slots) order (without ◌==◌ key (lists_of p).order) → beside of_order mid ≡ beside of_order first →
      (cells : Slab Linked) (x : Linked) → get mid key ≡ Some x → cells.slots ≡ set mid.slots key None → Updates mid cells key None →
      AreLists (record p { cells = cells; order = order; walk = walk }) (taken_out (with_walk (lists_of p) key Out) key) (marking_of p).waiting
  lists-parted idle mid order unlinked rest cells x at slots updates =
      are-lists (record p { cells = cells; order = order; walk = walk }) (taken_out (with_walk (lists_of p) key Out) key) (marking_of p).waiting (without_member key (walk_in p))
      (ap cells_of slots ∙ (parts-set (λ (c : Linked). c.placed) mid.slots key None ∙ ap (λ cs. set cs key None) (ap (λ (b : Beside). b.cells) rest ∙ ap (λ (b : Beside). b.cells) kept)))
      (chain-left (link_of of_order) mid.slots cells.slots order (without ◌==◌ key (lists_of p).order) unlinked
      key x (without-leaves key (lists_of p).order) at updates.changed updates.others)
      (chain-left (link_of of_waiting) mid.slots cells.slots p.waiting (marking_of p).waiting
      (subst (λ links. IsChain links p.waiting (marking_of p).waiting) (sym (ap (λ (b : Beside). b.others of_waiting) rest ∙ ap (λ (b : Beside). b.others of_waiting) kept)) h.waiting)
      key x (λ m. subst (Among key) idle m) at updates.changed updates.others)
      (record {
        chain = chain-left (link_of of_walk) mid.slots cells.slots walk.chain (members (without_member key (walk_in p)))
            (subst (λ links. IsChain links walk.chain (members (without_member key (walk_in p)))) (sym (ap (λ (b : Beside). b.others of_walk) rest)) left.chain)
            key x (λ m. (member-left key (walk_in p) key m).1 refl) at updates.changed updates.others;
        next = left.next;
      })
      (states-without key (walk_in p))
