use Rattle.std.proofs.Common.{◌≡◌, ◌≢◌, ◌≤◌, ℕ, List, length, replicate, count_by, Option, Some, None, false, refl, ap, sym, ◌∙◌, subst, arith}
use Rattle.std.proofs.lemmas.List.{length-replicate}
use Rattle.cc_names.specs.Sizes.{most_slots}
use Rattle.slab.specs.Slab.{Slab, Updates, get}
use Rattle.cc_chain.specs.declared.link.Link.{Link}
use Rattle.cc_counted.specs.declared.held.Held.{Held}
use Rattle.cc_counted.specs.declared.node.Node.{Node}
use Rattle.cc_counted.specs.Lists.{Placed, new_placed, cell_at}
use Rattle.cc_counted.specs.Scripts.{is_script, scripts_of}
use Rattle.cc_counted.specs.Stored.{Stored, Inserts}
use Rattle.cc_counted.specs.Natives.{lists_of}
use Rattle.cc_counted.proofs.Scripts.{scripts-empty}
use Rattle.cc_counted.proofs.Threading.{inserted, kept-reserved, kept-inserted, order-inserted, inserts}
use Rattle.cc_counted.proofs.natives.Natives.insert.Goals as goal

-- what is known at the key that the slab answered, at the same key in 32 bits
vacant-at : (t : Slab Node) (answered key : ℕ) → answered ≡ key → get t answered ≡ None → get t key ≡ None
vacant-at t answered key same vacant = subst (λ k. get t k ≡ None) same vacant

-- the node that was put there, once each of its links is none
bare : (cell : Placed) (o q s w : Option Link) → o ≡ None → q ≡ None → s ≡ None → w ≡ None →
    ◌≡◌ {A = Node} (record { cell = cell; order = o; queue = q; suspects = s; walk = w; purple = false })
    (record { cell = cell; order = None; queue = None; suspects = None; walk = None; purple = false })
bare cell o q s w e f g h = rw (e, f, g, h) refl

updates-at : (t u : Slab Node) (answered key : ℕ) (node : Option Node) → answered ≡ key → Updates t u answered node → Updates t u key node
updates-at t u answered key node same updates = subst (λ k. Updates t u k node) same updates

-- its slots are few, and hold none
holds-none : (number n : ℕ) (slots : List (Option Held)) → slots ≡ replicate n None → scripts_of (record (new_placed number n) { slots = slots }) ≡ 0
holds-none number n slots e = let empty = ap (count_by is_script) e ∙ scripts-empty n in omega (arith, empty)

few-slots : (n : ℕ) (slots : List (Option Held)) → slots ≡ replicate n None → n ≤ most_slots → length slots ≤ most_slots
few-slots n slots e few = let many = ap length e ∙ length-replicate {A = Option Held} n None in omega (arith, many, few)

pub invariant_of-self : goal.invariant_of-self
invariant_of-self c = kept-reserved c.self.inside c.self.invariant _ c.self.inside.holders c.reserve.ensures.rest_kept (λ m. refl)

pub invariant_of-self-in_err-key : goal.invariant_of-self-in_err-key
invariant_of-self-in_err-key c = kept-reserved c.self.inside c.self.invariant _ c.self.inside.holders c.reserve.ensures.rest_kept (λ m. refl)

pub invariant_of-self-in_err-add : goal.invariant_of-self-in_err-add
invariant_of-self-in_err-add c = kept-reserved c.self.inside c.self.invariant _ c.add.new.self c.reserve.ensures.rest_kept c.in_err-add.ensures.err

pub push_back-requires-clause-chain : goal.push_back-requires-clause-chain
push_back-requires-clause-chain c =
    let same = c.insert_reserved.ensures.key ∙ (sym c.vacant_key.ensures.value ∙ sym c.in_ok-key.ensures.key) in
    let vacant = vacant-at c.reserve.new.self c.insert_reserved.result c.in_ok-key.key same c.insert_reserved.ensures.was_vacant in
    let made = updates-at c.reserve.new.self c.insert_reserved.new.self c.insert_reserved.result c.in_ok-key.key _ same c.insert_reserved.ensures.updates in
    let there = made.changed ∙ ap Some (bare _ c.of.result c.of-2.result c.of-3.result c.of-4.result c.of.ensures c.of-2.ensures c.of-3.ensures c.of-4.ensures) in (
      (lists_of c.self.inside).order,
      order-inserted c.self.inside c.self.invariant c.reserve.new.self c.insert_reserved.new.self c.reserve.ensures.rest_kept c.in_ok-key.key _ vacant there made.others,
    )

pub push_back-requires-clause-free : goal.push_back-requires-clause-free
push_back-requires-clause-free c = grind (arith, updates-at)

pub invariant_of-self-2 : goal.invariant_of-self-2
invariant_of-self-2 c =
    let n = c.self.inside in
    let same = c.insert_reserved.ensures.key ∙ (sym c.vacant_key.ensures.value ∙ sym c.in_ok-key.ensures.key) in
    let vacant = vacant-at c.reserve.new.self c.insert_reserved.result c.in_ok-key.key same c.insert_reserved.ensures.was_vacant in
    let made = updates-at c.reserve.new.self c.insert_reserved.new.self c.insert_reserved.result c.in_ok-key.key _ same c.insert_reserved.ensures.updates in
    let there = made.changed ∙ ap Some (bare _ c.of.result c.of-2.result c.of-3.result c.of-4.result c.of.ensures c.of-2.ensures c.of-3.ensures c.of-4.ensures) in
    kept-inserted n c.self.invariant c.reserve.new.self c.insert_reserved.new.self c.reserve.ensures.rest_kept c.in_ok-key.key _
    vacant there made.others c.push_back.new.store c.push_back.new.self c.add.new.self c.push_back.ensures.rest
    (c.push_back.ensures.keys (lists_of n).order (order-inserted n c.self.invariant c.reserve.new.self c.insert_reserved.new.self c.reserve.ensures.rest_kept c.in_ok-key.key _
    vacant there made.others))
    (subst (λ (v : Stored). (q : ℕ) (p : Placed) → cell_at v.lists.cells q ≡ Some p → p.number ≢ c.args.no.0) (sym c.self.view_is) c.requires.fresh)
    (holds-none c.args.no.0 c.args.slots _ c.in_ok-empty.ensures.items) (few-slots c.args.slots _ c.in_ok-empty.ensures.items c.requires.slots)
    c.in_ok-add.ensures.entries

pub returns-clause-inserts : goal.returns-clause-inserts
returns-clause-inserts c =
    let n = c.self.inside in
    let same = c.insert_reserved.ensures.key ∙ (sym c.vacant_key.ensures.value ∙ sym c.in_ok-key.ensures.key) in
    let vacant = vacant-at c.reserve.new.self c.insert_reserved.result c.in_ok-key.key same c.insert_reserved.ensures.was_vacant in
    let made = updates-at c.reserve.new.self c.insert_reserved.new.self c.insert_reserved.result c.in_ok-key.key _ same c.insert_reserved.ensures.updates in
    let there = made.changed ∙ ap Some (bare _ c.of.result c.of-2.result c.of-3.result c.of-4.result c.of.ensures c.of-2.ensures c.of-3.ensures c.of-4.ensures) in
    let P : List (Option Held) → Type 0 = λ slots. Inserts c.args.self.now.lists (lists_of (inserted n c.push_back.new.store c.push_back.new.self c.add.new.self)) c.in_ok-key.key
    (record (new_placed c.args.no.0 c.args.slots) { slots = slots }) in
    subst P c.in_ok-empty.ensures.items
    (inserts n c.self.invariant c.reserve.new.self c.insert_reserved.new.self c.reserve.ensures.rest_kept c.in_ok-key.key _
    vacant there made.others c.push_back.new.store c.push_back.new.self c.add.new.self c.push_back.ensures.rest
    (c.push_back.ensures.keys (lists_of n).order (order-inserted n c.self.invariant c.reserve.new.self c.insert_reserved.new.self c.reserve.ensures.rest_kept c.in_ok-key.key _
    vacant there made.others)) _ c.self.view_is)
