use Rattle.std.proofs.Common.{◌≡◌, ◌≢◌, ℕ, [], ◌∷◌, ◌++◌, List, Option, Some, is_some, refl, ap, sym, subst, ◌∙◌, inl, true}
use Rattle.cc_lists.specs.Members.{Among}
use Rattle.cc_walk.specs.Walks.{members, without_member}
use Rattle.cc_walk.proofs.Sets.{member-left}
use Rattle.cc_purple.specs.Marks.{Marked}
use Rattle.cc_names.specs.Names.{native}
use Rattle.cc_model.specs.declared.item.Event.TheVariants.{Freed}
use Rattle.cc_model.specs.declared.item.Item.TheVariants.{Event as of_event}
use Rattle.cc_model.specs.Telling.{Tells}
use Rattle.cc_laws_heap.specs.Balance.{IsBalanced}
use Rattle.cc_counted.specs.declared.held.Held.{Held}
use Rattle.cc_counted.specs.Counts.{is_live}
use Rattle.cc_counted.specs.Lists.{Placed, Lists, cell_at, keyed, numbers_in, draining_of, IsPlaced, with_front, taken_out}
use Rattle.cc_counted.specs.Stored.{Stored, with_walk, without_cell}
use Rattle.cc_counted.specs.Steps.{GivesUp}
use Rattle.cc_counted.proofs.TakingOut.{not_behind, not_marked}
use Rattle.cc_counted.proofs.Freeing.{freed-placed, freed-live, freed-balanced, FreesFront-freed}
use Rattle.cc_counted.proofs.natives.Natives.free.Goals as goal

-- the front is that of a native
front-there : (l : Lists) (key : ℕ) → IsPlaced (with_front key l) → (c : Placed) × (cell_at l.cells key ≡ Some c)
front-there l key p = p.queued key (inl refl)

-- the lists with the native in front taken out
left-lists : (s mid new : Stored) (key : ℕ) → mid ≡ with_walk (without_member key) s → new ≡ without_cell key mid → taken_out (with_front key s.lists) key s.lists.queue ≡ new.lists
left-lists s mid new key e f = sym (ap (λ (t : Stored). t.lists) (f ∙ ap (without_cell key) e))

-- what is there once the native left the walk was there
taken : (s mid : Stored) (key : ℕ) (c : Placed) → mid ≡ with_walk (without_member key) s → cell_at mid.lists.cells key ≡ Some c → cell_at s.lists.cells key ≡ Some c
taken s mid key c e at = subst (λ (t : Stored). cell_at t.lists.cells key ≡ Some c) e at

pub walk_leave-requires : goal.walk_leave-requires
walk_leave-requires g c =
    let f = front-there c.args.self.now.lists c.args.key.0 c.requires.placed in
    ap (λ (o : Option Placed). is_some o) f.1

pub remove-cell-requires-clause-live : goal.remove-cell-requires-clause-live
remove-cell-requires-clause-live g c =
    let f = front-there c.args.self.now.lists c.args.key.0 c.requires.placed in
    subst (λ (t : Stored). is_some (cell_at t.lists.cells c.args.key.0) ≡ true) (sym c.walk_leave.ensures) (ap (λ (o : Option Placed). is_some o) f.1)

pub remove-cell-requires-clause-order : goal.remove-cell-requires-clause-order
remove-cell-requires-clause-order g c =
    let f = front-there c.args.self.now.lists c.args.key.0 c.requires.placed in
    subst (λ (t : Stored). Among c.args.key.0 t.lists.order) (sym c.walk_leave.ensures) (c.requires.placed.ordered c.args.key.0 f.0 f.1)

pub remove-cell-requires-clause-queue : goal.remove-cell-requires-clause-queue
remove-cell-requires-clause-queue g c m =
    let l = c.args.self.now.lists in
    let key = c.args.key.0 in
    let (owned, balance) = c.requires.balanced in
    let f = front-there l key c.requires.placed in
    not_behind owned (with_front key l) [] c.requires.placed balance key l.queue f.0 f.1 refl key
    (subst (λ (t : Stored). Among key t.lists.queue) c.walk_leave.ensures m) refl

pub remove-cell-requires-clause-buffer : goal.remove-cell-requires-clause-buffer
remove-cell-requires-clause-buffer g c =
    let l = c.args.self.now.lists in
    let key = c.args.key.0 in
    let (owned, balance) = c.requires.balanced in
    let f = front-there l key c.requires.placed in
    subst (λ (t : Stored). (m : Marked) → Among m t.lists.marks → m.key ≢ key) (sym c.walk_leave.ensures)
    (not_marked owned (with_front key l) [] c.requires.placed balance key l.queue f.0 f.1 refl)

pub remove-cell-requires-clause-walk : goal.remove-cell-requires-clause-walk
remove-cell-requires-clause-walk g c m =
    let key = c.args.key.0 in
    (member-left key c.args.self.now.lists.walk key (subst (λ (t : Stored). Among key (members t.lists.walk)) c.walk_leave.ensures m)).1 refl

pub give_up_each-requires-clause-placed : goal.give_up_each-requires-clause-placed
give_up_each-requires-clause-placed g c =
    let s = c.args.self.now in
    let key = c.args.key.0 in
    let (owned, balance) = c.requires.balanced in
    subst IsPlaced (left-lists s c.walk_leave.new.self c.remove-cell.new.self key c.walk_leave.ensures c.remove-cell.ensures.lists)
    (freed-placed (with_front key s.lists) c.requires.placed owned balance key s.lists.queue c.remove-cell.result (taken s c.walk_leave.new.self key c.remove-cell.result c.walk_leave.ensures c.remove-cell.ensures.value) refl)

pub give_up_each-requires-clause-live : goal.give_up_each-requires-clause-live
give_up_each-requires-clause-live g c x m =
    let s = c.args.self.now in
    let key = c.args.key.0 in
    let (owned, balance) = c.requires.balanced in
    let slots = c.as_slice.ensures.value ∙ ap (λ (p : Placed). p.slots) c.cell.view_is in
    subst (λ (n : Lists). is_live (keyed n.cells) x ≡ true) (left-lists s c.walk_leave.new.self c.remove-cell.new.self key c.walk_leave.ensures c.remove-cell.ensures.lists)
    (freed-live (with_front key s.lists) c.requires.placed owned balance key s.lists.queue c.remove-cell.result (taken s c.walk_leave.new.self key c.remove-cell.result c.walk_leave.ensures c.remove-cell.ensures.value) refl
    x (subst (λ xs. Among x xs) slots m))

pub give_up_each-requires-clause-balanced : goal.give_up_each-requires-clause-balanced
give_up_each-requires-clause-balanced g c =
    let s = c.args.self.now in
    let key = c.args.key.0 in
    let (owned, balance) = c.requires.balanced in
    let slots = c.as_slice.ensures.value ∙ ap (λ (p : Placed). p.slots) c.cell.view_is in
    let left : Lists = taken_out (with_front key s.lists) key s.lists.queue in
    let P : Lists → Type 0 = λ after. IsBalanced (numbers_in (keyed after.cells) c.as_slice.result.now ++ owned) (draining_of after []) in
    let Q : List (Option Held) → Type 0 = λ xs. IsBalanced (numbers_in (keyed left.cells) xs ++ owned) (draining_of left []) in (
      owned,
      subst P (left-lists s c.walk_leave.new.self c.remove-cell.new.self key c.walk_leave.ensures c.remove-cell.ensures.lists)
          (subst Q (sym slots)
          (freed-balanced (with_front key s.lists) c.requires.placed owned balance key s.lists.queue c.remove-cell.result (taken s c.walk_leave.new.self key c.remove-cell.result c.walk_leave.ensures c.remove-cell.ensures.value) refl)),
    )

pub returns : goal.returns
returns g c =
    let s = c.args.self.now in
    let key = c.args.key.0 in
    let (owned, balance) = c.requires.balanced in
    let slots = c.as_slice.ensures.value ∙ ap (λ (p : Placed). p.slots) c.cell.view_is in
    let left : Lists = taken_out (with_front key s.lists) key s.lists.queue in
    let after = c.give_up_each.new.self.lists in
    let P : Lists → Type 0 = λ before. GivesUp before after (numbers_in (keyed before.cells) c.as_slice.result.now) in
    let Q : List (Option Held) → Type 0 = λ xs. GivesUp left after (numbers_in (keyed left.cells) xs) in
    let T : Placed → Type 0 = λ p. Tells (g.N.Notices.telling c.args.out.now) (g.N.Notices.telling c.tell.new.self) (of_event (Freed (native p.number)) ∷ []) in
    FreesFront-freed (with_front key s.lists) c.requires.placed owned balance key s.lists.queue c.remove-cell.result (taken s c.walk_leave.new.self key c.remove-cell.result c.walk_leave.ensures c.remove-cell.ensures.value) refl
    after (subst Q slots (subst P (sym (left-lists s c.walk_leave.new.self c.remove-cell.new.self key c.walk_leave.ensures c.remove-cell.ensures.lists)) c.give_up_each.ensures))
    (g.N.Notices.telling c.args.out.now) (g.N.Notices.telling c.tell.new.self) (subst T c.cell.view_is c.tell.ensures)
