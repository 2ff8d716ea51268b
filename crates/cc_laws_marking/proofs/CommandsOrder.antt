-- THE LISTS OF A MARKING ARE IN ORDER from its begin on, whatever commands come between.
use Rattle.std.proofs.Common.{arith, ℕ, ◌≤◌, not, List, [], ◌++◌, Option, Some, None, sym, subst, count_by}
use Rattle.std.specs.Prelude.{IsTrue}
use Rattle.cc_lists.specs.Members.{Among, has}
use Rattle.cc_lists.proofs.Filtering.{count_by-filter-le}
use Rattle.cc_lists.proofs.OnceEach.{with_all_last-once}
use Rattle.cc_names.specs.declared.name.Name.{Name}
use Rattle.cc_names.specs.Names.{same_name}
use Rattle.cc_names.proofs.NameTests.{same_name-exact}
use Rattle.cc_lists.specs.Least.{closure}
use Rattle.cc_model.specs.declared.command.Command.{Command}
use Rattle.cc_model.specs.Slots.{contents}
use Rattle.cc_model.specs.Deeds.{deed_of}
use Rattle.cc_model.specs.Ranges.{in_range}
use Rattle.cc_model.specs.Heap.{Heap, objects_of}
use Rattle.cc_model.specs.Effects.{effects}
use Rattle.cc_model.specs.WellFormed.{script_names}
use Rattle.cc_model.specs.Colours.{scripts_held}
use Rattle.cc_model.specs.Marking.{NewMarks, without_all, each_once, registered, begun_marks, blackened_by_mark, exposure_rules_by_mark, exposed_marks, exposed_by, marking_after}
use Rattle.cc_laws_heap.specs.Sound.{IsSound}
use Rattle.cc_laws_heap.specs.UnderMarking.{IsUnderMarking}
use Rattle.cc_laws_heap.proofs.Taken.{IsTaken}
use Rattle.cc_laws_heap.proofs.Raising.{Raises-exposed}
use Rattle.cc_laws_marking.specs.Lists.{AreInOrderOf, HasListsInOrder}
use Rattle.cc_laws_marking.proofs.InOrder.{AreInOrderOf-part, AreInOrderOf-own, AreInOrderOf-more}
use Rattle.cc_laws_marking.proofs.Grown.{HasMore, effects-grow}

-- a list of each name once has each name once
once-each : (names : List Name) (x : Name) → count_by (same_name x) (each_once names) ≤ 1
once-each names x = with_all_last-once same_name same_name-exact [] names x (omega arith)

-- names left out of a list leave it in order
left-in_order : (names others xs : List Name) → AreInOrderOf names xs → AreInOrderOf names (without_all others xs)
left-in_order names others xs = AreInOrderOf-part names (λ y. not (has same_name others y)) xs

-- names left out of a list leave each other name as often
left-once : (others xs : List Name) → ((x : Name) → count_by (same_name x) xs ≤ 1) → (x : Name) → count_by (same_name x) (without_all others xs) ≤ 1
left-once others xs once x = omega (arith, count_by-filter-le (same_name x) (λ y. not (has same_name others y)) xs, once x)

-- A MARKING BEGINS WITH LISTS IN ORDER.
pub HasListsInOrder-begun : (h : Heap) → HasListsInOrder h (begun_marks h)
unfolding begun_marks
HasListsInOrder-begun h = record {
  unmarked = left-in_order (script_names h) (registered h ++ without_all (registered h) (each_once (scripts_held h))) (script_names h) (AreInOrderOf-own (script_names h));
  unblack = left-in_order (script_names h) (registered h) (script_names h) (AreInOrderOf-own (script_names h));
  black_list = once-each (contents h.script_registers);
  gray_list = left-once (registered h) (each_once (scripts_held h)) (once-each (scripts_held h));
}

-- names that are made black leave the lists in order
HasListsInOrder-blackened : (h : Heap) (m : NewMarks) (names : List Name) → HasListsInOrder h m → HasListsInOrder h (blackened_by_mark m names)
HasListsInOrder-blackened h m names l = record {
  unmarked = left-in_order (script_names h) names m.unmarked l.unmarked;
  unblack = left-in_order (script_names h) names m.unblack l.unblack;
  black_list = l.black_list;
  gray_list = left-once names m.gray_list l.gray_list;
}

-- an exposure leaves the lists in order
HasListsInOrder-exposed : (h : Heap) (x : Option Name) (m : NewMarks) → HasListsInOrder h m → HasListsInOrder h (exposed_marks h x m)
unfolding exposed_marks
HasListsInOrder-exposed h None m l = l
HasListsInOrder-exposed h (Some x) m l = HasListsInOrder-blackened h m (closure same_name (exposure_rules_by_mark h m x)) l

-- script objects that come last have no new mark to get
HasListsInOrder-more : (h g : Heap) (m : NewMarks) → HasMore (script_names h) (script_names g) → ((x : Name) → Among x m.unmarked → Among x (script_names h)) →
    ((x : Name) → Among x m.unblack → Among x (script_names h)) → HasListsInOrder h m → HasListsInOrder g m
HasListsInOrder-more h g m more unmarked unblack l = record {
  unmarked = subst (λ names. AreInOrderOf names m.unmarked) (sym more.whole)
      (AreInOrderOf-more (script_names h) more.more m.unmarked (λ x i u. more.others x i (unmarked x u)) l.unmarked);
  unblack = subst (λ names. AreInOrderOf names m.unblack) (sym more.whole)
      (AreInOrderOf-more (script_names h) more.more m.unblack (λ x i u. more.others x i (unblack x u)) l.unblack);
  black_list = l.black_list;
  gray_list = l.gray_list;
}

-- A COMMAND THAT IS NOT REFUSED KEEPS THE LISTS IN ORDER.
pub HasListsInOrder-command : {owned : List ℕ} (h : Heap) (m : NewMarks) (c : Command) → IsSound owned h → IsUnderMarking h m → HasListsInOrder h m →
    IsTrue (in_range c) → IsTaken (objects_of h) c → HasListsInOrder (effects h c).heap (marking_after h (deed_of (objects_of h) c) m)
HasListsInOrder-command h m c s u l r t =
    let e : Option Name = exposed_by h (deed_of (objects_of h) c) in
    let raised = Raises-exposed h e m in
    HasListsInOrder-more h (effects h c).heap (exposed_marks h e m) (effects-grow h c s r t).names
    (λ x i. u.there x (u.within x (raised.unmarked x i))) (λ x i. u.there x (raised.unblack x i))
    (HasListsInOrder-exposed h e m l)
