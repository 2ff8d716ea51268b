-- EACH COMMAND THAT IS NOT REFUSED LEAVES WHAT CAN'T BE MARKED SO, but for the reflector of a native that it wraps.
use Rattle.std.proofs.Common.{◌≡◌, ℕ, ◌&&◌, List, [], ◌∷◌, Option, Some, None, refl, sym, subst, inl, inr, ◌⊎◌, ⊎_elim, option_to_list}
use Rattle.std.specs.Prelude.{IsTrue}
use Rattle.std.specs.List.{filter}
use Rattle.cc_lists.specs.Members.{Among, has}
use Rattle.cc_lists.specs.Least.{closure}
use Rattle.cc_lists.proofs.Members.{Among-filtered, Among-left, Among_or_not}
use Rattle.cc_lists.proofs.Least.{derived-within}
use Rattle.cc_lists.proofs.Closure.{closure-derived}
use Rattle.cc_names.specs.declared.name.Name.{Name}
use Rattle.cc_names.specs.Names.{same_name}
use Rattle.cc_names.proofs.NameTests.{same_name-exact}
use Rattle.cc_model.specs.declared.command.Command.{Command}
use Rattle.cc_model.specs.Deeds.{deed_of}
use Rattle.cc_model.specs.Ranges.{in_range}
use Rattle.cc_model.specs.Slots.{contents}
use Rattle.cc_model.specs.Entries.{Entry, Joint}
use Rattle.cc_model.proofs.Joints.{Gives, its_value, its_key, joint-cases, gives-joint}
use Rattle.cc_model.specs.Heap.{Heap, objects_of}
use Rattle.cc_model.specs.Exposure.{slots_of_scripts}
use Rattle.cc_model.specs.Effects.{effects}
use Rattle.cc_model.specs.WellFormed.{script_names}
use Rattle.cc_model.specs.Marking.{NewMarks, without_all, edges_unblack, exposure_rules_by_mark, exposed_marks, exposed_by, marking_after}
use Rattle.cc_laws_heap.specs.Sound.{IsSound}
use Rattle.cc_laws_heap.specs.UnderMarking.{IsUnderMarking, IsScannedSoFar}
use Rattle.cc_laws_heap.proofs.Taken.{IsTaken}
use Rattle.cc_laws_heap.proofs.Raising.{without_all-cases, without_all-in, Raises-exposed, exposed-not_unblack}
use Rattle.cc_laws_heap.proofs.CommandsMarking.{effects-marking}
use Rattle.cc_laws_heap.proofs.EdgesBut.{effects-scanned}
use Rattle.cc_laws_marking.specs.Unmarkable.{IsUnmarkable, wrapped_by, LeadsNowhere}
use Rattle.cc_laws_marking.proofs.Grown.{IsNewEntry, effects-grow}
use Rattle.cc_laws_marking.proofs.ReadingOthers.{exposed-wrapped, wrapped-exposed}

-- what can't be marked, as marks: all else is black, and all is scanned
abbrev marks_beside : List Name → NewMarks
marks_beside them = record { unmarked = them; unblack = them; black_list = []; gray_list = [] }

-- an exposure puts nothing on the list of black ones to scan
exposed-black_list : (h : Heap) (e : Option Name) (n : NewMarks) → (exposed_marks h e n).black_list ≡ n.black_list
unfolding exposed_marks
exposed-black_list h None n = refl
exposed-black_list h (Some z) n = refl

module _ (h : Heap) (m : NewMarks) (them : List Name) (u : IsUnderMarking h m) (w : IsUnmarkable h m them) where
  -- by these marks the heaps are under marking
  beside-under : IsUnderMarking h (marks_beside them)
  beside-under = record {
    registers = λ x i t. w.registers x t i;
    held = λ x i t. w.held x t i;
    within = λ x t. t;
    there = λ x t. u.there x (u.within x (w.unmarked x t));
  }

  -- by these marks all is scanned
  beside-scanned : IsScannedSoFar h (marks_beside them)
  beside-scanned = record {
    black_on = λ x y e a b t. a (w.holders x y e t);
    gray_on = λ x y e a b d t. b a;
    black_list = λ x i. absurd i;
    gray_list = λ x i. absurd i;
  }

  module _ (e : Option Name) (shown : List Name) (other : (x : Name) → Among x (option_to_list e) → Among x them → Among x shown)
      (nowhere : (x : Name) → Among x shown → Among x them → LeadsNowhere h x) where
    -- an exposure comes to none of them but what is shown
    exposure-shown : (n : NewMarks) (z : Name) → (Some z ≡ e) → (x : Name) → Among x (closure same_name (exposure_rules_by_mark h n z)) → Among x them → Among x shown
    exposure-shown n z is x i = derived-within (filter (λ y. has same_name n.unblack y) (z ∷ [])) (edges_unblack n (slots_of_scripts h)) []
        (λ y. Among y them → Among y shown)
        (λ y r t. other y (subst (λ o. Among y (option_to_list o)) is (Among-filtered (λ v. has same_name n.unblack v) y (z ∷ []) r)) t)
        (λ a b k p t.
        let edge = Among-filtered (λ (q : Name × Name). has same_name n.unblack q.0 && has same_name n.unblack q.1) (a, b) (slots_of_scripts h) k in
        let before = w.holders a b edge t in
        absurd ((nowhere a (p before) before).edges b edge))
        (λ ps v k. absurd k)
        x (closure-derived same_name same_name-exact (exposure_rules_by_mark h n z) x i)

    -- an exposure gives no mark to the others of them
    exposure-spares : (n : NewMarks) (x : Name) → Among x them → ¬ (Among x shown) →
        (Among x n.unmarked → Among x (exposed_marks h e n).unmarked) × (Among x n.unblack → Among x (exposed_marks h e n).unblack)
    unfolding exposed_marks
    exposure-spares n x t d = go e refl
      where
        go : (o : Option Name) → o ≡ e → (Among x n.unmarked → Among x (exposed_marks h o n).unmarked) × (Among x n.unblack → Among x (exposed_marks h o n).unblack)
        go None is = (λ i. i, λ i. i)
        go (Some z) is =
            let names : List Name = closure same_name (exposure_rules_by_mark h n z) in
            let apart : ¬ (Among x names) = λ i. d (exposure-shown n z is x i t) in
            (λ i. without_all-in names n.unmarked x i apart, λ i. without_all-in names n.unblack x i apart)

    module _ (g : Heap) (named : (x : Name) → Among x shown → Among x (option_to_list e))
        (entries : (f : Entry) → Among f g.entries → Among f h.entries ⊎ IsNewEntry h f)
        (under : IsUnderMarking g (exposed_marks h e (marks_beside them))) (so_far : IsScannedSoFar g (exposed_marks h e (marks_beside them))) where
      -- what is left of them
      abbrev left : List Name
      left = without_all shown them

      -- what is left of them is not black by the marks beside them
      left-unblack : (x : Name) → Among x left → Among x (exposed_marks h e (marks_beside them)).unblack
      left-unblack x i = let c = without_all-cases shown them x i in (exposure-spares (marks_beside them) x c.0 c.1).1 c.0

      -- what is not black by the marks beside them is left
      unblack-left : (x : Name) → Among x (exposed_marks h e (marks_beside them)).unblack → Among x left
      unblack-left x i = without_all-in shown them x ((Raises-exposed h e (marks_beside them)).unblack x i)
          (λ s. exposed-not_unblack h e (marks_beside them) x (named x s) i)

      -- what is not shown is left
      member-left : (x : Name) → Among x them → ¬ (Among x shown) → Among x left
      member-left x i d = without_all-in shown them x i d

      -- an entry that leads to what is left leads from what is left
      entry-left : (f : Entry) (j : Joint) → Gives f j → Among f h.entries ⊎ IsNewEntry h f → Among j.value left → Among j.the_map left ⊎ Among j.key left
      entry-left f j gives f_cases i =
          let c = without_all-cases shown them j.value i in
          ⊎_elim
          (λ old.
          let there = gives-joint h.entries f j old gives in
          ⊎_elim
          (λ a. inl (member-left j.the_map a (λ s. ((nowhere j.the_map s a).members j there).0 refl)))
          (λ b. inr (member-left j.key b (λ s. ((nowhere j.key s b).members j there).1 refl)))
          (w.members j there c.0))
          (λ new. absurd (w.registers j.value c.0 (of_new j gives new)))
          f_cases
        where
          of_new : (k : Joint) → Gives f k → IsNewEntry h f → Among k.value (contents h.script_registers)
          of_new _ its_value new = new.value
          of_new _ (its_key d is) new = new.key

      -- WHAT IS LEFT OF THEM CAN'T BE MARKED.
      unmarkable-left : IsUnmarkable g (exposed_marks h e m) left
      unmarkable-left = record {
        unmarked = λ x i. let c = without_all-cases shown them x i in (exposure-spares m x c.0 c.1).0 (w.unmarked x c.0);
        registers = λ x i r. under.registers x r (left-unblack x i);
        held = λ x i r. let c = without_all-cases shown them x i in under.held x r ((exposure-spares (marks_beside them) x c.0 c.1).0 c.0);
        holders = λ x y edge i. ⊎_elim
            (λ a. unblack-left x a)
            (λ d. absurd (so_far.black_on x y edge d (λ b. subst (Among x) (exposed-black_list h e (marks_beside them)) b) (left-unblack y i)))
            (Among_or_not same_name same_name-exact (exposed_marks h e (marks_beside them)).unblack x);
        members = λ j k i. let f = joint-cases g.entries j k in entry-left f.0 j f.2 (entries f.0 f.1) i;
      }

-- A COMMAND LEAVES WHAT CAN'T BE MARKED SO, but for the reflector of a native that it wraps, where that leads nowhere.
pub effects-unmarkable_left : (h : Heap) (m : NewMarks) (them : List Name) (c : Command) → IsSound [] h → IsUnderMarking h m → IsUnmarkable h m them →
    IsTrue (in_range c) → IsTaken (objects_of h) c →
    ((x : Name) → Among x (wrapped_by (deed_of (objects_of h) c)) → Among x them → LeadsNowhere h x) →
    IsUnmarkable (effects h c).heap (marking_after h (deed_of (objects_of h) c) m) (without_all (wrapped_by (deed_of (objects_of h) c)) them)
effects-unmarkable_left h m them c s u w r t nowhere =
    unmarkable-left h m them u w (exposed_by h (deed_of (objects_of h) c)) (wrapped_by (deed_of (objects_of h) c))
    (exposed-wrapped h m them s.well_formed u w c) nowhere (effects h c).heap (wrapped-exposed h m them s.well_formed u w c)
    (effects-grow h c s r t).entries
    (effects-marking h (marks_beside them) c s (beside-under h m them u w) r t)
    (effects-scanned h (marks_beside them) c s (beside-under h m them u w) (beside-scanned h m them u w) r t)

-- the same names stand in another list
pub unmarkable-alike : (h : Heap) (m : NewMarks) (xs ys : List Name) → ((x : Name) → Among x xs → Among x ys) → ((x : Name) → Among x ys → Among x xs) →
    IsUnmarkable h m xs → IsUnmarkable h m ys
unmarkable-alike h m xs ys to from w = record {
  unmarked = λ x i. w.unmarked x (from x i);
  registers = λ x i. w.registers x (from x i);
  held = λ x i. w.held x (from x i);
  holders = λ x y e i. to x (w.holders x y e (from y i));
  members = λ j m i. ⊎_elim (λ a. inl (to j.the_map a)) (λ b. inr (to j.key b)) (w.members j m (from j.value i));
}

-- A COMMAND THAT WRAPS NO NATIVE WHOSE REFLECTOR IS AMONG THEM LEAVES ALL OF THEM SO.
pub effects-unmarkable : (h : Heap) (m : NewMarks) (them : List Name) (c : Command) → IsSound [] h → IsUnderMarking h m → IsUnmarkable h m them →
    IsTrue (in_range c) → IsTaken (objects_of h) c →
    ((x : Name) → Among x (wrapped_by (deed_of (objects_of h) c)) → ¬ (Among x them)) →
    IsUnmarkable (effects h c).heap (marking_after h (deed_of (objects_of h) c) m) them
effects-unmarkable h m them c s u w r t apart =
    let shown : List Name = wrapped_by (deed_of (objects_of h) c) in
    unmarkable-alike (effects h c).heap (marking_after h (deed_of (objects_of h) c) m) (without_all shown them) them
    (λ x i. (without_all-cases shown them x i).0) (λ x i. without_all-in shown them x i (λ k. apart x k i))
    (effects-unmarkable_left h m them c s u w r t (λ x k i. absurd (apart x k i)))

-- A COMMAND TAKES NO SCRIPT OBJECT AWAY.
pub effects-there : {owned : List ℕ} (h : Heap) (c : Command) → IsSound owned h → IsTrue (in_range c) → IsTaken (objects_of h) c → (x : Name) →
    Among x (script_names h) → Among x (script_names (effects h c).heap)
effects-there h c s r t x i =
    let names = (effects-grow h c s r t).names in
    subst (Among x) (sym names.whole) (Among-left x (script_names h) names.more i)
