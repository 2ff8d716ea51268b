-- CHANGES UNDER A SCRIPT MARKING: where script registers, natives and script objects lead to nothing new but what is black by the new marks,
-- or made just now, a marking goes on as it should.
use Rattle.std.proofs.Common.{◌≡◌, ◌&&◌, List, [], ◌∷◌, Option, Some, None, option_map, sym, ◌∙◌, ap, subst, inr, ◌⊎◌, ⊎_elim, option_to_list}
use Rattle.std.specs.List.{filter}
use Rattle.std.proofs.lemmas.Bool.{and_from}
use Rattle.cc_lists.specs.Members.{Among, has}
use Rattle.cc_lists.specs.Least.{closure}
use Rattle.cc_lists.proofs.Members.{Among-filter, Among_or_not, has-there}
use Rattle.cc_lists.proofs.Least.{derive-along}
use Rattle.cc_lists.proofs.Closure.{derived-closure, closure-derived}
use Rattle.cc_names.specs.declared.name.Name.{Name}
use Rattle.cc_names.specs.Names.{same_name}
use Rattle.cc_names.proofs.NameTests.{same_name-exact}
use Rattle.cc_model.specs.Slots.{contents}
use Rattle.cc_model.specs.Heap.{Heap}
use Rattle.cc_model.specs.Exposure.{slots_of_scripts}
use Rattle.cc_model.specs.WellFormed.{script_names}
use Rattle.cc_model.specs.Marking.{NewMarks, without_all, edges_unblack, exposure_rules_by_mark, exposed_marks}
use Rattle.cc_laws_heap.specs.UnderMarking.{IsUnderMarking, IsScannedSoFar}
use Rattle.cc_laws_heap.proofs.HoldsBut.{HeldOr}
use Rattle.cc_laws_heap.proofs.Raising.{Raises-exposed, IsUnderMarking-raised, exposed-not_unblack, without_all-cases, without_all-in}
use Rattle.cc_laws_marking.specs.Between.{KeepsMarkings}
use Rattle.cc_heaps.specs.Keyed.{Keyed}
use Rattle.cc_heaps.specs.Marks.{KeepsMarks, MarksGoOn}
use Rattle.cc_heaps.specs.NewMarks.{AreListed, marks_of}
use Rattle.cc_heaps.proofs.ExposedMarks.{nothing-in}
use Rattle.cc_heaps.proofs.MarksKept.{listed-still, marks-go_on}
use Rattle.cc_markslice.specs.Going.{IsMarkingWell}
use Rattle.cc_host.specs.Marked.{IsPast, IsPastIfAny, KeepsMarking}

-- SCRIPT REGISTERS, NATIVES AND SCRIPT OBJECTS LEAD in the second heaps to what they led to in the first, or to what stands in a list; script
-- registers to what was not there too. No script object is gone
pub record LeadsBut (more : List Name) (h g : Heap) : Type 0 where
  pub registers : (x : Name) → Among x (contents g.script_registers) →
      Among x (contents h.script_registers) ⊎ (Among x more ⊎ (¬ (Among x (script_names h))))
  pub held : HeldOr more h g
  pub edges : (x y : Name) → Among (x, y) (slots_of_scripts g) → Among (x, y) (slots_of_scripts h) ⊎ Among y more
  pub there : (x : Name) → Among x (script_names h) → Among x (script_names g)

-- Such a change leaves new marks as they should be, where what stands in the list is black by them.
module _ (h g : Heap) (more : List Name) (c : LeadsBut more h g) (m : NewMarks) (past : (x : Name) → Among x more → ¬ (Among x m.unblack)) (u : IsUnderMarking h m) where
  under-led : IsUnderMarking g m
  under-led = record {
    registers = λ x i b. ⊎_elim
        (λ old. u.registers x old b)
        (λ new. ⊎_elim (λ k. past x k b) (λ made. made (u.there x b)) new)
        (c.registers x i);
    held = λ x i b. ⊎_elim (λ old. u.held x old b) (λ new. past x new (u.within x b)) (c.held x i);
    within = u.within;
    there = λ x b. c.there x (u.there x b);
  }

  scanned-led : IsScannedSoFar h m → IsScannedSoFar g m
  scanned-led s = record {
    black_on = λ x y e a b d. ⊎_elim (λ old. s.black_on x y old a b d) (λ new. past y new d) (c.edges x y e);
    gray_on = λ x y e a b d f. ⊎_elim (λ old. s.gray_on x y old a b d f) (λ new. past y new (u.within y f)) (c.edges x y e);
    black_list = λ x i. let k = s.black_list x i in (c.there x k.0, k.1);
    gray_list = s.gray_list;
  }

-- AN EXPOSURE leaves new marks as they should be
module _ (h : Heap) (m : NewMarks) (s : IsScannedSoFar h m) (z : Name) where
  -- what it makes black
  abbrev names : List Name
  names = closure same_name (exposure_rules_by_mark h m z)

  -- it goes on over edges between objects that were not black
  names-along : (x y : Name) → Among (x, y) (slots_of_scripts h) → Among x m.unblack → Among y m.unblack → Among x names → Among y names
  names-along x y e a b i = derived-closure same_name same_name-exact (exposure_rules_by_mark h m z) y
      (derive-along (filter (λ w. has same_name m.unblack w) (z ∷ [])) (edges_unblack m (slots_of_scripts h)) [] x y
      (Among-filter (λ (p : Name × Name). has same_name m.unblack p.0 && has same_name m.unblack p.1) (x, y) (slots_of_scripts h) e
      (and_from (has same_name m.unblack x) (has same_name m.unblack y) (has-there same_name same_name-exact m.unblack x a) (has-there same_name same_name-exact m.unblack y b)))
      (closure-derived same_name same_name-exact (exposure_rules_by_mark h m z) x i))

  -- a name of a list that is not left out of the rest is exposed
  left-out : (xs : List Name) (x : Name) → Among x xs → ¬ (Among x (without_all names xs)) → Among x names
  left-out xs x i d = ⊎_elim (λ e. e) (λ n. absurd (d (without_all-in names xs x i n))) (Among_or_not same_name same_name-exact names x)

  scanned-some : IsScannedSoFar h (exposed_marks h (Some z) m)
  unfolding exposed_marks
  scanned-some = record {
    black_on = λ x y e a b d.
        let k = without_all-cases names m.unblack y d in
        ⊎_elim
        (λ unblack. k.1 (names-along x y e unblack k.0 (left-out m.unblack x unblack a)))
        (λ black. s.black_on x y e black b k.0)
        (Among_or_not same_name same_name-exact m.unblack x);
    gray_on = λ x y e a b d f.
        let i = without_all-cases names m.unblack x a in
        let k = without_all-cases names m.unmarked y f in
        s.gray_on x y e i.0 (λ j. b (without_all-in names m.unmarked x j i.1)) (λ j. d (without_all-in names m.gray_list x j i.1)) k.0;
    black_list = λ x i. let k = s.black_list x i in (k.0, λ j. k.1 (without_all-cases names m.unblack x j).0);
    gray_list = λ x i.
        let k = without_all-cases names m.gray_list x i in
        let l = s.gray_list x k.0 in
        (without_all-in names m.unblack x l.0 k.1, λ j. l.1 (without_all-cases names m.unmarked x j).0);
  }

scanned-exposed : (h : Heap) (m : NewMarks) → IsScannedSoFar h m → (x : Option Name) → IsScannedSoFar h (exposed_marks h x m)
unfolding exposed_marks
scanned-exposed h m s None = s
scanned-exposed h m s (Some z) = scanned-some h m s z

-- A CHANGE, and what it exposes
module _ (v w : Keyed) (x : Option Name) (marks : AreListed v → marks_of w ≡ option_map (exposed_marks v.heap x) (marks_of v)) (on : MarksGoOn v w) where
  its-marks : (well : IsMarkingWell v) → marks_of w ≡ Some (exposed_marks v.heap x well.marks)
  its-marks well = marks well.listed ∙ ap (option_map (exposed_marks v.heap x)) well.has_marks

  are-its : (well : IsMarkingWell v) (n : NewMarks) → marks_of w ≡ Some n → n ≡ exposed_marks v.heap x well.marks
  are-its well n e = let both : Some n ≡ Some (exposed_marks v.heap x well.marks) = sym e ∙ its-marks well in cc

  -- what was black is so still
  past-still : IsMarkingWell v → (y : Name) → IsPast v y → IsPast w y
  past-still well y p n e b = p well.marks well.has_marks
      ((Raises-exposed v.heap x well.marks).unblack y (subst (λ (k : NewMarks). Among y k.unblack) (are-its well n e) b))

  -- and so is what was exposed
  pub exposed-past : IsMarkingWell v → IsPastIfAny w x
  exposed-past well y i n e b = exposed-not_unblack v.heap x well.marks y i (subst (λ (k : NewMarks). Among y k.unblack) (are-its well n e) b)

  -- THE MARKING GOES ON, where nothing new is led to but that.
  pub marking-led : (more : List Name) → LeadsBut more v.heap w.heap → (IsMarkingWell v → (y : Name) → Among y more → Among y (option_to_list x) ⊎ IsPast v y) → KeepsMarking v w
  marking-led more c known = record {
    well = λ well.
        let m : NewMarks = exposed_marks v.heap x well.marks in
        let past : (y : Name) → Among y more → ¬ (Among y m.unblack) = λ y i b. ⊎_elim
        (λ e. exposed-not_unblack v.heap x well.marks y e b)
        (λ p. p well.marks well.has_marks ((Raises-exposed v.heap x well.marks).unblack y b))
        (known well y i) in
        let under : IsUnderMarking v.heap m = IsUnderMarking-raised v.heap well.marks m (Raises-exposed v.heap x well.marks) well.under in
        record {
          marks = m;
          has_marks = its-marks well;
          under = under-led v.heap w.heap more c m past under;
          so_far = scanned-led v.heap w.heap more c m past under (scanned-exposed v.heap well.marks well.so_far x);
          listed = listed-still v w on well.listed;
        };
    past = past-still;
  }

-- A change that exposes nothing
pub marking-kept : (v w : Keyed) (more : List Name) → LeadsBut more v.heap w.heap → KeepsMarks v w →
    (IsMarkingWell v → (y : Name) → Among y more → IsPast v y) → KeepsMarking v w
marking-kept v w more c k known = marking-led v w None (λ listed. k.by_names listed ∙ nothing-in v.heap (marks_of v)) (marks-go_on k) more c (λ well y i. inr (known well y i))

-- and one that leaves every marking as it is
pub marking-beside : (v w : Keyed) → KeepsMarkings v.heap w.heap → KeepsMarks v w → KeepsMarking v w
marking-beside v w k marks = record {
  well = λ well. record {
    marks = well.marks;
    has_marks = marks.by_names well.listed ∙ well.has_marks;
    under = k.under well.marks well.under;
    so_far = k.so_far well.marks well.so_far;
    listed = listed-still v w (marks-go_on marks) well.listed;
  };
  past = λ well x p m e. p m (sym (marks.by_names well.listed) ∙ e);
}

-- In a row

pub marking-same : (v w : Keyed) → w ≡ v → KeepsMarking v w
marking-same v w e = subst (KeepsMarking v) (sym e) (record { well = λ well. well; past = λ well x p. p })

pub marking-then : (u v w : Keyed) → KeepsMarking u v → KeepsMarking v w → KeepsMarking u w
marking-then u v w a b = record { well = λ k. b.well (a.well k); past = λ k x p. b.past (a.well k) x (a.past k x p) }

-- what is black by the new mark after the first is known to the second
pub marking-after : (u v w : Keyed) → KeepsMarking u v → (IsMarkingWell u → KeepsMarking v w) → KeepsMarking u w
marking-after u v w a b = record { well = λ k. (b k).well (a.well k); past = λ k x p. (b k).past (a.well k) x (a.past k x p) }
