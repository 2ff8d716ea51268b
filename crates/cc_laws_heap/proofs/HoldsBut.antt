-- WHAT IS HELD AFTER A CHANGE and was not before: by script registers what is exposed or made, by natives what script registers held.
-- Then the heaps stay under marking.
use Rattle.std.proofs.Common.{List, Option, ◌⊎◌, inl, ⊎_elim}
use Rattle.std.specs.Option.{option_to_list}
use Rattle.cc_lists.specs.Members.{Among}
use Rattle.cc_names.specs.declared.name.Name.{Name}
use Rattle.cc_model.specs.Slots.{contents}
use Rattle.cc_model.specs.Heap.{Heap}
use Rattle.cc_model.specs.WellFormed.{script_names}
use Rattle.cc_model.specs.Colours.{scripts_held}
use Rattle.cc_model.specs.Marking.{NewMarks, exposed_marks}
use Rattle.cc_laws_heap.specs.UnderMarking.{IsUnderMarking}
use Rattle.cc_laws_heap.proofs.Raising.{Raises-exposed, exposed-not_unblack}

-- natives hold in the second heaps what they held in the first, or what stands in a list
abbrev pub HeldOr : List Name → Heap → Heap → Type 0
HeldOr more h g = (x : Name) → Among x (scripts_held g) → Among x (scripts_held h) ⊎ Among x more

-- script registers hold in the second heaps what they held in the first, what is exposed, or what was not there; natives what they or
-- script registers held; and no script object is gone
pub record HoldsBut (h g : Heap) (its_exposed : Option Name) : Type 0 where
  pub registers : (x : Name) → Among x (contents g.script_registers) →
      Among x (contents h.script_registers) ⊎ (Among x (option_to_list its_exposed) ⊎ (¬ (Among x (script_names h))))
  pub held : HeldOr (contents h.script_registers) h g
  pub there : (x : Name) → Among x (script_names h) → Among x (script_names g)

-- such a change leaves the heaps under marking, with the marks after the exposure
pub IsUnderMarking-then : (h g : Heap) (x : Option Name) (m : NewMarks) → HoldsBut h g x → IsUnderMarking h m → IsUnderMarking g (exposed_marks h x m)
IsUnderMarking-then h g x m c u =
    let r = Raises-exposed h x m in
    record {
      registers = λ y i b. ⊎_elim
          (λ old. u.registers y old (r.unblack y b))
          (λ new. ⊎_elim (λ e. exposed-not_unblack h x m y e b) (λ made. made (u.there y (r.unblack y b))) new)
          (c.registers y i);
      held = λ y i b. ⊎_elim
          (λ old. u.held y old (r.unmarked y b))
          (λ new. u.registers y new (u.within y (r.unmarked y b)))
          (c.held y i);
      within = r.within u.within;
      there = λ y b. c.there y (u.there y (r.unblack y b));
    }

-- nothing changes
pub HoldsBut-refl : (h : Heap) (x : Option Name) → HoldsBut h h x
HoldsBut-refl h x = record { registers = λ y i. inl i; held = λ y i. inl i; there = λ y i. i }
