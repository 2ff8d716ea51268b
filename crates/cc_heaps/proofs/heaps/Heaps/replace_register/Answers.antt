use Rattle.std.proofs.Common.{◌≡◌, ℕ, ◌<◌, List, ◌++◌, length, set, Option, sym, ◌∙◌, ap, subst, ⊎_elim}
use Rattle.std.specs.Vec.{with_item}
use Rattle.std.proofs.Math.ListN.{length-set}
use Rattle.std.proofs.lemmas.List.{map-set}
use Rattle.cc_lists.proofs.ListWrites.{Among-set_cases}
use Rattle.cc_names.specs.declared.number.NKey.{NKey}
use Rattle.cc_names.specs.declared.register.Reg.TheVariants.{N}
use Rattle.cc_model.specs.Banks.{IsBankLength}
use Rattle.cc_model.specs.Heap.{register, set_register}
use Rattle.cc_laws_heap.specs.Sound.{numbers_of}
use Rattle.cc_heaps.specs.declared.heaps.Heaps.TheInside.{Inside}
use Rattle.cc_heaps.specs.Keyed.{Keyed, IsInOrder, changed_to}
use Rattle.cc_heaps.specs.Changes.{IsNativeThere, native_name}
use Rattle.cc_heaps.specs.Named.{named, IsLive}
use Rattle.cc_heaps.specs.Fields.{keyed_of, IsLinked}
use Rattle.cc_heaps.proofs.Fit.{IsFit}
use Rattle.cc_heaps.proofs.Content.{native-in}
use Rattle.cc_heaps.proofs.Ordered.{IsInOrder-register}
use Rattle.cc_heaps.proofs.Registers.{live-there, there-live, name-named}
use Rattle.cc_heaps.proofs.heaps.Heaps.replace_register.Goals as goal

-- the parts with a register written
abbrev written : Inside → ℕ → Option NKey → Inside
written p r x = record p { native_registers = with_item p.native_registers r x }

module _ (p : Inside) (r : ℕ) (x : Option NKey) where
  abbrev v : Keyed
  v = keyed_of p

  written-keyed : keyed_of (written p r x) ≡ changed_to v (set_register v.heap (N r) (native_name v x))
  written-keyed =
      ap (λ rs. record v { heap = record v.heap { native_registers = rs } })
      (map-set (named p.counted.keys) p.native_registers.items r x ∙ ap (set v.heap.native_registers r) (sym (name-named v x)))

  written-linked : IsNativeThere v x → IsLinked p → IsLinked (written p r x)
  written-linked there l = record {
    native_registers = λ y m. ⊎_elim (λ e. subst (IsLive p.counted.keys) e (live-there v x there)) (l.native_registers y)
        (Among-set_cases p.native_registers.items r x y m);
    script_registers = l.script_registers;
    registers = (subst IsBankLength (sym (length-set p.native_registers.items r x)) l.registers.0, l.registers.1);
    held = l.held;
    one_key = l.one_key;
    one_name = l.one_name;
    reflectors = l.reflectors;
    script_names = l.script_names;
    room = l.room;
  }

  written-fit : (owned : List ℕ) → r < length v.heap.native_registers → IsNativeThere v x → (was : Option NKey) → native_name v was ≡ register v.heap (N r) →
      IsFit (numbers_of (native_name v x) ++ owned) p → IsFit (numbers_of (native_name (keyed_of (written p r x)) was) ++ owned) (written p r x)
  written-fit owned within there was held f = record {
    order = subst (IsInOrder (numbers_of (native_name v was) ++ owned)) (sym written-keyed)
        (subst (λ y. IsInOrder (numbers_of y ++ owned) (changed_to v (set_register v.heap (N r) (native_name v x)))) (sym held)
        (IsInOrder-register owned v r (native_name v x) within (native-in (numbers_of (native_name v x) ++ owned) v x f.order) f.order));
    linked = written-linked there f.linked;
  }

pub invariant_of-self : goal.invariant_of-self
invariant_of-self c = written-linked c.self.inside c.args.r c.args.content (rw (← c.self.view_is) at c.requires.there) c.self.invariant

pub returns-clause-heap : goal.returns-clause-heap
returns-clause-heap c = rw (← c.self.view_is) (written-keyed c.self.inside c.args.r c.args.content)

pub returns-clause-there : goal.returns-clause-there
returns-clause-there c =
    let p = c.self.inside in
    let was = c.native_reg-held.result in
    there-live (keyed_of (written p c.args.r c.args.content)) was (live-there (keyed_of p) was (rw (← c.self.view_is) at c.native_reg-held.ensures.there))

pub returns-clause-order : goal.returns-clause-order
returns-clause-order c owned =
    rw (← c.self.view_is)
    (λ o. (written-fit c.self.inside c.args.r c.args.content owned (rw (← c.self.view_is) at c.requires.within) (rw (← c.self.view_is) at c.requires.there) c.native_reg-held.result
    (rw (← c.self.view_is) at c.native_reg-held.ensures.name) (record { order = o; linked = c.self.invariant })).order)
