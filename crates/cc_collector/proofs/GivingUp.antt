-- WHAT SLICES AND COLLECTIONS LEAVE that were refused memory.
use Rattle.std.proofs.Common.{◌≡◌, ℕ, List, [], Bool, Option, inl, inr, sym, ◌∙◌, ap, subst, ⊎_elim}
use Rattle.cc_model.specs.declared.item.Event.{Event}
use Rattle.cc_model.specs.Telling.{Telling}
use Rattle.cc_model.specs.End.{Progress, refused}
use Rattle.cc_model.specs.Collecting.{Machine, UnitsDone, units_came, finish_marking, finish_running, slice, collect}
use Rattle.cc_laws_run.specs.Memory.{with_memory}
use Rattle.cc_laws_run.specs.GivenUp.{IsGivenUp}
use Rattle.cc_laws_run.proofs.Face.{collect-gives_up, slice-gives_up}
use Rattle.cc_heaps.specs.Keyed.{Keyed}
use Rattle.cc_builder.specs.Building.{Built}
use Rattle.cc_collector.specs.Kept.{machine_with, running_snapshot}
use Rattle.cc_collector.specs.Collected.{IsSliceGivenUp, IsCollectGivenUp, IsLaterGivenUp}
use Rattle.cc_collector.specs.Units.{HasFinishedMarking}

module _ (v : Keyed) (c : Option Built) (m : Keyed) (t t₁ : Telling) (f : HasFinishedMarking v c m t t₁) where
  -- what was given up where the marking had ended
  given_up-behind : (memory : List Bool) (h k : Machine) → let first = finish_marking (with_memory (machine_with v c) memory) in
      h.heap ≡ k.heap → IsGivenUp first.machine.heap first.machine.snapshot h.heap → IsSliceGivenUp (machine_with v c) k.heap
  given_up-behind memory h k same g =
      subst (λ (d : UnitsDone). IsGivenUp d.machine.heap (running_snapshot c) k.heap) (sym (f.finished []))
      (subst (λ (d : UnitsDone). IsGivenUp d.machine.heap d.machine.snapshot k.heap) (f.finished memory)
      (let first : UnitsDone = finish_marking (with_memory (machine_with v c) memory) in subst (IsGivenUp first.machine.heap first.machine.snapshot) same g))

  -- A slice
  pub sliced-given_up : (n : ℕ) (memory : List Bool) (now : Machine) (events : List Event) (p : Progress) →
      slice n (with_memory (machine_with v c) memory) ≡ units_came now events p → p ≡ refused → IsSliceGivenUp (machine_with v c) now.heap
  sliced-given_up n memory now events p is e =
      given_up-behind memory (slice n (with_memory (machine_with v c) memory)).machine now (ap (λ (d : UnitsDone). d.machine.heap) is)
      (slice-gives_up n (with_memory (machine_with v c) memory) (ap (λ (d : UnitsDone). d.progress) is ∙ e)).heap

  -- A collection
  pub collected-given_up : (memory : List Bool) (now : Machine) (events : List Event) (p : Progress) →
      collect (with_memory (machine_with v c) memory) ≡ units_came now events p → p ≡ refused → IsCollectGivenUp (machine_with v c) now.heap
  collected-given_up memory now events p is e =
      let heap = ap (λ (d : UnitsDone). d.machine.heap) is in
      ⊎_elim
      (λ g. inl (given_up-behind memory (collect (with_memory (machine_with v c) memory)).machine now heap g.heap))
      (λ g. inr (
        memory,
        subst (λ (d : UnitsDone). IsLaterGivenUp (finish_running (with_memory d.machine memory)) now.heap) (sym (f.finished []))
            (subst (λ (d : UnitsDone). IsLaterGivenUp (finish_running d.machine) now.heap) (f.finished memory) (
              g.0,
              let first : UnitsDone = finish_running (finish_marking (with_memory (machine_with v c) memory)).machine in subst (IsGivenUp first.machine.heap first.machine.snapshot) heap g.1.heap,
            )),
      ))
      (collect-gives_up (with_memory (machine_with v c) memory) (ap (λ (d : UnitsDone). d.progress) is ∙ e))
