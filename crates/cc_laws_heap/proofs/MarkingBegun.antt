-- A MARKING THAT WAS JUST BEGUN: what script registers hold is black by its marks, and what natives hold is black or gray.
use Rattle.std.proofs.Common.{ℕ, List, [], ◌++◌, ⊎_elim}
use Rattle.cc_lists.specs.Members.{Among}
use Rattle.cc_lists.proofs.Members.{Among-left, Among-right, Among-append, Among_or_not}
use Rattle.cc_lists.proofs.OnceEach.{with_all_last-there, with_all_last-cases}
use Rattle.cc_names.specs.declared.name.Name.{Name}
use Rattle.cc_names.specs.Names.{same_name}
use Rattle.cc_names.proofs.NameTests.{same_name-exact}
use Rattle.cc_model.specs.Slots.{contents}
use Rattle.cc_model.specs.Heap.{Heap}
use Rattle.cc_model.specs.WellFormed.{script_names}
use Rattle.cc_model.specs.Colours.{scripts_held}
use Rattle.cc_model.specs.Marking.{without_all, each_once, begun_marks, registered}
use Rattle.cc_laws_heap.specs.UnderMarking.{IsUnderMarking, IsScannedSoFar}
use Rattle.cc_laws_heap.specs.Sound.{IsSound}
use Rattle.cc_laws_heap.proofs.Led.{edge-source}
use Rattle.cc_laws_heap.proofs.NativesHold.{held-there}
use Rattle.cc_laws_heap.proofs.Raising.{without_all-cases, without_all-in}

-- each name of a list stands in the list of each once
pub each_once-there : (names : List Name) (x : Name) → Among x names → Among x (each_once names)
each_once-there names x i = with_all_last-there same_name same_name-exact [] names x i

-- a name of the list of each once stands in the list
each_once-cases : (names : List Name) (x : Name) → Among x (each_once names) → Among x names
each_once-cases names x i = ⊎_elim (λ none. absurd none) (λ e. e) (with_all_last-cases same_name same_name-exact [] names x i)

-- what natives hold is black or gray
held-listed : (h : Heap) (x : Name) → Among x (scripts_held h) → Among x (registered h ++ without_all (registered h) (each_once (scripts_held h)))
held-listed h x i = ⊎_elim
    (λ black. Among-left x (registered h) (without_all (registered h) (each_once (scripts_held h))) black)
    (λ other. Among-right x (registered h) (without_all (registered h) (each_once (scripts_held h)))
    (without_all-in (registered h) (each_once (scripts_held h)) x (each_once-there (scripts_held h) x i) other))
    (Among_or_not same_name same_name-exact (registered h) x)

-- A MARKING THAT WAS JUST BEGUN IS UNDER WAY.
pub IsUnderMarking-begun : (h : Heap) → IsUnderMarking h (begun_marks h)
unfolding begun_marks
IsUnderMarking-begun h = record {
  registers = λ x i b. (without_all-cases (registered h) (script_names h) x b).1 (each_once-there (contents h.script_registers) x i);
  held = λ x i b. (without_all-cases (registered h ++ without_all (registered h) (each_once (scripts_held h))) (script_names h) x b).1 (held-listed h x i);
  within = λ x b.
      let c = without_all-cases (registered h ++ without_all (registered h) (each_once (scripts_held h))) (script_names h) x b in
      without_all-in (registered h) (script_names h) x c.0
      (λ black. c.1 (Among-left x (registered h) (without_all (registered h) (each_once (scripts_held h))) black));
  there = λ x b. (without_all-cases (registered h) (script_names h) x b).0;
}

-- NOTHING WAS SCANNED when a marking was just begun: what is black or gray stands on its list.
pub IsScannedSoFar-begun : {owned : List ℕ} (h : Heap) → IsSound owned h → IsScannedSoFar h (begun_marks h)
unfolding begun_marks
IsScannedSoFar-begun h s = record {
  black_on = λ x y e a b i. absurd (a (without_all-in (registered h) (script_names h) x (edge-source h x y e) b));
  gray_on = λ x y e a b d i.
      let c = without_all-cases (registered h) (script_names h) x a in
      absurd (b (without_all-in (registered h ++ grays) (script_names h) x c.0 (λ j. ⊎_elim c.1 d (Among-append x (registered h) grays j))));
  black_list = λ x i. (s.well_formed.script_registers x (each_once-cases (contents h.script_registers) x i), λ b. (without_all-cases (registered h) (script_names h) x b).1 i);
  gray_list = λ x i.
      let c = without_all-cases (registered h) (each_once (scripts_held h)) x i in (
        without_all-in (registered h) (script_names h) x (held-there h s.well_formed x (each_once-cases (scripts_held h) x c.0)) c.1,
        λ b. (without_all-cases (registered h ++ grays) (script_names h) x b).1 (Among-right x (registered h) grays i),
      );
}
  where
    grays : List Name
    grays = without_all (registered h) (each_once (scripts_held h))
