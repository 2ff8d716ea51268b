-- CHANGES THAT LEAVE A MARKING AS IT IS: script objects, script registers and entries stay, and natives hold no more of script objects.
use Rattle.std.proofs.Common.{◌≡◌, ℕ, List, [], map, Option, sym, subst, ⊎_elim, refl}
use Rattle.std.specs.List.{flat_map}
use Rattle.cc_lists.specs.Members.{Among}
use Rattle.cc_names.specs.declared.name.Name.{Name}
use Rattle.cc_model.specs.Slots.{Slots, contents}
use Rattle.cc_model.specs.Entries.{Entry, Joint, joints}
use Rattle.cc_model.specs.Heap.{Heap, HeapScript, Buffered}
use Rattle.cc_model.specs.View.{script_slot_edges}
use Rattle.cc_model.specs.Effects.{hold_native}
use Rattle.cc_model.specs.Exposure.{slots_of_scripts}
use Rattle.cc_model.specs.WellFormed.{script_names}
use Rattle.cc_model.specs.Colours.{scripts_held}
use Rattle.cc_model.specs.Skipping.{forgotten, unmarked_among, skippable_names}
use Rattle.cc_laws_heap.proofs.NativesKeepScripts.{hold_native-scripts}
use Rattle.cc_laws_heap.proofs.HoldsBut.{HeldOr}
use Rattle.cc_laws_heap.proofs.NativesHold.{HeldOr-same, HeldOr-hold_native}
use Rattle.cc_laws_marking.specs.Lists.{AreInOrderOf}
use Rattle.cc_laws_marking.specs.Between.{KeepsMarkings}
use Rattle.cc_laws_marking.proofs.Grown.{SameObjects-hold_native}

module _ (h g : Heap) (scripts : g.scripts ≡ h.scripts) (registers : g.script_registers ≡ h.script_registers) (entries : g.entries ≡ h.entries)
    (held : HeldOr [] h g) where
  -- the names of script objects stay
  same-names : script_names g ≡ script_names h
  same-names = subst (λ (os : List HeapScript). map (λ (o : HeapScript). o.name) os ≡ script_names h) (sym scripts) refl

  -- script registers hold no more
  same-registers : (x : Name) → Among x (contents g.script_registers) → Among x (contents h.script_registers)
  same-registers x i = subst (λ (rs : Slots). Among x (contents rs)) registers i

  -- script objects lead to no more
  same-edges : (x y : Name) → Among (x, y) (slots_of_scripts g) → Among (x, y) (slots_of_scripts h)
  same-edges x y i = subst (λ (os : List HeapScript). Among (x, y) (flat_map script_slot_edges os)) scripts i

  -- entries give no more
  same-joints : (j : Joint) → Among j (joints g.entries) → Among j (joints h.entries)
  same-joints j i = subst (λ (es : List Entry). Among j (joints es)) entries i

  -- natives hold no more of script objects
  same-held : (x : Name) → Among x (scripts_held g) → Among x (scripts_held h)
  same-held x i = ⊎_elim (λ a. a) (λ none. absurd none) (held x i)

  -- EVERY MARKING IS AS IT WAS.
  beside-keeps : KeepsMarkings h g
  beside-keeps = record {
    under = λ m u. record {
      registers = λ x i. u.registers x (same-registers x i);
      held = λ x i. u.held x (same-held x i);
      within = u.within;
      there = λ x i. subst (Among x) (sym same-names) (u.there x i);
    };
    so_far = λ m s. record {
      black_on = λ x y e. s.black_on x y (same-edges x y e);
      gray_on = λ x y e. s.gray_on x y (same-edges x y e);
      black_list = λ x i. let k = s.black_list x i in (subst (Among x) (sym same-names) k.0, k.1);
      gray_list = s.gray_list;
    };
    lists = λ m l. record {
      unmarked = subst (λ names. AreInOrderOf names m.unmarked) (sym same-names) l.unmarked;
      unblack = subst (λ names. AreInOrderOf names m.unblack) (sym same-names) l.unblack;
      black_list = l.black_list;
      gray_list = l.gray_list;
    };
    unmarkable = λ m them w. record {
      unmarked = w.unmarked;
      registers = λ x i r. w.registers x i (same-registers x r);
      held = λ x i r. w.held x i (same-held x r);
      holders = λ x y e. w.holders x y (same-edges x y e);
      members = λ j i. w.members j (same-joints j i);
    };
  }

-- A WEAK REGISTER IS READ: a native comes into a native register.
pub hold_native-keeps : (h : Heap) (d : ℕ) (x : Option Name) → KeepsMarkings h (hold_native h d x).heap
hold_native-keeps h d x = beside-keeps h (hold_native h d x).heap (hold_native-scripts h d x).scripts (hold_native-scripts h d x).registers
    (SameObjects-hold_native h d x).entries (HeldOr-hold_native h d x)

-- ANOTHER BUFFER
buffer-keeps : (h : Heap) (bs : List Buffered) → KeepsMarkings h (record h { buffer = bs })
buffer-keeps h bs = beside-keeps h (record h { buffer = bs }) refl refl refl (HeldOr-same [] h (record h { buffer = bs }) refl)

-- SUSPECTS ARE FORGOTTEN.
pub forgotten-keeps : (h : Heap) → KeepsMarkings h (forgotten h)
unfolding forgotten
forgotten-keeps h = buffer-keeps h (map (unmarked_among (skippable_names h)) h.buffer)
