-- BANKS LENGTHENED: the registers that come are empty, so heaps are sound as before and seen as before, and stand for the graph whose bank is as long.
use Rattle.std.proofs.Common.{◌≡◌, ℕ, ◌+◌, ◌-◌, ◌≤◌, List, ◌++◌, length, Option, None, refl, sym, ◌∙◌, ap, subst, arith, count_by}
use Rattle.std.specs.Option.{option_to_list}
use Rattle.std.proofs.lemmas.Grind.{flat_map-append}
use Rattle.std.proofs.lemmas.List.{append-nil, length-append, length-replicate}
use Rattle.cc_lists.specs.Members.{Among}
use Rattle.cc_names.specs.declared.name.Name.{Name}
use Rattle.cc_names.specs.Names.{native, reflector, same_name}
use Rattle.cc_names.specs.Sizes.{most_roots}
use Rattle.cc_model.specs.Banks.{Bank, of_natives, of_scripts, of_weak, IsBankLength}
use Rattle.cc_model.specs.Slots.{Slots, contents, empty_slots, lengthened}
use Rattle.cc_model.specs.Graph as graph
use Rattle.cc_model.specs.Graph.{Graph}
use Rattle.cc_model.specs.Given.{Given}
use Rattle.cc_model.specs.WellMade.{IsWellMade}
use Rattle.cc_model.specs.Heap as heap
use Rattle.cc_model.specs.Heap.{Heap}
use Rattle.cc_model.specs.View.{view}
use Rattle.cc_model.specs.WellFormed.{IsWellFormed}
use Rattle.cc_model.specs.Counts.{slots_of_natives, times}
use Rattle.cc_model.specs.StandsFor.{StandsFor}
use Rattle.cc_laws_heap.specs.Sound.{IsSound}
use Rattle.cc_laws_heap.proofs.Making.{contents-empty}
use Rattle.cc_laws_heap.proofs.Kept.{IsWellFormed-registers}
use Rattle.cc_laws_heap.proofs.GraphParts.{IsWellMade-registers}
use Rattle.cc_laws_heap.proofs.Following.{Follows, stands-follows}
use Rattle.cc_laws_heap.proofs.Changing.{Follows-registers}
use Rattle.cc_laws_heap.proofs.Standing.{follows-stands}

-- A bank

-- what a bank holds stays
pub contents-lengthened : (slots : Slots) (n : ℕ) → contents (lengthened slots n) ≡ contents slots
contents-lengthened slots n =
    flat_map-append option_to_list slots (empty_slots (n - length slots))
    ∙ (ap (λ xs. contents slots ++ xs) (contents-empty (n - length slots)) ∙ append-nil (contents slots))

-- it has the places that it is to have, and those that it had
pub length-lengthened : (slots : Slots) (n : ℕ) → length (lengthened slots n) ≡ length slots + (n - length slots)
length-lengthened slots n = length-append slots (empty_slots (n - length slots)) ∙ ap (λ k. length slots + k) (length-replicate {A = Option Name} (n - length slots) None)

-- so it is as long as a bank may be
pub IsBankLength-lengthened : (slots : Slots) (n : ℕ) → n ≤ most_roots → IsBankLength (length slots) → IsBankLength (length (lengthened slots n))
IsBankLength-lengthened slots n few l = subst IsBankLength (sym (length-lengthened slots n)) (record {
  enough = omega (arith, l.enough);
  allowed = omega (arith, few, l.allowed);
})

-- what a lengthened bank holds, it held
held-before : (slots : Slots) (n : ℕ) (x : Name) → Among x (contents (lengthened slots n)) → Among x (contents slots)
held-before slots n x m = subst (λ xs. Among x xs) (contents-lengthened slots n) m

-- The heaps

-- HEAPS WITH A LENGTHENED BANK ARE SEEN AS BEFORE.
pub view-lengthen : (h : Heap) (b : Bank) (n : ℕ) → view (heap.lengthen h b n) ≡ view h
view-lengthen h of_natives n = ap (λ xs. record (view h) { registers = xs ++ contents h.script_registers }) (contents-lengthened h.native_registers n)
view-lengthen h of_scripts n = ap (λ xs. record (view h) { registers = contents h.native_registers ++ xs }) (contents-lengthened h.script_registers n)
view-lengthen h of_weak n = refl

-- They are well formed,
lengthen-formed : (h : Heap) (b : Bank) (n : ℕ) → n ≤ most_roots → IsWellFormed h → IsWellFormed (heap.lengthen h b n)
lengthen-formed h of_natives n few w = IsWellFormed-registers h (lengthened h.native_registers n) h.script_registers w (record {
  natives = λ x m. w.native_registers x (held-before h.native_registers n x m);
  scripts = w.script_registers;
  lengths = (IsBankLength-lengthened h.native_registers n few w.registers.0, w.registers.1);
})
lengthen-formed h of_scripts n few w = IsWellFormed-registers h h.native_registers (lengthened h.script_registers n) w (record {
  natives = w.native_registers;
  scripts = λ x m. w.script_registers x (held-before h.script_registers n x m);
  lengths = (w.registers.0, IsBankLength-lengthened h.script_registers n few w.registers.1);
})
lengthen-formed h of_weak n few w = w

-- THEY ARE SOUND.
pub lengthen-sound : (owned : List ℕ) (h : Heap) (b : Bank) (n : ℕ) → n ≤ most_roots → IsSound owned h → IsSound owned (heap.lengthen h b n)
lengthen-sound owned h of_natives n few s = record {
  well_formed = lengthen-formed h of_natives n few s.well_formed;
  counts = λ m i. s.counts m i
      ∙ ap (λ xs. count_by (same_name (native m.number)) xs
      + (count_by (same_name (native m.number)) (slots_of_natives h) + count_by (λ o. same_name o.name (reflector m.number)) h.scripts)
      + times m.number owned) (sym (contents-lengthened h.native_registers n));
  none_zero = s.none_zero;
  owned_there = s.owned_there;
}
lengthen-sound owned h of_scripts n few s = record {
  well_formed = lengthen-formed h of_scripts n few s.well_formed;
  counts = s.counts;
  none_zero = s.none_zero;
  owned_there = s.owned_there;
}
lengthen-sound owned h of_weak n few s = s

-- The graph

-- A GRAPH WITH A LENGTHENED BANK IS WELL MADE.
pub lengthen-well : (g : Graph) (b : Bank) (n : ℕ) → n ≤ most_roots → IsWellMade g → IsWellMade (graph.lengthen g b n)
lengthen-well g of_natives n few w = IsWellMade-registers g (lengthened g.native_registers n) g.script_registers w (record {
  natives = λ x m. w.native_registers x (held-before g.native_registers n x m);
  scripts = w.script_registers;
  lengths = (IsBankLength-lengthened g.native_registers n few w.registers.0, w.registers.1);
})
lengthen-well g of_scripts n few w = IsWellMade-registers g g.native_registers (lengthened g.script_registers n) w (record {
  natives = w.native_registers;
  scripts = λ x m. w.script_registers x (held-before g.script_registers n x m);
  lengths = (w.registers.0, IsBankLength-lengthened g.script_registers n few w.registers.1);
})
lengthen-well g of_weak n few w = w

-- heaps that follow a graph follow it where both banks are lengthened
Follows-lengthen : (P : Name → Type 0) (h : Heap) (g : Graph) (b : Bank) (n : ℕ) → Follows P h g → Follows P (heap.lengthen h b n) (graph.lengthen g b n)
Follows-lengthen P h g of_natives n t = Follows-registers P h g (lengthened h.native_registers n) h.script_registers (lengthened g.native_registers n) g.script_registers
    (ap (λ (rs : Slots). lengthened rs n) t.beside.native_registers) t.beside.script_registers
    (λ x m. t.closed.native_registers x (held-before g.native_registers n x m)) t.closed.script_registers t
Follows-lengthen P h g of_scripts n t = Follows-registers P h g h.native_registers (lengthened h.script_registers n) g.native_registers (lengthened g.script_registers n)
    t.beside.native_registers (ap (λ (rs : Slots). lengthened rs n) t.beside.script_registers)
    t.closed.native_registers (λ x m. t.closed.script_registers x (held-before g.script_registers n x m)) t
Follows-lengthen P h g of_weak n t = t

-- HEAPS THAT STAND FOR A GRAPH STAND FOR IT where both banks are lengthened.
pub lengthen-stands : (h : Heap) (g : Graph) (b : Bank) (n : ℕ) → n ≤ most_roots → IsWellFormed h → IsWellMade g → StandsFor h g →
    StandsFor (heap.lengthen h b n) (graph.lengthen g b n)
lengthen-stands h g b n few w m s = follows-stands (Given h g) (heap.lengthen h b n) (graph.lengthen g b n) (lengthen-formed h b n few w) (lengthen-well g b n few m)
    (Follows-lengthen (Given h g) h g b n (stands-follows h g w s))
