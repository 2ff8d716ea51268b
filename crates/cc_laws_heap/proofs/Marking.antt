-- MARKING GIVES EACH SCRIPT OBJECT THE COLOUR OF ITS LEAST SET: it changes colours alone, and no rule reads a colour.
use Rattle.std.specs.Prelude.{◌↔◌}
use Rattle.std.proofs.Common.{arith, ◌≡◌, Bool, true, false, ◌++◌, refl, ap}
use Rattle.cc_lists.specs.Members.{Among, has}
use Rattle.cc_lists.specs.Least.{system, closure}
use Rattle.cc_lists.proofs.Closure.{closure-decides}
use Rattle.cc_names.specs.declared.name.Name.{Name}
use Rattle.cc_names.specs.declared.kind.Colour.{Colour}
use Rattle.cc_names.specs.declared.kind.Colour.TheVariants.{White, Gray, Black}
use Rattle.cc_names.specs.Names.{same_name}
use Rattle.cc_names.proofs.NameTests.{same_name-exact}
use Rattle.cc_model.specs.Slots.{contents}
use Rattle.cc_model.specs.Entries.{joints, rules_of}
use Rattle.cc_model.specs.Heap.{Heap, HeapScript}
use Rattle.cc_model.specs.View.{script_slot_edges}
use Rattle.cc_model.specs.Exposure.{slots_of_scripts}
use Rattle.cc_model.specs.Colours.{IsBlack, black_names, scripts_held, IsMarked, marked_names, IsGray, colour_by, with_colour, marked, HasColours}
use Rattle.cc_lists.proofs.ListWrites.{each-map, flat_map-kept}

-- Colours by two tests

-- the colour by whether something is black and whether it is marked
abbrev pub colour_of : Bool → Bool → Colour
colour_of b m = elim b [ true ↦ Black | false ↦ elim m [ true ↦ Gray | false ↦ White ] ]

-- black by the first test
pub colour_of-black : (b m : Bool) → colour_of b m ≡ Black → b ≡ true
colour_of-black b m e = grind arith

-- gray by the second alone
colour_of-gray : (b m : Bool) → colour_of b m ≡ Gray → (b ≡ false) × (m ≡ true)
colour_of-gray b m e = grind arith

-- white by neither
pub colour_of-white : (b m : Bool) → colour_of b m ≡ White → (b ≡ false) × (m ≡ false)
colour_of-white b m e = grind arith

-- The lists of names decide

-- a name is black where it stands in the list of black names
pub black-decided : (h : Heap) (x : Name) → (has same_name (black_names h) x ≡ true) ↔ IsBlack h x
black-decided h x = closure-decides same_name same_name-exact (system (contents h.script_registers) (slots_of_scripts h) (rules_of (joints h.entries))) x

-- and marked where it stands in the list of marked names
pub marked-decided : (h : Heap) (x : Name) → (has same_name (marked_names h) x ≡ true) ↔ IsMarked h x
marked-decided h x = closure-decides same_name same_name-exact (system (black_names h ++ scripts_held h) (slots_of_scripts h) (rules_of (joints h.entries))) x

-- Marking changes colours alone

-- the script object as it is after marking
abbrev pub as_marked : Heap → HeapScript → HeapScript
as_marked h o = with_colour (colour_by (black_names h) (marked_names h) o.name) o

-- edges over script slots stay
slots_of_scripts-marked : (h : Heap) → slots_of_scripts (marked h) ≡ slots_of_scripts h
unfolding marked
slots_of_scripts-marked h = flat_map-kept script_slot_edges (as_marked h) h.scripts (λ o. refl)

-- the black names stay
black_names-marked : (h : Heap) → black_names (marked h) ≡ black_names h
unfolding marked
black_names-marked h = ap (λ edges. closure same_name (system (contents h.script_registers) edges (rules_of (joints h.entries)))) (slots_of_scripts-marked h)

-- and so do the marked names
pub marked_names-marked : (h : Heap) → marked_names (marked h) ≡ marked_names h
unfolding marked
marked_names-marked h = search (black_names-marked, slots_of_scripts-marked)

-- The colours after marking

-- after marking the colour of each script object is that by the names that are black and those that are marked
colour-marked : (h : Heap) (o : HeapScript) → Among o (marked h).scripts → o.colour ≡ colour_by (black_names h) (marked_names h) o.name
unfolding marked
colour-marked h = each-map (λ o. o.colour ≡ colour_by (black_names h) (marked_names h) o.name) (as_marked h) h.scripts (λ o m. refl)

-- THE COLOURS AFTER MARKING are those of marking.
pub HasColours-marked : (h : Heap) → HasColours (marked h)
HasColours-marked h o m = grind (arith, colour-marked, black_names-marked, marked_names-marked)

-- What is black after marking is what is black by the rules.
pub black-marked : (h : Heap) (o : HeapScript) → Among o (marked h).scripts → (o.colour ≡ Black) ↔ IsBlack h o.name
black-marked h o m = grind (arith, black-decided, colour_of-black, colour-marked)

-- What is gray after marking is what is gray by the rules.
pub gray-marked : (h : Heap) (o : HeapScript) → Among o (marked h).scripts → (o.colour ≡ Gray) ↔ IsGray h o.name
gray-marked h o m = grind (arith, colour_of-gray, colour-marked, marked-decided, black-decided)
