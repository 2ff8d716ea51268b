-- OTHER COLOURS KEEP THE HEAPS SOUND, so marking does, and a round: no clause speaks of a colour.
use Rattle.std.proofs.Common.{◌≡◌, ℕ, List, refl}
use Rattle.cc_names.specs.declared.name.Name.{Name}
use Rattle.cc_names.specs.Names.{reflector, same_name}
use Rattle.cc_model.specs.Heap.{Heap, HeapScript}
use Rattle.cc_model.specs.Colours.{black_names, marked_names, colour_by, with_colour, coloured_by, marked}
use Rattle.cc_model.specs.Sweep.{sweep}
use Rattle.cc_model.specs.WellFormed.{IsWellFormed, script_names}
use Rattle.cc_model.specs.Counts.{refs_to}
use Rattle.cc_laws_heap.specs.Sound.{IsSound}
use Rattle.cc_laws_heap.specs.Marks.{AreMarksClosed}
use Rattle.cc_laws_heap.specs.Rounds.{FreesNames}
use Rattle.cc_lists.proofs.ListWrites.{map-kept, count_by-kept_map}
use Rattle.cc_laws_heap.proofs.Kept.{ChangesScripts, IsWellFormed-scripts}
use Rattle.cc_laws_heap.proofs.Marking.{HasColours-marked}
use Rattle.cc_laws_heap.proofs.MarkedKept.{AreMarksClosed-colours}
use Rattle.cc_laws_heap.proofs.Swept.{taken-sweep, sweep-frees, sweep-sound}
use Rattle.cc_laws_heap.proofs.FreedNames.{FreesNames-alike}

-- Other colours

-- the script object with the colour of its name
abbrev pub as_coloured : List Name → List Name → HeapScript → HeapScript
as_coloured blacks marks o = with_colour (colour_by blacks marks o.name) o

module _ (blacks marks : List Name) (h : Heap) where
  -- other colours keep the names of script objects
  pub script_names-coloured : script_names (coloured_by blacks marks h) ≡ script_names h
  script_names-coloured = map-kept (λ (o : HeapScript). o.name) (as_coloured blacks marks) h.scripts (λ o. refl)

  -- other colours change neither names nor kinds nor slots
  changes-coloured : IsWellFormed h → ChangesScripts h (as_coloured blacks marks)
  changes-coloured w = search (w.kinds, w.script_contents)

  -- Other colours keep the heaps well formed.
  pub IsWellFormed-coloured : IsWellFormed h → IsWellFormed (coloured_by blacks marks h)
  IsWellFormed-coloured w = IsWellFormed-scripts h (as_coloured blacks marks) w (changes-coloured w)

  -- other colours change no reference
  refs_to-coloured : (k : ℕ) → refs_to (coloured_by blacks marks h) k ≡ refs_to h k
  refs_to-coloured k = rw (count_by-kept_map (λ (o : HeapScript). same_name o.name (reflector k)) (as_coloured blacks marks) h.scripts (λ o. refl)) refl

  -- OTHER COLOURS KEEP THE HEAPS SOUND.
  pub IsSound-coloured : {owned : List ℕ} → IsSound owned h → IsSound owned (coloured_by blacks marks h)
  IsSound-coloured s = search (IsWellFormed-coloured, refs_to-coloured, s.well_formed, s.counts, s.none_zero, s.owned_there)

-- Marking

-- Marking keeps the names of script objects.
pub script_names-marked : (h : Heap) → script_names (marked h) ≡ script_names h
unfolding marked
script_names-marked h = script_names-coloured (black_names h) (marked_names h) h

-- MARKING KEEPS THE HEAPS SOUND.
pub IsSound-marked : (owned : List ℕ) (h : Heap) → IsSound owned h → IsSound owned (marked h)
unfolding marked
IsSound-marked owned h s = IsSound-coloured (black_names h) (marked_names h) h s

-- MARKING CLOSES THE MARKS.
pub AreMarksClosed-marked : {owned : List ℕ} (h : Heap) → IsSound owned h → AreMarksClosed (marked h)
AreMarksClosed-marked {owned} h s = AreMarksClosed-colours (marked h) (HasColours-marked h) (IsSound-marked owned h s).well_formed

-- A round leaves sound heaps,
pub round-sound : {owned : List ℕ} (h : Heap) → IsSound owned h → IsSound owned (sweep (marked h)).heap
round-sound {owned} h s = sweep-sound (marked h) (AreMarksClosed-marked h s) (IsSound-marked owned h s)

-- and what it tells is what it takes out.
pub round-frees : {owned : List ℕ} (h : Heap) → IsSound owned h → (xs : List Name) × FreesNames h xs (sweep (marked h))
unfolding marked
round-frees {owned} h s =
    let m : IsSound owned (marked h) = IsSound-marked owned h s in
    let f = taken-sweep (marked h) m in
    (f.0, FreesNames-alike h (marked h).scripts h.entries f.0 (sweep (marked h)) (script_names-marked h) (sweep-frees (marked h) m))
