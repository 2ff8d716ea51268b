-- WHAT IS MARKED AND WHAT IS NOT, once the colours are those of marking: a script object is unmarked where it is not marked by
-- the rules. So the marks are closed, and black is.
use Rattle.std.proofs.Common.{arith, ◌≡◌, true, ◌++◌}
use Rattle.cc_lists.specs.Members.{Among, has}
use Rattle.cc_lists.proofs.Members.{Among-left, Among-right}
use Rattle.cc_lists.proofs.Least.{derive-root}
use Rattle.cc_lists.proofs.Closure.{derived-closure}
use Rattle.cc_names.specs.declared.name.Name.{Name}
use Rattle.cc_names.specs.Names.{same_name}
use Rattle.cc_names.proofs.NameTests.{same_name-exact}
use Rattle.cc_model.specs.Slots.{contents}
use Rattle.cc_model.specs.Entries.{joints, rules_of}
use Rattle.cc_model.specs.Heap.{Heap}
use Rattle.cc_model.specs.Exposure.{slots_of_scripts}
use Rattle.cc_model.specs.Colours.{IsBlack, black_names, scripts_held, IsMarked, marked_names, HasColours}
use Rattle.cc_model.specs.WellFormed.{IsWellFormed, script_names}
use Rattle.cc_laws_heap.specs.Marks.{Stays, AreMarksClosed, IsBlackClosed}
use Rattle.cc_laws_heap.proofs.Led.{led-stays, stays-led, AreMarksClosed-led, IsBlackClosed-led}
use Rattle.cc_laws_heap.proofs.Marking.{black-decided}

module _ (h : Heap) where
  -- what is black is marked
  pub marked-black : (x : Name) → IsBlack h x → IsMarked h x
  marked-black x d = grind (arith, derive-root, Among-left, derived-closure, same_name-exact)

  -- a name in the list of the black ones is marked
  listed-marked : (x : Name) → has same_name (black_names h) x ≡ true → IsMarked h x
  listed-marked x e = marked-black x ((black-decided h x).0 e)

  -- what a script register holds is black
  black-register : (x : Name) → Among x (contents h.script_registers) → IsBlack h x
  black-register x m = derive-root (contents h.script_registers) (slots_of_scripts h) (rules_of (joints h.entries)) x m

module _ (h : Heap) (c : HasColours h) where
  -- What is marked is none of those that are not.
  pub marked-not_unmarked : (x : Name) → IsMarked h x → Stays h x
  marked-not_unmarked x d = led-stays h (black_names h) (black_names h ++ scripts_held h) c x d

  -- A script object that is none of those that are not marked is marked.
  pub marked-other : (x : Name) → Among x (script_names h) → Stays h x → IsMarked h x
  marked-other x m d = stays-led h (black_names h) (black_names h ++ scripts_held h) c (listed-marked h) x m d

  -- THE MARKS OF MARKING ARE CLOSED.
  pub AreMarksClosed-colours : IsWellFormed h → AreMarksClosed h
  AreMarksClosed-colours w = AreMarksClosed-led h (black_names h) (black_names h ++ scripts_held h) c (listed-marked h) w
      (λ x m. marked-black h x (black-register h x m))
      (λ x m. derive-root (black_names h ++ scripts_held h) (slots_of_scripts h) (rules_of (joints h.entries)) x (Among-right x (black_names h) (scripts_held h) m))

  -- BLACK OF MARKING IS CLOSED.
  pub IsBlackClosed-colours : IsBlackClosed h
  IsBlackClosed-colours = IsBlackClosed-led h (contents h.script_registers) (marked_names h) c (black-register h)
