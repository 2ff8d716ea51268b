-- THE COLOURS THAT A MARKING LEAVES ARE THE LEAST SETS: the lists of keys have what the rules derive, and no more.
use Rattle.std.specs.Prelude.{◌↔◌}
use Rattle.std.proofs.Common.{◌≡◌, ℕ, ◌==◌, Bool, true, false, List, ◌++◌, ⊎_elim, arith}
use Rattle.std.proofs.lemmas.Bool.{true≢false}
use Rattle.cc_lists.specs.Members.{Among, has}
use Rattle.cc_lists.proofs.ListWrites.{each-map}
use Rattle.cc_lists.proofs.Members.{Among-append, Among-left, Among-right, has-among, has-there}
use Rattle.cc_lists.proofs.Numbers.{number-exact}
use Rattle.cc_names.specs.declared.kind.Colour.TheVariants.{Gray, Black}
use Rattle.cc_script.specs.Objects.{Object, colour_by}
use Rattle.cc_weakmaps.specs.Entries.{KeyedEntry}
use Rattle.cc_marking.specs.Marking.{AreLeast, IsMarkedFrom, black_keys, marked_keys, marked_from}
use Rattle.cc_marking.proofs.Marks.{marked-again, marked-decided, marked-root}
use Rattle.cc_marking.proofs.Steps.{colour_by_tests}

-- black by the first test
by_tests-black : (b m : Bool) → (colour_by_tests b m ≡ Black) ↔ (b ≡ true)
by_tests-black b m = grind (arith)

-- gray by the second alone
by_tests-gray : (b m : Bool) → (colour_by_tests b m ≡ Gray) ↔ ((b ≡ false) × (m ≡ true))
by_tests-gray b m = grind (arith, true≢false)

module _ (objects : List Object) (entries : List KeyedEntry) (blacks grays : List ℕ) where
  abbrev black : List ℕ
  black = black_keys objects entries blacks

  abbrev marked : List ℕ
  marked = marked_keys objects entries blacks grays

  -- a key is black where a mark from the first roots comes to it,
  black-decided : (key : ℕ) → (has ◌==◌ black key ≡ true) ↔ IsMarkedFrom objects entries blacks key
  black-decided = marked-decided objects entries blacks

  -- and marked where one from both does: from the black ones it comes no further than from the first roots
  black-both : (key : ℕ) → Among key (black ++ grays) → IsMarkedFrom objects entries (blacks ++ grays) key
  black-both key m = ⊎_elim
      (λ l. marked-again objects entries blacks (blacks ++ grays) (λ x n. marked-root objects entries (blacks ++ grays) x (Among-left x blacks grays n)) key
      ((black-decided key).0 (has-there ◌==◌ number-exact black key l)))
      (λ r. marked-root objects entries (blacks ++ grays) key (Among-right key blacks grays r))
      (Among-append key black grays m)

  both-black : (key : ℕ) → Among key (blacks ++ grays) → IsMarkedFrom objects entries (black ++ grays) key
  both-black key m = marked-root objects entries (black ++ grays) key (⊎_elim
      (λ l. Among-left key black grays (has-among ◌==◌ number-exact black key ((black-decided key).1 (marked-root objects entries blacks key l))))
      (λ r. Among-right key black grays r)
      (Among-append key blacks grays m))

  both-decided : (key : ℕ) → (has ◌==◌ marked key ≡ true) ↔ IsMarkedFrom objects entries (blacks ++ grays) key
  both-decided key = grind (arith, marked-decided, marked-again, black-both, both-black)

  -- the colour of each object
  marked-colour : (o : Object) → Among o (marked_from blacks grays entries objects) → o.colour ≡ colour_by black marked o.key
  marked-colour = search (each-map)

  -- whether a key is black
  abbrev is_black : ℕ → Bool
  is_black key = has ◌==◌ black key

  -- what no mark from the first roots comes to is not black
  unmarked-not_black : (key : ℕ) → ¬ (IsMarkedFrom objects entries blacks key) → is_black key ≡ false
  unmarked-not_black key none = grind (arith, black-decided)

  -- THE LEAST SETS.
  pub marked-least : (new : List Object) → new ≡ marked_from blacks grays entries objects → AreLeast blacks grays entries objects new
  marked-least new e = grind (arith, marked-colour, by_tests-black, black-decided, by_tests-gray, both-decided, true≢false, unmarked-not_black)
