-- WHAT A MARKING LEAVES BLACK, GRAY AND WHITE, by keys, for two lists of roots: over slots, from proxies to their delegates,
-- and over the entries of weak maps.
use Rattle.std.specs.Prelude.{◌≡◌, ◌↔◌, IsTrue, ℕ, ◌==◌, List, ◌++◌, Some}
use Rattle.cc_lists.specs.Members.{Among}
use Rattle.cc_lists.specs.Least.{Rule, Least, system, closure}
use Rattle.cc_names.specs.declared.kind.Colour.TheVariants.{Gray, Black}
use Rattle.cc_script.specs.Objects.{Object, coloured_by, delegate_at, is_there}
use Rattle.cc_script.specs.Walking.{edges}
use Rattle.cc_weakmaps.specs.Entries.{KeyedEntry}
use Rattle.cc_marking.specs.Joints.{Joint, joints, rules_of}

-- from these keys over slots, to delegates, and over entries
abbrev pub mark_rules : List Object → List KeyedEntry → List ℕ → List (Rule ℕ)
mark_rules objects entries keys = system keys (edges objects) (rules_of (joints entries))

-- THE SET of the keys that a mark from these keys comes to
abbrev pub IsMarkedFrom : List Object → List KeyedEntry → List ℕ → ℕ → Type 0
IsMarkedFrom objects entries keys = Least (mark_rules objects entries keys)

-- and the same as a list
abbrev pub keys_marked : List Object → List KeyedEntry → List ℕ → List ℕ
keys_marked objects entries keys = closure ◌==◌ (mark_rules objects entries keys)

-- black is what a mark from the first roots comes to
abbrev pub black_keys : List Object → List KeyedEntry → List ℕ → List ℕ
black_keys objects entries blacks = keys_marked objects entries blacks

-- marked is what one from the black ones and the second roots comes to; gray is what is marked and not black
abbrev pub marked_keys : List Object → List KeyedEntry → List ℕ → List ℕ → List ℕ
marked_keys objects entries blacks grays = keys_marked objects entries (black_keys objects entries blacks ++ grays)

-- A MARKING
abbrev pub marked_from : List ℕ → List ℕ → List KeyedEntry → List Object → List Object
marked_from blacks grays entries objects = coloured_by (black_keys objects entries blacks) (marked_keys objects entries blacks grays) objects

-- THE COLOURS ARE THE LEAST SETS: black is what a mark from the first roots comes to, gray what one from both comes to and
-- is not black
pub record AreLeast (blacks grays : List ℕ) (entries : List KeyedEntry) (old new : List Object) : Type 0 where
  pub black : (o : Object) → Among o new → (o.colour ≡ Black) ↔ IsMarkedFrom old entries blacks o.key
  pub gray : (o : Object) → Among o new → (o.colour ≡ Gray) ↔ (IsMarkedFrom old entries (blacks ++ grays) o.key × (¬ (IsMarkedFrom old entries blacks o.key)))

-- what a joint names is there
pub record IsJointThere (objects : List Object) (j : Joint) : Type 0 where
  pub the_map : IsTrue (is_there objects j.the_map)
  pub key : IsTrue (is_there objects j.key)
  pub value : IsTrue (is_there objects j.value)

-- what an entry names is there
pub record IsEntryThere (objects : List Object) (e : KeyedEntry) : Type 0 where
  pub the_map : IsTrue (is_there objects e.the_map)
  pub key : IsTrue (is_there objects e.key)
  pub value : IsTrue (is_there objects e.value)
  pub delegate : (d : ℕ) → e.delegate ≡ Some d → IsTrue (is_there objects d)

abbrev pub AreEntriesThere : List Object → List KeyedEntry → Type 0
AreEntriesThere objects es = (e : KeyedEntry) → Among e es → IsEntryThere objects e

-- the delegate that stands with an entry is that of its key, and none where the key has none
abbrev pub AreDelegatesOfKeys : List Object → List KeyedEntry → Type 0
AreDelegatesOfKeys objects es = (e : KeyedEntry) → Among e es → e.delegate ≡ delegate_at objects e.key
