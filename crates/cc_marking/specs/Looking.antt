-- A MARKING BY ENTRIES: which values and keys get the colour, one entry after another, and how often entries are still to be looked
-- at.
use Rattle.std.specs.Prelude.{ℕ, zero, suc, ◌+◌, Bool, true, false, ◌&&◌, cond, List, [], ◌∷◌, Option, Some, None, slice_get}
use Rattle.cc_names.specs.declared.kind.Colour.{Colour}
use Rattle.cc_script.specs.Marking.{Marking, raise_key}
use Rattle.cc_weakmaps.specs.Entries.{KeyedEntry}
use Rattle.cc_weakmaps.specs.Index.{has_object}
use Rattle.cc_marking.specs.Joints.{Joint, joints_of}
use Rattle.cc_marking.specs.Levels.{has_at_least}

-- these are started, one after another
abbrev pub with_all_started : Colour → List ℕ → Marking → Marking
with_all_started to [] m = m
with_all_started to (key ∷ keys) m = with_all_started to keys (raise_key to key m)

-- what a joint gives is started where the other two have at least the colour
abbrev pub with_joint : Colour → Joint → Marking → Marking
with_joint to j m = elim (has_at_least to m.objects j.the_map && has_at_least to m.objects j.key) [ true ↦ raise_key to j.value m | false ↦ m ]

-- so of each, one after another
abbrev pub with_joints : Colour → List Joint → Marking → Marking
with_joints to [] m = m
with_joints to (j ∷ js) m = with_joints to js (with_joint to j m)

-- so of an entry: its key where map and delegate have the colour, and then its value where map and key have
abbrev pub with_given : Colour → KeyedEntry → Marking → Marking
with_given to e m = with_joints to (joints_of e) m

-- so of an entry that has an object for its map, its key or its delegate; of another, and where there is none, nothing is
abbrev pub with_given_of : Colour → ℕ → Option KeyedEntry → Marking → Marking
with_given_of to object None m = m
with_given_of to object (Some e) m = elim (has_object object e) [ true ↦ with_given to e m | false ↦ m ]

-- so at each place below another, the last one first
abbrev pub with_all_given : Colour → List KeyedEntry → ℕ → ℕ → Marking → Marking
with_all_given to es object zero m = m
with_all_given to es object (suc n) m = with_all_given to es object n (with_given_of to object (slice_get es n) m)

-- one side more, where it is there and passes no test
abbrev pub side_left : (ℕ → Bool) → Option ℕ → ℕ
side_left looked None = 0
side_left looked (Some k) = cond (looked k) 0 1

-- how many sides entries have, maps, keys and delegates, that pass no test
abbrev pub sides_left : (ℕ → Bool) → List KeyedEntry → ℕ
sides_left looked [] = 0
sides_left looked (e ∷ es) = cond (looked e.the_map) 0 1 + (cond (looked e.key) 0 1 + (side_left looked e.delegate + sides_left looked es))
