-- A MARKING CARRIED ON OVER ENTRIES: objects have marks already, and these go on from what has them.
use Rattle.std.specs.Prelude.{◌≤◌, IsTrue, ℕ, ◌==◌, Bool, not, ◌&&◌, List, count_by}
use Rattle.cc_lists.specs.Members.{Among, has}
use Rattle.cc_names.specs.declared.kind.Colour.{Colour}
use Rattle.cc_names.specs.declared.kind.Colour.TheVariants.{Gray, Black}
use Rattle.cc_script.specs.Objects.{Object, HaveOwnKeys, raised_among}
use Rattle.cc_script.specs.Marking.{Marking}
use Rattle.cc_script.specs.Walking.{edges}
use Rattle.cc_weakmaps.specs.Entries.{KeyedEntry}
use Rattle.cc_marking.specs.Joints.{Joint, joints}
use Rattle.cc_marking.specs.Levels.{has_at_least, keys_at_least}
use Rattle.cc_marking.specs.Marking.{AreEntriesThere, keys_marked}

-- what has at least a colour gives it to all that a mark from there comes to
abbrev pub carried_on : Colour → List KeyedEntry → List Object → List Object
carried_on to entries objects = raised_among (keys_marked objects entries (keys_at_least to objects)) to objects

-- black goes on first, and gray then
abbrev pub marked_on : List KeyedEntry → List Object → List Object
marked_on entries objects = carried_on Gray entries (carried_on Black entries objects)

-- an object has the colour, and does not wait to be looked into
abbrev pub is_looked_into : Colour → Marking → ℕ → Bool
is_looked_into to m key = has_at_least to m.objects key && not (has ◌==◌ m.waiting key)

-- what waits has the colour, and waits once
pub record IsTidy (to : Colour) (m : Marking) : Type 0 where
  pub risen : (key : ℕ) → Among key m.waiting → IsTrue (has_at_least to m.objects key)
  pub once : (key : ℕ) → count_by (λ j. key == j) m.waiting ≤ 1

-- BEFORE what waits is looked into: what does not wait gave its colour on, over slots, to its delegate, and over the entries that
-- it has together with another such. Entries name what is there, and each object has its own key
pub record IsCarriedSoFar (to : Colour) (entries : List KeyedEntry) (m : Marking) : Type 0 where
  pub tidy : IsTidy to m
  pub there : AreEntriesThere m.objects entries
  pub own : HaveOwnKeys m.objects
  pub closed : (x y : ℕ) → Among (x, y) (edges m.objects) → IsTrue (is_looked_into to m x) → IsTrue (has_at_least to m.objects y)
  pub followed : (j : Joint) → Among j (joints entries) → IsTrue (is_looked_into to m j.the_map) → IsTrue (is_looked_into to m j.key) →
      IsTrue (has_at_least to m.objects j.value)
