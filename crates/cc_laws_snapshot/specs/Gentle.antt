-- CHANGES THAT KEEP EVERY SNAPSHOT FRESH.
use Rattle.std.specs.Prelude.{◌≡◌, ℕ, ◌<◌, ◌≤◌, ◌⊎◌, count_by}
use Rattle.cc_lists.specs.Members.{Among}
use Rattle.cc_names.specs.declared.name.Name.{Name}
use Rattle.cc_names.specs.Names.{native}
use Rattle.cc_model.specs.Entries.{Joint}
use Rattle.cc_model.specs.View.{View, between, scripts_there}
use Rattle.cc_model.specs.Colours.{HasColourInvariant}

-- A change from one view to another that keeps every snapshot fresh, whatever the snapshot is. `made` and `now_made`
-- are how many natives were made before and after it.
pub record IsGentle (made now_made : ℕ) (h k : View) : Type 0 where
  -- no number is used again
  pub made_more : made ≤ now_made
  -- who is outside the buffer afterwards was so before, with the same count, and each object holds it as often as before
  pub outside : (u : Name) (c : ℕ) → Among (u, c) k.natives → ¬ (Among u k.buffer) → Among (u, c) h.natives × (¬ (Among u h.buffer))
  pub as_often : (u w : Name) (c : ℕ) → Among (u, c) k.natives → ¬ (Among u k.buffer) → count_by (between w u) k.edges ≡ count_by (between w u) h.edges
  -- no gray object gains a holder, a key or a map, and none becomes gray
  pub gray_edge : (x y : Name) → Among (x, y) k.edges → Among y k.gray → Among (x, y) h.edges × Among y h.gray
  pub gray_joint : (e : Joint) → Among e k.joints → Among e.value k.gray → Among e h.joints × Among e.value h.gray
  -- what is black stays black; script objects stay
  pub black_stays : (x : Name) → Among x h.black → Among x k.black
  pub scripts_stay : (x : Name) → Among x (scripts_there h) → Among x (scripts_there k)
  -- a native that is there was there, or is newly made
  pub lives : (i c : ℕ) → Among (native i, c) k.natives → ((d : ℕ) × Among (native i, d) h.natives) ⊎ (made < i)
  -- the colour invariant holds afterwards
  pub colours : HasColourInvariant k
