-- WHAT IS LOST: a collection that begins takes it, whenever that is, as long as calls are handed what is reached.
use Rattle.std.specs.Prelude.{ℕ, ◌⊎◌, IsTrue, List}
use Rattle.cc_lists.specs.Members.{Among}
use Rattle.cc_names.specs.declared.name.Name.{Name}
use Rattle.cc_names.specs.Names.{native, is_script}
use Rattle.cc_model.specs.Entries.{Joint}
use Rattle.cc_model.specs.Fresh.{IsLiving, IsScriptThere}
use Rattle.cc_model.specs.View.{View}

-- a script object that a native holds, what a joint gives, and what these lead to
pub data IsHeldUp (edges : List (Name × Name)) (joints : List Joint) : Name → Type 0 where
  held : (k : ℕ) (x : Name) → IsTrue (is_script x) → Among (native k, x) edges → IsHeldUp edges joints x
  given : (e : Joint) → Among e joints → IsHeldUp edges joints e.value
  along : (x y : Name) → Among (x, y) edges → IsHeldUp edges joints x → IsHeldUp edges joints y

-- NAMES THAT ARE LOST: they are there, no register has one, only such names lead to one, and none is black. Each script object of them is held
-- up, as a script collection leaves it: so a collection that begins meets it
pub record AreLost (v : View) (ds : List Name) : Type 0 where
  pub natives : (k : ℕ) → Among (native k) ds → IsLiving v (native k)
  pub scripts : (x : Name) → Among x ds → IsTrue (is_script x) → IsScriptThere v x
  pub unregistered : (x : Name) → Among x ds → ¬ (Among x v.registers)
  pub unmarked : (x : Name) → Among x ds → ¬ (Among x v.black)
  -- who holds one is one; so is a member of a joint that gives one
  pub holder : (x y : Name) → Among (x, y) v.edges → Among y ds → Among x ds
  pub joint : (e : Joint) → Among e v.joints → Among e.value ds → Among e.the_map ds ⊎ Among e.key ds
  pub held_up : (x : Name) → Among x ds → IsTrue (is_script x) → IsHeldUp v.edges v.joints x
