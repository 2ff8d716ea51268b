-- WHAT A COLLECTION THAT BEGINS AFTER `gc` CAN'T MISS.
use Rattle.std.specs.Prelude.{◌≡◌, ℕ, ◌⊎◌, IsTrue, List, [], filter, Option, Some, None}
use Rattle.cc_lists.specs.Members.{Among}
use Rattle.cc_lists.specs.Least.{Least, system}
use Rattle.cc_names.specs.declared.name.Name.{Name}
use Rattle.cc_names.specs.Names.{native, reflector, is_script}
use Rattle.cc_model.specs.declared.item.Event.{Event}
use Rattle.cc_model.specs.declared.item.Event.TheVariants.{Unlinked}
use Rattle.cc_model.specs.Entries.{Joint}
use Rattle.cc_model.specs.Heap.{Heap}
use Rattle.cc_model.specs.View.{View, view}
use Rattle.cc_model.specs.WellFormed.{names_there}
use Rattle.cc_model.specs.Snapshot.{Snapshot, Mapping, node_names}
use Rattle.cc_model.specs.Fresh.{IsLiving, IsScriptThere}
use Rattle.cc_model.specs.Suspected.{IsSuspected, is_unreached}
use Rattle.cc_model.specs.Collecting.{Machine}

-- the candidates of the running collection, or none
abbrev pub candidates_now : Option Snapshot → List ℕ
candidates_now None = []
candidates_now (Some s) = s.candidates

-- no unreached native is forgotten
abbrev pub IsSuspectedNow : Machine → Type 0
IsSuspectedNow m = IsSuspected (view m.heap) (candidates_now m.snapshot)

-- the objects that are there and that no register reaches
abbrev pub garbage : Heap → List Name
garbage h = filter (is_unreached (view h)) (names_there h)

-- a map or key that a mapping names
abbrev pub IsMember : Name → Mapping → Type 0
IsMember p m = (m.the_map ≡ Some p) ⊎ (m.key ≡ Some p)

-- a mapping gives what a joint gives, and has those members of it that are among these names
pub record IsMappingOf (ds : List Name) (m : Mapping) (e : Joint) : Type 0 where
  pub value : e.value ≡ m.value
  pub the_map : Among e.the_map ds → m.the_map ≡ Some e.the_map
  pub key : Among e.key ds → m.key ≡ Some e.key

-- names that only such names hold: no register, no place in the buffer and no black mark has one of them
pub record IsDoomed (v : View) (s : Snapshot) (ds : List Name) : Type 0 where
  -- they are there
  pub natives : (i : ℕ) → Among (native i) ds → IsLiving v (native i)
  pub scripts : (x : Name) → Among x ds → IsTrue (is_script x) → IsScriptThere v x
  pub unregistered : (x : Name) → Among x ds → ¬ (Among x v.registers)
  pub unbuffered : (x : Name) → Among x ds → ¬ (Among x v.buffer)
  pub unmarked : (x : Name) → Among x ds → ¬ (Among x v.black)
  -- who holds one is one; so is a member of a joint that gives one: the map or the key of an entry whose value is one, the map
  -- or the delegate of one whose key is a proxy and is one
  pub holder : (x y : Name) → Among (x, y) v.edges → Among y ds → Among x ds
  pub joint : (e : Joint) → Among e v.joints → Among e.value ds → Among e.the_map ds ⊎ Among e.key ds
  -- and what the snapshot has noted of them is so still: who noted one holds it, and a mapping that gives one is that of a joint. So who
  -- noted one is one, and a mapping that gives one has a member that is one
  pub noted_held : (x y : Name) → Among (x, y) s.references → Among y ds → Among (x, y) v.edges
  pub mapping_held : (m : Mapping) → Among m s.mappings → Among m.value ds → (e : Joint) × Among e v.joints × IsMappingOf ds m e
  -- each is reached over references from a node
  pub covered : (x : Name) → Among x ds → Least (system (node_names s) v.edges []) x

-- a reflector is one of them only where its native is: else `wrap` could bring it back
abbrev pub KeepsReflectors : List Name → Type 0
KeepsReflectors ds = (k : ℕ) → Among (reflector k) ds → Among (native k) ds

-- a collection runs that can't miss them
abbrev pub IsDoomedNow : Machine → List Name → Type 0
IsDoomedNow m ds = (s : Snapshot) × (m.snapshot ≡ Some s) × IsDoomed (view m.heap) s ds

-- each native of them is told unlinked
abbrev pub AreUnlinked : List Name → List Event → Type 0
AreUnlinked ds es = (i : ℕ) → Among (native i) ds → Among (Unlinked (native i)) es
