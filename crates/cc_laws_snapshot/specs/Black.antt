-- BLACK IN A SNAPSHOT by rules that are spelled out: why a node was held when the collection began, or was touched since.
use Rattle.std.specs.Prelude.{◌≡◌, ℕ, ◌<◌, IsTrue, Some}
use Rattle.cc_lists.specs.Members.{Among}
use Rattle.cc_names.specs.declared.name.Name.{Name}
use Rattle.cc_names.specs.Names.{native, is_script}
use Rattle.cc_model.specs.View.{View}
use Rattle.cc_model.specs.Snapshot.{Snapshot, Mapping, traversed, noted_to}
use Rattle.cc_model.specs.Fresh.{node, IsNode}

pub data IsBlackByRules (v : View) (s : Snapshot) : Name → Type 0 where
  -- a native node that was touched: it stands in the buffer now
  touched : (k : ℕ) → IsNode s (native k) → Among (native k) v.buffer → IsBlackByRules v s (native k)
  -- a native node of which more references were sampled than are noted: something else holds it
  held_from_elsewhere : (k sampled : ℕ) → Among (node (native k) (traversed (Some sampled))) s.nodes → noted_to s (native k) < sampled →
      IsBlackByRules v s (native k)
  -- a script node that is black in the heaps now
  black_now : (x : Name) → IsNode s x → IsTrue (is_script x) → Among x v.black → IsBlackByRules v s x
  -- what a black node refers to, by a noted reference
  by_reference : (x y : Name) → Among (x, y) s.references → IsBlackByRules v s x → IsBlackByRules v s y
  -- the value of a mapping whose map and key are black, each where it has one
  by_mapping : (m : Mapping) → Among m s.mappings →
      ((x : Name) → m.the_map ≡ Some x → IsBlackByRules v s x) → ((x : Name) → m.key ≡ Some x → IsBlackByRules v s x) →
      IsBlackByRules v s m.value
