-- THE WHITE NATIVES, by rising number.
use Rattle.std.specs.Prelude.{◌≡◌, ℕ, Bool, false, not, List, map, filter, Option, Some, None}
use Rattle.cc_names.specs.declared.name.Name.{Name}
use Rattle.cc_names.specs.Names.{native}
use Rattle.cc_lists.specs.Members.{Among}
use Rattle.cc_model.specs.Graph.{Graph}
use Rattle.cc_model.specs.WellMade.{IsWellMade}
use Rattle.cc_model.specs.Reached.{Reached}
use Rattle.cc_model.specs.WellFormed.{names_there}
use Rattle.cc_model.specs.StandsFor.{StandsFor, shape_at}
use Rattle.cc_model.specs.Heap.{Heap, HeapNative}
use Rattle.cc_model.specs.Snapshot.{Snapshot, white_natives}
use Rattle.cc_model.specs.Fresh.{IsTraversed}
use Rattle.cc_laws_snapshot.specs.Kinds.{IsFreshIn}
use Rattle.cc_graph.specs.Shown.{Shown, number_of, is_black}
use Rattle.cc_heaps.specs.Holders.{is_above}

-- whether a native has a node that is not black
abbrev pub is_white_node : Shown → Option ℕ → Bool
is_white_node g None = false
is_white_node g (Some i) = not (is_black g i)

-- whether the native of a number is white
abbrev pub is_white_number : Shown → ℕ → Bool
is_white_number g k = is_white_node g (number_of g.nodes (native k))

abbrev pub is_white_in : Shown → HeapNative → Bool
is_white_in g n = is_white_number g n.number

-- THE WHITE NATIVES of a graph in the heaps
abbrev pub whites_of : Shown → Heap → List ℕ
whites_of g h = map (λ n. n.number) (filter (is_white_in g) h.natives)

-- those with a number above
abbrev pub whites_above : Shown → Heap → Option ℕ → List ℕ
whites_above g h at = filter (is_above at) (whites_of g h)

-- what a graph's registers reach is there, with the slots and the flag that it had
abbrev pub KeepsReached : Heap → Heap → Type 0
KeepsReached old new = (g : Graph) (x : Name) → IsWellMade g → StandsFor old g → Reached g x →
    Among x (names_there new) × (shape_at new x ≡ shape_at old x)

-- the white natives of a graph are those of a snapshot, which is fresh and traversed
pub record AreWhiteIn (g : Shown) (h : Heap) (s : Snapshot) : Type 0 where
  pub fresh : IsFreshIn h s
  pub traversed : IsTraversed s
  pub natives : whites_of g h ≡ white_natives h s
