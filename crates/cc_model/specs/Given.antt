-- WHAT IS STILL GIVEN: what the registers, and the natives of the heaps that were not unlinked, lead to. A weak reference can bring such a
-- native back, with all that it leads to; what was unlinked is never given again.
use Rattle.std.specs.Prelude.{◌≡◌, Bool, false, not, IsTrue, List, ◌++◌, map, filter, Option, None, Some, IfSome}
use Rattle.std.specs.List.{list_any}
use Rattle.cc_lists.specs.Members.{Among}
use Rattle.cc_names.specs.declared.name.Name.{Name}
use Rattle.cc_names.specs.Names.{native, natives_in}
use Rattle.cc_model.specs.Entries.{Entry}
use Rattle.cc_model.specs.Graph.{Graph}
use Rattle.cc_model.specs.Reached.{edges_of, roots_of}
use Rattle.cc_model.specs.Heap.{Heap, HeapNative, native_at}

-- WHAT SOME NAMES LEAD TO in the graph: the least set that has them, is closed under edges, has the value of each entry whose map
-- and key it has, and the key of each entry whose key is a proxy and whose map and delegate it has
pub data GivenFrom (g : Graph) (xs : List Name) : Name → Type 0 where
  given : (x : Name) → Among x xs → GivenFrom g xs x
  given_edge : (x y : Name) → GivenFrom g xs x → Among y (edges_of g x) → GivenFrom g xs y
  given_value : (e : Entry) → Among e g.entries → GivenFrom g xs e.the_map → GivenFrom g xs e.key → GivenFrom g xs e.value
  given_key : (e : Entry) (d : Name) → Among e g.entries → e.delegate ≡ Some d → GivenFrom g xs e.the_map → GivenFrom g xs d → GivenFrom g xs e.key

-- whether a native was not unlinked
abbrev pub is_living : HeapNative → Bool
is_living n = not n.unlinked

-- the natives of the heaps that were not unlinked
abbrev pub living_names : Heap → List Name
living_names h = map (λ n. native n.number) (filter is_living h.natives)

-- WHAT IS STILL GIVEN
abbrev pub Given : Heap → Graph → Name → Type 0
Given h g = GivenFrom g (roots_of g ++ living_names h)

-- The same of one native, as a test

-- whether a native is in the heaps and was not unlinked
abbrev pub is_usable_native : Option HeapNative → Bool
is_usable_native None = false
is_usable_native (Some n) = is_living n

abbrev pub is_usable : Heap → Name → Bool
is_usable h x = list_any (λ k. is_usable_native (native_at h k)) (natives_in x)

-- what a weak register may bring back: such a native, or nothing
abbrev pub MayComeBack : Heap → Option Name → Type 0
MayComeBack h x = IfSome x (λ y. IsTrue (is_usable h y))
