-- A WALK FOR C, which begins at nothing and goes on from what it came to.
use Rattle.std.specs.Prelude.{◌≡◌, ◌≤◌, List, Option, Some, None, count_by}
use Rattle.cc_lists.specs.Members.{Among}
use Rattle.cc_lists.specs.Walks.{first_of}
use Rattle.cc_names.specs.declared.name.Name.{Name}
use Rattle.cc_names.specs.Names.{same_name}
use Rattle.cc_model.specs.Checks.{value_at}
use Rattle.cc_model.specs.Heap.{Heap, objects_of}
use Rattle.cc_host.specs.declared.object.Object.{Object}
use Rattle.cc_host.specs.declared.stop.Stop.{Stop}
use Rattle.cc_host.specs.Hosted.{Hosted}
use Rattle.cc_host.specs.Stops.{stop_at, stop_entry, stop_map}
use Rattle.cc_host.specs.Walks.{behind, behind_key, entries_of, objects_in, value_of}

-- THE NEXT OBJECT: the first one, or what stands behind another
abbrev pub next_name : Option Name → List Name → Option Name
next_name None xs = first_of xs
next_name (Some x) xs = behind x xs

-- THE WALK HAS ALL: each object that the calls take, and each once
pub record GoesOverAll (h : Hosted) : Type 0 where
  pub whole : (x : Object) → stop_at h x ≡ None → Among x.name (objects_in h.heaps.heap)
  pub once : (x : Name) → count_by (same_name x) (objects_in h.heaps.heap) ≤ 1

-- THE NEXT ENTRY: the first one, or what stands behind that of a key
abbrev pub next_pair : Option Name → List (Name × Name) → Option (Name × Name)
next_pair None es = first_of es
next_pair (Some k) es = behind_key k es

-- THE WALK HAS ALL ENTRIES of a weak map, and each once
pub record GoesOverEntries (h : Heap) (m : Name) : Type 0 where
  pub whole : (k : Name) → value_of k (entries_of h m) ≡ value_at (objects_of h) (Some m) (Some k)
  pub once : (k : Name) → count_by (λ (e : Name × Name). same_name e.0 k) (entries_of h m) ≤ 1

-- it is asked for of a weak map, and of a key, if there is one
abbrev pub stop_walking : Hosted → Object → Option Object → Option Stop
stop_walking h m None = stop_map h m
stop_walking h m (Some k) = stop_entry h m k
