-- THE HEAPS WITH THEIR KEYS: the definitions' lists, which native stands at which key, the script objects and the
-- entries of weak maps by key, how natives stand in a walk, and what a marking in slices has yet to scan.
use Rattle.std.specs.Prelude.{◌≡◌, ℕ, ◌≤◌, ◌==◌, true, false, List, map, find, Option, Some, None, option_map, option_and_then, count_by}
use Rattle.cc_lists.specs.Members.{Among}
use Rattle.cc_names.specs.declared.name.Name.{Name}
use Rattle.cc_names.specs.declared.name.Name.TheVariants as name
use Rattle.cc_names.specs.Names.{object, reflector, same_name, is_native}
use Rattle.cc_model.specs.Entries.{Entry}
use Rattle.cc_model.specs.Entries as entries
use Rattle.cc_model.specs.Heap.{Heap, HeapNative, HeapScript}
use Rattle.cc_laws_heap.specs.Sound.{IsSound}
use Rattle.cc_names.specs.declared.kind.Walked.{Walked}
use Rattle.cc_counted.specs.Counts.{Counts, key_left, walks_left}
use Rattle.cc_counted.specs.Counts as counts
use Rattle.cc_counted.specs.Owning.{HasKeys}
use Rattle.cc_script.specs.Objects.{Object, AreWhole, name_at}
use Rattle.cc_weakmaps.specs.Entries.{KeyedEntry}
use Rattle.cc_marking.specs.Marking.{AreEntriesThere}
use Rattle.cc_heaps.specs.ToScan.{ToScan}

pub record Keyed : Type 0 where
  pub heap : Heap
  pub keys : List (Option ℕ)
  pub scripts : List Object
  pub entries : List KeyedEntry
  -- of the native at each key
  pub walks : List Walked
  -- none where no marking goes on in slices
  pub marking : Option ToScan

-- Script objects by names

-- the name of what a slot of a script object holds, or of its delegate
abbrev pub name_held : List Object → Option ℕ → Option Name
name_held objects x = option_and_then (name_at objects) x

-- a script object, by what its places hold
abbrev pub named_with : (Option ℕ → Option Name) → Object → HeapScript
named_with hold o = record { name = o.name; kind = o.kind; slots = map hold o.slots; delegate = hold o.delegate; colour = o.colour }

abbrev pub named_object : List Object → Object → HeapScript
named_object objects o = named_with (name_held objects) o

abbrev pub named_objects : List Object → List HeapScript
named_objects objects = map (named_object objects) objects

-- the name of the object at a key; of what is not there, some name
abbrev pub the_name_at : List Object → ℕ → Name
the_name_at objects key = elim (name_at objects key) [ None ↦ object 0 | Some x ↦ x ]

-- an entry by the names of its map, its key, the key's delegate and its value
abbrev pub named_entry : List Object → KeyedEntry → Entry
named_entry objects e = entries.entry (the_name_at objects e.the_map) (the_name_at objects e.key) (name_held objects e.delegate) (the_name_at objects e.value)

abbrev pub named_entries : List Object → List KeyedEntry → List Entry
named_entries objects es = map (named_entry objects) es

-- Natives as the counted heap shows them: there a script object has the key at which it stands for a number

-- the key of the script object of a name
abbrev pub key_of : List Object → Name → Option ℕ
key_of objects x = option_map (λ o. o.key) (find (λ o. same_name o.name x) objects)

abbrev pub keyed_name : List Object → Name → Option Name
keyed_name objects x = elim (is_native x) [ true ↦ Some x | false ↦ option_map object (key_of objects x) ]

abbrev pub keyed_native : List Object → HeapNative → HeapNative
keyed_native objects n = record n { slots = map (λ x. option_and_then (keyed_name objects) x) n.slots }

-- the key of the reflector of native k
abbrev pub reflector_key : List Object → ℕ → Option ℕ
reflector_key objects k = key_of objects (reflector k)

-- of the native at each key
abbrev pub reflectors_by : List Object → List (Option ℕ) → List (Option ℕ)
reflectors_by objects keys = map (λ o. option_and_then (reflector_key objects) o) keys

-- THE COUNTED HEAP in them: a native has the key of the script object that is its reflector by name
abbrev pub counts_of : Keyed → Counts
counts_of v = record {
  natives = map (keyed_native v.scripts) v.heap.natives;
  buffer = v.heap.buffer;
  keys = v.keys;
  reflectors = reflectors_by v.scripts v.keys;
  walks = v.walks;
}

-- the number of the native at a key
abbrev pub number_at : Keyed → ℕ → Option ℕ
number_at v key = counts.number_at (counts_of v) key

abbrev pub the_number : Keyed → ℕ → ℕ
the_number v key = counts.the_number (counts_of v) key

-- the heaps changed, with the same natives and the same script objects
abbrev pub changed_to : Keyed → Heap → Keyed
changed_to v h = record v { heap = h }

-- the heaps changed, in which some natives are no more
abbrev pub left_with : Keyed → Heap → Keyed
left_with v h = record v { heap = h; keys = map (key_left h) v.keys; walks = walks_left h v.keys v.walks }

-- a reflector has the key of its native, and other script objects have that of none
abbrev pub Reflects : Keyed → Name → Option ℕ → Type 0
Reflects v (name.Native k) key = ⊥
Reflects v (name.Script k) key = key ≡ None
Reflects v (name.Reflector k) None = ⊥
Reflects v (name.Reflector k) (Some key) = number_at v key ≡ Some k.0

-- THE JOINT FACTS, where these references are owned besides: the heaps are sound, each object stands at one key, slots of
-- script objects hold what is there, as delegates are, and entries name what is there, a reflector has the key of its native, and limits keep
-- their range.
pub record IsInOrder (owned : List ℕ) (v : Keyed) : Type 0 where
  pub sound : IsSound owned v.heap
  pub keyed : HasKeys (counts_of v)
  pub named : v.heap.scripts ≡ named_objects v.scripts
  pub one_key : (key : ℕ) → count_by (λ o. o.key == key) v.scripts ≤ 1
  pub whole : AreWhole v.scripts
  pub reflecting : (o : Object) → Among o v.scripts → Reflects v o.name o.native
  pub limits : (v.heap.limits.natives ≤ 1000000) × (v.heap.limits.scripts ≤ 1000000)
  pub entries : v.heap.entries ≡ named_entries v.scripts v.entries
  pub entries_there : AreEntriesThere v.scripts v.entries
