-- WHEN THE HEAPS ARE WELL FORMED: every name that they mention is in them, and their lists are in order.
use Rattle.std.specs.Prelude.{Bool, true, false, is_some, Some, ◌≡◌, ℕ, ◌≤◌, ◌==◌, true, List, [], ◌++◌, map, length, count_by}
use Rattle.cc_lists.specs.Members.{Among}
pub use Rattle.cc_lists.specs.Walks.{IsRising}
use Rattle.cc_names.specs.declared.name.Name.{Name}
use Rattle.cc_names.specs.declared.name.Name.TheVariants as name
use Rattle.cc_names.specs.declared.kind.Kind.{Kind}
use Rattle.cc_names.specs.declared.kind.Kind.TheVariants.{Plain, Reflector, Map, Proxy}
use Rattle.cc_names.specs.Names.{native, object, reflector, same_name}
use Rattle.cc_names.specs.Sizes.{most_slots}
use Rattle.cc_model.specs.Banks.{IsBankLength}
use Rattle.cc_model.specs.Slots.{Slots, contents, reflector_slots}
use Rattle.cc_model.specs.Entries.{Entry, is_entry_of}
use Rattle.cc_model.specs.Heap.{Heap, HeapNative, HeapScript, Buffered}

abbrev pub native_names : Heap → List Name
native_names h = map (λ n. native n.number) h.natives

abbrev pub script_names : Heap → List Name
script_names h = map (λ o. o.name) h.scripts

-- the names of all objects
abbrev pub names_there : Heap → List Name
names_there h = native_names h ++ script_names h

-- a script object's kind is that of its name, and has as many slots as it may
abbrev pub FitsName : Name → Kind → Slots → Type 0
FitsName (name.Native k) kind slots = ⊥
FitsName (name.Script k) Plain slots = length slots ≤ most_slots
FitsName (name.Script k) Map slots = slots ≡ []
FitsName (name.Script k) Proxy slots = slots ≡ []
FitsName (name.Script k) Reflector slots = ⊥
FitsName (name.Reflector k) Reflector slots = length slots ≡ reflector_slots
FitsName (name.Reflector k) Plain slots = ⊥
FitsName (name.Reflector k) Map slots = ⊥
FitsName (name.Reflector k) Proxy slots = ⊥

-- a proxy has a delegate, and no other object has one
abbrev pub is_proxy_kind : Kind → Bool
is_proxy_kind Plain = false
is_proxy_kind Reflector = false
is_proxy_kind Map = false
is_proxy_kind Proxy = true

-- the delegate of an entry is that of its key
abbrev pub HasDelegate : Heap → Entry → Type 0
HasDelegate h e = (o : HeapScript) → Among o h.scripts → o.name ≡ e.key → o.delegate ≡ e.delegate

-- an entry's map is a weak map that is there, its key and its value are script objects that are there
pub record HasMembers (h : Heap) (e : Entry) : Type 0 where
  pub the_map : (o : HeapScript) × Among o h.scripts × (o.name ≡ e.the_map) × (o.kind ≡ Map)
  pub key : Among e.key (script_names h)
  pub value : Among e.value (script_names h)
  pub delegate : HasDelegate h e

pub record IsWellFormed (h : Heap) : Type 0 where
  -- native registers hold natives, script registers script objects
  pub native_registers : (x : Name) → Among x (contents h.native_registers) → Among x (native_names h)
  pub script_registers : (x : Name) → Among x (contents h.script_registers) → Among x (script_names h)
  pub registers : IsBankLength (length h.native_registers) × IsBankLength (length h.script_registers)
  -- natives by rising number, numbers that were made, no more slots than are allowed, which hold what is there
  pub rising : IsRising (map (λ n. n.number) h.natives)
  pub native_numbers : (n : HeapNative) → Among n h.natives → (1 ≤ n.number) × (n.number ≤ h.natives_made)
  pub native_slots : (n : HeapNative) → Among n h.natives → length n.slots ≤ most_slots
  pub native_contents : (n : HeapNative) (x : Name) → Among n h.natives → Among x (contents n.slots) → Among x (names_there h)
  -- script objects with distinct names, numbers that were made, kinds that fit; they hold script objects that are there
  pub distinct : (x : Name) → count_by (same_name x) (script_names h) ≤ 1
  pub object_numbers : (k : ℕ) → Among (object k) (script_names h) → (1 ≤ k) × (k ≤ h.scripts_made)
  pub kinds : (o : HeapScript) → Among o h.scripts → FitsName o.name o.kind o.slots
  pub script_contents : (o : HeapScript) (x : Name) → Among o h.scripts → Among x (contents o.slots) → Among x (script_names h)
  -- proxies, and no others, have a delegate, a script object that is there
  pub delegates : (o : HeapScript) → Among o h.scripts → is_some o.delegate ≡ is_proxy_kind o.kind
  pub delegate_there : (o : HeapScript) (d : Name) → Among o h.scripts → o.delegate ≡ Some d → Among d (script_names h)
  -- a reflector has its native, and a preserved one is there
  pub reflected : (k : ℕ) → Among (reflector k) (script_names h) → Among (native k) (native_names h)
  pub preserved : (n : HeapNative) → Among n h.natives → n.preserved ≡ true → Among (reflector n.number) (script_names h)
  -- entries of what is there, at most one for each map and key
  pub entries : (e : Entry) → Among e h.entries → HasMembers h e
  pub one_entry : (m k : Name) → count_by (is_entry_of m k) h.entries ≤ 1
  -- the buffer has natives that are there, each at most once
  pub buffered : (b : Buffered) → Among b h.buffer → Among (native b.number) (native_names h)
  pub buffered_once : (k : ℕ) → count_by (λ b. b.number == k) h.buffer ≤ 1
  -- no more was made than the limits allow
  pub natives_allowed : h.natives_made ≤ h.limits.natives
  pub scripts_allowed : h.scripts_made ≤ h.limits.scripts
