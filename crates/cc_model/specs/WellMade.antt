-- WHEN A GRAPH IS WELL MADE: every name that it mentions was made, and an entry's map and key have no other entry.
use Rattle.std.specs.Prelude.{◌≡◌, ℕ, ◌≤◌, Bool, true, ◌&&◌, IsTrue, length, Some, is_some, option_and_then, count_by}
use Rattle.cc_lists.specs.Members.{Among}
use Rattle.cc_names.specs.declared.name.Name.{Name}
use Rattle.cc_names.specs.declared.name.Name.TheVariants as name
use Rattle.cc_names.specs.Names.{object, reflector, is_native, is_script}
use Rattle.cc_names.specs.Sizes.{most_slots, weak_length}
use Rattle.cc_model.specs.Banks.{IsBankLength}
use Rattle.cc_model.specs.Slots.{Slots, contents, reflector_slots}
use Rattle.cc_model.specs.Entries.{Entry, is_entry_of}
use Rattle.cc_model.specs.Graph.{Graph, GraphNative, plain_object, weak_map, proxy, native_in, script_in, delegate_in}

-- whether an object of this name was made
abbrev pub was_made : Graph → Name → Bool
was_made g (name.Native k) = is_some (native_in g k.0)
was_made g (name.Script k) = is_some (script_in g k.0)
was_made g (name.Reflector k) = is_some (option_and_then (λ n. n.reflector) (native_in g k.0))

-- a native that was made; a script object that was made
abbrev pub is_made_native : Graph → Name → Bool
is_made_native g x = is_native x && was_made g x

abbrev pub is_made_script : Graph → Name → Bool
is_made_script g x = is_script x && was_made g x

-- an entry's map is a weak map, its key and its value are script objects
pub record IsMadeEntry (g : Graph) (e : Entry) : Type 0 where
  pub the_map : (k : ℕ) × (e.the_map ≡ object k) × (script_in g k ≡ Some weak_map)
  pub key : IsTrue (is_made_script g e.key)
  pub value : IsTrue (is_made_script g e.value)
  -- and its delegate that of its key
  pub delegate : e.delegate ≡ delegate_in g e.key

pub record IsWellMade (g : Graph) : Type 0 where
  -- native registers hold natives, script registers script objects
  pub registers : IsBankLength (length g.native_registers) × IsBankLength (length g.script_registers)
  pub native_registers : (x : Name) → Among x (contents g.native_registers) → IsTrue (is_made_native g x)
  pub script_registers : (x : Name) → Among x (contents g.script_registers) → IsTrue (is_made_script g x)
  -- weak registers note natives
  pub weak : length g.weak_registers ≡ weak_length
  pub weak_registers : (x : Name) → Among x (contents g.weak_registers) → IsTrue (is_made_native g x)
  -- a native has no more slots than are allowed, which hold what was made; where its reflector is preserved, it was wrapped
  pub native_slots : (k : ℕ) (n : GraphNative) → native_in g k ≡ Some n → length n.slots ≤ most_slots
  pub native_contents : (k : ℕ) (n : GraphNative) (x : Name) → native_in g k ≡ Some n → Among x (contents n.slots) → IsTrue (was_made g x)
  pub preserved : (k : ℕ) (n : GraphNative) → native_in g k ≡ Some n → n.preserved ≡ true → IsTrue (was_made g (reflector k))
  -- a reflector and a plain object hold script objects that were made
  pub reflectors : (k : ℕ) (n : GraphNative) (slots : Slots) → native_in g k ≡ Some n → n.reflector ≡ Some slots → length slots ≡ reflector_slots
  pub reflector_contents : (k : ℕ) (n : GraphNative) (slots : Slots) (x : Name) → native_in g k ≡ Some n → n.reflector ≡ Some slots →
      Among x (contents slots) → IsTrue (is_made_script g x)
  pub script_slots : (k : ℕ) (slots : Slots) → script_in g k ≡ Some (plain_object slots) → length slots ≤ most_slots
  pub script_contents : (k : ℕ) (slots : Slots) (x : Name) → script_in g k ≡ Some (plain_object slots) → Among x (contents slots) → IsTrue (is_made_script g x)
  -- the delegate of a proxy is a script object that was made
  pub delegates : (k : ℕ) (d : Name) → script_in g k ≡ Some (proxy d) → IsTrue (is_made_script g d)
  -- at most one entry for each map and key
  pub entries : (e : Entry) → Among e g.entries → IsMadeEntry g e
  pub one_entry : (m k : Name) → count_by (is_entry_of m k) g.entries ≤ 1
  -- no more was made than the limits allow
  pub natives_allowed : length g.natives ≤ g.limits.natives
  pub scripts_allowed : length g.scripts ≤ g.limits.scripts
