-- WHERE A MARKING BEGINS: the keys that script registers hold, and those that natives hold, in slots or as preserved
-- reflectors.
use Rattle.std.specs.Prelude.{ℕ, ◌≤◌, ◌==◌, true, false, ◌∷◌, ◌++◌, List, [], drop, filter, flat_map, length, map, option_map, option_to_list, nat_lt, Option, Some, None, IfSome, IsSome}
use Rattle.cc_lists.specs.Members.{Among}
use Rattle.cc_names.specs.declared.name.Name.{Name}
use Rattle.cc_names.specs.declared.name.Name.TheVariants as name
use Rattle.cc_names.specs.declared.number.NKey.{NKey}
use Rattle.cc_names.specs.declared.number.SKey.{SKey}
use Rattle.cc_names.specs.Sizes.{most_slots}
use Rattle.cc_names.specs.Names.{object}
use Rattle.cc_names.specs.Places.{native_places}
use Rattle.cc_model.specs.Slots.{Slots, contents}
use Rattle.cc_model.specs.Heap.{HeapNative}
use Rattle.cc_counted.specs.Counts.{Counts, number_at, the_number, references_of}
use Rattle.cc_counted.specs.Owning.{HasKeys}

-- the keys that registers hold
abbrev pub keys_in_registers : List (Option SKey) → List ℕ
keys_in_registers registers = map (λ k. k.0) (flat_map option_to_list registers)

-- the key of a script object, as the counted heap names it
abbrev pub key_in : Name → List ℕ
key_in (name.Native k) = []
key_in (name.Script k) = k.0 ∷ []
key_in (name.Reflector k) = []

-- the keys that slots hold
abbrev pub keys_in : Slots → List ℕ
keys_in slots = flat_map key_in (contents slots)

-- the key of the reflector of native k, which stands where the number k does
abbrev pub reflector_by : List (Option ℕ) → List (Option ℕ) → ℕ → Option ℕ
reflector_by [] reflectors k = None
reflector_by (o ∷ os) [] k = None
reflector_by (None ∷ os) (r ∷ rs) k = reflector_by os rs k
reflector_by (Some j ∷ os) (r ∷ rs) k = elim (j == k) [ true ↦ r | false ↦ reflector_by os rs k ]

-- the references of a native: its places
abbrev pub references_in : Counts → HeapNative → Slots
references_in c n = native_places n.slots n.preserved (option_map object (reflector_by c.keys c.reflectors n.number))

-- the keys that natives of a counted heap hold
abbrev pub keys_held : Counts → List HeapNative → List ℕ
keys_held c natives = flat_map (λ n. keys_in (references_in c n)) natives

-- the natives with greater numbers than that at a key
abbrev pub natives_behind : Counts → ℕ → List HeapNative
natives_behind c key = filter (λ n. nat_lt (the_number c key) n.number) c.natives

-- the keys from reference i of the native at a key on, where there is one
abbrev pub keys_from : Counts → Option NKey → ℕ → List ℕ
keys_from c None i = []
keys_from c (Some key) i = keys_in (drop i (references_of c key.0)) ++ keys_held c (natives_behind c key.0)

-- natives have no more slots than are allowed
abbrev pub HaveFewSlots : List HeapNative → Type 0
HaveFewSlots natives = (n : HeapNative) → Among n natives → length n.slots ≤ most_slots

-- a native that is there, and a place among its references or behind the last
pub record IsPlace (c : Counts) (at : Option NKey) (i : ℕ) : Type 0 where
  pub keyed : HasKeys c
  pub few_slots : HaveFewSlots c.natives
  pub there : IfSome at (λ key. IsSome (number_at c key.0))
  pub within : IfSome at (λ key. i ≤ length (references_of c key.0))
