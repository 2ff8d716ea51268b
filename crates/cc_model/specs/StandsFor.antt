-- WHEN THE HEAPS STAND FOR THE GRAPH.
use Rattle.std.specs.Prelude.{◌≡◌, ℕ, Bool, true, false, ◌⊎◌, List, [], ◌∷◌, length, Option, Some, None, option_map, option_and_then}
use Rattle.cc_lists.specs.Members.{Among}
use Rattle.cc_names.specs.declared.name.Name.{Name}
use Rattle.cc_names.specs.declared.name.Name.TheVariants as name
use Rattle.cc_names.specs.declared.kind.Kind.{Kind}
use Rattle.cc_names.specs.declared.kind.Kind.TheVariants.{Plain, Reflector, Map, Proxy}
use Rattle.cc_names.specs.Names.{native, reflector}
use Rattle.cc_model.specs.Slots.{Slots, empty_slots, reflector_slots}
use Rattle.cc_model.specs.Entries.{Entry, value_in}
use Rattle.cc_model.specs.Graph as graph
use Rattle.cc_model.specs.Graph.{Graph, GraphNative, GraphScript, plain_object, weak_map, proxy, native_in, script_in, delegate_of_script}
use Rattle.cc_model.specs.Heap.{Heap, HeapNative, HeapScript, native_at, script_at, slots_of_script}
use Rattle.cc_model.specs.Given.{Given}

-- the kind of a script object of the graph
abbrev pub kind_of : GraphScript → Kind
kind_of (plain_object slots) = Plain
kind_of weak_map = Map
kind_of (proxy d) = Proxy

-- a reflector is there where the native was wrapped
abbrev pub reflector_kind : GraphNative → Option Kind
reflector_kind n = option_map (λ slots. Reflector) n.reflector

abbrev pub kind_in : Graph → Name → Option Kind
kind_in g (name.Native k) = None
kind_in g (name.Script k) = option_map kind_of (script_in g k.0)
kind_in g (name.Reflector k) = option_and_then reflector_kind (native_in g k.0)

-- what an object holds: its slots (none of a weak map), its delegate (of a proxy alone), and whether its reflector is
-- preserved (not for script objects)
pub record Shape : Type 0 where
  pub slots : Option Slots
  pub delegate : Option Name
  pub preserved : Bool

abbrev pub native_shape : Slots → Bool → Shape
native_shape slots preserved = record { slots = Some slots; delegate = None; preserved = preserved }

abbrev pub script_shape : Option Slots → Option Name → Shape
script_shape slots its_delegate = record { slots = slots; delegate = its_delegate; preserved = false }

-- the shape of an object in the graph; none of what was never made
abbrev pub shape_of_native : GraphNative → Shape
shape_of_native n = native_shape n.slots n.preserved

abbrev pub shape_of_object : GraphScript → Shape
shape_of_object o = script_shape (graph.slots_of_script o) (delegate_of_script o)

abbrev pub shape_of_reflector : GraphNative → Option Shape
shape_of_reflector n = option_map (λ slots. script_shape (Some slots) None) n.reflector

abbrev pub shape_in : Graph → Name → Option Shape
shape_in g (name.Native k) = option_map shape_of_native (native_in g k.0)
shape_in g (name.Script k) = option_map shape_of_object (script_in g k.0)
shape_in g (name.Reflector k) = option_and_then shape_of_reflector (native_in g k.0)

-- the shape of an object in the heaps; none of what is not there
abbrev pub shape_of_held_native : HeapNative → Shape
shape_of_held_native n = native_shape n.slots n.preserved

abbrev pub shape_of_held_script : HeapScript → Shape
shape_of_held_script o = script_shape (slots_of_script o) o.delegate

abbrev pub shape_at : Heap → Name → Option Shape
shape_at h (name.Native k) = option_map shape_of_held_native (native_at h k.0)
shape_at h (name.Script k) = option_map shape_of_held_script (script_at h (name.Script k))
shape_at h (name.Reflector k) = option_map shape_of_held_script (script_at h (name.Reflector k))

-- some of the members of a list, in the same order
abbrev pub ArePart : {X : Type 0} → List X → List X → Type 0
ArePart [] [] = Unit {0}
ArePart [] (y ∷ ys) = Unit {0}
ArePart (x ∷ xs) [] = ⊥
ArePart (x ∷ xs) (y ∷ ys) = ((x ≡ y) × ArePart xs ys) ⊎ ArePart (x ∷ xs) ys

-- a native that was unlinked: empty slots and no preservation
pub record IsEmptied (n : HeapNative) : Type 0 where
  pub unlinked : n.unlinked ≡ true
  pub slots : n.slots ≡ empty_slots (length n.slots)
  pub preserved : n.preserved ≡ false

-- a native of the heaps is in the graph, with the same slots and flag, or it was unlinked
pub record NativeStands (g : Graph) (n : HeapNative) : Type 0 where
  pub made : (m : GraphNative) × (native_in g n.number ≡ Some m)
  pub shape : (Some (shape_of_held_native n) ≡ shape_in g (native n.number)) ⊎ IsEmptied n

-- a script object of the heaps is in the graph, with the same kind and slots
pub record ScriptStands (g : Graph) (o : HeapScript) : Type 0 where
  pub kind : kind_in g o.name ≡ Some o.kind
  pub shape : Some (shape_of_held_script o) ≡ shape_in g o.name

-- an object is in the heaps as it is in the graph
pub record IsKept (h : Heap) (g : Graph) (x : Name) : Type 0 where
  pub shape : Shape
  pub made : shape_in g x ≡ Some shape
  pub there : shape_at h x ≡ Some shape

-- no entry of the graph has this key
abbrev pub IsNoKey : Graph → Name → Type 0
IsNoKey g x = (e : Entry) → Among e g.entries → ¬ (e.key ≡ x)

-- no proxy of the graph has this delegate
abbrev pub IsNoDelegate : Graph → Name → Type 0
IsNoDelegate g x = (k : ℕ) (d : Name) → script_in g k ≡ Some (proxy d) → ¬ (d ≡ x)

pub record StandsFor (h : Heap) (g : Graph) : Type 0 where
  -- registers, limits and numbers made agree
  pub native_registers : h.native_registers ≡ g.native_registers
  pub script_registers : h.script_registers ≡ g.script_registers
  pub limits : h.limits ≡ g.limits
  pub natives_made : h.natives_made ≡ length g.natives
  pub scripts_made : h.scripts_made ≡ length g.scripts
  -- each object of the heaps is in the graph, and but for unlinked natives as it is there
  pub natives : (n : HeapNative) → Among n h.natives → NativeStands g n
  pub scripts : (o : HeapScript) → Among o h.scripts → ScriptStands g o
  -- each name that registers and natives that were not unlinked lead to is in the heaps, as it is in the graph
  pub given : (x : Name) → Given h g x → IsKept h g x
  -- for such a map and such a key both have the same entry or none
  pub values : (m k : Name) → Given h g m → Given h g k → value_in h.entries m k ≡ value_in g.entries m k
  -- what was unlinked is never given again
  pub spent : (n : HeapNative) → Among n h.natives → n.unlinked ≡ true → ¬ (Given h g (native n.number))
  -- the entries of the heaps are some of the graph's, in the same order
  pub entries : ArePart h.entries g.entries
  -- a reflector that is not preserved is blank in the graph, and so it is in the heaps, where it is there
  pub blank : (k : ℕ) (n : GraphNative) (slots : Slots) → native_in g k ≡ Some n → n.preserved ≡ false →
      n.reflector ≡ Some slots → (slots ≡ empty_slots reflector_slots) × IsNoKey g (reflector k) × IsNoDelegate g (reflector k)
