-- WHAT AN OBJECT HOLDS is its shape: slots, edges and kinds of objects are read from it.
use Rattle.std.proofs.Common.{arith, ◌≡◌, ℕ, true, false, List, [], ◌∷◌, ◌++◌, Option, Some, None, option_map, refl, ◌∙◌, ap}
use Rattle.std.specs.Prelude.{IsTrue}
use Rattle.std.specs.Option.{option_and_then, option_to_list}
use Rattle.std.proofs.lemmas.List.{append_assoc}
use Rattle.cc_names.specs.declared.name.Name.{Name}
use Rattle.cc_names.specs.declared.name.Name.TheVariants as name
use Rattle.cc_names.specs.declared.kind.Kind.{Kind}
use Rattle.cc_names.specs.declared.kind.Kind.TheVariants.{Plain, Reflector, Map, Proxy}
use Rattle.cc_names.specs.Names.{native, object, reflector, is_script}
use Rattle.cc_names.specs.Places.{script_places, all_script_places}
use Rattle.cc_model.specs.Slots.{Slots, contents}
use Rattle.cc_model.specs.Checks.{slots_or_none}
use Rattle.cc_model.specs.Graph as graph
use Rattle.cc_model.specs.Graph.{Graph, GraphNative, GraphScript, plain_object, weak_map, proxy, native_in, script_in, delegate_in}
use Rattle.cc_model.specs.Reached.{edges_of}
use Rattle.cc_model.specs.Heap as heap
use Rattle.cc_model.specs.Heap.{Heap, HeapNative, HeapScript, native_at, script_at}
use Rattle.cc_model.proofs.Places.{contents-last}
use Rattle.cc_model.specs.StandsFor.{Shape, script_shape, shape_of_object, shape_in, shape_at, kind_in, IsNoDelegate}

-- the slots of what may have a shape
abbrev pub slots_of_shape : Option Shape → Option Slots
slots_of_shape o = option_and_then (λ (s : Shape). s.slots) o

-- the slots of an object of the graph are those of its shape
pub slots_in-graph : (g : Graph) (x : Name) → graph.slots_in g x ≡ slots_of_shape (shape_in g x)
slots_in-graph g x = grind arith

-- and those of an object of the heaps
pub slots_in-heap : (h : Heap) (x : Name) → heap.slots_in h x ≡ slots_of_shape (shape_at h x)
slots_in-heap h x = grind arith

-- what an object refers to beside its slots: its preserved reflector, its delegate, or its native
abbrev pub further_of : Name → Shape → List Name
further_of (name.Native k) s = elim s.preserved [ true ↦ reflector k.0 ∷ [] | false ↦ [] ]
further_of (name.Script k) s = option_to_list s.delegate
further_of (name.Reflector k) s = option_to_list s.delegate ++ native k.0 ∷ []

-- what an object of this name and shape refers to
abbrev pub edges_of_shape : Name → Shape → List Name
edges_of_shape x s = contents (slots_or_none s.slots) ++ further_of x s

-- what an object of this name refers to, where it has a shape
abbrev pub edges_of_some : Name → Option Shape → List Name
edges_of_some x None = []
edges_of_some x (Some s) = edges_of_shape x s

-- what the places of a script object hold: its slots, its delegate, and its native
pub contents-script : (slots : Slots) (its_delegate its_native : Option Name) →
    contents (all_script_places slots its_delegate its_native) ≡ contents slots ++ (option_to_list its_delegate ++ option_to_list its_native)
contents-script slots its_delegate its_native = contents-last (script_places slots its_delegate) its_native
    ∙ (ap (λ xs. xs ++ option_to_list its_native) (contents-last slots its_delegate)
    ∙ append_assoc (contents slots) (option_to_list its_delegate) (option_to_list its_native))

-- the edges of an object of the graph are those of its shape
pub edges_of-shape : (g : Graph) (x : Name) → edges_of g x ≡ edges_of_some x (shape_in g x)
edges_of-shape g x = grind (arith, contents-last, contents-script)

-- an object without slots is a weak map, and one with a delegate a proxy
abbrev pub kind_of_slots : Option Slots → Option Name → Kind
kind_of_slots None d = Map
kind_of_slots (Some slots) None = Plain
kind_of_slots (Some slots) (Some d) = Proxy

-- the kind of an object of this name and shape
abbrev pub kind_of_shape : Name → Shape → Option Kind
kind_of_shape (name.Native k) s = None
kind_of_shape (name.Script k) s = Some (kind_of_slots s.slots s.delegate)
kind_of_shape (name.Reflector k) s = Some Reflector

-- the kind of an object of the graph is that of its shape
pub kind_in-shape : (g : Graph) (x : Name) → kind_in g x ≡ option_and_then (kind_of_shape x) (shape_in g x)
kind_in-shape g x = grind arith

-- An object with a delegate

-- the delegate of what may have a shape
abbrev pub delegate_of_shape : Option Shape → Option Name
delegate_of_shape o = option_and_then (λ (s : Shape). s.delegate) o

-- that of an object of the graph is that of its shape
pub delegate_in-shape : (g : Graph) (x : Name) → delegate_in g x ≡ delegate_of_shape (shape_in g x)
delegate_in-shape g x = grind arith

-- and that of a script object of the heaps
pub delegate_at-shape : (h : Heap) (x : Name) → IsTrue (is_script x) → heap.delegate_at h x ≡ delegate_of_shape (shape_at h x)
delegate_at-shape h x s = grind arith

-- no object of the graph has this delegate
abbrev pub IsOfNone : Graph → Name → Type 0
IsOfNone g x = (z : Name) (s : Shape) → shape_in g z ≡ Some s → ¬ (s.delegate ≡ Some x)

-- no proxy has it, then
pub no_delegate-from : (g : Graph) (x : Name) → IsOfNone g x → IsNoDelegate g x
no_delegate-from g x none k d e q = none (object k) (script_shape (Some []) (Some d)) (ap (option_map shape_of_object) e) (ap (λ y. Some y) q)

-- what has a delegate is a proxy
pub proxy-found : (g : Graph) (z : Name) (s : Shape) (d : Name) → shape_in g z ≡ Some s → s.delegate ≡ Some d → (k : ℕ) × (z ≡ object k) × (script_in g k ≡ Some (proxy d))
proxy-found g z s d e q = grind arith

-- and where no proxy has it, no object has
pub no_delegate-of_none : (g : Graph) (x : Name) → IsNoDelegate g x → IsOfNone g x
no_delegate-of_none g x none z s e q = let f = proxy-found g z s x e q in none f.0 x f.2 refl
