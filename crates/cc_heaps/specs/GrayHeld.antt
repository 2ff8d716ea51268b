-- WHETHER WHAT A NATIVE HOLDS IS GRAY, by keys.
use Rattle.std.specs.Prelude.{ℕ, Bool, false, List, filter, map, Option, Some, None}
use Rattle.std.specs.List.{list_any}
use Rattle.cc_names.specs.declared.name.Name.{Name}
use Rattle.cc_names.specs.declared.name.Name.TheVariants as name
use Rattle.cc_names.specs.declared.kind.Colour.{Colour}
use Rattle.cc_model.specs.Heap.{HeapNative, is_gray_colour, native_at}
use Rattle.cc_counted.specs.Counts.{Counts, heap_of, references_of}
use Rattle.cc_counted.specs.Scripts.{is_to_script}
use Rattle.cc_script.specs.Objects.{Object, colour_at}
use Rattle.cc_heaps.specs.Named.{IsHeldThere}
use Rattle.cc_heaps.specs.Roots.{references_in}

abbrev pub is_gray_if_there : Option Colour → Bool
is_gray_if_there None = false
is_gray_if_there (Some colour) = is_gray_colour colour

-- what a native refers to, as the counted heap shows it: there a script object has its key for a number
abbrev pub is_gray_held : List Object → Option Name → Bool
is_gray_held objects None = false
is_gray_held objects (Some (name.Native k)) = false
is_gray_held objects (Some (name.Script k)) = is_gray_if_there (colour_at objects k.0)
is_gray_held objects (Some (name.Reflector k)) = false

-- what it refers to is there, as far as it is a script object
abbrev pub IsHeldIn : List Object → Option Name → Type 0
IsHeldIn objects None = Unit {0}
IsHeldIn objects (Some x) = IsHeldThere objects x

-- whether the native at a key holds a gray script object, in a slot or as its preserved reflector
abbrev pub is_holder : List Object → Counts → ℕ → Bool
is_holder objects c key = list_any (is_gray_held objects) (references_of c key)

-- the numbers of natives, in their order
abbrev pub numbers_in : Counts → List ℕ
numbers_in c = map (λ n. n.number) c.natives

-- whether native k refers to a script object
abbrev pub refers_found : Counts → Option HeapNative → Bool
refers_found c None = false
refers_found c (Some n) = list_any is_to_script (references_in c n)

abbrev pub is_referring : Counts → ℕ → Bool
is_referring c k = refers_found c (native_at (heap_of c) k)

-- the numbers of those that do
abbrev pub numbers_referring : Counts → List ℕ
numbers_referring c = filter (is_referring c) (numbers_in c)
