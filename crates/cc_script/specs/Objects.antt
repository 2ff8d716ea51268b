-- THE SCRIPT OBJECTS AS A LIST, in order of making; each stands at a key, and its slots hold keys. A reflector has the
-- key of its native, which stands in a heap of its own, and a proxy has the key of its delegate, a script object.
use Rattle.std.specs.Prelude.{◌≡◌, ◌≢◌, ◌↔◌, IsSome, IsTrue, ℕ, ◌==◌, Bool, true, false, not, List, [], map, filter, find, replicate, Option, Some, None, is_some, option_map, option_and_then, slice_set, if◌then◌else◌}
use Rattle.cc_names.specs.Places.{script_places}
use Rattle.cc_lists.specs.Members.{Among, has}
use Rattle.cc_lists.specs.Walks as walks
use Rattle.cc_walk.specs.Walks.{entered}
use Rattle.cc_names.specs.declared.name.Name.{Name}
use Rattle.cc_names.specs.declared.kind.Kind.{Kind}
use Rattle.cc_names.specs.declared.kind.Kind.TheVariants.{Plain, Reflector, Map, Proxy}
use Rattle.cc_names.specs.declared.kind.Colour.{Colour}
use Rattle.cc_names.specs.declared.kind.Colour.TheVariants.{White, Gray, Black}
use Rattle.cc_names.specs.declared.kind.Walked.{Walked}
use Rattle.cc_names.specs.declared.kind.Walked.TheVariants.{Out, Waiting, Given}
use Rattle.cc_names.specs.Names.{object, reflector}
use Rattle.cc_names.specs.Places.{script_places}

pub record Object : Type 0 where
  pub key : ℕ
  pub name : Name
  pub kind : Kind
  pub native : Option ℕ
  pub delegate : Option ℕ
  pub slots : List (Option ℕ)
  pub colour : Colour
  -- the new mark: what a marking that goes on in slices has found of it so far
  pub new_mark : Colour
  pub walked : Walked

-- EXACTLY A REFLECTOR has a native
abbrev pub FitsKind : Kind → Option ℕ → Type 0
FitsKind kind native = IsSome native ↔ (kind ≡ Reflector)

-- EXACTLY A PROXY has a delegate
abbrev pub FitsDelegate : Kind → Option ℕ → Type 0
FitsDelegate kind delegate = IsSome delegate ↔ (kind ≡ Proxy)

-- an object as it is made: black, and by the new mark too, so that a marking that is under way keeps it; so many slots empty, and
-- in no walk
abbrev pub new_object : ℕ → Name → Kind → Option ℕ → Option ℕ → ℕ → Object
new_object key name kind native delegate slots = record { key = key; name = name; kind = kind; native = native; delegate = delegate; slots = replicate slots None; colour = Black; new_mark = Black; walked = Out }

-- a plain object with its number
abbrev pub plain_object : ℕ → ℕ → ℕ → Object
plain_object key number slots = new_object key (object number) Plain None None slots

-- a weak map with its number; it has no slots
abbrev pub map_object : ℕ → ℕ → Object
map_object key number = new_object key (object number) Map None None 0

-- a proxy with its number and the key of its delegate; it has no slots
abbrev pub proxy_object : ℕ → ℕ → ℕ → Object
proxy_object key number delegate = new_object key (object number) Proxy None (Some delegate) 0

-- how many slots a reflector has
abbrev pub slots_of_reflector : ℕ
slots_of_reflector = 4

-- the reflector of the native of a number, which stands at a key of the counted heap
abbrev pub reflector_object : ℕ → ℕ → ℕ → Object
reflector_object key native number = new_object key (reflector number) Reflector (Some native) None slots_of_reflector

-- Reading

abbrev pub object_at : List Object → ℕ → Option Object
object_at objects key = find (λ o. o.key == key) objects

abbrev pub is_there : List Object → ℕ → Bool
is_there objects key = is_some (object_at objects key)

abbrev pub name_at : List Object → ℕ → Option Name
name_at objects key = option_map (λ o. o.name) (object_at objects key)

abbrev pub kind_at : List Object → ℕ → Option Kind
kind_at objects key = option_map (λ o. o.kind) (object_at objects key)

abbrev pub colour_at : List Object → ℕ → Option Colour
colour_at objects key = option_map (λ o. o.colour) (object_at objects key)

abbrev pub new_mark_at : List Object → ℕ → Option Colour
new_mark_at objects key = option_map (λ o. o.new_mark) (object_at objects key)

-- how it stands in a walk over both heaps
abbrev pub walked_at : List Object → ℕ → Option Walked
walked_at objects key = option_map (λ o. o.walked) (object_at objects key)

-- the key of the native of a reflector
abbrev pub native_at : List Object → ℕ → Option ℕ
native_at objects key = option_and_then (λ o. o.native) (object_at objects key)

abbrev pub slots_or_none : Option Object → List (Option ℕ)
slots_or_none None = []
slots_or_none (Some o) = o.slots

-- the slots of the object at a key; none where there is no object
abbrev pub slots_at : List Object → ℕ → List (Option ℕ)
slots_at objects key = slots_or_none (object_at objects key)

-- the key of the delegate of a proxy
abbrev pub delegate_at : List Object → ℕ → Option ℕ
delegate_at objects key = option_and_then (λ o. o.delegate) (object_at objects key)

-- THE PLACES of an object, over which walks go: its slots, and one for its delegate
abbrev pub places_of : Object → List (Option ℕ)
places_of o = script_places o.slots o.delegate

abbrev pub places_or_none : Option Object → List (Option ℕ)
places_or_none None = []
places_or_none (Some o) = places_of o

-- those of the object at a key; none where there is no object
abbrev pub places_at : List Object → ℕ → List (Option ℕ)
places_at objects key = places_or_none (object_at objects key)

-- the key of the object that was made first
abbrev pub first_key : List Object → Option ℕ
first_key objects = walks.first_key (λ o. o.key) objects

-- the key of the object that was made next after the one at a key
abbrev pub key_after : List Object → ℕ → Option ℕ
key_after objects key = walks.next_key (λ o. o.key) objects key

-- what each place has is an object that is there: what a slot holds, and a delegate
abbrev pub AreWhole : List Object → Type 0
AreWhole objects = (o : Object) (q : ℕ) → Among o objects → Among (Some q) (places_of o) → IsTrue (is_there objects q)

-- what stands at the key of an object is that object
abbrev pub HaveOwnKeys : List Object → Type 0
HaveOwnKeys objects = (o : Object) → Among o objects → object_at objects o.key ≡ Some o

-- Writing

-- the object at a key changed
abbrev pub change_object : List Object → ℕ → (Object → Object) → List Object
change_object objects key f = map (λ o. if o.key == key then f o else o) objects

abbrev pub with_slot : ℕ → Option ℕ → Object → Object
with_slot i x o = record o { slots = slice_set o.slots i x }

abbrev pub with_colour : Colour → Object → Object
with_colour colour o = record o { colour = colour }

abbrev pub with_new_mark : Colour → Object → Object
with_new_mark mark o = record o { new_mark = mark }

-- it stands otherwise in a walk
abbrev pub with_walked : Walked → Object → Object
with_walked state o = record o { walked = state }

-- it comes into the walk and waits, where it was not in it
abbrev pub entering : Object → Object
entering o = with_walked (entered o.walked) o

-- none is in a walk
abbrev pub unwalked : List Object → List Object
unwalked objects = map (with_walked Out) objects

-- the one at a key waited, and is given
abbrev pub IsGiven : List Object → List Object → ℕ → Type 0
IsGiven old new key = (walked_at old key ≡ Some Waiting) × (new ≡ change_object old key (with_walked Given))

-- none waits in it
abbrev pub NoObjectWaits : List Object → Type 0
NoObjectWaits objects = (o : Object) → Among o objects → o.walked ≢ Waiting

-- the object at a key taken out
abbrev pub without_object : List Object → ℕ → List Object
without_object objects key = filter (λ o. not (o.key == key)) objects

-- Colours: white below gray below black

abbrev pub is_below : Colour → Colour → Bool
is_below White White = false
is_below White Gray = true
is_below White Black = true
is_below Gray White = false
is_below Gray Gray = false
is_below Gray Black = true
is_below Black colour = false

-- at least this colour
abbrev pub raised : Colour → Object → Object
raised colour o = elim (is_below o.colour colour) [ true ↦ with_colour colour o | false ↦ o ]

-- the objects at these keys raised
abbrev pub raised_among : List ℕ → Colour → List Object → List Object
raised_among keys colour objects = map (λ o. if has ◌==◌ keys o.key then raised colour o else o) objects

-- all white
abbrev pub whitened : List Object → List Object
whitened objects = map (with_colour White) objects

-- the colour by the keys that are black and those that are marked
abbrev pub colour_by : List ℕ → List ℕ → ℕ → Colour
colour_by blacks marks key = elim (has ◌==◌ blacks key) [ true ↦ Black | false ↦ elim (has ◌==◌ marks key) [ true ↦ Gray | false ↦ White ] ]

abbrev pub coloured_by : List ℕ → List ℕ → List Object → List Object
coloured_by blacks marks objects = map (λ o. with_colour (colour_by blacks marks o.key) o) objects

-- a colour that isn't below another; of what is not there nothing is said
abbrev pub IsNotBelow : Option Colour → Option Colour → Type 0
IsNotBelow (Some colour) (Some holder) = is_below colour holder ≡ false
IsNotBelow (Some colour) None = Unit {0}
IsNotBelow None holder = Unit {0}
