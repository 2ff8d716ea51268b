-- SWEEPING BY KEYS: which objects go, what becomes of natives meanwhile, and what is told.
use Rattle.std.specs.Prelude.{◌≡◌, ℕ, Bool, true, false, not, List, [], ◌∷◌, ◌++◌, map, filter, flat_map, Option, Some, None, option_to_list, if◌then◌else◌}
use Rattle.cc_lists.specs.Members.{Among}
use Rattle.cc_names.specs.declared.name.Name.{Name}
use Rattle.cc_model.specs.declared.item.Event.{Event}
use Rattle.cc_model.specs.declared.item.Event.TheVariants.{Freed}
use Rattle.cc_model.specs.Heap.{is_white_colour}
use Rattle.cc_counted.specs.Counts.{Counts, number_at, the_number, with_reflector, left_with, released}
use Rattle.cc_counted.specs.Owning.{CallersOwn}
use Rattle.cc_script.specs.Objects.{Object, object_at}

abbrev pub is_white : Object → Bool
is_white o = is_white_colour o.colour

-- whether there is an object at a key, and it is not white
abbrev pub is_marked : List Object → ℕ → Bool
is_marked objects key = elim (object_at objects key) [ None ↦ false | Some o ↦ not (is_white o) ]

-- the objects that stay
abbrev pub not_white : List Object → List Object
not_white objects = filter (λ o. not (is_white o)) objects

-- those that go, in order of making
abbrev pub whites : List Object → List Object
whites objects = filter is_white objects

-- and their names
abbrev pub white_names : List Object → List Name
white_names objects = map (λ o. o.name) (whites objects)

-- whether there are such names
abbrev pub are_some : List Name → Bool
are_some [] = false
are_some (x ∷ xs) = true

-- Natives

-- the counted heap after something was done, and what was told meanwhile
pub record Left : Type 0 where
  pub counts : Counts
  pub events : List Event

abbrev pub untold : Counts → Left
untold c = record { counts = c; events = [] }

-- native k, which stands at a key, forgets its reflector, and one reference to it is given up with its cascade
abbrev pub forgotten : Counts → ℕ → ℕ → Left
forgotten c key k = record {
  counts = left_with (with_reflector c key None) (released (with_reflector c key None) k).heap;
  events = (released (with_reflector c key None) k).events;
}

-- a reflector lets go the native at its key; the numbers of natives are those of the first of these heaps
abbrev pub let_native_go : Counts → Counts → Option ℕ → Left
let_native_go first c None = untold c
let_native_go first c (Some key) = forgotten c key (the_number first key)

-- an object is told, and then lets its native go
abbrev pub sweep_one : Counts → Counts → Object → Left
sweep_one first c o = record { counts = (let_native_go first c o.native).counts; events = Freed o.name ∷ (let_native_go first c o.native).events }

-- where it goes
abbrev pub sweep_where : Bool → Counts → Counts → Object → Left
sweep_where goes first c o = if goes then sweep_one first c o else untold c

-- what was told before stands in front
abbrev pub then_sweep : Counts → Left → Object → Left
then_sweep first l o = record { counts = (sweep_one first l.counts o).counts; events = l.events ++ (sweep_one first l.counts o).events }

-- the next one only then
abbrev pub sweep_each : Counts → List Object → Left → Left
sweep_each first [] l = l
sweep_each first (o ∷ os) l = sweep_each first os (then_sweep first l o)

-- THE COUNTED HEAP AFTER THE WHITE OBJECTS ARE SWEPT in turn
abbrev pub swept_counts : Counts → List Object → Left
swept_counts c objects = sweep_each c (whites objects) (untold c)

-- Who owns the references

-- the keys of the natives whose reflectors are among some objects
abbrev pub native_keys : List Object → List ℕ
native_keys objects = flat_map (λ o. option_to_list o.native) objects

-- of an object that goes
abbrev pub native_keys_where : Bool → Object → List ℕ
native_keys_where goes o = if goes then option_to_list o.native else []

-- the natives at some keys have the numbers that they had in the first of these heaps, and callers own a reference to each
pub record OwnEach (first : Counts) (keys : List ℕ) (c : Counts) : Type 0 where
  pub there : (key : ℕ) → Among key keys → number_at c key ≡ Some (the_number first key)
  pub owned : CallersOwn (map (the_number first) keys) c
