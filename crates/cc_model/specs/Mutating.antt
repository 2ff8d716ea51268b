-- WHAT A COMMAND IS: it says something, does a deed, forgets suspects, reads a weak register, runs units of a collection, or
-- collects script objects.
use Rattle.std.specs.Prelude.{ℕ, Bool, true, false}
use Rattle.cc_names.specs.declared.name.Name.{Name}
use Rattle.cc_model.specs.declared.command.Command.{Command}
use Rattle.cc_model.specs.declared.command.Command.TheVariants.{Nothing, Version2, Forget, Deref, Why, Slice, Collect, Gc, Mark, Census}

-- what is said, where all stays as it is
pub data Saying : Type 0 where
  -- nothing, for a blank line
  silence : Saying
  version : Saying
  -- how the registers reach an object
  path : Name → Saying
  census : Saying

-- a way to an object is found out in memory
abbrev pub takes_memory_to_say : Saying → Bool
takes_memory_to_say silence = false
takes_memory_to_say version = false
takes_memory_to_say (path x) = true
takes_memory_to_say census = false

-- units of collections, or of script markings: so many, or those of a whole one
pub data Running : Type 0 where
  so_many : ℕ → Running
  whole : Running

pub data Class : Type 0 where
  says : Saying → Class
  does : Class
  forgets : Class
  -- native register d holds what weak register w notes, where that has not ended
  reads_weak : (d w : ℕ) → Class
  runs : Running → Class
  collects_scripts : Running → Class

-- THE CLASS OF A COMMAND: all but ten words do a deed
abbrev pub class_of : Command → Class
class_of Nothing = says silence
class_of Version2 = says version
class_of (Why x) = says (path x)
class_of Census = says census
class_of (Slice n) = runs (so_many n)
class_of Collect = runs whole
class_of Gc = collects_scripts whole
class_of (Mark n) = collects_scripts (so_many n)
class_of Forget = forgets
class_of (Deref d w) = reads_weak d w
class_of _ = does

abbrev pub is_deed : Class → Bool
is_deed (says q) = false
is_deed does = true
is_deed forgets = false
is_deed (reads_weak d w) = false
is_deed (runs u) = false
is_deed (collects_scripts u) = false

abbrev pub is_units : Class → Bool
is_units (says q) = false
is_units does = false
is_units forgets = false
is_units (reads_weak d w) = false
is_units (runs u) = true
is_units (collects_scripts u) = false

abbrev pub is_script_collection : Class → Bool
is_script_collection (says q) = false
is_script_collection does = false
is_script_collection forgets = false
is_script_collection (reads_weak d w) = false
is_script_collection (runs u) = false
is_script_collection (collects_scripts u) = true

abbrev pub is_mutator : Class → Bool
is_mutator (says q) = false
is_mutator does = true
is_mutator forgets = false
is_mutator (reads_weak d w) = true
is_mutator (runs u) = false
is_mutator (collects_scripts u) = false

abbrev pub is_weak_reader : Class → Bool
is_weak_reader (says q) = false
is_weak_reader does = false
is_weak_reader forgets = false
is_weak_reader (reads_weak d w) = true
is_weak_reader (runs u) = false
is_weak_reader (collects_scripts u) = false

-- whether a command reads a weak register
abbrev pub reads_weakly : Command → Bool
reads_weakly c = is_weak_reader (class_of c)

-- THE COMMANDS OF THE MUTATOR: those that do a deed, and the one that reads a weak register
abbrev pub is_applied : Command → Bool
is_applied c = is_mutator (class_of c)
