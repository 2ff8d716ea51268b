-- WHAT WAITS WHILE THE HEAPS CHANGE, and what may be written meanwhile.
use Rattle.std.specs.Prelude.{ℕ, IsTrue, List, ◌++◌, map, Option, option_to_list}
use Rattle.cc_lists.specs.Members.{Among}
use Rattle.cc_names.specs.declared.name.Name.{Name}
use Rattle.cc_names.specs.Names.{native, is_script}
use Rattle.cc_model.specs.Heap.{Heap}
use Rattle.cc_model.specs.View.{View, view, scripts_there}
use Rattle.cc_model.specs.WellFormed.{native_names}
use Rattle.cc_model.specs.Snapshot.{Snapshot}
use Rattle.cc_model.specs.Fresh.{IsFresh}

-- WHAT WAITS counts as purple in the buffer: natives that are queued for deletion, and those whose overwritten
-- reference is not given up yet
abbrev pub counting : List ℕ → View → View
counting ks v = record v { buffer = v.buffer ++ map native ks; purple = v.purple ++ map native ks }

-- a snapshot is fresh over the heaps, where nothing waits
abbrev pub IsFreshIn : Heap → Snapshot → Type 0
IsFreshIn h s = IsFresh h.natives_made (view h) s

-- a snapshot is fresh over the heaps, while these natives wait
abbrev pub IsFreshCounting : List ℕ → Heap → Snapshot → Type 0
IsFreshCounting ks h s = IsFresh h.natives_made (counting ks (view h)) s

-- what a register holds is a native that is there
abbrev pub IsNativeThere : Heap → Option Name → Type 0
IsNativeThere h x = (y : Name) → Among y (option_to_list x) → Among y (native_names h)

-- what is to be held, where it is a native, stands in the buffer
abbrev pub IsInBuffer : View → Option Name → Type 0
IsInBuffer v x = (k : ℕ) → Among (native k) (option_to_list x) → Among (native k) v.buffer

-- what is to be held is not gray
abbrev pub IsNotGrayIn : View → Option Name → Type 0
IsNotGrayIn v x = (y : Name) → Among y (option_to_list x) → ¬ (Among y v.gray)

-- what is to be held, where it is a script object, is there
abbrev pub IsThereIn : View → Option Name → Type 0
IsThereIn v x = (y : Name) → Among y (option_to_list x) → IsTrue (is_script y) → Among y (scripts_there v)

-- what is to be held is a script object
abbrev pub IsScriptObject : Option Name → Type 0
IsScriptObject x = (y : Name) → Among y (option_to_list x) → IsTrue (is_script y)
