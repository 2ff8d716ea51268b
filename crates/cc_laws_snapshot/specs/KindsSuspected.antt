-- UNREACHED NATIVES SUSPECTED over the heaps, and while natives wait.
use Rattle.std.specs.Prelude.{ℕ, List, Option, option_to_list}
use Rattle.cc_lists.specs.Members.{Among}
use Rattle.cc_names.specs.declared.name.Name.{Name}
use Rattle.cc_names.specs.Names.{native}
use Rattle.cc_model.specs.Heap.{Heap}
use Rattle.cc_model.specs.View.{View, view, ReachedIn}
use Rattle.cc_model.specs.Suspected.{IsSuspected}
use Rattle.cc_laws_snapshot.specs.Kinds.{counting}

-- every unreached native of the heaps is suspected, where nothing waits
abbrev pub IsSuspectedIn : Heap → List ℕ → Type 0
IsSuspectedIn h candidates = IsSuspected (view h) candidates

-- every unreached native of the heaps is suspected, while these natives wait
abbrev pub IsSuspectedCounting : List ℕ → Heap → List ℕ → Type 0
IsSuspectedCounting ks h candidates = IsSuspected (counting ks (view h)) candidates

-- what a register holds, where it is a native, is reached
abbrev pub IsReachedNative : View → Option Name → Type 0
IsReachedNative v x = (k : ℕ) → Among (native k) (option_to_list x) → ReachedIn v (native k)
