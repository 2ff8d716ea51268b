-- WHEN STEPS ARE A WAY to an object of the heaps: each follows from the heaps and from the steps before it.
use Rattle.std.specs.Prelude.{◌≡◌, ◌++◌, ◌≤◌, List, [], ◌∷◌, Some, count_by}
use Rattle.cc_lists.specs.Members.{Among}
use Rattle.cc_names.specs.declared.name.Name.{Name}
use Rattle.cc_names.specs.declared.register.Reg.{Reg}
use Rattle.cc_names.specs.Names.{same_name}
use Rattle.cc_model.specs.declared.item.Reason.{Reason}
use Rattle.cc_model.specs.declared.item.Reason.TheVariants.{Root, Edge, Pair}
use Rattle.cc_model.specs.Answers.{Step}
use Rattle.cc_model.specs.Checks.{slots_or_none}
use Rattle.cc_model.specs.Derivations.{named}
use Rattle.cc_model.specs.Entries.{Entry}
use Rattle.cc_model.specs.Heap.{Heap, register}
use Rattle.cc_model.specs.Paths.{IsShown}
use Rattle.cc_model.specs.Places.{places_in}
use Rattle.cc_model.specs.Slots.{contents}

-- what an object of the heaps holds: what stands in its slots, the delegate of a proxy, the native of a reflector, and of a native
-- the reflector that it preserves
abbrev pub held_in : Heap → Name → List Name
held_in h x = contents (slots_or_none (places_in h x))

-- WHY A STEP IS RIGHT after others: a register holds its object; an object before it does; an entry whose map and key come before
-- gives its value; an entry whose map and delegate come before gives its key
pub data Follows (h : Heap) (before : List Step) : Name → Reason → Type 0 where
  rooted : (r : Reg) (x : Name) → register h r ≡ Some x → Follows h before x (Root r)
  edge : (x y : Name) → IsShown before x → Among y (held_in h x) → Follows h before y (Edge x)
  value : (e : Entry) → Among e h.entries → IsShown before e.the_map → IsShown before e.key → Follows h before e.value (Pair e.the_map e.key)
  key : (e : Entry) (d : Name) → Among e h.entries → e.delegate ≡ Some d → IsShown before e.the_map → IsShown before d →
      Follows h before e.key (Pair e.the_map d)

-- each step follows from those before it
abbrev pub EachFollows : Heap → List Step → List Step → Type 0
EachFollows h before [] = Unit {0}
EachFollows h before (s ∷ steps) = Follows h before s.0 s.1 × EachFollows h (before ++ s ∷ []) steps

-- THE STEPS ARE A WAY TO AN OBJECT: no name comes twice, and the object comes last
pub record IsWay (h : Heap) (x : Name) (steps : List Step) : Type 0 where
  pub each : EachFollows h [] steps
  pub once : (y : Name) → count_by (same_name y) (named steps) ≤ 1
  pub others : List Step
  pub why : Reason
  pub last : steps ≡ others ++ (x, why) ∷ []
