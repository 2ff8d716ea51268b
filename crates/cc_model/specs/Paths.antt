-- WHEN STEPS ARE A PATH to an object: each follows from the graph and from the steps before it.
use Rattle.std.specs.Prelude.{◌≡◌, ◌++◌, ◌≤◌, List, [], ◌∷◌, Some, count_by}
use Rattle.cc_lists.specs.Members.{Among}
use Rattle.cc_names.specs.declared.name.Name.{Name}
use Rattle.cc_names.specs.declared.register.Reg.{Reg}
use Rattle.cc_names.specs.Names.{same_name}
use Rattle.cc_model.specs.declared.item.Reason.{Reason}
use Rattle.cc_model.specs.declared.item.Reason.TheVariants.{Root, Edge, Pair}
use Rattle.cc_model.specs.Answers.{Step}
use Rattle.cc_model.specs.Entries.{Entry}
use Rattle.cc_model.specs.Graph.{Graph, register}
use Rattle.cc_model.specs.Reached.{edges_of}
use Rattle.cc_model.specs.Derivations.{named}

-- one of the steps leads to this object
abbrev pub IsShown : List Step → Name → Type 0
IsShown steps x = Among x (named steps)

-- WHY A STEP IS RIGHT after others, as an object is reached: a register holds it; one before has an edge to it; an entry whose
-- map and key come before gives its value; an entry whose map and delegate come before gives its key
pub data Follows (g : Graph) (before : List Step) : Name → Reason → Type 0 where
  held : (r : Reg) (x : Name) → register g r ≡ Some x → Follows g before x (Root r)
  edge : (x y : Name) → IsShown before x → Among y (edges_of g x) → Follows g before y (Edge x)
  value : (e : Entry) → Among e g.entries → IsShown before e.the_map → IsShown before e.key → Follows g before e.value (Pair e.the_map e.key)
  key : (e : Entry) (d : Name) → Among e g.entries → e.delegate ≡ Some d → IsShown before e.the_map → IsShown before d →
      Follows g before e.key (Pair e.the_map d)

-- each step follows from those before it
abbrev pub EachFollows : Graph → List Step → List Step → Type 0
EachFollows g before [] = Unit {0}
EachFollows g before (s ∷ steps) = Follows g before s.0 s.1 × EachFollows g (before ++ s ∷ []) steps

-- THE STEPS ARE A PATH TO AN OBJECT: no name comes twice, and the object comes last
pub record IsPathTo (g : Graph) (x : Name) (steps : List Step) : Type 0 where
  pub each : EachFollows g [] steps
  pub once : (y : Name) → count_by (same_name y) (named steps) ≤ 1
  pub others : List Step
  pub why : Reason
  pub last : steps ≡ others ++ (x, why) ∷ []
