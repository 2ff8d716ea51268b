-- WHAT STANDS FOR OBJECTS, by their names.
use Rattle.std.specs.Prelude.{◌≡◌, List, map, Option, Some, option_map}
use Rattle.cc_names.specs.declared.name.Name.{Name}
use Rattle.cc_model.specs.Entries.{Entry}
use Rattle.cc_model.specs.Answers.{Step}

-- what a register or a place holds, and what stands for it: none for none
abbrev pub IsHeldAs : {O : Type 0} → (O → Option Name) → Option Name → Option O → Type 0
IsHeldAs {O} name_of content object = option_map name_of object ≡ option_map (λ (x : Name). Some x) content

-- what stands for the members of an entry
pub record AreMembers {O : Type 0} (name_of : O → Option Name) (e : Entry) (members : O × O × Option O × O) : Type 0 where
  pub the_map : name_of members.0 ≡ Some e.the_map
  pub key : name_of members.1 ≡ Some e.key
  pub delegate : IsHeldAs name_of e.delegate members.2
  pub value : name_of members.3 ≡ Some e.value

-- what stands for the object of each step
abbrev pub AreOf : {O : Type 0} → (O → Option Name) → List Step → List O → Type 0
AreOf {O} name_of ss objects = map name_of objects ≡ map (λ (s : Step). Some s.0) ss
