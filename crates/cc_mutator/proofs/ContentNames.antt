-- CONTENTS BY NAMES: of one kind, and by kind.
use Rattle.std.proofs.Common.{◌≡◌, ℕ, true, List, Option, Some, None, is_some, option_map, IsTrue, refl, sym, ◌∙◌, ap, arith}
use Rattle.std.proofs.lemmas.Bool.{false≢true}
use Rattle.cc_names.specs.declared.name.Name.{Name}
use Rattle.cc_names.specs.declared.number.NKey.{NKey}
use Rattle.cc_names.specs.declared.number.SKey.{SKey}
use Rattle.cc_names.specs.Names.{is_script}
use Rattle.cc_model.specs.Checks.{is_native_there, is_script_there}
use Rattle.cc_laws_heap.proofs.Face.{script-named}
use Rattle.cc_counted.specs.declared.held.Held.{Held}
use Rattle.cc_counted.specs.Counts.{held_of_native}
use Rattle.cc_script.specs.Objects.{Object, object_at, is_there, name_at}
use Rattle.cc_heaps.specs.Keyed.{Keyed, IsInOrder, named_object}
use Rattle.cc_heaps.specs.Changes.{IsThere, held_name, native_name, script_name}
use Rattle.cc_heaps.proofs.Content.{held_of_native-name}
use Rattle.cc_heaps.proofs.ContentNames.{object-there}
use Rattle.cc_mutator.specs.Commands.{held_of_script, is_native_held, is_script_held}

-- a script object that is held has its name
held-script_name : (v : Keyed) (x : Option SKey) → held_name v (held_of_script x) ≡ script_name v x
held-script_name v x = grind arith

-- the name of what is taken for a content of one kind
pub as_native-named : (v : Keyed) (key : Option NKey) (x : Option Held) (y : Option Name) → held_of_native key ≡ x → held_name v x ≡ y → native_name v key ≡ y
as_native-named v key x y is name = sym (held_of_native-name v key) ∙ (ap (held_name v) is ∙ name)

pub as_script-named : (v : Keyed) (key : Option SKey) (x : Option Held) (y : Option Name) → held_of_script key ≡ x → held_name v x ≡ y → script_name v key ≡ y
as_script-named v key x y is name = sym (held-script_name v key) ∙ (ap (held_name v) is ∙ name)

module _ (owned : List ℕ) (v : Keyed) (order : IsInOrder owned v) where
  -- The kind of what is held

  script-is : (key : ℕ) → IsTrue (is_there v.scripts key) → (y : Name) × (name_at v.scripts key ≡ Some y) × (is_script y ≡ true)
  script-is key there = go (object_at v.scripts key) refl there
    where
      go : (o : Option Object) → object_at v.scripts key ≡ o → is_some o ≡ true →
          (y : Name) × (name_at v.scripts key ≡ Some y) × (is_script y ≡ true)
      go None e t = absurd (false≢true t)
      go (Some o) e t = (
        o.name,
        ap (λ (f : Option Object). option_map (λ (p : Object). p.name) f) e,
        script-named v.heap order.sound.well_formed (named_object v.scripts o) (object-there owned v order key o e),
      )

  -- a native is held where what is held is a native
  native-held : (x : Option Held) → IsThere v x → is_native_there (held_name v x) ≡ is_native_held x
  native-held x there = grind (arith, false≢true, script-is)

  -- and a script object where it is a script object
  script-held_there : (x : Option Held) → IsThere v x → is_script_there (held_name v x) ≡ is_script_held x
  script-held_there x there = grind (arith, false≢true, script-is)

  -- by the name of what is held
  pub is_native_held-named : (x : Option Held) (y : Option Name) → held_name v x ≡ y → IsThere v x → is_native_held x ≡ is_native_there y
  is_native_held-named x y name there = sym (native-held x there) ∙ ap is_native_there name

  pub is_script_held-named : (x : Option Held) (y : Option Name) → held_name v x ≡ y → IsThere v x → is_script_held x ≡ is_script_there y
  is_script_held-named x y name there = sym (script-held_there x there) ∙ ap is_script_there name
