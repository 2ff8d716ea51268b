-- CONTENTS OF NATIVES BY NAMES: the counted heap shows the key of a script object, and the object at that key has its name.
use Rattle.cc_heaps.proofs.Reaching.{name_at-own}
use Rattle.cc_heaps.proofs.ObjectsKept.{named-there}
use Rattle.cc_heaps.proofs.Keys.{named-object}
use Rattle.cc_lists.proofs.Held.{is_some-map}
use Rattle.cc_laws_heap.proofs.Face.{IsIn, IsIn-no_native, option_map-found}
use Rattle.std.proofs.Common.{arith, ◌≡◌, ℕ, ◌==◌, List, Option, Some, None, option_map, option_and_then, IsTrue, refl, sym, ◌∙◌, ap, subst, inl}
use Rattle.cc_lists.specs.Members.{Among}
use Rattle.cc_lists.proofs.Members.{Among-map}
use Rattle.cc_lists.proofs.Filtering.{find-among, find-passes}
use Rattle.cc_lists.proofs.Searching.{find-some}
use Rattle.cc_names.specs.declared.name.Name.{Name}
use Rattle.cc_names.specs.declared.name.Name.TheVariants as name
use Rattle.cc_names.specs.Names.{native, object, same_name}
use Rattle.cc_names.proofs.NameTests.{same_name-true, same_name-refl}
use Rattle.cc_model.specs.WellFormed.{script_names, names_there}
use Rattle.cc_counted.specs.declared.held.Held.{Held}
use Rattle.cc_counted.specs.declared.held.Held.TheVariants as held
use Rattle.cc_counted.specs.Counts.{name_of, is_live}
use Rattle.cc_script.specs.Objects.{Object, object_at, name_at}
use Rattle.cc_heaps.specs.Keyed.{Keyed, IsInOrder, counts_of, number_at, named_object, key_of, keyed_name}
use Rattle.cc_heaps.specs.Changes.{IsThere, held_name}

-- what a content is by name, and that it is there
pub record IsHeldAs (v : Keyed) (x : Option Held) (y : Option Name) : Type 0 where
  pub name : held_name v x ≡ y
  pub there : IsThere v x

module _ (owned : List ℕ) (v : Keyed) (order : IsInOrder owned v) where
  -- an object that is there stands in the heaps under its name
  pub object-there : (key : ℕ) (o : Object) → object_at v.scripts key ≡ Some o → Among (named_object v.scripts o) v.heap.scripts
  object-there key o e = subst (Among (named_object v.scripts o)) (sym order.named)
      (Among-map (named_object v.scripts) o v.scripts (find-among (λ (p : Object). p.key == key) v.scripts o e))

  -- The object at the key of a name has that name.
  pub name-at_key : (y : Name) (q : ℕ) → key_of v.scripts y ≡ Some q → name_at v.scripts q ≡ Some y
  name-at_key y q e = grind (arith, option_map-found, same_name-true, find-passes, name_at-own, find-among)

  -- a name that is there has a key
  pub key-of_name : (y : Name) → Among y (script_names v.heap) → (q : ℕ) × (key_of v.scripts y ≡ Some q)
  key-of_name y m =
      let o = named-object v.heap v.scripts order.named y m in
      let f = find-some (λ (p : Object). same_name p.name y) v.scripts o.0 o.1 (ap (λ z. same_name z y) o.2 ∙ same_name-refl y) in
      (f.0.key, ap (λ (g : Option Object). option_map (λ (p : Object). p.key) g) f.1)

  -- what is held by the key of a script object that is there
  script-held : (y : Name) (x : Option Held) → Among y (script_names v.heap) → name_of (counts_of v) x ≡ option_map object (key_of v.scripts y) →
      IsTrue (is_live (counts_of v) x) → IsHeldAs v x (Some y)
  script-held y x m e live = let q = key-of_name y m in go x q.0 q.1 (e ∙ ap (option_map object) q.1) live
    where
      number_in : Option Name → ℕ
      number_in None = 0
      number_in (Some (name.Native k)) = 0
      number_in (Some (name.Script k)) = k.0
      number_in (Some (name.Reflector k)) = 0

      go : (x : Option Held) (q : ℕ) → key_of v.scripts y ≡ Some q → name_of (counts_of v) x ≡ Some (object q) → IsTrue (is_live (counts_of v) x) → IsHeldAs v x (Some y)
      go None q k e live = absurd (cc)
      go (Some (held.Native key)) q k e live =
          let f = option_map-found native (number_at v key.0) (object q) e in
          let apart : native f.0 ≡ object q = f.2 in
          absurd (cc)
      go (Some (held.Script key)) q k e live =
          let same : key.0 ≡ q = ap number_in e in
          let at : name_at v.scripts key.0 ≡ Some y = ap (name_at v.scripts) same ∙ name-at_key y q k in
          record { name = at; there = named-there v.scripts key.0 y at }

  -- WHAT THE COUNTED HEAP ANSWERS under the key of a name is held under that name, where it is there.
  pub content-named : (y : Option Name) (x : Option Held) → IsIn (names_there v.heap) y → name_of (counts_of v) x ≡ option_and_then (keyed_name v.scripts) y →
      IsTrue (is_live (counts_of v) x) → IsHeldAs v x y
  content-named None x m e live = grind arith
  content-named (Some (name.Native k)) x m e live = grind (arith, is_some-map)
  content-named (Some (name.Script k)) x m e live =
      script-held (name.Script k) x (IsIn-no_native v.heap (Some (name.Script k)) m refl (name.Script k) (inl refl)) e live
  content-named (Some (name.Reflector k)) x m e live =
      script-held (name.Reflector k) x (IsIn-no_native v.heap (Some (name.Reflector k)) m refl (name.Reflector k) (inl refl)) e live
