-- FROM KEYS TO NAMES AND BACK: a counted heap whose slots hold what is there is the same after its script objects got
-- their names and gave them back for their keys.
use Rattle.cc_heaps.proofs.Reaching.{object_at-found}
use Rattle.cc_laws_heap.proofs.Face.{is_some-found}
use Rattle.std.proofs.Common.{arith, ◌≡◌, ℕ, ◌≤◌, List, [], ◌∷◌, map, count_by, Option, Some, None, IsTrue, option_map, refl, sym, ap, inl, inr}
use Rattle.std.specs.Option.{option_and_then}
use Rattle.cc_lists.specs.Members.{Among}
use Rattle.cc_lists.proofs.Searching.{find-only}
use Rattle.cc_names.specs.declared.name.Name.{Name}
use Rattle.cc_names.proofs.NameTests.{same_name-refl}
use Rattle.cc_names.specs.Names.{object, same_name}
use Rattle.cc_model.specs.Slots.{Slots, contents}
use Rattle.cc_model.specs.Heap.{HeapNative}
use Rattle.cc_script.specs.Objects.{Object, is_there, name_at}
use Rattle.cc_heaps.specs.Keyed.{keyed_name, keyed_native, key_of, counts_of}
use Rattle.cc_heaps.specs.Named.{IsHeldThere, named_native}
use Rattle.cc_heaps.specs.Fields.{IsLinked, keyed_of}
use Rattle.cc_heaps.specs.declared.heaps.Heaps.TheInside.{Inside}
use Rattle.cc_heaps.proofs.Naming.{AreScripts, name_in, named_slots}

-- what natives hold, as the counted heap shows it, is there as far as it is a script object
abbrev pub AreHeldThere : List Object → List HeapNative → Type 0
AreHeldThere objects ns = (n : HeapNative) (x : Name) → Among n ns → Among x (contents n.slots) → IsHeldThere objects x

module _ (objects : List Object) (one_name : (x : Name) → count_by (λ (o : Object). same_name o.name x) objects ≤ 1) (scripts : AreScripts objects) where
  -- the key of what a slot holds by name
  abbrev key_in : Option Name → Option Name
  key_in x = option_and_then (keyed_name objects) x

  -- the key of an object that is there is found by its name
  pub key_of-name : (o : Object) → Among o objects → key_of objects o.name ≡ Some o.key
  key_of-name o m = ap (option_map (λ (p : Object). p.key)) (find-only (λ (p : Object). same_name p.name o.name) objects o (one_name o.name) m (same_name-refl o.name))

  keyed-script : (o : Object) → Among o objects → keyed_name objects o.name ≡ Some (object o.key)
  keyed-script o m = rw (scripts o m, keyed_name) (ap (option_map object) (key_of-name o m))

  there-and-back : (key : ℕ) → IsTrue (is_there objects key) → key_in (name_at objects key) ≡ Some (object key)
  there-and-back key there = grind (arith, is_some-found, object_at-found, keyed-script)

  name-back : (x : Name) → IsHeldThere objects x → key_in (name_in objects (Some x)) ≡ Some x
  name-back x there = grind (arith, there-and-back)

  slots-back : (slots : Slots) → ((x : Name) → Among x (contents slots) → IsHeldThere objects x) → map key_in (named_slots objects slots) ≡ slots
  slots-back [] there = refl
  slots-back (None ∷ xs) there = ap (λ ys. None ∷ ys) (slots-back xs there)
  slots-back (Some x ∷ xs) there = λ i. name-back x (there x (inl refl)) i ∷ slots-back xs (λ y m. there y (inr m)) i

  -- THE ROUND TRIP of natives
  pub natives-back : (ns : List HeapNative) → AreHeldThere objects ns → map (keyed_native objects) (map (named_native objects) ns) ≡ ns
  natives-back [] there = refl
  natives-back (n ∷ ns) there =
      λ i. record n { slots = slots-back n.slots (λ x m. there n x (inl refl) m) i } ∷ natives-back ns (λ m x a b. there m x (inr a) b) i

-- What the parts count is the counted heap.
pub counts-back : (p : Inside) → IsLinked p → counts_of (keyed_of p) ≡ p.counted
counts-back p l = λ i. record p.counted { natives = natives-back p.scripts l.one_name l.script_names p.counted.natives l.held i; reflectors = sym l.reflectors i }
