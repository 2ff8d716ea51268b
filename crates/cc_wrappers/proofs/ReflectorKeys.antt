-- REFLECTORS BY KEYS: a native has the key of its reflector, and a reflector that of its native, as they have by names.
use Rattle.cc_heaps.proofs.GrayNames.{gray-named}
use Rattle.cc_heaps.proofs.Keys.{name-in}
use Rattle.cc_laws_heap.proofs.Face.{option_map-found}
use Rattle.cc_lists.proofs.Held.{is_some-found}
use Rattle.std.proofs.Common.{◌≡◌, ℕ, false, List, Option, Some, None, option_map, refl, sym, ◌∙◌, ap, subst, inl, IsSome, option_to_list}
use Rattle.std.specs.Prelude.{IsTrue}
use Rattle.std.specs.Option.{option_and_then}
use Rattle.std.proofs.Math.ListN.{get_or-map}
use Rattle.cc_lists.specs.Members.{Among}
use Rattle.cc_names.specs.declared.name.Name.{Name}
use Rattle.cc_names.specs.declared.kind.Colour.TheVariants.{Black}
use Rattle.cc_names.specs.Names.{reflector}
use Rattle.cc_model.specs.Heap.{is_gray_in, is_gray_colour}
use Rattle.cc_model.specs.WellFormed.{script_names}
use Rattle.cc_laws_heap.proofs.Face.{IsHeldBlack}
use Rattle.cc_counted.specs.Counts.{reflector_at}
use Rattle.cc_script.specs.Objects.{Object, object_at, is_there, name_at, colour_at}
use Rattle.cc_heaps.specs.Keyed.{Keyed, IsInOrder, counts_of, number_at, the_number, named_object, reflector_key}
use Rattle.cc_heaps.proofs.ContentNames.{object-there, name-at_key}

-- Objects at keys

-- an object is at the key of what is there
pub object-at : (objects : List Object) (key : ℕ) → IsTrue (is_there objects key) → (q : Object) × (object_at objects key ≡ Some q)
object-at objects key t = is_some-found (object_at objects key) t

-- and at that of what has a name
pub object-named : (objects : List Object) (key : ℕ) (x : Name) → name_at objects key ≡ Some x → (q : Object) × (object_at objects key ≡ Some q) × (q.name ≡ x)
object-named objects key x e = option_map-found (λ (q : Object). q.name) (object_at objects key) x e

module _ (owned : List ℕ) (v : Keyed) (o : IsInOrder owned v) where
  -- What has a name by its key has it in the heaps.
  pub name-held : (key : ℕ) (x : Name) → name_at v.scripts key ≡ Some x → Among x (script_names v.heap)
  name-held key x e = name-in v.heap v.scripts o.named key x (subst (λ y. Among x (option_to_list y)) (sym e) (inl refl))

  -- What is black by name is black by its key,
  pub black-at : (key : ℕ) (x : Name) → name_at v.scripts key ≡ Some x → IsHeldBlack v.heap.scripts (Some x) → colour_at v.scripts key ≡ Some Black
  black-at key x e black =
      let q = object-named v.scripts key x e in
      ap (λ (p : Option Object). option_map (λ (p : Object). p.colour) p) q.1
      ∙ ap (λ c. Some c) (black (named_object v.scripts q.0) (object-there owned v o key q.0 q.1) (inl (sym q.2)))

  -- and what is black by its key is not gray by name.
  pub black-not_gray : (key : ℕ) (x : Name) → name_at v.scripts key ≡ Some x → colour_at v.scripts key ≡ Some Black → is_gray_in v.heap x ≡ false
  black-not_gray key x e black =
      let q = object-named v.scripts key x e in
      let at : Some q.0.colour ≡ Some Black = sym (ap (λ (p : Option Object). option_map (λ (p : Object). p.colour) p) q.1) ∙ black in
      let colour : q.0.colour ≡ Black = cc in
      subst (λ y. is_gray_in v.heap y ≡ false) q.2
      (gray-named v.heap (named_object v.scripts q.0) o.sound.well_formed (object-there owned v o key q.0 q.1) ∙ ap is_gray_colour colour)

  -- Reflectors of natives

  -- at the key of a native's reflector it stands
  pub reflector-at : (k r : ℕ) → reflector_key v.scripts k ≡ Some r → name_at v.scripts r ≡ Some (reflector k)
  reflector-at k r e = name-at_key owned v o (reflector k) r e

-- The counted heap has that key, of a native that is there.
pub reflector_at-number : (v : Keyed) (key : ℕ) → IsSome (number_at v key) → reflector_at (counts_of v) key ≡ reflector_key v.scripts (the_number v key)
reflector_at-number v key live =
    let k = is_some-found (number_at v key) live in
    get_or-map (λ k. option_and_then (reflector_key v.scripts) k) v.keys key None ∙ rw k.1 refl
