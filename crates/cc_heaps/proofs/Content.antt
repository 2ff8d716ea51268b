-- WHAT CALLERS HAND IN AND GET BACK: its name, that it is there, and the references in hand.
use Rattle.cc_laws_heap.proofs.Face.{IsIn, option_map-found}
use Rattle.cc_lists.proofs.Held.{held-is, of-one}
use Rattle.cc_heaps.proofs.Keys.{name-in}
use Rattle.std.proofs.Common.{arith, ◌≡◌, ℕ, true, List, [], ◌∷◌, ◌++◌, Option, Some, None, option_map, refl, sym, ◌∙◌, ap, subst, false}
use Rattle.std.specs.Option.{is_some, option_to_list}
use Rattle.cc_lists.specs.Members.{Among}
use Rattle.cc_lists.proofs.Members.{Among-left, Among-right, Among-map}
use Rattle.cc_names.specs.declared.name.Name.{Name}
use Rattle.cc_names.specs.declared.number.NKey.{NKey}
use Rattle.cc_names.specs.declared.number.SKey.{SKey}
use Rattle.cc_names.specs.Names.{native, is_native}
use Rattle.cc_model.specs.Heap.{Heap, silently}
use Rattle.cc_model.specs.Cascade.{take_up, let_go}
use Rattle.cc_model.specs.WellFormed.{native_names, script_names, names_there, FitsName}
use Rattle.cc_laws_heap.specs.Sound.{numbers_of}
use Rattle.cc_counted.specs.declared.held.Held.{Held}
use Rattle.cc_counted.specs.declared.held.Held.TheVariants as held
use Rattle.cc_counted.specs.Counts.{name_of, numbers_held, number_or_none, native_held, held_of_native}
use Rattle.cc_counted.specs.Owning.{CallersOwn}
use Rattle.cc_script.specs.Objects.{Object}
use Rattle.cc_heaps.specs.declared.heaps.Heaps.TheInside.{Inside}
use Rattle.cc_heaps.specs.Keyed.{Keyed, IsInOrder, named_object, number_at, the_number}
use Rattle.cc_heaps.specs.Changes.{IsThere, native_name, held_name}
use Rattle.cc_heaps.specs.Named.{IsHeldThere}
use Rattle.cc_heaps.specs.Fields.{keyed_of}
use Rattle.cc_heaps.proofs.Fit.{IsFit}
use Rattle.cc_heaps.proofs.Calls.{number-named}
use Rattle.cc_heaps.proofs.Naming.{name_in, name_at-script}
use Rattle.cc_heaps.proofs.Owned.{callers-own-some}
use Rattle.cc_names.specs.declared.kind.Kind.{Kind}
use Rattle.cc_model.specs.Slots.{Slots}

-- Natives

-- a native that is there has its number
pub number-some : (o : Option ℕ) → is_some o ≡ true → o ≡ Some (number_or_none o)
number-some o l = grind arith

-- it is one reference
pub native-numbers : (v : Keyed) (key : NKey) → is_some (number_at v key.0) ≡ true → numbers_of (held_name v (Some (held.Native key))) ≡ the_number v key.0 ∷ []
native-numbers v key live = ap (λ o. numbers_of (option_map native o)) (number-some (number_at v key.0) live)

pub native-in : (owned : List ℕ) (v : Keyed) (x : Option NKey) → IsInOrder owned v → IsIn (native_names v.heap) (native_name v x)
native-in owned v None o y m = absurd m
native-in owned v (Some key) o y m =
    let f = option_map-found native (number_at v key.0) y (held-is (native_name v (Some key)) y m) in
    subst (λ z. Among z (native_names v.heap)) f.2 (number-named v owned key.0 f.0 o f.1)

-- the same as a slot holds it
pub held_of_native-name : (v : Keyed) (x : Option NKey) → held_name v (held_of_native x) ≡ native_name v x
held_of_native-name v x = grind arith

-- What slots hold

-- what is held is there
pub held-in : (owned : List ℕ) (v : Keyed) (x : Option Held) → IsInOrder owned v → IsIn (names_there v.heap) (held_name v x)
held-in owned v None o = λ y m. absurd m
held-in owned v (Some (held.Native key)) o = λ y m. Among-left y (native_names v.heap) (script_names v.heap) (native-in owned v (Some key) o y m)
held-in owned v (Some (held.Script key)) o = λ y m. Among-right y (native_names v.heap) (script_names v.heap) (name-in v.heap v.scripts o.named key.0 y m)

module _ (p : Inside) where
  abbrev v : Keyed
  v = keyed_of p

  -- its name is that of what the counted heap shows
  pub held-named : (x : Option Held) → name_in p.scripts (name_of p.counted x) ≡ held_name v x
  held-named x = grind arith

  -- what is put into a slot is there
  pub new-held : (x : Option Held) → IsThere v x → (y : Name) → Among y (option_to_list (name_of p.counted x)) → IsHeldThere p.scripts y
  new-held x there y m = grind (arith, option_map-found, held-is, of-one)

  module _ (owned : List ℕ) (f : IsFit owned p) where
    -- a script object is no reference
    script-numbers : (key : SKey) → numbers_of (held_name v (Some (held.Script key))) ≡ []
    script-numbers key = name_at-script p.scripts f.linked.script_names key.0

    pub numbers-held : (x : Option Held) → IsThere v x → numbers_held p.counted x ≡ numbers_of (held_name v x)
    numbers-held None there = refl
    numbers-held (Some (held.Native key)) there = sym (native-numbers v key there)
    numbers-held (Some (held.Script key)) there = sym (script-numbers key)

-- what is owned may be put into a slot
pub own-content : (owned : List ℕ) (p : Inside) (x : Option Held) → IsThere (keyed_of p) x → IsFit (numbers_of (held_name (keyed_of p) x) ++ owned) p → CallersOwn (numbers_held p.counted x) p.counted
own-content owned p x there f =
    subst (λ ks. CallersOwn ks p.counted) (sym (numbers-held p (numbers_of (held_name (keyed_of p) x) ++ owned) f x there))
    (callers-own-some (numbers_of (held_name (keyed_of p) x)) owned p f)

-- no reference is taken or given up
pub take_up-none : (h : Heap) (x : Option Name) → numbers_of x ≡ [] → take_up h x ≡ h
take_up-none h x e = grind arith

-- By whether a native is held

-- script objects have no names of natives
not-native : (x : Name) (kind : Kind) (slots : Slots) → FitsName x kind slots → is_native x ≡ false
not-native x kind slots f = grind arith

own-names : (owned : List ℕ) (v : Keyed) → IsInOrder owned v → (o : Object) → Among o v.scripts → is_native o.name ≡ false
own-names owned v f o m =
    not-native o.name o.kind (named_object v.scripts o).slots
    (f.sound.well_formed.kinds (named_object v.scripts o) (subst (Among (named_object v.scripts o)) (sym f.named) (Among-map (named_object v.scripts) o v.scripts m)))

pub held-no_native : (owned : List ℕ) (v : Keyed) → IsInOrder owned v → (x : Option Held) → native_held x ≡ None → numbers_of (held_name v x) ≡ []
held-no_native owned v f None e = refl
held-no_native owned v f (Some (held.Native k)) e = absurd (cc)
held-no_native owned v f (Some (held.Script k)) e = name_at-script v.scripts (own-names owned v f) k.0

-- a native that is held is one reference in hand
pub in-hand : (v : Keyed) (x : Option Held) (key : NKey) → x ≡ Some (held.Native key) → IsThere v x → numbers_of (held_name v x) ≡ the_number v key.0 ∷ []
in-hand v x key e there = ap (λ y. numbers_of (held_name v y)) e ∙ native-numbers v key (subst (IsThere v) e there)

pub let_go-none : (h : Heap) (x : Option Name) → numbers_of x ≡ [] → let_go h x ≡ silently h
let_go-none h x e = grind arith
