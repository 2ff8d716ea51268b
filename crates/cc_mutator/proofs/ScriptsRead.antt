-- THE SCRIPT OBJECT THAT A REGISTER HOLDS, by its key: its slots, what they hold, and its colour.
use Rattle.std.proofs.Common.{◌≡◌, ℕ, ◌==◌, ◌≤◌, Bool, true, false, List, map, length, get_or, Option, Some, None, is_some, option_map, option_and_then, IsTrue, IfSome, refl, sym, ◌∙◌, ap, subst, inl, ⊎_elim, arith}
use Rattle.std.specs.Option.{option_to_list}
use Rattle.std.proofs.Math.ListN.{get_or-map}
use Rattle.std.proofs.lemmas.Bool.{false≢true}
use Rattle.std.proofs.lemmas.List.{length-map}
use Rattle.cc_heaps.proofs.PlacesRead.{fits-few}
use Rattle.cc_lists.specs.Members.{Among}
use Rattle.cc_lists.proofs.Filtering.{find-among}
use Rattle.cc_lists.proofs.ListWrites.{only-member}
use Rattle.cc_lists.proofs.Places.{among-get}
use Rattle.cc_lists.proofs.Searching.{find-only}
use Rattle.cc_names.specs.declared.name.Name.{Name}
use Rattle.cc_names.specs.declared.number.SKey.{SKey}
use Rattle.cc_names.specs.declared.kind.Kind.{Kind}
use Rattle.cc_names.specs.declared.kind.Kind.TheVariants.{Plain, Reflector, Map, Proxy}
use Rattle.cc_names.specs.declared.kind.Colour.TheVariants.{Black}
use Rattle.cc_names.specs.declared.register.Reg.TheVariants.{S}
use Rattle.cc_names.specs.Names.{is_script, same_name}
use Rattle.cc_names.proofs.NameTests.{same_name-refl}
use Rattle.cc_names.specs.Sizes.{most_slots}
use Rattle.cc_model.specs.Slots.{Slots}
use Rattle.cc_model.specs.Checks.{is_map_in, slots_or_none, slot_at, slots_at}
use Rattle.cc_model.specs.Heap.{Heap, HeapScript, objects_of, register, script_at, source, slots_in, slots_of_kind, slots_of_script}
use Rattle.cc_model.specs.WellFormed.{FitsName}
use Rattle.cc_laws_heap.proofs.Face.{IsColoured, IsHeldBlack, contents-at-of_writes as contents-at, script-named, scripts-once}
use Rattle.cc_script.proofs.PlacesOf.{slot-place}
use Rattle.cc_script.specs.Objects.{Object, object_at, is_there, kind_at, colour_at}
use Rattle.cc_script.specs.Objects as objects
use Rattle.cc_heaps.specs.Keyed.{Keyed, IsInOrder, name_held, named_object}
use Rattle.cc_heaps.specs.Changes.{IsScriptThere, script_name}
use Rattle.cc_heaps.proofs.ContentNames.{object-there}
use Rattle.cc_heaps.proofs.EntryNames.{is_map-named}
use Rattle.cc_heaps.proofs.Reaching.{same-tests}

-- the script object at a key, which a register holds
pub record IsObjectAt (v : Keyed) (r key : ℕ) : Type 0 where
  pub object : Object
  pub at : object_at v.scripts key ≡ Some object
  pub held : register v.heap (S r) ≡ Some object.name

-- a script object is found by its name
slots_in-script : (h : Heap) (x : Name) → is_script x ≡ true → slots_in h x ≡ option_and_then slots_of_script (script_at h x)
slots_in-script h x e = grind (arith, false≢true)

abbrev pub is_map_kind : Kind → Bool
is_map_kind Plain = false
is_map_kind Reflector = false
is_map_kind Map = true
is_map_kind Proxy = false

is_map_kind-true : (kind : Kind) → is_map_kind kind ≡ true → kind ≡ Map
is_map_kind-true kind e = grind arith

is_map_kind-some : (kind : Kind) → Some kind ≡ Some Map → is_map_kind kind ≡ true
is_map_kind-some kind e = search

-- a weak map has none, and what is no weak map has its own
kind-slots : (x : Name) (kind : Kind) (slots : Slots) → FitsName x kind slots → slots_or_none (slots_of_kind kind slots) ≡ slots
kind-slots x kind slots f = grind arith

module _ (owned : List ℕ) (v : Keyed) (order : IsInOrder owned v) where
  -- the slots of a script object that is there
  pub slots-of_object : (o : HeapScript) → Among o v.heap.scripts → slots_or_none (slots_in v.heap o.name) ≡ o.slots
  slots-of_object o m =
      let well = order.sound.well_formed in
      let found : script_at v.heap o.name ≡ Some o =
      find-only (λ (p : HeapScript). same_name p.name o.name) v.heap.scripts o (scripts-once v.heap well o.name) m (same_name-refl o.name) in
      ap slots_or_none (slots_in-script v.heap o.name (script-named v.heap well o m) ∙ ap (λ f. option_and_then slots_of_script f) found)
      ∙ kind-slots o.name o.kind o.slots (well.kinds o m)

  -- and they are few
  slots-of_object-few : (o : HeapScript) → Among o v.heap.scripts → length o.slots ≤ most_slots
  slots-of_object-few o m = fits-few o.name o.kind o.slots (order.sound.well_formed.kinds o m)

  module _ (r : ℕ) (key : SKey) (name : script_name v (Some key) ≡ register v.heap (S r)) (there : IsTrue (is_there v.scripts key.0)) where
    pub object-at : IsObjectAt v r key.0
    object-at = grind (arith, false≢true)

    -- it stands in the heaps under its name
    stands : Among (named_object v.scripts object-at.object) v.heap.scripts
    stands = object-there owned v order key.0 object-at.object object-at.at

    -- whether it is a weak map, as the checks of a command ask
    pub map-told : (kind : Kind) → kind_at v.scripts key.0 ≡ Some kind → is_map_kind kind ≡ is_map_in (objects_of v.heap) (register v.heap (S r))
    map-told kind is =
        let both = is_map-named owned v order key.0 there in
        same-tests (is_map_kind kind) (is_map_in (objects_of v.heap) (register v.heap (S r)))
        (λ e. subst (λ x. is_map_in (objects_of v.heap) x ≡ true) name (both.1 (is ∙ ap (λ k. Some k) (is_map_kind-true kind e))))
        (λ e. is_map_kind-some kind (sym is ∙ both.0 (subst (λ x. is_map_in (objects_of v.heap) x ≡ true) (sym name) e)))

    -- its slots by names
    pub script_slots-named : slots_at (objects_of v.heap) (S r) ≡ map (name_held v.scripts) object-at.object.slots
    script_slots-named = grind (arith, slots-of_object, stands)

    -- and by keys
    pub script_slots-keyed : objects.slots_at v.scripts key.0 ≡ object-at.object.slots
    script_slots-keyed = ap objects.slots_or_none object-at.at

    -- as many
    pub script_slots-as_many : length (objects.slots_at v.scripts key.0) ≡ length (slots_at (objects_of v.heap) (S r))
    script_slots-as_many = ap length script_slots-keyed ∙ (sym (length-map object-at.object.slots (name_held v.scripts)) ∙ sym (ap length script_slots-named))

    -- and few
    pub script_slots-few : length (slots_at (objects_of v.heap) (S r)) ≤ most_slots
    script_slots-few = subst (λ ss. length ss ≤ most_slots) (sym script_slots-named) (slots-of_object-few (named_object v.scripts object-at.object) stands)

    -- WHAT A SLOT HOLDS by name
    pub script_slot-named : (i : ℕ) (x : Option SKey) → option_map (λ (k : SKey). k.0) x ≡ get_or (objects.slots_at v.scripts key.0) i None →
        script_name v x ≡ slot_at (objects_of v.heap) (S r) i
    script_slot-named i x e =
        by_key x ∙ (ap (name_held v.scripts) (e ∙ ap (λ ss. get_or ss i None) script_slots-keyed)
        ∙ (sym (get_or-map (name_held v.scripts) object-at.object.slots i None) ∙ ap (λ ss. get_or ss i None) (sym script_slots-named)))
      where
        by_key : (x : Option SKey) → script_name v x ≡ name_held v.scripts (option_map (λ (k : SKey). k.0) x)
        by_key None = refl
        by_key (Some k) = refl

    -- and it is there
    pub script_slot-there : (i : ℕ) (x : Option SKey) → option_map (λ (k : SKey). k.0) x ≡ get_or (objects.slots_at v.scripts key.0) i None → IsScriptThere v x
    script_slot-there i x e = go x (sym (e ∙ ap (λ ss. get_or ss i None) script_slots-keyed))
      where
        go : (x : Option SKey) → get_or object-at.object.slots i None ≡ option_map (λ (k : SKey). k.0) x → IsScriptThere v x
        go None e = tt
        go (Some k) e = order.whole object-at.object k.0 (find-among (λ (p : Object). p.key == key.0) v.scripts object-at.object object-at.at)
            (slot-place object-at.object k.0 (among-get object-at.object.slots i k.0 e))

  -- WHAT A REGISTER HOLDS IS BLACK.
  pub held-black : IsColoured v.heap → (r : ℕ) (x : Option SKey) → script_name v x ≡ register v.heap (S r) → IsScriptThere v x →
      IfSome x (λ k. colour_at v.scripts k.0 ≡ Some Black)
  held-black colours r None e there = tt
  held-black colours r (Some key) e there =
      let o : IsObjectAt v r key.0 = object-at r key e there in
      ap (λ (f : Option Object). option_map (λ (p : Object). p.colour) f) o.at
      ∙ ap (λ c. Some c) (colours.held_black (named_object v.scripts o.object) (stands r key e there)
      (contents-at v.heap.script_registers r o.object.name (subst (λ f. Among o.object.name (option_to_list f)) (sym o.held) (inl refl))))

  -- and so is what a source gives
  pub source-black : IsColoured v.heap → (from : Option ℕ) (x : Option SKey) → script_name v x ≡ source v.heap (option_map S from) → IsScriptThere v x →
      IfSome x (λ k. colour_at v.scripts k.0 ≡ Some Black)
  source-black colours from x e there = grind (arith, held-black, false≢true)

  -- WHAT IS BLACK AT ITS KEY is black by its name.
  pub key-black : (key : SKey) → IsTrue (is_there v.scripts key.0) → colour_at v.scripts key.0 ≡ Some Black → IsHeldBlack v.heap.scripts (script_name v (Some key))
  key-black key there black = go (object_at v.scripts key.0) refl there
    where
      go : (o : Option Object) → object_at v.scripts key.0 ≡ o → is_some o ≡ true → IsHeldBlack v.heap.scripts (script_name v (Some key))
      go None e t = absurd (false≢true t)
      go (Some o) e t = λ p m i.
          let held : script_name v (Some key) ≡ Some o.name = ap (λ (f : Option Object). option_map (λ (q : Object). q.name) f) e in
          let coloured : Some Black ≡ Some o.colour = sym black ∙ ap (λ (f : Option Object). option_map (λ (q : Object). q.colour) f) e in
          let same : o.name ≡ p.name = ⊎_elim (λ s. s) (λ n. absurd n) (subst (λ x. Among p.name (option_to_list x)) held i) in
          let one : p ≡ named_object v.scripts o =
          only-member (λ (q : HeapScript). same_name q.name o.name) v.heap.scripts p (named_object v.scripts o) (scripts-once v.heap order.sound.well_formed o.name) m
          (ap (λ x. same_name x o.name) (sym same) ∙ same_name-refl o.name) (object-there owned v order key.0 o e) (same_name-refl o.name) in
          let is : Black ≡ o.colour = cc in
          ap (λ (q : HeapScript). q.colour) one ∙ sym is
