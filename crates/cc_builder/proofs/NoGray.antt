-- NO SCRIPT OBJECT IS GRAY: no native holds a gray one then, and no entry gives one.
use Rattle.std.proofs.Common.{◌≡◌, Bool, true, false, ◌||◌, ◌↔◌, List, [], ◌∷◌, ◌++◌, flat_map, map, Option, Some, None, is_some, IsTrue, find, refl, sym, ◌∙◌, ap, subst}
use Rattle.std.specs.List.{filter, list_any}
use Rattle.std.proofs.lemmas.Bool.{true≢false}
use Rattle.std.proofs.lemmas.List.{append-nil}
use Rattle.cc_lists.specs.Members.{Among, with_all_last}
use Rattle.cc_lists.proofs.Members.{Among-filtered}
use Rattle.cc_lists.proofs.Filtering.{filter-nothing, find-among, find-passes}
use Rattle.cc_lists.proofs.ListWrites.{each-map}
use Rattle.cc_names.specs.declared.name.Name.{Name}
use Rattle.cc_names.specs.declared.kind.Colour.{Colour}
use Rattle.cc_names.specs.declared.kind.Colour.TheVariants.{White, Gray, Black}
use Rattle.cc_names.specs.Names.{native, same_name}
use Rattle.cc_model.specs.Heap.{HeapNative, HeapScript, is_gray_colour, is_gray_in}
use Rattle.cc_model.specs.Entries.{Joint, joints}
use Rattle.cc_model.specs.Snapshot.{Mapping}
use Rattle.cc_model.specs.Slots.{contents}
use Rattle.cc_model.specs.Places.{places_of_native}
use Rattle.cc_model.specs.Units.{holds_gray, holders_of, mapping_of, mappings_of, members_of}
use Rattle.cc_script.specs.Objects.{Object}
use Rattle.cc_heaps.specs.Keyed.{Keyed, IsInOrder, named_object}

-- a colour that passes for gray is gray
gray-exact : (c : Colour) → is_gray_colour c ≡ true → c ≡ Gray
gray-exact White e = absurd (true≢false (sym e))
gray-exact Gray e = refl
gray-exact Black e = absurd (true≢false (sym e))

any-nothing : {X : Type 0} (p : X → Bool) (xs : List X) → ((x : X) → p x ≡ false) → list_any p xs ≡ false
any-nothing p [] none = refl
any-nothing p (x ∷ xs) none = ap (λ b. b || list_any p xs) (none x) ∙ any-nothing p xs none

module _ (v : Keyed) (scripts : List Object) (found : Bool) (order : IsInOrder [] v) (same : scripts ≡ v.scripts)
    (gray : IsTrue found ↔ ((o : Object) × (Among o scripts × (o.colour ≡ Gray)))) (none : found ≡ false) where
  -- each object is white or black
  other-each : (o : Object) → Among o v.scripts → is_gray_colour o.colour ≡ false
  other-each o m = go (is_gray_colour o.colour) refl
    where
      go : (b : Bool) → is_gray_colour o.colour ≡ b → is_gray_colour o.colour ≡ false
      go true e = absurd (true≢false (sym (gray.1 (o, (subst (Among o) (sym same) m, gray-exact o.colour e))) ∙ none))
      go false e = e

  -- and so it is by name
  other-named : (o : HeapScript) → Among o v.heap.scripts → is_gray_colour o.colour ≡ false
  other-named o m = each-map (λ (q : HeapScript). is_gray_colour q.colour ≡ false) (named_object v.scripts) v.scripts other-each o (subst (Among o) order.named m)

  -- no name is that of a gray one
  names-none : (x : Name) → is_gray_in v.heap x ≡ false
  names-none x = go (find (λ (o : HeapScript). is_gray_colour o.colour) of_name) refl
    where
      of_name : List HeapScript
      of_name = filter (λ (o : HeapScript). same_name o.name x) v.heap.scripts

      go : (f : Option HeapScript) → find (λ (o : HeapScript). is_gray_colour o.colour) of_name ≡ f → is_some f ≡ false
      go None e = refl
      go (Some o) e =
          let there = Among-filtered (λ (p : HeapScript). same_name p.name x) o v.heap.scripts (find-among (λ (p : HeapScript). is_gray_colour p.colour) of_name o e) in
          absurd (true≢false (sym (find-passes (λ (p : HeapScript). is_gray_colour p.colour) of_name o e) ∙ other-named o there))

  -- so there are no holders
  holders-none : holders_of v.heap ≡ []
  holders-none = ap (map (λ (n : HeapNative). native n.number))
      (filter-nothing (holds_gray v.heap) v.heap.natives (λ n m. any-nothing (is_gray_in v.heap) (contents (places_of_native n)) names-none))

  -- and none becomes a node
  pub holders-passed : (xs : List Name) → xs ≡ with_all_last same_name xs (holders_of v.heap)
  holders-passed xs = ap (with_all_last same_name xs) (sym holders-none)

  -- and there are no mappings
  mappings-none : mappings_of v.heap ≡ []
  mappings-none = ap (map (mapping_of v.heap)) (filter-nothing (λ (e : Joint). is_gray_in v.heap e.value) (joints v.heap.entries) (λ e m. names-none e.value))

  pub mappings-passed : (ms : List Mapping) → ms ≡ ms ++ mappings_of v.heap
  mappings-passed ms = sym (ap (λ more. ms ++ more) mappings-none ∙ append-nil ms)

  -- no member becomes a node
  pub members-passed : (xs : List Name) → xs ≡ with_all_last same_name xs (flat_map members_of (mappings_of v.heap))
  members-passed xs = ap (λ ms. with_all_last same_name xs (flat_map members_of ms)) (sym mappings-none)
