-- A WALK OVER THE OBJECTS: what they show once a key stands otherwise in it, and what stays.
use Rattle.std.proofs.Common.{◌≡◌, ℕ, List, map, Some, None, option_map, refl, sym, ◌∙◌, ap, subst, ⊎_elim, ◌==◌}
use Rattle.std.specs.Prelude.{slice_index_or}
use Rattle.std.proofs.lemmas.Bool.{eq-eqb, ne_eqb}
use Rattle.std.proofs.lemmas.Bool.Decides.{eqb_tells}
use Rattle.std.proofs.lemmas.Simd.{map-map}
use Rattle.cc_lists.specs.Members.{Among}
use Rattle.cc_lists.proofs.Held.{is_some-map, is_some-found}
use Rattle.cc_lists.proofs.ListWrites.{changed_where-either, map-agree}
use Rattle.cc_lists.proofs.Members.{Among-map_cases}
use Rattle.cc_names.specs.declared.kind.Walked.{Walked}
use Rattle.cc_names.specs.declared.kind.Walked.TheVariants.{Out}
use Rattle.cc_names.specs.declared.kind.Colour.TheVariants.{White}
use Rattle.cc_chain.proofs.Chains.{chain-live}
use Rattle.cc_walk.specs.Walks.{Walks, members, nowhere}
use Rattle.cc_script.specs.declared.parts.ScriptParts.{ScriptParts}
use Rattle.cc_script.specs.Objects.{Object, change_object, is_below, places_of, unwalked, with_walked}
use Rattle.cc_script.specs.ColourOrder.{HasColourOrder}
use Rattle.cc_script.specs.Lists.{Placed, Lists, cell_at, shown_at, objects_of, with_walk, IsPlaced}
use Rattle.cc_script.specs.Threads.{of_walk}
use Rattle.cc_script.specs.Cells.{link_of, links_in}
use Rattle.cc_script.specs.Parts.{lists_of, walk_in, IsChained}
use Rattle.cc_script.proofs.Keys.{object_at-map, changed_at, changed_at-key}
use Rattle.cc_script.proofs.Linking.{cell-read}

-- the object at one key changed in this alone
module _ (l : Lists) (key : ℕ) (state : Walked) (f : Object → Object) (same : f (shown_at l key) ≡ with_walked state (shown_at l key)) where
  shown-here : shown_at (with_walk l key state) key ≡ changed_at key f (shown_at l key)
  shown-here = rw (eq-eqb key key refl) (sym same)

  shown-walked : (k : ℕ) → shown_at (with_walk l key state) k ≡ changed_at key f (shown_at l k)
  shown-walked k = ⊎_elim
      (λ t. subst (λ j. shown_at (with_walk l key state) j ≡ changed_at key f (shown_at l j)) (sym t.1) shown-here)
      (λ t. rw (t.0, ne_eqb key k (λ e. t.1 (sym e))) refl)
      (eqb_tells k key)

  pub objects-walked : objects_of (with_walk l key state) ≡ change_object (objects_of l) key f
  objects-walked =
      map-agree (shown_at (with_walk l key state)) (λ k. changed_at key f (shown_at l k)) l.order (λ k m. shown-walked k)
      ∙ sym (map-map (changed_at key f) (shown_at l) l.order)

-- no key is in it
pub objects-unwalked : (l : Lists) → objects_of (record l { walks = nowhere }) ≡ unwalked (objects_of l)
objects-unwalked l = sym (map-map (with_walked Out) (shown_at l) l.order)

-- the lists fit together whatever the walk is
pub IsPlaced-walked : (l : Lists) (walks : Walks) → IsPlaced l → IsPlaced (record l { walks = walks })
IsPlaced-walked l walks p = record {
  in_order = p.in_order;
  ordered = p.ordered;
  once = p.once;
  small = p.small;
  reflected = p.reflected;
  delegated = p.delegated;
}

-- the colours stay in order where keys, places and colours stay
module _ (g : Object → Object) (keeps_key : (o : Object) → (g o).key ≡ o.key) (keeps_places : (o : Object) → places_of (g o) ≡ places_of o)
    (keeps_colour : (o : Object) → (g o).colour ≡ o.colour) (objects : List Object) (h : HasColourOrder objects) where
  pub HasColourOrder-mapped : HasColourOrder (map g objects)
  HasColourOrder-mapped = record {
    held = λ o q m above s.
        let k = Among-map_cases g objects o m in
        let colour = ap (λ (z : Object). z.colour) (sym k.2) ∙ keeps_colour k.0 in
        let f = h.held k.0 q k.1 (ap (is_below White) (sym colour) ∙ above) (subst (Among (Some q)) (ap places_of (sym k.2) ∙ keeps_places k.0) s) in
        (g f.0, object_at-map g keeps_key objects q ∙ ap (option_map g) f.1, (λ i. is_below (keeps_colour f.0 i) (colour i)) ∙ f.2);
  }

pub HasColourOrder-changed : (objects : List Object) (key : ℕ) (f : Object → Object) → ((o : Object) → (f o).key ≡ o.key) → ((o : Object) → places_of (f o) ≡ places_of o) →
    ((o : Object) → (f o).colour ≡ o.colour) → HasColourOrder objects → HasColourOrder (change_object objects key f)
HasColourOrder-changed objects key f keeps_key keeps_places keeps_colour = HasColourOrder-mapped (changed_at key f) (changed_at-key key f keeps_key)
    (λ o. changed_where-either (λ z. places_of z ≡ places_of o) (λ z. z.key == key) f o (λ e. keeps_places o) refl)
    (λ o. changed_where-either (λ z. z.colour ≡ o.colour) (λ z. z.key == key) f o (λ e. keeps_colour o) refl) objects

-- a member is an object
pub member-cell : (p : ScriptParts) → IsChained p → (key : ℕ) → Among key (members (walk_in p)) → (c : Placed) × (cell_at (lists_of p).cells key ≡ Some c)
member-cell p h key m =
    let slot = slice_index_or p.cells.slots key None in
    let live = chain-live (links_in of_walk p.cells.slots) p.walk.chain (members (walk_in p)) h.walk.chain key m in
    let z = is_some-found slot (sym (is_some-map (link_of of_walk) slot) ∙ live) in
    (z.0.placed, cell-read p.cells.slots key z.0 z.1)
