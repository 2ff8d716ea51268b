use Rattle.std.proofs.Common.{◌≡◌, ℕ, List, [], ◌∷◌, ◌++◌, map, Some, None, refl, sym, ◌∙◌, ap, subst, ⊎_elim}
use Rattle.cc_lists.specs.Members.{Among}
use Rattle.cc_lists.proofs.Members.{Among-map_cases}
use Rattle.cc_names.specs.declared.kind.Colour.TheVariants.{White, Gray, Black}
use Rattle.cc_script.specs.ColourOrder.{HasColourOrder}
use Rattle.cc_script.specs.Objects.{Object, AreWhole, map_object, plain_object, places_of, raised_among, whitened, with_colour}
use Rattle.cc_script.proofs.Walks.{risen, risen-places}
use Rattle.cc_tests_stores.proofs.marking.gives_the_lesser_mark.Goals as goal

-- none of them holds anything
abbrev HoldNothing : List Object → Type 0
HoldNothing objects = (o : Object) (q : ℕ) → Among o objects → ¬ (Among (Some q) (places_of o))

none-mapped : (f : Object → Object) → ((o : Object) → places_of (f o) ≡ places_of o) → (objects : List Object) → HoldNothing objects → HoldNothing (map f objects)
none-mapped f kept objects none o q m s =
    let k = Among-map_cases f objects o m in
    none k.0 q k.1 (subst (Among (Some q)) (ap places_of (sym k.2) ∙ kept k.0) s)

-- a map and two objects without slots
none-made : (a b c i j k : ℕ) → HoldNothing (map_object a i ∷ plain_object b j 0 ∷ plain_object c k 0 ∷ [])
none-made a b c i j k o q m s = ⊎_elim (each (map_object a i) empty) (⊎_elim (each (plain_object b j 0) empty) (⊎_elim (each (plain_object c k 0) empty) (λ n. n))) m
  where
    empty : Among (Some q) (None ∷ []) → ⊥
    empty n = ⊎_elim (λ e. absurd (cc)) (λ n. n) n

    each : (p : Object) → (Among (Some q) (places_of p) → ⊥) → p ≡ o → ⊥
    each p none is = none (subst (λ (z : Object). Among (Some q) (places_of z)) (sym is) s)

-- made one after another
none-after : (a b c i j k : ℕ) (none one two three : List Object) → none ≡ [] → one ≡ none ++ map_object a i ∷ [] → two ≡ one ++ plain_object b j 0 ∷ [] →
    three ≡ two ++ plain_object c k 0 ∷ [] → HoldNothing three
none-after a b c i j k none one two three nothing first second third =
    subst HoldNothing
    (sym (third ∙ ap (λ os. os ++ plain_object c k 0 ∷ []) (second ∙ ap (λ os. os ++ plain_object b j 0 ∷ []) (first ∙ ap (λ os. os ++ map_object a i ∷ []) nothing))))
    (none-made a b c i j k)

module _ (made white first second : List Object) (keys others : List ℕ) (none : HoldNothing made) (cleared : white ≡ whitened made)
    (blacked : first ≡ raised_among keys Black white) (grayed : second ≡ raised_among others Gray first) where
  none-marked : HoldNothing second
  none-marked =
      subst HoldNothing (sym grayed) (none-mapped (risen others Gray) (risen-places others Gray) first
      (subst HoldNothing (sym blacked) (none-mapped (risen keys Black) (risen-places keys Black) white
      (subst HoldNothing (sym cleared) (none-mapped (with_colour White) (λ o. refl) made none)))))

  whole : AreWhole second
  whole o q m s = absurd (none-marked o q m s)

  ordered : HasColourOrder second
  ordered = record { held = λ o q m above s. absurd (none-marked o q m s) }

pub mark_on-requires-clause-whole : goal.mark_on-requires-clause-whole
mark_on-requires-clause-whole g c =
    whole c.create_plain-2.new.self c.clear_marks.new.self c.mark_from.new.self c.mark_from-2.new.self _ _
    (none-after c.in-Ok.the_map.0 c.in-Ok-create_plain.key.0 c.in-Ok-create_plain-2.value.0 1 2 3 c.new-scripts.result c.create_map.new.self c.create_plain.new.self c.create_plain-2.new.self
    c.new-scripts.ensures c.in-Ok.ensures.made c.in-Ok-create_plain.ensures.made c.in-Ok-create_plain-2.ensures.made)
    c.clear_marks.ensures c.mark_from.ensures c.mark_from-2.ensures

pub mark_on-requires-clause-ordered : goal.mark_on-requires-clause-ordered
mark_on-requires-clause-ordered g c =
    ordered c.create_plain-2.new.self c.clear_marks.new.self c.mark_from.new.self c.mark_from-2.new.self _ _
    (none-after c.in-Ok.the_map.0 c.in-Ok-create_plain.key.0 c.in-Ok-create_plain-2.value.0 1 2 3 c.new-scripts.result c.create_map.new.self c.create_plain.new.self c.create_plain-2.new.self
    c.new-scripts.ensures c.in-Ok.ensures.made c.in-Ok-create_plain.ensures.made c.in-Ok-create_plain-2.ensures.made)
    c.clear_marks.ensures c.mark_from.ensures c.mark_from-2.ensures
