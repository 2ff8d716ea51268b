-- WHAT KEEPS THE COLOURS: a register or a slot that takes what is black, an exposure, a new black script object.
use Rattle.std.proofs.Common.{arith, ◌≡◌, ◌≢◌, ℕ, List, [], ◌∷◌, ◌++◌, map, set, Option, Some, None, refl, sym, ◌∙◌, subst, inl, ◌⊎◌, ⊎_elim}
use Rattle.std.specs.Option.{option_to_list}
use Rattle.cc_lists.specs.Members.{Among}
use Rattle.cc_lists.proofs.Members.{Among-map, Among-flat_map, has-there, has-among}
use Rattle.cc_lists.proofs.Least.{derive-root, derive-along}
use Rattle.cc_lists.proofs.Closure.{closure-derived, derived-closure}
use Rattle.cc_names.specs.declared.name.Name.{Name}
use Rattle.cc_names.specs.declared.kind.Colour.{Colour}
use Rattle.cc_names.specs.declared.kind.Colour.TheVariants.{White, Black}
use Rattle.cc_names.specs.Names.{same_name}
use Rattle.cc_names.proofs.NameTests.{same_name-exact}
use Rattle.cc_model.specs.Slots.{Slots, contents, from_to}
use Rattle.cc_model.specs.Heap.{Heap, HeapScript, with_script_slot}
use Rattle.cc_model.specs.View.{script_slot_edges}
use Rattle.cc_model.specs.Exposure.{slots_of_scripts, exposure_rules, exposed, exposed_names, as_black}
use Rattle.cc_model.specs.Places.{script_places_of}
use Rattle.cc_model.proofs.Places.{slot-place, delegate-place, script_place-cases}
use Rattle.cc_lists.proofs.ListWrites.{Among-flat_map_set, changed_where, changed_where-either, each-map, each-push}
use Rattle.cc_laws_heap.proofs.ScriptsKept.{has_name, is_one_of}
use Rattle.cc_laws_heap.proofs.Coloured.{AreColoured, IsColoured}

-- the script object that a register or a slot holds is black, where it holds one
abbrev pub IsHeldBlack : List HeapScript → Option Name → Type 0
IsHeldBlack scripts x = (o : HeapScript) → Among o scripts → Among o.name (option_to_list x) → o.colour ≡ Black

-- A script register takes what is black.
pub AreColoured-register : (scripts : List HeapScript) (registers : Slots) (d : ℕ) (x : Option Name) → IsHeldBlack scripts x →
    AreColoured scripts registers → AreColoured scripts (set registers d x)
AreColoured-register scripts registers d x black c = grind (arith, Among-flat_map_set)

-- A slot takes what is black.
pub AreColoured-slot : (scripts : List HeapScript) (registers : Slots) (x : Name) (i : ℕ) (y : Option Name) → IsHeldBlack scripts y →
    AreColoured scripts registers → AreColoured (map (changed_where (has_name x) (with_script_slot i y)) scripts) registers
AreColoured-slot scripts registers x i y black c = record {
  black_to_black = λ o p m n. each-map (λ o. o.colour ≡ Black → Among p.name (contents (script_places_of o)) → p.colour ≡ Black) written scripts
      (λ q j. each-map (λ p. (written q).colour ≡ Black → Among p.name (contents (script_places_of (written q))) → p.colour ≡ Black) written scripts (both q j) p n) o m;
  held_black = each-map (λ o. Among o.name (contents registers) → o.colour ≡ Black) written scripts
      (λ o m k. same_colour o Black (c.held_black o m (subst (λ z. Among z (contents registers)) (same_name_written o) k)));
  none_white = each-map (λ o. o.colour ≢ White) written scripts (λ o m e. c.none_white o m (back_colour o White e));
}
  where
    written : HeapScript → HeapScript
    written o = changed_where (has_name x) (with_script_slot i y) o

    same_name_written : (o : HeapScript) → (written o).name ≡ o.name
    same_name_written o = changed_where-either (λ p. p.name ≡ o.name) (has_name x) (with_script_slot i y) o (λ e. refl) refl

    same_colour_written : (o : HeapScript) → (written o).colour ≡ o.colour
    same_colour_written o = changed_where-either (λ p. p.colour ≡ o.colour) (has_name x) (with_script_slot i y) o (λ e. refl) refl

    same_colour : (o : HeapScript) (k : Colour) → o.colour ≡ k → (written o).colour ≡ k
    same_colour o k e = same_colour_written o ∙ e

    back_colour : (o : HeapScript) (k : Colour) → (written o).colour ≡ k → o.colour ≡ k
    back_colour o k e = sym (same_colour_written o) ∙ e

    both : (q : HeapScript) → Among q scripts → (r : HeapScript) → Among r scripts → (written q).colour ≡ Black →
        Among (written r).name (contents (script_places_of (written q))) →
        (written r).colour ≡ Black
    both q j r k e h = grind (arith, changed_where-either, Among-flat_map_set, slot-place, delegate-place, script_place-cases)

-- A black script object is made that holds black ones alone.
pub AreColoured-push : (scripts : List HeapScript) (registers : Slots) (n : HeapScript) → n.colour ≡ Black →
    ((o : HeapScript) → Among o scripts → Among o.name (contents (script_places_of n)) → o.colour ≡ Black) →
    AreColoured scripts registers → AreColoured (scripts ++ n ∷ []) registers
AreColoured-push scripts registers n black holds c = record {
  black_to_black = λ o p m k. each-push (λ p. o.colour ≡ Black → Among p.name (contents (script_places_of o)) → p.colour ≡ Black) scripts n
      (λ p i. each-push (λ o. o.colour ≡ Black → Among p.name (contents (script_places_of o)) → p.colour ≡ Black) scripts n
      (λ o j. c.black_to_black o p j i) (λ e h. holds p i h) o m)
      (λ e h. black) p k;
  held_black = each-push (λ o. Among o.name (contents registers) → o.colour ≡ Black) scripts n c.held_black (λ i. black);
  none_white = each-push (λ o. o.colour ≢ White) scripts n c.none_white (λ e. let both : Black ≡ White = sym black ∙ e in cc);
}

-- An exposure

module _ (h : Heap) (x : Name) where
  -- a script object after the exposure of x
  abbrev blacken : HeapScript → HeapScript
  blacken o = changed_where (is_one_of (exposed_names h x)) as_black o

  -- what is exposed is black
  blacken-exposed : (o : HeapScript) → Among o.name (exposed_names h x) → (blacken o).colour ≡ Black
  blacken-exposed o m = rw (has-there same_name same_name-exact (exposed_names h x) o.name m) refl

  -- an exposure keeps names
  blacken-name : (o : HeapScript) → (blacken o).name ≡ o.name
  blacken-name o = changed_where-either (λ p. p.name ≡ o.name) (is_one_of (exposed_names h x)) as_black o (λ e. refl) refl

  -- an exposure keeps places
  blacken-places : (o : HeapScript) → script_places_of (blacken o) ≡ script_places_of o
  blacken-places o = changed_where-either (λ p. script_places_of p ≡ script_places_of o) (is_one_of (exposed_names h x)) as_black o (λ e. refl) refl

  -- what was black is black
  blacken-black : (o : HeapScript) → o.colour ≡ Black → (blacken o).colour ≡ Black
  blacken-black o e = changed_where-either (λ p. p.colour ≡ Black) (is_one_of (exposed_names h x)) as_black o (λ t. refl) e

  -- what was not white is not white
  blacken-not_white : (o : HeapScript) → o.colour ≢ White → (blacken o).colour ≢ White
  blacken-not_white o w = changed_where-either (λ p. p.colour ≢ White) (is_one_of (exposed_names h x)) as_black o (λ t e. absurd (cc)) w

  -- what is black then is exposed, or was black
  blacken-cases : (o : HeapScript) → (blacken o).colour ≡ Black → Among o.name (exposed_names h x) ⊎ (o.colour ≡ Black)
  blacken-cases o = grind (arith, changed_where-either, has-among, same_name-exact)

  -- what is exposed exposes what it has in slots and as its delegate
  exposed-along : (o : HeapScript) (y : Name) → Among o h.scripts → Among o.name (exposed_names h x) → Among y (contents (script_places_of o)) →
      Among y (exposed_names h x)
  exposed-along o y m e i = derived-closure same_name same_name-exact (exposure_rules h x) y
      (derive-along (x ∷ []) (slots_of_scripts h) [] o.name y
      (Among-flat_map script_slot_edges o (from_to o.name y) h.scripts m (Among-map (from_to o.name) y (contents (script_places_of o)) i))
      (closure-derived same_name same_name-exact (exposure_rules h x) o.name e))

  -- and it is exposed itself
  exposed-itself : Among x (exposed_names h x)
  exposed-itself = derived-closure same_name same_name-exact (exposure_rules h x) x (derive-root (x ∷ []) (slots_of_scripts h) [] x (inl refl))

  -- what is black after an exposure holds black ones alone
  AreColoured-blacken : IsColoured h → AreColoured (map blacken h.scripts) h.script_registers
  AreColoured-blacken c = record {
    black_to_black = λ o p m n. each-map (λ o. o.colour ≡ Black → Among p.name (contents (script_places_of o)) → p.colour ≡ Black) blacken h.scripts
        (λ q j. each-map (λ p. (blacken q).colour ≡ Black → Among p.name (contents (script_places_of (blacken q))) → p.colour ≡ Black) blacken h.scripts (both q j) p n) o m;
    held_black = each-map (λ o. Among o.name (contents h.script_registers) → o.colour ≡ Black) blacken h.scripts
        (λ o m i. blacken-black o (c.held_black o m (subst (λ z. Among z (contents h.script_registers)) (blacken-name o) i)));
    none_white = each-map (λ o. o.colour ≢ White) blacken h.scripts (λ o m. blacken-not_white o (c.none_white o m));
  }
    where
      both : (q : HeapScript) → Among q h.scripts → (r : HeapScript) → Among r h.scripts → (blacken q).colour ≡ Black →
          Among (blacken r).name (contents (script_places_of (blacken q))) →
          (blacken r).colour ≡ Black
      both q j r k e i =
          let held : Among r.name (contents (script_places_of q)) =
          subst (λ z. Among z (contents (script_places_of q))) (blacken-name r) (subst (λ (s : Slots). Among (blacken r).name (contents s)) (blacken-places q) i) in
          ⊎_elim
          (λ t. blacken-exposed r (exposed-along q r.name j t held))
          (λ t. blacken-black r (c.black_to_black q r j k t held))
          (blacken-cases q e)

-- An exposure keeps the colours,
pub exposed-coloured : (h : Heap) (x : Option Name) → IsColoured h → IsColoured (exposed h x)
unfolding exposed
exposed-coloured h None c = c
exposed-coloured h (Some x) c = AreColoured-blacken h x c

-- and what is exposed is black.
pub exposed-black : (h : Heap) (x : Option Name) → IsHeldBlack (exposed h x).scripts x
unfolding exposed
exposed-black h None = λ o m i. absurd i
exposed-black h (Some x) = each-map (λ o. Among o.name (x ∷ []) → o.colour ≡ Black) (blacken h x) h.scripts
    (λ o m i. blacken-exposed h x o (⊎_elim (λ e. subst (λ z. Among z (exposed_names h x)) (e ∙ blacken-name h x o) (exposed-itself h x)) (λ t. absurd t) i))
