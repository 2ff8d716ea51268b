-- AN OBJECT MADE: its spots are empty, and each other one reads as before.
use Rattle.std.proofs.Common.{◌≡◌, ◌⊎◌, ℕ, zero, suc, ◌+◌, Bool, true, false, cond, List, [], ◌∷◌, get_or, Option, Some, None, option_map, refl, ◌∙◌, ap, subst, inl, inr, ⊎_elim, ◌==◌}
use Rattle.std.specs.Option.{option_and_then, option_or}
use Rattle.std.proofs.lemmas.List.Folds.{find-append}
use Rattle.cc_lists.specs.Members.{Among}
use Rattle.cc_names.specs.declared.name.Name.{Name}
use Rattle.cc_names.specs.declared.kind.Kind.{Kind}
use Rattle.cc_names.specs.declared.kind.Kind.TheVariants.{Plain, Reflector, Map, Proxy}
use Rattle.cc_names.specs.Names.{reflector, same_name}
use Rattle.cc_names.specs.Places.{where_set}
use Rattle.cc_names.proofs.NameTests.{same_name-true}
use Rattle.cc_model.specs.Slots.{empty_slots}
use Rattle.cc_model.specs.Checks.{slots_or_none}
use Rattle.cc_model.specs.Heap.{Heap, HeapNative, HeapScript, native_at, native_to_make, new_script, script_at, slots_of_kind, slots_of_script}
use Rattle.cc_model.specs.Effects.{with_native, with_script}
use Rattle.cc_host.specs.Spots.{Spot, reads}
use Rattle.cc_host.proofs.Spots.{Alters, IsGone, gone-still}
use Rattle.cc_host.proofs.SpotsWritten.{others-spared}

-- what is empty holds nothing
empty-reads : (n i : ℕ) → get_or (empty_slots n) i None ≡ None
empty-reads zero i = refl
empty-reads (suc n) zero = refl
empty-reads (suc n) (suc i) = empty-reads n i

module _ (spots : List Spot) (h : Heap) where
  -- A NATIVE MADE
  module _ (n : ℕ) where
    abbrev put : Heap
    put = with_native h n

    found : (j : ℕ) → native_at put j ≡ option_or (native_at h j) (cond (h.natives_made + 1 == j) (Some (native_to_make h n)) None)
    found j = find-append (λ (m : HeapNative). m.number == j) h.natives (native_to_make h n ∷ [])

    slots : (o : Option HeapNative) (b : Bool) (i : ℕ) →
        get_or (slots_or_none (option_map (λ (m : HeapNative). m.slots) (option_or o (cond b (Some (native_to_make h n)) None)))) i None
        ≡ get_or (slots_or_none (option_map (λ (m : HeapNative). m.slots) o)) i None
    slots (Some m) b i = refl
    slots None true i = empty-reads n i
    slots None false i = refl

    preserved : (o : Option HeapNative) (b : Bool) (x : Option Name) →
        option_and_then (λ (m : HeapNative). where_set m.preserved x) (option_or o (cond b (Some (native_to_make h n)) None))
        ≡ option_and_then (λ (m : HeapNative). where_set m.preserved x) o
    preserved (Some m) b x = refl
    preserved None true x = refl
    preserved None false x = refl

    pub others-with_native : (s : Spot) → ¬ (Among s spots) → IsGone put s ⊎ (reads put s ≡ reads h s)
    others-with_native = others-spared spots h put (record {
      registers = λ r out. refl;
      natives = λ j i out. ap (λ o. get_or (slots_or_none (option_map (λ (m : HeapNative). m.slots) o)) i None) (found j) ∙ slots (native_at h j) (h.natives_made + 1 == j) i;
      preserved = λ j out. ap (option_and_then (λ (m : HeapNative). where_set m.preserved (Some (reflector j)))) (found j)
          ∙ preserved (native_at h j) (h.natives_made + 1 == j) (Some (reflector j));
      scripts = λ y i out. refl;
      delegates = λ y out. refl;
      entries = λ y z out. refl;
    })

  -- A SCRIPT OBJECT MADE
  module _ (x : Name) (kind : Kind) (n : ℕ) (d : Option Name) (free : (d ≡ None) ⊎ Among (Spot.delegate x) spots) where
    abbrev with_it : Heap
    with_it = with_script h x kind n d

    abbrev made : HeapScript
    made = new_script x kind n d

    found_script : (y : Name) → script_at with_it y ≡ option_or (script_at h y) (cond (same_name x y) (Some made) None)
    found_script y = find-append (λ (o : HeapScript). same_name o.name y) h.scripts (made ∷ [])

    kinds : (k : Kind) (i : ℕ) → get_or (slots_or_none (slots_of_kind k (empty_slots n))) i None ≡ None
    kinds Plain i = empty-reads n i
    kinds Reflector i = empty-reads n i
    kinds Map i = refl
    kinds Proxy i = empty-reads n i

    script : (o : Option HeapScript) (b : Bool) (i : ℕ) →
        get_or (slots_or_none (option_and_then slots_of_script (option_or o (cond b (Some made) None)))) i None ≡ get_or (slots_or_none (option_and_then slots_of_script o)) i None
    script (Some o) b i = refl
    script None true i = kinds kind i
    script None false i = refl

    delegates : (o : Option HeapScript) (y : Name) → ¬ (Among (Spot.delegate y) spots) → (b : Bool) → same_name x y ≡ b →
        option_and_then (λ (p : HeapScript). p.delegate) (option_or o (cond b (Some made) None)) ≡ option_and_then (λ (p : HeapScript). p.delegate) o
    delegates (Some o) y out b e = refl
    delegates None y out true e = ⊎_elim (λ none. none) (λ i. absurd (out (subst (λ z. Among (Spot.delegate z) spots) (same_name-true x y e) i))) free
    delegates None y out false e = refl

    pub alters-with_script : Alters spots h with_it
    alters-with_script = record {
      others = others-spared spots h with_it (record {
        registers = λ r out. refl;
        natives = λ j i out. refl;
        preserved = λ j out. refl;
        scripts = λ y i out. ap (λ o. get_or (slots_or_none (option_and_then slots_of_script o)) i None) (found_script y) ∙ script (script_at h y) (same_name x y) i;
        delegates = λ y out. ap (option_and_then (λ (p : HeapScript). p.delegate)) (found_script y) ∙ delegates (script_at h y) y out (same_name x y) refl;
        entries = λ y z out. refl;
      });
      none_comes = λ j e. e;
    }

  -- what changes afterwards
  pub others-then : (k m : Heap) → ((s : Spot) → ¬ (Among s spots) → IsGone k s ⊎ (reads k s ≡ reads h s)) → Alters spots k m →
      (s : Spot) → ¬ (Among s spots) → IsGone m s ⊎ (reads m s ≡ reads h s)
  others-then k m f g s out = ⊎_elim
      (λ gone. inl gone)
      (λ e. ⊎_elim (λ gone. inl (gone-still k m g.none_comes s gone)) (λ d. inr (e ∙ d)) (f s out))
      (g.others s out)
