-- HOW MANY OBJECTS ARE LEFT where some left and few came.
use Rattle.std.proofs.Common.{◌≡◌, ℕ, ◌+◌, ◌≤◌, List, ◌++◌, map, length, count_by, subst, ap, false, refl, ◌∙◌, sym, ⊎_elim, arith}
use Rattle.std.proofs.Math.Path.{fun_ext}
use Rattle.std.proofs.lemmas.List.{length-append, length-map}
use Rattle.cc_lists.specs.Members.{Among}
use Rattle.cc_lists.proofs.Members.{Among-map_cases, Among-left, Among-right, Among-append}
use Rattle.cc_names.specs.declared.name.Name.{Name}
use Rattle.cc_names.specs.declared.name.Name.TheVariants as name
use Rattle.cc_names.specs.Names.{native, object, reflector, same_name}
use Rattle.cc_names.proofs.NameTests.{same_name-exact}
use Rattle.cc_lists.proofs.Rising.{IsRising-once}
use Rattle.cc_lists.proofs.Counting.{count_by-map}
use Rattle.cc_lists.proofs.Numbers.{eqb-sym}
use Rattle.cc_lists.proofs.CountsOf.{count_by-none}
use Rattle.cc_model.specs.Counts.{times}
use Rattle.cc_model.specs.Heap.{Heap, HeapNative, HeapScript}
use Rattle.cc_model.specs.WellFormed.{IsWellFormed, native_names, names_there, script_names}
use Rattle.std.proofs.lemmas.Simd.{map-map}
use Rattle.cc_laws_heap.proofs.NameLists.{names-once_append, same_name-sym}
use Rattle.cc_laws_heap.proofs.ScriptsKept.{native-no_script}
use Rattle.cc_laws_told.specs.Told.{objects}
use Rattle.cc_laws_told.proofs.Counted.{taken-few}

-- no name stands twice
abbrev AreOnce : List Name → Type 0
AreOnce xs = (x : Name) → count_by (same_name x) xs ≤ 1

-- NAMES THAT STAND ONCE, each in a list, are no more than that list has
few-among : (xs ys : List Name) → AreOnce xs → ((x : Name) → Among x xs → Among x ys) → length xs ≤ length ys
few-among xs ys once each = omega (arith, taken-few same_name same_name-exact xs ys (λ x. subst (λ p. count_by p xs ≤ 1) (fun_ext (λ y. same_name-sym x y)) (once x)) each)

-- so many objects have names
length-there : (h : Heap) → length (names_there h) ≡ objects h
length-there h = omega (arith, length-append (native_names h) (script_names h), length-map h.natives (λ (n : HeapNative). native n.number), length-map h.scripts (λ (o : HeapScript). o.name))

-- natives that are told once have names that stand once
pub natives-once : (ks : List ℕ) → ((k : ℕ) → times k ks ≤ 1) → AreOnce (map native ks)
natives-once ks once (name.Native k) = subst (λ c. c ≤ 1) (sym (count_by-map (same_name (native k.0)) native ks ∙ ap (λ p. count_by p ks) (fun_ext (λ j. eqb-sym k.0 j)))) (once k.0)
natives-once ks once (name.Script k) = subst (λ c. c ≤ 1) (sym (count_by-map (same_name (object k.0)) native ks ∙ count_by-none (λ j. false) ks (λ j m. refl))) (omega arith)
natives-once ks once (name.Reflector k) = subst (λ c. c ≤ 1) (sym (count_by-map (same_name (reflector k.0)) native ks ∙ count_by-none (λ j. false) ks (λ j m. refl))) (omega arith)

-- the names of natives stand once
native_names-once : (h : Heap) → IsWellFormed h → AreOnce (native_names h)
native_names-once h w = subst AreOnce (map-map native (λ (n : HeapNative). n.number) h.natives)
    (natives-once numbers (IsRising-once numbers w.rising))
  where
    numbers : List ℕ
    numbers = map (λ n. n.number) h.natives

-- so do all names
names_there-once : (h : Heap) → IsWellFormed h → AreOnce (names_there h)
names_there-once h w = names-once_append (native_names h) (script_names h) (native_names-once h w) w.distinct
    (λ x m n. let f = Among-map_cases (λ (k : HeapNative). native k.number) h.natives x m in native-no_script h f.0.number w (subst (λ y. Among y (script_names h)) (sym f.2) n))

module _ (h g : Heap) (wh : IsWellFormed h) (w : IsWellFormed g) (made : List Name) (came : (x : Name) → Among x (names_there g) → Among x (names_there h ++ made)) where
  -- OBJECTS THAT LEFT AND THOSE THAT ARE THERE are no more than were there and came
  pub objects-left : (numbers : List ℕ) → ((k : ℕ) → times k numbers ≤ 1) → ((k : ℕ) → Among k numbers → Among (native k) (names_there h)) →
      ((k : ℕ) → Among k numbers → ¬ (Among (native k) (names_there g))) → length numbers + objects g ≤ objects h + length made
  objects-left numbers once were gone = omega (
    arith,
    few-among (map native numbers ++ names_there g) (names_there h ++ made)
        (names-once_append (map native numbers) (names_there g) (natives-once numbers once) (names_there-once g w)
        (λ x m. let f = Among-map_cases native numbers x m in subst (λ y. ¬ (Among y (names_there g))) f.2 (gone f.0 f.1)))
        (λ x m. ⊎_elim
        (λ l. let f = Among-map_cases native numbers x l in Among-left x (names_there h) made (subst (λ y. Among y (names_there h)) f.2 (were f.0 f.1)))
        (came x)
        (Among-append x (map native numbers) (names_there g) m)),
    length-append (map native numbers) (names_there g),
    length-map numbers native,
    length-append (names_there h) made,
    length-there g,
    length-there h,
  )

  -- natives are no more than were there and came
  pub natives-left : length g.natives ≤ length h.natives + length made
  natives-left = omega (
    arith,
    few-among (native_names g) (native_names h ++ made) (native_names-once g w)
        (λ x m. let f = Among-map_cases (λ (k : HeapNative). native k.number) g.natives x m in
        ⊎_elim
        (λ l. ⊎_elim
        (λ n. Among-left x (native_names h) made n)
        (λ s. absurd (native-no_script h f.0.number wh (subst (λ y. Among y (script_names h)) (sym f.2) s)))
        (Among-append x (native_names h) (script_names h) l))
        (λ r. Among-right x (native_names h) made r)
        (Among-append x (names_there h) made (came x (Among-left x (native_names g) (script_names g) m)))),
    length-append (native_names h) made,
    length-map g.natives (λ (n : HeapNative). native n.number),
    length-map h.natives (λ (n : HeapNative). native n.number),
  )
