-- THERE ARE NO MORE OBJECTS THAN LIMITS ALLOW: a million natives, a million plain objects, and a reflector for each native.
use Rattle.std.proofs.Common.{◌≡◌, ◌≢◌, ℕ, zero, suc, ◌≤◌, Bool, true, not, List, [], ◌∷◌, length, refl, sym, ◌∙◌, ap, subst, inl, arith, count_by}
use Rattle.std.specs.List.{filter}
use Rattle.std.proofs.lemmas.Bool.{true≢false}
use Rattle.std.proofs.lemmas.Bool.Decides.{eqb_tells}
use Rattle.std.proofs.lemmas.List.Filters.{length-filter_both}
use Rattle.std.proofs.lemmas.List.Sums.{length-filter}
use Rattle.std.proofs.Common.{⊎_elim}
use Rattle.cc_lists.specs.Members.{Among}
use Rattle.cc_lists.proofs.Members.{Among-filtered, Among-passes}
use Rattle.cc_lists.proofs.Filtering.{count_by-filter-le}
use Rattle.cc_names.specs.declared.name.Name.{Name}
use Rattle.cc_names.specs.declared.name.Name.TheVariants as name
use Rattle.cc_names.specs.Names.{object, reflector, same_name, is_reflector}
use Rattle.cc_names.proofs.NameTests.{same_name-refl}
use Rattle.cc_model.specs.WellFormed.{script_names}
use Rattle.cc_laws_heap.proofs.Face.{named-member, native-no_script, natives-made}
use Rattle.cc_heaps.specs.Keyed.{Keyed, IsInOrder}

-- the name of an object of a kind with a number up to the last one that was made
abbrev pub IsMadeObject : (ℕ → Name) → ℕ → Name → Type 0
IsMadeObject of_number made x = (k : ℕ) × (x ≡ of_number k) × (1 ≤ k) × (k ≤ made)

-- so many distinct names there are at most
names-fit : (of_number : ℕ → Name) (made : ℕ) (names : List Name) → ((x : Name) → Among x names → IsMadeObject of_number made x) → ((x : Name) → count_by (same_name x) names ≤ 1) →
    length names ≤ made
names-fit of_number zero [] within once = omega arith
names-fit of_number zero (x ∷ xs) within once = let k = within x (inl refl) in absurd (omega (arith, k.2, k.3))
names-fit of_number (suc made) names within once =
    let rest : length (filter other names) ≤ made = names-fit of_number made (filter other names) below (λ x. omega (arith, once x, count_by-filter-le (same_name x) other names)) in
    omega (arith, once last, length-filter (same_name last) names, length-filter_both (same_name last) other (λ x. refl) names)
  where
    last : Name
    last = of_number (suc made)

    other : Name → Bool
    other x = not (same_name last x)

    below : (x : Name) → Among x (filter other names) → IsMadeObject of_number made x
    below x m =
        let k = within x (Among-filtered other x names m) in
        (k.0, k.1, k.2, less k.0 k.1 k.3)
      where
        differs : (k : ℕ) → x ≡ of_number k → k ≢ suc made
        differs k e f =
            let same : same_name last x ≡ true = subst (λ y. same_name last y ≡ true) (sym (e ∙ ap of_number f)) (same_name-refl last) in
            absurd (true≢false (sym (Among-passes other x names m) ∙ ap not same))

        less : (k : ℕ) → x ≡ of_number k → k ≤ suc made → k ≤ made
        less k e small = ⊎_elim (λ t. absurd (differs k e t.1)) (λ t. omega (arith, t.1)) (eqb_tells k (suc made))

-- the names of reflectors, and of the other script objects
abbrev reflectors_in : List Name → List Name
reflectors_in names = filter is_reflector names

abbrev objects_in : List Name → List Name
objects_in names = filter (λ x. not (is_reflector x)) names

module _ (owned : List ℕ) (v : Keyed) (o : IsInOrder owned v) where
  -- an object has a number that was made
  object-made : (x : Name) → Among x (objects_in (script_names v.heap)) → IsMadeObject object v.heap.scripts_made x
  object-made x m = go x (Among-filtered (λ y. not (is_reflector y)) x (script_names v.heap) m) (Among-passes (λ y. not (is_reflector y)) x (script_names v.heap) m)
    where
      go : (x : Name) → Among x (script_names v.heap) → not (is_reflector x) ≡ true → IsMadeObject object v.heap.scripts_made x
      go (name.Native k) m e = absurd (native-no_script v.heap k.0 o.sound.well_formed m)
      go (name.Script k) m e = let n = o.sound.well_formed.object_numbers k.0 m in (k.0, refl, n.0, n.1)
      go (name.Reflector k) m e = absurd (true≢false (sym e))

  -- a reflector that of a native that was made
  reflector-made : (x : Name) → Among x (reflectors_in (script_names v.heap)) → IsMadeObject reflector v.heap.natives_made x
  reflector-made x m = go x (Among-filtered is_reflector x (script_names v.heap) m) (Among-passes is_reflector x (script_names v.heap) m)
    where
      go : (x : Name) → Among x (script_names v.heap) → is_reflector x ≡ true → IsMadeObject reflector v.heap.natives_made x
      go (name.Native k) m e = absurd (true≢false (sym e))
      go (name.Script k) m e = absurd (true≢false (sym e))
      go (name.Reflector k) m e =
          let n = named-member v.heap k.0 (o.sound.well_formed.reflected k.0 m) in
          let made = o.sound.well_formed.native_numbers n.0 n.1 in
          (k.0, refl, omega (arith, made.0, n.2), omega (arith, made.1, n.2))

  pub scripts-limited : length (script_names v.heap) ≤ 2000000
  scripts-limited =
      let once = o.sound.well_formed.distinct in
      let objects : length (objects_in (script_names v.heap)) ≤ v.heap.scripts_made = names-fit object v.heap.scripts_made (objects_in (script_names v.heap)) object-made
      (λ x. omega (arith, once x, count_by-filter-le (same_name x) (λ y. not (is_reflector y)) (script_names v.heap))) in
      let reflectors : length (reflectors_in (script_names v.heap)) ≤ v.heap.natives_made = names-fit reflector v.heap.natives_made (reflectors_in (script_names v.heap)) reflector-made
      (λ x. omega (arith, once x, count_by-filter-le (same_name x) is_reflector (script_names v.heap))) in
      omega (
        arith,
        objects,
        reflectors,
        length-filter_both is_reflector (λ y. not (is_reflector y)) (λ x. refl) (script_names v.heap),
        o.sound.well_formed.scripts_allowed,
        o.sound.well_formed.natives_allowed,
        o.limits.0,
        o.limits.1,
      )

  pub natives-limited : length v.heap.natives ≤ 1000000
  natives-limited = omega (arith, natives-made v.heap o.sound.well_formed, o.sound.well_formed.natives_allowed, o.limits.0)
