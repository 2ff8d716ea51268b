-- WHAT A SWEEP HAS TAKEN OUT SO FAR: script objects and natives; those that are left are as they were, but for counts.
use Rattle.std.proofs.Common.{◌≡◌, ℕ, ◌≤◌, Bool, true, false, not, ◌||◌, List, [], ◌∷◌, ◌++◌, map, refl, sym, ◌∙◌, ap, subst, ⊎_elim, arith, count_by, ◌==◌}
use Rattle.std.specs.List.{filter}
use Rattle.std.proofs.Math.Bool.{or-false}
use Rattle.std.proofs.Math.Path.{fun_ext}
use Rattle.std.proofs.lemmas.Simd.{map-map}
use Rattle.cc_lists.specs.Members.{Among, has}
use Rattle.cc_lists.proofs.Filtering.{filter-each}
use Rattle.cc_lists.proofs.Members.{Among-left, Among-right, Among-map_cases}
use Rattle.cc_lists.proofs.Counting.{count_by-cons, count_by-map}
use Rattle.cc_names.specs.declared.name.Name.{Name}
use Rattle.cc_names.specs.declared.name.Name.TheVariants as name
use Rattle.cc_names.specs.Names.{native, same_name, is_script}
use Rattle.cc_model.specs.declared.item.Event.TheVariants.{Freed}
use Rattle.cc_model.specs.Heap.{Heap, HeapNative, HeapScript, Outcome, silently, after, outcome_of}
use Rattle.cc_model.specs.WellFormed.{native_names, script_names, names_there}
use Rattle.cc_model.specs.Counts.{times}
use Rattle.cc_model.specs.Sweep.{without_script}
use Rattle.cc_laws_heap.specs.Freeing.{uncounted, is_none_of, Frees}
use Rattle.cc_laws_heap.specs.Rounds.{is_not_among, FreesNames}
use Rattle.cc_lists.proofs.Searching.{filter-true, filter-map}
use Rattle.cc_laws_heap.proofs.References.{times-natives_in}
use Rattle.cc_laws_heap.proofs.NameLists.{same_name-sym, has-natives_in, natives_in-natives}
use Rattle.cc_laws_heap.proofs.ScriptNames.{script-other}
use Rattle.cc_laws_heap.proofs.FreedNames.{filter-not_among, FreesNames-silently, FreesNames-then}

-- the name of a native
abbrev pub name_of_native : HeapNative → Name
name_of_native u = native u.number

-- the name of a script object
abbrev pub name_of_script : HeapScript → Name
name_of_script o = o.name

-- whether a native is none of a list of names
abbrev pub is_native_left : List Name → HeapNative → Bool
is_native_left xs u = is_not_among xs (name_of_native u)

-- whether a script object is none of a list of names
abbrev pub is_script_left : List Name → HeapScript → Bool
is_script_left xs o = is_not_among xs (name_of_script o)

-- the objects `xs` are told in this order and taken out; those that are left are as they were, but for counts and the
-- buffer
pub record TakesOut (h : Heap) (xs : List Name) (o : Outcome) : Type 0 where
  pub names : FreesNames h xs o
  pub natives : map uncounted o.heap.natives ≡ filter (is_native_left xs) (map uncounted h.natives)
  pub scripts : o.heap.scripts ≡ filter (is_script_left xs) h.scripts
  pub entries : o.heap.entries ≡ h.entries

-- where nothing was done nothing was taken out
pub TakesOut-silently : (h : Heap) → TakesOut h [] (silently h)
TakesOut-silently h = grind (arith, FreesNames-silently, filter-true)

-- Objects taken out, and then others, are taken out together.
pub TakesOut-then : (h : Heap) (xs ys : List Name) (o p : Outcome) → TakesOut h xs o → TakesOut o.heap ys p → TakesOut h (xs ++ ys) (after o.events p)
TakesOut-then h xs ys o p f g = record {
  names = FreesNames-then h xs ys o p f.names g.names;
  natives = g.natives ∙ (ap (filter (is_native_left ys)) f.natives ∙ filter-not_among name_of_native xs ys (map uncounted h.natives));
  scripts = g.scripts ∙ (ap (filter (is_script_left ys)) f.scripts ∙ filter-not_among name_of_script xs ys h.scripts);
  entries = g.entries ∙ f.entries;
}

-- the names of natives, by the natives without their counts
native_names-uncounted : (h : Heap) → native_names h ≡ map name_of_native (map uncounted h.natives)
native_names-uncounted h = sym (map-map name_of_native uncounted h.natives)

-- natives left are names left
native_names-left : (h k : Heap) (xs : List Name) → map uncounted k.natives ≡ filter (is_native_left xs) (map uncounted h.natives) →
    native_names k ≡ filter (is_not_among xs) (native_names h)
native_names-left h k xs e = grind (arith, native_names-uncounted, filter-map)

-- script objects left are names left
script_names-left : (h k : Heap) (xs : List Name) → k.scripts ≡ filter (is_script_left xs) h.scripts → script_names k ≡ filter (is_not_among xs) (script_names h)
script_names-left h k xs e = ap (map name_of_script) e ∙ sym (filter-map (is_not_among xs) name_of_script h.scripts)

-- One script object

-- a name in a list alone stands there at most once
once-alone : (x y : Name) → count_by (same_name y) (x ∷ []) ≤ 1
once-alone x y = grind (arith, count_by-cons)

-- A script object that is there is told and taken out.
pub TakesOut-script : (h : Heap) (x : Name) → is_script x ≡ true → Among x (script_names h) →
    TakesOut h (x ∷ []) (outcome_of (without_script h x) (Freed x ∷ []))
TakesOut-script h x s m = record {
  names = record {
    told = refl;
    once = once-alone x;
    were_there = λ y i. ⊎_elim (λ e. subst (λ z. Among z (names_there h)) e (Among-right x (native_names h) (script_names h) m)) (λ t. absurd t) i;
    natives = native_names-left h (without_script h x) (x ∷ []) natives;
    scripts = script_names-left h (without_script h x) (x ∷ []) scripts;
    native_registers = refl;
    script_registers = refl;
    natives_made = refl;
    scripts_made = refl;
    limits = refl;
  };
  natives = natives;
  scripts = scripts;
  entries = refl;
}
  where
    natives : map uncounted h.natives ≡ filter (is_native_left (x ∷ [])) (map uncounted h.natives)
    natives = sym (filter-true (is_native_left (x ∷ [])) (map uncounted h.natives) (λ u. ap (λ b. not (b || false)) (script-other x u.number s)))

    scripts : (without_script h x).scripts ≡ filter (is_script_left (x ∷ [])) h.scripts
    scripts = ap (λ p. filter p h.scripts) (fun_ext (λ o. ap not (same_name-sym o.name x ∙ sym (or-false (same_name x o.name)))))

-- Natives freed by a cascade

-- the names of distinct natives are distinct
once-natives : (ks : List ℕ) → ((k : ℕ) → times k ks ≤ 1) → (x : Name) → count_by (same_name x) (map native ks) ≤ 1
once-natives ks once (name.Native k) = subst (λ n. n ≤ 1) (ap (times k.0) (sym (natives_in-natives ks)) ∙ times-natives_in k.0 (map native ks)) (once k.0)
once-natives ks once x = rw (count_by-map (same_name x) native ks) (none ks)
  where
    none : (js : List ℕ) → count_by (λ j. false) js ≤ 1
    none [] = omega arith
    none (j ∷ js) = none js

-- natives are none of a list of names where their numbers are none of the natives in it
pub is_native_left-none_of : (xs : List Name) (ks : List ℕ) → ((k : ℕ) → has (λ i j. i == j) ks k ≡ has same_name xs (native k)) →
    is_none_of ks ≡ is_native_left xs
is_native_left-none_of xs ks e = fun_ext (λ u. ap not (e u.number))

-- What a cascade frees it takes out, where no script object has a native's name.
pub TakesOut-cascade : (h : Heap) (ks : List ℕ) (o : Outcome) → ((p : HeapScript) → Among p h.scripts → is_script p.name ≡ true) → Frees h ks o →
    TakesOut h (map native ks) o
TakesOut-cascade h ks o named f = record {
  names = record {
    told = f.told ∙ sym (map-map Freed native ks);
    once = once-natives ks f.once;
    were_there = λ x m.
        let k = Among-map_cases native ks x m in
        subst (λ y. Among y (names_there h)) k.2 (Among-left (native k.0) (native_names h) (script_names h) (f.were_there k.0 k.1));
    natives = native_names-left h o.heap (map native ks) natives;
    scripts = script_names-left h o.heap (map native ks) scripts;
    native_registers = f.beside.native_registers;
    script_registers = f.beside.script_registers;
    natives_made = f.beside.natives_made;
    scripts_made = f.beside.scripts_made;
    limits = f.beside.limits;
  };
  natives = natives;
  scripts = scripts;
  entries = f.beside.entries;
}
  where
    none_of : is_none_of ks ≡ is_native_left (map native ks)
    none_of = is_native_left-none_of (map native ks) ks
        (λ k. ap (λ js. has (λ i j. i == j) js k) (sym (natives_in-natives ks)) ∙ has-natives_in (map native ks) k)

    natives : map uncounted o.heap.natives ≡ filter (is_native_left (map native ks)) (map uncounted h.natives)
    natives = f.natives ∙ ap (λ p. filter p (map uncounted h.natives)) none_of

    other : (js : List ℕ) (x : Name) → is_script x ≡ true → is_not_among (map native js) x ≡ true
    other [] x s = refl
    other (j ∷ js) x s = rw (same_name-sym (native j) x ∙ script-other x j s) (other js x s)

    scripts : o.heap.scripts ≡ filter (is_script_left (map native ks)) h.scripts
    scripts = f.beside.scripts ∙ sym (filter-each (is_script_left (map native ks)) h.scripts (λ p m. other ks p.name (named p m)))
