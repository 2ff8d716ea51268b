-- THE NAMES THAT A CENSUS LISTS, taken as two lists: those of natives, and those of script objects.
use Rattle.std.proofs.Common.{◌≡◌, ℕ, ◌+◌, Bool, true, false, not, ◌&&◌, ◌||◌, List, [], ◌∷◌, ◌++◌, map, length, refl, sym, ◌∙◌, ap, subst, inl, inr, arith, cond}
use Rattle.std.specs.List.{filter}
use Rattle.std.proofs.Math.Path.{fun_ext}
use Rattle.std.proofs.lemmas.Bool.{true≢false, not-true}
use Rattle.std.proofs.lemmas.List.{append-nil, length-append}
use Rattle.std.proofs.lemmas.List.Elements.{filter-append}
use Rattle.cc_lists.specs.Members.{Among, has, without}
use Rattle.cc_lists.proofs.Members.{Among-filter, Among-filtered, Among-passes, has-there, has-among}
use Rattle.cc_names.specs.declared.name.Name.{Name}
use Rattle.cc_names.specs.Names.{native, same_name, is_native, is_script}
use Rattle.cc_names.proofs.NameTests.{same_name-exact}
use Rattle.cc_model.specs.Listed.{census_order, after_events}
use Rattle.cc_laws_heap.specs.Rounds.{is_not_among}
use Rattle.cc_lists.proofs.Filtering.{filter-nothing}
use Rattle.cc_lists.proofs.Searching.{filter-true, filter-filter}
use Rattle.cc_laws_heap.proofs.ScriptNames.{script-other}
use Rattle.cc_laws_heap.proofs.NameLists.{same_name-sym}
use Rattle.cc_laws_heap.proofs.Freed.{freed_event}

-- Filters of two lists one after the other

-- where the first list passes and the second does not, the first is left
pub filter-first : {X : Type 0} (p : X → Bool) (xs ys : List X) → ((x : X) → Among x xs → p x ≡ true) → ((y : X) → Among y ys → p y ≡ false) →
    filter p (xs ++ ys) ≡ xs
filter-first p [] ys all none = filter-nothing p ys none
filter-first p (x ∷ xs) ys all none = rw (all x (inl refl)) (ap (λ zs. x ∷ zs) (filter-first p xs ys (λ z m. all z (inr m)) none))

-- where the second list passes and the first does not, the second is left
pub filter-second : {X : Type 0} (p : X → Bool) (xs ys : List X) → ((x : X) → Among x xs → p x ≡ false) → ((y : X) → Among y ys → p y ≡ true) →
    filter p (xs ++ ys) ≡ ys
filter-second p [] [] none all = refl
filter-second p [] (y ∷ ys) none all = rw (all y (inl refl)) (ap (λ zs. y ∷ zs) (filter-second p [] ys none (λ z m. all z (inr m))))
filter-second p (x ∷ xs) ys none all = rw (none x (inl refl)) (filter-second p xs ys (λ z m. none z (inr m)) all)

-- Natives and script objects

-- a script object is no native
not_native : (x : Name) → is_script x ≡ true → is_native x ≡ false
not_native x e = not-true (is_native x) e

-- a native is no script object
not_script : (x : Name) → is_native x ≡ true → is_script x ≡ false
not_script x e = ap not e

-- of these names the natives and the script objects, each in order
pub record AreListed (names natives scripts : List Name) : Type 0 where
  pub natives_are : filter is_native names ≡ natives
  pub scripts_are : filter is_script names ≡ scripts

-- then a census lists these natives and then these script objects
pub AreListed-census : (names natives scripts : List Name) → AreListed names natives scripts → natives ++ scripts ≡ census_order names
AreListed-census names natives scripts a = ap (λ xs. xs ++ scripts) (sym a.natives_are) ∙ ap (λ xs. filter is_native names ++ xs) (sym a.scripts_are)

-- and where a census lists natives and then script objects, the names have these
pub AreListed-from : (names natives scripts : List Name) → ((x : Name) → Among x natives → is_native x ≡ true) →
    ((x : Name) → Among x scripts → is_script x ≡ true) → natives ++ scripts ≡ census_order names → AreListed names natives scripts
AreListed-from names natives scripts all_native all_script e = record {
  natives_are = sym (filter-first is_native (filter is_native names) (filter is_script names)
      (λ x m. Among-passes is_native x names m) (λ x m. not_native x (Among-passes is_script x names m)))
      ∙ (ap (filter is_native) (sym e) ∙ filter-first is_native natives scripts all_native (λ x m. not_native x (all_script x m)));
  scripts_are = sym (filter-second is_script (filter is_native names) (filter is_script names)
      (λ x m. not_script x (Among-passes is_native x names m)) (λ x m. Among-passes is_script x names m))
      ∙ (ap (filter is_script) (sym e) ∙ filter-second is_script natives scripts (λ x m. not_script x (all_native x m)) all_script);
}

-- What is made goes last

-- a native that goes last is the last native
pub AreListed-native : (names natives scripts : List Name) (k : ℕ) → AreListed names natives scripts →
    AreListed (names ++ native k ∷ []) (natives ++ native k ∷ []) scripts
AreListed-native names natives scripts k a = grind (arith, filter-append, append-nil)

-- a script object that goes last is the last script object
pub AreListed-script : (names natives scripts : List Name) (x : Name) → is_native x ≡ false → AreListed names natives scripts →
    AreListed (names ++ x ∷ []) natives (scripts ++ x ∷ [])
AreListed-script names natives scripts x e a = grind (arith, filter-append, append-nil)

-- What is freed is taken out

-- one native taken out leaves script objects
AreListed-without : (names natives scripts : List Name) (k : ℕ) → AreListed names natives scripts →
    AreListed (without same_name (native k) names) (without same_name (native k) natives) scripts
AreListed-without names natives scripts k a = record {
  natives_are = filter-filter is_native other names
      ∙ (ap (λ p. filter p names) (fun_ext (λ x. either_order (is_native x) (other x)))
      ∙ (sym (filter-filter other is_native names) ∙ ap (filter other) a.natives_are));
  scripts_are = filter-filter is_script other names
      ∙ (ap (λ p. filter p names) (fun_ext (λ x. spared x (is_script x) refl)) ∙ a.scripts_are);
}
  where
    other : Name → Bool
    other x = not (same_name x (native k))

    either_order : (b c : Bool) → (c && b) ≡ (b && c)
    either_order true true = refl
    either_order true false = refl
    either_order false true = refl
    either_order false false = refl

    spared : (x : Name) (b : Bool) → is_script x ≡ b → (other x && b) ≡ b
    spared x true e = rw (script-other x k e) refl
    spared x false e = either_order false (other x)

-- natives taken out one after another leave script objects
pub AreListed-freed : (ks : List ℕ) (names natives scripts : List Name) → AreListed names natives scripts →
    AreListed (after_events names (map freed_event ks)) (after_events natives (map freed_event ks)) scripts
AreListed-freed [] names natives scripts a = a
AreListed-freed (k ∷ ks) names natives scripts a =
    AreListed-freed ks (without same_name (native k) names) (without same_name (native k) natives) scripts (AreListed-without names natives scripts k a)

-- free lines one after another take out what is among them
pub after_events-freed : (ks : List ℕ) (xs : List Name) → after_events xs (map freed_event ks) ≡ filter (is_not_among (map native ks)) xs
after_events-freed [] xs = sym (filter-true (is_not_among []) xs (λ x. refl))
after_events-freed (k ∷ ks) xs =
    after_events-freed ks (without same_name (native k) xs)
    ∙ (filter-filter (is_not_among (map native ks)) other xs
    ∙ ap (λ p. filter p xs) (fun_ext (λ x. ap (λ b. not b && is_not_among (map native ks) x) (same_name-sym x (native k))
    ∙ neither (same_name (native k) x) (has same_name (map native ks) x))))
  where
    other : Name → Bool
    other x = not (same_name x (native k))

    neither : (b c : Bool) → (not b && not c) ≡ not (b || c)
    neither true c = refl
    neither false c = refl

-- Members

-- a script object among the names is one of the script objects
listed-script : (names natives scripts : List Name) → AreListed names natives scripts → (x : Name) → is_script x ≡ true →
    Among x names → Among x scripts
listed-script names natives scripts a x e m = subst (λ xs. Among x xs) a.scripts_are (Among-filter is_script x names m e)

-- a script object is among the names
script-listed : (names natives scripts : List Name) → AreListed names natives scripts → (x : Name) → Among x scripts → Among x names
script-listed names natives scripts a x m = Among-filtered is_script x names (subst (λ xs. Among x xs) (sym a.scripts_are) m)

-- a native is among the names
pub native-listed : (names natives scripts : List Name) → AreListed names natives scripts → (x : Name) → Among x natives → Among x names
native-listed names natives scripts a x m = Among-filtered is_native x names (subst (λ xs. Among x xs) (sym a.natives_are) m)

-- a test for a script object among the names is one among the script objects
pub has-listed : (names natives scripts : List Name) → AreListed names natives scripts → (x : Name) → is_script x ≡ true →
    has same_name names x ≡ has same_name scripts x
has-listed names natives scripts a x e = go (has same_name names x) refl (has same_name scripts x) refl
  where
    go : (b : Bool) → has same_name names x ≡ b → (c : Bool) → has same_name scripts x ≡ c → b ≡ c
    go true f false g = absurd (true≢false
        (sym (has-there same_name same_name-exact scripts x (listed-script names natives scripts a x e (has-among same_name same_name-exact names x f))) ∙ g))
    go false f true g = absurd (true≢false
        (sym (has-there same_name same_name-exact names x (script-listed names natives scripts a x (has-among same_name same_name-exact scripts x g))) ∙ f))
    go _ f _ g = refl

-- a census lists as many names as there are
pub length-census_order : (names : List Name) → length (census_order names) ≡ length names
length-census_order names = length-append (filter is_native names) (filter is_script names) ∙ both names
  where
    both : (xs : List Name) → length (filter is_native xs) + length (filter is_script xs) ≡ length xs
    both [] = refl
    both (x ∷ xs) = go (is_native x) (both xs)
      where
        go : (b : Bool) → length (filter is_native xs) + length (filter is_script xs) ≡ length xs →
            length (cond b (x ∷ filter is_native xs) (filter is_native xs)) + length (cond (not b) (x ∷ filter is_script xs) (filter is_script xs)) ≡ length (x ∷ xs)
        go true ih = omega (arith, ih)
        go false ih = omega (arith, ih)
