-- WHAT IS FREED IS FREED ONCE, in one step and in several.
use Rattle.std.proofs.Common.{arith, ◌≡◌, ℕ, ◌≤◌, not, List, [], ◌∷◌, ◌++◌, map, count_by, refl, sym, ◌∙◌, ap, subst, ⊎_elim, ◌==◌}
use Rattle.std.specs.List.{filter}
use Rattle.cc_lists.specs.Members.{Among, has}
use Rattle.cc_lists.proofs.Members.{Among-append, Among-filtered, Among-left, Among-map, Among-map_cases, Among-passes, Among-right, Among_or_not, has-there}
use Rattle.cc_lists.proofs.Counting.{count_by-append}
use Rattle.cc_lists.proofs.CountsOf.{count_by-none, false-left}
use Rattle.cc_lists.proofs.Numbers.{number-exact}
use Rattle.std.proofs.lemmas.Bool.{false≢true}
use Rattle.cc_names.specs.declared.name.Name.{Name}
use Rattle.cc_names.specs.Names.{native, number_of, same_name}
use Rattle.cc_names.proofs.NameTests.{same_name-exact}
use Rattle.cc_model.specs.declared.item.Event.{Event}
use Rattle.cc_model.specs.declared.item.Event.TheVariants.{Unlinked, Freed, Abandoned}
use Rattle.cc_model.specs.Heap.{Heap, HeapNative, Outcome}
use Rattle.cc_model.specs.WellFormed.{IsWellFormed, native_names, names_there, script_names}
use Rattle.cc_laws_heap.specs.Ending.{TakesAway}
use Rattle.cc_laws_heap.specs.Rounds.{FreesNames}
use Rattle.cc_laws_heap.proofs.NameLists.{left-apart}
use Rattle.cc_laws_heap.proofs.ScriptsKept.{native-no_script}
use Rattle.cc_laws_run.proofs.FreedListed.{freed_names, freed_names-freed, freed_names-natives}
use Rattle.cc_laws_told.specs.Lasting.{FreesOnce, all_freed}
use Rattle.cc_laws_told.proofs.Leaving.{natives-once}

-- each object that is there was there
abbrev pub NoneCame : Heap → Heap → Type 0
NoneCame h k = (x : Name) → Among x (names_there k) → Among x (names_there h)

-- the names that events free
freed-same : (es : List Event) → all_freed es ≡ freed_names es
freed-same [] = refl
freed-same (Freed x ∷ es) = ap (λ xs. x ∷ xs) (freed-same es)
freed-same (Unlinked x ∷ es) = freed-same es
freed-same (Abandoned ∷ es) = freed-same es

freed-append : (es fs : List Event) → all_freed (es ++ fs) ≡ all_freed es ++ all_freed fs
freed-append [] fs = refl
freed-append (Freed x ∷ es) fs = ap (λ xs. x ∷ xs) (freed-append es fs)
freed-append (Unlinked x ∷ es) fs = freed-append es fs
freed-append (Abandoned ∷ es) fs = freed-append es fs

-- a name that does not stand in a list is counted no times there
none-counted : (x : Name) (xs : List Name) → ¬ (Among x xs) → count_by (same_name x) xs ≡ 0
none-counted x xs d = count_by-none (same_name x) xs (λ y m. false-left (same_name x y) (λ e. d (subst (λ z. Among z xs) (sym ((same_name-exact x y).0 e)) m)))

-- where nothing is freed
pub frees-none : (h k : Heap) (es : List Event) → all_freed es ≡ [] → FreesOnce h k es
frees-none h k es none = record {
  were_there = λ x m. absurd (subst (Among x) none m);
  gone = λ x m. absurd (subst (Among x) none m);
  once = λ x. subst (λ xs. count_by (same_name x) xs ≤ 1) (sym none) (omega arith);
}

-- by the names that are freed
frees-names : (h k : Heap) (es : List Event) (xs : List Name) → all_freed es ≡ xs → ((x : Name) → Among x xs → Among x (names_there h)) →
    ((x : Name) → Among x xs → ¬ (Among x (names_there k))) → ((x : Name) → count_by (same_name x) xs ≤ 1) → FreesOnce h k es
frees-names h k es xs are there gone once = record {
  were_there = λ x m. there x (subst (Among x) are m);
  gone = λ x m. gone x (subst (Among x) are m);
  once = λ x. subst (λ ys. count_by (same_name x) ys ≤ 1) (sym are) (once x);
}

-- ONE AFTER THE OTHER: what the first freed is not there for the second
pub frees-then : (h k l : Heap) (es fs : List Event) → NoneCame h k → NoneCame k l → FreesOnce h k es → FreesOnce k l fs → FreesOnce h l (es ++ fs)
frees-then h k l es fs first second f g = frees-names h l (es ++ fs) (all_freed es ++ all_freed fs) (freed-append es fs)
    (λ x m. ⊎_elim (λ a. f.were_there x a) (λ b. first x (g.were_there x b)) (Among-append x (all_freed es) (all_freed fs) m))
    (λ x m n. ⊎_elim (λ a. f.gone x a (second x n)) (λ b. g.gone x b n) (Among-append x (all_freed es) (all_freed fs) m))
    (λ x. ⊎_elim
    (λ b. omega (arith, count_by-append (same_name x) (all_freed es) (all_freed fs), none-counted x (all_freed es) (λ a. f.gone x a (g.were_there x b)), g.once x))
    (λ d. omega (arith, count_by-append (same_name x) (all_freed es) (all_freed fs), none-counted x (all_freed fs) d, f.once x))
    (Among_or_not same_name same_name-exact (all_freed fs) x))

-- WHAT A SCRIPT COLLECTION FREES
module _ (h : Heap) (xs : List Name) (o : Outcome) (f : FreesNames h xs o) where
  kept : (x : Name) → Among x (names_there o.heap) → Among x (names_there h) × (¬ (Among x xs))
  kept x m = ⊎_elim
      (λ n. let l = left-apart xs (native_names h) x (subst (Among x) f.natives n) in (Among-left x (native_names h) (script_names h) l.0, l.1))
      (λ s. let l = left-apart xs (script_names h) x (subst (Among x) f.scripts s) in (Among-right x (native_names h) (script_names h) l.0, l.1))
      (Among-append x (native_names o.heap) (script_names o.heap) m)

  pub swept-came : NoneCame h o.heap
  swept-came x m = (kept x m).0

  pub swept-once : FreesOnce h o.heap o.events
  swept-once = frees-names h o.heap o.events xs (freed-same o.events ∙ (ap freed_names f.told ∙ freed_names-freed xs)) f.were_there (λ x m n. (kept x n).1 m) f.once

-- WHAT AN END FREES
module _ (h : Heap) (ks freed : List ℕ) (o : Outcome) (t : TakesAway h ks freed o) (w : IsWellFormed h) where
  -- the numbers of natives
  abbrev numbers : Heap → List ℕ
  numbers g = map (λ (n : HeapNative). n.number) g.natives

  -- a native that is left was there, and is not freed
  left : (x : Name) → Among x (native_names o.heap) → (j : ℕ) × (native j ≡ x) × Among j (numbers h) × (¬ (Among j freed))
  left x m =
      let f = Among-map_cases (λ (n : HeapNative). native n.number) o.heap.natives x m in
      let is : Among f.0.number (filter (λ k. not (has ◌==◌ freed k)) (numbers h)) = subst (Among f.0.number) t.natives (Among-map (λ (n : HeapNative). n.number) f.0 o.heap.natives f.1) in (
        f.0.number,
        f.2,
        Among-filtered (λ k. not (has ◌==◌ freed k)) f.0.number (numbers h) is,
        (λ i. false≢true (sym (ap not (has-there ◌==◌ number-exact freed f.0.number i)) ∙ Among-passes (λ k. not (has ◌==◌ freed k)) f.0.number (numbers h) is)),
      )

  named : (j : ℕ) → Among j (numbers h) → Among (native j) (native_names h)
  named j m = let f = Among-map_cases (λ (n : HeapNative). n.number) h.natives j m in
      subst (λ i. Among (native i) (native_names h)) f.2 (Among-map (λ (n : HeapNative). native n.number) f.0 h.natives f.1)

  pub taken-came : NoneCame h o.heap
  taken-came x m = ⊎_elim
      (λ n. let l = left x n in Among-left x (native_names h) (script_names h) (subst (λ y. Among y (native_names h)) l.1 (named l.0 l.2)))
      (λ s. Among-right x (native_names h) (script_names h) (subst (λ os. Among x (map (λ o. o.name) os)) t.scripts s))
      (Among-append x (native_names o.heap) (script_names o.heap) m)

  pub taken-once : FreesOnce h o.heap o.events
  taken-once = frees-names h o.heap o.events (map native freed) (freed-same o.events ∙ (freed_names-natives o.events t.natives_alone ∙ ap (map native) t.told))
      (λ x m. let f = Among-map_cases native freed x m in Among-left x (native_names h) (script_names h) (subst (λ y. Among y (native_names h)) f.2 (t.were_there f.0 f.1)))
      (λ x m n.
      let f = Among-map_cases native freed x m in
      ⊎_elim
      (λ a. let l = left x a in l.3 (subst (λ i. Among i freed) (ap number_of (f.2 ∙ sym l.1)) f.1))
      (λ s. native-no_script h f.0 w (subst (λ y. Among y (script_names h)) (sym f.2) (subst (λ os. Among x (map (λ o. o.name) os)) t.scripts s)))
      (Among-append x (native_names o.heap) (script_names o.heap) n))
      (natives-once freed t.once)
