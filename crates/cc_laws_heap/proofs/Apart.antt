-- NATIVES THAT ARE APART ARE UNLINKED: the heaps go on standing for the graph. What the registers and the other natives lead to is closed
-- and without them.
use Rattle.std.proofs.Common.{arith, ◌≡◌, ◌==◌, ℕ, Bool, true, false, ◌&&◌, List, [], ◌∷◌, ◌++◌, map, sym, subst, inl, inr, ⊎_elim}
use Rattle.std.specs.List.{filter}
use Rattle.cc_lists.specs.Members.{Among}
use Rattle.cc_lists.proofs.Members.{Among-left, Among-right, Among-append, Among-map, Among-map_cases, Among-filter, Among-filtered, Among-passes, Among_or_not, has-among}
use Rattle.cc_lists.proofs.Least.{derive-root, derive-along}
use Rattle.cc_lists.proofs.Numbers.{number-exact}
use Rattle.cc_names.specs.declared.name.Name.{Name}
use Rattle.cc_names.specs.Names.{native}
use Rattle.cc_model.specs.Entries.{rules_of}
use Rattle.cc_model.specs.Graph.{Graph}
use Rattle.cc_model.specs.Reached.{roots_of}
use Rattle.cc_model.specs.Given.{GivenFrom, given, Given, is_living, living_names}
use Rattle.cc_model.specs.WellMade.{IsWellMade}
use Rattle.cc_model.specs.Heap.{Heap, HeapNative}
use Rattle.cc_model.specs.View.{View, view, LedFrom}
use Rattle.cc_model.specs.End.{unlink}
use Rattle.cc_model.specs.WellFormed.{IsWellFormed, native_names}
use Rattle.cc_model.specs.StandsFor.{IsEmptied, StandsFor}
use Rattle.cc_model.proofs.Joints.{derive-joint, derived-by_joints}
use Rattle.cc_laws_heap.specs.Sound.{IsSound}
use Rattle.cc_laws_heap.specs.Freeing.{is_none_of, SameBeside}
use Rattle.cc_laws_heap.specs.Apart.{natives_beside, AreApart}
use Rattle.cc_laws_heap.proofs.Given.{given_from-grows, living-given}
use Rattle.cc_laws_heap.proofs.ReachedAlike.{given_from-in, roots-same}
use Rattle.cc_laws_heap.proofs.Following.{given_from-closed}
use Rattle.cc_laws_heap.proofs.Leaving.{IsOf}
use Rattle.cc_laws_heap.proofs.StandingOn.{StandsOn, stands-on, uncounted-name, uncounted-flag}
use Rattle.cc_laws_heap.proofs.Unlinking.{unlink-keeps}

-- more names lead to no less
led_from-grows : (v : View) (xs ys : List Name) → ((x : Name) → Among x xs → Among x ys) → (x : Name) → LedFrom v xs x → LedFrom v ys x
led_from-grows v xs ys more = derived-by_joints xs v.edges v.joints (LedFrom v ys)
    (λ x i. derive-root ys v.edges (rules_of v.joints) x (more x i))
    (λ x y i d. derive-along ys v.edges (rules_of v.joints) x y i d)
    (derive-joint ys v.edges v.joints)

-- a native whose number is none of these
none_of-from : (ks : List ℕ) (n : HeapNative) → ¬ (Among n.number ks) → is_none_of ks n ≡ true
none_of-from ks n d = grind (arith, has-among, number-exact)

module _ (h k : Heap) (g : Graph) (ks : List ℕ) (w : IsWellFormed h) (m : IsWellMade g) (s : StandsFor h g) (apart : AreApart h ks) where
  -- a native is none of these, and was not unlinked
  abbrev is_other : HeapNative → Bool
  is_other n = is_none_of ks n && is_living n

  -- the names of such natives
  abbrev others : List Name
  others = map (λ n. native n.number) (filter is_other h.natives)

  -- WHAT IS GIVEN WITHOUT THESE: what the registers and such natives lead to
  abbrev GivenWithout : Name → Type 0
  GivenWithout = GivenFrom g (roots_of g ++ others)

  -- a native of which it has the name
  other-native : (x : Name) → Among x others → (n : HeapNative) × Among n h.natives × (is_other n ≡ true) × (native n.number ≡ x)
  other-native x i =
      let f = Among-map_cases (λ (n : HeapNative). native n.number) (filter is_other h.natives) x i in
      (f.0, Among-filtered is_other f.0 h.natives f.1, Among-passes is_other f.0 h.natives f.1, f.2)

  -- such a native is none of these
  other-none : (n : HeapNative) → is_other n ≡ true → is_none_of ks n ≡ true
  other-none n e = grind arith

  -- and was not unlinked
  other-living : (n : HeapNative) → is_other n ≡ true → n.unlinked ≡ false
  other-living n e = grind arith

  -- what it starts from is given
  start-given : (x : Name) → Among x (roots_of g ++ others) → Given h g x
  start-given x i = ⊎_elim
      (λ r. given x (Among-left x (roots_of g) (living_names h) r))
      (λ l. let n = other-native x l in subst (Given h g) n.3 (living-given h g n.0 n.1 (other-living n.0 n.2)))
      (Among-append x (roots_of g) others i)

  -- no more is given without these than with them
  without-given : (x : Name) → GivenWithout x → Given h g x
  without-given = given_from-grows g (roots_of g ++ others) (roots_of g ++ living_names h) start-given

  -- what it starts from are registers and natives beside these
  start-beside : (x : Name) → Among x (roots_of g ++ others) → Among x ((view h).registers ++ natives_beside h ks)
  start-beside x i = ⊎_elim
      (λ r. Among-left x (view h).registers (natives_beside h ks) (subst (λ ys. Among x ys) (sym (roots-same h g w m s)) r))
      (λ l.
      let n = other-native x l in
      Among-right x (view h).registers (natives_beside h ks) (subst (λ y. Among y (natives_beside h ks)) n.3
      (Among-map (λ (n : HeapNative). native n.number) n.0 (filter (is_none_of ks) h.natives)
      (Among-filter (is_none_of ks) n.0 h.natives n.1 (other-none n.0 n.2)))))
      (Among-append x (roots_of g) others i)

  -- none of these is given without them
  none-given : (j : ℕ) → Among j ks → ¬ (GivenWithout (native j))
  none-given j i d = apart j i (led_from-grows (view h) (roots_of g ++ others) ((view h).registers ++ natives_beside h ks) start-beside (native j)
      (given_from-in h g w m s (roots_of g ++ others) start-given (native j) d))

  -- NATIVES THAT ARE APART are emptied where they are left: the heaps stand for the graph as before.
  pub apart-stands : IsWellFormed k → SameBeside h k → ((j : ℕ) → Among j ks → Among (native j) (native_names h)) →
      ((n : HeapNative) → Among n k.natives → Among n.number ks → IsEmptied n) →
      ((n : HeapNative) → Among n k.natives → ¬ (Among n.number ks) → IsOf h n) → StandsFor k g
  apart-stands v b there emptied kept = stands-on GivenWithout h k g w v m b (given_from-closed g others) without-given on s
    where
      living : (n : HeapNative) → ¬ (Among n.number ks) → IsOf h n → n.unlinked ≡ false → GivenWithout (native n.number)
      living n d o e =
          let is_it : is_other o.0 ≡ true = grind (arith, none_of-from, uncounted-flag) in
          given (native n.number) (Among-right (native n.number) (roots_of g) others
          (subst (λ y. Among y others) (uncounted-name o.0 n o.2)
          (Among-map (λ (n : HeapNative). native n.number) o.0 (filter is_other h.natives) (Among-filter is_other o.0 h.natives o.1 is_it))))

      on : (n : HeapNative) → Among n k.natives → StandsOn GivenWithout h n
      on n i = ⊎_elim
          (λ l. inr (record { there = there n.number l; emptied = emptied n i l; apart = none-given n.number l }))
          (λ d. inl (kept n i d, living n d (kept n i d)))
          (Among_or_not ◌==◌ number-exact ks n.number)

-- A native unlinked that is apart: they stand as before.
pub unlink-stands : (owned : List ℕ) (h : Heap) (g : Graph) (k : ℕ) → IsSound owned h → Among k owned → IsWellMade g → StandsFor h g →
    AreApart h (k ∷ []) → StandsFor (unlink h k).heap g
unlink-stands owned h g k s own m t d =
    let u = unlink-keeps owned h k s own in
    apart-stands h (unlink h k).heap g (k ∷ []) s.well_formed m t d u.1.well_formed u.2.leaves.beside
    (λ j i. subst (λ l. Among (native l) (native_names h)) (⊎_elim (λ e. e) (λ x. absurd x) i) (s.owned_there k own))
    (λ n i j. u.2.taken n i (⊎_elim (λ e. sym e) (λ x. absurd x) j))
    (λ n i o. u.2.others n i (λ e. o (inl (sym e))))
