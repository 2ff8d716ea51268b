-- THE WALK OVER ALL OBJECTS is whole: it has what each call takes, each once, and nothing else.
use Rattle.std.proofs.Common.{◌≡◌, ℕ, ◌-◌, ◌≤◌, ◌==◌, Bool, true, false, not, [], List, ◌∷◌, count_by, Option, Some, None, option_map, refl, sym, ◌∙◌, ap, subst, inl, inr, ⊎_elim, arith}
use Rattle.std.specs.Prelude.{IsSome}
use Rattle.std.specs.List.{filter}
use Rattle.std.specs.Option.{option_to_list}
use Rattle.std.proofs.Math.Path.{fun_ext}
use Rattle.std.proofs.lemmas.Bool.{eq-eqb, eqb-true, false≢true, true≢false}
use Rattle.cc_lists.specs.Members.{Among}
use Rattle.cc_lists.specs.Walks.{first_of}
use Rattle.cc_lists.proofs.Counting.{count_by-map}
use Rattle.cc_lists.proofs.CountsOf.{count_by-none}
use Rattle.cc_lists.proofs.Filtering.{count_by-filter-le}
use Rattle.cc_lists.proofs.Members.{Among-append, Among-filter, Among-filtered, Among-left, Among-map, Among-map_cases, Among-passes, Among-right}
use Rattle.cc_lists.proofs.Numbers.{eqb-sym}
use Rattle.cc_lists.proofs.Walks.{first-among}
use Rattle.cc_names.specs.declared.name.Name.{Name}
use Rattle.cc_names.specs.declared.name.Name.TheVariants as name
use Rattle.cc_names.specs.declared.number.NKey.{NKey}
use Rattle.cc_names.specs.Names.{native, same_name}
use Rattle.cc_names.proofs.NameTests.{same_name-refl, same_name-true}
use Rattle.cc_model.specs.Given.{is_living, living_names}
use Rattle.cc_model.specs.Heap.{Heap, HeapNative}
use Rattle.cc_model.specs.WellFormed.{IsWellFormed, script_names}
use Rattle.cc_laws_heap.proofs.Face.{IsWellFormed-distinct, named-member, native-no_script, native_at-member}
use Rattle.cc_laws_heap.proofs.NameLists.{names-once_append}
use Rattle.cc_counted.specs.Counts.{unlinked_at}
use Rattle.cc_script.specs.Objects.{name_at}
use Rattle.cc_heaps.specs.Keyed.{IsInOrder}
use Rattle.cc_heaps.proofs.Keys.{name-in}
use Rattle.cc_host.specs.declared.object.Object.{Object}
use Rattle.cc_host.specs.declared.stop.Stop.TheVariants.{Foreign, Gone, Kind}
use Rattle.cc_host.specs.Hosted.{Hosted, IsKept, IsThere, IsThereIfAny, is_name, named}
use Rattle.cc_host.specs.Stops.{first, stop_at, stop_if_any, where_so}
use Rattle.cc_host.specs.Walks.{behind, objects_in}
use Rattle.cc_host.proofs.MadeTaken.{whole-taken}
use Rattle.cc_host.proofs.Referring.{found-native, found-there}
use Rattle.cc_host.proofs.WalksNatives.{name_in, native-at, not-unlinked}

-- Each once

module _ (h : Heap) (w : IsWellFormed h) where
  -- a native's name stands once among those that were not unlinked
  living-once : (x : Name) → count_by (same_name x) (living_names h) ≤ 1
  living-once x = subst (λ n. n ≤ 1) (sym (count_by-map (same_name x) name_in (filter is_living h.natives))) (go x)
    where
      go : (y : Name) → count_by (λ (n : HeapNative). same_name y (native n.number)) (filter is_living h.natives) ≤ 1
      go (name.Native k) = omega (
        arith,
        count_by-filter-le (λ (n : HeapNative). k.0 == n.number) is_living h.natives,
        ap (λ (p : HeapNative → Bool). count_by p h.natives) (fun_ext (λ (n : HeapNative). eqb-sym k.0 n.number)),
        IsWellFormed-distinct h w k.0,
      )
      go (name.Script k) = omega (arith, count_by-none (λ (n : HeapNative). false) (filter is_living h.natives) (λ n m. refl))
      go (name.Reflector k) = omega (arith, count_by-none (λ (n : HeapNative). false) (filter is_living h.natives) (λ n m. refl))

  -- EACH NAME STANDS ONCE.
  pub objects-once : (x : Name) → count_by (same_name x) (objects_in h) ≤ 1
  objects-once = names-once_append (living_names h) (script_names h) living-once w.distinct
      (λ x m n. let f = Among-map_cases name_in (filter is_living h.natives) x m in
      native-no_script h f.0.number w (subst (λ y. Among y (script_names h)) (sym f.2) n))

-- what stands behind another is in the list
pub behind-among : (x y : Name) (xs : List Name) → behind x xs ≡ Some y → Among y xs
behind-among x y [] e = absurd (cc)
behind-among x y (z ∷ zs) e = go (same_name z x) (behind-among x y zs) e
  where
    go : (b : Bool) → (behind x zs ≡ Some y → Among y zs) → elim b [ true ↦ first_of zs | false ↦ behind x zs ] ≡ Some y → Among y (z ∷ zs)
    go true further f = inr (first-among zs y f)
    go false further f = inr (further f)

-- no test stops
none-stops : (z a b : Bool) → z ≡ false → a ≡ true → b ≡ true → first (where_so z Kind) (first (where_so (not a) Foreign) (where_so (not b) Gone)) ≡ None
none-stops false true true o p q = refl
none-stops true a b o p q = absurd (true≢false o)
none-stops false false b o p q = absurd (false≢true p)
none-stops false true false o p q = absurd (false≢true q)

-- where none stops it was found
not-gone : (z a b : Bool) → first (where_so z Kind) (first (where_so (not a) Foreign) (where_so (not b) Gone)) ≡ None → b ≡ true
not-gone z a true e = refl
not-gone false true false e = absurd (cc)
not-gone false false false e = absurd (cc)
not-gone true a false e = absurd (cc)

-- what has a number above 0 is something
above : (m : ℕ) → 1 ≤ m → (m == 0) ≡ false
above m e = go (m == 0) refl
  where
    go : (b : Bool) → (m == 0) ≡ b → b ≡ false
    go false f = refl
    go true f = absurd (omega (arith, e, eqb-true m 0 f))

is_name-found : (x : Name) (o : Option Name) → is_name x o ≡ true → o ≡ Some x
is_name-found x None e = absurd (false≢true e)
is_name-found x (Some y) e = ap Some (same_name-true y x e)

-- what is listed was not unlinked
living-not : (b : Bool) → not b ≡ true → b ≡ false
living-not false e = refl
living-not true e = absurd (false≢true e)

module _ (h : Hosted) (kept : IsKept h) where
  abbrev heap : Heap
  heap = h.heaps.heap

  abbrev order : IsInOrder [] h.heaps
  order = kept.runs.order

  module _ (x : Object) where
    -- a script object that stands at the key
    script-listed : (y : Name) → name_at h.heaps.scripts x.key ≡ Some y → Among y (objects_in heap)
    script-listed y e = Among-right y (living_names heap) (script_names heap)
        (name-in heap h.heaps.scripts order.named x.key y (subst (λ o. Among y (option_to_list o)) (sym e) (inl refl)))

    -- WHAT EACH CALL TAKES IS IN THE WALK,
    pub objects-whole : stop_at h x ≡ None → Among x.name (objects_in heap)
    objects-whole none = go x.name none
      where
        go : (y : Name) → stop_at h (record x { name = y }) ≡ None → Among y (objects_in heap)
        go (name.Native k) n =
            let z : Object = record x { name = name.Native k } in
            let f = found-there h.heaps x.key k (found-native h z k refl n) in
            let key : NKey = record { 0 = x.key } in
            let a = native-at h.heaps order key (subst (λ (o : Option ℕ). IsSome o) (sym f.0) refl) in
            let u = not-unlinked h order z k refl n key a.0 a.1 (ap (option_map native) f.0) in
            Among-left (name.Native k) (living_names heap) (script_names heap)
            (subst (λ y. Among y (living_names heap)) u.1
            (Among-map name_in a.0 (filter is_living heap.natives) (Among-filter is_living a.0 heap.natives a.1.there (ap not u.0))))
        go (name.Script k) n = script-listed (name.Script k) (is_name-found (name.Script k) (name_at h.heaps.scripts x.key)
            (not-gone (k.0 == 0) (x.mark == h.mark) (is_name (name.Script k) (name_at h.heaps.scripts x.key)) n))
        go (name.Reflector k) n = script-listed (name.Reflector k) (is_name-found (name.Reflector k) (name_at h.heaps.scripts x.key)
            (not-gone (k.0 == 0) (x.mark == h.mark) (is_name (name.Reflector k) (name_at h.heaps.scripts x.key)) n))

    -- a script object that stands at its key is taken
    script-taken : (y : Name) → Among y (script_names heap) → IsThere h (record x { name = y }) → stop_at h (record x { name = y }) ≡ None
    script-taken (name.Native k) m t = absurd (native-no_script heap k.0 order.sound.well_formed m)
    script-taken (name.Script k) m t = none-stops (k.0 == 0) (x.mark == h.mark) (is_name (name.Script k) (name_at h.heaps.scripts x.key))
        (above k.0 (order.sound.well_formed.object_numbers k.0 m).0) (eq-eqb x.mark h.mark t.0) (ap (is_name (name.Script k)) t.1 ∙ same_name-refl (name.Script k))
    script-taken (name.Reflector k) m t =
        let n = named-member heap k.0 (order.sound.well_formed.reflected k.0 m) in
        none-stops (k.0 == 0) (x.mark == h.mark) (is_name (name.Reflector k) (name_at h.heaps.scripts x.key))
        (above k.0 (omega (arith, (order.sound.well_formed.native_numbers n.0 n.1).0, n.2))) (eq-eqb x.mark h.mark t.0)
        (ap (is_name (name.Reflector k)) t.1 ∙ same_name-refl (name.Reflector k))

    -- AND NOTHING ELSE.
    pub objects-taken : IsThere h x → Among x.name (objects_in heap) → stop_at h x ≡ None
    objects-taken there m = ⊎_elim
        (λ l.
        let f = Among-map_cases name_in (filter is_living heap.natives) x.name l in
        let i = Among-filtered is_living f.0 heap.natives f.1 in
        whole-taken h x (f.0.number - 1) f.0.number (omega (arith, (order.sound.well_formed.native_numbers f.0 i).0)) (ap Some (sym f.2)) there
        (ap unlinked_at (native_at-member heap (IsWellFormed-distinct heap order.sound.well_formed) f.0 i) ∙ living-not f.0.unlinked (Among-passes is_living f.0 heap.natives f.1)))
        (λ r. script-taken x.name r there)
        (Among-append x.name (living_names heap) (script_names heap) m)

  -- what is answered is taken
  taken-if_any : (r : Option Object) → IsThereIfAny h r → ((y : Name) → named r ≡ Some y → Among y (objects_in heap)) → stop_if_any stop_at h r ≡ None
  taken-if_any None there each = refl
  taken-if_any (Some x) there each = objects-taken x there (each x.name refl)

  pub first-taken : (r : Option Object) → IsThereIfAny h r → named r ≡ first_of (objects_in heap) → stop_if_any stop_at h r ≡ None
  first-taken r there e = taken-if_any r there (λ y n. first-among (objects_in heap) y (sym e ∙ n))

  pub next-taken : (r : Option Object) → IsThereIfAny h r → (x : Name) → named r ≡ behind x (objects_in heap) → stop_if_any stop_at h r ≡ None
  next-taken r there x e = taken-if_any r there (λ y n. behind-among x y (objects_in heap) (sym e ∙ n))
