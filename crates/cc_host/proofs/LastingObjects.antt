-- WHAT IS GONE STAYS GONE, where keys are kept, natives that have ended stay so, and no object comes that was given before.
use Rattle.std.proofs.Common.{◌≡◌, ◌≢◌, ℕ, ◌==◌, ◌&&◌, ◌||◌, [], Bool, true, false, not, Option, Some, None, option_map, refl, sym, ◌∙◌, ap, subst, ⊎_elim}
use Rattle.std.proofs.lemmas.Bool.{cases_Bool, false≢true}
use Rattle.cc_lists.specs.Members.{Among}
use Rattle.cc_lists.proofs.Members.{Among-append, Among-map_cases, Among-right}
use Rattle.cc_names.specs.declared.name.Name.{Name}
use Rattle.cc_names.specs.declared.name.Name.TheVariants as name
use Rattle.cc_names.specs.declared.number.NativeNo.{NativeNo}
use Rattle.cc_names.specs.Names.{native}
use Rattle.cc_names.proofs.NameTests.{same_name-refl, same_name-true}
use Rattle.cc_model.specs.Heap.{Heap, HeapNative, native_at}
use Rattle.cc_model.specs.Given.{is_usable, is_usable_native}
use Rattle.cc_model.specs.WellFormed.{names_there, native_names, script_names}
use Rattle.cc_laws_heap.proofs.Face.{named-member, native_at-named}
use Rattle.cc_laws_told.specs.Lasting.{KeepsEnded}
use Rattle.cc_counted.specs.Counts.{number_or_none, unlinked_at, unlinked_of}
use Rattle.cc_script.specs.Objects.{name_at}
use Rattle.cc_heaps.specs.Keyed.{Keyed, IsInOrder, counts_of, number_at}
use Rattle.cc_heaps.specs.Changes.{KeepsKeys}
use Rattle.cc_heaps.proofs.Calls.{number-named}
use Rattle.cc_heaps.proofs.Keys.{HasKeys-names, named-object}
use Rattle.cc_heaps.proofs.Reaching.{key-named, name_at-found, name_at-own}
use Rattle.cc_heaps.proofs.ScriptsChanged.{HasOneName-named}
use Rattle.cc_wrappers.proofs.ReflectorKeys.{name-held}
use Rattle.cc_host.specs.declared.object.Object.{Object}
use Rattle.cc_host.specs.declared.stop.Stop.TheVariants.{Foreign, Gone, Kind}
use Rattle.cc_host.specs.Hosted.{Hosted, is_found, is_name, is_usable_at}
use Rattle.cc_host.specs.Stops.{first, is_nothing, where_so}
use Rattle.cc_host.specs.Lasting.{Lasts, WasGiven}
use Rattle.cc_host.proofs.Referring.{found-held, found-there, unlinked-of}

-- Keys

module _ (v w : Keyed) (keep : KeepsKeys v w) (before : IsInOrder [] v) (after : IsInOrder [] w) where
  -- what stands at a key stood there, where it was there
  native-back : (key k : ℕ) → number_at w key ≡ Some k → Among (native k) (native_names v.heap) → number_at v key ≡ Some k
  native-back key k at there =
      let n = named-member v.heap k there in
      let q = (HasKeys-names v before.keyed).key_of n.0 n.1 in
      let was : number_at v q.0 ≡ Some k = q.1 ∙ ap (λ j. Some j) n.2 in
      let is : number_at w q.0 ≡ Some k = keep.natives q.0 k was (number-named w [] key k after at) in
      subst (λ p. number_at v p ≡ Some k) (after.keyed.one_key q.0 key k is at) was

  script-back : (key : ℕ) (x : Name) → name_at w.scripts key ≡ Some x → Among x (script_names v.heap) → name_at v.scripts key ≡ Some x
  script-back key x at there =
      let o = named-object v.heap v.scripts before.named x there in
      let was : name_at v.scripts o.0.key ≡ Some x = name_at-own v.scripts before.one_key o.0 o.1 ∙ ap (λ y. Some y) o.2 in
      let is : name_at w.scripts o.0.key ≡ Some x = keep.scripts o.0.key x was (name-held [] w after key x at) in
      let p = name_at-found w.scripts o.0.key x is in
      let same : p.0.key ≡ key = key-named w.scripts (HasOneName-named w.heap w.scripts after.named after.sound.well_formed) key x at p.0 p.1 p.3 in
      subst (λ q. name_at v.scripts q ≡ Some x) (sym p.2 ∙ same) was

  -- a native that was usable and is found at its key was found there
  usable-back : (key : ℕ) (number : NativeNo) → number_at w key ≡ Some number.0 → is_usable v.heap (native number.0) ≡ true → is_usable_at v key number ≡ true
  usable-back key number at u = go (native_at v.heap number.0) refl u
    where
      go : (o : Option HeapNative) → native_at v.heap number.0 ≡ o → (is_usable_native o || false) ≡ true → is_usable_at v key number ≡ true
      go None e f = absurd (false≢true f)
      go (Some n) e f =
          let was : number_at v key ≡ Some number.0 = native-back key number.0 at (native_at-named v.heap number.0 n e) in
          let flag : unlinked_of (counts_of v) key ≡ n.unlinked =
          unlinked-of v key ∙ (ap (λ o. unlinked_at (native_at v.heap (number_or_none o))) was ∙ ap unlinked_at e) in
          both (number_at v key) (unlinked_of (counts_of v) key) n.unlinked was flag f
        where
          both : (o : Option ℕ) (a b : Bool) → o ≡ Some number.0 → a ≡ b → (not b || false) ≡ true → (is_name (name.Native number) (option_map native o) && not a) ≡ true
          both o a true e f g = absurd (false≢true g)
          both o a false e f g = ap (λ z. is_name (name.Native number) (option_map native z) && not a) e ∙ (ap (λ c. c && not a) (same_name-refl (name.Native number)) ∙ ap not f)

-- Tests

-- what has the name that is asked for
pub named-is : (x : Name) (o : Option Name) → is_name x o ≡ true → o ≡ Some x
named-is x None e = absurd (false≢true e)
named-is x (Some y) e = ap (λ z. Some z) (same_name-true y x e)

-- a script object is there among script objects
pub script-there : (h : Heap) (x : Name) → ((k : ℕ) → ¬ (native k ≡ x)) → Among x (names_there h) → Among x (script_names h)
script-there h x none m = ⊎_elim
    (λ n. let f = Among-map_cases (λ (n : HeapNative). native n.number) h.natives x n in absurd (none f.0.number f.2))
    (λ s. s)
    (Among-append x (native_names h) (script_names h) m)

-- `Gone` is the last of the answers
gone-stays : (z a b f g : Bool) → a ≡ b → (g ≡ true → f ≡ true) →
    first (where_so z Kind) (first (where_so (not a) Foreign) (where_so (not f) Gone)) ≡ Some Gone →
    first (where_so z Kind) (first (where_so (not b) Foreign) (where_so (not g) Gone)) ≡ Some Gone
gone-stays true a b f g s t e = absurd (cc)
gone-stays false false b f g s t e = absurd (cc)
gone-stays false true b true g s t e = absurd (cc)
gone-stays false true b false true s t e = absurd (false≢true (t refl))
gone-stays false true b false false s t e = ap (λ c. first (where_so (not c) Foreign) (Some Gone)) (sym s)

-- FROM ONE HOST TO ANOTHER
module _ (old new : Hosted) (but : Option Name) (before : IsInOrder [] old.heaps) (after : IsInOrder [] new.heaps) (keep : KeepsKeys old.heaps new.heaps) (mark : new.mark ≡ old.mark)
    (ended : KeepsEnded old.heaps.heap new.heaps.heap)
    (came : (x : Name) → WasGiven old.heaps.heap x → Some x ≢ but → Among x (names_there new.heaps.heap) → Among x (names_there old.heaps.heap)) where
  -- what is found was found
  found-back : (x : Object) → WasGiven old.heaps.heap x.name → Some x.name ≢ but → is_found new x ≡ true → is_found old x ≡ true
  found-back x given other found = go x.name given other found
    where
      script : (y : Name) → ((k : ℕ) → ¬ (native k ≡ y)) → WasGiven old.heaps.heap y → Some y ≢ but → is_name y (name_at new.heaps.scripts x.key) ≡ true →
          is_name y (name_at old.heaps.scripts x.key) ≡ true
      script y none given other e =
          let at : name_at new.heaps.scripts x.key ≡ Some y = named-is y (name_at new.heaps.scripts x.key) e in
          let there : Among y (names_there new.heaps.heap) = Among-right y (native_names new.heaps.heap) (script_names new.heaps.heap) (name-held [] new.heaps after x.key y at) in
          ap (is_name y) (script-back old.heaps new.heaps keep before after x.key y at (script-there old.heaps.heap y none (came y given other there)))
          ∙ same_name-refl y

      go : (y : Name) → WasGiven old.heaps.heap y → Some y ≢ but → is_found new (record x { name = y }) ≡ true → is_found old (record x { name = y }) ≡ true
      go (name.Native k) given other e =
          let t = found-there new.heaps x.key k e in
          usable-back old.heaps new.heaps keep before after x.key k t.0 (⊎_elim
          (λ u. u)
          (λ u. absurd (false≢true (sym (ended.ended k.0 given u) ∙ found-held new.heaps [] after x.key k.0 t.0 t.1)))
          (cases_Bool (is_usable old.heaps.heap (native k.0))))
      go (name.Script k) given other e = script (name.Script k) (λ j e. let apart : native j ≡ name.Script k = e in cc) given other e
      go (name.Reflector k) given other e = script (name.Reflector k) (λ j e. let apart : native j ≡ name.Reflector k = e in cc) given other e

  pub lasts-from : Lasts but old new
  lasts-from = record {
    natives = ended.natives_made;
    scripts = ended.scripts_made;
    away = λ x given other none there. none (came x given other there);
    gone = λ x given other e. gone-stays (is_nothing x) (x.mark == old.mark) (x.mark == new.mark) (is_found old x) (is_found new x) (ap (λ m. x.mark == m) (sym mark))
        (found-back x given other) e;
  }
