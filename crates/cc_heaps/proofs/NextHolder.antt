-- THE NATIVES THAT REFER TO SCRIPT OBJECTS, by their numbers: the next is that of the next number.
use Rattle.std.proofs.Common.{◌≡◌, ℕ, ◌≤◌, Bool, true, false, cond, ◌||◌, List, [], ◌∷◌, Option, Some, None, IsSome, is_some, refl, sym, ◌∙◌, ap, inl, ⊎_elim, arith}
use Rattle.std.specs.List.{filter, list_any}
use Rattle.cc_lists.specs.Members.{Among}
use Rattle.cc_lists.specs.Walks.{IsRising, first_of, is_above}
use Rattle.cc_lists.proofs.Members.{Among-map, Among-map_cases, Among-filter, Among-filtered, Among-passes}
use Rattle.cc_lists.proofs.Rising.{IsRising-first, IsRising-filter}
use Rattle.cc_names.specs.declared.name.Name.{Name}
use Rattle.cc_names.specs.declared.name.Name.TheVariants as name
use Rattle.cc_model.specs.Slots.{Slots}
use Rattle.cc_model.specs.Heap.{HeapNative}
use Rattle.cc_laws_heap.proofs.Face.{IsRising-distinct, native_at-member}
use Rattle.cc_counted.specs.Counts.{Counts, number_at, heap_of}
use Rattle.cc_counted.specs.Owning.{HasKeys}
use Rattle.cc_counted.specs.Scripts.{HasNoHolder, IsNextHolder, is_to_script, refers_to_script}
use Rattle.cc_script.specs.Objects.{Object}
use Rattle.cc_heaps.specs.GrayHeld.{is_gray_held, is_referring, numbers_in, numbers_referring, refers_found}
use Rattle.cc_heaps.proofs.References.{native-found, references-found}

-- the first of rising numbers is the least
first-least : (ks : List ℕ) → IsRising ks → (n : ℕ) → Among n ks → ((j : ℕ) → Among j ks → n ≤ j) → Some n ≡ first_of ks
first-least [] r n m least = absurd m
first-least (k ∷ ks) r n m least = ap (λ i. Some i) (⊎_elim
    (λ same. sym same)
    (λ later. let above = IsRising-first k ks r n later in let below = least k (inl refl) in absurd (omega (arith, above, below)))
    m)

first-none : (ks : List ℕ) → ((j : ℕ) → Among j ks → ⊥) → None ≡ first_of ks
first-none [] none = refl
first-none (k ∷ ks) none = absurd (none k (inl refl))

-- what passes one test where it passes another
pub filter-within : (p q : ℕ → Bool) → ((k : ℕ) → p k ≡ true → q k ≡ true) → (ks : List ℕ) → filter p (filter q ks) ≡ filter p ks
filter-within p q within [] = refl
filter-within p q within (k ∷ ks) = go (q k) refl (p k) refl (filter-within p q within ks)
  where
    go : (b : Bool) → q k ≡ b → (d : Bool) → p k ≡ d → filter p (filter q ks) ≡ filter p ks → filter p (filter q (k ∷ ks)) ≡ filter p (k ∷ ks)
    go true e d f ih = rw (e, f) (step d ih)
      where
        step : (d : Bool) → filter p (filter q ks) ≡ filter p ks → cond d (k ∷ filter p (filter q ks)) (filter p (filter q ks)) ≡ cond d (k ∷ filter p ks) (filter p ks)
        step true ih = ap (λ js. k ∷ js) ih
        step false ih = ih
    go false e true f ih = let bad : true ≡ false = sym (within k f) ∙ e in absurd (cc)
    go false e false f ih = rw (e, f) ih

-- what is gray is a script object
gray-script : (objects : List Object) (x : Option Name) → is_gray_held objects x ≡ true → is_to_script x ≡ true
gray-script objects None e = absurd (cc)
gray-script objects (Some (name.Native k)) e = absurd (cc)
gray-script objects (Some (name.Script k)) e = refl
gray-script objects (Some (name.Reflector k)) e = absurd (cc)

pub any-gray : (objects : List Object) (xs : Slots) → list_any (is_gray_held objects) xs ≡ true → list_any is_to_script xs ≡ true
any-gray objects [] e = e
any-gray objects (x ∷ xs) e = go (is_gray_held objects x) refl (any-gray objects xs) e
  where
    go : (b : Bool) → is_gray_held objects x ≡ b → (list_any (is_gray_held objects) xs ≡ true → list_any is_to_script xs ≡ true) →
        (b || list_any (is_gray_held objects) xs) ≡ true → (is_to_script x || list_any is_to_script xs) ≡ true
    go true f more e = rw (gray-script objects x f) refl
    go false f more e = later (is_to_script x)
      where
        later : (d : Bool) → (d || list_any is_to_script xs) ≡ true
        later true = refl
        later false = more e

module _ (c : Counts) (k : HasKeys c) where
  -- a native refers to a script object by its key as it does by its number
  refers-numbered : (key : ℕ) (n : HeapNative) → Among n c.natives → number_at c key ≡ Some n.number → refers_to_script c key ≡ is_referring c n.number
  refers-numbered key n m e =
      ap (list_any is_to_script) (references-found c k key n m e)
      ∙ ap (refers_found c) (sym (native_at-member (heap_of c) (IsRising-distinct (heap_of c) k.rising) n m))

  rising-referring : (at : Option ℕ) → IsRising (filter (is_above at) (numbers_referring c))
  rising-referring at = IsRising-filter (is_above at) (numbers_referring c) (IsRising-filter (is_referring c) (numbers_in c) k.rising)

  -- each of those numbers is that of a native at a key
  referring-there : (at : Option ℕ) (j : ℕ) → Among j (filter (is_above at) (numbers_referring c)) →
      (q : ℕ) × (number_at c q ≡ Some j) × (is_above at j ≡ true) × (refers_to_script c q ≡ true)
  referring-there at j m =
      let refers : Among j (numbers_referring c) = Among-filtered (is_above at) j (numbers_referring c) m in
      let f = Among-map_cases (λ (n : HeapNative). n.number) c.natives j (Among-filtered (is_referring c) j (numbers_in c) refers) in
      let q = k.key_of f.0 f.1 in (
        q.0,
        q.1 ∙ ap (λ i. Some i) f.2,
        Among-passes (is_above at) j (numbers_referring c) m,
        refers-numbered q.0 f.0 f.1 q.1 ∙ (ap (is_referring c) f.2 ∙ Among-passes (is_referring c) j (numbers_in c) refers),
      )

  -- THE NEXT by its key is that of the next number,
  pub next-referring : (at : Option ℕ) (key : ℕ) → IsNextHolder c at key → number_at c key ≡ first_of (filter (is_above at) (numbers_referring c))
  next-referring at key next =
      let f = native-found c k key (ap (λ (o : Option ℕ). is_some o) next.there) in
      let same : Some f.0.number ≡ Some next.number = sym f.2 ∙ next.there in
      let number : f.0.number ≡ next.number = cc in
      let refers : is_referring c f.0.number ≡ true = sym (refers-numbered key f.0 f.1 f.2) ∙ next.refers in
      let among : Among f.0.number (filter (is_above at) (numbers_referring c)) =
      Among-filter (is_above at) f.0.number (numbers_referring c)
      (Among-filter (is_referring c) f.0.number (numbers_in c) (Among-map (λ (n : HeapNative). n.number) f.0 c.natives f.1) refers) (ap (is_above at) number ∙ next.above) in
      f.2 ∙ first-least (filter (is_above at) (numbers_referring c)) (rising-referring at) f.0.number among
      (λ j m. let g = referring-there at j m in let less = next.least g.0 j g.1 g.2 g.3 in omega (arith, less, number))

  -- and where there is none there is no such number
  pub none-referring : (at : Option ℕ) → HasNoHolder c at → None ≡ first_of (filter (is_above at) (numbers_referring c))
  none-referring at none = first-none (filter (is_above at) (numbers_referring c))
      (λ j m. let g = referring-there at j m in let bad : true ≡ false = sym g.3 ∙ none g.0 j g.1 g.2 in cc)

pub next-there : (c : Counts) (at : Option ℕ) (key : ℕ) → IsNextHolder c at key → IsSome (number_at c key)
next-there c at key next = ap (λ (o : Option ℕ). is_some o) next.there
