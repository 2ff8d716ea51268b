-- NATIVES IN A SWEEP: what becomes of the counted heap is what the definitions make of natives by their names, whatever the
-- script objects are meanwhile. Keys are left where their natives are, and swept reflectors are those of no native.
use Rattle.std.proofs.lemmas.List.{length-map}
use Rattle.cc_heaps.proofs.ReflectorLists.{reflectors-set, within-read}
use Rattle.cc_lists.proofs.Held.{map-held}
use Rattle.std.proofs.Common.{arith, ◌≡◌, ℕ, Bool, false, not, ◌&&◌, ◌||◌, List, [], ◌∷◌, map, get_or, set, Option, Some, None, refl, sym, ◌∙◌, ap, subst, inl, inr, length, ◌<◌}
use Rattle.std.specs.List.{filter}
use Rattle.std.specs.Option.{option_and_then}
use Rattle.std.proofs.Math.ListN.{get_or-map}
use Rattle.std.proofs.Math.Path.{fun_ext}
use Rattle.std.proofs.lemmas.Bool.{ne_eqb}
use Rattle.cc_lists.specs.Members.{Among, has}
use Rattle.cc_lists.proofs.Members.{Among-map}
use Rattle.cc_lists.proofs.Searching.{find-filter, find-dropped, filter-true, filter-filter}
use Rattle.cc_names.specs.declared.name.Name.{Name}
use Rattle.cc_names.specs.declared.name.Name.TheVariants as name
use Rattle.cc_names.specs.Names.{native, reflector, same_name}
use Rattle.cc_names.proofs.NameTests.{same_name-exact}
use Rattle.cc_model.specs.declared.item.Event.TheVariants.{Freed}
use Rattle.cc_model.specs.Heap.{Heap, HeapNative, Outcome, after, outcome_of}
use Rattle.cc_model.specs.Cascade.{cascade}
use Rattle.cc_model.specs.Sweep.{without_script}
use Rattle.cc_model.specs.Sweep as model
use Rattle.cc_model.specs.WellFormed.{native_names}
use Rattle.cc_laws_heap.proofs.Face.{named-member, same_name-sym}
use Rattle.cc_counted.specs.Counts.{Counts, number_at, number_or_none, the_number, key_left, left_with, reflectors_left, walks_left}
use Rattle.cc_counted.specs.Counts as counts
use Rattle.cc_counted.specs.Owning.{HasKeys}
use Rattle.cc_script.specs.Objects.{Object}
use Rattle.cc_heaps.specs.declared.heaps.Heaps.TheInside.{Inside}
use Rattle.cc_heaps.specs.Keyed.{Reflects, reflector_key, reflectors_by}
use Rattle.cc_heaps.specs.Fields.{keyed_of}
use Rattle.cc_heaps.specs.Sweeping.{Left, forgotten, let_native_go, sweep_each, then_sweep}
use Rattle.cc_heaps.proofs.EachNative.{IsOfEach, each-cascade}
use Rattle.cc_heaps.proofs.Keys.{key_left-some, Reflects-cases}
use Rattle.cc_heaps.proofs.LeftWith.{keys-then, walks-then}
use Rattle.cc_heaps.proofs.Linked.{reflectors-left}
use Rattle.cc_heaps.proofs.Naming.{AreScripts, shown, cascade-shown}

-- By names

-- the heaps without some script objects, one after the other
abbrev pub without_each : List Name → Heap → Heap
without_each [] h = h
without_each (x ∷ xs) h = without_each xs (without_script h x)

-- nothing else is changed
pub without_each-scripts : (xs : List Name) (h : Heap) → without_each xs h ≡ record h { scripts = (without_each xs h).scripts }
without_each-scripts [] h = refl
without_each-scripts (x ∷ xs) h = without_each-scripts xs (without_script h x)

-- what was done to the counted heap, by the names of these script objects, with the rest of other heaps
abbrev pub left_by : List Object → Heap → Left → Outcome
left_by objects h l = outcome_of (shown h objects (counts.heap_of l.counts)) l.events

module _ (p : Inside) (scripts : AreScripts p.scripts) where
  abbrev left_named : Heap → Left → Outcome
  left_named h l = left_by p.scripts h l

  -- a native let go
  let_go-named : (h : Heap) (c : Counts) (x : Name) (key : Option ℕ) → Reflects (keyed_of p) x key →
      model.let_native_go (shown h p.scripts (counts.heap_of c)) x ≡ left_named h (let_native_go p.counted c key)
  let_go-named h c = Reflects-cases (keyed_of p) (λ x key. model.let_native_go (shown h p.scripts (counts.heap_of c)) x ≡ left_named h (let_native_go p.counted c key))
      (λ k. refl)
      (λ k q r. cascade-shown p.scripts scripts h (counts.heap_of c) k
      ∙ ap (λ j. left_named h (record { counts = left_with c (cascade (counts.heap_of c) j).heap; events = (cascade (counts.heap_of c) j).events })) (sym (ap number_or_none r)))

  -- EACH IN TURN
  pub each-named : (os : List Object) (h : Heap) (l : Left) → ((o : Object) → Among o os → Reflects (keyed_of p) o.name o.native) →
      model.sweep_each (map (λ o. o.name) os) (left_named h l) ≡ left_named (without_each (map (λ o. o.name) os) h) (sweep_each p.counted os l)
  each-named [] h l all = refl
  each-named (o ∷ os) h l all =
      ap (λ t. model.sweep_each (map (λ o. o.name) os) (after l.events (after (Freed o.name ∷ []) t)))
      (let_go-named (without_script h o.name) l.counts o.name o.native (all o (inl refl)))
      ∙ each-named os (without_script h o.name) (then_sweep p.counted l o) (λ q m. all q (inr m))

-- What holds of each native

module _ (Q : HeapNative → Type 0) (first : Counts) where
  each-let_go : (c : Counts) (key : Option ℕ) → IsOfEach Q c.natives → IsOfEach Q (let_native_go first c key).counts.natives
  each-let_go c None all = all
  each-let_go c (Some q) all = each-cascade Q (counts.heap_of c) (the_number first q) all

  pub each-swept : (os : List Object) (l : Left) → IsOfEach Q l.counts.natives → IsOfEach Q (sweep_each first os l).counts.natives
  each-swept [] l all = all
  each-swept (o ∷ os) l all = each-swept os (then_sweep first l o) (each-let_go l.counts o.native all)

-- Reflectors

-- the script objects but for one name, and but for some, one after the other
abbrev without_name : Name → List Object → List Object
without_name x objects = filter (λ o. not (same_name o.name x)) objects

abbrev pub without_names : List Name → List Object → List Object
without_names [] objects = objects
without_names (x ∷ xs) objects = without_names xs (without_name x objects)

-- neither one nor the other
pub neither : (b c : Bool) → (not b && not c) ≡ not (b || c)
neither b c = grind arith

pub without_names-filter : (xs : List Name) (objects : List Object) → without_names xs objects ≡ filter (λ o. not (has same_name xs o.name)) objects
without_names-filter [] objects = sym (filter-true (λ (o : Object). not (has same_name [] o.name)) objects (λ o. refl))
without_names-filter (x ∷ xs) objects =
    without_names-filter xs (without_name x objects)
    ∙ (filter-filter (λ (o : Object). not (has same_name xs o.name)) (λ o. not (same_name o.name x)) objects
    ∙ ap (λ t. filter t objects) (fun_ext (λ (o : Object). neither (same_name o.name x) (has same_name xs o.name) ∙ ap (λ b. not (b || has same_name xs o.name)) (same_name-sym o.name x))))

-- the reflector of a native is found by its own name alone
reflector-other : (objects : List Object) (x : Name) (k : ℕ) → same_name (reflector k) x ≡ false → reflector_key (without_name x objects) k ≡ reflector_key objects k
reflector-other objects x k other = grind (arith, find-filter, same_name-exact)

reflector-gone : (objects : List Object) (k : ℕ) → reflector_key (without_name (reflector k) objects) k ≡ None
reflector-gone objects k = grind (arith, find-dropped)

-- what is no reflector is that of no native
reflectors-plain : (objects : List Object) (k : ℕ) (keys : List (Option ℕ)) → reflectors_by (without_name (name.Script (record { 0 = k })) objects) keys ≡ reflectors_by objects keys
reflectors-plain objects k keys = search (map-held, reflector-other)

-- a reflector that is taken out is that of the native at one key alone
reflectors-without : (objects : List Object) (k : ℕ) (keys : List (Option ℕ)) (key : ℕ) → key < length keys → ((q : ℕ) → get_or keys q None ≡ Some k → q ≡ key) →
    ((j : ℕ) → get_or keys key None ≡ Some j → j ≡ k) → set (reflectors_by objects keys) key None ≡ reflectors_by (without_name (reflector k) objects) keys
reflectors-without objects k keys key within one same = reflectors-set objects (without_name (reflector k) objects) keys key None within (gone (get_or keys key None) same)
    (λ q other. kept (get_or keys q None) (λ e. other (one q e)))
  where
    gone : (x : Option ℕ) → ((j : ℕ) → x ≡ Some j → j ≡ k) → option_and_then (reflector_key (without_name (reflector k) objects)) x ≡ None
    gone None e = refl
    gone (Some j) e = ap (reflector_key (without_name (reflector k) objects)) (e j refl) ∙ reflector-gone objects k

    kept : (x : Option ℕ) → ¬ (x ≡ Some k) → option_and_then (reflector_key objects) x ≡ option_and_then (reflector_key (without_name (reflector k) objects)) x
    kept None d = refl
    kept (Some j) d = sym (reflector-other objects (reflector k) j (ne_eqb j k (λ e. d (ap (λ i. Some i) e))))

-- Keys

-- the keys are those that are left of the first, as they stood in a walk, and natives have these reflectors
pub record IsLeftOf (first c : Counts) (objects : List Object) : Type 0 where
  pub keys : c.keys ≡ map (key_left (counts.heap_of c)) first.keys
  pub reflectors : c.reflectors ≡ reflectors_by objects c.keys
  pub walks : c.walks ≡ walks_left (counts.heap_of c) first.keys first.walks

module _ (p : Inside) (keyed : HasKeys p.counted) where
  abbrev first : Counts
  first = p.counted

  -- a reference given up
  module _ (c : Counts) (k : ℕ) where
    abbrev g : Heap
    g = (cascade (counts.heap_of c) k).heap

    -- natives that are left were there
    were-there : (j : ℕ) → Among (native j) (native_names g) → Among (native j) (native_names (counts.heap_of c))
    were-there j m =
        let f = named-member g j m in
        subst (λ i. Among (native i) (native_names (counts.heap_of c))) f.2
        (each-cascade (λ u. Among (native u.number) (native_names (counts.heap_of c))) (counts.heap_of c) k
        (λ n i. Among-map (λ (o : HeapNative). native o.number) n c.natives i) f.0 f.1)

  -- a native that forgets its reflector
  IsLeftOf-forgotten : (c : Counts) (objects : List Object) (key k : ℕ) → number_at first key ≡ Some k → IsLeftOf first c objects →
      IsLeftOf first (forgotten c key (the_number first key)).counts (without_name (reflector k) objects)
  IsLeftOf-forgotten c objects key k at l = record {
    keys = ap (map (key_left (g c number))) l.keys ∙ keys-then (counts.heap_of c) (g c number) (were-there c number) first.keys;
    reflectors = ap (λ rs. reflectors_left (map (key_left (g c number)) c.keys) (set rs key None)) l.reflectors
        ∙ (ap (reflectors_left (map (key_left (g c number)) c.keys)) (reflectors-without objects k c.keys key within one same)
        ∙ reflectors-left (without_name (reflector k) objects) (g c number) c.keys);
    walks = ap (λ ks. walks_left (g c number) ks c.walks) l.keys
        ∙ (ap (walks_left (g c number) (map (key_left (counts.heap_of c)) first.keys)) l.walks
        ∙ walks-then (counts.heap_of c) (g c number) (were-there c number) first.keys first.walks);
  }
    where
      number : ℕ
      number = the_number first key

      -- a number at a key was there at first
      was : (s j : ℕ) → number_at c s ≡ Some j → number_at first s ≡ Some j
      was s j e = (key_left-some (counts.heap_of c) (number_at first s) j
          (sym (ap (λ ks. get_or ks s None) l.keys ∙ get_or-map (key_left (counts.heap_of c)) first.keys s None) ∙ e)).0

      within : key < length c.keys
      within = subst (λ n. key < n) (sym (ap length l.keys ∙ length-map first.keys (key_left (counts.heap_of c)))) (within-read first.keys key k at)

      one : (s : ℕ) → number_at c s ≡ Some k → s ≡ key
      one s e = keyed.one_key s key k (was s k e) at

      same : (j : ℕ) → number_at c key ≡ Some j → j ≡ k
      same j e = let both : Some j ≡ Some k = sym (was key j e) ∙ at in cc

  IsLeftOf-let_go : (c : Counts) (objects : List Object) (x : Name) (key : Option ℕ) → Reflects (keyed_of p) x key → IsLeftOf first c objects →
      IsLeftOf first (let_native_go first c key).counts (without_name x objects)
  IsLeftOf-let_go c objects x key r l = Reflects-cases (keyed_of p) (λ x key. IsLeftOf first (let_native_go first c key).counts (without_name x objects))
      (λ k. record { keys = l.keys; reflectors = l.reflectors ∙ sym (reflectors-plain objects k c.keys); walks = l.walks })
      (λ k q at. IsLeftOf-forgotten c objects q k at l) x key r

  pub IsLeftOf-each : (os objects : List Object) (l : Left) → ((o : Object) → Among o os → Reflects (keyed_of p) o.name o.native) → IsLeftOf first l.counts objects →
      IsLeftOf first (sweep_each first os l).counts (without_names (map (λ o. o.name) os) objects)
  IsLeftOf-each [] objects l all is = is
  IsLeftOf-each (o ∷ os) objects l all is =
      IsLeftOf-each os (without_name o.name objects) (then_sweep first l o) (λ q m. all q (inr m)) (IsLeftOf-let_go l.counts objects o.name o.native (all o (inl refl)) is)
