-- A SWEEP BY KEYS is the sweep of the definitions, where the marks are closed: what is left keeps its names.
use Rattle.cc_lists.proofs.Held.{of-one}
use Rattle.std.proofs.Common.{◌≡◌, ℕ, ◌+◌, ◌≤◌, Bool, true, false, not, List, [], ◌∷◌, ◌++◌, length, map, Option, Some, None, refl, sym, ◌∙◌, ap, subst, arith, inl, inr}
use Rattle.std.specs.List.{flat_map}
use Rattle.std.specs.Option.{option_to_list}
use Rattle.std.proofs.Math.ListN.{get_or-map}
use Rattle.std.proofs.lemmas.List.{map-append}
use Rattle.std.proofs.lemmas.List.Sums.{count_by-le-length, length-filter}
use Rattle.cc_heaps.proofs.ScriptsChanged.{HoldsSame, heap-held, registers-held, natives-held}
use Rattle.cc_lists.specs.Members.{Among, has}
use Rattle.cc_lists.proofs.Members.{Among-map, Among-map_cases, Among-filtered, Among-flat_map_cases}
use Rattle.cc_lists.proofs.Filtering.{filter-agree}
use Rattle.cc_lists.proofs.ListWrites.{map-agree}
use Rattle.cc_names.specs.declared.name.Name.{Name}
use Rattle.cc_names.specs.Names.{native, object, same_name, behind}
use Rattle.cc_model.specs.Slots.{contents}
use Rattle.cc_model.specs.Heap.{Heap, HeapNative, Outcome}
use Rattle.cc_model.specs.Counts.{times}
use Rattle.cc_model.specs.Sweep.{unmarked, without_dead_entries, sweep}
use Rattle.cc_model.specs.Sweep as model
use Rattle.cc_model.specs.WellFormed.{native_names}
use Rattle.cc_laws_heap.specs.Sound.{IsSound}
use Rattle.cc_laws_heap.specs.Marks.{AreMarksClosed}
use Rattle.cc_laws_heap.proofs.Face.{named-member, scripts-sweep, sweep-sound, times-append}
use Rattle.cc_counted.specs.Counts.{number_at, number_or_none, the_number, key_left, walks_left}
use Rattle.cc_counted.specs.Counts as counts
use Rattle.cc_counted.proofs.States.{walks_left-agree}
use Rattle.cc_counted.specs.Owning.{AreOwned}
use Rattle.cc_script.specs.Objects.{Object, name_at}
use Rattle.cc_heaps.specs.Keyed.{Keyed, IsInOrder, Reflects, left_with, named_entries, named_objects}
use Rattle.cc_heaps.specs.Changes.{KeepsKeys}
use Rattle.cc_heaps.specs.Named.{named_native, named, IsHeldThere}
use Rattle.cc_heaps.specs.Fields.{heap_of, keyed_of, IsLinked}
use Rattle.cc_heaps.specs.Sweeping.{Left, OwnEach, is_white, native_keys, not_white, swept_counts, untold, white_names, whites}
use Rattle.cc_heaps.specs.declared.heaps.Heaps.TheInside.{Inside}
use Rattle.cc_heaps.proofs.Calls.{key_left-shown, state_left-shown}
use Rattle.cc_heaps.proofs.Keying.{AreHeldThere}
use Rattle.cc_heaps.proofs.Keys.{AreReflecting-left, HasKeys-keyed, HasKeys-left, HasKeys-names, Reflects-kept, counts_in, Reflects-cases, named-object}
use Rattle.cc_heaps.proofs.LeftWith.{key_left-there, keys-there, walks-there}
use Rattle.cc_heaps.proofs.Naming.{native_names-shown, shown}
use Rattle.cc_heaps.proofs.ObjectsKept.{keys-counted}
use Rattle.cc_heaps.proofs.Owned.{AreOwned-permuted, all-owned, in_reflectors, in_registers}
use Rattle.cc_heaps.proofs.EntriesLeft.{entries-left, entries_there-left, left_entries}
use Rattle.cc_heaps.proofs.ObjectsLeft.{left_objects, native-left, objects-left, one_key-left, register-left, scripts-left, spared-stays, stays, white-unmarked}
use Rattle.cc_heaps.proofs.Reaching.{name_at-own, key-named}
use Rattle.cc_heaps.proofs.Registers.{AreLive, AreLive-same, left-same, registers-same}
use Rattle.cc_heaps.proofs.SweptNatives.{IsLeftOf, IsLeftOf-each, each-named, each-swept, left_by, without_each, without_each-scripts, without_names, without_names-filter}

-- the parts afterwards
abbrev pub swept_parts : Inside → Inside
swept_parts p = record p { counted = (swept_counts p.counted p.scripts).counts; scripts = left_objects p; weak = left_entries p }

-- Who owns the references of natives

-- by whether they are white, the natives behind some objects
behind-parted : (k : ℕ) (os : List Object) → times k (flat_map behind (map (λ o. o.name) os)) ≡
    times k (flat_map behind (white_names os)) + times k (flat_map behind (map (λ o. o.name) (not_white os)))
behind-parted k [] = refl
behind-parted k (o ∷ os) = go (is_white o) refl (behind-parted k os)
  where
    names : List Object → List Name
    names ps = map (λ p. p.name) ps

    go : (b : Bool) → is_white o ≡ b → times k (flat_map behind (names os)) ≡ times k (flat_map behind (white_names os)) + times k (flat_map behind (names (not_white os))) →
        times k (flat_map behind (names (o ∷ os))) ≡ times k (flat_map behind (white_names (o ∷ os))) + times k (flat_map behind (names (not_white (o ∷ os))))
    go true w ih = rw w (omega (arith, ih, times-append k (behind o.name) (flat_map behind (names os)), times-append k (behind o.name) (flat_map behind (white_names os))))
    go false w ih = rw w (omega (arith, ih, times-append k (behind o.name) (flat_map behind (names os)), times-append k (behind o.name) (flat_map behind (names (not_white os)))))

-- the numbers of the natives whose reflectors are among some objects are behind the names of these
numbers-behind : (p : Inside) (os : List Object) → ((o : Object) → Among o os → Reflects (keyed_of p) o.name o.native) →
    map (the_number p.counted) (native_keys os) ≡ flat_map behind (map (λ o. o.name) os)
numbers-behind p [] all = refl
numbers-behind p (o ∷ os) all =
    map-append (the_number p.counted) (option_to_list o.native) (native_keys os)
    ∙ (λ i. one o.name o.native (all o (inl refl)) i ++ numbers-behind p os (λ q m. all q (inr m)) i)
  where
    one : (x : Name) (key : Option ℕ) → Reflects (keyed_of p) x key → map (the_number p.counted) (option_to_list key) ≡ behind x
    one = Reflects-cases (keyed_of p) (λ x key. map (the_number p.counted) (option_to_list key) ≡ behind x) (λ k. refl) (λ k q r. ap (λ o. number_or_none o ∷ []) r)

-- and the natives are there
reflecting-there : (p : Inside) (x : Name) (key : Option ℕ) (q : ℕ) → Reflects (keyed_of p) x key → Among q (option_to_list key) → number_at p.counted q ≡ Some (the_number p.counted q)
reflecting-there p x key q r m = grind (arith, Reflects-cases, of-one)

module _ {besides : List ℕ} (p : Inside) (l : IsLinked p) (o : IsInOrder besides (keyed_of p)) where
  white-reflecting : (q : Object) → Among q (whites p.scripts) → Reflects (keyed_of p) q.name q.native
  white-reflecting q m = o.reflecting q (Among-filtered is_white q p.scripts m)

  -- WHITE REFLECTORS OWN THE REFERENCES to their natives.
  pub whites-own : OwnEach p.counted (native_keys (whites p.scripts)) p.counted
  whites-own = record {
    there = λ key m.
        let f = Among-flat_map_cases (λ (q : Object). option_to_list q.native) (whites p.scripts) key m in
        reflecting-there p f.0.name f.0.native key (white-reflecting f.0 f.1) f.2;
    owned = (
      stay ++ (in_registers p ++ besides),
      subst (λ ks. AreOwned (ks ++ (stay ++ (in_registers p ++ besides))) p.counted) (sym (numbers-behind p (whites p.scripts) white-reflecting))
          (AreOwned-permuted (in_registers p ++ (in_reflectors p ++ besides)) (go ++ (stay ++ (in_registers p ++ besides))) p.counted
          (λ k. omega (
            arith,
            behind-parted k p.scripts,
            times-append k go (stay ++ (in_registers p ++ besides)),
            times-append k stay (in_registers p ++ besides),
            times-append k (in_registers p) besides,
            times-append k (in_registers p) (in_reflectors p ++ besides),
            times-append k (in_reflectors p) besides,
          ))
          (all-owned besides p (record { order = o; linked = l }))),
    );
  }
    where
      go : List ℕ
      go = flat_map behind (white_names p.scripts)

      stay : List ℕ
      stay = flat_map behind (map (λ q. q.name) (not_white p.scripts))

module _ {owned : List ℕ} (p : Inside) (l : IsLinked p) (o : IsInOrder owned (keyed_of p)) (c : AreMarksClosed (heap_of p)) where
  -- Natives that are left

  abbrev final : Left
  final = swept_counts p.counted p.scripts

  abbrev g : Heap
  g = counts.heap_of final.counts

  -- they hold what is there,
  held-final : AreHeldThere p.scripts final.counts.natives
  held-final n x m i = each-swept (λ u. (y : Name) → Among y (contents u.slots) → IsHeldThere p.scripts y) p.counted (whites p.scripts) (untold p.counted)
      (λ k j y. l.held k y j) n m x i

  -- under the same names,
  final-left : (n : HeapNative) (key : ℕ) → Among n final.counts.natives → Among (object key) (contents n.slots) → name_at (left_objects p) key ≡ name_at p.scripts key
  final-left n key m i = each-swept (λ u. (k : ℕ) → Among (object k) (contents u.slots) → name_at (left_objects p) k ≡ name_at p.scripts k) p.counted (whites p.scripts)
      (untold p.counted) (λ r j k. native-left p l o c r k j) n m key i

  same-left : HoldsSame (record p { counted = final.counts; weak = left_entries p }) (left_objects p)
  same-left = record { registers = register-left p l o c; natives = final-left }

  -- stand at the keys at which they stood, and have their reflectors, as far as these are left.
  final-keys : IsLeftOf p.counted final.counts (left_objects p)
  final-keys = subst (IsLeftOf p.counted final.counts) same
      (IsLeftOf-each p (keys-counted owned p l o) (whites p.scripts) p.scripts (untold p.counted) (white-reflecting p l o)
      (record {
        keys = sym (keys-there (counts.heap_of p.counted) p.counted.keys (keys-counted owned p l o).there);
        reflectors = l.reflectors;
        walks = sym (walks-there (counts.heap_of p.counted) p.counted.keys p.counted.walks (keys-counted owned p l o).there);
      }))
    where
      spared : (q : Object) → Among q p.scripts → not (has same_name (white_names p.scripts) q.name) ≡ stays q
      spared q m = ap (λ xs. not (has same_name xs q.name)) (white-unmarked p) ∙ spared-stays p l o c q m

      same : without_names (white_names p.scripts) p.scripts ≡ left_objects p
      same = without_names-filter (white_names p.scripts) p.scripts ∙ filter-agree (λ (q : Object). not (has same_name (white_names p.scripts) q.name)) stays p.scripts spared

  -- The definitions' sweep

  -- the dead entries go first
  abbrev living_entries : Heap
  living_entries = without_dead_entries (unmarked (heap_of p)) (heap_of p)

  -- what is done to natives is what the definitions do to them
  swept : sweep (heap_of p) ≡ left_by p.scripts (without_each (white_names p.scripts) living_entries) final
  unfolding sweep
  swept =
      ap (λ xs. model.sweep_each xs (left_by p.scripts living_entries (untold p.counted))) (sym (white-unmarked p))
      ∙ each-named p l.script_names (whites p.scripts) living_entries (untold p.counted) (white-reflecting p l o)

  scripts-swept : (sweep (heap_of p)).heap.scripts ≡ named_objects (left_objects p)
  scripts-swept = scripts-sweep (heap_of p) ∙ scripts-left p l o c

  -- the heaps afterwards, by the names that were
  abbrev h : Heap
  h = record (shown (heap_of p) p.scripts g) { scripts = named_objects (left_objects p); entries = named_entries (left_objects p) (left_entries p) }

  heap-swept : (sweep (heap_of p)).heap ≡ h
  heap-swept =
      let e : (sweep (heap_of p)).heap ≡ shown (without_each (white_names p.scripts) living_entries) p.scripts g = ap (λ (t : Outcome). t.heap) swept in
      e
      ∙ (ap (λ f. shown f p.scripts g) (without_each-scripts (white_names p.scripts) living_entries)
      ∙ (λ i. record (shown (heap_of p) p.scripts g) { scripts = (sym (ap (λ (f : Heap). f.scripts) e) ∙ scripts-swept) i; entries = entries-left p l o c i }))

  pub events-swept : final.events ≡ (sweep (heap_of p)).events
  events-swept = sym (ap (λ (t : Outcome). t.events) swept)

  sound : IsSound owned h
  sound = subst (IsSound owned) heap-swept (sweep-sound (heap_of p) c o.sound)

  -- The parts afterwards

  abbrev later : Inside
  later = swept_parts p

  registers-there : (y : Name) → Among y (contents (heap_of p).native_registers) → Among y (native_names g)
  registers-there y m = subst (λ xs. Among y xs) (native_names-shown p.scripts (heap_of p) g) (sound.well_formed.native_registers y m)

  heap-later : heap_of later ≡ h
  heap-later = heap-held (record p { counted = final.counts; weak = left_entries p }) (left_objects p) held-final same-left ∙ (λ i. record h { native_registers = natives i })
    where
      natives : map (named final.counts.keys) p.native_registers.items ≡ map (named p.counted.keys) p.native_registers.items
      natives = ap (λ keys. map (named keys) p.native_registers.items) final-keys.keys
          ∙ registers-same p.counted.keys (map (key_left g) p.counted.keys) p.native_registers.items
          (left-same p.counted.keys g p.native_registers.items l.native_registers registers-there)

  -- the natives that are left of heaps with the script objects that are left
  abbrev before : Keyed
  before = record { heap = heap_of p; keys = p.counted.keys; scripts = left_objects p; entries = left_entries p; walks = p.counted.walks; marking = p.to_scan.marking }

  keys-later : final.counts.keys ≡ map (key_left h) p.counted.keys
  keys-later = final-keys.keys ∙ map-agree (key_left g) (key_left h) p.counted.keys (λ k m. key_left-shown p.scripts (heap_of p) g k)

  walks-later : final.counts.walks ≡ walks_left h p.counted.keys p.counted.walks
  walks-later = final-keys.walks ∙ walks_left-agree g h (state_left-shown p.scripts (heap_of p) g) p.counted.keys p.counted.walks

  keyed-later : keyed_of later ≡ left_with before h
  keyed-later = λ i. record { heap = heap-later i; keys = keys-later i; scripts = left_objects p; entries = left_entries p; walks = walks-later i; marking = p.to_scan.marking }

  -- THE PARTS STAY LINKED,
  pub linked-swept : IsLinked later
  linked-swept = record {
    native_registers = subst (λ keys. AreLive keys p.native_registers.items) (sym final-keys.keys)
        (AreLive-same p.counted.keys (map (key_left g) p.counted.keys) p.native_registers.items
        (left-same p.counted.keys g p.native_registers.items l.native_registers registers-there) l.native_registers);
    script_registers = registers-held (record p { counted = final.counts; weak = left_entries p }) (left_objects p) held-final same-left l.script_registers;
    registers = l.registers;
    held = natives-held (record p { counted = final.counts; weak = left_entries p }) (left_objects p) held-final same-left;
    one_key = (objects-left p l o c).one_key;
    one_name = (objects-left p l o c).one_name;
    reflectors = final-keys.reflectors;
    script_names = (objects-left p l o c).script_names;
    room = (omega (arith, l.room.0, few-left), omega (arith, l.room.1, few-left));
  }
    where
      -- those that are left are no more
      few-left : length (left_objects p) ≤ length p.scripts
      few-left = omega (arith, length-filter stays p.scripts, count_by-le-length stays p.scripts)

  -- natives that are left were there
  natives-before : (k : ℕ) → Among (native k) (native_names h) → Among (native k) (native_names (heap_of p))
  natives-before k m =
      let f = named-member h k m in
      let n = Among-map_cases (named_native p.scripts) final.counts.natives f.0 f.1 in
      subst (λ j. Among (native j) (native_names (heap_of p))) (ap (λ (r : HeapNative). r.number) n.2 ∙ f.2)
      (each-swept (λ u. Among (native u.number) (native_names (heap_of p))) p.counted (whites p.scripts) (untold p.counted)
      (λ r i. subst (λ xs. Among (native r.number) xs) (sym (native_names-shown p.scripts (heap_of p) (counts.heap_of p.counted)))
      (Among-map (λ (s : HeapNative). native s.number) r p.counted.natives i)) n.0 n.1)

  -- and in order.
  pub order-swept : IsInOrder owned (keyed_of later)
  order-swept = subst (IsInOrder owned) (sym keyed-later) (record {
    sound = sound;
    keyed = HasKeys-keyed before h (map (key_left h) p.counted.keys)
        (HasKeys-left (counts_in (heap_of p) p.counted.keys) h [] sound.well_formed natives-before (HasKeys-names (keyed_of p) o.keyed));
    named = refl;
    one_key = (objects-left p l o c).one_key;
    whole = (objects-left p l o c).whole;
    reflecting = AreReflecting-left before h refl sound.well_formed
        (λ q m. Reflects-kept (keyed_of p) before q.name q.native (λ s k is at. at) (o.reflecting q (Among-filtered stays q p.scripts m)));
    limits = o.limits;
    entries = refl;
    entries_there = entries_there-left p l o c;
  })

  -- THE SWEEP IS THAT OF THE DEFINITIONS
  pub heap-is : (keyed_of later).heap ≡ (sweep (heap_of p)).heap
  heap-is = heap-later ∙ sym heap-swept

  -- the keys of natives that are no more hold nothing
  pub natives-swept : (keyed_of later).keys ≡ map (key_left (keyed_of later).heap) p.counted.keys
  natives-swept = keys-later ∙ ap (λ f. map (key_left f) p.counted.keys) (sym heap-later)

  -- what is there before and after has the same key
  pub keys-swept : KeepsKeys (keyed_of p) (keyed_of later)
  keys-swept = subst (KeepsKeys (keyed_of p)) (sym keyed-later) (record {
    natives = λ key k e m. get_or-map (key_left h) p.counted.keys key None ∙ (ap (key_left h) e ∙ key_left-there h k m);
    scripts = λ key x e m.
        let r = named-object h (left_objects p) refl x m in
        let same : r.0.key ≡ key = key-named p.scripts l.one_name key x e r.0 (Among-filtered stays r.0 p.scripts r.1) r.2 in
        ap (name_at (left_objects p)) (sym same) ∙ (name_at-own (left_objects p) (one_key-left p l o c) r.0 r.1 ∙ ap (λ y. Some y) r.2);
  })
