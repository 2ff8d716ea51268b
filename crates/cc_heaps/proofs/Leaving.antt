-- WHAT GIVING UP A REFERENCE FREES is all that leaves, each once.
use Rattle.std.proofs.Common.{◌≡◌, ℕ, ◌+◌, ◌<◌, ◌≤◌, Bool, true, false, not, List, [], ◌∷◌, ◌++◌, map, length, get_or, Option, Some, None, refl, sym, ◌∙◌, ap, subst, inl, inr, ⊎_elim, arith, ◌==◌, ◌⊎◌, slice_index_or}
use Rattle.std.specs.Option.{option_to_list}
use Rattle.std.proofs.lemmas.Bool.{cases_Bool, cases_lt}
use Rattle.std.proofs.lemmas.List.{map-append, get_or-set_same}
use Rattle.cc_lists.specs.Members.{Among, has}
use Rattle.cc_lists.proofs.Members.{Among-map, Among-map_cases, Among-filter, Among-filtered, Among-left, Among-right, Among-append, has-among}
use Rattle.cc_lists.proofs.Numbers.{number-exact}
use Rattle.cc_names.specs.declared.name.Name.{Name}
use Rattle.cc_names.specs.declared.register.Reg.TheVariants.{N}
use Rattle.cc_names.specs.Names.{native}
use Rattle.cc_names.specs.Sizes.{most_slots}
use Rattle.cc_model.specs.declared.item.Event.TheVariants.{Freed}
use Rattle.cc_model.specs.Telling.{Telling, TellsEvents}
use Rattle.cc_model.specs.Counts.{times}
use Rattle.cc_model.specs.Heap.{Heap, HeapNative, native_at, register, set_register, set_slot, with_native_slot, native_to_make}
use Rattle.cc_model.specs.Cascade.{take_up, let_go, cascade}
use Rattle.cc_model.specs.End.{slots_now}
use Rattle.cc_model.specs.Effects.{hold_native, make_native, with_native}
use Rattle.cc_model.specs.WellFormed.{IsWellFormed, native_names, script_names, names_there}
use Rattle.cc_model.proofs.Tellings.{Tells-nil, TellsEvents-trans}
use Rattle.cc_laws_heap.specs.Sound.{IsSound, numbers_of}
use Rattle.cc_laws_heap.specs.Freeing.{uncounted, is_none_of, Frees}
use Rattle.cc_laws_heap.proofs.Face.{HoldsTheSame-take_up, IsIn, IsIn-made, IsIn-natives, IsIn-take_up, contents-at-of_writes as contents-at, let_go-frees, let_go-gone, names_there-alike, names_there-take_up, native-there, native_names-change, native_register-sound, native_slot-sound, room-take_up, take_up-sound, times-among, times-append, with_native-sound}
use Rattle.cc_laws_snapshot.proofs.Face.{reached-there}
use Rattle.cc_heaps.specs.Keyed.{Keyed, IsInOrder, left_with}
use Rattle.cc_heaps.specs.Changes.{stored_in}
use Rattle.cc_heaps.specs.Leaving.{HasLeft, NoneCame, NothingLeft, TellsWhatIsFreed, freed}
use Rattle.cc_heaps.proofs.SlotsHeld.{slots-taken}

-- Giving up

module _ (m : Heap) (y : Option Name) (ks : List ℕ) (f : Frees m ks (let_go m y)) where
  -- it is there no more
  let_go-out : IsWellFormed (let_go m y).heap → (k : ℕ) → Among k ks → ¬ (Among (native k) (names_there (let_go m y).heap))
  let_go-out w k i there =
      let told : Among (Freed (native k)) (let_go m y).events = subst (Among (Freed (native k))) (sym f.told) (Among-map freed k ks i) in
      (let_go-gone m y (native k) told).1 (native-there (let_go m y).heap k w there)

  -- what is there was there
  pub let_go-none_came : NoneCame m (let_go m y).heap
  let_go-none_came x i = ⊎_elim
      (λ l.
      let n = Among-map_cases (λ (n : HeapNative). native n.number) (let_go m y).heap.natives x l in
      let u : Among (uncounted n.0) (map uncounted m.natives) =
      Among-filtered (is_none_of ks) (uncounted n.0) (map uncounted m.natives)
      (subst (Among (uncounted n.0)) f.natives (Among-map uncounted n.0 (let_go m y).heap.natives n.1)) in
      let v = Among-map_cases uncounted m.natives (uncounted n.0) u in
      Among-left x (native_names m) (script_names m)
      (subst (λ z. Among z (native_names m)) (ap (λ (n : HeapNative). native n.number) v.2 ∙ n.2) (Among-map (λ (n : HeapNative). native n.number) v.0 m.natives v.1)))
      (λ r. Among-right x (native_names m) (script_names m) (subst (λ os. Among x (map (λ o. o.name) os)) f.beside.scripts r))
      (Among-append x (native_names (let_go m y).heap) (script_names (let_go m y).heap) i)

  -- a native that was there is told, or it is there
  native-rest : (n : HeapNative) → Among n m.natives → Among (native n.number) (native_names (let_go m y).heap) ⊎ Among (native n.number) (map native ks)
  native-rest n i = ⊎_elim
      (λ t.
      let there : Among (uncounted n) (map uncounted (let_go m y).heap.natives) =
      subst (Among (uncounted n)) (sym f.natives) (Among-filter (is_none_of ks) (uncounted n) (map uncounted m.natives) (Among-map uncounted n m.natives i) t) in
      let v = Among-map_cases uncounted (let_go m y).heap.natives (uncounted n) there in
      inl (subst (λ z. Among z (native_names (let_go m y).heap)) (ap (λ (n : HeapNative). native n.number) v.2) (Among-map (λ (n : HeapNative). native n.number) v.0 (let_go m y).heap.natives v.1)))
      (λ e. inr (Among-map native n.number ks (has-among ◌==◌ number-exact ks n.number (listed (has ◌==◌ ks n.number) e))))
      (cases_Bool (is_none_of ks (uncounted n)))
    where
      listed : (b : Bool) → not b ≡ false → b ≡ true
      listed true e = refl
      listed false e = sym e

  -- and so is each object that was there
  let_go-rest : (x : Name) → Among x (names_there m) → Among x (names_there (let_go m y).heap) ⊎ Among x (map native ks)
  let_go-rest x i = ⊎_elim
      (λ l.
      let n = Among-map_cases (λ (n : HeapNative). native n.number) m.natives x l in
      ⊎_elim
      (λ t. inl (Among-left x (native_names (let_go m y).heap) (script_names (let_go m y).heap) (subst (λ z. Among z (native_names (let_go m y).heap)) n.2 t)))
      (λ t. inr (subst (λ z. Among z (map native ks)) n.2 t))
      (native-rest n.0 n.1))
      (λ r. inl (Among-right x (native_names (let_go m y).heap) (script_names (let_go m y).heap) (subst (λ os. Among x (map (λ o. o.name) os)) (sym f.beside.scripts) r)))
      (Among-append x (native_names m) (script_names m) i)

-- WHAT IS TOLD by a change that ends in giving up: `m` is what stands before that
module _ (owned : List ℕ) (h m k : Heap) (y : Option Name) (before after : Telling) (s : IsSound (numbers_of y ++ owned) m) (is : k ≡ (let_go m y).heap) (w : IsWellFormed k) where
  f : (ks : List ℕ) × Frees m ks (let_go m y)
  f = let_go-frees owned m y s

  well : IsWellFormed (let_go m y).heap
  well = subst IsWellFormed is w

  pub given-up : NothingLeft h m → ((j : ℕ) → Among (native j) (names_there m) → ¬ (Among (native j) (names_there (let_go m y).heap)) → Among (native j) (names_there h)) →
      TellsEvents before after (let_go m y).events → TellsWhatIsFreed h k before after
  given-up into back told = subst (λ z. TellsWhatIsFreed h z before after) (sym is) (record {
    numbers = f.0;
    told = subst (TellsEvents before after) f.1.told told;
    left = record {
      once = f.1.once;
      each = λ j i. left j (let_go-out m y f.0 f.1 well j i) (f.1.were_there j i);
      rest = λ x i. let_go-rest m y f.0 f.1 x (into x i);
    };
  })
    where
      left : (j : ℕ) → ¬ (Among (native j) (names_there (let_go m y).heap)) → Among (native j) (native_names m) → HasLeft h (let_go m y).heap j
      left j out was = record {
        before = back j (Among-left (native j) (native_names m) (script_names m) was) out;
        gone = out;
        unreached = λ r. out (reached-there (let_go m y).heap well (native j) r);
      }

-- Calls in a row

-- where nothing is told nothing leaves
pub nothing-told : (h k : Heap) (t : Telling) → NothingLeft h k → TellsWhatIsFreed h k t t
nothing-told h k t stays = record {
  numbers = [];
  told = Tells-nil t;
  left = record { once = λ j. omega arith; each = λ j i. absurd i; rest = λ x i. inl (stays x i) };
}

module _ (h g k : Heap) (w : IsWellFormed k) (came : NoneCame g k) where
  -- what left stays away
  still-left : (j : ℕ) → HasLeft h g j → HasLeft h k j
  still-left j l =
      let out : ¬ (Among (native j) (names_there k)) = λ i. l.gone (came (native j) i) in
      record { before = l.before; gone = out; unreached = λ r. out (reached-there k w (native j) r) }

  -- where more is told afterwards: what left first is none of what leaves then
  pub tells-then : NoneCame h g → (a b c : Telling) → TellsWhatIsFreed h g a b → TellsWhatIsFreed g k b c → TellsWhatIsFreed h k a c
  tells-then was a b c o p = record {
    numbers = xs ++ ys;
    told = subst (TellsEvents a c) (sym (map-append freed xs ys)) (TellsEvents-trans a b c (map freed xs) (map freed ys) o.told p.told);
    left = record {
      once = λ j. omega (arith, times-append j xs ys, apart j);
      each = λ j i. ⊎_elim
          (λ l. still-left j (o.left.each j l))
          (λ r. let l = p.left.each j r in record { before = was (native j) l.before; gone = l.gone; unreached = l.unreached })
          (Among-append j xs ys i);
      rest = λ x i. ⊎_elim
          (λ l. ⊎_elim (λ t. inl t) (λ t. inr (subst (Among x) (sym (map-append native xs ys)) (Among-right x (map native xs) (map native ys) t))) (p.left.rest x l))
          (λ r. inr (subst (Among x) (sym (map-append native xs ys)) (Among-left x (map native xs) (map native ys) r)))
          (o.left.rest x i);
    };
  }
    where
      xs : List ℕ
      xs = o.numbers

      ys : List ℕ
      ys = p.numbers

      apart : (j : ℕ) → times j xs + times j ys ≤ 1
      apart j = ⊎_elim
          (λ some. ⊎_elim
          (λ more. absurd ((o.left.each j (times-among j xs some)).gone (p.left.each j (times-among j ys more)).before))
          (λ none. omega (arith, none, o.left.once j))
          (cases_lt 0 (times j ys)))
          (λ none. omega (arith, none, p.left.once j))
          (cases_lt 0 (times j xs))

-- The calls

-- a reference that the caller owns given up
pub given_up-tells : (owned : List ℕ) (v w : Keyed) (k : ℕ) (before after : Telling) → IsSound (k ∷ owned) v.heap → w ≡ left_with v (cascade v.heap k).heap → IsWellFormed w.heap →
    TellsEvents before after (cascade v.heap k).events → TellsWhatIsFreed v.heap w.heap before after
given_up-tells owned v w k before after s is well told =
    given-up owned v.heap v.heap w.heap (Some (native k)) before after s (ap (λ (u : Keyed). u.heap) is) well (λ x i. i) (λ j i out. i) told

-- a native register written: what is there before the old content is given up
module _ (owned : List ℕ) (v w : Keyed) (r : ℕ) (x : Option Name) (room : r < length v.heap.native_registers) (there : IsIn (native_names v.heap) x) (order : IsInOrder owned v) where
  -- the reference to the new content is owned
  pub register-sound : IsSound (numbers_of (register (take_up v.heap x) (N r)) ++ owned) (set_register (take_up v.heap x) (N r) x)
  register-sound = native_register-sound owned (take_up v.heap x) r x (room-take_up v.heap x r room) (IsIn-take_up v.heap x x there)
      (take_up-sound owned v.heap x (IsIn-natives v.heap x there) order.sound)

  pub hold_native-tells : (before after : Telling) → w ≡ left_with v (hold_native v.heap r x).heap → IsInOrder owned w → TellsEvents before after (hold_native v.heap r x).events →
      TellsWhatIsFreed v.heap w.heap before after
  unfolding hold_native
  hold_native-tells before after is now told =
      given-up owned v.heap (set_register (take_up v.heap x) (N r) x) w.heap (register (take_up v.heap x) (N r)) before after register-sound
      (ap (λ (u : Keyed). u.heap) is) now.sound.well_formed
      (λ z i. subst (Among z) (sym (names_there-alike v.heap (take_up v.heap x) (HoldsTheSame-take_up v.heap x))) i)
      (λ j i out. subst (Among (native j)) (names_there-alike v.heap (take_up v.heap x) (HoldsTheSame-take_up v.heap x)) i)
      told

-- a native made
module _ (owned : List ℕ) (h k : Heap) (r slots : ℕ) (room : r < length h.native_registers) (few : slots ≤ most_slots) (allowed : h.natives_made < h.limits.natives) (sound : IsSound owned h) where
  abbrev pub made : Option Name
  made = Some (native (h.natives_made + 1))

  abbrev pub put : Heap
  put = set_register (with_native h slots) (N r) made

  pub made-sound : IsSound (numbers_of (register (with_native h slots) (N r)) ++ owned) put
  made-sound = native_register-sound owned (with_native h slots) r made room (IsIn-made h slots sound.well_formed) (with_native-sound owned h slots sound few allowed)

  -- the names of natives after one was made
  named : native_names put ≡ native_names h ++ native (h.natives_made + 1) ∷ []
  named = map-append (λ (n : HeapNative). native n.number) h.natives (native_to_make h slots ∷ [])

  -- what was there is there still, before the old content is given up
  made-into : NothingLeft h put
  made-into x i = ⊎_elim
      (λ l. Among-left x (native_names put) (script_names put) (subst (Among x) (sym named) (Among-left x (native_names h) (native (h.natives_made + 1) ∷ []) l)))
      (λ r. Among-right x (native_names put) (script_names put) r)
      (Among-append x (native_names h) (script_names h) i)

  pub make_native-tells : (before after : Telling) → k ≡ (make_native h r slots).heap → IsWellFormed k → TellsEvents before after (make_native h r slots).events → TellsWhatIsFreed h k before after
  unfolding make_native
  make_native-tells before after is w told =
      given-up owned h put k (register (with_native h slots) (N r)) before after made-sound is w made-into back told
    where
      -- its register holds the new one, so that does not leave
      stays : Among (native (h.natives_made + 1)) (names_there (let_go put (register (with_native h slots) (N r))).heap)
      stays =
          let b = (let_go-frees owned put (register (with_native h slots) (N r)) made-sound).1.beside in
          let m = (let_go put (register (with_native h slots) (N r))).heap in
          let held : get_or m.native_registers r None ≡ made =
          ap (λ rs. get_or rs r None) b.native_registers ∙ get_or-set_same h.native_registers r made None room in
          let well : IsWellFormed m = subst IsWellFormed is w in
          Among-left (native (h.natives_made + 1)) (native_names m) (script_names m)
          (well.native_registers (native (h.natives_made + 1))
          (contents-at m.native_registers r (native (h.natives_made + 1)) (subst (λ o. Among (native (h.natives_made + 1)) (option_to_list o)) (sym held) (inl refl))))

      back : (j : ℕ) → Among (native j) (names_there put) → ¬ (Among (native j) (names_there (let_go put (register (with_native h slots) (N r))).heap)) → Among (native j) (names_there h)
      back j i out = ⊎_elim
          (λ l. ⊎_elim
          (λ old. Among-left (native j) (native_names h) (script_names h) old)
          (λ new. ⊎_elim (λ e. absurd (out (subst (λ z. Among z (names_there (let_go put (register (with_native h slots) (N r))).heap)) e stays))) (λ n. absurd n) new)
          (Among-append (native j) (native_names h) (native (h.natives_made + 1) ∷ []) (subst (Among (native j)) named l)))
          (λ r. Among-right (native j) (native_names h) (script_names h) r)
          (Among-append (native j) (native_names put) (script_names put) i)

-- the slot of a native written
module _ (owned : List ℕ) (v w : Keyed) (n i : ℕ) (x : Option Name) (within : i < length (slots_now (native_at v.heap n))) (there : IsIn (names_there v.heap) x) (order : IsInOrder owned v)
    (is : w ≡ left_with v (stored_in v.heap n i x).heap) where
  abbrev pub held : Option Name
  held = slice_index_or (slots_now (native_at (take_up v.heap x) n)) i None

  abbrev pub written : Heap
  written = set_slot (take_up v.heap x) (Some (native n)) i x

  pub written-sound : IsSound (numbers_of held ++ owned) written
  written-sound = go (native_at (take_up v.heap x) n) refl (subst (λ ss. i < length ss) (sym (slots-taken v.heap x n)) within)
    where
      go : (o : Option HeapNative) → native_at (take_up v.heap x) n ≡ o → i < length (slots_now o) → IsSound (numbers_of (slice_index_or (slots_now (native_at (take_up v.heap x) n)) i None) ++ owned) written
      go None e l = absurd (omega arith)
      go (Some m) e l = subst (λ o. IsSound (numbers_of (slice_index_or (slots_now o) i None) ++ owned) written) (sym e)
          (native_slot-sound owned (take_up v.heap x) n i m x e l (names_there-take_up v.heap x there) (take_up-sound owned v.heap x there order.sound))

  pub written-names : names_there written ≡ names_there v.heap
  written-names =
      ap (λ xs. xs ++ script_names (take_up v.heap x)) (native_names-change (take_up v.heap x) n (with_native_slot i x) (λ m. refl))
      ∙ names_there-alike v.heap (take_up v.heap x) (HoldsTheSame-take_up v.heap x)

  pub stored-tells : (before after : Telling) → IsInOrder owned w → TellsEvents before after (stored_in v.heap n i x).events → TellsWhatIsFreed v.heap w.heap before after
  stored-tells before after now told =
      given-up owned v.heap written w.heap held before after written-sound (ap (λ (u : Keyed). u.heap) is) now.sound.well_formed
      (λ z m. subst (Among z) (sym written-names) m) (λ j m out. subst (Among (native j)) written-names m) told
