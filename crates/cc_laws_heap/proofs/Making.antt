-- WHAT IS MADE KEEPS THE HEAPS WELL FORMED: a native with the next number, a script object with a name that is not there.
use Rattle.std.proofs.Common.{◌≡◌, ℕ, zero, suc, ◌+◌, ◌<◌, ◌≤◌, Bool, true, false, cond, List, [], ◌∷◌, ◌++◌, map, length, refl, sym, ◌∙◌, ap, subst, inl, inr, ◌⊎◌, ⊎_elim, arith, count_by, None, is_some, Some}
use Rattle.std.proofs.lemmas.Bool.{eqb-true, cases_lt, false≢true}
use Rattle.std.proofs.lemmas.Bool.Decides.{eqb_tells}
use Rattle.std.proofs.lemmas.List.{map_push, length-replicate}
use Rattle.cc_lists.specs.Members.{Among}
use Rattle.cc_lists.proofs.Members.{Among-map_cases, Among-left, Among-right, Among-append}
use Rattle.cc_lists.proofs.Counting.{count_by-cons, count_by-append, counted_is}
use Rattle.cc_names.specs.declared.name.Name.{Name}
use Rattle.cc_names.specs.Names.{native, object, reflector, same_name, number_of}
use Rattle.cc_names.proofs.NameTests.{same_name-true}
use Rattle.cc_names.specs.Sizes.{most_slots}
use Rattle.cc_model.specs.Slots.{contents, empty_slots}
use Rattle.cc_model.specs.Entries.{Entry}
use Rattle.cc_model.specs.Heap.{Heap, HeapNative, HeapScript, Buffered, with_mark, native_to_make}
use Rattle.cc_model.specs.Effects.{with_native}
use Rattle.cc_model.specs.WellFormed.{IsWellFormed, IsRising, HasMembers, FitsName, native_names, script_names, names_there, is_proxy_kind}
use Rattle.cc_laws_heap.proofs.Rising.{IsRising-tail, IsRising-first, IsRising-cons}
use Rattle.cc_laws_heap.proofs.Buffer.{places-with_mark_same, places-with_mark_other}
use Rattle.cc_laws_heap.specs.Balance.{places}
use Rattle.cc_lists.proofs.ListWrites.{each-push}

-- empty slots hold nothing
pub contents-empty : (n : ℕ) → contents (empty_slots n) ≡ []
contents-empty zero = refl
contents-empty (suc n) = contents-empty n

-- nothing stands in empty slots
pub contents-empty_none : (n : ℕ) (x : Name) → ¬ (Among x (contents (empty_slots n)))
contents-empty_none n x m = subst (λ xs. Among x xs) (contents-empty n) m

-- a number above all others may go last
pub IsRising-push : (xs : List ℕ) (k : ℕ) → IsRising xs → ((j : ℕ) → Among j xs → j < k) → IsRising (xs ++ k ∷ [])
IsRising-push [] k r below = tt
IsRising-push (i ∷ js) k r below = IsRising-cons i (js ++ k ∷ [])
    (λ j m. ⊎_elim (λ l. IsRising-first i js r j l) (λ t. ⊎_elim (λ e. subst (λ l. i < l) e (below i (inl refl))) (λ n. absurd n) t)
    (Among-append j js (k ∷ []) m))
    (IsRising-push js k (IsRising-tail i js r) (λ j m. below j (inr m)))

-- what stands in the buffer after a mark stood there before, or was marked
pub with_mark-cases : (m : Bool) (k : ℕ) (bs : List Buffered) (b : Buffered) → Among b (with_mark m k bs) → (b.number ≡ k) ⊎ Among b bs
with_mark-cases m k [] b i = ⊎_elim (λ e. inl (ap (λ (c : Buffered). c.number) (sym e))) (λ n. absurd n) i
with_mark-cases m k (c ∷ bs) b i = grind (arith, eqb-true, with_mark-cases m k bs b)

-- a mark leaves each native there at most once
pub places-with_mark : (m : Bool) (k : ℕ) (bs : List Buffered) → ((j : ℕ) → places j bs ≤ 1) → (j : ℕ) → places j (with_mark m k bs) ≤ 1
places-with_mark m k bs once j = ⊎_elim
    (λ t. subst (λ i. places i (with_mark m k bs) ≤ 1) (sym t.1) (omega (arith, places-with_mark_same m k bs (once k))))
    (λ t. omega (arith, places-with_mark_other m k j bs t.1, once j))
    (eqb_tells j k)

-- A native

module _ (h : Heap) (n : ℕ) (w : IsWellFormed h) where
  -- the names of natives after one was made
  native_names-is : native_names (with_native h n) ≡ native_names h ++ native (h.natives_made + 1) ∷ []
  native_names-is = map_push (λ (m : HeapNative). native m.number) h.natives (native_to_make h n)

  -- what was there is there
  native_names-with_native : (x : Name) → Among x (native_names h) → Among x (native_names (with_native h n))
  native_names-with_native x m = subst (λ xs. Among x xs) (sym native_names-is) (Among-left x (native_names h) (native (h.natives_made + 1) ∷ []) m)

  -- and what was made
  pub native_names-new_native : Among (native (h.natives_made + 1)) (native_names (with_native h n))
  native_names-new_native = grind (arith, native_names-is, Among-right)

  -- and every object that was there
  names_there-with_native : (x : Name) → Among x (names_there h) → Among x (names_there (with_native h n))
  names_there-with_native x m = ⊎_elim
      (λ l. Among-left x (native_names (with_native h n)) (script_names h) (native_names-with_native x l))
      (λ r. Among-right x (native_names (with_native h n)) (script_names h) r)
      (Among-append x (native_names h) (script_names h) m)

  -- natives have numbers that were made
  pub native_names-made : (k : ℕ) → Among (native k) (native_names h) → k ≤ h.natives_made
  native_names-made k m =
      let f = Among-map_cases (λ (m : HeapNative). native m.number) h.natives (native k) m in
      subst (λ j. j ≤ h.natives_made) (ap number_of f.2) (w.native_numbers f.0 f.1).1

  -- the next number is above those of all natives
  numbers-below : (j : ℕ) → Among j (map (λ (m : HeapNative). m.number) h.natives) → j < h.natives_made + 1
  numbers-below j m =
      let f = Among-map_cases (λ (m : HeapNative). m.number) h.natives j m in
      let made : f.0.number ≤ h.natives_made = (w.native_numbers f.0 f.1).1 in
      omega (arith, f.2)

  -- A native made keeps the heaps well formed.
  pub IsWellFormed-with_native : n ≤ most_slots → h.natives_made < h.limits.natives → IsWellFormed (with_native h n)
  IsWellFormed-with_native few room = record {
    native_registers = λ x m. native_names-with_native x (w.native_registers x m);
    script_registers = w.script_registers;
    registers = w.registers;
    rising = subst IsRising (sym (map_push (λ (m : HeapNative). m.number) h.natives (native_to_make h n)))
        (IsRising-push (map (λ m. m.number) h.natives) (h.natives_made + 1) w.rising numbers-below);
    native_numbers = each-push (λ m. (1 ≤ m.number) × (m.number ≤ h.natives_made + 1)) h.natives (native_to_make h n)
        (λ m i. let k = w.native_numbers m i in (k.0, omega (arith, k.1))) (omega arith, omega arith);
    native_slots = each-push (λ m. length m.slots ≤ most_slots) h.natives (native_to_make h n) w.native_slots (subst (λ l. l ≤ most_slots) (sym (length-replicate n None)) few);
    native_contents = λ m x i. each-push (λ m. (y : Name) → Among y (contents m.slots) → Among y (names_there (with_native h n))) h.natives (native_to_make h n)
        (λ o i y j. names_there-with_native y (w.native_contents o y i j)) (λ y j. absurd (contents-empty_none n y j)) m i x;
    distinct = w.distinct;
    object_numbers = w.object_numbers;
    kinds = w.kinds;
    script_contents = w.script_contents;
    delegates = w.delegates;
    delegate_there = w.delegate_there;
    reflected = λ k m. native_names-with_native (native k) (w.reflected k m);
    preserved = each-push (λ m. m.preserved ≡ true → Among (reflector m.number) (script_names h))
        h.natives (native_to_make h n) w.preserved (λ e. absurd (false≢true e));
    entries = λ e m. let k = w.entries e m in record { the_map = k.the_map; key = k.key; value = k.value; delegate = k.delegate };
    one_entry = w.one_entry;
    buffered = λ b m. ⊎_elim
        (λ e. subst (λ k. Among (native k) (native_names (with_native h n))) (sym e) native_names-new_native)
        (λ i. native_names-with_native (native b.number) (w.buffered b i))
        (with_mark-cases false (h.natives_made + 1) h.buffer b m);
    buffered_once = places-with_mark false (h.natives_made + 1) h.buffer w.buffered_once;
    natives_allowed = omega arith;
    scripts_allowed = w.scripts_allowed;
  }

-- A script object

-- the heaps with one script object more, once so many were made
abbrev pub with_script_last : Heap → HeapScript → ℕ → Heap
with_script_last h o made = record h { scripts = h.scripts ++ o ∷ []; scripts_made = made }

-- a script object that may go last, once so many were made
pub record IsNewScript (h : Heap) (o : HeapScript) (made : ℕ) : Type 0 where
  pub unknown : ¬ (Among o.name (script_names h))
  pub fits : FitsName o.name o.kind o.slots
  pub empty : (x : Name) → ¬ (Among x (contents o.slots))
  pub delegate : is_some o.delegate ≡ is_proxy_kind o.kind
  pub delegate_there : (x : Name) → o.delegate ≡ Some x → Among x (script_names h)
  pub number : (k : ℕ) → o.name ≡ object k → (1 ≤ k) × (k ≤ made)
  pub behind : (k : ℕ) → o.name ≡ reflector k → Among (native k) (native_names h)
  pub more : h.scripts_made ≤ made
  pub allowed : made ≤ h.limits.scripts

module _ (h : Heap) (o : HeapScript) (made : ℕ) where
  -- the names of script objects after one was made
  script_names-is : script_names (with_script_last h o made) ≡ script_names h ++ o.name ∷ []
  script_names-is = map_push (λ (p : HeapScript). p.name) h.scripts o

  -- what was there is there
  pub script_names-with_script : (x : Name) → Among x (script_names h) → Among x (script_names (with_script_last h o made))
  script_names-with_script x m = subst (λ xs. Among x xs) (sym script_names-is) (Among-left x (script_names h) (o.name ∷ []) m)

  -- and what was made
  pub script_names-new_script : Among o.name (script_names (with_script_last h o made))
  script_names-new_script = subst (λ xs. Among o.name xs) (sym script_names-is) (Among-right o.name (script_names h) (o.name ∷ []) (inl refl))

  -- and nothing else
  script_names-with_script_cases : (x : Name) → Among x (script_names (with_script_last h o made)) → Among x (script_names h) ⊎ (o.name ≡ x)
  script_names-with_script_cases x m = ⊎_elim (λ l. inl l) (λ t. ⊎_elim (λ e. inr e) (λ n. absurd n) t)
      (Among-append x (script_names h) (o.name ∷ []) (subst (λ xs. Among x xs) script_names-is m))

  -- a new name leaves the names distinct
  distinct-with_script : IsWellFormed h → ¬ (Among o.name (script_names h)) → (x : Name) → count_by (same_name x) (script_names h ++ o.name ∷ []) ≤ 1
  distinct-with_script w unknown x = go (same_name x o.name) refl
    where
      last : (b : Bool) → same_name x o.name ≡ b →
          count_by (same_name x) (script_names h ++ o.name ∷ []) ≡ count_by (same_name x) (script_names h) + cond b 1 0
      last b e = rw (count_by-append (same_name x) (script_names h) (o.name ∷ []), count_by-cons (same_name x) o.name [], e) (omega arith)

      go : (b : Bool) → same_name x o.name ≡ b → count_by (same_name x) (script_names h ++ o.name ∷ []) ≤ 1
      go true e = ⊎_elim
          (λ some.
          let f = counted_is (same_name x) (script_names h) some in
          let same : f.0 ≡ o.name = sym (same_name-true x f.0 f.2) ∙ same_name-true x o.name e in
          absurd (unknown (subst (λ y. Among y (script_names h)) same f.1)))
          (λ none. let k : count_by (same_name x) (script_names h ++ o.name ∷ []) ≡ count_by (same_name x) (script_names h) + 1 = last true e in omega arith)
          (cases_lt 0 (count_by (same_name x) (script_names h)))
      go false e = let k : count_by (same_name x) (script_names h ++ o.name ∷ []) ≡ count_by (same_name x) (script_names h) + 0 = last false e in
          omega (arith, w.distinct x)

  -- A script object made keeps the heaps well formed.
  pub IsWellFormed-with_script : IsWellFormed h → IsNewScript h o made → IsWellFormed (with_script_last h o made)
  IsWellFormed-with_script w s = record {
    native_registers = w.native_registers;
    script_registers = λ x m. script_names-with_script x (w.script_registers x m);
    registers = w.registers;
    rising = w.rising;
    native_numbers = w.native_numbers;
    native_slots = w.native_slots;
    native_contents = λ n x m i. ⊎_elim
        (λ l. Among-left x (native_names h) (script_names (with_script_last h o made)) l)
        (λ r. Among-right x (native_names h) (script_names (with_script_last h o made)) (script_names-with_script x r))
        (Among-append x (native_names h) (script_names h) (w.native_contents n x m i));
    distinct = λ x. subst (λ xs. count_by (same_name x) xs ≤ 1) (sym script_names-is) (distinct-with_script w s.unknown x);
    object_numbers = λ k m. ⊎_elim
        (λ i. let p = w.object_numbers k i in (p.0, omega (arith, p.1, s.more)))
        (λ e. s.number k e)
        (script_names-with_script_cases (object k) m);
    kinds = each-push (λ p. FitsName p.name p.kind p.slots) h.scripts o w.kinds s.fits;
    script_contents = λ p x m. each-push (λ p. (y : Name) → Among y (contents p.slots) → Among y (script_names (with_script_last h o made))) h.scripts o
        (λ p i y j. script_names-with_script y (w.script_contents p y i j)) (λ y j. absurd (s.empty y j)) p m x;
    delegates = each-push (λ p. is_some p.delegate ≡ is_proxy_kind p.kind) h.scripts o w.delegates s.delegate;
    delegate_there = λ p x m. each-push (λ p. (y : Name) → p.delegate ≡ Some y → Among y (script_names (with_script_last h o made))) h.scripts o
        (λ p i y e. script_names-with_script y (w.delegate_there p y i e)) (λ y e. script_names-with_script y (s.delegate_there y e)) p m x;
    reflected = λ k m. ⊎_elim (λ i. w.reflected k i) (λ e. s.behind k e) (script_names-with_script_cases (reflector k) m);
    preserved = λ n m e. script_names-with_script (reflector n.number) (w.preserved n m e);
    entries = λ e m. members e (w.entries e m);
    one_entry = w.one_entry;
    buffered = w.buffered;
    buffered_once = w.buffered_once;
    natives_allowed = w.natives_allowed;
    scripts_allowed = s.allowed;
  }
    where
      members : (e : Entry) → HasMembers h e → HasMembers (with_script_last h o made) e
      members e k = record {
        the_map = (k.the_map.0, Among-left k.the_map.0 h.scripts (o ∷ []) k.the_map.1, k.the_map.2, k.the_map.3);
        key = script_names-with_script e.key k.key;
        value = script_names-with_script e.value k.value;
        delegate = each-push (λ p. p.name ≡ e.key → p.delegate ≡ e.delegate) h.scripts o k.delegate
            (λ is. absurd (s.unknown (subst (λ x. Among x (script_names h)) (sym is) k.key)));
      }
