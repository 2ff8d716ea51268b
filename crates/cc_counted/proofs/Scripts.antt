-- THE TABLE GOES ALONG with each change of the natives.
use Rattle.std.proofs.Common.{◌≡◌, ◌≢◌, ℕ, zero, suc, ◌+◌, ◌<◌, ◌≤◌, ◌==◌, ◌&&◌, ◌||◌, Bool, true, false, nat_lt, List, [], ◌∷◌, ◌++◌, map, length, get_or, replicate, count_by, Option, Some, None, IfNone, IfSome, is_some, option_map, if◌then◌else◌, refl, sym, ◌∙◌, ap, subst, ⊎_elim, arith}
use Rattle.std.specs.List.{list_any}
use Rattle.std.proofs.Math.ListN.{set}
use Rattle.std.proofs.lemmas.Bool.{cases_lt, eq-eqb, lt-ltb, ltb-true, ltb-false}
use Rattle.std.proofs.lemmas.Bool.Decides.{eqb_tells}
use Rattle.std.proofs.lemmas.List.{get_or-set_same, get_or-set_other}
use Rattle.std.proofs.lemmas.List.Sums.{count_by-le-length, sum_by-cons}
use Rattle.cc_counted.proofs.Changing.{cell-within}
use Rattle.cc_lists.specs.Members.{Among}
use Rattle.cc_lists.specs.Walks.{is_above}
use Rattle.cc_lists.proofs.Members.{Among-map}
use Rattle.cc_model.specs.Heap.{HeapNative}
use Rattle.cc_names.specs.declared.number.NKey.{NKey}
use Rattle.cc_names.specs.declared.name.Name.{Name}
use Rattle.cc_names.specs.Sizes.{most_slots}
use Rattle.cc_holders.specs.declared.entry.Entry.{Entry}
use Rattle.cc_holders.specs.declared.entry.Entry.TheVariants.{Unknown, Known}
use Rattle.cc_holders.specs.declared.holders.Holders.{Holders}
use Rattle.cc_holders.specs.Entries.{IsFirst, behind, count_of, key_of, one_if}
use Rattle.cc_holders.specs.Known.{entry_at, key_at}
use Rattle.cc_holders.proofs.Counting.{counted}
use Rattle.cc_holders.proofs.Known.{entries-kept}
use Rattle.cc_counted.specs.declared.held.Held.{Held}
use Rattle.cc_counted.specs.declared.held.Held.TheVariants as held
use Rattle.cc_counted.specs.Counts.{Counts, name_of, number_at, preserved_reflector}
use Rattle.cc_counted.specs.Lists.{Placed, Lists, cell_at, keyed, shown_at, counts_of, with_slot, IsPlaced}
use Rattle.cc_counted.specs.Scripts.{AreKnown, HasNoHolder, HasNonePlaced, IsNextHolder, IsNextPlaced, is_script, is_to_script, recounted, refers_by_reflector, refers_to_script, scripts_of}
use Rattle.cc_counted.proofs.Places.{number_at-cell, number_at-found, shown-number, the_number-cell}
use Rattle.cc_counted.proofs.Reading.{slots_of-cell}
use Rattle.cc_counted.proofs.Reflecting.{preserved_of-cell, reflector_at-cell}

-- what is chosen of a number itself, and of another
chosen : (m : ℕ) (x y : Entry) → (if m == m then x else y) ≡ x
chosen m x y = rw (eq-eqb m m refl) refl

one-small : (b : Bool) → one_if b ≤ 1
one-small true = omega arith
one-small false = omega arith

-- scripts that a native refers to are few
scripts-few : (c : Placed) → length c.slots ≤ most_slots → scripts_of c ≤ most_slots + 1
scripts-few c few = let slots = count_by-le-length is_script c.slots in let last = one-small (refers_by_reflector c) in omega (arith, slots, last, few)

module _ (cells : List (Option Placed)) (h : Holders) (k : AreKnown cells h) where
  -- no number stands at two keys
  known-one : (p q : ℕ) (c d : Placed) → cell_at cells p ≡ Some c → cell_at cells q ≡ Some d → c.number ≡ d.number → p ≡ q
  known-one p q c d e f same =
      let g : Known (scripts_of c) p ≡ Known (scripts_of d) q = sym (k.known p c e) ∙ (ap (entry_at h) same ∙ k.known q d f) in cc

  -- there is room for one more
  pub known-room : (key : ℕ) (c : Placed) → cell_at cells key ≡ Some c → count_of (entry_at h c.number) < 65535
  known-room key c at = let few = scripts-few c (k.few key c at) in rw (k.known key c at) (omega (arith, few))

  -- a table that says the same
  pub known-same : (j : Holders) → ((n : ℕ) → entry_at j n ≡ entry_at h n) → AreKnown cells j
  known-same j same = record {
    known = λ key c at. same c.number ∙ k.known key c at;
    there = λ n count key e. k.there n count key (sym (same n) ∙ e);
    few = k.few;
  }

  -- A native is another, of the same number.
  pub known-changed : (key : ℕ) (c d : Placed) → cell_at cells key ≡ Some c → d.number ≡ c.number → length d.slots ≤ most_slots → (j : Holders) →
      ((n : ℕ) → entry_at j n ≡ (if c.number == n then Known (scripts_of d) key else entry_at h n)) → AreKnown (set cells key (Some d)) j
  known-changed key c d at same few j entries = record {
    known = λ q e f. ⊎_elim
        (λ t. let is : Some d ≡ Some e = sym (here q t.1) ∙ f in let there : d ≡ e = cc in
        subst (λ (x : Placed). entry_at j x.number ≡ Known (scripts_of x) q) there
        (entries d.number ∙ (subst (λ m. (if c.number == m then Known (scripts_of d) key else entry_at h m) ≡ Known (scripts_of d) key) (sym same) (chosen c.number _ _)
        ∙ ap (λ m. Known (scripts_of d) m) (sym t.1))))
        (λ o. let old : cell_at cells q ≡ Some e = sym (get_or-set_other cells key q (Some d) None o.1) ∙ f in
        entries e.number ∙ ⊎_elim
        (λ t. absurd (o.1 (known-one q key e c old at (sym t.1))))
        (λ s. rw s.0 (k.known q e old))
        (eqb_tells c.number e.number))
        (eqb_tells q key);
    there = λ n count p e. ⊎_elim
        (λ t. let is : Known (scripts_of d) key ≡ Known count p = sym (sym e ∙ (entries n ∙ rw t.0 refl)) in let at_key : key ≡ p = cc in (d, here p (sym at_key), same ∙ t.1))
        (λ o. let old : entry_at h n ≡ Known count p = sym (entries n ∙ rw o.0 refl) ∙ e in
        let f = k.there n count p old in (
          f.0,
          get_or-set_other cells key p (Some d) None (λ s. let is : Some f.0 ≡ Some c = sym f.1 ∙ (ap (cell_at cells) s ∙ at) in let one : f.0 ≡ c = cc in o.1 (sym (ap (λ (x : Placed). x.number) one) ∙ f.2)) ∙ f.1,
          f.2,
        ))
        (eqb_tells c.number n);
    few = λ q e f. ⊎_elim
        (λ t. let is : Some d ≡ Some e = sym (here q t.1) ∙ f in let there : d ≡ e = cc in subst (λ (x : Placed). length x.slots ≤ most_slots) there few)
        (λ o. k.few q e (sym (get_or-set_other cells key q (Some d) None o.1) ∙ f))
        (eqb_tells q key);
  }
    where
      here : (q : ℕ) → q ≡ key → cell_at (set cells key (Some d)) q ≡ Some d
      here q t = ap (cell_at (set cells key (Some d))) t ∙ get_or-set_same cells key (Some d) None (cell-within cells key c at)

  -- and refers to as many
  pub known-counted : (key : ℕ) (c d : Placed) → cell_at cells key ≡ Some c → d.number ≡ c.number → length d.slots ≤ most_slots → scripts_of d ≡ scripts_of c → AreKnown (set cells key (Some d)) h
  known-counted key c d at same few alike =
      known-changed key c d at same few h (entries-kept h c.number (Known (scripts_of d) key) (k.known key c at ∙ ap (λ n. Known n key) (sym alike)))

  recounted-known : (key n m : ℕ) (before after : Bool) → m + one_if before ≡ n + one_if after → recounted before after (Known n key) ≡ Known m key
  recounted-known key n m false false e = ap (λ i. Known i key) (omega (arith, e))
  recounted-known key n m false true e = ap (λ i. Known i key) (omega (arith, e))
  recounted-known key n m true false e = ap (λ i. Known i key) (omega (arith, e))
  recounted-known key n m true true e = ap (λ i. Known i key) (omega (arith, e))

  -- or to one more or less
  pub known-recounted : (key : ℕ) (c d : Placed) → cell_at cells key ≡ Some c → d.number ≡ c.number → length d.slots ≤ most_slots → (before after : Bool) →
      scripts_of d + one_if before ≡ scripts_of c + one_if after → (j : Holders) →
      ((n : ℕ) → entry_at j n ≡ (if d.number == n then recounted before after (entry_at h d.number) else entry_at h n)) → AreKnown (set cells key (Some d)) j
  known-recounted key c d at same few before after counts j entries = known-changed key c d at same few j
      (λ n. entries n ∙ (ap (λ m. if m == n then recounted before after (entry_at h m) else entry_at h n) same
      ∙ ap (λ x. if c.number == n then x else entry_at h n)
      (ap (recounted before after) (k.known key c at) ∙ recounted-known key (scripts_of c) (scripts_of d) before after counts)))

  -- A native is taken out.
  pub known-removed : (key : ℕ) (c : Placed) → cell_at cells key ≡ Some c → (j : Holders) →
      ((n : ℕ) → entry_at j n ≡ (if c.number == n then Unknown else entry_at h n)) → AreKnown (set cells key None) j
  known-removed key c at j entries = record {
    known = λ q e f. ⊎_elim
        (λ t. let is : None ≡ Some e = sym (gone q t.1) ∙ f in absurd (cc))
        (λ o. let old : cell_at cells q ≡ Some e = sym (get_or-set_other cells key q None None o.1) ∙ f in
        entries e.number ∙ ⊎_elim
        (λ t. absurd (o.1 (known-one q key e c old at (sym t.1))))
        (λ s. rw s.0 (k.known q e old))
        (eqb_tells c.number e.number))
        (eqb_tells q key);
    there = λ n count p e. ⊎_elim
        (λ t. let is : Unknown ≡ Known count p = sym (entries n ∙ rw t.0 refl) ∙ e in absurd (cc))
        (λ o. let old : entry_at h n ≡ Known count p = sym (entries n ∙ rw o.0 refl) ∙ e in
        let f = k.there n count p old in (
          f.0,
          get_or-set_other cells key p None None (λ s. let is : Some f.0 ≡ Some c = sym f.1 ∙ (ap (cell_at cells) s ∙ at) in let one : f.0 ≡ c = cc in o.1 (sym (ap (λ (x : Placed). x.number) one) ∙ f.2)) ∙ f.1,
          f.2,
        ))
        (eqb_tells c.number n);
    few = λ q e f. ⊎_elim
        (λ t. let is : None ≡ Some e = sym (gone q t.1) ∙ f in absurd (cc))
        (λ o. k.few q e (sym (get_or-set_other cells key q None None o.1) ∙ f))
        (eqb_tells q key);
  }
    where
      gone : (q : ℕ) → q ≡ key → cell_at (set cells key None) q ≡ None
      gone q t = ap (cell_at (set cells key None)) t ∙ get_or-set_same cells key None None (cell-within cells key c at)

  -- A native came to stand at a key.
  pub known-inserted : (new : List (Option Placed)) (key : ℕ) (d : Placed) → cell_at cells key ≡ None → cell_at new key ≡ Some d →
      ((q : ℕ) → q ≢ key → cell_at new q ≡ cell_at cells q) → ((q : ℕ) (c : Placed) → cell_at cells q ≡ Some c → c.number ≢ d.number) →
      scripts_of d ≡ 0 → length d.slots ≤ most_slots → (j : Holders) →
      ((n : ℕ) → entry_at j n ≡ (if d.number == n then Known 0 key else entry_at h n)) → AreKnown new j
  known-inserted new key d vacant placed others fresh none few j entries = record {
    known = λ q e f. ⊎_elim
        (λ t. let is : Some d ≡ Some e = sym (ap (cell_at new) t.1 ∙ placed) ∙ f in let there : d ≡ e = cc in
        subst (λ (y : Placed). entry_at j y.number ≡ Known (scripts_of y) q) there
        (entries d.number ∙ (chosen d.number _ _ ∙ (ap (λ n. Known n key) (sym none) ∙ ap (λ m. Known (scripts_of d) m) (sym t.1)))))
        (λ o. let old : cell_at cells q ≡ Some e = sym (others q o.1) ∙ f in
        entries e.number ∙ ⊎_elim
        (λ t. absurd (fresh q e old (sym t.1)))
        (λ s. rw s.0 (k.known q e old))
        (eqb_tells d.number e.number))
        (eqb_tells q key);
    there = λ n count p e. ⊎_elim
        (λ t. let is : Known 0 key ≡ Known count p = sym (entries n ∙ rw t.0 refl) ∙ e in let at_key : key ≡ p = cc in (d, ap (cell_at new) (sym at_key) ∙ placed, t.1))
        (λ o. let old : entry_at h n ≡ Known count p = sym (entries n ∙ rw o.0 refl) ∙ e in
        let f = k.there n count p old in
        (f.0, others p (λ s. let is : None ≡ Some f.0 = sym (ap (cell_at cells) s ∙ vacant) ∙ f.1 in absurd (cc)) ∙ f.1, f.2))
        (eqb_tells d.number n);
    few = λ q e f. ⊎_elim
        (λ t. let is : Some d ≡ Some e = sym (ap (cell_at new) t.1 ∙ placed) ∙ f in let there : d ≡ e = cc in subst (λ (y : Placed). length y.slots ≤ most_slots) there few)
        (λ o. k.few q e (sym (others q o.1) ∙ f))
        (eqb_tells q key);
  }

  -- THE NEXT that refers to a script object is the first that is marked.
  key-known : (q : ℕ) (c : Placed) → cell_at cells q ≡ Some c → key_at h c.number ≡ (if nat_lt 0 (scripts_of c) then Some q else None)
  key-known q c at = ap key_of (k.known q c at)

  pub next-placed : (after : Option ℕ) (n key : ℕ) → IsFirst (key_at h) (behind after) n key → IsNextPlaced cells after key
  next-placed after n key f = record {
    cell = at.0;
    there = at.1;
    above = rw at.2 (from-above after n f.from);
    refers = refers;
    least = λ q c there above some. ⊎_elim
        (λ less. let none : None ≡ Some q = sym (f.before c.number (above-from after c.number above) (omega (arith, less, at.2))) ∙ (key-known q c there ∙ rw (lt-ltb 0 (scripts_of c) some) refl) in absurd (cc))
        (λ more. more)
        (cases_lt c.number at.0.number);
  }
    where
      marked : (e : Entry) → key_of e ≡ Some key → (count : ℕ) × ((e ≡ Known count key) × (0 < count))
      marked Unknown g = absurd (cc)
      marked (Known count q) g = go (nat_lt 0 count) refl g
        where
          go : (b : Bool) → nat_lt 0 count ≡ b → (if b then Some q else None) ≡ Some key → (m : ℕ) × ((Known count q ≡ Known m key) × (0 < m))
          go true s g = let same : q ≡ key = cc in (count, (ap (Known count) same, ltb-true 0 count s))
          go false s g = absurd (cc)

      found : (count : ℕ) × ((entry_at h n ≡ Known count key) × (0 < count))
      found = marked (entry_at h n) f.there

      at : (c : Placed) × (cell_at cells key ≡ Some c) × (c.number ≡ n)
      at = k.there n found.0 key found.1.0

      refers : 0 < scripts_of at.0
      refers = let is : Known (scripts_of at.0) key ≡ Known found.0 key = sym (k.known key at.0 at.1) ∙ (ap (entry_at h) at.2 ∙ found.1.0) in
          let same : scripts_of at.0 ≡ found.0 = cc in let some = found.1.1 in omega (arith, same, some)

      from-above : (o : Option ℕ) (m : ℕ) → behind o ≤ m → is_above o m ≡ true
      from-above None m l = refl
      from-above (Some j) m l = lt-ltb j m (omega (arith, l))

      above-from : (o : Option ℕ) (m : ℕ) → is_above o m ≡ true → behind o ≤ m
      above-from None m e = omega arith
      above-from (Some j) m e = let l = ltb-true j m e in omega (arith, l)

  pub none-placed : (after : Option ℕ) → ((n : ℕ) → behind after ≤ n → key_at h n ≡ None) → HasNonePlaced cells after
  none-placed after none q c at above = go (nat_lt 0 (scripts_of c)) refl (sym (key-known q c at) ∙ none c.number (above-from after c.number above))
    where
      above-from : (o : Option ℕ) (m : ℕ) → is_above o m ≡ true → behind o ≤ m
      above-from None m e = omega arith
      above-from (Some j) m e = let l = ltb-true j m e in omega (arith, l)

      go : (b : Bool) → nat_lt 0 (scripts_of c) ≡ b → (if b then Some q else None) ≡ None → scripts_of c ≡ 0
      go true s e = absurd (cc)
      go false s e = let l = ltb-false 0 (scripts_of c) s in omega (arith, l)

-- no natives are known by a table that knows nothing
pub known-none : (h : Holders) → ((n : ℕ) → entry_at h n ≡ Unknown) → AreKnown [] h
known-none h unknown = record {
  known = λ key c at. absurd (cc);
  there = λ n count key e. let is : Unknown ≡ Known count key = sym (unknown n) ∙ e in absurd (cc);
  few = λ key c at. absurd (cc);
}

-- empty slots hold none
pub scripts-empty : (slots : ℕ) → count_by is_script (replicate slots None) ≡ 0
scripts-empty zero = refl
scripts-empty (suc n) = sum_by-cons _ None (replicate n None) ∙ (let more = scripts-empty n in omega (arith, more))

-- a slot that is written
pub scripts-written : (c : Placed) (i : ℕ) (x old : Option Held) → i < length c.slots → old ≡ get_or c.slots i None →
    scripts_of (with_slot i x c) + one_if (is_script old) ≡ scripts_of c + one_if (is_script x)
scripts-written c i x old within is = let e = counted is_script c.slots i x None within in rw is (omega (arith, e))

-- a reflector that is, or is not, preserved
pub scripts-reflected : (c d : Placed) → d.slots ≡ c.slots → scripts_of d + one_if (refers_by_reflector c) ≡ scripts_of c + one_if (refers_by_reflector d)
scripts-reflected c d same = let e = ap (count_by is_script) same in omega (arith, e)

-- BY WHAT IS SHOWN

module _ (k : Counts) where
  name-script : (x : Option Held) → is_to_script (name_of k x) ≡ is_script x
  name-script None = refl
  name-script (Some (held.Native key)) = go (number_at k key.0)
    where
      go : (o : Option ℕ) → is_to_script (option_map Rattle.cc_names.specs.Names.native o) ≡ false
      go None = refl
      go (Some n) = refl
  name-script (Some (held.Script key)) = refl

  any-script : (xs : List (Option Held)) (o : Option Name) → list_any is_to_script (map (name_of k) xs ++ o ∷ []) ≡ nat_lt 0 (count_by is_script xs + one_if (is_to_script o))
  any-script [] o = go (is_to_script o)
    where
      go : (b : Bool) → (b || false) ≡ nat_lt 0 (0 + one_if b)
      go true = refl
      go false = refl
  any-script (x ∷ xs) o = rw (name-script x, sum_by-cons (λ y. if is_script y then 1 else 0) x xs) (go (is_script x) (any-script xs o))
    where
      go : (b : Bool) → list_any is_to_script (map (name_of k) xs ++ o ∷ []) ≡ nat_lt 0 (count_by is_script xs + one_if (is_to_script o)) →
          (b || list_any is_to_script (map (name_of k) xs ++ o ∷ [])) ≡ nat_lt 0 ((if b then 1 else 0) + count_by is_script xs + one_if (is_to_script o))
      go true e = sym (lt-ltb 0 _ (omega arith))
      go false e = e ∙ ap (nat_lt 0) (omega arith)

reflector-script : (p : Bool) (r : Option ℕ) → is_to_script (preserved_reflector p r) ≡ (p && is_some r)
reflector-script false r = refl
reflector-script true None = refl
reflector-script true (Some k) = refl

module _ (l : Lists) (p : IsPlaced l) where
  refers-cell : (key : ℕ) (c : Placed) → cell_at l.cells key ≡ Some c → refers_to_script (counts_of l) key ≡ nat_lt 0 (scripts_of c)
  refers-cell key c at =
      ap (list_any is_to_script) (λ i. slots_of-cell l p key c at i ++ preserved_reflector (preserved_of-cell l p key c at i) (reflector_at-cell l p key c at i) ∷ [])
      ∙ (any-script (keyed l.cells) c.slots (preserved_reflector c.preserved c.reflector)
      ∙ ap (λ b. nat_lt 0 (count_by is_script c.slots + one_if b)) (reflector-script c.preserved c.reflector))

  pub next-shown : (after : Option ℕ) (key : ℕ) → IsNextPlaced l.cells after key → IsNextHolder (counts_of l) after key
  next-shown after key n = record {
    number = n.cell.number;
    there = number_at-cell l.cells key n.cell n.there;
    above = n.above;
    refers = refers-cell key n.cell n.there ∙ lt-ltb 0 (scripts_of n.cell) n.refers;
    least = λ q j at above some.
        let f = number_at-found l.cells q j at in
        subst (λ m. n.cell.number ≤ m) f.2
        (n.least q f.0 f.1 (ap (is_above after) f.2 ∙ above) (ltb-true 0 (scripts_of f.0) (sym (refers-cell q f.0 f.1) ∙ some)));
  }

  pub none-shown : (after : Option ℕ) → HasNonePlaced l.cells after → HasNoHolder (counts_of l) after
  none-shown after none q j at above =
      let f = number_at-found l.cells q j at in
      refers-cell q f.0 f.1 ∙ ap (nat_lt 0) (none q f.0 f.1 (ap (is_above after) f.2 ∙ above))

  pub next-shown-key : (o : Option NKey) (after above : Option ℕ) → after ≡ above → IfSome o (λ k. IsNextPlaced l.cells after k.0) → IfSome o (λ k. IsNextHolder (counts_of l) above k.0)
  next-shown-key None after above same h = tt
  next-shown-key (Some k) after above same h = subst (λ a. IsNextHolder (counts_of l) a k.0) same (next-shown after k.0 h)

  pub none-shown-key : (o : Option NKey) (after above : Option ℕ) → after ≡ above → IfNone o (HasNonePlaced l.cells after) → IfNone o (HasNoHolder (counts_of l) above)
  none-shown-key None after above same h = subst (λ a. HasNoHolder (counts_of l) a) same (none-shown after h)
  none-shown-key (Some k) after above same h = tt

-- a native that is made has a number above all
pub fresh-above : (l : Lists) → IsPlaced l → (m : ℕ) → ((n : HeapNative) → Among n (counts_of l).natives → n.number < m) → (key : ℕ) (c : Placed) → cell_at l.cells key ≡ Some c → c.number ≢ m
fresh-above l p m above key c at same =
    let less = above (shown_at l.cells key) (Among-map (shown_at l.cells) key l.order (p.ordered key c at)) in
    let number = shown-number l.cells key ∙ the_number-cell l.cells key c at in
    omega (arith, less, number, same)
