-- ENTRIES SET AND TAKEN OUT ALIKE in heaps and in the graph that they follow.
use Rattle.std.proofs.Common.{◌≡◌, ◌+◌, ◌≤◌, Bool, true, false, cond, ◌&&◌, List, [], ◌∷◌, Option, Some, None, refl, sym, ◌∙◌, ap, subst, inl, inr, ◌⊎◌, ⊎_elim, arith}
use Rattle.std.specs.List.{filter}
use Rattle.std.proofs.lemmas.Bool.{true≢false}
use Rattle.cc_lists.specs.Members.{Among}
use Rattle.cc_lists.proofs.Counting.{count_by-cons, count_by-some}
use Rattle.cc_names.specs.declared.name.Name.{Name}
use Rattle.cc_names.specs.declared.name.Name.TheVariants as name
use Rattle.cc_names.specs.Names.{same_name}
use Rattle.cc_model.specs.Entries.{Entry, entry, is_entry_of, value_in, with_entry, without_entry}
use Rattle.cc_model.specs.Graph.{Graph}
use Rattle.cc_model.specs.Heap.{Heap}
use Rattle.cc_model.specs.StandsFor.{shape_in, ArePart}
use Rattle.cc_laws_heap.proofs.EntryLists.{is_entry_of-alike, is_entry_of-own, is_entry_of-parts, is_entry_of-from, found-among, entries_of}
use Rattle.cc_laws_heap.proofs.GraphParts.{with_entries}
use Rattle.cc_laws_heap.proofs.ReachedAlike.{ArePart-among, ArePart-none, ArePart-skip}
use Rattle.cc_laws_heap.proofs.Following.{AreEntries, Follows}
use Rattle.cc_laws_heap.proofs.Changing.{unchanged, AreObjects-changed, option_map-same}
use Rattle.cc_laws_heap.proofs.SlotsWritten.{IsPreserved}

-- Values

-- whether a map and a key are another map and another key
abbrev is_pair : Name → Name → Name → Name → Bool
is_pair m k a b = same_name m a && same_name k b

-- an entry of a map and a key is told as they are
is_pair-entry : (m k a b : Name) (e : Entry) → is_entry_of m k e ≡ true → is_entry_of a b e ≡ is_pair m k a b
is_pair-entry m k a b e t = is_entry_of-alike a b m k e (entry m k None k) t (is_entry_of-own (entry m k None k))

-- an entry of another map or another key is not of this one
is_pair-other : (m k a b : Name) (e : Entry) → is_entry_of m k e ≡ false → is_pair m k a b ≡ true → is_entry_of a b e ≡ false
is_pair-other m k a b e f p =
    let same = is_entry_of-parts a b (entry m k None k) p in
    rw (sym same.0, sym same.1) f

-- the value after an entry was set
value_in-set : (es : List Entry) (m k : Name) (its_delegate : Option Name) (v a b : Name) → value_in (with_entry es m k its_delegate v) a b ≡ cond (is_pair m k a b) (Some v) (value_in es a b)
value_in-set [] m k its_delegate v a b = grind arith
value_in-set (e ∷ es) m k its_delegate v a b = grind (arith, is_pair-entry, is_pair-other, value_in-set es m k its_delegate v a b)

-- the value after an entry was taken out
value_in-without : (es : List Entry) (m k a b : Name) → value_in (without_entry es m k) a b ≡ cond (is_pair m k a b) None (value_in es a b)
value_in-without [] m k a b = grind arith
value_in-without (e ∷ es) m k a b = grind (arith, is_pair-entry, is_pair-other, value_in-without es m k a b)

-- Parts

-- what passes of a part is part of what passes
ArePart-filter : {X : Type 0} (p : X → Bool) (xs ys : List X) → ArePart xs ys → ArePart (filter p xs) (filter p ys)
ArePart-filter p [] ys a = ArePart-none (filter p ys)
ArePart-filter p (x ∷ xs) [] a = absurd a
ArePart-filter {X} p (x ∷ xs) (y ∷ ys) a = ⊎_elim
    (λ s. subst (λ z. ArePart (cond (p z) (z ∷ filter p xs) (filter p xs)) (cond (p y) (y ∷ filter p ys) (filter p ys))) (sym s.0) (both (p y) (ArePart-filter p xs ys s.1)))
    (λ t. skip (p y) (ArePart-filter p (x ∷ xs) ys t)) a
  where
    both : (b : Bool) → ArePart (filter p xs) (filter p ys) → ArePart (cond b (y ∷ filter p xs) (filter p xs)) (cond b (y ∷ filter p ys) (filter p ys))
    both true i = inl (refl, i)
    both false i = i

    skip : (b : Bool) → ArePart (filter p (x ∷ xs)) (filter p ys) → ArePart (filter p (x ∷ xs)) (cond b (y ∷ filter p ys) (filter p ys))
    skip true i = ArePart-skip (filter p (x ∷ xs)) y (filter p ys) i
    skip false i = i

-- the same entry set in a list and in a part of it that has the same entry of this map and this key, or none
ArePart-set : (m k : Name) (its_delegate : Option Name) (v : Name) (xs ys : List Entry) → ArePart xs ys → value_in xs m k ≡ value_in ys m k → entries_of m k ys ≤ 1 →
    ArePart (with_entry xs m k its_delegate v) (with_entry ys m k its_delegate v)
ArePart-set m k its_delegate v [] [] a e few = inl (refl, tt)
ArePart-set m k its_delegate v [] (y ∷ ys) a e few = go (λ e f. ArePart-set m k its_delegate v [] ys (ArePart-none ys) e f) (is_entry_of m k y) refl e
  where
    go : (value_in [] m k ≡ value_in ys m k → entries_of m k ys ≤ 1 → ArePart (entry m k its_delegate v ∷ []) (with_entry ys m k its_delegate v)) → (t : Bool) → is_entry_of m k y ≡ t →
        value_in [] m k ≡ elim t [ true ↦ Some y.value | false ↦ value_in ys m k ] → ArePart (entry m k its_delegate v ∷ []) (elim t [ true ↦ entry m k its_delegate v ∷ ys | false ↦ y ∷ with_entry ys m k its_delegate v ])
    go ih true t f = absurd (cc)
    go ih false t f = inr (ih f (omega (arith, count_by-cons (is_entry_of m k) y ys)))
ArePart-set m k its_delegate v (x ∷ xs) [] a e few = absurd a
ArePart-set m k its_delegate v (x ∷ xs) (y ∷ ys) a e few = ⊎_elim
    (λ s. subst (λ z. value_in (z ∷ xs) m k ≡ value_in (y ∷ ys) m k → ArePart (with_entry (z ∷ xs) m k its_delegate v) (with_entry (y ∷ ys) m k its_delegate v)) (sym s.0)
    (both (λ f n. ArePart-set m k its_delegate v xs ys s.1 f n) s.1 (is_entry_of m k y) refl) e)
    (λ p. skip (λ f n. ArePart-set m k its_delegate v (x ∷ xs) ys p f n) p (is_entry_of m k y) refl e) a
  where
    before : entries_of m k (y ∷ ys) ≡ cond (is_entry_of m k y) 1 0 + entries_of m k ys
    before = count_by-cons (is_entry_of m k) y ys

    both : (value_in xs m k ≡ value_in ys m k → entries_of m k ys ≤ 1 → ArePart (with_entry xs m k its_delegate v) (with_entry ys m k its_delegate v)) → ArePart xs ys → (t : Bool) → is_entry_of m k y ≡ t →
        elim t as (λ _. Option Name) [ true ↦ Some y.value | false ↦ value_in xs m k ] ≡ elim t [ true ↦ Some y.value | false ↦ value_in ys m k ] →
        ArePart (elim t as (λ _. List Entry) [ true ↦ entry m k its_delegate v ∷ xs | false ↦ y ∷ with_entry xs m k its_delegate v ]) (elim t [ true ↦ entry m k its_delegate v ∷ ys | false ↦ y ∷ with_entry ys m k its_delegate v ])
    both ih p true t f = inl (refl, p)
    both ih p false t f = inl (refl, ih f (omega (arith, before)))

    skip : (value_in (x ∷ xs) m k ≡ value_in ys m k → entries_of m k ys ≤ 1 → ArePart (with_entry (x ∷ xs) m k its_delegate v) (with_entry ys m k its_delegate v)) → ArePart (x ∷ xs) ys →
        (t : Bool) → is_entry_of m k y ≡ t → value_in (x ∷ xs) m k ≡ elim t [ true ↦ Some y.value | false ↦ value_in ys m k ] →
        ArePart (with_entry (x ∷ xs) m k its_delegate v) (elim t [ true ↦ entry m k its_delegate v ∷ ys | false ↦ y ∷ with_entry ys m k its_delegate v ])
    skip ih p true t f =
        let here : entries_of m k (y ∷ ys) ≡ 1 + entries_of m k ys = before ∙ ap (λ b. cond b 1 0 + entries_of m k ys) t in
        let d = found-among (x ∷ xs) m k y.value f in
        let there : Among d.0 ys = ArePart-among (x ∷ xs) ys d.0 p d.1 in
        let is_it : is_entry_of m k d.0 ≡ true = is_entry_of-from m k d.0 d.2 d.3 in
        absurd (omega (arith, count_by-some (is_entry_of m k) d.0 ys there is_it))
    skip ih p false t f = ArePart-skip (with_entry (x ∷ xs) m k its_delegate v) y (with_entry ys m k its_delegate v) (ih f (omega (arith, before)))

-- Entries

-- an entry set in both lists leaves them alike
pub AreEntries-set : (P : Name → Type 0) (es fs : List Entry) (m k : Name) (its_delegate : Option Name) (v : Name) → P m → P k → entries_of m k fs ≤ 1 → AreEntries P es fs →
    AreEntries P (with_entry es m k its_delegate v) (with_entry fs m k its_delegate v)
AreEntries-set P es fs m k its_delegate v p q few a = grind (arith, value_in-set, ArePart-set)

-- and so does one taken out of both
pub AreEntries-without : (P : Name → Type 0) (es fs : List Entry) (m k : Name) → AreEntries P es fs → AreEntries P (without_entry es m k) (without_entry fs m k)
AreEntries-without P es fs m k a = grind (arith, value_in-without, ArePart-filter)

-- ENTRIES CHANGED ALIKE: what they have for values is what `P` holds of, and a key that is new is no reflector that is not preserved.
pub Follows-entries : (P : Name → Type 0) (h : Heap) (g : Graph) (es fs : List Entry) → AreEntries P es fs →
    ((e : Entry) → Among e fs → Among e g.entries ⊎ (P e.value × P e.key × IsPreserved g e.key)) →
    Follows P h g → Follows P (record h { entries = es }) (with_entries g fs)
Follows-entries P h g es fs a new t = record {
  beside = record {
    native_registers = t.beside.native_registers;
    script_registers = t.beside.script_registers;
    limits = t.beside.limits;
    natives_made = t.beside.natives_made;
    scripts_made = t.beside.scripts_made;
  };
  objects = AreObjects-changed P unchanged h (record h { entries = es }) g (with_entries g fs)
      (record { natives = λ n i. (n, i, refl, refl, refl); scripts = λ o i. (o, i, refl, refl) })
      (λ x. same x ∙ option_map-same (shape_in g x)) (λ x. inl (λ s. refl)) t.objects;
  entries = a;
  blank = λ j s r x p y.
      let before = t.blank j s r x p y in (
        before.0,
        λ e i named. ⊎_elim
            (λ old. before.1 e old named)
            (λ c. true≢false (sym (c.2 j s named x) ∙ p))
            (new e i),
        λ z v f. before.2 z v (sym (same z) ∙ f),
      );
  closed = record {
    native_registers = t.closed.native_registers;
    script_registers = t.closed.script_registers;
    edges = λ x y s p q. t.closed.edges x y s p (sym (same x) ∙ q);
    entries = λ e i p q. ⊎_elim (λ old. t.closed.entries e old p q) (λ c. c.0) (new e i);
    keys = λ e d i r p q. ⊎_elim (λ old. t.closed.keys e d old r p q) (λ c. c.1) (new e i);
  };
}
  where
    same : (x : Name) → shape_in (with_entries g fs) x ≡ shape_in g x
    same (name.Native i) = refl
    same _ = refl
