-- LISTS OF ENTRIES: what stands in them after an entry was set, that a map and a key have one, and the value that is found.
use Rattle.std.proofs.Common.{◌≡◌, ℕ, ◌+◌, ◌≤◌, Bool, true, false, cond, List, [], ◌∷◌, Option, Some, refl, sym, ◌∙◌, ap, subst, inl, ◌⊎◌, ⊎_elim, arith, count_by}
use Rattle.std.proofs.lemmas.Bool.{and_from, true≢false, cases_Bool}
use Rattle.cc_lists.specs.Members.{Among}
use Rattle.cc_lists.proofs.Counting.{count_by-cons, count_by-some}
use Rattle.cc_names.specs.declared.name.Name.{Name}
use Rattle.cc_names.specs.Names.{same_name}
use Rattle.cc_names.proofs.NameTests.{same_name-true, same_name-refl}
use Rattle.cc_model.specs.Entries.{Entry, entry, is_entry_of, value_in, with_entry}

-- The entry of a map and a key

-- it has that map and that key
pub is_entry_of-parts : (m k : Name) (e : Entry) → is_entry_of m k e ≡ true → (e.the_map ≡ m) × (e.key ≡ k)
is_entry_of-parts m k e t = grind (arith, same_name-true)

-- an entry is that of its map and its key
pub is_entry_of-own : (e : Entry) → is_entry_of e.the_map e.key e ≡ true
is_entry_of-own e = and_from (same_name e.the_map e.the_map) (same_name e.key e.key) (same_name-refl e.the_map) (same_name-refl e.key)

-- so is one that has this map and this key
pub is_entry_of-from : (m k : Name) (e : Entry) → e.the_map ≡ m → e.key ≡ k → is_entry_of m k e ≡ true
is_entry_of-from m k e a b = subst (λ x. is_entry_of x k e ≡ true) a (subst (λ y. is_entry_of e.the_map y e ≡ true) b (is_entry_of-own e))

-- entries of one map and one key are told alike
pub is_entry_of-alike : (a b m k : Name) (e f : Entry) → is_entry_of m k e ≡ true → is_entry_of m k f ≡ true → is_entry_of a b e ≡ is_entry_of a b f
is_entry_of-alike a b m k e f s t = grind (arith, is_entry_of-parts)

-- An entry set

-- there is that entry, and those before
pub with_entry-cases : (es : List Entry) (m k : Name) (its_delegate : Option Name) (v : Name) (e : Entry) → Among e (with_entry es m k its_delegate v) → (entry m k its_delegate v ≡ e) ⊎ Among e es
with_entry-cases [] m k its_delegate v e i = ⊎_elim (λ s. inl s) (λ n. absurd n) i
with_entry-cases (f ∷ es) m k its_delegate v e i = grind (arith, with_entry-cases es m k its_delegate v e)

-- the entries of a map and a key
abbrev pub entries_of : Name → Name → List Entry → ℕ
entries_of a b es = count_by (is_entry_of a b) es

-- any other map and key have as many entries as before
entries_of-other : (es : List Entry) (m k : Name) (its_delegate : Option Name) (v a b : Name) → is_entry_of a b (entry m k its_delegate v) ≡ false → entries_of a b (with_entry es m k its_delegate v) ≡ entries_of a b es
entries_of-other [] m k its_delegate v a b d = rw (count_by-cons (is_entry_of a b) (entry m k its_delegate v) [], d) refl
entries_of-other (e ∷ es) m k its_delegate v a b d = go (entries_of-other es m k its_delegate v a b d) (is_entry_of m k e) refl
  where
    go : entries_of a b (with_entry es m k its_delegate v) ≡ entries_of a b es → (t : Bool) → is_entry_of m k e ≡ t →
        entries_of a b (elim t [ true ↦ entry m k its_delegate v ∷ es | false ↦ e ∷ with_entry es m k its_delegate v ]) ≡ entries_of a b (e ∷ es)
    go ih true t = rw (
      count_by-cons (is_entry_of a b) (entry m k its_delegate v) es,
      count_by-cons (is_entry_of a b) e es,
      is_entry_of-alike a b m k (entry m k its_delegate v) e (is_entry_of-own (entry m k its_delegate v)) t,
    ) refl
    go ih false t = rw (count_by-cons (is_entry_of a b) e (with_entry es m k its_delegate v), count_by-cons (is_entry_of a b) e es, ih) refl

-- and its own map and key have at most one
entries_of-own : (es : List Entry) (m k : Name) (its_delegate : Option Name) (v : Name) → entries_of m k es ≤ 1 → entries_of m k (with_entry es m k its_delegate v) ≤ 1
entries_of-own [] m k its_delegate v few = rw (count_by-cons (is_entry_of m k) (entry m k its_delegate v) [], is_entry_of-own (entry m k its_delegate v)) (omega arith)
entries_of-own (e ∷ es) m k its_delegate v few = grind (arith, count_by-cons, is_entry_of-own, entries_of-own es m k its_delegate v)

-- so each map and key have at most one
pub entries_of-set : (es : List Entry) (m k : Name) (its_delegate : Option Name) (v : Name) → ((a b : Name) → entries_of a b es ≤ 1) → (a b : Name) → entries_of a b (with_entry es m k its_delegate v) ≤ 1
entries_of-set es m k its_delegate v once a b = ⊎_elim
    (λ s. let p = is_entry_of-parts a b (entry m k its_delegate v) s in rw (sym p.0, sym p.1) (entries_of-own es m k its_delegate v (once m k)))
    (λ d. omega (arith, entries_of-other es m k its_delegate v a b d, once a b))
    (cases_Bool (is_entry_of a b (entry m k its_delegate v)))

-- The value that is found

-- it is that of an entry of this map and this key
pub found-among : (es : List Entry) (m k y : Name) → value_in es m k ≡ Some y → (e : Entry) × Among e es × (e.the_map ≡ m) × (e.key ≡ k) × (e.value ≡ y)
found-among [] m k y f = absurd (cc)
found-among (e ∷ es) m k y f = grind (arith, is_entry_of-parts, found-among es m k y)

-- where a map and a key have at most one entry, its value is found
pub found-only : (es : List Entry) (e : Entry) → entries_of e.the_map e.key es ≤ 1 → Among e es → value_in es e.the_map e.key ≡ Some e.value
found-only [] e few i = absurd i
found-only (d ∷ es) e few i = go (found-only es e) (is_entry_of e.the_map e.key d) refl
  where
    before : entries_of e.the_map e.key (d ∷ es) ≡ cond (is_entry_of e.the_map e.key d) 1 0 + entries_of e.the_map e.key es
    before = count_by-cons (is_entry_of e.the_map e.key) d es

    go : (entries_of e.the_map e.key es ≤ 1 → Among e es → value_in es e.the_map e.key ≡ Some e.value) → (t : Bool) → is_entry_of e.the_map e.key d ≡ t →
        elim t [ true ↦ Some d.value | false ↦ value_in es e.the_map e.key ] ≡ Some e.value
    go ih true t =
        let here : entries_of e.the_map e.key (d ∷ es) ≡ 1 + entries_of e.the_map e.key es = before ∙ ap (λ b. cond b 1 0 + entries_of e.the_map e.key es) t in
        ⊎_elim (λ s. ap (λ (f : Entry). Some f.value) s)
        (λ r. absurd (omega (arith, count_by-some (is_entry_of e.the_map e.key) e es r (is_entry_of-own e)))) i
    go ih false t =
        let here : entries_of e.the_map e.key (d ∷ es) ≡ 0 + entries_of e.the_map e.key es = before ∙ ap (λ b. cond b 1 0 + entries_of e.the_map e.key es) t in
        ⊎_elim (λ s. absurd (true≢false (sym (ap (is_entry_of e.the_map e.key) s ∙ is_entry_of-own e) ∙ t))) (λ r. ih (omega arith) r) i
