-- Entries by keys are read and changed as those by names.
use Rattle.std.proofs.Common.{◌≡◌, ℕ, zero, suc, ◌<◌, ◌==◌, Bool, true, false, not, cond, ◌&&◌, ◌||◌, List, [], ◌∷◌, length, Option, Some, None, refl, sym, ap, ◌∙◌, subst, inl, inr, ◌⊎◌, ⊎_elim}
use Rattle.std.specs.Prelude.{slice_get, option_map, IfSome, OnOk, OnErr, Result, Ok, Err}
use Rattle.cc_names.specs.declared.number.SKey.{SKey}
use Rattle.std.proofs.lemmas.Bool.{cases_Bool, true≢false}
use Rattle.std.proofs.lemmas.List.{length-map}
use Rattle.std.proofs.lemmas.Option.{slice_get-map}
use Rattle.cc_lists.specs.Members.{Among}
use Rattle.cc_lists.proofs.Members.{Among-filtered}
use Rattle.cc_names.specs.declared.name.Name.{Name}
use Rattle.cc_names.specs.Names.{same_name}
use Rattle.cc_names.proofs.NameTests.{same_name-true}
use Rattle.cc_model.specs.Entries as named
use Rattle.cc_model.specs.Derivations.{is_member, is_delegate}
use Rattle.cc_weakmaps.specs.Entries as keyed
use Rattle.cc_weakmaps.specs.Entries.{KeyedEntry}
use Rattle.cc_weakmaps.specs.Index as index
use Rattle.cc_object_graph.specs.Keys.{object_of, named_entry, named_entries}
use Rattle.cc_object_graph.specs.Keyed.{HasKey, IsKeyed, AreKeyed, keys}
use Rattle.cc_search.specs.Members.{IsPlaceOf, place_below}
use Rattle.cc_object_graph.proofs.KeysOfNames.{same_name-object_of}

-- READING

pub is_entry_of-named : (m k : ℕ) (e : KeyedEntry) → named.is_entry_of (object_of m) (object_of k) (named_entry e) ≡ keyed.is_entry_of m k e
is_entry_of-named m k e = ap (λ b. b && same_name (object_of e.key) (object_of k)) (same_name-object_of e.the_map m)
    ∙ ap (λ b. (e.the_map == m) && b) (same_name-object_of e.key k)

pub value_in-named : (es : List KeyedEntry) (m k : ℕ) → named.value_in (named_entries es) (object_of m) (object_of k) ≡ option_map object_of (keyed.value_in es m k)
value_in-named [] m k = refl
value_in-named (e ∷ es) m k =
    ap (λ b. elim b [ true ↦ Some (object_of e.value) | false ↦ named.value_in (named_entries es) (object_of m) (object_of k) ]) (is_entry_of-named m k e)
    ∙ go (value_in-named es m k) (keyed.is_entry_of m k e)
  where
    go : named.value_in (named_entries es) (object_of m) (object_of k) ≡ option_map object_of (keyed.value_in es m k) → (b : Bool) →
        elim b [ true ↦ Some (object_of e.value) | false ↦ named.value_in (named_entries es) (object_of m) (object_of k) ]
        ≡ option_map object_of (elim b [ true ↦ Some e.value | false ↦ keyed.value_in es m k ])
    go ih true = refl
    go ih false = ih

is_delegate-named : (k : ℕ) (d : Option ℕ) → is_delegate (option_map object_of d) (object_of k) ≡ index.is_it k d
is_delegate-named k None = refl
is_delegate-named k (Some d) = same_name-object_of d k

pub is_member-named : (k : ℕ) (e : KeyedEntry) → is_member (object_of k) (named_entry e) ≡ index.has_object k e
is_member-named k e =
    ap (λ b. (b || same_name (object_of e.key) (object_of k)) || is_delegate (option_map object_of e.delegate) (object_of k)) (same_name-object_of e.the_map k)
    ∙ ap (λ b. ((e.the_map == k) || b) || is_delegate (option_map object_of e.delegate) (object_of k)) (same_name-object_of e.key k)
    ∙ ap (λ b. ((e.the_map == k) || (e.key == k)) || b) (is_delegate-named k e.delegate)

-- whether an object is a member of the entry at a place
pub member_at-named : (es : List KeyedEntry) (k i : ℕ) →
    option_map (is_member (object_of k)) (slice_get (named_entries es) i) ≡ option_map (index.has_object k) (slice_get es i)
member_at-named es k i = ap (option_map (is_member (object_of k))) (slice_get-map named_entry es i) ∙ go (slice_get es i)
  where
    go : (o : Option KeyedEntry) → option_map (is_member (object_of k)) (option_map named_entry o) ≡ option_map (index.has_object k) o
    go None = refl
    go (Some e) = ap Some (is_member-named k e)

pub place_below-named : (es : List KeyedEntry) (k n : ℕ) → place_below (named_entries es) (object_of k) n ≡ index.place_below es k n
place_below-named es k zero = refl
place_below-named es k (suc n) =
    ap (λ o. elim o [ None ↦ place_below (named_entries es) (object_of k) n | Some b ↦ elim b [ true ↦ Some n | false ↦ place_below (named_entries es) (object_of k) n ] ]) (member_at-named es k n)
    ∙ ap (λ p. elim (option_map (index.has_object k) (slice_get es n)) [ None ↦ p | Some b ↦ elim b [ true ↦ Some n | false ↦ p ] ]) (place_below-named es k n)

-- CHANGING

pub with_entry-named : (es : List KeyedEntry) (m k : ℕ) (d : Option ℕ) (v : ℕ) →
    named_entries (keyed.with_entry es m k d v) ≡ named.with_entry (named_entries es) (object_of m) (object_of k) (option_map object_of d) (object_of v)
with_entry-named [] m k d v = refl
with_entry-named (e ∷ es) m k d v =
    go (with_entry-named es m k d v) (keyed.is_entry_of m k e)
    ∙ sym (ap (λ b. elim b [ true ↦ set ∷ named_entries es | false ↦ named_entry e ∷ rest ]) (is_entry_of-named m k e))
  where
    set : named.Entry
    set = named.entry (object_of m) (object_of k) (option_map object_of d) (object_of v)

    rest : List named.Entry
    rest = named.with_entry (named_entries es) (object_of m) (object_of k) (option_map object_of d) (object_of v)

    go : named_entries (keyed.with_entry es m k d v) ≡ rest → (b : Bool) →
        named_entries (elim b [ true ↦ keyed.entry m k d v ∷ es | false ↦ e ∷ keyed.with_entry es m k d v ])
        ≡ elim b [ true ↦ set ∷ named_entries es | false ↦ named_entry e ∷ rest ]
    go ih true = refl
    go ih false = ap (λ xs. named_entry e ∷ xs) ih

pub without_entry-named : (es : List KeyedEntry) (m k : ℕ) →
    named_entries (keyed.without_entry es m k) ≡ named.without_entry (named_entries es) (object_of m) (object_of k)
without_entry-named [] m k = refl
without_entry-named (e ∷ es) m k =
    go (without_entry-named es m k) (keyed.is_entry_of m k e)
    ∙ sym (ap (λ b. cond (not b) (named_entry e ∷ rest) rest) (is_entry_of-named m k e))
  where
    rest : List named.Entry
    rest = named.without_entry (named_entries es) (object_of m) (object_of k)

    go : named_entries (keyed.without_entry es m k) ≡ rest → (b : Bool) →
        named_entries (cond (not b) (e ∷ keyed.without_entry es m k) (keyed.without_entry es m k)) ≡ cond (not b) (named_entry e ∷ rest) rest
    go ih true = ih
    go ih false = ap (λ xs. named_entry e ∷ xs) ih

-- WHAT HAS NO KEY is in no entry

not_it : (x : Name) → ¬ (HasKey x) → (k : ℕ) → k < keys → same_name (object_of k) x ≡ false
not_it x n k l = ⊎_elim (λ t. absurd (n (k, l, same_name-true (object_of k) x t))) (λ f. f) (cases_Bool (same_name (object_of k) x))

not_its : (x : Name) → ¬ (HasKey x) → (d : Option ℕ) → IfSome d (λ k. k < keys) → is_delegate (option_map object_of d) x ≡ false
not_its x n None l = refl
not_its x n (Some d) l = not_it x n d l

no_member : (x : Name) → ¬ (HasKey x) → (e : KeyedEntry) → IsKeyed e → is_member x (named_entry e) ≡ false
no_member x n e k = rw (not_it x n e.the_map k.the_map, not_it x n e.key k.key, not_its x n e.delegate k.delegate) refl

module _ (m k : Name) (none : ¬ (HasKey m) ⊎ (¬ (HasKey k))) where
  no_entry : (e : KeyedEntry) → IsKeyed e → named.is_entry_of m k (named_entry e) ≡ false
  no_entry e h = ⊎_elim
      (λ n. ap (λ b. b && same_name (object_of e.key) k) (not_it m n e.the_map h.the_map))
      (λ n. ap (λ b. same_name (object_of e.the_map) m && b) (not_it k n e.key h.key) ∙ and_false (same_name (object_of e.the_map) m))
      none
    where
      and_false : (b : Bool) → (b && false) ≡ false
      and_false true = refl
      and_false false = refl

  pub value_in-keyless : (es : List KeyedEntry) → AreKeyed es → named.value_in (named_entries es) m k ≡ None
  value_in-keyless [] h = refl
  value_in-keyless (e ∷ es) h =
      ap (λ b. elim b [ true ↦ Some (object_of e.value) | false ↦ named.value_in (named_entries es) m k ]) (no_entry e (h e (inl refl)))
      ∙ value_in-keyless es (λ f i. h f (inr i))

slice_get-among : {X : Type 0} (xs : List X) (i : ℕ) (x : X) → slice_get xs i ≡ Some x → Among x xs
slice_get-among [] i x e = absurd (cc)
slice_get-among (y ∷ ys) zero x e = inl (cc)
slice_get-among (y ∷ ys) (suc i) x e = inr (slice_get-among ys i x e)

module _ (x : Name) (none : ¬ (HasKey x)) (es : List KeyedEntry) (h : AreKeyed es) where
  keyless_at : (i : ℕ) (o : Option KeyedEntry) → slice_get es i ≡ o → IfSome (option_map (is_member x) (option_map named_entry o)) (λ b. b ≡ false)
  keyless_at i None e = tt
  keyless_at i (Some f) e = no_member x none f (h f (slice_get-among es i f e))

  pub place_below-keyless : (n : ℕ) → place_below (named_entries es) x n ≡ None
  place_below-keyless zero = refl
  place_below-keyless (suc n) =
      ap (λ o. elim (option_map (is_member x) o) [ None ↦ place_below (named_entries es) x n | Some b ↦ elim b [ true ↦ Some n | false ↦ place_below (named_entries es) x n ] ]) (slice_get-map named_entry es n)
      ∙ go (place_below-keyless n) (option_map (is_member x) (option_map named_entry (slice_get es n))) (keyless_at n (slice_get es n) refl)
    where
      go : place_below (named_entries es) x n ≡ None → (o : Option Bool) → IfSome o (λ b. b ≡ false) →
          ◌≡◌ {A = Option ℕ} (elim o [ None ↦ place_below (named_entries es) x n | Some b ↦ elim b [ true ↦ Some n | false ↦ place_below (named_entries es) x n ] ]) None
      go ih None f = ih
      go ih (Some true) f = absurd (true≢false f)
      go ih (Some false) f = ih

-- KEYS ARE KEPT

with_entry-cases : (es : List KeyedEntry) (m k : ℕ) (d : Option ℕ) (v : ℕ) (e : KeyedEntry) → Among e (keyed.with_entry es m k d v) → (keyed.entry m k d v ≡ e) ⊎ Among e es
with_entry-cases [] m k d v e i = ⊎_elim (λ s. inl s) (λ n. absurd n) i
with_entry-cases (f ∷ es) m k d v e i = go (with_entry-cases es m k d v e) (keyed.is_entry_of m k f) i
  where
    go : (Among e (keyed.with_entry es m k d v) → (keyed.entry m k d v ≡ e) ⊎ Among e es) → (b : Bool) →
        Among e (elim b [ true ↦ keyed.entry m k d v ∷ es | false ↦ f ∷ keyed.with_entry es m k d v ]) → (keyed.entry m k d v ≡ e) ⊎ Among e (f ∷ es)
    go ih true j = ⊎_elim (λ s. inl s) (λ t. inr (inr t)) j
    go ih false j = ⊎_elim (λ s. inr (inl s)) (λ t. ⊎_elim (λ s. inl s) (λ u. inr (inr u)) (ih t)) j

pub AreKeyed-set : (es : List KeyedEntry) (m k : ℕ) (d : Option ℕ) (v : ℕ) → m < keys → k < keys → IfSome d (λ i. i < keys) → AreKeyed es → AreKeyed (keyed.with_entry es m k d v)
AreKeyed-set es m k d v a b c h e i = ⊎_elim
    (λ s. let made : IsKeyed (keyed.entry m k d v) = record { the_map = a; key = b; delegate = c } in subst IsKeyed s made)
    (λ t. h e t)
    (with_entry-cases es m k d v e i)

pub AreKeyed-unset : (es : List KeyedEntry) (m k : ℕ) → AreKeyed es → AreKeyed (keyed.without_entry es m k)
AreKeyed-unset es m k h e i = h e (Among-filtered (λ f. not (keyed.is_entry_of m k f)) e es i)

pub AreKeyed-same : (es fs : List KeyedEntry) → fs ≡ es → AreKeyed es → AreKeyed fs
AreKeyed-same es fs s h e i = h e (subst (Among e) s i)

-- A CALL'S OUTCOME by names

pub set_by_names : (es fs : List KeyedEntry) (old : List named.Entry) (m k : ℕ) (d : Option ℕ) (v : ℕ) (a b : Name) (c : Option Name) (x : Name) →
    named_entries es ≡ old → object_of m ≡ a → object_of k ≡ b → option_map object_of d ≡ c → object_of v ≡ x →
    fs ≡ keyed.with_entry es m k d v → named_entries fs ≡ named.with_entry old a b c x
set_by_names es fs old m k d v a b c x s p q r t e =
    let from : named_entries (keyed.with_entry es m k d v) ≡ named.with_entry (named_entries es) (object_of m) (object_of k) (option_map object_of d) (object_of v) = with_entry-named es m k d v in
    ap named_entries e ∙ from ∙ cc

pub unset_by_names : (es fs : List KeyedEntry) (old : List named.Entry) (m k : ℕ) (a b : Name) →
    named_entries es ≡ old → object_of m ≡ a → object_of k ≡ b → fs ≡ keyed.without_entry es m k → named_entries fs ≡ named.without_entry old a b
unset_by_names es fs old m k a b s p q e =
    ap named_entries e ∙ without_entry-named es m k ∙ subst (λ y. named.without_entry (named_entries es) (object_of m) (object_of k) ≡ named.without_entry old y b) p
    (subst (λ y. named.without_entry (named_entries es) (object_of m) (object_of k) ≡ named.without_entry old (object_of m) y) q
    (ap (λ l. named.without_entry l (object_of m) (object_of k)) s))

-- by keys as the code has them
pub keys_fit : (o : Option SKey) → IfSome o (λ k. k.0 < keys) → IfSome (option_map (λ k. k.0) o) (λ k. k < keys)
keys_fit None h = tt
keys_fit (Some k) h = h

pub named_keys : (o : Option SKey) → option_map object_of (option_map (λ k. k.0) o) ≡ option_map (λ k. object_of k.0) o
named_keys None = refl
named_keys (Some k) = refl

pub AreKeyed-after : {T E : Type 0} (r : Result T E) (es fs new : List KeyedEntry) → OnOk r (new ≡ fs) → OnErr r (new ≡ es) → AreKeyed es → AreKeyed fs → AreKeyed new
AreKeyed-after (Ok x) es fs new e f h k = AreKeyed-same fs new e k
AreKeyed-after (Err x) es fs new e f h k = AreKeyed-same es new f h

pub value_by_names : (es : List KeyedEntry) (old : List named.Entry) (m k : SKey) (a b : Name) (r : Option SKey) → named_entries es ≡ old → object_of m.0 ≡ a → object_of k.0 ≡ b →
    option_map (λ v. v.0) r ≡ keyed.value_in es m.0 k.0 → option_map (λ v. object_of v.0) r ≡ named.value_in old a b
value_by_names es old m k a b r s p q e =
    let from : named.value_in (named_entries es) (object_of m.0) (object_of k.0) ≡ option_map object_of (keyed.value_in es m.0 k.0) = value_in-named es m.0 k.0 in
    let of : option_map object_of (option_map (λ v. v.0) r) ≡ option_map object_of (keyed.value_in es m.0 k.0) = ap (option_map object_of) e in
    let same : option_map object_of (option_map (λ v. v.0) r) ≡ option_map (λ v. object_of v.0) r = named_keys r in
    cc

pub no_value_by_names : (es : List KeyedEntry) (old : List named.Entry) (a b : Name) → named_entries es ≡ old → AreKeyed es → ¬ (HasKey a) ⊎ (¬ (HasKey b)) → None ≡ named.value_in old a b
no_value_by_names es old a b s h n = sym (value_in-keyless a b n es h) ∙ ap (λ l. named.value_in l a b) s

pub place_by_names : (es : List KeyedEntry) (old : List named.Entry) (k n : ℕ) (x : Name) → named_entries es ≡ old → object_of k ≡ x → index.place_below es k n ≡ place_below old x n
place_by_names es old k n x s e = sym (place_below-named es k n) ∙ ap (λ l. place_below l (object_of k) n) s ∙ ap (λ y. place_below old y n) e

pub no_place_by_names : (es : List KeyedEntry) (old : List named.Entry) (n : ℕ) (x : Name) → named_entries es ≡ old → AreKeyed es → ¬ (HasKey x) → None ≡ place_below old x n
no_place_by_names es old n x s h none = sym (place_below-keyless x none es h n) ∙ ap (λ l. place_below l x n) s

pub is_place_by_names : (es : List KeyedEntry) (old : List named.Entry) (k i : ℕ) (x : Name) → named_entries es ≡ old → object_of k ≡ x → index.IsPlaceOf es k i → IsPlaceOf old x i
is_place_by_names es old k i x s e h = subst (λ l. IsPlaceOf l x i) s (subst (λ y. IsPlaceOf (named_entries es) y i) e (member_at-named es k i ∙ h))

pub is_place_by_keys : (es : List KeyedEntry) (old : List named.Entry) (k i : ℕ) (x : Name) → named_entries es ≡ old → object_of k ≡ x → IsPlaceOf old x i → index.IsPlaceOf es k i
is_place_by_keys es old k i x s e h = sym (member_at-named es k i) ∙ subst (λ y. IsPlaceOf (named_entries es) y i) (sym e) (subst (λ l. IsPlaceOf l x i) (sym s) h)

pub are_places_by_names : (es : List KeyedEntry) (old : List named.Entry) (k : ℕ) (x : Name) (o : Option ℕ) → named_entries es ≡ old → object_of k ≡ x →
    IfSome o (index.IsPlaceOf es k) → IfSome o (IsPlaceOf old x)
are_places_by_names es old k x None s e h = tt
are_places_by_names es old k x (Some i) s e h = is_place_by_names es old k i x s e h

pub length_by_names : (es : List KeyedEntry) (old : List named.Entry) → named_entries es ≡ old → length es ≡ length old
length_by_names es old s = sym (length-map es named_entry) ∙ ap length s

pub set_by_names-after : {T E : Type 0} (r : Result T E) (es fs : List KeyedEntry) (old : List named.Entry) (m k : ℕ) (d : Option ℕ) (v : ℕ) (a b : Name) (c : Option Name) (x : Name) →
    named_entries es ≡ old → object_of m ≡ a → object_of k ≡ b → option_map object_of d ≡ c → object_of v ≡ x →
    OnOk r (fs ≡ keyed.with_entry es m k d v) → OnOk r (named_entries fs ≡ named.with_entry old a b c x)
set_by_names-after (Ok t) es fs old m k d v a b c x s p q r u e = set_by_names es fs old m k d v a b c x s p q r u e
set_by_names-after (Err t) es fs old m k d v a b c x s p q r u e = tt
