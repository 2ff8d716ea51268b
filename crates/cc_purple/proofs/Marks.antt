-- Lists of keys with marks, and their keys alone.
use Rattle.std.proofs.Common.{◌≡◌, ◌≢◌, ℕ, Bool, true, false, not, ◌||◌, List, [], ◌∷◌, ◌++◌, refl, sym, ◌∙◌, ap, subst, if◌then◌else◌}
use Rattle.std.specs.Prelude.{◌==◌}
use Rattle.std.proofs.lemmas.Bool.{true≢false, eqb-true, eqb-false, eq-eqb, ne_eqb}
use Rattle.cc_lists.specs.Members.{Among, has, without, with_last}
use Rattle.cc_lists.proofs.Members.{has-among}
use Rattle.cc_lists.proofs.Numbers.{number-exact}
use Rattle.cc_lists.proofs.Searching.{filter-map}
use Rattle.cc_lists.specs.Walks.{first_of}
use Rattle.cc_chain.specs.Chains.{behind}
use Rattle.cc_purple.specs.Marks.{Marked, marked_as, with_mark, without_key, holds_key, is_purple, first_key, key_after, keys_of}

-- What the keys alone tell

pub holds-has : (ms : List Marked) (key : ℕ) → holds_key ms key ≡ has ◌==◌ (keys_of ms) key
holds-has [] key = refl
holds-has (m ∷ ms) key = go (holds-has ms key) (m.key == key)
  where
    go : holds_key ms key ≡ has ◌==◌ (keys_of ms) key → (b : Bool) → elim b [ true ↦ true | false ↦ holds_key ms key ] ≡ (b || has ◌==◌ (keys_of ms) key)
    go ih true = refl
    go ih false = ih

pub holds-among : (ms : List Marked) (key : ℕ) → holds_key ms key ≡ true → Among key (keys_of ms)
holds-among ms key h = has-among ◌==◌ number-exact (keys_of ms) key (sym (holds-has ms key) ∙ h)

pub first-keys : (ms : List Marked) → first_key ms ≡ first_of (keys_of ms)
first-keys [] = refl
first-keys (m ∷ ms) = refl

pub after-keys : (ms : List Marked) (key : ℕ) → key_after ms key ≡ first_of (behind key (keys_of ms))
after-keys [] key = refl
after-keys (m ∷ ms) key = go (after-keys ms key) (m.key == key)
  where
    go : key_after ms key ≡ first_of (behind key (keys_of ms)) → (b : Bool) →
        elim b [ true ↦ first_key ms | false ↦ key_after ms key ] ≡ first_of (if b then keys_of ms else behind key (keys_of ms))
    go ih true = first-keys ms
    go ih false = ih

-- A mark is put to a key

pub keys-with_mark : (purple : Bool) (key : ℕ) (ms : List Marked) → keys_of (with_mark purple key ms) ≡ with_last ◌==◌ (keys_of ms) key
keys-with_mark purple key [] = refl
keys-with_mark purple key (m ∷ ms) = go (has ◌==◌ (keys_of ms) key) (keys-with_mark purple key ms) (m.key == key)
  where
    go : (h : Bool) → keys_of (with_mark purple key ms) ≡ (elim h [ true ↦ keys_of ms | false ↦ keys_of ms ++ key ∷ [] ]) → (b : Bool) →
        keys_of (elim b [ true ↦ marked_as m.key purple ∷ ms | false ↦ m ∷ with_mark purple key ms ]) ≡
        (elim (b || h) [ true ↦ m.key ∷ keys_of ms | false ↦ (m.key ∷ keys_of ms) ++ key ∷ [] ])
    go h ih true = refl
    go true ih false = ap (λ ks. m.key ∷ ks) ih
    go false ih false = ap (λ ks. m.key ∷ ks) ih

pub purple-with_mark : (purple : Bool) (key : ℕ) (ms : List Marked) (j : ℕ) → is_purple (with_mark purple key ms) j ≡ (if key == j then purple else is_purple ms j)
purple-with_mark purple key [] j = go (key == j)
  where
    go : (b : Bool) → elim b [ true ↦ purple | false ↦ false ] ≡ (if b then purple else false)
    go true = refl
    go false = refl
purple-with_mark purple key (m ∷ ms) j = go (purple-with_mark purple key ms j) (m.key == key) refl
  where
    here : m.key ≡ key → (d : Bool) → (m.key == j) ≡ d → elim d [ true ↦ purple | false ↦ is_purple ms j ] ≡ (if key == j then purple else (elim d [ true ↦ m.purple | false ↦ is_purple ms j ]))
    here same true f = rw (eq-eqb key j (sym same ∙ eqb-true m.key j f)) refl
    here same false f = rw (subst (λ k. (k == j) ≡ false) same f) refl

    later : m.key ≢ key → is_purple (with_mark purple key ms) j ≡ (if key == j then purple else is_purple ms j) → (d : Bool) → (m.key == j) ≡ d →
        elim d [ true ↦ m.purple | false ↦ is_purple (with_mark purple key ms) j ] ≡ (if key == j then purple else (elim d [ true ↦ m.purple | false ↦ is_purple ms j ]))
    later other ih true f = rw (ne_eqb key j (λ s. other (eqb-true m.key j f ∙ sym s))) refl
    later other ih false f = ih

    go : is_purple (with_mark purple key ms) j ≡ (if key == j then purple else is_purple ms j) → (b : Bool) → (m.key == key) ≡ b →
        is_purple (elim b [ true ↦ marked_as m.key purple ∷ ms | false ↦ m ∷ with_mark purple key ms ]) j ≡ (if key == j then purple else is_purple (m ∷ ms) j)
    go ih true e = here (eqb-true m.key key e) (m.key == j) refl
    go ih false e = later (eqb-false m.key key e) ih (m.key == j) refl

pub holds-with_mark : (purple : Bool) (key : ℕ) (ms : List Marked) (j : ℕ) → key ≢ j → holds_key (with_mark purple key ms) j ≡ holds_key ms j
holds-with_mark purple key [] j other = ap (λ b. elim b [ true ↦ true | false ↦ false ]) (ne_eqb key j other)
holds-with_mark purple key (m ∷ ms) j other = go (holds-with_mark purple key ms j other) (m.key == key)
  where
    go : holds_key (with_mark purple key ms) j ≡ holds_key ms j → (b : Bool) →
        holds_key (elim b [ true ↦ marked_as m.key purple ∷ ms | false ↦ m ∷ with_mark purple key ms ]) j ≡ holds_key (m ∷ ms) j
    go ih true = refl
    go ih false = ap (λ h. elim (m.key == j) [ true ↦ true | false ↦ h ]) ih

-- A key leaves

pub keys-without : (key : ℕ) (ms : List Marked) → keys_of (without_key key ms) ≡ without ◌==◌ key (keys_of ms)
keys-without key ms = sym (filter-map (λ k. not (k == key)) (λ (m : Marked). m.key) ms)

pub holds-without : (key : ℕ) (ms : List Marked) (j : ℕ) → key ≢ j → holds_key (without_key key ms) j ≡ holds_key ms j
holds-without key [] j other = refl
holds-without key (m ∷ ms) j other = go (holds-without key ms j other) (m.key == key) refl
  where
    go : holds_key (without_key key ms) j ≡ holds_key ms j → (b : Bool) → (m.key == key) ≡ b →
        holds_key (if not b then m ∷ without_key key ms else without_key key ms) j ≡ holds_key (m ∷ ms) j
    go ih true e = rw (holds_key, ne_eqb m.key j (λ s. other (sym (eqb-true m.key key e) ∙ s))) ih
    go ih false e = ap (λ h. elim (m.key == j) [ true ↦ true | false ↦ h ]) ih

pub purple-without : (key : ℕ) (ms : List Marked) (j : ℕ) → key ≢ j → is_purple (without_key key ms) j ≡ is_purple ms j
purple-without key [] j other = refl
purple-without key (m ∷ ms) j other = go (purple-without key ms j other) (m.key == key) refl
  where
    go : is_purple (without_key key ms) j ≡ is_purple ms j → (b : Bool) → (m.key == key) ≡ b →
        is_purple (if not b then m ∷ without_key key ms else without_key key ms) j ≡ is_purple (m ∷ ms) j
    go ih true e = rw (is_purple, ne_eqb m.key j (λ s. other (sym (eqb-true m.key key e) ∙ s))) ih
    go ih false e = ap (λ h. elim (m.key == j) [ true ↦ m.purple | false ↦ h ]) ih

pub absent-purple : (ms : List Marked) (key : ℕ) → holds_key ms key ≡ false → is_purple ms key ≡ false
absent-purple [] key h = refl
absent-purple (m ∷ ms) key h = go (absent-purple ms key) (m.key == key) h
  where
    go : (holds_key ms key ≡ false → is_purple ms key ≡ false) → (b : Bool) → elim b [ true ↦ true | false ↦ holds_key ms key ] ≡ false → elim b [ true ↦ m.purple | false ↦ is_purple ms key ] ≡ false
    go ih true e = absurd (true≢false e)
    go ih false e = ih e
