-- NUMBERS OF 32 BITS: what is known of them stands in their pages.
use Rattle.std.proofs.Common.{◌≡◌, ◌≢◌, ℕ, ◌<◌, ◌==◌, Bool, true, false, nat_lt, if◌then◌else◌, None, refl, sym, ◌∙◌, ap, ⊎_elim, arith}
use Rattle.std.proofs.lemmas.Bool.{lt-ltb, ltb-true}
use Rattle.std.proofs.lemmas.Bool.Decides.{eqb_tells}
use Rattle.cc_holders.specs.declared.entry.Entry.{Entry}
use Rattle.cc_holders.specs.declared.entry.Entry.TheVariants.{Unknown}
use Rattle.cc_holders.specs.declared.holders.Holders.{Holders}
use Rattle.cc_holders.specs.Entries.{IsFirst, in_groups, key_of}
use Rattle.cc_holders.specs.Known.{entry_at, key_at}

entry-by : (h : Holders) (n : ℕ) (b : Bool) → nat_lt n 4294967296 ≡ b → entry_at h n ≡ elim b [ true ↦ in_groups h.groups.items n | false ↦ Unknown ]
unfolding entry_at
entry-by h n b e = ap (λ t. elim t [ true ↦ in_groups h.groups.items n | false ↦ Unknown ]) e

pub entry-within : (h : Holders) (n : ℕ) → n < 4294967296 → entry_at h n ≡ in_groups h.groups.items n
entry-within h n small = entry-by h n true (lt-ltb n 4294967296 small)

-- of what nothing is known in the pages nothing is known
pub entry-none : (h : Holders) (n : ℕ) → (n < 4294967296 → in_groups h.groups.items n ≡ Unknown) → entry_at h n ≡ Unknown
entry-none h n none = go (nat_lt n 4294967296) refl
  where
    go : (b : Bool) → nat_lt n 4294967296 ≡ b → entry_at h n ≡ Unknown
    go true e = entry-by h n true e ∙ none (ltb-true n 4294967296 e)
    go false e = entry-by h n false e

pub key-none : (h : Holders) (n : ℕ) → (n < 4294967296 → key_of (in_groups h.groups.items n) ≡ None) → key_at h n ≡ None
key-none h n none = go (nat_lt n 4294967296) refl
  where
    go : (b : Bool) → nat_lt n 4294967296 ≡ b → key_at h n ≡ None
    go true e = ap key_of (entry-by h n true e) ∙ none (ltb-true n 4294967296 e)
    go false e = ap key_of (entry-by h n false e)

-- tables whose pages say the same
pub entries-same : (h k : Holders) (n : ℕ) → in_groups k.groups.items n ≡ in_groups h.groups.items n → entry_at k n ≡ entry_at h n
entries-same h k n same = go (nat_lt n 4294967296) refl
  where
    go : (b : Bool) → nat_lt n 4294967296 ≡ b → entry_at k n ≡ entry_at h n
    go true e = entry-by k n true e ∙ (same ∙ sym (entry-by h n true e))
    go false e = entry-by k n false e ∙ sym (entry-by h n false e)

-- and where something else is known of one number
pub entries-changed : (h k : Holders) (m : ℕ) (x : Entry) → m < 4294967296 → in_groups k.groups.items m ≡ x →
    ((n : ℕ) → n ≢ m → in_groups k.groups.items n ≡ in_groups h.groups.items n) → (n : ℕ) → entry_at k n ≡ (if m == n then x else entry_at h n)
entries-changed h k m x small here others n = ⊎_elim
    (λ t. ap (entry_at k) (sym t.1) ∙ (entry-within k m small ∙ (here ∙ sym (rw t.0 refl))))
    (λ f. let other : n ≢ m = λ e. f.1 (sym e) in entries-same h k n (others n other) ∙ sym (rw f.0 refl))
    (eqb_tells m n)

-- what is known already
pub entries-kept : (h : Holders) (m : ℕ) (x : Entry) → entry_at h m ≡ x → (n : ℕ) → entry_at h n ≡ (if m == n then x else entry_at h n)
entries-kept h m x here n = ⊎_elim
    (λ t. ap (entry_at h) (sym t.1) ∙ (here ∙ sym (rw t.0 refl)))
    (λ f. sym (rw f.0 refl))
    (eqb_tells m n)

-- the first in the pages is the first
pub first-within : (h : Holders) (start n key : ℕ) → n < 4294967296 → IsFirst (λ j. key_of (in_groups h.groups.items j)) start n key → IsFirst (key_at h) start n key
first-within h start n key small f = record {
  from = f.from;
  there = ap key_of (entry-within h n small) ∙ f.there;
  before = λ j from until. let below : j < 4294967296 = omega arith in ap key_of (entry-within h j below) ∙ f.before j from until;
}
