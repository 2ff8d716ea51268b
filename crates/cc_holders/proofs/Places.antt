-- WHAT STANDS AT A PLACE, where an element is written, and where empty ones are added.
use Rattle.std.specs.Prelude.{Result, Ok, Err, OnErr}
use Rattle.std.proofs.Common.{◌≡◌, ◌≢◌, ℕ, zero, suc, ◌/◌, ◌%◌, ◌<◌, ◌==◌, true, false, List, [], ◌∷◌, length, get_or, set, if◌then◌else◌, refl, sym, ◌∙◌, ap, subst, ⊎_elim, arith}
use Rattle.std.proofs.lemmas.Bool.{cases_lt}
use Rattle.std.proofs.lemmas.Bool.Decides.{eqb_tells}
use Rattle.std.proofs.lemmas.List.{get_or-set_same, get_or-set_other}
use Rattle.cc_holders.specs.declared.entry.Entry.{Entry}
use Rattle.cc_holders.specs.declared.entry.Entry.TheVariants.{Unknown}
use Rattle.cc_holders.specs.Entries.{HasRoom, in_group, in_groups, in_page, is_known, page_in}
use Rattle.cc_holders.proofs.Counting.{past}

-- an element that is there, whatever stands for one that is not
pub got-any : {X : Type 0} (xs : List X) (k : ℕ) (d e : X) → k < length xs → get_or xs k d ≡ get_or xs k e
got-any [] k d e inside = absurd (omega (arith, inside))
got-any (x ∷ xs) zero d e inside = refl
got-any (x ∷ xs) (suc k) d e inside = got-any xs k d e (omega (arith, inside))

pub page-written : (es : List Entry) (place i : ℕ) (e : Entry) → place < length es → in_page (set es place e) i ≡ (if place == i then e else in_page es i)
page-written es place i e inside = ⊎_elim
    (λ t. rw t.0 (subst (λ k. get_or (set es place e) k Unknown ≡ e) t.1 (get_or-set_same es place e Unknown inside)))
    (λ f. rw f.0 (get_or-set_other es place i e Unknown (λ s. f.1 (sym s))))
    (eqb_tells place i)

-- In all groups

-- a number is its group, its page and its place
same-number : (n m : ℕ) → n / 32 / 128 ≡ m / 32 / 128 → n / 32 % 128 ≡ m / 32 % 128 → n % 32 ≡ m % 32 → n ≡ m
same-number n m a b c = let page : n / 32 ≡ m / 32 = omega arith in omega arith

pub groups-others : (gs : List (List (List Entry))) (m : ℕ) (d y : List (List Entry)) → m / 32 / 128 < length gs → d ≡ get_or gs (m / 32 / 128) d →
    ((k i : ℕ) → (k ≡ m / 32 % 128 → i ≡ m % 32 → ⊥) → in_group y k i ≡ in_group d k i) →
    (n : ℕ) → n ≢ m → in_groups (set gs (m / 32 / 128) y) n ≡ in_groups gs n
groups-others gs m d y inside here same n other = ⊎_elim
    (λ t. ap (λ g. in_group g (n / 32 % 128) (n % 32)) (ap (λ q. get_or (set gs (m / 32 / 128) y) q []) t.1 ∙ get_or-set_same gs (m / 32 / 128) y [] inside)
    ∙ (same (n / 32 % 128) (n % 32) (λ a b. other (same-number n m t.1 a b))
    ∙ ap (λ g. in_group g (n / 32 % 128) (n % 32)) (here ∙ (got-any gs (m / 32 / 128) d [] inside ∙ ap (λ q. get_or gs q []) (sym t.1)))))
    (λ f. ap (λ g. in_group g (n / 32 % 128) (n % 32)) (get_or-set_other gs (m / 32 / 128) (n / 32 / 128) y [] f.1))
    (eqb_tells (n / 32 / 128) (m / 32 / 128))

-- what is known has room
pub has-room : (gs : List (List (List Entry))) (n : ℕ) → is_known (in_groups gs n) ≡ true → HasRoom gs n
has-room gs n known = record {
  group = ⊎_elim (λ l. l) (λ over. absurd (unknown (ap (λ g. in_group g (n / 32 % 128) (n % 32)) (past gs (n / 32 / 128) [] over)))) (cases_lt (n / 32 / 128) (length gs));
  page = ⊎_elim (λ l. l) (λ over. absurd (unknown (ap (λ es. in_page es (n % 32)) (past (get_or gs (n / 32 / 128) []) (n / 32 % 128) [] over)))) (cases_lt (n / 32 % 128) (length (get_or gs (n / 32 / 128) [])));
  place = ⊎_elim (λ l. l) (λ over. absurd (unknown (past (page_in gs n) (n % 32) Unknown over))) (cases_lt (n % 32) (length (page_in gs n)));
}
  where
    unknown : in_groups gs n ≡ Unknown → ⊥
    unknown e = let f : true ≡ false = sym known ∙ ap is_known e in cc

-- What holds in any case holds where a call fails

pub err-always : {A E P : Type 0} (r : Result A E) → P → OnErr r P
err-always (Ok a) h = tt
err-always (Err e) h = h
