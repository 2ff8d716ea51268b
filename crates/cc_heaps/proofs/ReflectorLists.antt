-- THE REFLECTORS AT SOME KEYS, read one by one: a list that has at each key the reflector of the native there is that of these.
use Rattle.std.proofs.Common.{◌≡◌, ◌≢◌, ℕ, zero, suc, ◌<◌, List, [], ◌∷◌, length, get_or, set, Option, Some, None, sym, ◌∙◌, subst, ⊎_elim, arith}
use Rattle.std.proofs.Math.ListN.{get_or-map}
use Rattle.std.proofs.lemmas.Bool.Decides.{eqb_tells}
use Rattle.std.proofs.lemmas.List.{ext_get_or, get_or-set_same, get_or-set_other, length-map, length-set}
use Rattle.std.specs.Option.{option_and_then}
use Rattle.cc_script.specs.Objects.{Object}
use Rattle.cc_heaps.specs.Keyed.{reflector_key, reflectors_by}

-- what reads as something is not past the end
pub within-read : (keys : List (Option ℕ)) (q k : ℕ) → get_or keys q None ≡ Some k → q < length keys
within-read [] q k e = absurd (cc)
within-read (x ∷ xs) zero k e = omega arith
within-read (x ∷ xs) (suc q) k e = omega (arith, within-read xs q k e)

-- the key of the reflector of the native at a key
abbrev pub reflector_of : List Object → List (Option ℕ) → ℕ → Option ℕ
reflector_of objects keys q = option_and_then (reflector_key objects) (get_or keys q None)

pub reflectors-are : (objects : List Object) (keys rs : List (Option ℕ)) → length rs ≡ length keys → ((q : ℕ) → get_or rs q None ≡ reflector_of objects keys q) →
    rs ≡ reflectors_by objects keys
reflectors-are objects keys rs as_many read = ext_get_or None rs (reflectors_by objects keys) (as_many ∙ sym (length-map keys (λ o. option_and_then (reflector_key objects) o)))
    (λ q within. read q ∙ sym (get_or-map (λ o. option_and_then (reflector_key objects) o) keys q None))

-- one written, where other script objects give the other natives what they had
pub reflectors-set : (objects others : List Object) (keys : List (Option ℕ)) (key : ℕ) (r : Option ℕ) → key < length keys → reflector_of others keys key ≡ r →
    ((q : ℕ) → q ≢ key → reflector_of objects keys q ≡ reflector_of others keys q) → set (reflectors_by objects keys) key r ≡ reflectors_by others keys
reflectors-set objects others keys key r within own kept = reflectors-are others keys (set its key r) (length-set its key r ∙ many)
    (λ q. ⊎_elim (λ t. subst (λ j. get_or (set its key r) j None ≡ reflector_of others keys j) (sym t.1) here) (λ t. there q t.1) (eqb_tells q key))
  where
    its : List (Option ℕ)
    its = reflectors_by objects keys

    many : length its ≡ length keys
    many = length-map keys (λ o. option_and_then (reflector_key objects) o)

    here : get_or (set its key r) key None ≡ reflector_of others keys key
    here = get_or-set_same its key r None (subst (λ n. key < n) (sym many) within) ∙ sym own

    there : (q : ℕ) → q ≢ key → get_or (set its key r) q None ≡ reflector_of others keys q
    there q other = get_or-set_other its key q r None other ∙ (get_or-map (λ o. option_and_then (reflector_key objects) o) keys q None ∙ kept q other)
