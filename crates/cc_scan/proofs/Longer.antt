-- The list of black nodes becomes longer: what stands on it keeps its place.
use Rattle.std.specs.Prelude.{slice_get}
use Rattle.std.proofs.Common.{◌≡◌, ℕ, zero, suc, ◌+◌, ◌≤◌, ◌==◌, ◌&&◌, Bool, true, false, List, [], ◌∷◌, ◌++◌, length, take, Some, refl, sym, ◌∙◌, ap, subst, arith, add-one}
use Rattle.std.proofs.lemmas.List.{append_assoc, append-nil, length-append}
use Rattle.cc_lists.specs.Members.{Among, has, with_all_last}
use Rattle.cc_lists.proofs.Members.{Among-left}
use Rattle.cc_graph.specs.Shown.{Hyperedge, with_black}
use Rattle.cc_scan.specs.Steps.{is_met, with_value, with_values}

-- a list with more behind it
pub record IsLonger (xs zs : List ℕ) : Type 0 where
  pub more : List ℕ
  pub whole : zs ≡ xs ++ more

pub longer-refl : (xs : List ℕ) → IsLonger xs xs
longer-refl xs = record { more = []; whole = sym (append-nil xs) }

pub longer-trans : (xs ys zs : List ℕ) → IsLonger xs ys → IsLonger ys zs → IsLonger xs zs
longer-trans xs ys zs h k = record { more = h.more ++ k.more; whole = k.whole ∙ (ap (λ l. l ++ k.more) h.whole ∙ append_assoc xs h.more k.more) }

-- what was there stays,
pub longer-stays : (xs zs : List ℕ) → IsLonger xs zs → (k : ℕ) → Among k xs → Among k zs
longer-stays xs zs h k m = subst (Among k) (sym h.whole) (Among-left k xs h.more m)

pub longer-length : (xs zs : List ℕ) → IsLonger xs zs → length xs ≤ length zs
longer-length xs zs h = omega (arith, ap length h.whole, length-append xs h.more)

-- and of the longer list one more is taken than of the first as far as a place
taken : (xs more : List ℕ) (place x : ℕ) → slice_get xs place ≡ Some x → take (suc place) (xs ++ more) ≡ take place xs ++ x ∷ []
taken [] more place x e = absurd (cc)
taken (y ∷ ys) more zero x e = let same : y ≡ x = cc in ap (λ z. z ∷ []) same
taken (y ∷ ys) more (suc place) x e = ap (λ l. y ∷ l) (taken ys more place x e)

pub longer-taken : (xs zs : List ℕ) → IsLonger xs zs → (place x : ℕ) → slice_get xs place ≡ Some x → take (place + 1) zs ≡ take place xs ++ x ∷ []
longer-taken xs zs h place x e = ap (take (place + 1)) h.whole ∙ (ap (λ n. take n (xs ++ h.more)) (add-one place) ∙ taken xs h.more place x e)

-- A node becomes black, or several do

pub longer-black : (blacks : List ℕ) (n : ℕ) → IsLonger blacks (with_black blacks n)
longer-black blacks n = go (has ◌==◌ blacks n)
  where
    go : (b : Bool) → IsLonger blacks (elim b [ true ↦ blacks | false ↦ blacks ++ n ∷ [] ])
    go true = longer-refl blacks
    go false = record { more = n ∷ []; whole = refl }

pub longer-all : (blacks ns : List ℕ) → IsLonger blacks (with_all_last ◌==◌ blacks ns)
longer-all blacks [] = longer-refl blacks
longer-all blacks (n ∷ ns) = longer-trans blacks (with_black blacks n) (with_all_last ◌==◌ (with_black blacks n) ns) (longer-black blacks n) (longer-all (with_black blacks n) ns)

pub longer-value : (blacks : List ℕ) (m : Hyperedge) → IsLonger blacks (with_value blacks m)
longer-value blacks m = go (is_met blacks m.the_map && is_met blacks m.key)
  where
    go : (b : Bool) → IsLonger blacks (elim b [ true ↦ with_black blacks m.value | false ↦ blacks ])
    go true = longer-black blacks m.value
    go false = longer-refl blacks

pub longer-values : (blacks : List ℕ) (ms : List Hyperedge) → IsLonger blacks (with_values blacks ms)
longer-values blacks [] = longer-refl blacks
longer-values blacks (m ∷ ms) = longer-trans blacks (with_value blacks m) (with_values (with_value blacks m) ms) (longer-value blacks m) (longer-values (with_value blacks m) ms)
