-- A buffer that is filled from the front, one part after the other.
use Rattle.std.proofs.Common.{◌≡◌, ℕ, ◌+◌, ◌-◌, ◌≤◌, ◌<◌, List, [], ◌++◌, length, min, take, drop, ap, sym, ◌∙◌, arith, append_assoc, append-nil, length-drop}
use Rattle.std.proofs.Math.Seq.{take-add}
use Rattle.std.proofs.lemmas.List.{drop-drop, drop_all, drop_at, length-take-le, take_all, take_at}
use borrow.Rule.Slice.PartMut.{put_mid}

-- the first g elements are filled, and m more go into the rest of the buffer
pub filled-more : (left old buf part : List ℕ) (g m : ℕ) → g ≤ length left → buf ≡ take g left ++ drop g old →
    part ≡ take m (drop g left) ++ drop m (take (length buf - g) (drop g buf)) →
    put_mid g (length buf - g) buf part ≡ take (g + m) left ++ drop (g + m) old
filled-more left old buf part g m within is more =
    let front : take g buf ≡ take g left = ap (take g) is ∙ take_at (take g left) (drop g old) g (length-take-le g left within) in
    let back : drop g buf ≡ drop g old = ap (drop g) is ∙ drop_at (take g left) (drop g old) g (length-take-le g left within) in
    let room : take (length buf - g) (drop g buf) ≡ drop g buf = take_all (length buf - g) (drop g buf) (omega (arith, length-drop g buf)) in
    let none : drop (length buf - g) (drop g buf) ≡ [] = drop_all (length buf - g) (drop g buf) (omega (arith, length-drop g buf)) in
    ap (λ l. l ++ (part ++ drop (length buf - g) (drop g buf))) front
    ∙ ap (λ l. take g left ++ (part ++ l)) none
    ∙ ap (λ l. take g left ++ l) (append-nil part ∙ more ∙ ap (λ l. take m (drop g left) ++ drop m l) (room ∙ back)
    ∙ ap (λ l. take m (drop g left) ++ l) (drop-drop m g old))
    ∙ sym (append_assoc (take g left) (take m (drop g left)) (drop (g + m) old))
    ∙ ap (λ l. l ++ drop (g + m) old) (sym (take-add g m left))

-- where nothing more was there, all was given
pub all-given : (left rest : List ℕ) (g n m : ℕ) → g ≤ length left → g < n → m ≡ 0 → rest ≡ drop m (drop g left) → rest ≡ [] → g ≡ min n (length left)
all-given left rest g n m within room nothing is none =
    let long : length (drop m (drop g left)) ≡ 0 = ap length (sym is ∙ none) in
    omega (arith, long, length-drop m (drop g left), length-drop g left)
