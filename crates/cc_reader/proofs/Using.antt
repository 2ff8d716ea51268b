-- Bytes used one by one.
use Rattle.std.proofs.Common.{◌≡◌, ℕ, ◌+◌, ◌-◌, ◌≤◌, false, List, [], ◌∷◌, ◌++◌, length, take, Option, sym, ap, ◌∙◌, append_assoc, append-nil, length-append, arith}
use Rattle.std.proofs.Math.Seq.{take-append-add, take-nil}
use Rattle.std.proofs.lemmas.List.{take_all}
use Rattle.std.specs.Io.KnownBytes.{Keeps}
use Rattle.cc_lists.proofs.KnownBytes.{Consumes-nil, Consumes-trans, Consumes-kept}
use Rattle.cc_reader.specs.Pending.{Pending}
use Rattle.cc_reader.specs.Used.{HasUsed, Uses, Refills}

-- within the limit, the bytes of one list and then of another
take-two : (xs ys : List ℕ) (n : ℕ) → length xs ≤ n → take n (xs ++ ys) ≡ xs ++ take (n - length xs) ys
take-two xs ys n h =
    let e : n ≡ length xs + (n - length xs) = omega arith in
    ap (λ k. take k (xs ++ ys)) e ∙ take-append-add xs ys (n - length xs)

-- where nothing is pending and no more was taken than the limit, all that was taken was used
pub used-all : (start now : Option (List ℕ)) (p : Pending) (used : List ℕ) (h : HasUsed start now p used) → p.bytes ≡ [] → p.taken ≤ p.limit → used ≡ h.given
used-all start now p used h e l =
    let n : length h.given ≤ p.limit = omega (arith, h.counted) in
    sym (append-nil used) ∙ ap (λ bs. used ++ bs) (sym e) ∙ h.parted ∙ take_all p.limit h.given n

-- a read uses nothing
pub Uses-refilled : (before now : Option (List ℕ)) (p q : Pending) → p.bytes ≡ [] → p.taken ≤ p.limit → Refills before now p q → Uses before now p q []
Uses-refilled before now p q e l r = λ start used h.
    let all : used ≡ h.given = used-all start before p used h e l in
    let n : length h.given ≤ p.limit = omega (arith, h.counted) in
    record {
      given = h.given ++ r.given;
      consumed = Consumes-trans start before now h.given r.given h.consumed r.consumed;
      counted = length-append h.given r.given ∙ ap (λ k. k + length r.given) h.counted ∙ sym r.counted;
      most = r.most;
      parted = ap (λ bs. bs ++ q.bytes) (append-nil used ∙ all)
          ∙ ap (λ bs. h.given ++ bs) (r.within ∙ ap (λ k. take (p.limit - k) r.given) (sym h.counted))
          ∙ sym (take-two h.given r.given p.limit n)
          ∙ ap (λ k. take k (h.given ++ r.given)) (sym r.limit);
      at_end = r.at_end;
    }

-- a read that failed
pub Refills-failed : (before now : Option (List ℕ)) (p q : Pending) → Keeps before now → q.taken ≡ p.taken → q.limit ≡ p.limit → q.bytes ≡ [] → q.ended ≡ false →
    p.taken ≤ p.limit → Refills before now p q
Refills-failed before now p q k t l b e m = grind (arith, Consumes-kept, Consumes-nil, take-nil)

-- one byte that was pending is used
pub Uses-byte : (before now : Option (List ℕ)) (o p q : Pending) (b : ℕ) → Uses before now o p [] → p.bytes ≡ b ∷ q.bytes → q ≡ record p { bytes = q.bytes } →
    Uses before now o q (b ∷ [])
Uses-byte before now o p q b u e s = λ start used h.
    let k = u start used h in
    let taken : q.taken ≡ p.taken = cc in
    let limit : q.limit ≡ p.limit = cc in
    let ended : q.ended ≡ p.ended = cc in
    record {
      given = k.given;
      consumed = k.consumed;
      counted = k.counted ∙ sym taken;
      most = omega (arith, k.most);
      parted = append_assoc used (b ∷ []) q.bytes ∙ ap (λ bs. used ++ bs) (sym e) ∙ ap (λ bs. bs ++ p.bytes) (sym (append-nil used)) ∙ k.parted ∙ ap (λ n. take n k.given) (sym limit);
      at_end = λ x. let d = k.at_end (sym ended ∙ x) in (d.0, omega (arith, d.1));
    }
