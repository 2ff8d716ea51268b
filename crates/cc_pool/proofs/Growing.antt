-- Blocks that are added, one after another.
use Rattle.std.proofs.Common.{◌≡◌, ⊎_elim, ℕ, ◌+◌, ◌-◌, ◌*◌, ◌/◌, ◌%◌, ◌<◌, ◌≤◌, max, List, [], ◌∷◌, ◌++◌, length, take, refl, sym, ◌∙◌, ap, subst, arith, add-one}
use Rattle.std.specs.Prelude.{Vec, Result, Ok, Err, OnOk, is_err, false}
use Rattle.std.proofs.Math.Nat.{mul-suc, mul-le-mul_left}
use Rattle.std.proofs.lemmas.Bool.{cases_lt}
use Rattle.std.proofs.lemmas.List.{length_push, take-append-le, take_all}
use Rattle.cc_pool.specs.Blocks.{joined, AreBlocks, HasMore, HasOneMore}
use Rattle.cc_pool.proofs.Filling.{blocks-added, joined-added}

-- what a call that went well promises
pub from_ok : {A E : Type 0} (r : Result A E) (P : Type 0) → OnOk r P → is_err r ≡ false → P
from_ok (Ok x) P h e = h
from_ok (Err x) P h e = absurd (cc)

-- none yet
pub more-none : {X Z : Type 0} (size : ℕ) (bs : List (Vec X Z)) → HasMore size 0 bs bs
more-none size bs = record {
  front = take_all (length bs) bs (omega arith);
  longer = omega arith;
  values = refl;
  room = λ n c h. subst (λ z. AreBlocks size n z bs) (omega arith) h;
}

-- one more
pub more-added : {X Z : Type 0} (size count : ℕ) (bs cs ds : List (Vec X Z)) → HasMore size count bs cs → HasOneMore size cs ds → HasMore size (count + 1) bs ds
more-added size count bs cs ds h one = record {
  front = ap (take (length bs)) one.last ∙ (take-append-le (length bs) cs (one.block ∷ []) (omega (arith, h.longer)) ∙ h.front);
  longer = ap length one.last ∙ (length_push cs one.block ∙ omega (arith, h.longer));
  values = ap joined one.last ∙ (joined-added one.block cs one.empty ∙ h.values);
  room = λ n c k.
      let added : AreBlocks size n (c + size * count + size) (cs ++ one.block ∷ []) = blocks-added size n (c + size * count) one.block cs (h.room n c k) one.empty one.room in
      let step : size * (count + 1) ≡ size * count + size = ap (λ z. size * z) (add-one count) ∙ mul-suc size count in
      subst (λ z. AreBlocks size n z ds) (omega (arith, step)) (subst (AreBlocks size n (c + size * count + size)) (sym one.last) added);
}

-- HOW MUCH IS TAKEN

-- so many blocks as are wanted have room for less than a block more than is wanted
pub few-blocks : (size wanted : ℕ) → 0 < size → 0 < wanted → size * ((wanted - 1) / size + 1) < wanted + size
few-blocks size wanted positive some =
    let split : size * ((wanted - 1) / size) + (wanted - 1) % size ≡ wanted - 1 = omega (arith, positive) in
    let step : size * ((wanted - 1) / size + 1) ≡ size * ((wanted - 1) / size) + size = ap (λ z. size * z) (add-one ((wanted - 1) / size)) ∙ mul-suc size ((wanted - 1) / size) in
    omega (arith, split, step, some)

-- and the places that are taken for them are no more than for twice as many
pub few-places : (size old new had count capacity all : ℕ) → new ≤ max old (had + max count had) → capacity ≡ size * had → capacity + size * count < all →
    size * new ≤ max (size * old) (2 * all)
few-places size old new had count capacity all bound room below = ⊎_elim
    (λ (more : old < new).
    let few : new ≤ had + had + (count + count) = omega (arith, bound, more) in
    let fewer : size * new ≤ size * (had + had + (count + count)) = mul-le-mul_left size few in
    let twice : size * (had + had + (count + count)) ≡ size * had + size * had + (size * count + size * count) = omega arith in
    omega (arith, fewer, twice, room, below))
    (λ (less : new ≤ old). let fewer : size * new ≤ size * old = mul-le-mul_left size less in omega (arith, fewer))
    (cases_lt old new)
