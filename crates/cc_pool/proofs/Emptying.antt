-- Blocks that are emptied, and those that stay.
use Rattle.std.proofs.Common.{◌≡◌, ℕ, ◌+◌, ◌-◌, ◌*◌, ◌/◌, ◌%◌, ◌<◌, ◌≤◌, zero, suc, List, [], ◌∷◌, ◌++◌, length, get_or, set, take, refl, sym, ◌∙◌, ap, subst, arith, ⊎_elim}
use Rattle.std.specs.Prelude.{min, Vec, vec_capacity}
use Rattle.std.specs.Int.{div_ceil}
use Rattle.std.proofs.Math.Nat.{mul-suc, mul-div_cancel_left, lt_of_mul-lt-mul_left}
use Rattle.std.proofs.Math.Seq.{take-nil}
use Rattle.std.proofs.lemmas.List.{length-set, length-take-le, get_or-take, get_or-set_same, get_or-set_other}
use Rattle.std.proofs.lemmas.Bool.Decides.{eqb_tells}
use Rattle.cc_pool.specs.Pooled.{Pooled}
use Rattle.cc_pool.specs.Blocks.{joined, AreBlocks, IsPooled, AreEmptied, AreEmptiedTo}
use Rattle.cc_pool.proofs.Filling.{blocks-fit, blocks-none, block-room}
use Rattle.cc_pool.proofs.Places.{pooled}

-- none yet
pub emptied-none : {X Z : Type 0} (bs : List (Vec X Z)) → AreEmptiedTo 0 bs bs
emptied-none bs = record { as_many = refl; empty = λ k d below inside. absurd (omega (arith, below)); room = λ k d inside. refl }

-- one more
pub emptied-more : {X Z : Type 0} (i : ℕ) (bs cs : List (Vec X Z)) (b y : Vec X Z) → AreEmptiedTo i bs cs → i < length cs → b ≡ get_or cs i b → y.items ≡ [] →
    vec_capacity y ≡ vec_capacity b → AreEmptiedTo (i + 1) bs (set cs i y)
emptied-more i bs cs b y w inside here empty room = record {
  as_many = length-set cs i y ∙ w.as_many;
  empty = λ k d below within. ⊎_elim
      (λ t. ap (λ z. z.items) (ap (λ j. get_or (set cs i y) j d) t.1 ∙ get_or-set_same cs i y d inside) ∙ empty)
      (λ f. ap (λ z. z.items) (get_or-set_other cs i k y d f.1) ∙ w.empty k d (omega (arith, below, f.1)) within)
      (eqb_tells k i);
  room = λ k d within. ⊎_elim
      (λ t. ap vec_capacity (ap (λ j. get_or (set cs i y) j d) t.1 ∙ get_or-set_same cs i y d inside) ∙ (room ∙ (ap vec_capacity (here ∙ default cs i b d inside) ∙ (ap (λ j. vec_capacity (get_or cs j d)) (sym t.1) ∙ w.room k d within))))
      (λ f. ap vec_capacity (get_or-set_other cs i k y d f.1) ∙ w.room k d within)
      (eqb_tells k i);
}
  where
    -- an element that is there is the same by any default
    default : {X : Type 0} (xs : List X) (i : ℕ) (d e : X) → i < length xs → get_or xs i d ≡ get_or xs i e
    default [] i d e l = absurd (omega (arith, l))
    default (x ∷ xs) zero d e l = refl
    default (x ∷ xs) (suc i) d e l = default xs i d e (omega (arith, l))

-- in empty blocks of a size nothing stands, and there is room for as many times the size as there are
blocks-empty : {X Z : Type 0} (size : ℕ) (cs : List (Vec X Z)) → ((k : ℕ) (d : Vec X Z) → k < length cs → (get_or cs k d).items ≡ []) →
    ((k : ℕ) (d : Vec X Z) → k < length cs → vec_capacity (get_or cs k d) ≡ size) → AreBlocks size 0 (size * length cs) cs
blocks-empty size [] empty room = (refl, omega arith)
blocks-empty size (b ∷ cs) empty room =
    let all : size * suc (length cs) ≡ size * length cs + size = mul-suc size (length cs) in
    let none : length b.items ≡ 0 = ap length (empty zero b (omega arith)) in
    let rest : size * length cs ≡ size * suc (length cs) - size = omega (arith, all) in (
      record { values = omega (arith, none); room = room zero b (omega arith) },
      (
        omega (arith, all),
        subst (λ z. AreBlocks size z (size * suc (length cs) - size) cs) (omega arith) (subst (λ z. AreBlocks size 0 z cs) rest
            (blocks-empty size cs (λ k d l. empty (suc k) d (omega (arith, l))) (λ k d l. room (suc k) d (omega (arith, l))))),
      ),
    )

-- there is room for as many times the size as there are blocks
pub blocks-room : {X Z : Type 0} (size n c : ℕ) (bs : List (Vec X Z)) → AreBlocks size n c bs → c ≡ size * length bs
blocks-room size n c [] h = omega (arith, h.1)
blocks-room size n c (b ∷ bs) h =
    let rest : c - size ≡ size * length bs = blocks-room size (n - size) (c - size) bs h.1.1 in
    omega (arith, rest, h.1.0, mul-suc size (length bs))

-- a number of blocks that is enough for so many values, and no more than is needed
pub ceil-enough : (n size : ℕ) → 0 < size → n ≤ size * div_ceil n size
ceil-enough n size positive = go (n % size) refl
  where
    go : (r : ℕ) → n % size ≡ r → n ≤ size * (n / size + min 1 r)
    go zero e = let split : size * (n / size) + n % size ≡ n = omega arith in omega (arith, split, e)
    go (suc r) e =
        let split : size * (n / size) + n % size ≡ n = omega arith in
        let one : n % size < size = omega (arith, positive) in
        let once : min 1 (suc r) ≡ 1 = omega arith in
        let step : size * (n / size + min 1 (suc r)) ≡ size * (n / size) + size = ap (λ z. size * (n / size + z)) once ∙ omega arith in
        omega (arith, split, one, step)

pub ceil-least : (n size : ℕ) → 0 < size → size * div_ceil n size < n + size
ceil-least n size positive = go (n % size) refl
  where
    go : (r : ℕ) → n % size ≡ r → size * (n / size + min 1 r) < n + size
    go zero e = let split : size * (n / size) + n % size ≡ n = omega arith in omega (arith, split, e, positive)
    go (suc r) e =
        let split : size * (n / size) + n % size ≡ n = omega arith in
        let once : min 1 (suc r) ≡ 1 = omega arith in
        let step : size * (n / size + min 1 (suc r)) ≡ size * (n / size) + size = ap (λ z. size * (n / size + z)) once ∙ omega arith in
        omega (arith, split, e, step)

-- so many are there
ceil-inside : {X Z : Type 0} (size n c : ℕ) (bs : List (Vec X Z)) → 0 < size → AreBlocks size n c bs → div_ceil n size ≤ length bs
ceil-inside size n c bs positive h =
    let fits : n ≤ c = blocks-fit size n c bs h in
    let least : size * div_ceil n size < n + size = ceil-least n size positive in
    let next : size * suc (length bs) ≡ size * length bs + size = mul-suc size (length bs) in
    let room : c ≡ size * length bs = blocks-room size n c bs h in
    let below : div_ceil n size < suc (length bs) = lt_of_mul-lt-mul_left size (omega (arith, fits, least, next, room)) in
    omega (arith, below)

-- and have room for no more than all
pub ceil-fits : {X Z : Type 0} (size n c : ℕ) (bs : List (Vec X Z)) → 0 < size → AreBlocks size n c bs → size * div_ceil n size ≤ c
ceil-fits size n c bs positive h = go (length bs - div_ceil n size) (omega (arith, ceil-inside size n c bs positive h)) (blocks-room size n c bs h)
  where
    go : (more : ℕ) → length bs ≡ div_ceil n size + more → c ≡ size * length bs → size * div_ceil n size ≤ c
    go more e room =
        let all : size * (div_ceil n size + more) ≡ size * div_ceil n size + size * more = omega arith in
        let same : size * length bs ≡ size * (div_ceil n size + more) = ap (λ z. size * z) e in
        omega (arith, room, all, same)

-- the blocks in which values stood, emptied
pub pooled-emptied : {X Z : Type 0} (size n c : ℕ) (bs cs : List (Vec X Z)) → IsPooled size n c bs → AreEmptied (take (div_ceil n size) bs) cs →
    IsPooled size 0 (size * div_ceil n size) cs
pooled-emptied size n c bs cs w e =
    let inside : div_ceil n size ≤ length bs = ceil-inside size n c bs w.positive w.blocks in
    let kept : length (take (div_ceil n size) bs) ≡ div_ceil n size = length-take-le (div_ceil n size) bs inside in
    let many : length cs ≡ div_ceil n size = e.as_many ∙ kept in
    let fits : size * div_ceil n size ≤ c = ceil-fits size n c bs w.positive w.blocks in
    record {
      positive = w.positive;
      blocks = subst (λ z. AreBlocks size 0 (size * z) cs) many (blocks-empty size cs
          (λ k d l. let below : k < length (take (div_ceil n size) bs) = omega (arith, l, e.as_many) in e.empty k d below below)
          (λ k d l.
          let below : k < div_ceil n size = omega (arith, l, many) in
          e.room k d (omega (arith, l, e.as_many)) ∙ (ap vec_capacity (get_or-take (div_ceil n size) bs k d below) ∙ block-room size n c k d bs w.blocks (omega (arith, below, inside)))));
      small = omega (arith, fits, w.small);
    }

-- THE FIRST BLOCKS, in which all values stand

pub blocks-taken : {X Z : Type 0} (size n c k : ℕ) (bs : List (Vec X Z)) → AreBlocks size n c bs → n ≤ size * k → size * k ≤ c → AreBlocks size n (size * k) (take k bs)
blocks-taken size n c k [] h enough within = subst (λ cs. AreBlocks size n (size * k) cs) (sym (take-nil k)) (h.0, omega (arith, h.1, within))
blocks-taken size n c zero (b ∷ bs) h enough within = let none : size * zero ≡ 0 = omega arith in (omega (arith, enough, none), none)
blocks-taken size n c (suc k) (b ∷ bs) h enough within =
    let step : size * suc k ≡ size * k + size = mul-suc size k in
    let less : size * k ≡ size * suc k - size = omega (arith, step) in (
      h.0,
      (
        omega (arith, step),
        subst (λ z. AreBlocks size (n - size) z (take k bs)) less
            (blocks-taken size (n - size) (c - size) k bs h.1.1 (omega (arith, step, enough)) (omega (arith, step, within))),
      ),
    )

pub joined-taken : {X Z : Type 0} (size n c k : ℕ) (bs : List (Vec X Z)) → AreBlocks size n c bs → n ≤ size * k → joined (take k bs) ≡ joined bs
joined-taken size n c k [] h enough = ap joined (take-nil k)
joined-taken size n c zero (b ∷ bs) h enough =
    let none : n ≡ 0 = let zeros : size * zero ≡ 0 = omega arith in omega (arith, enough, zeros) in
    sym (blocks-none size c (b ∷ bs) (subst (λ z. AreBlocks size z c (b ∷ bs)) none h))
joined-taken size n c (suc k) (b ∷ bs) h enough =
    let step : size * suc k ≡ size * k + size = mul-suc size k in
    ap (λ z. b.items ++ z) (joined-taken size (n - size) (c - size) k bs h.1.1 (omega (arith, step, enough)))

-- the block of a place that is a number of whole blocks
pub whole-blocks : (size c k : ℕ) → 0 < size → c ≡ size * k → c / size ≡ k
whole-blocks size c k positive e = ap (λ z. z / size) e ∙ mul-div_cancel_left k positive

pub pooled-taken : {X Z : Type 0} (size n c d k : ℕ) (bs : List (Vec X Z)) → IsPooled size n c bs → d ≡ size * k → n ≤ d → d ≤ c → IsPooled size n d (take (d / size) bs)
pooled-taken size n c d k bs w e enough within =
    subst (λ z. IsPooled size n d (take z bs)) (sym (whole-blocks size d k w.positive e))
    (record {
      positive = w.positive;
      blocks = subst (λ z. AreBlocks size n z (take k bs)) (sym e) (blocks-taken size n c k bs w.blocks (omega (arith, e, enough)) (omega (arith, e, within)));
      small = omega (arith, w.small, within);
    })

pub shown-taken : {X Z : Type 0} {q : ℕ} (size n c d k : ℕ) (bs : List (Vec X Z)) (p : Pooled X) → IsPooled size n c bs → d ≡ size * k → n ≤ d →
    ◌≡◌ {A = Pooled X} (record { items = joined bs; capacity = c; places = q }) p →
    ◌≡◌ {A = Pooled X} (record { items = joined (take (d / size) bs); capacity = d; places = q }) (record p { capacity = d })
shown-taken {X} {q = q} size n c d k bs p w e enough shown =
    pooled _ _ d q (ap (λ z. joined (take z bs)) (whole-blocks size d k w.positive e) ∙ joined-taken size n c k bs w.blocks (omega (arith, e, enough)))
    ∙ ap {A = Pooled X} {B = Pooled X} (λ r. record r { capacity = d }) shown
