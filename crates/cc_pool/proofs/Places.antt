-- The values of a pool by place: each stands in the block that a division gives, at what is left.
use Rattle.std.proofs.Common.{◌≡◌, ℕ, ◌+◌, ◌*◌, ◌/◌, ◌%◌, ◌<◌, ◌≤◌, List, [], ◌∷◌, ◌++◌, length, get_or, set, refl, sym, ◌∙◌, ap, subst, arith}
use Rattle.std.specs.Prelude.{Vec, vec_len, vec_capacity}
use Rattle.std.proofs.lemmas.List.{length-set, length_push}
use Rattle.cc_pool.specs.Pooled.{Pooled}
use Rattle.cc_pool.specs.Blocks.{joined, IsPooled}
use Rattle.cc_pool.proofs.Filling.{length-joined, blocks-fit, block-inside, block-room, place-inside, place-next, joined-at, blocks-written, joined-written, blocks-pushed, joined-pushed}

-- a place is its block and what is left
split : (size i : ℕ) → 0 < size → size * (i / size) + i % size ≡ i
split size i positive = omega arith

below : (size i : ℕ) → 0 < size → i % size < size
below size i positive = omega arith

-- pools with the same values
pub pooled : {X : Type 0} (xs ys : List X) (c q : ℕ) → xs ≡ ys → ◌≡◌ {A = Pooled X} (record { items = xs; capacity = c; places = q }) (record { items = ys; capacity = c; places = q })
pooled xs ys c q e = rw e refl

-- how many there are
pub counted : {X Z : Type 0} {q : ℕ} (size n c : ℕ) (bs : List (Vec X Z)) (p : Pooled X) → IsPooled size n c bs →
    ◌≡◌ {A = Pooled X} (record { items = joined bs; capacity = c; places = q }) p → n ≡ length p.items
counted size n c bs p w shown = sym (length-joined size n c bs w.blocks) ∙ ap (λ q. length q.items) shown

-- a place for which there is room has its block
pub block-there : {X Z : Type 0} (size n c i : ℕ) (bs : Vec (Vec X Z) Z) → IsPooled size n c bs.items → i < c → i / size < vec_len bs
block-there size n c i bs w l =
    let inside : i / size < length bs.items = block-inside size n c i (i / size) (i % size) bs.items w.blocks (split size i w.positive) l in
    omega (arith, inside, bs.ok.0)

-- a value's place is in its block
pub place-there : {X Z : Type 0} (size n c i : ℕ) (bs : List (Vec X Z)) (d : Vec X Z) → IsPooled size n c bs → i < n → d ≡ get_or bs (i / size) d →
    i % size < vec_len d
place-there size n c i bs d w l here =
    let inside : i % size < length (get_or bs (i / size) d).items =
    place-inside size n c i (i / size) (i % size) d bs w.blocks (split size i w.positive) (below size i w.positive) l in
    let moved : i % size < length d.items = subst (λ b. i % size < length b.items) (sym here) inside in
    omega (arith, moved, d.ok.0)

-- and is read there
pub read : {X Z : Type 0} {q : ℕ} (size n c i : ℕ) (bs : List (Vec X Z)) (d : Vec X Z) (x : X) (p : Pooled X) → IsPooled size n c bs →
    ◌≡◌ {A = Pooled X} (record { items = joined bs; capacity = c; places = q }) p → i < n → d ≡ get_or bs (i / size) d → x ≡ get_or d.items (i % size) x →
    x ≡ get_or p.items i x
read size n c i bs d x p w shown l here found =
    found
    ∙ (ap (λ b. get_or b.items (i % size) x) here
    ∙ (sym (joined-at size n c i (i / size) (i % size) d x bs w.blocks (split size i w.positive) (below size i w.positive) l)
    ∙ ap (λ q. get_or q.items i x) shown))

-- A value written

pub pooled-written : {X Z : Type 0} (size n c i : ℕ) (bs : List (Vec X Z)) (d y : Vec X Z) (x : X) → IsPooled size n c bs → i < n → d ≡ get_or bs (i / size) d →
    y.items ≡ set d.items (i % size) x → vec_capacity y ≡ vec_capacity d → IsPooled size n c (set bs (i / size) y)
pooled-written size n c i bs d y x w l here written room = record {
  positive = w.positive;
  blocks =
      let fits : n ≤ c = blocks-fit size n c bs w.blocks in
      let inside : i / size < length bs = block-inside size n c i (i / size) (i % size) bs w.blocks (split size i w.positive) (omega (arith, fits, l)) in
      blocks-written size n c (i / size) d y bs w.blocks inside
      (ap length written ∙ (length-set d.items (i % size) x ∙ ap (λ b. length b.items) here)) (room ∙ ap vec_capacity here);
  small = w.small;
}

pub shown-written : {X Z : Type 0} {q : ℕ} (size n c i : ℕ) (bs : List (Vec X Z)) (d y : Vec X Z) (x : X) (p : Pooled X) → IsPooled size n c bs →
    ◌≡◌ {A = Pooled X} (record { items = joined bs; capacity = c; places = q }) p → i < n → d ≡ get_or bs (i / size) d → y.items ≡ set d.items (i % size) x →
    ◌≡◌ {A = Pooled X} (record { items = joined (set bs (i / size) y); capacity = c; places = q }) (record p { items = set p.items i x })
shown-written {X} {q = q} size n c i bs d y x p w shown l here written =
    pooled _ _ c q (joined-written size n c i (i / size) (i % size) d y x bs w.blocks (split size i w.positive) (below size i w.positive) l
    (written ∙ ap (λ b. set b.items (i % size) x) here))
    ∙ ap {A = Pooled X} {B = Pooled X} (λ q. record q { items = set q.items i x }) shown

-- A value that goes last

-- its block has room
pub block-open : {X Z : Type 0} (size n c : ℕ) (bs : List (Vec X Z)) (d : Vec X Z) → IsPooled size n c bs → n < c → d ≡ get_or bs (n / size) d → vec_len d < vec_capacity d
block-open size n c bs d w l here =
    let inside : n / size < length bs = block-inside size n c n (n / size) (n % size) bs w.blocks (split size n w.positive) l in
    let room : vec_capacity d ≡ size = ap vec_capacity here ∙ block-room size n c (n / size) d bs w.blocks inside in
    let next : length d.items ≡ n % size = ap (λ b. length b.items) here ∙ place-next size n c (n / size) (n % size) d bs w.blocks (split size n w.positive) (below size n w.positive) l in
    let left : n % size < size = below size n w.positive in
    omega (arith, room, next, left, d.ok.0)

pub pooled-pushed : {X Z : Type 0} (size n c : ℕ) (bs : List (Vec X Z)) (d y : Vec X Z) (x : X) → IsPooled size n c bs → n < c → d ≡ get_or bs (n / size) d →
    y.items ≡ d.items ++ x ∷ [] → vec_capacity y ≡ vec_capacity d → IsPooled size (n + 1) c (set bs (n / size) y)
pooled-pushed size n c bs d y x w l here pushed room = record {
  positive = w.positive;
  blocks = blocks-pushed size n c (n / size) (n % size) d y bs w.blocks (split size n w.positive) (below size n w.positive) l
      (ap length pushed ∙ (length_push d.items x ∙ ap (λ b. length b.items + 1) here)) (room ∙ ap vec_capacity here);
  small = w.small;
}

pub shown-pushed : {X Z : Type 0} {q : ℕ} (size n c : ℕ) (bs : List (Vec X Z)) (d y : Vec X Z) (x : X) (p : Pooled X) → IsPooled size n c bs →
    ◌≡◌ {A = Pooled X} (record { items = joined bs; capacity = c; places = q }) p → n < c → d ≡ get_or bs (n / size) d → y.items ≡ d.items ++ x ∷ [] →
    ◌≡◌ {A = Pooled X} (record { items = joined (set bs (n / size) y); capacity = c; places = q }) (record p { items = p.items ++ x ∷ [] })
shown-pushed {X} {q = q} size n c bs d y x p w shown l here pushed =
    pooled _ _ c q (joined-pushed size n c (n / size) (n % size) d y x bs w.blocks (split size n w.positive) (below size n w.positive) l
    (pushed ∙ ap (λ b. b.items ++ x ∷ []) here))
    ∙ ap {A = Pooled X} {B = Pooled X} (λ q. record q { items = q.items ++ x ∷ [] }) shown
