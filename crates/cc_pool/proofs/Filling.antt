-- Blocks that are read, written, filled and added.
use Rattle.std.proofs.Common.{◌≡◌, ℕ, ◌+◌, ◌-◌, ◌*◌, ◌<◌, ◌≤◌, zero, suc, List, [], ◌∷◌, ◌++◌, length, get_or, set, refl, sym, ◌∙◌, ap, subst, arith, length-append}
use Rattle.std.specs.Prelude.{Vec, vec_capacity}
use Rattle.std.proofs.Math.Nat.{mul-suc}
use Rattle.std.proofs.lemmas.List.{get_or_append_left, get_or-append_right, set-append_left, set-append_right, append-nil, append_assoc, nil_from_length}
use Rattle.cc_pool.specs.Blocks.{joined, AreBlocks}

-- Where a value stands

-- there are as many values as are said to stand in the blocks
pub length-joined : {X Z : Type 0} (size n c : ℕ) (bs : List (Vec X Z)) → AreBlocks size n c bs → length (joined bs) ≡ n
length-joined size n c [] h = sym h.0
length-joined size n c (b ∷ bs) h =
    let rest : length (joined bs) ≡ n - size = length-joined size (n - size) (c - size) bs h.1.1 in
    omega (arith, rest, h.0.values, length-append b.items (joined bs))

-- and no more than there is room for
pub blocks-fit : {X Z : Type 0} (size n c : ℕ) (bs : List (Vec X Z)) → AreBlocks size n c bs → n ≤ c
blocks-fit size n c [] h = omega (arith, h.0)
blocks-fit size n c (b ∷ bs) h = let rest : n - size ≤ c - size = blocks-fit size (n - size) (c - size) bs h.1.1 in omega (arith, rest, h.1.0)

-- a block is there for each place that there is room for
pub block-inside : {X Z : Type 0} (size n c i k j : ℕ) (bs : List (Vec X Z)) → AreBlocks size n c bs → size * k + j ≡ i → i < c → k < length bs
block-inside size n c i k j [] h e l = absurd (omega (arith, h.1, l))
block-inside size n c i zero j (b ∷ bs) h e l = omega arith
block-inside size n c i (suc k) j (b ∷ bs) h e l =
    let step : size * suc k ≡ size * k + size = mul-suc size k in
    let rest : k < length bs = block-inside size (n - size) (c - size) (size * k + j) k j bs h.1.1 refl (omega (arith, step, e, l)) in
    omega (arith, rest)

-- a block has room for the size
pub block-room : {X Z : Type 0} (size n c k : ℕ) (d : Vec X Z) (bs : List (Vec X Z)) → AreBlocks size n c bs → k < length bs → vec_capacity (get_or bs k d) ≡ size
block-room size n c k d [] h l = absurd (omega (arith, l))
block-room size n c zero d (b ∷ bs) h l = h.0.room
block-room size n c (suc k) d (b ∷ bs) h l = block-room size (n - size) (c - size) k d bs h.1.1 (omega (arith, l))

-- the place of a value is within its block
pub place-inside : {X Z : Type 0} (size n c i k j : ℕ) (d : Vec X Z) (bs : List (Vec X Z)) → AreBlocks size n c bs → size * k + j ≡ i → j < size → i < n →
    j < length (get_or bs k d).items
place-inside size n c i k j d [] h e below l = absurd (omega (arith, h.0, l))
place-inside size n c i zero j d (b ∷ bs) h e below l = omega (arith, h.0.values, e, below, l)
place-inside size n c i (suc k) j d (b ∷ bs) h e below l =
    let step : size * suc k ≡ size * k + size = mul-suc size k in
    place-inside size (n - size) (c - size) (size * k + j) k j d bs h.1.1 refl below (omega (arith, step, e, l))

-- the next value stands behind those in its block
pub place-next : {X Z : Type 0} (size n c k j : ℕ) (d : Vec X Z) (bs : List (Vec X Z)) → AreBlocks size n c bs → size * k + j ≡ n → j < size → n < c →
    length (get_or bs k d).items ≡ j
place-next size n c k j d [] h e below l = absurd (omega (arith, h.1, l))
place-next size n c zero j d (b ∷ bs) h e below l = omega (arith, h.0.values, e, below)
place-next size n c (suc k) j d (b ∷ bs) h e below l =
    let step : size * suc k ≡ size * k + size = mul-suc size k in
    place-next size (n - size) (c - size) k j d bs h.1.1 (omega (arith, step, e)) below (omega (arith, step, e, l))

-- a value is read in its block
pub joined-at : {X Z : Type 0} (size n c i k j : ℕ) (d : Vec X Z) (x : X) (bs : List (Vec X Z)) → AreBlocks size n c bs → size * k + j ≡ i → j < size → i < n →
    get_or (joined bs) i x ≡ get_or (get_or bs k d).items j x
joined-at size n c i k j d x [] h e below l = absurd (omega (arith, h.0, l))
joined-at size n c i zero j d x (b ∷ bs) h e below l =
    let same : i ≡ j = omega (arith, e) in
    let inside : i < length b.items = omega (arith, h.0.values, same, below, l) in
    get_or_append_left b.items (joined bs) x i inside ∙ ap (λ z. get_or b.items z x) same
joined-at size n c i (suc k) j d x (b ∷ bs) h e below l =
    let step : size * suc k ≡ size * k + size = mul-suc size k in
    let full : length b.items ≡ size = omega (arith, h.0.values, step, e, l) in
    let rest : i - size ≡ size * k + j = omega (arith, step, e) in
    get_or-append_right b.items (joined bs) size i x full (omega (arith, step, e))
    ∙ (ap (λ z. get_or (joined bs) z x) rest
    ∙ joined-at size (n - size) (c - size) (size * k + j) k j d x bs h.1.1 refl below (omega (arith, step, e, l)))

-- A block that is written

-- with as many values, and as much room
pub blocks-written : {X Z : Type 0} (size n c k : ℕ) (d y : Vec X Z) (bs : List (Vec X Z)) → AreBlocks size n c bs → k < length bs →
    length y.items ≡ length (get_or bs k d).items → vec_capacity y ≡ vec_capacity (get_or bs k d) → AreBlocks size n c (set bs k y)
blocks-written size n c k d y [] h l same room = absurd (omega (arith, l))
blocks-written size n c zero d y (b ∷ bs) h l same room = (record { values = same ∙ h.0.values; room = room ∙ h.0.room }, h.1)
blocks-written size n c (suc k) d y (b ∷ bs) h l same room =
    (h.0, (h.1.0, blocks-written size (n - size) (c - size) k d y bs h.1.1 (omega (arith, l)) same room))

pub joined-written : {X Z : Type 0} (size n c i k j : ℕ) (d y : Vec X Z) (x : X) (bs : List (Vec X Z)) → AreBlocks size n c bs → size * k + j ≡ i → j < size → i < n →
    y.items ≡ set (get_or bs k d).items j x → joined (set bs k y) ≡ set (joined bs) i x
joined-written size n c i k j d y x [] h e below l written = absurd (omega (arith, h.0, l))
joined-written size n c i zero j d y x (b ∷ bs) h e below l written =
    let same : i ≡ j = omega (arith, e) in
    let inside : i < length b.items = omega (arith, h.0.values, same, below, l) in
    ap (λ z. z ++ joined bs) (written ∙ ap (λ z. set b.items z x) (sym same)) ∙ sym (set-append_left b.items (joined bs) i x inside)
joined-written size n c i (suc k) j d y x (b ∷ bs) h e below l written =
    let step : size * suc k ≡ size * k + size = mul-suc size k in
    let full : length b.items ≡ size = omega (arith, h.0.values, step, e, l) in
    let rest : i - size ≡ size * k + j = omega (arith, step, e) in
    ap (λ z. b.items ++ z) (joined-written size (n - size) (c - size) (size * k + j) k j d y x bs h.1.1 refl below (omega (arith, step, e, l)) written)
    ∙ (ap (λ z. b.items ++ set (joined bs) z x) (sym rest)
    ∙ sym (set-append_right b.items (joined bs) size i x full (omega (arith, step, e))))

-- Blocks that no value stands in

pub blocks-none : {X Z : Type 0} (size c : ℕ) (bs : List (Vec X Z)) → AreBlocks size 0 c bs → joined bs ≡ []
blocks-none size c bs h = nil_from_length (joined bs) (length-joined size 0 c bs h)

-- A value that goes last

pub blocks-pushed : {X Z : Type 0} (size n c k j : ℕ) (d y : Vec X Z) (bs : List (Vec X Z)) → AreBlocks size n c bs → size * k + j ≡ n → j < size → n < c →
    length y.items ≡ length (get_or bs k d).items + 1 → vec_capacity y ≡ vec_capacity (get_or bs k d) → AreBlocks size (n + 1) c (set bs k y)
blocks-pushed size n c k j d y [] h e below l more room = absurd (omega (arith, h.1, l))
blocks-pushed size n c zero j d y (b ∷ bs) h e below l more room =
    let none : n - size ≡ n + 1 - size = omega (arith, e, below) in
    (record { values = omega (arith, more, h.0.values, e, below); room = room ∙ h.0.room }, (h.1.0, subst (λ z. AreBlocks size z (c - size) bs) none h.1.1))
blocks-pushed size n c (suc k) j d y (b ∷ bs) h e below l more room =
    let step : size * suc k ≡ size * k + size = mul-suc size k in
    let next : n - size + 1 ≡ n + 1 - size = omega (arith, step, e) in (
      record { values = omega (arith, h.0.values, step, e); room = h.0.room },
      (
        h.1.0,
        subst (λ z. AreBlocks size z (c - size) (set bs k y)) next
            (blocks-pushed size (n - size) (c - size) k j d y bs h.1.1 (omega (arith, step, e)) below (omega (arith, step, e, l)) more room),
      ),
    )

pub joined-pushed : {X Z : Type 0} (size n c k j : ℕ) (d y : Vec X Z) (x : X) (bs : List (Vec X Z)) → AreBlocks size n c bs → size * k + j ≡ n → j < size → n < c →
    y.items ≡ (get_or bs k d).items ++ x ∷ [] → joined (set bs k y) ≡ joined bs ++ x ∷ []
joined-pushed size n c k j d y x [] h e below l more = absurd (omega (arith, h.1, l))
joined-pushed size n c zero j d y x (b ∷ bs) h e below l more =
    let none : n - size ≡ 0 = omega (arith, e, below) in
    let rest : joined bs ≡ [] = blocks-none size (c - size) bs (subst (λ z. AreBlocks size z (c - size) bs) none h.1.1) in
    ap (λ z. z ++ joined bs) more ∙ (ap (λ z. (b.items ++ x ∷ []) ++ z) rest ∙ (append-nil (b.items ++ x ∷ []) ∙ ap (λ z. z ++ x ∷ []) (sym (ap (λ z. b.items ++ z) rest ∙ append-nil b.items))))
joined-pushed size n c (suc k) j d y x (b ∷ bs) h e below l more =
    let step : size * suc k ≡ size * k + size = mul-suc size k in
    ap (λ z. b.items ++ z) (joined-pushed size (n - size) (c - size) k j d y x bs h.1.1 (omega (arith, step, e)) below (omega (arith, step, e, l)) more)
    ∙ sym (append_assoc b.items (joined bs) (x ∷ []))

-- A block that is added

pub blocks-added : {X Z : Type 0} (size n c : ℕ) (y : Vec X Z) (bs : List (Vec X Z)) → AreBlocks size n c bs → y.items ≡ [] → vec_capacity y ≡ size →
    AreBlocks size n (c + size) (bs ++ y ∷ [])
blocks-added size n c y [] h empty room =
    let values : length y.items ≡ 0 = ap length empty in
    (record { values = omega (arith, values, h.0); room = room }, (omega (arith, h.1), (omega (arith, h.0), omega (arith, h.1))))
blocks-added size n c y (b ∷ bs) h empty room =
    let less : c - size + size ≡ c + size - size = omega (arith, h.1.0) in
    (h.0, (omega (arith, h.1.0), subst (λ z. AreBlocks size (n - size) z (bs ++ y ∷ [])) less (blocks-added size (n - size) (c - size) y bs h.1.1 empty room)))

pub joined-added : {X Z : Type 0} (y : Vec X Z) (bs : List (Vec X Z)) → y.items ≡ [] → joined (bs ++ y ∷ []) ≡ joined bs
joined-added y [] empty = rw (empty) refl
joined-added y (b ∷ bs) empty = ap (λ z. b.items ++ z) (joined-added y bs empty)
