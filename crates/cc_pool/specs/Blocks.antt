-- THE BLOCKS OF A POOL: all of one size, and filled one after another.
use Rattle.std.specs.Prelude.{◌≡◌, ℕ, ◌+◌, ◌-◌, ◌*◌, ◌<◌, ◌≤◌, ◌^◌, List, [], ◌∷◌, ◌++◌, length, get_or, take, min, Vec, vec_capacity}
use Rattle.std.specs.List.{flat_map}

-- the values in the blocks, one block after another
abbrev pub joined : {X Z : Type 0} → List (Vec X Z) → List X
joined bs = flat_map (λ b. b.items) bs

-- a block of a size, in which the first of so many values stand, as many as it has room for
pub record IsBlock {X Z : Type 0} (size count : ℕ) (b : Vec X Z) : Type 0 where
  pub values : length b.items ≡ min size count
  pub room : vec_capacity b ≡ size

-- so many values stand in the blocks, of which each is full before the next has one; and so many have room in them
abbrev pub AreBlocks : {X Z : Type 0} → ℕ → ℕ → ℕ → List (Vec X Z) → Type 0
AreBlocks size count capacity [] = (count ≡ 0) × (capacity ≡ 0)
AreBlocks size count capacity (b ∷ bs) = IsBlock size count b × ((size ≤ capacity) × AreBlocks size (count - size) (capacity - size) bs)

pub record IsPooled {X Z : Type 0} (size count capacity : ℕ) (bs : List (Vec X Z)) : Type 0 where
  pub positive : 0 < size
  pub blocks : AreBlocks size count capacity bs
  pub small : capacity < 2 ^ 64

-- one more block stands last, which is empty
pub record HasOneMore {X Z : Type 0} (size : ℕ) (old new : List (Vec X Z)) : Type 0 where
  pub block : Vec X Z
  pub empty : block.items ≡ []
  pub room : vec_capacity block ≡ size
  pub last : new ≡ old ++ block ∷ []

-- so many more stand last, which are empty: what stood in the blocks stands in them, and they have room for more
pub record HasMore {X Z : Type 0} (size count : ℕ) (old new : List (Vec X Z)) : Type 0 where
  pub front : take (length old) new ≡ old
  pub longer : length new ≡ length old + count
  pub values : joined new ≡ joined old
  pub room : (n c : ℕ) → AreBlocks size n c old → AreBlocks size n (c + size * count) new

-- the same blocks, in the first of which, so many, nothing stands any more
pub record AreEmptiedTo {X Z : Type 0} (count : ℕ) (old new : List (Vec X Z)) : Type 0 where
  pub as_many : length new ≡ length old
  pub empty : (k : ℕ) (d : Vec X Z) → k < count → k < length old → (get_or new k d).items ≡ []
  pub room : (k : ℕ) (d : Vec X Z) → k < length old → vec_capacity (get_or new k d) ≡ vec_capacity (get_or old k d)

-- in none of which anything stands
abbrev pub AreEmptied : {X Z : Type 0} → List (Vec X Z) → List (Vec X Z) → Type 0
AreEmptied old new = AreEmptiedTo (length old) old new
