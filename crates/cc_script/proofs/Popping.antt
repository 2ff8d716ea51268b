-- THE FIRST THAT WAITS taken out of the list.
use Rattle.std.proofs.Common.{◌≡◌, ◌<◌, ℕ, List, [], ◌∷◌, length, drop, Some, None, is_some, false, ap, arith}
use Rattle.std.proofs.lemmas.Bool.{true≢false}
use Rattle.cc_lists.specs.Walks.{first_of}
use Rattle.cc_names.specs.declared.kind.Colour.{Colour}
use Rattle.cc_script.specs.Objects.{Object}
use Rattle.cc_script.specs.Marking.{to_do}

-- it stood before the others
pub front-popped : (waiting : List ℕ) (key : ℕ) → Some key ≡ first_of waiting → waiting ≡ key ∷ drop 1 waiting
front-popped waiting key e = grind arith

-- where none did, none waits
pub none-popped : (waiting : List ℕ) → None ≡ first_of waiting → waiting ≡ []
none-popped waiting e = grind arith

pub none-first : (waiting : List ℕ) → is_some (first_of waiting) ≡ false → waiting ≡ []
none-first waiting e = grind (arith, true≢false)

-- less is to be done
pub popped-does : (to : Colour) (objects : List Object) (waiting ks : List ℕ) (key : ℕ) → waiting ≡ key ∷ ks →
    to_do to (record { objects = objects; waiting = ks }) < to_do to (record { objects = objects; waiting = waiting })
popped-does to objects waiting ks key e = omega (arith, ap length e)
