-- Known made lines, worked out apart from the definition.
use Rattle.std.specs.Prelude.{ℕ, List, [], ◌∷◌, codes}

-- the first three of seed 7
abbrev pub three_of_seven : List (List ℕ)
three_of_seven =
    codes "get s6 n0 3"
    ∷ codes "unwrap n3 s7"
    ∷ codes "gc"
    ∷ []

-- the first thirty of seed 111, which have each form
abbrev pub thirty_of_111 : List (List ℕ)
thirty_of_111 =
    codes "wset s6 s7 s4"
    ∷ codes "gc"
    ∷ codes "preserve s0"
    ∷ codes "unwrap n0 s5"
    ∷ codes "copy n0 n0"
    ∷ codes "set n6 0 n0"
    ∷ codes "wset s4 s7 s1"
    ∷ codes "wrap s4 n3"
    ∷ codes "wset s1 s1 s3"
    ∷ codes "get n4 n5 1"
    ∷ codes "drop n0"
    ∷ codes "unwrap n6 s0"
    ∷ codes "wget s5 s1 s2"
    ∷ codes "drop n1"
    ∷ codes "copy n2 n4"
    ∷ codes "take s1 s6 0"
    ∷ codes "native n2 4"
    ∷ codes "wget s0 s4 s4"
    ∷ codes "set n7 1 s1"
    ∷ codes "unwrap n2 s6"
    ∷ codes "script s0 4"
    ∷ codes "script s7 4"
    ∷ codes "put s0 3 s7"
    ∷ codes "weakmap s4"
    ∷ codes "slice 7"
    ∷ codes "take s0 s3 3"
    ∷ codes "unwrap n0 s1"
    ∷ codes "get s7 n7 2"
    ∷ codes "drop s5"
    ∷ codes "set n6 3 s2"
    ∷ []

-- the first four of the greatest seed
abbrev pub four_of_the_greatest : List (List ℕ)
four_of_the_greatest =
    codes "unwrap n6 s5"
    ∷ codes "set n5 1 n1"
    ∷ codes "gc"
    ∷ codes "gc"
    ∷ []
