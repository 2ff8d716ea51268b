-- Least sets: a list of rules, and what they derive.
use Rattle.std.specs.Prelude.{ℕ, zero, suc, Bool, true, false, ◌&&◌, List, [], ◌∷◌, ◌++◌, length, Option, Some, None, map}
use Rattle.cc_lists.specs.Members.{Among, has}

-- where all of `premises` are in, `gives` is
pub record Rule (X : Type 0) : Type 0 where
  pub premises : List X
  pub gives : X

-- the least set that the rules derive
pub data Least {X : Type 0} (rules : List (Rule X)) : X → Type 0 where
  by_rule : (r : Rule X) → Among r rules → ((y : X) → Among y r.premises → Least rules y) → Least rules r.gives

-- what is in from the start
abbrev pub root : {X : Type 0} → X → Rule X
root x = record { premises = []; gives = x }

-- the first of a pair takes the second in
abbrev pub along : {X : Type 0} → X × X → Rule X
along e = record { premises = e.0 ∷ []; gives = e.1 }

-- all of a list together take the second in
abbrev pub jointly : {X : Type 0} → List X × X → Rule X
jointly e = record { premises = e.0; gives = e.1 }

-- the rules of roots, edges and entries
abbrev pub system : {X : Type 0} → List X → List (X × X) → List (List X × X) → List (Rule X)
system roots edges entries = map root roots ++ (map along edges ++ map jointly entries)

-- whether the premises are all found
abbrev pub all_in : {X : Type 0} → (X → X → Bool) → List X → List X → Bool
all_in same found [] = true
all_in same found (x ∷ xs) = has same found x && all_in same found xs

-- the first rule whose premises are found, and the other rules
abbrev pub pick : {X : Type 0} → (X → X → Bool) → List X → List (Rule X) → Option (Rule X × List (Rule X))
pick same found [] = None
pick same found (r ∷ rs) = elim (all_in same found r.premises) [
  | true ↦ Some (r, rs)
  | false ↦ elim (pick same found rs) [ None ↦ None | Some c ↦ Some (c.0, r ∷ c.1) ]
]

-- a rule is used as long as one can be used; each is used once
abbrev pub close : {X : Type 0} → (X → X → Bool) → ℕ → List (Rule X) → List X → List X
close same zero rs found = found
close same (suc n) rs found = elim (pick same found rs) [ None ↦ found | Some c ↦ close same n c.1 (c.0.gives ∷ found) ]

-- the least set as a list: no more steps than rules
unfoldable pub closure : {X : Type 0} → (X → X → Bool) → List (Rule X) → List X
closure same rs = close same (length rs) rs []
