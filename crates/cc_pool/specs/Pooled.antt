-- A POOL AS ITS VALUES, how many it has room for, and how many blocks have a place in its list.
use Rattle.std.specs.Prelude.{ℕ, List, refl}
use Rattle.std.specs.Coded.{Coded, code_by, coded×, coded_ℕ, coded_list}

pub record Pooled (X : Type 0) : Type 0 where
  pub items : List X
  pub capacity : ℕ
  pub places : ℕ

-- a pool is stored as the three of these
abbrev pub pooled_code : {X : Type 0} → Coded X → Coded (Pooled X)
pooled_code {X} code =
    code_by (List X × (ℕ × ℕ)) (coded× (coded_list code) (coded× coded_ℕ coded_ℕ))
    (λ p. (p.items, (p.capacity, p.places))) (λ p. record { items = p.0; capacity = p.1.0; places = p.1.1 }) (λ _. refl)
