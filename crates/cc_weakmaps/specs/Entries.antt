-- THE ENTRIES OF ALL WEAK MAPS AS A LIST, by the keys of script objects, in the order in which they were first set.
use Rattle.std.specs.Prelude.{ℕ, ◌≤◌, ◌==◌, Bool, true, false, not, ◌&&◌, List, [], ◌∷◌, filter, count_by, Option, Some, None, is_some}

-- a key has a value in a map; where the key is a proxy, its delegate stands with it
pub record KeyedEntry : Type 0 where
  pub the_map : ℕ
  pub key : ℕ
  pub delegate : Option ℕ
  pub value : ℕ

abbrev pub entry : ℕ → ℕ → Option ℕ → ℕ → KeyedEntry
entry m k d v = record { the_map = m; key = k; delegate = d; value = v }

-- whether it is the entry of a map and a key
abbrev pub is_entry_of : ℕ → ℕ → KeyedEntry → Bool
is_entry_of m k e = e.the_map == m && e.key == k

-- the value of a map and a key
abbrev pub value_in : List KeyedEntry → ℕ → ℕ → Option ℕ
value_in [] m k = None
value_in (e ∷ es) m k = elim (is_entry_of m k e) [ true ↦ Some e.value | false ↦ value_in es m k ]

-- whether a key has a value in a map
abbrev pub has_value_in : List KeyedEntry → ℕ → ℕ → Bool
has_value_in es m k = is_some (value_in es m k)

-- an entry that is set again keeps its place, and has the delegate of now; a new entry goes last
abbrev pub with_entry : List KeyedEntry → ℕ → ℕ → Option ℕ → ℕ → List KeyedEntry
with_entry [] m k d v = entry m k d v ∷ []
with_entry (e ∷ es) m k d v = elim (is_entry_of m k e) [ true ↦ entry m k d v ∷ es | false ↦ e ∷ with_entry es m k d v ]

-- later ones close up
abbrev pub without_entry : List KeyedEntry → ℕ → ℕ → List KeyedEntry
without_entry es m k = filter (λ e. not (is_entry_of m k e)) es

-- AT MOST ONE for each map and key
pub record HasOneEach (es : List KeyedEntry) : Type 0 where
  pub at_most : (m k : ℕ) → count_by (is_entry_of m k) es ≤ 1
