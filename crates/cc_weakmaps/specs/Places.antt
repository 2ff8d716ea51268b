-- Where the entry of a map and a key stands.
use Rattle.std.specs.Prelude.{◌≡◌, ℕ, zero, suc, true, false, List, [], ◌∷◌}
use Rattle.cc_weakmaps.specs.Entries.{KeyedEntry, is_entry_of}

-- the entry stands at a place, counted from 0, and at none before it
abbrev pub StandsAt : List KeyedEntry → ℕ → ℕ → ℕ → Type 0
StandsAt [] m k i = ⊥
StandsAt (e ∷ es) m k zero = is_entry_of m k e ≡ true
StandsAt (e ∷ es) m k (suc i) = (is_entry_of m k e ≡ false) × StandsAt es m k i
