-- A SLAB AND A LIST BESIDE IT: at each key what stands in the slab and what stands in the list, as one.
use Rattle.std.specs.Prelude.{ℕ, ◌<◌, List, [], ◌∷◌, length, drop, get_or, Option, option_map}
use Rattle.slab.specs.Slab.{Slab, ContainsKey}

-- nothing where nothing stands in the slab; `none` stands past the list's end
abbrev pub paired : {X Y Z : Type 0} → (Y → X → Z) → Y → List (Option X) → List Y → List (Option Z)
paired pair none [] apart = []
paired pair none (o ∷ slots) apart = option_map (pair (get_or apart 0 none)) o ∷ paired pair none slots (drop 1 apart)

abbrev pub paired_slab : {X Y Z : Type 0} → (Y → X → Z) → Y → Slab X → List Y → Slab Z
paired_slab pair none s apart = record { slots = paired pair none s.slots apart; vacant_key = s.vacant_key; capacity = s.capacity }

-- the list reaches as far as something stands in the slab
abbrev pub Reaches : {X Y : Type 0} → Slab X → List Y → Type 0
Reaches s apart = (key : ℕ) → ContainsKey s key → key < length apart
