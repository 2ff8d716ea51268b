-- WHICH ENTRIES STAY where those are dropped of which a map or a key is dead.
use Rattle.std.specs.Prelude.{◌⊎◌, ℕ, Bool, true, false, ◌&&◌, List, ◌++◌, take, drop, filter}
use Rattle.std.specs.List.Retain.{IsFiltered}
use Rattle.cc_lists.specs.Members.{Among}
use Rattle.cc_names.specs.declared.number.SKey.{SKey}
use Rattle.cc_weakmaps.specs.Entries.{KeyedEntry}

abbrev pub script_key : ℕ → SKey
script_key k = record { 0 = k }

-- it may be asked of the map and of the key of each entry
abbrev pub MayBeAsked : (SKey → Type 0) → List KeyedEntry → Type 0
MayBeAsked may es = (e : KeyedEntry) → Among e es → may (script_key e.the_map) × may (script_key e.key)

-- whether an entry stays, by answers to which keys live: both must
abbrev pub Stays : (SKey → Bool → Type 0) → KeyedEntry → Bool → Type 0
Stays answers e true = answers (script_key e.the_map) true × answers (script_key e.key) true
Stays answers e false = answers (script_key e.the_map) false ⊎ answers (script_key e.key) false

-- exactly those stay, in order
pub record AreLiving (answers : SKey → Bool → Type 0) (old new : List KeyedEntry) : Type 0 where
  pub filtered : IsFiltered (λ (before : Unit {0}) e stays after. Stays answers e stays) tt old new

-- those before a place all stay: with what stays of the others, they are what stays of all
abbrev pub StayBefore : (SKey → Bool → Type 0) → List KeyedEntry → ℕ → Type 0
StayBefore answers es n = (rest : List KeyedEntry) → AreLiving answers (drop n es) rest → AreLiving answers es (take n es ++ rest)

-- the same by a test
abbrev pub living : (ℕ → Bool) → List KeyedEntry → List KeyedEntry
living lives es = filter (λ e. lives e.the_map && lives e.key) es
