-- WHICH SCRIPT OBJECTS HAVE A KEY: one that fits in 32 bits.
use Rattle.std.specs.Prelude.{◌≡◌, ℕ, ◌<◌, List, IfSome}
use Rattle.cc_lists.specs.Members.{Among}
use Rattle.cc_names.specs.declared.name.Name.{Name}
use Rattle.cc_weakmaps.specs.Entries.{KeyedEntry}
use Rattle.cc_object_graph.specs.Keys.{object_of}

-- so many keys there are
abbrev pub keys : ℕ
keys = 4294967296

abbrev pub HasKey : Name → Type 0
HasKey x = (k : ℕ) × (k < keys) × (object_of k ≡ x)

-- the members of an entry have one
pub record IsKeyed (e : KeyedEntry) : Type 0 where
  pub the_map : e.the_map < keys
  pub key : e.key < keys
  pub delegate : IfSome e.delegate (λ d. d < keys)

-- those of each entry
abbrev pub AreKeyed : List KeyedEntry → Type 0
AreKeyed es = (e : KeyedEntry) → Among e es → IsKeyed e
