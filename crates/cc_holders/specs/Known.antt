-- WHAT A TABLE KNOWS.
use Rattle.std.specs.Prelude.{ℕ, nat_lt, true, false, Option}
use Rattle.cc_holders.specs.declared.entry.Entry.{Entry}
use Rattle.cc_holders.specs.declared.entry.Entry.TheVariants.{Unknown}
use Rattle.cc_holders.specs.declared.holders.Holders.{Holders}
use Rattle.cc_holders.specs.Entries.{in_groups, key_of}

-- WHAT IS KNOWN OF A NUMBER. Numbers have 32 bits: of a greater one nothing is known.
unfoldable pub entry_at : Holders → ℕ → Entry
entry_at h n = elim (nat_lt n 4294967296) [ true ↦ in_groups h.groups.items n | false ↦ Unknown ]

-- the key of a number that is marked
abbrev pub key_at : Holders → ℕ → Option ℕ
key_at h n = key_of (entry_at h n)
