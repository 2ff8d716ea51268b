-- THE LINK THAT AN ELEMENT KEEPS: whether it has one, whether a key stands on each side, and these keys.
use Rattle.std.specs.Prelude.{ℕ, Bool, Option, Some, None, if◌then◌else◌}
use Rattle.cc_chain.specs.declared.link.Link.{Link}

-- a key that is there, or none
abbrev pub key_if : Bool → ℕ → Option ℕ
key_if there key = if there then Some key else None

abbrev pub link_of : Bool → Bool → Bool → ℕ → ℕ → Option Link
link_of linked has_before has_after before after =
    if linked then Some (record { before = key_if has_before before; after = key_if has_after after }) else None
