-- WHAT A STORE OF LINKS HOLDS: for each live key its link, or none where the key is in no list of the store.
use Rattle.std.specs.Prelude.{◌≡◌, ◌<◌, IsTrue, ℕ, Bool, false, ◌==◌, Option, Some, None, is_some, option_map, if◌then◌else◌}
use Rattle.std.specs.Option.{option_flatten}
use Rattle.cc_chain.specs.declared.link.Link.{Link}

-- none where the key is not live
abbrev pub Links : Type 0
Links = ℕ → Option (Option Link)

abbrev pub is_live : Links → ℕ → Bool
is_live links key = is_some (links key)

-- the link of a key; none too where the key is not live
abbrev pub link_at : Links → ℕ → Option Link
link_at links key = option_flatten (links key)

-- the key is in a list of this store
abbrev pub is_linked : Links → ℕ → Bool
is_linked links key = is_some (link_at links key)

-- the key is live, and in no list of this store
abbrev pub IsFree : Links → ℕ → Type 0
IsFree links key = links key ≡ Some None

-- each live key is below n
abbrev pub AreBelow : ℕ → Links → Type 0
AreBelow n links = (key : ℕ) → IsTrue (is_live links key) → key < n

-- no key is in a list
abbrev pub HasNone : Links → Type 0
HasNone links = (key : ℕ) → link_at links key ≡ None

-- the same keys are live
abbrev pub SameLive : Links → Links → Type 0
SameLive before after = (key : ℕ) → is_live after key ≡ is_live before key

-- the same keys have the same links; a key that is in no list may become live, or cease to be
abbrev pub SameLinks : Links → Links → Type 0
SameLinks before after = (key : ℕ) → link_at after key ≡ link_at before key

-- What is written

-- a link in place of a live key's link
abbrev pub with_link : Links → ℕ → Option Link → Links
with_link links key link k = if key == k then Some link else links k

abbrev pub with_before : Option ℕ → Link → Link
with_before before link = record link { before = before }

abbrev pub with_after : Option ℕ → Link → Link
with_after after link = record link { after = after }

-- whether it is the key
abbrev pub is_key : Option ℕ → ℕ → Bool
is_key None k = false
is_key (Some key) k = key == k

-- the links with that of one key changed, if it has one
abbrev pub with_changed : Links → Option ℕ → (Link → Link) → Links
with_changed links key change k = if is_key key k then option_map (option_map change) (links k) else links k
