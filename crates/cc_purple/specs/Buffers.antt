-- A BUFFER AND ITS STORE AS A LIST OF KEYS WITH MARKS.
use Rattle.std.specs.Prelude.{◌≡◌, ℕ, true, List}
use Rattle.cc_chain.specs.Links.{Links}
use Rattle.cc_chain.specs.Chains.{IsChain}
use Rattle.cc_purple.specs.declared.buffer.Buffer.{Buffer}
use Rattle.cc_purple.specs.Stores.{Marks}
use Rattle.cc_purple.specs.Marks.{Marked, holds_key, is_purple, keys_of}

-- the buffer is the list: its chain is the keys, and the mark of each key that is in it is the one that the store has
pub record IsBuffer (links : Links) (marks : Marks) (buffer : Buffer) (ms : List Marked) : Type 0 where
  pub keys : IsChain links buffer.keys (keys_of ms)
  pub agree : (key : ℕ) → holds_key ms key ≡ true → marks key ≡ is_purple ms key

-- it is some list
abbrev pub IsSomeBuffer : Links → Marks → Buffer → Type 0
IsSomeBuffer links marks buffer = (ms : List Marked) × IsBuffer links marks buffer ms
