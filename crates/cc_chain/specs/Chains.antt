-- A CHAIN AND ITS STORE AS A LIST OF DISTINCT KEYS.
use Rattle.std.specs.Prelude.{◌≡◌, ℕ, zero, suc, ◌==◌, List, [], ◌∷◌, Option, Some, None, if◌then◌else◌}
use Rattle.cc_lists.specs.Members.{Among}
use Rattle.cc_lists.specs.Walks.{first_of}
use Rattle.cc_chain.specs.declared.link.Link.{Link}
use Rattle.cc_chain.specs.declared.chain.Chain.{Chain}
use Rattle.cc_chain.specs.Links.{Links, link_at}

-- no element stands twice
abbrev pub AllDiffer : {X : Type 0} → List X → Type 0
AllDiffer [] = Unit {0}
AllDiffer (x ∷ xs) = (¬ (Among x xs)) × AllDiffer xs

-- the last of the list; where it is empty, what stands before it
abbrev pub last_or : {X : Type 0} → Option X → List X → Option X
last_or before [] = before
last_or before (x ∷ xs) = last_or (Some x) xs

-- what stands behind a key
abbrev pub behind : ℕ → List ℕ → List ℕ
behind key [] = []
behind key (k ∷ ks) = if k == key then ks else behind key ks

-- the link of a key in a list before which a key stands, or none
abbrev pub link_from : Option ℕ → List ℕ → ℕ → Option Link
link_from before [] key = None
link_from before (k ∷ ks) key = if k == key then Some (record { before = before; after = first_of ks }) else link_from (Some k) ks key

-- the chain is the list: its ends are, each key of the list has its neighbours there, and no other key has a link
pub record IsChain {R : Type 0} (links : Links) (chain : Chain R) (keys : List ℕ) : Type 0 where
  pub differ : AllDiffer keys
  pub first : chain.first ≡ first_of keys
  pub last : chain.last ≡ last_or None keys
  pub linked : (key : ℕ) → link_at links key ≡ link_from None keys key

-- it is some list
abbrev pub IsSomeChain : {R : Type 0} → Links → Chain R → Type 0
IsSomeChain links chain = (keys : List ℕ) × IsChain links chain keys

-- the keys from one on, as their links lead, at most n
abbrev pub walked : ℕ → Links → Option ℕ → List ℕ
walked zero links from = []
walked (suc n) links None = []
walked (suc n) links (Some key) = key ∷ walked n links (elim (link_at links key) [ None ↦ None | Some link ↦ link.after ])

-- What is written

-- the ends once `after` stands after `before`: with none before it, it is the first
abbrev pub with_next : {R : Type 0} → Chain R → Option ℕ → Option ℕ → Chain R
with_next chain None after = record chain { first = after }
with_next chain (Some before) after = chain

-- and once `before` stands before `after`: with none after it, it is the last
abbrev pub with_previous : {R : Type 0} → Chain R → Option ℕ → Option ℕ → Chain R
with_previous chain None before = record chain { last = before }
with_previous chain (Some after) before = chain
