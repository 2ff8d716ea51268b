-- A SET OF KEYS FOR A WALK: the members that were given, and those that wait, in the order in which they came.
use Rattle.std.specs.Prelude.{◌≢◌, ℕ, ◌==◌, Bool, true, false, List, [], ◌∷◌, ◌++◌, Option, if◌then◌else◌}
use Rattle.cc_lists.specs.Members.{has, without}
use Rattle.cc_chain.specs.Links.{is_key}
use Rattle.cc_names.specs.declared.kind.Walked.{Walked}
use Rattle.cc_names.specs.declared.kind.Walked.TheVariants.{Out, Waiting, Given}

pub record Walk : Type 0 where
  pub given : List ℕ
  pub waiting : List ℕ

abbrev pub walk_of : List ℕ → List ℕ → Walk
walk_of given waiting = record { given = given; waiting = waiting }

abbrev pub no_walk : Walk
no_walk = walk_of [] []

abbrev pub members : Walk → List ℕ
members w = w.given ++ w.waiting

-- a key waits behind all others, where it is no member
abbrev pub with_member : ℕ → Walk → Walk
with_member key w = if has ◌==◌ (members w) key then w else walk_of w.given (w.waiting ++ key ∷ [])

-- a key leaves
abbrev pub without_member : ℕ → Walk → Walk
without_member key w = walk_of (without ◌==◌ key w.given) (without ◌==◌ key w.waiting)

-- the first of those that wait is given
abbrev pub given_first : List ℕ → List ℕ → Walk
given_first given [] = walk_of given []
given_first given (key ∷ keys) = walk_of (given ++ key ∷ []) keys

abbrev pub gone_on : Walk → Walk
gone_on w = given_first w.given w.waiting

-- THE SET READ BACK from its members, of which those from a key on wait
abbrev pub with_given : ℕ → Walk → Walk
with_given key w = walk_of (key ∷ w.given) w.waiting

abbrev pub split_at : Option ℕ → List ℕ → Walk
split_at next [] = no_walk
split_at next (key ∷ keys) = if is_key next key then walk_of [] (key ∷ keys) else with_given key (split_at next keys)

-- HOW EACH KEY STANDS IN IT
abbrev pub Walks : Type 0
Walks = ℕ → Walked

abbrev pub state_if : Bool → Bool → Walked
state_if given waiting = if given then Given else if waiting then Waiting else Out

abbrev pub states_of : Walk → Walks
states_of w key = state_if (has ◌==◌ w.given key) (has ◌==◌ w.waiting key)

-- no key is in it
abbrev pub nowhere : Walks
nowhere key = Out

-- a key stands otherwise
abbrev pub with_state : Walks → ℕ → Walked → Walks
with_state walks key state k = if key == k then state else walks k

-- what is not in it comes in and waits
abbrev pub entered : Walked → Walked
entered Out = Waiting
entered Waiting = Waiting
entered Given = Given

abbrev pub is_walked : Walked → Bool
is_walked Out = false
is_walked Waiting = true
is_walked Given = true

-- none waits
abbrev pub NoneWaits : Walks → Type 0
NoneWaits walks = (key : ℕ) → walks key ≢ Waiting
