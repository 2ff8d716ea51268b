-- THE SEARCH: which entries an object is a member of and what they give, and what a search that is over has found.
use Rattle.std.specs.Prelude.{◌≡◌, ℕ, zero, suc, Bool, true, false, List, [], ◌∷◌, Option, Some, None, option_map, slice_get}
use Rattle.cc_lists.specs.Members.{has}
use Rattle.cc_names.specs.declared.name.Name.{Name}
use Rattle.cc_names.specs.Names.{same_name}
use Rattle.cc_model.specs.Answers.{Step}
use Rattle.cc_model.specs.Entries.{Entry, joints_of}
use Rattle.cc_model.specs.Derivations.{Leads, Walk, derivation, is_found, is_led_to, is_member, named, needed_for, path_to, steps_of, with_joints}
use Rattle.cc_search.specs.Found.{IsFirstWalked}
use Rattle.cc_search.specs.Named.{AreOf}

-- the places below one of the entries of which an object is a member, the last one first
abbrev pub falling : List Entry → Name → ℕ → List ℕ
falling es x zero = []
falling es x (suc n) = elim (option_map (is_member x) (slice_get es n)) [
  | None ↦ falling es x n
  | Some b ↦ elim b [ true ↦ n ∷ falling es x n | false ↦ falling es x n ]
]

-- from a place on, where there is one
abbrev pub falling_from : List Entry → Name → Option ℕ → List ℕ
falling_from es x None = []
falling_from es x (Some i) = i ∷ falling es x i

-- what the entry at a place gives
abbrev pub with_entry_at : List Entry → ℕ → Walk → Walk
with_entry_at es i w = elim (slice_get es i) [ None ↦ w | Some e ↦ with_joints (joints_of e) w ]

-- what the entries at some places give, of which the first is the last to do so
abbrev pub with_places : List Entry → List ℕ → Walk → Walk
with_places es [] w = w
with_places es (i ∷ is) w = with_entry_at es i (with_places es is w)

-- what is searched can be, and objects stand for the steps so far
pub record IsSearch {O : Type 0} (Ready : Type 0) (name_of : O → Option Name) (w : Walk) (objects : List O) : Type 0 where
  pub ready : Ready
  pub named : AreOf name_of (steps_of w) objects

-- the first object that waits is walked; this is its name, and this stands for it
pub record IsNext {L O : Type 0} (name_of : O → Option Name) (old new : L × Walk) (next : Name × O) : Type 0 where
  pub place : ℕ
  pub same : new.0 ≡ old.0
  pub first : IsFirstWalked old.1 new.1 place next.0
  pub named : name_of next.1 ≡ Some next.0

-- whether the object that is sought, where one is, is found
abbrev pub has_sought : Walk → Option Name → Bool
has_sought w None = false
has_sought w (Some x) = is_found w x

-- WHAT A SEARCH FOR AN OBJECT has found: the object exactly where something leads to it, and the steps that lead to it
pub record HasSought (l : Leads) (x : Name) (ss : List Step) : Type 0 where
  pub led : has same_name (named ss) x ≡ is_led_to l x
  pub path : (needed_for ss (x ∷ [])).steps ≡ path_to l x

-- A SEARCH THAT IS OVER has found all, or has sought an object
abbrev pub HasEnded : Leads → Option Name → List Step → Type 0
HasEnded l None ss = ss ≡ derivation l
HasEnded l (Some x) ss = HasSought l x ss
