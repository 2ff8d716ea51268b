-- WHAT WAS FOUND, as it is kept: steps in order, and the place of each by its object.
use Rattle.std.specs.Prelude.{◌≡◌, ℕ, ◌≤◌, ◌==◌, Bool, false, List, [], ◌∷◌, ◌++◌, length, take, drop, Option, Some, None, slice_get}
use Rattle.cc_names.specs.declared.name.Name.{Name}
use Rattle.cc_model.specs.declared.item.Reason.{Reason}
use Rattle.cc_model.specs.Answers.{Step}
use Rattle.cc_model.specs.Derivations.{Walk, steps_of, with_step}
use Rattle.cc_pages.specs.declared.by_name.ByName.{ByName}
use Rattle.cc_pages.specs.ByName.{place_of}

-- THE WALK that they stand for, of which the first ones are walked
abbrev pub walk_by : ℕ → List Step → Walk
walk_by n ss = record { walked = take n ss; waiting = drop n ss }

-- an object is found exactly where its place is kept
pub record IsKept (n : ℕ) (ss : List Step) (table : ByName) : Type 0 where
  pub walked : n ≤ length ss
  pub there : (i : ℕ) (s : Step) → slice_get ss i ≡ Some s → place_of table s.0 ≡ Some i
  pub found : (x : Name) (i : ℕ) → place_of table x ≡ Some i → (r : Reason) × (slice_get ss i ≡ Some (x, r))

-- whether a place that may be there is this one
abbrev pub is_place : Option ℕ → ℕ → Bool
is_place None i = false
is_place (Some k) i = k == i

-- what a register or a place holds is found
abbrev pub with_content : Walk → Option Name → Reason → Walk
with_content w None r = w
with_content w (Some x) r = with_step w x r

-- the first that waits is walked: it stands at this place, and this is its object
pub record IsFirstWalked (old new : Walk) (i : ℕ) (x : Name) : Type 0 where
  pub step : Step
  pub rest : List Step
  pub waits : old.waiting ≡ step ∷ rest
  pub at : slice_get (steps_of old) i ≡ Some step
  pub name : x ≡ step.0
  pub walked : new ≡ record { walked = old.walked ++ step ∷ []; waiting = rest }

-- none waits
pub record IsIdle (old new : Walk) : Type 0 where
  pub waits : old.waiting ≡ []
  pub same : new ≡ old
