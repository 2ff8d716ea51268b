-- WHAT IS TOLD TO C: items, and steps by which an object is reached.
use Rattle.std.specs.Prelude.{◌≡◌, ◌∷◌, ℕ, ◌-◌, true, false, nat_le}
use Rattle.cc_names.specs.declared.name.Name.{Name}
use Rattle.cc_names.specs.declared.name.Name.TheVariants as name
use Rattle.cc_names.specs.declared.register.Reg.TheVariants.{N, S, W}
use Rattle.cc_names.specs.Names.{number_of}
use Rattle.cc_model.specs.declared.item.Item.{Item}
use Rattle.cc_model.specs.declared.item.Item.TheVariants.{Event, Listed, Step, Reply}
use Rattle.cc_model.specs.declared.item.Event.TheVariants.{Unlinked, Freed, Abandoned}
use Rattle.cc_model.specs.declared.item.Reason.{Reason}
use Rattle.cc_model.specs.declared.item.Reason.TheVariants.{Root, Edge, Pair}
use Rattle.cc_host.specs.declared.runtime.rooted.TheConstants.{FIRST_PLACE}
use Rattle.cc_host.specs.Hosts.{State, Books, data_at}
use Rattle.cc_c.specs.declared.values.CTold.{CTold}
use Rattle.cc_c.specs.declared.values.CStep.{CStep}

-- the kind of an object, by its name
abbrev pub kind_of : Name → ℕ
kind_of (name.Native k) = 1
kind_of (name.Script k) = 2
kind_of (name.Reflector k) = 3

-- what was told of an object
abbrev pub told_of : Books → ℕ → Name → CTold
told_of b what x = record { value = data_at b x; what = what; kind = kind_of x; number = number_of x }

-- and of none
abbrev pub told_alone : ℕ → CTold
told_alone what = record { value = 0; what = what; kind = 0; number = 0 }

-- AN ITEM AS C GETS IT
abbrev pub shown : Books → Item → CTold
shown b (Event (Unlinked x)) = told_of b 1 x
shown b (Event (Freed x)) = told_of b 2 x
shown b (Event Abandoned) = told_alone 3
shown b (Listed x) = told_alone 0
shown b (Step x why) = told_alone 0
shown b (Reply r) = told_alone 0

-- a step to an object, by a number for its reason and by two objects or a root
abbrev pub step_by : Name → ℕ → ℕ → ℕ → CStep
step_by x why by_kind by_number = record {
  kind = kind_of x;
  number = number_of x;
  why = why;
  by_kind = by_kind;
  by_number = by_number;
  key_kind = 0;
  key_number = 0;
}

-- a step by a register of natives (1) or of script objects (2): by a numbered root; or, behind those, by a root without number, with
-- the number of its place
abbrev pub step_by_root : Name → ℕ → ℕ → CStep
step_by_root x bank r = elim (nat_le FIRST_PLACE r) [ true ↦ step_by x 4 bank (r - FIRST_PLACE) | false ↦ step_by x 1 bank r ]

-- a step by its reason; a weak register leads to nothing
abbrev pub step_for : Name → Reason → CStep
step_for x (Root (N r)) = step_by_root x 1 r
step_for x (Root (S r)) = step_by_root x 2 r
step_for x (Root (W r)) = step_by x 1 0 r
step_for x (Edge y) = step_by x 2 (kind_of y) (number_of y)
step_for x (Pair m k) = record {
  kind = kind_of x;
  number = number_of x;
  why = 3;
  by_kind = kind_of m;
  by_number = number_of m;
  key_kind = kind_of k;
  key_number = number_of k;
}

abbrev pub no_step : CStep
no_step = record { kind = 0; number = 0; why = 0; by_kind = 0; by_number = 0; key_kind = 0; key_number = 0 }

-- A STEP AS C GETS IT
abbrev pub shown_step : Item → CStep
shown_step (Event e) = no_step
shown_step (Listed x) = no_step
shown_step (Step x why) = step_for x why
shown_step (Reply r) = no_step

-- THE FIRST ITEM THAT WAITS IS FETCHED, and nothing else changes
pub record FetchesTold (s t : State) (x : CTold) : Type 0 where
  pub item : Item
  pub as_shown : x ≡ shown t.books item
  pub fetched : s ≡ record t { told = item ∷ t.told }

-- and the first step
pub record FetchesStep (s t : State) (x : CStep) : Type 0 where
  pub item : Item
  pub as_shown : x ≡ shown_step item
  pub fetched : s ≡ record t { steps = item ∷ t.steps }
