-- A NATIVE IS HELD by the host's own register while it is written, and let go again.
use Rattle.std.specs.Prelude.{◌≡◌, ℕ, Option, Some, None}
use Rattle.cc_names.specs.declared.name.Name.{Name}
use Rattle.cc_names.specs.declared.number.NKey.{NKey}
use Rattle.cc_names.specs.declared.register.Reg.TheVariants.{N}
use Rattle.cc_model.specs.Cascade.{take_up}
use Rattle.cc_model.specs.Effects.{hold_native}
use Rattle.cc_model.specs.Graph as graph
use Rattle.cc_model.specs.Heap.{native_at, register, set_register}
use Rattle.cc_model.specs.End.{slots_now}
use Rattle.cc_model.specs.WellFormed.{names_there}
use Rattle.cc_heaps.specs.Keyed.{Keyed, left_with}
use Rattle.cc_heaps.specs.Changes.{native_name}
use Rattle.cc_heaps.specs.Keeping.{KeepsAll}
use Rattle.cc_heaps.specs.Leaving.{NoneCame}
use Rattle.cc_heaps.specs.Standing.{IsReached, StandsAfter}
use Rattle.cc_host.specs.Hosted.{spare}
use Rattle.cc_host.specs.Missing.{KeepsDoomed}
use Rattle.cc_host.specs.Changes.{IsChange}

-- IT IS HELD: nothing is given up, since the register held nothing
pub record IsHeld (key : NKey) (old new : Keyed) : Type 0 where
  pub kept : KeepsAll old new
  pub heap : new.heap ≡ set_register (take_up old.heap (native_name old (Some key))) (N spare) (native_name old (Some key))
  pub held : register new.heap (N spare) ≡ native_name old (Some key)
  pub stands : IsReached old.heap (native_name old (Some key)) → StandsAfter old.heap new.heap (λ g. graph.set_register g (N spare) (native_name old (Some key)))
  pub doomed : IsReached old.heap (native_name old (Some key)) → KeepsDoomed old.heap new.heap
  -- the same objects are there, at the same keys, and natives have the same slots
  pub keys : new.keys ≡ old.keys
  pub scripts : new.scripts ≡ old.scripts
  pub names : names_there new.heap ≡ names_there old.heap
  pub slots : (k : ℕ) → slots_now (native_at new.heap k) ≡ slots_now (native_at old.heap k)
  -- what is reached stays reached
  pub reached : (x : Option Name) → IsReached old.heap x → IsReached new.heap x

-- IT IS LET GO: the register is empty again
pub record IsLetGo (old new : Keyed) : Type 0 where
  pub change : IsChange (Unit {0}) (λ g. graph.set_register g (N spare) None) old new
  pub given_up : new ≡ left_with old (hold_native old.heap spare None).heap
  pub none_came : NoneCame old.heap new.heap
