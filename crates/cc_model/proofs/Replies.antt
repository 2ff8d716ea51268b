-- The reply that says want of memory.
use Rattle.std.proofs.Common.{◌≡◌, true, refl}
use Rattle.std.proofs.lemmas.Bool.{false≢true}
use Rattle.cc_model.specs.declared.item.Refusal.TheVariants.{NoMemory}
use Rattle.cc_model.specs.declared.item.Reply.{Reply}
use Rattle.cc_model.specs.declared.item.Reply.TheVariants.{Refused}
use Rattle.cc_model.specs.Lawful.{is_without_memory}

-- a reply of which the test says so is `! nomem`
pub is_without_memory-true : (r : Reply) → is_without_memory r ≡ true → r ≡ Refused NoMemory
is_without_memory-true (Refused NoMemory) e = refl
is_without_memory-true _ e = absurd (false≢true e)
