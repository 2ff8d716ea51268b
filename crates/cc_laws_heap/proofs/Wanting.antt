-- WHAT TAKES MEMORY MAY WANT IT: what takes memory in the heaps may want it for the graph that these stand for.
use Rattle.std.proofs.Common.{◌≡◌, ℕ, true, false, not, Option, Some, is_none, refl, sym, ◌∙◌, ap, subst, arith}
use Rattle.std.specs.Prelude.{IsTrue}
use Rattle.std.proofs.lemmas.Bool.{false≢true, not-true}
use Rattle.cc_lists.specs.Members.{has}
use Rattle.cc_names.specs.declared.name.Name.{Name}
use Rattle.cc_names.specs.declared.name.Name.TheVariants as name
use Rattle.cc_names.specs.declared.register.Reg.TheVariants.{N, S}
use Rattle.cc_names.specs.Names.{reflector, same_name}
use Rattle.cc_model.specs.declared.command.Command.{Command}
use Rattle.cc_model.specs.declared.command.Command.TheVariants.{Wrap, SetEntry}
use Rattle.cc_model.specs.Checks.{reflector_of}
use Rattle.cc_model.specs.Effects.{takes_memory, lacks_reflector}
use Rattle.cc_model.specs.Heap.{Heap, register, has_reflector}
use Rattle.cc_model.specs.Lawful.{State, deed_may_want_memory, is_listed}
use Rattle.cc_model.specs.StandsFor.{StandsFor}
use Rattle.cc_laws_heap.proofs.RepliesAlike.{objects-stand}

-- A command that takes memory in the heaps may want it, where `wrap` finds no reflector listed that is not there.
pub takes-may_want : (h : Heap) (s : State) (c : Command) → StandsFor h s.graph →
    ((d n k : ℕ) → c ≡ Wrap d n → has_reflector h k ≡ false → has same_name s.listed (reflector k) ≡ false) →
    takes_memory h c ≡ true → IsTrue (deed_may_want_memory s c)
takes-may_want h s (SetEntry m k (Some v)) stands unlisted takes = sym (ap is_none ((objects-stand h s.graph stands).value (S m) (S k))) ∙ takes
takes-may_want h s (Wrap d n) stands unlisted takes =
    subst (λ x. not (is_listed s.listed (reflector_of x)) ≡ true) ((objects-stand h s.graph stands).register (N n)) (go (register h (N n)) takes)
  where
    go : (x : Option Name) → lacks_reflector h x ≡ true → not (is_listed s.listed (reflector_of x)) ≡ true
    go (Some (name.Native k)) e = ap not (unlisted d n k.0 refl (not-true (has_reflector h k.0) e))
    go _ e = absurd (false≢true e)
takes-may_want h s c stands unlisted takes = grind arith
