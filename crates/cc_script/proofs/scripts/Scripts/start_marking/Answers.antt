use Rattle.std.proofs.Common.{List, [], ap, subst, ◌∙◌}
use Rattle.cc_names.specs.declared.kind.Colour.{Colour}
use Rattle.cc_script.specs.declared.parts.ScriptParts.{ScriptParts}
use Rattle.cc_script.specs.Objects.{HaveOwnKeys, Object}
use Rattle.cc_script.specs.Parts.{lists_of, shows}
use Rattle.cc_script.specs.Underway.{Underway}
use Rattle.cc_script.proofs.Places.{object_at-own}
use Rattle.cc_script.proofs.scripts.Scripts.start_marking.Goals as goal

-- these objects, of which none waits
abbrev begun : Colour → List Object → Underway
begun to objects = record { objects = objects; waiting = []; to = to }

pub returns-clause-marking : goal.returns-clause-marking
returns-clause-marking c =
    c.begin.ensures
    ∙ (ap (λ (p : ScriptParts). begun c.args.to (shows p)) c.replace-parts.ensures.value
    ∙ ap (begun c.args.to) c.self.view_is)

pub returns-clause-own : goal.returns-clause-own
returns-clause-own c = subst HaveOwnKeys c.self.view_is (object_at-own (lists_of c.self.inside.parts) c.self.invariant.placed)
