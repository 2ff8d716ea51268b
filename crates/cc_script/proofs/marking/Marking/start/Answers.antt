use Rattle.std.proofs.Common.{◌∙◌, ap, sym, subst}
use Rattle.cc_script.specs.Objects.{AreWhole, is_there}
use Rattle.cc_script.specs.Marking.{Marking}
use Rattle.cc_script.specs.Parts.{marking_of}
use Rattle.cc_script.specs.Underway.{Underway, IsMarked}
use Rattle.cc_script.proofs.Raising.{raise_key-there}
use Rattle.cc_script.proofs.Underway.{started-marked, whole-raised}
use Rattle.cc_script.proofs.marking.Marking.start.Goals as goal

pub invariant_of-self : goal.invariant_of-self
invariant_of-self c = record {
  under_way = c.raise.ensures.under_way;
  marked = subst (IsMarked c.self.inside.to) (sym c.raise.ensures.raises) (started-marked c.self.inside.to c.args.key.0 (marking_of c.self.inside.parts) c.self.invariant.marked);
}

pub returns-clause-there : goal.returns-clause-there
returns-clause-there c k =
    ap (λ (m : Marking). is_there m.objects k) c.raise.ensures.raises
    ∙ (raise_key-there c.self.inside.to c.args.key.0 (marking_of c.self.inside.parts) k
    ∙ ap (λ (u : Underway). is_there u.objects k) c.self.view_is)

pub returns-clause-whole : goal.returns-clause-whole
returns-clause-whole c h =
    subst (λ (m : Marking). AreWhole m.objects) (sym c.raise.ensures.raises)
    (whole-raised c.self.inside.to c.args.key.0 (marking_of c.self.inside.parts) (subst (λ (u : Underway). AreWhole u.objects) (sym c.self.view_is) h))
