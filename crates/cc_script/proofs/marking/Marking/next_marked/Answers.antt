use Rattle.std.proofs.Common.{◌∙◌, ap, sym, subst}
use Rattle.cc_script.specs.Objects.{AreWhole, is_there}
use Rattle.cc_script.specs.Marking.{Marking}
use Rattle.cc_script.specs.Parts.{marking_of}
use Rattle.cc_script.proofs.Underway.{there-looked, whole-looked}
use Rattle.cc_script.specs.Underway.{Underway}
use Rattle.cc_script.proofs.marking.Marking.next_marked.Goals as goal

pub look_into_first-requires-clause-whole : goal.look_into_first-requires-clause-whole
look_into_first-requires-clause-whole c = subst (λ (u : Underway). AreWhole u.objects) (sym c.self.view_is) c.requires.whole

pub returns-clause-there : goal.returns-clause-there
returns-clause-there c k =
    ap (λ (m : Marking). is_there m.objects k) c.look_into_first.ensures.looked
    ∙ (there-looked c.self.inside.to (marking_of c.self.inside.parts) k
    ∙ ap (λ (u : Underway). is_there u.objects k) c.self.view_is)

pub returns-clause-whole : goal.returns-clause-whole
returns-clause-whole c =
    subst (λ (m : Marking). AreWhole m.objects) (sym c.look_into_first.ensures.looked)
    (whole-looked c.self.inside.to (marking_of c.self.inside.parts) (subst (λ (u : Underway). AreWhole u.objects) (sym c.self.view_is) c.requires.whole))
