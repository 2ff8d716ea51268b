use Rattle.std.proofs.Common.{refl, sym, ◌∙◌, subst, Option, IfSome}
use Rattle.cc_lists.specs.Members.{Among}
use Rattle.cc_names.specs.declared.number.NKey.{NKey}
use Rattle.cc_walk.specs.Walks.{gone_on}
use Rattle.cc_walk.proofs.WalkLists.{first-waits}
use Rattle.cc_counted.specs.Stored.{Stored}
use Rattle.cc_counted.specs.Natives.{lists_of}
use Rattle.cc_counted.proofs.Threading.{stored-walk}
use Rattle.cc_counted.proofs.natives.Natives.walk_next.Goals as goal
use Rattle.cc_counted.proofs.natives.Natives.walk_next.Goals.{in-Some, in-None}

pub invariant_of-self : goal.invariant_of-self
invariant_of-self c = (stored-walk c.self.inside c.self.invariant _ c.self.view_is c.self.inside.nodes _ gone_on refl (c.give.ensures.walk (lists_of c.self.inside).walk c.self.invariant.chained.walk)).1

pub returns-clause-lists : goal.returns-clause-lists
returns-clause-lists c = (stored-walk c.self.inside c.self.invariant _ c.self.view_is c.self.inside.nodes _ gone_on refl (c.give.ensures.walk (lists_of c.self.inside).walk c.self.invariant.chained.walk)).0

pub returns-clause-new : goal.returns-clause-new
returns-clause-new c =
    let walk = c.self.invariant.chained.walk in
    let P : Option NKey → Type 0 = λ o. IfSome o (λ k. ¬ (Among k.0 (lists_of c.self.inside).walk.given)) in
    subst (λ (s : Stored). IfSome c.match-give.result (λ k. ¬ (Among k.0 s.lists.walk.given))) c.self.view_is
    (elim c.match-give.branch [
      | in-Some b ↦ subst P (sym b.result-is)
          (first-waits _ _ (lists_of c.self.inside).walk walk b.in-Some.key (sym (c.give.ensures.first (lists_of c.self.inside).walk walk) ∙ b.in-Some.is))
      | in-None b ↦ subst P (sym b.result-is) tt
    ])
