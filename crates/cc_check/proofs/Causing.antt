-- WHY AN EVENT MAY NOT COME, by the tests that it does not pass.
use Rattle.std.proofs.Common.{◌≡◌, ℕ, replicate, lit<, Bool, true, false, ◌&&◌, List, [], ◌∷◌, refl, sym, ap, ◌∙◌, subst}
use Rattle.std.specs.Prelude.{IsTrue, nat_le}
use Rattle.std.proofs.lemmas.Bool.{and_from, true≢false}
use Rattle.cc_lists.specs.Members.{Among, has}
use Rattle.cc_lists.proofs.Members.{has-there}
use Rattle.cc_names.specs.declared.name.Name.{Name}
use Rattle.cc_names.specs.Names.{same_name}
use Rattle.cc_names.proofs.NameTests.{same_name-exact}
use Rattle.cc_model.specs.declared.command.Command.{Command}
use Rattle.cc_model.specs.declared.item.Event.{Event}
use Rattle.cc_model.specs.declared.item.Event.TheVariants.{Unlinked, Freed, Abandoned}
use Rattle.cc_model.specs.Answers.{Step}
use Rattle.cc_model.specs.Derivations.{leads_made, path_to, needed_for, named}
use Rattle.cc_model.specs.Graph.{Graph}
use Rattle.cc_model.specs.Lawful.{may_free, may_unlink, runs_allowed}
use Rattle.cc_model.specs.Reached.{Reached}
use Rattle.cc_model.specs.WellMade.{IsWellMade}
use Rattle.cc_verdict.specs.Hearing.{Hearing, IsOfGarbage, MayCome, Told, may_come, may_go_on, runs_with}
use Rattle.cc_check.specs.declared.heard.Heard.{Heard}
use Rattle.cc_check.specs.declared.heard.Heard.TheVariants.{Text, Long}
use Rattle.cc_check.specs.declared.known.Known.{Known}
use Rattle.cc_check.specs.Causes.{may_have, names_in}
use Rattle.cc_check.specs.Standing.{IsFoundIn, IsHeard}
use Rattle.cc_check.proofs.Found.{found-reached, reached-found}

-- events of kinds that may come
pub freed-may : (c : Command) (t : Told) (x : Name) → may_have c (Freed x) ≡ true → may_go_on c t ≡ true → IsTrue (may_come c t (Freed x))
freed-may c t x had on = and_from (may_free c x) (may_go_on c t) had on

pub unlinked-may : (c : Command) (t : Told) (x : Name) → may_have c (Unlinked x) ≡ true → may_go_on c t ≡ true → nat_le (runs_with t x) (runs_allowed c) ≡ true →
    IsTrue (may_come c t (Unlinked x))
unlinked-may c t x had on runs = and_from (may_unlink c x) (may_go_on c t && nat_le (runs_with t x) (runs_allowed c)) had
    (and_from (may_go_on c t) (nat_le (runs_with t x) (runs_allowed c)) on runs)

-- what is listed and not reached is garbage
garbage-from : (g : Graph) (names : List Name) (e : Event) (x : Name) → names_in e ≡ x ∷ [] → Among x names → (¬ (Reached g x)) → IsOfGarbage g names e
garbage-from g names (Freed y) x of m n = let same : y ≡ x = cc in subst (λ z. Among z names × (¬ (Reached g z))) (sym same) (m, n)
garbage-from g names (Unlinked y) x of m n = let same : y ≡ x = cc in subst (λ z. Among z names × (¬ (Reached g z))) (sym same) (m, n)
garbage-from g names Abandoned x of m n = tt

-- so what is listed and may not be freed or unlinked, where others may, is reached
pub reached-then : (h : Hearing) (k : Known) (e : Event) (x : Name) → IsWellMade h.graph → IsFoundIn k h.graph → IsTrue (may_come h.command h.told e) → names_in e ≡ x ∷ [] →
    Among x h.told.names → ¬ (MayCome h e) → Reached h.graph x
reached-then h k e x well found may of m n = go (has same_name (named k.reach) x) refl
  where
    go : (b : Bool) → has same_name (named k.reach) x ≡ b → Reached h.graph x
    go true t = found-reached h.graph k x well found t
    go false t = absurd (n (record { kind = may; garbage = garbage-from h.graph h.told.names e x of m (λ r. true≢false (sym (reached-found h.graph k x well found r) ∙ t)) }))

-- the steps that were found are those of the definition
pub steps-are : (g : Graph) (k : Known) (x : Name) (steps : List Step) → IsFoundIn k g → steps ≡ (needed_for k.reach (x ∷ [])).steps → steps ≡ path_to (leads_made g) x
steps-are g k x steps found is = is ∙ ap (λ (ss : List Step). (needed_for ss (x ∷ [])).steps) found

-- what no test finds is not listed
pub not-among : (names : List Name) (x : Name) → has same_name names x ≡ false → ¬ (Among x names)
not-among names x e m = true≢false (sym (has-there same_name same_name-exact names x m) ∙ e)

-- Lines that were heard

-- there is one
pub heard-some : (heard : Heard) → (line : List ℕ) × IsHeard heard line
heard-some (Text text) = (text.now, refl)
heard-some Long = (replicate 121 0, lit< tt)
