-- WHERE LINES GO ON, the check can go on.
use Rattle.std.proofs.Common.{◌≡◌, ℕ, false, not, ◌&&◌, List, [], ◌∷◌, sym, ap, subst, ◌∙◌, ⊎_elim}
use Rattle.std.specs.Prelude.{IsTrue}
use Rattle.std.proofs.lemmas.Bool.{and_parts, false≢true, true≢false}
use Rattle.cc_model.specs.declared.command.Command.TheVariants.{Nothing}
use Rattle.cc_model.specs.Answers.{Answer, items_of}
use Rattle.cc_model.specs.Asks.{Ask, taken}
use Rattle.cc_model.specs.Lawful.{is_refused, runs_units}
use Rattle.cc_verdict.specs.Following.{Follows, Place, Recites, place_after}
use Rattle.cc_verdict.specs.Hearing.{EndsAbandoned, EndsAsTheGraph, Hearing, Hears, comes, ends}
use Rattle.cc_verdict.specs.GoingOn.{CanAnswer}
use Rattle.cc_verdict.proofs.Comes.{after-any}
use Rattle.cc_verdict.proofs.Turns.{follows-first}

-- what is answered can be
pub follows-can : (p : Place) (asks : List Ask) (lines : List (List ℕ)) → Follows p asks lines → CanAnswer p asks
follows-can p [] lines f = tt
follows-can p (taken Nothing ∷ asks) lines f =
    let t = follows-first p (taken Nothing) asks lines f in
    let r = subst (λ (a : Answer). Recites (items_of a) (place_after p (taken Nothing) a) asks lines) t.1.lawful t.1.recites in
    follows-can p asks lines (subst (Follows p asks) (sym r.lines_are) r.follows)
follows-can p (ask ∷ asks) lines f = (follows-first p ask asks lines f).1.quiet

-- the graph's refusal ends no answer with events
pub hears-can : (asks : List Ask) {h : Hearing} {lines : List (List ℕ)} → Hears asks h lines → IsTrue (is_refused h.reply && not (runs_units h.command)) → h.told.any ≡ false
hears-can asks (ends h reply line lines e may f) r =
    let p = and_parts (is_refused h.reply) (not (runs_units h.command)) r in ⊎_elim
    (λ (a : EndsAsTheGraph h reply). a.quiet (ap is_refused a.same ∙ p.0))
    (λ (a : EndsAbandoned h reply). absurd (false≢true (sym (ap not a.units) ∙ p.1)))
    may
hears-can asks (comes h e line lines is may more) r = absurd (true≢false (sym (after-any h.told e) ∙ hears-can asks more r))
