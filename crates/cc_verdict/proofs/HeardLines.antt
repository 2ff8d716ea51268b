-- THE FIRST LINE OF AN ANSWER THAT IS HEARD, where it is that of an event or of a reply.
use Rattle.std.proofs.Common.{◌≡◌, ℕ, ◌^◌, ◌<◌, List, [], ◌∷◌, get_or, drop, sym, ap, subst, ◌∙◌}
use Rattle.cc_model.specs.declared.item.Event.{Event}
use Rattle.cc_model.specs.declared.item.Reply.{Reply}
use Rattle.cc_model.specs.Asks.{Ask}
use Rattle.cc_model.specs.Texts.{text_of_event, text_of_reply}
use Rattle.cc_verdict.specs.Following.{Follows}
use Rattle.cc_verdict.specs.Hearing.{Hearing, Hears, MayCome, MayEnd, comes, ends, place_ended, with_told}
use Rattle.cc_verdict.specs.Numbers.{number_in_event, number_in_reply}
use Rattle.cc_verdict.proofs.TextsApart.{event-told_apart, reply-no_event, reply-told_apart}

-- the same lines have the same first line
first-line : (k l : List ℕ) (ks ls : List (List ℕ)) → k ∷ ks ≡ l ∷ ls → k ≡ l
first-line k l ks ls e = ap (λ (lines : List (List ℕ)). get_or lines 0 []) e

-- what may follow where the first line is that of an event
pub hears-event : (asks : List Ask) {h : Hearing} {all : List (List ℕ)} → Hears asks h all → (e : Event) (lines : List (List ℕ)) → number_in_event e < 2 ^ 32 →
    all ≡ text_of_event e ∷ lines → MayCome h e × Hears asks (with_told h e) lines
hears-event asks (ends h reply line rest is may f) e lines small same =
    absurd (reply-no_event e reply (sym is ∙ first-line line (text_of_event e) rest lines same))
hears-event asks (comes h f line rest is may more) e lines small same =
    let told : e ≡ f = event-told_apart e f small (sym (first-line line (text_of_event e) rest lines same) ∙ is) in (
      subst (MayCome h) (sym told) may,
      subst (λ (g : Event). Hears asks (with_told h g) lines) (sym told) (subst (Hears asks (with_told h f)) (ap (drop 1) same) more),
    )

-- what may follow where the first line is that of a reply
pub hears-reply : (asks : List Ask) {h : Hearing} {all : List (List ℕ)} → Hears asks h all → (r : Reply) (lines : List (List ℕ)) → number_in_reply r < 2 ^ 32 →
    all ≡ text_of_reply r ∷ lines → MayEnd h r × Follows (place_ended h r) asks lines
hears-reply asks (ends h q line rest is may f) r lines small same =
    let told : r ≡ q = reply-told_apart r q small (sym (first-line line (text_of_reply r) rest lines same) ∙ is) in (
      subst (MayEnd h) (sym told) may,
      subst (λ (s : Reply). Follows (place_ended h s) asks lines) (sym told) (subst (Follows (place_ended h q) asks) (ap (drop 1) same) f),
    )
hears-reply asks (comes h e line rest is may more) r lines small same =
    absurd (reply-no_event e r (sym (first-line line (text_of_reply r) rest lines same) ∙ is))
