use Rattle.std.proofs.Common.{◌≡◌, ℕ, Bool, true, false, List, [], ◌∷◌, ◌++◌, get_or, drop, inl, inr, refl, sym, ap, subst, ⊎_elim, eq-eqb}
use Rattle.std.proofs.lemmas.Bool.{false≢true}
use Rattle.cc_model.specs.declared.command.Command.TheVariants as command
use Rattle.cc_model.specs.declared.item.Refusal.TheVariants as refusal
use Rattle.cc_model.specs.declared.item.Reply.TheVariants as reply
use Rattle.cc_model.specs.Answers.{Answer, Step, items_of, explaining, replying}
use Rattle.cc_model.specs.Asks.{Ask, taken}
use Rattle.cc_model.specs.Derivations.{done_or_nothing, is_led_to, leads_made, path_to, why_of}
use Rattle.cc_model.specs.Texts.{text_of_reply}
use Rattle.cc_verdict.specs.Following.{Follows, Recites, lines_of_items, place_after}
use Rattle.cc_verdict.proofs.Turns.{follows-first, first-follows, why-quiet}
use Rattle.cc_verdict.proofs.answers.reasons_are_recited.Goals as goal

-- the first byte of lines
abbrev first_byte : List (List ℕ) → ℕ
first_byte lines = get_or (get_or lines 0 []) 0 0

-- steps, or a reply, are no want of memory
no-memory : (path : List Step) (led : Bool) (lines rest : List (List ℕ)) →
    ¬ (text_of_reply (reply.Refused refusal.NoMemory) ∷ lines ≡ lines_of_items (items_of (explaining path (done_or_nothing led))) ++ rest)
no-memory [] true lines rest e = false≢true (eq-eqb 33 61 (ap first_byte e))
no-memory [] false lines rest e = false≢true (eq-eqb 33 61 (ap first_byte e))
no-memory (s ∷ path) led lines rest e = false≢true (eq-eqb 33 58 (ap first_byte e))

pub returns-clause-refused : goal.returns-clause-refused
returns-clause-refused c = λ p x asks lines.
    let ask : Ask = taken (command.Why x) in
    let unmet : Answer = replying [] (reply.Refused refusal.NoMemory) in
    let told : Answer = why_of (leads_made p.state.graph) x in
    let all : List (List ℕ) = text_of_reply (reply.Refused refusal.NoMemory) ∷ lines in (
      (λ f. let t = follows-first p ask asks all f in ⊎_elim
          (λ e. let r : Recites (items_of told) (place_after p ask told) asks all =
          subst (λ (a : Answer). Recites (items_of a) (place_after p ask a) asks all) e t.1.recites in
          absurd (no-memory (path_to (leads_made p.state.graph) x) (is_led_to (leads_made p.state.graph) x) lines r.rest r.lines_are))
          (λ e. let r : Recites (items_of unmet) (place_after p ask unmet) asks all =
          subst (λ (a : Answer). Recites (items_of a) (place_after p ask a) asks all) e t.1.recites in
          subst (Follows (place_after p ask unmet) asks) (sym (ap (drop 1) r.lines_are)) r.follows)
          t.1.lawful),
      (λ f. first-follows p ask asks all unmet (record {
        lawful = inr refl;
        quiet = why-quiet p.row p.state x;
        recites = record { rest = lines; lines_are = refl; follows = f };
      })),
    )

pub returns-clause-told : goal.returns-clause-told
returns-clause-told c = λ p x asks line lines other.
    let ask : Ask = taken (command.Why x) in
    let unmet : Answer = replying [] (reply.Refused refusal.NoMemory) in
    let told : Answer = why_of (leads_made p.state.graph) x in (
      (λ f. let t = follows-first p ask asks (line ∷ lines) f in ⊎_elim
          (λ e. subst (λ (a : Answer). Recites (items_of a) (place_after p ask a) asks (line ∷ lines)) e t.1.recites)
          (λ e. let r : Recites (items_of unmet) (place_after p ask unmet) asks (line ∷ lines) =
          subst (λ (a : Answer). Recites (items_of a) (place_after p ask a) asks (line ∷ lines)) e t.1.recites in
          absurd (other (ap (λ ls. get_or ls 0 []) r.lines_are)))
          t.1.lawful),
      (λ r. first-follows p ask asks (line ∷ lines) told (record { lawful = inl refl; quiet = why-quiet p.row p.state x; recites = r })),
    )
