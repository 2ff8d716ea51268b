-- AN ANSWER IS LAWFUL where its events may come one after the other, and its reply may end it.
use Rattle.std.proofs.Common.{◌≡◌, ◌≢◌, Bool, true, false, not, ◌&&◌, ⊎_elim, inl, inr, List, [], Some, nat_le, refl, sym, ap, subst, ◌∙◌, arith}
use Rattle.std.proofs.lemmas.Bool.{and_parts, and_from, and_right, or_right, false≢true, true≢false, leb-true, le-leb, not_from_false}
use Rattle.cc_model.specs.declared.command.Command.{Command}
use Rattle.cc_model.specs.declared.item.Refusal.TheVariants.{NoMemory}
use Rattle.cc_model.specs.declared.item.Reply.{Reply}
use Rattle.cc_model.specs.declared.item.Reply.TheVariants.{Refused}
use Rattle.cc_model.specs.declared.item.Event.{Event}
use Rattle.cc_model.specs.Graph.{Graph, objects_of}
use Rattle.cc_model.specs.Lawful.{AnswersCommand, EachMayBe, WantsMemory, begins_with_at_most_one, ends_with_one, step_with, reply_with, graph_after, has_abandonment_in_place, has_none, is_abandoning, is_gc, is_refused, is_without_memory, runs, runs_allowed, runs_units, unlinked_numbers}
use Rattle.cc_verdict.specs.Following.{Place}
use Rattle.cc_verdict.specs.Hearing.{Told, nothing_told, EndsAbandoned, EndsAsTheGraph, MayEnd, hearing}
use Rattle.cc_verdict.proofs.Came.{came-each, came-ending, came-first, came-rising, came-whole}
use Rattle.cc_verdict.proofs.Comes.{EachMayCome, none-told, runs-from_none, stays-unabandoned, told_all, unabandoned, with_all}
use Rattle.cc_verdict.proofs.Coming.{HasFewRuns, coming-ending, coming-first, coming-whole}
use Rattle.cc_verdict.proofs.Stays.{gc-no_units, reply-granted, graph_after-granted, units-allowed, units-no_gc, units-stay, units-want}

-- whether an abandonment stands at most where the command allows one, want of memory aside
abbrev is_whole : Command → List Event → Bool
is_whole c es = elim (is_gc c) [ true ↦ begins_with_at_most_one es | false ↦ has_none es ]

in-place : (c : Command) (reply : Reply) (es : List Event) (b : Bool) → is_abandoning c reply ≡ b →
    has_abandonment_in_place c reply es ≡ elim b [ true ↦ ends_with_one es | false ↦ is_whole c es ]
in-place c reply es b e = ap (λ (a : Bool). elim a [ true ↦ ends_with_one es | false ↦ is_whole c es ]) e

-- what events tell
abbrev told_by : Place → List Event → Told
told_by p es = told_all (nothing_told p.state.listed p.state.ended) es

-- a reply that may end an answer takes the graph to its step
pub ended-graph : (p : Place) (c : Command) (es : List Event) (reply : Reply) → MayEnd (with_all (hearing p c) es) reply →
    graph_after p.state.ended p.state.graph c (Some reply) ≡ step_with p.state.ended p.state.graph c
ended-graph p c es reply ends = ⊎_elim
    (λ (r : EndsAsTheGraph (with_all (hearing p c) es) reply). ap (λ (q : Reply). graph_after p.state.ended p.state.graph c (Some q)) r.same ∙ graph_after-granted p.state.ended p.state.graph c)
    (λ (r : EndsAbandoned (with_all (hearing p c) es) reply). ap (λ (q : Reply). graph_after p.state.ended p.state.graph c (Some q)) r.refused ∙ sym (units-stay p.state.ended p.state.graph c r.units))
    ends

-- Heard answers are lawful

module _ (p : Place) (c : Command) (es : List Event) (reply : Reply) (came : EachMayCome (hearing p c) es) where
  heard-rising : nat_le (runs (unlinked_numbers es)) (runs_allowed c) ≡ true
  heard-rising = le-leb _ _ (omega (arith, came-rising (hearing p c) es came (omega arith), runs-from_none (unlinked_numbers es)))

  heard-each : MayEnd (with_all (hearing p c) es) reply → EachMayBe (graph_after p.state.ended p.state.graph c (Some reply)) p.state.listed c es
  heard-each ends = subst (λ (g : Graph). EachMayBe g p.state.listed c es) (sym (ended-graph p c es reply ends)) (came-each (hearing p c) es came)

  -- Answers that end as the graph says

  graph-whole : EndsAsTheGraph (with_all (hearing p c) es) reply → is_whole c es ≡ true
  graph-whole r = go (is_gc c) refl
    where
      by_units : is_gc c ≡ false → (u : Bool) → runs_units c ≡ u → has_none es ≡ true
      by_units g true u = unabandoned (nothing_told p.state.listed p.state.ended) es (r.whole u)
      by_units g false u = came-whole (hearing p c) es g u came

      go : (gc : Bool) → is_gc c ≡ gc → elim gc [ true ↦ begins_with_at_most_one es | false ↦ has_none es ] ≡ true
      go true g = came-first (hearing p c) es g came
      go false g = by_units g (runs_units c) refl

  graph-answers : EndsAsTheGraph (with_all (hearing p c) es) reply → AnswersCommand p.state c reply es
  graph-answers r =
      let granted : is_without_memory reply ≡ false = ap is_without_memory r.same ∙ reply-granted p.state.ended p.state.graph c in
      record {
        replies = inl r.same;
        quiet = λ q. none-told (nothing_told p.state.listed p.state.ended) es (r.quiet (and_parts (is_refused reply) (not (is_abandoning c reply)) q).0);
        each = heard-each (inl r);
        rising = heard-rising;
        abandonment = in-place c reply es false (and_right (runs_units c) (is_without_memory reply) granted) ∙ graph-whole r;
      }

  -- answers that end abandoned are lawful
  abandoned-answers : EndsAbandoned (with_all (hearing p c) es) reply → AnswersCommand p.state c reply es
  abandoned-answers r =
      let abandoning : is_abandoning c reply ≡ true = and_from (runs_units c) (is_without_memory reply) r.units (ap is_without_memory r.refused) in
      record {
        replies = inr (record { refused = r.refused; command_may = units-want p.state c r.units; no_other = units-allowed (objects_of p.state.graph) c r.units });
        quiet = λ q. absurd (false≢true (sym (ap not abandoning) ∙ (and_parts (is_refused reply) (not (is_abandoning c reply)) q).1));
        each = heard-each (inr r);
        rising = heard-rising;
        abandonment = in-place c reply es true abandoning ∙ came-ending (hearing p c) es (units-no_gc c r.units) refl came r.abandoned;
      }

  pub heard-answers : MayEnd (with_all (hearing p c) es) reply → AnswersCommand p.state c reply es
  heard-answers ends = ⊎_elim graph-answers abandoned-answers ends

-- Lawful answers are heard

module _ (p : Place) (c : Command) (es : List Event) (reply : Reply) (a : AnswersCommand p.state c reply es) where
  few-runs : HasFewRuns (hearing p c) es
  few-runs = omega (arith, leb-true _ _ a.rising, runs-from_none (unlinked_numbers es))

  none-refused : is_refused reply ≡ true → is_abandoning c reply ≡ false → es ≡ []
  none-refused r n = a.quiet (and_from (is_refused reply) (not (is_abandoning c reply)) r (not_from_false (is_abandoning c reply) n))

  -- answers that end as the graph says are heard
  graph-heard : reply ≡ reply_with p.state.ended p.state.graph c → EachMayCome (hearing p c) es × MayEnd (with_all (hearing p c) es) reply
  graph-heard same = go (is_gc c) refl
    where
      granted : is_abandoning c reply ≡ false
      granted = and_right (runs_units c) (is_without_memory reply) (ap is_without_memory same ∙ reply-granted p.state.ended p.state.graph c)

      each : EachMayBe (step_with p.state.ended p.state.graph c) p.state.listed c es
      each = subst (λ (g : Graph). EachMayBe g p.state.listed c es)
          (ap (λ (q : Reply). graph_after p.state.ended p.state.graph c (Some q)) same ∙ graph_after-granted p.state.ended p.state.graph c) a.each

      whole : is_whole c es ≡ true
      whole = sym (in-place c reply es false granted) ∙ a.abandonment

      ends : (runs_units c ≡ true → (told_by p es).abandoned ≡ false) → MayEnd (with_all (hearing p c) es) reply
      ends w = inl (record {
        same = same;
        quiet = λ r. ap (λ (fs : List Event). (told_by p fs).any) (none-refused r granted);
        whole = w;
      })

      go : (gc : Bool) → is_gc c ≡ gc → EachMayCome (hearing p c) es × MayEnd (with_all (hearing p c) es) reply
      go true g =
          let first : begins_with_at_most_one es ≡ true = sym (ap (λ (b : Bool). elim b [ true ↦ begins_with_at_most_one es | false ↦ has_none es ]) g) ∙ whole in
          (coming-first (hearing p c) es g refl first each few-runs, ends (λ u. absurd (true≢false (sym u ∙ gc-no_units c g))))
      go false g =
          let none : has_none es ≡ true = sym (ap (λ (b : Bool). elim b [ true ↦ begins_with_at_most_one es | false ↦ has_none es ]) g) ∙ whole in
          (coming-whole (hearing p c) es (or_right (is_gc c) true refl) none each few-runs, ends (λ u. stays-unabandoned (nothing_told p.state.listed p.state.ended) es none))

  -- answers that end with want of memory are heard, where an event comes before it
  unmet-heard : (es ≡ [] → reply ≢ Refused NoMemory) → WantsMemory p.state c reply → EachMayCome (hearing p c) es × MayEnd (with_all (hearing p c) es) reply
  unmet-heard some w = go (runs_units c) refl
    where
      go : (units : Bool) → runs_units c ≡ units → EachMayCome (hearing p c) es × MayEnd (with_all (hearing p c) es) reply
      go false u =
          let none : is_abandoning c reply ≡ false = ap (λ (b : Bool). b && is_without_memory reply) u in
          absurd (some (none-refused (ap is_refused w.refused) none) w.refused)
      go true u =
          let abandoning : is_abandoning c reply ≡ true = and_from (runs_units c) (is_without_memory reply) u (ap is_without_memory w.refused) in
          let ends : ends_with_one es ≡ true = sym (in-place c reply es true abandoning) ∙ a.abandonment in
          let each : EachMayBe (step_with p.state.ended p.state.graph c) p.state.listed c es = subst (λ (g : Graph). EachMayBe g p.state.listed c es)
          (ap (λ (q : Reply). graph_after p.state.ended p.state.graph c (Some q)) w.refused ∙ sym (units-stay p.state.ended p.state.graph c u)) a.each in
          let come = coming-ending (hearing p c) es u refl ends each few-runs in
          (come.0, inr (record { refused = w.refused; units = u; abandoned = come.1 }))

  pub answers-heard : (es ≡ [] → reply ≢ Refused NoMemory) → EachMayCome (hearing p c) es × MayEnd (with_all (hearing p c) es) reply
  answers-heard some = ⊎_elim graph-heard (unmet-heard some) a.replies
