-- A JUDGE IS KEPT where a command is done, an event comes, and an answer ends.
use Rattle.std.proofs.Common.{◌≡◌, ◌≤◌, Bool, true, false, ◌||◌, List, [], ◌∷◌, ◌++◌, Option, Some, None, refl, sym, ◌∙◌, ap, subst, inl, inr, ◌⊎◌, ⊎_elim}
use Rattle.std.specs.Prelude.{IsTrue}
use Rattle.std.proofs.lemmas.Bool.{cases_Bool, true≢false}
use Rattle.cc_lists.specs.Members.{Among, has, with_last}
use Rattle.cc_lists.proofs.Members.{Among-append, Among-filtered, has-among, has-there}
use Rattle.cc_names.specs.Allowance.{Allowance}
use Rattle.cc_names.specs.declared.name.Name.{Name}
use Rattle.cc_names.specs.Names.{same_name}
use Rattle.cc_names.proofs.NameTests.{same_name-exact}
use Rattle.cc_model.specs.declared.command.Command.{Command}
use Rattle.cc_model.specs.declared.command.Command.TheVariants.{Native, Script, WeakMap, Proxy, Wrap}
use Rattle.cc_model.specs.declared.item.Event.{Event}
use Rattle.cc_model.specs.declared.item.Event.TheVariants.{Unlinked, Freed, Abandoned}
use Rattle.cc_model.specs.declared.item.Reply.{Reply}
use Rattle.cc_model.specs.declared.item.Reply.TheVariants.{Named, Refused}
use Rattle.cc_model.specs.Graph.{Graph, empty_graph}
use Rattle.cc_model.specs.Lawful.{is_gc, is_refused, reply_with, runs_units, step_with}
use Rattle.cc_model.specs.Listed.{after_event, after_reply, ended_with}
use Rattle.cc_model.specs.Quiet.{Row}
use Rattle.cc_model.specs.Ranges.{in_range}
use Rattle.cc_model.specs.WellMade.{IsWellMade, was_made}
use Rattle.cc_laws_heap.proofs.Face.{step_with-well}
use Rattle.cc_verdict.specs.Hearing.{EndsAbandoned, EndsAsTheGraph, Hearing, MayEnd, Told, told_after, with_told}
use Rattle.cc_check.specs.declared.answer.Answer.{Answer}
use Rattle.cc_check.specs.declared.judge.Judge.{Judge}
use Rattle.cc_check.specs.Judging.{IsBetween}
use Rattle.cc_verdict.specs.GoingOn.{ListsAll, ListsAllAt, ListsAllIn}
use Rattle.cc_check.specs.Standing.{IsGranted, IsKept, IsNew, IsNewIn, IsOf, ListsAllOf, hearing_in, hearing_of, lists, makes, position_in, position_of, row_meant, told_of}
use Rattle.cc_check.proofs.BesideEnded.{Stays-step_with, reply_with-granted, reply_with-made, reply_with-new}

-- What is new

-- what was not made is not listed
unmade-unlisted : (g : Graph) (names : List Name) (x : Name) → ((y : Name) → Among y names → IsTrue (was_made g y)) → was_made g x ≡ false → has same_name names x ≡ false
unmade-unlisted g names x all unmade = ⊎_elim
    (λ e. absurd (true≢false (sym (all x (has-among same_name same_name-exact names x e)) ∙ unmade)))
    (λ e. e)
    (cases_Bool (has same_name names x))

-- what is listed after an event was listed before it
after_event-among : (names : List Name) (e : Event) (x : Name) → Among x (after_event names e) → Among x names
after_event-among names (Freed y) x m = Among-filtered _ x names m
after_event-among names (Unlinked y) x m = m
after_event-among names Abandoned x m = m

-- what is not listed is not listed after it
after_event-unlisted : (names : List Name) (e : Event) (x : Name) → has same_name names x ≡ false → has same_name (after_event names e) x ≡ false
after_event-unlisted names e x unlisted = ⊎_elim
    (λ t. absurd (true≢false (sym (has-there same_name same_name-exact names x
    (after_event-among names e x (has-among same_name same_name-exact (after_event names e) x t))) ∙ unlisted)))
    (λ t. t)
    (cases_Bool (has same_name (after_event names e) x))

pushed : (names : List Name) (y x : Name) → Among x (names ++ y ∷ []) → Among x names ⊎ (y ≡ x)
pushed names y x m = ⊎_elim (λ a. inl a) (λ b. ⊎_elim (λ e. inr e) (λ t. absurd t) b) (Among-append x names (y ∷ []) m)

pushed-last : (names : List Name) (y x : Name) → Among x (with_last same_name names y) → Among x names ⊎ (y ≡ x)
pushed-last names y x m = go (has same_name names y) m
  where
    go : (b : Bool) → Among x (elim b [ true ↦ names | false ↦ names ++ y ∷ [] ]) → Among x names ⊎ (y ≡ x)
    go true i = inl i
    go false i = pushed names y x i

-- what the reply puts in the list
abbrev Named-in : Command → Reply → Name → Type 0
Named-in c reply x = (reply ≡ Named x) × (lists c ≡ true)

named-in : (c : Command) (names : List Name) (y x : Name) → lists c ≡ true → Among x names ⊎ (y ≡ x) → Among x names ⊎ Named-in c (Named y) x
named-in c names y x l m = ⊎_elim (λ a. inl a) (λ e. inr (ap Named e, l)) m

-- what is listed after a reply was listed before it, or the reply names it
after_reply-cases : (names : List Name) (c : Command) (reply : Reply) (x : Name) → Among x (after_reply names c (Some reply)) → Among x names ⊎ Named-in c reply x
after_reply-cases names (Native d n) (Named y) x m = named-in (Native d n) names y x refl (pushed names y x m)
after_reply-cases names (Script d n) (Named y) x m = named-in (Script d n) names y x refl (pushed names y x m)
after_reply-cases names (WeakMap d) (Named y) x m = named-in (WeakMap d) names y x refl (pushed names y x m)
after_reply-cases names (Proxy d s) (Named y) x m = named-in (Proxy d s) names y x refl (pushed names y x m)
after_reply-cases names (Wrap d s) (Named y) x m = named-in (Wrap d s) names y x refl (pushed-last names y x m)
after_reply-cases names c reply x m = inl m

-- A reply that ends an answer and names something is that of the graph
ending-named : (h : Hearing) (reply : Reply) (x : Name) → MayEnd h reply → reply ≡ Named x → h.reply ≡ Named x
ending-named h reply x m e = ⊎_elim
    (λ (a : EndsAsTheGraph h reply). sym a.same ∙ e)
    (λ (a : EndsAbandoned h reply). let no : Refused _ ≡ Named x = sym a.refused ∙ e in absurd (cc))
    m

-- The judge

-- what is new in an answer that is heard
new-in : (j : Judge) (a : Answer) → IsKept j → j.answer ≡ Some a → IsNew j.graph j.listed a × (j.recital.items ≡ [])
new-in j a k e = subst (IsNewIn j) e k.new

-- the graph refuses no collection that is heard
pub granted-in : (j : Judge) (a : Answer) → IsKept j → j.answer ≡ Some a → IsTrue (is_gc a.command || runs_units a.command) → is_refused a.reply ≡ false
granted-in j a k e = subst IsGranted e k.granted

-- as nothing was asked yet
pub kept-new : (e : Judge) (limits : Allowance) → (limits.natives ≤ 1000000) × (limits.scripts ≤ 1000000) → e.graph ≡ empty_graph limits → e.listed ≡ [] → e.answer ≡ None →
    ((g : Graph) → IsOf e.known g) → ListsAll (empty_graph limits) [] → IsKept e
kept-new e limits small graph listed answer known all = record {
  well_made = subst IsWellMade (sym graph) all.well_made;
  limits = subst (λ (g : Graph). (g.limits.natives ≤ 1000000) × (g.limits.scripts ≤ 1000000)) (sym graph) small;
  listed = λ x m. absurd (subst (Among x) listed m);
  new = subst (IsNewIn e) (sym answer) tt;
  granted = subst IsGranted (sym answer) tt;
  all_listed = λ _. subst (ListsAllOf e) (sym answer) (subst (λ (g : Graph). ListsAll g e.listed) (sym graph) (subst (ListsAll (empty_graph limits)) (sym listed) all));
  known = known e.graph;
}

-- as the answer to a command begins
pub kept-step : (j e : Judge) (c : Command) (a : Answer) → IsBetween j → IsTrue (in_range c) → e.graph ≡ step_with j.ended j.graph c → e.listed ≡ j.listed →
    e.recital.items ≡ j.recital.items → e.answer ≡ Some a → a.command ≡ c → a.reply ≡ reply_with j.ended j.graph c → IsOf e.known (step_with j.ended j.graph c) →
    (e.has_read ≡ false → ListsAllIn (hearing_in e a)) → IsKept e
kept-step j e c a b r graph listed recital answer command reply known all = record {
  well_made = subst IsWellMade (sym graph) (step_with-well j.graph b.kept.well_made j.ended c r);
  limits = subst (λ (l : Allowance). (l.natives ≤ 1000000) × (l.scripts ≤ 1000000)) (sym (ap (λ (g : Graph). g.limits) graph ∙ (Stays-step_with j.ended j.graph c).limits)) b.kept.limits;
  listed = λ x m. subst (λ (g : Graph). IsTrue (was_made g x)) (sym graph) (still x (subst (Among x) listed m));
  new = subst (IsNewIn e) (sym answer) (record { made = made; unlisted = unlisted }, recital ∙ b.recital);
  granted = subst IsGranted (sym answer) granted;
  all_listed = λ unread. subst (ListsAllOf e) (sym answer) (all unread);
  known = subst (IsOf e.known) (sym graph) known;
}
  where
    granted : IsTrue (is_gc a.command || runs_units a.command) → is_refused a.reply ≡ false
    granted k = ap is_refused reply ∙ reply_with-granted j.ended j.graph c (subst (λ (d : Command). IsTrue (is_gc d || runs_units d)) command k)

    still : (x : Name) → Among x j.listed → IsTrue (was_made (step_with j.ended j.graph c) x)
    still x m = (Stays-step_with j.ended j.graph c).made x (b.kept.listed x m)

    made : (x : Name) → a.reply ≡ Named x → lists a.command ≡ true → IsTrue (was_made e.graph x)
    made x is l = subst (λ (g : Graph). IsTrue (was_made g x)) (sym graph)
        (reply_with-made j.ended j.graph c x b.kept.well_made (sym reply ∙ is) (ap lists (sym command) ∙ l))

    unlisted : (x : Name) → a.reply ≡ Named x → makes a.command ≡ true → has same_name e.listed x ≡ false
    unlisted x is m = subst (λ (names : List Name). has same_name names x ≡ false) (sym listed)
        (unmade-unlisted j.graph j.listed x b.kept.listed (reply_with-new j.ended j.graph c x (sym reply ∙ is) (ap makes (sym command) ∙ m)))

-- after an event
pub kept-event : (j e : Judge) (a b : Answer) (event : Event) → IsKept j → j.answer ≡ Some a → e.graph ≡ j.graph → e.listed ≡ after_event j.listed event →
    e.recital.items ≡ j.recital.items → e.answer ≡ Some b → b.command ≡ a.command → b.reply ≡ a.reply → IsOf e.known j.graph →
    (e.has_read ≡ false → ListsAllIn (hearing_in e b)) → IsKept e
kept-event j e a b event k old graph listed recital answer command reply known all = record {
  well_made = subst IsWellMade (sym graph) k.well_made;
  limits = subst (λ (g : Graph). (g.limits.natives ≤ 1000000) × (g.limits.scripts ≤ 1000000)) (sym graph) k.limits;
  listed = λ x m. subst (λ (g : Graph). IsTrue (was_made g x)) (sym graph) (k.listed x (after_event-among j.listed event x (subst (Among x) listed m)));
  new = subst (IsNewIn e) (sym answer) (record { made = made; unlisted = unlisted }, recital ∙ (new-in j a k old).1);
  granted = subst IsGranted (sym answer) granted;
  all_listed = λ unread. subst (ListsAllOf e) (sym answer) (all unread);
  known = subst (IsOf e.known) (sym graph) known;
}
  where
    granted : IsTrue (is_gc b.command || runs_units b.command) → is_refused b.reply ≡ false
    granted c = ap is_refused reply ∙ granted-in j a k old (subst (λ (d : Command). IsTrue (is_gc d || runs_units d)) command c)

    made : (x : Name) → b.reply ≡ Named x → lists b.command ≡ true → IsTrue (was_made e.graph x)
    made x is l = subst (λ (g : Graph). IsTrue (was_made g x)) (sym graph) ((new-in j a k old).0.made x (sym reply ∙ is) (ap lists (sym command) ∙ l))

    unlisted : (x : Name) → b.reply ≡ Named x → makes b.command ≡ true → has same_name e.listed x ≡ false
    unlisted x is m = subst (λ (names : List Name). has same_name names x ≡ false) (sym listed)
        (after_event-unlisted j.listed event x ((new-in j a k old).0.unlisted x (sym reply ∙ is) (ap makes (sym command) ∙ m)))

-- where an answer ends
pub kept-end : (j e : Judge) (a : Answer) (reply : Reply) → IsKept j → j.answer ≡ Some a → MayEnd (hearing_in j a) reply → e.graph ≡ j.graph →
    e.listed ≡ after_reply j.listed a.command (Some reply) → e.answer ≡ None → IsOf e.known j.graph →
    (e.has_read ≡ false → ListsAll e.graph e.listed) → IsKept e
kept-end j e a reply k old may graph listed answer known all = record {
  well_made = subst IsWellMade (sym graph) k.well_made;
  limits = subst (λ (g : Graph). (g.limits.natives ≤ 1000000) × (g.limits.scripts ≤ 1000000)) (sym graph) k.limits;
  listed = λ x m. subst (λ (g : Graph). IsTrue (was_made g x)) (sym graph) (⊎_elim
      (λ there. k.listed x there)
      (λ n. (new-in j a k old).0.made x (ending-named (hearing_in j a) reply x may n.0) n.1)
      (after_reply-cases j.listed a.command reply x (subst (Among x) listed m)));
  new = subst (IsNewIn e) (sym answer) tt;
  granted = subst IsGranted (sym answer) tt;
  all_listed = λ unread. subst (ListsAllOf e) (sym answer) (all unread);
  known = subst (IsOf e.known) (sym graph) known;
}

-- all that is reached is listed where an answer is heard, and no weak register was read
pub all-in : (j : Judge) (a : Answer) → IsKept j → j.has_read ≡ false → j.answer ≡ Some a → ListsAllIn (hearing_in j a)
all-in j a k unread e = subst (ListsAllOf j) e (k.all_listed unread)

-- and between two answers
pub all-of : (j : Judge) → IsKept j → j.has_read ≡ false → j.answer ≡ None → ListsAll j.graph j.listed
all-of j k unread e = subst (ListsAllOf j) e (k.all_listed unread)

-- hearings are alike where all they have is
abbrev heard_as : Command → Reply → Graph → Row → Told → Hearing
heard_as c r g row t = record { command = c; reply = r; graph = g; row = row; told = t }

pub heard_as-is : (c d : Command) (r s : Reply) (g h : Graph) (row : Row) (t u : Told) → c ≡ d → r ≡ s → g ≡ h → t ≡ u → heard_as c r g row t ≡ heard_as d s h row u
heard_as-is c d r s g h row t u e f i k = ap (λ x. heard_as x r g row t) e ∙ (ap (λ x. heard_as d x g row t) f ∙ (ap (λ x. heard_as d s x row t) i ∙ ap (λ x. heard_as d s h row x) k))

told-names : (t : Told) (e : Event) → (told_after t e).names ≡ after_event t.names e
told-names t (Freed x) = refl
told-names t (Unlinked x) = refl
told-names t Abandoned = refl

told-ended : (t : Told) (e : Event) → (told_after t e).ended ≡ ended_with t.ended e
told-ended t (Freed x) = refl
told-ended t (Unlinked x) = refl
told-ended t Abandoned = refl

-- after an event the answer is heard that follows it, with the names that have ended then
pub heard-event : (j : Judge) (a b : Answer) (event : Event) (listed ended : List Name) → b.command ≡ a.command → b.reply ≡ a.reply → listed ≡ after_event j.listed event →
    ended ≡ ended_with j.ended event →
    told_of b (told_after (told_of a j.listed j.ended) event).names (told_after (told_of a j.listed j.ended) event).ended ≡ told_after (told_of a j.listed j.ended) event →
    hearing_of b j.graph listed ended j.row ≡ with_told (hearing_in j a) event
heard-event j a b event listed ended command reply names end told =
    heard_as-is b.command a.command b.reply a.reply j.graph j.graph (row_meant j.row) (told_of b listed ended) now command reply refl
    (subst (λ (xs : List Name). told_of b listed xs ≡ now) (told-ended was event ∙ sym end)
    (subst (λ (ns : List Name). told_of b ns now.ended ≡ now) (told-names was event ∙ sym names) told))
  where
    was : Told
    was = told_of a j.listed j.ended

    now : Told
    now = told_after was event

-- wherever it stands
pub all-at : (j : Judge) → IsKept j → j.has_read ≡ false → ListsAllAt (position_of j)
all-at j k unread = go j.answer (k.all_listed unread)
  where
    go : (o : Option Answer) → ListsAllOf j o → ListsAllAt (position_in j o)
    go None l = l
    go (Some a) l = l
