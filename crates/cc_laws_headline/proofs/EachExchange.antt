-- EACH TURN OF A LAWFUL AND QUIET TRANSCRIPT: its answer is lawful in the state before it, and a census after the row is
-- quiet there.
use Rattle.std.proofs.Common.{arith, ◌≡◌, ℕ, slice_index_or, suc, Bool, true, false, List, [], ◌∷◌, ◌++◌, length, Option, Some, None, refl, sym, ◌∙◌, ap, subst, inl, inr, ◌⊎◌, ⊎_elim}
use Rattle.std.proofs.lemmas.Bool.{true≢false, and_parts}
use Rattle.std.specs.Prelude.{IsTrue, option_and_then}
use Rattle.std.specs.List.{list_all}
use Rattle.cc_laws_run.specs.Missing.{asks_nothing}
use Rattle.cc_lists.specs.Members.{Among, has}
use Rattle.cc_lists.proofs.Members.{has-among, has-there}
use Rattle.cc_names.specs.Names.{same_name}
use Rattle.cc_names.proofs.NameTests.{same_name-exact}
use Rattle.cc_names.specs.Allowance.{Allowance}
use Rattle.cc_names.specs.declared.name.Name.{Name}
use Rattle.cc_model.specs.declared.command.Command.{Command}
use Rattle.cc_model.specs.declared.command.Command.TheVariants.{Nothing, Collect, Gc, Census, Deref}
use Rattle.cc_model.specs.declared.item.Reply.{Reply}
use Rattle.cc_model.specs.declared.item.Reply.TheVariants.{Done, Nothing as nothing}
use Rattle.cc_model.specs.declared.item.Event.{Event}
use Rattle.cc_model.specs.declared.item.Event.TheVariants.{Unlinked, Freed}
use Rattle.cc_model.specs.Answers.{Answer, explaining}
use Rattle.cc_model.specs.Asks.{Ask, long, bad, taken}
use Rattle.cc_model.specs.Checks.{named_or_nothing}
use Rattle.cc_model.specs.Graph.{Graph}
use Rattle.cc_model.specs.Reached.{Reached}
use Rattle.cc_model.specs.WellMade.{IsWellMade}
use Rattle.cc_model.specs.Derivations.{leads_made, path_to, is_led_to, done_or_nothing, why_of}
use Rattle.cc_model.specs.Lawful.{State, start, next, step_with, unless_ended, noted_in, WantsMemory, graph_after, is_without_memory, MayBe, EachMayBe, ReplyAnswers, Explains, AnswersAsk, IsLawfulFrom, IsLawful}
use Rattle.cc_model.specs.Listed.{after_event, census_order}
use Rattle.cc_model.specs.Quiet.{Row, nothing_yet, after_gc, after_collect, after_all, row_after, CensusIsQuiet, IsQuietFrom, IsQuiet}
use Rattle.cc_model.specs.Quiet as quiet
use Rattle.cc_model.proofs.Derivations.{not_led-path}
use Rattle.cc_model.proofs.PathsFollow.{path-is_right}
use Rattle.cc_laws_heap.proofs.GraphCommands.{step_with-well, empty-well}
use Rattle.cc_laws_heap.proofs.LedReached.{reached-led}
use Rattle.cc_laws_run.specs.Running.{state_after, ask_in_range}
use Rattle.cc_laws_run.proofs.FreedListed.{census_order-listed}
use Rattle.cc_laws_run.proofs.PlainQuiet.{listed-census_order}
use Rattle.cc_laws_headline.specs.Exchanges.{Exchange, IsExchangeOf, before, spoken, HasJustCollected}
use Rattle.cc_laws_headline.specs.Headline.{CommandReplyIs, ReplyIs, ListsWhatIsThere, TellsWhy, by_path, unreached, unmet, GivesBack, empty, has_ended, comes_back, SparesReached, CensusIsExact, TellsOfAGraph}

-- Lawful

-- each ask has an answer
lawful-length : (s : State) (asks : List Ask) (answers : List Answer) → IsLawfulFrom s asks answers → length asks ≡ length answers
lawful-length s [] [] l = refl
lawful-length s [] (a ∷ answers) l = absurd l
lawful-length s (ask ∷ asks) [] l = absurd l
lawful-length s (ask ∷ asks) (a ∷ answers) l = ap suc (lawful-length (next s ask a) asks answers l.1)

-- which is lawful in the state before it
lawful-turn : (s : State) (asked : List Ask) (told : List Answer) (ask : Ask) (a : Answer) (later : List Ask) (more : List Answer) →
    length asked ≡ length told → IsLawfulFrom s (asked ++ ask ∷ later) (told ++ a ∷ more) → AnswersAsk (state_after s asked told) ask a
lawful-turn s [] [] ask a later more e l = l.0
lawful-turn s [] (b ∷ told) ask a later more e l = absurd (cc)
lawful-turn s (c ∷ asked) [] ask a later more e l = absurd (cc)
lawful-turn s (c ∷ asked) (b ∷ told) ask a later more e l = lawful-turn (next s c b) asked told ask a later more (cc) l.1

-- its reply is the graph's
command-reply-is : (s : State) (c : Command) (a : Answer) (reply : Option Reply) → ReplyAnswers s c a reply → CommandReplyIs s c reply
command-reply-is s c a None l = l
command-reply-is s c a (Some reply) l = l.replies

reply-is : (s : State) (ask : Ask) (a : Answer) → AnswersAsk s ask a → ReplyIs s ask a.reply
reply-is s long a l = ap (λ (b : Answer). b.reply) l
reply-is s bad a l = ap (λ (b : Answer). b.reply) l
reply-is s (taken c) a l = grind (arith, command-reply-is)

-- what it tells is not reached in the graph after it
events-spare : (g : Graph) (names : List Name) (c : Command) (es : List Event) → EachMayBe g names c es →
    (x : Name) → Among (Unlinked x) es ⊎ Among (Freed x) es → ¬ (Reached g x)
events-spare g names c [] each x m = absurd (⊎_elim (λ i. i) (λ i. i) m)
events-spare g names c (e ∷ es) each x m =
    let rest : Among (Unlinked x) es ⊎ Among (Freed x) es → ¬ (Reached g x) = events-spare g (after_event names e) c es each.1 x in
    ⊎_elim
    (λ u. ⊎_elim (λ is. let first : MayBe g names c (Unlinked x) = subst (MayBe g names c) is each.0 in first.1) (λ i. rest (inl i)) u)
    (λ f. ⊎_elim (λ is. let first : MayBe g names c (Freed x) = subst (MayBe g names c) is each.0 in first.1) (λ i. rest (inr i)) f) m

command-spares : (s : State) (c : Command) (a : Answer) (reply : Option Reply) → ReplyAnswers s c a reply →
    (x : Name) → Among (Unlinked x) a.events ⊎ Among (Freed x) a.events → ¬ (Reached (graph_after s.ended s.graph c reply) x)
command-spares s c a None l = absurd l
command-spares s c a (Some reply) l = events-spare (graph_after s.ended s.graph c (Some reply)) s.listed c a.events l.each

-- an answer without events
silent-spares : (s : State) (a : Answer) → a.events ≡ [] → SparesReached s a
silent-spares s a e x m = absurd (⊎_elim (λ i. subst (Among (Unlinked x)) e i) (λ i. subst (Among (Freed x)) e i) m)

answer-spares : (s : State) (ask : Ask) (a : Answer) → AnswersAsk s ask a → SparesReached (next s ask a) a
answer-spares s long a l = silent-spares s a (ap (λ (b : Answer). b.events) l)
answer-spares s bad a l = silent-spares s a (ap (λ (b : Answer). b.events) l)
answer-spares s (taken c) a l = grind (arith, silent-spares, command-spares)

-- and a census lists what is there
census-lists : (s : State) (ask : Ask) (a : Answer) → AnswersAsk s ask a → ListsWhatIsThere s ask a
census-lists s ask a l e = subst (λ (k : Ask). AnswersAsk s k a) e l

-- Why

-- asks in range leave a graph that is well made
next-well : (s : State) (ask : Ask) (a : Answer) → IsWellMade s.graph → IsTrue (ask_in_range ask) → IsWellMade (next s ask a).graph
next-well s long a w i = w
next-well s bad a w i = w
next-well s (taken c) a w i = go a.reply
  where
    by_memory : (b : Bool) → IsWellMade (elim b [ true ↦ s.graph | false ↦ step_with s.ended s.graph c ])
    by_memory true = w
    by_memory false = step_with-well s.graph w s.ended c i

    go : (reply : Option Reply) → IsWellMade (graph_after s.ended s.graph c reply)
    go None = w
    go (Some reply) = by_memory (is_without_memory reply)

state_after-well : (s : State) (asked : List Ask) (told : List Answer) (later : List Ask) → IsWellMade s.graph → IsTrue (list_all ask_in_range (asked ++ later)) →
    IsWellMade (state_after s asked told).graph
state_after-well s [] told later w i = w
state_after-well s (c ∷ asked) [] later w i = w
state_after-well s (c ∷ asked) (b ∷ told) later w i =
    let p = and_parts (ask_in_range c) (list_all ask_in_range (asked ++ later)) i in
    state_after-well (next s c b) asked told later (next-well s c b w p.0) p.1

-- `why` is answered by a path of such a graph
why-told : (g : Graph) (x : Name) (a : Answer) → IsWellMade g → Explains g x a → TellsWhy g x a
why-told g x a w l = ⊎_elim (λ e. subst (TellsWhy g x) (sym e) (go (is_led_to (leads_made g) x) refl)) (λ e. subst (TellsWhy g x) (sym e) unmet) l
  where
    go : (b : Bool) → is_led_to (leads_made g) x ≡ b → TellsWhy g x (why_of (leads_made g) x)
    go true e = subst (λ b. TellsWhy g x (explaining (path_to (leads_made g) x) (done_or_nothing b))) (sym e) (by_path (path-is_right g x e))
    go false e = subst (λ b. TellsWhy g x (explaining (path_to (leads_made g) x) (done_or_nothing b))) (sym e)
        (subst (λ steps. TellsWhy g x (explaining steps nothing)) (sym (not_led-path (leads_made g) x e))
        (unreached (λ r. true≢false (sym (reached-led g w x r) ∙ e))))

-- Weak references

-- what is noted comes back, where it has not ended
noted-gives : (s : State) (w : ℕ) → GivesBack s w (Some (named_or_nothing (noted_in s.ended s.graph w)))
noted-gives s w = go (slice_index_or s.graph.weak_registers w None) refl
  where
    of : (x : Name) → slice_index_or s.graph.weak_registers w None ≡ Some x → (b : Bool) → has same_name s.ended x ≡ b →
        GivesBack s w (Some (named_or_nothing (elim b [ true ↦ None | false ↦ Some x ])))
    of x e true h = has_ended x e (has-among same_name same_name-exact s.ended x h)
    of x e false h = comes_back x e (λ m. true≢false (sym (has-there same_name same_name-exact s.ended x m) ∙ h))

    go : (o : Option Name) → slice_index_or s.graph.weak_registers w None ≡ o → GivesBack s w (Some (named_or_nothing (option_and_then (unless_ended s.ended) o)))
    go None e = empty e
    go (Some x) e = of x e (has same_name s.ended x) refl

-- a `deref` is answered so: it never wants memory
deref-gives : (s : State) (d w : ℕ) (a : Answer) → AnswersAsk s (taken (Deref d w)) a → GivesBack s w a.reply
deref-gives s d w a l = go a.reply l.2
  where
    go : (reply : Option Reply) → ReplyAnswers s (Deref d w) a reply → GivesBack s w reply
    go None l = absurd l
    go (Some reply) l = ⊎_elim
        (λ e. subst (λ r. GivesBack s w (Some r)) (sym e) (noted-gives s w))
        (λ (m : WantsMemory s (Deref d w) reply). absurd (true≢false (sym m.command_may)))
        l.replies

-- Quiet

-- the row after asks and their answers
abbrev rows_after : Row → List (Ask × Answer) → Row
rows_after row [] = row
rows_after row (t ∷ ts) = rows_after (row_after row t.0 t.1) ts

rows_after-append : (row : Row) (ts us : List (Ask × Answer)) → rows_after row (ts ++ us) ≡ rows_after (rows_after row ts) us
rows_after-append row [] us = refl
rows_after-append row (t ∷ ts) us = rows_after-append (row_after row t.0 t.1) ts us

-- a blank line leaves it
blank-leaves : (row : Row) (ask : Ask) (a : Answer) → asks_nothing ask ≡ true → row_after row ask a ≡ row
blank-leaves row long a e = absurd (true≢false (sym e))
blank-leaves row bad a e = absurd (true≢false (sym e))
blank-leaves row (taken Nothing) a e = refl
blank-leaves row (taken c) a e = absurd (true≢false (sym e))

-- `gc`, `collect` with `= ok`, and `gc` make it whole, whatever it was
row-whole : (row : Row) (swept collected again : Answer) → collected.reply ≡ Some Done →
    rows_after row ((taken Gc, swept) ∷ (taken Collect, collected) ∷ (taken Gc, again) ∷ []) ≡ after_all
row-whole nothing_yet swept collected again ok = rw ok refl
row-whole after_gc swept collected again ok = rw ok refl
row-whole after_collect swept collected again ok = rw ok refl
row-whole after_all swept collected again ok = rw ok refl

-- a census after it is quiet in the state before it
quiet-turn : (row : Row) (s : State) (asked : List Ask) (told : List Answer) (ask : Ask) (a : Answer) (later : List Ask) (more : List Answer) →
    length asked ≡ length told → IsQuietFrom row s (asked ++ ask ∷ later) (told ++ a ∷ more) →
    CensusIsQuiet (rows_after row (spoken asked told)) (state_after s asked told) ask
quiet-turn row s [] [] ask a later more e q = q.0
quiet-turn row s [] (b ∷ told) ask a later more e q = absurd (cc)
quiet-turn row s (c ∷ asked) [] ask a later more e q = absurd (cc)
quiet-turn row s (c ∷ asked) (b ∷ told) ask a later more e q =
    go (quiet-turn (row_after row c b) (next s c b) asked told ask a later more (cc) q.1) (asks_nothing c) refl
  where
    go : CensusIsQuiet (rows_after (row_after row c b) (spoken asked told)) (state_after (next s c b) asked told) ask → (blank : Bool) → asks_nothing c ≡ blank →
        CensusIsQuiet (rows_after row (elim blank as (λ _. List (Ask × Answer)) [ true ↦ spoken asked told | false ↦ (c, b) ∷ spoken asked told ]))
        (state_after (next s c b) asked told) ask
    go rest true is = subst (λ (r : Row). CensusIsQuiet (rows_after r (spoken asked told)) (state_after (next s c b) asked told) ask) (blank-leaves row c b is) rest
    go rest false is = rest

-- what a census lists, where exactly the reached names are listed
census-reached : (s : State) (a : Answer) → a.listed ≡ census_order s.listed → quiet.ListsReached s → CensusIsExact s a
census-reached s a e exact x = (
  λ m. (exact x).0 (census_order-listed s.listed x (subst (Among x) e m)),
  λ r. subst (Among x) (sym e) (listed-census_order s.listed x ((exact x).1 r)),
)

module _ (limits : Allowance) (asks : List Ask) (answers : List Answer) (l : IsLawful limits asks answers) (q : IsQuiet limits asks answers) where
  lawful-at : (t : Exchange) → IsExchangeOf asks answers t → AnswersAsk (before limits t) t.ask t.answer
  lawful-at t i = lawful-turn (start limits) t.asked t.told t.ask t.answer i.later i.told_later i.one_each
      (subst (λ (told : List Answer). IsLawfulFrom (start limits) (t.asked ++ t.ask ∷ i.later) told) i.answers_are
      (subst (λ (ks : List Ask). IsLawfulFrom (start limits) ks answers) i.asks_are l))

  quiet-at : (t : Exchange) → IsExchangeOf asks answers t → CensusIsQuiet (rows_after nothing_yet (spoken t.asked t.told)) (before limits t) t.ask
  quiet-at t i = quiet-turn nothing_yet (start limits) t.asked t.told t.ask t.answer i.later i.told_later i.one_each
      (subst (λ (told : List Answer). IsQuietFrom nothing_yet (start limits) (t.asked ++ t.ask ∷ i.later) told) i.answers_are
      (subst (λ (ks : List Ask). IsQuietFrom nothing_yet (start limits) ks answers) i.asks_are q))

  exact-at : (t : Exchange) → IsExchangeOf asks answers t → HasJustCollected t.asked t.told → t.ask ≡ taken Census → quiet.ListsReached (before limits t)
  exact-at t i j e = subst (λ (ask : Ask). CensusIsQuiet after_all (before limits t) ask) e
      (subst (λ (row : Row). CensusIsQuiet row (before limits t) t.ask) whole (quiet-at t i))
    where
      whole : rows_after nothing_yet (spoken t.asked t.told) ≡ after_all
      whole = ap (rows_after nothing_yet) j.are_last
          ∙ (rows_after-append nothing_yet j.first ((taken Gc, j.swept) ∷ (taken Collect, j.collected) ∷ (taken Gc, j.swept_again) ∷ [])
          ∙ row-whole (rows_after nothing_yet j.first) j.swept j.collected j.swept_again j.ok)

  -- A LAWFUL AND QUIET TRANSCRIPT HAS EACH PART of the headline.
  pub tells-of_a_graph : TellsOfAGraph limits asks answers
  tells-of_a_graph = record {
    one_each = lawful-length (start limits) asks answers l;
    replies = λ t i. reply-is (before limits t) t.ask t.answer (lawful-at t i);
    censuses = λ t i. census-lists (before limits t) t.ask t.answer (lawful-at t i);
    paths = λ t x i range e. why-told (before limits t).graph x t.answer
        (state_after-well (start limits) t.asked t.told (t.ask ∷ i.later) (empty-well limits) (subst (λ (ks : List Ask). IsTrue (list_all ask_in_range ks)) i.asks_are range))
        (subst (λ (k : Ask). AnswersAsk (before limits t) k t.answer) e (lawful-at t i));
    derefs = λ t d w i e. deref-gives (before limits t) d w t.answer (subst (λ (k : Ask). AnswersAsk (before limits t) k t.answer) e (lawful-at t i));
    spares = λ t i. answer-spares (before limits t) t.ask t.answer (lawful-at t i);
    lists = λ t i j e. census-reached (before limits t) t.answer
        (ap (λ (b : Answer). b.listed) (census-lists (before limits t) t.ask t.answer (lawful-at t i) e)) (exact-at t i j e);
  }
