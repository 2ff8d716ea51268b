-- WHERE A CHECK CAN GO ON, lines go on: each ask is answered as the graph answers it, without events, but that a collection of script
-- objects frees first all that is listed and not reached.
use Rattle.std.proofs.Common.{◌≡◌, ℕ, Bool, true, false, not, ◌&&◌, ◌||◌, List, [], ◌∷◌, ◌++◌, Some, refl, sym, ap, subst, ◌∙◌, inl, inr, ⊎_elim}
use Rattle.std.specs.Prelude.{IsTrue}
use Rattle.std.proofs.lemmas.Bool.{and_from, and_parts, cases_Bool, false≢true, not_from_false, or_left, or_right, true≢false}
use Rattle.cc_lists.specs.Members.{Among, has, without}
use Rattle.cc_lists.proofs.Members.{Among-filtered, Among-passes, has-among, has-there}
use Rattle.cc_names.specs.declared.name.Name.{Name}
use Rattle.cc_names.specs.Names.{is_native, same_name}
use Rattle.cc_names.proofs.NameTests.{same_name-exact, same_name-refl}
use Rattle.cc_model.specs.declared.command.Command.{Command}
use Rattle.cc_model.specs.declared.command.Command.TheVariants.{Nothing, Why, Collect, Gc, Mark, Census}
use Rattle.cc_model.specs.declared.item.Event.{Event}
use Rattle.cc_model.specs.declared.item.Event.TheVariants.{Freed}
use Rattle.cc_model.specs.declared.item.Refusal.TheVariants as refusal
use Rattle.cc_model.specs.declared.item.Reply.{Reply}
use Rattle.cc_model.specs.declared.item.Reply.TheVariants as reply
use Rattle.cc_model.specs.Answers.{Answer, items_of, no_answer, replying}
use Rattle.cc_model.specs.Asks.{Ask, bad, long, taken}
use Rattle.cc_model.specs.Derivations.{is_led_to, leads_made}
use Rattle.cc_model.specs.Graph.{Graph}
use Rattle.cc_model.specs.Lawful.{AnswersAsk, State, census_of, collects, is_gc, is_refused, runs_units}
use Rattle.cc_model.specs.Listed.{after_events, after_reply}
use Rattle.cc_model.specs.Quiet.{CensusIsQuiet, ListsReached, Row, after_all, after_collect, after_gc, is_done, nothing_yet, row_after}
use Rattle.cc_model.specs.WellMade.{IsWellMade}
use Rattle.cc_model.proofs.PathsFollow.{led-reached}
use Rattle.cc_laws_heap.proofs.LedReached.{reached-led}
use Rattle.cc_verdict.specs.Following.{Follows, Place, lines_of_items, place_after}
use Rattle.cc_verdict.specs.Hearing.{Hearing, Hears, MayCome, MayEnd, hearing, is_heard, place_ended, with_told}
use Rattle.cc_verdict.specs.Positions.{GoesOn, Position, reciting, within}
use Rattle.cc_verdict.specs.GoingOn.{AreInRange, ReadNone, CanAnswer, CanGoOn, ListsAll, ListsAllAt, ListsAllIn}
use Rattle.cc_verdict.proofs.AllListed.{begins-lists, ends-lists, event-lists, step-lists}
use Rattle.cc_verdict.proofs.Answered.{answered-follows, heard-hears, hears-heard, place-ended}
use Rattle.cc_verdict.proofs.Comes.{EachMayCome, told-names, with_all}
use Rattle.cc_verdict.proofs.HeardAnswers.{heard-answers}
use Rattle.cc_verdict.proofs.Stays.{gc-no_units}
use Rattle.cc_verdict.proofs.Turns.{bad-quiet, first-follows, long-quiet, nothing-quiet, why-quiet}

-- Censuses

-- where every ask is quiet, the next one can be answered
can-answer : (p : Place) (asks : List Ask) → ((ask : Ask) → CensusIsQuiet p.row p.state ask) → CanAnswer p asks
can-answer p [] quiet = tt
can-answer p (taken Nothing ∷ asks) quiet = can-answer p asks quiet
can-answer p (ask ∷ asks) quiet = quiet ask

listed-quiet : (row : Row) (s : State) → ListsReached s → (ask : Ask) → CensusIsQuiet row s ask
listed-quiet nothing_yet s l ask = tt
listed-quiet after_gc s l ask = tt
listed-quiet after_collect s l ask = tt
listed-quiet after_all s l (taken Census) = l
listed-quiet after_all s l ask = tt

row-quiet : (row : Row) (s : State) → ¬ (row ≡ after_all) → (ask : Ask) → CensusIsQuiet row s ask
row-quiet nothing_yet s n ask = tt
row-quiet after_gc s n ask = tt
row-quiet after_collect s n ask = tt
row-quiet after_all s n ask = absurd (n refl)

collect-row : (row : Row) (done : Bool) → elim done [ true ↦ after_collect | false ↦ nothing_yet ] ≡ after_all → ⊥
collect-row row true e = cc
collect-row row false e = cc

-- only `gc` ends the row
row-unended : (row : Row) (c : Command) (r : Reply) → IsTrue (is_heard c) → is_gc c ≡ false → ¬ (row_after row (taken c) (replying [] r) ≡ after_all)
row-unended row Nothing r heard gc = absurd (false≢true heard)
row-unended row Gc r heard gc = absurd (true≢false gc)
row-unended nothing_yet Collect r heard gc = λ e. cc
row-unended after_collect Collect r heard gc = λ e. cc
row-unended after_gc Collect r heard gc = collect-row after_gc (is_done (Some r))
row-unended after_all Collect r heard gc = collect-row after_all (is_done (Some r))
row-unended row c r heard gc = λ e. cc

-- What is freed

abbrev is_waste : Graph → List Name → Name → Bool
is_waste g names y = has same_name names y && not (is_led_to (leads_made g) y)

frees : Graph → List Name → List Name → List Event
frees g names [] = []
frees g names (y ∷ ys) = elim (is_waste g names y) [ true ↦ Freed y ∷ frees g (without same_name y names) ys | false ↦ frees g names ys ]

waste-may : (h : Hearing) (y : Name) → IsWellMade h.graph → is_gc h.command ≡ true → is_waste h.graph h.told.names y ≡ true → MayCome h (Freed y)
waste-may h y w gc waste =
    let p = and_parts (has same_name h.told.names y) (not (is_led_to (leads_made h.graph) y)) waste in
    record {
      kind = and_from (is_native y || collects h.command) (is_gc h.command || not h.told.abandoned)
          (or_right (is_native y) (collects h.command) (or_right (runs_units h.command) (is_gc h.command) gc))
          (or_left (is_gc h.command) (not h.told.abandoned) gc);
      garbage = (has-among same_name same_name-exact h.told.names y p.0, λ r. false≢true (sym (ap not (reached-led h.graph w y r)) ∙ p.1));
    }

frees-come : (ys : List Name) (h : Hearing) → IsWellMade h.graph → is_gc h.command ≡ true → EachMayCome h (frees h.graph h.told.names ys)
unfolding frees
frees-come [] h w gc = tt
frees-come (y ∷ ys) h w gc = go (frees-come ys (with_told h (Freed y)) w gc) (frees-come ys h w gc) (is_waste h.graph h.told.names y) refl
  where
    go : EachMayCome (with_told h (Freed y)) (frees h.graph (without same_name y h.told.names) ys) → EachMayCome h (frees h.graph h.told.names ys) → (b : Bool) → is_waste h.graph h.told.names y ≡ b →
        EachMayCome h (elim b [ true ↦ Freed y ∷ frees h.graph (without same_name y h.told.names) ys | false ↦ frees h.graph h.told.names ys ])
    go freed rest true e = (waste-may h y w gc e, freed)
    go freed rest false e = rest

after-fewer : (g : Graph) (names ys : List Name) (x : Name) → Among x (after_events names (frees g names ys)) → Among x names
unfolding frees
after-fewer g names [] x m = m
after-fewer g names (y ∷ ys) x m = go (after-fewer g (without same_name y names) ys x) (after-fewer g names ys x) (is_waste g names y) m
  where
    go : (Among x (after_events (without same_name y names) (frees g (without same_name y names) ys)) → Among x (without same_name y names)) →
        (Among x (after_events names (frees g names ys)) → Among x names) → (b : Bool) → Among x (after_events names (elim b [ true ↦ Freed y ∷ frees g (without same_name y names) ys | false ↦ frees g names ys ])) → Among x names
    go freed rest true i = Among-filtered (λ z. not (same_name z y)) x names (freed i)
    go freed rest false i = rest i

-- what is left is reached
frees-left : (g : Graph) (names ys : List Name) (x : Name) → Among x (after_events names (frees g names ys)) → Among x ys → is_led_to (leads_made g) x ≡ true
unfolding frees
frees-left g names [] x m i = absurd i
frees-left g names (y ∷ ys) x m i = go (frees-left g (without same_name y names) ys x) (frees-left g names ys x) (is_waste g names y) refl m i
  where
    gone : ¬ (Among y (without same_name y names))
    gone j = false≢true (sym (ap not (same_name-refl y)) ∙ Among-passes (λ z. not (same_name z y)) y names j)

    kept : Among y names → is_waste g names y ≡ false → is_led_to (leads_made g) y ≡ true
    kept j e = ⊎_elim
        (λ led. led)
        (λ n. absurd (true≢false (sym (and_from (has same_name names y) (not (is_led_to (leads_made g) y)) (has-there same_name same_name-exact names y j) (not_from_false (is_led_to (leads_made g) y) n)) ∙ e)))
        (cases_Bool (is_led_to (leads_made g) y))

    go : (Among x (after_events (without same_name y names) (frees g (without same_name y names) ys)) → Among x ys → is_led_to (leads_made g) x ≡ true) →
        (Among x (after_events names (frees g names ys)) → Among x ys → is_led_to (leads_made g) x ≡ true) → (b : Bool) → is_waste g names y ≡ b →
        Among x (after_events names (elim b [ true ↦ Freed y ∷ frees g (without same_name y names) ys | false ↦ frees g names ys ])) →
        Among x (y ∷ ys) → is_led_to (leads_made g) x ≡ true
    go freed rest true e j k = ⊎_elim
        (λ same. absurd (gone (subst (λ z. Among z (without same_name y names)) (sym same) (after-fewer g (without same_name y names) ys x j))))
        (λ l. freed j l)
        k
    go freed rest false e j k = ⊎_elim
        (λ same. subst (λ z. is_led_to (leads_made g) z ≡ true) same (kept (subst (λ z. Among z names) (sym same) (after-fewer g names ys x j)) e))
        (λ l. rest j l)
        k

-- Events that come keep all

all-lists : (es : List Event) (h : Hearing) → EachMayCome h es → ListsAllIn h → ListsAllIn (with_all h es)
all-lists [] h came l = l
all-lists (e ∷ es) h came l = all-lists es (with_told h e) came.1 (event-lists h e came.0 l)

gc-kept : (names : List Name) (c : Command) (r : Reply) → is_gc c ≡ true → after_reply names c (Some r) ≡ names
gc-kept names Gc r gc = refl
gc-kept names (Mark n) r gc = refl
gc-kept names c r gc = absurd (false≢true gc)

-- An answer that was begun

abbrev CanFollow : List Ask → Type 0
CanFollow asks = (q : Place) → ListsAll q.state.graph q.state.listed → CanAnswer q asks → (lines : List (List ℕ)) × Follows q asks lines

-- it goes on with these events and this reply
by-reply : (asks : List Ask) (h : Hearing) (es : List Event) (r : Reply) → CanFollow asks → ListsAllIn h → EachMayCome h es → MayEnd (with_all h es) r →
    CanAnswer (place_ended (with_all h es) r) asks → (lines : List (List ℕ)) × Hears asks h lines
by-reply asks h es r follow l came may can =
    let f = follow (place_ended (with_all h es) r) (ends-lists (with_all h es) r may (all-lists es h came l)) can in
    (_, heard-hears asks h _ (record { events = es; reply = r; rest = f.0; lines_are = refl; came = came; ending = may; follows = f.1 }))

module _ (asks : List Ask) (h : Hearing) (follow : CanFollow asks) (l : ListsAllIn h) where
  -- Under `gc` all is freed that can be

  abbrev freed : List Event
  freed = frees h.graph h.told.names h.told.names

  abbrev after_gc_ends : Place
  after_gc_ends = place_ended (with_all h freed) h.reply

  gc-may : is_gc h.command ≡ true → MayEnd (with_all h freed) h.reply
  gc-may gc = inl (record {
    same = refl;
    quiet = λ r. absurd (true≢false (sym r ∙ l.granted (or_left (is_gc h.command) (runs_units h.command) gc)));
    whole = λ u. absurd (true≢false (sym u ∙ gc-no_units h.command gc));
  })

  gc-reached : is_gc h.command ≡ true → ListsReached after_gc_ends.state
  gc-reached gc x = (
    (λ m. led-reached h.graph x (left (subst (Among x) (told-names h.told freed) (subst (Among x) (gc-kept (with_all h freed).told.names h.command h.reply gc) m)))),
    (λ r. (ends-lists (with_all h freed) h.reply (gc-may gc) (all-lists freed h (frees-come h.told.names h l.listed.well_made gc) l)).listed x r),
  )
    where
      left : Among x (after_events h.told.names freed) → is_led_to (leads_made h.graph) x ≡ true
      left m = frees-left h.graph h.told.names h.told.names x m (after-fewer h.graph h.told.names h.told.names x m)

  gc-goes : is_gc h.command ≡ true → (lines : List (List ℕ)) × Hears asks h lines
  gc-goes gc = by-reply asks h freed h.reply follow l (frees-come h.told.names h l.listed.well_made gc) (gc-may gc)
      (can-answer after_gc_ends asks (listed-quiet after_gc_ends.row after_gc_ends.state (gc-reached gc)))

  -- Under another command the graph's reply comes, or want of memory after an abandonment

  ends-now : (r : Reply) → is_gc h.command ≡ false → MayEnd h r → (lines : List (List ℕ)) × Hears asks h lines
  ends-now r gc may = by-reply asks h [] r follow l tt may
      (can-answer (place_ended h r) asks (row-quiet (place_ended h r).row (place_ended h r).state (row-unended h.row h.command r l.heard gc)))

  other-goes : (IsTrue (is_refused h.reply && not (runs_units h.command)) → h.told.any ≡ false) → is_gc h.command ≡ false → (lines : List (List ℕ)) × Hears asks h lines
  other-goes can gc = ⊎_elim
      (λ u. ⊎_elim
      (λ a. ends-now (reply.Refused refusal.NoMemory) gc (inr (record { refused = refl; units = u; abandoned = a })))
      (λ a. ends-now h.reply gc (inl (record {
        same = refl;
        quiet = λ r. absurd (true≢false (sym r ∙ l.granted (or_right (is_gc h.command) (runs_units h.command) u)));
        whole = λ v. a;
      })))
      (cases_Bool h.told.abandoned))
      (λ n. ends-now h.reply gc (inl (record {
        same = refl;
        quiet = λ r. can (and_from (is_refused h.reply) (not (runs_units h.command)) r (not_from_false (runs_units h.command) n));
        whole = λ v. absurd (true≢false (sym v ∙ n));
      })))
      (cases_Bool (runs_units h.command))

  -- AN ANSWER THAT WAS BEGUN GOES ON.
  hears-on : (IsTrue (is_refused h.reply && not (runs_units h.command)) → h.told.any ≡ false) → (lines : List (List ℕ)) × Hears asks h lines
  hears-on can = ⊎_elim gc-goes (other-goes can) (cases_Bool (is_gc h.command))

-- Between two answers

-- an answer that is heard answers its command
hears-follows : (p : Place) (c : Command) (asks : List Ask) (lines : List (List ℕ)) → IsTrue (is_heard c) → Hears asks (hearing p c) lines → Follows p (taken c ∷ asks) lines
hears-follows p c asks lines heard s =
    let h = hears-heard asks s in
    answered-follows p c asks lines heard (record {
      events = h.events;
      reply = h.reply;
      rest = h.rest;
      lines_are = h.lines_are;
      lawful = heard-answers p c h.events h.reply h.came h.ending;
      follows = subst (λ (q : Place). Follows q asks h.rest) (place-ended p c h.events h.reply h.ending) h.follows;
    })

-- one answer, and what follows it
by-answer : (p : Place) (ask : Ask) (asks : List Ask) (a : Answer) → AnswersAsk p.state ask a → CensusIsQuiet p.row p.state ask →
    (rest : List (List ℕ)) × Follows (place_after p ask a) asks rest → (lines : List (List ℕ)) × Follows p (ask ∷ asks) lines
by-answer p ask asks a lawful quiet f = (
  lines_of_items (items_of a) ++ f.0,
  first-follows p ask asks (lines_of_items (items_of a) ++ f.0) a (record { lawful = lawful; quiet = quiet; recites = record { rest = f.0; lines_are = refl; follows = f.1 } }),
)

-- after an ask that breaks the row, any may come
no-row : (p : Place) (ask : Ask) (a : Answer) (asks : List Ask) → row_after p.row ask a ≡ nothing_yet → CanAnswer (place_after p ask a) asks
no-row p ask a asks e = can-answer (place_after p ask a) asks (row-quiet (row_after p.row ask a) (place_after p ask a).state (λ all. let no : nothing_yet ≡ after_all = sym e ∙ all in cc))

-- WHATEVER IS ASKED CAN BE ANSWERED.
follows-on : (asks : List Ask) (p : Place) → AreInRange asks → ReadNone asks → ListsAll p.state.graph p.state.listed → CanAnswer p asks → (lines : List (List ℕ)) × Follows p asks lines
follows-on [] p range plain l can = ([], record { answers = []; lines_are = refl; lawful = tt; quiet = tt })
follows-on (long ∷ asks) p range plain l can = by-answer p long asks (replying [] (reply.Refused refusal.Long)) refl (long-quiet p.row p.state)
    (follows-on asks (place_after p long (replying [] (reply.Refused refusal.Long))) (λ c m. range c (inr m)) (λ c m. plain c (inr m)) l (no-row p long (replying [] (reply.Refused refusal.Long)) asks refl))
follows-on (bad ∷ asks) p range plain l can = by-answer p bad asks (replying [] (reply.Refused refusal.Line)) refl (bad-quiet p.row p.state)
    (follows-on asks (place_after p bad (replying [] (reply.Refused refusal.Line))) (λ c m. range c (inr m)) (λ c m. plain c (inr m)) l (no-row p bad (replying [] (reply.Refused refusal.Line)) asks refl))
follows-on (taken Nothing ∷ asks) p range plain l can = by-answer p (taken Nothing) asks no_answer refl (nothing-quiet p.row p.state)
    (follows-on asks p (λ c m. range c (inr m)) (λ c m. plain c (inr m)) l can)
follows-on (taken Census ∷ asks) p range plain l can = by-answer p (taken Census) asks (census_of p.state.listed) refl can
    (follows-on asks (place_after p (taken Census) (census_of p.state.listed)) (λ c m. range c (inr m)) (λ c m. plain c (inr m))
    (step-lists p.state.graph p.state.listed Census (range Census (inl refl)) l) (no-row p (taken Census) (census_of p.state.listed) asks refl))
follows-on (taken (Why x) ∷ asks) p range plain l can = by-answer p (taken (Why x)) asks (replying [] (reply.Refused refusal.NoMemory)) (inr refl) (why-quiet p.row p.state x)
    (follows-on asks (place_after p (taken (Why x)) (replying [] (reply.Refused refusal.NoMemory))) (λ c m. range c (inr m)) (λ c m. plain c (inr m)) l (no-row p (taken (Why x)) (replying [] (reply.Refused refusal.NoMemory)) asks refl))
follows-on (taken c ∷ asks) p range plain l can =
    let s = hears-on asks (hearing p c) (λ q m n. follows-on asks q (λ d i. range d (inr i)) (λ d i. plain d (inr i)) m n) (begins-lists p c refl (range c (inl refl)) (plain c (inl refl)) l) (λ r. refl) in
    (s.0, hears-follows p c asks s.0 refl s.1)

-- FROM WHEREVER A CHECK CAN GO ON, LINES GO ON.
pub goes-on : (p : Position) (asks : List Ask) → AreInRange asks → ReadNone asks → ListsAllAt p → CanGoOn p asks → (lines : List (List ℕ)) × GoesOn p asks lines
goes-on (reciting items p) asks range plain l can =
    let f = follows-on asks p range plain l can in
    (lines_of_items items ++ f.0, record { rest = f.0; lines_are = refl; follows = f.1 })
goes-on (within h) asks range plain l can = hears-on asks h (λ q m n. follows-on asks q range plain m n) l can
