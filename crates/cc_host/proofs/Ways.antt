-- THE STEPS TOLD ARE A WAY: each follows from those before it, no name comes twice, and the object comes last; there are some exactly
-- where the registers reach the object.
use Rattle.std.proofs.Common.{◌≡◌, ◌≤◌, ◌↔◌, Bool, true, false, IsTrue, Result, Ok, Err, List, [], ◌∷◌, ◌++◌, refl, sym, ◌∙◌, ap, subst, inl, inr, ◌⊎◌, ⊎_elim, arith, count_by}
use Rattle.std.proofs.lemmas.Bool.{true≢false}
use Rattle.std.proofs.lemmas.List.{map_push}
use Rattle.cc_lists.specs.Members.{Among, has}
use Rattle.cc_lists.proofs.Members.{Among-left, Among-right, Among-append, has-there, has-among}
use Rattle.cc_lists.proofs.Counting.{count_by-cons}
use Rattle.cc_names.specs.declared.name.Name.{Name}
use Rattle.cc_names.specs.declared.register.Reg.TheVariants.{N, S, W}
use Rattle.cc_names.specs.Names.{same_name}
use Rattle.cc_names.proofs.NameTests.{same_name-exact}
use Rattle.cc_model.specs.declared.item.Reason.{Reason}
use Rattle.cc_model.specs.declared.item.Reason.TheVariants.{Root, Edge, Pair}
use Rattle.cc_model.specs.Answers.{Step}
use Rattle.cc_model.specs.Derivations.{Leads, leads_in, named, derivation, grounds, Needed, needed_for, path_to, is_led_to}
use Rattle.cc_model.specs.Entries.{Entry, Joint}
use Rattle.cc_model.specs.Heap.{Heap}
use Rattle.cc_model.specs.Paths.{IsShown}
use Rattle.cc_model.specs.View.{view, ReachedIn}
use Rattle.cc_model.specs.WellFormed.{IsWellFormed}
use Rattle.cc_model.proofs.Joints.{Gives, its_value, its_key, joint-cases}
use Rattle.cc_model.proofs.Derivations as leads
use Rattle.cc_model.proofs.Derivations.{AreFollowing, derivation-follows, derivation-distinct, needed-front}
use Rattle.cc_laws_heap.proofs.LedReached.{led-reached_in, reached_in-led}
use Rattle.cc_host.specs.Ways.{Follows, rooted, edge, value, key, EachFollows, IsWay}

-- one more step shows one more object
shown-push : (ss : List Step) (s : Step) (y : Name) → IsShown (ss ++ s ∷ []) y → IsShown ss y ⊎ (s.0 ≡ y)
shown-push ss s y m = ⊎_elim (λ a. inl a) (λ b. ⊎_elim (λ is. inr is) (λ never. absurd never) b)
    (Among-append y (named ss) (s.0 ∷ []) (subst (Among y) (map_push (λ (t : Step). t.0) ss s) m))

shown-longer : (ss : List Step) (s : Step) (y : Name) → IsShown ss y ⊎ (s.0 ≡ y) → IsShown (ss ++ s ∷ []) y
shown-longer ss s y m = subst (Among y) (sym (map_push (λ (t : Step). t.0) ss s))
    (⊎_elim (λ a. Among-left y (named ss) (s.0 ∷ []) a) (λ is. Among-right y (named ss) (s.0 ∷ []) (inl is)) m)

-- IN THE HEAPS what follows from steps follows from others that show what it rests on,
follows-by : (h : Heap) (before kept : List Step) (x : Name) (r : Reason) → leads.Follows (leads_in h) before x r →
    ((y : Name) → IsShown before y → Among y (grounds r) → IsShown kept y) → Follows h kept x r
follows-by h before kept x (Root (N k)) f shown = rooted (N k) x f
follows-by h before kept x (Root (S k)) f shown = rooted (S k) x f
follows-by h before kept x (Root (W k)) f shown = absurd f
follows-by h before kept x (Edge y) f shown = edge y x (shown y (has-among same_name same_name-exact (named before) y f.0) (inl refl)) f.1
follows-by h before kept x (Pair m k) f shown =
    let j : Joint = record { the_map = m; key = k; value = x } in
    let e = joint-cases h.entries j f.2 in
    given e.0 e.1 j e.2 (shown m (has-among same_name same_name-exact (named before) m f.0) (inl refl))
    (shown k (has-among same_name same_name-exact (named before) k f.1) (inr (inl refl)))
  where
    given : (e : Entry) → Among e h.entries → (j : Joint) → Gives e j → IsShown kept j.the_map → IsShown kept j.key → Follows h kept j.value (Pair j.the_map j.key)
    given e i _ its_value a b = value e i a b
    given e i _ (its_key d q) a b = key e d i q a b

-- so the needed ones follow, from those that show what is wanted of the steps before.
needed-follows : (h : Heap) (before ss : List Step) (wanted : List Name) (kept : List Step) → AreFollowing (leads_in h) before ss →
    ((y : Name) → IsShown before y → Among y (needed_for ss wanted).wanted → IsShown kept y) → EachFollows h kept (needed_for ss wanted).steps
needed-follows h before [] wanted kept f shown = tt
needed-follows h before (s ∷ ss) wanted kept f shown =
    go (needed_for ss wanted) (λ more k. needed-follows h (before ++ s ∷ []) ss wanted more f.1 k) (has same_name (needed_for ss wanted).wanted s.0) refl shown
  where
    go : (n : Needed) → ((more : List Step) → ((y : Name) → IsShown (before ++ s ∷ []) y → Among y n.wanted → IsShown more y) → EachFollows h more n.steps) →
        (b : Bool) → has same_name n.wanted s.0 ≡ b →
        (let m : Needed = elim b [ true ↦ record { steps = s ∷ n.steps; wanted = grounds s.1 ++ n.wanted } | false ↦ n ] in
        ((y : Name) → IsShown before y → Among y m.wanted → IsShown kept y) → EachFollows h kept m.steps)
    go n later true e shown = (
      follows-by h before kept s.0 s.1 f.0 (λ y a i. shown y a (Among-left y (grounds s.1) n.wanted i)),
      later (kept ++ s ∷ []) (λ y a i. shown-longer kept s y
          (⊎_elim (λ b. inl (shown y b (Among-right y (grounds s.1) n.wanted i))) (λ is. inr is) (shown-push before s y a))),
    )
    go n later false e shown = later kept (λ y a i. ⊎_elim (λ b. shown y b i)
        (λ is. absurd (true≢false (sym (has-there same_name same_name-exact n.wanted s.0 (subst (λ z. Among z n.wanted) (sym is) i)) ∙ e))) (shown-push before s y a))

-- NO NAME COMES TWICE
needed-fewer : (p : Name → Bool) (ss : List Step) (wanted : List Name) → count_by p (named (needed_for ss wanted).steps) ≤ count_by p (named ss)
needed-fewer p [] wanted = omega arith
needed-fewer p (s ∷ ss) wanted = go (needed_for ss wanted) (needed-fewer p ss wanted) (has same_name (needed_for ss wanted).wanted s.0)
  where
    go : (n : Needed) → count_by p (named n.steps) ≤ count_by p (named ss) → (b : Bool) →
        (let m : Needed = elim b [ true ↦ record { steps = s ∷ n.steps; wanted = grounds s.1 ++ n.wanted } | false ↦ n ] in
        count_by p (named m.steps) ≤ count_by p (named (s ∷ ss)))
    go n ih true = omega (arith, ih, count_by-cons p s.0 (named n.steps), count_by-cons p s.0 (named ss))
    go n ih false = omega (arith, ih, count_by-cons p s.0 (named ss))

-- THE OBJECT COMES LAST
record Ends (x : Name) (ss : List Step) : Type 0 where
  others : List Step
  why : Reason
  last : ss ≡ others ++ (x, why) ∷ []

needed-last : (ss : List Step) (x : Name) → IsShown ss x → Ends x (needed_for ss (x ∷ [])).steps
needed-last [] x m = absurd m
needed-last (s ∷ ss) x m = go (needed-last ss x) (has same_name (named ss) x) refl
  where
    longer : (n : Needed) → Ends x n.steps → (b : Bool) → (let k : Needed = elim b [ true ↦ record { steps = s ∷ n.steps; wanted = grounds s.1 ++ n.wanted } | false ↦ n ] in Ends x k.steps)
    longer n e true = record { others = s ∷ e.others; why = e.why; last = ap (λ ts. s ∷ ts) e.last }
    longer n e false = e

    go : (IsShown ss x → Ends x (needed_for ss (x ∷ [])).steps) → (b : Bool) → has same_name (named ss) x ≡ b → Ends x (needed_for (s ∷ ss) (x ∷ [])).steps
    go ih true e = longer (needed_for ss (x ∷ [])) (ih (has-among same_name same_name-exact (named ss) x e)) (has same_name (needed_for ss (x ∷ [])).wanted s.0)
    go ih false e =
        let is : s.0 ≡ x = ⊎_elim (λ i. i) (λ i. absurd (true≢false (sym (has-there same_name same_name-exact (named ss) x i) ∙ e))) m in
        let rest : needed_for ss (x ∷ []) ≡ record { steps = []; wanted = x ∷ [] } = needed-front [] ss x e in
        let here : has same_name (x ∷ []) s.0 ≡ true = has-there same_name same_name-exact (x ∷ []) s.0 (inl (sym is)) in
        record {
          others = [];
          why = s.1;
          last = ap (λ (n : Needed). (elim (has same_name n.wanted s.0) as (λ _. Needed) [ true ↦ record { steps = s ∷ n.steps; wanted = grounds s.1 ++ n.wanted } | false ↦ n ]).steps) rest
              ∙ (ap (λ b. (elim b as (λ _. Needed) [ true ↦ record { steps = s ∷ []; wanted = grounds s.1 ++ x ∷ [] } | false ↦ record { steps = []; wanted = x ∷ [] } ]).steps) here
              ∙ ap (λ z. (z, s.1) ∷ []) is);
        }

-- THE STEPS THAT LEAD TO AN OBJECT ARE A WAY THERE,
pub led-way : (h : Heap) (x : Name) → is_led_to (leads_in h) x ≡ true → IsWay h x (path_to (leads_in h) x)
led-way h x led =
    let l : Leads = leads_in h in
    let end = needed-last (derivation l) x (has-among same_name same_name-exact (named (derivation l)) x led) in
    record {
      each = needed-follows h [] (derivation l) (x ∷ []) [] (derivation-follows l) (λ y a i. absurd a);
      once = λ y. omega (arith, needed-fewer (same_name y) (derivation l) (x ∷ []), derivation-distinct l y);
      others = end.others;
      why = end.why;
      last = end.last;
    }

-- and some lead there exactly where the registers reach it.
pub led-reached : (h : Heap) (x : Name) → IsWellFormed h → (b : Bool) → b ≡ is_led_to (leads_in h) x → IsTrue b ↔ ReachedIn (view h) x
led-reached h x w b is = (λ t. led-reached_in h w x (sym is ∙ t), λ r. is ∙ reached_in-led h w x r)

-- an answer is the one that it is
pub ok-same : {E : Type 0} (b d : Bool) → ◌≡◌ {A = Result Bool E} (Ok b) (Ok d) → b ≡ d
ok-same b d is = ap (λ r. elim r [ Ok a ↦ a | Err e ↦ b ]) is
