-- THE STEPS THAT LEAD TO AN OBJECT ARE A PATH: each follows from those before it, no name comes twice, and the object comes last;
-- and what a path leads to is reached.
use Rattle.std.proofs.Common.{◌≡◌, ◌≤◌, Bool, true, false, List, [], ◌∷◌, ◌++◌, refl, sym, ◌∙◌, ap, subst, inl, inr, ◌⊎◌, ⊎_elim, arith, count_by, append_assoc}
use Rattle.std.proofs.lemmas.Bool.{true≢false}
use Rattle.std.proofs.lemmas.List.{map_push, append-nil}
use Rattle.cc_lists.specs.Members.{Among, has}
use Rattle.cc_lists.proofs.Members.{Among-left, Among-right, Among-append, has-there, has-among}
use Rattle.cc_lists.proofs.Counting.{count_by-cons}
use Rattle.cc_names.specs.declared.name.Name.{Name}
use Rattle.cc_names.specs.declared.register.Reg.TheVariants.{N, S, W}
use Rattle.cc_names.specs.Names.{same_name}
use Rattle.cc_names.proofs.NameTests.{same_name-exact}
use Rattle.cc_model.specs.declared.item.Reason.{Reason}
use Rattle.cc_model.specs.declared.item.Reason.TheVariants.{Root, Edge, Pair}
use Rattle.cc_model.specs.Answers.{Step}
use Rattle.cc_model.specs.Entries.{Entry, Joint}
use Rattle.cc_model.specs.Graph.{Graph}
use Rattle.cc_model.specs.Reached as reached
use Rattle.cc_model.specs.Reached.{Reached}
use Rattle.cc_model.specs.Derivations.{Leads, leads_made, named, derivation, grounds, Needed, needed_for, path_to, is_led_to}
use Rattle.cc_model.specs.Paths as paths
use Rattle.cc_model.specs.Paths.{IsShown, held, edge, value, key, EachFollows, IsPathTo}
use Rattle.cc_model.proofs.Joints.{Gives, its_value, its_key, joint-cases}
use Rattle.cc_model.proofs.Derivations.{Follows, AreFollowing, steps-all, derivation-follows, derivation-distinct, needed-front}

-- one more step shows one more object
shown-push : (ss : List Step) (s : Step) (y : Name) → IsShown (ss ++ s ∷ []) y → IsShown ss y ⊎ (s.0 ≡ y)
shown-push ss s y m = ⊎_elim (λ a. inl a) (λ b. ⊎_elim (λ is. inr is) (λ never. absurd never) b)
    (Among-append y (named ss) (s.0 ∷ []) (subst (Among y) (map_push (λ (t : Step). t.0) ss s) m))

shown-longer : (ss : List Step) (s : Step) (y : Name) → IsShown ss y ⊎ (s.0 ≡ y) → IsShown (ss ++ s ∷ []) y
shown-longer ss s y m = subst (Among y) (sym (map_push (λ (t : Step). t.0) ss s))
    (⊎_elim (λ a. Among-left y (named ss) (s.0 ∷ []) a) (λ is. Among-right y (named ss) (s.0 ∷ []) (inl is)) m)

-- WHAT IS NEEDED FOLLOWS FROM WHAT IS NEEDED

-- what follows from steps, follows from others that show what it rests on
follows-kept : (l : Leads) (before kept : List Step) (x : Name) (r : Reason) → Follows l before x r →
    ((y : Name) → IsShown before y → Among y (grounds r) → IsShown kept y) → Follows l kept x r
follows-kept l before kept x r f h = go r f h
  where
    still : (y : Name) → has same_name (named before) y ≡ true → (IsShown before y → IsShown kept y) → has same_name (named kept) y ≡ true
    still y e k = has-there same_name same_name-exact (named kept) y (k (has-among same_name same_name-exact (named before) y e))

    go : (r : Reason) → Follows l before x r → ((y : Name) → IsShown before y → Among y (grounds r) → IsShown kept y) → Follows l kept x r
    go (Root r) f h = f
    go (Edge y) f h = (still y f.0 (λ m. h y m (inl refl)), f.1)
    go (Pair m k) f h = (still m f.0 (λ i. h m i (inl refl)), still k f.1 (λ i. h k i (inr (inl refl))), f.2)

-- the needed ones follow, from those that show what is wanted of the steps before
needed-follows : (l : Leads) (before ss : List Step) (wanted : List Name) (kept : List Step) → AreFollowing l before ss →
    ((y : Name) → IsShown before y → Among y (needed_for ss wanted).wanted → IsShown kept y) → AreFollowing l kept (needed_for ss wanted).steps
needed-follows l before [] wanted kept f h = tt
needed-follows l before (s ∷ ss) wanted kept f h =
    go (needed_for ss wanted) (λ more k. needed-follows l (before ++ s ∷ []) ss wanted more f.1 k) (has same_name (needed_for ss wanted).wanted s.0) refl h
  where
    go : (n : Needed) → ((more : List Step) → ((y : Name) → IsShown (before ++ s ∷ []) y → Among y n.wanted → IsShown more y) → AreFollowing l more n.steps) →
        (b : Bool) → has same_name n.wanted s.0 ≡ b →
        (let m : Needed = elim b [ true ↦ record { steps = s ∷ n.steps; wanted = grounds s.1 ++ n.wanted } | false ↦ n ] in
        ((y : Name) → IsShown before y → Among y m.wanted → IsShown kept y) → AreFollowing l kept m.steps)
    go n later true e h = (
      follows-kept l before kept s.0 s.1 f.0 (λ y a i. h y a (Among-left y (grounds s.1) n.wanted i)),
      later (kept ++ s ∷ []) (λ y a i. shown-longer kept s y
          (⊎_elim (λ b. inl (h y b (Among-right y (grounds s.1) n.wanted i))) (λ is. inr is) (shown-push before s y a))),
    )
    go n later false e h = later kept (λ y a i. ⊎_elim (λ b. h y b i)
        (λ is. absurd (true≢false (sym (has-there same_name same_name-exact n.wanted s.0 (subst (λ z. Among z n.wanted) (sym is) i)) ∙ e))) (shown-push before s y a))

path-follows : (l : Leads) (x : Name) → AreFollowing l [] (path_to l x)
path-follows l x = needed-follows l [] (derivation l) (x ∷ []) [] (derivation-follows l) (λ y a i. absurd a)

-- NO NAME COMES TWICE
needed-fewer : (p : Name → Bool) (ss : List Step) (wanted : List Name) → count_by p (named (needed_for ss wanted).steps) ≤ count_by p (named ss)
needed-fewer p [] wanted = omega arith
needed-fewer p (s ∷ ss) wanted = go (needed_for ss wanted) (needed-fewer p ss wanted) (has same_name (needed_for ss wanted).wanted s.0)
  where
    go : (n : Needed) → count_by p (named n.steps) ≤ count_by p (named ss) → (b : Bool) →
        (let m : Needed = elim b [ true ↦ record { steps = s ∷ n.steps; wanted = grounds s.1 ++ n.wanted } | false ↦ n ] in
        count_by p (named m.steps) ≤ count_by p (named (s ∷ ss)))
    go n ih true = omega (arith, ih, count_by-cons p s.0 (named n.steps), count_by-cons p s.0 (named ss))
    go n ih false = omega (arith, ih, count_by-cons p s.0 (named ss))

-- THE OBJECT COMES LAST
record Ends (x : Name) (ss : List Step) : Type 0 where
  others : List Step
  why : Reason
  last : ss ≡ others ++ (x, why) ∷ []

needed-last : (ss : List Step) (x : Name) → IsShown ss x → Ends x (needed_for ss (x ∷ [])).steps
needed-last [] x m = absurd m
needed-last (s ∷ ss) x m = go (needed-last ss x) (has same_name (named ss) x) refl
  where
    longer : (n : Needed) → Ends x n.steps → (b : Bool) → (let k : Needed = elim b [ true ↦ record { steps = s ∷ n.steps; wanted = grounds s.1 ++ n.wanted } | false ↦ n ] in Ends x k.steps)
    longer n e true = record { others = s ∷ e.others; why = e.why; last = ap (λ ts. s ∷ ts) e.last }
    longer n e false = e

    go : (IsShown ss x → Ends x (needed_for ss (x ∷ [])).steps) → (b : Bool) → has same_name (named ss) x ≡ b → Ends x (needed_for (s ∷ ss) (x ∷ [])).steps
    go ih true e = longer (needed_for ss (x ∷ [])) (ih (has-among same_name same_name-exact (named ss) x e)) (has same_name (needed_for ss (x ∷ [])).wanted s.0)
    go ih false e =
        let is : s.0 ≡ x = ⊎_elim (λ i. i) (λ i. absurd (true≢false (sym (has-there same_name same_name-exact (named ss) x i) ∙ e))) m in
        let rest : needed_for ss (x ∷ []) ≡ record { steps = []; wanted = x ∷ [] } = needed-front [] ss x e in
        let here : has same_name (x ∷ []) s.0 ≡ true = has-there same_name same_name-exact (x ∷ []) s.0 (inl (sym is)) in
        record {
          others = [];
          why = s.1;
          last = ap (λ (n : Needed). (elim (has same_name n.wanted s.0) as (λ _. Needed) [ true ↦ record { steps = s ∷ n.steps; wanted = grounds s.1 ++ n.wanted } | false ↦ n ]).steps) rest
              ∙ (ap (λ b. (elim b as (λ _. Needed) [ true ↦ record { steps = s ∷ []; wanted = grounds s.1 ++ x ∷ [] } | false ↦ record { steps = []; wanted = x ∷ [] } ]).steps) here
              ∙ ap (λ z. (z, s.1) ∷ []) is);
        }

-- OF THE GRAPH: what follows by its leads follows as what is reached does
graph-follows : (g : Graph) (before : List Step) (x : Name) (r : Reason) → Follows (leads_made g) before x r → paths.Follows g before x r
graph-follows g before x (Root (N k)) f = held (N k) x f
graph-follows g before x (Root (S k)) f = held (S k) x f
graph-follows g before x (Root (W k)) f = absurd f
graph-follows g before x (Edge y) f = edge y x (has-among same_name same_name-exact (named before) y f.0) f.1
graph-follows g before x (Pair m k) f =
    let j : Joint = record { the_map = m; key = k; value = x } in
    let e = joint-cases g.entries j f.2 in
    given e.0 e.1 j e.2 (has-among same_name same_name-exact (named before) m f.0) (has-among same_name same_name-exact (named before) k f.1)
  where
    given : (e : Entry) → Among e g.entries → (j : Joint) → Gives e j → IsShown before j.the_map → IsShown before j.key → paths.Follows g before j.value (Pair j.the_map j.key)
    given e i _ its_value a b = value e i a b
    given e i _ (its_key d q) a b = key e d i q a b

each-follows : (g : Graph) (before ss : List Step) → AreFollowing (leads_made g) before ss → EachFollows g before ss
each-follows g before [] f = tt
each-follows g before (s ∷ ss) f = (graph-follows g before s.0 s.1 f.0, each-follows g (before ++ s ∷ []) ss f.1)

-- THE STEPS THAT LEAD TO AN OBJECT ARE A PATH THERE.
pub path-is_right : (g : Graph) (x : Name) → is_led_to (leads_made g) x ≡ true → IsPathTo g x (path_to (leads_made g) x)
path-is_right g x led =
    let l : Leads = leads_made g in
    let end = needed-last (derivation l) x (has-among same_name same_name-exact (named (derivation l)) x led) in
    record {
      each = each-follows g [] (path_to l x) (path-follows l x);
      once = λ y. omega (arith, needed-fewer (same_name y) (derivation l) (x ∷ []), derivation-distinct l y);
      others = end.others;
      why = end.why;
      last = end.last;
    }

-- WHAT IS REACHED

-- all that the steps show
abbrev pub AllReached : Graph → List Step → Type 0
AllReached g steps = (y : Name) → IsShown steps y → Reached g y

-- what follows from reached objects is reached
follows-reached : (g : Graph) (before : List Step) (x : Name) (r : Reason) → AllReached g before → paths.Follows g before x r → Reached g x
follows-reached g before _ _ all (held r x e) = reached.held r x e
follows-reached g before _ _ all (edge x y m i) = reached.edge x y (all x m) i
follows-reached g before _ _ all (value e i a b) = reached.value e i (all e.the_map a) (all e.key b)
follows-reached g before _ _ all (key e d i q a b) = reached.key e d i q (all e.the_map a) (all d b)

step-reached : (g : Graph) (before : List Step) (x : Name) (r : Reason) → paths.Follows g before x r → AllReached g before → AllReached g (before ++ (x, r) ∷ [])
step-reached g before x r f all y m = ⊎_elim (λ a. all y a) (λ is. subst (Reached g) is (follows-reached g before x r all f)) (shown-push before (x, r) y m)

-- so all that is found is,
pub all_reached-grows : (g : Graph) (before : List Step) (x : Name) (r : Reason) → has same_name (named before) x ≡ false → Follows (leads_made g) before x r → AllReached g before →
    AllReached g (before ++ (x, r) ∷ [])
all_reached-grows g before x r e f all = step-reached g before x r (graph-follows g before x r f) all

pub led-reached : (g : Graph) (x : Name) → is_led_to (leads_made g) x ≡ true → Reached g x
led-reached g x led = steps-all (leads_made g) (AllReached g) (all_reached-grows g) (λ y m. absurd m) x
    (has-among same_name same_name-exact (named (derivation (leads_made g))) x led)

-- and all of a path.
all-reached : (g : Graph) (before ss : List Step) → AllReached g before → EachFollows g before ss → AllReached g (before ++ ss)
all-reached g before [] all f = subst (AllReached g) (sym (append-nil before)) all
all-reached g before (s ∷ ss) all f =
    subst (AllReached g) (append_assoc before (s ∷ []) ss) (all-reached g (before ++ s ∷ []) ss (step-reached g before s.0 s.1 f.0 all) f.1)

-- WHAT A PATH LEADS TO IS REACHED.
pub path-reached : (g : Graph) (x : Name) (steps : List Step) → IsPathTo g x steps → Reached g x
path-reached g x steps p = all-reached g [] steps (λ y m. absurd m) p.each x
    (subst (λ ts. IsShown ts x) (sym p.last) (shown-longer p.others (x, p.why) x (inr refl)))
