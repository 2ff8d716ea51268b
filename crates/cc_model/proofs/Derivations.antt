-- DERIVATIONS: what each step keeps, all steps keep; so names are distinct, each step follows from those before it, the walk
-- goes on until none waits, and what is found later is not needed for what was found before.
use Rattle.std.specs.Prelude.{slice_index_or}
use Rattle.std.proofs.Common.{◌≡◌, ℕ, zero, suc, ◌+◌, ◌<◌, ◌≤◌, Bool, true, false, ◌&&◌, ◌||◌, List, [], ◌∷◌, ◌++◌, length, Some, None, refl, sym, ◌∙◌, ap, subst, inl, inr, ◌⊎◌, ⊎_elim, arith, count_by, append_assoc, length-append}
use Rattle.std.proofs.lemmas.Bool.{true≢false, and_parts, or_left, or_right}
use Rattle.std.proofs.lemmas.List.{map_push, append-nil, length-map}
use Rattle.cc_lists.specs.Members.{Among, has, with_last}
use Rattle.cc_lists.proofs.Members.{Among-right, Among-append, Among-map, Among-flat_map, has-there, has-among}
use Rattle.cc_lists.proofs.OnceEach.{with_all_last-once}
use Rattle.cc_lists.proofs.Counting.{count_by-below, count_by-some, counted_is, count_by-all}
use Rattle.cc_lists.proofs.CountsOf.{false-left, count_by-agree}
use Rattle.cc_names.specs.declared.name.Name.{Name}
use Rattle.cc_names.specs.declared.register.Reg.{Reg}
use Rattle.cc_names.specs.declared.register.Reg.TheVariants.{N, S, W}
use Rattle.cc_names.specs.Names.{same_name}
use Rattle.cc_names.proofs.NameTests.{same_name-true, same_name-refl, same_name-exact}
use Rattle.cc_model.specs.declared.item.Reason.{Reason}
use Rattle.cc_model.specs.declared.item.Reason.TheVariants.{Root, Edge, Pair}
use Rattle.cc_model.specs.Answers.{Step}
use Rattle.cc_model.specs.Slots.{Slots, contents}
use Rattle.cc_model.specs.Entries.{Entry, Joint, joints_of, joints}
use Rattle.cc_model.proofs.Reaching.{content-at}
use Rattle.cc_model.specs.Derivations.{Leads, AreWithin, Walk, named, steps_of, is_found, with_step, with_bank, nothing_found, rooted, with_edges, with_joint, with_joints, is_member, with_entries, with_object, walked_first, walk, derivation, grounds, with_needed, needed_for, path_to, is_led_to}

-- what holds a name in a register
abbrev pub IsHeldBy : Leads → Reg → Name → Type 0
IsHeldBy l (N k) x = slice_index_or l.native_registers k None ≡ Some x
IsHeldBy l (S k) x = slice_index_or l.script_registers k None ≡ Some x
IsHeldBy l (W k) x = ⊥

-- THAT A STEP FOLLOWS from others
abbrev pub Follows : Leads → List Step → Name → Reason → Type 0
Follows l ss x (Root r) = IsHeldBy l r x
Follows l ss x (Edge y) = (has same_name (named ss) y ≡ true) × Among x (contents (l.places y))
Follows l ss x (Pair m k) = (has same_name (named ss) m ≡ true) × (has same_name (named ss) k ≡ true) × Among (record { the_map = m; key = k; value = x }) (joints l.entries)

same_name-sym : (x y : Name) → same_name x y ≡ same_name y x
same_name-sym x y = go (same_name x y) refl (same_name y x) refl
  where
    go : (a : Bool) → same_name x y ≡ a → (b : Bool) → same_name y x ≡ b → a ≡ b
    go true e true f = refl
    go false e false f = refl
    go true e false f = absurd (true≢false (sym (subst (λ z. same_name z x ≡ true) (same_name-true x y e) (same_name-refl x)) ∙ f))
    go false e true f = absurd (true≢false (sym (subst (λ z. same_name z y ≡ true) (same_name-true y x f) (same_name-refl y)) ∙ e))

-- WHAT IS FOUND STAYS FOUND

pub has-more : (ss ts : List Step) (x : Name) → has same_name (named ss) x ≡ true → has same_name (named (ss ++ ts)) x ≡ true
has-more [] ts x e = absurd (true≢false (sym e))
has-more (s ∷ ss) ts x e = go (λ k. has-more ss ts x k) (same_name s.0 x) e
  where
    go : (has same_name (named ss) x ≡ true → has same_name (named (ss ++ ts)) x ≡ true) →
        (b : Bool) → (b || has same_name (named ss) x) ≡ true → (b || has same_name (named (ss ++ ts)) x) ≡ true
    go more true k = refl
    go more false k = more k

pub found-grows : (w : Walk) (y : Name) (r : Reason) (x : Name) → is_found w x ≡ true → is_found (record w { waiting = w.waiting ++ (y, r) ∷ [] }) x ≡ true
found-grows w y r x e = subst (λ ss. has same_name (named ss) x ≡ true) (append_assoc w.walked w.waiting ((y, r) ∷ [])) (has-more (steps_of w) ((y, r) ∷ []) x e)

pub with_step-found : (w : Walk) (y : Name) (r : Reason) (x : Name) → is_found w x ≡ true → is_found (with_step w y r) x ≡ true
with_step-found w y r x e = go (is_found w y)
  where
    go : (b : Bool) → is_found (elim b [ true ↦ w | false ↦ record w { waiting = w.waiting ++ (y, r) ∷ [] } ]) x ≡ true
    go true = e
    go false = found-grows w y r x e

-- WHAT EACH STEP KEEPS, of a walk
module _ (l : Leads) (P : Walk → Type 0)
    (grow : (w : Walk) (x : Name) (r : Reason) → is_found w x ≡ false → Follows l (steps_of w) x r → P w → P (record w { waiting = w.waiting ++ (x, r) ∷ [] })) where
  pub with_step-keeps : (w : Walk) (x : Name) (r : Reason) → Follows l (steps_of w) x r → P w → P (with_step w x r)
  with_step-keeps w x r f p = go (is_found w x) refl
    where
      go : (b : Bool) → is_found w x ≡ b → P (elim b [ true ↦ w | false ↦ record w { waiting = w.waiting ++ (x, r) ∷ [] } ])
      go true e = p
      go false e = grow w x r e f p

  pub with_bank-keeps : (reg : ℕ → Reg) (k : ℕ) (slots : Slots) (w : Walk) → ((i : ℕ) (x : Name) → slice_index_or slots i None ≡ Some x → IsHeldBy l (reg (k + i)) x) →
      P w → P (with_bank reg k slots w)
  with_bank-keeps reg k [] w h p = p
  with_bank-keeps reg k (None ∷ slots) w h p = with_bank-keeps reg (k + 1) slots w (λ i x e. subst (λ j. IsHeldBy l (reg j) x) (omega arith) (h (suc i) x e)) p
  with_bank-keeps reg k (Some y ∷ slots) w h p =
      with_bank-keeps reg (k + 1) slots (with_step w y (Root (reg k))) (λ i x e. subst (λ j. IsHeldBy l (reg j) x) (omega arith) (h (suc i) x e))
      (with_step-keeps w y (Root (reg k)) (subst (λ j. IsHeldBy l (reg j) y) (omega arith) (h 0 y refl)) p)

  pub rooted-keeps : P nothing_found → P (rooted l)
  rooted-keeps p =
      with_bank-keeps S 0 l.script_registers (with_bank N 0 l.native_registers nothing_found) (λ i x e. subst (λ j. IsHeldBy l (S j) x) (omega arith) e)
      (with_bank-keeps N 0 l.native_registers nothing_found (λ i x e. subst (λ j. IsHeldBy l (N j) x) (omega arith) e) p)

  pub with_edges-keeps : (x : Name) (ys : List Name) (w : Walk) → is_found w x ≡ true → ((y : Name) → Among y ys → Among y (contents (l.places x))) →
      P w → P (with_edges x ys w)
  with_edges-keeps x [] w f h p = p
  with_edges-keeps x (y ∷ ys) w f h p =
      with_edges-keeps x ys (with_step w y (Edge x)) (with_step-found w y (Edge x) x f) (λ z m. h z (inr m)) (with_step-keeps w y (Edge x) (f, h y (inl refl)) p)

  pub with_joint-keeps : (w : Walk) (j : Joint) → Among j (joints l.entries) → P w → P (with_joint w j)
  with_joint-keeps w j m p = go (is_found w j.the_map && is_found w j.key) refl
    where
      go : (b : Bool) → (is_found w j.the_map && is_found w j.key) ≡ b → P (elim b [ true ↦ with_step w j.value (Pair j.the_map j.key) | false ↦ w ])
      go true e = let k = and_parts (is_found w j.the_map) (is_found w j.key) e in with_step-keeps w j.value (Pair j.the_map j.key) (k.0, k.1, m) p
      go false e = p

  pub with_joints-keeps : (js : List Joint) (w : Walk) → ((j : Joint) → Among j js → Among j (joints l.entries)) → P w → P (with_joints js w)
  with_joints-keeps [] w h p = p
  with_joints-keeps (j ∷ js) w h p = with_joints-keeps js (with_joint w j) (λ i m. h i (inr m)) (with_joint-keeps w j (h j (inl refl)) p)

  pub with_entries-keeps : (x : Name) (es : List Entry) (w : Walk) → ((e : Entry) → Among e es → Among e l.entries) → P w → P (with_entries x es w)
  with_entries-keeps x [] w h p = p
  with_entries-keeps x (e ∷ es) w h p = with_entries-keeps x es (elim (is_member x e) [ true ↦ with_joints (joints_of e) w | false ↦ w ]) (λ d m. h d (inr m)) (go (is_member x e))
    where
      go : (b : Bool) → P (elim b [ true ↦ with_joints (joints_of e) w | false ↦ w ])
      go true = with_joints-keeps (joints_of e) w (λ j m. Among-flat_map joints_of e j l.entries (h e (inl refl)) m) p
      go false = p

  pub with_object-keeps : (x : Name) (w : Walk) → is_found w x ≡ true → P w → P (with_object l x w)
  with_object-keeps x w f p =
      with_entries-keeps x l.entries (with_edges x (contents (l.places x)) w) (λ e m. m) (with_edges-keeps x (contents (l.places x)) w f (λ y m. m) p)

-- what walks is found
pub first-found : (walked : List Step) (s : Step) (ss : List Step) → is_found (record { walked = walked ++ s ∷ []; waiting = ss }) s.0 ≡ true
first-found walked s ss =
    has-more (walked ++ s ∷ []) ss s.0 (has-there same_name same_name-exact (named (walked ++ s ∷ [])) s.0
    (Among-map (λ (t : Step). t.0) s (walked ++ s ∷ []) (Among-right s walked (s ∷ []) (inl refl))))

-- and also where the first that waits is walked
module _ (l : Leads) (P : Walk → Type 0)
    (grow : (w : Walk) (x : Name) (r : Reason) → is_found w x ≡ false → Follows l (steps_of w) x r → P w → P (record w { waiting = w.waiting ++ (x, r) ∷ [] }))
    (move : (walked : List Step) (s : Step) (ss : List Step) → P (record { walked = walked; waiting = s ∷ ss }) → P (record { walked = walked ++ s ∷ []; waiting = ss })) where
  pub walked_first-keeps : (w : Walk) (s : Step) (ss : List Step) → w.waiting ≡ s ∷ ss → P w → P (walked_first l s ss w)
  walked_first-keeps w s ss e p =
      with_object-keeps l P grow s.0 (record { walked = w.walked ++ s ∷ []; waiting = ss }) (first-found w.walked s ss)
      (move w.walked s ss (subst (λ q. P (record { walked = w.walked; waiting = q })) e p))

  pub walk-keeps : (n : ℕ) (w : Walk) → P w → P (walk n l w)
  unfolding walk
  walk-keeps zero w p = p
  walk-keeps (suc n) w p = go (λ v. walk-keeps n v) w.waiting refl
    where
      go : ((v : Walk) → P v → P (walk n l v)) → (q : List Step) → w.waiting ≡ q → P (elim q [ [] ↦ w | s ∷ ss ↦ walk n l (walked_first l s ss w) ])
      go later [] e = p
      go later (s ∷ ss) e = later (walked_first l s ss w) (walked_first-keeps w s ss e p)

-- OF THE STEPS ALONE
module _ (l : Leads) (P : List Step → Type 0)
    (grow : (ss : List Step) (x : Name) (r : Reason) → has same_name (named ss) x ≡ false → Follows l ss x r → P ss → P (ss ++ (x, r) ∷ [])) where
  grown : (w : Walk) (x : Name) (r : Reason) → is_found w x ≡ false → Follows l (steps_of w) x r → P (steps_of w) → P (steps_of (record w { waiting = w.waiting ++ (x, r) ∷ [] }))
  grown w x r e f p = subst P (append_assoc w.walked w.waiting ((x, r) ∷ [])) (grow (steps_of w) x r e f p)

  moved : (walked : List Step) (s : Step) (ss : List Step) → P (walked ++ s ∷ ss) → P ((walked ++ s ∷ []) ++ ss)
  moved walked s ss p = subst P (sym (append_assoc walked (s ∷ []) ss)) p

  pub steps-step : (w : Walk) (s : Step) (ss : List Step) → w.waiting ≡ s ∷ ss → P (steps_of w) → P (steps_of (walked_first l s ss w))
  steps-step w s ss e p = walked_first-keeps l (λ v. P (steps_of v)) grown moved w s ss e p

  pub steps-walk : (n : ℕ) (w : Walk) → P (steps_of w) → P (steps_of (walk n l w))
  steps-walk n w p = walk-keeps l (λ v. P (steps_of v)) grown moved n w p

  pub steps-rooted : P [] → P (steps_of (rooted l))
  steps-rooted p = rooted-keeps l (λ v. P (steps_of v)) grown p

  pub steps-all : P [] → P (derivation l)
  steps-all p = steps-walk l.objects (rooted l) (steps-rooted p)

-- NAMES ARE DISTINCT

abbrev pub AreDistinct : List Step → Type 0
AreDistinct ss = (y : Name) → count_by (same_name y) (named ss) ≤ 1

pub distinct-grows : (l : Leads) (ss : List Step) (x : Name) (r : Reason) → has same_name (named ss) x ≡ false → Follows l ss x r → AreDistinct ss → AreDistinct (ss ++ (x, r) ∷ [])
distinct-grows l ss x r e f p y =
    let last : with_last same_name (named ss) x ≡ named (ss ++ (x, r) ∷ []) =
    ap (λ b. elim b [ true ↦ named ss | false ↦ named ss ++ x ∷ [] ]) e ∙ sym (map_push (λ (s : Step). s.0) ss (x, r)) in
    subst (λ xs. count_by (same_name y) xs ≤ 1) last (with_all_last-once same_name same_name-exact (named ss) (x ∷ []) y (p y))

pub derivation-distinct : (l : Leads) → AreDistinct (derivation l)
derivation-distinct l = steps-all l AreDistinct (distinct-grows l) (λ y. omega arith)

-- EACH STEP FOLLOWS from those before it

abbrev pub AreFollowing : Leads → List Step → List Step → Type 0
AreFollowing l before [] = Unit {0}
AreFollowing l before (s ∷ ss) = Follows l before s.0 s.1 × AreFollowing l (before ++ s ∷ []) ss

following-push : (l : Leads) (before ss : List Step) (x : Name) (r : Reason) → Follows l (before ++ ss) x r → AreFollowing l before ss → AreFollowing l before (ss ++ (x, r) ∷ [])
following-push l before [] x r f p = (subst (λ ts. Follows l ts x r) (append-nil before) f, tt)
following-push l before (s ∷ ss) x r f p =
    (p.0, following-push l (before ++ s ∷ []) ss x r (subst (λ ts. Follows l ts x r) (sym (append_assoc before (s ∷ []) ss)) f) p.1)

pub derivation-follows : (l : Leads) → AreFollowing l [] (derivation l)
derivation-follows l = steps-all l (AreFollowing l []) (λ ss x r e f p. following-push l [] ss x r f p) tt

-- WHAT IS FOUND LATER stands behind, and is none of what was found

pub record Begins (front ss : List Step) : Type 0 where
  pub more : List Step
  pub whole : ss ≡ front ++ more
  pub later : (y : Name) → has same_name (named front) y ≡ true → has same_name (named more) y ≡ false

pub begins-itself : (ss : List Step) → Begins ss ss
begins-itself ss = record { more = []; whole = sym (append-nil ss); later = λ y e. refl }

begins-grows : (l : Leads) (front ss : List Step) (x : Name) (r : Reason) → has same_name (named ss) x ≡ false → Follows l ss x r → Begins front ss → Begins front (ss ++ (x, r) ∷ [])
begins-grows l front ss x r e f b = record {
  more = b.more ++ (x, r) ∷ [];
  whole = ap (λ ts. ts ++ (x, r) ∷ []) b.whole ∙ append_assoc front b.more ((x, r) ∷ []);
  later = λ y h. false-left (has same_name (named (b.more ++ (x, r) ∷ [])) y) (λ t. none y h
      (Among-append y (named b.more) (x ∷ []) (subst (Among y) (map_push (λ (s : Step). s.0) b.more (x, r)) (has-among same_name same_name-exact (named (b.more ++ (x, r) ∷ [])) y t))));
}
  where
    none : (y : Name) → has same_name (named front) y ≡ true → Among y (named b.more) ⊎ Among y (x ∷ []) → ⊥
    none y h (inl m) = true≢false (sym (has-there same_name same_name-exact (named b.more) y m) ∙ b.later y h)
    none y h (inr (inl is)) = true≢false (sym (subst (λ ts. has same_name (named ts) x ≡ true) (sym b.whole)
        (has-more front b.more x (subst (λ z. has same_name (named front) z ≡ true) (sym is) h))) ∙ e)
    none y h (inr (inr never)) = absurd never

pub walk-begins : (l : Leads) (n : ℕ) (w : Walk) → Begins (steps_of w) (steps_of (walk n l w))
walk-begins l n w = steps-walk l (Begins (steps_of w)) (begins-grows l (steps_of w)) n w (begins-itself (steps_of w))

-- so it is not needed for that
needed-none : (ss : List Step) (x : Name) → has same_name (named ss) x ≡ false → needed_for ss (x ∷ []) ≡ record { steps = []; wanted = x ∷ [] }
needed-none [] x e = refl
needed-none (s ∷ ss) x e =
    let here : same_name s.0 x ≡ false = false-left (same_name s.0 x) (λ t. true≢false (sym (or_left (same_name s.0 x) (has same_name (named ss) x) t) ∙ e)) in
    let rest : has same_name (named ss) x ≡ false = false-left (has same_name (named ss) x) (λ t. true≢false (sym (or_right (same_name s.0 x) (has same_name (named ss) x) t) ∙ e)) in
    let other : same_name x s.0 ≡ false = false-left (same_name x s.0) (λ t. true≢false (sym (subst (λ z. same_name z x ≡ true) (same_name-true x s.0 t) (same_name-refl x)) ∙ here)) in
    ap (with_needed s) (needed-none ss x rest) ∙ ap (λ b. elim (b || false) [ true ↦ record { steps = s ∷ []; wanted = grounds s.1 ++ x ∷ [] } | false ↦ record { steps = []; wanted = x ∷ [] } ]) other

pub needed-front : (front more : List Step) (x : Name) → has same_name (named more) x ≡ false → needed_for (front ++ more) (x ∷ []) ≡ needed_for front (x ∷ [])
needed-front [] more x e = needed-none more x e
needed-front (s ∷ front) more x e = ap (with_needed s) (needed-front front more x e)

-- THE WALK ENDS

-- each name is one of them
abbrev pub HasNamesOf : List Name → List Step → Type 0
HasNamesOf names ss = (x : Name) → Among x (named ss) → Among x names

pub named-within : (l : Leads) (names : List Name) → AreWithin l names → (ss : List Step) (x : Name) (r : Reason) → Follows l ss x r → Among x names
named-within l names within ss x (Root (N k)) f = within.natives x (content-at x l.native_registers k f)
named-within l names within ss x (Root (S k)) f = within.scripts x (content-at x l.script_registers k f)
named-within l names within ss x (Root (W k)) f = absurd f
named-within l names within ss x (Edge y) f = within.places y x f.1
named-within l names within ss x (Pair m k) f = within.joined (record { the_map = m; key = k; value = x }) f.2

-- steps with distinct names, which are some of these
pub record AreSome (l : Leads) (names : List Name) (ss : List Step) : Type 0 where
  pub distinct : AreDistinct ss
  pub within : HasNamesOf names ss

pub some-grows : (l : Leads) (names : List Name) → AreWithin l names → (ss : List Step) (x : Name) (r : Reason) → has same_name (named ss) x ≡ false → Follows l ss x r →
    AreSome l names ss → AreSome l names (ss ++ (x, r) ∷ [])
some-grows l names within ss x r e f some = record {
  distinct = distinct-grows l ss x r e f some.distinct;
  within = λ y m. ⊎_elim (λ a. some.within y a) (λ b. ⊎_elim (λ is. subst (λ z. Among z names) is (named-within l names within ss x r f)) (λ never. absurd never) b)
      (Among-append y (named ss) (x ∷ []) (subst (Among y) (map_push (λ (s : Step). s.0) ss (x, r)) m));
}

-- so they are few
pub some-few : (l : Leads) (names : List Name) (ss : List Step) → AreSome l names ss → length ss ≤ length names
some-few l names ss some =
    let below : count_by (λ (x : Name). true) (named ss) ≤ count_by (λ (x : Name). true) names =
    count_by-below same_name same_name-exact (λ (x : Name). true) (λ (x : Name). x) (λ (y : Name). true) (λ (y : Name). y) (named ss) names
    (λ y. at y (count_by (λ z. same_name z y) (named ss)) refl) in
    omega (arith, below, count_by-all (named ss), count_by-all names, length-map ss (λ (s : Step). s.0))
  where
    turned : (y : Name) → count_by (λ z. same_name z y) (named ss) ≤ 1
    turned y = subst (λ n. n ≤ 1) (count_by-agree (same_name y) (λ z. same_name z y) (named ss) (λ z m. same_name-sym y z)) (some.distinct y)

    at : (y : Name) (n : ℕ) → count_by (λ z. same_name z y) (named ss) ≡ n → count_by (λ z. same_name z y) (named ss) ≤ count_by (λ z. same_name z y) names
    at y zero e = omega arith
    at y (suc n) e =
        let x = counted_is (λ z. same_name z y) (named ss) (omega arith) in
        let more : 0 < count_by (λ z. same_name z y) names =
        count_by-some (λ z. same_name z y) y names (subst (λ z. Among z names) (same_name-true x.0 y x.2) (some.within x.0 x.1)) (same_name-refl y) in
        omega (arith, turned y)

-- how many are walked
walked-kept : (l : Leads) (x : Name) (w : Walk) → is_found w x ≡ true → (with_object l x w).walked ≡ w.walked
walked-kept l x w f = with_object-keeps l (λ v. v.walked ≡ w.walked) (λ v y r e g p. p) x w f refl

pub walked_first-walked : (l : Leads) (s : Step) (ss : List Step) (w : Walk) → (walked_first l s ss w).walked ≡ w.walked ++ s ∷ []
walked_first-walked l s ss w = walked-kept l s.0 (record { walked = w.walked ++ s ∷ []; waiting = ss }) (first-found w.walked s ss)

pub rooted-walked : (l : Leads) → (rooted l).walked ≡ []
rooted-walked l = rooted-keeps l (λ v. v.walked ≡ []) (λ v y r e g p. p) refl

-- A WALK ON ITS WAY: the whole walk is what is left from here, and it goes on as long as steps wait
pub record IsOnTheWay (l : Leads) (names : List Name) (w : Walk) : Type 0 where
  pub left : ℕ
  pub whole : walk l.objects l (rooted l) ≡ walk left l w
  pub enough : length w.walked + left ≡ l.objects
  pub some : AreSome l names (steps_of w)

pub on_the_way-starts : (l : Leads) (names : List Name) → AreWithin l names → IsOnTheWay l names (rooted l)
on_the_way-starts l names within = record {
  left = l.objects;
  whole = refl;
  enough = ap (λ (ss : List Step). length ss + l.objects) (rooted-walked l) ∙ omega arith;
  some = steps-rooted l (AreSome l names) (some-grows l names within) (record { distinct = λ y. omega arith; within = λ x m. absurd m });
}

pub walk-goes_on : (n : ℕ) (l : Leads) (w : Walk) (s : Step) (ss : List Step) → w.waiting ≡ s ∷ ss → walk (suc n) l w ≡ walk n l (walked_first l s ss w)
unfolding walk
walk-goes_on n l w s ss e = ap (λ (q : List Step). elim q [ [] ↦ w | t ∷ ts ↦ walk n l (walked_first l t ts w) ]) e

pub one_less-left : (l : Leads) (s : Step) (ss : List Step) (w : Walk) (n : ℕ) → length w.walked + suc n ≡ l.objects → length (walked_first l s ss w).walked + n ≡ l.objects
one_less-left l s ss w n enough =
    ap (λ (ts : List Step). length ts + n) (walked_first-walked l s ss w) ∙ (ap (λ k. k + n) (length-append w.walked (s ∷ [])) ∙ (omega (arith, enough)))

pub on_the_way-goes_on : (l : Leads) (names : List Name) → AreWithin l names → (w : Walk) (s : Step) (ss : List Step) → w.waiting ≡ s ∷ ss → IsOnTheWay l names w →
    IsOnTheWay l names (walked_first l s ss w)
on_the_way-goes_on l names within w s ss e way = go way.left way.whole way.enough
  where
    room : (n : ℕ) → length w.walked + n ≡ l.objects → 1 ≤ n
    room n k =
        let few : length (w.walked ++ (s ∷ ss)) ≤ length names = subst (λ q. length (w.walked ++ q) ≤ length names) e (some-few l names (steps_of w) way.some) in
        let cut : length (w.walked ++ (s ∷ ss)) ≡ length w.walked + suc (length ss) = length-append w.walked (s ∷ ss) in
        omega (arith, within.enough)

    go : (n : ℕ) → walk l.objects l (rooted l) ≡ walk n l w → length w.walked + n ≡ l.objects → IsOnTheWay l names (walked_first l s ss w)
    go zero whole enough = absurd (omega (arith, room zero enough))
    go (suc n) whole enough = record {
      left = n;
      whole = whole ∙ walk-goes_on n l w s ss e;
      enough = one_less-left l s ss w n enough;
      some = steps-step l (AreSome l names) (some-grows l names within) w s ss e way.some;
    }

-- where none waits, all is found
pub walk-rests : (n : ℕ) (l : Leads) (w : Walk) → w.waiting ≡ [] → walk n l w ≡ w
unfolding walk
walk-rests zero l w e = refl
walk-rests (suc n) l w e = ap (λ (q : List Step). elim q [ [] ↦ w | t ∷ ts ↦ walk n l (walked_first l t ts w) ]) e

pub all-found : (l : Leads) (names : List Name) (w : Walk) → IsOnTheWay l names w → w.waiting ≡ [] → derivation l ≡ steps_of w
all-found l names w way e = ap steps_of (way.whole ∙ walk-rests way.left l w e)

-- what is found is led to, and the steps so far are those that are needed
pub found-led : (l : Leads) (names : List Name) (w : Walk) (x : Name) → IsOnTheWay l names w → is_found w x ≡ true → is_led_to l x ≡ true
found-led l names w x way f =
    let b = walk-begins l way.left w in
    ap (λ v. has same_name (named (steps_of v)) x) way.whole ∙ (ap (λ ss. has same_name (named ss) x) b.whole ∙ has-more (steps_of w) b.more x f)

pub found-path : (l : Leads) (names : List Name) (w : Walk) (x : Name) → IsOnTheWay l names w → is_found w x ≡ true → path_to l x ≡ (needed_for (steps_of w) (x ∷ [])).steps
found-path l names w x way f =
    let b = walk-begins l way.left w in
    ap (λ v. (needed_for (steps_of v) (x ∷ [])).steps) way.whole
    ∙ (ap (λ ss. (needed_for ss (x ∷ [])).steps) b.whole ∙ ap (λ n. n.steps) (needed-front (steps_of w) b.more x (b.later x f)))

-- what is not found at the end is not led to
pub not_found-led : (l : Leads) (names : List Name) (w : Walk) (x : Name) → IsOnTheWay l names w → w.waiting ≡ [] → is_found w x ≡ false → is_led_to l x ≡ false
not_found-led l names w x way e f = ap (λ ss. has same_name (named ss) x) (all-found l names w way e) ∙ f

pub not_led-path : (l : Leads) (x : Name) → is_led_to l x ≡ false → path_to l x ≡ []
not_led-path l x f = ap (λ n. n.steps) (needed-none (derivation l) x f)
