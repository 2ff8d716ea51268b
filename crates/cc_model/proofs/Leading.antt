-- WHAT IS LED TO is the least set that has what registers hold, what the places of its members hold, and what entries give
-- whose members it has; and in heaps that are well formed there are steps enough to find it.
use Rattle.std.proofs.Common.{◌≡◌, ℕ, zero, suc, ◌+◌, Bool, true, false, ◌&&◌, ◌||◌, List, [], ◌∷◌, ◌++◌, length, Option, Some, None, ◌==◌, option_map, refl, sym, ◌∙◌, ap, subst, inl, inr, ◌⊎◌, ⊎_elim, arith, append_assoc, length-append}
use Rattle.std.specs.Option.{option_to_list}
use Rattle.std.proofs.lemmas.Bool.{false≢true}
use Rattle.std.proofs.lemmas.List.{append-nil, map_push, nil_from_length, length-map}
use Rattle.cc_lists.specs.Members.{Among, has}
use Rattle.cc_lists.proofs.Filtering.{find-among}
use Rattle.cc_lists.proofs.Members.{Among-map, Among-left, Among-right, Among-append, has-there, has-among}
use Rattle.cc_names.specs.declared.name.Name.{Name}
use Rattle.cc_names.specs.declared.name.Name.TheVariants as name
use Rattle.cc_names.specs.declared.register.Reg.{Reg}
use Rattle.cc_names.specs.declared.register.Reg.TheVariants.{N, S}
use Rattle.cc_names.specs.Names.{native, object, reflector, same_name}
use Rattle.cc_names.specs.Places.{where_set}
use Rattle.cc_names.proofs.NameTests.{same_name-exact}
use Rattle.cc_model.specs.declared.item.Reason.{Reason}
use Rattle.cc_model.specs.declared.item.Reason.TheVariants.{Root, Edge, Pair}
use Rattle.cc_model.specs.Answers.{Step}
use Rattle.cc_model.specs.Slots.{Slots, contents}
use Rattle.cc_model.specs.Entries.{Entry, Joint, joint, key_joint, joints_of, joints}
use Rattle.cc_model.specs.Derivations.{Leads, AreWithin, Walk, named, steps_of, is_found, with_step, with_bank, nothing_found, rooted, with_edges, with_joint, with_joints, is_delegate, is_member, with_entries, with_object, walked_first, walk, derivation, is_led_to, leads_in}
use Rattle.cc_model.specs.Checks.{native_of, slots_or_none}
use Rattle.cc_model.specs.Heap.{Heap, HeapNative, HeapScript, native_at, script_at}
use Rattle.cc_model.specs.Places.{places_of_native, places_of_script, script_places_of, places_in}
use Rattle.cc_model.specs.WellFormed.{IsWellFormed, native_names, script_names, names_there}
use Rattle.cc_model.proofs.Places.{contents-last, script_place-cases}
use Rattle.cc_model.proofs.Joints.{Gives, its_value, its_key, joint-cases}
use Rattle.cc_model.proofs.Derivations.{AreSome, Follows, IsHeldBy, found-led, has-more, one_less-left, on_the_way-starts, rooted-walked, some-few, some-grows, steps-all, steps-step, walk-goes_on, walk-rests, walked_first-walked, with_step-found}

-- NOTHING ELSE is led to: what holds of what registers hold, and of what places and entries of its members give

pub led-within : (l : Leads) (P : Name → Type 0) → ((r : Reg) (x : Name) → IsHeldBy l r x → P x) → ((y x : Name) → P y → Among x (contents (l.places y)) → P x) →
    ((j : Joint) → Among j (joints l.entries) → P j.the_map → P j.key → P j.value) → (x : Name) → is_led_to l x ≡ true → P x
led-within l P roots places joined x led =
    steps-all l (λ ss. (y : Name) → Among y (named ss) → P y) grow (λ y m. absurd m) x (has-among same_name same_name-exact (named (derivation l)) x led)
  where
    follows : (ss : List Step) (x : Name) (r : Reason) → Follows l ss x r → ((y : Name) → Among y (named ss) → P y) → P x
    follows ss x (Root r) f p = roots r x f
    follows ss x (Edge y) f p = places y x (p y (has-among same_name same_name-exact (named ss) y f.0)) f.1
    follows ss x (Pair m k) f p = joined (record { the_map = m; key = k; value = x }) f.2
        (p m (has-among same_name same_name-exact (named ss) m f.0)) (p k (has-among same_name same_name-exact (named ss) k f.1))

    grow : (ss : List Step) (x : Name) (r : Reason) → has same_name (named ss) x ≡ false → Follows l ss x r → ((y : Name) → Among y (named ss) → P y) → (y : Name) → Among y (named (ss ++ (x, r) ∷ [])) → P y
    grow ss x r e f p y m = ⊎_elim (λ a. p y a) (λ b. ⊎_elim (λ is. subst P is (follows ss x r f p)) (λ never. absurd never) b)
        (Among-append y (named ss) (x ∷ []) (subst (Among y) (map_push (λ (s : Step). s.0) ss (x, r)) m))

-- WHAT IS LOOKED AT IS FOUND

step-there : (w : Walk) (x : Name) (r : Reason) → is_found (with_step w x r) x ≡ true
step-there w x r = go (is_found w x) refl
  where
    go : (b : Bool) → is_found w x ≡ b → is_found (elim b [ true ↦ w | false ↦ record w { waiting = w.waiting ++ (x, r) ∷ [] } ]) x ≡ true
    go true e = e
    go false e = has-there same_name same_name-exact (named (w.walked ++ (w.waiting ++ (x, r) ∷ []))) x
        (subst (λ ss. Among x (named ss)) (append_assoc w.walked w.waiting ((x, r) ∷ []))
        (subst (Among x) (sym (map_push (λ (s : Step). s.0) (steps_of w) (x, r))) (Among-right x (named (steps_of w)) (x ∷ []) (inl refl))))

-- what registers hold
bank-kept : (reg : ℕ → Reg) (k : ℕ) (slots : Slots) (w : Walk) (x : Name) → is_found w x ≡ true → is_found (with_bank reg k slots w) x ≡ true
bank-kept reg k [] w x f = f
bank-kept reg k (None ∷ slots) w x f = bank-kept reg (k + 1) slots w x f
bank-kept reg k (Some y ∷ slots) w x f = bank-kept reg (k + 1) slots (with_step w y (Root (reg k))) x (with_step-found w y (Root (reg k)) x f)

bank-found : (reg : ℕ → Reg) (k : ℕ) (slots : Slots) (w : Walk) (x : Name) → Among x (contents slots) → is_found (with_bank reg k slots w) x ≡ true
bank-found reg k [] w x m = absurd m
bank-found reg k (None ∷ slots) w x m = bank-found reg (k + 1) slots w x m
bank-found reg k (Some y ∷ slots) w x m = ⊎_elim
    (λ is. bank-kept reg (k + 1) slots (with_step w y (Root (reg k))) x (subst (λ z. is_found (with_step w y (Root (reg k))) z ≡ true) is (step-there w y (Root (reg k)))))
    (λ t. bank-found reg (k + 1) slots (with_step w y (Root (reg k))) x t) m

rooted-found : (l : Leads) (x : Name) → Among x (contents l.native_registers) ⊎ Among x (contents l.script_registers) → is_found (rooted l) x ≡ true
rooted-found l x (inl m) = bank-kept S 0 l.script_registers (with_bank N 0 l.native_registers nothing_found) x (bank-found N 0 l.native_registers nothing_found x m)
rooted-found l x (inr m) = bank-found S 0 l.script_registers (with_bank N 0 l.native_registers nothing_found) x m

-- what places hold
edges-kept : (y : Name) (xs : List Name) (w : Walk) (x : Name) → is_found w x ≡ true → is_found (with_edges y xs w) x ≡ true
edges-kept y [] w x f = f
edges-kept y (z ∷ zs) w x f = edges-kept y zs (with_step w z (Edge y)) x (with_step-found w z (Edge y) x f)

edges-found : (y : Name) (xs : List Name) (w : Walk) (x : Name) → Among x xs → is_found (with_edges y xs w) x ≡ true
edges-found y [] w x m = absurd m
edges-found y (z ∷ zs) w x m = ⊎_elim
    (λ is. edges-kept y zs (with_step w z (Edge y)) x (subst (λ v. is_found (with_step w z (Edge y)) v ≡ true) is (step-there w z (Edge y))))
    (λ t. edges-found y zs (with_step w z (Edge y)) x t) m

-- what entries give
joint-kept : (w : Walk) (j : Joint) (x : Name) → is_found w x ≡ true → is_found (with_joint w j) x ≡ true
joint-kept w j x f = go (is_found w j.the_map && is_found w j.key)
  where
    go : (b : Bool) → is_found (elim b [ true ↦ with_step w j.value (Pair j.the_map j.key) | false ↦ w ]) x ≡ true
    go true = with_step-found w j.value (Pair j.the_map j.key) x f
    go false = f

joint-found : (w : Walk) (j : Joint) → is_found w j.the_map ≡ true → is_found w j.key ≡ true → is_found (with_joint w j) j.value ≡ true
joint-found w j m k = ap (λ b. is_found (elim b [ true ↦ with_step w j.value (Pair j.the_map j.key) | false ↦ w ]) j.value) (ap (λ b. b && is_found w j.key) m ∙ k)
    ∙ step-there w j.value (Pair j.the_map j.key)

joints-kept : (js : List Joint) (w : Walk) (x : Name) → is_found w x ≡ true → is_found (with_joints js w) x ≡ true
joints-kept [] w x f = f
joints-kept (j ∷ js) w x f = joints-kept js (with_joint w j) x (joint-kept w j x f)

joints-found : (js : List Joint) (w : Walk) (j : Joint) → Among j js → is_found w j.the_map ≡ true → is_found w j.key ≡ true → is_found (with_joints js w) j.value ≡ true
joints-found [] w j a m k = absurd a
joints-found (i ∷ js) w j a m k = ⊎_elim
    (λ is. joints-kept js (with_joint w i) j.value (subst (λ h. is_found (with_joint w h) j.value ≡ true) (sym is) (joint-found w j m k)))
    (λ t. joints-found js (with_joint w i) j t (joint-kept w i j.the_map m) (joint-kept w i j.key k)) a

-- one entry
abbrev with_one : Name → Entry → Walk → Walk
with_one x e w = elim (is_member x e) [ true ↦ with_joints (joints_of e) w | false ↦ w ]

one-kept : (y : Name) (e : Entry) (w : Walk) (x : Name) → is_found w x ≡ true → is_found (with_one y e w) x ≡ true
one-kept y e w x f = go (is_member y e)
  where
    go : (b : Bool) → is_found (elim b [ true ↦ with_joints (joints_of e) w | false ↦ w ]) x ≡ true
    go true = joints-kept (joints_of e) w x f
    go false = f

one-found : (y : Name) (e : Entry) (w : Walk) (j : Joint) → is_member y e ≡ true → Among j (joints_of e) → is_found w j.the_map ≡ true → is_found w j.key ≡ true →
    is_found (with_one y e w) j.value ≡ true
one-found y e w j is a m k = ap (λ b. is_found (elim b [ true ↦ with_joints (joints_of e) w | false ↦ w ]) j.value) is ∙ joints-found (joints_of e) w j a m k

entries-kept : (y : Name) (es : List Entry) (w : Walk) (x : Name) → is_found w x ≡ true → is_found (with_entries y es w) x ≡ true
entries-kept y [] w x f = f
entries-kept y (e ∷ es) w x f = entries-kept y es (with_one y e w) x (one-kept y e w x f)

entries-found : (y : Name) (es : List Entry) (w : Walk) (e : Entry) (j : Joint) → Among e es → is_member y e ≡ true → Among j (joints_of e) →
    is_found w j.the_map ≡ true → is_found w j.key ≡ true → is_found (with_entries y es w) j.value ≡ true
entries-found y [] w e j a is at m k = absurd a
entries-found y (d ∷ es) w e j a is at m k = ⊎_elim
    (λ same. entries-kept y es (with_one y d w) j.value (subst (λ h. is_found (with_one y h w) j.value ≡ true) (sym same) (one-found y e w j is at m k)))
    (λ t. entries-found y es (with_one y d w) e j t is at (one-kept y d w j.the_map m) (one-kept y d w j.key k)) a

-- ALL THAT THE WALKED GIVE IS FOUND
pub record IsClosed (l : Leads) (w : Walk) : Type 0 where
  pub places : (y x : Name) → Among y (named w.walked) → Among x (contents (l.places y)) → is_found w x ≡ true
  pub joined : (j : Joint) → Among j (joints l.entries) → Among j.the_map (named w.walked) → Among j.key (named w.walked) → is_found w j.value ≡ true

-- an object that is a member of a joint is one of the entry that gives it
gives-among : (e : Entry) (j : Joint) → Gives e j → Among j (joints_of e)
gives-among e _ its_value = Among-right (joint e.the_map e.key e.value) (key_joint e.the_map e.delegate e.key) (joint e.the_map e.key e.value ∷ []) (inl refl)
gives-among e _ (its_key d is) = Among-left (joint e.the_map d e.key) (key_joint e.the_map e.delegate e.key) (joint e.the_map e.key e.value ∷ [])
    (subst (λ o. Among (joint e.the_map d e.key) (key_joint e.the_map o e.key)) (sym is) (inl refl))

one_of_three : (a b c : Bool) → (a ≡ true) ⊎ ((b ≡ true) ⊎ (c ≡ true)) → (a || b || c) ≡ true
one_of_three true b c h = refl
one_of_three false true c h = refl
one_of_three false false true h = refl
one_of_three false false false h = absurd (⊎_elim (λ e. false≢true e) (λ k. ⊎_elim (λ e. false≢true e) (λ e. false≢true e) k) h)

same-is : (x y : Name) → x ≡ y → same_name x y ≡ true
same-is x y e = (same_name-exact x y).1 e

gives-member : (x : Name) (e : Entry) (j : Joint) → Gives e j → (j.the_map ≡ x) ⊎ (j.key ≡ x) → is_member x e ≡ true
gives-member x e _ its_value which = one_of_three (same_name e.the_map x) (same_name e.key x) (is_delegate e.delegate x)
    (⊎_elim (λ is. inl (same-is e.the_map x is)) (λ is. inr (inl (same-is e.key x is))) which)
gives-member x e _ (its_key d at) which = one_of_three (same_name e.the_map x) (same_name e.key x) (is_delegate e.delegate x)
    (⊎_elim (λ is. inl (same-is e.the_map x is)) (λ is. inr (inr (ap (λ o. is_delegate o x) at ∙ same-is d x is))) which)

-- what one object gives, where all that walked before gave what they give
closed-object : (l : Leads) (walked : List Step) (s : Step) (ss : List Step) → IsClosed l (record { walked = walked; waiting = s ∷ ss }) →
    IsClosed l (walked_first l s ss (record { walked = walked; waiting = s ∷ ss }))
closed-object l walked s ss closed = record {
  places = λ y x m a. places y x (cases y (subst (λ ts. Among y (named ts)) (walked_first-walked l s ss before) m)) a;
  joined = λ j a m k. joined j a (subst (λ ts. Among j.the_map (named ts)) (walked_first-walked l s ss before) m)
      (subst (λ ts. Among j.key (named ts)) (walked_first-walked l s ss before) k);
}
  where
    before : Walk
    before = record { walked = walked; waiting = s ∷ ss }

    first : Walk
    first = record { walked = walked ++ s ∷ []; waiting = ss }

    second : Walk
    second = with_edges s.0 (contents (l.places s.0)) first

    -- one of those that walked before, or the one that walks
    cases : (y : Name) → Among y (named (walked ++ s ∷ [])) → Among y (named walked) ⊎ (s.0 ≡ y)
    cases y m = ⊎_elim (λ a. inl a) (λ b. ⊎_elim (λ is. inr is) (λ never. absurd never) b)
        (Among-append y (named walked) (s.0 ∷ []) (subst (Among y) (map_push (λ (t : Step). t.0) walked s) m))

    at_first : (x : Name) → is_found before x ≡ true → is_found first x ≡ true
    at_first x f = subst (λ ts. has same_name (named ts) x ≡ true) (sym (append_assoc walked (s ∷ []) ss)) f

    at_second : (x : Name) → is_found first x ≡ true → is_found second x ≡ true
    at_second x f = edges-kept s.0 (contents (l.places s.0)) first x f

    at_last : (x : Name) → is_found second x ≡ true → is_found (with_object l s.0 first) x ≡ true
    at_last x f = entries-kept s.0 l.entries second x f

    places : (y x : Name) → Among y (named walked) ⊎ (s.0 ≡ y) → Among x (contents (l.places y)) → is_found (with_object l s.0 first) x ≡ true
    places y x (inl m) a = at_last x (at_second x (at_first x (closed.places y x m a)))
    places y x (inr is) a = at_last x (edges-found s.0 (contents (l.places s.0)) first x (subst (λ z. Among x (contents (l.places z))) (sym is) a))

    walks : (y : Name) → Among y (named (walked ++ s ∷ [])) → is_found second y ≡ true
    walks y m = at_second y (has-more (walked ++ s ∷ []) ss y (has-there same_name same_name-exact (named (walked ++ s ∷ [])) y m))

    of_one : (j : Joint) → Among j (joints l.entries) → is_found second j.the_map ≡ true → is_found second j.key ≡ true → (j.the_map ≡ s.0) ⊎ (j.key ≡ s.0) →
        is_found (with_object l s.0 first) j.value ≡ true
    of_one j a m k which =
        let e = joint-cases l.entries j a in
        entries-found s.0 l.entries second e.0 j e.1 (gives-member s.0 e.0 j e.2 which) (gives-among e.0 j e.2) m k

    joined : (j : Joint) → Among j (joints l.entries) → Among j.the_map (named (walked ++ s ∷ [])) → Among j.key (named (walked ++ s ∷ [])) →
        is_found (with_object l s.0 first) j.value ≡ true
    joined j a m k = ⊎_elim
        (λ old. ⊎_elim
        (λ too. at_last j.value (at_second j.value (at_first j.value (closed.joined j a old too))))
        (λ is. of_one j a (walks j.the_map m) (walks j.key k) (inr (sym is)))
        (cases j.key k))
        (λ is. of_one j a (walks j.the_map m) (walks j.key k) (inl (sym is)))
        (cases j.the_map m)

closed-first : (l : Leads) (w : Walk) (s : Step) (ss : List Step) → w.waiting ≡ s ∷ ss → IsClosed l w → IsClosed l (walked_first l s ss w)
closed-first l w s ss e closed = closed-object l w.walked s ss (subst (λ q. IsClosed l (record { walked = w.walked; waiting = q })) e closed)

-- AT THE END none waits, and what is found gives nothing more
pub record IsEnd (l : Leads) (w : Walk) : Type 0 where
  pub rests : w.waiting ≡ []
  pub closed : IsClosed l w

walk-ends : (l : Leads) (names : List Name) → AreWithin l names → (n : ℕ) (w : Walk) → length w.walked + n ≡ l.objects → AreSome l names (steps_of w) → IsClosed l w →
    IsEnd l (walk n l w)
unfolding walk
walk-ends l names within zero w enough some closed = record {
  rests = nil_from_length w.waiting (omega (arith, length-append w.walked w.waiting, some-few l names (steps_of w) some, within.enough));
  closed = closed;
}
walk-ends l names within (suc n) w enough some closed = go (λ v. walk-ends l names within n v) w.waiting refl
  where
    go : ((v : Walk) → length v.walked + n ≡ l.objects → AreSome l names (steps_of v) → IsClosed l v → IsEnd l (walk n l v)) →
        (q : List Step) → w.waiting ≡ q → IsEnd l (walk (suc n) l w)
    go later [] e = subst (IsEnd l) (sym (walk-rests (suc n) l w e)) (record { rests = e; closed = closed })
    go later (s ∷ ss) e = subst (IsEnd l) (sym (walk-goes_on n l w s ss e))
        (later (walked_first l s ss w) (one_less-left l s ss w n enough) (steps-step l (AreSome l names) (some-grows l names within) w s ss e some) (closed-first l w s ss e closed))

pub derivation-ends : (l : Leads) (names : List Name) → AreWithin l names → IsEnd l (walk l.objects l (rooted l))
derivation-ends l names within =
    let start = on_the_way-starts l names within in
    let none : (y : Name) → Among y (named (rooted l).walked) → ⊥ = λ y m. absurd (subst (λ ts. Among y (named ts)) (rooted-walked l) m) in
    walk-ends l names within l.objects (rooted l) (ap (λ (ts : List Step). length ts + l.objects) (rooted-walked l) ∙ omega arith) start.some
    (record { places = λ y x m a. absurd (none y m); joined = λ j a m k. absurd (none j.the_map m) })

-- so all is led to that registers hold, and that members of what is led to give

pub register-led : (l : Leads) (names : List Name) → AreWithin l names → (x : Name) → Among x (contents l.native_registers) ⊎ Among x (contents l.script_registers) → is_led_to l x ≡ true
register-led l names within x m = found-led l names (rooted l) x (on_the_way-starts l names within) (rooted-found l x m)

-- what is led to has walked
led-walked : (l : Leads) (names : List Name) → AreWithin l names → (x : Name) → is_led_to l x ≡ true → Among x (named (walk l.objects l (rooted l)).walked)
led-walked l names within x led = has-among same_name same_name-exact (named (walk l.objects l (rooted l)).walked) x
    (subst (λ ts. has same_name (named ts) x ≡ true) (ap (λ q. (walk l.objects l (rooted l)).walked ++ q) (derivation-ends l names within).rests ∙ append-nil (walk l.objects l (rooted l)).walked) led)

pub place-led : (l : Leads) (names : List Name) → AreWithin l names → (y x : Name) → is_led_to l y ≡ true → Among x (contents (l.places y)) → is_led_to l x ≡ true
place-led l names within y x led a = (derivation-ends l names within).closed.places y x (led-walked l names within y led) a

pub joint-led : (l : Leads) (names : List Name) → AreWithin l names → (j : Joint) → Among j (joints l.entries) → is_led_to l j.the_map ≡ true → is_led_to l j.key ≡ true → is_led_to l j.value ≡ true
joint-led l names within j a m k = (derivation-ends l names within).closed.joined j a (led-walked l names within j.the_map m) (led-walked l names within j.key k)

-- IN HEAPS THAT ARE WELL FORMED objects lead to objects that are there

native_places-there : (h : Heap) → IsWellFormed h → (n : HeapNative) → Among n h.natives → (x : Name) → Among x (contents (places_of_native n)) → Among x (names_there h)
native_places-there h well n m x a = ⊎_elim
    (λ s. well.native_contents n x m s)
    (λ r. by_flag n.preserved refl r)
    (Among-append x (contents n.slots) (option_to_list (where_set n.preserved (Some (reflector n.number))))
    (subst (Among x) (contents-last n.slots (where_set n.preserved (Some (reflector n.number)))) a))
  where
    by_flag : (b : Bool) → n.preserved ≡ b → Among x (option_to_list (where_set b (Some (reflector n.number)))) → Among x (names_there h)
    by_flag true e (inl is) = Among-right x (native_names h) (script_names h) (subst (λ z. Among z (script_names h)) is (well.preserved n m e))
    by_flag true e (inr never) = absurd never
    by_flag false e never = absurd never

script_places-there : (h : Heap) → IsWellFormed h → (o : HeapScript) → Among o h.scripts → (x : Name) → Among x (contents (places_of_script o)) → Among x (names_there h)
script_places-there h well o m x a = ⊎_elim
    (λ s. Among-right x (native_names h) (script_names h)
    (⊎_elim (λ c. well.script_contents o x m c) (λ d. well.delegate_there o x m d) (script_place-cases o x s)))
    (λ r. by_name o.name refl r)
    (Among-append x (contents (script_places_of o)) (option_to_list (native_of (Some o.name)))
    (subst (Among x) (contents-last (script_places_of o) (native_of (Some o.name))) a))
  where
    by_name : (y : Name) → o.name ≡ y → Among x (option_to_list (native_of (Some y))) → Among x (names_there h)
    by_name (name.Native k) e never = absurd never
    by_name (name.Script k) e never = absurd never
    by_name (name.Reflector k) e (inl is) = Among-left x (native_names h) (script_names h)
        (subst (λ z. Among z (native_names h)) is (well.reflected k.0 (subst (λ z. Among z (script_names h)) e (Among-map (λ (p : HeapScript). p.name) o h.scripts m))))
    by_name (name.Reflector k) e (inr never) = absurd never

places-there : (h : Heap) → IsWellFormed h → (y x : Name) → Among x (contents (slots_or_none (places_in h y))) → Among x (names_there h)
places-there h well (name.Native k) x a = go (native_at h k.0) refl a
  where
    go : (o : Option HeapNative) → native_at h k.0 ≡ o → Among x (contents (slots_or_none (option_map places_of_native o))) → Among x (names_there h)
    go None e never = absurd never
    go (Some n) e b = native_places-there h well n (find-among (λ (q : HeapNative). q.number == k.0) h.natives n e) x b
places-there h well (name.Script k) x a = go (script_at h (object k.0)) refl a
  where
    go : (o : Option HeapScript) → script_at h (object k.0) ≡ o → Among x (contents (slots_or_none (option_map places_of_script o))) → Among x (names_there h)
    go None e never = absurd never
    go (Some p) e b = script_places-there h well p (find-among (λ (q : HeapScript). same_name q.name (object k.0)) h.scripts p e) x b
places-there h well (name.Reflector k) x a = go (script_at h (reflector k.0)) refl a
  where
    go : (o : Option HeapScript) → script_at h (reflector k.0) ≡ o → Among x (contents (slots_or_none (option_map places_of_script o))) → Among x (names_there h)
    go None e never = absurd never
    go (Some p) e b = script_places-there h well p (find-among (λ (q : HeapScript). same_name q.name (reflector k.0)) h.scripts p e) x b

pub heap-within : (h : Heap) → IsWellFormed h → AreWithin (leads_in h) (names_there h)
heap-within h well = record {
  natives = λ x m. Among-left x (native_names h) (script_names h) (well.native_registers x m);
  scripts = λ x m. Among-right x (native_names h) (script_names h) (well.script_registers x m);
  places = places-there h well;
  joined = λ j m. let e = joint-cases h.entries j m in Among-right j.value (native_names h) (script_names h) (given e.0 e.1 j e.2);
  enough = omega (
    arith,
    length-append (native_names h) (script_names h),
    length-map h.natives (λ (n : HeapNative). native n.number),
    length-map h.scripts (λ (o : HeapScript). o.name),
  );
}
  where
    given : (e : Entry) → Among e h.entries → (j : Joint) → Gives e j → Among j.value (script_names h)
    given e m _ its_value = (well.entries e m).value
    given e m _ (its_key d is) = (well.entries e m).key
