-- WHAT ENTRIES AND OBJECTS GIVE, as the calls of the search say it one after another; what is searched stays.
use Rattle.std.specs.Prelude.{slice_get, IsSome}
use Rattle.std.proofs.Common.{◌≡◌, ℕ, zero, suc, ◌<◌, List, [], ◌∷◌, ◌++◌, length, map, Option, Some, None, option_map, is_some, refl, sym, ◌∙◌, ap, subst, arith}
use Rattle.std.proofs.lemmas.List.{length-map}
use Rattle.std.proofs.lemmas.Option.{slice_get-map}
use Rattle.cc_names.specs.declared.name.Name.{Name}
use Rattle.cc_model.specs.Answers.{Step}
use Rattle.cc_model.specs.Slots.{contents}
use Rattle.cc_model.specs.Entries.{Entry, Joint, joint, joints_of, key_joint}
use Rattle.cc_model.specs.Derivations.{Leads, Walk, with_edges, with_entries, with_joint, with_joints, with_object}
use Rattle.cc_search.specs.Named.{AreMembers, AreOf, IsHeldAs}
use Rattle.cc_search.specs.Search.{with_entry_at}
use Rattle.cc_search.proofs.Kept.{get-within}

pub some-of : {X : Type 0} (o : Option X) → IsSome o → (x : X) × (o ≡ Some x)
some-of None t = absurd (cc)
some-of (Some x) t = (x, refl)

pub there-at : {X : Type 0} (xs : List X) (i : ℕ) → i < length xs → (x : X) × (slice_get xs i ≡ Some x)
there-at [] i l = absurd (omega (arith, l))
there-at (x ∷ xs) zero l = (x, refl)
there-at (x ∷ xs) (suc i) l = there-at xs i (omega (arith, l))

-- what stands for an object stands for it after a step of the search
pub there-still : {L O : Type 0} (name_of : L → O → Option Name) (s t : L × Walk) (w : Walk) (o : O) (x : Name) → t ≡ (s.0, w) → name_of s.0 o ≡ Some x → IsSome (name_of t.0 o)
there-still name_of s t w o x e named = ap is_some (ap (λ p. name_of p.0 o) e ∙ named)

-- Entries

-- what stands for the members of the entry at a place
pub entry-members : {L O : Type 0} (leads : L → Leads) (name_of : L → O → Option Name) (read start : L) (i : ℕ) (r : O × O × Option O × O) → read ≡ start → i < length (leads start).entries →
    ((e : Entry) → slice_get (leads read).entries i ≡ Some e → AreMembers (name_of read) e r) →
    (e : Entry) × (slice_get (leads start).entries i ≡ Some e) × AreMembers (name_of start) e r
entry-members leads name_of read start i r same l given =
    let e = there-at (leads start).entries i l in
    (e.0, e.1, subst (λ a. AreMembers (name_of a) e.0 r) same (given e.0 (ap (λ a. slice_get (leads a).entries i) same ∙ e.1)))

-- what a map gives with the delegate of a key
pub key-given : {L O : Type 0} (name_of : O → Option Name) (old new : L × Walk) (delegate : Option O) (o : O) (m k : Name) → delegate ≡ Some o →
    ((x : Name) → name_of o ≡ Some x → new ≡ (old.0, with_joint old.1 (joint m x k))) → (d : Option Name) → IsHeldAs name_of d delegate →
    new ≡ (old.0, with_joints (key_joint m d k) old.1)
key-given name_of old new delegate o m k is given None held = let there : option_map name_of delegate ≡ Some (name_of o) = ap (option_map name_of) is in absurd (cc)
key-given name_of old new delegate o m k is given (Some x) held =
    let there : option_map name_of delegate ≡ Some (name_of o) = ap (option_map name_of) is in
    given x (cc)

joints-last : (js : List Joint) (j : Joint) (w : Walk) → with_joints (js ++ j ∷ []) w ≡ with_joint (with_joints js w) j
joints-last [] j w = refl
joints-last (i ∷ js) j w = joints-last js j (with_joint w i)

-- what an entry gives: first its key, then its value
pub entry-given : {L O : Type 0} (name_of : L → O → Option Name) (es : List Entry) (i : ℕ) (e : Entry) (s t u : L × Walk) (r : O × O × Option O × O) → slice_get es i ≡ Some e →
    AreMembers (name_of s.0) e r → t ≡ (s.0, with_joints (key_joint e.the_map e.delegate e.key) s.1) →
    ((m k v : Name) → name_of t.0 r.0 ≡ Some m → name_of t.0 r.1 ≡ Some k → name_of t.0 r.3 ≡ Some v → u ≡ (t.0, with_joint t.1 (joint m k v))) →
    u ≡ (s.0, with_entry_at es i s.1)
entry-given name_of es i e s t u r at members one given =
    let same = ap (λ p. p.0) one in
    let j = joint e.the_map e.key e.value in
    given e.the_map e.key e.value (ap (λ a. name_of a r.0) same ∙ members.the_map) (ap (λ a. name_of a r.1) same ∙ members.key) (ap (λ a. name_of a r.3) same ∙ members.value)
    ∙ ((λ n. ((one n).0, with_joint (one n).1 j))
    ∙ ap (λ w. (s.0, w)) (sym (joints-last (key_joint e.the_map e.delegate e.key) j s.1)
    ∙ ap (λ o. elim o [ None ↦ s.1 | Some d ↦ with_joints (joints_of d) s.1 ]) (sym at)))

-- Objects

-- an object leads to what its places hold, and then to what entries give
pub object-given : {L O : Type 0} (leads : L → Leads) (name_of : L → O → Option Name) (s t u : L × Walk) (x : Name) (o : O) → name_of s.0 o ≡ Some x →
    t ≡ (s.0, with_edges x (contents ((leads s.0).places x)) s.1) → ((y : Name) → name_of t.0 o ≡ Some y → u ≡ (t.0, with_entries y (leads t.0).entries t.1)) →
    u ≡ (s.0, with_object (leads s.0) x s.1)
object-given leads name_of s t u x o named one given =
    given x (ap (λ p. name_of p.0 o) one ∙ named) ∙ (λ n. ((one n).0, with_entries x (leads (one n).0).entries (one n).1))

-- for each step something stands
pub object-within : {O : Type 0} (name_of : O → Option Name) (ss : List Step) (os : List O) (i : ℕ) (s : Step) → AreOf name_of ss os → slice_get ss i ≡ Some s → i < length os
object-within name_of ss os i s of at =
    let long : length os ≡ length ss = sym (length-map os name_of) ∙ (ap (λ (xs : List (Option Name)). length xs) of ∙ length-map ss (λ (t : Step). Some t.0)) in
    omega (arith, long, get-within ss i s at)

-- what stands for the object of a step
pub object-named : {O : Type 0} (name_of : O → Option Name) (ss : List Step) (os : List O) (i : ℕ) (s : Step) (o : O) → AreOf name_of ss os → slice_get ss i ≡ Some s →
    slice_get os i ≡ Some o → name_of o ≡ Some s.0
object-named name_of ss os i s o of at there =
    let one : slice_get (map name_of os) i ≡ Some (name_of o) = slice_get-map name_of os i ∙ ap (option_map name_of) there in
    let two : slice_get (map (λ (t : Step). Some t.0) ss) i ≡ Some (Some s.0) = slice_get-map (λ (t : Step). Some t.0) ss i ∙ ap (option_map (λ (t : Step). Some t.0)) at in
    let both : Some (name_of o) ≡ Some (Some s.0) = sym one ∙ (ap (λ xs. slice_get xs i) of ∙ two) in
    cc
