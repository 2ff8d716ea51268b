-- WHAT A MARK COMES TO BY KEYS, over places and the entries of weak maps, is what it comes to by names, where no two script
-- objects have one key or one name. So is what is reached over places alone.
use Rattle.std.proofs.Common.{arith, ◌≡◌, ℕ, ◌≤◌, Bool, true, List, [], ◌∷◌, map, Option, Some, None, option_map, refl, sym, ◌∙◌, ap, subst, inl, inr, ⊎_elim, count_by, ◌==◌}
use Rattle.std.specs.Prelude.{IsTrue}
use Rattle.std.specs.List.{flat_map}
use Rattle.std.proofs.lemmas.Bool.{eqb-true, eq-eqb}
use Rattle.cc_lists.proofs.Carried.{Carries, least-carried}
use Rattle.cc_laws_heap.proofs.Face.{is_some-found, option_map-found}
use Rattle.cc_lists.specs.Members.{Among, has}
use Rattle.cc_lists.specs.Least.{system, closure}
use Rattle.cc_lists.proofs.Members.{Among-map, Among-map_cases, Among-flat_map, Among-flat_map_cases, Among-left, Among-right, Among-append}
use Rattle.std.proofs.lemmas.List.{map-append}
use Rattle.cc_names.specs.Places.{joint_rule}
use Rattle.cc_model.specs.Places.{script_places_of}
use Rattle.cc_model.proofs.Joints.{Gives as JointOf, its_value, its_key, value-joint, delegate-joint, joint-cases}
use Rattle.cc_lists.proofs.Filtering.{find-among, find-passes}
use Rattle.cc_lists.proofs.Searching.{find-only}
use Rattle.cc_lists.proofs.ListWrites.{only-member}
use Rattle.cc_lists.proofs.Closure.{closure-decides}
use Rattle.cc_names.specs.declared.name.Name.{Name}
use Rattle.cc_names.specs.Names.{same_name}
use Rattle.cc_names.proofs.NameTests.{same_name-refl, same_name-exact}
use Rattle.cc_model.specs.Slots.{contents, from_to}
use Rattle.cc_model.specs.View.{script_slot_edges}
use Rattle.cc_model.specs.Entries as entries
use Rattle.cc_lists.proofs.Numbers.{number-exact}
use Rattle.cc_script.specs.Objects.{Object, object_at, is_there, name_at, places_of}
use Rattle.cc_script.specs.Walking.{edges, keys_reached}
use Rattle.cc_script.proofs.Reaching.{edge-slot, slot-edge, held-among, among-held}
use Rattle.cc_weakmaps.specs.Entries.{KeyedEntry}
use Rattle.cc_marking.specs.Marking.{AreEntriesThere, keys_marked, mark_rules}
use Rattle.cc_marking.specs.Joints as by_keys
use Rattle.cc_heaps.specs.Keyed.{name_held, named_entries, named_entry, named_object, named_objects, the_name_at}

-- at most one object stands at a key, and at most one has a name
abbrev pub HasOneKey : List Object → Type 0
HasOneKey objects = (key : ℕ) → count_by (λ o. o.key == key) objects ≤ 1

abbrev pub HasOneName : List Object → Type 0
HasOneName objects = (x : Name) → count_by (λ o. same_name o.name x) objects ≤ 1

-- two tests that follow from each other are the same
pub same-tests : (a b : Bool) → (a ≡ true → b ≡ true) → (b ≡ true → a ≡ true) → a ≡ b
same-tests a b f g = grind arith

-- an object is found by its key
pub object_at-own : (objects : List Object) → HasOneKey objects → (o : Object) → Among o objects → object_at objects o.key ≡ Some o
object_at-own objects one o m = find-only (λ p. p.key == o.key) objects o (one o.key) m (eq-eqb o.key o.key refl)

-- and what is found at a key is there
pub object_at-found : (objects : List Object) (key : ℕ) (o : Object) → object_at objects key ≡ Some o → Among o objects × (o.key ≡ key)
object_at-found objects key o e = grind (arith, find-among, eqb-true, find-passes)

-- an object's key has its name
pub name_at-own : (objects : List Object) → HasOneKey objects → (o : Object) → Among o objects → name_at objects o.key ≡ Some o.name
name_at-own objects one o m = ap (λ (p : Option Object). option_map (λ q. q.name) p) (object_at-own objects one o m)

-- and a key's name is that of an object
pub name_at-found : (objects : List Object) (key : ℕ) (x : Name) → name_at objects key ≡ Some x →
    (o : Object) × Among o objects × (o.key ≡ key) × (o.name ≡ x)
name_at-found objects key x e =
    let f = option_map-found (λ (o : Object). o.name) (object_at objects key) x e in
    let k = object_at-found objects key f.0 f.1 in
    (f.0, k.0, k.1, f.2)

-- the key of a name, where it is the name of an object
pub key-named : (objects : List Object) → HasOneName objects → (key : ℕ) (x : Name) → name_at objects key ≡ Some x →
    (o : Object) → Among o objects → o.name ≡ x → o.key ≡ key
key-named objects one key x e o m n =
    let f = name_at-found objects key x e in
    let same : f.0 ≡ o = only-member (λ p. same_name p.name x) objects f.0 o (one x)
    f.1 (subst (λ y. same_name y x ≡ true) (sym f.3) (same_name-refl x))
    m (subst (λ y. same_name y x ≡ true) (sym n) (same_name-refl x)) in
    ap (λ (p : Object). p.key) (sym same) ∙ f.2

-- the edges over places, by names
abbrev pub named_edges : List Object → List (Name × Name)
named_edges objects = flat_map script_slot_edges (named_objects objects)

-- the places over which marking goes, by names
pub named-places : (objects : List Object) (o : Object) → script_places_of (named_object objects o) ≡ map (name_held objects) (places_of o)
named-places objects o = sym (map-append (name_held objects) o.slots (o.delegate ∷ []))

-- an edge by names is one from a place of an object to a key with a name
pub named-found : (objects : List Object) (x y : Name) → Among (x, y) (named_edges objects) →
    (o : Object) × Among o objects × (o.name ≡ x) × ((q : ℕ) × Among (Some q) (places_of o) × (name_at objects q ≡ Some y))
named-found objects x y m =
    let f = Among-flat_map_cases script_slot_edges (named_objects objects) (x, y) m in
    let g = Among-map_cases (named_object objects) objects f.0 f.1 in
    let i : Among (x, y) (script_slot_edges (named_object objects g.0)) = subst (λ s. Among (x, y) (script_slot_edges s)) (sym g.2) f.2 in
    let e = Among-map_cases (from_to g.0.name) (contents (script_places_of (named_object objects g.0))) (x, y) i in
    let j : Among (Some e.0) (map (name_held objects) (places_of g.0)) =
    subst (Among (Some e.0)) (named-places objects g.0) (held-among (script_places_of (named_object objects g.0)) e.0 e.1) in
    let k = Among-map_cases (name_held objects) (places_of g.0) (Some e.0) j in
    (g.0, g.1, ap (λ (p : Name × Name). p.0) e.2, at g.0 k.0 e.0 k.1 k.2 (ap (λ (p : Name × Name). p.1) e.2))
  where
    at : (o : Object) (k : Option ℕ) (z : Name) → Among k (places_of o) → name_held objects k ≡ Some z → z ≡ y →
        (q : ℕ) × Among (Some q) (places_of o) × (name_at objects q ≡ Some y)
    at o None z i e same = absurd (cc)
    at o (Some q) z i e same = (q, i, e ∙ ap (λ u. Some u) same)

pub found-named : (objects : List Object) (o : Object) (q : ℕ) (y : Name) → Among o objects → Among (Some q) (places_of o) → name_at objects q ≡ Some y →
    Among (o.name, y) (named_edges objects)
found-named objects o q y m i e = Among-flat_map script_slot_edges (named_object objects o) (o.name, y) (named_objects objects)
    (Among-map (named_object objects) o objects m)
    (Among-map (from_to o.name) y (contents (script_places_of (named_object objects o)))
    (among-held (script_places_of (named_object objects o)) y
    (subst (Among (Some y)) (sym (named-places objects o))
    (subst (λ s. Among s (map (name_held objects) (places_of o))) e (Among-map (name_held objects) (Some q) (places_of o) i)))))

-- THE NAMES OF SOME KEYS, as a set: order and repeats are free, and a key at which nothing stands has none
pub record AreNamesOf (objects : List Object) (keys : List ℕ) (names : List Name) : Type 0 where
  pub named : (k : ℕ) (x : Name) → Among k keys → name_at objects k ≡ Some x → Among x names
  pub keyed : (x : Name) → Among x names → (k : ℕ) × Among k keys × (name_at objects k ≡ Some x)

-- THE NAME OF WHAT IS THERE
pub the_name-there : (objects : List Object) (key : ℕ) → IsTrue (is_there objects key) → name_at objects key ≡ Some (the_name_at objects key)
the_name-there objects key t = let f = is_some-found (object_at objects key) t in rw (f.1, the_name_at) refl

pub the_name-is : (objects : List Object) (key : ℕ) (x : Name) → name_at objects key ≡ Some x → the_name_at objects key ≡ x
the_name-is objects key x e = rw (e, the_name_at) refl

module _ (objects : List Object) (one_key : HasOneKey objects) (one_name : HasOneName objects) where
  -- a name has one key
  pub same-key : (a b : ℕ) (x : Name) → name_at objects a ≡ Some x → name_at objects b ≡ Some x → a ≡ b
  same-key a b x e d = let f = name_at-found objects a x e in sym f.2 ∙ key-named objects one_name b x d f.0 f.1 f.3

  module _ (es : List KeyedEntry) (there : AreEntriesThere objects es) (keys : List ℕ) (names : List Name) (roots : AreNamesOf objects keys names) where
    abbrev rules : List (List ℕ × ℕ)
    rules = by_keys.rules_of (by_keys.joints es)

    abbrev named_joints : List entries.Joint
    named_joints = entries.joints (named_entries objects es)

    abbrev named_rules : List (List Name × Name)
    named_rules = entries.rules_of named_joints

    -- what a key gives, its name gives,
    names-carried : Carries (λ k x. name_at objects k ≡ Some x) keys (edges objects) rules names (named_edges objects) named_rules
    names-carried = record {
      root = roots.named;
      edge = λ k q y m r.
          let f = edge-slot objects k q m in
          (f.0.name, ap (name_at objects) (sym f.2) ∙ name_at-own objects one_key f.0 f.1, found-named objects f.0 q y f.1 f.3 r);
      entry = λ ks v y m.
          let f = Among-map_cases by_keys.rule_of (by_keys.joints es) (ks, v) m in
          let g = Among-flat_map_cases by_keys.joints_of es f.0 f.1 in
          subst (Gives y) f.2 (at g.0 y g.1 f.0 g.2);
    }
      where
        Gives : Name → List ℕ × ℕ → Type 0
        Gives y r = name_at objects r.1 ≡ Some y → (xs : List Name) × Among (xs, y) named_rules × ((x : Name) → Among x xs → (k : ℕ) × Among k r.0 × (name_at objects k ≡ Some x))

        -- three keys by names
        triple : (a b c : ℕ) (y : Name) → IsTrue (is_there objects a) → IsTrue (is_there objects b) →
            Among (entries.joint (the_name_at objects a) (the_name_at objects b) (the_name_at objects c)) named_joints → Gives y (joint_rule a b c)
        triple a b c y s t m r = (
          the_name_at objects a ∷ the_name_at objects b ∷ [],
          subst (λ z. Among (the_name_at objects a ∷ the_name_at objects b ∷ [], z) named_rules) (the_name-is objects c y r)
              (Among-map entries.rule_of (entries.joint (the_name_at objects a) (the_name_at objects b) (the_name_at objects c)) named_joints m),
          λ x i. ⊎_elim
              (λ e. (a, inl refl, the_name-there objects a s ∙ ap (λ z. Some z) e))
              (⊎_elim (λ e. (b, inr (inl refl), the_name-there objects b t ∙ ap (λ z. Some z) e)) (λ n. absurd n)) i,
        )

        by_key : (e : KeyedEntry) (y : Name) → Among e es → (d : Option ℕ) → e.delegate ≡ d → (j : by_keys.Joint) → Among j (by_keys.key_joint e.the_map d e.key) →
            Gives y (by_keys.rule_of j)
        by_key e y m None is j i = absurd i
        by_key e y m (Some d) is j i = ⊎_elim
            (λ q. subst (λ t. Gives y (by_keys.rule_of t)) q (triple e.the_map d e.key y (there e m).the_map ((there e m).delegate d is)
            (delegate-joint (named_entries objects es) (named_entry objects e) (the_name_at objects d) (Among-map (named_entry objects) e es m)
            (ap (name_held objects) is ∙ the_name-there objects d ((there e m).delegate d is)))))
            (λ n. absurd n) i

        at : (e : KeyedEntry) (y : Name) → Among e es → (j : by_keys.Joint) → Among j (by_keys.joints_of e) → Gives y (by_keys.rule_of j)
        at e y m j i = ⊎_elim
            (λ t. by_key e y m e.delegate refl j t)
            (λ t. ⊎_elim
            (λ q. subst (λ u. Gives y (by_keys.rule_of u)) q (triple e.the_map e.key e.value y (there e m).the_map (there e m).key
            (value-joint (named_entries objects es) (named_entry objects e) (Among-map (named_entry objects) e es m))))
            (λ n. absurd n) t)
            (Among-append j (by_keys.key_joint e.the_map e.delegate e.key) (by_keys.joint e.the_map e.key e.value ∷ []) i)

    -- and the other way round.
    keys-carried : Carries (λ x k. name_at objects k ≡ Some x) names (named_edges objects) named_rules keys (edges objects) rules
    keys-carried = record {
      root = λ x k m r. let f = roots.keyed x m in subst (λ j. Among j keys) (same-key f.0 k x f.2 r) f.1;
      edge = λ x y k m r. let f = named-found objects x y m in (
        f.0.key,
        name_at-own objects one_key f.0 f.1 ∙ ap (λ z. Some z) f.2,
        subst (λ j. Among (f.0.key, j) (edges objects)) (same-key f.3.0 k y f.3.2 r) (slot-edge objects f.0 f.3.0 f.1 f.3.1),
      );
      entry = λ xs v k m.
          let f = Among-map_cases entries.rule_of named_joints (xs, v) m in
          let c = joint-cases (named_entries objects es) f.0 f.1 in
          let g = Among-map_cases (named_entry objects) es c.0 c.1 in
          subst (Gives k) f.2 (at g.0 k g.1 f.0 (subst (λ e. JointOf e f.0) (sym g.2) c.2));
    }
      where
        Gives : ℕ → List Name × Name → Type 0
        Gives k r = name_at objects k ≡ Some r.1 → (ks : List ℕ) × Among (ks, k) rules × ((j : ℕ) → Among j ks → (x : Name) × Among x r.0 × (name_at objects j ≡ Some x))

        named : (j i : ℕ) → IsTrue (is_there objects j) → j ≡ i → name_at objects i ≡ Some (the_name_at objects j)
        named j i t s = ap (name_at objects) (sym s) ∙ the_name-there objects j t

        -- three names by keys
        triple : (a b c k : ℕ) → IsTrue (is_there objects a) → IsTrue (is_there objects b) → IsTrue (is_there objects c) → Among (by_keys.joint a b c) (by_keys.joints es) →
            Gives k (joint_rule (the_name_at objects a) (the_name_at objects b) (the_name_at objects c))
        triple a b c k s t u m r = (
          a ∷ b ∷ [],
          subst (λ j. Among (a ∷ b ∷ [], j) rules) (same-key c k (the_name_at objects c) (the_name-there objects c u) r)
              (Among-map by_keys.rule_of (by_keys.joint a b c) (by_keys.joints es) m),
          λ j i. ⊎_elim
              (λ e. (the_name_at objects a, inl refl, named a j s e))
              (⊎_elim (λ e. (the_name_at objects b, inr (inl refl), named b j t e)) (λ n. absurd n)) i,
        )

        value-given : (e : KeyedEntry) → Among e es → Among (by_keys.joint e.the_map e.key e.value) (by_keys.joints es)
        value-given e m = Among-flat_map by_keys.joints_of e (by_keys.joint e.the_map e.key e.value) es m
            (Among-right (by_keys.joint e.the_map e.key e.value) (by_keys.key_joint e.the_map e.delegate e.key) (by_keys.joint e.the_map e.key e.value ∷ []) (inl refl))

        key-given : (e : KeyedEntry) (d : ℕ) → Among e es → e.delegate ≡ Some d → Among (by_keys.joint e.the_map d e.key) (by_keys.joints es)
        key-given e d m is = Among-flat_map by_keys.joints_of e (by_keys.joint e.the_map d e.key) es m
            (Among-left (by_keys.joint e.the_map d e.key) (by_keys.key_joint e.the_map e.delegate e.key) (by_keys.joint e.the_map e.key e.value ∷ [])
            (subst (λ x. Among (by_keys.joint e.the_map d e.key) (by_keys.key_joint e.the_map x e.key)) (sym is) (inl refl)))

        by_key : (e : KeyedEntry) (k : ℕ) → Among e es → (d : Name) (held : Option ℕ) → e.delegate ≡ held → name_held objects held ≡ Some d →
            Gives k (joint_rule (the_name_at objects e.the_map) d (the_name_at objects e.key))
        by_key e k m d None is q = absurd (cc)
        by_key e k m d (Some j) is q = subst (λ z. Gives k (joint_rule (the_name_at objects e.the_map) z (the_name_at objects e.key))) (the_name-is objects j d q)
            (triple e.the_map j e.key k (there e m).the_map ((there e m).delegate j is) (there e m).key (key-given e j m is))

        at : (e : KeyedEntry) (k : ℕ) → Among e es → (j : entries.Joint) → JointOf (named_entry objects e) j → Gives k (entries.rule_of j)
        at e k m _ its_value = triple e.the_map e.key e.value k (there e m).the_map (there e m).key (there e m).value (value-given e m)
        at e k m _ (its_key d q) = by_key e k m d e.delegate refl q

    -- FROM ROOTS THAT ARE THE NAMES OF THE KEYS as a set, over places and entries
    pub marked-alike_from : (o : Object) → Among o objects →
        has ◌==◌ (keys_marked objects es keys) o.key ≡
        has same_name (closure same_name (system names (named_edges objects) named_rules)) o.name
    marked-alike_from o m =
        let by_key = closure-decides ◌==◌ number-exact (mark_rules objects es keys) o.key in
        let by_name = closure-decides same_name same_name-exact (system names (named_edges objects) named_rules) o.name in
        same-tests (has ◌==◌ (keys_marked objects es keys) o.key)
        (has same_name (closure same_name (system names (named_edges objects) named_rules)) o.name)
        (λ e. by_name.1 (least-carried (λ k x. name_at objects k ≡ Some x) keys (edges objects) rules names (named_edges objects) named_rules names-carried
        o.key (by_key.0 e) o.name (name_at-own objects one_key o m)))
        (λ e. by_key.1 (least-carried (λ x k. name_at objects k ≡ Some x) names (named_edges objects) named_rules keys (edges objects) rules keys-carried
        o.name (by_name.0 e) o.key (name_at-own objects one_key o m)))

  -- and over places alone
  pub reached-alike_from : (keys : List ℕ) (names : List Name) → AreNamesOf objects keys names → (o : Object) → Among o objects →
      has ◌==◌ (keys_reached objects keys) o.key ≡ has same_name (closure same_name (system names (named_edges objects) [])) o.name
  reached-alike_from = marked-alike_from [] (λ e m. absurd m)
