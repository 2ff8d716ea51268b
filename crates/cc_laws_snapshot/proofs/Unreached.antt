-- WHITE IS UNREACHED: what the registers lead to, and is a native and a node, is black in the snapshot; and so is what other natives of
-- the heaps lead to, as long as they are not white.
use Rattle.std.proofs.Common.{◌≡◌, ℕ, ◌<◌, ◌≤◌, Bool, true, false, List, map, Option, Some, refl, sym, ap, subst, inl, inr, ◌⊎◌, ⊎_elim, arith, count_by}
use Rattle.std.specs.List.{filter}
use Rattle.std.specs.Option.{option_to_list}
use Rattle.std.proofs.lemmas.Bool.{not-true, or_left, or_right, lt-ltb, cases_lt}
use Rattle.cc_lists.specs.Members.{Among, has}
use Rattle.cc_lists.proofs.Members.{Among-map, Among-map_cases, Among-append, Among-filter, Among-filtered, Among-passes, has-there, Among_or_not}
use Rattle.cc_lists.proofs.Counting.{count_by-some, counted_is, count_by-below, count_by-less}
use Rattle.cc_lists.proofs.Least.{derive-root, derive-along, derive-jointly, derived-within}
use Rattle.cc_lists.proofs.Closure.{closure-decides}
use Rattle.cc_names.specs.declared.name.Name.{Name}
use Rattle.cc_names.specs.declared.name.Name.TheVariants as name
use Rattle.cc_names.specs.Names.{native, same_name, is_script}
use Rattle.cc_names.proofs.NameTests.{same_name-refl, same_name-exact}
use Rattle.cc_model.proofs.Joints.{derived-by_joints}
use Rattle.cc_model.specs.Entries.{Joint}
use Rattle.cc_model.specs.View.{View, LedFrom, ReachedIn, to, between, scripts_there, is_there}
use Rattle.cc_model.specs.Snapshot.{NodeState, gone, traversed, Node, Snapshot, mapping_joint, noted_to, is_above, is_seed, seeds, black_in_rules, BlackIn, black_in, is_white, node_names, IsWhite}
use Rattle.cc_model.specs.Fresh.{node, IsNode, IsTraversedNode, IsOutside, IsLiving, MemberOf, MemberIsNode, IsFresh, IsTraversed}
use Rattle.cc_laws_snapshot.proofs.NamePairs.{between-true, between-refl}
use Rattle.cc_laws_snapshot.proofs.SoundView.{IsSoundView, black-or_gray}
use Rattle.cc_laws_snapshot.proofs.States.{state-of, from-traversed, alive-traversed}

module _ (made : ℕ) (v : View) (s : Snapshot) (sound : IsSoundView made v) (fresh : IsFresh made v s) (all : IsTraversed s) where
  -- the mappings as rules
  abbrev mapped : List (List Name × Name)
  mapped = map mapping_joint s.mappings

  -- a node that is black by itself is black
  seed-black : (x : Name) (state : NodeState) → Among (node x state) s.nodes → is_seed v s (node x state) ≡ true → BlackIn v s x
  seed-black x state i e = derive-root (seeds v s) s.references mapped x
      (Among-map (λ (n : Node). n.name) (node x state) (filter (is_seed v s) s.nodes) (Among-filter (is_seed v s) (node x state) s.nodes i e))

  -- a noted reference takes black along
  noted-black : (x y : Name) → Among (x, y) s.references → BlackIn v s x → BlackIn v s y
  noted-black x y i b = derive-along (seeds v s) s.references mapped x y i b

  -- a script node that is black in the heaps is black
  script-black : (x : Name) → is_script x ≡ true → Among x v.black → IsNode s x → BlackIn v s x
  script-black x e b n = grind (arith, state-of, seed-black, has-there, same_name-exact)

  -- what is black is a node
  black-node : (x : Name) → BlackIn v s x → IsNode s x
  black-node = derived-within (seeds v s) s.references mapped (IsNode s)
      seed-node (λ x y i n. fresh.to_node x y i)
      (λ ps y i f. let k = Among-map_cases mapping_joint s.mappings (ps, y) i in
      subst (IsNode s) (ap (λ (e : List Name × Name). e.1) k.2) (fresh.members k.0 k.1).value)
    where
      seed-node : (x : Name) → Among x (seeds v s) → IsNode s x
      seed-node x i =
          let k = Among-map_cases (λ (n : Node). n.name) (filter (is_seed v s) s.nodes) x i in
          subst (IsNode s) k.2 (Among-map (λ (n : Node). n.name) k.0 s.nodes (Among-filtered (is_seed v s) k.0 s.nodes k.1))

  -- Nodes whose object is there

  -- what lives is not gone
  living-not_gone : (x : Name) → IsLiving v x → ¬ (Among (node x gone) s.nodes)
  living-not_gone x l g = let d = fresh.gone_is_dead x g in d.4 l

  -- a node that holds something was traversed
  pub holder-traversed : (x y : Name) → Among (x, y) v.edges → IsNode s x → IsTraversedNode s x
  holder-traversed x y e n = alive-traversed made v s fresh all x n
      (λ g. let d = fresh.gone_is_dead x g in d.4 (subst (IsLiving v) (sym d.1) (sound.source_lives d.0 y (subst (λ z. Among (z, y) v.edges) d.1 e))))

  -- References that are not noted

  -- no more is noted of a node than its object has
  noted-below : (u : Name) (c : ℕ) → IsOutside v u c → (x : Name) → count_by (between x u) s.references ≤ count_by (between x u) v.edges
  noted-below u c out x = ⊎_elim
      (λ some.
      let k = counted_is (between x u) s.references some in
      let i : Among (x, u) s.references = subst (λ r. Among r s.references) (between-true x u k.0 k.2) k.1 in
      omega (arith, fresh.as_held u c x out (from-traversed made v s fresh x u i)))
      (λ none. omega arith)
      (cases_lt 0 (count_by (between x u) s.references))

  -- one reference more than is noted makes a node black
  excess-black : (i c : ℕ) → Among (native i, c) v.natives → IsNode s (native i) →
      (IsOutside v (native i) c → noted_to s (native i) < c) → BlackIn v s (native i)
  excess-black i c l n excess = ⊎_elim
      (λ b. let k = state-of s (native i) n in
      seed-black (native i) k.0 k.1 (or_left (has same_name v.buffer (native i)) (is_above s (native i) k.0) (has-there same_name same_name-exact v.buffer (native i) b)))
      (λ out.
      let t = alive-traversed made v s fresh all (native i) n (living-not_gone (native i) (c, l)) in
      let e : t.0 ≡ Some c = fresh.sampled (native i) c t.0 (l, out) t.1 in
      let here : Among (node (native i) (traversed (Some c))) s.nodes = subst (λ z. Among (node (native i) (traversed z)) s.nodes) e t.1 in
      seed-black (native i) (traversed (Some c)) here
      (or_right (has same_name v.buffer (native i)) (is_above s (native i) (traversed (Some c))) (lt-ltb (noted_to s (native i)) c (excess (l, out)))))
      (Among_or_not same_name same_name-exact v.buffer (native i))

  -- a register's reference is not noted
  register-black : (i : ℕ) → Among (native i) v.registers → IsNode s (native i) → BlackIn v s (native i)
  register-black i held n =
      let l = sound.held_lives i held in
      excess-black i l.0 l.1 n (λ out.
      let below : noted_to s (native i) ≤ count_by (to (native i)) v.edges =
      count_by-below same_name same_name-exact (to (native i)) (λ r. r.0) (to (native i)) (λ r. r.0) s.references v.edges (noted-below (native i) l.0 out) in
      let one : 0 < count_by (same_name (native i)) v.registers = count_by-some (same_name (native i)) (native i) v.registers held (same_name-refl (native i)) in
      omega (arith, sound.counts (native i) l.0 l.1))

  -- nor is one of an edge from where nothing was noted
  unnoted-black : (x : Name) (i : ℕ) → Among (x, native i) v.edges → count_by (between x (native i)) s.references ≤ 0 → IsNode s (native i) → BlackIn v s (native i)
  unnoted-black x i held none n =
      let l = sound.target_lives x i held in
      excess-black i l.0 l.1 n (λ out.
      let one : 0 < count_by (between x (native i)) v.edges = count_by-some (between x (native i)) (x, native i) v.edges held (between-refl x (native i)) in
      let less : noted_to s (native i) < count_by (to (native i)) v.edges =
      count_by-less same_name same_name-exact (to (native i)) (λ r. r.0) (to (native i)) (λ r. r.0) s.references v.edges x (noted-below (native i) l.0 out) (omega arith) in
      omega (arith, sound.counts (native i) l.0 l.1))

  -- What is reached

  -- a native that is a node is black; a script object is black in the heaps or in the snapshot
  abbrev Kept : Name → Type 0
  Kept (name.Native i) = IsNode s (native i.0) → BlackIn v s (native i.0)
  Kept x = Among x v.black ⊎ BlackIn v s x

  -- then a node is black
  kept-black : (x : Name) → Kept x → IsNode s x → BlackIn v s x
  kept-black (name.Native i) k n = k n
  kept-black x k n = ⊎_elim (λ b. script-black x refl b n) (λ b. b) k

  -- and a script object is black in the heaps or in the snapshot
  script-kept : (x : Name) → is_script x ≡ true → Among x v.black ⊎ BlackIn v s x → Kept x
  script-kept x e k = grind arith

  -- what a register holds is kept
  root-kept : (x : Name) → Among x v.registers → Kept x
  root-kept (name.Native i) held = register-black i.0 held
  root-kept x held = inl (fresh.colours.held_black x held refl)

  -- a gray object that a node holds is black in the snapshot, where the node is
  gray-black : (x y : Name) → Among (x, y) v.edges → Among y v.gray → IsNode s x → Kept x → BlackIn v s y
  gray-black x y e g n k = noted-black x y (fresh.gray_noted x y (holder-traversed x y e n) e g) (kept-black x k n)

  -- a native that an edge leads to is kept
  native-kept : (x : Name) (i : ℕ) → Among (x, native i) v.edges → Kept x → Kept (native i)
  native-kept x i e k n = ⊎_elim
      (λ some.
      let c = counted_is (between x (native i)) s.references some in
      let r : Among (x, native i) s.references = subst (λ r. Among r s.references) (between-true x (native i) c.0 c.2) c.1 in
      noted-black x (native i) r (kept-black x k (fresh.from_node x (native i) r)))
      (λ none. unnoted-black x i e none n)
      (cases_lt 0 (count_by (between x (native i)) s.references))

  -- a script object that an edge leads to is kept
  held-kept : (x y : Name) → is_script y ≡ true → Among (x, y) v.edges → Kept x → Kept y
  held-kept x y e m k = script-kept y e (⊎_elim (λ b. inl b) (λ g. from x m k g) (black-or_gray v fresh.colours y (sound.target_there x y m e)))
    where
      from : (x : Name) → Among (x, y) v.edges → Kept x → Among y v.gray → Among y v.black ⊎ BlackIn v s y
      from (name.Native i) m k g = inr (gray-black (native i.0) y m g (fresh.gray_held i.0 y m g) k)
      from x m k g = ⊎_elim (λ b. absurd (fresh.colours.black_to_black x y b m g))
          (λ b. inr (gray-black x y m g (black-node x b) k)) k

  -- what an edge leads to is kept
  along-kept : (x y : Name) → Among (x, y) v.edges → Kept x → Kept y
  along-kept x (name.Native i) m k = native-kept x i.0 m k
  along-kept x y m k = held-kept x y refl m k

  -- a premise of a joint's mapping is a node, and kept where the joint's member is
  member-black : (m : Option Name) (x : Name) → MemberOf v m x → MemberIsNode s m → Kept x → (p : Name) → Among p (option_to_list m) → BlackIn v s p
  member-black m x o n k p i = grind (arith, kept-black)

  -- what a joint gives is kept where its map and its key are
  valued-kept : (e : Joint) → Among e v.joints → Kept e.the_map → Kept e.key → Kept e.value
  valued-kept e i first second =
      let there = sound.value_there e i in
      script-kept e.value (sound.scripts e.value there) (⊎_elim (λ b. inl b) (λ g.
      let m = fresh.gray_value e i g in
      let nodes = fresh.members m.0 m.1 in
      inr (subst (BlackIn v s) m.2.value
      (derive-jointly (seeds v s) s.references mapped (mapping_joint m.0).0 m.0.value (Among-map mapping_joint m.0 s.mappings m.1)
      (λ p j. ⊎_elim
      (member-black m.0.the_map e.the_map m.2.the_map nodes.the_map first p)
      (member-black m.0.key e.key m.2.key nodes.key second p)
      (Among-append p (option_to_list m.0.the_map) (option_to_list m.0.key) j)))))
      (black-or_gray v fresh.colours e.value there))

  -- a native of the heaps that is not white is kept: it is black, where it is a node
  living-kept : (i : ℕ) → IsLiving v (native i) → ¬ (IsWhite v s (native i)) → Kept (native i)
  living-kept i l out n = by (has same_name (black_in v s) (native i)) refl
    where
      there : is_there v (native i) ≡ true
      there = or_left (has same_name (map (λ (m : Name × ℕ). m.0) v.natives) (native i)) (has same_name (scripts_there v) (native i))
          (has-there same_name same_name-exact (map (λ (m : Name × ℕ). m.0) v.natives) (native i)
          (Among-map (λ (m : Name × ℕ). m.0) (native i, l.0) v.natives l.1))

      by : (b : Bool) → has same_name (black_in v s) (native i) ≡ b → BlackIn v s (native i)
      by true e = (closure-decides same_name same_name-exact (black_in_rules v s) (native i)).0 e
      by false e = absurd (out (Among-filter (is_white v (black_in v s)) (native i) (node_names s) n (grind (arith, there))))

  -- it is held by a register, or is a native of the heaps that is not white
  abbrev IsBesideWhite : Name → Type 0
  IsBesideWhite x = Among x v.registers ⊎ ((i : ℕ) × (x ≡ native i) × IsLiving v (native i) × (¬ (IsWhite v s (native i))))

  -- then it is kept
  beside-kept : (x : Name) → IsBesideWhite x → Kept x
  beside-kept x b = ⊎_elim (root-kept x) (λ o. subst Kept (sym o.1) (living-kept o.0 o.2 o.3)) b

  -- A native that is white is led to by no register, and by no native of the heaps that is not white.
  pub white-apart : (xs : List Name) → ((x : Name) → Among x xs → IsBesideWhite x) → (i : ℕ) → IsWhite v s (native i) → ¬ (LedFrom v xs (native i))
  white-apart xs beside i w led = grind (arith, Among-filtered, Among-passes, not-true, closure-decides, same_name-exact, led-kept)
    where
      led-kept : (x : Name) → LedFrom v xs x → Kept x
      led-kept = derived-by_joints xs v.edges v.joints Kept (λ x m. beside-kept x (beside x m)) along-kept valued-kept

  -- So it is unreached.
  pub white-unreached : (i : ℕ) → IsWhite v s (native i) → ¬ (ReachedIn v (native i))
  white-unreached i w reached = white-apart v.registers (λ x m. inl m) i w reached
