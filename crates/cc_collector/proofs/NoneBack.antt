-- A CHANGE THAT KEEPS EVERY SNAPSHOT FRESH brings no native back: there is a snapshot that notes one of them as gone.
use Rattle.std.proofs.Common.{◌≡◌, ℕ, ◌<◌, ◌≤◌, Bool, true, false, [], ◌∷◌, Option, refl, sym, ◌∙◌, ap, subst, inl, inr, ◌⊎◌, ⊎_elim, arith, count_by}
use Rattle.std.specs.Prelude.{nat_le}
use Rattle.std.proofs.lemmas.Bool.{leb-true, leb-false, true≢false}
use Rattle.cc_lists.specs.Members.{Among, has}
use Rattle.cc_lists.proofs.Members.{Among-map, Among-map_cases, has-among, has-there}
use Rattle.cc_lists.proofs.Counting.{count_by-cons}
use Rattle.cc_lists.proofs.CountsOf.{count_by-none, false-left}
use Rattle.cc_names.specs.declared.name.Name.{Name}
use Rattle.cc_names.specs.Names.{native, is_script, same_name, number_of}
use Rattle.cc_names.proofs.NameTests.{same_name-exact}
use Rattle.cc_model.specs.Heap.{Heap, HeapNative}
use Rattle.cc_model.specs.View.{view, counted}
use Rattle.cc_model.specs.WellFormed.{native_names}
use Rattle.cc_model.specs.Colours.{HasColourInvariant}
use Rattle.cc_model.specs.Snapshot.{NodeState, untraversed, gone, traversed, Node, Snapshot, node_names}
use Rattle.cc_model.specs.Units.{begun, with_empty_buffer}
use Rattle.cc_model.specs.Fresh.{IsFresh, IsNode, IsLiving, MemberIsNode, node}
use Rattle.cc_laws_heap.specs.Sound.{IsSound}
use Rattle.cc_laws_heap.proofs.Face.{script_names-named}
use Rattle.cc_laws_snapshot.specs.Kinds.{IsFreshIn}
use Rattle.cc_laws_snapshot.proofs.Face.{begun-fresh, gone-not_traversed, living-native, named-there, node-cases}
use Rattle.cc_heaps.specs.Standing.{KeepsFresh}

module _ (h : Heap) (sound : IsSound [] h) (coloured : HasColourInvariant (view h)) (k : ℕ) (least : 1 ≤ k) (made : k ≤ h.natives_made)
    (dead : ¬ (Among (native k) (native_names h))) where
  -- a snapshot just begun, with the native as a node that is gone
  abbrev with_gone : Snapshot
  with_gone = record (begun h) { nodes = node (native k) gone ∷ (begun h).nodes }

  begun_is : IsFresh h.natives_made (view (with_empty_buffer h)) (begun h)
  begun_is = begun-fresh h sound coloured

  -- it was no node
  no-node : ¬ (IsNode (begun h) (native k))
  no-node i = grind (arith, script_names-named, named-there, node-cases)

  members-too : (m : Option Name) → MemberIsNode (begun h) m → MemberIsNode with_gone m
  members-too m i = grind arith

  -- a node of another state was one before
  other-state : (x : Name) (a : NodeState) → (gone ≡ a → ⊥) → Among (node x a) with_gone.nodes → Among (node x a) (begun h).nodes
  other-state x a other i = ⊎_elim (λ e. absurd (other (ap (λ (n : Node). n.state) e))) (λ l. l) i

  is-fresh : IsFreshIn h with_gone
  is-fresh = record {
    sampled = λ u c n out i. begun_is.sampled u c n (out.0, λ l. l) (other-state u (traversed n) (gone-not_traversed n) i);
    as_held = λ u c w out t. begun_is.as_held u c w (out.0, λ l. l) (t.0, other-state w (traversed t.0) (gone-not_traversed t.0) t.1);
    gray_noted = λ w y t e g. begun_is.gray_noted w y (t.0, other-state w (traversed t.0) (gone-not_traversed t.0) t.1) e g;
    gray_held = λ i y e g. inr (begun_is.gray_held i y e g);
    gray_value = λ e m g. let n = begun_is.gray_value e m g in (n.0, n.1, record { value = n.2.value; the_map = n.2.the_map; key = n.2.key });
    colours = coloured;
    from_node = λ x y i. inr (begun_is.from_node x y i);
    to_node = λ x y i. inr (begun_is.to_node x y i);
    members = λ m i. let n = begun_is.members m i in
        record { the_map = members-too m.the_map n.the_map; key = members-too m.key n.key; value = inr n.value };
    values = begun_is.values;
    candidates = λ j i. inr (begun_is.candidates j i);
    distinct = distinct;
    native_nodes = λ i m. ⊎_elim
        (λ e. let same : k ≡ i = ap number_of e in (omega (arith, same, least), omega (arith, same, made)))
        (λ l. begun_is.native_nodes i l) m;
    script_nodes = λ x m e. ⊎_elim (λ s. absurd (no-script x s e)) (λ l. begun_is.script_nodes x l e) m;
    in_order = begun_is.in_order;
    nothing_from_untraversed = λ x y i. begun_is.nothing_from_untraversed x y (other-state x untraversed (λ e. cc) i);
    nothing_from_gone = λ x y i r. absurd r;
    gone_is_dead = λ x i. ⊎_elim
        (λ e. (k, sym (ap (λ (n : Node). n.name) e), least, made, λ l. dead (living-name x (sym (ap (λ (n : Node). n.name) e)) l)))
        (λ l. begun_is.gone_is_dead x l) i;
  }
    where
      no-script : (x : Name) → native k ≡ x → is_script x ≡ true → ⊥
      no-script x s e = native-none (subst (λ y. is_script y ≡ true) (sym s) e)
        where
          native-none : is_script (native k) ≡ true → ⊥
          native-none f = cc

      distinct : (x : Name) → count_by (same_name x) (native k ∷ node_names (begun h)) ≤ 1
      distinct x = go (same_name x (native k)) refl
        where
          go : (b : Bool) → same_name x (native k) ≡ b → count_by (same_name x) (native k ∷ node_names (begun h)) ≤ 1
          go true e =
              let rest : count_by (same_name x) (node_names (begun h)) ≡ 0 = count_by-none (same_name x) (node_names (begun h))
              (λ y m. false-left (same_name x y) (λ f. no-node (subst (IsNode (begun h)) (sym ((same_name-exact x y).0 f) ∙ (same_name-exact x (native k)).0 e) m))) in
              rw (count_by-cons (same_name x) (native k) (node_names (begun h)), e, rest) (omega arith)
          go false e = rw (count_by-cons (same_name x) (native k) (node_names (begun h)), e) (omega (arith, begun_is.distinct x))

      living-name : (x : Name) → x ≡ native k → IsLiving (view h) x → Among (native k) (native_names h)
      living-name x e l =
          let n = living-native h x l.0 l.1 in
          subst (λ y. Among y (native_names h)) (n.2 ∙ e) (Among-map (λ (n : HeapNative). native n.number) n.0 h.natives n.1)

-- THE LAW: who is there afterwards was there, or its number is new
pub none-back : (old new : Heap) → IsSound [] old → HasColourInvariant (view old) → IsSound [] new → KeepsFresh old new → (k : ℕ) → Among (native k) (native_names new) →
    Among (native k) (native_names old) ⊎ (old.natives_made < k)
none-back old new sound coloured sound_new keeps k there = go (has same_name (native_names old) (native k)) refl (nat_le k old.natives_made) refl
  where
    n : (n : HeapNative) × Among n new.natives × (native n.number ≡ native k)
    n = Among-map_cases (λ (n : HeapNative). native n.number) new.natives (native k) there

    least : 1 ≤ k
    least = let same : n.0.number ≡ k = ap number_of n.2 in omega (arith, same, (sound_new.well_formed.native_numbers n.0 n.1).0)

    living : IsLiving (view new) (native k)
    living = (n.0.count, subst (λ x. Among (x, n.0.count) (view new).natives) n.2 (Among-map counted n.0 new.natives n.1))

    go : (b : Bool) → has same_name (native_names old) (native k) ≡ b → (c : Bool) → nat_le k old.natives_made ≡ c → Among (native k) (native_names old) ⊎ (old.natives_made < k)
    go true e c f = inl (has-among same_name same_name-exact (native_names old) (native k) e)
    go false e false f = inr (leb-false k old.natives_made f)
    go false e true f =
        let dead : ¬ (Among (native k) (native_names old)) = λ m. true≢false (sym (has-there same_name same_name-exact (native_names old) (native k) m) ∙ e) in
        let made = leb-true k old.natives_made f in
        absurd (((keeps (with_gone old sound coloured k least made dead) (is-fresh old sound coloured k least made dead)).gone_is_dead (native k) (inl refl)).4 living)
