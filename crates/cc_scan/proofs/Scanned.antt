-- Black nodes are followed, one after another: at the end what is black is what the rules derive.
use Rattle.std.specs.Prelude.{IsTrue, ◌↔◌, slice_get}
use Rattle.std.proofs.Common.{◌≡◌, ℕ, zero, suc, ◌+◌, ◌*◌, ◌<◌, ◌≤◌, ◌==◌, Bool, true, false, List, [], ◌∷◌, ◌++◌, length, map, filter, take, Some, None, refl, sym, ◌∙◌, ap, subst, inl, inr, ◌⊎◌, ⊎_elim, arith}
use Rattle.std.proofs.lemmas.Bool.{true≢false, eqb-true, eq-eqb}
use Rattle.std.proofs.lemmas.List.{take_all}
use Rattle.std.proofs.lemmas.Option.{slice_get_within, slice_get_cases}
use Rattle.cc_lists.specs.Members.{Among, with_all_last}
use Rattle.cc_lists.specs.Least.{Least}
use Rattle.cc_lists.proofs.Members.{Among-map, Among-map_cases, Among-filter, Among-filtered, Among-passes, Among-left, Among-right, Among-append, has-among, has-there}
use Rattle.cc_lists.proofs.Least.{derive-root, derive-along, derive-jointly, derived-within}
use Rattle.cc_lists.proofs.Numbers.{number-exact}
use Rattle.cc_lists.proofs.OnceEach.{with_all_last-there, with_all_last-cases}
use Rattle.cc_lists.proofs.Places.{once-few, place-among}
use Rattle.cc_graph.specs.Shown.{Edge, Hyperedge, Shown, is_black, is_with}
use Rattle.cc_graph.specs.Closed.{IsClosed}
use Rattle.cc_scan.specs.Scanning.{held_elsewhere, edge_pair, hyperedge_rule, scan_rules}
use Rattle.cc_scan.specs.Steps.{with_values}
use Rattle.cc_scan.proofs.BlackenedTargets.{targets_of}
use Rattle.cc_scan.proofs.Longer.{IsLonger, longer-all, longer-length, longer-stays, longer-taken, longer-trans, longer-values}
use Rattle.cc_scan.proofs.Looks.{looks, looks_for, looks-few, looks-more}
use Rattle.cc_scan.proofs.Values.{premise-none, premise-with, values-come, values-within}

abbrev roots : Shown → List ℕ
roots g = g.blacks ++ held_elsewhere g

abbrev edges : Shown → List (ℕ × ℕ)
edges g = map edge_pair g.edges

abbrev mappings : Shown → List (List ℕ × ℕ)
mappings g = map hyperedge_rule g.hyperedges

-- Targets

-- a target is where a reference leads
target-edge : (i : ℕ) (es : List Edge) (m : ℕ) → Among m (targets_of i es) → Among (i, m) (map edge_pair es)
target-edge i es m t =
    let k = Among-map_cases (λ (e : Edge). e.target) (filter (λ e. e.source == i) es) m t in
    subst (λ z. Among (z, m) (map edge_pair es)) (eqb-true k.0.source i (Among-passes (λ e. e.source == i) k.0 es k.1))
    (subst (λ z. Among (k.0.source, z) (map edge_pair es)) k.2 (Among-map edge_pair k.0 es (Among-filtered (λ e. e.source == i) k.0 es k.1)))

edge-target : (i : ℕ) (es : List Edge) (m : ℕ) → Among (i, m) (map edge_pair es) → Among m (targets_of i es)
edge-target i es m a =
    let e = Among-map_cases edge_pair es (i, m) a in
    subst (λ z. Among z (targets_of i es)) (ap (λ (z : ℕ × ℕ). z.1) e.2)
    (Among-map (λ (z : Edge). z.target) e.0 (filter (λ z. z.source == i) es)
    (Among-filter (λ z. z.source == i) e.0 es e.1 (eq-eqb e.0.source i (ap (λ (z : ℕ × ℕ). z.0) e.2))))

-- What the rules give at the start is black, and nothing else is than they derive. The black nodes before a place on their
-- list were followed: what their references lead to is black too, and the value of each mapping of which they have map and
-- key. So many mappings were looked at for them.
pub record IsScanned (g₀ g : Shown) (place steps₀ steps : ℕ) : Type 0 where
  pub rest : g ≡ record g₀ { blacks = g.blacks }
  kept : (k : ℕ) → Among k (roots g₀) → Among k g.blacks
  derived : (k : ℕ) → Among k g.blacks → Least (scan_rules g₀) k
  pub within : place ≤ length g.blacks
  along : (k m : ℕ) → Among k (take place g.blacks) → Among (k, m) (edges g₀) → Among m g.blacks
  joined : (m : Hyperedge) → Among m g₀.hyperedges → ((k : ℕ) → Among k (hyperedge_rule m).0 → Among k (take place g.blacks)) → Among m.value g.blacks
  counted : steps ≡ steps₀ + looks (take place g.blacks) g₀.hyperedges

-- at the start: after what is held from elsewhere, and after the values of mappings with neither a map nor a key
pub scan-start : (g₀ g new : Shown) (steps₀ steps : ℕ) → g ≡ record g₀ { blacks = g.blacks } →
    ((k : ℕ) → IsTrue (is_black g k) ↔ (IsTrue (is_black g₀ k) ⊎ Among k (held_elsewhere g₀))) →
    new.blacks ≡ with_values g.blacks (filter (is_with None) g.hyperedges) → new ≡ record g { blacks = new.blacks } →
    steps ≡ steps₀ + length (filter (is_with None) g.hyperedges) → IsScanned g₀ new 0 steps₀ steps
scan-start g₀ g new steps₀ steps rest marked values same count = record {
  rest = same ∙ ap (λ (z : Shown). record z { blacks = new.blacks }) rest;
  kept = λ k m. stays k (has-among _ number-exact g.blacks k ((marked k).1 (⊎_elim
      (λ l. inl (has-there _ number-exact g₀.blacks k l))
      (λ r. inr r)
      (Among-append k g₀.blacks (held_elsewhere g₀) m))));
  derived = λ k m. values-within (Least (scan_rules g₀)) g.blacks (filter (is_with None) g₀.hyperedges) before
      (λ n a. derive-jointly (roots g₀) (edges g₀) (mappings g₀) (hyperedge_rule n).0 n.value (Among-map hyperedge_rule n g₀.hyperedges (Among-filtered (is_with None) n g₀.hyperedges a)))
      k (subst (Among k) come m);
  within = omega arith;
  along = λ k m a. absurd a;
  joined = λ m a none. subst (Among m.value) (sym come)
      (values-come g.blacks (filter (is_with None) g₀.hyperedges) m (Among-filter (is_with None) m g₀.hyperedges a (premise-none m none)) (λ i p. absurd (none i p)));
  counted = let none : length (filter (is_with None) g.hyperedges) ≡ looks_for g₀.hyperedges None = ap (λ (z : Shown). looks_for z.hyperedges None) rest in
      omega (arith, count, none);
}
  where
    come : new.blacks ≡ with_values g.blacks (filter (is_with None) g₀.hyperedges)
    come = values ∙ ap (λ (z : Shown). with_values g.blacks (filter (is_with None) z.hyperedges)) rest

    stays : (k : ℕ) → Among k g.blacks → Among k new.blacks
    stays k m = subst (Among k) (sym come) (longer-stays g.blacks (with_values g.blacks (filter (is_with None) g₀.hyperedges)) (longer-values g.blacks (filter (is_with None) g₀.hyperedges)) k m)

    before : (k : ℕ) → Among k g.blacks → Least (scan_rules g₀) k
    before k m = derive-root (roots g₀) (edges g₀) (mappings g₀) k (⊎_elim
        (λ o. Among-left k g₀.blacks (held_elsewhere g₀) (has-among _ number-exact g₀.blacks k o))
        (λ t. Among-right k g₀.blacks (held_elsewhere g₀) t)
        ((marked k).0 (has-there _ number-exact g.blacks k m)))

-- after the node at a place was followed
module _ (g₀ g mid new : Shown) (place node steps₀ steps more : ℕ) (h : IsScanned g₀ g place steps₀ steps)
    (at : slice_get g.blacks place ≡ Some node)
    (targets : mid.blacks ≡ with_all_last ◌==◌ g.blacks (targets_of node g.edges))
    (rest₁ : mid ≡ record g { blacks = mid.blacks })
    (values : new.blacks ≡ with_values mid.blacks (filter (is_with (Some node)) mid.hyperedges))
    (rest₂ : new ≡ record mid { blacks = new.blacks })
    (count : more ≡ steps + length (filter (is_with (Some node)) mid.hyperedges)) where
  abbrev ts : List ℕ
  ts = targets_of node g₀.edges

  abbrev ms : List Hyperedge
  ms = filter (is_with (Some node)) g₀.hyperedges

  mid_rest : mid ≡ record g₀ { blacks = mid.blacks }
  mid_rest = rest₁ ∙ ap (λ (z : Shown). record z { blacks = mid.blacks }) h.rest

  mid_is : mid.blacks ≡ with_all_last ◌==◌ g.blacks ts
  mid_is = targets ∙ ap (λ (z : Shown). with_all_last ◌==◌ g.blacks (targets_of node z.edges)) h.rest

  new_is : new.blacks ≡ with_values mid.blacks ms
  new_is = values ∙ ap (λ (z : Shown). with_values mid.blacks (filter (is_with (Some node)) z.hyperedges)) mid_rest

  longer₁ : IsLonger g.blacks mid.blacks
  longer₁ = subst (IsLonger g.blacks) (sym mid_is) (longer-all g.blacks ts)

  longer₂ : IsLonger mid.blacks new.blacks
  longer₂ = subst (IsLonger mid.blacks) (sym new_is) (longer-values mid.blacks ms)

  longer : IsLonger g.blacks new.blacks
  longer = longer-trans g.blacks mid.blacks new.blacks longer₁ longer₂

  stays : (k : ℕ) → Among k g.blacks → Among k new.blacks
  stays k m = longer-stays g.blacks new.blacks longer k m

  -- those before the next place are those before this one, and the node
  before : take (place + 1) new.blacks ≡ take place g.blacks ++ node ∷ []
  before = longer-taken g.blacks new.blacks longer place node at

  either : (k : ℕ) → Among k (take (place + 1) new.blacks) → Among k (take place g.blacks) ⊎ (node ≡ k)
  either k m = ⊎_elim (λ l. inl l) (λ r. ⊎_elim (λ e. inr e) (λ t. absurd t) r) (Among-append k (take place g.blacks) (node ∷ []) (subst (Among k) before m))

  there : Among node g.blacks
  there = place-among node g.blacks place at

  stood : (k : ℕ) → Among k (take (place + 1) new.blacks) → Among k g.blacks
  stood k m = ⊎_elim (λ l. Among-taken k place g.blacks l) (λ e. subst (λ z. Among z g.blacks) e there) (either k m)
    where
      Among-taken : (k n : ℕ) (xs : List ℕ) → Among k (take n xs) → Among k xs
      Among-taken k zero xs a = absurd a
      Among-taken k (suc n) [] a = absurd a
      Among-taken k (suc n) (x ∷ xs) a = ⊎_elim (λ e. inl e) (λ t. inr (Among-taken k n xs t)) a

  mid_derived : (k : ℕ) → Among k mid.blacks → Least (scan_rules g₀) k
  mid_derived k m = ⊎_elim
      (λ l. h.derived k l)
      (λ r. derive-along (roots g₀) (edges g₀) (mappings g₀) node k (target-edge node g₀.edges k r) (h.derived node there))
      (with_all_last-cases _ number-exact g.blacks ts k (subst (Among k) mid_is m))

  along : (k m : ℕ) → Among k (take (place + 1) new.blacks) → Among (k, m) (edges g₀) → Among m new.blacks
  along k m a edge = ⊎_elim
      (λ l. stays m (h.along k m l edge))
      (λ e. longer-stays mid.blacks new.blacks longer₂ m (subst (Among m) (sym mid_is)
      (with_all_last-there _ number-exact g.blacks ts m (edge-target node g₀.edges m (subst (λ z. Among (z, m) (edges g₀)) (sym e) edge)))))
      (either k a)

  joined : (m : Hyperedge) → Among m g₀.hyperedges → ((k : ℕ) → Among k (hyperedge_rule m).0 → Among k (take (place + 1) new.blacks)) → Among m.value new.blacks
  joined m a each = go (is_with (Some node) m) refl
    where
      go : (b : Bool) → is_with (Some node) m ≡ b → Among m.value new.blacks
      go true e = subst (Among m.value) (sym new_is)
          (values-come mid.blacks ms m (Among-filter (is_with (Some node)) m g₀.hyperedges a e) (λ k p. longer-stays g.blacks mid.blacks longer₁ k (stood k (each k p))))
      go false e = stays m.value (h.joined m a (λ k p. ⊎_elim
          (λ l. l)
          (λ same. absurd (true≢false (sym (premise-with m k p) ∙ (ap (λ z. is_with (Some z) m) (sym same) ∙ e))))
          (either k (each k p))))

  pub scan-next : IsScanned g₀ new (place + 1) steps₀ more
  scan-next = record {
    rest = rest₂ ∙ ap (λ (z : Shown). record z { blacks = new.blacks }) mid_rest;
    kept = λ k m. stays k (h.kept k m);
    derived = λ k m. values-within (Least (scan_rules g₀)) mid.blacks ms mid_derived
        (λ n a. derive-jointly (roots g₀) (edges g₀) (mappings g₀) (hyperedge_rule n).0 n.value
        (Among-map hyperedge_rule n g₀.hyperedges (Among-filtered (is_with (Some node)) n g₀.hyperedges a)))
        k (subst (Among k) new_is m);
    within = let l : place < length g.blacks = slice_get_within g.blacks place node at in omega (arith, l, longer-length g.blacks new.blacks longer);
    along = along;
    joined = joined;
    counted =
        let here : length (filter (is_with (Some node)) mid.hyperedges) ≡ looks_for g₀.hyperedges (Some node) = ap (λ (z : Shown). looks_for z.hyperedges (Some node)) mid_rest in
        let all : looks (take (place + 1) new.blacks) g₀.hyperedges ≡ looks (take place g.blacks) g₀.hyperedges + looks_for g₀.hyperedges (Some node) =
        ap (λ ns. looks ns g₀.hyperedges) before ∙ looks-more (take place g.blacks) node g₀.hyperedges in
        omega (arith, here, all, count, h.counted);
  }

-- no more nodes are black than there are
few-blacks : (g : Shown) → IsClosed g → length g.blacks ≤ length g.nodes
few-blacks g closed = once-few (length g.nodes) g.blacks closed.within.once closed.within.members

-- a black node has a place below the number of nodes
pub scan-below : (g₀ g : Shown) (place node steps₀ steps : ℕ) → IsScanned g₀ g place steps₀ steps → IsClosed g → slice_get g.blacks place ≡ Some node → place < length g₀.nodes
scan-below g₀ g place node steps₀ steps h closed at =
    let within : place < length g.blacks = slice_get_within g.blacks place node at in
    let few : length g.blacks ≤ length g₀.nodes = subst (λ (z : Shown). length g.blacks ≤ length z.nodes) h.rest (few-blacks g closed) in
    omega arith

-- where no black node is left that was not followed
module _ (g₀ g : Shown) (place steps₀ steps : ℕ) (h : IsScanned g₀ g place steps₀ steps) (none : slice_get g.blacks place ≡ None) where
  all : take place g.blacks ≡ g.blacks
  all = take_all place g.blacks (⊎_elim
      (λ had. let f : Some had.0 ≡ None = sym had.2 ∙ none in absurd (cc))
      (λ past. past.0)
      (slice_get_cases g.blacks place).1)

  taken : (k : ℕ) → Among k g.blacks → Among k (take place g.blacks)
  taken k m = subst (Among k) (sym all) m

  pub scan-all : (k : ℕ) → IsTrue (is_black g k) ↔ Least (scan_rules g₀) k
  scan-all k = (
    λ b. h.derived k (has-among _ number-exact g.blacks k b),
    λ d. has-there _ number-exact g.blacks k (derived-within (roots g₀) (edges g₀) (mappings g₀) (λ z. Among z g.blacks) h.kept
        (λ x y edge m. h.along x y (taken x m) edge)
        (λ ps v m each.
        let n = Among-map_cases hyperedge_rule g₀.hyperedges (ps, v) m in
        subst (λ z. Among z g.blacks) (ap (λ (z : List ℕ × ℕ). z.1) n.2)
        (h.joined n.0 n.1 (λ j p. taken j (each j (subst (Among j) (ap (λ (z : List ℕ × ℕ). z.0) n.2) p)))))
        k d),
  )

  pub scan-few : IsClosed g → steps ≤ steps₀ + 2 * length g₀.hyperedges
  scan-few closed =
      let looked : looks (take place g.blacks) g₀.hyperedges ≤ 2 * length g₀.hyperedges =
      subst (λ ns. looks ns g₀.hyperedges ≤ 2 * length g₀.hyperedges) (sym all) (looks-few g.blacks g₀.hyperedges closed.within.once) in
      omega (arith, looked, h.counted)
