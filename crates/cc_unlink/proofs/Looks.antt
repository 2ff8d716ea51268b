-- HOW OFTEN A PASS LOOKS AT A NATIVE: each look leaves one less of the natives that are nodes.
use Rattle.std.specs.Prelude.{IfNone, flat_map}
use Rattle.std.proofs.Common.{◌≡◌, ℕ, ◌+◌, ◌<◌, ◌≤◌, ◌==◌, true, false, [], length, Option, Some, None, IfSome, option_map, refl, sym, ◌∙◌, subst, inl, arith}
use Rattle.std.proofs.lemmas.Bool.{ltb-true}
use Rattle.cc_lists.specs.Members.{Among}
use Rattle.cc_lists.specs.Walks.{is_above}
use Rattle.cc_lists.proofs.Counting.{count_by-all}
use Rattle.cc_lists.proofs.CountsOf.{count_by-agree, false-left}
use Rattle.cc_lists.proofs.Filtering.{count_by-wider}
use Rattle.cc_lists.proofs.Members.{Among-flat_map}
use Rattle.cc_lists.proofs.Numbers.{number-exact}
use Rattle.cc_lists.proofs.OnceEach.{with_all_last-there}
use Rattle.cc_lists.proofs.Places.{place-among}
use Rattle.cc_names.specs.declared.number.NativeNo.{NativeNo}
use Rattle.cc_names.specs.Names.{native, natives_in}
use Rattle.cc_graph.specs.Natives.{IsNext, behind}
use Rattle.cc_graph.specs.Shown.{Shown, Vertex, number_of}
use Rattle.cc_unlink.specs.Passes.{native_nodes, nodes_above, nodes_behind, number_in}
use Rattle.cc_unlink.specs.declared.ends.White.{White}
use Rattle.cc_unlink.proofs.NextWhite.{number_of-node, behind-above}

-- a native that is a node is one of them
native-node : (g : Shown) (k i : ℕ) → number_of g.nodes (native k) ≡ Some i → Among k (native_nodes g)
unfolding native_nodes
native-node g k i e =
    let n = number_of-node g.nodes (native k) i e in
    with_all_last-there ◌==◌ number-exact [] (flat_map (λ (v : Vertex). natives_in v.name) g.nodes) k
    (Among-flat_map (λ (v : Vertex). natives_in v.name) n.node k g.nodes (place-among n.node g.nodes i n.there)
    (subst (λ x. Among k (natives_in x)) (sym n.name) (inl refl)))

-- above none are all
pub all-nodes : (g : Shown) → nodes_above g None ≡ length (native_nodes g)
all-nodes g = count_by-agree (is_above None) (λ k. true) (native_nodes g) (λ k m. refl) ∙ count_by-all (native_nodes g)

-- no number is above itself
not_above-itself : (k : ℕ) → is_above (Some k) k ≡ false
not_above-itself k = false-left (is_above (Some k) k) (λ e. let l : k < k = ltb-true k k e in absurd (omega arith))

-- A LOOK at the next native behind one takes one step, and leaves one less.
pub looks-left : (g : Shown) (after : Option NativeNo) (next : Option (NativeNo × ℕ)) (old new : ℕ) →
    IfSome next (λ r. IsNext (number_of g.nodes) after r.0.0 r.1) → IfSome next (λ r. new ≡ old + 1) → IfNone next (new ≡ old) →
    new + nodes_behind g (option_map (λ (r : NativeNo × ℕ). r.0.0) next) ≤ old + nodes_above g (option_map (λ (k : NativeNo). k.0) after)
looks-left g after None old new is looked ended = omega (arith, ended)
looks-left g after (Some n) old new is looked ended = omega (arith, looked, less)
  where
    at : Option ℕ
    at = option_map (λ (k : NativeNo). k.0) after

    wider : (j : ℕ) → is_above (Some n.0.0) j ≡ true → is_above at j ≡ true
    wider j e =
        let up : n.0.0 < j = ltb-true n.0.0 j e in
        let from : behind at ≤ n.0.0 = is.from in
        behind-above at j (omega (arith, up, from))

    less : nodes_above g (Some n.0.0) < nodes_above g at
    less = count_by-wider (is_above (Some n.0.0)) (is_above at) (native_nodes g) n.0.0 wider
        (native-node g n.0.0 n.1 is.there) (not_above-itself n.0.0) (behind-above at n.0.0 is.from)

-- In a walk: so many steps were taken since it began, and so many natives are left.
pub looks-next : (g : Shown) (at : Option ℕ) (n : NativeNo) (next : Option (NativeNo × ℕ)) (first old new : ℕ) → old + nodes_above g (Some n.0) ≤ first + nodes_above g at →
    IfSome next (λ r. IsNext (number_of g.nodes) (Some n) r.0.0 r.1) → IfSome next (λ r. new ≡ old + 1) → IfNone next (new ≡ old) →
    new + nodes_behind g (option_map (λ (r : NativeNo × ℕ). r.0.0) next) ≤ first + nodes_above g at
looks-next g at n next first old new before is looked ended =
    let left : new + nodes_behind g (option_map (λ (r : NativeNo × ℕ). r.0.0) next) ≤ old + nodes_above g (Some n.0) = looks-left g (Some n) next old new is looked ended in
    omega (arith, before, left)

-- In a pass: at its begin,
pub passes-start : (g : Shown) (next : Option White) (old new : ℕ) → new + nodes_behind g (number_in next) ≤ old + nodes_above g None →
    new + nodes_behind g (number_in next) ≤ old + length (native_nodes g)
passes-start g next old new left = subst (λ n. new + nodes_behind g (number_in next) ≤ old + n) (all-nodes g) left

-- from one white native to the next,
pub passes-next : (g : Shown) (w : White) (next : Option White) (first old new : ℕ) → old + nodes_above g (Some w.number.0) ≤ first + length (native_nodes g) →
    new + nodes_behind g (number_in next) ≤ old + nodes_above g (Some w.number.0) → new + nodes_behind g (number_in next) ≤ first + length (native_nodes g)
passes-next g w next first old new before left = omega (arith, before, left)

-- and at its end.
pub passes-end : (g : Shown) (first now : ℕ) → now + 0 ≤ first + length (native_nodes g) → now ≤ first + length (native_nodes g)
passes-end g first now before = omega (arith, before)
