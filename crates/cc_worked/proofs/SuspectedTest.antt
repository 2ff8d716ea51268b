-- What the test of suspicion says yes to is suspected.
use Rattle.std.proofs.Common.{◌≡◌, ℕ, Bool, true, false, not, ◌&&◌, List, [], ◌++◌, map, inl, inr, ◌⊎◌, ⊎_elim, refl}
use Rattle.std.proofs.lemmas.Bool.{and_parts, or_cases, not-true, not_from_true, cases_Bool, true≢false}
use Rattle.cc_lists.specs.Members.{Among, has}
use Rattle.cc_lists.specs.Least.{system}
use Rattle.cc_lists.proofs.Closure.{closure-decides}
use Rattle.cc_lists.proofs.Booleans.{second-passes}
use Rattle.cc_names.specs.declared.name.Name.{Name}
use Rattle.cc_names.specs.Names.{native, same_name}
use Rattle.cc_names.proofs.NameTests.{same_name-exact}
use Rattle.cc_model.specs.View.{View, ReachedIn, reached_in, view_rules}
use Rattle.cc_model.specs.Suspected.{unreached_scripts, is_unreached, IsCovered, IsFromCandidate, IsSuspected}
use Rattle.cc_worked.specs.SnapshotTests.{covered_names, names_from_candidates, is_looked_after, is_suspected}
use Rattle.cc_worked.proofs.Passing.{list_all-each, absent-has}

-- A name for which the test of being unreached says no is reached.
unreached-false : (v : View) (x : Name) → is_unreached v x ≡ false → ReachedIn v x
unreached-false v x e = (closure-decides same_name same_name-exact (view_rules v) x).0 (go (has same_name (reached_in v) x) e)
  where
    go : (b : Bool) → not b ≡ false → b ≡ true
    go true h = refl
    go false h = absurd (true≢false h)

-- What the test of suspicion says yes to is suspected.
pub is_suspected-true : (v : View) (candidates : List ℕ) → is_suspected v candidates ≡ true → IsSuspected v candidates
is_suspected-true v candidates h u c m unreached = go (cases_Bool (is_unreached v u))
  where
    looked_after : is_looked_after v candidates u ≡ true
    looked_after = list_all-each (λ (n : Name × ℕ). is_looked_after v candidates n.0) v.natives h (u, c) m

    covered : has same_name (covered_names v) u ≡ true → IsCovered v u
    covered e = (closure-decides same_name same_name-exact (system (v.purple ++ unreached_scripts v) v.edges []) u).0 e

    from_candidate : (not (has same_name v.buffer u) && has same_name (names_from_candidates v candidates) u) ≡ true →
        (¬ (Among u v.buffer)) × IsFromCandidate v candidates u
    from_candidate e =
        let k = and_parts (not (has same_name v.buffer u)) (has same_name (names_from_candidates v candidates) u) e in (
          absent-has v.buffer u (not-true (has same_name v.buffer u) k.0),
          (closure-decides same_name same_name-exact (system (map native candidates) v.edges []) u).0 k.1,
        )

    covered_or_from : (not (is_unreached v u) ≡ false) → IsCovered v u ⊎ ((¬ (Among u v.buffer)) × IsFromCandidate v candidates u)
    covered_or_from e = ⊎_elim (λ k. inl (covered k)) (λ k. inr (from_candidate k))
        (or_cases (has same_name (covered_names v) u) (not (has same_name v.buffer u) && has same_name (names_from_candidates v candidates) u)
        (second-passes (not (is_unreached v u)) _ looked_after e))

    go : (is_unreached v u ≡ true) ⊎ (is_unreached v u ≡ false) → IsCovered v u ⊎ ((¬ (Among u v.buffer)) × IsFromCandidate v candidates u)
    go (inl e) = covered_or_from (not_from_true (is_unreached v u) e)
    go (inr e) = absurd (unreached (unreached-false v u e))
