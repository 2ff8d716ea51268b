-- WHAT A MARK OVER SLOTS AND ENTRIES COMES TO: how a key comes in, and induction.
use Rattle.std.specs.Prelude.{◌↔◌, IsTrue}
use Rattle.std.proofs.Common.{◌≡◌, ℕ, ◌==◌, List, refl, sym, subst, inl, inr, arith}
use Rattle.cc_lists.specs.Members.{Among, has}
use Rattle.cc_lists.specs.Least.{Least, system}
use Rattle.cc_lists.proofs.Closure.{closure-decides}
use Rattle.cc_lists.proofs.Least.{derive-root, derive-along, derive-jointly, derived-within}
use Rattle.cc_lists.proofs.Members.{Among-map, Among-map_cases}
use Rattle.cc_lists.proofs.Numbers.{number-exact}
use Rattle.cc_script.specs.Objects.{Object, AreWhole, is_there}
use Rattle.cc_script.specs.Walking.{edges}
use Rattle.cc_script.proofs.Reaching.{edge-slot}
use Rattle.cc_weakmaps.specs.Entries.{KeyedEntry}
use Rattle.cc_marking.specs.Marking.{IsMarkedFrom, AreEntriesThere, mark_rules, keys_marked}
use Rattle.cc_marking.specs.Joints.{Joint, joints, rule_of, rules_of}
use Rattle.cc_marking.proofs.Joints.{joint-there}
use Rattle.cc_marking.proofs.There.{AreThere}

module _ (objects : List Object) (entries : List KeyedEntry) where
  -- the list has what the rules derive
  pub marked-decided : (keys : List ℕ) (key : ℕ) → IsTrue (has ◌==◌ (keys_marked objects entries keys) key) ↔ IsMarkedFrom objects entries keys key
  marked-decided keys key = closure-decides ◌==◌ number-exact (mark_rules objects entries keys) key

  pub marked-root : (keys : List ℕ) (key : ℕ) → Among key keys → IsMarkedFrom objects entries keys key
  marked-root keys = derive-root keys (edges objects) (rules_of (joints entries))

  pub marked-along : (keys : List ℕ) (x y : ℕ) → Among (x, y) (edges objects) → IsMarkedFrom objects entries keys x → IsMarkedFrom objects entries keys y
  marked-along keys = derive-along keys (edges objects) (rules_of (joints entries))

  pub marked-value : (keys : List ℕ) (j : Joint) → Among j (joints entries) → IsMarkedFrom objects entries keys j.the_map →
      IsMarkedFrom objects entries keys j.key → IsMarkedFrom objects entries keys j.value
  marked-value keys j m the_map key = grind (arith, derive-jointly, Among-map)

  -- induction
  pub marked-within : (keys : List ℕ) (P : ℕ → Type 0) → ((key : ℕ) → Among key keys → P key) → ((x y : ℕ) → Among (x, y) (edges objects) → P x → P y) →
      ((j : Joint) → Among j (joints entries) → P j.the_map → P j.key → P j.value) → (key : ℕ) → IsMarkedFrom objects entries keys key → P key
  marked-within keys P roots along value = derived-within keys (edges objects) (rules_of (joints entries)) P roots along each
    where
      each : (ps : List ℕ) (v : ℕ) → Among (ps, v) (rules_of (joints entries)) → ((y : ℕ) → Among y ps → P y) → P v
      each ps v m g =
          let k = Among-map_cases rule_of (joints entries) (ps, v) m in
          let premise : (y : ℕ) → Among y (rule_of k.0).0 → P y = subst (λ (r : List ℕ × ℕ). (y : ℕ) → Among y r.0 → P y) (sym k.2) g in
          subst (λ (r : List ℕ × ℕ). P r.1) k.2 (value k.0 k.1 (premise k.0.the_map (inl refl)) (premise k.0.key (inr (inl refl))))

  -- from what it came to it comes no further
  pub marked-again : (xs ys : List ℕ) → ((x : ℕ) → Among x xs → IsMarkedFrom objects entries ys x) →
      (key : ℕ) → IsMarkedFrom objects entries xs key → IsMarkedFrom objects entries ys key
  marked-again xs ys f = marked-within xs (IsMarkedFrom objects entries ys) f (marked-along ys) (marked-value ys)

  -- only what is there is marked
  pub marked-there : AreWhole objects → AreEntriesThere objects entries → (keys : List ℕ) → AreThere keys objects →
      (key : ℕ) → IsMarkedFrom objects entries keys key → IsTrue (is_there objects key)
  marked-there whole there keys live = marked-within keys (λ key. IsTrue (is_there objects key)) live
      (λ x y m h. let k = edge-slot objects x y m in whole k.0 y k.1 k.3)
      (λ j m the_map key. joint-there objects entries there j m)

-- objects that hold the same are marked from the same
pub marked-alike : (old new : List Object) (entries : List KeyedEntry) (keys : List ℕ) → edges new ≡ edges old →
    (key : ℕ) → IsMarkedFrom new entries keys key → IsMarkedFrom old entries keys key
marked-alike old new entries keys same key d = subst (λ es. Least (system keys es (rules_of (joints entries))) key) same d

-- What is marked leads to such keys alone.
pub marked-leads : (objects : List Object) (keys : List ℕ) (x y : ℕ) → Among (x, y) (edges objects) → (entries : List KeyedEntry) →
    IsTrue (has ◌==◌ (keys_marked objects entries keys) x) → IsTrue (has ◌==◌ (keys_marked objects entries keys) y)
marked-leads objects keys x y edge entries h = grind (arith, marked-decided, marked-along)
