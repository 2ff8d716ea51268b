-- WHAT ENTRIES GIVE: their joints one by one, and least sets that are closed under them.
use Rattle.std.proofs.Common.{◌≡◌, List, [], ◌∷◌, Option, Some, None, refl, sym, ap, subst, inl, inr, ⊎_elim}
use Rattle.cc_lists.specs.Members.{Among}
use Rattle.cc_lists.specs.Least.{Least, system}
use Rattle.cc_lists.proofs.Members.{Among-map, Among-map_cases, Among-left, Among-right, Among-append, Among-flat_map, Among-flat_map_cases}
use Rattle.cc_lists.proofs.Least.{derive-jointly, derived-within}
use Rattle.cc_names.specs.declared.name.Name.{Name}
use Rattle.cc_model.specs.Entries.{Entry, Joint, joint, key_joint, joints_of, joints, rule_of, rules_of}

-- an entry leads from its map and its key to its value,
pub value-joint : (es : List Entry) (e : Entry) → Among e es → Among (joint e.the_map e.key e.value) (joints es)
value-joint es e m = Among-flat_map joints_of e (joint e.the_map e.key e.value) es m
    (Among-right (joint e.the_map e.key e.value) (key_joint e.the_map e.delegate e.key) (joint e.the_map e.key e.value ∷ []) (inl refl))

-- and from its map and its delegate to its key.
pub delegate-joint : (es : List Entry) (e : Entry) (d : Name) → Among e es → e.delegate ≡ Some d → Among (joint e.the_map d e.key) (joints es)
delegate-joint es e d m is = Among-flat_map joints_of e (joint e.the_map d e.key) es m
    (Among-left (joint e.the_map d e.key) (key_joint e.the_map e.delegate e.key) (joint e.the_map e.key e.value ∷ [])
    (subst (λ x. Among (joint e.the_map d e.key) (key_joint e.the_map x e.key)) (sym is) (inl refl)))

-- what an entry gives: its value, or its key
pub data Gives (e : Entry) : Joint → Type 0 where
  its_value : Gives e (joint e.the_map e.key e.value)
  its_key : (d : Name) → e.delegate ≡ Some d → Gives e (joint e.the_map d e.key)

-- and there is nothing else.
pub joint-cases : (es : List Entry) (j : Joint) → Among j (joints es) → (e : Entry) × Among e es × Gives e j
joint-cases es j m =
    let f = Among-flat_map_cases joints_of es j m in (
      f.0,
      f.1,
      ⊎_elim (by_key f.0 f.0.delegate refl)
          (λ r. ⊎_elim (λ is. subst (Gives f.0) is its_value) (λ n. absurd n) r)
          (Among-append j (key_joint f.0.the_map f.0.delegate f.0.key) (joint f.0.the_map f.0.key f.0.value ∷ []) f.2),
    )
  where
    by_key : (e : Entry) (d : Option Name) → e.delegate ≡ d → Among j (key_joint e.the_map d e.key) → Gives e j
    by_key e None is m = absurd m
    by_key e (Some d) is m = ⊎_elim (λ q. subst (Gives e) q (its_key d is)) (λ n. absurd n) m

-- What an entry gives is one of the joints.
pub gives-joint : (es : List Entry) (e : Entry) (j : Joint) → Among e es → Gives e j → Among j (joints es)
gives-joint es e _ m its_value = value-joint es e m
gives-joint es e _ m (its_key d q) = delegate-joint es e d m q

-- LEAST SETS that are closed under joints
module _ (roots : List Name) (edges : List (Name × Name)) (js : List Joint) where
  pub derive-joint : (j : Joint) → Among j js → Least (system roots edges (rules_of js)) j.the_map → Least (system roots edges (rules_of js)) j.key →
      Least (system roots edges (rules_of js)) j.value
  derive-joint j m a b = derive-jointly roots edges (rules_of js) (j.the_map ∷ j.key ∷ []) j.value (Among-map rule_of j js m)
      (λ z i. ⊎_elim (λ p. subst (Least (system roots edges (rules_of js))) p a)
      (λ t. ⊎_elim (λ p. subst (Least (system roots edges (rules_of js))) p b) (λ n. absurd n) t) i)

  pub derived-by_joints : (P : Name → Type 0) → ((x : Name) → Among x roots → P x) → ((x y : Name) → Among (x, y) edges → P x → P y) →
      ((j : Joint) → Among j js → P j.the_map → P j.key → P j.value) → (x : Name) → Least (system roots edges (rules_of js)) x → P x
  derived-by_joints P r a v = derived-within roots edges (rules_of js) P r a
      (λ ps y m f. let k = Among-map_cases rule_of js (ps, y) m in
      let premises : (k.0.the_map ∷ k.0.key ∷ []) ≡ ps = ap (λ (p : List Name × Name). p.0) k.2 in
      let target : k.0.value ≡ y = ap (λ (p : List Name × Name). p.1) k.2 in
      subst P target (v k.0 k.1 (f k.0.the_map (subst (Among k.0.the_map) premises (inl refl))) (f k.0.key (subst (Among k.0.key) premises (inr (inl refl))))))
