-- What the rules derive: how it comes in, and induction.
use Rattle.std.proofs.Common.{List, ◌++◌, map, sym, subst, inl, ⊎_elim, refl}
use Rattle.cc_lists.specs.Members.{Among}
use Rattle.cc_lists.specs.Least.{Rule, Least, by_rule, root, along, jointly, system}
use Rattle.cc_lists.proofs.Members.{Among-map, Among-map_cases, Among-left, Among-right, Among-append}

-- induction over the rules
pub Least-within : {X : Type 0} (rs : List (Rule X)) (P : X → Type 0) →
    ((r : Rule X) → Among r rs → ((y : X) → Among y r.premises → P y) → P r.gives) → (x : X) → Least rs x → P x
Least-within rs P h x (by_rule r i f) = h r i (λ y m. Least-within rs P h y (f y m))

module _ {X : Type 0} (roots : List X) (edges : List (X × X)) (entries : List (List X × X)) where
  pub derive-root : (x : X) → Among x roots → Least (system roots edges entries) x
  derive-root x h = by_rule (root x) (Among-left (root x) (map root roots) (map along edges ++ map jointly entries) (Among-map root x roots h)) (λ y m. absurd m)

  pub derive-along : (x y : X) → Among (x, y) edges → Least (system roots edges entries) x → Least (system roots edges entries) y
  derive-along x y h d = by_rule (along (x, y))
      (Among-right (along (x, y)) (map root roots) (map along edges ++ map jointly entries)
      (Among-left (along (x, y)) (map along edges) (map jointly entries) (Among-map along (x, y) edges h)))
      (λ z m. ⊎_elim (λ e. subst (Least (system roots edges entries)) e d) (λ b. absurd b) m)

  pub derive-jointly : (ps : List X) (v : X) → Among (ps, v) entries → ((y : X) → Among y ps → Least (system roots edges entries) y) → Least (system roots edges entries) v
  derive-jointly ps v h d = by_rule (jointly (ps, v))
      (Among-right (jointly (ps, v)) (map root roots) (map along edges ++ map jointly entries)
      (Among-right (jointly (ps, v)) (map along edges) (map jointly entries) (Among-map jointly (ps, v) entries h)))
      d

  pub derived-within : (P : X → Type 0) → ((x : X) → Among x roots → P x) → ((x y : X) → Among (x, y) edges → P x → P y) →
      ((ps : List X) (v : X) → Among (ps, v) entries → ((y : X) → Among y ps → P y) → P v) →
      (x : X) → Least (system roots edges entries) x → P x
  derived-within P r a v = Least-within (system roots edges entries) P each
    where
      each : (q : Rule X) → Among q (system roots edges entries) → ((y : X) → Among y q.premises → P y) → P q.gives
      each q i f = ⊎_elim
          (λ m. let k = Among-map_cases root roots q m in subst (λ z. P z.gives) k.2 (r k.0 k.1))
          (λ m. ⊎_elim
          (λ m. let k = Among-map_cases along edges q m in
          let g : (y : X) → Among y (along k.0).premises → P y = subst (λ z. (y : X) → Among y z.premises → P y) (sym k.2) f in
          subst (λ z. P z.gives) k.2 (a k.0.0 k.0.1 k.1 (g k.0.0 (inl refl))))
          (λ m. let k = Among-map_cases jointly entries q m in
          let g : (y : X) → Among y (jointly k.0).premises → P y = subst (λ z. (y : X) → Among y z.premises → P y) (sym k.2) f in
          subst (λ z. P z.gives) k.2 (v k.0.0 k.0.1 k.1 g))
          (Among-append q (map along edges) (map jointly entries) m))
          (Among-append q (map root roots) (map along edges ++ map jointly entries) i)
