-- A LEAST SET CARRIED OVER to that of other rules, along a relation: where each rule has its like among the others.
use Rattle.std.proofs.Common.{List}
use Rattle.cc_lists.specs.Members.{Among}
use Rattle.cc_lists.specs.Least.{Least, system}
use Rattle.cc_lists.proofs.Least.{derive-root, derive-along, derive-jointly, derived-within}

module _ {X Y : Type 0} (R : X → Y → Type 0) (roots : List X) (edges : List (X × X)) (entries : List (List X × X))
    (others : List Y) (ways : List (Y × Y)) (rules : List (List Y × Y)) where
  -- whatever the result of a rule is related to, another rule gives from what is related to premises
  pub record Carries : Type 0 where
    pub root : (x : X) (y : Y) → Among x roots → R x y → Among y others
    pub edge : (x w : X) (z : Y) → Among (x, w) edges → R w z → (y : Y) × R x y × Among (y, z) ways
    pub entry : (xs : List X) (w : X) (z : Y) → Among (xs, w) entries → R w z →
        (ys : List Y) × Among (ys, z) rules × ((y : Y) → Among y ys → (x : X) × Among x xs × R x y)

  pub least-carried : Carries → (x : X) → Least (system roots edges entries) x → (y : Y) → R x y → Least (system others ways rules) y
  least-carried c = derived-within roots edges entries (λ x. (y : Y) → R x y → Least (system others ways rules) y)
      (λ x m y r. derive-root others ways rules y (c.root x y m r))
      (λ x w m before z r. let e = c.edge x w z m r in derive-along others ways rules e.0 z e.2 (before e.0 e.1))
      (λ xs w m before z r. let e = c.entry xs w z m r in derive-jointly others ways rules e.0 z e.1 (λ y i. let f = e.2 y i in before f.0 f.1 y f.2))
