-- CHANGES ONE AFTER THE OTHER LEAVE NAMES ALONE that no register has and that only such names hold.
use Rattle.std.proofs.Common.{◌≡◌, ◌≤◌, List, refl, sym, ◌∙◌, ap, subst, arith}
use Rattle.cc_lists.specs.Members.{Among}
use Rattle.cc_names.specs.declared.name.Name.{Name}
use Rattle.cc_names.specs.Names.{native}
use Rattle.cc_model.specs.Heap.{Heap, HeapNative}
use Rattle.cc_model.specs.View.{View, view}
use Rattle.cc_laws_heap.proofs.Leaving.{IsOf}
use Rattle.cc_laws_run.proofs.TouchedViews.{Spares, Spares-entries}
use Rattle.cc_laws_run.proofs.TouchedReads.{IsApart}

-- what spares members, and then what spares them again
Spares-trans : (ds : List Name) (u v w : View) → Spares ds u v → Spares ds v w → Spares ds u w
Spares-trans ds u v w a b = record {
  natives = λ i m l. b.natives i m (a.natives i m l);
  scripts = λ x m l. b.scripts x m (a.scripts x m l);
  registers = λ x m r. a.registers x m (b.registers x m r);
  buffer = λ x m r. a.buffer x m (b.buffer x m r);
  black = λ x m r. a.black x m (b.black x m r);
  edges = λ x y m e. a.edges x y m (b.edges x y m e);
  joints = λ e m i. a.joints e m (b.joints e m i);
  within = λ x y m n e. b.within x y m n (a.within x y m n e);
  kept = λ e m i. b.kept e m (a.kept e m i);
}

-- The second heaps leave the names alone that the first have: they spare them, give out no number of them,
-- and a native of them that is there is as it was, but for its count.
pub record Leaves (ds : List Name) (g h : Heap) : Type 0 where
  pub apart : IsApart ds h
  pub spares : Spares ds (view g) (view h)
  pub natives_made : g.natives_made ≤ h.natives_made
  pub scripts_made : g.scripts_made ≤ h.scripts_made
  pub members : (n : HeapNative) → Among n h.natives → Among (native n.number) ds → IsOf g n

-- heaps leave them alone, themselves
pub leaves-refl : (ds : List Name) (h : Heap) → IsApart ds h → Leaves ds h h
leaves-refl ds h d = record {
  apart = d;
  spares = Spares-entries ds h h.entries (λ e m i. i) (λ e m i. i);
  natives_made = omega arith;
  scripts_made = omega arith;
  members = λ n there m. (n, there, refl);
}

module _ (ds : List Name) (g : Heap) where
  -- one change more
  pub leaves-on : (h k : Heap) → h.natives_made ≤ k.natives_made → h.scripts_made ≤ k.scripts_made →
      ((n : HeapNative) → Among n k.natives → Among (native n.number) ds → IsOf h n) → Spares ds (view h) (view k) → Leaves ds g h → Leaves ds g k
  leaves-on h k a b of p l = record {
    apart = record {
      unregistered = λ x m r. l.apart.unregistered x m (p.registers x m r);
      holder = λ x y e m. l.apart.holder x y (p.edges x y m e) m;
      joint = λ e i m. l.apart.joint e (p.joints e m i) m;
    };
    spares = Spares-trans ds (view g) (view h) (view k) l.spares p;
    natives_made = omega (arith, l.natives_made, a);
    scripts_made = omega (arith, l.scripts_made, b);
    members = λ n there m.
        let i = of n there m in
        let j = l.members i.0 i.1 (subst (λ c. Among (native c) ds) (sym (ap (λ (u : HeapNative). u.number) i.2)) m) in
        (j.0, j.1, j.2 ∙ i.2);
  }

  -- one that leaves natives as they were
  pub leaves-still : (h k : Heap) → h.natives_made ≤ k.natives_made → h.scripts_made ≤ k.scripts_made → k.natives ≡ h.natives →
      Spares ds (view h) (view k) → Leaves ds g h → Leaves ds g k
  leaves-still h k a b same = leaves-on h k a b (λ n there m. (n, subst (λ ns. Among n ns) same there, refl))
