-- NAMES THAT ARE SPENT STAY SO where they are left alone, and where something is taken away.
use Rattle.std.proofs.Common.{◌≡◌, ◌≤◌, true, List, refl, sym, ◌∙◌, ap, subst, arith}
use Rattle.cc_lists.specs.Members.{Among}
use Rattle.cc_names.specs.declared.name.Name.{Name}
use Rattle.cc_names.specs.Names.{native}
use Rattle.cc_model.specs.Entries.{Joint, joints}
use Rattle.cc_model.specs.Heap.{Heap, HeapNative, Buffered}
use Rattle.cc_model.specs.View.{view}
use Rattle.cc_model.specs.WellFormed.{IsWellFormed}
use Rattle.cc_laws_run.specs.Spent.{IsSpent}
use Rattle.cc_laws_heap.proofs.Leaving.{IsOf}
use Rattle.cc_laws_run.proofs.TouchedSteps.{Leaves}
use Rattle.cc_laws_snapshot.proofs.ReachedStays.{native_edges-alike, native-edge_of, native-edge}

-- What is spent stays so where it is left alone.
pub spent-left : (ds : List Name) (h k : Heap) → IsWellFormed k → Leaves ds h k → IsSpent h ds → IsSpent k ds
spent-left ds h k w l d = record {
  natives_made = λ i m. omega (arith, l.natives_made, d.natives_made i m);
  scripts_made = λ i m. omega (arith, l.scripts_made, d.scripts_made i m);
  unregistered = l.apart.unregistered;
  holder = l.apart.holder;
  joint = l.apart.joint;
  empty = λ i y m e.
      let f = native-edge_of k i y w e in
      let p = l.members f.0 f.1 (subst (λ z. Among z ds) (sym f.2) m) in
      d.empty i y m (native-edge h p.0 (native i) y p.1 (subst (λ es. Among (native i, y) es) (sym (native_edges-alike p.0 f.0 p.2)) f.3));
  unlinked = λ n there m.
      let p = l.members n there m in
      sym (ap (λ (u : HeapNative). u.unlinked) p.2) ∙ d.unlinked p.0 p.1 (subst (λ j. Among (native j) ds) (sym (ap (λ (u : HeapNative). u.number) p.2)) m);
}

-- Heaps with less

-- a native was in these heaps, and if it was unlinked there, it is
abbrev pub WasIn : Heap → HeapNative → Type 0
WasIn h n = (p : HeapNative) × Among p h.natives × (p.number ≡ n.number) × (p.unlinked ≡ true → n.unlinked ≡ true)

-- a native that is as it was, but for its count, was in these heaps, and is unlinked if it was
pub WasIn-alike : (h : Heap) (n : HeapNative) → IsOf h n → WasIn h n
WasIn-alike h n p = (p.0, p.1, ap (λ (u : HeapNative). u.number) p.2, λ e. sym (ap (λ (u : HeapNative). u.unlinked) p.2) ∙ e)

-- the second heaps have nothing that the first don't have, counts, colours, the buffer and unlinked natives aside
pub record IsLess (h k : Heap) : Type 0 where
  pub natives_made : h.natives_made ≤ k.natives_made
  pub scripts_made : h.scripts_made ≤ k.scripts_made
  pub registers : (x : Name) → Among x (view k).registers → Among x (view h).registers
  pub edges : (x y : Name) → Among (x, y) (view k).edges → Among (x, y) (view h).edges
  pub joints : (j : Joint) → Among j (joints k.entries) → Among j (joints h.entries)
  pub unlinked : (n : HeapNative) → Among n k.natives → WasIn h n

-- less than less is less
pub IsLess-trans : (h g k : Heap) → IsLess h g → IsLess g k → IsLess h k
IsLess-trans h g k a b = record {
  natives_made = omega (arith, a.natives_made, b.natives_made);
  scripts_made = omega (arith, a.scripts_made, b.scripts_made);
  registers = λ x m. a.registers x (b.registers x m);
  edges = λ x y m. a.edges x y (b.edges x y m);
  joints = λ j m. a.joints j (b.joints j m);
  unlinked = λ n m.
      let p = b.unlinked n m in
      let q = a.unlinked p.0 p.1 in
      (q.0, q.1, q.2 ∙ p.2, λ e. p.3 (q.3 e));
}

-- WHAT IS SPENT STAYS SO WHERE SOMETHING IS TAKEN AWAY.
pub spent-less : (ds : List Name) (h k : Heap) → IsLess h k → IsSpent h ds → IsSpent k ds
spent-less ds h k l d = record {
  natives_made = λ i m. omega (arith, l.natives_made, d.natives_made i m);
  scripts_made = λ i m. omega (arith, l.scripts_made, d.scripts_made i m);
  unregistered = λ x m r. d.unregistered x m (l.registers x r);
  holder = λ x y e m. d.holder x y (l.edges x y e) m;
  joint = λ e i m. d.joint e (l.joints e i) m;
  empty = λ i y m e. d.empty i y m (l.edges (native i) y e);
  unlinked = λ n there m. let p = l.unlinked n there in p.3 (d.unlinked p.0 p.1 (subst (λ j. Among (native j) ds) (sym p.2) m));
}

-- another buffer
pub IsLess-buffer : (h : Heap) (bs : List Buffered) → IsLess h (record h { buffer = bs })
IsLess-buffer h bs = record { natives_made = omega arith; scripts_made = omega arith; registers = λ x m. m; edges = λ x y m. m; joints = λ j m. m; unlinked = λ n m. (n, m, refl, λ e. e) }

-- heaps have no more than themselves
pub IsLess-refl : (h : Heap) → IsLess h h
IsLess-refl h = IsLess-buffer h h.buffer
