-- NATIVES LOSE REFERENCES FROM STAGE TO STAGE: whoever loses one is purple afterwards, or gone, or waits, or a reference to him is in hand.
use Rattle.std.proofs.Common.{◌≡◌, ℕ, List, [], subst, sym, inl, inr, ◌⊎◌, ⊎_elim}
use Rattle.cc_lists.specs.Members.{Among}
use Rattle.cc_lists.proofs.Members.{Among-map_cases}
use Rattle.cc_names.specs.declared.name.Name.{Name}
use Rattle.cc_names.specs.Names.{native}
use Rattle.cc_model.specs.Heap.{Heap}
use Rattle.cc_model.specs.View.{View, view, buffered}
use Rattle.cc_model.specs.WellFormed.{IsWellFormed}
use Rattle.cc_model.specs.Fresh.{IsLiving}
use Rattle.cc_laws_heap.specs.Stages.{Stage, stage}
use Rattle.cc_laws_snapshot.proofs.SoundView.{living-named}
use Rattle.cc_laws_snapshot.specs.Losing.{PurpleOrGone, Loses}

-- who lost a reference
abbrev pub IsLost : Stage → ℕ → Type 0
IsLost s i = PurpleOrGone (view s.heap) i ⊎ (Among i s.queue ⊎ Among i s.hand)

-- natives lose references, and none that has lost one is forgotten
pub record LosesTo (s t : Stage) : Type 0 where
  pub lost : (i : ℕ) → IsLost s i → IsLost t i
  pub edge : (x : Name) (i : ℕ) → Among (x, native i) (view s.heap).edges → Among (x, native i) (view t.heap).edges ⊎ IsLost t i
  pub register : (i : ℕ) → Among (native i) (view s.heap).registers → Among (native i) (view t.heap).registers ⊎ IsLost t i
  pub buffer : (i : ℕ) → Among (native i) (view t.heap).buffer → Among (native i) (view s.heap).buffer ⊎ IsLost t i
  pub living : (x : Name) → IsLiving (view t.heap) x → IsLiving (view s.heap) x

-- nothing is lost where nothing is done
pub LosesTo-refl : (s : Stage) → LosesTo s s
LosesTo-refl s = record { lost = λ i p. p; edge = λ x i m. inl m; register = λ i m. inl m; buffer = λ i m. inl m; living = λ x l. l }

-- what loses, and then loses more, loses
pub LosesTo-trans : (s t u : Stage) → LosesTo s t → LosesTo t u → LosesTo s u
LosesTo-trans s t u a b = record {
  lost = λ i p. b.lost i (a.lost i p);
  edge = λ x i m. ⊎_elim (λ e. b.edge x i e) (λ p. inr (b.lost i p)) (a.edge x i m);
  register = λ i m. ⊎_elim (λ e. b.register i e) (λ p. inr (b.lost i p)) (a.register i m);
  buffer = λ i m. ⊎_elim (λ e. ⊎_elim (λ f. inl f) (λ p. inr (b.lost i p)) (a.buffer i e)) (λ p. inr p) (b.buffer i m);
  living = λ x l. a.living x (b.living x l);
}

-- Nothing in hand any more

-- what stands in the buffer is a native that is there
abbrev pub HasLivingBuffer : View → Type 0
HasLivingBuffer v = (x : Name) → Among x v.buffer → (i : ℕ) × (x ≡ native i) × IsLiving v (native i)

-- so it is in well formed heaps
pub HasLivingBuffer-view : (h : Heap) → IsWellFormed h → HasLivingBuffer (view h)
HasLivingBuffer-view h w x m =
    let f = Among-map_cases buffered h.buffer x m in
    (f.0.number, sym f.2, living-named h f.0.number (w.buffered f.0 f.1))

-- who lost a reference is purple or gone
pub lost-settled : (g : Heap) (i : ℕ) → IsLost (stage [] [] g) i → PurpleOrGone (view g) i
lost-settled g i p = ⊎_elim (λ q. q) (λ q. ⊎_elim (λ w. absurd w) (λ m. absurd m) q) p

-- THEN THE HEAPS HAVE ONLY LOST REFERENCES.
pub LosesTo-loses : (hand : List ℕ) (h g : Heap) → IsWellFormed g → LosesTo (stage hand [] h) (stage [] [] g) → Loses (view h) (view g)
LosesTo-loses hand h g w l = record {
  edge = λ x i m. ⊎_elim (λ t. inl t) (λ p. inr (lost-settled g i p)) (l.edge x i m);
  register = λ i m. ⊎_elim (λ t. inl t) (λ p. inr (lost-settled g i p)) (l.register i m);
  purple = λ i m. lost-settled g i (l.lost i (inl (inl m)));
  buffer = λ x m.
      let f = HasLivingBuffer-view g w x m in
      ⊎_elim
      (λ t. inl (subst (λ y. Among y (view h).buffer) (sym f.1) t))
      (λ p. inr (subst (λ y. Among y (view g).purple) (sym f.1) (⊎_elim (λ q. q) (λ gone. absurd (gone f.2)) (lost-settled g f.0 p))))
      (l.buffer f.0 (subst (λ y. Among y (view g).buffer) f.1 m));
  living = l.living;
}
