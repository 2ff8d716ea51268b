-- A CASCADE ONLY LOSES REFERENCES: so does each kind of change of which it consists.
use Rattle.std.proofs.Common.{arith, ◌≡◌, ℕ, true, false, not, List, [], ◌∷◌, ◌++◌, Some, None, refl, sym, ◌∙◌, ap, subst, inl, inr, ◌⊎◌, ⊎_elim}
use Rattle.std.specs.List.{flat_map}
use Rattle.std.proofs.lemmas.Bool.{eqb-true, eq-eqb, not-true, cases_Bool}
use Rattle.std.proofs.lemmas.Bool.Decides.{eqb_tells}
use Rattle.cc_lists.specs.Members.{Among}
use Rattle.cc_lists.proofs.Members.{Among-map, Among-map_cases, Among-left, Among-right, Among-append, Among-filter, Among-filtered, Among-passes, Among-flat_map, Among-flat_map_cases}
use Rattle.cc_names.specs.declared.name.Name.{Name}
use Rattle.cc_names.specs.Names.{native, natives_in, number_of, is_script}
use Rattle.cc_model.specs.declared.item.Event.{Event}
use Rattle.cc_model.specs.Slots.{contents}
use Rattle.cc_model.specs.Heap.{Heap, HeapNative, native_at, suspect, forget}
use Rattle.cc_model.specs.View.{view, native_edges, script_edges}
use Rattle.cc_model.specs.Cascade.{lower, removed, natives_of_slots, cascade}
use Rattle.cc_model.specs.Fresh.{IsLiving}
use Rattle.cc_laws_heap.specs.Sound.{IsSound}
use Rattle.cc_laws_heap.specs.Stages.{Stage, stage}
use Rattle.cc_laws_heap.proofs.Folding.{IsKept}
use Rattle.cc_laws_heap.proofs.Giving.{cascade-keeps}
use Rattle.cc_laws_heap.proofs.Cascades.{IsBalanced-at_rest, cascade-sound}
use Rattle.cc_laws_heap.proofs.Natives.{named-found, native_at-member, uncounted-change}
use Rattle.cc_laws_heap.proofs.Beside.{SameBeside-change_native}
use Rattle.cc_laws_heap.proofs.GiveUp.{lower_native}
use Rattle.cc_laws_heap.specs.Balance.{has_number, HasDistinctNumbers}
use Rattle.cc_laws_heap.proofs.HoldsTheSame.{HoldsTheSame, native_names-alike}
use Rattle.cc_laws_snapshot.proofs.NamePairs.{native-no_script}
use Rattle.cc_laws_heap.proofs.ViewEdges.{native_edges-are}
use Rattle.cc_laws_snapshot.specs.Losing.{PurpleOrGone, Loses}
use Rattle.cc_laws_snapshot.proofs.BufferMarks.{IsPurple, suspect-purple, suspect-keeps_purple, marked-buffer, forget-keeps_purple, forget-buffer}
use Rattle.cc_laws_snapshot.proofs.NamesAndEdges.{living-same, named-of_living, living-of_named, edges-alike}
use Rattle.cc_laws_snapshot.proofs.LosesTo.{LosesTo, LosesTo-refl, LosesTo-trans, lost-settled, LosesTo-loses}

-- One reference given up

-- a count that falls leaves names and edges
pub lower-alike : (h : Heap) (k : ℕ) → HoldsTheSame h (lower h k)
lower-alike h k = record { beside = SameBeside-change_native h k lower_native; natives = uncounted-change h k lower_native (λ n. refl) }

-- who lives after a count fell lived before
pub lower-living : (h : Heap) (k : ℕ) (x : Name) → IsLiving (view (lower h k)) x → IsLiving (view h) x
lower-living h k x l = living-same h (lower h k) (native_names-alike h (lower h k) (lower-alike h k)) x l

-- The front of the queue

-- who lives where a native was taken out lived before, and is another
pub removed-living : (h : Heap) (k : ℕ) (x : Name) → IsLiving (view (removed h k)) x → IsLiving (view h) x × (¬ (native k ≡ x))
removed-living h k x l = grind (arith, Among-map_cases, named-of_living, Among-filtered, Among-passes, living-of_named, Among-map, eq-eqb, not-true)

-- an edge to a native stays where natives of a number are taken out, or leads to what such a native held
pub removed-edge : (h : Heap) (k : ℕ) (x : Name) (i : ℕ) → Among (x, native i) (view h).edges →
    Among (x, native i) (view (removed h k)).edges ⊎ ((n : HeapNative) × Among n h.natives × (n.number ≡ k) × Among (native i) (contents n.slots))
removed-edge h k x i m = ⊎_elim
    (λ l. let f = Among-flat_map_cases native_edges h.natives (x, native i) l in ⊎_elim (taken f.0 f.1 f.2) (stays f.0 f.1 f.2) (cases_Bool (has_number k f.0)))
    (λ r. inl (Among-right (x, native i) (flat_map native_edges (removed h k).natives) (flat_map script_edges h.scripts) r))
    (Among-append (x, native i) (flat_map native_edges h.natives) (flat_map script_edges h.scripts) m)
  where
    Either : Type 0
    Either = Among (x, native i) (view (removed h k)).edges ⊎ ((n : HeapNative) × Among n h.natives × (n.number ≡ k) × Among (native i) (contents n.slots))

    stays : (o : HeapNative) → Among o h.natives → Among (x, native i) (native_edges o) → has_number k o ≡ false → Either
    stays o there j t = inl (Among-left (x, native i) (flat_map native_edges (removed h k).natives) (flat_map script_edges h.scripts)
        (Among-flat_map native_edges o (x, native i) (removed h k).natives
        (Among-filter (λ n. not (has_number k n)) o h.natives there (ap not t)) j))

    taken : (o : HeapNative) → Among o h.natives → Among (x, native i) (native_edges o) → has_number k o ≡ true → Either
    taken o there j t =
        let has = native_edges-are o x (native i) j in
        ⊎_elim
        (λ s. inr (o, there, eqb-true o.number k t, s))
        (λ p. absurd (native-no_script (native i) refl (subst (λ z. is_script z ≡ true) p.1 refl)))
        has.1

-- what a native held that is found at the number
pub held-found : (h : Heap) (k i : ℕ) (n : HeapNative) → HasDistinctNumbers h → native_at h k ≡ Some n →
    (o : HeapNative) × Among o h.natives × (o.number ≡ k) × Among (native i) (contents o.slots) → Among i (natives_of_slots (Some n))
held-found h k i n d e o =
    let found : Some o.0 ≡ Some n = sym (native_at-member h d o.0 o.1) ∙ (ap (native_at h) o.2 ∙ e) in
    let same : o.0 ≡ n = cc in
    Among-flat_map natives_in (native i) i (contents n.slots) (subst (λ z. Among (native i) (contents z.slots)) same o.3) (inl refl)

-- The kinds of change

-- a count that falls leaves the edges
lower-edges : (h : Heap) (k : ℕ) (x : Name) (i : ℕ) → Among (x, native i) (view h).edges → Among (x, native i) (view (lower h k)).edges
lower-edges h k x i m = subst (λ es. Among (x, native i) es) (sym (edges-alike h (lower h k) (lower-alike h k))) m

-- given up, and others are left
pub suspected-loses : (hand queue : List ℕ) (h : Heap) (k : ℕ) → LosesTo (stage (k ∷ hand) queue h) (stage hand queue (suspect (lower h k) k))
suspected-loses hand queue h k = record {
  lost = λ i p. ⊎_elim
      (λ q. inl (⊎_elim (λ a. inl (suspect-keeps_purple h k i a)) (λ g. inr (λ a. g (lower-living h k (native i) a))) q))
      (λ q. ⊎_elim (λ w. inr (inl w)) (λ m. ⊎_elim (λ e. inl (marked i e)) (λ t. inr (inr t)) m) q) p;
  edge = λ x i m. inl (lower-edges h k x i m);
  register = λ i m. inl m;
  buffer = λ i m. ⊎_elim (λ e. inr (inl (marked i (ap number_of e)))) (λ t. inl t) (marked-buffer h true k (native i) m);
  living = lower-living h k;
}
  where
    marked : (i : ℕ) → k ≡ i → PurpleOrGone (view (suspect (lower h k) k)) i
    marked i e = inl (subst (λ j. IsPurple (suspect h k) j) e (suspect-purple h k))

-- the last one given up
pub waits-loses : (hand queue : List ℕ) (h : Heap) (k : ℕ) → LosesTo (stage (k ∷ hand) queue h) (stage hand (queue ++ k ∷ []) (forget (lower h k) k))
waits-loses hand queue h k = record {
  lost = λ i p. ⊎_elim
      (λ q. ⊎_elim (λ a. ⊎_elim (λ t. inr (inl (last i (sym t.1)))) (λ t. inl (inl (forget-keeps_purple h k i t.1 a))) (eqb_tells i k))
      (λ g. inl (inr (λ a. g (lower-living h k (native i) a)))) q)
      (λ q. ⊎_elim (λ w. inr (inl (Among-left i queue (k ∷ []) w))) (λ m. ⊎_elim (λ e. inr (inl (last i e))) (λ t. inr (inr t)) m) q) p;
  edge = λ x i m. inl (lower-edges h k x i m);
  register = λ i m. inl m;
  buffer = λ i m. inl (forget-buffer h k (native i) m).3;
  living = lower-living h k;
}
  where
    last : (i : ℕ) → k ≡ i → Among i (queue ++ k ∷ [])
    last i e = Among-right i queue (k ∷ []) (inl e)

-- the last one given up where there is no such native
pub none-loses : (hand queue : List ℕ) (h : Heap) (k : ℕ) → native_at h k ≡ None → LosesTo (stage (k ∷ hand) queue h) (stage hand queue h)
none-loses hand queue h k e = record {
  lost = λ i p. ⊎_elim (λ q. inl q)
      (λ q. ⊎_elim (λ w. inr (inl w)) (λ m. ⊎_elim (λ s. inl (inr (subst (λ j. ¬ (IsLiving (view h) (native j))) s gone))) (λ t. inr (inr t)) m) q) p;
  edge = λ x i m. inl m;
  register = λ i m. inl m;
  buffer = λ i m. inl m;
  living = λ x l. l;
}
  where
    gone : ¬ (IsLiving (view h) (native k))
    gone l =
        let found = named-found h k (named-of_living h (native k) l) in
        let both : Some found.0 ≡ None = sym found.1 ∙ e in
        absurd (cc)

-- the first that waits taken out: what it held is in hand
pub removed-loses : (early late js ks : List ℕ) (h : Heap) (k : ℕ) →
    ((n : HeapNative) → Among n h.natives → n.number ≡ k → (j : ℕ) → Among (native j) (contents n.slots) → Among j js) →
    ((j : ℕ) → Among j js → Among j late) → ((j : ℕ) → Among j early → Among j late) → LosesTo (stage early (k ∷ ks) h) (stage late ks (removed h k))
removed-loses early late js ks h k holds held stays = record {
  lost = λ i p. ⊎_elim
      (λ q. inl (⊎_elim (λ a. inl a) (λ g. inr (λ a. g (removed-living h k (native i) a).0)) q))
      (λ q. ⊎_elim
      (λ w. ⊎_elim (λ s. inl (inr (λ a. (removed-living h k (native i) a).1 (ap native s)))) (λ t. inr (inl t)) w)
      (λ m. inr (inr (stays i m))) q) p;
  edge = λ x i m. ⊎_elim (λ t. inl t) (λ o. inr (inr (inr (held i (holds o.0 o.1 o.2 i o.3))))) (removed-edge h k x i m);
  register = λ i m. inl m;
  buffer = λ i m. inl m;
  living = λ x l. (removed-living h k x l).0;
}

-- natives lose references
abbrev pub LosesIn : Stage → List Event → Stage → Type 0
LosesIn s es t = LosesTo s t

-- WHAT A CASCADE DOES ONLY LOSES, kind by kind.
pub losing-kept : IsKept LosesIn
losing-kept = record {
  nothing = LosesTo-refl;
  followed = λ s t u xs ys a b. LosesTo-trans s t u a b;
  suspected = λ hand queue h k n e c. suspected-loses hand queue h k;
  waits = λ hand queue h k n e c. waits-loses hand queue h k;
  freed = λ hand ks h k n e d r.
      let held : List ℕ = natives_of_slots (Some n) in
      removed-loses hand (held ++ hand) held ks h k (λ o m q j i. held-found h k j n d e (o, m, q, i))
      (λ j i. Among-left j held hand i) (λ j i. Among-right j held hand i);
}

-- A CASCADE ONLY LOSES REFERENCES, and the native whose reference was given up is purple afterwards, or gone.
pub cascade-loses : (owned : List ℕ) (h : Heap) (j : ℕ) → IsSound (j ∷ owned) h →
    Loses (view h) (view (cascade h j).heap) × PurpleOrGone (view (cascade h j).heap) j
cascade-loses owned h j s =
    let end : Heap = (cascade h j).heap in
    let l : LosesTo (stage (j ∷ []) [] h) (stage [] [] end) = cascade-keeps LosesIn losing-kept [] owned h j (IsBalanced-at_rest (j ∷ owned) h s) in
    (LosesTo-loses (j ∷ []) h end (cascade-sound owned h j s).well_formed l, lost-settled end j (l.lost j (inr (inr (inl refl)))))
