-- WHEN A CHANGE OF NATIVES AND OF THE BUFFER IS GENTLE.
use Rattle.std.proofs.Common.{◌≡◌, ℕ, ◌<◌, ◌≤◌, true, List, ◌++◌, map, refl, sym, ◌∙◌, ap, subst, inl, inr, ◌⊎◌, ⊎_elim, arith, count_by}
use Rattle.std.specs.List.{flat_map}
use Rattle.std.proofs.lemmas.Bool.{eqb-true}
use Rattle.std.proofs.lemmas.List.Folds.{flat_map-map}
use Rattle.cc_lists.specs.Members.{Among}
use Rattle.cc_lists.proofs.Members.{Among-map, Among-map_cases, Among-left, Among-right, Among-append, Among-flat_map, Among-flat_map_cases}
use Rattle.cc_lists.proofs.Counting.{count_by-append}
use Rattle.cc_names.specs.declared.name.Name.{Name}
use Rattle.cc_names.specs.Names.{native, number_of}
use Rattle.cc_model.specs.Heap.{Heap, HeapNative, Buffered}
use Rattle.cc_model.specs.View.{view, between, counted, native_edges, script_edges}
use Rattle.cc_model.specs.WellFormed.{native_names}
use Rattle.cc_lists.proofs.ListWrites.{changed_where-either, each-map}
use Rattle.cc_laws_heap.proofs.Natives.{KeepsNumber, changed_at, changed_at-number}
use Rattle.cc_laws_heap.specs.Balance.{has_number}
use Rattle.cc_lists.proofs.CountsOf.{count_by-flat_map_same}
use Rattle.cc_laws_snapshot.proofs.SoundView.{living-named, living-native}
use Rattle.cc_laws_snapshot.proofs.Marked.{names_in}
use Rattle.cc_laws_snapshot.proofs.GentleBut.{AreGentleBut}

-- the heaps with other natives and another buffer, once so many natives were made
abbrev pub with_those : Heap → List HeapNative → List Buffered → ℕ → Heap
with_those h ns bs made = record h { natives = ns; buffer = bs; natives_made = made }

-- a native is not in a buffer, nor one of those that are loose
abbrev pub IsOut : List Name → List Buffered → ℕ → Type 0
IsOut loose bs k = (¬ (Among (native k) (names_in bs))) × (¬ (Among (native k) loose))

-- natives that are out were so before, with the same count, and are held as often; no gray object is held that was not
pub record ChangesGently (loose : List Name) (h : Heap) (ns : List HeapNative) (bs : List Buffered) (made : ℕ) : Type 0 where
  pub more : h.natives_made ≤ made
  pub outside : (n : HeapNative) → Among n ns → IsOut loose bs n.number →
      (m : HeapNative) × Among m h.natives × (counted m ≡ counted n) × (¬ (Among (native n.number) (names_in h.buffer)))
  pub as_often : (n : HeapNative) (w : Name) → Among n ns → IsOut loose bs n.number →
      count_by (between w (native n.number)) (flat_map native_edges ns) ≡ count_by (between w (native n.number)) (flat_map native_edges h.natives)
  pub gray_edge : (e : Name × Name) → Among e (flat_map native_edges ns) → Among e.1 (view h).gray → Among e (flat_map native_edges h.natives)
  pub lives : (n : HeapNative) → Among n ns → Among (native n.number) (native_names h) ⊎ (h.natives_made < n.number)

-- Such a change is gentle.
pub AreGentleBut-natives : (loose : List Name) (h : Heap) (ns : List HeapNative) (bs : List Buffered) (made : ℕ) → ChangesGently loose h ns bs made →
    AreGentleBut loose h (with_those h ns bs made)
AreGentleBut-natives loose h ns bs made g = record {
  made_more = g.more;
  outside = λ u c m o l. each-map
      (λ (p : Name × ℕ). ¬ (Among p.0 (names_in bs)) → ¬ (Among p.0 loose) → Among p (view h).natives × (¬ (Among p.0 (names_in h.buffer))))
      counted ns
      (λ n i o l. let k = g.outside n i (o, l) in (subst (λ p. Among p (view h).natives) k.2 (Among-map counted k.0 h.natives k.1), k.3))
      (u, c) m o l;
  as_often = λ u w c m o l. each-map
      (λ (p : Name × ℕ). ¬ (Among p.0 (names_in bs)) → ¬ (Among p.0 loose) →
      count_by (between w p.0) (flat_map native_edges ns ++ scripts) ≡ count_by (between w p.0) (flat_map native_edges h.natives ++ scripts))
      counted ns
      (λ n i o l. omega (
        arith,
        g.as_often n w i (o, l),
        count_by-append (between w (native n.number)) (flat_map native_edges ns) scripts,
        count_by-append (between w (native n.number)) (flat_map native_edges h.natives) scripts,
      ))
      (u, c) m o l;
  gray_edge = λ x y m c. (
    ⊎_elim
        (λ l. Among-left (x, y) (flat_map native_edges h.natives) scripts (g.gray_edge (x, y) l c))
        (λ r. Among-right (x, y) (flat_map native_edges h.natives) scripts r)
        (Among-append (x, y) (flat_map native_edges ns) scripts m),
    c,
  );
  gray_joint = λ e m c. (m, c);
  black_stays = λ x m. m;
  scripts_stay = λ x m. m;
  lives = λ i c m.
      let f = living-native (with_those h ns bs made) (native i) c m in
      let number : f.0.number ≡ i = ap number_of f.2 in
      ⊎_elim
      (λ l. inl (living-named h i (subst (λ j. Among (native j) (native_names h)) number l)))
      (λ r. inr (omega (arith, r, number)))
      (g.lives f.0 f.1);
}
  where
    scripts : List (Name × Name)
    scripts = flat_map script_edges h.scripts

-- Each native changed

-- each native keeps its number, and where it is out its count; natives that are out are held as often by each
pub record ChangesEach (loose : List Name) (h : Heap) (f : HeapNative → HeapNative) (bs : List Buffered) : Type 0 where
  pub number : KeepsNumber f
  pub buffer : (x : Name) → Among x (names_in h.buffer) → Among x (names_in bs)
  pub count : (n : HeapNative) → Among n h.natives → IsOut loose bs n.number → (f n).count ≡ n.count
  pub as_often : (n : HeapNative) (w : Name) (k : ℕ) → Among n h.natives → IsOut loose bs k →
      count_by (between w (native k)) (native_edges (f n)) ≡ count_by (between w (native k)) (native_edges n)
  pub gray_edge : (n : HeapNative) (e : Name × Name) → Among n h.natives → Among e (native_edges (f n)) → Among e.1 (view h).gray → Among e (native_edges n)

-- a native and its count
abbrev pair_of : Name → ℕ → Name × ℕ
pair_of u c = (u, c)

-- natives of one number and one count are counted alike
counted-same : (n m : HeapNative) → n.number ≡ m.number → n.count ≡ m.count → counted n ≡ counted m
counted-same n m e c = ap (λ j. pair_of (native j) n.count) e ∙ ap (λ j. pair_of (native m.number) j) c

-- Natives so changed change gently.
ChangesGently-each : (loose : List Name) (h : Heap) (f : HeapNative → HeapNative) (bs : List Buffered) → ChangesEach loose h f bs →
    ChangesGently loose h (map f h.natives) bs h.natives_made
ChangesGently-each loose h f bs c = record {
  more = omega arith;
  outside = each-map
      (λ n. IsOut loose bs n.number → (m : HeapNative) × Among m h.natives × (counted m ≡ counted n) × (¬ (Among (native n.number) (names_in h.buffer))))
      f h.natives
      (λ m i o. let out : IsOut loose bs m.number = subst (IsOut loose bs) (c.number m) o in (
        m,
        i,
        counted-same m (f m) (sym (c.number m)) (sym (c.count m i out)),
        λ b. o.0 (c.buffer (native (f m).number) b),
      ));
  as_often = λ n w i o.
      let test = between w (native n.number) in
      ap (count_by test) (flat_map-map native_edges f h.natives)
      ∙ count_by-flat_map_same test (λ m. native_edges (f m)) test native_edges h.natives (λ m j. c.as_often m w n.number j o);
  gray_edge = λ e i y.
      let n = Among-flat_map_cases native_edges (map f h.natives) e i in
      let m = Among-map_cases f h.natives n.0 n.1 in
      Among-flat_map native_edges m.0 e h.natives m.1
      (c.gray_edge m.0 e m.1 (subst (λ (o : HeapNative). Among e (native_edges o)) (sym m.2) n.2) y);
  lives = each-map (λ n. Among (native n.number) (native_names h) ⊎ (h.natives_made < n.number)) f h.natives
      (λ m i. inl (subst (λ j. Among (native j) (native_names h)) (sym (c.number m)) (Among-map (λ (n : HeapNative). native n.number) m h.natives i)));
}

-- the same of the heaps
AreGentleBut-each : (loose : List Name) (h : Heap) (f : HeapNative → HeapNative) (bs : List Buffered) → ChangesEach loose h f bs →
    AreGentleBut loose h (with_those h (map f h.natives) bs h.natives_made)
AreGentleBut-each loose h f bs c = AreGentleBut-natives loose h (map f h.natives) bs h.natives_made (ChangesGently-each loose h f bs c)

-- One native changed

-- one native keeps its number, and its count where it is out; natives that are out are held by it as often
pub record ChangesOne (loose : List Name) (h : Heap) (k : ℕ) (f : HeapNative → HeapNative) (bs : List Buffered) : Type 0 where
  pub number : KeepsNumber f
  pub buffer : (x : Name) → Among x (names_in h.buffer) → Among x (names_in bs)
  pub count : (n : HeapNative) → IsOut loose bs k → (f n).count ≡ n.count
  pub as_often : (n : HeapNative) (w : Name) (j : ℕ) → Among n h.natives → has_number k n ≡ true → IsOut loose bs j →
      count_by (between w (native j)) (native_edges (f n)) ≡ count_by (between w (native j)) (native_edges n)
  pub gray_edge : (n : HeapNative) (e : Name × Name) → has_number k n ≡ true → Among e (native_edges (f n)) → Among e.1 (view h).gray → Among e (native_edges n)

-- One native so changed changes gently.
pub AreGentleBut-one : (loose : List Name) (h : Heap) (k : ℕ) (f : HeapNative → HeapNative) (bs : List Buffered) → ChangesOne loose h k f bs →
    AreGentleBut loose h (with_those h (map (changed_at k f) h.natives) bs h.natives_made)
AreGentleBut-one loose h k f bs c = AreGentleBut-each loose h (changed_at k f) bs (record {
  number = changed_at-number k f c.number;
  buffer = c.buffer;
  count = λ n m o. changed_where-either (λ p. p.count ≡ n.count) (has_number k) f n (λ e. c.count n (subst (IsOut loose bs) (eqb-true n.number k e) o)) refl;
  as_often = λ n w j m o. changed_where-either (λ p. count_by (between w (native j)) (native_edges p) ≡ count_by (between w (native j)) (native_edges n))
      (has_number k) f n (λ e. c.as_often n w j m e o) refl;
  gray_edge = λ n e m i g. changed_where-either (λ p. Among e (native_edges p) → Among e (native_edges n)) (has_number k) f n (λ s t. c.gray_edge n e s t g) (λ t. t) i;
})
