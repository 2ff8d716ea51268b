-- WHAT IS DOOMED IS WHITE: at the end of a collection, names that only such names hold or noted are white.
use Rattle.std.proofs.Common.{◌≡◌, ℕ, ◌<◌, List, [], ◌++◌, Option, Some, refl, sym, subst, inl, inr, arith, ⊎_elim, count_by}
use Rattle.std.specs.Option.{option_to_list}
use Rattle.cc_lists.specs.Members.{Among}
use Rattle.cc_lists.proofs.Members.{Among-left, Among-right}
use Rattle.cc_lists.proofs.Counting.{count_by-some, counted_is}
use Rattle.cc_lists.proofs.Least.{derived-within}
use Rattle.cc_names.specs.declared.name.Name.{Name}
use Rattle.cc_names.specs.declared.name.Name.TheVariants as name
use Rattle.cc_names.specs.Names.{native}
use Rattle.cc_model.specs.Heap.{Heap}
use Rattle.cc_model.specs.View.{View, view, between}
use Rattle.cc_model.specs.Snapshot.{Mapping, Snapshot, node_names, white_natives}
use Rattle.cc_model.specs.Fresh.{IsNode, IsTraversedNode, IsFresh, IsTraversed}
use Rattle.cc_laws_heap.specs.Sound.{IsSound}
use Rattle.cc_laws_snapshot.proofs.NamePairs.{between-true, between-refl}
use Rattle.cc_laws_snapshot.proofs.SoundView.{IsSoundView, IsSound-view, black-or_gray}
use Rattle.cc_laws_snapshot.proofs.Unreached.{holder-traversed}
use Rattle.cc_laws_run.specs.Doomed.{IsMember, IsDoomed}
use Rattle.cc_laws_snapshot.proofs.ClosedOff.{closed_off-white_native}

-- what an option holds stands in its list
option_to_list-there : (o : Option Name) (x : Name) → o ≡ Some x → Among x (option_to_list o)
option_to_list-there o x e = subst (λ p. Among x (option_to_list p)) (sym e) (inl refl)

-- a member is a premise
member-premise : (m : Mapping) (p : Name) → IsMember p m → Among p (option_to_list m.the_map ++ option_to_list m.key)
member-premise m p i = ⊎_elim
    (λ e. Among-left p (option_to_list m.the_map) (option_to_list m.key) (option_to_list-there m.the_map p e))
    (λ e. Among-right p (option_to_list m.the_map) (option_to_list m.key) (option_to_list-there m.key p e)) i

module _ (v : View) (s : Snapshot) (ds : List Name) (doomed : IsDoomed v s ds) where
  -- who noted one of them is one
  pub doomed-noter : (x y : Name) → Among (x, y) s.references → Among y ds → Among x ds
  doomed-noter x y m b = doomed.holder x y (doomed.noted_held x y m b) b

  -- a mapping that gives one has a member that is one
  pub doomed-mapper : (m : Mapping) → Among m s.mappings → Among m.value ds → (p : Name) × IsMember p m × Among p ds
  doomed-mapper m i b =
      let e = doomed.mapping_held m i b in
      ⊎_elim
      (λ l. (e.0.the_map, inl (e.2.the_map l), l))
      (λ r. (e.0.key, inr (e.2.key r), r))
      (doomed.joint e.0 e.1 (subst (λ z. Among z ds) (sym e.2.value) b))

module _ (made : ℕ) (v : View) (s : Snapshot) (ds : List Name) (sound : IsSoundView made v) (fresh : IsFresh made v s) (all : IsTraversed s)
    (doomed : IsDoomed v s ds) where
  -- a traversed node's references to a doomed native were noted
  doomed-held : (x : Name) (i : ℕ) → Among (native i) ds → IsTraversedNode s x →
      count_by (between x (native i)) s.references ≡ count_by (between x (native i)) v.edges
  doomed-held x i b t = let l = doomed.natives i b in fresh.as_held (native i) l.0 x (l.1, doomed.unbuffered (native i) b) t

  -- what a traversed node holds and is doomed was noted
  doomed-noted : (x y : Name) → Among (x, y) v.edges → Among y ds → IsTraversedNode s x → Among (x, y) s.references
  doomed-noted x (name.Native i) e b t =
      let y : Name = native i.0 in
      let same = doomed-held x i.0 b t in
      let some : 0 < count_by (between x y) v.edges = count_by-some (between x y) (x, y) v.edges e (between-refl x y) in
      let c = counted_is (between x y) s.references (omega (arith, same, some)) in
      subst (λ r. Among r s.references) (between-true x y c.0 c.2) c.1
  doomed-noted x y e b t = fresh.gray_noted x y t e
      (⊎_elim (λ m. absurd (doomed.unmarked y b m)) (λ g. g) (black-or_gray v fresh.colours y (doomed.scripts y b refl)))

  -- so each of them is a node
  doomed-node : (x : Name) → Among x ds → IsNode s x
  doomed-node x b = derived-within (node_names s) v.edges [] (λ x. Among x ds → IsNode s x)
      (λ x i b. i)
      (λ x y e k b. fresh.to_node x y (doomed-noted x y e b (holder-traversed made v s sound fresh all x y e (k (doomed.holder x y e b)))))
      (λ qs y e k b. absurd e) x (doomed.covered x b) b

-- A DOOMED NATIVE IS AMONG THE WHITE ONES where no node is left to traverse.
pub doomed-white_native : (h : Heap) (s : Snapshot) (ds : List Name) (k : ℕ) → IsSound [] h → IsFresh h.natives_made (view h) s →
    IsTraversed s → IsDoomed (view h) s ds → Among (native k) ds → Among k (white_natives h s)
doomed-white_native h s ds k sound fresh all d = closed_off-white_native h s sound fresh all (λ x. Among x ds) (record {
  living = d.natives;
  unregistered = d.unregistered;
  unbuffered = d.unbuffered;
  unmarked = λ x b e. d.unmarked x b;
  holder = d.holder;
  noter = doomed-noter (view h) s ds d;
  mapper = λ m i b. let p = doomed-mapper (view h) s ds d m i b in (p.0, member-premise m p.0 p.1, p.2);
  node = doomed-node h.natives_made (view h) s ds (IsSound-view h sound) fresh all d;
}) k
