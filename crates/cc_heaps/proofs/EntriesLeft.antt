-- WHAT A SWEEP LEAVES OF THE ENTRIES OF WEAK MAPS, where the marks are closed: an entry whose map and key stay has a value
-- that stays, so it keeps its names. What is left by keys is what the definitions leave by names.
use Rattle.std.proofs.Common.{◌≡◌, ℕ, Bool, true, false, not, ◌&&◌, List, map, Option, Some, None, refl, sym, ◌∙◌, ap, subst, ⊎_elim}
use Rattle.std.specs.Prelude.{IsTrue}
use Rattle.std.specs.List.{filter}
use Rattle.std.proofs.lemmas.Bool.{and_parts}
use Rattle.cc_lists.specs.Members.{Among, has}
use Rattle.cc_lists.proofs.Members.{Among-map, Among-filtered, Among-passes}
use Rattle.cc_lists.proofs.Filtering.{filter-agree}
use Rattle.cc_lists.proofs.Held.{held-is}
use Rattle.cc_lists.proofs.Searching.{filter-map}
use Rattle.cc_lists.proofs.ListWrites.{map-agree}
use Rattle.cc_names.specs.Names.{same_name}
use Rattle.cc_model.specs.Sweep.{unmarked}
use Rattle.cc_laws_heap.specs.Marks.{Stays, AreMarksClosed}
use Rattle.cc_laws_heap.proofs.Face.{is_spared_entry, stays-delegate, stays-value}
use Rattle.cc_script.specs.Objects.{Object, is_there, name_at}
use Rattle.cc_weakmaps.specs.Entries.{KeyedEntry}
use Rattle.cc_weakmaps.specs.Living.{living}
use Rattle.cc_marking.specs.Marking.{AreEntriesThere}
use Rattle.cc_heaps.specs.Keyed.{IsInOrder, name_held, named_entry, named_entries, named_object, the_name_at}
use Rattle.cc_heaps.specs.Fields.{heap_of, keyed_of, IsLinked}
use Rattle.cc_heaps.specs.Sweeping.{is_marked}
use Rattle.cc_heaps.specs.declared.heaps.Heaps.TheInside.{Inside}
use Rattle.cc_heaps.proofs.ObjectsKept.{members, entry-same, entry-there}
use Rattle.cc_heaps.proofs.ObjectsLeft.{left_objects, name-left, spared-stays, stays, stays-not_white}
use Rattle.cc_heaps.proofs.Reaching.{name_at-found, object_at-own, the_name-there}
use Rattle.cc_heaps.proofs.SweptNatives.{neither}

-- the entries that are left
abbrev pub left_entries : Inside → List KeyedEntry
left_entries p = living (is_marked p.scripts) p.weak

-- whether an entry is left
abbrev lives : Inside → KeyedEntry → Bool
lives p e = is_marked p.scripts e.the_map && is_marked p.scripts e.key

module _ {owned : List ℕ} (p : Inside) (l : IsLinked p) (o : IsInOrder owned (keyed_of p)) (c : AreMarksClosed (heap_of p)) where
  -- what stands at a key is marked where it stays
  stays-at : (k : ℕ) → IsTrue (is_there p.scripts k) → (q : Object) × Among q p.scripts × (q.name ≡ the_name_at p.scripts k) × (is_marked p.scripts k ≡ stays q)
  stays-at k t =
      let f = name_at-found p.scripts k (the_name_at p.scripts k) (the_name-there p.scripts k t) in
      (f.0, f.1, f.3, subst (λ j. is_marked p.scripts j ≡ stays f.0) f.2 (ap (λ (q : Option Object). elim q [ None ↦ false | Some r ↦ stays r ]) (object_at-own p.scripts l.one_key f.0 f.1)))

  -- the name at a key stays where what stands there is marked
  name-stays : (k : ℕ) → IsTrue (is_there p.scripts k) → is_marked p.scripts k ≡ true → Stays (heap_of p) (the_name_at p.scripts k)
  name-stays k t e = let f = stays-at k t in subst (Stays (heap_of p)) f.2 (stays-not_white p l o c f.0 f.1 (sym f.3 ∙ e))

  -- the name at a key is none of the unmarked where what stands there is marked
  marked-spared : (k : ℕ) → IsTrue (is_there p.scripts k) → not (has same_name (unmarked (heap_of p)) (the_name_at p.scripts k)) ≡ is_marked p.scripts k
  marked-spared k t =
      let f = stays-at k t in
      ap (λ x. not (has same_name (unmarked (heap_of p)) x)) (sym f.2) ∙ (spared-stays p l o c f.0 f.1 ∙ sym f.3)

  -- Names that are kept

  -- the value of an entry that is left stays
  value-stays : (e : KeyedEntry) → Among e p.weak → lives p e ≡ true → Stays (heap_of p) (the_name_at p.scripts e.value)
  value-stays e m s =
      let t = and_parts (is_marked p.scripts e.the_map) (is_marked p.scripts e.key) s in
      let there = o.entries_there e m in
      stays-value (heap_of p) c (named_entry p.scripts e) (Among-map (named_entry p.scripts) e p.weak m)
      (name-stays e.the_map there.the_map t.0) (name-stays e.key there.key t.1)

  -- the delegate of its key stays
  delegate-stays : (e : KeyedEntry) → Among e p.weak → lives p e ≡ true → (d : ℕ) → e.delegate ≡ Some d → Stays (heap_of p) (the_name_at p.scripts d)
  delegate-stays e m s d is =
      let t = and_parts (is_marked p.scripts e.the_map) (is_marked p.scripts e.key) s in
      let there = o.entries_there e m in
      let f = name_at-found p.scripts e.key (the_name_at p.scripts e.key) (the_name-there p.scripts e.key there.key) in
      let i : Among (named_object p.scripts f.0) (heap_of p).scripts = Among-map (named_object p.scripts) f.0 p.scripts f.1 in
      stays-delegate (heap_of p) c (named_object p.scripts f.0) (the_name_at p.scripts d) i
      ((o.sound.well_formed.entries (named_entry p.scripts e) (Among-map (named_entry p.scripts) e p.weak m)).delegate (named_object p.scripts f.0) i f.3
      ∙ (ap (name_held p.scripts) is ∙ the_name-there p.scripts d (there.delegate d is)))
      (subst (Stays (heap_of p)) (sym f.3) (name-stays e.key there.key t.1))

  -- so each of its members has its name still
  member-left : (e : KeyedEntry) → Among e (left_entries p) → (k : ℕ) → Among k (members e) → name_at (left_objects p) k ≡ name_at p.scripts k
  member-left e m k i =
      let before : Among e p.weak = Among-filtered (lives p) e p.weak m in
      let s = Among-passes (lives p) e p.weak m in
      let t = and_parts (is_marked p.scripts e.the_map) (is_marked p.scripts e.key) s in
      let there = o.entries_there e before in
      ⊎_elim (λ f. kept e.the_map f there.the_map (name-stays e.the_map there.the_map t.0))
      (λ i. ⊎_elim (λ f. kept e.key f there.key (name-stays e.key there.key t.1))
      (λ i. ⊎_elim (λ f. kept e.value f there.value (value-stays e before s))
      (λ n. let is = held-is e.delegate k n in kept k refl (there.delegate k is) (delegate-stays e before s k is)) i) i) i
    where
      kept : (j : ℕ) → j ≡ k → IsTrue (is_there p.scripts j) → Stays (heap_of p) (the_name_at p.scripts j) → name_at (left_objects p) k ≡ name_at p.scripts k
      kept j e t d = subst (λ j. name_at (left_objects p) j ≡ name_at p.scripts j) e (name-left p l o c j (the_name_at p.scripts j) (the_name-there p.scripts j t) d)

  -- ENTRIES THAT ARE LEFT NAME WHAT IS THERE,
  pub entries_there-left : AreEntriesThere (left_objects p) (left_entries p)
  entries_there-left e m = entry-there p.scripts (left_objects p) e (member-left e m) (o.entries_there e (Among-filtered (lives p) e p.weak m))

  -- AND ARE THOSE THAT THE DEFINITIONS LEAVE.
  pub entries-left : filter (is_spared_entry (unmarked (heap_of p))) (heap_of p).entries ≡ named_entries (left_objects p) (left_entries p)
  entries-left =
      filter-map (is_spared_entry (unmarked (heap_of p))) (named_entry p.scripts) p.weak
      ∙ (ap (map (named_entry p.scripts)) (filter-agree (λ e. is_spared_entry (unmarked (heap_of p)) (named_entry p.scripts e)) (lives p) p.weak spared)
      ∙ sym (map-agree (named_entry (left_objects p)) (named_entry p.scripts) (left_entries p) (λ e m. entry-same (left_objects p) p.scripts e (member-left e m))))
    where
      dead : ℕ → Bool
      dead k = has same_name (unmarked (heap_of p)) (the_name_at p.scripts k)

      spared : (e : KeyedEntry) → Among e p.weak → is_spared_entry (unmarked (heap_of p)) (named_entry p.scripts e) ≡ lives p e
      spared e m =
          let there = o.entries_there e m in
          sym (neither (dead e.the_map) (dead e.key)) ∙ (λ i. marked-spared e.the_map there.the_map i && marked-spared e.key there.key i)
