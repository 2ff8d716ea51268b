-- AN ENTRY SET whose key, or whose value, is the reflector of a native that is reached: the heaps stand for the graph in which it is.
use Rattle.std.proofs.Common.{arith, ◌≡◌, ℕ, true, not, [], Option, Some, None, refl, sym, ◌∙◌, ap, subst, inl, inr, ⊎_elim}
use Rattle.std.specs.Prelude.{IsTrue}
use Rattle.std.proofs.lemmas.Bool.{and_parts}
use Rattle.cc_lists.specs.Members.{Among}
use Rattle.cc_lists.proofs.Held.{of-one}
use Rattle.cc_lists.proofs.Members.{Among-filtered, Among-right}
use Rattle.cc_lists.proofs.Filtering.{count_by-filter-le}
use Rattle.cc_lists.proofs.Held.{option_and_then-found}
use Rattle.cc_names.specs.declared.name.Name.{Name}
use Rattle.cc_names.specs.declared.name.Name.TheVariants as name
use Rattle.cc_names.specs.declared.kind.Kind.TheVariants.{Map}
use Rattle.cc_names.specs.Names.{native, object, reflector, is_script}
use Rattle.cc_model.specs.Entries.{Entry, entry, is_entry_of, with_entry, without_entry}
use Rattle.cc_model.specs.Graph as graph
use Rattle.cc_model.specs.Graph.{Graph, as_preserved, delegate_in, script_in, weak_map}
use Rattle.cc_model.specs.Given.{Given}
use Rattle.cc_model.specs.WellMade.{IsWellMade, IsMadeEntry, was_made}
use Rattle.cc_model.specs.Heap.{Heap, delegate_at, set_preserved}
use Rattle.cc_model.specs.Effects.{set_entry}
use Rattle.cc_model.specs.WellFormed.{HasMembers, names_there, native_names, script_names}
use Rattle.cc_model.specs.StandsFor.{StandsFor, kind_in}
use Rattle.cc_laws_heap.specs.Sound.{IsSound}
use Rattle.cc_laws_heap.proofs.Face.{Follows, Follows-set_entry, Grows, Grows-change_native, IsIn, IsMadeEntry-grows, IsWellMade-change_native, IsWellMade-entries, KeepsNative-preserved, MadeScript, Reached-given, delegate-stands, entries_of-set, follows-stands, in-reached, option_map-found, script-behind, stands-follows, with_entry-cases}
use Rattle.cc_laws_heap.proofs.EntriesWritten.{AreEntries-set, AreEntries-without, Follows-entries}
use Rattle.cc_laws_heap.proofs.Following.{AreEntries}
use Rattle.cc_laws_heap.proofs.StepsAlike.{preserved-after}
use Rattle.cc_laws_heap.proofs.SlotsWritten.{IsPreserved}
use Rattle.cc_laws_heap.proofs.Writing.{SameGraphBeside-native}
use Rattle.cc_script.specs.Objects.{is_there, kind_at, name_at}
use Rattle.cc_heaps.specs.Keyed.{Keyed, IsInOrder, the_name_at}
use Rattle.cc_heaps.specs.Standing.{IsReached, IsReachedOrReflects, StandsAfter}
use Rattle.cc_heaps.proofs.EntriesSet.{entry-members, map-there}
use Rattle.cc_heaps.proofs.Reaching.{the_name-there}
use Rattle.cc_heaps.proofs.Reflecting.{there-made}
use Rattle.cc_heaps.proofs.ReflectingPreserved.{preserved-reached, preserved-sound, preserved-stands}
use Rattle.cc_heaps.proofs.ReflectingWritten.{handed-given}
use Rattle.cc_host.proofs.Reflects.{follows-handed, preserved-held, reflects-kept}

-- what is of the kind of a weak map is one
kind-map : (g : Graph) (x : Name) → kind_in g x ≡ Some Map → (j : ℕ) × (x ≡ object j) × (script_in g j ≡ Some weak_map)
kind-map g x e = grind (arith, option_map-found, option_and_then-found)

-- a reflector preserved leaves the graph well made, and weak maps weak maps
preserved-well : (g : Graph) (x : Name) → MadeScript g x → IsWellMade g → IsWellMade (graph.preserve g (Some x)) × Grows g (graph.preserve g (Some x))
preserved-well g (name.Native k) m w = (w, record { made = λ x i. i; maps = λ k i. i; delegates = λ x i. refl })
preserved-well g (name.Script k) m w = (w, record { made = λ x i. i; maps = λ k i. i; delegates = λ x i. refl })
preserved-well g (name.Reflector k) m w = (IsWellMade-change_native g k.0 as_preserved (λ n r. r) w (KeepsNative-preserved g k.0 m), Grows-change_native g k.0 as_preserved (λ n r. r))

-- it leaves the entries
preserve-entries : (g : Graph) (x : Name) → (graph.preserve g (Some x)).entries ≡ g.entries
preserve-entries g x = grind (arith, SameGraphBeside-native)

module _ (h : Heap) (m k v : Name) (s : IsSound [] h) (there : HasMembers h (entry m k (delegate_at h k) v)) (after : IsSound [] (set_entry h (Some m) (Some k) (Some v))) where
  -- the graph with the entry is well made
  set-well : (g : Graph) → IsWellMade g → StandsFor h g → IsWellMade (graph.set_entry g (Some m) (Some k) (Some v))
  set-well g w t =
      let kept = preserved-well g k key w in
      IsWellMade-entries (graph.preserve g (Some k)) (with_entry g.entries m k (delegate_in g k) v) kept.0
      (λ e i. IsMadeEntry-grows g (graph.preserve g (Some k)) kept.1 e
      (⊎_elim (λ same. subst (IsMadeEntry g) same new) (w.entries e) (with_entry-cases g.entries m k (delegate_in g k) v e i)))
      (entries_of-set g.entries m k (delegate_in g k) v w.one_entry)
    where
      key : MadeScript g k
      key = there-made h g k s.well_formed t there.key

      the_map : kind_in g m ≡ Some Map
      the_map =
          let f = there.the_map in
          ap (kind_in g) (sym f.2) ∙ ((t.scripts f.0 f.1).kind ∙ ap (λ kind. Some kind) f.3)

      new : IsMadeEntry g (entry m k (delegate_in g k) v)
      new = record { the_map = kind-map g m the_map; key = key; value = there-made h g v s.well_formed t there.value; delegate = refl }

  -- where its key is reached
  reached-key : IsReached h (Some m) → IsReached h (Some k) → IsReachedOrReflects h (Some v) →
      StandsAfter h (set_entry h (Some m) (Some k) (Some v)) (λ g. graph.set_entry g (Some m) (Some k) (Some v))
  reached-key a b c g w t =
      let well = set-well g w t in
      let key = in-reached h g s.well_formed w t k b in
      let made = there-made h g k s.well_formed t there.key in (
        well,
        follows-handed h g s.well_formed w t (Some v) (of-one (λ x. Among x (names_there h)) v (Among-right v (native_names h) (script_names h) there.value)) c
            (StandsFor (set_entry h (Some m) (Some k) (Some v)) (graph.set_entry g (Some m) (Some k) (Some v)))
            (λ P given p f. follows-stands P (set_entry h (Some m) (Some k) (Some v)) (graph.set_entry g (Some m) (Some k) (Some v)) after.well_formed well
            (Follows-set_entry P h g (Some m) (Some k) (Some v) (given m (Reached-given h g m (in-reached h g s.well_formed w t m a))) (given k (Reached-given h g k key))
            (λ j e. given (native j) (Reached-given h g (native j) (script-behind g (Some k) made key j e))) p
            (delegate-stands h g t k (and_parts (is_script k) (was_made g k) made).0 key) w.one_entry f)),
      )

-- where its key is the reflector of a native that is reached: it is preserved first, so that it is reached
reflected-key : (h : Heap) (m : Name) (k : ℕ) (v : Name) → IsSound [] h → HasMembers h (entry m (reflector k) (delegate_at h (reflector k)) v) →
    IsSound [] (set_entry h (Some m) (Some (reflector k)) (Some v)) → IsReached h (Some m) → IsReached h (Some (native k)) → IsReachedOrReflects h (Some v) →
    StandsAfter h (set_entry h (Some m) (Some (reflector k)) (Some v)) (λ g. graph.set_entry g (Some m) (Some (reflector k)) (Some v))
reflected-key h m k v s there after a b c g w t = (
  well,
  follows-handed late now late_sound.well_formed before.0 before.1 (Some v)
      (of-one (λ x. Among x (names_there late)) v (Among-right v (native_names late) (script_names late) there.value)) (reflects-kept h late kept (Some v) c)
      (StandsFor (set_entry h (Some m) (Some key) (Some v)) (graph.set_entry g (Some m) (Some key) (Some v)))
      (λ P given p f. follows-stands P (set_entry h (Some m) (Some key) (Some v)) (graph.set_entry g (Some m) (Some key) (Some v)) after.well_formed well
      (set P (given m (handed-given late now (Some m) late_sound.well_formed before.0 before.1 (kept (Some m) a)))
      (given key (handed-given late now (Some key) late_sound.well_formed before.0 before.1 held)) p f)),
)
  where
    key : Name
    key = reflector k

    late : Heap
    late = set_preserved h k true

    now : Graph
    now = graph.preserve g (Some key)

    in_it : IsIn (script_names h) (Some key)
    in_it = of-one (λ x. Among x (script_names h)) key there.key

    late_sound : IsSound [] late
    late_sound = preserved-sound h k s there.key

    before : IsWellMade now × StandsFor late now
    before = preserved-stands h k s there.key b g w t

    well : IsWellMade (graph.set_entry g (Some m) (Some key) (Some v))
    well = set-well h m key v s there after g w t

    kept : (x : Option Name) → IsReached h x → IsReached late x
    kept None d = tt
    kept (Some x) d = preserved-reached h k s there.key x d

    held : IsReached late (Some key)
    held = preserved-held h (Some key) s in_it (inr b) kept

    same : delegate_at h key ≡ None
    same = delegate-stands late now before.1 key refl (in-reached late now late_sound.well_formed before.0 before.1 key held)

    set : (P : Name → Type 0) → P m → P key → P v → Follows P late now → Follows P (set_entry h (Some m) (Some key) (Some v)) (graph.set_entry g (Some m) (Some key) (Some v))
    set P p q r f = Follows-entries P late now (with_entry h.entries m key (delegate_at h key) v) (with_entry g.entries m key None v)
        (subst (λ d. AreEntries P (with_entry h.entries m key d v) (with_entry g.entries m key None v)) (sym same)
        (subst (λ es. AreEntries P (with_entry h.entries m key None v) (with_entry es m key None v)) (preserve-entries g key)
        (AreEntries-set P h.entries now.entries m key None v p q (before.0.one_entry m key) f.entries)))
        (λ e i. ⊎_elim
        (λ s. inr (subst P (ap (λ (d : Entry). d.value) s) r, subst P (ap (λ (d : Entry). d.key) s) q, subst (IsPreserved now) (ap (λ (d : Entry). d.key) s) (preserved-after g key)))
        (λ old. inl (subst (Among e) (sym (preserve-entries g key)) old))
        (with_entry-cases g.entries m key None v e i))
        f

-- WHERE BOTH ARE REACHED, or reflectors of natives that are.
pub set_entry-reflects : (h : Heap) (m k v : Name) → IsSound [] h → HasMembers h (entry m k (delegate_at h k) v) → IsSound [] (set_entry h (Some m) (Some k) (Some v)) →
    IsReached h (Some m) → IsReachedOrReflects h (Some k) → IsReachedOrReflects h (Some v) →
    StandsAfter h (set_entry h (Some m) (Some k) (Some v)) (λ g. graph.set_entry g (Some m) (Some k) (Some v))
set_entry-reflects h m (name.Native k) v s there after a b c = reached-key h m (name.Native k) v s there after a b c
set_entry-reflects h m (name.Script k) v s there after a b c = reached-key h m (name.Script k) v s there after a b c
set_entry-reflects h m (name.Reflector k) v s there after a b c = ⊎_elim
    (λ l. reached-key h m (name.Reflector k) v s there after a l c)
    (λ l. reflected-key h m k.0 v s there after a l c)
    b

-- By keys.
pub entry_at-reflects : (v w : Keyed) → IsInOrder [] v → IsInOrder [] w → (m k x : ℕ) → kind_at v.scripts m ≡ Some Map → IsTrue (is_there v.scripts k) → IsTrue (is_there v.scripts x) →
    w.heap ≡ set_entry v.heap (name_at v.scripts m) (name_at v.scripts k) (name_at v.scripts x) → IsReached v.heap (name_at v.scripts m) →
    IsReachedOrReflects v.heap (name_at v.scripts k) → IsReachedOrReflects v.heap (name_at v.scripts x) →
    StandsAfter v.heap w.heap (λ g. graph.set_entry g (name_at v.scripts m) (name_at v.scripts k) (name_at v.scripts x))
entry_at-reflects v w o p m k x is s t e =
    let the_map = the_name-there v.scripts m (map-there v.scripts m is) in
    let key = the_name-there v.scripts k s in
    let value = the_name-there v.scripts x t in
    let T : Option Name → Option Name → Option Name → Type 0 = λ a b c. IsReached v.heap a → IsReachedOrReflects v.heap b → IsReachedOrReflects v.heap c →
    StandsAfter v.heap (set_entry v.heap a b c) (λ g. graph.set_entry g a b c) in
    let after = subst (IsSound []) (e ∙ (λ i. set_entry v.heap (the_map i) (key i) (value i))) p.sound in
    subst (λ h. IsReached v.heap (name_at v.scripts m) → IsReachedOrReflects v.heap (name_at v.scripts k) → IsReachedOrReflects v.heap (name_at v.scripts x) →
    StandsAfter v.heap h (λ g. graph.set_entry g (name_at v.scripts m) (name_at v.scripts k) (name_at v.scripts x))) (sym e)
    (subst (λ a. T a (name_at v.scripts k) (name_at v.scripts x)) (sym the_map)
    (subst (λ b. T (Some (the_name_at v.scripts m)) b (name_at v.scripts x)) (sym key)
    (subst (T (Some (the_name_at v.scripts m)) (Some (the_name_at v.scripts k))) (sym value)
    (set_entry-reflects v.heap (the_name_at v.scripts m) (the_name_at v.scripts k) (the_name_at v.scripts x) o.sound (entry-members [] v o m k x is s t) after))))

-- AN ENTRY TAKEN OUT, whatever its map and its key are.
pub unset-stands : (h : Heap) (m k : Option Name) → IsSound [] h → IsSound [] (set_entry h m k None) → StandsAfter h (set_entry h m k None) (λ g. graph.set_entry g m k None)
unset-stands h None k s after g w t = (w, t)
unset-stands h (Some m) None s after g w t = (w, t)
unset-stands h (Some m) (Some k) s after g w t =
    let well = IsWellMade-entries g (without_entry g.entries m k) w
    (λ e i. w.entries e (Among-filtered (λ f. not (is_entry_of m k f)) e g.entries i))
    (λ a b. omega (arith, count_by-filter-le (is_entry_of a b) (λ e. not (is_entry_of m k e)) g.entries, w.one_entry a b)) in
    let f = stands-follows h g s.well_formed t in (
      well,
      follows-stands (Given h g) (set_entry h (Some m) (Some k) None) (graph.set_entry g (Some m) (Some k) None) after.well_formed well
          (Follows-entries (Given h g) h g (without_entry h.entries m k) (without_entry g.entries m k) (AreEntries-without (Given h g) h.entries g.entries m k f.entries)
          (λ e i. inl (Among-filtered (λ d. not (is_entry_of m k d)) e g.entries i)) f),
    )
