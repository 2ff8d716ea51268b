-- WHAT FOLLOWS FROM AN ENTRY SET OR TAKEN OUT: the heaps stand for the graph in which it is, the colour invariant stays, every
-- snapshot that was fresh is fresh where neither key nor value is gray, and no unreached native is forgotten.
use Rattle.cc_heaps.proofs.ReflectingWritten.{handed-given}
use Rattle.cc_lists.proofs.Held.{option_and_then-found}
use Rattle.cc_laws_heap.proofs.Face.{AreColoured-from_view, Follows-set_entry, Grows, Grows-change_native, HasColourInvariant-from, IsHeldBlack, IsMadeEntry-grows, IsWellMade-change_native, IsWellMade-entries, KeepsNative-preserved, MadeScript, OfSome, Reached-given, SameScripts, SameScripts-coloured, delegate-stands, entries_of-set, follows-stands, in-reached, option_map-found, script-behind, stands-follows, with_entry-cases, without_entry-sound}
use Rattle.std.proofs.Common.{◌≡◌, ℕ, not, List, Option, Some, None, refl, sym, ◌∙◌, ap, subst, inl, ⊎_elim, arith, option_map}
use Rattle.std.specs.Prelude.{IfSome, IsTrue}
use Rattle.std.specs.Option.{option_and_then}
use Rattle.cc_lists.specs.Members.{Among}
use Rattle.cc_lists.proofs.Members.{Among-filtered}
use Rattle.cc_lists.proofs.Filtering.{count_by-filter-le}
use Rattle.cc_names.specs.declared.name.Name.{Name}
use Rattle.cc_names.specs.declared.name.Name.TheVariants as name
use Rattle.cc_names.specs.declared.kind.Kind.TheVariants.{Map}
use Rattle.cc_names.specs.Names.{native, object, is_script}
use Rattle.cc_model.specs.Entries.{Entry, entry, is_entry_of, with_entry, without_entry}
use Rattle.cc_model.specs.Graph as graph
use Rattle.cc_model.specs.Graph.{Graph, GraphNative, GraphScript, plain_object, weak_map, as_preserved, delegate_in, native_in, script_in}
use Rattle.cc_model.specs.Given.{Given}
use Rattle.cc_model.specs.WellMade.{IsWellMade, IsMadeEntry, was_made}
use Rattle.cc_model.specs.Heap.{Heap, delegate_at, preserve}
use Rattle.cc_model.proofs.Joints.{joint-cases, gives-joint}
use Rattle.std.proofs.lemmas.Bool.{and_parts}
use Rattle.cc_model.specs.Effects.{set_entry}
use Rattle.cc_model.specs.WellFormed.{HasMembers, script_names}
use Rattle.cc_model.specs.StandsFor.{StandsFor, kind_in}
use Rattle.cc_laws_heap.specs.Sound.{IsSound}
use Rattle.cc_laws_snapshot.proofs.Face.{AreGentle, entry_written-suspected, fresh-coloured, not_gray-held, set_entry-gentle}
use Rattle.cc_script.specs.Objects.{is_there, kind_at, name_at}
use Rattle.cc_heaps.specs.Keyed.{Keyed, IsInOrder, changed_to, the_name_at}
use Rattle.cc_heaps.specs.Standing.{IsReached, StandsAfter, KeepsColours, KeepsFresh, KeepsSuspected}
use Rattle.cc_heaps.proofs.EntriesSet.{entry-members, map-there, the_name-among}
use Rattle.cc_heaps.proofs.Reaching.{the_name-there}
use Rattle.cc_heaps.proofs.Reflecting.{there-made}

-- The graph

-- what is of the kind of a weak map is one
kind-map : (g : Graph) (x : Name) → kind_in g x ≡ Some Map → (j : ℕ) × (x ≡ object j) × (script_in g j ≡ Some weak_map)
kind-map g x e = grind (arith, option_map-found, option_and_then-found)

-- a reflector preserved leaves the graph well made, and weak maps weak maps
preserved-well : (g : Graph) (x : Name) → MadeScript g x → IsWellMade g → IsWellMade (graph.preserve g (Some x)) × Grows g (graph.preserve g (Some x))
preserved-well g (name.Native k) m w = (w, record { made = λ x i. i; maps = λ k i. i; delegates = λ x i. refl })
preserved-well g (name.Script k) m w = (w, record { made = λ x i. i; maps = λ k i. i; delegates = λ x i. refl })
preserved-well g (name.Reflector k) m w = (IsWellMade-change_native g k.0 as_preserved (λ n r. r) w (KeepsNative-preserved g k.0 m), Grows-change_native g k.0 as_preserved (λ n r. r))

module _ {owned : List ℕ} (h : Heap) (m k : Name) (s : IsSound owned h) where
  -- a graph that the heaps stand for is well made with an entry of what is there, or with one less
  set-well : (v : Option Name) → OfSome (λ x. HasMembers h (entry m k (delegate_at h k) x)) v → (g : Graph) → IsWellMade g → StandsFor h g → IsWellMade (graph.set_entry g (Some m) (Some k) v)
  set-well None there g w t = IsWellMade-entries g (without_entry g.entries m k) w
      (λ e i. w.entries e (Among-filtered (λ f. not (is_entry_of m k f)) e g.entries i))
      (λ a b. omega (arith, count_by-filter-le (is_entry_of a b) (λ e. not (is_entry_of m k e)) g.entries, w.one_entry a b))
  set-well (Some x) there g w t =
      let kept = preserved-well g k key w in
      IsWellMade-entries (graph.preserve g (Some k)) (with_entry g.entries m k (delegate_in g k) x) kept.0
      (λ e i. IsMadeEntry-grows g (graph.preserve g (Some k)) kept.1 e
      (⊎_elim (λ same. subst (IsMadeEntry g) same new) (w.entries e) (with_entry-cases g.entries m k (delegate_in g k) x e i)))
      (entries_of-set g.entries m k (delegate_in g k) x w.one_entry)
    where
      key : MadeScript g k
      key = there-made h g k s.well_formed t there.key

      the_map : kind_in g m ≡ Some Map
      the_map =
          let f = there.the_map in
          ap (kind_in g) (sym f.2) ∙ ((t.scripts f.0 f.1).kind ∙ ap (λ kind. Some kind) f.3)

      new : IsMadeEntry g (entry m k (delegate_in g k) x)
      new = record { the_map = kind-map g m the_map; key = key; value = there-made h g x s.well_formed t there.value; delegate = refl }

  module _ (v : Option Name) (after : IsSound owned (set_entry h (Some m) (Some k) v)) where
    -- THE HEAPS STAND FOR THE GRAPH with the entry set, or without it, where all that is handed in is reached.
    set-stands : OfSome (λ x. HasMembers h (entry m k (delegate_at h k) x)) v → Among k (script_names h) → IsReached h (Some m) → IsReached h (Some k) → IsReached h v →
        StandsAfter h (set_entry h (Some m) (Some k) v) (λ g. graph.set_entry g (Some m) (Some k) v)
    set-stands there at a b c g w t =
        let well = set-well v there g w t in
        let key = in-reached h g s.well_formed w t k b in
        let made = there-made h g k s.well_formed t at in (
          well,
          follows-stands (Given h g) (set_entry h (Some m) (Some k) v) (graph.set_entry g (Some m) (Some k) v) after.well_formed well
              (Follows-set_entry (Given h g) h g (Some m) (Some k) v (Reached-given h g m (in-reached h g s.well_formed w t m a)) (Reached-given h g k key)
              (λ j e. Reached-given h g (native j) (script-behind g (Some k) made key j e)) (handed-given h g v s.well_formed w t c)
              (delegate-stands h g t k (and_parts (is_script k) (was_made g k) made).0 key) w.one_entry (stands-follows h g s.well_formed t)),
        )

    -- script objects and script registers are as they were
    same_scripts : SameScripts h (set_entry h (Some m) (Some k) v)
    same_scripts = go v k
      where
        go : (v : Option Name) (x : Name) → SameScripts h (set_entry h (Some m) (Some x) v)
        go (Some y) (name.Native j) = record { scripts = refl; registers = refl }
        go v x = record { scripts = refl; registers = refl }

    -- The colour invariant stays.
    set-colours : KeepsColours h (set_entry h (Some m) (Some k) v)
    set-colours c = HasColourInvariant-from (set_entry h (Some m) (Some k) v) after.well_formed
        (SameScripts-coloured h (set_entry h (Some m) (Some k) v) same_scripts (AreColoured-from_view h s.well_formed c))

    -- No unreached native is forgotten.
    set-suspected : KeepsSuspected h (set_entry h (Some m) (Some k) v)
    set-suspected candidates = entry_written-suspected h candidates m k v s.well_formed

    -- A gentle change keeps snapshots fresh.
    gentle-fresh : AreGentle h (set_entry h (Some m) (Some k) v) → KeepsFresh h (set_entry h (Some m) (Some k) v)
    gentle-fresh gentle t f = fresh-coloured h (set_entry h (Some m) (Some k) v) s.well_formed after.well_formed gentle
        (SameScripts-coloured h (set_entry h (Some m) (Some k) v) same_scripts) t f

    -- Every snapshot that was fresh is fresh, where key and value are black,
    set-fresh : IsHeldBlack h.scripts (Some k) → IsHeldBlack h.scripts v → KeepsFresh h (set_entry h (Some m) (Some k) v)
    set-fresh a b = gentle-fresh (set_entry-gentle h (Some m) (Some k) v (not_gray-held h (Some k) a) (not_gray-held h v b))

  -- or where an entry is taken out.
  unset-fresh : KeepsFresh h (set_entry h (Some m) (Some k) None)
  unset-fresh = gentle-fresh None (without_entry-sound owned h m k s) (record {
    made_more = omega arith;
    outside = λ u c i o l. (i, o);
    as_often = λ u w c i o l. refl;
    gray_edge = λ x y i g. (i, g);
    gray_joint = λ j i g.
        let f = joint-cases (without_entry h.entries m k) j i in
        (gives-joint h.entries f.0 j (Among-filtered (λ (f : Entry). not (is_entry_of m k f)) f.0 h.entries f.1) f.2, g);
    black_stays = λ x i. i;
    scripts_stay = λ x i. i;
    lives = λ i c l. inl (c, l);
  })

-- WHAT A CALL KEEPS that sets an entry, or takes one out
pub record SetKeeps (h g : Heap) (m k v : Option Name) : Type 0 where
  pub stands : IsReached h m → IsReached h k → IsReached h v → StandsAfter h g (λ f. graph.set_entry f m k v)
  pub colours : KeepsColours h g
  pub suspected : KeepsSuspected h g
  pub fresh : IsHeldBlack h.scripts k → IsHeldBlack h.scripts v → KeepsFresh h g
  pub fresh_without : v ≡ None → KeepsFresh h g

set-keeps : {owned : List ℕ} (h : Heap) (m k : Name) (v : Option Name) → IsSound owned h → IsSound owned (set_entry h (Some m) (Some k) v) →
    OfSome (λ x. HasMembers h (entry m k (delegate_at h k) x)) v → Among k (script_names h) → SetKeeps h (set_entry h (Some m) (Some k) v) (Some m) (Some k) v
set-keeps h m k v s after there at = record {
  stands = set-stands h m k s v after there at;
  colours = set-colours h m k s v after;
  suspected = set-suspected h m k s v after;
  fresh = set-fresh h m k s v after;
  fresh_without = λ e. subst (λ x. KeepsFresh h (set_entry h (Some m) (Some k) x)) (sym e) (unset-fresh h m k s);
}

-- by keys, of what is there
module _ {owned : List ℕ} (v w : Keyed) (o : IsInOrder owned v) (p : IsInOrder owned w) (m k : ℕ) (is_map : kind_at v.scripts m ≡ Some Map) (k-there : IsTrue (is_there v.scripts k))
    (x : Option ℕ) (x-there : IfSome x (λ q. IsTrue (is_there v.scripts q))) where
  abbrev named : Option ℕ → Option Name
  named y = option_and_then (name_at v.scripts) y

  the_map : name_at v.scripts m ≡ Some (the_name_at v.scripts m)
  the_map = the_name-there v.scripts m (map-there v.scripts m is_map)

  key : name_at v.scripts k ≡ Some (the_name_at v.scripts k)
  key = the_name-there v.scripts k k-there

  value : named x ≡ option_map (the_name_at v.scripts) x
  value = grind (arith, the_name-there)

  members : OfSome (λ y. HasMembers v.heap (entry (the_name_at v.scripts m) (the_name_at v.scripts k) (delegate_at v.heap (the_name_at v.scripts k)) y)) (option_map (the_name_at v.scripts) x)
  members = go x x-there
    where
      go : (y : Option ℕ) → IfSome y (λ q. IsTrue (is_there v.scripts q)) →
          OfSome (λ z. HasMembers v.heap (entry (the_name_at v.scripts m) (the_name_at v.scripts k) (delegate_at v.heap (the_name_at v.scripts k)) z)) (option_map (the_name_at v.scripts) y)
      go None t = tt
      go (Some q) t = entry-members owned v o m k q is_map k-there t

  pub entry-keeps : w.heap ≡ set_entry v.heap (name_at v.scripts m) (name_at v.scripts k) (named x) →
      SetKeeps v.heap w.heap (name_at v.scripts m) (name_at v.scripts k) (named x)
  entry-keeps e =
      let P : Option Name → Option Name → Option Name → Type 0 = λ a b c. SetKeeps v.heap (set_entry v.heap a b c) a b c in
      let after = subst (IsSound owned) (e ∙ (λ i. set_entry v.heap (the_map i) (key i) (value i))) p.sound in
      subst (λ g. SetKeeps v.heap g (name_at v.scripts m) (name_at v.scripts k) (named x)) (sym e)
      (subst (λ a. P a (name_at v.scripts k) (named x)) (sym the_map)
      (subst (λ b. P (Some (the_name_at v.scripts m)) b (named x)) (sym key)
      (subst (P (Some (the_name_at v.scripts m)) (Some (the_name_at v.scripts k))) (sym value)
      (set-keeps v.heap (the_name_at v.scripts m) (the_name_at v.scripts k) (option_map (the_name_at v.scripts) x) o.sound after members (the_name-among owned v o k k-there)))))

-- AN ENTRY SET first and then its key preserved is both at once.
preserve-entries : (h : Heap) (es : List Entry) (x : Name) → preserve (record h { entries = es }) (Some x) ≡ record (preserve h (Some x)) { entries = es }
preserve-entries h es x = grind arith

pub set-preserved : (v mid w : Keyed) (m k x : ℕ) → IsTrue (is_there v.scripts m) → IsTrue (is_there v.scripts k) → IsTrue (is_there v.scripts x) →
    mid.heap ≡ record v.heap { entries = with_entry v.heap.entries (the_name_at v.scripts m) (the_name_at v.scripts k) (delegate_at v.heap (the_name_at v.scripts k)) (the_name_at v.scripts x) } → mid.scripts ≡ v.scripts →
    w ≡ changed_to mid (preserve mid.heap (name_at mid.scripts k)) → w.heap ≡ set_entry v.heap (name_at v.scripts m) (name_at v.scripts k) (name_at v.scripts x)
set-preserved v mid w m k x s t u heap scripts e = grind (arith, the_name-there, preserve-entries)
