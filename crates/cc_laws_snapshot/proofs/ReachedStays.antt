-- WHAT THE REGISTERS REACH STAYS REACHED where objects that are reached and stay keep what they hold.
use Rattle.std.proofs.Common.{◌≡◌, ℕ, ◌==◌, Bool, true, false, List, ◌∷◌, ◌++◌, map, Option, refl, sym, ◌∙◌, ap, subst, inl, inr, ◌⊎◌, ⊎_elim}
use Rattle.std.specs.List.{flat_map}
use Rattle.std.proofs.lemmas.Bool.{eqb-true, cases_Bool}
use Rattle.cc_lists.specs.Members.{Among}
use Rattle.cc_lists.proofs.Members.{Among-map, Among-left, Among-right, Among-append, Among-flat_map, Among-flat_map_cases}
use Rattle.cc_lists.proofs.Least.{derive-root, derive-along}
use Rattle.cc_lists.proofs.ListWrites.{changed_where}
use Rattle.cc_names.specs.declared.name.Name.{Name}
use Rattle.cc_names.specs.Names.{native, is_script}
use Rattle.cc_model.specs.Slots.{contents}
use Rattle.cc_model.proofs.Joints.{derive-joint, derived-by_joints}
use Rattle.cc_model.specs.Entries.{Joint, joints, rules_of}
use Rattle.cc_model.specs.Heap.{Heap, HeapNative, HeapScript, change_native, with_native_slot}
use Rattle.cc_model.specs.View.{view, native_edges, script_edges, ReachedIn}
use Rattle.cc_model.specs.Cascade.{cascade, take_up}
use Rattle.cc_model.specs.WellFormed.{IsWellFormed, native_names, script_names, names_there}
use Rattle.cc_laws_heap.specs.Sound.{IsSound}
use Rattle.cc_laws_heap.specs.Freeing.{uncounted, SameBeside}
use Rattle.cc_laws_heap.proofs.HoldsTheSame.{HoldsTheSame-take_up}
use Rattle.cc_laws_heap.proofs.Natives.{named-member}
use Rattle.cc_laws_heap.proofs.Cascades.{cascade-sound, cascade-frees}
use Rattle.cc_laws_heap.proofs.Leaving.{IsOf, IsOf-frees}
use Rattle.cc_laws_snapshot.proofs.NamePairs.{native-no_script}
use Rattle.cc_laws_heap.proofs.ViewEdges.{native_edges-are, script_edges-are}
use Rattle.cc_laws_heap.proofs.ScriptNames.{script-named}
use Rattle.cc_laws_heap.proofs.References.{native-there}
use Rattle.cc_laws_snapshot.proofs.NamesAndEdges.{edges-alike}
use Rattle.cc_laws_snapshot.proofs.SoundView.{one-native, edge-target, joint-there}

-- Edges

-- natives that are the same but for counts have the same edges
pub native_edges-alike : (m n : HeapNative) → uncounted m ≡ uncounted n → native_edges m ≡ native_edges n
native_edges-alike m n e = ap native_edges e

-- an edge of a native is one of the heaps
pub native-edge : (h : Heap) (n : HeapNative) (x y : Name) → Among n h.natives → Among (x, y) (native_edges n) → Among (x, y) (view h).edges
native-edge h n x y m e = Among-left (x, y) (flat_map native_edges h.natives) (flat_map script_edges h.scripts)
    (Among-flat_map native_edges n (x, y) h.natives m e)

-- an edge of a script object, too
pub script-edge : (h : Heap) (o : HeapScript) (x y : Name) → Among o h.scripts → Among (x, y) (script_edges o) → Among (x, y) (view h).edges
script-edge h o x y m e = Among-right (x, y) (flat_map native_edges h.natives) (flat_map script_edges h.scripts)
    (Among-flat_map script_edges o (x, y) h.scripts m e)

-- an edge from a native is an edge of the native of that number
pub native-edge_of : (h : Heap) (i : ℕ) (y : Name) → IsWellFormed h → Among (native i, y) (view h).edges →
    (n : HeapNative) × Among n h.natives × (native n.number ≡ native i) × Among (native i, y) (native_edges n)
native-edge_of h i y w m = ⊎_elim
    (λ l. let f = Among-flat_map_cases native_edges h.natives (native i, y) l in (f.0, f.1, (native_edges-are f.0 (native i) y f.2).0, f.2))
    (λ r.
    let f = Among-flat_map_cases script_edges h.scripts (native i, y) r in
    absurd (native-no_script (native i) refl
    (subst (λ z. is_script z ≡ true) (script_edges-are f.0 (native i) y f.2).0 (script-named h w f.0 f.1))))
    (Among-append (native i, y) (flat_map native_edges h.natives) (flat_map script_edges h.scripts) m)

-- What is kept

-- each native that holds something is reached
abbrev pub IsTidy : Heap → Type 0
IsTidy h = (i : ℕ) (y : Name) → Among (native i, y) (view h).edges → ReachedIn (view h) (native i)

-- registers keep what they hold; so do objects that are reached and stay, and joints whose map and key stay
pub record KeepsReached (h k : Heap) : Type 0 where
  pub registers : (x : Name) → Among x (view h).registers → Among x (view k).registers
  pub edges : (x y : Name) → ReachedIn (view h) x → Among x (names_there k) → Among (x, y) (view h).edges → Among (x, y) (view k).edges
  pub joints : (j : Joint) → Among j (joints h.entries) → Among j.the_map (names_there k) → Among j.key (names_there k) → Among j (joints k.entries)

module _ (h : Heap) (w : IsWellFormed h) where
  -- what a register holds is there
  register-there : (x : Name) → Among x (view h).registers → Among x (names_there h)
  register-there x m = ⊎_elim
      (λ l. Among-left x (native_names h) (script_names h) (w.native_registers x l))
      (λ r. Among-right x (native_names h) (script_names h) (w.script_registers x r))
      (Among-append x (contents h.native_registers) (contents h.script_registers) m)

  -- What is reached is there.
  pub reached-there : (x : Name) → ReachedIn (view h) x → Among x (names_there h)
  reached-there = derived-by_joints (view h).registers (view h).edges (joints h.entries) (λ x. Among x (names_there h))
      register-there
      (λ x y e d. edge-target h x y w e)
      (λ j m a b. Among-right j.value (native_names h) (script_names h) (joint-there h w j m).value)

module _ (h k : Heap) (w : IsWellFormed k) (t : KeepsReached h k) where
  -- reached in both
  abbrev InBoth : Name → Type 0
  InBoth x = ReachedIn (view h) x × ReachedIn (view k) x

  -- What was reached is reached.
  pub reached-kept : (x : Name) → ReachedIn (view h) x → ReachedIn (view k) x
  reached-kept x r = (both x r).1
    where
      both : (x : Name) → ReachedIn (view h) x → InBoth x
      both = derived-by_joints (view h).registers (view h).edges (joints h.entries) InBoth
          (λ x m. (
            derive-root (view h).registers (view h).edges (rules_of (joints h.entries)) x m,
            derive-root (view k).registers (view k).edges (rules_of (joints k.entries)) x (t.registers x m),
          ))
          (λ x y e d. (
            derive-along (view h).registers (view h).edges (rules_of (joints h.entries)) x y e d.0,
            derive-along (view k).registers (view k).edges (rules_of (joints k.entries)) x y (t.edges x y d.0 (reached-there k w x d.1) e) d.1,
          ))
          (λ j m a b. (
            derive-joint (view h).registers (view h).edges (joints h.entries) j m a.0 b.0,
            derive-joint (view k).registers (view k).edges (joints k.entries) j
                (t.joints j m (reached-there k w j.the_map a.1) (reached-there k w j.key b.1)) a.1 b.1,
          ))

-- Natives that leave

-- what a native held it goes on holding in heaps in which natives of its number are as it was
pub edge-stays : (h k : Heap) → IsWellFormed h → IsWellFormed k → (n : HeapNative) (x y : Name) → Among n h.natives → Among (x, y) (native_edges n) →
    Among x (names_there k) → ((o : HeapNative) → Among o k.natives → o.number ≡ n.number → IsOf h o) → Among (x, y) (view k).edges
edge-stays h k w v n x y m e left of =
    let start : native n.number ≡ x = (native_edges-are n x y e).0 in
    let o = named-member k n.number (native-there k n.number v (subst (λ z. Among z (names_there k)) (sym start) left)) in
    let p = of o.0 o.1 o.2 in
    let same : p.0 ≡ n = one-native h p.0 n w p.1 m (ap (λ (u : HeapNative). u.number) p.2 ∙ o.2) in
    let edges : native_edges n ≡ native_edges o.0 = native_edges-alike n o.0 (ap uncounted (sym same) ∙ p.2) in
    native-edge k o.0 x y o.1 (subst (λ es. Among (x, y) es) edges e)

-- natives that are left are as they were where they were reached, but for their counts; nothing else changes but the buffer
module _ (h k : Heap) (w : IsWellFormed h) (v : IsWellFormed k) (b : SameBeside h k)
    (of : (n : HeapNative) → Among n k.natives → ReachedIn (view h) (native n.number) → IsOf h n) where
  -- WHAT IS REACHED IS KEPT.
  pub left-keeps : KeepsReached h k
  left-keeps = record {
    registers = λ x m. subst (λ rs. Among x rs) (sym registers) m;
    edges = λ x y r there e. ⊎_elim
        (λ l. let f = Among-flat_map_cases native_edges h.natives (x, y) l in
        edge-stays h k w v f.0 x y f.1 f.2 there
        (λ o i same. of o i (subst (ReachedIn (view h)) (sym (ap native same ∙ (native_edges-are f.0 x y f.2).0)) r)))
        (λ l. Among-right (x, y) (flat_map native_edges k.natives) (flat_map script_edges k.scripts)
        (subst (λ os. Among (x, y) (flat_map script_edges os)) (sym b.scripts) l))
        (Among-append (x, y) (flat_map native_edges h.natives) (flat_map script_edges h.scripts) e);
    joints = λ j m a c. subst (λ es. Among j (joints es)) (sym b.entries) m;
  }
    where
      registers : (view k).registers ≡ (view h).registers
      registers = ap (λ rs. contents rs ++ contents k.script_registers) b.native_registers ∙ ap (λ rs. contents h.native_registers ++ contents rs) b.script_registers

-- A CASCADE takes out nothing that is reached.
pub cascade-reached : (owned : List ℕ) (h : Heap) (k : ℕ) → IsSound (k ∷ owned) h → (x : Name) → ReachedIn (view h) x → ReachedIn (view (cascade h k).heap) x
cascade-reached owned h k s =
    let f = cascade-frees owned h k s in
    let later = (cascade-sound owned h k s).well_formed in
    reached-kept h (cascade h k).heap later (left-keeps h (cascade h k).heap s.well_formed later f.1.beside (λ n m r. IsOf-frees h f.0 (cascade h k) f.1 n m))

-- Slots written

-- the edges of one native alone may be no more; registers and entries stay
record KeepsBut (k : ℕ) (h g : Heap) : Type 0 where
  registers : (view g).registers ≡ (view h).registers
  edges : (x y : Name) → Among (x, y) (view h).edges → Among (x, y) (view g).edges ⊎ (native k ≡ x)
  entries : g.entries ≡ h.entries

-- a slot of that native written
slot-keeps_but : (g : Heap) (k i : ℕ) (x : Option Name) → KeepsBut k g (change_native g k (with_native_slot i x))
slot-keeps_but g k i x = record {
  registers = refl;
  edges = λ y z m. ⊎_elim
      (λ l. let f = Among-flat_map_cases native_edges g.natives (y, z) l in
      ⊎_elim
      (λ e. inr (subst (λ j. native j ≡ y) (eqb-true f.0.number k e) (native_edges-are f.0 y z f.2).0))
      (λ e. inl (native-edge (change_native g k (with_native_slot i x)) f.0 y z (stays f.0 f.1 e) f.2))
      (cases_Bool (is_it f.0)))
      (λ r. inl (Among-right (y, z) (flat_map native_edges (change_native g k (with_native_slot i x)).natives) (flat_map script_edges g.scripts) r))
      (Among-append (y, z) (flat_map native_edges g.natives) (flat_map script_edges g.scripts) m);
  entries = refl;
}
  where
    is_it : HeapNative → Bool
    is_it n = n.number == k

    stays : (n : HeapNative) → Among n g.natives → is_it n ≡ false → Among n (change_native g k (with_native_slot i x)).natives
    stays n m e =
        let same : changed_where is_it (with_native_slot i x) n ≡ n = rw e refl in
        subst (λ z. Among z (map (changed_where is_it (with_native_slot i x)) g.natives)) same (Among-map (changed_where is_it (with_native_slot i x)) n g.natives m)

-- a reference taken before
taken-keeps_but : (h : Heap) (k i : ℕ) (x : Option Name) → KeepsBut k h (change_native (take_up h x) k (with_native_slot i x))
taken-keeps_but h k i x =
    let a = HoldsTheSame-take_up h x in
    let t = slot-keeps_but (take_up h x) k i x in
    record {
      registers = t.registers ∙ (ap (λ rs. contents rs ++ contents (take_up h x).script_registers) a.beside.native_registers
          ∙ ap (λ rs. contents h.native_registers ++ contents rs) a.beside.script_registers);
      edges = λ y z m. t.edges y z (subst (λ es. Among (y, z) es) (sym (edges-alike h (take_up h x) a)) m);
      entries = t.entries ∙ a.beside.entries;
    }

module _ (k : ℕ) (h g : Heap) (t : KeepsBut k h g) where
  -- reached in the second heaps, or that native is
  abbrev Either : Name → Type 0
  Either x = ReachedIn (view g) x ⊎ ReachedIn (view g) (native k)

  -- what was reached is so, or that native is
  either : (x : Name) → ReachedIn (view h) x → Either x
  either = derived-by_joints (view h).registers (view h).edges (joints h.entries) Either
      (λ x m. inl (derive-root (view g).registers (view g).edges (rules_of (joints g.entries)) x (subst (λ rs. Among x rs) (sym t.registers) m)))
      (λ x y e d. ⊎_elim
      (λ a. ⊎_elim
      (λ i. inl (derive-along (view g).registers (view g).edges (rules_of (joints g.entries)) x y i a))
      (λ s. inr (subst (ReachedIn (view g)) (sym s) a))
      (t.edges x y e))
      (λ a. inr a) d)
      (λ j m p q. ⊎_elim
      (λ a. ⊎_elim
      (λ b. inl (derive-joint (view g).registers (view g).edges (joints g.entries) j (subst (λ es. Among j (joints es)) (sym t.entries) m) a b))
      (λ b. inr b) q)
      (λ a. inr a) p)

  -- That native stays reached.
  but-reached : ReachedIn (view h) (native k) → ReachedIn (view g) (native k)
  but-reached r = ⊎_elim (λ a. a) (λ a. a) (either (native k) r)

-- A NATIVE THAT IS REACHED STAYS SO where one of its slots is written,
pub slot_written-reached : (g : Heap) (k i : ℕ) (x : Option Name) → ReachedIn (view g) (native k) → ReachedIn (view (change_native g k (with_native_slot i x))) (native k)
slot_written-reached g k i x = but-reached k g (change_native g k (with_native_slot i x)) (slot-keeps_but g k i x)

-- with a reference taken before, too.
pub written-reached : (h : Heap) (k i : ℕ) (x : Option Name) → ReachedIn (view h) (native k) → ReachedIn (view (change_native (take_up h x) k (with_native_slot i x))) (native k)
written-reached h k i x = but-reached k h (change_native (take_up h x) k (with_native_slot i x)) (taken-keeps_but h k i x)
