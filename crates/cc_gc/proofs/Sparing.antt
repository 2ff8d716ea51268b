-- WHAT IS REACHED STAYS AS IT WAS, where heaps hold nothing more and what is reached keeps what it holds.
use Rattle.std.proofs.Common.{◌≡◌, List, [], ◌++◌, Some, refl, sym, ◌∙◌, ap, subst, ⊎_elim}
use Rattle.cc_lists.specs.Members.{Among}
use Rattle.cc_lists.proofs.Members.{Among-left, Among-right, Among-append}
use Rattle.cc_lists.proofs.Least.{derive-root, derive-along}
use Rattle.cc_names.specs.declared.name.Name.{Name}
use Rattle.cc_names.specs.Names.{native}
use Rattle.cc_model.specs.declared.item.Event.{Event}
use Rattle.cc_model.specs.declared.item.Event.TheVariants.{Unlinked, Freed}
use Rattle.cc_model.specs.Entries.{Entry, joints, rules_of}
use Rattle.cc_model.specs.Heap.{Heap, HeapNative, HeapScript}
use Rattle.cc_model.specs.View.{view, ReachedIn}
use Rattle.cc_model.specs.WellFormed.{IsWellFormed, names_there}
use Rattle.cc_model.specs.StandsFor.{Shape, native_shape, shape_at, shape_of_held_script, shape_of_held_native}
use Rattle.cc_model.proofs.Joints.{derive-joint, derived-by_joints, gives-joint, joint-cases}
use Rattle.cc_laws_heap.proofs.Face.{IsOf, shape_at-native, shape_at-script}
use Rattle.cc_laws_snapshot.proofs.Face.{reached-there}
use Rattle.cc_gc.specs.Sparing.{KeepsWhatIsReached, IsUnreached, SparesWhatIsReached}

-- Heaps that hold no more

-- what the second heaps hold the first hold
pub record HoldsNoMore (h k : Heap) : Type 0 where
  pub registers : (x : Name) → Among x (view k).registers → Among x (view h).registers
  pub edges : (x y : Name) → Among (x, y) (view k).edges → Among (x, y) (view h).edges
  pub entries : (e : Entry) → Among e k.entries → Among e h.entries

-- what they reach the first reach
pub no_more-reached : (h k : Heap) → HoldsNoMore h k → (x : Name) → ReachedIn (view k) x → ReachedIn (view h) x
no_more-reached h k t = derived-by_joints (view k).registers (view k).edges (joints k.entries) (ReachedIn (view h))
    (λ x m. derive-root (view h).registers (view h).edges (rules_of (joints h.entries)) x (t.registers x m))
    (λ x y e d. derive-along (view h).registers (view h).edges (rules_of (joints h.entries)) x y (t.edges x y e) d)
    (λ j m a b.
    let f = joint-cases k.entries j m in
    derive-joint (view h).registers (view h).edges (joints h.entries) j (gives-joint h.entries f.0 j (t.entries f.0 f.1) f.2) a b)

-- Shapes

-- a native that is as it was, but for its count, has its shape
pub native-shape : (h k : Heap) → IsWellFormed h → IsWellFormed k → (n : HeapNative) → Among n k.natives → IsOf h n →
    shape_at k (native n.number) ≡ shape_at h (native n.number)
native-shape h k w v n m p =
    shape_at-native k v n m
    ∙ (ap (λ (u : HeapNative). Some (shape_of_held_native u)) (sym p.2)
    ∙ (sym (shape_at-native h w p.0 p.1) ∙ ap (λ (u : HeapNative). shape_at h (native u.number)) p.2))

-- a script object that is as it was has its shape
pub script-shape : (h k : Heap) → IsWellFormed h → IsWellFormed k → (o p : HeapScript) → Among o h.scripts → Among p k.scripts →
    o.name ≡ p.name → shape_of_held_script o ≡ shape_of_held_script p → shape_at k p.name ≡ shape_at h p.name
script-shape h k w v o p m i name shape =
    shape_at-script k v p i ∙ (ap Some (sym shape) ∙ (sym (shape_at-script h w o m) ∙ ap (shape_at h) name))

-- What is kept

-- heaps that stay keep what is reached
pub keeps-same : (h : Heap) → IsWellFormed h → KeepsWhatIsReached h h
keeps-same h w = record {
  native_registers = refl;
  script_registers = refl;
  alike = λ x. (λ r. r, λ r. r);
  there = reached-there h w;
  shape = λ x r. refl;
  value = λ m k a b. refl;
}

-- what is kept twice is kept
pub keeps-then : (h g k : Heap) → KeepsWhatIsReached h g → KeepsWhatIsReached g k → KeepsWhatIsReached h k
keeps-then h g k a b = record {
  native_registers = b.native_registers ∙ a.native_registers;
  script_registers = b.script_registers ∙ a.script_registers;
  alike = λ x. (λ r. (b.alike x).0 ((a.alike x).0 r), λ r. (a.alike x).1 ((b.alike x).1 r));
  there = λ x r. b.there x ((a.alike x).0 r);
  shape = λ x r. b.shape x ((a.alike x).0 r) ∙ a.shape x r;
  value = λ m i r t. b.value m i ((a.alike m).0 r) ((a.alike i).0 t) ∙ a.value m i r t;
}

module _ (h k : Heap) (a : KeepsWhatIsReached h k) where
  -- what was unreached is so
  pub unreached-before : (x : Name) → ¬ (ReachedIn (view h) x) → IsUnreached h k x
  unreached-before x d = record { before = d; afterwards = λ r. d ((a.alike x).1 r) }

  -- what is unreached was so
  pub unreached-after : (x : Name) → ¬ (ReachedIn (view k) x) → IsUnreached h k x
  unreached-after x d = record { before = λ r. d ((a.alike x).0 r); afterwards = d }

-- Events

-- where nothing was done nothing is told
pub spares-nothing : (h k : Heap) → names_there k ≡ names_there h → SparesWhatIsReached h k []
spares-nothing h k e = record {
  unlinked = λ x m. absurd m;
  freed = λ x m. absurd m;
  left = λ x. (λ m. (subst (Among x) e m, λ n. absurd n), λ p. subst (Among x) (sym e) p.0);
}

-- what spares and then spares again spares
pub spares-then : (h g k : Heap) (es fs : List Event) → KeepsWhatIsReached h g → KeepsWhatIsReached g k → SparesWhatIsReached h g es → SparesWhatIsReached g k fs →
    SparesWhatIsReached h k (es ++ fs)
spares-then h g k es fs a b s t = record {
  unlinked = λ x m. ⊎_elim (λ l. early x (s.unlinked x l)) (λ r. late x (t.unlinked x r)) (Among-append (Unlinked x) es fs m);
  freed = λ x m. ⊎_elim (λ l. early x (s.freed x l)) (λ r. late x (t.freed x r)) (Among-append (Freed x) es fs m);
  left = λ x. (
    λ m.
        let q = (t.left x).0 m in
        let p = (s.left x).0 q.0 in
        (p.0, λ i. ⊎_elim p.1 q.1 (Among-append (Freed x) es fs i)),
    λ p. (t.left x).1 ((s.left x).1 (p.0, λ i. p.1 (Among-left (Freed x) es fs i)), λ i. p.1 (Among-right (Freed x) es fs i)),
  );
}
  where
    early : (x : Name) → IsUnreached h g x → IsUnreached h k x
    early x u = unreached-before h k (keeps-then h g k a b) x u.before

    late : (x : Name) → IsUnreached g k x → IsUnreached h k x
    late x u = unreached-after h k (keeps-then h g k a b) x u.afterwards
