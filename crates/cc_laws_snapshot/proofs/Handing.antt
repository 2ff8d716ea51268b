-- A REFERENCE HANDED OVER IS A LOYAL CHANGE: first heaps change so that only what is then given up loses a reference,
-- and a register holds or reaches who was touched or made; then what was held before is given up.
use Rattle.std.proofs.Common.{◌≡◌, ℕ, true, List, ◌++◌, Option, Some, None, refl, sym, ◌∙◌, ap, subst, inl, inr, ◌⊎◌, ⊎_elim, []}
use Rattle.cc_lists.specs.Members.{Among}
use Rattle.cc_lists.proofs.Members.{Among-map, Among-map_cases, Among-left, Among-append}
use Rattle.cc_lists.proofs.Least.{derive-root}
use Rattle.cc_names.specs.declared.name.Name.{Name}
use Rattle.cc_names.specs.declared.name.Name.TheVariants as name
use Rattle.cc_names.specs.Names.{native, reflector, number_of, is_script}
use Rattle.cc_model.specs.Slots.{contents}
use Rattle.cc_model.specs.Entries.{joints, rules_of}
use Rattle.cc_model.specs.Heap.{Heap, HeapNative, HeapScript}
use Rattle.cc_model.specs.View.{view, ReachedIn}
use Rattle.cc_model.specs.Cascade.{let_go}
use Rattle.cc_model.specs.WellFormed.{IsWellFormed, native_names, script_names}
use Rattle.cc_model.specs.Fresh.{IsLiving}
use Rattle.cc_laws_heap.specs.Sound.{IsSound, numbers_of}
use Rattle.cc_laws_heap.proofs.ScriptsKept.{native-no_script as script-no_native}
use Rattle.cc_laws_heap.proofs.ScriptNames.{place-there}
use Rattle.cc_laws_snapshot.proofs.NamePairs.{native-no_script}
use Rattle.cc_laws_snapshot.proofs.Edges.{edge-of, script_edges-has, native_edges-has}
use Rattle.cc_laws_snapshot.specs.Losing.{PurpleOrGone, Loses, IsLoyal}
use Rattle.cc_laws_snapshot.proofs.BufferMarks.{IsPurple, buffer-place}
use Rattle.cc_laws_snapshot.proofs.NamesAndEdges.{named-of_living, living-number, living-of_named}
use Rattle.cc_laws_snapshot.proofs.LoyalSuspected.{loses-same}
use Rattle.cc_laws_snapshot.proofs.ReachedStays.{cascade-reached, native-edge, script-edge}
use Rattle.cc_laws_snapshot.proofs.CascadeLoses.{cascade-loses}

-- Edges to natives

-- what refers to a native: a native that has it in a slot, or its reflector
pub edge-to : (h : Heap) (x : Name) (i : ℕ) → IsWellFormed h → Among (x, native i) (view h).edges →
    ((n : HeapNative) × Among n h.natives × (native n.number ≡ x) × Among (native i) (contents n.slots)) ⊎
    ((reflector i ≡ x) × Among (reflector i) (script_names h))
edge-to h x i w m = ⊎_elim
    (λ a. ⊎_elim
    (λ s. inl (a.0, a.1, a.2, s))
    (λ p. absurd (native-no_script (native i) refl (subst (λ z. is_script z ≡ true) p.1 refl))) a.3)
    (λ a. ⊎_elim
    (λ s. absurd (script-no_native h i w (place-there h w a.0 a.1 (native i) s)))
    (λ p.
    let same : a.0.name ≡ reflector i = p.1 ∙ ap (λ z. reflector (number_of z)) p.2 in
    inr (sym same ∙ a.2, subst (λ z. Among z (script_names h)) same (Among-map (λ (o : HeapScript). o.name) a.0 h.scripts a.1))) a.3)
    (edge-of h x (native i) m)

-- a native that has it in a slot refers to it
pub edge-from_slot : (h : Heap) (n : HeapNative) (y : Name) → Among n h.natives → Among y (contents n.slots) → Among (native n.number, y) (view h).edges
edge-from_slot h n y there m = native-edge h n (native n.number) y there (native_edges-has n (native n.number) y refl (inl m))

-- a reflector refers to its native
pub edge-from_reflector : (h : Heap) (i : ℕ) → Among (reflector i) (script_names h) → Among (reflector i, native i) (view h).edges
edge-from_reflector h i m =
    let f = Among-map_cases (λ (o : HeapScript). o.name) h.scripts (reflector i) m in
    script-edge h f.0 (reflector i) (native i) f.1 (script_edges-has f.0 (reflector i) (native i) f.2 (inr (i, f.2, refl)))

-- The first part of the change

-- what a native register holds is reached
pub register-reached : (h : Heap) (x : Name) → Among x (contents h.native_registers) → ReachedIn (view h) x
register-reached h x m = derive-root (view h).registers (view h).edges (rules_of (joints h.entries)) x (Among-left x (contents h.native_registers) (contents h.script_registers) m)

-- only the natives `owned` and those that are reached lose references; who loses his mark, enters the buffer or is made is reached
pub record Hands (owned : List ℕ) (h g : Heap) : Type 0 where
  pub slots : (n : HeapNative) (i : ℕ) → Among n h.natives → Among (native i) (contents n.slots) →
      ((m : HeapNative) × Among m g.natives × (m.number ≡ n.number) × Among (native i) (contents m.slots)) ⊎ (Among i owned ⊎ ReachedIn (view g) (native i))
  pub reflectors : (i : ℕ) → Among (reflector i) (script_names h) → Among (reflector i) (script_names g)
  pub registers : (i : ℕ) → Among (native i) (contents h.native_registers) → Among (native i) (contents g.native_registers) ⊎ Among i owned
  pub purple : (i : ℕ) → IsPurple h i → IsPurple g i ⊎ ReachedIn (view g) (native i)
  pub buffer : (i : ℕ) → Among (native i) (view g).buffer → Among (native i) (view h).buffer ⊎ ReachedIn (view g) (native i)
  pub living : (i : ℕ) → Among (native i) (native_names g) → Among (native i) (native_names h) ⊎ ReachedIn (view g) (native i)

-- What is given up

-- what giving up what was held does: only references are lost, the native that was held is purple or gone, what is
-- reached stays so
pub record LetsGo (y : Option Name) (g f : Heap) : Type 0 where
  pub loses : Loses (view g) (view f)
  pub given : (i : ℕ) → Among i (numbers_of y) → PurpleOrGone (view f) i
  pub reached : (x : Name) → ReachedIn (view g) x → ReachedIn (view f) x

-- where nothing is given up
LetsGo-nothing : (y : Option Name) (g : Heap) → ((i : ℕ) → ¬ (Among i (numbers_of y))) → LetsGo y g g
LetsGo-nothing y g none = record { loses = loses-same (view g); given = λ i m. absurd (none i m); reached = λ x r. r }

-- so it is for all that a register or slot may have held, whatever else is owned
pub let_go-loses : (owned : List ℕ) (y : Option Name) (g : Heap) → IsSound (numbers_of y ++ owned) g → LetsGo y g (let_go g y).heap
let_go-loses owned (Some (name.Native k)) g s =
    let c = cascade-loses owned g k.0 s in
    record {
      loses = c.0;
      given = λ i m. ⊎_elim (λ e. subst (PurpleOrGone (view (let_go g (Some (name.Native k))).heap)) e c.1) (λ b. absurd b) m;
      reached = cascade-reached owned g k.0 s;
    }
let_go-loses owned x g s = LetsGo-nothing x g (λ i m. m)

-- Both parts

module _ (y : Option Name) (h g f : Heap) (before : IsWellFormed h) (c : Hands (numbers_of y) h g) (l : LetsGo y g f) where
  -- an edge to a native
  edge-kept : (x : Name) (i : ℕ) → Among (x, native i) (view h).edges → Among (x, native i) (view f).edges ⊎ (PurpleOrGone (view f) i ⊎ ReachedIn (view f) (native i))
  edge-kept x i m = ⊎_elim
      (λ a. ⊎_elim
      (λ b. stays (subst (λ z. Among (z, native i) (view g).edges) (ap native b.2 ∙ a.2) (edge-from_slot g b.0 (native i) b.1 b.3)))
      (λ b. inr (⊎_elim (λ o. inl (l.given i o)) (λ r. inr (l.reached (native i) r)) b))
      (c.slots a.0 i a.1 a.3))
      (λ a. stays (subst (λ z. Among (z, native i) (view g).edges) a.0 (edge-from_reflector g i (c.reflectors i a.1))))
      (edge-to h x i before m)
    where
      stays : Among (x, native i) (view g).edges → Among (x, native i) (view f).edges ⊎ (PurpleOrGone (view f) i ⊎ ReachedIn (view f) (native i))
      stays e = ⊎_elim (λ k. inl k) (λ p. inr (inl p)) (l.loses.edge x i e)

  -- a native in a register
  register-kept : (i : ℕ) → Among (native i) (view h).registers → Among (native i) (view f).registers ⊎ PurpleOrGone (view f) i
  register-kept i m = ⊎_elim
      (λ n. ⊎_elim
      (λ k. l.loses.register i (Among-left (native i) (contents g.native_registers) (contents g.script_registers) k))
      (λ o. inr (l.given i o)) (c.registers i n))
      (λ n. absurd (script-no_native h i before (before.script_registers (native i) n)))
      (Among-append (native i) (contents h.native_registers) (contents h.script_registers) m)

  -- who stands in the buffer
  buffer-kept : (x : Name) → Among x (view f).buffer → Among x (view h).buffer ⊎ (Among x (view f).purple ⊎ ReachedIn (view f) x)
  buffer-kept x m =
      let b = buffer-place f x m in
      let k : ℕ = b.0.number in
      subst (λ z. Among z (view h).buffer ⊎ (Among z (view f).purple ⊎ ReachedIn (view f) z)) b.2
      (⊎_elim
      (λ n. ⊎_elim (λ o. inl o) (λ r. inr (inr (l.reached (native k) r))) (c.buffer k n))
      (λ p. inr (inl p))
      (l.loses.buffer (native k) (subst (λ z. Among z (view f).buffer) (sym b.2) m)))

  -- who lives
  living-kept : (x : Name) → IsLiving (view f) x → IsLiving (view h) x ⊎ ReachedIn (view f) x
  living-kept x a =
      let n = living-number f x a in
      subst (λ z. IsLiving (view h) z ⊎ ReachedIn (view f) z) n.1
      (⊎_elim
      (λ o. inl (living-of_named h (native n.0) o))
      (λ r. inr (l.reached (native n.0) r))
      (c.living n.0 (named-of_living g (native n.0) (l.loses.living (native n.0) (subst (IsLiving (view f)) (sym n.1) a)))))

  -- BOTH TOGETHER ARE LOYAL.
  both-loyal : IsLoyal (view h) (view f)
  both-loyal = record {
    edge = edge-kept;
    register = λ i m. ⊎_elim (λ e. inl e) (λ p. inr (inl p)) (register-kept i m);
    purple = λ i m. ⊎_elim (λ p. inl (l.loses.purple i p)) (λ r. inr (l.reached (native i) r)) (c.purple i m);
    buffer = buffer-kept;
    living = living-kept;
  }

-- What is handed over, and what was held then given up, is a loyal change.
pub handed-loyal : (owned : List ℕ) (y : Option Name) (h g : Heap) → IsWellFormed h → IsSound (numbers_of y ++ owned) g → Hands (numbers_of y) h g →
    IsLoyal (view h) (view (let_go g y).heap)
handed-loyal owned y h g w s c = both-loyal y h g (let_go g y).heap w c (let_go-loses owned y g s)

-- And so is one where nothing was held.
pub hands-loyal : (h g : Heap) → IsWellFormed h → Hands [] h g → IsLoyal (view h) (view g)
hands-loyal h g w c = both-loyal None h g g w c (LetsGo-nothing None g (λ i m. m))
