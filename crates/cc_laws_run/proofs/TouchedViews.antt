-- CHANGES THAT SPARE DOOMED NAMES: these stay as they are, and nothing new comes to hold one of them.
use Rattle.std.proofs.Common.{arith, ◌≡◌, ℕ, true, List, [], ◌++◌, map, sym, ◌∙◌, ap, subst, inl, inr, ◌⊎◌, ⊎_elim}
use Rattle.std.specs.List.{flat_map}
use Rattle.cc_lists.specs.Members.{Among}
use Rattle.cc_lists.specs.Least.{Least, system}
use Rattle.cc_lists.proofs.Members.{Among-map, Among-map_cases, Among-append, Among-flat_map_cases}
use Rattle.cc_lists.proofs.Least.{derive-root, derive-along, derived-within}
use Rattle.cc_names.specs.declared.name.Name.{Name}
use Rattle.cc_names.specs.Names.{native}
use Rattle.cc_model.specs.Slots.{Slots, contents}
use Rattle.cc_model.specs.Entries.{Entry, Joint, joints}
use Rattle.cc_model.specs.Heap.{Heap, HeapNative, HeapScript, Buffered, is_black_colour}
use Rattle.cc_model.specs.View.{View, view, native_edges, script_edges, buffered}
use Rattle.cc_model.specs.WellFormed.{native_names, script_names}
use Rattle.cc_model.specs.Snapshot.{Snapshot, node_names}
use Rattle.cc_model.specs.Fresh.{IsLiving, IsScriptThere}
use Rattle.cc_laws_heap.proofs.ViewEdges.{native_edges-are, script_edges-are}
use Rattle.cc_laws_heap.proofs.Coloured.{names_with-is}
use Rattle.cc_laws_snapshot.proofs.SoundView.{living-native, named-there, there-named}
use Rattle.cc_laws_snapshot.proofs.ReachedStays.{native-edge, script-edge}
use Rattle.cc_laws_run.specs.Doomed.{IsDoomed}
use Rattle.cc_laws_snapshot.proofs.NamesAndEdges.{living-of_named}

-- Members stay; what holds or marks one of them did so before; what one holds of them it still holds, and what entries give of them they still give.
pub record Spares (ds : List Name) (v w : View) : Type 0 where
  pub natives : (i : ℕ) → Among (native i) ds → IsLiving v (native i) → IsLiving w (native i)
  pub scripts : (x : Name) → Among x ds → IsScriptThere v x → IsScriptThere w x
  pub registers : (x : Name) → Among x ds → Among x w.registers → Among x v.registers
  pub buffer : (x : Name) → Among x ds → Among x w.buffer → Among x v.buffer
  pub black : (x : Name) → Among x ds → Among x w.black → Among x v.black
  pub edges : (x y : Name) → Among y ds → Among (x, y) w.edges → Among (x, y) v.edges
  pub joints : (e : Joint) → Among e.value ds → Among e w.joints → Among e v.joints
  pub within : (x y : Name) → Among x ds → Among y ds → Among (x, y) v.edges → Among (x, y) w.edges
  pub kept : (e : Joint) → Among e.value ds → Among e v.joints → Among e w.joints

-- What is doomed stays so where it is spared.
pub doomed-spared : (s : Snapshot) (ds : List Name) (v w : View) → Spares ds v w → IsDoomed v s ds → IsDoomed w s ds
doomed-spared s ds v w p d = record {
  natives = λ i m. p.natives i m (d.natives i m);
  scripts = λ x m e. p.scripts x m (d.scripts x m e);
  unregistered = λ x m r. d.unregistered x m (p.registers x m r);
  unbuffered = λ x m r. d.unbuffered x m (p.buffer x m r);
  unmarked = λ x m r. d.unmarked x m (p.black x m r);
  holder = λ x y e m. d.holder x y (p.edges x y m e) m;
  joint = λ e i m. d.joint e (p.joints e m i) m;
  noted_held = λ x y m i. p.within x y (d.holder x y (d.noted_held x y m i) i) i (d.noted_held x y m i);
  mapping_held = λ m n i. let e = d.mapping_held m n i in (e.0, p.kept e.0 (subst (λ z. Among z ds) (sym e.2.value) i) e.1, e.2);
  covered = λ x m. covered x (d.covered x m) m;
}
  where
    covered : (x : Name) → Least (system (node_names s) v.edges []) x → Among x ds → Least (system (node_names s) w.edges []) x
    covered = derived-within (node_names s) v.edges [] (λ x. Among x ds → Least (system (node_names s) w.edges []) x)
        (λ x m a. derive-root (node_names s) w.edges [] x m)
        (λ x y m h a. let held = d.holder x y m a in derive-along (node_names s) w.edges [] x y (p.within x y held a m) (h held))
        (λ ps z m h a. absurd m)

-- The edges of heaps, object by object

-- each edge is one of a native or a script object that is there
pub edge-cases : (h : Heap) (x y : Name) → Among (x, y) (view h).edges →
    ((n : HeapNative) × Among n h.natives × Among (x, y) (native_edges n)) ⊎ ((o : HeapScript) × Among o h.scripts × Among (x, y) (script_edges o))
edge-cases h x y m = ⊎_elim
    (λ l. inl (Among-flat_map_cases native_edges h.natives (x, y) l))
    (λ r. inr (Among-flat_map_cases script_edges h.scripts (x, y) r))
    (Among-append (x, y) (flat_map native_edges h.natives) (flat_map script_edges h.scripts) m)

-- One list of the heaps changed

module _ (ds : List Name) (h : Heap) where
  -- registers changed, which hold no member that they did not hold
  pub Spares-registers : (ns ss : Slots) →
      ((x : Name) → Among x ds → Among x (contents ns ++ contents ss) → Among x (view h).registers) →
      Spares ds (view h) (view (record h { native_registers = ns; script_registers = ss }))
  Spares-registers ns ss old = grind arith

  -- the buffer changed, which has no member that it did not have
  pub Spares-buffer : (bs : List Buffered) → ((x : Name) → Among x ds → Among x (map buffered bs) → Among x (view h).buffer) →
      Spares ds (view h) (view (record h { buffer = bs }))
  Spares-buffer bs old = grind arith

  -- entries changed; the joints that give members are those that were there
  pub Spares-entries : (es : List Entry) → ((e : Joint) → Among e.value ds → Among e (joints es) → Among e (joints h.entries)) →
      ((e : Joint) → Among e.value ds → Among e (joints h.entries) → Among e (joints es)) → Spares ds (view h) (view (record h { entries = es }))
  Spares-entries es old kept = grind arith

  -- natives changed: members among them stay and hold what members they held; no edge to a member is new
  pub Spares-natives : (ns : List HeapNative) →
      ((n : HeapNative) → Among n h.natives → Among (native n.number) ds → (m : HeapNative) × Among m ns × (m.number ≡ n.number) ×
      ((y : Name) → Among y ds → Among (native n.number, y) (native_edges n) → Among (native n.number, y) (native_edges m))) →
      ((m : HeapNative) (x y : Name) → Among m ns → Among y ds → Among (x, y) (native_edges m) → Among (x, y) (view h).edges) →
      Spares ds (view h) (view (record h { natives = ns }))
  Spares-natives ns stay old = record {
    natives = λ i m l.
        let f = living-native h (native i) l.0 l.1 in
        let k = stay f.0 f.1 (subst (λ z. Among z ds) (sym f.2) m) in
        living-of_named g (native i) (subst (λ z. Among z (native_names g)) (ap native k.2 ∙ f.2) (Among-map (λ (n : HeapNative). native n.number) k.0 ns k.1));
    scripts = λ x m l. l;
    registers = λ x m r. r;
    buffer = λ x m r. r;
    black = λ x m r. r;
    edges = λ x y m e. ⊎_elim (λ f. old f.0 x y f.1 m f.2) (λ f. script-edge h f.0 x y f.1 f.2) (edge-cases g x y e);
    joints = λ e m i. i;
    within = λ x y a b e. ⊎_elim
        (λ f.
        let start = (native_edges-are f.0 x y f.2).0 in
        let k = stay f.0 f.1 (subst (λ z. Among z ds) (sym start) a) in
        native-edge g k.0 x y k.1 (subst (λ z. Among (z, y) (native_edges k.0)) start
        (k.3 y b (subst (λ z. Among (z, y) (native_edges f.0)) (sym start) f.2))))
        (λ f. script-edge g f.0 x y f.1 f.2) (edge-cases h x y e);
    kept = λ e m i. i;
  }
    where
      g : Heap
      g = record h { natives = ns }

  -- script objects changed: members among them stay and hold what members they held; no edge to a member is new, no member becomes black
  pub Spares-scripts : (ss : List HeapScript) →
      ((o : HeapScript) → Among o h.scripts → Among o.name ds → (p : HeapScript) × Among p ss × (p.name ≡ o.name) ×
      ((y : Name) → Among y ds → Among (o.name, y) (script_edges o) → Among (o.name, y) (script_edges p))) →
      ((p : HeapScript) (x y : Name) → Among p ss → Among y ds → Among (x, y) (script_edges p) → Among (x, y) (view h).edges) →
      ((p : HeapScript) → Among p ss → Among p.name ds → is_black_colour p.colour ≡ true → Among p.name (view h).black) →
      Spares ds (view h) (view (record h { scripts = ss }))
  Spares-scripts ss stay old dark = record {
    natives = λ i m l. l;
    scripts = λ x m l.
        let f = Among-map_cases (λ (o : HeapScript). o.name) h.scripts x (named-there h x l) in
        let k = stay f.0 f.1 (subst (λ z. Among z ds) (sym f.2) m) in
        there-named g x (subst (λ z. Among z (script_names g)) (k.2 ∙ f.2) (Among-map (λ (o : HeapScript). o.name) k.0 ss k.1));
    registers = λ x m r. r;
    buffer = λ x m r. r;
    black = λ x m r.
        let f = names_with-is (λ o. is_black_colour o.colour) ss x r in
        subst (λ z. Among z (view h).black) f.3 (dark f.0 f.1 (subst (λ z. Among z ds) (sym f.3) m) f.2);
    edges = λ x y m e. ⊎_elim (λ f. native-edge h f.0 x y f.1 f.2) (λ f. old f.0 x y f.1 m f.2) (edge-cases g x y e);
    joints = λ e m i. i;
    within = λ x y a b e. ⊎_elim
        (λ f. native-edge g f.0 x y f.1 f.2)
        (λ f.
        let start = (script_edges-are f.0 x y f.2).0 in
        let k = stay f.0 f.1 (subst (λ z. Among z ds) (sym start) a) in
        script-edge g k.0 x y k.1 (subst (λ z. Among (z, y) (script_edges k.0)) start
        (k.3 y b (subst (λ z. Among (z, y) (script_edges f.0)) (sym start) f.2))))
        (edge-cases h x y e);
    kept = λ e m i. i;
  }
    where
      g : Heap
      g = record h { scripts = ss }
