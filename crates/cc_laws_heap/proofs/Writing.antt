-- A SLOT WRITTEN ALIKE, OR A REFLECTOR PRESERVED ALIKE, in heaps and in the graph that they follow.
use Rattle.std.proofs.Common.{arith, ◌≡◌, ℕ, Bool, true, false, List, set, Option, Some, None, option_map, refl, sym, ◌∙◌, ap, subst, if◌then◌else◌, ◌==◌}
use Rattle.std.specs.Prelude.{IsTrue}
use Rattle.std.specs.Option.{option_and_then}
use Rattle.std.proofs.lemmas.Bool.{false≢true}
use Rattle.cc_lists.specs.Members.{Among}
use Rattle.cc_lists.proofs.Members.{Among-map_cases}
use Rattle.cc_names.specs.declared.name.Name.{Name}
use Rattle.cc_names.specs.declared.name.Name.TheVariants as name
use Rattle.cc_names.specs.Names.{native, object, reflector, same_name, is_script}
use Rattle.cc_model.specs.Slots.{Slots}
use Rattle.cc_model.specs.Graph.{Graph, GraphNative, GraphScript, numbered, native_in, script_in, set_native, set_script}
use Rattle.cc_model.specs.Heap.{Heap, HeapNative, HeapScript, change_native, change_script}
use Rattle.cc_model.specs.StandsFor.{Shape, shape_of_native, shape_of_object, shape_of_reflector, shape_of_held_native, shape_of_held_script, script_shape}
use Rattle.cc_lists.proofs.ListWrites.{changed_where-either}
use Rattle.cc_laws_heap.proofs.Natives.{changed_at-number}
use Rattle.cc_laws_heap.proofs.Numbered.{change_numbered, numbered-change, numbered-change_other, length-change}
use Rattle.cc_laws_heap.proofs.GraphParts.{with_natives, with_scripts}
use Rattle.cc_laws_heap.proofs.GraphWrites.{set_native-is, set_script-is}
use Rattle.cc_laws_heap.proofs.Changing.{Change, HeapChanges, GraphChanges, SameGraphBeside, option_map-same}

-- one object changed
abbrev pub changed_at : Name → (Shape → Shape) → Change
changed_at x f z s = if same_name z x then f s else s

-- slot i written
abbrev pub with_slot_written : ℕ → Option Name → Shape → Shape
with_slot_written i y s = record s { slots = option_map (λ (l : Slots). set l i y) s.slots }

-- its reflector preserved
abbrev pub with_preserved : Shape → Shape
with_preserved s = record s { preserved = true }

-- what is read of one that may have changed
changed-read : {X Y : Type 0} (g : X → Y) (a : X → X) (f : Y → Y) → ((x : X) → g (a x) ≡ f (g x)) → (b : Bool) (x : X) → g (if b then a x else x) ≡ (if b then f (g x) else g x)
changed-read g a f same e x = grind arith

-- the same of what may be there
changed-read_some : {X Y : Type 0} (g : X → Y) (a : X → X) (f : Y → Y) → ((x : X) → g (a x) ≡ f (g x)) → (b : Bool) (o : Option X) →
    option_map g (option_map (λ x. if b then a x else x) o) ≡ option_map (λ s. if b then f s else s) (option_map g o)
changed-read_some g a f same b e = grind (arith, changed-read)

-- In the graph

-- a member of a list in which one changed
pub numbered-changed : {X : Type 0} (xs : List X) (k : ℕ) (f : X → X) (j : ℕ) → numbered (change_numbered xs k f) j ≡ option_map (λ x. if j == k then f x else x) (numbered xs j)
numbered-changed {X} xs k f j = grind (arith, numbered-change, numbered-change_other)

-- a native changed, its reflector left
pub GraphChanges-native : (g : Graph) (k : ℕ) (a : GraphNative → GraphNative) (f : Shape → Shape) → ((n : GraphNative) → shape_of_native (a n) ≡ f (shape_of_native n)) →
    ((n : GraphNative) → (a n).reflector ≡ n.reflector) → GraphChanges (changed_at (native k) f) g (set_native g k (option_map a (native_in g k)))
GraphChanges-native g k a f changes keeps = subst (GraphChanges (changed_at (native k) f) g) (sym (set_native-is g k (option_map a (native_in g k)))) shapes
  where
    shapes : GraphChanges (changed_at (native k) f) g (with_natives g (change_numbered g.natives k a))
    shapes (name.Native j) = ap (option_map shape_of_native) (numbered-changed g.natives k a j.0)
        ∙ changed-read_some shape_of_native a f changes (j.0 == k) (native_in g j.0)
    shapes (name.Script j) = option_map-same (option_map shape_of_object (script_in g j.0))
    shapes (name.Reflector j) = ap (option_and_then shape_of_reflector) (numbered-changed g.natives k a j.0) ∙ go (j.0 == k) (native_in g j.0)
      where
        go : (b : Bool) (o : Option GraphNative) → option_and_then shape_of_reflector (option_map (λ n. if b then a n else n) o) ≡ option_map (λ s. s) (option_and_then shape_of_reflector o)
        go b None = refl
        go true (Some n) = ap (λ r. option_map (λ slots. script_shape (Some slots) None) r) (keeps n) ∙ option_map-same (shape_of_reflector n)
        go false (Some n) = option_map-same (shape_of_reflector n)

-- its reflector changed, the native left
pub GraphChanges-reflector : (g : Graph) (k : ℕ) (a : GraphNative → GraphNative) (f : Shape → Shape) → ((n : GraphNative) → shape_of_native (a n) ≡ shape_of_native n) →
    ((n : GraphNative) → shape_of_reflector (a n) ≡ option_map f (shape_of_reflector n)) → GraphChanges (changed_at (reflector k) f) g (set_native g k (option_map a (native_in g k)))
GraphChanges-reflector g k a f keeps changes = subst (GraphChanges (changed_at (reflector k) f) g) (sym (set_native-is g k (option_map a (native_in g k)))) shapes
  where
    shapes : GraphChanges (changed_at (reflector k) f) g (with_natives g (change_numbered g.natives k a))
    shapes (name.Native j) = ap (option_map shape_of_native) (numbered-changed g.natives k a j.0) ∙ go (j.0 == k) (native_in g j.0)
      where
        go : (b : Bool) (o : Option GraphNative) → option_map shape_of_native (option_map (λ n. if b then a n else n) o) ≡ option_map (λ s. s) (option_map shape_of_native o)
        go b None = refl
        go true (Some n) = ap (λ s. Some s) (keeps n)
        go false (Some n) = refl
    shapes (name.Script j) = option_map-same (option_map shape_of_object (script_in g j.0))
    shapes (name.Reflector j) = ap (option_and_then shape_of_reflector) (numbered-changed g.natives k a j.0) ∙ go (j.0 == k) (native_in g j.0)
      where
        go : (b : Bool) (o : Option GraphNative) → option_and_then shape_of_reflector (option_map (λ n. if b then a n else n) o) ≡ option_map (λ s. if b then f s else s) (option_and_then shape_of_reflector o)
        go b None = refl
        go true (Some n) = changes n
        go false (Some n) = option_map-same (shape_of_reflector n)

-- a script object changed
pub GraphChanges-script : (g : Graph) (k : ℕ) (a : GraphScript → GraphScript) (f : Shape → Shape) → ((o : GraphScript) → shape_of_object (a o) ≡ f (shape_of_object o)) →
    GraphChanges (changed_at (object k) f) g (set_script g k (option_map a (script_in g k)))
GraphChanges-script g k a f changes = subst (GraphChanges (changed_at (object k) f) g) (sym (set_script-is g k (option_map a (script_in g k)))) shapes
  where
    shapes : GraphChanges (changed_at (object k) f) g (with_scripts g (change_numbered g.scripts k a))
    shapes (name.Native j) = option_map-same (option_map shape_of_native (native_in g j.0))
    shapes (name.Script j) = ap (option_map shape_of_object) (numbered-changed g.scripts k a j.0)
        ∙ changed-read_some shape_of_object a f changes (j.0 == k) (script_in g j.0)
    shapes (name.Reflector j) = option_map-same (option_and_then shape_of_reflector (native_in g j.0))

-- a native changed leaves all beside the natives
pub SameGraphBeside-native : (g : Graph) (k : ℕ) (a : GraphNative → GraphNative) → SameGraphBeside g (set_native g k (option_map a (native_in g k)))
SameGraphBeside-native g k a = grind (arith, set_native-is, length-change)

-- a script object changed leaves all beside the script objects
pub SameGraphBeside-script : (g : Graph) (k : ℕ) (a : GraphScript → GraphScript) → SameGraphBeside g (set_script g k (option_map a (script_in g k)))
SameGraphBeside-script g k a = grind (arith, set_script-is, length-change)

-- In the heaps

-- a native changed
pub HeapChanges-native : (h : Heap) (k : ℕ) (a : HeapNative → HeapNative) (f : Shape → Shape) → ((n : HeapNative) → (a n).number ≡ n.number) →
    ((n : HeapNative) → (a n).unlinked ≡ n.unlinked) → ((n : HeapNative) → shape_of_held_native (a n) ≡ f (shape_of_held_native n)) → ((o : HeapScript) → Among o h.scripts → IsTrue (is_script o.name)) →
    HeapChanges (changed_at (native k) f) h (change_native h k a)
HeapChanges-native h k a f number flag changes named = record {
  natives = λ n i.
      let m = Among-map_cases (λ (n : HeapNative). if n.number == k then a n else n) h.natives n i in (
        m.0,
        m.1,
        sym (changed_at-number k a number m.0) ∙ ap (λ (n : HeapNative). n.number) m.2,
        ap shape_of_held_native (sym m.2) ∙ changed-read shape_of_held_native a f changes (m.0.number == k) m.0,
        sym (kept m.0 (m.0.number == k)) ∙ ap (λ (n : HeapNative). n.unlinked) m.2,
      );
  scripts = λ o i. (o, i, refl, same o o.name (named o i));
}
  where
    kept : (n : HeapNative) (b : Bool) → (if b then a n else n).unlinked ≡ n.unlinked
    kept n true = flag n
    kept n false = refl

    same : (o : HeapScript) (x : Name) → IsTrue (is_script x) → shape_of_held_script o ≡ changed_at (native k) f x (shape_of_held_script o)
    same o (name.Native j) s = absurd (false≢true s)
    same o _ s = refl

-- a script object changed
pub HeapChanges-script : (h : Heap) (x : Name) (a : HeapScript → HeapScript) (f : Shape → Shape) → IsTrue (is_script x) → ((o : HeapScript) → (a o).name ≡ o.name) →
    ((o : HeapScript) → shape_of_held_script (a o) ≡ f (shape_of_held_script o)) → HeapChanges (changed_at x f) h (change_script h x a)
HeapChanges-script h x a f script names changes = record {
  natives = λ n i. (n, i, refl, same n x script, refl);
  scripts = λ o i.
      let p = Among-map_cases (λ (o : HeapScript). if same_name o.name x then a o else o) h.scripts o i in
      (p.0, p.1, sym (changed_where-either (λ q. q.name ≡ p.0.name) (λ q. same_name q.name x) a p.0 (λ e. names p.0) refl) ∙ ap (λ (o : HeapScript). o.name) p.2, ap shape_of_held_script (sym p.2) ∙ changed-read shape_of_held_script a f changes (same_name p.0.name x) p.0);
}
  where
    same : (n : HeapNative) (y : Name) → IsTrue (is_script y) → shape_of_held_native n ≡ changed_at y f (native n.number) (shape_of_held_native n)
    same n (name.Native j) s = absurd (false≢true s)
    same n _ s = refl
