-- HEAPS THAT FOLLOW A GRAPH, but that what is given may be missing from them. Where they are well formed it is there,
-- so that they stand for the graph.
use Rattle.std.proofs.Common.{arith, ◌≡◌, ℕ, true, false, List, ◌++◌, length, Option, Some, None, option_map, refl, sym, ◌∙◌, ap, subst, inl, inr, ◌⊎◌, ⊎_elim}
use Rattle.std.specs.Prelude.{IsTrue}
use Rattle.cc_lists.specs.Members.{Among}
use Rattle.cc_lists.proofs.Members.{Among-left, Among-right, Among-append}
use Rattle.cc_names.specs.declared.name.Name.{Name}
use Rattle.cc_names.specs.Names.{native, reflector, is_script}
use Rattle.cc_model.specs.Slots.{Slots, contents, empty_slots, reflector_slots}
use Rattle.cc_model.specs.Entries.{Entry, value_in}
use Rattle.cc_model.specs.Graph.{Graph, GraphNative, native_in}
use Rattle.cc_model.specs.Reached.{roots_of}
use Rattle.cc_model.specs.Given.{GivenFrom, given, given_edge, given_value, given_key, Given, living_names}
use Rattle.cc_model.specs.Heap.{Heap, HeapNative, HeapScript}
use Rattle.cc_model.specs.WellFormed.{IsWellFormed}
use Rattle.cc_model.specs.StandsFor.{Shape, shape_in, shape_of_native, shape_of_held_native, shape_of_held_script, script_shape, ArePart, IsEmptied, NativeStands, IsNoKey, StandsFor}
use Rattle.cc_laws_heap.proofs.ScriptNames.{script-named}
use Rattle.cc_laws_heap.proofs.Given.{named-living, living-given}
use Rattle.cc_laws_heap.proofs.Shapes.{edges_of_shape, edges_of_some, edges_of-shape, IsOfNone, no_delegate-of_none}
use Rattle.cc_laws_heap.proofs.HeapShapes.{shape_at-native}
use Rattle.cc_laws_heap.proofs.ReachedAlike.{edges_of-made}

-- `P` holds of what the registers of the graph have, and of all that leads on from there
pub record IsClosed (P : Name → Type 0) (g : Graph) : Type 0 where
  pub native_registers : (x : Name) → Among x (contents g.native_registers) → P x
  pub script_registers : (x : Name) → Among x (contents g.script_registers) → P x
  pub edges : (x y : Name) (s : Shape) → P x → shape_in g x ≡ Some s → Among y (edges_of_shape x s) → P y
  pub entries : (e : Entry) → Among e g.entries → P e.the_map → P e.key → P e.value
  pub keys : (e : Entry) (d : Name) → Among e g.entries → e.delegate ≡ Some d → P e.the_map → P d → P e.key

-- registers, limits and numbers made agree
pub record AgreesBeside (h : Heap) (g : Graph) : Type 0 where
  pub native_registers : h.native_registers ≡ g.native_registers
  pub script_registers : h.script_registers ≡ g.script_registers
  pub limits : h.limits ≡ g.limits
  pub natives_made : h.natives_made ≡ length g.natives
  pub scripts_made : h.scripts_made ≡ length g.scripts

-- a native of the heaps was made in the graph, and has its shape there, or was unlinked
abbrev pub NativeFollows : Graph → HeapNative → Type 0
NativeFollows g n = (s : Shape) × (shape_in g (native n.number) ≡ Some s) × ((shape_of_held_native n ≡ s) ⊎ IsEmptied n)

-- the objects of the heaps are in the graph; those of which `P` holds as they are there. It holds of each native that was
-- not unlinked, and of no other
pub record AreObjects (P : Name → Type 0) (h : Heap) (g : Graph) : Type 0 where
  pub natives : (n : HeapNative) → Among n h.natives → NativeFollows g n
  pub living : (n : HeapNative) → Among n h.natives → n.unlinked ≡ false → P (native n.number)
  pub spent : (n : HeapNative) → Among n h.natives → n.unlinked ≡ true → ¬ (P (native n.number))
  pub alike : (n : HeapNative) → Among n h.natives → P (native n.number) → shape_in g (native n.number) ≡ Some (shape_of_held_native n)
  pub scripts : (o : HeapScript) → Among o h.scripts → shape_in g o.name ≡ Some (shape_of_held_script o)
  pub named : (o : HeapScript) → Among o h.scripts → IsTrue (is_script o.name)

-- entries are some of the graph's; for a map and a key of which `P` holds the same, or none
pub record AreEntries (P : Name → Type 0) (es fs : List Entry) : Type 0 where
  pub values : (m k : Name) → P m → P k → value_in es m k ≡ value_in fs m k
  pub part : ArePart es fs

-- a reflector that is not preserved is blank, and is no delegate
abbrev pub IsBlank : Graph → Type 0
IsBlank g = (k : ℕ) (s t : Shape) → shape_in g (native k) ≡ Some s → s.preserved ≡ false → shape_in g (reflector k) ≡ Some t →
    (t.slots ≡ Some (empty_slots reflector_slots)) × IsNoKey g (reflector k) × IsOfNone g (reflector k)

-- HEAPS THAT FOLLOW A GRAPH, as far as `P` goes
pub record Follows (P : Name → Type 0) (h : Heap) (g : Graph) : Type 0 where
  pub beside : AgreesBeside h g
  pub objects : AreObjects P h g
  pub entries : AreEntries P h.entries g.entries
  pub blank : IsBlank g
  pub closed : IsClosed P g

-- Shapes of natives and reflectors in the graph

-- what has a native's name and a shape is a native
pub shape_in-native : (g : Graph) (k : ℕ) (s : Shape) → shape_in g (native k) ≡ Some s → (n : GraphNative) × (native_in g k ≡ Some n) × (shape_of_native n ≡ s)
shape_in-native g k s = grind arith

-- what has a reflector's name and a shape is that of a native
pub shape_in-reflector : (g : Graph) (k : ℕ) (t : Shape) → shape_in g (reflector k) ≡ Some t →
    (n : GraphNative) × (slots : Slots) × (native_in g k ≡ Some n) × (n.reflector ≡ Some slots) × (script_shape (Some slots) None ≡ t)
shape_in-reflector g k t = grind arith

-- What some names lead to

-- what `P` holds of leads to no more, where it is closed
pub given_from-within : (P : Name → Type 0) (g : Graph) (xs : List Name) → IsClosed P g → ((x : Name) → Among x xs → P x) → (x : Name) → GivenFrom g xs x → P x
given_from-within P g xs c starts _ (given x m) = starts x m
given_from-within P g xs c starts _ (given_edge x y d i) = go (given_from-within P g xs c starts x d) (shape_in g x) refl (subst (Among y) (edges_of-shape g x) i)
  where
    go : P x → (o : Option Shape) → shape_in g x ≡ o → Among y (edges_of_some x o) → P y
    go p None e j = absurd j
    go p (Some s) e j = c.edges x y s p e j
given_from-within P g xs c starts _ (given_value e i a b) = c.entries e i (given_from-within P g xs c starts e.the_map a) (given_from-within P g xs c starts e.key b)
given_from-within P g xs c starts _ (given_key e d i q a b) = c.keys e d i q (given_from-within P g xs c starts e.the_map a) (given_from-within P g xs c starts d b)

-- `P` holds of what the registers have, where it is closed
pub roots-within : (P : Name → Type 0) (g : Graph) → IsClosed P g → (x : Name) → Among x (roots_of g) → P x
roots-within P g c x m = ⊎_elim (c.native_registers x) (c.script_registers x) (Among-append x (contents g.native_registers) (contents g.script_registers) m)

-- `P` holds of what is given, where the heaps follow the graph over it
pub given-within : (P : Name → Type 0) (h : Heap) (g : Graph) → Follows P h g → (x : Name) → Given h g x → P x
given-within P h g f = given_from-within P g (roots_of g ++ living_names h) f.closed
    (λ x m. ⊎_elim
    (roots-within P g f.closed x)
    (λ l. let n = named-living h x l in subst P n.3 (f.objects.living n.0 n.1 n.2))
    (Among-append x (roots_of g) (living_names h) m))

-- what the registers and other names lead to is closed
pub given_from-closed : (g : Graph) (xs : List Name) → IsClosed (GivenFrom g (roots_of g ++ xs)) g
given_from-closed g xs = record {
  native_registers = λ x m. given x (Among-left x (roots_of g) xs (Among-left x (contents g.native_registers) (contents g.script_registers) m));
  script_registers = λ x m. given x (Among-left x (roots_of g) xs (Among-right x (contents g.native_registers) (contents g.script_registers) m));
  edges = λ x y t d e m. given_edge x y d (subst (Among y) (sym (edges_of-made g x t e)) m);
  entries = λ e m a b. given_value e m a b;
  keys = λ e d m q a b. given_key e d m q a b;
}

-- From standing to following

module _ (h : Heap) (g : Graph) (w : IsWellFormed h) (s : StandsFor h g) where
  -- a native that stands in the graph follows it
  native-follows : (n : HeapNative) → NativeStands g n → NativeFollows g n
  native-follows n t =
      let made : shape_in g (native n.number) ≡ Some (shape_of_native t.made.0) = ap (option_map shape_of_native) t.made.1 in
      (shape_of_native t.made.0, made, ⊎_elim (λ e. inl (same (e ∙ made))) (λ e. inr e) t.shape)
    where
      same : {a b : Shape} → Some a ≡ Some b → a ≡ b
      same e = cc

  -- a native that is given is as it is in the graph
  native-alike : (n : HeapNative) → Among n h.natives → Given h g (native n.number) → shape_in g (native n.number) ≡ Some (shape_of_held_native n)
  native-alike n m d = let k = s.given (native n.number) d in k.made ∙ (sym k.there ∙ shape_at-native h w n m)

  -- HEAPS THAT STAND FOR A GRAPH FOLLOW IT, over what is given.
  pub stands-follows : Follows (Given h g) h g
  stands-follows = record {
    beside = record { native_registers = s.native_registers; script_registers = s.script_registers; limits = s.limits; natives_made = s.natives_made; scripts_made = s.scripts_made };
    objects = record {
      natives = λ n m. native-follows n (s.natives n m);
      living = living-given h g;
      spent = s.spent;
      alike = native-alike;
      scripts = λ o m. sym (s.scripts o m).shape;
      named = script-named h w;
    };
    entries = record { values = s.values; part = s.entries };
    blank = λ k a b e p f.
        let n = shape_in-native g k a e in
        let r = shape_in-reflector g k b f in
        let one : Some r.0 ≡ Some n.0 = sym r.2 ∙ n.1 in
        let same : r.0 ≡ n.0 = cc in
        let c = s.blank k n.0 r.1 n.1 (ap (λ (t : Shape). t.preserved) n.2 ∙ p) (sym (ap (λ (m : GraphNative). m.reflector) same) ∙ r.3) in
        (sym (ap (λ (t : Shape). t.slots) r.4) ∙ ap (λ l. Some l) c.0, c.1, no_delegate-of_none g (reflector k) c.2);
    closed = given_from-closed g (living_names h);
  }
