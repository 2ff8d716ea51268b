-- ONE SPOT WRITTEN: each other one reads as before.
use Rattle.std.proofs.Common.{arith, ◌≡◌, ◌≢◌, ◌⊎◌, ℕ, Bool, true, false, not, List, [], ◌∷◌, map, set, get_or, Option, Some, None, option_map, refl, sym, ◌∙◌, ap, subst, inl, inr, ⊎_elim, ◌==◌, if◌then◌else◌}
use Rattle.std.specs.List.{find}
use Rattle.std.specs.Option.{option_and_then}
use Rattle.std.proofs.Math.Path.{fun_ext}
use Rattle.std.proofs.lemmas.Bool.{eqb-true, eq-eqb, true≢false}
use Rattle.std.proofs.lemmas.List.{get_or-set_other}
use Rattle.cc_lists.specs.Members.{Among, has}
use Rattle.cc_lists.proofs.Filtering.{find-passes}
use Rattle.cc_lists.proofs.Searching.{find-map}
use Rattle.cc_names.specs.declared.name.Name.{Name}
use Rattle.cc_names.specs.declared.name.Name.TheVariants as name
use Rattle.cc_names.specs.declared.kind.Kind.{Kind}
use Rattle.cc_names.specs.declared.kind.Kind.TheVariants.{Plain, Reflector, Map, Proxy}
use Rattle.cc_names.specs.declared.register.Reg.{Reg}
use Rattle.cc_names.specs.declared.register.Reg.TheVariants.{N, S, W}
use Rattle.cc_names.specs.Names.{native, object, reflector, same_name}
use Rattle.cc_names.specs.Places.{where_set}
use Rattle.cc_names.proofs.NameTests.{same_name-true}
use Rattle.cc_model.specs.Slots.{Slots}
use Rattle.cc_model.specs.Checks.{slots_or_none}
use Rattle.cc_model.specs.Entries.{Entry, entry, is_entry_of, value_in, with_entry, without_entry}
use Rattle.cc_model.specs.Heap.{Heap, HeapNative, HeapScript, change_native, change_script, delegate_at, native_at, preserve, register, script_at, set_preserved, set_register, set_slot, slots_of_kind, slots_of_script, with_native_slot, with_script_slot}
use Rattle.cc_model.specs.Effects.{set_entry}
use Rattle.cc_model.specs.Exposure.{as_black, exposed, exposed_names}
use Rattle.cc_laws_heap.proofs.EntryLists.{is_entry_of-own, is_entry_of-parts}
use Rattle.cc_laws_heap.proofs.Face.{native_at-change_other, native_at-change_same}
use Rattle.cc_host.specs.Spots.{Spot, reads}
use Rattle.cc_host.proofs.Spots.{Alters, IsGone, alters-then}

-- By what is found

abbrev pub native_slots : Heap → ℕ → Slots
native_slots h j = slots_or_none (option_map (λ n. n.slots) (native_at h j))

abbrev pub preserves : Heap → ℕ → Option Name
preserves h j = option_and_then (λ n. where_set n.preserved (Some (reflector j))) (native_at h j)

abbrev pub script_slots : Heap → Name → Slots
script_slots h x = slots_or_none (option_and_then slots_of_script (script_at h x))

-- ALL BUT THESE SPOTS, by their kinds
pub record Spares (spots : List Spot) (h k : Heap) : Type 0 where
  pub registers : (r : Reg) → ¬ (Among (Spot.register r) spots) → register k r ≡ register h r
  pub natives : (j i : ℕ) → ¬ (Among (Spot.slot (native j) i) spots) → get_or (native_slots k j) i None ≡ get_or (native_slots h j) i None
  pub preserved : (j : ℕ) → ¬ (Among (Spot.preserved (reflector j)) spots) → preserves k j ≡ preserves h j
  pub scripts : (x : Name) (i : ℕ) → ¬ (Among (Spot.slot x i) spots) → get_or (script_slots k x) i None ≡ get_or (script_slots h x) i None
  pub delegates : (x : Name) → ¬ (Among (Spot.delegate x) spots) → delegate_at k x ≡ delegate_at h x
  pub entries : (m x : Name) → ¬ (Among (Spot.entry m x) spots) → value_in k.entries m x ≡ value_in h.entries m x

module _ (spots : List Spot) (h k : Heap) (p : Spares spots h k) where
  pub reads-spared : (s : Spot) → ¬ (Among s spots) → reads k s ≡ reads h s
  reads-spared (Spot.register r) out = p.registers r out
  reads-spared (Spot.slot (name.Native j) i) out = p.natives j.0 i out
  reads-spared (Spot.slot (name.Script j) i) out = p.scripts (object j.0) i out
  reads-spared (Spot.slot (name.Reflector j) i) out = p.scripts (reflector j.0) i out
  reads-spared (Spot.entry m x) out = p.entries m x out
  reads-spared (Spot.delegate x) out = p.delegates x out
  reads-spared (Spot.preserved (name.Native j)) out = refl
  reads-spared (Spot.preserved (name.Script j)) out = refl
  reads-spared (Spot.preserved (name.Reflector j)) out = p.preserved j.0 out

  pub others-spared : (s : Spot) → ¬ (Among s spots) → IsGone k s ⊎ (reads k s ≡ reads h s)
  others-spared s out = inr (reads-spared s out)

  pub alters-spared : ((j : ℕ) → native_at h j ≡ None → native_at k j ≡ None) → Alters spots h k
  alters-spared none = record { others = others-spared; none_comes = none }

-- script objects found after a change that leaves each its name
pub scripts-found : (h : Heap) (f : HeapScript → HeapScript) → ((o : HeapScript) → (f o).name ≡ o.name) → (x : Name) → script_at (record h { scripts = map f h.scripts }) x ≡ option_map f (script_at h x)
scripts-found h f same x = find-map (λ (o : HeapScript). same_name o.name x) f h.scripts
    ∙ ap (λ p. option_map f (find p h.scripts)) (fun_ext (λ o. ap (λ y. same_name y x) (same o)))

module _ (spots : List Spot) (h : Heap) where
  -- Registers

  pub alters-native_register : (r : ℕ) (x : Option Name) → Among (Spot.register (N r)) spots → Alters spots h (set_register h (N r) x)
  alters-native_register r x m = alters-spared spots h (set_register h (N r) x) (record {
    registers = registers;
    natives = λ j i out. refl;
    preserved = λ j out. refl;
    scripts = λ y i out. refl;
    delegates = λ y out. refl;
    entries = λ y z out. refl;
  }) (λ j e. e)
    where
      registers : (q : Reg) → ¬ (Among (Spot.register q) spots) → register (set_register h (N r) x) q ≡ register h q
      registers (N q) out = get_or-set_other h.native_registers r q x None (λ e. out (subst (λ i. Among (Spot.register (N i)) spots) (sym e) m))
      registers (S q) out = refl
      registers (W q) out = refl

  pub alters-script_register : (r : ℕ) (x : Option Name) → Among (Spot.register (S r)) spots → Alters spots h (set_register h (S r) x)
  alters-script_register r x m = alters-spared spots h (set_register h (S r) x) (record {
    registers = registers;
    natives = λ j i out. refl;
    preserved = λ j out. refl;
    scripts = λ y i out. refl;
    delegates = λ y out. refl;
    entries = λ y z out. refl;
  }) (λ j e. e)
    where
      registers : (q : Reg) → ¬ (Among (Spot.register q) spots) → register (set_register h (S r) x) q ≡ register h q
      registers (S q) out = get_or-set_other h.script_registers r q x None (λ e. out (subst (λ i. Among (Spot.register (S i)) spots) (sym e) m))
      registers (N q) out = refl
      registers (W q) out = refl

  -- Natives

  -- of a native that changed alone
  module _ (k : ℕ) (f : HeapNative → HeapNative) (number : (n : HeapNative) → (f n).number ≡ n.number)
      (slots : (o : Option HeapNative) (i : ℕ) → ¬ (Among (Spot.slot (native k) i) spots) →
      get_or (slots_or_none (option_map (λ (n : HeapNative). n.slots) (option_map f o))) i None ≡ get_or (slots_or_none (option_map (λ (n : HeapNative). n.slots) o)) i None)
      (preserved : (o : Option HeapNative) → ¬ (Among (Spot.preserved (reflector k)) spots) →
      option_and_then (λ (n : HeapNative). where_set n.preserved (Some (reflector k))) (option_map f o) ≡ option_and_then (λ (n : HeapNative). where_set n.preserved (Some (reflector k))) o) where
    abbrev late : Heap
    late = change_native h k f

    at : (j : ℕ) → (j ≡ k) ⊎ (native_at late j ≡ native_at h j)
    at j = go (j == k) refl
      where
        go : (b : Bool) → (j == k) ≡ b → (j ≡ k) ⊎ (native_at late j ≡ native_at h j)
        go true e = inl (eqb-true j k e)
        go false e = inr (native_at-change_other h k f number j (λ same. true≢false (sym (eq-eqb j k same) ∙ e)))

    own : native_at late k ≡ option_map f (native_at h k)
    own = native_at-change_same h k f number

    pub alters-native : Alters spots h late
    alters-native = alters-spared spots h late (record {
      registers = λ r out. refl;
      natives = λ j i out. ⊎_elim
          (λ e. subst (λ q. get_or (native_slots late q) i None ≡ get_or (native_slots h q) i None) (sym e)
          (ap (λ o. get_or (slots_or_none (option_map (λ (n : HeapNative). n.slots) o)) i None) own ∙ slots (native_at h k) i (subst (λ q. ¬ (Among (Spot.slot (native q) i) spots)) e out)))
          (λ e. ap (λ o. get_or (slots_or_none (option_map (λ (n : HeapNative). n.slots) o)) i None) e)
          (at j);
      preserved = λ j out. ⊎_elim
          (λ e. subst (λ q. preserves late q ≡ preserves h q) (sym e)
          (ap (option_and_then (λ (n : HeapNative). where_set n.preserved (Some (reflector k)))) own ∙ preserved (native_at h k) (subst (λ q. ¬ (Among (Spot.preserved (reflector q)) spots)) e out)))
          (λ e. ap (option_and_then (λ (n : HeapNative). where_set n.preserved (Some (reflector j)))) e)
          (at j);
      scripts = λ y i out. refl;
      delegates = λ y out. refl;
      entries = λ y z out. refl;
    }) (λ j none. ⊎_elim
        (λ e. subst (λ q. native_at late q ≡ None) (sym e) (own ∙ ap (option_map f) (subst (λ q. native_at h q ≡ None) e none)))
        (λ e. e ∙ none)
        (at j))

  pub alters-native_slot : (k i : ℕ) (y : Option Name) → Among (Spot.slot (native k) i) spots → Alters spots h (set_slot h (Some (native k)) i y)
  alters-native_slot k i y m = alters-native k (with_native_slot i y) (λ n. refl)
      (λ o j out. slots o j (λ e. out (subst (λ q. Among (Spot.slot (native k) q) spots) (sym e) m)))
      (λ o out. preserved o)
    where
      slots : (o : Option HeapNative) (j : ℕ) → j ≢ i → get_or (slots_or_none (option_map (λ (n : HeapNative). n.slots) (option_map (with_native_slot i y) o))) j None
          ≡ get_or (slots_or_none (option_map (λ (n : HeapNative). n.slots) o)) j None
      slots None j apart = refl
      slots (Some n) j apart = get_or-set_other n.slots i j y None apart

      preserved : (o : Option HeapNative) → option_and_then (λ (n : HeapNative). where_set n.preserved (Some (reflector k))) (option_map (with_native_slot i y) o)
          ≡ option_and_then (λ (n : HeapNative). where_set n.preserved (Some (reflector k))) o
      preserved None = refl
      preserved (Some n) = refl

  pub alters-preserved : (k : ℕ) (on : Bool) → Among (Spot.preserved (reflector k)) spots → Alters spots h (set_preserved h k on)
  alters-preserved k on m = alters-native k (λ (n : HeapNative). record n { preserved = on }) (λ n. refl)
      (λ o j out. slots o j)
      (λ o out. absurd (out m))
    where
      slots : (o : Option HeapNative) (j : ℕ) → get_or (slots_or_none (option_map (λ (n : HeapNative). n.slots) (option_map (λ (n : HeapNative). record n { preserved = on }) o))) j None
          ≡ get_or (slots_or_none (option_map (λ (n : HeapNative). n.slots) o)) j None
      slots None j = refl
      slots (Some n) j = refl

  -- a reflector preserved, where it is one
  pub alters-preserve : (x : Name) → Among (Spot.preserved x) spots → Alters spots h (preserve h (Some x))
  alters-preserve (name.Native k) m = record { others = λ s out. inr refl; none_comes = λ j e. e }
  alters-preserve (name.Script k) m = record { others = λ s out. inr refl; none_comes = λ j e. e }
  alters-preserve (name.Reflector k) m = alters-preserved k.0 true m

  -- Script objects

  -- of script objects that changed and kept their names
  module _ (f : HeapScript → HeapScript) (same : (o : HeapScript) → (f o).name ≡ o.name)
      (slots : (x : Name) (o : Option HeapScript) → script_at h x ≡ o → (i : ℕ) → ¬ (Among (Spot.slot x i) spots) →
      get_or (slots_or_none (option_and_then slots_of_script (option_map f o))) i None ≡ get_or (slots_or_none (option_and_then slots_of_script o)) i None)
      (delegates : (o : HeapScript) → (f o).delegate ≡ o.delegate) where
    abbrev others : Heap
    others = record h { scripts = map f h.scripts }

    found : (x : Name) → script_at others x ≡ option_map f (script_at h x)
    found x = scripts-found h f same x

    delegate : (o : Option HeapScript) → option_and_then (λ (p : HeapScript). p.delegate) (option_map f o) ≡ option_and_then (λ (p : HeapScript). p.delegate) o
    delegate None = refl
    delegate (Some o) = delegates o

    spared : Spares spots h others
    spared = record {
      registers = λ r out. refl;
      natives = λ j i out. refl;
      preserved = λ j out. refl;
      scripts = λ x i out. ap (λ o. get_or (slots_or_none (option_and_then slots_of_script o)) i None) (found x) ∙ slots x (script_at h x) refl i out;
      delegates = λ x out. ap (option_and_then (λ (p : HeapScript). p.delegate)) (found x) ∙ delegate (script_at h x);
      entries = λ y z out. refl;
    }

    pub reads-scripts : (s : Spot) → ¬ (Among s spots) → reads others s ≡ reads h s
    reads-scripts = reads-spared spots h others spared

    pub alters-scripts : Alters spots h others
    alters-scripts = alters-spared spots h others spared (λ j e. e)

  pub alters-script_slot : (x : Name) (i : ℕ) (y : Option Name) → Among (Spot.slot x i) spots → Alters spots h (change_script h x (with_script_slot i y))
  alters-script_slot x i y m = alters-scripts changed same slots delegates
    where
      changed : HeapScript → HeapScript
      changed o = if same_name o.name x then with_script_slot i y o else o

      same : (o : HeapScript) → (changed o).name ≡ o.name
      same o = grind arith

      delegates : (o : HeapScript) → (changed o).delegate ≡ o.delegate
      delegates o = grind arith

      kinds : (kind : Kind) (ss : Slots) (j : ℕ) → j ≢ i → get_or (slots_or_none (slots_of_kind kind (set ss i y))) j None ≡ get_or (slots_or_none (slots_of_kind kind ss)) j None
      kinds Plain ss j apart = get_or-set_other ss i j y None apart
      kinds Reflector ss j apart = get_or-set_other ss i j y None apart
      kinds Map ss j apart = refl
      kinds Proxy ss j apart = get_or-set_other ss i j y None apart

      slots : (z : Name) (o : Option HeapScript) → script_at h z ≡ o → (j : ℕ) → ¬ (Among (Spot.slot z j) spots) →
          get_or (slots_or_none (option_and_then slots_of_script (option_map changed o))) j None ≡ get_or (slots_or_none (option_and_then slots_of_script o)) j None
      slots z None e j out = refl
      slots z (Some o) e j out = go (same_name o.name x) refl
        where
          named : o.name ≡ z
          named = same_name-true o.name z (find-passes (λ (p : HeapScript). same_name p.name z) h.scripts o e)

          go : (b : Bool) → same_name o.name x ≡ b → get_or (slots_or_none (slots_of_script (if b then with_script_slot i y o else o))) j None ≡ get_or (slots_or_none (slots_of_script o)) j None
          go true t = kinds o.kind o.slots j (λ d. out (subst (λ q. Among (Spot.slot q j) spots) (sym (same_name-true o.name x t) ∙ named) (subst (λ q. Among (Spot.slot x q) spots) (sym d) m)))
          go false t = refl

  -- a slot of any object
  pub alters-slot : (x : Name) (i : ℕ) (y : Option Name) → Among (Spot.slot x i) spots → Alters spots h (set_slot h (Some x) i y)
  alters-slot (name.Native k) i y m = alters-native_slot k.0 i y m
  alters-slot (name.Script k) i y m = alters-script_slot (object k.0) i y m
  alters-slot (name.Reflector k) i y m = alters-script_slot (reflector k.0) i y m

-- AN EXPOSURE: each spot reads as before.
module _ (h : Heap) where
  pub reads-exposed : (x : Option Name) (s : Spot) → reads (exposed h x) s ≡ reads h s
  unfolding exposed
  reads-exposed None s = refl
  reads-exposed (Some x) s = reads-scripts [] h (λ (o : HeapScript). if has same_name (exposed_names h x) o.name then as_black o else o)
      (λ o. name o (has same_name (exposed_names h x) o.name))
      (λ z o e i out. slots o i)
      (λ o. delegates o (has same_name (exposed_names h x) o.name))
      s (λ i. i)
    where
      name : (o : HeapScript) (b : Bool) → (if b then as_black o else o).name ≡ o.name
      name o true = refl
      name o false = refl

      delegates : (o : HeapScript) (b : Bool) → (if b then as_black o else o).delegate ≡ o.delegate
      delegates o true = refl
      delegates o false = refl

      either : (o : HeapScript) (b : Bool) → slots_of_script (if b then as_black o else o) ≡ slots_of_script o
      either o true = refl
      either o false = refl

      slots : (o : Option HeapScript) (i : ℕ) → get_or (slots_or_none (option_and_then slots_of_script (option_map (λ (p : HeapScript). if has same_name (exposed_names h x) p.name then as_black p else p) o))) i None
          ≡ get_or (slots_or_none (option_and_then slots_of_script o)) i None
      slots None i = refl
      slots (Some o) i = ap (λ (ss : Option Slots). get_or (slots_or_none ss) i None) (either o (has same_name (exposed_names h x) o.name))

module _ (spots : List Spot) (h : Heap) where
  pub alters-exposed : (x : Option Name) → Alters spots h (exposed h x)
  unfolding exposed
  alters-exposed x = record { others = λ s out. inr (reads-exposed h x s); none_comes = λ j e. none x j e }
    where
      none : (x : Option Name) (j : ℕ) → native_at h j ≡ None → native_at (exposed h x) j ≡ None
      none None j e = e
      none (Some x) j e = e

-- Entries

-- an entry of another map or another key is read as before
other-entry : (m k a b : Name) (e : Entry) → is_entry_of m k e ≡ true → ((a ≡ m) → (b ≡ k) → ⊥) → is_entry_of a b e ≡ false
other-entry m k a b e t apart = go (is_entry_of a b e) refl
  where
    go : (c : Bool) → is_entry_of a b e ≡ c → c ≡ false
    go true s =
        let f = is_entry_of-parts m k e t in
        let g = is_entry_of-parts a b e s in
        absurd (apart (sym g.0 ∙ f.0) (sym g.1 ∙ f.1))
    go false s = refl

value-set : (es : List Entry) (m k : Name) (d : Option Name) (v a b : Name) → ((a ≡ m) → (b ≡ k) → ⊥) → value_in (with_entry es m k d v) a b ≡ value_in es a b
value-set [] m k d v a b apart = rw (other-entry m k a b (entry m k d v) (is_entry_of-own (entry m k d v)) apart) refl
value-set (e ∷ es) m k d v a b apart = go (value-set es m k d v a b apart) (is_entry_of m k e) refl
  where
    go : value_in (with_entry es m k d v) a b ≡ value_in es a b → (c : Bool) → is_entry_of m k e ≡ c →
        value_in (elim c [ true ↦ entry m k d v ∷ es | false ↦ e ∷ with_entry es m k d v ]) a b ≡ value_in (e ∷ es) a b
    go ih true t =
        ap (λ c. elim c [ true ↦ Some v | false ↦ value_in es a b ]) (other-entry m k a b (entry m k d v) (is_entry_of-own (entry m k d v)) apart)
        ∙ sym (ap (λ c. elim c [ true ↦ Some e.value | false ↦ value_in es a b ]) (other-entry m k a b e t apart))
    go ih false t = ap (λ o. elim (is_entry_of a b e) [ true ↦ Some e.value | false ↦ o ]) ih

value-unset : (es : List Entry) (m k a b : Name) → ((a ≡ m) → (b ≡ k) → ⊥) → value_in (without_entry es m k) a b ≡ value_in es a b
value-unset [] m k a b apart = refl
value-unset (e ∷ es) m k a b apart = go (value-unset es m k a b apart) (is_entry_of m k e) refl
  where
    go : value_in (without_entry es m k) a b ≡ value_in es a b → (c : Bool) → is_entry_of m k e ≡ c →
        value_in (if not c then e ∷ without_entry es m k else without_entry es m k) a b ≡ value_in (e ∷ es) a b
    go ih true t = ih ∙ sym (ap (λ c. elim c [ true ↦ Some e.value | false ↦ value_in es a b ]) (other-entry m k a b e t apart))
    go ih false t = ap (λ o. elim (is_entry_of a b e) [ true ↦ Some e.value | false ↦ o ]) ih

-- what was set is read
pub value-own : (es : List Entry) (m k : Name) (d : Option Name) (v : Name) → value_in (with_entry es m k d v) m k ≡ Some v
value-own [] m k d v = rw (is_entry_of-own (entry m k d v)) refl
value-own (e ∷ es) m k d v = go (value-own es m k d v) (is_entry_of m k e) refl
  where
    go : value_in (with_entry es m k d v) m k ≡ Some v → (c : Bool) → is_entry_of m k e ≡ c →
        value_in (elim c [ true ↦ entry m k d v ∷ es | false ↦ e ∷ with_entry es m k d v ]) m k ≡ Some v
    go ih true t = rw (is_entry_of-own (entry m k d v)) refl
    go ih false t = ap (λ c. elim c [ true ↦ Some e.value | false ↦ value_in (with_entry es m k d v) m k ]) t ∙ ih

-- and what was taken out is not
pub value-none : (es : List Entry) (m k : Name) → value_in (without_entry es m k) m k ≡ None
value-none [] m k = refl
value-none (e ∷ es) m k = go (value-none es m k) (is_entry_of m k e) refl
  where
    go : value_in (without_entry es m k) m k ≡ None → (c : Bool) → is_entry_of m k e ≡ c →
        value_in (if not c then e ∷ without_entry es m k else without_entry es m k) m k ≡ None
    go ih true t = ih
    go ih false t = ap (λ c. elim c [ true ↦ Some e.value | false ↦ value_in (without_entry es m k) m k ]) t ∙ ih

module _ (spots : List Spot) (h : Heap) where
  -- other entries, where those of one map and one key are written
  pub alters-entries : (es : List Entry) (m k : Name) → ((a b : Name) → ((a ≡ m) → (b ≡ k) → ⊥) → value_in es a b ≡ value_in h.entries a b) → Among (Spot.entry m k) spots →
      Alters spots h (record h { entries = es })
  alters-entries es m k others i = alters-spared spots h (record h { entries = es }) (record {
    registers = λ r out. refl;
    natives = λ j i out. refl;
    preserved = λ j out. refl;
    scripts = λ y i out. refl;
    delegates = λ y out. refl;
    entries = λ a b out. others a b (λ e f. out (subst (λ z. Among (Spot.entry z b) spots) (sym e) (subst (λ z. Among (Spot.entry m z) spots) (sym f) i)));
  }) (λ j e. e)

module _ (spots : List Spot) (h : Heap) where
  -- AN ENTRY SET, its key preserved where it is a reflector,
  pub alters-set_entry : (m k v : Name) → Among (Spot.entry m k) spots → Among (Spot.preserved k) spots → Alters spots h (set_entry h (Some m) (Some k) (Some v))
  alters-set_entry m k v i p =
      let mid = preserve h (Some k) in
      let es = with_entry h.entries m k (delegate_at h k) v in
      alters-then spots h mid (record mid { entries = es }) (alters-preserve spots h k p) (entries mid (same k))
    where
      same : (x : Name) → (preserve h (Some x)).entries ≡ h.entries
      same (name.Native j) = refl
      same (name.Script j) = refl
      same (name.Reflector j) = refl

      entries : (mid : Heap) → mid.entries ≡ h.entries → Alters spots mid (record mid { entries = with_entry h.entries m k (delegate_at h k) v })
      entries mid e = subst (λ es. Alters spots mid (record mid { entries = with_entry es m k (delegate_at h k) v })) e
          (alters-entries spots mid (with_entry mid.entries m k (delegate_at h k) v) m k (λ a b apart. value-set mid.entries m k (delegate_at h k) v a b apart) i)

  -- or taken out
  pub alters-unset_entry : (m k : Name) → Among (Spot.entry m k) spots → Alters spots h (set_entry h (Some m) (Some k) None)
  alters-unset_entry m k i = alters-entries spots h (without_entry h.entries m k) m k (λ a b apart. value-unset h.entries m k a b apart) i
