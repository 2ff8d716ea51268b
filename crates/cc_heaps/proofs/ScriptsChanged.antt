-- THE SCRIPT OBJECTS ARE CHANGED, or more are made: keys that have names keep them. Then registers and natives hold, and
-- entries name, what they did.
use Rattle.cc_laws_heap.proofs.Face.{native-no_script, scripts-once}
use Rattle.std.proofs.Common.{arith, ◌≡◌, ℕ, ◌≤◌, false, List, map, length, Option, Some, None, refl, sym, ◌∙◌, ap, subst, ⊎_elim, count_by}
use Rattle.std.specs.Prelude.{IsTrue}
use Rattle.std.specs.Option.{option_and_then}
use Rattle.cc_lists.specs.Members.{Among}
use Rattle.cc_lists.proofs.Counting.{count_by-map}
use Rattle.cc_lists.proofs.ListWrites.{map-kept, map-agree}
use Rattle.cc_names.specs.declared.number.SKey.{SKey}
use Rattle.cc_names.specs.declared.name.Name.{Name}
use Rattle.cc_names.specs.declared.name.Name.TheVariants as name
use Rattle.cc_names.specs.Names.{same_name, is_native}
use Rattle.cc_model.specs.Heap.{Heap, HeapNative, HeapScript}
use Rattle.cc_model.specs.WellFormed.{IsWellFormed, script_names}
use Rattle.cc_laws_heap.specs.Sound.{IsSound}
use Rattle.cc_script.specs.Objects.{Object, AreWhole, is_there, name_at}
use Rattle.cc_script.proofs.Reaching.{among-held}
use Rattle.cc_weakmaps.specs.Entries.{KeyedEntry}
use Rattle.cc_marking.specs.Marking.{AreEntriesThere, IsEntryThere}
use Rattle.cc_heaps.specs.ToScan.{HasRoom}
use Rattle.cc_heaps.specs.Keyed.{IsInOrder, Reflects, counts_of, keyed_native, named_entry, named_entries, named_object, named_objects, reflectors_by}
use Rattle.cc_heaps.specs.Changes.{KeepsKeys}
use Rattle.cc_heaps.specs.Named.{own_name, named_native, script_named, IsScriptLive}
use Rattle.cc_heaps.specs.Fields.{heap_of, keyed_of, IsLinked}
use Rattle.cc_heaps.specs.declared.heaps.Heaps.TheInside.{Inside}
use Rattle.cc_heaps.proofs.Keys.{HasKeys-numbers, Reflects-kept, object-name}
use Rattle.cc_heaps.proofs.ObjectsKept.{members, entry-same, entry-there, there-named, named-there, there-kept}
use Rattle.cc_heaps.proofs.Keying.{AreHeldThere}
use Rattle.cc_lists.proofs.Held.{held-is, map-held}
use Rattle.cc_model.specs.Slots.{contents}
use Rattle.cc_names.specs.Names.{object}
use Rattle.cc_heaps.proofs.Reaching.{HasOneKey, HasOneName}

-- keys that have names keep them
abbrev pub KeepsNames : List Object → List Object → Type 0
KeepsNames os ps = (key : ℕ) (x : Name) → name_at os key ≡ Some x → name_at ps key ≡ Some x

-- what is there stays there
pub KeepsNames-there : (os ps : List Object) → KeepsNames os ps → (key : ℕ) → IsTrue (is_there os key) → IsTrue (is_there ps key)
KeepsNames-there os ps kept key t = let n = there-named os key t in named-there ps key n.0 (kept key n.0 n.1)

-- and has the name that it had
pub KeepsNames-same : (os ps : List Object) → KeepsNames os ps → (key : ℕ) → IsTrue (is_there os key) → name_at ps key ≡ name_at os key
KeepsNames-same os ps kept key t = let n = there-named os key t in kept key n.0 n.1 ∙ sym n.1

-- an entry has the names that it had
members-kept : (os ps : List Object) → KeepsNames os ps → (e : KeyedEntry) → IsEntryThere os e → (key : ℕ) → Among key (members e) → name_at ps key ≡ name_at os key
members-kept os ps kept e t key m = ⊎_elim (λ s. same e.the_map t.the_map s)
    (⊎_elim (λ s. same e.key t.key s)
    (⊎_elim (λ s. same e.value t.value s) (λ i. same key (t.delegate key (held-is e.delegate key i)) refl))) m
  where
    same : (j : ℕ) → IsTrue (is_there os j) → j ≡ key → name_at ps key ≡ name_at os key
    same j there s = subst (λ k. name_at ps k ≡ name_at os k) s (KeepsNames-same os ps kept j there)

pub named_entries-kept : (os ps : List Object) → KeepsNames os ps → (es : List KeyedEntry) → AreEntriesThere os es → named_entries ps es ≡ named_entries os es
named_entries-kept os ps kept es there = map-agree (named_entry ps) (named_entry os) es (λ e m. entry-same ps os e (members-kept os ps kept e (there e m)))

-- and what it names is there still
pub entries_there-kept : (os ps : List Object) → KeepsNames os ps → (es : List KeyedEntry) → AreEntriesThere os es → AreEntriesThere ps es
entries_there-kept os ps kept es there e m = entry-there os ps e (members-kept os ps kept e (there e m)) (there e m)

-- no two objects have one name, where no two script objects of the heaps have
pub HasOneName-named : (h : Heap) (objects : List Object) → h.scripts ≡ named_objects objects → IsWellFormed h → HasOneName objects
HasOneName-named h objects named w x = subst (λ n. n ≤ 1)
    (ap (count_by (λ (o : HeapScript). same_name o.name x)) named ∙ count_by-map (λ (o : HeapScript). same_name o.name x) (named_object objects) objects)
    (scripts-once h w x)

-- THE PARTS with other script objects, so many of which were made
abbrev pub with_objects : Inside → List Object → ℕ → Inside
with_objects p objects made = record p { scripts = objects; scripts_made = made }

-- and the lists of the heaps with them
abbrev pub with_named : Heap → List Object → ℕ → Heap
with_named h objects made = record h { scripts = named_objects objects; scripts_made = made }

-- what registers and natives of the parts hold has the name among other objects that it has
pub record HoldsSame (p : Inside) (objects : List Object) : Type 0 where
  pub registers : (key : SKey) → Among (Some key) p.script_registers.items → name_at objects key.0 ≡ name_at p.scripts key.0
  pub natives : (n : HeapNative) (key : ℕ) → Among n p.counted.natives → Among (object key) (contents n.slots) → name_at objects key ≡ name_at p.scripts key

module _ (p : Inside) (objects : List Object) (held : AreHeldThere p.scripts p.counted.natives) (same : HoldsSame p objects) where
  -- THE HEAPS are as they were but for script objects and entries.
  pub heap-held : heap_of (record p { scripts = objects }) ≡ record (heap_of p) { scripts = named_objects objects; entries = named_entries objects p.weak }
  heap-held = λ i. record (heap_of p) { script_registers = registers i; natives = natives i; scripts = named_objects objects; entries = named_entries objects p.weak }
    where
      registers : map (script_named objects) p.script_registers.items ≡ map (script_named p.scripts) p.script_registers.items
      registers = map-held (script_named objects) (script_named p.scripts) p.script_registers.items refl same.registers

      own : (n : HeapNative) → Among n p.counted.natives → (x : Name) → Among (Some x) n.slots → own_name objects x ≡ own_name p.scripts x
      own n m (name.Native k) i = refl
      own n m (name.Script k) i = same.natives n k.0 m (among-held n.slots (name.Script k) i)
      own n m (name.Reflector k) i = absurd (held n (name.Reflector k) m (among-held n.slots (name.Reflector k) i))

      natives : map (named_native objects) p.counted.natives ≡ map (named_native p.scripts) p.counted.natives
      natives = map-agree (named_native objects) (named_native p.scripts) p.counted.natives
          (λ n m. ap (λ slots. record n { slots = slots }) (map-held (option_and_then (own_name objects)) (option_and_then (own_name p.scripts)) n.slots refl (own n m)))

  -- What they hold stays there.
  pub registers-held : ((x : Option SKey) → Among x p.script_registers.items → IsScriptLive p.scripts x) → (x : Option SKey) → Among x p.script_registers.items → IsScriptLive objects x
  registers-held live None m = tt
  registers-held live (Some key) m = there-kept p.scripts objects key.0 (same.registers key m) (live (Some key) m)

  pub natives-held : AreHeldThere objects p.counted.natives
  natives-held n (name.Native k) m i = tt
  natives-held n (name.Script k) m i = there-kept p.scripts objects k.0 (same.natives n k.0 m i) (held n (name.Script k) m i)
  natives-held n (name.Reflector k) m i = held n (name.Reflector k) m i

module _ (p : Inside) (objects : List Object) (made : ℕ) (kept : KeepsNames p.scripts objects) (l : IsLinked p) where
  holds-same : HoldsSame p objects
  holds-same = record {
    registers = λ key m. KeepsNames-same p.scripts objects kept key.0 (l.script_registers (Some key) m);
    natives = λ n key m i. KeepsNames-same p.scripts objects kept key (l.held n (object key) m i);
  }

  -- THE HEAPS are as they were but for the script objects.
  pub heap-objects : AreEntriesThere p.scripts p.weak → heap_of (with_objects p objects made) ≡ with_named (heap_of p) objects made
  heap-objects there = grind (arith, heap-held, holds-same, named_entries-kept)

  -- what is there keeps its key
  pub keys-objects : KeepsKeys (keyed_of p) (keyed_of (with_objects p objects made))
  keys-objects = record { natives = λ key k e m. e; scripts = λ key x e m. kept key x e }

  -- THE PARTS FIT TOGETHER, where natives have the keys of these reflectors, and a marking has room for the objects
  module _ (g : Heap) (same : g.scripts ≡ named_objects objects) (w : IsWellFormed g) (one : HasOneKey objects) where
    pub linked-reflected : HasRoom p.to_scan (length objects) → (reflectors : List (Option ℕ)) → reflectors ≡ reflectors_by objects p.counted.keys →
        IsLinked (record (with_objects p objects made) { counted = record p.counted { reflectors = reflectors } })
    linked-reflected room reflectors its = record {
      native_registers = l.native_registers;
      script_registers = registers-held p objects l.held holds-same l.script_registers;
      registers = l.registers;
      held = natives-held p objects l.held holds-same;
      one_key = one;
      one_name = HasOneName-named g objects same w;
      reflectors = its;
      script_names = λ o m. no_native o.name (object-name g objects same o m);
      room = room;
    }
      where
        no_native : (x : Name) → Among x (script_names g) → is_native x ≡ false
        no_native (name.Native k) m = absurd (native-no_script g k.0 w m)
        no_native (name.Script k) m = refl
        no_native (name.Reflector k) m = refl

  module _ (owned : List ℕ) (s : IsSound owned (with_named (heap_of p) objects made)) (one : HasOneKey objects)
      (reflectors : reflectors_by objects p.counted.keys ≡ reflectors_by p.scripts p.counted.keys) where
    -- as where each has the reflector that it had
    pub linked-objects : HasRoom p.to_scan (length objects) → IsLinked (with_objects p objects made)
    linked-objects room = linked-reflected (with_named (heap_of p) objects made) refl s.well_formed one room p.counted.reflectors (l.reflectors ∙ sym reflectors)

    -- AND THEY STAY IN ORDER, where their slots hold what is there, and reflectors have their natives.
    pub order-objects : AreWhole objects →
        ((o : Object) → Among o objects → Reflects (keyed_of p) o.name o.native) → IsInOrder owned (keyed_of p) → IsInOrder owned (keyed_of (with_objects p objects made))
    order-objects whole reflecting o = record {
      sound = subst (IsSound owned) (sym (heap-objects o.entries_there)) s;
      keyed = HasKeys-numbers (counts_of (keyed_of p)) (counts_of (keyed_of (with_objects p objects made))).natives p.counted.buffer
          (reflectors_by objects p.counted.keys) (numbers objects ∙ sym (numbers p.scripts)) o.keyed;
      named = refl;
      one_key = one;
      whole = whole;
      reflecting = λ q m. Reflects-kept (keyed_of p) (keyed_of (with_objects p objects made)) q.name q.native (λ key k is at. at) (reflecting q m);
      limits = o.limits;
      entries = refl;
      entries_there = entries_there-kept p.scripts objects kept p.weak o.entries_there;
    }
      where
        numbers : (os : List Object) → map (λ n. n.number) (map (keyed_native os) (map (named_native os) p.counted.natives)) ≡ map (λ n. n.number) p.counted.natives
        numbers os = map-kept (λ n. n.number) (keyed_native os) (map (named_native os) p.counted.natives) (λ n. refl)
            ∙ map-kept (λ n. n.number) (named_native os) p.counted.natives (λ n. refl)
