-- WHAT KEEPS THE HEAPS WELL FORMED: one list of the heaps changed at a time.
use Rattle.std.proofs.Common.{◌≡◌, ℕ, ◌≤◌, Bool, true, refl, List, ◌++◌, map, length, sym, ◌∙◌, ap, subst, count_by, is_some, Some}
use Rattle.cc_lists.specs.Members.{Among}
use Rattle.cc_lists.proofs.Members.{Among-map}
use Rattle.cc_names.specs.declared.name.Name.{Name}
use Rattle.cc_names.specs.Names.{native, object, reflector, same_name}
use Rattle.cc_names.specs.Sizes.{most_slots}
use Rattle.cc_model.specs.Banks.{IsBankLength}
use Rattle.cc_model.specs.Slots.{Slots, contents}
use Rattle.cc_model.specs.Entries.{Entry, is_entry_of}
use Rattle.cc_model.specs.Heap.{Heap, HeapNative, HeapScript, Buffered}
use Rattle.cc_model.specs.WellFormed.{IsWellFormed, IsRising, HasMembers, FitsName, native_names, script_names, names_there, is_proxy_kind}
use Rattle.cc_laws_heap.specs.Freeing.{uncounted}
use Rattle.cc_laws_heap.specs.Balance.{places}
use Rattle.cc_lists.proofs.ListWrites.{changed_where, changed_where-either, each-map, map-kept}

-- Registers, entries, and the buffer

-- the heaps with other registers
abbrev pub with_registers : Heap → Slots → Slots → Heap
with_registers h ns ss = record h { native_registers = ns; script_registers = ss }

-- native registers that hold natives that are there, script registers that hold script objects that are there
pub record AreRegisters (h : Heap) (ns ss : Slots) : Type 0 where
  pub natives : (x : Name) → Among x (contents ns) → Among x (native_names h)
  pub scripts : (x : Name) → Among x (contents ss) → Among x (script_names h)
  pub lengths : IsBankLength (length ns) × IsBankLength (length ss)

-- the registers of well formed heaps are such
AreRegisters-own : (h : Heap) → IsWellFormed h → AreRegisters h h.native_registers h.script_registers
AreRegisters-own h w = record { natives = w.native_registers; scripts = w.script_registers; lengths = w.registers }

-- the heaps with other entries
abbrev pub with_entries : Heap → List Entry → Heap
with_entries h es = record h { entries = es }

-- entries of what is there, at most one for each map and key
record AreEntries (h : Heap) (es : List Entry) : Type 0 where
  pub members : (e : Entry) → Among e es → HasMembers h e
  pub once : (m k : Name) → count_by (is_entry_of m k) es ≤ 1

-- the entries of well formed heaps are such
AreEntries-own : (h : Heap) → IsWellFormed h → AreEntries h h.entries
AreEntries-own h w = record { members = w.entries; once = w.one_entry }

-- the heaps with another buffer
abbrev pub with_buffer : Heap → List Buffered → Heap
with_buffer h bs = record h { buffer = bs }

-- natives that are there, each at most once
pub record IsBuffer (h : Heap) (bs : List Buffered) : Type 0 where
  pub there : (b : Buffered) → Among b bs → Among (native b.number) (native_names h)
  pub once : (k : ℕ) → places k bs ≤ 1

-- the buffer of well formed heaps is such
pub IsBuffer-own : (h : Heap) → IsWellFormed h → IsBuffer h h.buffer
IsBuffer-own h w = record { there = w.buffered; once = w.buffered_once }

-- other registers, other entries and another buffer, each of what is there, keep the heaps well formed
IsWellFormed-beside : (h : Heap) (ns ss : Slots) (es : List Entry) (bs : List Buffered) → IsWellFormed h → AreRegisters h ns ss → AreEntries h es → IsBuffer h bs →
    IsWellFormed (record h { native_registers = ns; script_registers = ss; entries = es; buffer = bs })
IsWellFormed-beside h ns ss es bs w r t b = record {
  native_registers = r.natives;
  script_registers = r.scripts;
  registers = r.lengths;
  rising = w.rising;
  native_numbers = w.native_numbers;
  native_slots = w.native_slots;
  native_contents = w.native_contents;
  distinct = w.distinct;
  object_numbers = w.object_numbers;
  kinds = w.kinds;
  script_contents = w.script_contents;
  delegates = w.delegates;
  delegate_there = w.delegate_there;
  reflected = w.reflected;
  preserved = w.preserved;
  entries = λ e m. let k = t.members e m in record { the_map = k.the_map; key = k.key; value = k.value; delegate = k.delegate };
  one_entry = t.once;
  buffered = b.there;
  buffered_once = b.once;
  natives_allowed = w.natives_allowed;
  scripts_allowed = w.scripts_allowed;
}

-- so do other registers alone,
pub IsWellFormed-registers : (h : Heap) (ns ss : Slots) → IsWellFormed h → AreRegisters h ns ss → IsWellFormed (with_registers h ns ss)
IsWellFormed-registers h ns ss w r = IsWellFormed-beside h ns ss h.entries h.buffer w r (AreEntries-own h w) (IsBuffer-own h w)

-- other entries alone,
pub IsWellFormed-entries : (h : Heap) (es : List Entry) → IsWellFormed h → ((e : Entry) → Among e es → HasMembers h e) →
    ((m k : Name) → count_by (is_entry_of m k) es ≤ 1) → IsWellFormed (with_entries h es)
IsWellFormed-entries h es w members once = IsWellFormed-beside h h.native_registers h.script_registers es h.buffer w (AreRegisters-own h w)
    (record { members = members; once = once }) (IsBuffer-own h w)

-- and another buffer alone
pub IsWellFormed-buffer : (h : Heap) (bs : List Buffered) → IsWellFormed h → IsBuffer h bs → IsWellFormed (with_buffer h bs)
IsWellFormed-buffer h bs w b = search (IsWellFormed-beside, AreRegisters-own, AreEntries-own)

-- Natives

-- the heaps with each native changed, and with another buffer
abbrev pub with_natives : Heap → (HeapNative → HeapNative) → List Buffered → Heap
with_natives h f bs = record h { natives = map f h.natives; buffer = bs }

-- a native as it may be: it holds no more slots than it may, in them what is there; its reflector is there where it is preserved
pub record NativeFits (h : Heap) (u : HeapNative) : Type 0 where
  pub slots : length u.slots ≤ most_slots
  pub contents : (x : Name) → Among x (contents u.slots) → Among x (names_there h)
  pub preserved : u.preserved ≡ true → Among (reflector u.number) (script_names h)

-- so is each native of well formed heaps
pub IsWellFormed-native : (h : Heap) → IsWellFormed h → (n : HeapNative) → Among n h.natives → NativeFits h (uncounted n)
IsWellFormed-native h w n m = record { slots = w.native_slots n m; contents = λ x i. w.native_contents n x m i; preserved = w.preserved n m }

-- natives keep their numbers, and become such as they may be
pub record ChangesNatives (h : Heap) (f : HeapNative → HeapNative) : Type 0 where
  pub number : (n : HeapNative) → (f n).number ≡ n.number
  pub fits : (n : HeapNative) → Among n h.natives → NativeFits h (uncounted (f n))

-- so where one native changes alone
pub ChangesNatives-where : (h : Heap) → IsWellFormed h → (p : HeapNative → Bool) (f : HeapNative → HeapNative) → ((n : HeapNative) → (f n).number ≡ n.number) →
    ((n : HeapNative) → Among n h.natives → p n ≡ true → NativeFits h (uncounted (f n))) → ChangesNatives h (changed_where p f)
ChangesNatives-where h w p f number fits = record {
  number = λ n. changed_where-either (λ m. m.number ≡ n.number) p f n (λ e. number n) refl;
  fits = λ n m. changed_where-either (λ o. NativeFits h (uncounted o)) p f n (fits n m) (IsWellFormed-native h w n m);
}

-- natives that keep their numbers keep their names
native_names-kept : (h : Heap) (f : HeapNative → HeapNative) (bs : List Buffered) → ChangesNatives h f →
    native_names (with_natives h f bs) ≡ native_names h
native_names-kept h f bs c = map-kept (λ (n : HeapNative). native n.number) f h.natives (λ n. ap native (c.number n))

-- natives so changed, and such a buffer, keep the heaps well formed
pub IsWellFormed-natives : (h : Heap) (f : HeapNative → HeapNative) (bs : List Buffered) → IsWellFormed h → ChangesNatives h f → IsBuffer h bs →
    IsWellFormed (with_natives h f bs)
IsWellFormed-natives h f bs w c b = record {
  native_registers = λ x m. moved x (w.native_registers x m);
  script_registers = w.script_registers;
  registers = w.registers;
  rising = subst IsRising (sym (map-kept (λ (n : HeapNative). n.number) f h.natives c.number)) w.rising;
  native_numbers = each-map (λ n. (1 ≤ n.number) × (n.number ≤ h.natives_made)) f h.natives
      (λ n m. subst (λ k. (1 ≤ k) × (k ≤ h.natives_made)) (sym (c.number n)) (w.native_numbers n m));
  native_slots = each-map (λ n. length n.slots ≤ most_slots) f h.natives (λ n m. (c.fits n m).slots);
  native_contents = λ n x m. each-map (λ n. (y : Name) → Among y (contents n.slots) → Among y (names_there (with_natives h f bs)))
      f h.natives (λ o i y j. there y ((c.fits o i).contents y j)) n m x;
  distinct = w.distinct;
  object_numbers = w.object_numbers;
  kinds = w.kinds;
  script_contents = w.script_contents;
  delegates = w.delegates;
  delegate_there = w.delegate_there;
  reflected = λ k m. moved (native k) (w.reflected k m);
  preserved = each-map (λ n. n.preserved ≡ true → Among (reflector n.number) (script_names h)) f h.natives (λ n m. (c.fits n m).preserved);
  entries = λ e m. let k = w.entries e m in record { the_map = k.the_map; key = k.key; value = k.value; delegate = k.delegate };
  one_entry = w.one_entry;
  buffered = λ k m. moved (native k.number) (b.there k m);
  buffered_once = b.once;
  natives_allowed = w.natives_allowed;
  scripts_allowed = w.scripts_allowed;
}
  where
    moved : (x : Name) → Among x (native_names h) → Among x (native_names (with_natives h f bs))
    moved x m = subst (λ xs. Among x xs) (sym (native_names-kept h f bs c)) m

    there : (x : Name) → Among x (names_there h) → Among x (names_there (with_natives h f bs))
    there x m = subst (λ xs. Among x (xs ++ script_names h)) (sym (native_names-kept h f bs c)) m

-- Script objects

-- the heaps with each script object changed
abbrev pub with_scripts : Heap → (HeapScript → HeapScript) → Heap
with_scripts h f = record h { scripts = map f h.scripts }

-- script objects keep their names, kinds and delegates, and hold as many slots as they may, in them script objects that are there
pub record ChangesScripts (h : Heap) (f : HeapScript → HeapScript) : Type 0 where
  pub name : (o : HeapScript) → (f o).name ≡ o.name
  pub kind : (o : HeapScript) → (f o).kind ≡ o.kind
  pub delegate : (o : HeapScript) → (f o).delegate ≡ o.delegate
  pub fits : (o : HeapScript) → Among o h.scripts → FitsName o.name o.kind (f o).slots
  pub contents : (o : HeapScript) → Among o h.scripts → (x : Name) → Among x (contents (f o).slots) → Among x (script_names h)

-- script objects so changed keep their names
pub script_names-kept : (h : Heap) (f : HeapScript → HeapScript) → ChangesScripts h f → script_names (with_scripts h f) ≡ script_names h
script_names-kept h f c = map-kept (λ (o : HeapScript). o.name) f h.scripts c.name

-- script objects so changed keep the heaps well formed
pub IsWellFormed-scripts : (h : Heap) (f : HeapScript → HeapScript) → IsWellFormed h → ChangesScripts h f → IsWellFormed (with_scripts h f)
IsWellFormed-scripts h f w c = record {
  native_registers = w.native_registers;
  script_registers = λ x m. moved x (w.script_registers x m);
  registers = w.registers;
  rising = w.rising;
  native_numbers = w.native_numbers;
  native_slots = w.native_slots;
  native_contents = λ n x m i. subst (λ xs. Among x (native_names h ++ xs)) (sym same) (w.native_contents n x m i);
  distinct = subst (λ xs. (x : Name) → count_by (same_name x) xs ≤ 1) (sym same) w.distinct;
  object_numbers = λ k m. w.object_numbers k (back (object k) m);
  kinds = each-map (λ o. FitsName o.name o.kind o.slots) f h.scripts
      (λ o m. subst (λ x. FitsName x (f o).kind (f o).slots) (sym (c.name o))
      (subst (λ k. FitsName o.name k (f o).slots) (sym (c.kind o)) (c.fits o m)));
  script_contents = λ o x m. each-map (λ p. (y : Name) → Among y (contents p.slots) → Among y (script_names (with_scripts h f)))
      f h.scripts (λ p i y j. moved y (c.contents p i y j)) o m x;
  delegates = each-map (λ o. is_some o.delegate ≡ is_proxy_kind o.kind) f h.scripts
      (λ o m. ap is_some (c.delegate o) ∙ (w.delegates o m ∙ ap is_proxy_kind (sym (c.kind o))));
  delegate_there = λ o d m. each-map (λ p. (y : Name) → p.delegate ≡ Some y → Among y (script_names (with_scripts h f)))
      f h.scripts (λ p i y e. moved y (w.delegate_there p y i (sym (c.delegate p) ∙ e))) o m d;
  reflected = λ k m. w.reflected k (back (reflector k) m);
  preserved = λ n m e. moved (reflector n.number) (w.preserved n m e);
  entries = λ e m. members e (w.entries e m);
  one_entry = w.one_entry;
  buffered = w.buffered;
  buffered_once = w.buffered_once;
  natives_allowed = w.natives_allowed;
  scripts_allowed = w.scripts_allowed;
}
  where
    same : script_names (with_scripts h f) ≡ script_names h
    same = script_names-kept h f c

    moved : (x : Name) → Among x (script_names h) → Among x (script_names (with_scripts h f))
    moved x m = subst (λ xs. Among x xs) (sym same) m

    back : (x : Name) → Among x (script_names (with_scripts h f)) → Among x (script_names h)
    back x m = subst (λ xs. Among x xs) same m

    members : (e : Entry) → HasMembers h e → HasMembers (with_scripts h f) e
    members e k = record {
      the_map = (f k.the_map.0, Among-map f k.the_map.0 h.scripts k.the_map.1, c.name k.the_map.0 ∙ k.the_map.2, c.kind k.the_map.0 ∙ k.the_map.3);
      key = moved e.key k.key;
      value = moved e.value k.value;
      delegate = each-map (λ o. o.name ≡ e.key → o.delegate ≡ e.delegate) f h.scripts
          (λ o m is. c.delegate o ∙ k.delegate o m (sym (c.name o) ∙ is));
    }
