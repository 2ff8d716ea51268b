-- A GRAPH STAYS WELL MADE where one of its lists changes: registers, natives, script objects, or entries.
use Rattle.std.proofs.Common.{arith, ◌≡◌, ℕ, ◌≤◌, true, List, length, Option, Some, is_some, refl, sym, ◌∙◌, ap, count_by}
use Rattle.std.specs.Prelude.{IsTrue}
use Rattle.std.specs.Option.{option_and_then}
use Rattle.std.proofs.lemmas.Bool.{and_parts, and_from}
use Rattle.cc_lists.specs.Members.{Among}
use Rattle.cc_names.specs.declared.name.Name.{Name}
use Rattle.cc_names.specs.declared.name.Name.TheVariants as name
use Rattle.cc_names.specs.Names.{native, object, reflector, is_native, is_script}
use Rattle.cc_names.specs.Sizes.{most_slots, weak_length}
use Rattle.cc_model.specs.Banks.{IsBankLength}
use Rattle.cc_model.specs.Slots.{Slots, contents, reflector_slots}
use Rattle.cc_model.specs.Entries.{Entry, is_entry_of}
use Rattle.cc_model.specs.Graph.{Graph, GraphNative, GraphScript, plain_object, weak_map, proxy, delegate_of_script, delegate_in, numbered, native_in, script_in}
use Rattle.cc_model.specs.WellMade.{IsWellMade, IsMadeEntry, was_made, is_made_native, is_made_script}

-- What is some

-- what is some, is something
pub is_some-found : {X : Type 0} (o : Option X) → is_some o ≡ true → (x : X) × (o ≡ Some x)
is_some-found f e = grind arith

-- A native that was made, and has a number, was made
pub was_made-native : (g : Graph) (k : ℕ) (n : GraphNative) → native_in g k ≡ Some n → IsTrue (was_made g (native k))
was_made-native g k n e = ap is_some e

-- so was a script object that has a number
pub was_made-script : (g : Graph) (k : ℕ) (o : GraphScript) → script_in g k ≡ Some o → IsTrue (was_made g (object k))
was_made-script g k o e = ap is_some e

-- a reflector was made where its native has one
pub was_made-reflector : (g : Graph) (k : ℕ) (n : GraphNative) → native_in g k ≡ Some n → is_some n.reflector ≡ true → IsTrue (was_made g (reflector k))
was_made-reflector g k n e r = ap (λ o. is_some (option_and_then (λ (m : GraphNative). m.reflector) o)) e ∙ r

-- the native of a reflector that was made
pub reflector-made : (g : Graph) (k : ℕ) → IsTrue (was_made g (reflector k)) → (n : GraphNative) × (native_in g k ≡ Some n) × (is_some n.reflector ≡ true)
reflector-made g k m = grind arith

-- One object by itself

-- a native as it may be in a well made graph
pub record NativeFits (g : Graph) (k : ℕ) (n : GraphNative) : Type 0 where
  pub slots : length n.slots ≤ most_slots
  pub held : (x : Name) → Among x (contents n.slots) → IsTrue (was_made g x)
  pub preserved : n.preserved ≡ true → IsTrue (was_made g (reflector k))
  pub reflector : (slots : Slots) → n.reflector ≡ Some slots → length slots ≡ reflector_slots
  pub reflector_held : (slots : Slots) (x : Name) → n.reflector ≡ Some slots → Among x (contents slots) → IsTrue (is_made_script g x)

-- a script object as it may be in a well made graph
pub record ScriptFits (g : Graph) (o : GraphScript) : Type 0 where
  pub slots : (slots : Slots) → o ≡ plain_object slots → length slots ≤ most_slots
  pub held : (slots : Slots) (x : Name) → o ≡ plain_object slots → Among x (contents slots) → IsTrue (is_made_script g x)
  pub delegate : (d : Name) → o ≡ proxy d → IsTrue (is_made_script g d)

-- each native of a well made graph fits
pub IsWellMade-native : (g : Graph) → IsWellMade g → (k : ℕ) (n : GraphNative) → native_in g k ≡ Some n → NativeFits g k n
IsWellMade-native g w k n e = grind arith

-- and each script object
pub IsWellMade-script : (g : Graph) → IsWellMade g → (k : ℕ) (o : GraphScript) → script_in g k ≡ Some o → ScriptFits g o
IsWellMade-script g w k o e = grind arith

-- More was made

-- all that was made is, weak maps are weak maps, and what was made keeps its delegate
pub record Grows (g f : Graph) : Type 0 where
  pub made : (x : Name) → IsTrue (was_made g x) → IsTrue (was_made f x)
  pub maps : (k : ℕ) → script_in g k ≡ Some weak_map → script_in f k ≡ Some weak_map
  pub delegates : (x : Name) → IsTrue (was_made g x) → delegate_in f x ≡ delegate_in g x

module _ (g f : Graph) (more : Grows g f) where
  -- a native that was made is one still
  pub is_made_native-grows : (x : Name) → IsTrue (is_made_native g x) → IsTrue (is_made_native f x)
  is_made_native-grows x m = let p = and_parts (is_native x) (was_made g x) m in and_from (is_native x) (was_made f x) p.0 (more.made x p.1)

  -- a script object that was made is one still
  pub is_made_script-grows : (x : Name) → IsTrue (is_made_script g x) → IsTrue (is_made_script f x)
  is_made_script-grows x m = let p = and_parts (is_script x) (was_made g x) m in and_from (is_script x) (was_made f x) p.0 (more.made x p.1)

  -- a native that fits, fits still
  pub NativeFits-grows : (k : ℕ) (n : GraphNative) → NativeFits g k n → NativeFits f k n
  NativeFits-grows k n t = record {
    slots = t.slots;
    held = λ x m. more.made x (t.held x m);
    preserved = λ e. more.made (reflector k) (t.preserved e);
    reflector = t.reflector;
    reflector_held = λ slots x e m. is_made_script-grows x (t.reflector_held slots x e m);
  }

  -- a script object that fits, fits still
  pub ScriptFits-grows : (o : GraphScript) → ScriptFits g o → ScriptFits f o
  ScriptFits-grows o t = grind (arith, is_made_script-grows)

  -- an entry of what was made is one still
  pub IsMadeEntry-grows : (e : Entry) → IsMadeEntry g e → IsMadeEntry f e
  IsMadeEntry-grows e t = record {
    the_map = (t.the_map.0, t.the_map.1, more.maps t.the_map.0 t.the_map.2);
    key = is_made_script-grows e.key t.key;
    value = is_made_script-grows e.value t.value;
    delegate = t.delegate ∙ sym (more.delegates e.key (and_parts (is_script e.key) (was_made g e.key) t.key).1);
  }

-- One list changed

-- registers
abbrev pub with_registers : Graph → Slots → Slots → Graph
with_registers g ns ss = record g { native_registers = ns; script_registers = ss }

-- banks of registers that hold what was made, each of its kind
pub record AreRegisters (g : Graph) (ns ss : Slots) : Type 0 where
  pub natives : (x : Name) → Among x (contents ns) → IsTrue (is_made_native g x)
  pub scripts : (x : Name) → Among x (contents ss) → IsTrue (is_made_script g x)
  pub lengths : IsBankLength (length ns) × IsBankLength (length ss)

-- WITH OTHER REGISTERS a graph is well made.
pub IsWellMade-registers : (g : Graph) (ns ss : Slots) → IsWellMade g → AreRegisters g ns ss → IsWellMade (with_registers g ns ss)
IsWellMade-registers g ns ss w r = record {
  registers = r.lengths;
  native_registers = r.natives;
  script_registers = r.scripts;
  weak = w.weak;
  weak_registers = w.weak_registers;
  native_slots = w.native_slots;
  native_contents = w.native_contents;
  preserved = w.preserved;
  reflectors = w.reflectors;
  reflector_contents = w.reflector_contents;
  script_slots = w.script_slots;
  script_contents = w.script_contents;
  delegates = w.delegates;
  entries = λ e m. IsMadeEntry-grows g (with_registers g ns ss) (record { made = λ x i. i; maps = λ k s. s; delegates = λ x i. same x }) e (w.entries e m);
  one_entry = w.one_entry;
  natives_allowed = w.natives_allowed;
  scripts_allowed = w.scripts_allowed;
}
  where
    same : (x : Name) → delegate_in (with_registers g ns ss) x ≡ delegate_in g x
    same (name.Native k) = refl
    same _ = refl

-- weak registers
abbrev pub with_weak : Graph → Slots → Graph
with_weak g ws = record g { weak_registers = ws }

-- WITH OTHER WEAK REGISTERS, as many, which note natives that were made, a graph is well made.
pub IsWellMade-weak : (g : Graph) (ws : Slots) → IsWellMade g → length ws ≡ weak_length →
    ((x : Name) → Among x (contents ws) → IsTrue (is_made_native g x)) → IsWellMade (with_weak g ws)
IsWellMade-weak g ws w many noted = record {
  registers = w.registers;
  native_registers = w.native_registers;
  script_registers = w.script_registers;
  weak = many;
  weak_registers = noted;
  native_slots = w.native_slots;
  native_contents = w.native_contents;
  preserved = w.preserved;
  reflectors = w.reflectors;
  reflector_contents = w.reflector_contents;
  script_slots = w.script_slots;
  script_contents = w.script_contents;
  delegates = w.delegates;
  entries = λ e m. IsMadeEntry-grows g (with_weak g ws) (record { made = λ x i. i; maps = λ k s. s; delegates = λ x i. same x }) e (w.entries e m);
  one_entry = w.one_entry;
  natives_allowed = w.natives_allowed;
  scripts_allowed = w.scripts_allowed;
}
  where
    same : (x : Name) → delegate_in (with_weak g ws) x ≡ delegate_in g x
    same (name.Native k) = refl
    same _ = refl

-- natives
abbrev pub with_natives : Graph → List GraphNative → Graph
with_natives g ns = record g { natives = ns }

-- natives that may take the place of the graph's
pub record AreNatives (g : Graph) (ns : List GraphNative) : Type 0 where
  -- none is taken out, and none loses its reflector
  pub stay : (k : ℕ) (n : GraphNative) → native_in g k ≡ Some n → (m : GraphNative) × (numbered ns k ≡ Some m) × (is_some n.reflector ≡ true → is_some m.reflector ≡ true)
  pub fit : (k : ℕ) (m : GraphNative) → numbered ns k ≡ Some m → NativeFits (with_natives g ns) k m
  pub allowed : length ns ≤ g.limits.natives

-- where natives stay, all that was made is
pub Grows-natives : (g : Graph) (ns : List GraphNative) →
    ((k : ℕ) (n : GraphNative) → native_in g k ≡ Some n → (m : GraphNative) × (numbered ns k ≡ Some m) × (is_some n.reflector ≡ true → is_some m.reflector ≡ true)) →
    Grows g (with_natives g ns)
Grows-natives g ns stay = grind (arith, is_some-found, was_made-native, reflector-made, was_made-reflector)

-- WITH OTHER NATIVES a graph is well made.
pub IsWellMade-natives : (g : Graph) (ns : List GraphNative) → IsWellMade g → AreNatives g ns → IsWellMade (with_natives g ns)
IsWellMade-natives g ns w a = record {
  registers = w.registers;
  native_registers = λ x m. is_made_native-grows g f more x (w.native_registers x m);
  script_registers = λ x m. is_made_script-grows g f more x (w.script_registers x m);
  weak = w.weak;
  weak_registers = λ x m. is_made_native-grows g f more x (w.weak_registers x m);
  native_slots = λ k n e. (a.fit k n e).slots;
  native_contents = λ k n x e m. (a.fit k n e).held x m;
  preserved = λ k n e. (a.fit k n e).preserved;
  reflectors = λ k n slots e r. (a.fit k n e).reflector slots r;
  reflector_contents = λ k n slots x e r m. (a.fit k n e).reflector_held slots x r m;
  script_slots = w.script_slots;
  script_contents = λ k slots x e m. is_made_script-grows g f more x (w.script_contents k slots x e m);
  delegates = λ k d e. is_made_script-grows g f more d (w.delegates k d e);
  entries = λ e m. IsMadeEntry-grows g f more e (w.entries e m);
  one_entry = w.one_entry;
  natives_allowed = a.allowed;
  scripts_allowed = w.scripts_allowed;
}
  where
    f : Graph
    f = with_natives g ns

    more : Grows g f
    more = Grows-natives g ns a.stay

-- script objects
abbrev pub with_scripts : Graph → List GraphScript → Graph
with_scripts g os = record g { scripts = os }

-- a script object that is a weak map where it was one, and has the delegate that it had
abbrev pub IsSameScript : GraphScript → GraphScript → Type 0
IsSameScript o p = (o ≡ weak_map → p ≡ weak_map) × (delegate_of_script p ≡ delegate_of_script o)

-- script objects that may take the place of the graph's
pub record AreScripts (g : Graph) (os : List GraphScript) : Type 0 where
  -- none is taken out, weak maps are weak maps, and each keeps its delegate
  pub stay : (k : ℕ) (o : GraphScript) → script_in g k ≡ Some o → (p : GraphScript) × (numbered os k ≡ Some p) × IsSameScript o p
  pub fit : (k : ℕ) (p : GraphScript) → numbered os k ≡ Some p → ScriptFits (with_scripts g os) p
  pub allowed : length os ≤ g.limits.scripts

-- where script objects stay, all that was made is
pub Grows-scripts : (g : Graph) (os : List GraphScript) →
    ((k : ℕ) (o : GraphScript) → script_in g k ≡ Some o → (p : GraphScript) × (numbered os k ≡ Some p) × IsSameScript o p) →
    Grows g (with_scripts g os)
Grows-scripts g os stay = grind (arith, is_some-found, was_made-script)

-- WITH OTHER SCRIPT OBJECTS a graph is well made.
pub IsWellMade-scripts : (g : Graph) (os : List GraphScript) → IsWellMade g → AreScripts g os → IsWellMade (with_scripts g os)
IsWellMade-scripts g os w a = record {
  registers = w.registers;
  native_registers = λ x m. is_made_native-grows g f more x (w.native_registers x m);
  script_registers = λ x m. is_made_script-grows g f more x (w.script_registers x m);
  weak = w.weak;
  weak_registers = λ x m. is_made_native-grows g f more x (w.weak_registers x m);
  native_slots = w.native_slots;
  native_contents = λ k n x e m. more.made x (w.native_contents k n x e m);
  preserved = w.preserved;
  reflectors = w.reflectors;
  reflector_contents = λ k n slots x e r m. is_made_script-grows g f more x (w.reflector_contents k n slots x e r m);
  script_slots = λ k slots e. (a.fit k (plain_object slots) e).slots slots refl;
  script_contents = λ k slots x e m. (a.fit k (plain_object slots) e).held slots x refl m;
  delegates = λ k d e. (a.fit k (proxy d) e).delegate d refl;
  entries = λ e m. IsMadeEntry-grows g f more e (w.entries e m);
  one_entry = w.one_entry;
  natives_allowed = w.natives_allowed;
  scripts_allowed = a.allowed;
}
  where
    f : Graph
    f = with_scripts g os

    more : Grows g f
    more = Grows-scripts g os a.stay

-- entries
abbrev pub with_entries : Graph → List Entry → Graph
with_entries g es = record g { entries = es }

-- WITH OTHER ENTRIES, of what was made, a graph is well made.
pub IsWellMade-entries : (g : Graph) (es : List Entry) → IsWellMade g → ((e : Entry) → Among e es → IsMadeEntry g e) →
    ((m k : Name) → count_by (is_entry_of m k) es ≤ 1) → IsWellMade (with_entries g es)
IsWellMade-entries g es w members once = grind (arith, IsMadeEntry-grows)
