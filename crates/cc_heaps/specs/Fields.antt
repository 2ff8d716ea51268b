-- WHAT THE FIELDS OF THE HEAPS STAND FOR, and that they fit together.
use Rattle.std.specs.Prelude.{◌≡◌, ℕ, ◌≤◌, ◌==◌, false, length, map, Option, count_by}
use Rattle.cc_lists.specs.Members.{Among}
use Rattle.cc_names.specs.declared.number.NKey.{NKey}
use Rattle.cc_names.specs.declared.number.SKey.{SKey}
use Rattle.cc_names.specs.declared.name.Name.{Name}
use Rattle.cc_names.specs.Names.{same_name, is_native}
use Rattle.cc_model.specs.Banks.{IsBankLength}
use Rattle.cc_model.specs.Slots.{contents}
use Rattle.cc_model.specs.Heap.{Heap, HeapNative}
use Rattle.cc_script.specs.Objects.{Object}
use Rattle.cc_heaps.specs.ToScan.{HasRoom}
use Rattle.cc_heaps.specs.Keyed.{Keyed, reflectors_by}
use Rattle.cc_heaps.specs.Named.{named, IsLive, script_named, IsScriptLive, IsHeldThere, Rest, heap_with}
use Rattle.cc_heaps.specs.declared.heaps.Heaps.TheInside.{Inside}

abbrev pub rest_of : Inside → Rest
rest_of p = record {
  native_registers = map (named p.counted.keys) p.native_registers.items;
  script_registers = map (script_named p.scripts) p.script_registers.items;
  natives_made = p.natives_made;
  scripts_made = p.scripts_made;
  limits = p.limits;
}

abbrev pub heap_of : Inside → Heap
heap_of p = heap_with (rest_of p) p.counted p.scripts p.weak

abbrev pub keyed_of : Inside → Keyed
keyed_of p = record {
  heap = heap_of p;
  keys = p.counted.keys;
  scripts = p.scripts;
  entries = p.weak;
  walks = p.counted.walks;
  marking = p.to_scan.marking;
}

-- THEY FIT TOGETHER: what registers and slots of natives hold is there, no two script objects have one key or one name,
-- each native has the key of the script object that is its reflector by name, and a marking has room for all script objects
pub record IsLinked (p : Inside) : Type 0 where
  pub native_registers : (x : Option NKey) → Among x p.native_registers.items → IsLive p.counted.keys x
  pub script_registers : (x : Option SKey) → Among x p.script_registers.items → IsScriptLive p.scripts x
  pub registers : IsBankLength (length p.native_registers.items) × IsBankLength (length p.script_registers.items)
  pub held : (n : HeapNative) (x : Name) → Among n p.counted.natives → Among x (contents n.slots) → IsHeldThere p.scripts x
  pub one_key : (key : ℕ) → count_by (λ o. o.key == key) p.scripts ≤ 1
  pub one_name : (x : Name) → count_by (λ o. same_name o.name x) p.scripts ≤ 1
  pub reflectors : p.counted.reflectors ≡ reflectors_by p.scripts p.counted.keys
  pub script_names : (o : Object) → Among o p.scripts → is_native o.name ≡ false
  pub room : HasRoom p.to_scan (length p.scripts)
