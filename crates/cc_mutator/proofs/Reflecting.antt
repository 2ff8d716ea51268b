-- A REFLECTOR IN A REGISTER stands for a native; and keys that are kept where only registers were written since.
use Rattle.std.proofs.Common.{◌≡◌, Option, is_some, sym, ◌∙◌, ap, arith}
use Rattle.std.proofs.lemmas.Bool.{false≢true}
use Rattle.cc_names.specs.declared.name.Name.{Name}
use Rattle.cc_names.specs.declared.number.NKey.{NKey}
use Rattle.cc_model.specs.Checks.{is_reflector_there, native_of}
use Rattle.cc_model.specs.WellFormed.{native_names, script_names}
use Rattle.cc_heaps.specs.Keyed.{Keyed}
use Rattle.cc_heaps.specs.Changes.{IsNativeThere, KeepsKeys, native_name}

-- what is there has a name
native-named : (v : Keyed) (x : Option NKey) → IsNativeThere v x → is_some (native_name v x) ≡ is_some x
native-named v x there = grind (arith, false≢true)

-- what has a native is a reflector
reflector-told : (x : Option Name) → is_some (native_of x) ≡ is_reflector_there x
reflector-told x = grind arith

pub reflector-there : (v : Keyed) (x : Option NKey) (y : Option Name) → native_name v x ≡ native_of y → IsNativeThere v x → is_some x ≡ is_reflector_there y
reflector-there v x y is there = sym (native-named v x there) ∙ (ap is_some is ∙ reflector-told y)

-- Keys are kept where the names of objects stayed.
pub KeepsKeys-then : (u v w : Keyed) → KeepsKeys u v → KeepsKeys v w → native_names w.heap ≡ native_names v.heap → script_names w.heap ≡ script_names v.heap → KeepsKeys u w
KeepsKeys-then u v w p q natives scripts = grind (arith, p.natives, p.scripts)
