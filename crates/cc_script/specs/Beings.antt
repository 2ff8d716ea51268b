-- WHAT AN OBJECT IS, read part by part.
use Rattle.std.specs.Prelude.{ℕ, Option, Some, None, option_map}
use Rattle.cc_names.specs.declared.name.Name.{Name}
use Rattle.cc_names.specs.declared.name.Name.TheVariants as name
use Rattle.cc_names.specs.declared.kind.Kind.{Kind}
use Rattle.cc_names.specs.declared.kind.Kind.TheVariants as kind
use Rattle.cc_names.specs.declared.number.NKey.{NKey}
use Rattle.cc_names.specs.declared.number.SKey.{SKey}
use Rattle.cc_script.specs.declared.being.Being.{Being}
use Rattle.cc_script.specs.declared.being.Being.TheVariants.{Plain, Map, Proxy, Reflector}

abbrev pub name_of : Being → Name
name_of (Plain number) = name.Script number
name_of (Map number) = name.Script number
name_of (Proxy number delegate) = name.Script number
name_of (Reflector number native) = name.Reflector number

abbrev pub kind_of : Being → Kind
kind_of (Plain number) = kind.Plain
kind_of (Map number) = kind.Map
kind_of (Proxy number delegate) = kind.Proxy
kind_of (Reflector number native) = kind.Reflector

-- where the native of a reflector stands
abbrev pub native_of : Being → Option NKey
native_of (Plain number) = None
native_of (Map number) = None
native_of (Proxy number delegate) = None
native_of (Reflector number native) = Some native

abbrev pub native_key_of : Being → Option ℕ
native_key_of being = option_map (λ (k : NKey). k.0) (native_of being)

-- the delegate of a proxy
abbrev pub delegate_of : Being → Option SKey
delegate_of (Plain number) = None
delegate_of (Map number) = None
delegate_of (Proxy number delegate) = Some delegate
delegate_of (Reflector number native) = None

abbrev pub delegate_key_of : Being → Option ℕ
delegate_key_of being = option_map (λ (k : SKey). k.0) (delegate_of being)
