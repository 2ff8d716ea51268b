-- The forms in groups, those of one word, and tokens that stand at one place in several of them.
use Rattle.std.specs.Prelude.{List, [], ◌∷◌, ℕ, Option, Some, None, option_map}
use Rattle.cc_names.specs.declared.register.Reg.{Reg}
use Rattle.cc_names.specs.declared.register.Reg.TheVariants.{N, S}
use Rattle.cc_model.specs.declared.command.Command.{Command}
use Rattle.cc_model.specs.declared.dialect.Dialect.{Dialect}
use Rattle.cc_model.specs.declared.dialect.Dialect.TheVariants.{Start, One, Two}
use Rattle.cc_model.specs.Forms.{Form, census_form, collect_form, copy_native_form, copy_script_form, deref_form, drop_native_form, drop_script_form, drop_weak_form, expose_form, forget_form, gc_form, get_entry_form, get_native_form, get_script_form, mark_form, move_form, native_form, preserve_form, proxy_form, put_none_form, put_script_form, script_form, set_entry_form, set_native_form, set_none_form, set_script_form, slice_form, take_form, unset_entry_form, unwrap_form, version_form, weak_form, weak_map_form, why_form, wrap_form}
use Rattle.cc_model.specs.Tokens.{native_register, script_register}

-- what the first form that reads these tokens makes of them
abbrev pub first_read : List Form → List (List ℕ) → Option Command
first_read [] after = None
first_read (f ∷ fs) after = elim (f.reads after) [ Some c ↦ Some c | None ↦ first_read fs after ]

-- the register of either kind that a token names
abbrev pub register_of : Dialect → List ℕ → Option Reg
register_of v token = elim (native_register v token) [ Some r ↦ Some (N r) | None ↦ option_map S (script_register v token) ]

-- the forms of the words that make an object, or copy or drop what a register holds
abbrev pub register_forms : Dialect → List Form
register_forms v = native_form v ∷ script_form v ∷ weak_map_form v ∷ proxy_form v ∷ copy_native_form v ∷ copy_script_form v ∷ drop_native_form v ∷ drop_script_form v ∷ []

-- of those that write or read a slot
abbrev pub slot_forms : Dialect → List Form
slot_forms v = set_native_form v ∷ set_script_form v ∷ set_none_form v ∷ get_native_form v ∷ get_script_form v ∷ put_script_form v ∷ put_none_form v ∷ take_form v ∷ []

-- of those that speak of a reflector, an entry of a weak map or an exposure
abbrev pub reflector_forms : Dialect → List Form
reflector_forms v = wrap_form v ∷ unwrap_form v ∷ preserve_form v ∷ set_entry_form v ∷ unset_entry_form v ∷ get_entry_form v ∷ expose_form v ∷ []

-- and of those that name no register
abbrev pub heap_forms : List Form
heap_forms = slice_form ∷ collect_form ∷ gc_form ∷ census_form ∷ []

-- the forms of the words that a dialect alone has
abbrev pub own_forms : Dialect → List Form
own_forms Start = version_form ∷ []
own_forms One = []
own_forms Two = move_form Two ∷ why_form ∷ forget_form ∷ mark_form ∷ weak_form Two ∷ deref_form Two ∷ drop_weak_form ∷ []
