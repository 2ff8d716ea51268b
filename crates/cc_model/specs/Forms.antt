-- The grammar of commands as a list of forms. A form is a word and what stands after it.
use Rattle.std.specs.Prelude.{ℕ, List, [], ◌∷◌, Option, Some, None, if◌then◌else◌, codes, option_map}
use Rattle.cc_names.specs.declared.register.Reg.TheVariants.{N, S, W}
use Rattle.cc_model.specs.declared.command.Command.{Command}
use Rattle.cc_model.specs.declared.command.Command.TheVariants as command
use Rattle.cc_model.specs.declared.dialect.Dialect.{Dialect}
use Rattle.cc_model.specs.declared.dialect.Dialect.TheVariants.{Start, One, Two}
use Rattle.cc_model.specs.Tokens.{number, slots_number, units_number, native_register, script_register, weak_register, object_name, is_none_word, is_version_two}

-- a word, and how the tokens after it are read; none where they are not of this form
pub record Form : Type 0 where
  pub word : List ℕ
  pub reads : List (List ℕ) → Option Command

abbrev pub form : List ℕ → (List (List ℕ) → Option Command) → Form
form word reads = record { word = word; reads = reads }

-- where both are read
abbrev pub both : {A B C : Type 0} → (A → B → C) → Option A → Option B → Option C
both f None y = None
both f (Some a) y = option_map (f a) y

-- where all three are read
abbrev pub all_three : {A B C D : Type 0} → (A → B → C → D) → Option A → Option B → Option C → Option D
all_three f None y z = None
all_three f (Some a) y z = both (f a) y z

-- where all four are read
abbrev pub all_four : {A B C D E : Type 0} → (A → B → C → D → E) → Option A → Option B → Option C → Option D → Option E
all_four f None x y z = None
all_four f (Some a) x y z = all_three (f a) x y z

-- nothing, where the token is the word `none`
abbrev pub nothing : {A : Type 0} → List ℕ → Option (Option A)
nothing token = if is_none_word token then Some None else None

-- nothing more to say, where the token is the number of version 2
abbrev pub version_two : List ℕ → Option (Unit {0})
version_two token = if is_version_two token then Some tt else None

-- forms of one to four tokens, and of none
abbrev pub alone : Command → List (List ℕ) → Option Command
alone c [] = Some c
alone c (a ∷ tokens) = None

abbrev pub of_one : {A : Type 0} → (A → Command) → (List ℕ → Option A) → List (List ℕ) → Option Command
of_one f first (a ∷ []) = option_map f (first a)
of_one f first _ = None

abbrev pub of_two : {A B : Type 0} → (A → B → Command) → (List ℕ → Option A) → (List ℕ → Option B) → List (List ℕ) → Option Command
of_two f first second (a ∷ b ∷ []) = both f (first a) (second b)
of_two f first second _ = None

abbrev pub of_three : {A B C : Type 0} → (A → B → C → Command) → (List ℕ → Option A) → (List ℕ → Option B) → (List ℕ → Option C) → List (List ℕ) → Option Command
of_three f first second third (a ∷ b ∷ c ∷ []) = all_three f (first a) (second b) (third c)
of_three f first second third _ = None

abbrev pub of_four : {A B C D : Type 0} → (A → B → C → D → Command) → (List ℕ → Option A) → (List ℕ → Option B) → (List ℕ → Option C) → (List ℕ → Option D) → List (List ℕ) → Option Command
of_four f first second third fourth (a ∷ b ∷ c ∷ d ∷ []) = all_four f (first a) (second b) (third c) (fourth d)
of_four f first second third fourth _ = None

-- the forms without a script register
abbrev pub native_form : Dialect → Form
native_form v = form (codes "native") (of_two command.Native (native_register v) (slots_number v))

abbrev pub copy_native_form : Dialect → Form
copy_native_form v = form (codes "copy") (of_two command.CopyNative (native_register v) (native_register v))

abbrev pub drop_native_form : Dialect → Form
drop_native_form v = form (codes "drop") (of_one (λ d. command.Drop (N d)) (native_register v))

abbrev pub set_native_form : Dialect → Form
set_native_form v = form (codes "set") (of_three (λ d i s. command.Set d i (Some (N s))) (native_register v) number (native_register v))

abbrev pub set_none_form : Dialect → Form
set_none_form v = form (codes "set") (of_three command.Set (native_register v) number nothing)

abbrev pub get_native_form : Dialect → Form
get_native_form v = form (codes "get") (of_three (λ d s i. command.Get (N d) s i) (native_register v) (native_register v) number)

-- the forms with script registers
abbrev pub script_form : Dialect → Form
script_form v = form (codes "script") (of_two command.Script (script_register v) (slots_number v))

abbrev pub weak_map_form : Dialect → Form
weak_map_form v = form (codes "weakmap") (of_one command.WeakMap (script_register v))

abbrev pub proxy_form : Dialect → Form
proxy_form v = form (codes "proxy") (of_two command.Proxy (script_register v) (script_register v))

abbrev pub copy_script_form : Dialect → Form
copy_script_form v = form (codes "copy") (of_two command.CopyScript (script_register v) (script_register v))

abbrev pub drop_script_form : Dialect → Form
drop_script_form v = form (codes "drop") (of_one (λ d. command.Drop (S d)) (script_register v))

abbrev pub set_script_form : Dialect → Form
set_script_form v = form (codes "set") (of_three (λ d i s. command.Set d i (Some (S s))) (native_register v) number (script_register v))

abbrev pub get_script_form : Dialect → Form
get_script_form v = form (codes "get") (of_three (λ d s i. command.Get (S d) s i) (script_register v) (native_register v) number)

abbrev pub put_script_form : Dialect → Form
put_script_form v = form (codes "put") (of_three (λ d i s. command.Put d i (Some s)) (script_register v) number (script_register v))

abbrev pub put_none_form : Dialect → Form
put_none_form v = form (codes "put") (of_three command.Put (script_register v) number nothing)

abbrev pub take_form : Dialect → Form
take_form v = form (codes "take") (of_three command.Take (script_register v) (script_register v) number)

abbrev pub wrap_form : Dialect → Form
wrap_form v = form (codes "wrap") (of_two command.Wrap (script_register v) (native_register v))

abbrev pub unwrap_form : Dialect → Form
unwrap_form v = form (codes "unwrap") (of_two command.Unwrap (native_register v) (script_register v))

abbrev pub preserve_form : Dialect → Form
preserve_form v = form (codes "preserve") (of_one command.Preserve (script_register v))

abbrev pub set_entry_form : Dialect → Form
set_entry_form v = form (codes "wset") (of_three (λ m k x. command.SetEntry m k (Some x)) (script_register v) (script_register v) (script_register v))

abbrev pub unset_entry_form : Dialect → Form
unset_entry_form v = form (codes "wset") (of_three command.SetEntry (script_register v) (script_register v) nothing)

abbrev pub get_entry_form : Dialect → Form
get_entry_form v = form (codes "wget") (of_three command.GetEntry (script_register v) (script_register v) (script_register v))

abbrev pub expose_form : Dialect → Form
expose_form v = form (codes "expose") (of_two command.Expose (native_register v) number)

-- a form of version 2 alone
abbrev pub move_form : Dialect → Form
move_form v = form (codes "move") (of_four command.Move (native_register v) number (native_register v) number)

-- those of weak registers
abbrev pub weak_form : Dialect → Form
weak_form v = form (codes "weak") (of_two command.Weak weak_register (native_register v))

abbrev pub deref_form : Dialect → Form
deref_form v = form (codes "deref") (of_two command.Deref (native_register v) weak_register)

abbrev pub drop_weak_form : Form
drop_weak_form = form (codes "drop") (of_one (λ w. command.Drop (W w)) weak_register)

-- two others, without registers
abbrev pub why_form : Form
why_form = form (codes "why") (of_one command.Why object_name)

abbrev pub forget_form : Form
forget_form = form (codes "forget") (alone command.Forget)

-- units of a script marking
abbrev pub mark_form : Form
mark_form = form (codes "mark") (of_one command.Mark units_number)

-- the forms without registers
abbrev pub slice_form : Form
slice_form = form (codes "slice") (of_one command.Slice units_number)

abbrev pub collect_form : Form
collect_form = form (codes "collect") (alone command.Collect)

abbrev pub gc_form : Form
gc_form = form (codes "gc") (alone command.Gc)

abbrev pub census_form : Form
census_form = form (codes "census") (alone command.Census)

-- the form of the first line of a script of version 2
abbrev pub version_form : Form
version_form = form (codes "version") (of_one (λ _. command.Version2) version_two)

-- THE FORMS OF EVERY VERSION, with the registers and slots of one
abbrev pub common_forms : Dialect → List Form
common_forms v =
    native_form v
    ∷ script_form v
    ∷ weak_map_form v
    ∷ proxy_form v
    ∷ copy_native_form v
    ∷ copy_script_form v
    ∷ drop_native_form v
    ∷ drop_script_form v
    ∷ set_native_form v
    ∷ set_script_form v
    ∷ set_none_form v
    ∷ get_native_form v
    ∷ get_script_form v
    ∷ put_script_form v
    ∷ put_none_form v
    ∷ take_form v
    ∷ wrap_form v
    ∷ unwrap_form v
    ∷ preserve_form v
    ∷ set_entry_form v
    ∷ unset_entry_form v
    ∷ get_entry_form v
    ∷ expose_form v
    ∷ slice_form
    ∷ collect_form
    ∷ gc_form
    ∷ census_form
    ∷ []

-- ALL FORMS of a line: at the start of a script the version may be asked for, and version 2 has more words
abbrev pub forms_of : Dialect → List Form
forms_of Start = version_form ∷ common_forms Start
forms_of One = common_forms One
forms_of Two = move_form Two ∷ why_form ∷ forget_form ∷ mark_form ∷ weak_form Two ∷ deref_form Two ∷ drop_weak_form ∷ common_forms Two
