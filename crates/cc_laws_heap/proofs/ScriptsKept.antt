-- WHAT CHANGES IN SCRIPT OBJECTS KEEPS THE HEAPS SOUND: a slot written, an exposure, a reflector preserved.
use Rattle.std.proofs.Common.{arith, ◌≡◌, ℕ, Bool, List, set, Option, Some, None, refl, subst, inl, ◌<◌}
use Rattle.std.proofs.lemmas.List.{length-set}
use Rattle.cc_lists.specs.Members.{Among, has}
use Rattle.cc_lists.proofs.Members.{Among-map_cases}
use Rattle.cc_names.specs.declared.name.Name.{Name}
use Rattle.cc_names.specs.declared.name.Name.TheVariants as name
use Rattle.cc_names.specs.declared.kind.Kind.{Kind}
use Rattle.cc_names.specs.Names.{native, object, reflector, same_name}
use Rattle.cc_model.specs.Slots.{Slots, contents}
use Rattle.cc_model.specs.Heap.{Heap, HeapScript, set_slot, with_script_slot, preserve}
use Rattle.cc_model.specs.Exposure.{exposed, exposed_names, as_black}
use Rattle.cc_model.specs.Effects.{hold_script, put_in_script}
use Rattle.cc_model.specs.WellFormed.{IsWellFormed, FitsName, script_names}
use Rattle.cc_laws_heap.specs.Sound.{IsSound}
use Rattle.cc_lists.proofs.ListWrites.{changed_where, changed_where-either}
use Rattle.cc_laws_heap.proofs.Kept.{ChangesScripts, script_names-kept}
use Rattle.cc_laws_heap.proofs.Owning.{IsIn}
use Rattle.cc_laws_heap.proofs.Writes.{contents-written, script_register-sound, set_preserved-sound, scripts-sound}

-- A slot written

-- a slot written leaves as many
FitsName-set : (x : Name) (kind : Kind) (slots : Slots) (i : ℕ) (y : Option Name) → FitsName x kind slots → FitsName x kind (set slots i y)
FitsName-set x kind slots i y f = grind (arith, length-set)

-- whether its name is x
abbrev pub has_name : Name → HeapScript → Bool
has_name x o = same_name o.name x

-- a slot written with what is there changes no name and no kind
pub ChangesScripts-slot : (h : Heap) (x : Name) (i : ℕ) (y : Option Name) → IsWellFormed h → IsIn (script_names h) y →
    ChangesScripts h (changed_where (has_name x) (with_script_slot i y))
ChangesScripts-slot h x i y w there = record {
  name = λ o. changed_where-either (λ p. p.name ≡ o.name) (has_name x) written o (λ e. refl) refl;
  kind = λ o. changed_where-either (λ p. p.kind ≡ o.kind) (has_name x) written o (λ e. refl) refl;
  delegate = λ o. changed_where-either (λ p. p.delegate ≡ o.delegate) (has_name x) written o (λ e. refl) refl;
  fits = λ o m. changed_where-either (λ p. FitsName o.name o.kind p.slots) (has_name x) written o
      (λ e. FitsName-set o.name o.kind o.slots i y (w.kinds o m)) (w.kinds o m);
  contents = λ o m z. changed_where-either (λ p. Among z (contents p.slots) → Among z (script_names h)) (has_name x) written o
      (λ e. contents-written (script_names h) o.slots i y there (λ v. w.script_contents o v m) z) (w.script_contents o z m);
}
  where
    written : HeapScript → HeapScript
    written o = with_script_slot i y o

-- what script registers hold is no native
pub native-no_script : (h : Heap) (k : ℕ) → IsWellFormed h → ¬ (Among (native k) (script_names h))
native-no_script h k w m =
    let f = Among-map_cases (λ (o : HeapScript). o.name) h.scripts (native k) m in
    subst (λ x. FitsName x f.0.kind f.0.slots) f.2 (w.kinds f.0 f.1)

-- A reflector that is there is preserved, nothing else.
pub preserve-sound : (owned : List ℕ) (h : Heap) (x : Option Name) → IsIn (script_names h) x → IsSound owned h → IsSound owned (preserve h x)
preserve-sound owned h (Some (name.Reflector k)) there s = set_preserved-sound owned h k.0 (there (reflector k.0) (inl refl)) s
preserve-sound owned h _ there s = s

-- script objects stay
pub preserve-scripts : (h : Heap) (x : Option Name) → (preserve h x).scripts ≡ h.scripts
preserve-scripts h x = grind arith

pub script_names-preserve : (h : Heap) (x : Option Name) → script_names (preserve h x) ≡ script_names h
script_names-preserve h x = grind arith

-- and numbers made
pub preserve-room : (h : Heap) (x : Option Name) → h.scripts_made < h.limits.scripts → (preserve h x).scripts_made < (preserve h x).limits.scripts
preserve-room h x room = grind arith

-- Slot i of a script object that is there is written.
pub script_slot-sound : (owned : List ℕ) (h : Heap) (x : Option Name) (i : ℕ) (y : Option Name) → IsIn (script_names h) x → IsIn (script_names h) y →
    IsSound owned h → IsSound owned (set_slot h x i y)
script_slot-sound owned h None i y at there s = s
script_slot-sound owned h (Some (name.Native k)) i y at there s = absurd (native-no_script h k.0 s.well_formed (at (native k.0) (inl refl)))
script_slot-sound owned h (Some (name.Script k)) i y at there s =
    scripts-sound owned h (changed_where (has_name (object k.0)) (with_script_slot i y)) (ChangesScripts-slot h (object k.0) i y s.well_formed there) s
script_slot-sound owned h (Some (name.Reflector k)) i y at there s =
    scripts-sound owned h (changed_where (has_name (reflector k.0)) (with_script_slot i y)) (ChangesScripts-slot h (reflector k.0) i y s.well_formed there) s

-- A reflector is preserved, and slot i of a script object written.
pub put_in_script-sound : (owned : List ℕ) (h : Heap) (x : Option Name) (i : ℕ) (y : Option Name) → IsIn (script_names h) x →
    IsIn (script_names h) y →
    IsSound owned h → IsSound owned (put_in_script h x i y)
put_in_script-sound owned h x i y at there s = search (script_names-preserve, script_slot-sound, preserve-sound)

-- An exposure

-- whether its name stands in a list
abbrev pub is_one_of : List Name → HeapScript → Bool
is_one_of names o = has same_name names o.name

-- colours are neither names nor kinds nor slots
pub ChangesScripts-black : (h : Heap) (names : List Name) → IsWellFormed h → ChangesScripts h (changed_where (is_one_of names) as_black)
ChangesScripts-black h names w = record {
  name = λ o. changed_where-either (λ p. p.name ≡ o.name) (is_one_of names) as_black o (λ e. refl) refl;
  kind = λ o. changed_where-either (λ p. p.kind ≡ o.kind) (is_one_of names) as_black o (λ e. refl) refl;
  delegate = λ o. changed_where-either (λ p. p.delegate ≡ o.delegate) (is_one_of names) as_black o (λ e. refl) refl;
  fits = λ o m. changed_where-either (λ p. FitsName o.name o.kind p.slots) (is_one_of names) as_black o (λ e. w.kinds o m) (w.kinds o m);
  contents = λ o m z. changed_where-either (λ p. Among z (contents p.slots) → Among z (script_names h)) (is_one_of names) as_black o
      (λ e. w.script_contents o z m) (w.script_contents o z m);
}

-- An exposure changes colours alone.
pub exposed-sound : (owned : List ℕ) (h : Heap) (x : Option Name) → IsSound owned h → IsSound owned (exposed h x)
unfolding exposed
exposed-sound owned h None s = s
exposed-sound owned h (Some x) s = scripts-sound owned h (changed_where (is_one_of (exposed_names h x)) as_black)
    (ChangesScripts-black h (exposed_names h x) s.well_formed) s

-- script objects stay
pub script_names-exposed : (h : Heap) (x : Option Name) → IsWellFormed h → script_names (exposed h x) ≡ script_names h
unfolding exposed
script_names-exposed h None w = refl
script_names-exposed h (Some x) w = script_names-kept h (changed_where (is_one_of (exposed_names h x)) as_black) (ChangesScripts-black h (exposed_names h x) w)

-- What comes into a script register is exposed.
pub hold_script-sound : (owned : List ℕ) (h : Heap) (d : ℕ) (x : Option Name) → IsIn (script_names h) x → IsSound owned h →
    IsSound owned (hold_script h d x)
hold_script-sound owned h d x there s = search (script_register-sound, script_names-exposed, exposed-sound)
