-- STEPS AT SCRIPT OBJECTS AND ENTRIES: no native register changes, and nothing leaves or comes.
use Rattle.std.proofs.Common.{◌≡◌, ℕ, true, ◌++◌, Option, Some, None, Result, Ok, Err, IfSome, OnOk, OnErr, refl, sym, ◌∙◌, ap, subst}
use Rattle.cc_lists.specs.Members.{Among}
use Rattle.cc_lists.proofs.ListWrites.{changed_where, changed_where-either, map-kept}
use Rattle.cc_names.specs.declared.name.Name.{Name}
use Rattle.cc_names.specs.declared.name.Name.TheVariants as name
use Rattle.cc_names.specs.declared.number.SKey.{SKey}
use Rattle.cc_names.specs.declared.kind.Colour.TheVariants.{Black}
use Rattle.cc_names.specs.declared.register.Reg.TheVariants.{N}
use Rattle.cc_names.specs.Names.{object, reflector, same_name}
use Rattle.cc_model.specs.Effects.{hold_script, set_entry}
use Rattle.cc_model.specs.Exposure.{exposed}
use Rattle.cc_model.specs.Heap.{Heap, HeapScript, change_script, preserve, register, set_slot, with_script_slot}
use Rattle.cc_model.specs.WellFormed.{IsWellFormed, names_there, native_names, script_names}
use Rattle.cc_laws_heap.proofs.Face.{native_names-change, script_names-exposed}
use Rattle.cc_script.specs.Objects.{colour_at}
use Rattle.cc_heaps.specs.Keyed.{Keyed}
use Rattle.cc_heaps.specs.Changes.{IsScriptThere, script_name}
use Rattle.cc_heaps.specs.Leaving.{NoneCame, NothingLeft}
use Rattle.cc_host.specs.Exposing.{AreSame}
use Rattle.cc_host.specs.Hosted.{spare}
use Rattle.cc_host.proofs.Exposed.{exposed-rest}

-- native registers stay, and so does what is there
pub record StaysBeside (h k : Heap) : Type 0 where
  pub registers : k.native_registers ≡ h.native_registers
  pub names : names_there k ≡ names_there h

-- what is held as a script object is as it was
module _ (v w : Keyed) (same : AreSame v.scripts w.scripts) where
  pub content-there : (x : Option SKey) → IsScriptThere v x → IsScriptThere w x
  content-there None t = tt
  content-there (Some key) t = (same key.0 t).there

  pub content-name : (x : Option SKey) → IsScriptThere v x → script_name w x ≡ script_name v x
  content-name None t = refl
  content-name (Some key) t = (same key.0 t).name

  pub content-black : (x : Option SKey) → IsScriptThere v x → IfSome x (λ k. colour_at v.scripts k.0 ≡ Some Black) → IfSome x (λ k. colour_at w.scripts k.0 ≡ Some Black)
  content-black None t b = tt
  content-black (Some key) t b = (same key.0 t).black b

module _ (h : Heap) where
  -- a reflector preserved
  pub preserve-beside : (x : Option Name) → StaysBeside h (preserve h x)
  preserve-beside None = record { registers = refl; names = refl }
  preserve-beside (Some (name.Native k)) = record { registers = refl; names = refl }
  preserve-beside (Some (name.Script k)) = record { registers = refl; names = refl }
  preserve-beside (Some (name.Reflector k)) = record {
    registers = refl;
    names = ap (λ xs. xs ++ script_names h) (native_names-change h k.0 (λ n. record n { preserved = true }) (λ n. refl));
  }

  -- names of script objects stay where a slot of one is written
  written : (x : Name) (i : ℕ) (y : Option Name) → script_names (change_script h x (with_script_slot i y)) ≡ script_names h
  written x i y = map-kept (λ (o : HeapScript). o.name) (changed_where (λ o. same_name o.name x) (with_script_slot i y)) h.scripts
      (λ o. changed_where-either (λ (p : HeapScript). p.name ≡ o.name) (λ p. same_name p.name x) (with_script_slot i y) o (λ e. refl) refl)

  -- the slot of a script object written
  pub slot-beside : (x : Option Name) (i : ℕ) (y : Option Name) → StaysBeside h (set_slot h x i y)
  slot-beside None i y = record { registers = refl; names = refl }
  slot-beside (Some (name.Native k)) i y = record {
    registers = refl;
    names = ap (λ xs. xs ++ script_names h) (native_names-change h k.0 _ (λ n. refl));
  }
  slot-beside (Some (name.Script k)) i y = record { registers = refl; names = ap (λ xs. native_names h ++ xs) (written (object k.0) i y) }
  slot-beside (Some (name.Reflector k)) i y = record { registers = refl; names = ap (λ xs. native_names h ++ xs) (written (reflector k.0) i y) }

  -- an entry set or taken out
  pub entry-beside : (m k v : Option Name) → StaysBeside h (set_entry h m k v)
  entry-beside (Some m) (Some k) (Some v) = let p = preserve-beside (Some k) in record { registers = p.registers; names = p.names }
  entry-beside (Some m) (Some k) None = record { registers = refl; names = refl }
  entry-beside (Some m) None v = record { registers = refl; names = refl }
  entry-beside None k v = record { registers = refl; names = refl }

  -- a script register written, what comes into it exposed
  pub hold_script-beside : IsWellFormed h → (r : ℕ) (x : Option Name) → StaysBeside h (hold_script h r x)
  hold_script-beside well r x = record {
    registers = ap (λ (k : Heap). k.native_registers) (exposed-rest h x);
    names = ap (λ (k : Heap). native_names k ++ script_names (exposed h x)) (exposed-rest h x) ∙ ap (λ xs. native_names h ++ xs) (script_names-exposed h x well);
  }

module _ (v w : Keyed) (b : StaysBeside v.heap w.heap) where
  pub beside-spared : register v.heap (N spare) ≡ None → register w.heap (N spare) ≡ None
  beside-spared e = ap (λ rs. register (record v.heap { native_registers = rs }) (N spare)) b.registers ∙ e

  pub beside-none_left : NothingLeft v.heap w.heap
  beside-none_left x i = subst (Among x) (sym b.names) i

  pub beside-none_came : NoneCame v.heap w.heap
  beside-none_came x i = subst (Among x) b.names i

-- What follows of a call that may be refused

pub ok-both : {A E P Q R : Type 0} (r : Result A E) → OnOk r P → OnOk r Q → (P → Q → R) → OnOk r R
ok-both (Ok a) g h f = f g h
ok-both (Err e) g h f = tt

pub either-way : {A E P Q R : Type 0} (r : Result A E) → OnOk r P → OnErr r Q → (P → R) → (Q → R) → R
either-way (Ok a) g h f k = f g
either-way (Err e) g h f k = k h
