-- WHAT A STEP OF THE GRAPH KEEPS: its limits, and all that was made.
use Rattle.std.proofs.Common.{◌≡◌, ℕ, true, List, [], ◌∷◌, ◌++◌, Option, Some, None, is_some, option_map, refl, sym, ◌∙◌, ap, subst, ⊎_elim}
use Rattle.std.specs.Prelude.{IsTrue}
use Rattle.std.specs.Option.{option_and_then}
use Rattle.std.proofs.lemmas.Bool.{false≢true}
use Rattle.cc_names.specs.declared.name.Name.{Name}
use Rattle.cc_names.specs.declared.name.Name.TheVariants as name
use Rattle.cc_names.specs.declared.register.Reg.{Reg}
use Rattle.cc_names.specs.declared.register.Reg.TheVariants.{N, S, W}
use Rattle.cc_model.specs.declared.command.Command.{Command}
use Rattle.cc_model.specs.declared.item.Refusal.{Refusal}
use Rattle.cc_model.specs.Slots.{empty_slots}
use Rattle.cc_model.specs.Checks.{slot_at, reflector_of, refusal_of}
use Rattle.cc_model.specs.Deeds.{Deed, nothing_done, native_made, plain_made, map_made, proxy_made, native_held, script_held, script_copied, native_stored, slot_moved, script_stored, reflector_held, reflector_preserved, entry_written, object_exposed, weak_written, deed_of}
use Rattle.cc_model.specs.Graph.{done_to, Graph, GraphNative, GraphScript, plain_object, weak_map, proxy, numbered, native_in, script_in, objects_of, register, set_register, set_native, set_script, set_slot, preserve, wrapped, set_entry, as_preserved, as_wrapped, with_slot, with_reflector_slot, with_script_slot, with_native, with_script, with_proxy, changed, unless_refused, step, new_graph_native}
use Rattle.cc_model.specs.WellMade.{was_made}
use Rattle.cc_laws_heap.proofs.Face.{Grows-change_native, KeepsReflector-slot, change_numbered, is_some-found, numbered-change, numbered-change_other, numbered-push_old, set_script-is}
use Rattle.std.proofs.lemmas.Bool.Decides.{eqb_tells}

-- the limits are the same, and all that was made is
pub record Stays (g f : Graph) : Type 0 where
  pub limits : f.limits ≡ g.limits
  pub made : (x : Name) → IsTrue (was_made g x) → IsTrue (was_made f x)

Stays-same : (g : Graph) → Stays g g
Stays-same g = record { limits = refl; made = λ x m. m }

Stays-then : (g f e : Graph) → Stays g f → Stays f e → Stays g e
Stays-then g f e a b = record { limits = b.limits ∙ a.limits; made = λ x m. b.made x (a.made x m) }

-- One thing written

pub Stays-register : (g : Graph) (r : Reg) (x : Option Name) → Stays g (set_register g r x)
Stays-register g (N d) x = record { limits = refl; made = λ y m. m }
Stays-register g (S d) x = record { limits = refl; made = λ y m. m }
Stays-register g (W d) x = Stays-same g

limits-native : (g : Graph) (k : ℕ) (o : Option GraphNative) → (set_native g k o).limits ≡ g.limits
limits-native g k None = refl
limits-native g k (Some n) = refl

limits-script : (g : Graph) (k : ℕ) (o : Option GraphScript) → (set_script g k o).limits ≡ g.limits
limits-script g k None = refl
limits-script g k (Some n) = refl

Stays-native : (g : Graph) (k : ℕ) (f : GraphNative → GraphNative) → ((n : GraphNative) → is_some n.reflector ≡ true → is_some (f n).reflector ≡ true) →
    Stays g (set_native g k (option_map f (native_in g k)))
Stays-native g k f r = record {
  limits = limits-native g k (option_map f (native_in g k));
  made = (Grows-change_native g k f r).made;
}

-- a script object that has a number has it after a change of one
script-there : (os : List GraphScript) (k : ℕ) (f : GraphScript → GraphScript) (j : ℕ) → is_some (numbered os j) ≡ true → is_some (numbered (change_numbered os k f) j) ≡ true
script-there os k f j m = ⊎_elim
    (λ t. ap (λ (i : ℕ). is_some (numbered (change_numbered os k f) i)) t.1 ∙ (ap is_some (numbered-change os k f) ∙ there (numbered os k) (ap (λ (i : ℕ). is_some (numbered os i)) (sym t.1) ∙ m)))
    (λ t. ap is_some (numbered-change_other os k f j t.1) ∙ m)
    (eqb_tells j k)
  where
    there : (o : Option GraphScript) → is_some o ≡ true → is_some (option_map f o) ≡ true
    there (Some o) e = refl
    there None e = e

Stays-script : (g : Graph) (k : ℕ) (f : GraphScript → GraphScript) → Stays g (set_script g k (option_map f (script_in g k)))
Stays-script g k f = record { limits = limits-script g k (option_map f (script_in g k)); made = made }
  where
    os : List GraphScript
    os = change_numbered g.scripts k f

    within : (x : Name) → IsTrue (was_made g x) → IsTrue (was_made (record g { scripts = os }) x)
    within (name.Native j) m = m
    within (name.Script j) m = script-there g.scripts k f j.0 m
    within (name.Reflector j) m = m

    made : (x : Name) → IsTrue (was_made g x) → IsTrue (was_made (set_script g k (option_map f (script_in g k))) x)
    made x m = subst (λ (e : Graph). IsTrue (was_made e x)) (sym (set_script-is g k (option_map f (script_in g k)))) (within x m)

-- what was made has its number after one more is made
push-there : {X : Type 0} (xs : List X) (y : X) (k : ℕ) → is_some (numbered xs k) ≡ true → is_some (numbered (xs ++ y ∷ []) k) ≡ true
push-there xs y k m = let f = is_some-found (numbered xs k) m in ap is_some (numbered-push_old xs y k f.0 f.1)

Stays-with_script : (g : Graph) (o : GraphScript) → Stays g (with_script g o)
Stays-with_script g o = record { limits = refl; made = made }
  where
    made : (x : Name) → IsTrue (was_made g x) → IsTrue (was_made (with_script g o) x)
    made (name.Native j) m = m
    made (name.Script j) m = push-there g.scripts o j.0 m
    made (name.Reflector j) m = m

Stays-with_native : (g : Graph) (n : ℕ) → Stays g (with_native g n)
Stays-with_native g n = record { limits = refl; made = made }
  where
    new : GraphNative
    new = new_graph_native n

    made : (x : Name) → IsTrue (was_made g x) → IsTrue (was_made (with_native g n) x)
    made (name.Native j) m = push-there g.natives new j.0 m
    made (name.Script j) m = m
    made (name.Reflector j) m = reflected (numbered g.natives j.0) refl m
      where
        reflected : (o : Option GraphNative) → numbered g.natives j.0 ≡ o → is_some (option_and_then (λ (p : GraphNative). p.reflector) o) ≡ true →
            is_some (option_and_then (λ (p : GraphNative). p.reflector) (numbered (g.natives ++ new ∷ []) j.0)) ≡ true
        reflected None e t = absurd (false≢true t)
        reflected (Some p) e t = ap (λ o. is_some (option_and_then (λ (p : GraphNative). p.reflector) o)) (numbered-push_old g.natives new j.0 p e) ∙ t

-- Slots, reflectors and entries

Stays-slot : (g : Graph) (o : Option Name) (i : ℕ) (x : Option Name) → Stays g (set_slot g o i x)
Stays-slot g None i x = Stays-same g
Stays-slot g (Some (name.Native k)) i x = Stays-native g k.0 (with_slot i x) (λ n r. r)
Stays-slot g (Some (name.Script k)) i x = Stays-script g k.0 (with_script_slot i x)
Stays-slot g (Some (name.Reflector k)) i x = Stays-native g k.0 (with_reflector_slot i x) (λ n r. KeepsReflector-slot i x n.reflector r)

Stays-preserve : (g : Graph) (o : Option Name) → Stays g (preserve g o)
Stays-preserve g (Some (name.Reflector k)) = Stays-native g k.0 as_preserved (λ n r. r)
Stays-preserve g (Some (name.Native k)) = Stays-same g
Stays-preserve g (Some (name.Script k)) = Stays-same g
Stays-preserve g None = Stays-same g

Stays-wrapped : (g : Graph) (o : Option Name) → Stays g (wrapped g o)
Stays-wrapped g (Some (name.Native k)) = Stays-native g k.0 as_wrapped (λ n r. refl)
Stays-wrapped g (Some (name.Script k)) = Stays-same g
Stays-wrapped g (Some (name.Reflector k)) = Stays-same g
Stays-wrapped g None = Stays-same g

Stays-set_entry : (g : Graph) (m k v : Option Name) → Stays g (set_entry g m k v)
Stays-set_entry g (Some m) (Some k) (Some v) = let p = Stays-preserve g (Some k) in record { limits = p.limits; made = p.made }
Stays-set_entry g (Some m) (Some k) None = record { limits = refl; made = λ x t. t }
Stays-set_entry g (Some m) None v = Stays-same g
Stays-set_entry g None k v = Stays-same g

Stays-proxy : (g : Graph) (d : ℕ) (o : Option Name) → Stays g (with_proxy g d o)
Stays-proxy g d None = Stays-same g
Stays-proxy g d (Some x) = Stays-then g (preserve g (Some x)) _ (Stays-preserve g (Some x))
    (Stays-then (preserve g (Some x)) (with_script (preserve g (Some x)) (proxy x)) _ (Stays-with_script (preserve g (Some x)) (proxy x))
    (Stays-register (with_script (preserve g (Some x)) (proxy x)) (S d) _))

-- A native, and a script object, is made, and a register holds it.

Stays-native_made : (g : Graph) (d n : ℕ) (x : Option Name) → Stays g (set_register (with_native g n) (N d) x)
Stays-native_made g d n x = Stays-then g (with_native g n) _ (Stays-with_native g n) (Stays-register (with_native g n) (N d) x)

Stays-script_made : (g : Graph) (d : ℕ) (o : GraphScript) (x : Option Name) → Stays g (set_register (with_script g o) (S d) x)
Stays-script_made g d o x = Stays-then g (with_script g o) _ (Stays-with_script g o) (Stays-register (with_script g o) (S d) x)

-- EACH DEED KEEPS THEM.
Stays-done : (g : Graph) (d : Deed) → Stays g (done_to g d)
unfolding done_to
Stays-done g nothing_done = Stays-same g
Stays-done g (native_made d n) = Stays-native_made g d n _
Stays-done g (plain_made d n) = Stays-script_made g d (plain_object (empty_slots n)) _
Stays-done g (map_made d) = Stays-script_made g d weak_map _
Stays-done g (proxy_made d x) = Stays-proxy g d x
Stays-done g (native_held d x) = Stays-register g (N d) x
Stays-done g (script_held d x) = Stays-register g (S d) x
Stays-done g (script_copied d x) = Stays-register g (S d) x
Stays-done g (native_stored d i x) = Stays-slot g (register g (N d)) i x
Stays-done g (slot_moved d i s j) = let left = set_slot g (register g (N s)) j None in
    Stays-then g left _ (Stays-slot g (register g (N s)) j None) (Stays-slot left (register g (N d)) i (slot_at (objects_of g) (N s) j))
Stays-done g (script_stored x i y) = Stays-then g (preserve g x) _ (Stays-preserve g x) (Stays-slot (preserve g x) x i y)
Stays-done g (reflector_held d x) = Stays-then g (wrapped g x) _ (Stays-wrapped g x) (Stays-register (wrapped g x) (S d) (reflector_of x))
Stays-done g (reflector_preserved x) = Stays-preserve g x
Stays-done g (entry_written m k v) = Stays-set_entry g m k v
Stays-done g (object_exposed x) = Stays-same g
Stays-done g (weak_written w x) = record { limits = refl; made = λ y m. m }

-- EACH COMMAND KEEPS THEM.
Stays-changed : (g : Graph) (c : Command) → Stays g (changed g c)
unfolding changed
Stays-changed g c = Stays-done g (deed_of (objects_of g) c)

-- A STEP KEEPS THEM.
pub Stays-step : (g : Graph) (c : Command) → Stays g (step g c)
Stays-step g c = go (refusal_of (objects_of g) c)
  where
    go : (o : Option Refusal) → Stays g (unless_refused o g (changed g c))
    go None = Stays-changed g c
    go (Some refusal) = Stays-same g
