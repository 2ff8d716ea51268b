-- WHAT A REPLY NAMES was made where a census lists it; what the command made was not made before. Numbers of what was made are small.
use Rattle.std.proofs.Common.{arith, ◌≡◌, ℕ, suc, zero, ◌+◌, ◌≤◌, true, false, List, [], ◌∷◌, ◌++◌, length, Option, Some, None, is_some, option_map, refl, sym, ◌∙◌, ap, subst}
use Rattle.std.specs.Prelude.{IsTrue}
use Rattle.std.specs.Option.{option_and_then}
use Rattle.std.proofs.lemmas.Bool.{and_parts, false≢true}
use Rattle.std.proofs.lemmas.Option.{slice_get_within}
use Rattle.cc_names.specs.declared.name.Name.{Name}
use Rattle.cc_names.specs.declared.name.Name.TheVariants as name
use Rattle.cc_names.specs.declared.register.Reg.TheVariants.{N, S}
use Rattle.cc_names.specs.Names.{native, object, reflector, number_of, is_native}
use Rattle.cc_model.specs.declared.command.Command.{Command}
use Rattle.cc_model.specs.declared.command.Command.TheVariants.{Native, Script, WeakMap, Proxy, Wrap}
use Rattle.cc_model.specs.declared.item.Refusal.{Refusal}
use Rattle.cc_model.specs.declared.item.Reply.TheVariants.{Named, Refused}
use Rattle.cc_model.specs.Slots.{empty_slots}
use Rattle.cc_model.specs.Checks.{lacks_object, reflector_of, named_or_nothing, refusal_of, refused_or, reply_if_taken}
use Rattle.cc_model.specs.Graph.{Graph, GraphNative, plain_object, weak_map, proxy, numbered, native_in, objects_of, register, set_native, preserve, wrapped, as_wrapped, as_preserved, with_native, with_script, with_proxy, changed, unless_refused, step, reply_to, done_to}
use Rattle.cc_model.specs.WellMade.{IsWellMade, was_made}
use Rattle.cc_model.specs.Deeds.{deed_of}
use Rattle.cc_laws_heap.proofs.Face.{IsTaken, IsTaken-from, OfSome, MadeNative, change_numbered, is_some-found, native_register-made, numbered-change, numbered-next, numbered-push, set_native-is}
use Rattle.cc_check.specs.Standing.{lists, makes}

-- Numbers

numbered-small : {X : Type 0} (xs : List X) (k : ℕ) → is_some (numbered xs k) ≡ true → k ≤ length xs
numbered-small xs zero m = omega arith
numbered-small xs (suc i) m = let f = is_some-found (numbered xs (suc i)) m in omega (arith, slice_get_within xs i f.0 f.1)

-- THE NUMBER OF WHAT WAS MADE is within the limits.
pub number-small : (g : Graph) (x : Name) → IsWellMade g → (g.limits.natives ≤ 1000000) × (g.limits.scripts ≤ 1000000) → IsTrue (was_made g x) → number_of x ≤ 1000000
number-small g (name.Native k) w l m = omega (arith, numbered-small g.natives k.0 m, w.natives_allowed, l.0)
number-small g (name.Script k) w l m = omega (arith, numbered-small g.scripts k.0 m, w.scripts_allowed, l.1)
number-small g (name.Reflector k) w l m = omega (arith, numbered-small g.natives k.0 (there (numbered g.natives k.0) m), w.natives_allowed, l.0)
  where
    there : (o : Option GraphNative) → is_some (option_and_then (λ (n : GraphNative). n.reflector) o) ≡ true → is_some o ≡ true
    there (Some n) e = refl
    there None e = e

-- A reply that names something

-- is no refusal
record IsNaming (g : Graph) (c : Command) (x : Name) : Type 0 where
  pub taken : refusal_of (objects_of g) c ≡ None
  pub reply : reply_if_taken (objects_of g) c ≡ Named x

naming : (g : Graph) (c : Command) (x : Name) → reply_to g c ≡ Named x → IsNaming g c x
naming g c x e = go (refusal_of (objects_of g) c) refl
  where
    go : (o : Option Refusal) → refusal_of (objects_of g) c ≡ o → IsNaming g c x
    go None i = record { taken = i; reply = ap (λ o. refused_or o (reply_if_taken (objects_of g) c)) (sym i) ∙ e }
    go (Some r) i = let no : Refused r ≡ Named x = ap (λ o. refused_or o (reply_if_taken (objects_of g) c)) (sym i) ∙ e in absurd (cc)

-- the native of a reflector that is named
named-reflector : (o : Option Name) (x : Name) → named_or_nothing (reflector_of o) ≡ Named x → (k : ℕ) × (o ≡ Some (native k)) × (x ≡ reflector k)
named-reflector (Some (name.Native k)) x e = (k.0, refl, let same : reflector k.0 ≡ x = cc in sym same)
named-reflector (Some (name.Script k)) x e = absurd (cc)
named-reflector (Some (name.Reflector k)) x e = absurd (cc)
named-reflector None x e = absurd (cc)

-- What was made

scripts-native : (g : Graph) (k : ℕ) (o : Option GraphNative) → (set_native g k o).scripts ≡ g.scripts
scripts-native g k None = refl
scripts-native g k (Some n) = refl

preserve-scripts : (g : Graph) (x : Name) → (preserve g (Some x)).scripts ≡ g.scripts
preserve-scripts g (name.Native k) = refl
preserve-scripts g (name.Script k) = refl
preserve-scripts g (name.Reflector k) = scripts-native g k.0 (option_map as_preserved (native_in g k.0))

-- a proxy that is not refused is one of something
proxied : (g : Graph) (d s : ℕ) → IsTaken (objects_of g) (Proxy d s) → register g (S s) ≡ None → ⊥
proxied g d s t e = let none : lacks_object (objects_of g) (Proxy d s) ≡ false = t.objects in grind arith

-- a proxy of what a register holds is made
proxy-made : (g : Graph) (d s : ℕ) (o : Option Name) → register g (S s) ≡ o → IsTaken (objects_of g) (Proxy d s) →
    IsTrue (was_made (with_proxy g d o) (object (length g.scripts + 1)))
proxy-made g d s None e t = absurd (proxied g d s t e)
proxy-made g d s (Some y) e t = ap is_some (subst (λ os. numbered (os ++ proxy y ∷ []) (length g.scripts + 1) ≡ Some (proxy y))
    (sym (preserve-scripts g y)) (numbered-push g.scripts (proxy y)))

-- the reflector of a native that was made is made where it is wrapped
wrapped-made : (g : Graph) (k : ℕ) → MadeNative g (native k) → IsTrue (was_made (wrapped g (Some (native k))) (reflector k))
wrapped-made g k m = subst (λ (e : Graph). IsTrue (was_made e (reflector k))) (sym (set_native-is g k (option_map as_wrapped (native_in g k))))
    (there (native_in g k) refl (and_parts (is_native (native k)) (was_made g (native k)) m).1)
  where
    there : (o : Option GraphNative) → native_in g k ≡ o → is_some o ≡ true →
        is_some (option_and_then (λ (n : GraphNative). n.reflector) (numbered (change_numbered g.natives k as_wrapped) k)) ≡ true
    there None e t = absurd (false≢true t)
    there (Some n) e t = ap (λ p. is_some (option_and_then (λ (n : GraphNative). n.reflector) p)) (numbered-change g.natives k as_wrapped ∙ ap (option_map as_wrapped) e)

-- what a command that is not refused names, where a census lists it, is made by then
named-made : (g : Graph) (c : Command) (x : Name) → IsWellMade g → IsTaken (objects_of g) c → reply_if_taken (objects_of g) c ≡ Named x → lists c ≡ true →
    IsTrue (was_made (changed g c) x)
unfolding changed done_to deed_of reply_if_taken
named-made g (Native d n) x w t e l = let same : native (length g.natives + 1) ≡ x = cc in
    subst (λ y. IsTrue (was_made (with_native g n) y)) same (ap is_some (numbered-push g.natives _))
named-made g (Script d n) x w t e l = let same : object (length g.scripts + 1) ≡ x = cc in
    subst (λ y. IsTrue (was_made (with_script g (plain_object (empty_slots n))) y)) same (ap is_some (numbered-push g.scripts (plain_object (empty_slots n))))
named-made g (WeakMap d) x w t e l = let same : object (length g.scripts + 1) ≡ x = cc in
    subst (λ y. IsTrue (was_made (with_script g weak_map) y)) same (ap is_some (numbered-push g.scripts weak_map))
named-made g (Proxy d s) x w t e l = let same : object (length g.scripts + 1) ≡ x = cc in
    subst (λ y. IsTrue (was_made (with_proxy g d (register g (S s))) y)) same (proxy-made g d s (register g (S s)) refl t)
named-made g (Wrap d s) x w t e l =
    let f = named-reflector (register g (N s)) x e in
    let m : OfSome (MadeNative g) (register g (N s)) = native_register-made g w s in
    let held : MadeNative g (native f.0) = subst (OfSome (MadeNative g)) f.1 m in
    subst (λ y. IsTrue (was_made (wrapped g (register g (N s))) y)) (sym f.2)
    (subst (λ o. IsTrue (was_made (wrapped g o) (reflector f.0))) (sym f.1) (wrapped-made g f.0 held))
named-made g _ x w t e l = absurd (false≢true l)

-- WHAT A REPLY NAMES WAS MADE, where a census lists it.
pub reply-made : (g : Graph) (c : Command) (x : Name) → IsWellMade g → reply_to g c ≡ Named x → lists c ≡ true → IsTrue (was_made (step g c) x)
reply-made g c x w e l =
    let n = naming g c x e in
    subst (λ o. IsTrue (was_made (unless_refused o g (changed g c)) x)) (sym n.taken) (named-made g c x w (IsTaken-from (objects_of g) c n.taken) n.reply l)

named-new : (g : Graph) (c : Command) (x : Name) → reply_if_taken (objects_of g) c ≡ Named x → makes c ≡ true → was_made g x ≡ false
unfolding reply_if_taken
named-new g (Native d n) x e l = let same : native (length g.natives + 1) ≡ x = cc in subst (λ y. was_made g y ≡ false) same (ap is_some (numbered-next g.natives))
named-new g (Script d n) x e l = let same : object (length g.scripts + 1) ≡ x = cc in subst (λ y. was_made g y ≡ false) same (ap is_some (numbered-next g.scripts))
named-new g (WeakMap d) x e l = let same : object (length g.scripts + 1) ≡ x = cc in subst (λ y. was_made g y ≡ false) same (ap is_some (numbered-next g.scripts))
named-new g (Proxy d s) x e l = let same : object (length g.scripts + 1) ≡ x = cc in subst (λ y. was_made g y ≡ false) same (ap is_some (numbered-next g.scripts))
named-new g _ x e l = absurd (false≢true l)

-- WHAT A COMMAND MADE was not made before it.
pub reply-new : (g : Graph) (c : Command) (x : Name) → reply_to g c ≡ Named x → makes c ≡ true → was_made g x ≡ false
reply-new g c x e l = named-new g c x (naming g c x e).reply l
