-- In a well made graph what script registers hold has a key, and so has the delegate of what has one.
use Rattle.std.proofs.Common.{◌≡◌, ℕ, zero, suc, ◌+◌, ◌*◌, ◌<◌, ◌≤◌, true, List, [], ◌∷◌, length, Option, Some, None, refl, inl, inr, arith}
use Rattle.std.specs.Prelude.{IfSome, IsTrue, slice_index_or, option_map, option_and_then, is_some}
use Rattle.std.proofs.lemmas.Bool.{false≢true}
use Rattle.std.proofs.lemmas.Option.{slice_get_within}
use Rattle.cc_lists.specs.Members.{Among}
use Rattle.cc_names.specs.declared.name.Name.{Name}
use Rattle.cc_names.specs.declared.name.Name.TheVariants as name
use Rattle.cc_names.specs.declared.register.Reg.TheVariants.{S}
use Rattle.cc_model.specs.Slots.{Slots, contents}
use Rattle.cc_model.specs.Graph.{Graph, GraphNative, GraphScript, delegate_in, delegate_of_script, script_in, numbered, proxy, register, source, plain_object, weak_map}
use Rattle.cc_model.specs.WellMade.{is_made_script}
use Rattle.cc_object_graph.specs.Keyed.{HasKey}
use Rattle.cc_object_graph.specs.Ready.{IsReady}
use Rattle.cc_object_graph.proofs.KeysOfNames.{object_of-even, object_of-odd}

-- what a place holds is among the contents
content-among : (slots : Slots) (i : ℕ) → IfSome (slice_index_or slots i None) (λ x. Among x (contents slots))
content-among [] i = tt
content-among (None ∷ slots) zero = tt
content-among (Some x ∷ slots) zero = inl refl
content-among (None ∷ slots) (suc i) = content-among slots i
content-among (Some x ∷ slots) (suc i) = go (slice_index_or slots i None) (content-among slots i)
  where
    go : (o : Option Name) → IfSome o (λ y. Among y (contents slots)) → IfSome o (λ y. Among y (contents (Some x ∷ slots)))
    go None h = tt
    go (Some y) h = inr h

-- a member's number is at most how many there are
numbered_within : {X : Type 0} (xs : List X) (k : ℕ) (x : X) → numbered xs k ≡ Some x → k ≤ length xs
numbered_within xs zero x e = omega arith
numbered_within xs (suc k) x e = let l : k < length xs = slice_get_within xs k x e in omega arith

some_within : {X : Type 0} (xs : List X) (k : ℕ) → is_some (numbered xs k) ≡ true → k ≤ length xs
some_within {X} xs k h = go (numbered xs k) refl h
  where
    go : (o : Option X) → numbered xs k ≡ o → is_some o ≡ true → k ≤ length xs
    go None e t = absurd (false≢true t)
    go (Some x) e t = numbered_within xs k x e

wrapped_within : (ns : List GraphNative) (k : ℕ) → is_some (option_and_then (λ n. n.reflector) (numbered ns k)) ≡ true → k ≤ length ns
wrapped_within ns k h = go (numbered ns k) refl h
  where
    go : (o : Option GraphNative) → numbered ns k ≡ o → is_some (option_and_then (λ n. n.reflector) o) ≡ true → k ≤ length ns
    go None e t = absurd (false≢true t)
    go (Some n) e t = numbered_within ns k n e

module _ (g : Graph) (ready : IsReady g) where
  pub made-has_key : (x : Name) → IsTrue (is_made_script g x) → HasKey x
  made-has_key (name.Native k) h = absurd (false≢true h)
  made-has_key (name.Script k) h =
      let l : k.0 ≤ length g.scripts = some_within g.scripts k.0 h in
      (2 * k.0, omega (arith, l, ready.well_made.scripts_allowed, ready.scripts), object_of-even k.0)
  made-has_key (name.Reflector k) h =
      let l : k.0 ≤ length g.natives = wrapped_within g.natives k.0 h in
      (2 * k.0 + 1, omega (arith, l, ready.well_made.natives_allowed, ready.natives), object_of-odd k.0)

  pub register-has_key : (r : ℕ) → IfSome (register g (S r)) HasKey
  register-has_key r = go (slice_index_or g.script_registers r None) (content-among g.script_registers r)
    where
      go : (o : Option Name) → IfSome o (λ x. Among x (contents g.script_registers)) → IfSome o HasKey
      go None h = tt
      go (Some x) h = made-has_key x (ready.well_made.script_registers x h)

  pub source-has_key : (r : Option ℕ) → IfSome (source g (option_map S r)) HasKey
  source-has_key None = tt
  source-has_key (Some r) = register-has_key r

  pub delegate-has_key : (x : Name) → IfSome (delegate_in g x) HasKey
  delegate-has_key (name.Native k) = tt
  delegate-has_key (name.Script k) = go (script_in g k.0) refl
    where
      go : (o : Option GraphScript) → script_in g k.0 ≡ o → IfSome (option_and_then delegate_of_script o) HasKey
      go None e = tt
      go (Some (plain_object slots)) e = tt
      go (Some weak_map) e = tt
      go (Some (proxy d)) e = made-has_key d (ready.well_made.delegates k.0 d e)
  delegate-has_key (name.Reflector k) = tt

  pub delegates-have_keys : (o : Option Name) → IfSome o (λ x. IfSome (delegate_in g x) HasKey)
  delegates-have_keys None = tt
  delegates-have_keys (Some x) = delegate-has_key x
