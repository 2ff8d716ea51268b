-- WHAT COMES BY A STEP: nothing, or one object that is named.
use Rattle.std.proofs.Common.{◌≡◌, ◌⊎◌, ℕ, ◌+◌, Bool, true, false, [], ◌∷◌, Option, Some, None, Result, Ok, Err, IfOk, OnOk, sym, ◌∙◌, ap, subst, inl, inr, ⊎_elim}
use Rattle.std.proofs.lemmas.List.{map-append}
use Rattle.cc_lists.specs.Members.{Among}
use Rattle.cc_lists.proofs.Members.{Among-append, Among-left, Among-right}
use Rattle.cc_names.specs.declared.name.Name.{Name}
use Rattle.cc_names.specs.declared.name.Name.TheVariants as name
use Rattle.cc_names.specs.declared.register.Reg.TheVariants.{N}
use Rattle.cc_names.specs.declared.kind.Kind.{Kind}
use Rattle.cc_names.specs.declared.kind.Kind.TheVariants.{Reflector, Proxy as proxy_kind}
use Rattle.cc_names.specs.Names.{native, object, reflector}
use Rattle.cc_model.specs.Slots.{reflector_slots}
use Rattle.cc_model.specs.Heap.{Heap, HeapScript, has_reflector, preserve, register, new_script}
use Rattle.cc_model.specs.Cascade.{let_go, take_up}
use Rattle.cc_model.specs.Effects.{hold_native, make_object, make_proxy, with_reflector, with_script, wrapped}
use Rattle.cc_model.specs.WellFormed.{IsWellFormed, native_names, names_there, script_names}
use Rattle.cc_laws_heap.proofs.Face.{HoldsTheSame-add_ref, Leaves-let_go, names_there-alike}
use Rattle.cc_heaps.specs.Leaving.{NoneCame, NothingLeft}
use Rattle.cc_heaps.proofs.ReflectingMade.{wrapped_by}
use Rattle.cc_host.specs.Hosted.{Hosted}
use Rattle.cc_host.specs.Changes.{OneCame}
use Rattle.cc_host.proofs.Around.{left-none_came}
use Rattle.cc_host.proofs.ScriptSteps.{hold_script-beside, preserve-beside}
use Rattle.cc_host.proofs.Spare.{written, written-names}

-- a native register written, what it held given up
pub hold_native-none_came : (h : Heap) (r : ℕ) (x : Option Name) → NoneCame h (hold_native h r x).heap
unfolding hold_native
hold_native-none_came h r x y m =
    let k = written h r x in
    subst (Among y) (written-names h r x) (left-none_came k (let_go k (register (take_up h x) (N r))).heap (Leaves-let_go k (register (take_up h x) (N r))) y m)

-- what is named
pub OneCame-named : (h k : Heap) (made : Name) (x : Option Name) → x ≡ Some made → ((y : Name) → Among y (names_there k) → Among y (names_there h) ⊎ (y ≡ made)) → OneCame x h k
OneCame-named h k made x is came y m = ⊎_elim (λ l. inl l) (λ e. inr (ap (λ z. Some z) e ∙ sym is)) (came y m)

module _ (h : Heap) where
  -- a script object put at the end
  pub script-came : (x : Name) (kind : Kind) (n : ℕ) (d : Option Name) (y : Name) → Among y (names_there (with_script h x kind n d)) → Among y (names_there h) ⊎ (y ≡ x)
  script-came x kind n d y m =
      let named = map-append (λ (o : HeapScript). o.name) h.scripts (new_script x kind n d ∷ []) in
      ⊎_elim
      (λ l. inl (Among-left y (native_names h) (script_names h) l))
      (λ s. ⊎_elim
      (λ l. inl (Among-right y (native_names h) (script_names h) l))
      (λ new. ⊎_elim (λ e. inr (sym e)) (λ n. absurd n) new)
      (Among-append y (script_names h) (x ∷ []) (subst (Among y) named s)))
      (Among-append y (native_names h) (script_names (with_script h x kind n d)) m)

  -- and nothing leaves
  script-left : (x : Name) (kind : Kind) (n : ℕ) (d : Option Name) → NothingLeft h (with_script h x kind n d)
  script-left x kind n d y m =
      let named = map-append (λ (o : HeapScript). o.name) h.scripts (new_script x kind n d ∷ []) in
      let more = script_names (with_script h x kind n d) in
      ⊎_elim
      (λ l. Among-left y (native_names h) more l)
      (λ s. Among-right y (native_names h) more (subst (Among y) (sym named) (Among-left y (script_names h) (x ∷ []) s)))
      (Among-append y (native_names h) (script_names h) m)

  -- NOTHING LEAVES where an object is made,
  pub object-left : (r : ℕ) (kind : Kind) (n : ℕ) (d : Option Name) → NothingLeft h (make_object h r kind n d)
  object-left r kind n d = script-left (object (h.scripts_made + 1)) kind n d

  -- AN OBJECT MADE is all that comes,
  pub object-came : (r : ℕ) (kind : Kind) (n : ℕ) (d : Option Name) (y : Name) → Among y (names_there (make_object h r kind n d)) →
      Among y (names_there h) ⊎ (y ≡ object (h.scripts_made + 1))
  object-came r kind n d y m = script-came (object (h.scripts_made + 1)) kind n d y m

  -- and so is a reflector made.
  pub wrapped-came : (k : ℕ) → IsWellFormed h → (y : Name) → Among y (names_there (wrapped h (Some (native k)))) → Among y (names_there h) ⊎ (y ≡ reflector k)
  wrapped-came k w y m = go (has_reflector h k) m
    where
      go : (b : Bool) → Among y (names_there (wrapped_by h k b)) → Among y (names_there h) ⊎ (y ≡ reflector k)
      go true m = inl (subst (Among y) (hold_script-beside h w 0 (Some (reflector k))).names m)
      go false m = script-came (reflector k) Reflector reflector_slots None y
          (subst (Among y) (names_there-alike (with_script h (reflector k) Reflector reflector_slots None) (with_reflector h k) (HoldsTheSame-add_ref (with_script h (reflector k) Reflector reflector_slots None) k)) m)

-- AND A PROXY MADE
pub proxy-came : (h : Heap) (r : ℕ) (x : Option Name) (y : Name) → Among y (names_there (make_proxy h r x)) → Among y (names_there h) ⊎ (y ≡ object (h.scripts_made + 1))
proxy-came h r None y m = inl m
proxy-came h r (Some (name.Native k)) y m = object-came h r proxy_kind 0 (Some (name.Native k)) y m
proxy-came h r (Some (name.Script k)) y m = object-came h r proxy_kind 0 (Some (name.Script k)) y m
proxy-came h r (Some (name.Reflector k)) y m =
    let p = preserve h (Some (name.Reflector k)) in
    ⊎_elim (λ l. inl (subst (Among y) (preserve-beside h (Some (name.Reflector k))).names l)) (λ e. inr e) (object-came p r proxy_kind 0 (Some (name.Reflector k)) y m)

-- and nothing leaves where one is made
pub proxy-left : (h : Heap) (r : ℕ) (x : Option Name) → NothingLeft h (make_proxy h r x)
proxy-left h r None y m = m
proxy-left h r (Some (name.Native k)) y m = object-left h r proxy_kind 0 (Some (name.Native k)) y m
proxy-left h r (Some (name.Script k)) y m = object-left h r proxy_kind 0 (Some (name.Script k)) y m
proxy-left h r (Some (name.Reflector k)) y m =
    let p = preserve h (Some (name.Reflector k)) in
    object-left p r proxy_kind 0 (Some (name.Reflector k)) y (subst (Among y) (sym (preserve-beside h (Some (name.Reflector k))).names) m)

-- into a heap that is this one
pub left-into : (h k l : Heap) → l ≡ k → NothingLeft h k → NothingLeft h l
left-into h k l is left x i = subst (λ m. Among x (names_there m)) (sym is) (left x i)

-- OF A HOST, by the name that the call answers
some-same : {x y : Name} → Some x ≡ Some y → x ≡ y
some-same e = cc

pub came-here : {a b : Hosted} {made : Name} {x : Option Name} → a ≡ b → (k : Heap) → Some made ≡ x → OneCame x a.heaps.heap k →
    (y : Name) → Among y (names_there k) → Among y (names_there b.heaps.heap) ⊎ (y ≡ made)
came-here is k named came y m = ⊎_elim
    (λ l. inl (subst (λ (h : Hosted). Among y (names_there h.heaps.heap)) is l))
    (λ e. inr (some-same (e ∙ sym named)))
    (came y m)

-- what a call that may be refused answers, and what holds then
pub if_ok-with : {A E P : Type 0} {Q R : A → Type 0} (r : Result A E) → OnOk r P → IfOk r Q → (P → (a : A) → Q a → R a) → IfOk r R
if_ok-with (Ok a) p q f = f p a q
if_ok-with (Err e) p q f = tt
