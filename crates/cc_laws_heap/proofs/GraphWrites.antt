-- A GRAPH STAYS WELL MADE where a register or a slot is written, a reflector preserved or made, an object made.
use Rattle.std.proofs.Common.{◌≡◌, ◌≢◌, ℕ, ◌<◌, ◌≤◌, true, List, [], ◌∷◌, ◌++◌, length, set, Option, Some, None, is_some, option_map, refl, sym, ◌∙◌, ap, subst, ⊎_elim, arith, length-append}
use Rattle.std.specs.Prelude.{IsTrue}
use Rattle.std.proofs.lemmas.Bool.{false≢true}
use Rattle.std.proofs.lemmas.Bool.Decides.{eqb_tells}
use Rattle.std.proofs.lemmas.List.{length-set, length-replicate}
use Rattle.cc_lists.specs.Members.{Among}
use Rattle.cc_names.specs.declared.name.Name.{Name}
use Rattle.cc_names.specs.declared.register.Reg.TheVariants.{N, S}
use Rattle.cc_names.specs.Names.{reflector}
use Rattle.cc_names.specs.Sizes.{most_slots}
use Rattle.cc_model.specs.Banks.{IsBankLength}
use Rattle.cc_model.specs.Slots.{Slots, contents, empty_slots}
use Rattle.cc_model.specs.Graph.{Graph, GraphNative, GraphScript, plain_object, weak_map, proxy, delegate_of_script, numbered, native_in, script_in, set_register, set_weak, set_native, set_script, with_slot, with_reflector_slot, as_preserved, as_wrapped, with_script_slot, with_native, with_script, new_graph_native}
use Rattle.cc_model.specs.WellMade.{IsWellMade, was_made, is_made_native, is_made_script}
use Rattle.cc_laws_heap.proofs.Holds.{OfSome, OfSome-then, contents-set}
use Rattle.cc_laws_heap.proofs.Numbered.{set_numbered, change_numbered, numbered-change, numbered-change_other, length-change, numbered-push_old, numbered-push_cases}
use Rattle.cc_laws_heap.proofs.GraphParts.{NativeFits, ScriptFits, IsWellMade-native, IsWellMade-script, Grows, is_made_script-grows, NativeFits-grows, ScriptFits-grows, IsWellMade-registers, IsWellMade-weak, with_natives, Grows-natives, IsWellMade-natives, with_scripts, IsSameScript, Grows-scripts, IsWellMade-scripts}
use Rattle.cc_laws_heap.proofs.Making.{contents-empty_none}

-- Registers

-- a register written with an object that was made, of its kind
pub IsWellMade-native_register : (g : Graph) (d : ℕ) (x : Option Name) → IsWellMade g → OfSome (λ y. IsTrue (is_made_native g y)) x → IsWellMade (set_register g (N d) x)
IsWellMade-native_register g d x w m = IsWellMade-registers g (set g.native_registers d x) g.script_registers w (record {
  natives = contents-set (λ y. IsTrue (is_made_native g y)) g.native_registers d x w.native_registers m;
  scripts = w.script_registers;
  lengths = (subst IsBankLength (sym (length-set g.native_registers d x)) w.registers.0, w.registers.1);
})

-- the same of a script register
pub IsWellMade-script_register : (g : Graph) (d : ℕ) (x : Option Name) → IsWellMade g → OfSome (λ y. IsTrue (is_made_script g y)) x → IsWellMade (set_register g (S d) x)
IsWellMade-script_register g d x w m = IsWellMade-registers g g.native_registers (set g.script_registers d x) w (record {
  natives = w.native_registers;
  scripts = contents-set (λ y. IsTrue (is_made_script g y)) g.script_registers d x w.script_registers m;
  lengths = (w.registers.0, subst IsBankLength (sym (length-set g.script_registers d x)) w.registers.1);
})

-- a weak register written with a native that was made
pub IsWellMade-weak_register : (g : Graph) (d : ℕ) (x : Option Name) → IsWellMade g → OfSome (λ y. IsTrue (is_made_native g y)) x → IsWellMade (set_weak g d x)
IsWellMade-weak_register g d x w m = IsWellMade-weak g (set g.weak_registers d x) w (length-set g.weak_registers d x ∙ w.weak)
    (contents-set (λ y. IsTrue (is_made_native g y)) g.weak_registers d x w.weak_registers m)

-- One native changed

-- a native replaced, as a list of natives
pub set_native-is : (g : Graph) (k : ℕ) (o : Option GraphNative) → set_native g k o ≡ with_natives g (set_numbered g.natives k o)
set_native-is g k o = grind arith

-- a native that was changed fits, however much more was made
abbrev pub KeepsNative : Graph → ℕ → (GraphNative → GraphNative) → Type 0
KeepsNative g k f = (n : GraphNative) → native_in g k ≡ Some n → (e : Graph) → Grows g e → NativeFits e k n → NativeFits e k (f n)

-- a change that takes no reflector away
abbrev pub KeepsReflector : (GraphNative → GraphNative) → Type 0
KeepsReflector f = (n : GraphNative) → is_some n.reflector ≡ true → is_some (f n).reflector ≡ true

module _ (g : Graph) (k : ℕ) (f : GraphNative → GraphNative) (reflected : KeepsReflector f) where
  -- no native is taken out, and none loses its reflector
  changed-stay : (j : ℕ) (n : GraphNative) → native_in g j ≡ Some n →
      (m : GraphNative) × (numbered (change_numbered g.natives k f) j ≡ Some m) × (is_some n.reflector ≡ true → is_some m.reflector ≡ true)
  changed-stay j n e = ⊎_elim
      (λ t. let here : native_in g k ≡ Some n = ap (native_in g) (sym t.1) ∙ e in
      (f n, ap (numbered (change_numbered g.natives k f)) t.1 ∙ (numbered-change g.natives k f ∙ ap (option_map f) here), reflected n))
      (λ t. (n, numbered-change_other g.natives k f j t.1 ∙ e, λ r. r))
      (eqb_tells j k)

  -- all that was made is
  pub Grows-change_native : Grows g (set_native g k (option_map f (native_in g k)))
  Grows-change_native = subst (Grows g) (sym (set_native-is g k (option_map f (native_in g k)))) (Grows-natives g (change_numbered g.natives k f) changed-stay)

  -- A NATIVE CHANGED, so that it fits, leaves the graph well made.
  pub IsWellMade-change_native : IsWellMade g → KeepsNative g k f → IsWellMade (set_native g k (option_map f (native_in g k)))
  IsWellMade-change_native w keeps = subst IsWellMade (sym (set_native-is g k (option_map f (native_in g k)))) (IsWellMade-natives g ns w (record {
    stay = changed-stay;
    fit = λ j m e. ⊎_elim (λ t. same j m e t.1) (λ t. other j m e t.1) (eqb_tells j k);
    allowed = subst (λ l. l ≤ g.limits.natives) (sym (length-change g.natives k f)) w.natives_allowed;
  }))
    where
      ns : List GraphNative
      ns = change_numbered g.natives k f

      more : Grows g (with_natives g ns)
      more = Grows-natives g ns changed-stay

      changed : (o : Option GraphNative) → native_in g k ≡ o → (m : GraphNative) → option_map f o ≡ Some m → NativeFits (with_natives g ns) k m
      changed None e m i = absurd (cc)
      changed (Some n) e m i =
          let same : f n ≡ m = cc in
          subst (NativeFits (with_natives g ns) k) same
          (keeps n e (with_natives g ns) more (NativeFits-grows g (with_natives g ns) more k n (IsWellMade-native g w k n e)))

      same : (j : ℕ) (m : GraphNative) → numbered ns j ≡ Some m → j ≡ k → NativeFits (with_natives g ns) j m
      same j m e s = subst (λ i. NativeFits (with_natives g ns) i m) (sym s)
          (changed (native_in g k) refl m (sym (numbered-change g.natives k f) ∙ (ap (numbered ns) (sym s) ∙ e)))

      other : (j : ℕ) (m : GraphNative) → numbered ns j ≡ Some m → j ≢ k → NativeFits (with_natives g ns) j m
      other j m e d = NativeFits-grows g (with_natives g ns) more j m (IsWellMade-native g w j m (sym (numbered-change_other g.natives k f j d) ∙ e))

-- slot i of a native written with what was made
pub KeepsNative-slot : (g : Graph) (k i : ℕ) (x : Option Name) → OfSome (λ y. IsTrue (was_made g y)) x → KeepsNative g k (with_slot i x)
KeepsNative-slot g k i x m n here e more t = record {
  slots = subst (λ l. l ≤ most_slots) (sym (length-set n.slots i x)) t.slots;
  held = contents-set (λ y. IsTrue (was_made e y)) n.slots i x t.held (OfSome-then (λ y. IsTrue (was_made g y)) (λ y. IsTrue (was_made e y)) more.made x m);
  preserved = t.preserved;
  reflector = t.reflector;
  reflector_held = t.reflector_held;
}

-- slot i of its reflector written with a script object that was made
pub KeepsNative-reflector_slot : (g : Graph) (k i : ℕ) (x : Option Name) → OfSome (λ y. IsTrue (is_made_script g y)) x → KeepsNative g k (with_reflector_slot i x)
KeepsNative-reflector_slot g k i x m n here e more t = record {
  slots = t.slots;
  held = t.held;
  preserved = t.preserved;
  reflector = λ slots s. let o = before n.reflector refl slots s in ap length o.2 ∙ (length-set o.0 i x ∙ t.reflector o.0 o.1);
  reflector_held = λ slots y s j. let o = before n.reflector refl slots s in
      contents-set (λ z. IsTrue (is_made_script e z)) o.0 i x (λ z l. t.reflector_held o.0 z o.1 l)
      (OfSome-then (λ z. IsTrue (is_made_script g z)) (λ z. IsTrue (is_made_script e z)) (is_made_script-grows g e more) x m) y
      (subst (λ l. Among y (contents l)) o.2 j);
}
  where
    before : (o : Option Slots) → n.reflector ≡ o → (slots : Slots) → option_map (λ (s : Slots). set s i x) o ≡ Some slots →
        (s : Slots) × (n.reflector ≡ Some s) × (slots ≡ set s i x)
    before o r slots s = grind arith

-- its reflector preserved, which was made
pub KeepsNative-preserved : (g : Graph) (k : ℕ) → IsTrue (was_made g (reflector k)) → KeepsNative g k as_preserved
KeepsNative-preserved g k m n here e more t = search (t.slots, t.held, more.made, t.reflector, t.reflector_held)

-- a reflector made, where there was none
pub KeepsNative-wrapped : (g : Graph) (k : ℕ) → KeepsNative g k as_wrapped
KeepsNative-wrapped g k n here e more t = grind (arith, contents-empty_none)

-- One script object changed

-- a script object replaced, as a list of script objects
pub set_script-is : (g : Graph) (k : ℕ) (o : Option GraphScript) → set_script g k o ≡ with_scripts g (set_numbered g.scripts k o)
set_script-is g k o = grind arith

-- slot i of a plain object written with a script object that was made
pub IsWellMade-script_slot : (g : Graph) (k i : ℕ) (x : Option Name) → IsWellMade g → OfSome (λ y. IsTrue (is_made_script g y)) x →
    IsWellMade (set_script g k (option_map (with_script_slot i x) (script_in g k)))
IsWellMade-script_slot g k i x w m = subst IsWellMade (sym (set_script-is g k (option_map f (script_in g k)))) (IsWellMade-scripts g os w (record {
  stay = stay;
  fit = λ j p e. ⊎_elim (λ t. changed (script_in g k) refl p (sym (numbered-change g.scripts k f) ∙ (ap (numbered os) (sym t.1) ∙ e)))
      (λ t. ScriptFits-grows g (with_scripts g os) more p (IsWellMade-script g w j p (sym (numbered-change_other g.scripts k f j t.1) ∙ e)))
      (eqb_tells j k);
  allowed = subst (λ l. l ≤ g.limits.scripts) (sym (length-change g.scripts k f)) w.scripts_allowed;
}))
  where
    f : GraphScript → GraphScript
    f o = with_script_slot i x o

    os : List GraphScript
    os = change_numbered g.scripts k f

    same_delegate : (o : GraphScript) → delegate_of_script (f o) ≡ delegate_of_script o
    same_delegate o = grind arith

    stay : (j : ℕ) (o : GraphScript) → script_in g j ≡ Some o → (p : GraphScript) × (numbered os j ≡ Some p) × IsSameScript o p
    stay j o e = ⊎_elim
        (λ t. let here : script_in g k ≡ Some o = ap (script_in g) (sym t.1) ∙ e in
        (f o, ap (numbered os) t.1 ∙ (numbered-change g.scripts k f ∙ ap (option_map f) here), (λ s. ap f s, same_delegate o)))
        (λ t. (o, numbered-change_other g.scripts k f j t.1 ∙ e, (λ s. s, refl)))
        (eqb_tells j k)

    more : Grows g (with_scripts g os)
    more = Grows-scripts g os stay

    fits : (o : GraphScript) → ScriptFits (with_scripts g os) o → ScriptFits (with_scripts g os) (f o)
    fits (plain_object old) t = record {
      slots = λ slots s. let same : set old i x ≡ slots = cc in subst (λ l. length l ≤ most_slots) same (subst (λ l. l ≤ most_slots) (sym (length-set old i x)) (t.slots old refl));
      held = λ slots y s j. let same : set old i x ≡ slots = cc in
          contents-set (λ z. IsTrue (is_made_script (with_scripts g os) z)) old i x (λ z l. t.held old z refl l)
          (OfSome-then (λ z. IsTrue (is_made_script g z)) (λ z. IsTrue (is_made_script (with_scripts g os) z)) (is_made_script-grows g (with_scripts g os) more) x m) y
          (subst (λ l. Among y (contents l)) (sym same) j);
      delegate = λ d s. absurd (cc);
    }
    fits weak_map t = t
    fits (proxy d) t = t

    changed : (o : Option GraphScript) → script_in g k ≡ o → (p : GraphScript) → option_map f o ≡ Some p → ScriptFits (with_scripts g os) p
    changed None e p s = absurd (cc)
    changed (Some o) e p s =
        let same : f o ≡ p = cc in
        subst (ScriptFits (with_scripts g os)) same (fits o (ScriptFits-grows g (with_scripts g os) more o (IsWellMade-script g w k o e)))

-- An object made

-- A NATIVE MADE leaves the graph well made.
pub IsWellMade-with_native : (g : Graph) (n : ℕ) → IsWellMade g → n ≤ most_slots → length g.natives < g.limits.natives → IsWellMade (with_native g n)
IsWellMade-with_native g n w few room = IsWellMade-natives g ns w (record {
  stay = stay;
  fit = λ k m e. ⊎_elim (λ old. NativeFits-grows g (with_natives g ns) more k m (IsWellMade-native g w k m old))
      (λ t. subst (NativeFits (with_natives g ns) k) t.1 (fits k)) (numbered-push_cases g.natives made k m e);
  allowed = omega (arith, length-append g.natives (made ∷ []));
})
  where
    made : GraphNative
    made = new_graph_native n

    ns : List GraphNative
    ns = g.natives ++ made ∷ []

    stay : (k : ℕ) (m : GraphNative) → native_in g k ≡ Some m → (p : GraphNative) × (numbered ns k ≡ Some p) × (is_some m.reflector ≡ true → is_some p.reflector ≡ true)
    stay k m e = (m, numbered-push_old g.natives made k m e, λ r. r)

    more : Grows g (with_natives g ns)
    more = Grows-natives g ns stay

    fits : (k : ℕ) → NativeFits (with_natives g ns) k made
    fits k = record {
      slots = subst (λ l. l ≤ most_slots) (sym (length-replicate n None)) few;
      held = λ x m. absurd (contents-empty_none n x m);
      preserved = λ e. absurd (false≢true e);
      reflector = λ slots e. absurd (cc);
      reflector_held = λ slots x e m. absurd (cc);
    }

-- A SCRIPT OBJECT MADE leaves the graph well made.
pub IsWellMade-with_script : (g : Graph) (o : GraphScript) → IsWellMade g → ScriptFits g o → length g.scripts < g.limits.scripts → IsWellMade (with_script g o)
IsWellMade-with_script g o w fits room = IsWellMade-scripts g os w (record {
  stay = stay;
  fit = λ k p e. ⊎_elim (λ old. ScriptFits-grows g (with_scripts g os) more p (IsWellMade-script g w k p old))
      (λ t. subst (ScriptFits (with_scripts g os)) t.1 (ScriptFits-grows g (with_scripts g os) more o fits)) (numbered-push_cases g.scripts o k p e);
  allowed = omega (arith, length-append g.scripts (o ∷ []));
})
  where
    os : List GraphScript
    os = g.scripts ++ o ∷ []

    stay : (k : ℕ) (p : GraphScript) → script_in g k ≡ Some p → (q : GraphScript) × (numbered os k ≡ Some q) × IsSameScript p q
    stay k p e = (p, numbered-push_old g.scripts o k p e, (λ s. s, refl))

    more : Grows g (with_scripts g os)
    more = Grows-scripts g os stay

-- a plain object with empty slots fits, and so does a weak map
pub ScriptFits-plain : (n : ℕ) → n ≤ most_slots → (e : Graph) → ScriptFits e (plain_object (empty_slots n))
ScriptFits-plain n few e = record {
  slots = λ slots s. let same : empty_slots n ≡ slots = cc in subst (λ l. length l ≤ most_slots) same (subst (λ l. l ≤ most_slots) (sym (length-replicate n None)) few);
  held = λ slots x s m. let same : empty_slots n ≡ slots = cc in absurd (contents-empty_none n x (subst (λ l. Among x (contents l)) (sym same) m));
  delegate = λ d s. absurd (cc);
}

-- and so does a weak map
pub ScriptFits-map : (e : Graph) → ScriptFits e weak_map
ScriptFits-map e = record { slots = λ slots s. absurd (cc); held = λ slots x s m. absurd (cc); delegate = λ d s. absurd (cc) }

-- and a proxy of a script object that was made
pub ScriptFits-proxy : (e : Graph) (x : Name) → IsTrue (is_made_script e x) → ScriptFits e (proxy x)
ScriptFits-proxy e x made = record { slots = λ slots s. absurd (cc); held = λ slots y s m. absurd (cc); delegate = λ d s. let same : x ≡ d = cc in subst (λ y. IsTrue (is_made_script e y)) same made }
