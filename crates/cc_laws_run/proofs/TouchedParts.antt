-- THE PARTS OF COMMANDS SPARE DOOMED NAMES: counts, slots, flags, registers, entries and colours written, objects made.
use Rattle.std.proofs.Common.{◌≡◌, ℕ, ◌==◌, Bool, true, List, [], ◌∷◌, ◌++◌, map, set, Option, refl, sym, ap, subst, ⊎_elim, inr, inl, ◌∙◌}
use Rattle.std.specs.List.{filter}
use Rattle.std.specs.Option.{option_to_list}
use Rattle.std.proofs.lemmas.Bool.{eqb-true}
use Rattle.cc_lists.specs.Members.{Among}
use Rattle.cc_lists.proofs.Members.{Among-map, Among-map_cases, Among-left, Among-right, Among-append, Among-filter}
use Rattle.cc_names.specs.declared.name.Name.{Name}
use Rattle.cc_names.specs.declared.register.Reg.{Reg}
use Rattle.cc_names.specs.declared.register.Reg.TheVariants.{N, S, W}
use Rattle.cc_names.specs.Names.{native, reflector, same_name}
use Rattle.cc_names.proofs.NameTests.{same_name-true}
use Rattle.cc_model.specs.Slots.{Slots, contents}
use Rattle.cc_model.specs.Heap.{Heap, HeapNative, HeapScript, is_black_colour, set_register, change_native, change_script, with_native_slot, with_script_slot, set_preserved}
use Rattle.cc_model.specs.View.{view, native_edges, script_edges}
use Rattle.cc_model.proofs.Places.{slot-place, delegate-place, script_place-cases}
use Rattle.cc_lists.proofs.ListWrites.{changed_where, changed_where-either, Among-flat_map_set}
use Rattle.cc_laws_snapshot.proofs.ReachedStays.{native-edge, script-edge}
use Rattle.cc_laws_run.proofs.TouchedViews.{Spares, Spares-registers, Spares-natives, Spares-scripts}
use Rattle.cc_laws_heap.proofs.ViewEdges.{script_edges-are, native_edges-are}
use Rattle.cc_laws_snapshot.proofs.Edges.{script_edges-has, native_edges-has}

-- what a place holds is no member
abbrev pub IsUntouched : List Name → Option Name → Type 0
IsUntouched ds x = (y : Name) → Among y (option_to_list x) → ¬ (Among y ds)

module _ (ds : List Name) (h : Heap) where
  -- a member among slots after a write was there before, where what was written is none
  pub contents-untouched : (slots : Slots) (i : ℕ) (x : Option Name) → IsUntouched ds x → (y : Name) → Among y ds →
      Among y (contents (set slots i x)) → Among y (contents slots)
  contents-untouched slots i x none y m j = ⊎_elim (λ new. absurd (none y new m)) (λ old. old) (Among-flat_map_set option_to_list slots i x y j)

  -- a register written with what is no member
  pub Spares-register : (r : Reg) (x : Option Name) → IsUntouched ds x → Spares ds (view h) (view (set_register h r x))
  Spares-register (N d) x none = Spares-registers ds h (set h.native_registers d x) h.script_registers
      (λ y m j. ⊎_elim
      (λ l. Among-left y (contents h.native_registers) (contents h.script_registers) (contents-untouched h.native_registers d x none y m l))
      (λ r. Among-right y (contents h.native_registers) (contents h.script_registers) r)
      (Among-append y (contents (set h.native_registers d x)) (contents h.script_registers) j))
  Spares-register (S d) x none = Spares-registers ds h h.native_registers (set h.script_registers d x)
      (λ y m j. ⊎_elim
      (λ l. Among-left y (contents h.native_registers) (contents h.script_registers) l)
      (λ r. Among-right y (contents h.native_registers) (contents h.script_registers) (contents-untouched h.script_registers d x none y m r))
      (Among-append y (contents h.native_registers) (contents (set h.script_registers d x)) j))
  Spares-register (W d) x none = Spares-registers ds h h.native_registers h.script_registers (λ y m j. j)

  -- Natives

  -- one native changed, which gets no edge to a member and, where it is a member, loses none
  Spares-change_native : (k : ℕ) (f : HeapNative → HeapNative) → ((n : HeapNative) → (f n).number ≡ n.number) →
      ((n : HeapNative) (x y : Name) → n.number ≡ k → Among y ds → Among (x, y) (native_edges (f n)) → Among (x, y) (native_edges n)) →
      ((n : HeapNative) (y : Name) → n.number ≡ k → Among (native n.number) ds → Among y ds → Among (native n.number, y) (native_edges n) →
      Among (native n.number, y) (native_edges (f n))) →
      Spares ds (view h) (view (change_native h k f))
  Spares-change_native k f number old kept = Spares-natives ds h (map changed h.natives)
      (λ n there m. (
        changed n,
        Among-map changed n h.natives there,
        changed_where-either (λ o. o.number ≡ n.number) is_it f n (λ t. number n) refl,
        λ y i e. changed_where-either (λ o. Among (native n.number, y) (native_edges o)) is_it f n (λ t. kept n y (eqb-true n.number k t) m i e) e,
      ))
      (λ o x y there i e.
      let a = Among-map_cases changed h.natives o there in
      native-edge h a.0 x y a.1
      (changed_where-either (λ p. Among (x, y) (native_edges p) → Among (x, y) (native_edges a.0)) is_it f a.0 (λ t. old a.0 x y (eqb-true a.0.number k t) i) (λ j. j)
      (subst (λ p. Among (x, y) (native_edges p)) (sym a.2) e)))
    where
      is_it : HeapNative → Bool
      is_it n = n.number == k

      changed : HeapNative → HeapNative
      changed n = changed_where is_it f n

  -- a count changed
  pub Spares-count : (k : ℕ) (f : ℕ → ℕ) → Spares ds (view h) (view (change_native h k (λ n. record n { count = f n.count })))
  Spares-count k f = Spares-change_native k (λ n. record n { count = f n.count }) (λ n. refl) (λ n x y t i e. e) (λ n y t m i e. e)

  -- a slot of a native that is no member written with what is none
  pub Spares-native_slot : (k i : ℕ) (x : Option Name) → ¬ (Among (native k) ds) → IsUntouched ds x →
      Spares ds (view h) (view (change_native h k (with_native_slot i x)))
  Spares-native_slot k i x out none = Spares-change_native k (with_native_slot i x) (λ n. refl)
      (λ n z y t m e.
      let p = native_edges-are (with_native_slot i x n) z y e in
      native_edges-has n z y p.0 (⊎_elim (λ c. inl (contents-untouched n.slots i x none y m c)) (λ q. inr q) p.1))
      (λ n y t m j e. absurd (out (subst (λ p. Among (native p) ds) t m)))

  -- a reflector that is no member preserved
  pub Spares-preserved : (k : ℕ) → ¬ (Among (reflector k) ds) → Spares ds (view h) (view (set_preserved h k true))
  Spares-preserved k out = Spares-change_native k kept (λ n. refl)
      (λ n x y t m e.
      let p = native_edges-are (kept n) x y e in
      native_edges-has n x y p.0 (⊎_elim (λ c. inl c) (λ q. absurd (out (subst (λ z. Among z ds) (sym (ap reflector (sym t) ∙ q.1)) m))) p.1))
      (λ n y t m i e.
      let p = native_edges-are n (native n.number) y e in
      native_edges-has (kept n) (native n.number) y refl (⊎_elim (λ c. inl c) (λ q. inr (refl, q.1)) p.1))
    where
      kept : HeapNative → HeapNative
      kept n = record n { preserved = true }

  -- one native more, without edges
  pub Spares-new_native : (n : HeapNative) → ((x y : Name) → ¬ (Among (x, y) (native_edges n))) →
      Spares ds (view h) (view (record h { natives = h.natives ++ n ∷ [] }))
  Spares-new_native n none = Spares-natives ds h (h.natives ++ n ∷ [])
      (λ o there m. (o, Among-left o h.natives (n ∷ []) there, refl, λ y i e. e))
      (λ o x y there i e. ⊎_elim
      (λ l. native-edge h o x y l e)
      (λ r. ⊎_elim (λ s. absurd (none x y (subst (λ p. Among (x, y) (native_edges p)) (sym s) e))) (λ b. absurd b) r)
      (Among-append o h.natives (n ∷ []) there))

  -- Script objects

  -- a script object that is there and black is black in the view
  black-there : (o : HeapScript) → Among o h.scripts → is_black_colour o.colour ≡ true → Among o.name (view h).black
  black-there o there e = Among-map (λ (p : HeapScript). p.name) o (filter (λ p. is_black_colour p.colour) h.scripts)
      (Among-filter (λ p. is_black_colour p.colour) o h.scripts there e)

  -- some script objects changed that get no edge to a member and, where they are members, lose none; no member among them becomes black
  Spares-change_scripts : (t : HeapScript → Bool) (f : HeapScript → HeapScript) → ((o : HeapScript) → (f o).name ≡ o.name) →
      ((o : HeapScript) (x y : Name) → Among y ds → Among (x, y) (script_edges (f o)) → Among (x, y) (script_edges o)) →
      ((o : HeapScript) (y : Name) → t o ≡ true → Among o.name ds → Among y ds → Among (o.name, y) (script_edges o) → Among (o.name, y) (script_edges (f o))) →
      ((o : HeapScript) → Among o h.scripts → t o ≡ true → Among o.name ds → is_black_colour (f o).colour ≡ true → Among o.name (view h).black) →
      Spares ds (view h) (view (record h { scripts = map (changed_where t f) h.scripts }))
  Spares-change_scripts t f named old kept dark = Spares-scripts ds h (map changed h.scripts)
      (λ o there m. (
        changed o,
        Among-map changed o h.scripts there,
        name o,
        λ y i e. changed_where-either (λ p. Among (o.name, y) (script_edges p)) t f o (λ q. kept o y q m i e) e,
      ))
      (λ p x y there i e.
      let a = Among-map_cases changed h.scripts p there in
      script-edge h a.0 x y a.1
      (changed_where-either (λ q. Among (x, y) (script_edges q) → Among (x, y) (script_edges a.0)) t f a.0 (λ q. old a.0 x y i) (λ j. j)
      (subst (λ q. Among (x, y) (script_edges q)) (sym a.2) e)))
      (λ p there m e.
      let a = Among-map_cases changed h.scripts p there in
      let same = subst (λ (q : HeapScript). q.name ≡ a.0.name) a.2 (name a.0) in
      subst (λ z. Among z (view h).black) (sym same)
      (changed_where-either (λ q. is_black_colour q.colour ≡ true → Among a.0.name (view h).black) t f a.0
      (λ q. dark a.0 a.1 q (subst (λ z. Among z ds) same m)) (λ b. black-there a.0 a.1 b)
      (subst (λ (q : HeapScript). is_black_colour q.colour ≡ true) (sym a.2) e)))
    where
      changed : HeapScript → HeapScript
      changed o = changed_where t f o

      name : (o : HeapScript) → (changed o).name ≡ o.name
      name o = changed_where-either (λ p. p.name ≡ o.name) t f o (λ q. named o) refl

  -- a slot of a script object that is no member written with what is none
  pub Spares-script_slot : (z : Name) (i : ℕ) (x : Option Name) → ¬ (Among z ds) → IsUntouched ds x →
      Spares ds (view h) (view (change_script h z (with_script_slot i x)))
  Spares-script_slot z i x out none = Spares-change_scripts (λ o. same_name o.name z) (with_script_slot i x) (λ o. refl)
      (λ o w y m e.
      let p = script_edges-are (with_script_slot i x o) w y e in
      script_edges-has o w y p.0 (⊎_elim (λ c. inl (⊎_elim
      (λ l. slot-place o y (contents-untouched o.slots i x none y m l))
      (λ q. delegate-place o y q)
      (script_place-cases (with_script_slot i x o) y c))) (λ q. inr q) p.1))
      (λ o y t m j e. absurd (out (subst (λ v. Among v ds) (same_name-true o.name z t) m)))
      (λ o there t m e. absurd (out (subst (λ v. Among v ds) (same_name-true o.name z t) m)))

  -- script objects that are no members become black
  pub Spares-blackened : (t : HeapScript → Bool) (f : HeapScript → HeapScript) → ((o : HeapScript) → (f o).name ≡ o.name) →
      ((o : HeapScript) → script_edges (f o) ≡ script_edges o) → ((o : HeapScript) → t o ≡ true → ¬ (Among o.name ds)) →
      Spares ds (view h) (view (record h { scripts = map (changed_where t f) h.scripts }))
  Spares-blackened t f named same out = Spares-change_scripts t f named
      (λ o x y m e. subst (λ es. Among (x, y) es) (same o) e)
      (λ o y q m i e. subst (λ es. Among (o.name, y) es) (sym (same o)) e)
      (λ o there q m e. absurd (out o q m))

  -- one script object more, which is no member and has no edge to one
  pub Spares-new_script : (o : HeapScript) → ¬ (Among o.name ds) → ((x y : Name) → Among y ds → ¬ (Among (x, y) (script_edges o))) →
      Spares ds (view h) (view (record h { scripts = h.scripts ++ o ∷ [] }))
  Spares-new_script o out none = Spares-scripts ds h (h.scripts ++ o ∷ [])
      (λ p there m. (p, Among-left p h.scripts (o ∷ []) there, refl, λ y i e. e))
      (λ p x y there i e. ⊎_elim
      (λ l. script-edge h p x y l e)
      (λ r. ⊎_elim (λ s. absurd (none x y i (subst (λ q. Among (x, y) (script_edges q)) (sym s) e))) (λ b. absurd b) r)
      (Among-append p h.scripts (o ∷ []) there))
      (λ p there m e. ⊎_elim
      (λ l. black-there p l e)
      (λ r. ⊎_elim (λ s. absurd (out (subst (λ (q : HeapScript). Among q.name ds) (sym s) m))) (λ b. absurd b) r)
      (Among-append p h.scripts (o ∷ []) there))
