-- COMMANDS OF SCRIPT LEAVE NATIVES AS THEY ARE: what they hold, but for preserved reflectors, and the buffer; a native
-- that is wrapped is held by a register.
use Rattle.std.proofs.Common.{◌≡◌, ℕ, ◌+◌, Bool, true, false, List, [], map, Option, Some, None, refl, sym, ◌∙◌, ap, subst, inl, inr, ⊎_elim}
use Rattle.std.specs.List.{filter}
use Rattle.std.specs.Option.{option_to_list}
use Rattle.cc_lists.specs.Members.{Among, has}
use Rattle.cc_lists.proofs.Members.{Among-map}
use Rattle.cc_names.specs.declared.name.Name.{Name}
use Rattle.cc_names.specs.declared.name.Name.TheVariants as name
use Rattle.cc_names.specs.declared.register.Reg.TheVariants.{S}
use Rattle.cc_names.specs.declared.kind.Kind.{Kind}
use Rattle.cc_names.specs.declared.kind.Kind.TheVariants.{Reflector, Proxy}
use Rattle.cc_names.specs.Names.{native, object, reflector, same_name}
use Rattle.cc_model.specs.Slots.{contents, reflector_slots}
use Rattle.cc_model.specs.Entries.{Entry, with_entry, without_entry}
use Rattle.cc_model.specs.Checks.{reflector_of}
use Rattle.cc_model.specs.Heap.{Heap, HeapNative, HeapScript, set_register, change_script, with_script_slot, set_preserved, preserve, delegate_at, has_reflector, new_script}
use Rattle.cc_model.specs.View.{view, buffered, ReachedIn}
use Rattle.cc_model.specs.Cascade.{add_ref}
use Rattle.cc_model.specs.Exposure.{exposed, exposed_names, as_black}
use Rattle.cc_model.specs.Effects.{hold_script, make_object, make_proxy, with_reflector, wrapped, set_entry, put_in_script}
use Rattle.cc_model.specs.WellFormed.{native_names, script_names}
use Rattle.cc_laws_heap.proofs.Natives.{changed_at, changed_at-number, native_names-change}
use Rattle.cc_laws_heap.specs.Balance.{has_number}
use Rattle.cc_laws_heap.proofs.HoldsTheSame.{HoldsTheSame-add_ref, native_names-alike}
use Rattle.cc_lists.proofs.ListWrites.{changed_where, changed_where-either, map-kept}
use Rattle.cc_laws_heap.proofs.Making.{with_script_last, script_names-with_script}
use Rattle.cc_laws_snapshot.proofs.Handing.{register-reached, Hands}
use Rattle.cc_laws_snapshot.proofs.Handed.{TakesUp, TakesUp-add_ref, Still, Hands-still}

-- natives as they are, script names too, or more
Still-with : (h g : Heap) → g.natives ≡ h.natives → ((i : ℕ) → Among (reflector i) (script_names h) → Among (reflector i) (script_names g)) →
    g.native_registers ≡ h.native_registers → g.buffer ≡ h.buffer → Still h g
Still-with h g e s r b = record {
  natives = λ n m. (n, subst (λ ns. Among n ns) (sym e) m, refl, refl);
  names = ap (λ ns. map (λ (n : HeapNative). native n.number) ns) e;
  reflectors = s;
  registers = r;
  buffer = b;
}

-- heaps that do not change
pub Still-refl : (h : Heap) → Still h h
Still-refl h = Still-with h h refl (λ i m. m) refl refl

-- one change after another
Still-trans : (h i j : Heap) → Still h i → Still i j → Still h j
Still-trans h i j a b = record {
  natives = λ n m. let k = a.natives n m in let l = b.natives k.0 k.1 in (l.0, l.1, l.2 ∙ k.2, l.3 ∙ k.3);
  names = b.names ∙ a.names;
  reflectors = λ k m. b.reflectors k (a.reflectors k m);
  registers = b.registers ∙ a.registers;
  buffer = b.buffer ∙ a.buffer;
}

-- a script register written
pub Still-script_register : (h : Heap) (d : ℕ) (x : Option Name) → Still h (set_register h (S d) x)
Still-script_register h d x = Still-with h (set_register h (S d) x) refl (λ i m. m) refl refl

-- entries changed
Still-entries : (h : Heap) (es : List Entry) → Still h (record h { entries = es })
Still-entries h es = Still-with h (record h { entries = es }) refl (λ i m. m) refl refl

-- script objects changed that keep their names
Still-scripts : (h : Heap) (f : HeapScript → HeapScript) → ((o : HeapScript) → (f o).name ≡ o.name) → Still h (record h { scripts = map f h.scripts })
Still-scripts h f e = search (Still-with, map-kept)

-- a slot of a script object written
pub Still-change_script : (h : Heap) (x : Name) (i : ℕ) (y : Option Name) → Still h (change_script h x (with_script_slot i y))
Still-change_script h x i y = Still-scripts h (changed_where (λ o. same_name o.name x) (λ o. with_script_slot i y o))
    (λ o. changed_where-either (λ p. p.name ≡ o.name) (λ o. same_name o.name x) (λ o. with_script_slot i y o) o (λ e. refl) refl)

-- an exposure
pub Still-exposed : (h : Heap) (x : Option Name) → Still h (exposed h x)
unfolding exposed
Still-exposed h None = Still-refl h
Still-exposed h (Some x) = Still-scripts h (changed_where (λ o. has same_name (exposed_names h x) o.name) as_black)
    (λ o. changed_where-either (λ p. p.name ≡ o.name) (λ o. has same_name (exposed_names h x) o.name) as_black o (λ e. refl) refl)

-- what comes into a script register
pub Still-hold_script : (h : Heap) (d : ℕ) (x : Option Name) → Still h (hold_script h d x)
Still-hold_script h d x = Still-trans h (exposed h x) (hold_script h d x) (Still-exposed h x) (Still-script_register (exposed h x) d x)

-- natives but for a flag
pub Still-flag : (h : Heap) (k : ℕ) (on : Bool) → Still h (set_preserved h k on)
Still-flag h k on = record {
  natives = λ n m. (
    changed_at k flagged n,
    Among-map (changed_at k flagged) n h.natives m,
    changed_at-number k flagged (λ o. refl) n,
    changed_where-either (λ o. o.slots ≡ n.slots) (has_number k) flagged n (λ e. refl) refl,
  );
  names = native_names-change h k flagged (λ n. refl);
  reflectors = λ i m. m;
  registers = refl;
  buffer = refl;
}
  where
    flagged : HeapNative → HeapNative
    flagged n = record n { preserved = on }

-- a reflector preserved
pub Still-preserve : (h : Heap) (x : Option Name) → Still h (preserve h x)
Still-preserve h (Some (name.Reflector k)) = Still-flag h k.0 true
Still-preserve h _ = Still-refl h

-- an entry set or taken out
pub Still-set_entry : (h : Heap) (m k v : Option Name) → Still h (set_entry h m k v)
Still-set_entry h (Some m) (Some k) None = Still-entries h (without_entry h.entries m k)
Still-set_entry h (Some m) (Some k) (Some v) = Still-trans h (preserve h (Some k)) (set_entry h (Some m) (Some k) (Some v))
    (Still-preserve h (Some k)) (Still-entries (preserve h (Some k)) (with_entry h.entries m k (delegate_at h k) v))
Still-set_entry h _ _ v = Still-refl h

-- a slot of what a script register holds, which is no native, written
pub Still-put_in_script : (h : Heap) (x : Option Name) (i : ℕ) (y : Option Name) → ((k : ℕ) → ¬ (Among (native k) (option_to_list x))) →
    Still h (put_in_script h x i y)
Still-put_in_script h None i y none = Still-refl h
Still-put_in_script h (Some (name.Native k)) i y none = absurd (none k.0 (inl refl))
Still-put_in_script h (Some (name.Script k)) i y none = Still-change_script h (object k.0) i y
Still-put_in_script h (Some (name.Reflector k)) i y none = Still-trans h (set_preserved h k.0 true) (put_in_script h (Some (name.Reflector k)) i y)
    (Still-flag h k.0 true) (Still-change_script (set_preserved h k.0 true) (reflector k.0) i y)

-- a script object made
pub Still-script_last : (h : Heap) (o : HeapScript) (made : ℕ) → Still h (with_script_last h o made)
Still-script_last h o made = Still-with h (with_script_last h o made) refl (λ i m. script_names-with_script h o made (reflector i) m) refl refl

-- a script object made, and a script register holds it
pub Still-make_object : (h : Heap) (d : ℕ) (kind : Kind) (n : ℕ) (its_delegate : Option Name) → Still h (make_object h d kind n its_delegate)
Still-make_object h d kind n its_delegate = Still-trans h (with_script_last h o made) (make_object h d kind n its_delegate)
    (Still-script_last h o made) (Still-script_register (with_script_last h o made) d (Some (object made)))
  where
    made : ℕ
    made = h.scripts_made + 1

    o : HeapScript
    o = new_script (object made) kind n its_delegate

-- a proxy made, its delegate preserved first where it is a reflector
pub Still-make_proxy : (h : Heap) (d : ℕ) (x : Option Name) → Still h (make_proxy h d x)
Still-make_proxy h d None = Still-refl h
Still-make_proxy h d (Some x) = Still-trans h (preserve h (Some x)) (make_proxy h d (Some x)) (Still-preserve h (Some x))
    (Still-make_object (preserve h (Some x)) d Proxy 0 (Some x))

-- Natives wrapped

-- who was touched is reached, and beside natives anything may change
pub Hands-taken : (h i g : Heap) (x : Option Name) → TakesUp h i x → native_names i ≡ native_names h → Still i g →
    ((j : ℕ) → Among (native j) (option_to_list x) → ReachedIn (view g) (native j)) → Hands [] h g
Hands-taken h i g x t names s held = record {
  slots = λ n j m c. ⊎_elim
      (λ k. let l = s.natives k.0 k.1 in inl (l.0, l.1, l.2 ∙ k.2, subst (λ s. Among (native j) (contents s)) (sym l.3) k.3))
      (λ o. inr (inr (held j o)))
      (t.slots n j m c);
  reflectors = λ j m. s.reflectors j (t.reflectors j m);
  registers = λ j m. inl (subst (λ s. Among (native j) (contents s)) (sym (s.registers ∙ t.registers)) m);
  purple = λ j p. ⊎_elim (λ q. inl (subst (λ bs. Among (native j) (map buffered (filter (λ b. b.purple) bs))) (sym s.buffer) q)) (λ m. inr (held j m)) (t.purple j p);
  buffer = λ j m. ⊎_elim (λ q. inl q) (λ n. inr (held j n)) (t.buffer j (subst (λ bs. Among (native j) (map buffered bs)) s.buffer m));
  living = λ j m. inl (subst (λ xs. Among (native j) xs) (s.names ∙ names) m);
}

-- what a native register holds is wrapped, and a script register holds the reflector
pub Hands-wrapped : (h : Heap) (d : ℕ) (x : Option Name) → ((j : ℕ) → Among (native j) (option_to_list x) → Among (native j) (contents h.native_registers)) →
    Hands [] h (set_register (wrapped h x) (S d) (reflector_of x))
Hands-wrapped h d None there = Hands-still h (set_register h (S d) None) (Still-script_register h d None)
Hands-wrapped h d (Some (name.Script k)) there = Hands-still h (set_register h (S d) None) (Still-script_register h d None)
Hands-wrapped h d (Some (name.Reflector k)) there = Hands-still h (set_register h (S d) None) (Still-script_register h d None)
Hands-wrapped h d (Some (name.Native k)) there = go (has_reflector h k.0)
  where
    go : (b : Bool) → Hands [] h (set_register (elim b [ true ↦ exposed h (Some (reflector k.0)) | false ↦ with_reflector h k.0 ]) (S d) (Some (reflector k.0)))
    go true = Hands-still h (hold_script h d (Some (reflector k.0))) (Still-hold_script h d (Some (reflector k.0)))
    go false = Hands-taken h (add_ref h k.0) (set_register (with_reflector h k.0) (S d) (Some (reflector k.0))) (Some (native k.0))
        (TakesUp-add_ref h k.0) (native_names-alike h (add_ref h k.0) (HoldsTheSame-add_ref h k.0))
        (Still-trans (add_ref h k.0) (with_reflector h k.0) (set_register (with_reflector h k.0) (S d) (Some (reflector k.0)))
        (Still-script_last (add_ref h k.0) (new_script (reflector k.0) Reflector reflector_slots None) h.scripts_made)
        (Still-script_register (with_reflector h k.0) d (Some (reflector k.0))))
        (λ j m. register-reached (set_register (with_reflector h k.0) (S d) (Some (reflector k.0))) (native j) (there j m))
