-- THE STEPS OF COMMANDS, taken alike in heaps and in the graph that they follow: a register or a slot gets what `P` holds of,
-- references are taken and given up, what script touches is exposed, a reflector is preserved, an entry is set.
use Rattle.std.proofs.Common.{arith, slice_index_or, ◌≡◌, ℕ, ◌≤◌, true, set, Option, Some, None, refl, sym, ◌∙◌, ap, subst, inl, inr, ⊎_elim, ◌==◌, count_by}
use Rattle.std.proofs.lemmas.Bool.{eq-eqb}
use Rattle.cc_lists.specs.Members.{Among}
use Rattle.cc_names.specs.declared.name.Name.{Name}
use Rattle.cc_names.specs.declared.name.Name.TheVariants as name
use Rattle.cc_names.specs.declared.register.Reg.{Reg}
use Rattle.cc_names.specs.declared.register.Reg.TheVariants.{N, S}
use Rattle.cc_names.specs.Names.{native, number_of}
use Rattle.cc_model.specs.Slots.{Slots}
use Rattle.cc_model.specs.Entries.{Entry, is_entry_of, with_entry, without_entry}
use Rattle.cc_model.specs.Checks.{slot_at}
use Rattle.cc_model.specs.Graph as graph
use Rattle.cc_model.specs.Graph.{Graph}
use Rattle.cc_model.specs.Heap as heap
use Rattle.cc_model.specs.Heap.{Heap}
use Rattle.cc_model.specs.Cascade.{take_up}
use Rattle.cc_model.specs.Exposure.{exposed}
use Rattle.cc_model.specs.Effects as effects
use Rattle.cc_model.specs.Effects.{touched, taken_out, put_in_register, hold_native, put_in_slot, store_native, move_slot, hold_script, put_in_script}
use Rattle.cc_model.specs.StandsFor.{Shape, shape_in}
use Rattle.cc_laws_heap.proofs.Holds.{OfSome, contents-set}
use Rattle.cc_laws_heap.proofs.EntryLists.{with_entry-cases}
use Rattle.cc_lists.proofs.Members.{Among-filtered}
use Rattle.cc_laws_heap.proofs.ReachedReads.{HasBehind}
use Rattle.cc_laws_heap.proofs.Following.{AreEntries, Follows}
use Rattle.cc_laws_heap.proofs.Changing.{Follows-left, Follows-registers, option_map-found}
use Rattle.cc_laws_heap.proofs.Writing.{changed_at, with_preserved, GraphChanges-native, SameGraphBeside-native}
use Rattle.cc_laws_heap.proofs.SlotsWritten.{IsPreserved, Follows-slot, Follows-preserved}
use Rattle.cc_laws_heap.proofs.EntriesWritten.{AreEntries-set, AreEntries-without, Follows-entries}
use Rattle.cc_laws_heap.proofs.Unseen.{Leaves-take_up, Leaves-let_go, Leaves-exposed, Leaves-touched}

-- Registers

-- a native register written
Follows-native_register : (P : Name → Type 0) (h : Heap) (g : Graph) (d : ℕ) (x y : Option Name) → x ≡ y → OfSome P y → Follows P h g →
    Follows P (heap.set_register h (N d) x) (graph.set_register g (N d) y)
Follows-native_register P h g d x y e p t = Follows-registers P h g (set h.native_registers d x) h.script_registers (set g.native_registers d y) g.script_registers
    (λ i. set (t.beside.native_registers i) d (e i)) t.beside.script_registers
    (contents-set P g.native_registers d y t.closed.native_registers p) t.closed.script_registers t

-- a script register written
pub Follows-script_register : (P : Name → Type 0) (h : Heap) (g : Graph) (d : ℕ) (x y : Option Name) → x ≡ y → OfSome P y → Follows P h g →
    Follows P (heap.set_register h (S d) x) (graph.set_register g (S d) y)
Follows-script_register P h g d x y e p t = Follows-registers P h g h.native_registers (set h.script_registers d x) g.native_registers (set g.script_registers d y)
    t.beside.native_registers (λ i. set (t.beside.script_registers i) d (e i))
    t.closed.native_registers (contents-set P g.script_registers d y t.closed.script_registers p) t

-- a native register written, what it held given up
pub Follows-put : (P : Name → Type 0) (h : Heap) (g : Graph) (d : ℕ) (x y : Option Name) → x ≡ y → OfSome P y → Follows P h g →
    Follows P (put_in_register h d x).heap (graph.set_register g (N d) y)
Follows-put P h g d x y e p t = Follows-left P (heap.set_register h (N d) x) (put_in_register h d x).heap (graph.set_register g (N d) y)
    (Leaves-let_go (heap.set_register h (N d) x) (heap.register h (N d))) (Follows-native_register P h g d x y e p t)

-- a reference taken first
pub Follows-hold : (P : Name → Type 0) (h : Heap) (g : Graph) (d : ℕ) (x y : Option Name) → x ≡ y → OfSome P y → Follows P h g →
    Follows P (hold_native h d x).heap (graph.set_register g (N d) y)
unfolding hold_native
Follows-hold P h g d x y e p t = Follows-put P (take_up h x) g d x y e p (Follows-left P h (take_up h x) g (Leaves-take_up h x) t)

-- what comes into a script register exposed first
pub Follows-hold_script : (P : Name → Type 0) (h : Heap) (g : Graph) (d : ℕ) (x y : Option Name) → x ≡ y → OfSome P y → Follows P h g →
    Follows P (hold_script h d x) (graph.set_register g (S d) y)
Follows-hold_script P h g d x y e p t = Follows-script_register P (exposed h x) g d x y e p (Follows-left P h (exposed h x) g (Leaves-exposed h x) t)

-- Slots of natives

-- slot i of what native register d holds written, a reference taken before, and what it held given up
pub Follows-store : (P : Name → Type 0) (h : Heap) (g : Graph) (d i : ℕ) (x y : Option Name) → x ≡ y → OfSome P y → OfSome P (graph.register g (N d)) →
    OfSome (IsPreserved g) (graph.register g (N d)) → Follows P h g → Follows P (store_native h d i x).heap (graph.set_slot g (graph.register g (N d)) i y)
unfolding store_native
Follows-store P h g d i x y e p q kept t = Follows-left P (heap.set_slot j (heap.register j (N d)) i x) (put_in_slot j d i x).heap (graph.set_slot g (graph.register g (N d)) i y)
    (Leaves-let_go (heap.set_slot j (heap.register j (N d)) i x) (slot_at (heap.objects_of j) (N d) i))
    (subst (λ v. Follows P (heap.set_slot j (heap.register j (N d)) i x) (graph.set_slot g (graph.register g (N d)) i v)) e
    (subst (λ o. Follows P (heap.set_slot j o i x) (graph.set_slot g (graph.register g (N d)) i x)) (sym same)
    (Follows-slot P j g (graph.register g (N d)) i x q (subst (OfSome P) (sym e) p) kept taken)))
  where
    j : Heap
    j = take_up h x

    taken : Follows P (take_up h x) g
    taken = Follows-left P h (take_up h x) g (Leaves-take_up h x) t

    same : heap.register (take_up h x) (N d) ≡ graph.register g (N d)
    same = ap (λ (l : Slots). slice_index_or l d None) taken.beside.native_registers

-- a slot written leaves registers
register-written : (h : Heap) (x : Option Name) (j : ℕ) (v : Option Name) (r : Reg) → heap.register (heap.set_slot h x j v) r ≡ heap.register h r
register-written h x j v r = grind arith

-- slot i of what native register d holds takes what slot j of what native register s holds, which is touched, and gives it up; and what it held is given up
pub Follows-move : (P : Name → Type 0) (h : Heap) (g : Graph) (d i s j : ℕ) (y : Option Name) → slot_at (heap.objects_of h) (N s) j ≡ y → OfSome P y →
    OfSome P (graph.register g (N d)) → OfSome P (graph.register g (N s)) →
    ((f : Graph) (r : ℕ) → OfSome (IsPreserved f) (graph.register g (N r))) → Follows P h g →
    Follows P (move_slot h d i s j).heap (graph.move_slot g (graph.register g (N d)) i (graph.register g (N s)) j y)
unfolding move_slot
Follows-move P h g d i s j y e p q r kept t =
    Follows-left P (heap.set_slot left (heap.register left (N d)) i x) (put_in_slot left d i x).heap (graph.move_slot g (graph.register g (N d)) i (graph.register g (N s)) j y)
    (Leaves-let_go (heap.set_slot left (heap.register left (N d)) i x) (slot_at (heap.objects_of left) (N d) i))
    (subst (λ v. Follows P (heap.set_slot left (heap.register left (N d)) i x) (graph.set_slot emptied (graph.register g (N d)) i v)) e
    (subst (λ o. Follows P (heap.set_slot left o i x) (graph.set_slot emptied (graph.register g (N d)) i x)) (sym (register-written k (heap.register h (N s)) j None (N d) ∙ same d))
    (Follows-slot P left emptied (graph.register g (N d)) i x q (subst (OfSome P) (sym e) p) (kept emptied d)
    (subst (λ o. Follows P (heap.set_slot k o j None) emptied) (sym (sym (ap (λ (l : Slots). slice_index_or l s None) (Leaves-touched h x).beside.native_registers) ∙ same s))
    (Follows-slot P k g (graph.register g (N s)) j None r tt (kept g s) now)))))
  where
    x : Option Name
    x = slot_at (heap.objects_of h) (N s) j

    k : Heap
    k = touched h x

    left : Heap
    left = taken_out h (heap.register h (N s)) j x

    emptied : Graph
    emptied = graph.set_slot g (graph.register g (N s)) j None

    now : Follows P k g
    now = Follows-left P h k g (Leaves-touched h x) t

    same : (r : ℕ) → heap.register k (N r) ≡ graph.register g (N r)
    same r = ap (λ (l : Slots). slice_index_or l r None) now.beside.native_registers

-- Reflectors preserved

-- a reflector preserved, where it is one
pub Follows-preserve : (P : Name → Type 0) (h : Heap) (g : Graph) (x : Option Name) → OfSome P x → OfSome (HasBehind P) x → Follows P h g →
    Follows P (heap.preserve h x) (graph.preserve g x)
Follows-preserve P h g (Some (name.Reflector k)) p b t = Follows-preserved P h g k.0 (b k.0 refl) p t
Follows-preserve P h g _ p b t = t

-- it is preserved then
pub preserved-after : (g : Graph) (x : Name) → IsPreserved (graph.preserve g (Some x)) x
preserved-after g (name.Reflector k) = λ j s e i.
    let f = option_map-found (changed_at (native k.0) with_preserved (native j)) (shape_in g (native j)) s
    (sym (GraphChanges-native g k.0 graph.as_preserved with_preserved (λ n. refl) (λ n. refl) (native j)) ∙ i) in
    let own : (j == k.0) ≡ true = eq-eqb j k.0 (sym (ap number_of e)) in
    sym (ap (λ (v : Shape). v.preserved) f.2) ∙ rw own refl
preserved-after g _ = λ j s e i. absurd (cc)

-- a reflector preserved, and slot i of a script object written
pub Follows-put_script : (P : Name → Type 0) (h : Heap) (g : Graph) (x : Option Name) (i : ℕ) (y : Option Name) → OfSome P x → OfSome (HasBehind P) x → OfSome P y →
    Follows P h g → Follows P (put_in_script h x i y) (graph.set_slot (graph.preserve g x) x i y)
Follows-put_script P h g x i y p b q t = Follows-slot P (heap.preserve h x) (graph.preserve g x) x i y p q (after x) (Follows-preserve P h g x p b t)
  where
    after : (o : Option Name) → OfSome (IsPreserved (graph.preserve g o)) o
    after o = grind (arith, preserved-after)

-- Entries

-- it leaves the entries
preserve-entries : (g : Graph) (x : Option Name) → (graph.preserve g x).entries ≡ g.entries
preserve-entries g x = grind (arith, SameGraphBeside-native)

-- an entry set, its key preserved; or taken out
pub Follows-set_entry : (P : Name → Type 0) (h : Heap) (g : Graph) (m k v : Option Name) → OfSome P m → OfSome P k → OfSome (HasBehind P) k → OfSome P v →
    OfSome (λ x. heap.delegate_at h x ≡ graph.delegate_in g x) k → ((a b : Name) → count_by (is_entry_of a b) g.entries ≤ 1) → Follows P h g → Follows P (effects.set_entry h m k v) (graph.set_entry g m k v)
Follows-set_entry P h g (Some m) (Some k) None p q b r same once t = Follows-entries P h g (without_entry h.entries m k) (without_entry g.entries m k)
    (AreEntries-without P h.entries g.entries m k t.entries) (λ e i. inl (Among-filtered _ e g.entries i)) t
Follows-set_entry P h g (Some m) (Some k) (Some v) p q b r same once t =
    Follows-entries P (heap.preserve h (Some k)) (graph.preserve g (Some k)) (with_entry h.entries m k (heap.delegate_at h k) v) (with_entry g.entries m k (graph.delegate_in g k) v)
    (subst (λ d. AreEntries P (with_entry h.entries m k d v) (with_entry g.entries m k (graph.delegate_in g k) v)) (sym same)
    (AreEntries-set P h.entries g.entries m k (graph.delegate_in g k) v p q (once m k) t.entries))
    (λ e i. ⊎_elim
    (λ s. inr (subst P (ap (λ (d : Entry). d.value) s) r, subst P (ap (λ (d : Entry). d.key) s) q, subst (IsPreserved (graph.preserve g (Some k))) (ap (λ (d : Entry). d.key) s) (preserved-after g k)))
    (λ old. inl (subst (Among e) (sym (preserve-entries g (Some k))) old))
    (with_entry-cases g.entries m k (graph.delegate_in g k) v e i))
    (Follows-preserve P h g (Some k) q b t)
Follows-set_entry P h g _ _ v p q b r same once t = t
