-- WHAT NATIVES HOLD AFTER A CHANGE: of script objects no more than before, but for what is written and for a reflector that is preserved.
use Rattle.std.proofs.Common.{◌≡◌, ℕ, ◌+◌, Bool, true, false, List, [], map, Option, Some, None, refl, sym, ◌∙◌, ap, subst, inl, inr, ◌⊎◌, ⊎_elim, ◌==◌, option_to_list, slice_index_or}
use Rattle.std.specs.List.{flat_map}
use Rattle.std.proofs.lemmas.Bool.{false≢true, eqb-true}
use Rattle.cc_lists.specs.Members.{Among}
use Rattle.cc_lists.proofs.Members.{Among-map, Among-map_cases, Among-left, Among-right, Among-append, Among-filter, Among-filtered, Among-passes, Among-flat_map, Among-flat_map_cases}
use Rattle.cc_lists.proofs.ListWrites.{Among-flat_map_set, changed_where, changed_where-either, each-map, each-push}
use Rattle.cc_names.specs.declared.name.Name.{Name}
use Rattle.cc_names.specs.declared.name.Name.TheVariants as name
use Rattle.cc_names.specs.declared.register.Reg.TheVariants.{N}
use Rattle.cc_names.specs.Names.{native, reflector, is_script}
use Rattle.cc_names.specs.Places.{where_set}
use Rattle.cc_model.specs.Slots.{contents}
use Rattle.cc_model.specs.Heap.{Heap, HeapNative, Outcome, native_to_make, register, set_register, change_native, with_native_slot, preserve}
use Rattle.cc_model.specs.Cascade.{add_ref, take_up, let_go}
use Rattle.cc_model.specs.Places.{places_of_native}
use Rattle.cc_model.specs.Effects.{put_in_register, hold_native, put_in_slot, with_native, make_native}
use Rattle.cc_model.specs.WellFormed.{IsWellFormed, native_names, script_names}
use Rattle.cc_model.specs.Colours.{scripts_held, scripts_held_by}
use Rattle.cc_model.proofs.Places.{contents-last}
use Rattle.cc_laws_heap.specs.Freeing.{uncounted, is_none_of}
use Rattle.cc_laws_heap.proofs.Making.{contents-empty_none}
use Rattle.cc_laws_heap.proofs.HoldsTheSame.{HoldsTheSame-add_ref, HoldsTheSame-take_up}
use Rattle.cc_laws_heap.proofs.CascadeTakesOut.{TakesOut-let_go}
use Rattle.cc_laws_heap.proofs.NativeCommands.{HasSlot, put_in_slot-written}
use Rattle.cc_laws_heap.proofs.HoldsBut.{HeldOr}

-- One native

-- the place of a preserved reflector
abbrev reflector_place : HeapNative → Option Name
reflector_place n = where_set n.preserved (Some (reflector n.number))

-- what a native holds of script objects stands in a slot, or is its preserved reflector
held_by-cases : (n : HeapNative) (x : Name) → Among x (scripts_held_by n) →
    (is_script x ≡ true) × (Among x (contents n.slots) ⊎ Among x (option_to_list (reflector_place n)))
held_by-cases n x m = (
  Among-passes is_script x (contents (places_of_native n)) m,
  Among-append x (contents n.slots) (option_to_list (reflector_place n))
      (subst (Among x) (contents-last n.slots (reflector_place n)) (Among-filtered is_script x (contents (places_of_native n)) m)),
)

-- a script object in a slot of a native is held by it
pub held_by-slot : (n : HeapNative) (x : Name) → is_script x ≡ true → Among x (contents n.slots) → Among x (scripts_held_by n)
held_by-slot n x s m = Among-filter is_script x (contents (places_of_native n))
    (subst (Among x) (sym (contents-last n.slots (reflector_place n))) (Among-left x (contents n.slots) (option_to_list (reflector_place n)) m)) s

-- a preserved reflector is held by its native
held_by-reflector : (n : HeapNative) (x : Name) → is_script x ≡ true → Among x (option_to_list (reflector_place n)) → Among x (scripts_held_by n)
held_by-reflector n x s m = Among-filter is_script x (contents (places_of_native n))
    (subst (Among x) (sym (contents-last n.slots (reflector_place n))) (Among-right x (contents n.slots) (option_to_list (reflector_place n)) m)) s

-- a native of which a slot was written holds what it held, or what was written
held_by-written : (n : HeapNative) (i : ℕ) (y : Option Name) (x : Name) → Among x (scripts_held_by (with_native_slot i y n)) →
    Among x (scripts_held_by n) ⊎ ((is_script x ≡ true) × Among x (option_to_list y))
held_by-written n i y x m =
    let c = held_by-cases (with_native_slot i y n) x m in
    ⊎_elim
    (λ s. ⊎_elim (λ new. inr (c.0, new)) (λ old. inl (held_by-slot n x c.0 old)) (Among-flat_map_set option_to_list n.slots i y x s))
    (λ r. inl (held_by-reflector n x c.0 r))
    c.1

-- a native whose reflector is preserved holds what it held, or its reflector
held_by-preserved : (n : HeapNative) (x : Name) → Among x (scripts_held_by (record n { preserved = true })) →
    Among x (scripts_held_by n) ⊎ (reflector n.number ≡ x)
held_by-preserved n x m =
    let c = held_by-cases (record n { preserved = true }) x m in
    ⊎_elim (λ s. inl (held_by-slot n x c.0 s)) (λ r. inr (⊎_elim (λ e. e) (λ t. absurd t) r)) c.1

-- All natives

-- natives hold what they held, where none is there that was not, counts aside
HeldOr-natives : (h g : Heap) → ((u : HeapNative) → Among u (map uncounted g.natives) → Among u (map uncounted h.natives)) → HeldOr [] h g
HeldOr-natives h g fewer x m =
    let f = Among-flat_map_cases scripts_held_by g.natives x m in
    let k = Among-map_cases uncounted h.natives (uncounted f.0) (fewer (uncounted f.0) (Among-map uncounted f.0 g.natives f.1)) in
    inl (Among-flat_map scripts_held_by k.0 x h.natives k.1 (subst (λ (u : HeapNative). Among x (scripts_held_by u)) (sym k.2) f.2))

-- so where each native changes, and holds then what it held or what stands in a list
HeldOr-changed : (more : List Name) (h : Heap) (k : ℕ) (f : HeapNative → HeapNative) →
    ((n : HeapNative) (x : Name) → n.number ≡ k → Among x (scripts_held_by (f n)) → Among x (scripts_held_by n) ⊎ Among x more) →
    HeldOr more h (change_native h k f)
HeldOr-changed more h k f one x m =
    let g = Among-flat_map_cases scripts_held_by (change_native h k f).natives x m in
    each-map (λ n. Among x (scripts_held_by n) → Among x (scripts_held h) ⊎ Among x more) (changed_where (λ n. n.number == k) f) h.natives
    (λ n i. changed_where-either (λ o. Among x (scripts_held_by o) → Among x (scripts_held h) ⊎ Among x more) (λ n. n.number == k) f n
    (λ e j. ⊎_elim (λ old. inl (Among-flat_map scripts_held_by n x h.natives i old)) (λ new. inr new) (one n x (eqb-true n.number k e) j))
    (λ j. inl (Among-flat_map scripts_held_by n x h.natives i j)))
    g.0 g.1 g.2

-- a change that lets natives hold nothing new after another change
pub HeldOr-then : (more : List Name) (h g f : Heap) → HeldOr more h g → HeldOr [] g f → HeldOr more h f
HeldOr-then more h g f a b x m = ⊎_elim (a x) (λ n. absurd n) (b x m)

-- a change after one that lets natives hold nothing new
pub HeldOr-after : (more : List Name) (h g f : Heap) → HeldOr [] h g → HeldOr more g f → HeldOr more h f
HeldOr-after more h g f a b x m = ⊎_elim (λ old. ⊎_elim (λ i. inl i) (λ n. absurd n) (a x old)) (λ new. inr new) (b x m)

-- natives that hold nothing new hold what stands in any list
pub HeldOr-more : (more : List Name) (h g : Heap) → HeldOr [] h g → HeldOr more h g
HeldOr-more more h g a x m = ⊎_elim (λ i. inl i) (λ n. absurd n) (a x m)

-- the same natives
pub HeldOr-same : (more : List Name) (h g : Heap) → g.natives ≡ h.natives → HeldOr more h g
HeldOr-same more h g e x m = inl (subst (λ (ns : List HeapNative). Among x (flat_map scripts_held_by ns)) e m)

-- Kinds of change

-- a reference taken
pub HeldOr-take_up : (h : Heap) (x : Option Name) → HeldOr [] h (take_up h x)
HeldOr-take_up h x = HeldOr-natives h (take_up h x) (λ u i. subst (Among u) (HoldsTheSame-take_up h x).natives i)

-- one more reference to a native
pub HeldOr-add_ref : (h : Heap) (k : ℕ) → HeldOr [] h (add_ref h k)
HeldOr-add_ref h k = HeldOr-natives h (add_ref h k) (λ u i. subst (Among u) (HoldsTheSame-add_ref h k).natives i)

-- a reference given up: natives go
pub HeldOr-let_go : (h : Heap) (x : Option Name) → HeldOr [] h (let_go h x).heap
HeldOr-let_go h x =
    let t = TakesOut-let_go h x in
    HeldOr-natives h (let_go h x).heap (λ u i. Among-filtered (is_none_of t.0) u (map uncounted h.natives) (subst (Among u) t.1.natives i))

-- a slot of a native written
pub HeldOr-slot : (more : List Name) (h : Heap) (k i : ℕ) (y : Option Name) → ((x : Name) → is_script x ≡ true → Among x (option_to_list y) → Among x more) →
    HeldOr more h (change_native h k (with_native_slot i y))
HeldOr-slot more h k i y listed = HeldOr-changed more h k (with_native_slot i y)
    (λ n x e m. ⊎_elim (λ old. inl old) (λ new. inr (listed x new.0 new.1)) (held_by-written n i y x m))

-- a reflector preserved
pub HeldOr-preserve : (more : List Name) (h : Heap) (y : Option Name) → ((x : Name) → Among x (option_to_list y) → Among x more) → HeldOr more h (preserve h y)
HeldOr-preserve more h (Some (name.Reflector k)) listed = HeldOr-changed more h k.0 (λ n. record n { preserved = true })
    (λ n x e m. ⊎_elim (λ old. inl old)
    (λ new. inr (listed x (inl (sym (ap reflector e) ∙ new))))
    (held_by-preserved n x m))
HeldOr-preserve more h (Some (name.Native k)) listed = λ x m. inl m
HeldOr-preserve more h (Some (name.Script k)) listed = λ x m. inl m
HeldOr-preserve more h None listed = λ x m. inl m

-- a native made
pub HeldOr-with_native : (h : Heap) (n : ℕ) → HeldOr [] h (with_native h n)
HeldOr-with_native h n x m =
    let f = Among-flat_map_cases scripts_held_by (with_native h n).natives x m in
    each-push (λ u. Among x (scripts_held_by u) → Among x (scripts_held h) ⊎ Among x []) h.natives (native_to_make h n)
    (λ u i j. inl (Among-flat_map scripts_held_by u x h.natives i j))
    (λ j. ⊎_elim (λ s. absurd (contents-empty_none n x s)) (λ r. absurd r) (held_by-cases (native_to_make h n) x j).1)
    f.0 f.1 f.2

-- Registers and slots of natives

-- a native register written
pub HeldOr-put_in_register : (h : Heap) (d : ℕ) (x : Option Name) → HeldOr [] h (put_in_register h d x).heap
HeldOr-put_in_register h d x = HeldOr-let_go (set_register h (N d) x) (register h (N d))

-- with the reference taken first
pub HeldOr-hold_native : (h : Heap) (d : ℕ) (x : Option Name) → HeldOr [] h (hold_native h d x).heap
unfolding hold_native
HeldOr-hold_native h d x = HeldOr-after [] h (take_up h x) (put_in_register (take_up h x) d x).heap (HeldOr-take_up h x) (HeldOr-put_in_register (take_up h x) d x)

-- a native made, which a register holds
pub HeldOr-make_native : (h : Heap) (d n : ℕ) → HeldOr [] h (make_native h d n).heap
unfolding make_native
HeldOr-make_native h d n = HeldOr-after [] h (with_native h n) (put_in_register (with_native h n) d (Some (native (h.natives_made + 1)))).heap
    (HeldOr-with_native h n) (HeldOr-put_in_register (with_native h n) d (Some (native (h.natives_made + 1))))

-- a slot of a native written, which gives up what it held
pub HeldOr-put_in_slot : (more : List Name) (h : Heap) (d i : ℕ) (y : Option Name) → HasSlot h d i →
    ((x : Name) → is_script x ≡ true → Among x (option_to_list y) → Among x more) → HeldOr more h (put_in_slot h d i y).heap
HeldOr-put_in_slot more h d i y f listed =
    let written : Heap = change_native h f.number (with_native_slot i y) in
    subst (λ (o : Outcome). HeldOr more h o.heap) (sym (put_in_slot-written h d i y f))
    (HeldOr-then more h written (let_go written (slice_index_or f.there.slots i None)).heap
    (HeldOr-slot more h f.number i y listed) (HeldOr-let_go written (slice_index_or f.there.slots i None)))

-- Where it is

-- what a native of well formed heaps holds of script objects is there
pub held_by-there : (h : Heap) → IsWellFormed h → (n : HeapNative) (x : Name) → Among n h.natives → Among x (scripts_held_by n) → Among x (script_names h)
held_by-there h w n x i m =
    let c = held_by-cases n x m in
    ⊎_elim
    (λ s. ⊎_elim
    (λ l. let f = Among-map_cases (λ (k : HeapNative). native k.number) h.natives x l in absurd (false≢true (subst (λ z. is_script z ≡ true) (sym f.2) c.0)))
    (λ r. r)
    (Among-append x (native_names h) (script_names h) (w.native_contents n x i s)))
    (λ r. by_flag n.preserved (w.preserved n i) r)
    c.1
  where
    by_flag : (b : Bool) → (b ≡ true → Among (reflector n.number) (script_names h)) → Among x (option_to_list (where_set b (Some (reflector n.number)))) →
        Among x (script_names h)
    by_flag true f r = ⊎_elim (λ e. subst (λ z. Among z (script_names h)) e (f refl)) (λ t. absurd t) r
    by_flag false f r = absurd r

-- what natives hold of script objects is there
pub held-there : (h : Heap) → IsWellFormed h → (x : Name) → Among x (scripts_held h) → Among x (script_names h)
held-there h w x m = let f = Among-flat_map_cases scripts_held_by h.natives x m in held_by-there h w f.0 x f.1 f.2
