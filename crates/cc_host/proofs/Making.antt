-- WHAT IS MADE stands in its register, and the host's own register stays empty.
use Rattle.std.proofs.Common.{◌≡◌, ◌≢◌, ◌⊎◌, ℕ, ◌+◌, ◌<◌, ◌≤◌, [], ◌∷◌, ◌++◌, length, get_or, Option, Some, None, refl, sym, ◌∙◌, ap, subst, inl, inr, ⊎_elim, arith}
use Rattle.std.proofs.lemmas.List.{get_or-set_same, get_or-set_other, map-append}
use Rattle.cc_lists.specs.Members.{Among}
use Rattle.std.specs.List.{flat_map}
use Rattle.cc_lists.proofs.Members.{Among-append, Among-flat_map_cases, Among-left, Among-right}
use Rattle.cc_names.specs.declared.name.Name.{Name}
use Rattle.cc_names.specs.declared.name.Name.TheVariants as name
use Rattle.cc_names.specs.declared.register.Reg.TheVariants.{N}
use Rattle.cc_names.specs.Names.{native}
use Rattle.cc_names.specs.Sizes.{bank_length, most_slots}
use Rattle.cc_model.specs.Effects.{make_native, make_proxy, with_native}
use Rattle.cc_model.specs.Heap.{Heap, HeapNative, register, set_register, native_to_make}
use Rattle.cc_model.specs.Cascade.{let_go}
use Rattle.cc_model.specs.View.{view, ReachedIn, native_edges, script_edges}
use Rattle.cc_model.specs.Slots.{contents}
use Rattle.cc_model.specs.WellFormed.{IsWellFormed, native_names, names_there, script_names}
use Rattle.cc_laws_heap.specs.Sound.{IsSound}
use Rattle.cc_laws_heap.proofs.Face.{let_go-frees}
use Rattle.cc_laws_snapshot.proofs.Face.{native-edge, reached-kept, script-edge}
use Rattle.cc_heaps.specs.Standing.{IsReached}
use Rattle.cc_host.proofs.Spare.{contents-kept}
use Rattle.cc_heaps.proofs.Leaving.{let_go-none_came, made-sound, put}
use Rattle.cc_mutator.proofs.Carrying.{room-left}

-- A NATIVE MADE
module _ (h k : Heap) (r slots : ℕ) (room : r < bank_length) (few : slots ≤ most_slots) (none : ¬ (h.limits.natives ≤ h.natives_made)) (sound : IsSound [] h)
    (is : k ≡ (make_native h r slots).heap) where
  -- there was room
  allowed : h.natives_made < h.limits.natives
  allowed = room-left h.limits.natives h.natives_made none

  -- the register is there
  place : r < length h.native_registers
  place = omega (arith, room, sound.well_formed.registers.0.enough)

  -- the register holds it, and the others stay
  registers : k.native_registers ≡ (put [] h k r slots place few allowed sound).native_registers
  unfolding make_native
  registers = ap (λ (l : Heap). l.native_registers) is ∙ (let_go-frees [] (put [] h k r slots place few allowed sound) (register (with_native h slots) (N r)) (made-sound [] h k r slots place few allowed sound)).1.beside.native_registers

  pub native-held : register k (N r) ≡ Some (native (h.natives_made + 1))
  native-held = ap (λ rs. get_or rs r None) registers ∙ get_or-set_same h.native_registers r (Some (native (h.natives_made + 1))) None place

  pub native-beside : (s : ℕ) → s ≢ r → register k (N s) ≡ register h (N s)
  native-beside s apart = ap (λ rs. get_or rs s None) registers ∙ get_or-set_other h.native_registers r s (Some (native (h.natives_made + 1))) None apart

  -- nothing else comes
  pub native-came : (x : Name) → Among x (names_there k) → Among x (names_there h) ⊎ (x ≡ native (h.natives_made + 1))
  unfolding make_native
  native-came x m =
      let put_in = put [] h k r slots place few allowed sound in
      let given_up = register (with_native h slots) (N r) in
      let f = let_go-frees [] put_in given_up (made-sound [] h k r slots place few allowed sound) in
      let named : native_names put_in ≡ native_names h ++ native (h.natives_made + 1) ∷ [] =
      map-append (λ (n : HeapNative). native n.number) h.natives (native_to_make h slots ∷ []) in
      ⊎_elim
      (λ l. ⊎_elim
      (λ old. inl (Among-left x (native_names h) (script_names h) old))
      (λ new. ⊎_elim (λ e. inr (sym e)) (λ n. absurd n) new)
      (Among-append x (native_names h) (native (h.natives_made + 1) ∷ []) (subst (Among x) named l)))
      (λ s. inl (Among-right x (native_names h) (script_names h) s))
      (Among-append x (native_names put_in) (script_names put_in) (let_go-none_came put_in given_up f.0 f.1 x (subst (λ (l : Heap). Among x (names_there l)) is m)))

-- WHERE ITS REGISTER HELD NOTHING what is reached stays so.
native-reaches_one : (h k : Heap) (r slots : ℕ) → register h (N r) ≡ None → IsWellFormed k → k ≡ (make_native h r slots).heap → (x : Name) → ReachedIn (view h) x →
    ReachedIn (view k) x
unfolding make_native
native-reaches_one h k r slots empty w is x d = subst (λ g. ReachedIn (view g) x) (sym now) (reached-kept h made (subst IsWellFormed now w) (record {
  registers = λ y m. ⊎_elim
      (λ l. Among-left y (contents made.native_registers) (contents made.script_registers) (contents-kept h.native_registers r (Some (native (h.natives_made + 1))) empty y l))
      (λ s. Among-right y (contents made.native_registers) (contents made.script_registers) s)
      (Among-append y (contents h.native_registers) (contents h.script_registers) m);
  edges = λ y z e i m. ⊎_elim
      (λ l. let f = Among-flat_map_cases native_edges h.natives (y, z) l in native-edge made f.0 y z (Among-left f.0 h.natives (one ∷ []) f.1) f.2)
      (λ s. let f = Among-flat_map_cases script_edges h.scripts (y, z) s in script-edge made f.0 y z f.1 f.2)
      (Among-append (y, z) (flat_map native_edges h.natives) (flat_map script_edges h.scripts) m);
  joints = λ j m i l. m;
}) x d)
  where
    one : HeapNative
    one = native_to_make h slots

    made : Heap
    made = set_register (with_native h slots) (N r) (Some (native (h.natives_made + 1)))

    now : k ≡ made
    now = is ∙ ap (λ o. (let_go made o).heap) empty

pub native-reaches : (h k : Heap) (r slots : ℕ) → register h (N r) ≡ None → IsWellFormed k → k ≡ (make_native h r slots).heap → (x : Option Name) → IsReached h x → IsReached k x
native-reaches h k r slots empty w is None d = tt
native-reaches h k r slots empty w is (Some x) d = native-reaches_one h k r slots empty w is x d

-- A PROXY MADE leaves native registers.
pub proxy-beside : (h : Heap) (r : ℕ) (x : Option Name) (s : ℕ) → register (make_proxy h r x) (N s) ≡ register h (N s)
proxy-beside h r None s = refl
proxy-beside h r (Some (name.Native k)) s = refl
proxy-beside h r (Some (name.Script k)) s = refl
proxy-beside h r (Some (name.Reflector k)) s = refl
