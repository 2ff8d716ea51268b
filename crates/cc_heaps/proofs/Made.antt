-- A NATIVE MADE at a key that held nothing: it stands last, in the buffer too, and the registers hold what they held.
use Rattle.cc_heaps.proofs.ReflectorLists.{reflectors-are, reflector_of}
use Rattle.cc_lists.proofs.Held.{map-replicate}
use Rattle.std.proofs.Common.{◌≡◌, ◌≢◌, ℕ, ◌+◌, ◌<◌, ◌≤◌, false, List, [], ◌∷◌, ◌++◌, map, length, get_or, Option, Some, None, option_map, refl, sym, ◌∙◌, ap, subst, ⊎_elim, arith}
use Rattle.std.specs.Option.{option_and_then}
use Rattle.std.proofs.Math.ListN.{get_or-map}
use Rattle.std.proofs.lemmas.Bool.Decides.{eqb_tells}
use Rattle.std.proofs.lemmas.List.{map-append}
use Rattle.std.proofs.lemmas.Simd.{map-map}
use Rattle.cc_lists.specs.Members.{Among}
use Rattle.cc_lists.proofs.ListWrites.{each-push}
use Rattle.cc_names.specs.declared.name.Name.{Name}
use Rattle.cc_names.specs.declared.number.NKey.{NKey}
use Rattle.cc_names.specs.Names.{native, reflector}
use Rattle.cc_names.specs.Sizes.{most_slots}
use Rattle.cc_model.specs.Slots.{contents}
use Rattle.cc_model.specs.Heap.{Heap, HeapNative, with_mark, new_native}
use Rattle.cc_model.specs.Effects.{put_in_register, with_native, make_native}
use Rattle.cc_laws_heap.proofs.Face.{contents-empty_none, named-member}
use Rattle.cc_counted.specs.Counts.{Counts, key_left}
use Rattle.cc_counted.specs.Counts as counts
use Rattle.cc_counted.specs.Owning.{HasKeys}
use Rattle.cc_script.specs.Objects.{Object, name_at}
use Rattle.cc_heaps.specs.declared.heaps.Heaps.TheInside.{Inside}
use Rattle.cc_heaps.specs.Keyed.{Keyed, IsInOrder, number_at, left_with, reflector_key, reflectors_by}
use Rattle.cc_heaps.specs.Changes.{KeepsKeys}
use Rattle.cc_heaps.specs.Named.{IsHeldThere, named, named_native}
use Rattle.cc_heaps.specs.Fields.{keyed_of, IsLinked}
use Rattle.cc_heaps.proofs.Fit.{IsFit}
use Rattle.cc_heaps.proofs.Keying.{counts-back}
use Rattle.cc_heaps.proofs.Keys.{HasKeys-numbers, counts_in, find-unnamed}
use Rattle.cc_heaps.proofs.LeftWith.{key_left-there}
use Rattle.cc_heaps.proofs.Naming.{name_in}
use Rattle.cc_heaps.proofs.Ordered.{IsInOrder-made}
use Rattle.cc_heaps.proofs.Registers.{AreLive-same, made-same, registers-same}

-- a native as it is made holds nothing that has a name
made-named : (objects : List Object) (number n : ℕ) → named_native objects (new_native number n) ≡ new_native number n
made-named objects number n = ap (λ ss. record (new_native number n) { slots = ss }) (map-replicate (name_in objects) n None)

module _ {owned : List ℕ} (p : Inside) (f : IsFit owned p) (next : Counts) (slots : ℕ) (key : NKey)
    (natives : next.natives ≡ p.counted.natives ++ new_native (p.natives_made + 1) slots ∷ [])
    (buffer : next.buffer ≡ with_mark false (p.natives_made + 1) p.counted.buffer)
    (others : (q : ℕ) → q ≢ key.0 → counts.number_at next q ≡ counts.number_at p.counted q)
    (vacant : counts.number_at p.counted key.0 ≡ None) where
  abbrev v : Keyed
  v = keyed_of p

  abbrev made : Inside
  made = record p { counted = next; natives_made = p.natives_made + 1 }

  abbrev old_keys : List (Option ℕ)
  old_keys = p.counted.keys

  same : map (named next.keys) p.native_registers.items ≡ map (named old_keys) p.native_registers.items
  same = registers-same old_keys next.keys p.native_registers.items
      (λ x m. made-same old_keys next.keys key.0 vacant others x (f.linked.native_registers x m))

  named-natives : map (named_native p.scripts) next.natives ≡ (with_native v.heap slots).natives
  named-natives =
      ap (map (named_native p.scripts)) natives
      ∙ (map-append (named_native p.scripts) p.counted.natives (new_native (p.natives_made + 1) slots ∷ [])
      ∙ ap (λ n. v.heap.natives ++ n ∷ []) (made-named p.scripts (p.natives_made + 1) slots))

  pub made-keyed : keyed_of made ≡ record v { heap = with_native v.heap slots; keys = next.keys; walks = next.walks }
  made-keyed = λ i. record {
    heap = record (with_native v.heap slots) { native_registers = same i; natives = named-natives i; buffer = buffer i };
    keys = next.keys;
    scripts = p.scripts;
    entries = p.weak;
    walks = next.walks;
    marking = p.to_scan.marking;
  }

  -- each native stays at its key
  pub made-kept : (q k : ℕ) → number_at v q ≡ Some k → number_at (keyed_of made) q ≡ Some k
  made-kept q k e = grind arith

  -- no reflector has the next number
  made-blank : reflector_key p.scripts (p.natives_made + 1) ≡ None
  made-blank = ap (option_map (λ (q : Object). q.key)) (find-unnamed v.heap p.scripts refl (reflector (p.natives_made + 1)) (λ there.
      let n = named-member v.heap (p.natives_made + 1) (f.order.sound.well_formed.reflected (p.natives_made + 1) there) in
      absurd (omega (arith, n.2, f.order.sound.well_formed.native_numbers n.0 n.1))))

  module _ (at : counts.number_at next key.0 ≡ Some (p.natives_made + 1))
      (none : counts.reflector_at next key.0 ≡ None)
      (other_reflectors : (q : ℕ) → q ≢ key.0 → counts.reflector_at next q ≡ counts.reflector_at p.counted q)
      (as_many : length next.reflectors ≡ length next.keys) where
    -- each native has its reflector still, and the new one has none
    made-reflectors : next.reflectors ≡ reflectors_by p.scripts next.keys
    made-reflectors = reflectors-are p.scripts next.keys next.reflectors as_many
        (λ q. ⊎_elim (λ t. subst (λ j. counts.reflector_at next j ≡ reflector_of p.scripts next.keys j) (sym t.1) here) (λ t. there q t.1) (eqb_tells q key.0))
      where
        its : Option ℕ → Option ℕ
        its o = option_and_then (reflector_key p.scripts) o

        here : counts.reflector_at next key.0 ≡ reflector_of p.scripts next.keys key.0
        here = none ∙ sym (ap its at ∙ made-blank)

        there : (q : ℕ) → q ≢ key.0 → counts.reflector_at next q ≡ reflector_of p.scripts next.keys q
        there q e = other_reflectors q e ∙ (ap (λ rs. get_or rs q None) f.linked.reflectors ∙ (get_or-map its p.counted.keys q None ∙ ap its (sym (others q e))))

    pub made-linked : IsLinked made
    made-linked = record {
      native_registers = AreLive-same old_keys next.keys p.native_registers.items
          (λ x m. made-same old_keys next.keys key.0 vacant others x (f.linked.native_registers x m)) f.linked.native_registers;
      script_registers = f.linked.script_registers;
      registers = f.linked.registers;
      held = λ n x m. subst (λ ns. (o : HeapNative) → Among o ns → Among x (contents o.slots) → IsHeldThere p.scripts x) (sym natives)
          (each-push (λ (o : HeapNative). Among x (contents o.slots) → IsHeldThere p.scripts x) p.counted.natives (new_native (p.natives_made + 1) slots)
          (λ o a. f.linked.held o x a) (λ a. absurd (contents-empty_none slots x a))) n m;
      one_key = f.linked.one_key;
      one_name = f.linked.one_name;
      reflectors = made-reflectors;
      script_names = f.linked.script_names;
      room = f.linked.room;
    }

    -- keys are those of what is there and of the new native
    made-keys : (HasKeys p.counted → HasKeys next) → HasKeys (counts_in (with_native v.heap slots) next.keys)
    made-keys keyed =
        subst (λ ns. HasKeys (record { natives = ns; buffer = (with_native v.heap slots).buffer; keys = next.keys; reflectors = []; walks = [] })) named-natives
        (HasKeys-numbers next (map (named_native p.scripts) next.natives) (with_native v.heap slots).buffer []
        (map-map (λ (n : HeapNative). n.number) (named_native p.scripts) next.natives) (keyed (subst HasKeys (counts-back p f.linked) f.order.keyed)))

    pub made-fit : slots ≤ most_slots → p.natives_made < p.limits.natives → (HasKeys p.counted → HasKeys next) → IsFit ((p.natives_made + 1) ∷ owned) made
    made-fit few room keyed = record {
      order = subst (IsInOrder ((p.natives_made + 1) ∷ owned)) (sym made-keyed) (IsInOrder-made v slots next.keys few room (made-keys keyed) made-kept f.order);
      linked = made-linked;
    }

-- In a register

make_native-is : (h : Heap) (d n : ℕ) → make_native h d n ≡ put_in_register (with_native h n) d (Some (native (h.natives_made + 1)))
unfolding make_native
make_native-is h d n = refl

pub made-is : (h mid : Heap) (x : Option Name) (r n : ℕ) → mid ≡ with_native h n → x ≡ Some (native (h.natives_made + 1)) → put_in_register mid r x ≡ make_native h r n
made-is h mid x r n e f = (λ i. put_in_register (e i) r (f i)) ∙ sym (make_native-is h r n)

-- what is there before and after has the same key
pub made-keeps : (v mid new : Keyed) (g : Heap) → new ≡ left_with mid g → mid.scripts ≡ v.scripts → ((q k : ℕ) → number_at v q ≡ Some k → number_at mid q ≡ Some k) → KeepsKeys v new
made-keeps v mid new g is scripts kept = subst (KeepsKeys v) (sym is) (record {
  natives = λ q k e m. get_or-map (key_left g) mid.keys q None ∙ (ap (key_left g) (kept q k e) ∙ key_left-there g k m);
  scripts = λ q x e m. ap (λ objects. name_at objects q) scripts ∙ e;
})
