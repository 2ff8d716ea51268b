-- A NATIVE IS WRAPPED while it is held: natives are as they were, and script objects stay.
use Rattle.std.proofs.Common.{◌≡◌, ℕ, ◌+◌, Bool, true, false, List, [], ◌∷◌, map, Some, None, Result, Ok, Err, OnOk, OnErr, refl, sym, ◌∙◌, ap, subst, ⊎_elim}
use Rattle.std.proofs.lemmas.List.{map-append}
use Rattle.cc_lists.specs.Members.{Among}
use Rattle.cc_lists.proofs.Members.{Among-left, Among-right, Among-append}
use Rattle.cc_names.specs.declared.name.Name.{Name}
use Rattle.cc_names.specs.declared.number.NKey.{NKey}
use Rattle.cc_names.specs.declared.register.Reg.TheVariants.{N}
use Rattle.cc_names.specs.declared.number.SKey.{SKey}
use Rattle.cc_names.specs.declared.no_memory.NoMemory.{NoMemory}
use Rattle.cc_names.specs.declared.kind.Kind.TheVariants.{Reflector}
use Rattle.cc_names.specs.Names.{native, reflector}
use Rattle.cc_model.specs.Slots.{reflector_slots}
use Rattle.cc_model.specs.Heap.{Heap, HeapNative, HeapScript, has_reflector, new_script, set_register}
use Rattle.cc_model.specs.Cascade.{take_up}
use Rattle.cc_model.specs.Effects.{with_script, wrapped}
use Rattle.cc_model.specs.WellFormed.{IsWellFormed, native_names, script_names, names_there}
use Rattle.cc_laws_heap.proofs.Face.{HoldsTheSame-take_up, native-there, native_names-change, script_names-exposed}
use Rattle.cc_heaps.specs.Keyed.{Keyed, IsInOrder, the_number}
use Rattle.cc_heaps.specs.Changes.{native_name}
use Rattle.cc_heaps.specs.Leaving.{NothingLeft}
use Rattle.cc_heaps.proofs.ReflectingMade.{wrapped_by}
use Rattle.cc_host.specs.Hosted.{spare}
use Rattle.cc_host.proofs.Exposed.{exposed-rest}

-- natives are as they were, and script objects stay
record Grows (h k : Heap) : Type 0 where
  natives : native_names k ≡ native_names h
  scripts : (x : Name) → Among x (script_names h) → Among x (script_names k)

grows-wrapped : (h : Heap) (k : ℕ) → IsWellFormed h → Grows h (wrapped h (Some (native k)))
grows-wrapped h k w = go (has_reflector h k)
  where
    one : HeapScript
    one = new_script (reflector k) Reflector reflector_slots None

    go : (b : Bool) → Grows h (wrapped_by h k b)
    go true = record {
      natives = ap (λ (g : Heap). map (λ (n : HeapNative). native n.number) g.natives) (exposed-rest h (Some (reflector k)));
      scripts = λ x m. subst (Among x) (sym (script_names-exposed h (Some (reflector k)) w)) m;
    }
    go false = record {
      natives = native_names-change (with_script h (reflector k) Reflector reflector_slots None) k (λ n. record n { count = n.count + 1 }) (λ n. refl);
      scripts = λ x m. subst (Among x) (sym (map-append (λ (p : HeapScript). p.name) h.scripts (one ∷ []))) (Among-left x (script_names h) (reflector k ∷ []) m);
    }

-- wrapped, or not for want of memory
module _ (v w : Keyed) (k : ℕ) (result : Result SKey NoMemory) (early : IsInOrder [] v) (late : IsInOrder [] w) (ok : OnOk result (w.heap ≡ wrapped v.heap (Some (native k))))
    (err : OnErr result (w ≡ v)) where
  grows : Grows v.heap w.heap
  grows = go result ok err
    where
      go : (r : Result SKey NoMemory) → OnOk r (w.heap ≡ wrapped v.heap (Some (native k))) → OnErr r (w ≡ v) → Grows v.heap w.heap
      go (Ok made) e f = subst (Grows v.heap) (sym e) (grows-wrapped v.heap k early.sound.well_formed)
      go (Err stop) e f = subst (λ (u : Keyed). Grows v.heap u.heap) (sym f) (record { natives = refl; scripts = λ x m. m })

  pub wrapped-none_left : NothingLeft v.heap w.heap
  wrapped-none_left x i = ⊎_elim
      (λ l. Among-left x (native_names w.heap) (script_names w.heap) (subst (Among x) (sym grows.natives) l))
      (λ r. Among-right x (native_names w.heap) (script_names w.heap) (grows.scripts x r))
      (Among-append x (native_names v.heap) (script_names v.heap) i)

  -- no native came
  pub wrapped-natives : (j : ℕ) → Among (native j) (names_there w.heap) → Among (native j) (names_there v.heap)
  wrapped-natives j m = Among-left (native j) (native_names v.heap) (script_names v.heap) (subst (Among (native j)) grows.natives (native-there w.heap j late.sound.well_formed m))

-- what lacks a reflector while it is held lacked one before
pub held-lacks : (v w : Keyed) → w.keys ≡ v.keys → (key : NKey) → w.heap ≡ set_register (take_up v.heap (native_name v (Some key))) (N spare) (native_name v (Some key)) →
    has_reflector w.heap (the_number w key.0) ≡ false → has_reflector v.heap (the_number v key.0) ≡ false
held-lacks v w keys key is lacks =
    let x = native_name v (Some key) in
    let scripts : w.heap.scripts ≡ v.heap.scripts = ap (λ (h : Heap). h.scripts) is ∙ (HoldsTheSame-take_up v.heap x).beside.scripts in
    let number : the_number w key.0 ≡ the_number v key.0 = ap (λ ks. the_number (record v { keys = ks }) key.0) keys in
    let alike : has_reflector w.heap (the_number w key.0) ≡ has_reflector v.heap (the_number w key.0) =
    ap (λ (os : List HeapScript). has_reflector (record v.heap { scripts = os }) (the_number w key.0)) scripts in
    sym (ap (has_reflector v.heap) number) ∙ (sym alike ∙ lacks)
