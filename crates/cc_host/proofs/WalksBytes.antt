-- THE BYTES OF ALL OBJECTS, one after the other.
use Rattle.std.proofs.Common.{◌≡◌, ℕ, ◌+◌, ◌*◌, ◌≤◌, ◌==◌, [], List, ◌∷◌, length, map, option_map, refl, sym, ◌∙◌, ap, inl, inr, arith}
use Rattle.std.specs.Prelude.{option_and_then, sum_by}
use Rattle.std.proofs.lemmas.List.{length-map}
use Rattle.std.proofs.lemmas.List.Sums.{sum_by-cons}
use Rattle.cc_lists.specs.Members.{Among}
use Rattle.cc_lists.proofs.Searching.{find-map}
use Rattle.cc_names.specs.declared.name.Name.{Name}
use Rattle.cc_names.specs.declared.name.Name.TheVariants as name
use Rattle.cc_names.specs.declared.kind.Kind.{Kind}
use Rattle.cc_names.specs.declared.kind.Kind.TheVariants.{Plain, Reflector, Map, Proxy}
use Rattle.cc_names.specs.declared.number.NKey.{NKey}
use Rattle.cc_model.specs.Slots.{Slots}
use Rattle.cc_model.specs.Heap.{HeapNative, HeapScript, native_at}
use Rattle.cc_model.specs.WellFormed.{FitsName}
use Rattle.cc_counted.specs.Counts.{Counts}
use Rattle.cc_counted.specs.Counts as counts
use Rattle.cc_script.specs.Objects.{Object}
use Rattle.cc_heaps.specs.Keyed.{Keyed, IsInOrder, counts_of, keyed_name, keyed_native, name_held, named_object}
use Rattle.cc_heaps.proofs.Limited.{natives-limited, scripts-limited}
use Rattle.cc_host.specs.Walks.{bytes_of_native, bytes_of_script}
use Rattle.cc_host.proofs.WalksNatives.{IsNativeAt}
use Rattle.cc_host.specs.declared.runtime.walking.TheConstants.{SCRIPT_BYTES, SLOT_BYTES}

-- a script object by its key
abbrev pub bytes_of_object : Object → ℕ
bytes_of_object o = SCRIPT_BYTES + SLOT_BYTES * length o.slots

-- by names it has as many
pub bytes-named : (all : List Object) (os : List Object) → sum_by bytes_of_script (map (named_object all) os) ≡ sum_by bytes_of_object os
bytes-named all [] = refl
bytes-named all (o ∷ os) =
    sum_by-cons bytes_of_script (named_object all o) (map (named_object all) os)
    ∙ ((λ i. (SCRIPT_BYTES + SLOT_BYTES * length-map o.slots (name_held all) i) + bytes-named all os i)
    ∙ sym (sum_by-cons bytes_of_object o os))

-- Natives have 256 slots at most,
natives-few : (ns : List HeapNative) → ((n : HeapNative) → Among n ns → length n.slots ≤ 256) → sum_by bytes_of_native ns ≤ 2320 * length ns
natives-few [] few = omega arith
natives-few (n ∷ ns) few =
    omega (arith, sum_by-cons bytes_of_native n ns, few n (inl refl), natives-few ns (λ m i. few m (inr i)))

-- and so have script objects,
slots-few : (x : Name) (kind : Kind) (slots : Slots) → FitsName x kind slots → length slots ≤ 256
slots-few (name.Native k) kind slots fits = absurd fits
slots-few (name.Script k) Plain slots fits = fits
slots-few (name.Script k) Map slots fits = omega (arith, ap length fits)
slots-few (name.Script k) Proxy slots fits = omega (arith, ap length fits)
slots-few (name.Script k) Reflector slots fits = absurd fits
slots-few (name.Reflector k) Reflector slots fits = omega (arith, fits)
slots-few (name.Reflector k) Plain slots fits = absurd fits
slots-few (name.Reflector k) Map slots fits = absurd fits
slots-few (name.Reflector k) Proxy slots fits = absurd fits

scripts-few : (os : List HeapScript) → ((o : HeapScript) → Among o os → length o.slots ≤ 256) → sum_by bytes_of_script os ≤ 2302 * length os
scripts-few [] few = omega arith
scripts-few (o ∷ os) few =
    omega (arith, sum_by-cons bytes_of_script o os, few o (inl refl), scripts-few os (λ p i. few p (inr i)))

module _ (v : Keyed) (o : IsInOrder [] v) where
  -- so the sums are far from what fits.
  pub natives-bounded : sum_by bytes_of_native v.heap.natives ≤ 2320000000
  natives-bounded = omega (arith, natives-few v.heap.natives (λ n m. o.sound.well_formed.native_slots n m), natives-limited [] v o)

  pub scripts-bounded : sum_by bytes_of_script v.heap.scripts ≤ 4604000000
  scripts-bounded = omega (
    arith,
    scripts-few v.heap.scripts (λ s m. slots-few s.name s.kind s.slots (o.sound.well_formed.kinds s m)),
    scripts-limited [] v o,
    length-map v.heap.scripts (λ (s : HeapScript). s.name),
  )

  pub scripts-summed : sum_by bytes_of_script v.heap.scripts ≡ sum_by bytes_of_object v.scripts
  scripts-summed = ap (sum_by bytes_of_script) o.named ∙ bytes-named v.scripts v.scripts

  -- a native has as many slots by its key as by its number
  pub native_slots : (key : NKey) (n : HeapNative) → IsNativeAt v key n → (c : Counts) → c ≡ counts_of v → length (counts.slots_of c key.0) ≡ length n.slots
  native_slots key n a c is =
      ap (λ (d : Counts). length (counts.slots_of d key.0)) is
      ∙ (ap (λ k. length (counts.slots_at (native_at (counts.heap_of (counts_of v)) (counts.number_or_none k)))) a.here
      ∙ (ap (λ k. length (counts.slots_at k)) (find-map (λ (m : HeapNative). m.number == n.number) (keyed_native v.scripts) v.heap.natives)
      ∙ (ap (λ k. length (counts.slots_at (option_map (keyed_native v.scripts) k))) a.found
      ∙ length-map n.slots (λ x. option_and_then (keyed_name v.scripts) x))))
