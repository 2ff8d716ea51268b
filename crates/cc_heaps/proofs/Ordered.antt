-- HEAPS WITH KEYS STAY IN ORDER as references are taken and given up, slots of natives and native registers are written, and
-- the buffer changes: script objects stay as they are.
use Rattle.std.proofs.Common.{◌≡◌, ℕ, ◌+◌, ◌<◌, ◌≤◌, ◌==◌, Bool, true, List, [], ◌∷◌, ◌++◌, map, length, get_or, Option, Some, None, refl, sym, ◌∙◌, subst, ⊎_elim, inl, inr, arith, count_by}
use Rattle.cc_lists.specs.Members.{Among}
use Rattle.cc_lists.proofs.Counting.{count_by-cons}
use Rattle.cc_names.specs.declared.name.Name.{Name}
use Rattle.cc_names.specs.declared.register.Reg.TheVariants.{N}
use Rattle.cc_names.specs.Names.{native, reflector}
use Rattle.cc_names.specs.Sizes.{most_slots}
use Rattle.cc_model.specs.Heap.{Heap, HeapNative, Buffered, native_at, register, set_register, set_preserved, set_slot, change_native, with_native_slot, with_mark}
use Rattle.cc_model.specs.Cascade.{add_ref, cascade}
use Rattle.cc_model.specs.Effects.{with_native}
use Rattle.cc_model.specs.End.{unlink}
use Rattle.cc_model.specs.WellFormed.{IsWellFormed, native_names, names_there, script_names}
use Rattle.cc_laws_heap.specs.Sound.{IsSound, numbers_of}
use Rattle.cc_laws_heap.specs.Freeing.{SameBeside}
use Rattle.cc_laws_heap.proofs.Face.{IsBuffer, IsIn, IsWellFormed-buffer, Leave, Leave-before, Leave-frees, add_ref-sound, cascade-frees, cascade-sound, native_register-sound, native_slot-sound, places-with_mark, set_preserved-sound, unlink-keeps, with_buffer, with_mark-cases, with_native-sound}
use Rattle.cc_counted.specs.Counts.{key_left}
use Rattle.cc_counted.specs.Owning.{HasKeys}
use Rattle.cc_heaps.specs.Keyed.{Keyed, IsInOrder, changed_to, left_with, number_at}
use Rattle.cc_names.specs.declared.kind.Walked.{Walked}
use Rattle.cc_heaps.proofs.Keys.{AreReflecting, AreReflecting-left, Reflects-kept, counts_in, numbers_of_natives, HasKeys-numbers, HasKeys-keyed, HasKeys-names, HasKeys-left, numbers-changed}

-- all but natives, their registers and the buffer stays
pub record KeepsRest (h g : Heap) : Type 0 where
  pub limits : g.limits ≡ h.limits
  pub scripts : g.scripts ≡ h.scripts
  pub entries : g.entries ≡ h.entries

KeepsRest-beside : (h g : Heap) → SameBeside h g → KeepsRest h g
KeepsRest-beside h g b = record { limits = b.limits; scripts = b.scripts; entries = b.entries }

module _ (owned late : List ℕ) (v : Keyed) (o : IsInOrder owned v) (g : Heap) (rest : KeepsRest v.heap g) (sound : IsSound late g) where
  -- heaps with other keys
  pub IsInOrder-keyed : {walks : List Walked} (keys : List (Option ℕ)) → HasKeys (counts_in g keys) → AreReflecting (record v { heap = g; keys = keys; walks = walks }) →
      IsInOrder late (record v { heap = g; keys = keys; walks = walks })
  IsInOrder-keyed keys k reflecting = record {
    sound = sound;
    keyed = HasKeys-keyed v g keys k;
    named = rest.scripts ∙ o.named;
    one_key = o.one_key;
    whole = o.whole;
    reflecting = reflecting;
    limits = subst (λ l. (l.natives ≤ 1000000) × (l.scripts ≤ 1000000)) (sym rest.limits) o.limits;
    entries = rest.entries ∙ o.entries;
    entries_there = o.entries_there;
  }

  -- heaps of the same natives
  pub IsInOrder-changed : numbers_of_natives g.natives ≡ numbers_of_natives v.heap.natives → IsInOrder late (changed_to v g)
  IsInOrder-changed numbers =
      IsInOrder-keyed v.keys (HasKeys-numbers (counts_in v.heap v.keys) g.natives g.buffer [] numbers (HasKeys-names v o.keyed))
      (λ q m. Reflects-kept v (changed_to v g) q.name q.native (λ key k is at. at) (o.reflecting q m))

  -- heaps that natives left
  pub IsInOrder-left : ((k : ℕ) → Among (native k) (native_names g) → Among (native k) (native_names v.heap)) → IsInOrder late (left_with v g)
  IsInOrder-left before =
      IsInOrder-keyed (map (key_left g) v.keys)
      (HasKeys-left (counts_in v.heap v.keys) g [] sound.well_formed before (HasKeys-names v o.keyed))
      (AreReflecting-left v g (rest.scripts ∙ o.named) sound.well_formed o.reflecting)

-- other natives and another buffer alone
IsInOrder-with : (owned late : List ℕ) (v : Keyed) → IsInOrder owned v → (ns : List HeapNative) (bs : List Buffered) → IsSound late (record v.heap { natives = ns; buffer = bs }) →
    numbers_of_natives ns ≡ numbers_of_natives v.heap.natives → IsInOrder late (changed_to v (record v.heap { natives = ns; buffer = bs }))
IsInOrder-with owned late v o ns bs s numbers = search IsInOrder-changed

-- what a step of Leave comes to
IsInOrder-leave : (owned late freed : List ℕ) (v : Keyed) (g : Heap) → IsInOrder owned v → Leave v.heap freed g → IsSound late g →
    IsInOrder late (left_with v g)
IsInOrder-leave owned late freed v g o l s = IsInOrder-left owned late v o g (KeepsRest-beside v.heap g l.beside) s (Leave-before v.heap freed g l)

-- one more reference taken
pub IsInOrder-add_ref : (owned : List ℕ) (v : Keyed) (k : ℕ) → Among (native k) (native_names v.heap) → IsInOrder owned v →
    IsInOrder (k ∷ owned) (changed_to v (add_ref v.heap k))
IsInOrder-add_ref owned v k there o = search (IsInOrder-with, add_ref-sound, numbers-changed)

-- one given up
pub IsInOrder-cascade : (owned : List ℕ) (v : Keyed) (k : ℕ) → IsInOrder (k ∷ owned) v → IsInOrder owned (left_with v (cascade v.heap k).heap)
IsInOrder-cascade owned v k o =
    let f = cascade-frees owned v.heap k o.sound in
    IsInOrder-leave (k ∷ owned) owned f.0 v (cascade v.heap k).heap o (Leave-frees v.heap f.0 (cascade v.heap k) f.1)
    (cascade-sound owned v.heap k o.sound)

-- a native that is owned unlinked
pub IsInOrder-unlink : (owned : List ℕ) (v : Keyed) (k : ℕ) → IsInOrder (k ∷ owned) v → IsInOrder (k ∷ owned) (left_with v (unlink v.heap k).heap)
IsInOrder-unlink owned v k o =
    let f = unlink-keeps (k ∷ owned) v.heap k o.sound (inl refl) in
    IsInOrder-leave (k ∷ owned) (k ∷ owned) f.0 v (unlink v.heap k).heap o f.2.leaves f.1

-- counts do not read the buffer
IsInOrder-buffer : (owned : List ℕ) (v : Keyed) (bs : List Buffered) → IsBuffer v.heap bs → IsInOrder owned v → IsInOrder owned (changed_to v (with_buffer v.heap bs))
IsInOrder-buffer owned v bs b o = grind (arith, IsInOrder-with, IsWellFormed-buffer)

-- a native that is suspected, or touched
pub IsInOrder-marked : (owned : List ℕ) (v : Keyed) (purple : Bool) (k : ℕ) → Among (native k) (native_names v.heap) → IsInOrder owned v →
    IsInOrder owned (changed_to v (with_buffer v.heap (with_mark purple k v.heap.buffer)))
IsInOrder-marked owned v purple k there o =
    let w : IsWellFormed v.heap = o.sound.well_formed in
    IsInOrder-buffer owned v (with_mark purple k v.heap.buffer)
    (record {
      there = λ b i. ⊎_elim (λ e. subst (λ j. Among (native j) (native_names v.heap)) (sym e) there) (λ t. w.buffered b t) (with_mark-cases purple k v.heap.buffer b i);
      once = places-with_mark purple k v.heap.buffer w.buffered_once;
    })
    o

-- the front of the buffer taken out
pub IsInOrder-tail : (owned : List ℕ) (v : Keyed) (b : Buffered) (bs : List Buffered) → v.heap.buffer ≡ b ∷ bs → IsInOrder owned v →
    IsInOrder owned (changed_to v (with_buffer v.heap bs))
IsInOrder-tail owned v b bs e o =
    let w : IsWellFormed v.heap = o.sound.well_formed in
    IsInOrder-buffer owned v bs
    (record {
      there = λ c i. w.buffered c (subst (λ cs. Among c cs) (sym e) (inr i));
      once = λ k. omega (arith, count_by-cons (λ (c : Buffered). c.number == k) b bs, subst (λ cs. count_by (λ (c : Buffered). c.number == k) cs ≤ 1) e (w.buffered_once k));
    })
    o

-- a register written, whose new reference is owned: what it held is owned
pub IsInOrder-register : (owned : List ℕ) (v : Keyed) (r : ℕ) (x : Option Name) → r < length v.heap.native_registers → IsIn (native_names v.heap) x → IsInOrder (numbers_of x ++ owned) v →
    IsInOrder (numbers_of (register v.heap (N r)) ++ owned) (changed_to v (set_register v.heap (N r) x))
IsInOrder-register owned v r x within there o = search (IsInOrder-changed, native_register-sound)

-- slot i of native k written, whose new reference is owned: what it held is owned
pub IsInOrder-slot : (owned : List ℕ) (v : Keyed) (k i : ℕ) (n : HeapNative) (x : Option Name) → native_at v.heap k ≡ Some n → i < length n.slots → IsIn (names_there v.heap) x →
    IsInOrder (numbers_of x ++ owned) v → IsInOrder (numbers_of (get_or n.slots i None) ++ owned) (changed_to v (set_slot v.heap (Some (native k)) i x))
IsInOrder-slot owned v k i n x found room there o =
    IsInOrder-with (numbers_of x ++ owned) (numbers_of (get_or n.slots i None) ++ owned) v o (change_native v.heap k (with_native_slot i x)).natives v.heap.buffer
    (native_slot-sound owned v.heap k i n x found room there o.sound)
    (numbers-changed v.heap k (with_native_slot i x) (λ m. refl))

-- a reflector that is there is preserved
pub IsInOrder-preserved : (owned : List ℕ) (v : Keyed) (k : ℕ) → Among (reflector k) (script_names v.heap) → IsInOrder owned v →
    IsInOrder owned (changed_to v (set_preserved v.heap k true))
IsInOrder-preserved owned v k there o =
    IsInOrder-with owned owned v o (set_preserved v.heap k true).natives v.heap.buffer
    (set_preserved-sound owned v.heap k there o.sound)
    (numbers-changed v.heap k (λ n. record n { preserved = true }) (λ n. refl))

-- a native made, with a key of its own: it is owned
pub IsInOrder-made : {owned : List ℕ} {walks : List Walked} (v : Keyed) (n : ℕ) (keys : List (Option ℕ)) → n ≤ most_slots → v.heap.natives_made < v.heap.limits.natives →
    HasKeys (counts_in (with_native v.heap n) keys) → ((q k : ℕ) → number_at v q ≡ Some k → get_or keys q None ≡ Some k) → IsInOrder owned v →
    IsInOrder ((v.heap.natives_made + 1) ∷ owned) (record v { heap = with_native v.heap n; keys = keys; walks = walks })
IsInOrder-made {owned} {walks} v n keys few room k kept o =
    IsInOrder-keyed owned ((v.heap.natives_made + 1) ∷ owned) v o (with_native v.heap n)
    (record { limits = refl; scripts = refl; entries = refl })
    (with_native-sound owned v.heap n o.sound few room) keys k
    (λ q m. Reflects-kept v (record v { heap = with_native v.heap n; keys = keys; walks = walks }) q.name q.native (λ key j is at. kept key j at) (o.reflecting q m))
