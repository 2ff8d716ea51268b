-- THE END OF A COLLECTION TELLS FEW ITEMS: each native that leaves, and each that is unlinked.
use Rattle.std.proofs.Common.{◌≡◌, ℕ, ◌+◌, ◌≤◌, List, [], ◌∷◌, length, map, not, refl, sym, ◌∙◌, ap, inl, inr, arith, ◌==◌}
use Rattle.std.specs.List.{filter}
use Rattle.std.proofs.lemmas.List.{length-map}
use Rattle.cc_lists.specs.Members.{Among, has}
use Rattle.cc_lists.proofs.Members.{Among-map_cases, Among-map}
use Rattle.cc_lists.proofs.Numbers.{number-exact}
use Rattle.cc_names.specs.Names.{native}
use Rattle.cc_model.specs.declared.item.Event.{Event}
use Rattle.cc_model.specs.declared.item.Event.TheVariants.{Unlinked, Freed, Abandoned}
use Rattle.cc_model.specs.Heap.{Heap, Outcome}
use Rattle.cc_model.specs.Snapshot.{Snapshot, white_natives}
use Rattle.cc_model.specs.End.{take_away}
use Rattle.cc_model.specs.Lawful.{unlinked_numbers}
use Rattle.cc_model.specs.WellFormed.{native_names}
use Rattle.cc_laws_heap.specs.Sound.{IsSound}
use Rattle.cc_laws_heap.specs.Ending.{freed_numbers, NamesNative, TakesAway}
use Rattle.cc_laws_heap.proofs.TakingAway.{take_away-sound, take_away-takes}
use Rattle.cc_laws_snapshot.proofs.WhiteNatives.{white_natives-there}
use Rattle.cc_laws_told.proofs.Counted.{length-part_le, taken-few}
use Rattle.cc_laws_told.proofs.Few.{IsFew, IsFew-more}

-- events that name natives are as many as the numbers that they tell
natives-told : (es : List Event) → ((e : Event) → Among e es → NamesNative e) → length es ≡ length (unlinked_numbers es) + length (freed_numbers es)
natives-told [] n = refl
natives-told (Freed x ∷ es) n = let k = n (Freed x) (inl refl) in rw k.1 (omega (arith, natives-told es (λ e m. n e (inr m))))
natives-told (Unlinked x ∷ es) n = let k = n (Unlinked x) (inl refl) in rw k.1 (omega (arith, natives-told es (λ e m. n e (inr m))))
natives-told (Abandoned ∷ es) n = absurd (n Abandoned (inl refl))

-- a native that is there by its name is there by its number
number-there : (h : Heap) (k : ℕ) → Among (native k) (native_names h) → Among k (map (λ n. n.number) h.natives)
number-there h k m = grind (arith, Among-map_cases, Among-map)

-- natives that are taken away tell few items
taken-tells : (h : Heap) (ks freed : List ℕ) (o : Outcome) → TakesAway h ks freed o → IsSound [] o.heap → IsFew (length ks) h o.events o.heap
taken-tells h ks freed o t s = record {
  told = omega (arith, all, few, alike);
  natives = omega (arith, few);
  scripts = omega (arith, alike);
  sound = s;
}
  where
    all : length o.events ≡ length ks + length freed
    all = natives-told o.events t.natives_alone ∙ (ap (λ us. length us + length (freed_numbers o.events)) t.unlinked ∙ ap (λ fs. length ks + length fs) t.told)

    left : length o.heap.natives ≡ length (filter (λ k. not (has ◌==◌ freed k)) (map (λ n. n.number) h.natives))
    left = sym (length-map o.heap.natives (λ n. n.number)) ∙ ap length t.natives

    few : length freed + length o.heap.natives ≤ length h.natives
    few = omega (
      arith,
      left,
      length-map h.natives (λ n. n.number),
      taken-few ◌==◌ number-exact freed (map (λ n. n.number) h.natives) t.once (λ k m. number-there h k (t.were_there k m)),
    )

    alike : length o.heap.scripts ≡ length h.scripts
    alike = ap length t.scripts

-- no more natives are white than there are
white-few : (h : Heap) (s : Snapshot) → length (white_natives h s) ≤ length h.natives
unfolding white_natives
white-few h s = length-part_le (λ n. n.number) _ h.natives

-- AN END TELLS each native once at most besides those that leave.
pub end-tells : (h : Heap) (s : Snapshot) → IsSound [] h →
    IsFew (length h.natives) h (take_away (white_natives h s) h).events (take_away (white_natives h s) h).heap
end-tells h s sound =
    let there = (white_natives-there h s sound).there in
    let t = take_away-takes h (white_natives h s) sound there in
    IsFew-more (length (white_natives h s)) (length h.natives) h (take_away (white_natives h s) h).heap (take_away (white_natives h s) h).events (white-few h s)
    (taken-tells h (white_natives h s) t.0 (take_away (white_natives h s) h) t.1 (take_away-sound h (white_natives h s) sound there))
