-- A NATIVE IS EMPTIED slot by slot: it stays while it is owned, and its slots that were not emptied yet are as they were.
use Rattle.std.proofs.Common.{◌≡◌, ℕ, zero, suc, ◌<◌, List, [], ◌∷◌, ◌++◌, length, set, get_or, Option, Some, None, refl, sym, ◌∙◌, ap, subst, arith}
use Rattle.std.proofs.lemmas.Grind.{flat_map-append}
use Rattle.cc_lists.specs.Members.{Among}
use Rattle.cc_names.specs.declared.name.Name.{Name}
use Rattle.cc_names.specs.declared.name.Name.TheVariants as name
use Rattle.cc_names.specs.Names.{native}
use Rattle.cc_model.specs.Slots.{Slots, empty_slots}
use Rattle.cc_model.specs.Heap.{Heap, HeapNative, Outcome, silently, after, native_at, change_native, with_native_slot}
use Rattle.cc_model.specs.Cascade.{let_go}
use Rattle.cc_model.specs.End.{empty_slot, empty_each}
use Rattle.cc_model.specs.Lawful.{unlinked_in, unlinked_numbers}
use Rattle.cc_model.specs.WellFormed.{native_names}
use Rattle.cc_laws_heap.specs.Sound.{IsSound, numbers_of}
use Rattle.cc_laws_heap.specs.Freeing.{uncounted, Frees}
use Rattle.cc_laws_heap.specs.Stages.{stage, Done, Ending}
use Rattle.cc_laws_heap.specs.Stages.Done.{nothing, followed, besides}
use Rattle.cc_laws_heap.specs.Stages.Ending.{emptied}
use Rattle.cc_laws_heap.proofs.Natives.{IsWellFormed-distinct, native_at-there, native_at-number, native_at-member, native_at-change_same, named-found}
use Rattle.cc_laws_heap.specs.Balance.{HasDistinctNumbers}
use Rattle.cc_laws_heap.proofs.Freed.{Frees-at_rest}
use Rattle.cc_laws_heap.proofs.EndingEvents.{TellsOf-freed}
use Rattle.cc_laws_heap.proofs.Giving.{cascade-done}
use Rattle.cc_laws_heap.proofs.Cascades.{IsBalanced-at_rest, cascade-frees}
use Rattle.cc_laws_heap.proofs.Owning.{let_go-sound}
use Rattle.cc_laws_heap.proofs.Writes.{native_slot-sound}
use Rattle.cc_laws_heap.proofs.Leaving.{IsOf-frees}

-- Slots of which those in front are empty

-- there is a place behind the empty ones
front-room : (i : ℕ) (x : Option Name) (xs : Slots) → i < length (empty_slots i ++ x ∷ xs)
front-room zero x xs = omega arith
front-room (suc i) x xs = let rest : i < length (empty_slots i ++ x ∷ xs) = front-room i x xs in omega arith

-- the first behind the empty ones
front-get : (i : ℕ) (x : Option Name) (xs : Slots) → get_or (empty_slots i ++ x ∷ xs) i None ≡ x
front-get zero x xs = refl
front-get (suc i) x xs = front-get i x xs

-- once it is emptied, one more is empty
front-set : (i : ℕ) (x : Option Name) (xs : Slots) → set (empty_slots i ++ x ∷ xs) i None ≡ empty_slots (suc i) ++ xs
front-set zero x xs = refl
front-set (suc i) x xs = ap (λ slots. None ∷ slots) (front-set i x xs)

-- What is given up

-- what a register or a slot held is given up: what is told is what is taken out
pub let_go-frees : (owned : List ℕ) (h : Heap) (x : Option Name) → IsSound (numbers_of x ++ owned) h → (ks : List ℕ) × Frees h ks (let_go h x)
let_go-frees owned h (Some (name.Native k)) s = cascade-frees owned h k.0 s
let_go-frees owned h _ s = ([], Frees-at_rest h)

-- what is done where a register or a slot gives up what it held
let_go-done : (ks owned : List ℕ) (h : Heap) (x : Option Name) → IsSound (numbers_of x ++ owned) h →
    Done (Ending ks) (stage (numbers_of x ++ owned) [] h) (let_go h x).events (stage owned [] (let_go h x).heap)
let_go-done ks owned h (Some (name.Native k)) s = cascade-done (Ending ks) owned owned h k.0 (IsBalanced-at_rest (k.0 ∷ owned) h s)
let_go-done ks owned h _ s = nothing (stage owned [] h)

-- a native that is there after a cascade is as it was
frees-stays : (h : Heap) (ks : List ℕ) (o : Outcome) → Frees h ks o → HasDistinctNumbers h → (k : ℕ) (n : HeapNative) → native_at h k ≡ Some n →
    Among (native k) (native_names o.heap) → (m : HeapNative) × (native_at o.heap k ≡ Some m) × (uncounted n ≡ uncounted m)
frees-stays h ks o f d k n e there =
    let m = named-found o.heap k there in
    let i = IsOf-frees h ks o f m.0 (native_at-there o.heap k m.0 m.1) in
    let number : i.0.number ≡ k = ap (λ (u : HeapNative). u.number) i.2 ∙ native_at-number o.heap k m.0 m.1 in
    let found : native_at h k ≡ Some i.0 = subst (λ j. native_at h j ≡ Some i.0) number (native_at-member h d i.0 i.1) in
    let both : Some n ≡ Some i.0 = sym e ∙ found in
    let same : n ≡ i.0 = cc in
    (m.0, m.1, ap uncounted same ∙ i.2)

-- native k holds these slots now: so much was done, where the natives ks are unlinked, and nothing was told as unlinked
pub record IsEmptying (ks owned : List ℕ) (h : Heap) (k : ℕ) (left : Slots) (o : Outcome) : Type 0 where
  pub done : Done (Ending ks) (stage owned [] h) o.events (stage owned [] o.heap)
  pub unlinks_none : unlinked_numbers o.events ≡ []
  pub held : HeapNative
  pub found : native_at o.heap k ≡ Some held
  pub slots : held.slots ≡ left

-- at the start nothing was emptied
pub IsEmptying-start : (ks owned : List ℕ) (h : Heap) (k : ℕ) (n : HeapNative) → native_at h k ≡ Some n → IsEmptying ks owned h k n.slots (silently h)
IsEmptying-start ks owned h k n e = record {
  done = nothing (stage owned [] h);
  unlinks_none = refl;
  held = n;
  found = e;
  slots = refl;
}

module _ (ks owned : List ℕ) (h : Heap) (k : ℕ) (taken : Among k ks) (own : Among k owned) where
  -- the next slot is emptied
  empty_slot-sound : (o : Outcome) (i : ℕ) (x : Option Name) (xs : Slots) → IsSound owned o.heap → IsEmptying ks owned h k (empty_slots i ++ x ∷ xs) o →
      IsSound owned (empty_slot o.heap k i x).heap × IsEmptying ks owned h k (empty_slots (suc i) ++ xs) (after o.events (empty_slot o.heap k i x))
  empty_slot-sound o i x xs s e = (
    sound,
    record {
      done = followed (stage owned [] h) (stage owned [] o.heap) (stage owned [] next.heap) o.events next.events e.done
          (followed (stage owned [] o.heap) (stage (numbers_of x ++ owned) [] written) (stage owned [] next.heap) [] next.events
          (besides (stage owned [] o.heap) [] (stage (numbers_of x ++ owned) [] written)
          (emptied owned o.heap k i e.held x taken (IsWellFormed-distinct o.heap s.well_formed) e.found room content))
          (let_go-done ks owned written x given));
      unlinks_none = flat_map-append unlinked_in o.events next.events
          ∙ (ap (λ js. js ++ unlinked_numbers next.events) e.unlinks_none ∙ (ap unlinked_numbers f.1.told ∙ (TellsOf-freed f.0).unlinked_told));
      held = stays.0;
      found = stays.1;
      slots = ap (λ (u : HeapNative). u.slots) (sym stays.2) ∙ (ap (λ slots. set slots i None) e.slots ∙ front-set i x xs);
    },
  )
    where
      empty : HeapNative → HeapNative
      empty n = with_native_slot i None n

      written : Heap
      written = change_native o.heap k empty

      next : Outcome
      next = let_go written x

      content : get_or e.held.slots i None ≡ x
      content = ap (λ slots. get_or slots i None) e.slots ∙ front-get i x xs

      room : i < length e.held.slots
      room = subst (λ slots. i < length slots) (sym e.slots) (front-room i x xs)

      given : IsSound (numbers_of x ++ owned) written
      given = subst (λ y. IsSound (numbers_of y ++ owned) written) content (native_slot-sound owned o.heap k i e.held None e.found room (λ y m. absurd m) s)

      f : (ks : List ℕ) × Frees written ks next
      f = let_go-frees owned written x given

      sound : IsSound owned next.heap
      sound = let_go-sound owned written x given

      found : native_at written k ≡ Some (empty e.held)
      found = native_at-change_same o.heap k empty (λ n. refl) ∙ rw e.found refl

      stays : (m : HeapNative) × (native_at next.heap k ≡ Some m) × (uncounted (empty e.held) ≡ uncounted m)
      stays = frees-stays written f.0 next f.1 (IsWellFormed-distinct written given.well_formed) k (empty e.held) found (sound.owned_there k own)

  -- The slots that are left are emptied.
  pub empty_each-sound : (i : ℕ) (xs : Slots) (o : Outcome) → IsSound owned o.heap → IsEmptying ks owned h k (empty_slots i ++ xs) o →
      (j : ℕ) × IsSound owned (empty_each k i xs o).heap × IsEmptying ks owned h k (empty_slots j ++ []) (empty_each k i xs o)
  empty_each-sound i [] o s e = (i, s, e)
  empty_each-sound i (x ∷ xs) o s e =
      let next = empty_slot-sound o i x xs s e in
      empty_each-sound (suc i) xs (after o.events (empty_slot o.heap k i x)) next.0 next.1
