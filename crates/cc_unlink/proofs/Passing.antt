-- A PASS OVER THE WHITE NATIVES by rising number: those that are left of it, that a step leaves them, and what is told.
use Rattle.std.proofs.Common.{◌≡◌, ℕ, suc, ◌<◌, Bool, true, false, not, ◌==◌, List, [], ◌∷◌, ◌++◌, length, Option, Some, None, refl, sym, ◌∙◌, ap, subst, inl, inr, ◌⊎◌, ⊎_elim, arith}
use Rattle.std.specs.List.{filter}
use Rattle.cc_lists.specs.Members.{Among, has}
use Rattle.cc_lists.proofs.Members.{Among-filtered, has-among}
use Rattle.cc_names.specs.Names.{native}
use Rattle.cc_model.specs.declared.item.Event.{Event}
use Rattle.cc_model.specs.Telling.{Telling, TellsEvents}
use Rattle.cc_model.proofs.Tellings.{Tells-nil, TellsEvents-trans}
use Rattle.cc_model.specs.Heap.{Heap, Outcome, silently, after, outcome_of}
use Rattle.cc_model.specs.WellFormed.{IsRising, native_names}
use Rattle.cc_model.specs.Counts.{times}
use Rattle.cc_lists.proofs.Numbers.{number-exact}
use Rattle.cc_laws_heap.proofs.Face.{IsRising-filter, IsSound-permuted, Leave, Leave-before, Leave-not_freed, is_left, numbers_there, numbers_there-named, times-cons}
use Rattle.cc_counted.specs.Counts.{key_left, number_or_none}
use Rattle.cc_graph.specs.Shown.{Shown}
use Rattle.cc_heaps.specs.Keyed.{Keyed, IsInOrder, the_number, left_with}
use Rattle.cc_unlink.specs.Whites.{whites_of, is_white_number, whites_above}
use Rattle.cc_unlink.specs.Passes.{IsAt, number_in}
use Rattle.cc_unlink.specs.declared.ends.White.{White}
use Rattle.cc_heaps.specs.Holders.{native_numbers, is_above, first_of}
use Rattle.cc_heaps.proofs.LeftWith.{key_left-there, left_with-same, number_at-left, left_with-then}
use Rattle.cc_lists.proofs.Filtering.{filter-each}
use Rattle.cc_lists.specs.Walks.{left_from}
use Rattle.cc_lists.proofs.Searching.{filter-swap}
use Rattle.cc_lists.proofs.RisingWalks.{all-above, left_from-first, left_from-next}
use Rattle.cc_unlink.proofs.NextWhite.{whites_of-numbers}

-- THE WHITE NATIVES THAT ARE LEFT of a pass, from the next one on
abbrev pub whites_from : Shown → Keyed → Option White → List ℕ
whites_from g v next = left_from (whites_of g v.heap) (number_in next)

-- the number at its key is its own
pub at-number : (v : Keyed) (w : White) → IsAt v (Some w) → the_number v w.key.0 ≡ w.number.0
at-number v w live = ap number_or_none live

-- White natives are by rising number
pub whites_of-rising : (g : Shown) (h : Heap) → IsRising (native_numbers h.natives) → IsRising (whites_of g h)
whites_of-rising g h r = subst IsRising (sym (whites_of-numbers g h)) (IsRising-filter (is_white_number g) (native_numbers h.natives) r)

-- and are there
pub whites_of-there : (g : Shown) (h : Heap) (k : ℕ) → Among k (whites_of g h) → Among (native k) (native_names h)
whites_of-there g h k m =
    numbers_there-named h k (Among-filtered (is_white_number g) k (numbers_there h) (subst (λ ks. Among k ks) (whites_of-numbers g h) m))

module _ (g : Shown) (v : Keyed) (r : IsRising (native_numbers v.heap.natives)) (next : Option White) where
  -- at the begin all of them are left
  pub whites_from-start : number_in next ≡ first_of (whites_above g v.heap None) → whites_from g v next ≡ whites_of g v.heap
  whites_from-start e = ap (left_from (whites_of g v.heap)) e
      ∙ (left_from-first (whites_of g v.heap) (whites_of-rising g v.heap r) None ∙ all-above (whites_of g v.heap))

  -- then one less
  pub whites_from-next : (w : White) → number_in next ≡ first_of (whites_above g v.heap (Some w.number.0)) →
      whites_from g v (Some w) ≡ w.number.0 ∷ whites_from g v next
  whites_from-next w e = left_from-next (whites_of g v.heap) (whites_of-rising g v.heap r) (Some w.number.0) (number_in next) w.number.0 refl e

-- Natives that leave

module _ (g : Shown) (h : Heap) (freed : List ℕ) (f : Heap) (l : Leave h freed f) where
  -- a part of the white natives that is there still is that part of those that are white now
  part_of_whites : (p : ℕ → Bool) → ((k : ℕ) → Among k (filter p (whites_of g h)) → Among (native k) (native_names f)) →
      filter p (whites_of g f) ≡ filter p (whites_of g h)
  part_of_whites p there =
      ap (filter p) (whites_of-numbers g f ∙ ap (filter (is_white_number g)) l.numbers
      ∙ (filter-swap (is_white_number g) (is_left freed) (numbers_there h) ∙ ap (filter (is_left freed)) (sym (whites_of-numbers g h))))
      ∙ (filter-swap p (is_left freed) (whites_of g h)
      ∙ filter-each (is_left freed) (filter p (whites_of g h)) (λ k m. go k (Leave-not_freed h freed f l k (there k m)) (has ◌==◌ freed k) refl))
    where
      go : (k : ℕ) → ¬ (Among k freed) → (b : Bool) → has ◌==◌ freed k ≡ b → not b ≡ true
      go k kept true e = absurd (kept (has-among ◌==◌ number-exact freed k e))
      go k kept false e = refl

  -- where all white natives are there still, they are the white ones
  pub whites_of-stay : ((k : ℕ) → Among k (whites_of g h) → Among (native k) (native_names f)) → whites_of g f ≡ whites_of g h
  whites_of-stay there =
      sym (all-above (whites_of g f)) ∙ (part_of_whites (is_above None) (λ k m. there k (subst (λ ks. Among k ks) (all-above (whites_of g h)) m)) ∙ all-above (whites_of g h))

  -- where those from a number on are there still, they are those from it on
  left_from-stay : (o : Option ℕ) → ((k : ℕ) → Among k (left_from (whites_of g h) o) → Among (native k) (native_names f)) →
      left_from (whites_of g f) o ≡ left_from (whites_of g h) o
  left_from-stay None there = refl
  left_from-stay (Some j) there = ap (λ ks. j ∷ ks) (part_of_whites (is_above (Some j)) (λ k m. there k (inr m)))

-- the native that is next is at its key still, where it is there
IsAt-left : (v : Keyed) (f : Heap) (next : Option White) → IsAt v next → ((k : ℕ) → number_in next ≡ Some k → Among (native k) (native_names f)) → IsAt (left_with v f) next
IsAt-left v f None live there = tt
IsAt-left v f (Some w) live there = number_at-left v f w.key.0 ∙ (ap (key_left f) live ∙ key_left-there f w.number.0 (there w.number.0 refl))

-- the first of those that are left
pub first-of_rest : (ks : List ℕ) (k : ℕ) → Among k (left_from ks (Some k))
first-of_rest ks k = inl refl

-- Where all that are left of a pass are there still, they are left of it still.
whites_from-left : (g : Shown) (v : Keyed) (freed : List ℕ) (f : Heap) (next : Option White) → Leave v.heap freed f → IsAt v next →
    ((k : ℕ) → Among k (whites_from g v next) → Among (native k) (native_names f)) →
    (whites_from g (left_with v f) next ≡ whites_from g v next) × IsAt (left_with v f) next
whites_from-left g v freed f next l live there = (
  left_from-stay g v.heap freed f l (number_in next) there,
  IsAt-left v f next live (λ k e. there k (subst (λ o. Among k (left_from (whites_of g v.heap) o)) (sym e) (first-of_rest (whites_of g v.heap) k))),
)

-- What is owned

-- the order in which references are owned does not matter
pub IsInOrder-permuted : (early late : List ℕ) (v : Keyed) → ((k : ℕ) → times k late ≡ times k early) → IsInOrder early v → IsInOrder late v
IsInOrder-permuted early late v same i = record {
  sound = IsSound-permuted early late v.heap same i.sound;
  keyed = i.keyed;
  named = i.named;
  one_key = i.one_key;
  whole = i.whole;
  limits = i.limits;
  reflecting = i.reflecting;
  entries = i.entries;
  entries_there = i.entries_there;
}

-- one that is owned may stand in front
pub in_front : (k : ℕ) (ks : List ℕ) → Among k ks → (others : List ℕ) × ((j : ℕ) → times j (k ∷ others) ≡ times j ks)
in_front k [] m = absurd m
in_front k (i ∷ ks) m = go (in_front k ks) m
  where
    go : (Among k ks → (others : List ℕ) × ((j : ℕ) → times j (k ∷ others) ≡ times j ks)) → (i ≡ k) ⊎ Among k ks →
        (others : List ℕ) × ((j : ℕ) → times j (k ∷ others) ≡ times j (i ∷ ks))
    go ih n = ⊎_elim
        (λ e. (ks, λ j. ap (λ l. times j (l ∷ ks)) (sym e)))
        (λ t. let r = ih t in (i ∷ r.0, λ j. omega (arith, times-cons j k (i ∷ r.0), times-cons j i r.0, times-cons j i ks, times-cons j k r.0, r.1 j)))
        n

-- A pass in which natives leave and events are told

-- the heaps and what was told so far
abbrev pub so_far : Keyed → List Event → Outcome
so_far v es = outcome_of v.heap es

-- between two steps: what is left to do gives what all of it gives from the begin
pub record IsPassing (each : List ℕ → Outcome → Outcome) (g : Shown) (first v : Keyed) (next : Option White) (before now : Telling) : Type 0 where
  pub kept : v ≡ left_with first v.heap
  pub live : IsAt v next
  pub events : List Event
  pub goes : each (whites_from g v next) (so_far v events) ≡ each (whites_of g first.heap) (silently first.heap)
  pub told : TellsEvents before now events

-- at the begin
pub IsPassing-start : (each : List ℕ → Outcome → Outcome) (g : Shown) (v : Keyed) (next : Option White) (now : Telling) → IsInOrder (whites_of g v.heap) v →
    whites_from g v next ≡ whites_of g v.heap → IsAt v next → IsPassing each g v v next now now
IsPassing-start each g v next now order all live = record {
  kept = sym (left_with-same (whites_of g v.heap) v order);
  live = live;
  events = [];
  goes = ap (λ ks. each ks (silently v.heap)) all;
  told = Tells-nil now;
}

-- A STEP: the next one after it was found, and what is done to a native is done to this one.
pub IsPassing-next : {each : List ℕ → Outcome → Outcome} (step : Heap → ℕ → Outcome) → ((k : ℕ) (ks : List ℕ) (o : Outcome) → each (k ∷ ks) o ≡ each ks (after o.events (step o.heap k))) →
    {g : Shown} {first v : Keyed} {w : White} {before now : Telling} → IsPassing each g first v (Some w) before now →
    (next : Option White) → whites_from g v (Some w) ≡ w.number.0 ∷ whites_from g v next → IsAt v next →
    (freed : List ℕ) → Leave v.heap freed (step v.heap w.number.0).heap →
    ((j : ℕ) → Among j (whites_from g v next) → Among (native j) (native_names (step v.heap w.number.0).heap)) →
    (later : Telling) → TellsEvents now later (step v.heap w.number.0).events →
    IsPassing each g first (left_with v (step v.heap w.number.0).heap) next before later
    × (whites_from g (left_with v (step v.heap w.number.0).heap) next ≡ whites_from g v next)
IsPassing-next {each} step one {g} {first} {v} {w} {before} {now} i next rest live freed leaves there later tell = (
  record {
    kept = ap (λ z. left_with z o.heap) i.kept ∙ left_with-then first v.heap o.heap (Leave-before v.heap freed o.heap leaves);
    live = left.1;
    events = i.events ++ o.events;
    goes = ap (λ ks. each ks (so_far (left_with v o.heap) (i.events ++ o.events))) left.0
        ∙ (sym (one w.number.0 (whites_from g v next) (so_far v i.events)) ∙ (ap (λ ks. each ks (so_far v i.events)) (sym rest) ∙ i.goes));
    told = TellsEvents-trans before now later i.events o.events i.told tell;
  },
  left.0,
)
  where
    o : Outcome
    o = step v.heap w.number.0

    left : (whites_from g (left_with v o.heap) next ≡ whites_from g v next) × IsAt (left_with v o.heap) next
    left = whites_from-left g v freed o.heap next leaves live there

-- what is left behind the first is less
pub fewer : {k : ℕ} {early rest late : List ℕ} → early ≡ k ∷ rest → late ≡ rest → length late < length early
fewer {k} {early} {rest} {late} e f =
    let one : length early ≡ suc (length rest) = ap length e in
    let same : length late ≡ length rest = ap length f in
    omega arith
