-- THE WHITE NATIVES UNLINKED ONE AFTER ANOTHER, while all of them are rooted.
use Rattle.std.proofs.Common.{◌≡◌, ℕ, ◌<◌, List, ◌∷◌, length, Option, Some, None, refl, sym, ◌∙◌, ap, subst, inr}
use Rattle.cc_lists.specs.Members.{Among}
use Rattle.cc_model.specs.Telling.{Telling, TellsEvents}
use Rattle.cc_model.specs.Heap.{Outcome}
use Rattle.cc_model.specs.End.{unlink, unlink_each}
use Rattle.cc_model.specs.Counts.{times}
use Rattle.cc_laws_heap.specs.Sound.{IsSound}
use Rattle.cc_laws_heap.proofs.Face.{Unlinks, unlink-keeps}
use Rattle.cc_graph.specs.Shown.{Shown}
use Rattle.cc_heaps.specs.Keyed.{Keyed, IsInOrder, the_number, left_with}
use Rattle.cc_unlink.specs.Whites.{whites_of, whites_above}
use Rattle.cc_unlink.specs.Passes.{IsAt, number_in}
use Rattle.cc_unlink.specs.declared.ends.White.{White}
use Rattle.cc_heaps.specs.Holders.{first_of}
use Rattle.cc_unlink.proofs.Passing.{at-number, first-of_rest, whites_from, whites_from-start, whites_from-next, whites_of-stay, IsInOrder-permuted, in_front, IsPassing, IsPassing-start, IsPassing-next, fewer}

-- between two steps: all white natives are rooted
pub record IsUnlinking (g : Shown) (first v : Keyed) (next : Option White) (before now : Telling) : Type 0 where
  pub whites : whites_of g v.heap ≡ whites_of g first.heap
  pub order : IsInOrder (whites_of g first.heap) v
  pub among : (k : ℕ) → Among k (whites_from g v next) → Among k (whites_of g first.heap)
  pub pass : IsPassing unlink_each g first v next before now

-- at the begin
pub IsUnlinking-start : (g : Shown) (v : Keyed) (next : Option White) (now : Telling) → IsInOrder (whites_of g v.heap) v →
    number_in next ≡ first_of (whites_above g v.heap None) → IsAt v next → IsUnlinking g v v next now now
IsUnlinking-start g v next now order e live =
    let all : whites_from g v next ≡ whites_of g v.heap = whites_from-start g v order.sound.well_formed.rising next e in
    record {
      whites = refl;
      order = order;
      among = λ k m. subst (λ ks. Among k ks) all m;
      pass = IsPassing-start unlink_each g v next now order all live;
    }

module _ {g : Shown} {first v : Keyed} {w : White} {before now : Telling} (i : IsUnlinking g first v (Some w) before now) where
  -- the next one is white
  next_is_white : Among w.number.0 (whites_of g first.heap)
  next_is_white = i.among w.number.0 (first-of_rest (whites_of g v.heap) w.number.0)

  -- it may stand in front of what is owned
  own : (others : List ℕ) × ((j : ℕ) → times j (w.number.0 ∷ others) ≡ times j (whites_of g first.heap))
  own = in_front w.number.0 (whites_of g first.heap) next_is_white

  same : the_number v w.key.0 ≡ w.number.0
  same = at-number v w i.pass.live

  owned : IsInOrder (the_number v w.key.0 ∷ own.0) v
  owned = subst (λ j. IsInOrder (j ∷ own.0) v) (sym same) (IsInOrder-permuted (whites_of g first.heap) (w.number.0 ∷ own.0) v own.1 i.order)

  pub IsUnlinking-owned : (others : List ℕ) × IsInOrder (the_number v w.key.0 ∷ others) v
  IsUnlinking-owned = (own.0, owned)

  -- A STEP: the next one after it was found, and the native is unlinked.
  pub IsUnlinking-next : (next : Option White) → number_in next ≡ first_of (whites_above g v.heap (Some w.number.0)) → IsAt v next →
      {late : Keyed} {later : Telling} → late ≡ left_with v (unlink v.heap (the_number v w.key.0)).heap →
      TellsEvents now later (unlink v.heap (the_number v w.key.0)).events →
      ((owned : List ℕ) → IsInOrder (the_number v w.key.0 ∷ owned) v → IsInOrder (the_number v w.key.0 ∷ owned) late) →
      IsUnlinking g first late next before later × (length (whites_from g late next) < length (whites_from g v (Some w)))
  IsUnlinking-next next e live {late} {later} is tell order =
      subst (λ z. IsUnlinking g first z next before later × (length (whites_from g z next) < length (whites_from g v (Some w)))) (sym changed) (
        record {
          whites = stays ∙ i.whites;
          order = IsInOrder-permuted (k ∷ own.0) ws (left_with v o.heap) (λ j. sym (own.1 j))
              (subst (λ z. IsInOrder (k ∷ own.0) z) changed (subst (λ j. IsInOrder (j ∷ own.0) late) same (order own.0 owned)));
          among = λ j m. i.among j (later_one j (subst (λ ks. Among j ks) passed.1 m));
          pass = passed.0;
        },
        fewer rest passed.1,
      )
    where
      k : ℕ
      k = w.number.0

      ws : List ℕ
      ws = whites_of g first.heap

      o : Outcome
      o = unlink v.heap k

      changed : late ≡ left_with v o.heap
      changed = is ∙ ap (λ j. left_with v (unlink v.heap j).heap) same

      -- those that are left
      rest : whites_from g v (Some w) ≡ k ∷ whites_from g v next
      rest = whites_from-next g v i.order.sound.well_formed.rising next w e

      later_one : (j : ℕ) → Among j (whites_from g v next) → Among j (whites_from g v (Some w))
      later_one j m = subst (λ ks. Among j ks) (sym rest) (inr m)

      u : (freed : List ℕ) × IsSound ws o.heap × Unlinks v.heap k freed o
      u = unlink-keeps ws v.heap k i.order.sound next_is_white

      -- all white natives are there still
      stays : whites_of g o.heap ≡ whites_of g v.heap
      stays = whites_of-stay g v.heap u.0 o.heap u.2.leaves (λ j m. u.1.owned_there j (subst (λ ks. Among j ks) i.whites m))

      passed : IsPassing unlink_each g first (left_with v o.heap) next before later × (whites_from g (left_with v o.heap) next ≡ whites_from g v next)
      passed = IsPassing-next unlink (λ j ks p. refl) i.pass next rest live u.0 u.2.leaves (λ j m. u.1.owned_there j (i.among j (later_one j m))) later
          (subst (λ j. TellsEvents now later (unlink v.heap j).events) same tell)
