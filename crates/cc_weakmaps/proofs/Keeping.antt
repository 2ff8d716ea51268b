-- THE ENTRIES THAT STAY, moved to the front one after another.
use Rattle.std.proofs.Common.{◌≡◌, ℕ, zero, suc, ◌+◌, ◌<◌, ◌≤◌, Bool, true, false, List, [], ◌∷◌, ◌++◌, length, take, drop, get_or, refl, sym, subst, ◌∙◌, ap, arith}
use Rattle.std.proofs.Math.ListN.{set}
use Rattle.std.proofs.lemmas.List.{append_assoc, append-nil, drop_more, drop-set-lt, drop_all, length-set, take_more, take_more_set, take-set-le}
use Rattle.std.proofs.lemmas.List.Elements.{Contains-get_or}
use Rattle.cc_lists.specs.Members.{Among}
use Rattle.cc_lists.proofs.Members.{Among-contains}
use Rattle.cc_names.specs.declared.number.SKey.{SKey}
use Rattle.cc_weakmaps.specs.Entries.{KeyedEntry}
use Rattle.cc_weakmaps.specs.Living.{Stays, AreLiving, StayBefore}
use Rattle.cc_weakmaps.proofs.Staying.{living-none, living-kept, living-dropped}

take-front : {X : Type 0} (n m : ℕ) (xs : List X) → n ≤ m → take n (take m xs) ≡ take n xs
take-front zero m xs l = refl
take-front (suc n) zero xs l = absurd (omega (arith, l))
take-front (suc n) (suc m) [] l = refl
take-front (suc n) (suc m) (x ∷ xs) l = ap (λ ys. x ∷ ys) (take-front n m xs (omega (arith, l)))

-- those before the next place stay too, where the entry at it does
pub stay-further : (answers : SKey → Bool → Type 0) (es : List KeyedEntry) (n : ℕ) (x : KeyedEntry) → StayBefore answers es n → n < length es → x ≡ get_or es n x → Stays answers x true → StayBefore answers es (n + 1)
stay-further answers es n x h within at s rest t =
    subst (AreLiving answers es) (sym (ap (λ fs. fs ++ rest) (take_more es n x within) ∙ (append_assoc (take n es) (get_or es n x ∷ []) rest ∙ ap (λ y. take n es ++ y ∷ rest) (sym at))))
    (h (x ∷ rest) (subst (λ fs. AreLiving answers fs (x ∷ rest)) (sym (drop_more es n x within ∙ ap (λ y. y ∷ drop (n + 1) es) (sym at))) (living-kept answers x (drop (n + 1) es) rest s t)))

module _ (answers : SKey → Bool → Type 0) (old : List KeyedEntry) (start : ℕ) where
  -- The entries from a place on are as they were, and what stays of them is what stays of all, behind those that are kept;
  -- the first of these are as they were.
  pub record IsKeeping (items : List KeyedEntry) (kept place : ℕ) : Type 0 where
    pub living : (rest : List KeyedEntry) → AreLiving answers (drop place old) rest → AreLiving answers old (take kept items ++ rest)
    pub ahead : drop place items ≡ drop place old
    pub front : take start items ≡ take start old
    pub from : start ≤ kept
    pub few : kept ≤ place
    pub as_many : length items ≡ length old

  pub keeping-start : StayBefore answers old start → IsKeeping old start start
  keeping-start stay = record { living = stay; ahead = refl; front = refl; from = omega arith; few = omega arith; as_many = refl }

  module _ (items : List KeyedEntry) (kept place : ℕ) (h : IsKeeping items kept place) where
    -- the entry at the place, and those behind it
    module _ (within : place < length old) (x : KeyedEntry) (at : x ≡ get_or items place x) where
      first : x ∷ drop (place + 1) items ≡ get_or old place x ∷ drop (place + 1) old
      first = ap (λ y. y ∷ drop (place + 1) items) at ∙ (sym (drop_more items place x (omega (arith, within, h.as_many))) ∙ (h.ahead ∙ drop_more old place x within))

      same : x ≡ get_or old place x
      same = let both = first in cc

      behind : drop (place + 1) items ≡ drop (place + 1) old
      behind = let both = first in cc

      here : drop place old ≡ x ∷ drop (place + 1) old
      here = drop_more old place x within ∙ ap (λ y. y ∷ drop (place + 1) old) (sym same)

      pub keeping-among : Among x old
      keeping-among = subst (λ y. Among y old) (sym same) (Among-contains (get_or old place x) old (Contains-get_or old place x within))

      -- it stays
      pub keeping-stays : Stays answers x true → IsKeeping (set items kept x) (kept + 1) (place + 1)
      keeping-stays s =
          let room : kept < length items = omega (arith, within, h.as_many, h.few) in
          record {
            living = λ rest t. subst (AreLiving answers old) (sym (ap (λ es. es ++ rest) (take_more_set items kept x room) ∙ append_assoc (take kept items) (x ∷ []) rest))
                (h.living (x ∷ rest) (subst (λ es. AreLiving answers es (x ∷ rest)) (sym here) (living-kept answers x (drop (place + 1) old) rest s t)));
            ahead = drop-set-lt (place + 1) items kept x (omega (arith, h.few)) ∙ behind;
            front = take-set-le start items kept x h.from ∙ h.front;
            from = omega (arith, h.from);
            few = omega (arith, h.few);
            as_many = length-set items kept x ∙ h.as_many;
          }

      -- it does not
      pub keeping-drops : Stays answers x false → IsKeeping items kept (place + 1)
      keeping-drops s = record {
        living = λ rest t. h.living rest (subst (λ es. AreLiving answers es rest) (sym here) (living-dropped answers x (drop (place + 1) old) rest s t));
        ahead = behind;
        front = h.front;
        from = h.from;
        few = omega (arith, h.few);
        as_many = h.as_many;
      }

    -- past the last one
    pub keeping-end : length old ≤ place → AreLiving answers old (take kept items)
    keeping-end past = subst (AreLiving answers old) (append-nil (take kept items)) (h.living [] (subst (λ es. AreLiving answers es []) (sym (drop_all place old past)) (living-none answers)))

    -- and the first are still there
    pub keeping-front : take start (take kept items) ≡ take start old
    keeping-front = take-front start kept items h.from ∙ h.front
