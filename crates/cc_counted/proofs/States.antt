-- HOW KEYS STAND IN A WALK, as a list by key: what is read from it, and what becomes of it.
use Rattle.std.proofs.Common.{◌≡◌, ℕ, zero, suc, ◌<◌, Bool, true, false, List, [], ◌∷◌, length, get_or, Option, Some, None, is_some, if◌then◌else◌, refl, sym, ◌∙◌, ap, ⊎_elim, arith}
use Rattle.std.proofs.Math.ListN.{set}
use Rattle.std.proofs.lemmas.Bool.{cases_lt, eq-eqb}
use Rattle.std.proofs.lemmas.Bool.Decides.{eqb_tells}
use Rattle.std.proofs.lemmas.List.{ext_get_or, get_or-set_same, get_or-set_other, get_or_past, length-set}
use Rattle.cc_names.specs.declared.kind.Walked.{Walked}
use Rattle.cc_names.specs.declared.kind.Walked.TheVariants.{Out}
use Rattle.cc_model.specs.Heap.{Heap, native_at}
use Rattle.cc_walk.specs.Walks.{Walks, nowhere, with_state, states_of}
use Rattle.cc_walk.proofs.Sets.{states-absent, with_state-other}
use Rattle.cc_counted.specs.Counts.{state_in, state_left, none_walked, walks_left}
use Rattle.cc_counted.specs.Lists.{Lists, states_below, IsPlaced}
use Rattle.cc_counted.proofs.Changing.{cell-within}

pub states-length : (n : ℕ) (walks : Walks) → length (states_below n walks) ≡ n
states-length zero walks = refl
states-length (suc n) walks = ap suc (states-length n (λ key. walks (suc key)))

pub states-at : (n : ℕ) (walks : Walks) (key : ℕ) → key < n → state_in (states_below n walks) key ≡ walks key
states-at zero walks key l = absurd (omega arith)
states-at (suc n) walks zero l = refl
states-at (suc n) walks (suc key) l = states-at n (λ k. walks (suc k)) key (omega arith)

-- a key stands otherwise
pub states-set : (n : ℕ) (walks : Walks) (key : ℕ) (state : Walked) → key < n → states_below n (with_state walks key state) ≡ set (states_below n walks) key state
states-set n walks key state within =
    ext_get_or Out (states_below n (with_state walks key state)) (set (states_below n walks) key state)
    (states-length n (with_state walks key state) ∙ sym (length-set (states_below n walks) key state ∙ states-length n walks))
    (λ i l. states-at n (with_state walks key state) i (omega (arith, states-length n (with_state walks key state))) ∙ at i (omega (arith, states-length n (with_state walks key state))))
  where
    at : (i : ℕ) → i < n → with_state walks key state i ≡ get_or (set (states_below n walks) key state) i Out
    at i l = ⊎_elim
        (λ t. rw (eq-eqb key i (sym t.1)) (sym (ap (λ j. get_or (set (states_below n walks) key state) j Out) t.1
        ∙ get_or-set_same (states_below n walks) key state Out (omega (arith, states-length n walks)))))
        (λ t. with_state-other walks key state i t.1 ∙ (sym (states-at n walks i l) ∙ sym (get_or-set_other (states_below n walks) key i state Out t.1)))
        (eqb_tells i key)

-- none is in it
pub states-none : (n : ℕ) (walks : Walks) → states_below n nowhere ≡ none_walked (states_below n walks)
states-none zero walks = refl
states-none (suc n) walks = ap (λ xs. Out ∷ xs) (states-none n (λ key. walks (suc key)))

-- What is shown of lists that fit together
module _ (l : Lists) (p : IsPlaced l) where
  -- a key past all natives is in no walk, so each key is read from the list
  pub states-shown : (key : ℕ) → state_in (states_below (length l.cells) (states_of l.walk)) key ≡ states_of l.walk key
  states-shown key = ⊎_elim
      (λ within. states-at (length l.cells) (states_of l.walk) key within)
      (λ past. get_or_past (states_below (length l.cells) (states_of l.walk)) key Out (omega (arith, past, states-length (length l.cells) (states_of l.walk)))
      ∙ sym (states-absent l.walk key (λ m.
      let f = p.walking key m in
      let within : key < length l.cells = cell-within l.cells key f.0 f.1 in
      omega (arith, past, within))))
      (cases_lt key (length l.cells))

-- Natives that left

pub state_left-out : (h : Heap) (o : Option ℕ) → state_left h o Out ≡ Out
state_left-out h None = refl
state_left-out h (Some k) = go (is_some (native_at h k))
  where
    go : (b : Bool) → (if b then Out else Out) ≡ Out
    go true = refl
    go false = refl

pub walks_left-length : (h : Heap) (keys : List (Option ℕ)) (walks : List Walked) → length (walks_left h keys walks) ≡ length walks
walks_left-length h [] walks = refl
walks_left-length h (k ∷ ks) [] = refl
walks_left-length h (k ∷ ks) (w ∷ ws) = ap suc (walks_left-length h ks ws)

pub walks_left-at : (h : Heap) (keys : List (Option ℕ)) (walks : List Walked) (key : ℕ) → state_in (walks_left h keys walks) key ≡ state_left h (get_or keys key None) (state_in walks key)
walks_left-at h [] walks key = refl
walks_left-at h (k ∷ ks) [] key = sym (state_left-out h (get_or (k ∷ ks) key None))
walks_left-at h (k ∷ ks) (w ∷ ws) zero = refl
walks_left-at h (k ∷ ks) (w ∷ ws) (suc key) = walks_left-at h ks ws key

-- of two heaps in which the same natives are, the same is left
pub walks_left-agree : (h g : Heap) → ((o : Option ℕ) (state : Walked) → state_left h o state ≡ state_left g o state) → (keys : List (Option ℕ)) (walks : List Walked) →
    walks_left h keys walks ≡ walks_left g keys walks
walks_left-agree h g same [] walks = refl
walks_left-agree h g same (k ∷ ks) [] = refl
walks_left-agree h g same (k ∷ ks) (w ∷ ws) = λ i. same k w i ∷ walks_left-agree h g same ks ws i
