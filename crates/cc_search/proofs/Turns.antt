-- TURNS OF THE LOOPS over registers, over places, and over the steps that wait: what is left to be done after each.
use Rattle.std.specs.Prelude.{slice_index_or, slice_get}
use Rattle.std.proofs.Common.{◌≡◌, ℕ, zero, suc, ◌+◌, ◌<◌, ◌≤◌, List, [], ◌∷◌, ◌++◌, length, take, drop, Option, Some, None, refl, sym, ◌∙◌, ap, arith, drop-cons}
use Rattle.std.proofs.lemmas.List.{get_or-drop, take-append-drop}
use Rattle.cc_names.specs.declared.name.Name.{Name}
use Rattle.cc_names.specs.declared.register.Reg.{Reg}
use Rattle.cc_model.specs.declared.item.Reason.TheVariants.{Root, Edge}
use Rattle.cc_model.specs.Answers.{Step}
use Rattle.cc_model.specs.Slots.{Slots, contents}
use Rattle.cc_model.specs.Derivations.{Walk, steps_of, with_bank, with_edges}
use Rattle.cc_search.specs.Banks.{AreEmptyFrom}
use Rattle.cc_search.specs.Found.{IsFirstWalked, walk_by, with_content}

-- past the end nothing is left
pub drop-past : {X : Type 0} (xs : List X) (i : ℕ) → length xs ≤ i → drop i xs ≡ []
drop-past [] zero l = refl
drop-past [] (suc i) l = refl
drop-past (x ∷ xs) zero l = absurd (omega (arith, l))
drop-past (x ∷ xs) (suc i) l = drop-past xs i (omega (arith, l))

pub take-all : {X : Type 0} (xs : List X) (i : ℕ) → length xs ≤ i → take i xs ≡ xs
take-all [] zero l = refl
take-all [] (suc i) l = refl
take-all (x ∷ xs) zero l = absurd (omega (arith, l))
take-all (x ∷ xs) (suc i) l = ap (λ ys. x ∷ ys) (take-all xs i (omega (arith, l)))

drop-one : (slots : Slots) (i : ℕ) → i < length slots → drop i slots ≡ slice_index_or slots i None ∷ drop (i + 1) slots
drop-one slots i l = let next : suc i ≡ i + 1 = omega arith in drop-cons slots i None l ∙ ap (λ k. slice_index_or slots i None ∷ drop k slots) next

-- Registers

bank-one : (reg : ℕ → Reg) (k : ℕ) (o : Option Name) (rest : Slots) (w : Walk) → with_bank reg k (o ∷ rest) w ≡ with_bank reg (k + 1) rest (with_content w o (Root (reg k)))
bank-one reg k None rest w = refl
bank-one reg k (Some x) rest w = refl

pub bank-turn : (reg : ℕ → Reg) (slots : Slots) (i : ℕ) (o : Option Name) (w v : Walk) → i < length slots → o ≡ slice_index_or slots i None → v ≡ with_content w o (Root (reg i)) →
    with_bank reg (i + 1) (drop (i + 1) slots) v ≡ with_bank reg i (drop i slots) w
bank-turn reg slots i o w v l same e =
    ap (with_bank reg (i + 1) (drop (i + 1) slots)) (e ∙ ap (λ p. with_content w p (Root (reg i))) same)
    ∙ (sym (bank-one reg i (slice_index_or slots i None) (drop (i + 1) slots) w) ∙ ap (λ os. with_bank reg i os w) (sym (drop-one slots i l)))

-- empty ones give nothing
bank-empty : (reg : ℕ → Reg) (k : ℕ) (slots : Slots) (w : Walk) → ((i : ℕ) → slice_index_or slots i None ≡ None) → with_bank reg k slots w ≡ w
bank-empty reg k [] w empty = refl
bank-empty reg k (None ∷ slots) w empty = bank-empty reg (k + 1) slots w (λ i. empty (suc i))
bank-empty reg k (Some x ∷ slots) w empty = let none : Some x ≡ None = empty zero in absurd (cc)

pub bank-end : (reg : ℕ → Reg) (slots : Slots) (n i : ℕ) (w : Walk) → AreEmptyFrom slots n → n ≤ i → with_bank reg i (drop i slots) w ≡ w
bank-end reg slots n i w empty l = bank-empty reg i (drop i slots) w (λ j. get_or-drop i slots j None ∙ empty (i + j) (omega (arith, l)))

-- Places

edges-one : (x : Name) (o : Option Name) (rest : Slots) (w : Walk) → with_edges x (contents (o ∷ rest)) w ≡ with_edges x (contents rest) (with_content w o (Edge x))
edges-one x None rest w = refl
edges-one x (Some y) rest w = refl

pub edges-turn : (x : Name) (places : Slots) (i : ℕ) (o : Option Name) (w v : Walk) → i < length places → o ≡ slice_index_or places i None → v ≡ with_content w o (Edge x) →
    with_edges x (contents (drop (i + 1) places)) v ≡ with_edges x (contents (drop i places)) w
edges-turn x places i o w v l same e =
    ap (with_edges x (contents (drop (i + 1) places))) (e ∙ ap (λ p. with_content w p (Edge x)) same)
    ∙ (sym (edges-one x (slice_index_or places i None) (drop (i + 1) places) w) ∙ ap (λ os. with_edges x (contents os) w) (sym (drop-one places i l)))

pub edges-end : (x : Name) (places : Slots) (i : ℕ) (w : Walk) → length places ≤ i → with_edges x (contents (drop i places)) w ≡ w
edges-end x places i w l = ap (λ os. with_edges x (contents os) w) (drop-past places i l)

-- The first that waits

-- a list from a place on, and up to the next
first-left : (ss : List Step) (n : ℕ) (s : Step) → slice_get ss n ≡ Some s → (drop n ss ≡ s ∷ drop (suc n) ss) × (take (suc n) ss ≡ take n ss ++ s ∷ [])
first-left [] n s e = absurd (cc)
first-left (t ∷ ss) zero s e = (cc, cc)
first-left (t ∷ ss) (suc n) s e = let ih = first-left ss n s e in (ih.0, ap (λ q. t ∷ q) ih.1)

pub first-walked : (n : ℕ) (ss : List Step) (w : Walk) (s : Step) → walk_by n ss ≡ w → slice_get ss n ≡ Some s → IsFirstWalked w (walk_by (n + 1) ss) n s.0
first-walked n ss w s e at =
    let k = first-left ss n s at in
    let next : n + 1 ≡ suc n = omega arith in
    record {
      step = s;
      rest = drop (suc n) ss;
      waits = ap (λ (v : Walk). v.waiting) (sym e) ∙ k.0;
      at = ap (λ ts. slice_get ts n) (sym (ap steps_of e) ∙ take-append-drop n ss) ∙ at;
      name = refl;
      walked = ap (λ m. walk_by m ss) next
          ∙ ((λ i. record { walked = k.1 i; waiting = drop (suc n) ss }) ∙ ap (λ (v : Walk). record { walked = v.walked ++ s ∷ []; waiting = drop (suc n) ss }) e);
    }
