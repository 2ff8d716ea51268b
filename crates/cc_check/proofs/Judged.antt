-- LINES ARE JUDGED by the laws of each step.
use Rattle.std.proofs.Common.{arith, ◌≡◌, ◌≢◌, ◌==◌, ℕ, ◌+◌, ◌<◌, Bool, true, false, List, [], ◌∷◌, ◌++◌, length, get_or, take, reverse, vec_len, Vec, Global, refl, sym, ◌∙◌, ap, subst}
use Rattle.std.proofs.lemmas.Bool.{eqb-true, eqb-false}
use Rattle.std.proofs.lemmas.List.{reverse-append, take_all, take_more}
use Rattle.cc_model.specs.declared.item.Item.{Item}
use Rattle.std.specs.Prelude.{◌↔◌, Result, Ok, Err, IfOk, OnOk}
use Rattle.cc_model.specs.Asks.{Ask}
use Rattle.cc_verdict.specs.Following.{Place, Follows, Recites}
use Rattle.cc_verdict.specs.Positions.{Position, GoesOn, reciting}
use Rattle.cc_check.specs.declared.heard.Heard.{Heard}
use Rattle.cc_check.specs.declared.judge.Judge.{Judge}
use Rattle.cc_check.specs.Judging.{IsBetween, IsJudged, IsRefusedAt, StandsFor, no_memory_line}
use Rattle.cc_check.specs.Standing.{IsHeard, IsKept, place_of, position_of}
use Rattle.cc_check.proofs.Passing.{stands}

-- what holds where a call is right, holds by what follows
pub IfOk-then : {A E : Type 0} (r : Result A E) (P Q : A → Type 0) → ((x : A) → P x → Q x) → IfOk r P → IfOk r Q
IfOk-then (Ok x) P Q f h = f x h
IfOk-then (Err e) P Q f h = h

-- what goes on may be said in another way
pub IsJudged-as : (heard : Heard) (may other : List Ask → List (List ℕ) → Type 0) (j : Judge) (b : Bool) →
    ((asks : List Ask) (line : List ℕ) (lines : List (List ℕ)) → IsHeard heard line → other asks (line ∷ lines) ↔ may asks (line ∷ lines)) →
    ((asks : List Ask) (line : List ℕ) (lines : List (List ℕ)) → line ≢ no_memory_line → other asks (line ∷ lines) ↔ may asks (line ∷ lines)) →
    IsJudged heard may j b → IsJudged heard other j b
IsJudged-as heard may other j b same wide h = record {
  kept = h.kept;
  yes = λ e asks line lines hd. let s = same asks line lines hd in let y = h.yes e asks line lines hd in ((λ o. y.0 (s.0 o)), (λ g. s.1 (y.1 g)));
  no = λ e asks line lines hd o. h.no e asks line lines hd ((same asks line lines hd).0 o);
  stands = λ e asks line lines n. let s = wide asks line lines n in let t = h.stands e asks line lines n in ((λ o. t.0 (s.0 o)), (λ g. s.1 (t.1 g)));
  refused = h.refused;
}

-- an answer that is over goes on where nothing is recited
pub between : (p : Position) (place : Place) → p ≡ reciting [] place →
    ((p : Place) (asks : List Ask) (lines : List (List ℕ)) → Recites [] p asks lines ↔ Follows p asks lines) →
    (asks : List Ask) (lines : List (List ℕ)) → GoesOn p asks lines ↔ Follows place asks lines
between p place e law asks lines = subst (λ (q : Position). GoesOn q asks lines ↔ Follows place asks lines) (sym e) (law place asks lines)

-- a judge that stands between two answers goes on as may follow
pub on_between : (j : Judge) → IsBetween j → (place : Place) → place_of j ≡ place →
    ((p : Place) (asks : List Ask) (lines : List (List ℕ)) → Recites [] p asks lines ↔ Follows p asks lines) →
    (asks : List Ask) (lines : List (List ℕ)) → GoesOn (position_of j) asks lines ↔ Follows place asks lines
on_between j b place e law = between (position_of j) place (stands j b.answer b.recital ∙ ap (reciting []) e) law

-- the same items are recited from the same place
pub recites-as : (items told : List Item) (p q : Place) (asks : List Ask) (lines : List (List ℕ)) → items ≡ told → p ≡ q → Recites told q asks lines ↔ Recites items p asks lines
recites-as items told p q asks lines e f = (
  (λ r. subst (λ (is : List Item). Recites is p asks lines) (sym e) (subst (λ (o : Place). Recites told o asks lines) (sym f) r)),
  (λ r. subst (λ (is : List Item). Recites is q asks lines) e (subst (λ (o : Place). Recites items o asks lines) f r)),
)

-- what holds after a call that is right, holds by what follows
pub OnOk-then : {A E : Type 0} (r : Result A E) (P Q : Type 0) → (P → Q) → OnOk r P → OnOk r Q
OnOk-then (Ok x) P Q f h = f h
OnOk-then (Err e) P Q f h = h

-- what holds where a call is right, holds of what it says
pub IfOk-at : {A E : Type 0} (r : Result A E) (P : A → Type 0) (x : A) → IfOk r P → r ≡ Ok x → P x
IfOk-at r P x h e = subst (λ s. IfOk s P) e h

-- Whether anything is left of a recital

empty : {X : Type 0} (xs : List X) → length xs ≡ 0 → xs ≡ []
empty [] e = refl
empty (x ∷ xs) e = absurd (omega arith)

pub nothing_left : (v : Vec Item Global) → (vec_len v == 0) ≡ true → v.items ≡ []
nothing_left v e = let none : vec_len v ≡ 0 = eqb-true (vec_len v) 0 e in empty v.items (omega (arith, v.ok.0))

pub something_left : (v : Vec Item Global) → (vec_len v == 0) ≡ false → 0 < length v.items
something_left v e = let some : vec_len v ≢ 0 = eqb-false (vec_len v) 0 e in omega (arith, v.ok.0)

-- The item that comes next is the last one that is kept

pub last-first : {X : Type 0} (xs : List X) (n : ℕ) (x : X) → n + 1 ≡ length xs → x ≡ get_or xs n x → reverse xs ≡ x ∷ reverse (take n xs)
last-first {X} xs n x count at =
    let whole : xs ≡ take n xs ++ x ∷ [] = sym (take_all (n + 1) xs (omega arith)) ∙ (take_more xs n x (omega arith) ∙ ap (λ (y : X). take n xs ++ y ∷ []) (sym at)) in
    ap (λ (ys : List X). reverse ys) whole ∙ reverse-append (take n xs) (x ∷ [])

-- where the position is the same, what goes on is
pub stands-same : (p q : Position) → p ≡ q → StandsFor (λ asks lines. GoesOn q asks lines) p
stands-same p q e = λ asks line lines n. ((λ g. subst (λ (o : Position). GoesOn o asks (line ∷ lines)) (sym e) g), (λ g. subst (λ (o : Position). GoesOn o asks (line ∷ lines)) e g))

-- a line that is refused at a position is refused where it is the same
pub refused-same : (p q : Position) (asks : List Ask) (line : List ℕ) → p ≡ q → IsRefusedAt q asks line → IsRefusedAt p asks line
refused-same p q asks line e r = subst (λ (o : Position). IsRefusedAt o asks line) (sym e) r

-- a judge that judged a line is kept
pub judged-kept : {E : Type 0} (heard : Heard) (may : List Ask → List (List ℕ) → Type 0) (j : Judge) (r : Result Bool E) → IfOk r (IsJudged heard may j) → OnOk r (IsKept j)
judged-kept heard may j (Ok b) h = h.kept
judged-kept heard may j (Err e) h = tt
