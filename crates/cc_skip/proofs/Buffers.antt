-- THE BUFFER once natives have lost their marks: one of them, and those of some names.
use Rattle.std.proofs.Common.{◌≡◌, ℕ, ◌+◌, ◌≤◌, ◌==◌, Bool, true, false, cond, ◌&&◌, ◌||◌, List, [], ◌∷◌, map, length, refl, sym, ◌∙◌, ap, subst, if◌then◌else◌, arith, count_by}
use Rattle.std.specs.List.{filter}
use Rattle.std.proofs.lemmas.Bool.{eqb-true}
use Rattle.cc_lists.specs.Members.{has}
use Rattle.cc_lists.specs.Walks.{HasDistinctKeys}
use Rattle.cc_lists.proofs.Counting.{count_by-cons}
use Rattle.cc_lists.proofs.ListWrites.{map-unchanged}
use Rattle.cc_lists.proofs.Numbers.{eqb-sym}
use Rattle.cc_lists.proofs.Walks.{AreOthers, others-around}
use Rattle.cc_names.specs.declared.name.Name.{Name}
use Rattle.cc_names.specs.Names.{native, same_name}
use Rattle.cc_model.specs.Heap.{Buffered}
use Rattle.cc_model.specs.Skipping.{unmarked_among, without_mark}
use Rattle.cc_model.specs.View.{buffered}
use Rattle.cc_counted.specs.Suspects.{is_purple_in}

abbrev number : Buffered → ℕ
number b = b.number

-- each native stands there at most once
abbrev pub IsOnceEach : List Buffered → Type 0
IsOnceEach bs = HasDistinctKeys number bs

-- How many have the mark

abbrev pub purple_in : List Buffered → ℕ
purple_in bs = count_by (λ (b : Buffered). b.purple) bs

pub purple-length : (bs : List Buffered) → length (map buffered (filter (λ b. b.purple) bs)) ≡ purple_in bs
purple-length [] = refl
purple-length (b ∷ bs) = go (purple-length bs) b.purple refl
  where
    go : length (map buffered (filter (λ c. c.purple) bs)) ≡ purple_in bs → (t : Bool) → b.purple ≡ t →
        length (map buffered (cond t (b ∷ filter (λ c. c.purple) bs) (filter (λ c. c.purple) bs))) ≡ purple_in (b ∷ bs)
    go ih true e = rw (count_by-cons (λ (c : Buffered). c.purple) b bs, e) (omega (arith, ih))
    go ih false e = rw (count_by-cons (λ (c : Buffered). c.purple) b bs, e) (omega (arith, ih))

cond-few : (t : Bool) → cond t 1 0 ≤ 1
cond-few true = omega arith
cond-few false = omega arith

pub purple-few : (bs : List Buffered) → purple_in bs ≤ length bs
purple-few [] = omega arith
purple-few (b ∷ bs) = omega (arith, purple-few bs, count_by-cons (λ (c : Buffered). c.purple) b bs, cond-few b.purple)

-- ONE LOSES ITS MARK

-- others keep theirs
others-kept : (k : ℕ) (bs : List Buffered) → AreOthers number k bs → map (without_mark k) bs ≡ bs
others-kept k bs o = map-unchanged (without_mark k) bs (λ b m. ap (λ t. if t then record b { purple = false } else b) (o b m))

others-behind : (k : ℕ) (b : Buffered) (bs : List Buffered) → IsOnceEach (b ∷ bs) → (b.number == k) ≡ true → AreOthers number k bs
others-behind k b bs once here =
    let same : b.number ≡ k = eqb-true b.number k here in
    subst (λ j. AreOthers number j bs) same (others-around number [] b bs once).1

once-behind : (b : Buffered) (bs : List Buffered) → IsOnceEach (b ∷ bs) → IsOnceEach bs
once-behind b bs once j = omega (arith, once j, count_by-cons (λ (c : Buffered). c.number == j) b bs)

-- where it has none, nothing changes
pub unmarked-none : (k : ℕ) (bs : List Buffered) → IsOnceEach bs → is_purple_in bs k ≡ false → map (without_mark k) bs ≡ bs
unmarked-none k [] once e = refl
unmarked-none k (b ∷ bs) once e = go (unmarked-none k bs (once-behind b bs once)) (b.number == k) refl e
  where
    go : (is_purple_in bs k ≡ false → map (without_mark k) bs ≡ bs) → (t : Bool) → (b.number == k) ≡ t →
        elim t [ true ↦ b.purple | false ↦ is_purple_in bs k ] ≡ false → (if t then record b { purple = false } else b) ∷ map (without_mark k) bs ≡ b ∷ bs
    go ih true here e = λ i. record b { purple = sym e i } ∷ others-kept k bs (others-behind k b bs once here) i
    go ih false here e = ap (λ cs. b ∷ cs) (ih e)

-- where it has one, there is one mark less
pub unmarked-fewer : (k : ℕ) (bs : List Buffered) → IsOnceEach bs → is_purple_in bs k ≡ true → 1 + purple_in (map (without_mark k) bs) ≡ purple_in bs
unmarked-fewer k [] once e = absurd (cc)
unmarked-fewer k (b ∷ bs) once e = go (unmarked-fewer k bs (once-behind b bs once)) (b.number == k) refl e
  where
    go : (is_purple_in bs k ≡ true → 1 + purple_in (map (without_mark k) bs) ≡ purple_in bs) → (t : Bool) → (b.number == k) ≡ t →
        elim t [ true ↦ b.purple | false ↦ is_purple_in bs k ] ≡ true →
        1 + purple_in ((if t then record b { purple = false } else b) ∷ map (without_mark k) bs) ≡ purple_in (b ∷ bs)
    go ih true here e =
        let after : purple_in (record b { purple = false } ∷ map (without_mark k) bs) ≡ cond false 1 0 + purple_in (map (without_mark k) bs) =
        count_by-cons (λ (c : Buffered). c.purple) (record b { purple = false }) (map (without_mark k) bs) in
        let others : purple_in (map (without_mark k) bs) ≡ purple_in bs = ap purple_in (others-kept k bs (others-behind k b bs once here)) in
        let before : purple_in (b ∷ bs) ≡ 1 + purple_in bs = count_by-cons (λ (c : Buffered). c.purple) b bs ∙ ap (λ t. cond t 1 0 + purple_in bs) e in
        omega (arith, after, others, before)
    go ih false here e = omega (
      arith,
      ih e,
      count_by-cons (λ (c : Buffered). c.purple) b (map (without_mark k) bs),
      count_by-cons (λ (c : Buffered). c.purple) b bs,
    )

-- THOSE OF SOME NAMES LOSE THEIR MARKS

-- of no names
pub unmarked-nothing : (bs : List Buffered) → map (unmarked_among []) bs ≡ bs
unmarked-nothing bs = map-unchanged (unmarked_among []) bs (λ b m. go b b.purple)
  where
    go : (b : Buffered) (t : Bool) → (if t && false then record b { purple = false } else b) ≡ b
    go b true = refl
    go b false = refl

-- one name more
unmarked-number : (names : List Name) (b : Buffered) → (unmarked_among names b).number ≡ b.number
unmarked-number names b = go (b.purple && has same_name names (buffered b))
  where
    go : (t : Bool) → (if t then record b { purple = false } else b).number ≡ b.number
    go true = refl
    go false = refl

one-more : (k : ℕ) (names : List Name) (b : Buffered) → without_mark k (unmarked_among names b) ≡ unmarked_among (native k ∷ names) b
one-more k names b =
    ap (λ n. if n == k then record (unmarked_among names b) { purple = false } else unmarked_among names b) (unmarked-number names b)
    ∙ go b.purple (has same_name names (buffered b)) (b.number == k) (k == b.number) refl (eqb-sym b.number k)
  where
    bare : Buffered
    bare = record b { purple = false }

    go : (t u v w : Bool) → b.purple ≡ t → v ≡ w →
        (if v then record (if t && u then bare else b) { purple = false } else (if t && u then bare else b)) ≡ (if t && (w || u) then bare else b)
    go true true true true e s = refl
    go true true true false e s = absurd (cc)
    go true true false true e s = absurd (cc)
    go true true false false e s = refl
    go true false true true e s = refl
    go true false true false e s = absurd (cc)
    go true false false true e s = absurd (cc)
    go true false false false e s = refl
    go false u true w e s = λ i. record b { purple = sym e i }
    go false u false w e s = refl

pub unmarked-more : (k : ℕ) (names : List Name) (bs : List Buffered) → map (without_mark k) (map (unmarked_among names) bs) ≡ map (unmarked_among (native k ∷ names)) bs
unmarked-more k names [] = refl
unmarked-more k names (b ∷ bs) = λ i. one-more k names b i ∷ unmarked-more k names bs i

-- names that say the same of natives
pub unmarked-same : (names others : List Name) → ((k : ℕ) → has same_name names (native k) ≡ has same_name others (native k)) → (bs : List Buffered) →
    map (unmarked_among names) bs ≡ map (unmarked_among others) bs
unmarked-same names others same [] = refl
unmarked-same names others same (b ∷ bs) =
    λ i. (if b.purple && same b.number i then record b { purple = false } else b) ∷ unmarked-same names others same bs i
