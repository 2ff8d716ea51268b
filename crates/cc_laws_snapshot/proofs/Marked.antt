-- THE NAMES IN THE BUFFER after a mark was set.
use Rattle.std.proofs.Common.{arith, ◌≡◌, ℕ, Bool, true, false, List, [], ◌∷◌, map, refl, sym, ◌∙◌, ap, inl, inr, ◌⊎◌, ⊎_elim, ◌==◌}
use Rattle.std.specs.List.{filter}
use Rattle.std.proofs.lemmas.Bool.{eqb-true}
use Rattle.cc_lists.specs.Members.{Among}
use Rattle.cc_lists.proofs.Members.{Among-map, Among-map_cases, Among-filter, Among-filtered, Among-passes}
use Rattle.cc_names.specs.declared.name.Name.{Name}
use Rattle.cc_names.specs.Names.{native}
use Rattle.cc_model.specs.Heap.{Buffered, with_mark, buffered_as}
use Rattle.cc_model.specs.View.{buffered}

-- the names in a buffer
abbrev pub names_in : List Buffered → List Name
names_in bs = map buffered bs

-- the purple names in a buffer
abbrev pub IsPurpleName : List Buffered → Name → Type 0
IsPurpleName bs x = Among x (map buffered (filter (λ b. b.purple) bs))

-- a place of the buffer with the mark gives a purple name
pub purple-name : (bs : List Buffered) (b : Buffered) → Among b bs → b.purple ≡ true → IsPurpleName bs (native b.number)
purple-name bs b m e = Among-map buffered b (filter (λ b. b.purple) bs) (Among-filter (λ (b : Buffered). b.purple) b bs m e)

-- a purple name has a place with the mark
pub purple-place : (bs : List Buffered) (x : Name) → IsPurpleName bs x → (b : Buffered) × Among b bs × (b.purple ≡ true) × (native b.number ≡ x)
purple-place bs x m =
    let f = Among-map_cases buffered (filter (λ b. b.purple) bs) x m in
    (f.0, Among-filtered (λ (b : Buffered). b.purple) f.0 bs f.1, Among-passes (λ (b : Buffered). b.purple) f.0 bs f.1, f.2)

-- a mark set has a place
pub with_mark-place : (m : Bool) (k : ℕ) (bs : List Buffered) → Among (buffered_as k m) (with_mark m k bs)
with_mark-place m k [] = inl refl
with_mark-place m k (b ∷ bs) = go (with_mark-place m k bs) (b.number == k) refl
  where
    go : Among (buffered_as k m) (with_mark m k bs) → (t : Bool) → (b.number == k) ≡ t →
        Among (buffered_as k m) (elim t [ true ↦ record b { purple = m } ∷ bs | false ↦ b ∷ with_mark m k bs ])
    go ih true e = inl (ap (λ (n : ℕ). buffered_as n m) (eqb-true b.number k e))
    go ih false e = inr ih

-- so the native that was marked is there
pub with_mark-there : (m : Bool) (k : ℕ) (bs : List Buffered) → Among (native k) (names_in (with_mark m k bs))
with_mark-there m k bs = Among-map buffered (buffered_as k m) (with_mark m k bs) (with_mark-place m k bs)

-- a place of the buffer stays, or it is that of the native that is marked
pub with_mark-stays : (m : Bool) (k : ℕ) (bs : List Buffered) (b : Buffered) → Among b bs → (b.number ≡ k) ⊎ Among b (with_mark m k bs)
with_mark-stays m k [] b i = absurd i
with_mark-stays m k (c ∷ bs) b i = go (with_mark-stays m k bs b) (c.number == k) refl
  where
    go : (Among b bs → (b.number ≡ k) ⊎ Among b (with_mark m k bs)) → (t : Bool) → (c.number == k) ≡ t →
        (b.number ≡ k) ⊎ Among b (elim t [ true ↦ record c { purple = m } ∷ bs | false ↦ c ∷ with_mark m k bs ])
    go ih true e = ⊎_elim (λ s. inl (ap (λ (d : Buffered). d.number) (sym s) ∙ eqb-true c.number k e)) (λ t. inr (inr t)) i
    go ih false e = ⊎_elim (λ s. inr (inl s)) (λ t. ⊎_elim (λ l. inl l) (λ r. inr (inr r)) (ih t)) i

-- who was there stays there
pub with_mark-keeps : (m : Bool) (k : ℕ) (bs : List Buffered) (x : Name) → Among x (names_in bs) → Among x (names_in (with_mark m k bs))
with_mark-keeps m k bs x i = grind (arith, Among-map_cases, with_mark-there, Among-map, with_mark-stays)
