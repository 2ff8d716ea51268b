-- THE STATE BESIDE A HOST'S MACHINE: a graph that the heaps stand for, with weak registers that note nothing, as the machine's do; and the
-- natives that have ended, by the heaps.
use Rattle.std.proofs.Common.{◌≡◌, ℕ, zero, suc, ◌≤◌, Bool, not, List, [], ◌∷◌, length, option_map, refl, sym, ◌∙◌, ap, inl, inr, ◌⊎◌, ⊎_elim, arith}
use Rattle.std.specs.List.{filter}
use Rattle.std.proofs.lemmas.Bool.{cases_Bool}
use Rattle.cc_lists.specs.Members.{Among, has}
use Rattle.cc_lists.proofs.Members.{Among-filter, Among-filtered, Among-passes, has-among, has-there}
use Rattle.cc_names.specs.declared.name.Name.{Name}
use Rattle.cc_names.specs.declared.name.Name.TheVariants as name
use Rattle.cc_names.specs.Names.{native, number_of, same_name}
use Rattle.cc_names.specs.Sizes.{weak_length}
use Rattle.cc_names.proofs.NameTests.{same_name-exact}
use Rattle.cc_model.specs.Slots.{contents, empty_slots}
use Rattle.cc_model.specs.Graph.{Graph}
use Rattle.cc_model.specs.Given.{Given, is_usable}
use Rattle.cc_model.specs.Ended.{EndedAgrees}
use Rattle.cc_model.specs.Heap.{Heap}
use Rattle.cc_model.specs.WellFormed.{IsWellFormed}
use Rattle.cc_model.specs.WellMade.{IsWellMade}
use Rattle.cc_model.specs.StandsFor.{shape_in, StandsFor}
use Rattle.cc_laws_heap.proofs.Following.{Follows, stands-follows}
use Rattle.cc_laws_heap.proofs.Changing.{unchanged, option_map-same, IsChange-unchanged, Follows-changed}
use Rattle.cc_laws_heap.proofs.GraphParts.{IsWellMade-weak, with_weak}
use Rattle.cc_laws_heap.proofs.Standing.{follows-stands}

-- With weak registers that note nothing

-- Registers that note nothing note no name.
none-noted : (n : ℕ) (x : Name) → ¬ (Among x (contents (empty_slots n)))
none-noted zero x m = m
none-noted (suc n) x m = none-noted n x m

-- They are as many.
many : (n : ℕ) → length (empty_slots n) ≡ n
many zero = refl
many (suc n) = ap suc (many n)

-- the graph with weak registers that note nothing
abbrev pub unnoted : Graph → Graph
unnoted g = with_weak g (empty_slots weak_length)

-- Such a graph is well made where the graph is.
pub unnoted-made : (g : Graph) → IsWellMade g → IsWellMade (unnoted g)
unnoted-made g w = IsWellMade-weak g (empty_slots weak_length) w (many weak_length) (λ x m. absurd (none-noted weak_length x m))

-- Objects have the same shapes there.
unnoted-shapes : (g : Graph) (x : Name) → shape_in (unnoted g) x ≡ option_map (unchanged x) (shape_in g x)
unnoted-shapes g (name.Native k) = option_map-same (shape_in g (name.Native k))
unnoted-shapes g (name.Script k) = option_map-same (shape_in g (name.Script k))
unnoted-shapes g (name.Reflector k) = option_map-same (shape_in g (name.Reflector k))

-- HEAPS THAT STAND FOR A GRAPH stand for it with weak registers that note nothing.
pub unnoted-stands : (h : Heap) (g : Graph) → IsWellFormed h → IsWellMade g → StandsFor h g → StandsFor h (unnoted g)
unnoted-stands h g w m s = follows-stands (Given h g) h (unnoted g) w (unnoted-made g m)
    (Follows-changed (Given h g) unchanged h h g (unnoted g)
    (record { natives = λ n i. (n, i, refl, refl, refl); scripts = λ o i. (o, i, refl, refl) })
    (unnoted-shapes g)
    (record { native_registers = refl; script_registers = refl; entries = refl; natives_made = refl; scripts_made = refl; limits = refl })
    (record { native_registers = refl; script_registers = refl; entries = refl; natives_made = refl; scripts_made = refl; limits = refl })
    (IsChange-unchanged (Given h g) h g follows) follows)
  where
    follows : Follows (Given h g) h g
    follows = stands-follows h g w s

-- The natives that have ended

-- the names of the first n natives
abbrev first_natives : ℕ → List Name
first_natives zero = []
first_natives (suc n) = native (suc n) ∷ first_natives n

first-among : (n k : ℕ) → 1 ≤ k → k ≤ n → Among (native k) (first_natives n)
first-among zero k a b = absurd (omega (arith, a, b))
first-among (suc n) k a b = ⊎_elim (λ (e : suc n ≡ k). inl (ap native e)) (λ l. inr (first-among n k a l)) (cases n k b)
  where
    cases : (n k : ℕ) → k ≤ suc n → (suc n ≡ k) ⊎ (k ≤ n)
    cases n k l = grind arith

first-few : (n k : ℕ) → Among (native k) (first_natives n) → k ≤ n
first-few zero k m = absurd m
first-few (suc n) k m = ⊎_elim (λ (e : native (suc n) ≡ native k). let f : suc n ≡ k = ap number_of e in omega (arith, f)) (λ r. let l = first-few n k r in omega (arith, l)) m

-- whether one of the heaps has ended
abbrev has_ended_in : Heap → Name → Bool
has_ended_in h x = not (is_usable h x)

-- the natives that have ended, by the heaps
abbrev pub ended_natives : Heap → List Name
ended_natives h = filter (has_ended_in h) (first_natives h.natives_made)

-- THEY AGREE with the heaps.
pub ended-agrees : (h : Heap) → EndedAgrees h (ended_natives h)
ended-agrees h k a b = ⊎_elim
    (λ t. has-there same_name same_name-exact (ended_natives h) (native k)
    (Among-filter (has_ended_in h) (native k) (first_natives h.natives_made) (first-among h.natives_made k a b) t) ∙ sym t)
    (λ f. ⊎_elim
    (λ t. absurd (let p = Among-passes (has_ended_in h) (native k) (first_natives h.natives_made) (has-among same_name same_name-exact (ended_natives h) (native k) t) in cc))
    (λ g. g ∙ sym f)
    (cases_Bool (has same_name (ended_natives h) (native k))))
    (cases_Bool (has_ended_in h (native k)))

-- They were made.
pub ended-made : (h : Heap) (k : ℕ) → Among (native k) (ended_natives h) → k ≤ h.natives_made
ended-made h k m = first-few h.natives_made k (Among-filtered (has_ended_in h) (native k) (first_natives h.natives_made) m)
