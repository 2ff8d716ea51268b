-- WHICH ENTRIES STAY, by answers, and by a test that all answers agree with.
use Rattle.std.proofs.Common.{◌≡◌, ℕ, Bool, true, false, ◌&&◌, List, [], ◌∷◌, refl, arith, sym, ◌∙◌, ap, ⊎_elim}
use Rattle.std.proofs.lemmas.Bool.{and_from}
use Rattle.std.proofs.Math.Bool.{and-false}
use Rattle.std.proofs.lemmas.List.Elements.{filter_from_retain}
use Rattle.cc_names.specs.declared.number.SKey.{SKey}
use Rattle.cc_weakmaps.specs.Entries.{KeyedEntry, HasOneEach}
use Rattle.cc_weakmaps.specs.Living.{Stays, AreLiving, living, script_key}
use Rattle.cc_weakmaps.proofs.OneEach.{HasOneEach-where_true}

-- no entries
pub living-none : (answers : SKey → Bool → Type 0) → AreLiving answers [] []
living-none answers = record { filtered = ([], tt, refl, refl, refl) }

-- one entry more, in front
pub living-kept : (answers : SKey → Bool → Type 0) (e : KeyedEntry) (old new : List KeyedEntry) → Stays answers e true → AreLiving answers old new → AreLiving answers (e ∷ old) (e ∷ new)
living-kept answers e old new s h = let f = h.filtered in record { filtered = (true ∷ f.0, tt, omega (arith, f.2), (tt, s, f.3), ap (λ es. e ∷ es) f.4) }

pub living-dropped : (answers : SKey → Bool → Type 0) (e : KeyedEntry) (old new : List KeyedEntry) → Stays answers e false → AreLiving answers old new → AreLiving answers (e ∷ old) new
living-dropped answers e old new s h = let f = h.filtered in record { filtered = (false ∷ f.0, tt, omega (arith, f.2), (tt, s, f.3), f.4) }

-- at most one for each map and key is left
pub HasOneEach-living : (answers : SKey → Bool → Type 0) (old new : List KeyedEntry) → AreLiving answers old new → HasOneEach old → HasOneEach new
HasOneEach-living answers old new h = HasOneEach-where_true h.filtered.0 old new h.filtered.4

-- the same by a test
pub living-by : (answers : SKey → Bool → Type 0) (lives : ℕ → Bool) → ((k : SKey) (b : Bool) → answers k b → b ≡ lives k.0) → (old new : List KeyedEntry) → AreLiving answers old new → new ≡ living lives old
living-by answers lives by old new h = filter_from_retain (λ (before : Unit {0}) e stays after. Stays answers e stays) (λ e. lives e.the_map && lives e.key) (λ p e b q. each e b) tt old new h.filtered
  where
    each : (e : KeyedEntry) (b : Bool) → Stays answers e b → b ≡ (lives e.the_map && lives e.key)
    each e true s = sym (and_from (lives e.the_map) (lives e.key) (sym (by (script_key e.the_map) true s.0)) (sym (by (script_key e.key) true s.1)))
    each e false s = ⊎_elim
        (λ t. sym (ap (λ b. b && lives e.key) (sym (by (script_key e.the_map) false t))))
        (λ t. sym (ap (λ b. lives e.the_map && b) (sym (by (script_key e.key) false t)) ∙ and-false (lives e.the_map)))
        s
