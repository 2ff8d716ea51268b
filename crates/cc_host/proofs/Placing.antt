-- WHY A ROOT HAS NO PLACE.
use Rattle.std.proofs.Common.{◌≡◌, ◌≢◌, ℕ, ◌<◌, ◌≤◌, false, is_err, Option, Some, None, Result, Ok, Err, OnOk, refl, sym, ap, subst, arith, inl, ⊎_elim, ◌∙◌}
use Rattle.std.proofs.lemmas.Bool.{cases_lt, false≢true}
use Rattle.std.proofs.lemmas.Bool.Decides.{nat_tests}
use Rattle.cc_host.specs.Hosted.{Hosted}
use Rattle.cc_host.specs.Places.{places}
use Rattle.cc_host.specs.Stops.{IsStoppedBy, IsStoppedOrRefused, first, stop_at, stop_place, stop_placing}
use Rattle.cc_host.specs.declared.object.Object.{Object}
use Rattle.cc_host.specs.declared.stop.Stop.{Stop}
use Rattle.cc_host.specs.declared.stop.Stop.TheVariants.{Full, Index, NoMemory}
use Rattle.cc_host.specs.Refusals.{IsRootRefused, IsStoppedOrWants}

-- what is so where a call goes well, where it went well
pub went_well : {T E P : Type 0} (r : Result T E) → is_err r ≡ false → OnOk r P → P
went_well (Ok x) e p = p
went_well (Err x) e p = absurd (false≢true (sym e))

-- there is such a place
within : (p : ℕ) → p < places → stop_place p ≡ None
within p l = grind (arith, nat_tests)

beyond : (p : ℕ) → places ≤ p → stop_place p ≡ Some Index
beyond p l = grind (arith, nat_tests)

-- an object that is there is refused a place for want of memory, or where there is no such place
pub no-place : {T : Type 0} (h : Hosted) (p : ℕ) (x : Object) (r : Result T Stop) (e : Stop) → stop_at h x ≡ None → IsStoppedOrRefused (stop_placing h p x) r → r ≡ Err e →
    e ≢ NoMemory → places ≤ p
no-place {T} h p x r e there stops is not = ⊎_elim
    (λ l. absurd (not (subst (λ s. IsStoppedOrRefused s r) (ap (λ s. first s (stop_place p)) there ∙ within p l) stops e is)))
    (λ past. past)
    (cases_lt p places)

-- the place at which one stands that is there
pub placed-within : {T : Type 0} (h : Hosted) (p : ℕ) (x : Object) (y : T) → IsStoppedOrRefused (stop_placing h p x) (Ok y) → stop_at h x ≡ None → p < places
placed-within {T} h p x y stops there = ⊎_elim
    (λ l. l)
    (λ past.
    let e : Ok y ≡ Err Index = subst (λ s. IsStoppedOrRefused {T = T} s (Ok y)) (ap (λ s. first s (stop_place p)) there ∙ beyond p past) stops in
    absurd (false≢true (ap is_err e)))
    (cases_lt p places)

-- what is full is no want of memory
pub full-no_memory : {T : Type 0} (r : Result T Stop) (s : Stop) → r ≡ Err s → r ≡ Err Full → s ≢ NoMemory
full-no_memory {T} r s is full wants = cc

-- a test that passed
pub passed : {T : Type 0} (s : Option Stop) (x : T) → IsStoppedBy s (Ok x) → s ≡ None
passed None x h = refl
passed (Some e) x h = absurd (cc)

err-same : (T : Type 0) (e k : Stop) (r : Result T Stop) → r ≡ Err e → r ≡ Err k → e ≡ k
err-same T e k r is also = cc

-- a call that may be refused for want of memory before the host was called
pub stopped-wants : {T : Type 0} (s : Option Stop) (r : Result T Stop) → IsStoppedOrRefused s r → IsStoppedOrWants s r
stopped-wants None r h = h
stopped-wants (Some e) r h = inl h

-- what is refused for want of room alone, by another call
pub refused-alike : (T U : Type 0) (t s : Option Stop) (e : Stop) (r : Result U Stop) → t ≡ None → s ≡ None → r ≡ Err e → IsRootRefused {T = T} t (Err e) → IsRootRefused s r
refused-alike T U t s e r there none is h =
    let known : IsRootRefused {T = T} None (Err e) = subst (λ x. IsRootRefused {T = T} x (Err e)) there h in
    subst (λ x. IsRootRefused x r) (sym none) (λ k f. known k (ap Err (err-same U e k r is f)))
