-- WHAT A CALL ANSWERS: its tests pass, or one of them stops it.
use Rattle.std.proofs.Common.{◌≡◌, ◌≤◌, ◌<◌, ℕ, length, true, false, nat_le, Option, Some, None, Result, Ok, Err, OnErr, refl, sym, ◌∙◌, ap, subst, arith}
use Rattle.std.specs.Prelude.{IsOk, IsSome}
use Rattle.std.proofs.lemmas.Bool.{false≢true}
use Rattle.std.proofs.lemmas.Bool.Decides.{nat_tests}
use Rattle.cc_names.specs.declared.name.Name.{Name}
use Rattle.cc_names.specs.Names.{is_native}
use Rattle.cc_host.specs.declared.stop.Stop.{Stop}
use Rattle.cc_host.specs.declared.stop.Stop.TheVariants.{Index, NoMemory}
use Rattle.cc_host.specs.declared.object.Object.{Object}
use Rattle.cc_host.specs.Hosted.{Hosted, slots_of}
use Rattle.cc_host.specs.Stops.{IsStoppedBy, IsStoppedOrRefused, first, stop_at, stop_if_any, stop_moving, stop_native, stop_script, stop_slot, stop_storing, where_so}

-- What an answer says of its test

pub passed : {T : Type 0} (s : Option Stop) (x : T) → IsStoppedBy s (Ok x) → s ≡ None
passed None x h = refl
passed (Some e) x h = absurd (cc)

pub stopped : (T : Type 0) (s : Option Stop) (e : Stop) → IsStoppedBy {T = T} s (Err e) → s ≡ Some e
stopped T None e h = absurd (false≢true h)
stopped T (Some t) e h = cc

-- and a test of its answer

pub by-passed : {T : Type 0} (s : Option Stop) (x : T) → s ≡ None → IsStoppedBy s (Ok x)
by-passed s x e = subst (λ t. IsStoppedBy t (Ok x)) (sym e) refl

pub by-stopped : (T : Type 0) (s : Option Stop) (e : Stop) → s ≡ Some e → IsStoppedBy {T = T} s (Err e)
by-stopped T s e is = subst (λ t. IsStoppedBy {T = T} t (Err e)) (sym is) refl

-- also where memory may be wanted

pub or-passed : {T : Type 0} (s : Option Stop) (x : T) → s ≡ None → IsStoppedOrRefused s (Ok x)
or-passed s x e = subst (λ t. IsStoppedOrRefused t (Ok x)) (sym e) (λ k is. absurd (cc))

pub or-stopped : (T : Type 0) (s : Option Stop) (e : Stop) → s ≡ Some e → IsStoppedOrRefused {T = T} s (Err e)
or-stopped T s e is = subst (λ t. IsStoppedOrRefused {T = T} t (Err e)) (sym is) refl

pub or-refused : (T : Type 0) (s : Option Stop) → s ≡ None → IsStoppedOrRefused {T = T} s (Err NoMemory)
or-refused T s is = subst (λ t. IsStoppedOrRefused {T = T} t (Err NoMemory)) (sym is) (λ k e. cc)

-- Tests in a row

pub at-first : (s t : Option Stop) (e : Stop) → s ≡ Some e → first s t ≡ Some e
at-first s t e is = ap (λ u. first u t) is

-- the first passes, so the second decides
pub at-second : (s t r : Option Stop) → s ≡ None → t ≡ r → first s t ≡ r
at-second s t r e is = ap (λ u. first u t) e ∙ is

-- An index

pub within : (n i : ℕ) (e : Stop) → i < n → where_so (nat_le n i) e ≡ None
within n i e l = grind (arith, nat_tests)

pub beyond : (n i : ℕ) (e : Stop) → n ≤ i → where_so (nat_le n i) e ≡ Some e
beyond n i e l = grind (arith, nat_tests)

-- Calls at an object

-- its slots, counted otherwise
pub within-slots : (h : Hosted) (x : Object) (n i : ℕ) → n ≡ length (slots_of h x) → i < n → stop_slot h x i ≡ None
within-slots h x n i e l = within (length (slots_of h x)) i Index (subst (λ k. i < k) e l)

pub beyond-slots : (h : Hosted) (x : Object) (n i : ℕ) → n ≡ length (slots_of h x) → n ≤ i → stop_slot h x i ≡ Some Index
beyond-slots h x n i e l = beyond (length (slots_of h x)) i Index (subst (λ k. k ≤ i) e l)

-- a slot of a native, or of a script object, is written as its index allows
pub native-storing : (h : Hosted) (x : Object) (i : ℕ) (y : Option Object) (s : Option Stop) → is_native x.name ≡ true → stop_native h x ≡ None →
    stop_if_any stop_at h y ≡ None → stop_slot h x i ≡ s → stop_storing h x i y ≡ s
native-storing h x i y s kind a b t = grind arith

pub script-storing : (h : Hosted) (x : Object) (i : ℕ) (y : Option Object) (s : Option Stop) → is_native x.name ≡ false → stop_script h x ≡ None →
    stop_if_any stop_script h y ≡ None → stop_slot h x i ≡ s → stop_storing h x i y ≡ s
script-storing h x i y s kind a b t = grind arith

-- what a slot holds is moved, as both indexes allow
pub moving : (h : Hosted) (x : Object) (i : ℕ) (y : Object) (j : ℕ) (s : Option Stop) → stop_native h x ≡ None → stop_native h y ≡ None →
    first (stop_slot h x i) (stop_slot h y j) ≡ s → stop_moving h x i y j ≡ s
moving h x i y j s a b t =
    at-second (stop_native h x) (first (stop_native h y) (first (stop_slot h x i) (stop_slot h y j))) s a
    (at-second (stop_native h y) (first (stop_slot h x i) (stop_slot h y j)) s b t)

-- What is refused

-- is not there, where what is there is never refused
pub refused-none : {A E : Type 0} (r : Result A E) (o : Option Name) → (IsSome o → IsOk r) → OnErr r (o ≡ None)
refused-none (Ok a) o f = tt
refused-none (Err e) None f = refl
refused-none (Err e) (Some x) f = absurd (false≢true (f refl))
