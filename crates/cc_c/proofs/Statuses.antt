-- A status from what a host answered.
use Rattle.std.proofs.Common.{◌≡◌, ℕ, inl, inr, refl, sym, ap, subst, ◌∙◌}
use Rattle.std.specs.Prelude.{Option, None, Some, Result, Ok, Err, ◌⊎◌}
use Rattle.std.proofs.lemmas.Bool.{false≢true}
use Rattle.cc_host.specs.declared.stop.Stop.{Stop}
use Rattle.cc_host.specs.declared.stop.Stop.TheVariants.{NoMemory, Full}
use Rattle.cc_host.specs.Stops.{IsStoppedBy, IsStoppedOrRefused}
use Rattle.cc_host.specs.Hosts.{State}
use Rattle.cc_host.specs.Calls.{Comes}
use Rattle.cc_host.specs.declared.object.Object.{Object}
use Rattle.cc_host.specs.Refusals.{IsStoppedOrWants, IsRootRefused}
use Rattle.cc_c.specs.Values.{IsStatus, IsStatusOrRefused, IsStatusOrWants, IsRootStatus, status_of}

abbrev Same : (T : Type 0) → Result T Stop → Result T Stop → Type 0
Same T a b = a ≡ b

same-number : (T : Type 0) (s t : Stop) → Same T (Err s) (Err t) → status_of s ≡ status_of t
same-number T s t e = let k : s ≡ t = cc in ap status_of k

pub status-ok : {T : Type 0} (o : Option Stop) (x : T) → IsStoppedBy o (Ok x) → IsStatus o 0
status-ok None x s = refl
status-ok (Some t) x s = cc

pub status-err : (T : Type 0) (o : Option Stop) (s : Stop) → IsStoppedBy {T = T} o (Err s) → IsStatus o (status_of s)
status-err T None s h = absurd (false≢true h)
status-err T (Some t) s e = same-number T s t e

pub refused-ok : {T : Type 0} (o : Option Stop) (x : T) → IsStoppedOrRefused o (Ok x) → IsStatusOrRefused o 0
refused-ok None x s = inl refl
refused-ok (Some t) x s = cc

pub refused-err : (T : Type 0) (o : Option Stop) (s : Stop) → IsStoppedOrRefused {T = T} o (Err s) → IsStatusOrRefused o (status_of s)
refused-err T None s only = inr (ap status_of (only s refl))
refused-err T (Some t) s e = same-number T s t e

pub wants-ok : {T : Type 0} (o : Option Stop) (x : T) → IsStoppedOrWants o (Ok x) → IsStatusOrWants o 0
wants-ok None x s = inl refl
wants-ok (Some t) x (inl e) = cc
wants-ok (Some t) x (inr e) = cc

pub wants-err : (T : Type 0) (o : Option Stop) (s : Stop) → IsStoppedOrWants {T = T} o (Err s) → IsStatusOrWants o (status_of s)
wants-err T None s only = inr (ap status_of (only s refl))
wants-err T (Some t) s (inl e) = inl (same-number T s t e)
wants-err T (Some t) s (inr e) = inr (same-number T s NoMemory e)

pub root-ok : {T : Type 0} (o : Option Stop) (x : T) → IsRootRefused o (Ok x) → IsRootStatus o 0
root-ok None x s = inl refl
root-ok (Some t) x s = cc

pub root-err : (T : Type 0) (o : Option Stop) (s : Stop) → IsRootRefused {T = T} o (Err s) → IsRootStatus o (status_of s)
root-err T None s only = inr (either (only s refl))
  where
    either : (s ≡ NoMemory) ⊎ (s ≡ Full) → (status_of s ≡ 8) ⊎ (status_of s ≡ 7)
    either (inl e) = inl (ap status_of e)
    either (inr e) = inr (ap status_of e)
root-err T (Some t) s e = same-number T s t e

pub ruleset by_stop = (status-ok, status-err)

pub ruleset by_stop_or_refusal = (refused-ok, refused-err)

pub ruleset by_stop_or_want = (wants-ok, wants-err)

pub ruleset by_stop_of_root = (root-ok, root-err)

-- The same of what the stop is read of, where that is equal

pub answered : {A : Type 0} (IsSo : Option Stop → ℕ → Type 0) (stop : A → Option Stop) (a b : A) (s : Stop) (n : ℕ) →
    IsSo (stop a) (status_of s) → a ≡ b → n ≡ status_of s → IsSo (stop b) n
answered IsSo stop a b s n so e f = subst (λ (m : ℕ). IsSo (stop b) m) (sym f) (subst (λ x. IsSo (stop x) (status_of s)) e so)

abbrev pub pair_of : {A B : Type 0} → A → B → A × B
pair_of a b = (a, b)

pub both : {A B : Type 0} (a x : A) (b y : B) → a ≡ x → b ≡ y → pair_of a b ≡ pair_of x y
both a x b y e f = ap (λ z. pair_of z b) e ∙ ap (pair_of x) f

-- what a host was, of which an open collector's box was taken
pub taken : (now v s : State) (o : Option State) → now ≡ v → Some v ≡ o → o ≡ Some s → now ≡ s
taken now v s o e f g = cc

-- what a host became, which an open collector got
pub given_back : (now t : State) (o : Option State) → o ≡ Some now → o ≡ Some t → now ≡ t
given_back now t o e f = cc

-- what a call made of the host that it took out, of the collector that it was handed
pub carried : (R : State → State → Type 0) (was is v s t : State) (o p : Option State) →
    was ≡ v → Some v ≡ o → o ≡ Some s → p ≡ Some is → p ≡ Some t → R was is → R s t
carried R was is v s t o p e f g h k r = subst (λ (x : State). R x t) (taken was v s o e f g) (subst (λ (x : State). R was x) (given_back is t p h k) r)

-- what came, as it is shown to C
pub came_as : (made x : Object) (s t : State) → made ≡ x → Comes x.name s.host t.host → Comes made.name s.host t.host
came_as made x s t e r = subst (λ (o : Object). Comes o.name s.host t.host) (sym e) r
