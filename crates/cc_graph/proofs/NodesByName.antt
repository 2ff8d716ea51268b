-- Nodes by their names: a node that is added last, and the tables of numbers.
use Rattle.std.proofs.Common.{◌≡◌, ℕ, ◌+◌, ◌==◌, ◌<◌, suc, Bool, true, false, cond, List, [], ◌∷◌, ◌++◌, length, refl, sym, ◌∙◌, arith, Some, None, if◌then◌else◌}
use Rattle.std.specs.Prelude.{Option, IfNone, IfSome}
use Rattle.cc_names.specs.declared.name.Name.{Name}
use Rattle.cc_names.specs.declared.name.Name.TheVariants.{Native, Script, Reflector}
use Rattle.cc_names.specs.declared.number.NativeNo.{NativeNo}
use Rattle.cc_names.specs.Names.{native, same_name}
use Rattle.cc_pages.specs.declared.pages.Pages.{Pages}
use Rattle.cc_pages.specs.Values.{value_at}
use Rattle.cc_graph.specs.declared.numbers.Numbers.{Numbers}
use Rattle.cc_graph.specs.Shown.{Vertex, number_from, number_of}
use Rattle.cc_graph.specs.Kept.{number_at}
use Rattle.cc_graph.specs.Natives.{IsLast, IsNext}

number-here : (i : ℕ) (v : Vertex) (vs : List Vertex) (x : Name) → same_name v.name x ≡ true → number_from i (v ∷ vs) x ≡ Some i
number-here i v vs x h = rw (number_from, h) refl

number-later : (i : ℕ) (v : Vertex) (vs : List Vertex) (x : Name) → same_name v.name x ≡ false → number_from i (v ∷ vs) x ≡ number_from (suc i) vs x
number-later i v vs x h = rw (number_from, h) refl

-- the numbers of names where one more node stands last
abbrev pub or_last : Option ℕ → Bool → ℕ → Option ℕ
or_last (Some k) same n = Some k
or_last None same n = cond same (Some n) None

pub number-pushed : (i : ℕ) (vs : List Vertex) (v : Vertex) (x : Name) → number_from i (vs ++ v ∷ []) x ≡ or_last (number_from i vs x) (same_name v.name x) (i + length vs)
number-pushed i [] v x = grind (arith, number-here, number-later)
number-pushed i (w ∷ ws) v x = grind (arith, number-here, number-later, number-pushed (suc i) ws v x)

-- The tables of numbers

-- what they say of a name that was given a number, or whose number was taken away
abbrev pub IsChangedAt : Numbers → Numbers → Option ℕ → Name → Type 0
IsChangedAt ns ms o name = (x : Name) → number_at ms x ≡ (if same_name name x then o else number_at ns x)

pub native-changed : (ns : Numbers) (ps : Pages) (k : NativeNo) (o : Option ℕ) → ((n : ℕ) → value_at ps n ≡ (if k.0 == n then o else value_at ns.natives n)) →
    IsChangedAt ns (record ns { natives = ps }) o (Native k)
native-changed ns ps k o given (Native n) = given n.0
native-changed ns ps k o given (Script n) = refl
native-changed ns ps k o given (Reflector n) = refl

-- where none has a value, no name has a number
pub numbers-none : (ns : Numbers) → ((n : ℕ) → value_at ns.natives n ≡ None) → ((n : ℕ) → value_at ns.scripts n ≡ None) → ((n : ℕ) → value_at ns.reflectors n ≡ None) →
    (x : Name) → number_at ns x ≡ None
numbers-none ns natives scripts reflectors x = grind (arith)

-- The natives by rising number

-- the next one is next by what says the same
next-alike : (f g : Name → Option ℕ) → ((x : Name) → f x ≡ g x) → (after : Option NativeNo) (k n : ℕ) → IsNext f after k n → IsNext g after k n
next-alike f g same after k n h = grind (arith)

last-alike : (f g : Name → Option ℕ) → ((x : Name) → f x ≡ g x) → (after : Option NativeNo) → IsLast f after → IsLast g after
last-alike f g same after h j from = sym (same (native j)) ∙ h j from

pub next-some : (f g : Name → Option ℕ) → ((x : Name) → f x ≡ g x) → (after : Option NativeNo) (next : Option (NativeNo × ℕ)) →
    IfSome next (λ r. IsNext f after r.0.0 r.1) → IfSome next (λ r. IsNext g after r.0.0 r.1)
next-some f g same after next h = grind (arith, next-alike)

pub last-none : (f g : Name → Option ℕ) → ((x : Name) → f x ≡ g x) → (after : Option NativeNo) (next : Option (NativeNo × ℕ)) →
    IfNone next (IsLast f after) → IfNone next (IsLast g after)
last-none f g same after next h = grind (arith, last-alike)

-- its node is one
pub next-within : (vs : List Vertex) (after : Option NativeNo) (next : Option (NativeNo × ℕ)) → ((x : Name) → IfSome (number_of vs x) (λ i. i < length vs)) →
    IfSome next (λ r. IsNext (number_of vs) after r.0.0 r.1) → IfSome next (λ r. r.1 < length vs)
next-within vs after next within h = grind (arith)
