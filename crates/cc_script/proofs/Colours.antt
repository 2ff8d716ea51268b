-- COLOURS: below is an order, and raising never lowers.
use Rattle.cc_lists.proofs.Held.{of-test}
use Rattle.std.proofs.Common.{◌≡◌, Bool, true, false, refl, ap, ◌⊎◌, arith}
use Rattle.std.proofs.lemmas.Bool.{true≢false}
use Rattle.cc_names.specs.declared.kind.Colour.{Colour}
use Rattle.cc_names.specs.declared.kind.Colour.TheVariants.{White}
use Rattle.cc_script.specs.Objects.{Object, is_below, raised, with_colour}

pub not_below-self : (a : Colour) → is_below a a ≡ false
not_below-self a = grind arith

pub not_below-white : (a : Colour) → is_below a White ≡ false
not_below-white a = grind arith

-- what is not below another that is not below a third is not below the third
pub not_below-trans : (a b c : Colour) → is_below a b ≡ false → is_below b c ≡ false → is_below a c ≡ false
not_below-trans a b c e f = grind (arith, true≢false)

-- what is above something that is not below a third is not below the third
pub above-not_below : (a b c : Colour) → is_below a b ≡ true → is_below a c ≡ false → is_below b c ≡ false
above-not_below a b c e f = grind (arith, true≢false)

-- what is not below a colour is not white, or nothing is below that colour
pub not_below-cases : (a to : Colour) → is_below a to ≡ false → (to ≡ White) ⊎ (is_below White a ≡ true)
not_below-cases a to e = grind (arith, true≢false)

-- Raising

abbrev raised_if : Colour → Object → Bool → Object
raised_if to o b = elim b [ true ↦ with_colour to o | false ↦ o ]

pub raised-key : (to : Colour) (o : Object) → (raised to o).key ≡ o.key
raised-key to o = of-test (λ (z : Object). z.key ≡ o.key) (is_below o.colour to) (with_colour to o) o refl refl

pub raised-slots : (to : Colour) (o : Object) → (raised to o).slots ≡ o.slots
raised-slots to o = of-test (λ (z : Object). z.slots ≡ o.slots) (is_below o.colour to) (with_colour to o) o refl refl

pub raised-delegate : (to : Colour) (o : Object) → (raised to o).delegate ≡ o.delegate
raised-delegate to o = of-test (λ (z : Object). z.delegate ≡ o.delegate) (is_below o.colour to) (with_colour to o) o refl refl

-- an object that is below is painted
pub raised-below : (to : Colour) (o : Object) → is_below o.colour to ≡ true → raised to o ≡ with_colour to o
raised-below to o e = ap (raised_if to o) e

-- one that isn't stays as it is
pub raised-same : (to : Colour) (o : Object) → is_below o.colour to ≡ false → raised to o ≡ o
raised-same to o e = ap (raised_if to o) e

-- then it is not below
pub raised-enough : (to : Colour) (o : Object) → is_below (raised to o).colour to ≡ false
raised-enough to o = grind (arith, raised-below, not_below-self, raised-same)

-- nor below what it was not below
pub raised-keeps : (to : Colour) (o : Object) (c : Colour) → is_below o.colour c ≡ false → is_below (raised to o).colour c ≡ false
raised-keeps to o c h = grind (arith, raised-below, above-not_below, raised-same)

-- raising again changes nothing
pub raised-again : (to : Colour) (o : Object) → raised to (raised to o) ≡ raised to o
raised-again to o = raised-same to (raised to o) (raised-enough to o)
