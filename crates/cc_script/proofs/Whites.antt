-- WHITE OBJECTS: all are once they were made so, and what is there is one of them.
use Rattle.std.proofs.Common.{◌≡◌, ℕ, true, List, Some, option_map, sym, ◌∙◌, ap}
use Rattle.cc_lists.proofs.Members.{Among-map_cases}
use Rattle.cc_names.specs.declared.kind.Colour.TheVariants.{White}
use Rattle.cc_script.specs.Objects.{Object, is_there, colour_at, with_colour, whitened}
use Rattle.cc_script.specs.Staying.{AllAreWhite}
use Rattle.cc_script.proofs.Keys.{object_at-among}
use Rattle.cc_script.proofs.Wholeness.{there-object}

pub white-whitened : (objects : List Object) → AllAreWhite (whitened objects)
white-whitened objects o m = let k = Among-map_cases (with_colour White) objects o m in ap (λ (z : Object). z.colour) (sym k.2)

pub white-there : (objects : List Object) (key : ℕ) → AllAreWhite objects → is_there objects key ≡ true → colour_at objects key ≡ Some White
white-there objects key white live =
    let f = there-object objects key live in
    ap (option_map (λ (z : Object). z.colour)) f.1 ∙ ap Some (white f.0 (object_at-among objects key f.0 f.1))
