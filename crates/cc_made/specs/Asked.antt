-- What a made script asks.
use Rattle.std.specs.Prelude.{Bool, true, false, List, [], ◌∷◌, Option, Some, None, nat_lt}
use Rattle.cc_names.specs.declared.register.Reg.{Reg}
use Rattle.cc_names.specs.declared.register.Reg.TheVariants.{N, S, W}
use Rattle.cc_model.specs.declared.command.Command.TheVariants.{Drop, Collect, Gc, Census}
use Rattle.cc_model.specs.Mutating.{census, Class, says, reads_weak, class_of}
use Rattle.cc_model.specs.Asks.{Ask, long, bad, taken}
use Rattle.cc_model.specs.Checks.{Objects}
use Rattle.cc_model.specs.Deeds.{Deed, native_made, plain_made, map_made, proxy_made, native_held, script_held, script_copied, reflector_held, weak_written, deed_of}

-- all but what is said, of which a census alone is asked for
abbrev pub is_asked : Class → Bool
is_asked (says census) = true
is_asked (says q) = false
is_asked _ = true

-- a command: no line that is too long or not in the grammar, none that is blank, no comment, and none that asks for a version or
-- for a way to an object
abbrev pub is_command : Ask → Bool
is_command long = false
is_command bad = false
is_command (taken c) = is_asked (class_of c)

-- the register that a deed writes
abbrev pub written_by : Deed → Option Reg
written_by (native_made d n) = Some (N d)
written_by (plain_made d n) = Some (S d)
written_by (map_made d) = Some (S d)
written_by (proxy_made d x) = Some (S d)
written_by (native_held d x) = Some (N d)
written_by (script_held d x) = Some (S d)
written_by (script_copied d x) = Some (S d)
written_by (reflector_held d x) = Some (S d)
written_by (weak_written w x) = Some (W w)
written_by _ = None

-- and the register that a command of this deed and class writes: one that reads a weak register writes a native one
abbrev pub written_in : Deed → Class → Option Reg
written_in deed (reads_weak d w) = Some (N d)
written_in deed _ = written_by deed

-- one of the eight that the tail empties, or none
abbrev pub is_of_eight : Option Reg → Bool
is_of_eight None = true
is_of_eight (Some (N r)) = nat_lt r 8
is_of_eight (Some (S r)) = nat_lt r 8
is_of_eight (Some (W r)) = false

-- an ask that writes no other, where these are the objects
abbrev pub writes_of_eight : Objects → Ask → Bool
writes_of_eight o long = true
writes_of_eight o bad = true
writes_of_eight o (taken c) = is_of_eight (written_in (deed_of o c) (class_of c))

-- what the tail asks
abbrev pub tail_asks : List Ask
tail_asks =
    taken (Drop (N 0))
    ∷ taken (Drop (N 1))
    ∷ taken (Drop (N 2))
    ∷ taken (Drop (N 3))
    ∷ taken (Drop (N 4))
    ∷ taken (Drop (N 5))
    ∷ taken (Drop (N 6))
    ∷ taken (Drop (N 7))
    ∷ taken (Drop (S 0))
    ∷ taken (Drop (S 1))
    ∷ taken (Drop (S 2))
    ∷ taken (Drop (S 3))
    ∷ taken (Drop (S 4))
    ∷ taken (Drop (S 5))
    ∷ taken (Drop (S 6))
    ∷ taken (Drop (S 7))
    ∷ taken Gc
    ∷ taken Collect
    ∷ taken Gc
    ∷ taken Census
    ∷ []
