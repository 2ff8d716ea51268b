-- WHAT IS REACHED OVER SLOTS is raised, and nothing else is.
use Rattle.std.specs.Prelude.{◌↔◌, IsTrue}
use Rattle.std.proofs.Common.{◌≡◌, ℕ, ◌==◌, Bool, true, false, List, if◌then◌else◌, refl, arith}
use Rattle.cc_lists.specs.Members.{Among, has}
use Rattle.cc_lists.proofs.Members.{Among-map}
use Rattle.cc_lists.proofs.Closure.{closure-decides}
use Rattle.cc_lists.proofs.Numbers.{number-exact}
use Rattle.cc_names.specs.declared.kind.Colour.{Colour}
use Rattle.cc_script.specs.Objects.{Object, raised, raised_among}
use Rattle.cc_script.specs.Walking.{IsReachedOverSlots, reach_rules, keys_reached}

-- a key is in the list where the rules derive it
pub reached-decided : (objects : List Object) (keys : List ℕ) (key : ℕ) → IsTrue (has ◌==◌ (keys_reached objects keys) key) ↔ IsReachedOverSlots objects keys key
reached-decided objects keys key = closure-decides ◌==◌ number-exact (reach_rules objects keys) key

module _ (objects : List Object) (keys : List ℕ) (to : Colour) (o : Object) (m : Among o objects) where
  abbrev is_reached : Bool
  is_reached = has ◌==◌ (keys_reached objects keys) o.key

  -- an object is raised, or left as it was, by the test
  by_test : (b : Bool) → is_reached ≡ b → Among (if b then raised to o else o) (raised_among (keys_reached objects keys) to objects)
  by_test b e = grind (arith, Among-map)

  -- WHAT IS REACHED IS RAISED,
  pub reached-raised : IsReachedOverSlots objects keys o.key → Among (raised to o) (raised_among (keys_reached objects keys) to objects)
  reached-raised r = by_test true ((reached-decided objects keys o.key).1 r)

  -- and nothing else is.
  pub unreached-kept : ¬ (IsReachedOverSlots objects keys o.key) → Among o (raised_among (keys_reached objects keys) to objects)
  unreached-kept none = go is_reached refl
    where
      go : (b : Bool) → is_reached ≡ b → Among o (raised_among (keys_reached objects keys) to objects)
      go true e = absurd (none ((reached-decided objects keys o.key).0 e))
      go false e = by_test false e
