-- WHO IS IN THE WALK, by names, and what it is that objects come into it.
use Rattle.std.specs.Prelude.{◌≡◌, ◌⊎◌, ◌+◌, ℕ, Bool, true, false, not, IsTrue, List, Some, count_by}
use Rattle.cc_lists.specs.Members.{Among}
use Rattle.cc_names.specs.declared.name.Name.{Name}
use Rattle.cc_names.specs.declared.kind.Walked.{Walked}
use Rattle.cc_names.specs.declared.kind.Walked.TheVariants.{Out, Waiting, Given}
use Rattle.cc_walk.specs.Walks.{is_walked}
use Rattle.cc_counted.specs.declared.held.Held.{Held}
use Rattle.cc_heaps.specs.Keyed.{Keyed}
use Rattle.cc_heaps.specs.Changes.{held_name}
use Rattle.cc_heaps.specs.Keeping.{KeepsAll}
use Rattle.cc_heaps.specs.Walking.{state_in, unwalked}

-- an object of this name is in the walk
abbrev pub IsInWalk : Keyed → Name → Type 0
IsInWalk v x = (object : Held) × (held_name v (Some object) ≡ Some x) × IsTrue (is_walked (state_in v object))

abbrev pub is_given : Walked → Bool
is_given Out = false
is_given Waiting = false
is_given Given = true

-- how many are not given yet
abbrev pub left_to_give : Keyed → ℕ
left_to_give v = count_by (λ state. not (is_given state)) v.walks + count_by (λ o. not (is_given o.walked)) v.scripts

-- OBJECTS OF THESE NAMES CAME INTO THE WALK, where they were not in it, and nothing else is changed
pub record Enters (old new : Keyed) (names : List Name) : Type 0 where
  pub rest : unwalked new ≡ unwalked old
  pub in_it : (x : Name) → Among x names → IsInWalk new x
  pub stays : (x : Name) → IsInWalk old x → IsInWalk new x
  pub came : (x : Name) → IsInWalk new x → IsInWalk old x ⊎ Among x names
  -- each that is given was given before
  pub given : (object : Held) → is_given (state_in new object) ≡ is_given (state_in old object)
  pub left : left_to_give new ≡ left_to_give old
  pub kept : KeepsAll old new
