-- CHANGES OF THE HEAPS THAT FORGET NO NATIVE.
use Rattle.std.specs.Prelude.{ℕ, ◌⊎◌}
use Rattle.cc_lists.specs.Members.{Among}
use Rattle.cc_names.specs.declared.name.Name.{Name}
use Rattle.cc_names.specs.Names.{native}
use Rattle.cc_model.specs.View.{View, ReachedIn}
use Rattle.cc_model.specs.Fresh.{IsLiving}

-- a native is purple in the buffer, or it is not in the heaps
abbrev pub PurpleOrGone : View → ℕ → Type 0
PurpleOrGone v i = Among (native i) v.purple ⊎ (¬ (IsLiving v (native i)))

-- natives lose references, and none gains one or is made: a change that is one after the other is one, too
pub record Loses (h k : View) : Type 0 where
  -- a reference to a native stays, or the native is purple afterwards or gone
  pub edge : (x : Name) (i : ℕ) → Among (x, native i) h.edges → Among (x, native i) k.edges ⊎ PurpleOrGone k i
  pub register : (i : ℕ) → Among (native i) h.registers → Among (native i) k.registers ⊎ PurpleOrGone k i
  -- who was purple is purple, or gone
  pub purple : (i : ℕ) → Among (native i) h.purple → PurpleOrGone k i
  -- who enters the buffer is purple
  pub buffer : (x : Name) → Among x k.buffer → Among x h.buffer ⊎ Among x k.purple
  -- who is there was there
  pub living : (x : Name) → IsLiving k x → IsLiving h x

-- the same, but that a register may reach afterwards what lost its mark, entered the buffer, lost a reference or is new
pub record IsLoyal (h k : View) : Type 0 where
  pub edge : (x : Name) (i : ℕ) → Among (x, native i) h.edges → Among (x, native i) k.edges ⊎ (PurpleOrGone k i ⊎ ReachedIn k (native i))
  pub register : (i : ℕ) → Among (native i) h.registers → Among (native i) k.registers ⊎ (PurpleOrGone k i ⊎ ReachedIn k (native i))
  pub purple : (i : ℕ) → Among (native i) h.purple → PurpleOrGone k i ⊎ ReachedIn k (native i)
  pub buffer : (x : Name) → Among x k.buffer → Among x h.buffer ⊎ (Among x k.purple ⊎ ReachedIn k x)
  pub living : (x : Name) → IsLiving k x → IsLiving h x ⊎ ReachedIn k x
