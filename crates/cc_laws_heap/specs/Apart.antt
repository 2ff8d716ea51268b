-- NATIVES THAT ARE APART: all that the registers and the other natives of the heaps lead to is without them. So nothing brings
-- one of them back, not even a weak reference to some other native.
use Rattle.std.specs.Prelude.{ℕ, List, ◌++◌, map, filter}
use Rattle.cc_lists.specs.Members.{Among}
use Rattle.cc_names.specs.declared.name.Name.{Name}
use Rattle.cc_names.specs.Names.{native}
use Rattle.cc_model.specs.Heap.{Heap}
use Rattle.cc_model.specs.View.{view, LedFrom}
use Rattle.cc_laws_heap.specs.Freeing.{is_none_of}

-- the natives of the heaps beside some
abbrev pub natives_beside : Heap → List ℕ → List Name
natives_beside h ks = map (λ n. native n.number) (filter (is_none_of ks) h.natives)

abbrev pub AreApart : Heap → List ℕ → Type 0
AreApart h ks = (k : ℕ) → Among k ks → ¬ (LedFrom (view h) ((view h).registers ++ natives_beside h ks) (native k))
