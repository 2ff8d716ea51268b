-- THE KEYS OF NATIVES THAT ARE NODES, by which a walk over nodes comes to the natives.
use Rattle.std.specs.Prelude.{◌≡◌, ℕ, Some, option_map, slice_get}
use Rattle.cc_lists.specs.Members.{Among}
use Rattle.cc_names.specs.Names.{native}
use Rattle.cc_counted.specs.Counts as counts
use Rattle.cc_counted.specs.Counts.{Counts}
use Rattle.cc_counted.specs.declared.held.Held.{Held}
use Rattle.cc_counted.specs.declared.held.Held.TheVariants as held
use Rattle.cc_graph.specs.Shown.{Shown, Vertex}
use Rattle.cc_heaps.specs.Keyed.{Keyed, counts_of, number_at}

-- this is the key of native k
abbrev pub IsKeyOf : Counts → Held → ℕ → Type 0
IsKeyOf c (held.Native key) k = counts.number_at c key.0 ≡ Some k
IsKeyOf c (held.Script key) k = ⊥

-- a native that is a node and stands at a key has the key that its node has
abbrev pub HasNodeKeys : Shown → Keyed → Type 0
HasNodeKeys g v = (n : Vertex) (k key : ℕ) → Among n g.nodes → n.name ≡ native k → number_at v key ≡ Some k → IsKeyOf (counts_of v) n.held k

-- the key that a node has is not that of native k
abbrev pub HasOtherKey : Shown → Counts → ℕ → ℕ → Type 0
HasOtherKey g c i k = (h : Held) → option_map (λ n. n.held) (slice_get g.nodes i) ≡ Some h → IsKeyOf c h k → ⊥
