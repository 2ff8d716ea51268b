-- What stands behind a key, while other keys leave and new ones go last.
use Rattle.std.proofs.Common.{◌≡◌, ◌≢◌, ℕ, List, [], ◌∷◌, ◌++◌, Some, drop, refl, arith}
use Rattle.std.specs.Prelude.{◌==◌}
use Rattle.std.proofs.lemmas.Bool.{true≢false, eqb-true, eq-eqb, ne_eqb}
use Rattle.cc_lists.specs.Members.{Among, without}
use Rattle.cc_lists.specs.Walks.{first_of}
use Rattle.cc_lists.proofs.Walks.{first-among}
use Rattle.cc_chain.specs.Chains.{AllDiffer, behind}

-- another key leaves
pub behind-without : (keys : List ℕ) (key other : ℕ) → other ≢ key → behind key (without ◌==◌ other keys) ≡ without ◌==◌ other (behind key keys)
behind-without [] key other ne = refl
behind-without (k ∷ ks) key other ne = grind (arith, eqb-true, behind-without ks key other ne)

-- a new key goes last
pub behind-push : (keys : List ℕ) (key new : ℕ) → Among key keys → behind key (keys ++ new ∷ []) ≡ behind key keys ++ new ∷ []
behind-push [] key new m = absurd m
behind-push (k ∷ ks) key new m = grind (arith, true≢false, eq-eqb, behind-push ks key new)

-- from the first key on all others come,
pub behind-first : (keys : List ℕ) (key : ℕ) → first_of keys ≡ Some key → behind key keys ≡ drop 1 keys
behind-first keys key e = grind (arith, eq-eqb)

-- what stands behind a key stands in the list
behind-stands : (keys : List ℕ) (key after : ℕ) → Among after (behind key keys) → Among after keys
behind-stands [] key after m = m
behind-stands (k ∷ ks) key after m = grind (arith, behind-stands ks key after)

-- and one key further one key less
pub behind-next : (keys : List ℕ) (key after : ℕ) → AllDiffer keys → first_of (behind key keys) ≡ Some after → behind after keys ≡ drop 1 (behind key keys)
behind-next [] key after d e = refl
behind-next (k ∷ ks) key after d e = grind (arith, ne_eqb, first-among, behind-first, behind-stands, behind-next ks key after d.1)
