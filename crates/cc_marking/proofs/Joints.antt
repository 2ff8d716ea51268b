-- WHAT ENTRIES GIVE: their joints one by one, and what an entry has to do with the members of one.
use Rattle.std.specs.Prelude.{IsTrue}
use Rattle.std.proofs.Common.{◌≡◌, ℕ, true, List, [], ◌∷◌, Option, Some, None, refl, subst, ⊎_elim, arith}
use Rattle.std.proofs.lemmas.Bool.{eq-eqb}
use Rattle.cc_lists.specs.Members.{Among}
use Rattle.cc_lists.proofs.Members.{Among-append, Among-flat_map, Among-flat_map_cases}
use Rattle.cc_script.specs.Objects.{Object, is_there}
use Rattle.cc_weakmaps.specs.Entries.{KeyedEntry}
use Rattle.cc_weakmaps.specs.Index.{has_object}
use Rattle.cc_weakmaps.proofs.Below.{or-true}
use Rattle.cc_marking.specs.Joints.{Joint, joint, key_joint, joints_of, joints}
use Rattle.cc_marking.specs.Marking.{AreEntriesThere}

-- what an entry gives: its value, or its key
pub data Gives (e : KeyedEntry) : Joint → Type 0 where
  its_value : Gives e (joint e.the_map e.key e.value)
  its_key : (d : ℕ) → e.delegate ≡ Some d → Gives e (joint e.the_map d e.key)

pub joint-gives : (e : KeyedEntry) (j : Joint) → Among j (joints_of e) → Gives e j
joint-gives e j m = ⊎_elim (by_key e.delegate refl)
    (λ r. ⊎_elim (λ is. subst (Gives e) is its_value) (λ n. absurd n) r)
    (Among-append j (key_joint e.the_map e.delegate e.key) (joint e.the_map e.key e.value ∷ []) m)
  where
    by_key : (d : Option ℕ) → e.delegate ≡ d → Among j (key_joint e.the_map d e.key) → Gives e j
    by_key None is m = absurd m
    by_key (Some d) is m = ⊎_elim (λ q. subst (Gives e) q (its_key d is)) (λ n. absurd n) m

-- the entry of a joint
pub joint-entry : (es : List KeyedEntry) (j : Joint) → Among j (joints es) → (e : KeyedEntry) × Among e es × Among j (joints_of e)
joint-entry es j m = Among-flat_map_cases joints_of es j m

pub entry-joint : (es : List KeyedEntry) (e : KeyedEntry) (j : Joint) → Among e es → Among j (joints_of e) → Among j (joints es)
entry-joint es e j m n = Among-flat_map joints_of e j es m n

-- has the joint's first two members
pub joint-has_map : (e : KeyedEntry) (j : Joint) (key : ℕ) → Gives e j → key ≡ j.the_map → has_object key e ≡ true
joint-has_map e j key h1 h2 = grind (arith, eq-eqb)

pub joint-has_key : (e : KeyedEntry) (j : Joint) (key : ℕ) → Gives e j → key ≡ j.key → has_object key e ≡ true
joint-has_key e j key h1 h2 = grind (arith, eq-eqb, or-true)

-- what it gives is there
pub joint-there : (objects : List Object) (es : List KeyedEntry) → AreEntriesThere objects es → (j : Joint) → Among j (joints es) → IsTrue (is_there objects j.value)
joint-there objects es there j m = grind (arith, joint-entry, joint-gives)
