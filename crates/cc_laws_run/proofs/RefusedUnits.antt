-- UNITS THAT ARE REFUSED drop the snapshot, and give the candidates back.
use Rattle.std.proofs.Common.{◌≡◌, ℕ, Bool, List, [], ◌∷◌, Option, Some, None, refl, sym, ◌∙◌, ap, subst, arith}
use Rattle.cc_lists.specs.Members.{Among}
use Rattle.cc_names.specs.Names.{native}
use Rattle.cc_model.specs.declared.item.Event.TheVariants.{Abandoned}
use Rattle.cc_model.specs.Heap.{Heap}
use Rattle.cc_model.specs.View.{view}
use Rattle.cc_model.specs.WellFormed.{native_names}
use Rattle.cc_model.specs.Snapshot.{Snapshot}
use Rattle.cc_model.specs.End.{give_back, heap_given_back, refused, unit, UnitDone}
use Rattle.cc_laws_snapshot.proofs.GivingBack.{given_back-there, give_back-buffer}
use Rattle.cc_laws_run.proofs.UnitsUse.{refusals, granted-refusals}
use Rattle.cc_laws_run.proofs.UnitLawful.{unit-cases}

-- what a unit that was refused comes to
abbrev pub IsAbandoned : Heap → Option Snapshot → UnitDone → Type 0
IsAbandoned h s u = (u.heap ≡ heap_given_back h s) × (u.snapshot ≡ None) × (u.events ≡ Abandoned ∷ [])

-- a unit that is refused is abandoned
refused-abandoned : (h : Heap) (s : Option Snapshot) (memory : Bool) → (unit h s memory).progress ≡ refused → IsAbandoned h s (unit h s memory)
refused-abandoned h s memory = unit-cases h s memory (λ u. u.progress ≡ refused → IsAbandoned h s u)
    (λ e. (refl, refl, refl))
    (λ e. let none : 0 ≡ refusals refused = sym (granted-refusals h s) ∙ ap refusals e in absurd (omega (arith, none)))

-- A begin that is refused leaves the heaps.
pub refused_begin-leaves : (h : Heap) (memory : Bool) → (unit h None memory).progress ≡ refused →
    ((unit h None memory).heap ≡ h) × ((unit h None memory).snapshot ≡ None) × ((unit h None memory).events ≡ Abandoned ∷ [])
refused_begin-leaves h memory e = refused-abandoned h None memory e

-- A later unit that is refused gives the candidates back.
pub refused_node-gives_back : (h : Heap) (s : Snapshot) (memory : Bool) → (unit h (Some s) memory).progress ≡ refused →
    ((unit h (Some s) memory).heap ≡ give_back s.candidates h) × ((unit h (Some s) memory).snapshot ≡ None) × ((unit h (Some s) memory).events ≡ Abandoned ∷ [])
refused_node-gives_back h s memory e = refused-abandoned h (Some s) memory e

-- Candidates that are there and go back are purple.
pub give_back-purple : (h : Heap) (candidates : List ℕ) (k : ℕ) → Among k candidates → Among (native k) (native_names h) →
    Among (native k) (view (give_back candidates h)).purple
give_back-purple h candidates k m there = subst (λ g. Among (native k) (view g).purple) (sym (give_back-buffer candidates h h.buffer))
    (given_back-there h candidates h.buffer k m there)
