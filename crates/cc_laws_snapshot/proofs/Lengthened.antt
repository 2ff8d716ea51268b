-- A BANK LENGTHENED IS A GENTLE AND A LOYAL CHANGE: the registers that come are empty, so the view is the same.
use Rattle.std.proofs.Common.{ℕ, List, [], sym, subst}
use Rattle.cc_model.specs.Banks.{Bank, of_natives, of_scripts, of_weak}
use Rattle.cc_model.specs.Heap.{Heap, lengthen}
use Rattle.cc_model.specs.View.{View, view}
use Rattle.cc_model.specs.Snapshot.{Snapshot}
use Rattle.cc_model.specs.Fresh.{IsFresh}
use Rattle.cc_laws_heap.proofs.Lengthening.{view-lengthen}
use Rattle.cc_laws_snapshot.specs.Kinds.{IsFreshIn}
use Rattle.cc_laws_snapshot.specs.KindsSuspected.{IsSuspectedIn}
use Rattle.cc_laws_snapshot.specs.Losing.{IsLoyal}
use Rattle.cc_model.specs.Suspected.{IsSuspected}
use Rattle.cc_laws_snapshot.proofs.GentleBut.{AreGentle, AreGentle-refl, IsGentleBut}
use Rattle.cc_laws_snapshot.proofs.LoyalSuspected.{loses-loyal, loses-same}

-- It is gentle,
pub lengthen-gentle : (h : Heap) (b : Bank) (n : ℕ) → AreGentle h (lengthen h b n)
lengthen-gentle h of_natives n = subst (λ (v : View). IsGentleBut [] h.natives_made h.natives_made (view h) v) (sym (view-lengthen h of_natives n)) (AreGentle-refl h)
lengthen-gentle h of_scripts n = subst (λ (v : View). IsGentleBut [] h.natives_made h.natives_made (view h) v) (sym (view-lengthen h of_scripts n)) (AreGentle-refl h)
lengthen-gentle h of_weak n = AreGentle-refl h

-- and loyal.
pub lengthen-loyal : (h : Heap) (b : Bank) (n : ℕ) → IsLoyal (view h) (view (lengthen h b n))
lengthen-loyal h b n = subst (λ (v : View). IsLoyal (view h) v) (sym (view-lengthen h b n)) (loses-loyal (view h) (view h) (loses-same (view h)))

-- SNAPSHOTS STAY FRESH while registers come.
pub lengthen-fresh : (h : Heap) (s : Snapshot) (b : Bank) (n : ℕ) → IsFreshIn h s → IsFreshIn (lengthen h b n) s
lengthen-fresh h s of_natives n f = subst (λ (v : View). IsFresh h.natives_made v s) (sym (view-lengthen h of_natives n)) f
lengthen-fresh h s of_scripts n f = subst (λ (v : View). IsFresh h.natives_made v s) (sym (view-lengthen h of_scripts n)) f
lengthen-fresh h s of_weak n f = f

-- NO NATIVE IS FORGOTTEN while registers come.
pub lengthen-suspected : (h : Heap) (candidates : List ℕ) (b : Bank) (n : ℕ) → IsSuspectedIn h candidates → IsSuspectedIn (lengthen h b n) candidates
lengthen-suspected h candidates b n s = subst (λ (v : View). IsSuspected v candidates) (sym (view-lengthen h b n)) s
