-- WHAT A CASCADE TAKES OUT, whatever the counts: what it tells is gone, and nothing else of what the graph sees changes.
use Rattle.std.proofs.Common.{◌≡◌, ℕ, false, List, [], ◌∷◌, ◌++◌, map, length, Option, Some, sym, ◌∙◌, ap, subst, ◌==◌}
use Rattle.std.specs.List.{filter}
use Rattle.std.proofs.lemmas.Bool.{true≢false, not-true}
use Rattle.cc_lists.specs.Members.{Among, has}
use Rattle.cc_lists.proofs.Members.{Among-map, Among-map_cases, Among-passes, has-there}
use Rattle.cc_names.specs.declared.name.Name.{Name}
use Rattle.cc_names.specs.declared.name.Name.TheVariants as name
use Rattle.cc_names.specs.Names.{native, number_of}
use Rattle.cc_model.specs.declared.item.Event.TheVariants.{Freed}
use Rattle.cc_model.specs.Heap.{Heap, HeapNative, Outcome}
use Rattle.cc_model.specs.Cascade.{give_up, drained, at_rest, cascade, let_go}
use Rattle.cc_model.specs.WellFormed.{native_names}
use Rattle.cc_laws_heap.specs.Freeing.{uncounted, is_none_of, Frees}
use Rattle.cc_laws_heap.specs.Balance.{IsSteady}
use Rattle.cc_laws_heap.specs.Ending.{freed_numbers}
use Rattle.cc_laws_heap.specs.Stages.{stage, Ending}
use Rattle.cc_lists.proofs.Numbers.{number-exact}
use Rattle.cc_laws_heap.proofs.DrainingAlike.{IsAlike-give_up}
use Rattle.cc_laws_heap.proofs.EndingEvents.{TellsOf-freed}
use Rattle.cc_laws_heap.proofs.Folding.{drain-keeps}
use Rattle.cc_laws_heap.proofs.Giving.{cascade-done}
use Rattle.cc_laws_heap.proofs.Leaving.{Leave, done-leaves}
use Rattle.cc_laws_heap.proofs.Freed.{outcome, freed_event, TakesOut-silently, TakesOut-alike, TakesOut-free_front, TakesOut}

-- WHAT A CASCADE TAKES OUT.
pub TakesOut-cascade : (h : Heap) (k : ℕ) → (ks : List ℕ) × TakesOut h ks (cascade h k)
unfolding drained
TakesOut-cascade h k = drain-keeps (λ d. (ks : List ℕ) × TakesOut h ks (outcome d))
    (λ d j ks e t. (t.0 ++ j ∷ [], TakesOut-free_front h t.0 d j ks t.1)) (length h.natives) (give_up (at_rest h) k)
    ([], TakesOut-alike h [] (at_rest h) (give_up (at_rest h) k) (IsAlike-give_up (at_rest h) k) (TakesOut-silently h))

-- and what giving up what a register or a slot held
pub TakesOut-let_go : (h : Heap) (x : Option Name) → (ks : List ℕ) × TakesOut h ks (let_go h x)
TakesOut-let_go h (Some (name.Native k)) = TakesOut-cascade h k.0
TakesOut-let_go h _ = ([], TakesOut-silently h)

-- what is told is there no more
abbrev pub TellsWhatIsGone : Outcome → Type 0
TellsWhatIsGone o = (x : Name) → Among (Freed x) o.events → ((k : ℕ) × (native k ≡ x)) × (¬ (Among x (native_names o.heap)))

-- what is told is gone
TakesOut-gone : (h : Heap) (ks : List ℕ) (o : Outcome) → TakesOut h ks o → TellsWhatIsGone o
TakesOut-gone h ks o t x m =
    let f = Among-map_cases freed_event ks (Freed x) (subst (Among (Freed x)) t.told m) in
    let named : native f.0 ≡ x = cc in
    ((f.0, named), λ i. gone f.0 f.1 (subst (λ z. Among z (native_names o.heap)) (sym named) i))
  where
    gone : (k : ℕ) → Among k ks → Among (native k) (native_names o.heap) → ⊥
    gone k there i =
        let n = Among-map_cases (λ (n : HeapNative). native n.number) o.heap.natives (native k) i in
        let left : Among (uncounted n.0) (filter (is_none_of ks) (map uncounted h.natives)) = subst (Among (uncounted n.0)) t.natives (Among-map uncounted n.0 o.heap.natives n.1) in
        let absent : has ◌==◌ ks n.0.number ≡ false = not-true (has ◌==◌ ks n.0.number) (Among-passes (is_none_of ks) (uncounted n.0) (map uncounted h.natives) left) in
        true≢false (sym (has-there ◌==◌ number-exact ks n.0.number (subst (λ j. Among j ks) (sym (ap number_of n.2)) there)) ∙ absent)

-- and where what a register or a slot held is given up
pub let_go-gone : (h : Heap) (x : Option Name) → TellsWhatIsGone (let_go h x)
let_go-gone h x = let t = TakesOut-let_go h x in TakesOut-gone h t.0 (let_go h x) t.1

-- WHAT A CASCADE FREES where each count is that of the references: it was there, and nothing is freed twice.
pub cascade-frees_steady : (owned : List ℕ) (h : Heap) (k : ℕ) → IsSteady (k ∷ owned) h → (ks : List ℕ) × Frees h ks (cascade h k)
cascade-frees_steady owned h k b =
    let t = TakesOut-cascade h k in
    let same : freed_numbers (cascade h k).events ≡ t.0 = ap freed_numbers t.1.told ∙ (TellsOf-freed t.0).freed_told in
    let l : Leave h t.0 (cascade h k).heap = subst (λ ks. Leave h ks (cascade h k).heap) same
    (done-leaves [] (stage (k ∷ []) [] h) (cascade h k).events (stage [] [] (cascade h k).heap) (cascade-done (Ending []) [] owned h k b)) in
    (t.0, record { told = t.1.told; once = l.once; were_there = l.were_there; natives = t.1.natives; beside = t.1.beside })
