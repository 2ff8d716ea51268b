-- THE END OF A COLLECTION FORGETS NO UNREACHED NATIVE: what is taken away is purple or gone, and nothing else was not covered.
use Rattle.std.proofs.Common.{◌≡◌, ℕ, Bool, true, false, List, [], ◌++◌, refl, sym, ◌∙◌, ap, subst, inl, inr, ⊎_elim}
use Rattle.std.proofs.lemmas.Bool.{false≢true}
use Rattle.cc_lists.specs.Members.{Among, has}
use Rattle.cc_lists.specs.Least.{Rule, system, closure}
use Rattle.cc_lists.proofs.Members.{Among-left}
use Rattle.cc_lists.proofs.Least.{derive-root}
use Rattle.cc_lists.proofs.Closure.{closure-decides}
use Rattle.cc_names.specs.declared.name.Name.{Name}
use Rattle.cc_names.specs.Names.{native, same_name, number_of}
use Rattle.cc_names.proofs.NameTests.{same_name-exact}
use Rattle.cc_model.specs.Heap.{Heap}
use Rattle.cc_model.specs.View.{View, view, ReachedIn}
use Rattle.cc_model.specs.Snapshot.{Snapshot, white_natives}
use Rattle.cc_model.specs.End.{take_away}
use Rattle.cc_model.specs.Fresh.{IsFresh, IsTraversed}
use Rattle.cc_model.specs.Suspected.{unreached_scripts, IsCovered, IsSuspected}
use Rattle.cc_model.specs.WellFormed.{native_names}
use Rattle.cc_laws_heap.specs.Sound.{IsSound}
use Rattle.cc_laws_snapshot.specs.Losing.{PurpleOrGone, Loses}
use Rattle.cc_laws_snapshot.proofs.LoyalSuspected.{loyal-suspected, loses-loyal}
use Rattle.cc_laws_heap.specs.Stages.{Stage, stage}
use Rattle.cc_laws_heap.proofs.TakingAway.{rooted, rooted-done, taking-end, take_away-sound}
use Rattle.cc_laws_snapshot.proofs.LosesTo.{LosesTo, LosesTo-trans, lost-settled, LosesTo-loses}
use Rattle.cc_laws_snapshot.proofs.EndLoses.{done-loses}
use Rattle.cc_laws_snapshot.proofs.UncoveredWhite.{uncovered-white_native, white_native-there}
use Rattle.cc_laws_heap.proofs.Kept.{with_buffer, IsWellFormed-buffer}
use Rattle.cc_laws_snapshot.proofs.GivingBack.{covered-stays, given_back, given_back-purple, given_back-name, given_back-there, given_back-was, given_back-buffer}

-- Nothing is lost over the end that is not purple or gone, and what was taken away is purple or gone.
take_away-loses : (ks : List ℕ) (h : Heap) → IsSound [] h → ((k : ℕ) → Among k ks → Among (native k) (native_names h)) →
    Loses (view h) (view (take_away ks h).heap) × ((i : ℕ) → Among i ks → PurpleOrGone (view (take_away ks h).heap) i)
take_away-loses ks h s there =
    let start : Stage = stage [] [] h in
    let middle : Stage = rooted h ks s there in
    let end : Stage = stage [] [] (take_away ks h).heap in
    let first : LosesTo start middle = done-loses ks start [] middle (rooted-done h ks s there) in
    let rest : LosesTo middle end = done-loses ks middle (take_away ks h).events end (taking-end h ks s there).done in (
      LosesTo-loses [] h end.heap (take_away-sound h ks s there).well_formed (LosesTo-trans start middle end first rest),
      λ i m. lost-settled end.heap i (rest.lost i (inr (inr (Among-left i ks [] m)))),
    )

module _ (h : Heap) (ks : List ℕ) where
  -- the heaps with the natives ks suspected
  abbrev suspecting : Heap
  suspecting = with_buffer h (given_back ks h h.buffer)

  -- from these, too, nothing was lost that is not purple or gone
  suspecting-loses : (v : View) → Loses (view h) v → ((i : ℕ) → Among i ks → PurpleOrGone v i) → Loses (view suspecting) v
  suspecting-loses v l all = record {
    edge = l.edge;
    register = l.register;
    purple = λ i m. ⊎_elim (λ p. l.purple i p) (λ n. subst (PurpleOrGone v) (sym (ap number_of n.1)) (all n.0 n.2)) (given_back-was h (native i) ks h.buffer m);
    buffer = λ x m. ⊎_elim (λ s. inl (given_back-name h x ks h.buffer s)) (λ p. inr p) (l.buffer x m);
    living = l.living;
  }

  -- where each unreached native that is not covered is among ks, with these suspected each unreached native is covered
  suspecting-suspected : ((k : ℕ) → Among k ks → Among (native k) (native_names h)) →
      ((u : Name) (c : ℕ) → Among (u, c) (view h).natives → ¬ (ReachedIn (view h) u) → ¬ (IsCovered (view h) u) → (k : ℕ) × (u ≡ native k) × Among k ks) →
      IsSuspected (view suspecting) []
  suspecting-suspected there white u c m unreached = inl (by_test (has same_name (closure same_name rules) u) refl)
    where
      rules : List (Rule Name)
      rules = system ((view h).purple ++ unreached_scripts (view h)) (view h).edges []

      by_test : (b : Bool) → has same_name (closure same_name rules) u ≡ b → IsCovered (view suspecting) u
      by_test true e = covered-stays h (given_back ks h h.buffer) (λ x p. given_back-purple h x ks h.buffer p) u
          ((closure-decides same_name same_name-exact rules u).0 e)
      by_test false e =
          let k = white u c m unreached (λ d. false≢true (sym e ∙ (closure-decides same_name same_name-exact rules u).1 d)) in
          derive-root ((view suspecting).purple ++ unreached_scripts (view suspecting)) (view suspecting).edges [] u
          (Among-left u (view suspecting).purple (unreached_scripts (view suspecting))
          (subst (λ x. Among x (view suspecting).purple) (sym k.1) (given_back-there h ks h.buffer k.0 k.2 (there k.0 k.2))))

-- THE END KEEPS EVERY UNREACHED NATIVE SUSPECTED.
pub end-suspected : (h : Heap) (s : Snapshot) → IsSound [] h → IsFresh h.natives_made (view h) s → IsTraversed s →
    IsSuspected (view h) s.candidates → IsSuspected (view (take_away (white_natives h s) h).heap) []
end-suspected h s sound fresh all suspected =
    let ks : List ℕ = white_natives h s in
    let there : (k : ℕ) → Among k ks → Among (native k) (native_names h) = λ k m. white_native-there h s k m in
    let end = take_away-loses ks h sound there in
    let start : Heap = suspecting h ks in
    let well_formed = IsWellFormed-buffer h (given_back ks h h.buffer) sound.well_formed
    (given_back-buffer h ks h.buffer (record { there = sound.well_formed.buffered; once = sound.well_formed.buffered_once })) in
    loyal-suspected start (take_away ks h).heap [] well_formed (take_away-sound h ks sound there).well_formed
    (loses-loyal (view start) (view (take_away ks h).heap) (suspecting-loses h ks (view (take_away ks h).heap) end.0 end.1))
    (suspecting-suspected h ks there (uncovered-white_native h s sound fresh all suspected))
