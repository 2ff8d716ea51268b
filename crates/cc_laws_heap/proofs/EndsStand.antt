-- THE END OF A COLLECTION LEAVES HEAPS THAT STAND FOR THE SAME GRAPH, where the natives that it takes are apart, and frees nothing
-- that a register reaches.
use Rattle.std.proofs.Common.{ℕ, List, [], refl, sym, subst, inl}
use Rattle.cc_lists.specs.Members.{Among}
use Rattle.cc_lists.proofs.Members.{Among-flat_map}
use Rattle.cc_names.specs.declared.name.Name.{Name}
use Rattle.cc_names.specs.Names.{native, natives_in}
use Rattle.cc_model.specs.declared.item.Event.TheVariants.{Freed}
use Rattle.cc_model.specs.Graph.{Graph}
use Rattle.cc_model.specs.WellMade.{IsWellMade}
use Rattle.cc_model.specs.Reached.{Reached}
use Rattle.cc_model.specs.Given.{Given}
use Rattle.cc_model.specs.Heap.{Heap}
use Rattle.cc_model.specs.End.{take_away}
use Rattle.cc_model.specs.WellFormed.{native_names, names_there}
use Rattle.cc_model.specs.StandsFor.{StandsFor}
use Rattle.cc_laws_heap.specs.Sound.{IsSound}
use Rattle.cc_laws_heap.specs.Apart.{AreApart}
use Rattle.cc_laws_heap.specs.Ending.{freed_in, freed_numbers}
use Rattle.cc_laws_heap.proofs.References.{native-there}
use Rattle.cc_laws_heap.proofs.ReachedAlike.{given-there}
use Rattle.cc_laws_heap.proofs.Given.{Reached-given}
use Rattle.cc_laws_heap.proofs.Leaving.{Leave-not_freed}
use Rattle.cc_laws_heap.proofs.Apart.{apart-stands}
use Rattle.cc_laws_heap.proofs.TakingAway.{take_away-sound, taken-emptied, others-kept, take_away-leaves, take_away-takes}

module _ (h : Heap) (g : Graph) (ks : List ℕ) (s : IsSound [] h) (there : (k : ℕ) → Among k ks → Among (native k) (native_names h))
    (m : IsWellMade g) (t : StandsFor h g) (apart : AreApart h ks) where
  -- THE END LEAVES HEAPS THAT STAND FOR THE SAME GRAPH.
  pub take_away-stands : StandsFor (take_away ks h).heap g
  take_away-stands = apart-stands h (take_away ks h).heap g ks s.well_formed m t apart (take_away-sound h ks s there).well_formed
      (take_away-leaves h ks s there).beside there (taken-emptied h ks s there) (others-kept h ks s there)

  -- What it frees is given no more,
  pub take_away-not_given : (x : Name) → Among (Freed x) (take_away ks h).events → ¬ (Given (take_away ks h).heap g x)
  take_away-not_given x i d =
      let end : Heap = (take_away ks h).heap in
      let told : List ℕ = freed_numbers (take_away ks h).events in
      let k = (take_away-takes h ks s there).1.natives_alone (Freed x) i in
      let freed : Among k.0 told = Among-flat_map freed_in (Freed x) k.0 (take_away ks h).events i (subst (λ y. Among k.0 (natives_in y)) (sym k.1) (inl refl)) in
      let kept : Among (native k.0) (names_there end) = subst (λ y. Among y (names_there end)) k.1 (given-there end g x take_away-stands d) in
      Leave-not_freed h told end (take_away-leaves h ks s there) k.0 (native-there end k.0 (take_away-sound h ks s there).well_formed kept) freed

  -- so no register reaches it.
  pub take_away-unreached : (x : Name) → Among (Freed x) (take_away ks h).events → ¬ (Reached g x)
  take_away-unreached x i r = take_away-not_given x i (Reached-given (take_away ks h).heap g x r)
