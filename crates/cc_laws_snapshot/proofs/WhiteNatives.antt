-- THE NATIVES THAT ARE WHITE: they are there, by rising number, and no register reaches them.
use Rattle.std.proofs.Common.{arith, ◌≡◌, ℕ, true, List, [], ◌++◌, sym, subst, inl, inr, ◌⊎◌, ⊎_elim, refl, ◌∙◌}
use Rattle.std.specs.List.{filter}
use Rattle.std.proofs.lemmas.Bool.{not-true}
use Rattle.cc_lists.specs.Members.{Among}
use Rattle.cc_lists.proofs.Members.{Among-map, Among-map_cases, Among-append, Among-filter, Among-filtered, Among-passes, Among-flat_map, has-among, has-there}
use Rattle.cc_lists.proofs.Numbers.{number-exact}
use Rattle.cc_names.specs.declared.name.Name.{Name}
use Rattle.cc_names.specs.Names.{native, natives_in}
use Rattle.cc_names.proofs.NameTests.{same_name-exact}
use Rattle.cc_model.specs.declared.item.Event.TheVariants.{Freed, Unlinked}
use Rattle.cc_model.specs.Graph.{Graph}
use Rattle.cc_model.specs.WellMade.{IsWellMade}
use Rattle.cc_model.specs.Reached.{Reached}
use Rattle.cc_model.specs.Given.{Given}
use Rattle.cc_model.specs.Heap.{Heap, HeapNative}
use Rattle.cc_model.specs.View.{view, counted, ReachedIn}
use Rattle.cc_model.specs.WellFormed.{names_there}
use Rattle.cc_model.specs.Colours.{HasColourInvariant}
use Rattle.cc_model.specs.End.{take_away}
use Rattle.cc_model.specs.StandsFor.{StandsFor, shape_at}
use Rattle.cc_model.specs.Lawful.{unlinked_in}
use Rattle.cc_model.specs.Snapshot.{Snapshot, IsWhite, white_natives}
use Rattle.cc_model.specs.Fresh.{IsLiving, IsFresh, IsTraversed}
use Rattle.cc_laws_heap.specs.Sound.{IsSound}
use Rattle.cc_laws_heap.specs.Freeing.{is_none_of}
use Rattle.cc_laws_heap.specs.Apart.{natives_beside, AreApart}
use Rattle.cc_laws_heap.specs.Ending.{AreThere, TakesAway}
use Rattle.cc_lists.proofs.Rising.{rising-part}
use Rattle.cc_laws_heap.proofs.ReachedAlike.{given-there, reached-there, reached-in}
use Rattle.cc_laws_heap.proofs.Standing.{stands-reached}
use Rattle.cc_laws_heap.proofs.Coloured.{AreColoured-from_view, HasColourInvariant-from}
use Rattle.cc_laws_heap.proofs.NativesKeepScripts.{SameScripts-coloured}
use Rattle.cc_laws_heap.proofs.TakingAway.{take_away-sound, take_away-takes}
use Rattle.cc_laws_heap.proofs.EndsStand.{take_away-stands, take_away-not_given}
use Rattle.cc_laws_heap.proofs.Given.{Reached-given}
use Rattle.cc_laws_heap.proofs.Natives.{named-member}
use Rattle.cc_laws_heap.proofs.References.{native-there}
use Rattle.cc_laws_snapshot.proofs.SoundView.{IsSound-view}
use Rattle.cc_laws_snapshot.proofs.Unreached.{white-apart, white-unreached}

-- the white natives are white
white_natives-white : (h : Heap) (s : Snapshot) (k : ℕ) → Among k (white_natives h s) → IsWhite (view h) s (native k)
unfolding white_natives
white_natives-white h s k m = grind (arith, Among-map_cases, Among-passes, has-among, same_name-exact)

-- they are in the heaps, by rising number
pub white_natives-there : (h : Heap) (s : Snapshot) → IsSound [] h → AreThere (white_natives h s) h
unfolding white_natives
white_natives-there h s sound = grind (arith, rising-part, Among-map_cases, Among-map, Among-filtered)

-- a native of the heaps that is not among them is not white
beside-not_white : (h : Heap) (s : Snapshot) (n : HeapNative) → Among n h.natives → is_none_of (white_natives h s) n ≡ true → ¬ (IsWhite (view h) s (native n.number))
unfolding white_natives
beside-not_white h s n m none w = grind (arith, Among-map, Among-filter, has-there, same_name-exact, number-exact, not-true)

module _ (h : Heap) (s : Snapshot) (sound : IsSound [] h) (fresh : IsFresh h.natives_made (view h) s) (all : IsTraversed s) where
  -- THEY ARE APART: the registers and the other natives of the heaps lead to none of them.
  pub white_natives-apart : AreApart h (white_natives h s)
  white_natives-apart k m = white-apart h.natives_made (view h) s (IsSound-view h sound) fresh all
      ((view h).registers ++ natives_beside h (white_natives h s)) beside k (white_natives-white h s k m)
    where
      beside : (x : Name) → Among x ((view h).registers ++ natives_beside h (white_natives h s)) → Among x (view h).registers ⊎
          ((i : ℕ) × (x ≡ native i) × IsLiving (view h) (native i) × (¬ (IsWhite (view h) s (native i))))
      beside x i = ⊎_elim (λ r. inl r)
          (λ o.
          let f = Among-map_cases (λ (n : HeapNative). native n.number) (filter (is_none_of (white_natives h s)) h.natives) x o in
          let there = Among-filtered (is_none_of (white_natives h s)) f.0 h.natives f.1 in
          inr (
            f.0.number,
            sym f.2,
            (f.0.count, Among-map counted f.0 h.natives there),
            beside-not_white h s f.0 there (Among-passes (is_none_of (white_natives h s)) f.0 h.natives f.1),
          ))
          (Among-append x (view h).registers (natives_beside h (white_natives h s)) i)

  -- No register reaches them over the heaps,
  pub white_natives-unreached : (k : ℕ) → Among k (white_natives h s) → ¬ (ReachedIn (view h) (native k))
  white_natives-unreached k m = white-unreached h.natives_made (view h) s (IsSound-view h sound) fresh all k (white_natives-white h s k m)

  -- nor in the graph that the heaps stand for.
  pub white_natives-unreached_in : (g : Graph) → IsWellMade g → StandsFor h g → (k : ℕ) → Among k (white_natives h s) → ¬ (Reached g (native k))
  white_natives-unreached_in g made stands k m r = white_natives-unreached k m (reached-in h g sound.well_formed made stands (native k) r)

  -- Taking them away leaves sound heaps,
  pub taking_white-sound : IsSound [] (take_away (white_natives h s) h).heap
  taking_white-sound = take_away-sound h (white_natives h s) sound (white_natives-there h s sound).there

  -- and takes away what it tells.
  pub taking_white-takes : (freed : List ℕ) × TakesAway h (white_natives h s) freed (take_away (white_natives h s) h)
  taking_white-takes = take_away-takes h (white_natives h s) sound (white_natives-there h s sound).there

  -- It keeps the colour invariant,
  pub taking_white-colours : HasColourInvariant (view (take_away (white_natives h s) h).heap)
  taking_white-colours = grind (arith, taking_white-takes, HasColourInvariant-from, taking_white-sound, SameScripts-coloured, AreColoured-from_view)

  module _ (g : Graph) (made : IsWellMade g) (stands : StandsFor h g) where
    -- leaves heaps that stand for the same graph,
    pub taking_white-stands : StandsFor (take_away (white_natives h s) h).heap g
    taking_white-stands =
        take_away-stands h g (white_natives h s) sound (white_natives-there h s sound).there made stands white_natives-apart

    -- in which what is reached is there with its slots and its flag.
    pub taking_white-kept : (x : Name) → Reached g x →
        Among x (names_there (take_away (white_natives h s) h).heap) × (shape_at (take_away (white_natives h s) h).heap x ≡ shape_at h x)
    taking_white-kept x r =
        let before = stands-reached h g stands x r in
        let left = stands-reached (take_away (white_natives h s) h).heap g taking_white-stands x r in (
          reached-there (take_away (white_natives h s) h).heap g x taking_white-stands r,
          left.there ∙ (sym left.made ∙ (before.made ∙ sym before.there)),
        )

    -- What it tells is given no more: neither registers nor natives that were not unlinked lead to it.
    pub taking_white-ended : (x : Name) → Among (Freed x) (take_away (white_natives h s) h).events ⊎ Among (Unlinked x) (take_away (white_natives h s) h).events →
        ¬ (Given (take_away (white_natives h s) h).heap g x)
    taking_white-ended x told d = ⊎_elim
        (λ i. take_away-not_given h g (white_natives h s) sound (white_natives-there h s sound).there made stands white_natives-apart x i d)
        (λ i.
        let t = taking_white-takes.1 in
        let k = t.natives_alone (Unlinked x) i in
        let taken : Among k.0 (white_natives h s) = subst (Among k.0) t.unlinked
        (Among-flat_map unlinked_in (Unlinked x) k.0 (take_away (white_natives h s) h).events i (subst (λ y. Among k.0 (natives_in y)) (sym k.1) (inl refl))) in
        white_not_given k.0 taken (subst (Given (take_away (white_natives h s) h).heap g) k.1 d))
        told
      where
        end : Heap
        end = (take_away (white_natives h s) h).heap

        white_not_given : (k : ℕ) → Among k (white_natives h s) → ¬ (Given end g (native k))
        white_not_given k taken d =
            let n = named-member end k (native-there end k taking_white-sound.well_formed (given-there end g (native k) taking_white-stands d)) in
            let left = taking_white-takes.1.left n.0 n.1 in
            let emptied = left.taken (subst (λ j. Among j (white_natives h s)) (sym n.2) taken) in
            taking_white-stands.spent n.0 n.1 emptied.unlinked (subst (λ j. Given end g (native j)) (sym n.2) d)

    -- So none of it is reached.
    pub taking_white-unreached : (x : Name) → Among (Freed x) (take_away (white_natives h s) h).events ⊎ Among (Unlinked x) (take_away (white_natives h s) h).events →
        ¬ (Reached g x)
    taking_white-unreached x told r = taking_white-ended x told (Reached-given (take_away (white_natives h s) h).heap g x r)
