-- THE END OF A COLLECTION LEAVES SOUND HEAPS, and what is done meanwhile is of the kinds of an end: its natives are rooted,
-- so they stay until all of them are unlinked; what cascades take out is told.
use Rattle.std.proofs.Common.{◌≡◌, ℕ, ◌+◌, List, [], ◌∷◌, ◌++◌, refl, sym, ◌∙◌, ap, subst, inl, inr, arith, append_assoc, ⊎_elim}
use Rattle.std.proofs.lemmas.Grind.{flat_map-append}
use Rattle.std.proofs.lemmas.List.{append-nil}
use Rattle.cc_lists.specs.Members.{Among}
use Rattle.cc_lists.proofs.Members.{Among-left, Among-append}
use Rattle.cc_names.specs.Names.{native}
use Rattle.cc_model.specs.declared.item.Event.{Event}
use Rattle.cc_model.specs.Heap.{Heap, HeapNative, Outcome, silently, after}
use Rattle.cc_model.specs.Cascade.{add_ref, cascade}
use Rattle.cc_model.specs.End.{root_each, unlink, unlink_each, unroot_each, take_away}
use Rattle.cc_model.specs.Lawful.{unlinked_in, unlinked_numbers}
use Rattle.cc_model.specs.WellFormed.{native_names}
use Rattle.cc_model.specs.Counts.{refs_to, times}
use Rattle.cc_model.specs.StandsFor.{IsEmptied}
use Rattle.cc_laws_heap.specs.Sound.{IsSound}
use Rattle.cc_laws_heap.specs.Ending.{freed_numbers, IsLeft, TakesAway}
use Rattle.cc_laws_heap.specs.Stages.{Stage, stage, Done, Ending}
use Rattle.cc_laws_heap.specs.Stages.Done.{nothing, followed, besides}
use Rattle.cc_laws_heap.specs.Stages.Ending.{reordered, raised}
use Rattle.cc_laws_heap.proofs.References.{times-append, times-cons, times-some, times-among}
use Rattle.cc_laws_heap.proofs.Giving.{quietly, cascade-done}
use Rattle.cc_laws_heap.proofs.Cascades.{IsBalanced-at_rest, cascade-sound, cascade-frees}
use Rattle.cc_laws_heap.proofs.HoldsTheSame.{HoldsTheSame-add_ref, native_names-alike}
use Rattle.cc_laws_heap.proofs.Owning.{add_ref-sound}
use Rattle.cc_laws_heap.proofs.Leaving.{Leave, Leave-none, done-leaves, IsOf}
use Rattle.cc_laws_heap.proofs.Staying.{done-stays}
use Rattle.cc_laws_heap.proofs.Unlinking.{unlink-done, unlink-keeps}
use Rattle.cc_laws_heap.proofs.EndingEvents.{TellsOf-freed, done-tells}

-- Rooting

-- it does not matter in which order natives are owned
pub IsSound-permuted : (early late : List ℕ) (h : Heap) → ((k : ℕ) → times k late ≡ times k early) → IsSound early h → IsSound late h
IsSound-permuted early late h same s = record {
  well_formed = s.well_formed;
  counts = λ n m. s.counts n m ∙ ap (λ t. refs_to h n.number + t) (sym (same n.number));
  none_zero = s.none_zero;
  owned_there = λ k m. s.owned_there k (times-among k early (omega (arith, same k, times-some k late m)));
}

-- a native in front is owned as often as behind others
times-inside : (k : ℕ) (ks owned : List ℕ) (j : ℕ) → times j (k ∷ (ks ++ owned)) ≡ times j (ks ++ k ∷ owned)
times-inside k ks owned j = omega (arith, times-cons j k (ks ++ owned), times-append j ks owned, times-append j ks (k ∷ owned), times-cons j k owned)

-- natives that are there are rooted: they are owned
pub root_each-sound : (ks owned : List ℕ) (h : Heap) → ((k : ℕ) → Among k ks → Among (native k) (native_names h)) → IsSound owned h →
    IsSound (ks ++ owned) (root_each ks h)
root_each-sound [] owned h there s = s
root_each-sound (k ∷ ks) owned h there s =
    let names : native_names (add_ref h k) ≡ native_names h = native_names-alike h (add_ref h k) (HoldsTheSame-add_ref h k) in
    IsSound-permuted (ks ++ k ∷ owned) (k ∷ ks ++ owned) (root_each ks (add_ref h k)) (times-inside k ks owned)
    (root_each-sound ks (k ∷ owned) (add_ref h k) (λ j m. subst (λ xs. Among (native j) xs) (sym names) (there j (inr m)))
    (add_ref-sound owned h k (there k (inl refl)) s))

-- what is done where they are rooted
root_each-done : (all : List ℕ) (s : Stage) (ks hand : List ℕ) (h : Heap) → ((k : ℕ) → Among k ks → Among (native k) (native_names h)) →
    Done (Ending all) s [] (stage hand [] h) → Done (Ending all) s [] (stage (ks ++ hand) [] (root_each ks h))
root_each-done all s [] hand h there so = so
root_each-done all s (k ∷ ks) hand h there so =
    let next : Heap = add_ref h k in
    let end : Heap = root_each ks next in
    let names : native_names next ≡ native_names h = native_names-alike h next (HoldsTheSame-add_ref h k) in
    quietly (Ending all) s (stage (ks ++ k ∷ hand) [] end) (stage (k ∷ (ks ++ hand)) [] end) []
    (root_each-done all s ks (k ∷ hand) next (λ j m. subst (λ xs. Among (native j) xs) (sym names) (there j (inr m)))
    (quietly (Ending all) s (stage hand [] h) (stage (k ∷ hand) [] next) [] so (besides (stage hand [] h) [] (stage (k ∷ hand) [] next) (raised hand h k (there k (inl refl))))))
    (besides (stage (ks ++ k ∷ hand) [] end) [] (stage (k ∷ (ks ++ hand)) [] end) (reordered (ks ++ k ∷ hand) (k ∷ (ks ++ hand)) end (times-inside k ks hand)))

-- Unlinking and unrooting

-- WHAT AN END DID SINCE A STAGE, where all of them may be unlinked: the heaps are sound with these in hand, and those that
-- are unlinked so far were told and are so
pub record IsTaking (all : List ℕ) (start : Stage) (hand unlinked : List ℕ) (o : Outcome) : Type 0 where
  pub sound : IsSound hand o.heap
  pub done : Done (Ending all) start o.events (stage hand [] o.heap)
  pub told : unlinked_numbers o.events ≡ unlinked
  pub taken : (n : HeapNative) → Among n o.heap.natives → Among n.number unlinked → IsEmptied n

-- something more is done
IsTaking-then : (all : List ℕ) (start : Stage) (early late unlinked more : List ℕ) (o p : Outcome) → IsTaking all start early unlinked o → IsSound late p.heap →
    Done (Ending all) (stage early [] o.heap) p.events (stage late [] p.heap) → unlinked_numbers p.events ≡ more →
    ((n : HeapNative) → Among n p.heap.natives → Among n.number more → IsEmptied n) → IsTaking all start late (unlinked ++ more) (after o.events p)
IsTaking-then all start early late unlinked more o p t sound done told new = record {
  sound = sound;
  done = followed start (stage early [] o.heap) (stage late [] p.heap) o.events p.events t.done done;
  told = flat_map-append unlinked_in o.events p.events ∙ (ap (λ js. js ++ unlinked_numbers p.events) t.told ∙ ap (λ js. unlinked ++ js) told);
  taken = λ n m i. ⊎_elim
      (λ l.
      let c = done-stays all (stage early [] o.heap) p.events (stage late [] p.heap) done n m in
      c.still (t.taken c.was c.there (subst (λ j. Among j unlinked) (sym c.number) l)))
      (new n m) (Among-append n.number unlinked more i);
}

-- natives that are owned are unlinked one after another
unlink_each-taking : (all : List ℕ) (start : Stage) (ks hand unlinked : List ℕ) (o : Outcome) → ((k : ℕ) → Among k ks → Among k all) →
    ((k : ℕ) → Among k ks → Among k hand) → IsTaking all start hand unlinked o → IsTaking all start hand (unlinked ++ ks) (unlink_each ks o)
unlink_each-taking all start [] hand unlinked o among own t = subst (λ us. IsTaking all start hand us o) (sym (append-nil unlinked)) t
unlink_each-taking all start (k ∷ ks) hand unlinked o among own t =
    let p : Outcome = unlink o.heap k in
    let here : Among k hand = own k (inl refl) in
    let u = unlink-keeps hand o.heap k t.sound here in
    subst (λ us. IsTaking all start hand us (unlink_each ks (after o.events p))) (append_assoc unlinked (k ∷ []) ks)
    (unlink_each-taking all start ks hand (unlinked ++ k ∷ []) (after o.events p) (λ j m. among j (inr m)) (λ j m. own j (inr m))
    (IsTaking-then all start hand hand unlinked (k ∷ []) o p t u.1 (unlink-done hand o.heap k t.sound here all (among k (inl refl))) u.2.unlinked_told
    (λ n m i. u.2.taken n m (⊎_elim (λ e. sym e) (λ x. absurd x) i))))

-- and they are owned no more, one after another
pub unroot_each-taking : (all : List ℕ) (start : Stage) (ks hand unlinked : List ℕ) (o : Outcome) → IsTaking all start (ks ++ hand) unlinked o →
    IsTaking all start hand unlinked (unroot_each ks o)
unroot_each-taking all start [] hand unlinked o t = t
unroot_each-taking all start (k ∷ ks) hand unlinked o t =
    let p : Outcome = cascade o.heap k in
    let f = cascade-frees (ks ++ hand) o.heap k t.sound in
    unroot_each-taking all start ks hand unlinked (after o.events p)
    (subst (λ us. IsTaking all start (ks ++ hand) us (after o.events p)) (append-nil unlinked)
    (IsTaking-then all start (k ∷ (ks ++ hand)) (ks ++ hand) unlinked [] o p t (cascade-sound (ks ++ hand) o.heap k t.sound)
    (cascade-done (Ending all) (ks ++ hand) (ks ++ hand) o.heap k (IsBalanced-at_rest (k ∷ (ks ++ hand)) o.heap t.sound))
    (ap unlinked_numbers f.1.told ∙ (TellsOf-freed f.0).unlinked_told) (λ n m i. absurd i)))

-- what was told before stands in front
unroot_each-events : (ks : List ℕ) (o : Outcome) → (later : List Event) × ((unroot_each ks o).events ≡ o.events ++ later)
unroot_each-events [] o = ([], sym (append-nil o.events))
unroot_each-events (k ∷ ks) o =
    let c : Outcome = cascade o.heap k in
    let rest = unroot_each-events ks (after o.events c) in
    (c.events ++ rest.0, rest.1 ∙ append_assoc o.events c.events rest.0)

-- The end as a whole

module _ (h : Heap) (ks : List ℕ) (s : IsSound [] h) (there : (k : ℕ) → Among k ks → Among (native k) (native_names h)) where
  -- the heaps with all of them rooted
  abbrev pub rooted : Stage
  rooted = stage (ks ++ []) [] (root_each ks h)

  -- what was done until then
  pub rooted-done : Done (Ending ks) (stage [] [] h) [] rooted
  rooted-done = root_each-done ks (stage [] [] h) ks [] h there (nothing (stage [] [] h))

  -- with all of them unlinked
  taking-unlinked : IsTaking ks rooted (ks ++ []) ks (unlink_each ks (silently (root_each ks h)))
  taking-unlinked = unlink_each-taking ks rooted ks (ks ++ []) [] (silently (root_each ks h)) (λ k m. m) (λ k m. Among-left k ks [] m)
      (record { sound = root_each-sound ks [] h there s; done = nothing rooted; told = refl; taken = λ n m i. absurd i })

  -- with all of them owned no more
  pub taking-end : IsTaking ks rooted [] ks (take_away ks h)
  unfolding take_away
  taking-end = unroot_each-taking ks rooted ks [] ks (unlink_each ks (silently (root_each ks h))) taking-unlinked

  -- what was done from the start
  since-start : (hand : List ℕ) (o : Outcome) → IsTaking ks rooted hand ks o → Done (Ending ks) (stage [] [] h) o.events (stage hand [] o.heap)
  since-start hand o t = followed (stage [] [] h) rooted (stage hand [] o.heap) [] o.events rooted-done t.done

  -- on the way those told as freed have left
  taking-leaves : (hand : List ℕ) (o : Outcome) → IsTaking ks rooted hand ks o → Leave h (freed_numbers o.events) o.heap
  taking-leaves hand o t = done-leaves ks (stage [] [] h) o.events (stage hand [] o.heap) (since-start hand o t)

  -- THE END LEAVES SOUND HEAPS,
  pub take_away-sound : IsSound [] (take_away ks h).heap
  take_away-sound = taking-end.sound

  -- in which those that were taken away are empty where they are left,
  pub taken-emptied : (n : HeapNative) → Among n (take_away ks h).heap.natives → Among n.number ks → IsEmptied n
  taken-emptied n m i = taking-end.taken n m i

  -- and unlinked for good, and the others are as they were,
  pub taken-left : (n : HeapNative) → Among n (take_away ks h).heap.natives → IsLeft h ks n
  taken-left n m =
      let end : Outcome = take_away ks h in
      let c = done-stays ks (stage [] [] h) end.events (stage [] [] end.heap) (since-start [] end taking-end) n m in
      record { was = c.was; there = c.there; number = c.number; taken = taking-end.taken n m; other = c.same }

  pub others-kept : (n : HeapNative) → Among n (take_away ks h).heap.natives → ¬ (Among n.number ks) → IsOf h n
  others-kept n m d = let c = taken-left n m in (c.was, c.there, c.other d)

  -- WHICH THOSE TOLD AS FREED HAVE LEFT,
  pub take_away-leaves : Leave h (freed_numbers (take_away ks h).events) (take_away ks h).heap
  take_away-leaves = taking-leaves [] (take_away ks h) taking-end

  -- AND TAKES AWAY WHAT IT TELLS.
  pub take_away-takes : (freed : List ℕ) × TakesAway h ks freed (take_away ks h)
  unfolding take_away
  take_away-takes = (
    freed_numbers (take_away ks h).events,
    record {
      natives_alone = done-tells ks rooted (take_away ks h).events (stage [] [] (take_away ks h).heap) taking-end.done;
      unlinked = taking-end.told;
      told = refl;
      once = l.once;
      were_there = l.were_there;
      unlinks = o.events;
      unroots = later.0;
      in_two = later.1;
      first_unlinked = taking-unlinked.told;
      none_of_them = λ k i. Leave-none h (freed_numbers o.events) o.heap (taking-leaves (ks ++ []) o taking-unlinked) k
          (taking-unlinked.sound.owned_there k (Among-left k ks [] i));
      natives = l.numbers;
      left = taken-left;
      scripts = l.beside.scripts;
      entries = l.beside.entries;
      native_registers = l.beside.native_registers;
      script_registers = l.beside.script_registers;
      natives_made = l.beside.natives_made;
      scripts_made = l.beside.scripts_made;
      limits = l.beside.limits;
    },
  )
    where
      o : Outcome
      o = unlink_each ks (silently (root_each ks h))

      later : (later : List Event) × ((unroot_each ks o).events ≡ o.events ++ later)
      later = unroot_each-events ks o

      l : Leave h (freed_numbers (take_away ks h).events) (take_away ks h).heap
      l = take_away-leaves
