-- THE HEAPS DERIVE WHAT THE GRAPH DERIVES: from what is reached the walks go on alike, since it has the same places in both, and
-- an entry of the graph that the heaps lack has a member that is not reached.
use Rattle.std.proofs.Common.{arith, ◌≡◌, ℕ, zero, suc, ◌+◌, ◌≤◌, Bool, true, false, ◌&&◌, cond, List, [], ◌∷◌, ◌++◌, Option, Some, None, refl, sym, ◌∙◌, ap, subst, inl, inr, ⊎_elim, count_by, append_assoc}
use Rattle.std.proofs.lemmas.Bool.{and_parts}
use Rattle.cc_lists.specs.Members.{Among, has}
use Rattle.cc_lists.proofs.Members.{Among-flat_map, has-among}
use Rattle.cc_lists.proofs.Counting.{count_by-cons, count_by-some}
use Rattle.cc_names.specs.declared.name.Name.{Name}
use Rattle.cc_names.specs.declared.register.Reg.TheVariants.{N, S}
use Rattle.cc_names.specs.Names.{same_name}
use Rattle.cc_names.proofs.NameTests.{same_name-exact}
use Rattle.cc_model.specs.declared.item.Reason.{Reason}
use Rattle.cc_model.specs.declared.item.Reason.TheVariants.{Pair}
use Rattle.cc_model.specs.Answers.{Step, explaining}
use Rattle.cc_model.specs.Slots.{Slots, contents}
use Rattle.cc_model.specs.Entries.{Entry, Joint, joint, key_joint, joints_of, is_entry_of}
use Rattle.cc_model.specs.Graph.{Graph}
use Rattle.cc_model.specs.Reached.{Reached, key, names_of}
use Rattle.cc_model.specs.WellMade.{IsWellMade}
use Rattle.cc_model.specs.Heap.{Heap}
use Rattle.cc_model.specs.WellFormed.{IsWellFormed, names_there}
use Rattle.cc_model.specs.StandsFor.{ArePart, StandsFor}
use Rattle.cc_model.specs.Derivations.{Leads, Walk, leads_made, leads_in, named, steps_of, is_found, with_step, with_bank, nothing_found, rooted, with_edges, with_joint, with_joints, is_member, with_entries, with_object, walked_first, walk, derivation, needed_for, done_or_nothing, why_of}
use Rattle.cc_model.proofs.Derivations.{Follows, first-found, with_joints-keeps, with_edges-keeps, steps-step, steps-rooted, walk-goes_on, walk-rests}
use Rattle.cc_model.proofs.PathsFollow.{AllReached, all_reached-grows}
use Rattle.cc_model.proofs.Leading.{derivation-ends, heap-within}
use Rattle.cc_laws_heap.proofs.EntryLists.{is_entry_of-own}
use Rattle.cc_laws_heap.proofs.Given.{Reached-given}
use Rattle.cc_laws_heap.proofs.Standing.{stands-reached}
use Rattle.cc_laws_heap.proofs.ReachedAlike.{ArePart-among, ArePart-none, edges_of-made, here, same_delegate}
use Rattle.cc_laws_heap.proofs.HeapShapes.{places_in-shape}
use Rattle.cc_laws_heap.proofs.GraphLeads.{graph-within}

-- TWO WALKS from one place to an end are one
walk-same : (l : Leads) (a b : ℕ) (w : Walk) → (walk a l w).waiting ≡ [] → (walk b l w).waiting ≡ [] → walk a l w ≡ walk b l w
unfolding walk
walk-same l zero b w p q = sym (walk-rests b l w p)
walk-same l (suc a) zero w p q = walk-rests (suc a) l w q
walk-same l (suc a) (suc b) w p q = go (walk-same l a b) w.waiting refl
  where
    go : ((v : Walk) → (walk a l v).waiting ≡ [] → (walk b l v).waiting ≡ [] → walk a l v ≡ walk b l v) → (ss : List Step) → w.waiting ≡ ss → walk (suc a) l w ≡ walk (suc b) l w
    go later [] e = walk-rests (suc a) l w e ∙ sym (walk-rests (suc b) l w e)
    go later (s ∷ ss) e =
        let first = walk-goes_on a l w s ss e in
        let second = walk-goes_on b l w s ss e in
        first ∙ (later (walked_first l s ss w) (subst (λ (v : Walk). v.waiting ≡ []) first p) (subst (λ (v : Walk). v.waiting ≡ []) second q) ∙ sym second)

module _ (h : Heap) (g : Graph) (w : IsWellFormed h) (m : IsWellMade g) (s : StandsFor h g) where
  -- a walk whose steps are all reached
  abbrev IsReached : Walk → Type 0
  IsReached v = AllReached g (steps_of v)

  found-reached : (v : Walk) (x : Name) → IsReached v → is_found v x ≡ true → Reached g x
  found-reached v x all f = all x (has-among same_name same_name-exact (named (steps_of v)) x f)

  -- what is reached has the same places in both
  places-alike : (x : Name) → Reached g x → contents ((leads_made g).places x) ≡ contents ((leads_in h).places x)
  places-alike x d = let k = stands-reached h g s x d in edges_of-made g x k.shape k.made ∙ sym (places_in-shape h w x k.shape k.there)

  -- a joint of which not both members are found gives nothing
  idle-joint : (v : Walk) (j : Joint) → ((is_found v j.the_map ≡ true) → (is_found v j.key ≡ true) → ⊥) → with_joint v j ≡ v
  idle-joint v j never = go (is_found v j.the_map && is_found v j.key) refl
    where
      go : (b : Bool) → (is_found v j.the_map && is_found v j.key) ≡ b → elim b [ true ↦ with_step v j.value (Pair j.the_map j.key) | false ↦ v ] ≡ v
      go true e = let p = and_parts (is_found v j.the_map) (is_found v j.key) e in absurd (never p.0 p.1)
      go false e = refl

  -- so an entry of which not both are reached gives nothing
  idle-entry : (v : Walk) (e : Entry) → IsReached v → Among e g.entries → ((Reached g e.the_map) → (Reached g e.key) → ⊥) → with_joints (joints_of e) v ≡ v
  idle-entry v e all i never = by_delegate e.delegate refl
    where
      its_own : with_joint v (joint e.the_map e.key e.value) ≡ v
      its_own = idle-joint v (joint e.the_map e.key e.value) (λ a b. never (found-reached v e.the_map all a) (found-reached v e.key all b))

      by_delegate : (d : Option Name) → e.delegate ≡ d → with_joints (key_joint e.the_map d e.key ++ joint e.the_map e.key e.value ∷ []) v ≡ v
      by_delegate None q = its_own
      by_delegate (Some d) q =
          ap (λ u. with_joint u (joint e.the_map e.key e.value)) (idle-joint v (joint e.the_map d e.key)
          (λ a b. never (found-reached v e.the_map all a) (key e d i q (found-reached v e.the_map all a) (found-reached v d all b)))) ∙ its_own

  -- what an entry gives from an object
  abbrev one : Name → Entry → Walk → Walk
  one x e v = elim (is_member x e) [ true ↦ with_joints (joints_of e) v | false ↦ v ]

  one-idle : (x : Name) (v : Walk) (e : Entry) → with_joints (joints_of e) v ≡ v → one x e v ≡ v
  one-idle x v e idle = go (is_member x e)
    where
      go : (b : Bool) → elim b [ true ↦ with_joints (joints_of e) v | false ↦ v ] ≡ v
      go true = idle
      go false = refl

  -- a walk whose steps are all reached goes on so
  walk-grows : (v : Walk) (x : Name) (r : Reason) → is_found v x ≡ false → Follows (leads_made g) (steps_of v) x r → IsReached v → IsReached (record v { waiting = v.waiting ++ (x, r) ∷ [] })
  walk-grows v x r e f all = subst (AllReached g) (append_assoc v.walked v.waiting ((x, r) ∷ [])) (all_reached-grows g (steps_of v) x r e f all)

  one-reached : (x : Name) (v : Walk) (e : Entry) → Among e g.entries → IsReached v → IsReached (one x e v)
  one-reached x v e i all = go (is_member x e)
    where
      go : (b : Bool) → IsReached (elim b [ true ↦ with_joints (joints_of e) v | false ↦ v ])
      go true = with_joints-keeps (leads_made g) IsReached walk-grows (joints_of e) v (λ j k. Among-flat_map joints_of e j g.entries i k) all
      go false = all

  -- entries of the graph, and those of them that the heaps have: none is lost whose members are both reached
  record AreKept (es fs : List Entry) : Type 0 where
    part : ArePart es fs
    among : (e : Entry) → Among e fs → Among e g.entries
    kept : (e : Entry) → Among e fs → Reached g e.the_map → Reached g e.key → Among e es
    once : (a b : Name) → count_by (is_entry_of a b) fs ≤ 1

  -- an entry does not stand in front of itself
  not_twice : (f : Entry) (fs : List Entry) → count_by (is_entry_of f.the_map f.key) (f ∷ fs) ≤ 1 → ¬ (Among f fs)
  not_twice f fs few i =
      let first : count_by (is_entry_of f.the_map f.key) (f ∷ fs) ≡ 1 + count_by (is_entry_of f.the_map f.key) fs =
      count_by-cons (is_entry_of f.the_map f.key) f fs ∙ ap (λ b. cond b 1 0 + count_by (is_entry_of f.the_map f.key) fs) (is_entry_of-own f) in
      absurd (omega (arith, few, first, count_by-some (is_entry_of f.the_map f.key) f fs i (is_entry_of-own f)))

  once-later : (f : Entry) (fs : List Entry) → ((a b : Name) → count_by (is_entry_of a b) (f ∷ fs) ≤ 1) → (a b : Name) → count_by (is_entry_of a b) fs ≤ 1
  once-later f fs once a b = omega (arith, once a b, count_by-cons (is_entry_of a b) f fs)

  -- where the first is one of the heaps, the later ones are kept
  kept-both : (e : Entry) (es : List Entry) (f : Entry) (fs : List Entry) → e ≡ f → ArePart es fs → AreKept (e ∷ es) (f ∷ fs) → AreKept es fs
  kept-both e es f fs same part k = record {
    part = part;
    among = λ d i. k.among d (inr i);
    kept = λ d i a b. ⊎_elim (λ is. absurd (not_twice f fs (k.once f.the_map f.key) (subst (λ c. Among c fs) (sym is ∙ same) i))) (λ j. j) (k.kept d (inr i) a b);
    once = once-later f fs k.once;
  }

  -- where it is not, too, and not both its members are reached
  kept-one : (es : List Entry) (f : Entry) (fs : List Entry) → ArePart es fs → AreKept es (f ∷ fs) → AreKept es fs
  kept-one es f fs part k = record { part = part; among = λ d i. k.among d (inr i); kept = λ d i a b. k.kept d (inr i) a b; once = once-later f fs k.once }

  skipped-idle : (x : Name) (es : List Entry) (f : Entry) (fs : List Entry) → ArePart es fs → AreKept es (f ∷ fs) → (v : Walk) → IsReached v → one x f v ≡ v
  skipped-idle x es f fs part k v all = one-idle x v f (idle-entry v f all (k.among f (inl refl))
      (λ a b. not_twice f fs (k.once f.the_map f.key) (ArePart-among es fs f part (k.kept f (inl refl) a b))))

  -- so both give the same
  entries-alike : (x : Name) (es fs : List Entry) → AreKept es fs → (v : Walk) → IsReached v → with_entries x fs v ≡ with_entries x es v
  entries-alike x [] [] k v all = refl
  entries-alike x (e ∷ es) [] k v all = absurd k.part
  entries-alike x [] (f ∷ fs) k v all =
      let part : ArePart [] fs = ArePart-none fs in
      ap (with_entries x fs) (skipped-idle x [] f fs part k v all) ∙ entries-alike x [] fs (kept-one [] f fs part k) v all
  entries-alike x (e ∷ es) (f ∷ fs) k v all = ⊎_elim
      (λ p. entries-alike x es fs (kept-both e es f fs p.0 p.1 k) (one x f v) (one-reached x v f (k.among f (inl refl)) all)
      ∙ ap (λ d. with_entries x es (one x d v)) (sym p.0))
      (λ p. ap (with_entries x fs) (skipped-idle x (e ∷ es) f fs p k v all) ∙ entries-alike x (e ∷ es) fs (kept-one (e ∷ es) f fs p k) v all)
      k.part

  -- an entry whose members are reached is there as it is in the graph
  entry-there : (e : Entry) → Among e g.entries → Reached g e.the_map → Reached g e.key → Among e h.entries
  entry-there e i a b =
      let f = here h g w m s e i (Reached-given h g e.the_map a) (Reached-given h g e.key b) in
      let d = same_delegate h g w m s e i f.0 f.1 f.3 in
      let same : f.0 ≡ e = λ j. record { the_map = f.2 j; key = f.3 j; delegate = d j; value = f.4 j } in
      subst (λ c. Among c h.entries) same f.1

  all-kept : AreKept h.entries g.entries
  all-kept = record { part = s.entries; among = λ e i. i; kept = entry-there; once = m.one_entry }

  -- FROM A REACHED OBJECT both go on alike
  object-alike : (x : Name) (v : Walk) → is_found v x ≡ true → IsReached v → with_object (leads_made g) x v ≡ with_object (leads_in h) x v
  object-alike x v f all =
      let ys : List Name = contents ((leads_made g).places x) in
      entries-alike x h.entries g.entries all-kept (with_edges x ys v) (with_edges-keeps (leads_made g) IsReached walk-grows x ys v f (λ y i. i) all)
      ∙ ap (λ zs. with_entries x h.entries (with_edges x zs v)) (places-alike x (found-reached v x all f))

  first-alike : (v : Walk) (t : Step) (ts : List Step) → v.waiting ≡ t ∷ ts → IsReached v → walked_first (leads_made g) t ts v ≡ walked_first (leads_in h) t ts v
  first-alike v t ts e all = object-alike t.0 (record { walked = v.walked ++ t ∷ []; waiting = ts }) (first-found v.walked t ts)
      (subst (AllReached g) (ap (λ q. v.walked ++ q) e ∙ sym (append_assoc v.walked (t ∷ []) ts)) all)

  -- so do whole walks
  walk-alike : (n : ℕ) (v : Walk) → IsReached v → walk n (leads_made g) v ≡ walk n (leads_in h) v
  unfolding walk
  walk-alike zero v all = refl
  walk-alike (suc n) v all = go (walk-alike n) v.waiting refl
    where
      go : ((u : Walk) → IsReached u → walk n (leads_made g) u ≡ walk n (leads_in h) u) → (ts : List Step) → v.waiting ≡ ts → walk (suc n) (leads_made g) v ≡ walk (suc n) (leads_in h) v
      go later [] e = walk-rests (suc n) (leads_made g) v e ∙ sym (walk-rests (suc n) (leads_in h) v e)
      go later (t ∷ ts) e =
          walk-goes_on n (leads_made g) v t ts e
          ∙ (later (walked_first (leads_made g) t ts v) (steps-step (leads_made g) (AllReached g) (all_reached-grows g) v t ts e all)
          ∙ (ap (walk n (leads_in h)) (first-alike v t ts e all) ∙ sym (walk-goes_on n (leads_in h) v t ts e)))

  -- and each has steps enough
  rooted-alike : rooted (leads_made g) ≡ rooted (leads_in h)
  rooted-alike = ap (λ (slots : Slots). with_bank S 0 slots (with_bank N 0 g.native_registers nothing_found)) (sym s.script_registers)
      ∙ ap (λ (slots : Slots). with_bank S 0 h.script_registers (with_bank N 0 slots nothing_found)) (sym s.native_registers)

  whole-alike : walk (leads_made g).objects (leads_made g) (rooted (leads_made g)) ≡ walk (leads_in h).objects (leads_in h) (rooted (leads_in h))
  whole-alike =
      let made : Leads = leads_made g in
      let there : Leads = leads_in h in
      let along = walk-alike made.objects (rooted made) (steps-rooted made (AllReached g) (all_reached-grows g) (λ y i. absurd i)) in
      let from = ap (walk made.objects there) rooted-alike in
      along ∙ (from ∙ walk-same there made.objects there.objects (rooted there)
      (subst (λ (v : Walk). v.waiting ≡ []) (along ∙ from) (derivation-ends made (names_of g) (graph-within g m)).rests)
      (derivation-ends there (names_there h) (heap-within h w)).rests)

  -- THE SAME STEPS, in the same order
  pub derivation-alike : derivation (leads_in h) ≡ derivation (leads_made g)
  derivation-alike = ap steps_of (sym whole-alike)

  -- SO BOTH ANSWER `why` ALIKE.
  pub why-alike : (x : Name) → why_of (leads_in h) x ≡ why_of (leads_made g) x
  why-alike x = ap (λ ss. explaining (needed_for ss (x ∷ [])).steps (done_or_nothing (has same_name (named ss) x))) derivation-alike
