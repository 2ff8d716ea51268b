-- WHAT FOLLOWS WHERE A COMMAND IS ANSWERED, by the laws: the reply is the graph's, the heaps go on standing for the graph,
-- snapshots stay fresh, colours keep their invariant, and counts stay small.
use Rattle.std.proofs.Common.{◌≡◌, ◌≢◌, ℕ, Bool, true, false, List, ◌++◌, Option, Some, None, IsTrue, refl, sym, ◌∙◌, ap, subst, inl, inr, ◌⊎◌, ⊎_elim, arith, slice_index_or}
use Rattle.std.specs.List.{filter}
use Rattle.std.proofs.lemmas.Bool.{false≢true, true≢false}
use Rattle.cc_lists.specs.Members.{Among, has}
use Rattle.cc_lists.proofs.Members.{Among-append, Among-filter, Among-map_cases, Among-right, has-among}
use Rattle.cc_names.specs.declared.name.Name.{Name}
use Rattle.cc_names.specs.declared.register.Reg.TheVariants.{N}
use Rattle.cc_names.specs.Names.{native, reflector, same_name, is_native, is_script}
use Rattle.cc_names.proofs.NameTests.{same_name-exact}
use Rattle.cc_model.specs.declared.command.Command.{Command}
use Rattle.cc_model.specs.declared.item.Refusal.{Refusal}
use Rattle.cc_model.specs.declared.item.Refusal.TheVariants.{NoMemory}
use Rattle.cc_model.specs.declared.item.Reply.{Reply}
use Rattle.cc_model.specs.declared.item.Reply.TheVariants.{Refused}
use Rattle.cc_model.specs.Telling.{Telling}
use Rattle.cc_model.specs.Mutating.{Class, does, reads_weak, class_of, is_applied, is_mutator}
use Rattle.cc_model.specs.Ranges.{in_range}
use Rattle.cc_model.specs.Checks.{named_or_nothing, refusal_of, refused_or, reply_if_taken}
use Rattle.cc_model.specs.Colours.{HasColourInvariant}
use Rattle.cc_model.specs.Deeds.{Deed}
use Rattle.cc_model.specs.Effects.{done_in, takes_memory}
use Rattle.cc_model.specs.Fresh.{IsFresh}
use Rattle.cc_model.specs.Graph.{Graph, step, reply_to, unless_refused, changed}
use Rattle.cc_model.specs.Graph as graph
use Rattle.cc_model.specs.Heap.{Heap, HeapNative, has_reflector, objects_of}
use Rattle.cc_model.specs.Lawful.{State, RepliesWith, class_may_want_memory, graph_after, is_without_memory, may_want_memory, noted_in, reply_of_class, reply_with, step_of, step_with}
use Rattle.cc_model.specs.Ended.{EndedAgrees}
use Rattle.cc_model.specs.Slots.{Slots}
use Rattle.cc_model.specs.Listed.{census_order}
use Rattle.cc_model.specs.Run.{census_names}
use Rattle.cc_model.specs.Snapshot.{Snapshot}
use Rattle.cc_model.specs.Suspected.{IsSuspected}
use Rattle.cc_model.specs.StandsFor.{StandsFor}
use Rattle.cc_model.specs.View.{view}
use Rattle.cc_model.specs.WellFormed.{native_names, script_names}
use Rattle.cc_model.specs.WellMade.{IsWellMade}
use Rattle.cc_model.proofs.Replies.{is_without_memory-true}
use Rattle.cc_laws_heap.proofs.Face.{AreColoured-from_view, HasColourInvariant-from, IsTaken-from, MayBeDone, come_back-given, command-stands, done_in-coloured, done_in-sound, has_reflector-none, hold-stands, hold-well, objects-stand, refusal_of-alike, reply_if_taken-alike, step-well}
use Rattle.cc_laws_heap.proofs.Wanting.{takes-may_want}
use Rattle.cc_laws_snapshot.proofs.Face.{AreGentle, done_in-fresh, done_in-gentle, done_in-loyal, loyal-suspected}
use Rattle.cc_heaps.specs.Keyed.{Keyed, IsInOrder}
use Rattle.cc_weakrefs.specs.declared.noted.Noted.{Noted}
use Rattle.cc_weakrefs.specs.Noting.{HoldKeys, names_noted, usable_noted}
use Rattle.cc_weakrefs.proofs.Noting.{hold-on}
use Rattle.cc_mutator.specs.Applied.{deed_by, reply_by, reply_in}
use Rattle.cc_mutator.specs.Commands.{IsApplied}
use Rattle.cc_mutator.specs.Listing.{AgreesFor, AreListedFor}
use Rattle.cc_mutator.proofs.WeakRead.{deed-effects, deed-may, gentle-none_back, noted-alike, noted-may, read-effects, reads-free, reads-is, reads-place, reads-taken}

-- Want of memory

with-memory : (r : Reply) → is_without_memory r ≡ false → r ≢ Refused NoMemory
with-memory r e f = let t : is_without_memory r ≡ true = ap is_without_memory f in absurd (cc)

-- what is listed as it is there is listed only where it is there: no reflector of a native that has none
reflector-unlisted : (h : Heap) (names : List Name) (k : ℕ) → census_names h ≡ census_order names → has_reflector h k ≡ false → has same_name names (reflector k) ≡ false
reflector-unlisted h names k listed none = go (has same_name names (reflector k)) refl
  where
    unnamed : Among (reflector k) (native_names h) → ⊥
    unnamed m = let n = Among-map_cases (λ (n : HeapNative). native n.number) h.natives (reflector k) m in let e : native n.0.number ≡ reflector k = n.2 in cc

    go : (b : Bool) → has same_name names (reflector k) ≡ b → b ≡ false
    go false e = refl
    go true e =
        let member = has-among same_name same_name-exact names (reflector k) e in
        let in_census : Among (reflector k) (census_order names) =
        Among-right (reflector k) (filter is_native names) (filter is_script names) (Among-filter is_script (reflector k) names member refl) in
        let there : Among (reflector k) (native_names h ++ script_names h) = subst (Among (reflector k)) (sym listed) in_census in
        ⊎_elim (λ m. absurd (unnamed m)) (λ m. absurd (has_reflector-none h k none m)) (Among-append (reflector k) (native_names h) (script_names h) there)

-- a command of the mutator does a deed, or reads a weak register
pub mutator-cases : (P : Class → Type 0) (k : Class) → is_mutator k ≡ true → P does → ((d w : ℕ) → P (reads_weak d w)) → P k
mutator-cases P does e deed reads = deed
mutator-cases P (reads_weak d w) e deed reads = reads d w
mutator-cases P _ e deed reads = absurd (false≢true e)

-- a command that takes memory here may want it: `wrap` where the listed names are those that are there
may-want : (h : Heap) (s : State) (c : Command) → StandsFor h s.graph → AreListedFor c h s.listed → class_of c ≡ does → takes_memory h c ≡ true → IsTrue (may_want_memory s c)
may-want h s c stands listed deed takes =
    ap (class_may_want_memory s c) deed
    ∙ takes-may_want h s c stands (λ d n k is none. reflector-unlisted h s.listed k (subst (λ e. AreListedFor e h s.listed) is listed) none) takes

module _ (c : Command) (old new : Keyed) (weak noted : List (Option Noted)) (reply : Reply) (before after : Telling) (a : IsApplied c old new weak noted reply before after) where
  -- the names that weak registers note before
  abbrev pub names : Slots
  names = names_noted weak

  -- the deed of the command beside them
  abbrev pub deed : Deed
  deed = deed_by old.heap names c

  -- WHAT HAPPENED: nothing, or the deed of the command, where it is not refused
  pub happened : (new.heap ≡ old.heap) ⊎ ((refusal_of (objects_of old.heap) c ≡ None) × (new.heap ≡ (done_in old.heap deed).heap))
  happened = grind (arith, is_without_memory-true, with-memory, a.refused, a.memory, a.done)

  -- THE REPLY IS THE GRAPH'S, for each graph that the heaps stand for, or want of memory
  pub applied-replies : IsTrue (is_applied c) → HoldKeys weak old → (s : State) → StandsFor old.heap s.graph → AreListedFor c old.heap s.listed →
      AgreesFor (class_of c) old.heap names s → RepliesWith s c reply
  applied-replies applied held s stands listed agrees =
      mutator-cases (λ k. class_of c ≡ k → AgreesFor k old.heap names s → RepliesWith s c reply) (class_of c) applied
      (λ e unit. by_deed e) (λ d w e g. by_reading d w e g) refl agrees
    where
      alike : refusal_of (objects_of old.heap) c ≡ refusal_of (graph.objects_of s.graph) c
      alike = refusal_of-alike (objects_of old.heap) (graph.objects_of s.graph) (objects-stand old.heap s.graph stands) c

      -- the graph's reply, where it refuses so
      refusing : (o : Option Refusal) → refusal_of (objects_of old.heap) c ≡ o → refused_or o (reply_if_taken (graph.objects_of s.graph) c) ≡ reply_to s.graph c
      refusing o e = ap (λ r. refused_or r (reply_if_taken (graph.objects_of s.graph) c)) (sym e ∙ alike)

      by_deed : class_of c ≡ does → RepliesWith s c reply
      by_deed is = go (refusal_of (objects_of old.heap) c) refl (is_without_memory reply) refl
        where
          graphs : reply_to s.graph c ≡ reply_with s.ended s.graph c
          graphs = sym (ap (reply_of_class s.ended s.graph c) is)

          here : reply_by old.heap names c ≡ reply_if_taken (objects_of old.heap) c
          here = ap (reply_in old.heap names c) is

          go : (o : Option Refusal) → refusal_of (objects_of old.heap) c ≡ o → (b : Bool) → is_without_memory reply ≡ b → RepliesWith s c reply
          go (Some r) e b f = inl ((a.refused r e).0 ∙ (refusing (Some r) e ∙ graphs))
          go None e true f =
              let without : reply ≡ Refused NoMemory = is_without_memory-true reply f in
              inr (record { refused = without; command_may = may-want old.heap s c stands listed is (a.memory without).1; no_other = sym alike ∙ e })
          go None e false f = inl ((a.done e (with-memory reply f)).reply_is
              ∙ (here ∙ (reply_if_taken-alike (objects_of old.heap) (graph.objects_of s.graph) (objects-stand old.heap s.graph stands) c ∙ (refusing None e ∙ graphs))))

      by_reading : (d w : ℕ) → class_of c ≡ reads_weak d w → (s.graph.weak_registers ≡ names) × EndedAgrees old.heap s.ended → RepliesWith s c reply
      by_reading d w is agree = go (is_without_memory reply) refl
        where
          go : (b : Bool) → is_without_memory reply ≡ b → RepliesWith s c reply
          go true f = absurd (true≢false (sym (a.memory (is_without_memory-true reply f)).1 ∙ reads-free old.heap c d w is))
          go false f = inl ((a.done (reads-taken (objects_of old.heap) c d w is) (with-memory reply f)).reply_is
              ∙ (ap (reply_in old.heap names c) is ∙ (ap named_or_nothing (noted-alike old weak s held agree.0 agree.1 w) ∙ sym (ap (reply_of_class s.ended s.graph c) is))))

  module _ {owned : List ℕ} (order : IsInOrder owned old) (range : IsTrue (in_range c)) where
    -- the deed may be done
    may : refusal_of (objects_of old.heap) c ≡ None → MayBeDone old.heap deed
    may none = deed-may old.heap names c order.sound range (IsTaken-from (objects_of old.heap) c none)

    pub applied-fresh : (s : Snapshot) → IsFresh old.heap.natives_made (view old.heap) s → IsFresh new.heap.natives_made (view new.heap) s
    applied-fresh s fresh = ⊎_elim
        (λ same. subst (λ (h : Heap). IsFresh h.natives_made (view h) s) (sym same) fresh)
        (λ d. subst (λ (h : Heap). IsFresh h.natives_made (view h) s) (sym d.1) (done_in-fresh old.heap s deed order.sound fresh (may d.0)))
        happened

    pub applied-colours : HasColourInvariant (view old.heap) → HasColourInvariant (view new.heap)
    applied-colours colours = ⊎_elim
        (λ same. subst (λ (h : Heap). HasColourInvariant (view h)) (sym same) colours)
        (λ d. subst (λ (h : Heap). HasColourInvariant (view h)) (sym d.1)
        (HasColourInvariant-from (done_in old.heap deed).heap (done_in-sound old.heap deed order.sound (may d.0)).well_formed
        (done_in-coloured old.heap deed order.sound (AreColoured-from_view old.heap order.sound.well_formed colours) (may d.0))))
        happened

    -- NO COMMAND OF THE MUTATOR FORGETS an unreached native, refused or not.
    pub applied-remembers : (candidates : List ℕ) → IsSuspected (view old.heap) candidates → IsSuspected (view new.heap) candidates
    applied-remembers candidates suspected = ⊎_elim
        (λ same. subst (λ (h : Heap). IsSuspected (view h) candidates) (sym same) suspected)
        (λ d. subst (λ (h : Heap). IsSuspected (view h) candidates) (sym d.1)
        (loyal-suspected old.heap (done_in old.heap deed).heap candidates order.sound.well_formed (done_in-sound old.heap deed order.sound (may d.0)).well_formed
        (done_in-loyal old.heap deed order.sound (may d.0)) suspected))
        happened

    -- NONE BRINGS A NATIVE BACK, so weak registers hold the keys of what they note.
    pub applied-held : HasColourInvariant (view old.heap) → HoldKeys noted new
    applied-held colours = ⊎_elim
        (λ same. hold-on noted old new a.keys (λ k below there. subst (λ (h : Heap). Among (native k) (native_names h)) same there)
        (omega (arith, ap (λ (h : Heap). h.natives_made) same)) a.held)
        (λ d. let gentle = subst (AreGentle old.heap) (sym d.1) (done_in-gentle old.heap deed order.sound (AreColoured-from_view old.heap order.sound.well_formed colours) (may d.0)) in
        hold-on noted old new a.keys (gentle-none_back old.heap new.heap gentle) gentle.made_more a.held)
        happened

    -- THE HEAPS STAND for the graph's step.
    pub applied-stands : IsTrue (is_applied c) → HoldKeys weak old → (s : State) → AgreesFor (class_of c) old.heap names s → IsWellMade s.graph → StandsFor old.heap s.graph →
        IsWellMade (graph_after s.ended s.graph c (Some reply)) × StandsFor new.heap (graph_after s.ended s.graph c (Some reply))
    applied-stands applied held s agrees made stands = by_memory (is_without_memory reply) refl
      where
        g : Graph
        g = s.graph

        Stands : Graph → Type 0
        Stands k = IsWellMade k × StandsFor new.heap k

        -- a deed: the graph refuses what the heaps do
        by_deed : class_of c ≡ does → is_without_memory reply ≡ false → Stands (step g c)
        by_deed is f = (step-well g made c range, go (refusal_of (objects_of old.heap) c) refl)
          where
            go : (o : Option Refusal) → refusal_of (objects_of old.heap) c ≡ o → StandsFor new.heap (step g c)
            go (Some r) e =
                let alike : refusal_of (graph.objects_of g) c ≡ Some r = sym (refusal_of-alike (objects_of old.heap) (graph.objects_of g) (objects-stand old.heap g stands) c) ∙ e in
                let still : step g c ≡ g = ap (λ o. unless_refused o g (changed g c)) alike in
                subst (λ h. StandsFor h (step g c)) (sym (ap (λ (v : Keyed). v.heap) (a.refused r e).1)) (subst (StandsFor old.heap) (sym still) stands)
            go None e = subst (λ h. StandsFor h (step g c)) (sym ((a.done e (with-memory reply f)).heap ∙ deed-effects old.heap names c is))
                (command-stands old.heap g c order.sound made stands range e)

        -- a weak register read: what it notes may come back
        by_reading : (d w : ℕ) → class_of c ≡ reads_weak d w → (g.weak_registers ≡ names) × EndedAgrees old.heap s.ended → is_without_memory reply ≡ false →
            Stands (graph.set_register g (N d) (noted_in s.ended g w))
        by_reading d w is agree f =
            let x : Option Name = usable_noted old.heap names w in
            let place = reads-place old.heap d w order.sound.well_formed (subst (λ e. IsTrue (in_range e)) (reads-is c d w is) range) in
            let given = come_back-given old.heap g x (noted-may old.heap (slice_index_or names w None)) in
            subst (λ y. Stands (graph.set_register g (N d) y)) (noted-alike old weak s held agree.0 agree.1 w) (
              hold-well old.heap g d x order.sound made stands place given,
              subst (λ h. StandsFor h (graph.set_register g (N d) x))
                  (sym ((a.done (reads-taken (objects_of old.heap) c d w is) (with-memory reply f)).heap ∙ read-effects old.heap names c d w is))
                  (hold-stands old.heap g d x order.sound made stands place given),
            )

        by_memory : (b : Bool) → is_without_memory reply ≡ b → Stands (elim b [ true ↦ g | false ↦ step_with s.ended g c ])
        by_memory true f = (made, subst (λ h. StandsFor h g) (sym (ap (λ (v : Keyed). v.heap) (a.memory (is_without_memory-true reply f)).2)) stands)
        by_memory false f = mutator-cases (λ k. class_of c ≡ k → AgreesFor k old.heap names s → Stands (step_with s.ended g c)) (class_of c) applied
            (λ is unit. subst Stands (sym (ap (step_of s.ended g c) is)) (by_deed is f))
            (λ d w is agree. subst Stands (sym (ap (step_of s.ended g c) is)) (by_reading d w is agree f)) refl agrees
