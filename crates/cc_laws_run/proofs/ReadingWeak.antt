-- A WEAK REGISTER READ: what it notes comes back, where that has not ended. The answer is lawful, the machine runs on, and no native is
-- forgotten.
use Rattle.std.proofs.Common.{◌≡◌, ℕ, ◌≤◌, ◌<◌, Bool, true, false, not, List, [], ◌∷◌, map, length, Option, Some, None, is_some, slice_get, slice_index_or, zero, suc, refl, sym, ◌∙◌, ap, subst, inl, if◌then◌else◌, arith}
use Rattle.std.specs.Prelude.{IsTrue, option_and_then}
use Rattle.std.proofs.lemmas.Bool.{and_parts, false≢true, true≢false, leb-true}
use Rattle.std.proofs.lemmas.List.{append-nil}
use Rattle.cc_lists.specs.Members.{Among, has}
use Rattle.cc_lists.proofs.Members.{Among-map}
use Rattle.cc_names.specs.declared.name.Name.{Name}
use Rattle.cc_names.specs.declared.name.Name.TheVariants as name
use Rattle.cc_names.specs.declared.register.Reg.TheVariants.{N}
use Rattle.cc_names.specs.Names.{native, same_name}
use Rattle.cc_names.specs.Sizes.{bank_length}
use Rattle.cc_model.specs.declared.command.Command.{Command}
use Rattle.cc_model.specs.declared.command.Command.TheVariants.{Deref}
use Rattle.cc_model.specs.Ranges.{in_range, is_register, is_weak_register}
use Rattle.cc_model.specs.Mutating.{reads_weak, class_of}
use Rattle.cc_model.specs.Asks.{taken}
use Rattle.cc_model.specs.Slots.{Slots}
use Rattle.cc_model.specs.Checks.{named_or_nothing}
use Rattle.cc_model.specs.Graph.{Graph, native_in, set_register}
use Rattle.cc_model.specs.WellMade.{IsWellMade, is_made_native, was_made}
use Rattle.cc_model.specs.Reached.{Reached}
use Rattle.cc_model.specs.Heap.{Heap, Outcome}
use Rattle.cc_model.specs.Given.{is_usable, MayComeBack}
use Rattle.cc_model.specs.StandsFor.{StandsFor}
use Rattle.cc_model.specs.Effects.{hold_native}
use Rattle.cc_model.specs.Snapshot.{Snapshot}
use Rattle.cc_model.specs.Marking.{NewMarks}
use Rattle.cc_model.specs.WellFormed.{native_names, script_names}
use Rattle.cc_model.specs.Listed.{after_events, ended_after}
use Rattle.cc_model.specs.Lawful.{State, next, AnswersClass, EachMayBe, unless_ended, noted_in, graph_after, is_refused, is_without_memory, has_none, unlinked_numbers}
use Rattle.cc_model.specs.Collecting.{Machine}
use Rattle.cc_model.specs.Run.{noted, read_weak}
use Rattle.cc_laws_heap.specs.Sound.{IsSound}
use Rattle.cc_laws_heap.proofs.Freed.{freed_event}
use Rattle.cc_laws_heap.proofs.Owning.{IsIn}
use Rattle.cc_laws_heap.proofs.Holds.{contents-get}
use Rattle.cc_laws_heap.proofs.BroughtBack.{IsGivenNative, come_back-given, come_back-there, hold-sound, hold-invariant, hold-stands, hold-well, hold-unreached}
use Rattle.cc_laws_heap.proofs.UnlinkedKept.{hold-unlinked}
use Rattle.cc_laws_snapshot.proofs.BroughtBack.{brought_back-fresh, brought_back-suspected}
use Rattle.cc_laws_marking.proofs.Beside.{hold_native-keeps}
use Rattle.cc_laws_run.specs.Running.{IsRunning, IsFreshNow, IsMarkingNow}
use Rattle.cc_laws_run.specs.Doomed.{IsSuspectedNow, candidates_now}
use Rattle.cc_laws_run.proofs.Listing.{AreListed, AreListed-census, AreListed-freed, native-listed}
use Rattle.cc_laws_run.proofs.NamesAfter.{NamesAfter, hold_native-names}
use Rattle.cc_laws_run.proofs.EndedAfter.{EndedIn, ended-after}
use Rattle.cc_laws_run.proofs.EndedDeeds.{hold-made, freed-unlinks_none, ends-names}
use Rattle.cc_laws_run.proofs.Answered.{running-listed, has_none-freed, abandonment-none, rising-none, each-freed}

-- The command

-- a command of this class is a `deref`
pub class-deref : (c : Command) (d w : ℕ) → class_of c ≡ reads_weak d w → c ≡ Deref d w
class-deref c d w e = grind arith

-- a register that is in range is in the bank
in-bank : (h : Heap) (d : ℕ) → bank_length ≤ length h.native_registers → IsTrue (is_register d) → d < length h.native_registers
in-bank h d enough i = let below : d < bank_length = leb-true (suc d) bank_length i in omega (arith, below, enough)

-- What is noted

-- a native that was made has a number that was given
made-bounds : (g : Graph) (k : ℕ) → is_some (native_in g k) ≡ true → (1 ≤ k) × (k ≤ length g.natives)
made-bounds g zero e = absurd (false≢true e)
made-bounds g (suc k) e = (omega arith, within g.natives k e)
  where
    within : {X : Type 0} (xs : List X) (i : ℕ) → is_some (slice_get xs i) ≡ true → suc i ≤ length xs
    within [] i e = absurd (false≢true e)
    within (x ∷ xs) zero e = omega arith
    within (x ∷ xs) (suc i) e = let more = within xs i e in omega (arith, more)

-- what the graph's ended names give is what the heaps give
usable-alike : (usable ended : Bool) (x : Name) → ended ≡ not usable → (if usable then Some x else None) ≡ elim ended [ true ↦ None | false ↦ Some x ]
usable-alike true ended x e = rw e refl
usable-alike false ended x e = rw e refl

module _ (m : Machine) (s : State) (r : IsRunning m s) (w : ℕ) where
  -- what a weak register of the graph notes was made
  noted-made : (x : Name) → slice_index_or s.graph.weak_registers w None ≡ Some x → IsTrue (is_made_native s.graph x)
  noted-made x e = r.well_made.weak_registers x (contents-get s.graph.weak_registers w x e)

  -- so it is given by both alike
  made-alike : (x : Name) → IsTrue (is_made_native s.graph x) → (if is_usable m.heap x then Some x else None) ≡ unless_ended s.ended x
  made-alike (name.Native k) i =
      let bounds = made-bounds s.graph k.0 (and_parts true (was_made s.graph (name.Native k)) i).1 in
      usable-alike (is_usable m.heap (native k.0)) (has same_name s.ended (native k.0)) (native k.0)
      (r.ended k.0 bounds.0 (subst (λ n. k.0 ≤ n) (sym r.stands.natives_made) bounds.1))
  made-alike (name.Script k) i = absurd (false≢true (and_parts false (was_made s.graph (name.Script k)) i).0)
  made-alike (name.Reflector k) i = absurd (false≢true (and_parts false (was_made s.graph (name.Reflector k)) i).0)

  -- WHAT A WEAK REGISTER GIVES is the same in the heaps and in the graph beside the ended names.
  pub noted-alike : noted m w ≡ noted_in s.ended s.graph w
  noted-alike = ap (λ (ws : Slots). option_and_then (λ x. if is_usable m.heap x then Some x else None) (slice_index_or ws w None)) r.weak ∙ go (slice_index_or s.graph.weak_registers w None) refl
    where
      go : (o : Option Name) → slice_index_or s.graph.weak_registers w None ≡ o → option_and_then (λ x. if is_usable m.heap x then Some x else None) o ≡ option_and_then (unless_ended s.ended) o
      go None e = refl
      go (Some x) e = made-alike x (noted-made x e)

-- it may come back
pub noted-comes : (m : Machine) (w : ℕ) → MayComeBack m.heap (noted m w)
noted-comes m w = go (slice_index_or m.weak w None)
  where
    given : (x : Name) (b : Bool) → is_usable m.heap x ≡ b → MayComeBack m.heap (if b then Some x else None)
    given x true e = e
    given x false e = tt

    go : (o : Option Name) → MayComeBack m.heap (option_and_then (λ x. if is_usable m.heap x then Some x else None) o)
    go None = tt
    go (Some x) = given x (is_usable m.heap x) refl

-- a name, or that nothing is there, is no refusal
named-taken : (x : Option Name) → is_refused (named_or_nothing x) ≡ false
named-taken None = refl
named-taken (Some x) = refl

named-granted : (x : Option Name) → is_without_memory (named_or_nothing x) ≡ false
named-granted None = refl
named-granted (Some x) = refl

module _ (m : Machine) (s : State) (d w : ℕ) (r : IsRunning m s) (i : IsTrue (in_range (Deref d w))) where
  abbrev back : Option Name
  back = noted m w

  abbrev held : Outcome
  held = hold_native m.heap d back

  abbrev after : Graph
  after = set_register s.graph (N d) (noted_in s.ended s.graph w)

  place : d < length m.heap.native_registers
  place = in-bank m.heap d r.sound.well_formed.registers.0.enough (and_parts (is_register d) (is_weak_register w) i).0

  there : IsIn (native_names m.heap) back
  there = come_back-there m.heap back (noted-comes m w)

  is_given : IsGivenNative m.heap s.graph back
  is_given = come_back-given m.heap s.graph back (noted-comes m w)

  alike : back ≡ noted_in s.ended s.graph w
  alike = noted-alike m s r w

  sound : IsSound [] held.heap
  sound = hold-sound m.heap d back r.sound place there

  names : (ks : List ℕ) × NamesAfter m.heap held ks [] []
  names = hold_native-names m.heap d back place there r.sound

  -- the graph after the reply
  graph-is : graph_after s.ended s.graph (Deref d w) (Some (named_or_nothing back)) ≡ after
  graph-is = ap (λ b. elim b [ true ↦ s.graph | false ↦ after ]) (named-granted back)

  -- who is told freed was listed, and nothing reaches it then
  freed-listed : (k : ℕ) → Among k names.0 → Among (native k) s.listed
  freed-listed k j = native-listed s.listed (native_names m.heap) (script_names m.heap) (running-listed m s r) (native k)
      (subst (Among (native k)) (append-nil (native_names m.heap)) (names.1.were_there k j))

  freed-unreached : (k : ℕ) → Among k names.0 → ¬ (Reached after (native k))
  freed-unreached k j = subst (λ (x : Option Name). ¬ (Reached (set_register s.graph (N d) x) (native k))) alike
      (hold-unreached m.heap s.graph d back r.sound r.well_made r.stands place is_given (native k)
      (subst (λ es. Among (freed_event k) es) (sym names.1.told) (Among-map freed_event k names.0 j)))

  each : EachMayBe after s.listed (Deref d w) held.events
  each = subst (λ es. EachMayBe after s.listed (Deref d w) es) (sym names.1.told) (each-freed after (Deref d w) names.0 s.listed names.1.once freed-listed freed-unreached)

  -- A WEAK REGISTER READ is answered lawfully.
  deref-answers : AnswersClass s (Deref d w) (read_weak m d w).answer (reads_weak d w)
  deref-answers = (
    refl,
    refl,
    record {
      replies = inl (ap named_or_nothing alike);
      quiet = λ q. absurd (true≢false (sym (and_parts (is_refused (named_or_nothing back)) _ q).0 ∙ named-taken back));
      each = subst (λ g. EachMayBe g s.listed (Deref d w) held.events) (sym graph-is) each;
      rising = rising-none (Deref d w) held.events (ap unlinked_numbers names.1.told ∙ freed-unlinks_none names.0);
      abandonment = abandonment-none (Deref d w) (named_or_nothing back) held.events refl (ap has_none names.1.told ∙ has_none-freed names.0);
    },
  )

  -- the snapshot of the running collection stays fresh
  fresh-now : (snapshot : Option Snapshot) → IsFreshNow m.heap snapshot → IsFreshNow held.heap snapshot
  fresh-now None f = tt
  fresh-now (Some t) f = brought_back-fresh [] m.heap t d back r.sound place there f

  -- a marking that goes on does so as it should
  marking-now : (marking : Option NewMarks) → IsMarkingNow m.heap marking m.snapshot → IsMarkingNow held.heap marking m.snapshot
  marking-now None is = tt
  marking-now (Some marks) is =
      let keeps = hold_native-keeps m.heap d back in
      record { under = keeps.under marks is.under; so_far = keeps.so_far marks is.so_far; alone = is.alone }

  -- the ended names agree with the heaps
  ends : EndedIn held.heap (ended_after s.ended held.events)
  ends = ended-after m.heap held.heap s.ended held.events
      (ends-names m.heap held names.0 [] [] r.sound.well_formed sound.well_formed names.1 (λ p j. inl (hold-unlinked m.heap d back p j))
      (omega (arith, hold-made m.heap d back))
      (λ j l k. absurd (omega (arith, l, k, hold-made m.heap d back)))
      (λ j k. absurd k))
      (record { agrees = r.ended; made = r.ended_made })

  left : AreListed (after_events s.listed held.events) (native_names held.heap) (script_names held.heap)
  left = subst (λ es. AreListed (after_events s.listed es) (native_names held.heap) (script_names held.heap)) (sym names.1.told)
      (subst (λ xs. AreListed (after_events s.listed (map freed_event names.0)) xs (script_names held.heap))
      (sym (names.1.natives_left ∙ ap (λ xs. after_events xs (map freed_event names.0)) (append-nil (native_names m.heap))))
      (subst (λ xs. AreListed (after_events s.listed (map freed_event names.0)) (after_events (native_names m.heap) (map freed_event names.0)) xs)
      (sym (names.1.scripts_left ∙ append-nil (script_names m.heap)))
      (AreListed-freed names.0 s.listed (native_names m.heap) (script_names m.heap) (running-listed m s r))))

  -- IT LEAVES A MACHINE that runs.
  deref-runs : IsRunning (read_weak m d w).machine (next s (taken (Deref d w)) (read_weak m d w).answer)
  deref-runs = record {
    sound = sound;
    colours = hold-invariant m.heap d back r.sound r.colours place there;
    fresh = fresh-now m.snapshot r.fresh;
    marking = marking-now m.marking r.marking;
    well_made = subst IsWellMade (ap (λ x. set_register s.graph (N d) x) alike ∙ sym graph-is) (hold-well m.heap s.graph d back r.sound r.well_made r.stands place is_given);
    stands = subst (StandsFor held.heap) (ap (λ x. set_register s.graph (N d) x) alike ∙ sym graph-is) (hold-stands m.heap s.graph d back r.sound r.well_made r.stands place is_given);
    listed = AreListed-census (after_events s.listed held.events) (native_names held.heap) (script_names held.heap) left;
    weak = r.weak ∙ ap (λ (g : Graph). g.weak_registers) (sym graph-is);
    ended = ends.agrees;
    ended_made = ends.made;
  }

  -- IT FORGETS NO UNREACHED NATIVE.
  pub deref-suspected : IsSuspectedNow m → IsSuspectedNow (read_weak m d w).machine
  deref-suspected suspected = brought_back-suspected [] m.heap (candidates_now m.snapshot) d back r.sound place there suspected

-- The same of each command of the class

pub weak-answers : (m : Machine) (s : State) (c : Command) (d w : ℕ) → IsRunning m s → IsTrue (in_range c) → class_of c ≡ reads_weak d w →
    AnswersClass s c (read_weak m d w).answer (reads_weak d w)
weak-answers m s c d w r i e =
    let is = class-deref c d w e in
    subst (λ k. AnswersClass s k (read_weak m d w).answer (reads_weak d w)) (sym is) (deref-answers m s d w r (subst (λ k. IsTrue (in_range k)) is i))

pub weak-runs : (m : Machine) (s : State) (c : Command) (d w : ℕ) → IsRunning m s → IsTrue (in_range c) → class_of c ≡ reads_weak d w →
    IsRunning (read_weak m d w).machine (next s (taken c) (read_weak m d w).answer)
weak-runs m s c d w r i e =
    let is = class-deref c d w e in
    subst (λ k. IsRunning (read_weak m d w).machine (next s (taken k) (read_weak m d w).answer)) (sym is) (deref-runs m s d w r (subst (λ k. IsTrue (in_range k)) is i))

pub weak-suspected : (m : Machine) (s : State) (c : Command) (d w : ℕ) → IsRunning m s → IsTrue (in_range c) → class_of c ≡ reads_weak d w →
    IsSuspectedNow m → IsSuspectedNow (read_weak m d w).machine
weak-suspected m s c d w r i e = deref-suspected m s d w r (subst (λ k. IsTrue (in_range k)) (class-deref c d w e) i)
