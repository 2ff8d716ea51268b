-- A COLLECTION THAT CAN'T MISS NAMES, FOLLOWED THROUGH ASKS THAT READ WEAK REGISTERS: of the names some are left, and the others may be back.
use Rattle.std.specs.Prelude.{IsTrue}
use Rattle.std.specs.List.{list_all}
use Rattle.std.specs.Option.{option_to_list}
use Rattle.std.proofs.Common.{◌≡◌, ◌≢◌, ℕ, suc, ◌<◌, ◌≤◌, Bool, true, false, List, [], ◌∷◌, ◌++◌, length, set, Option, Some, None, refl, sym, ◌∙◌, ap, subst, inl, inr, ◌⊎◌, ⊎_elim, arith}
use Rattle.std.proofs.lemmas.Bool.{false≢true, true≢false, and_parts, ltb-true}
use Rattle.std.proofs.lemmas.List.{get_or-set_same}
use Rattle.cc_lists.specs.Members.{Among}
use Rattle.cc_lists.proofs.Members.{Among-left, Among-right, Among-append}
use Rattle.cc_names.specs.declared.name.Name.{Name}
use Rattle.cc_names.specs.declared.register.Reg.TheVariants.{N}
use Rattle.cc_names.specs.Names.{native, reflector, same_name}
use Rattle.cc_names.specs.Sizes.{bank_length}
use Rattle.cc_model.specs.declared.command.Command.{Command}
use Rattle.cc_model.specs.declared.command.Command.TheVariants.{Deref, Gc}
use Rattle.cc_model.specs.declared.item.Event.{Event}
use Rattle.cc_model.specs.Mutating.{Class, so_many, whole, says, does, forgets, reads_weak, runs, collects_scripts, class_of}
use Rattle.cc_model.specs.Answers.{Answer}
use Rattle.cc_model.specs.Asks.{Ask, taken}
use Rattle.cc_model.specs.Ranges.{in_range, is_register, is_weak_register}
use Rattle.cc_model.specs.Slots.{Slots, contents}
use Rattle.cc_model.specs.Entries.{Joint, joints}
use Rattle.cc_model.specs.Graph.{Graph}
use Rattle.cc_model.specs.Reached.{Reached, reached_names}
use Rattle.cc_model.proofs.Reaching.{reached-decided, root-reached}
use Rattle.cc_model.specs.Given.{given}
use Rattle.cc_model.specs.Heap.{Heap, register, set_register}
use Rattle.cc_model.specs.Cascade.{take_up, let_go}
use Rattle.cc_model.specs.Effects.{hold_native}
use Rattle.cc_model.specs.View.{view}
use Rattle.cc_model.specs.WellFormed.{names_there}
use Rattle.cc_model.specs.Skipping.{forgotten}
use Rattle.cc_model.specs.Snapshot.{Snapshot}
use Rattle.cc_model.specs.Units.{first_untraversed}
use Rattle.cc_model.specs.End.{Progress, went_on, at_end, refused, granted, node_or_end, unit}
use Rattle.cc_model.specs.Lawful.{State, next}
use Rattle.cc_model.specs.Collecting.{Machine, UnitsDone, no_units, next_answer, units_done, to_the_end, finish_running, finish_marking, behind, slice, gc}
use Rattle.cc_model.specs.Run.{Turn, mutate, do_ask, turns, machine_after, do_class, noted, read_weak}
use Rattle.cc_model.proofs.UnitsEnd.{to_the_end-stops}
use Rattle.cc_names.proofs.NameTests.{same_name-exact}
use Rattle.cc_lists.proofs.Members.{has-among, has-there}
use Rattle.cc_laws_heap.specs.Sound.{IsSound}
use Rattle.cc_laws_heap.proofs.Holds.{contents-get}
use Rattle.cc_laws_heap.proofs.HoldsTheSame.{HoldsTheSame-take_up}
use Rattle.cc_laws_heap.proofs.CascadeTakesOut.{TakesOut-let_go}
use Rattle.cc_laws_run.specs.Running.{IsRunning, ask_in_range, state_after}
use Rattle.cc_laws_run.specs.Doomed.{IsDoomed, IsDoomedNow, KeepsReflectors}
use Rattle.cc_laws_run.specs.Returning.{MayBeBack, AreBeside, met_over, brings_back}
use Rattle.cc_laws_run.specs.Followed.{first_units, then_later, first_collection, first_units_of}
use Rattle.cc_laws_run.specs.Missing.{CannotMissNow, AreLeftOf, MissesNone, graph_then, met_then, begins_one, has_units, lost}
use Rattle.cc_laws_run.specs.Spent.{IsSpent}
use Rattle.cc_laws_run.proofs.CommandCases.{mutate-cases, say-leaves}
use Rattle.cc_laws_run.proofs.UnitLawful.{unit-cases}
use Rattle.cc_laws_run.proofs.HoldingUnits.{units_done-keep}
use Rattle.cc_laws_run.proofs.Unmarked.{running-unmarked, slice-unmarked, first-unmarked, dropped-unmarked}
use Rattle.cc_laws_run.proofs.FirstCollection.{finish-some}
use Rattle.cc_laws_run.proofs.TouchedParts.{IsUntouched}
use Rattle.cc_laws_run.proofs.TouchedViews.{Spares, doomed-spared}
use Rattle.cc_laws_run.proofs.TouchedCommands.{effects-spare, hold_native-spares}
use Rattle.cc_laws_run.proofs.PlainLawful.{any-runs}
use Rattle.cc_laws_run.proofs.SpentAsks.{asks-spend}
use Rattle.cc_laws_run.proofs.GraphStays.{ask-keeps, back-stays, KeepsBut-refl}
use Rattle.cc_laws_run.proofs.DoomedLess.{not_back, not_back-were, not_back-out, not_back-cases, not_back-keeps, not_back-beside, not_back-doomed}
use Rattle.cc_laws_run.proofs.FollowedAsks.{IsFollowed, class-follows, followed-misses, followed-spent, followed-gone, begin-runs, Dooms, begun-follows}
use Rattle.cc_laws_run.proofs.MissesLost.{lost-keeps, lost-beside}

-- What was met

-- all that a graph reaches is among these names
abbrev pub HasReached : Graph → List Name → Type 0
HasReached g met = (x : Name) → Reached g x → Among x met

-- what is reached is in the list of reached names
pub reached-listed : (g : Graph) → HasReached g (reached_names g)
reached-listed g x d = has-among same_name same_name-exact (reached_names g) x ((reached-decided g x).1 d)

-- what is in the list of reached names is reached
pub listed-reached : (g : Graph) (x : Name) → Among x (reached_names g) → Reached g x
listed-reached g x m = (reached-decided g x).0 (has-there same_name same_name-exact (reached_names g) x m)

-- the names that are met under asks are among these
abbrev pub HasMet : State → List Ask → List Answer → List Name → Type 0
HasMet s asks answers met = (x : Name) → Among x (met_over s asks answers) → Among x met

-- what is reached before asks is met under them
pub met-first : (s : State) (asks : List Ask) (answers : List Answer) (met : List Name) → HasMet s asks answers met → HasReached s.graph met
met-first s [] answers met all x d = all x (reached-listed s.graph x d)
met-first s (ask ∷ asks) [] met all x d = all x (reached-listed s.graph x d)
met-first s (ask ∷ asks) (a ∷ answers) met all x d =
    all x (Among-left x (reached_names s.graph) (met_over (next s ask a) asks answers) (reached-listed s.graph x d))

-- what is met under later asks is met under all
pub met-later : (s : State) (ask : Ask) (asks : List Ask) (a : Answer) (answers : List Answer) (met : List Name) →
    HasMet s (ask ∷ asks) (a ∷ answers) met → HasMet (next s ask a) asks answers met
met-later s ask asks a answers met all x m = all x (Among-right x (reached_names s.graph) (met_over (next s ask a) asks answers) m)

-- what may be back may be back after an ask
ask-stays : (s : State) (ask : Ask) (a : Answer) (met : List Name) → HasReached s.graph met → (x : Name) → MayBeBack s.graph met x → MayBeBack (next s ask a).graph met x
ask-stays s ask a met reached x b = back-stays s.graph (next s ask a).graph (ask-keeps s ask a) met met (λ y m. m) reached x b

-- WHAT MAY BE BACK MAY BE BACK after asks.
pub asks-stay : (s : State) (asks : List Ask) (answers : List Answer) (met : List Name) → HasMet s asks answers met → (x : Name) → MayBeBack s.graph met x →
    MayBeBack (state_after s asks answers).graph met x
asks-stay s [] answers met all x b = b
asks-stay s (ask ∷ asks) [] met all x b = b
asks-stay s (ask ∷ asks) (a ∷ answers) met all x b = asks-stay (next s ask a) asks answers met (met-later s ask asks a answers met all) x
    (ask-stays s ask a met (met-first s (ask ∷ asks) (a ∷ answers) met all) x b)

-- what may be back may be back where more was met
back-more : (g : Graph) (met more : List Name) → ((x : Name) → Among x met → Among x more) → HasReached g more → (x : Name) → MayBeBack g met x → MayBeBack g more x
back-more g met more within reached = back-stays g g (KeepsBut-refl (Reached g) g) met more within reached

-- Entries while a collection goes on

-- a unit that goes on leaves the entries
unit-entries : (h : Heap) (o : Option Snapshot) (answer : Bool) → (unit h o answer).progress ≡ went_on → (unit h o answer).heap.entries ≡ h.entries
unit-entries h o answer = unit-cases h o answer (λ u. u.progress ≡ went_on → u.heap.entries ≡ h.entries) (λ e. absurd (cc)) (by_snapshot o)
  where
    by_node : (s : Snapshot) (x : Option Name) → (node_or_end h s x).progress ≡ went_on → (node_or_end h s x).heap.entries ≡ h.entries
    by_node s None e = absurd (cc)
    by_node s (Some x) e = refl

    by_snapshot : (o : Option Snapshot) → (granted h o).progress ≡ went_on → (granted h o).heap.entries ≡ h.entries
    by_snapshot None e = refl
    by_snapshot (Some s) e = by_node s (first_untraversed s.nodes) e

-- units in a row that go on leave the entries
units-entries : (n : ℕ) (m : Machine) → (units_done n (no_units m)).progress ≡ went_on → (units_done n (no_units m)).machine.heap.entries ≡ m.heap.entries
units-entries n m = units_done-keep (λ d. d.progress ≡ went_on → d.machine.heap.entries ≡ m.heap.entries)
    (λ d e q f. unit-entries d.machine.heap d.machine.snapshot (next_answer d.machine.memory) f ∙ q e) n (no_units m) (λ e. refl)

-- what gives one of these names gave it before
abbrev GaveBefore : List Name → Heap → Heap → Type 0
GaveBefore ds old new = (e : Joint) → Among e.value ds → Among e (joints new.entries) → Among e (joints old.entries)

-- where entries stay, what gives a name gave it before
gave-same : (ds : List Name) (old new : Heap) → new.entries ≡ old.entries → GaveBefore ds old new
gave-same ds old new same e i m = subst (λ es. Among e (joints es)) same m

-- a command of the mutator writes no entry that gives a doomed name
mutate-gave : (m : Machine) (c : Command) (ds : List Name) → IsSound [] m.heap → KeepsReflectors ds → IsDoomedNow m ds → GaveBefore ds m.heap (mutate m c).machine.heap
mutate-gave m c ds sound keeps d = mutate-cases m c (λ (u : Turn). GaveBefore ds m.heap u.machine.heap)
    (λ refusal e j i at. at)
    (λ e f j i at. at)
    (λ e memory j i at. (effects-spare d.0 ds m.heap c sound.well_formed keeps d.2).joints j i at)

-- suspects forgotten leave the entries
forget-gave : (h : Heap) (ds : List Name) → GaveBefore ds h (forgotten h)
unfolding forgotten
forget-gave h ds e i m = m

-- where no marking goes on, a slice that goes on leaves the entries
slice-entries : (m : Machine) → m.marking ≡ None → (n : ℕ) → (slice n m).progress ≡ went_on → (slice n m).machine.heap.entries ≡ m.heap.entries
slice-entries m none n p =
    let same : slice n m ≡ units_done n (no_units m) = slice-unmarked m none n in
    ap (λ (u : UnitsDone). u.machine.heap.entries) same ∙ units-entries n m (ap (λ (u : UnitsDone). u.progress) (sym same) ∙ p)

slice-gave : (m : Machine) (ds : List Name) → m.marking ≡ None → (n : ℕ) → (slice n m).progress ≡ went_on → GaveBefore ds m.heap (slice n m).machine.heap
slice-gave m ds none n p = gave-same ds m.heap (slice n m).machine.heap (slice-entries m none n p)

-- a collection that is brought to its end does not go on
first-stops : (m : Machine) → m.marking ≡ None → ¬ ((behind (finish_marking m) (to_the_end (no_units (finish_marking m).machine))).progress ≡ went_on)
first-stops m none p = to_the_end-stops m (ap (λ (u : UnitsDone). u.progress) (sym (first-unmarked m none)) ∙ p)

finish-stops : (m : Machine) (t : Snapshot) → m.snapshot ≡ Some t → ¬ ((finish_running m).progress ≡ went_on)
finish-stops m t e p = to_the_end-stops m (ap (λ (u : UnitsDone). u.progress) (sym (finish-some m t e)) ∙ p)

-- WHAT GIVES A DOOMED NAME GAVE IT BEFORE a command that leaves the collection running and brings nothing back.
class-gave : (m : Machine) (s : State) (c : Command) (ds : List Name) → IsRunning m s → IsTrue (in_range c) → KeepsReflectors ds → IsDoomedNow m ds →
    (k : Class) → class_of c ≡ k → brings_back k ≡ false → let n = (do_class m c k).machine in (first_units_of m n k).progress ≡ went_on → GaveBefore ds m.heap n.heap
class-gave m s c ds r i keeps d (says q) e b p = say-leaves m q (λ n. GaveBefore ds m.heap n.heap) (λ memory j i at. at)
class-gave m s c ds r i keeps d does e b p = mutate-gave m c ds r.sound keeps d
class-gave m s c ds r i keeps d forgets e b p = forget-gave m.heap ds
class-gave m s c ds r i keeps d (runs (so_many u)) e b p = slice-gave m ds (running-unmarked m s d.0 r d.1) u p
class-gave m s c ds r i keeps d (runs whole) e b p = absurd (first-stops m (running-unmarked m s d.0 r d.1) p)
class-gave m s c ds r i keeps d (collects_scripts whole) e b p = absurd (finish-stops m d.0 d.1
    (ap (λ (k : Machine). (finish_running k).progress) (sym (dropped-unmarked m (running-unmarked m s d.0 r d.1))) ∙ p))
class-gave m s c ds r i keeps d (collects_scripts (so_many n)) e b p = absurd (finish-stops m d.0 d.1 p)
class-gave m s c ds r i keeps d (reads_weak n w) e b p = absurd (true≢false b)

-- A native brought back

-- what a native register gets stands in it
held-there : (h : Heap) (d : ℕ) (x : Name) → d < length h.native_registers → Among x (contents (hold_native h d (Some x)).heap.native_registers)
unfolding hold_native
held-there h d x room =
    let k : Heap = take_up h (Some x) in
    let same : k.native_registers ≡ h.native_registers = (HoldsTheSame-take_up h (Some x)).beside.native_registers in
    let given_up : (let_go (set_register k (N d) (Some x)) (register k (N d))).heap.native_registers ≡ set k.native_registers d (Some x) =
    (TakesOut-let_go (set_register k (N d) (Some x)) (register k (N d))).1.beside.native_registers in
    subst (λ (rs : Slots). Among x (contents rs)) (sym given_up)
    (contents-get (set k.native_registers d (Some x)) d x (get_or-set_same k.native_registers d (Some x) None (subst (λ (rs : Slots). d < length rs) (sym same) room)))

-- the register that a weak one is read into is one of the bank
read-register : (c : Command) (d w : ℕ) → class_of c ≡ reads_weak d w → IsTrue (in_range c) → d < bank_length
read-register (Deref a b) d w e i =
    let same : a ≡ d = cc in
    subst (λ n. n < bank_length) same (ltb-true a bank_length (and_parts (is_register a) (is_weak_register b) i).0)
read-register c d w e i = absurd (cc)

-- What becomes of names

-- names by what a collection told and came to, and by the machine after it: some are left and are followed, and the others may be back
pub record Shrinks (met ds : List Name) (es : List Event) (p : Progress) (n : Machine) (g : Graph) : Type 0 where
  pub left : List Name
  pub keeps : KeepsReflectors left
  pub followed : IsFollowed left es p n
  pub beside : p ≡ went_on → AreBeside g met (view n.heap) left
  pub were : (x : Name) → Among x left → Among x ds
  pub others : (x : Name) → Among x ds → Among x left ⊎ MayBeBack g met x

-- what is beside names is beside them later
beside-stays : (g e : Graph) (met ds : List Name) (old new : Heap) → ((x : Name) → MayBeBack g met x → MayBeBack e met x) → GaveBefore ds old new →
    AreBeside g met (view old) ds → AreBeside e met (view new) ds
beside-stays g e met ds old new back gave b = record {
  the_map = λ j m i. ⊎_elim (λ l. inl l) (λ r. inr (back j.the_map r)) (b.the_map j (gave j i m) i);
  key = λ j m i. ⊎_elim (λ l. inl l) (λ r. inr (back j.key r)) (b.key j (gave j i m) i);
}

module _ (m : Machine) (s : State) (c : Command) (ds met : List Name) (r : IsRunning m s) (i : IsTrue (in_range c)) (reached : HasReached s.graph met)
    (now : CannotMissNow m s.graph met ds) where
  -- under a command that brings nothing back all are left
  class-shrinks : (k : Class) → class_of c ≡ k → brings_back k ≡ false → let n = (do_class m c k).machine in let d = first_units_of m n k in
      Shrinks met ds d.events d.progress n (next s (taken c) (do_class m c k).answer).graph
  class-shrinks k e b = record {
    left = ds;
    keeps = now.reflectors;
    followed = class-follows m s c ds r i now.reflectors now.doomed k e b;
    beside = λ p. beside-stays s.graph (next s (taken c) (do_class m c k).answer).graph met ds m.heap (do_class m c k).machine.heap
        (ask-stays s (taken c) (do_class m c k).answer met reached) (class-gave m s c ds r i now.reflectors now.doomed k e b p) now.beside;
    were = λ x j. j;
    others = λ x j. inl j;
  }

  -- where a weak register is read, the names are left that may not be back
  read-shrinks : (d w : ℕ) → class_of c ≡ reads_weak d w → let n = (read_weak m d w).machine in let g = (next s (taken c) (read_weak m d w).answer).graph in
      IsRunning n (next s (taken c) (read_weak m d w).answer) → HasReached g met → Shrinks met ds [] went_on n g
  read-shrinks d w e ran later = record {
    left = left;
    keeps = not_back-keeps m.heap s.graph r.sound.well_formed r.well_made r.stands met ds now.reflectors;
    followed = (refl, (now.doomed.0, now.doomed.1, doomed-spared now.doomed.0 left (view m.heap) (view n.heap) spares still));
    beside = λ p. beside-stays s.graph g met left m.heap n.heap stays (λ j i at. spares.joints j i at)
        (not_back-beside m.heap s.graph r.sound.well_formed r.well_made r.stands met ds now.beside);
    were = not_back-were m.heap s.graph r.sound.well_formed r.well_made r.stands met ds;
    others = λ x j. ⊎_elim (λ l. inl l) (λ b. inr (stays x b))
        (not_back-cases m.heap s.graph r.sound.well_formed r.well_made r.stands met ds x j);
  }
    where
      n : Machine
      n = (read_weak m d w).machine

      g : Graph
      g = (next s (taken c) (read_weak m d w).answer).graph

      left : List Name
      left = not_back m.heap s.graph r.sound.well_formed r.well_made r.stands met ds

      stays : (x : Name) → MayBeBack s.graph met x → MayBeBack g met x
      stays = ask-stays s (taken c) (read_weak m d w).answer met reached

      still : IsDoomed (view m.heap) now.doomed.0 left
      still = not_back-doomed m.heap s.graph r.sound.well_formed r.well_made r.stands met ds now.beside now.doomed.0 now.doomed.2

      -- the register has room in the bank
      room : d < length m.heap.native_registers
      room = omega (arith, read-register c d w e i, subst (λ (rs : Slots). bank_length ≤ length rs) (sym r.stands.native_registers) r.well_made.registers.0.enough)

      -- what a weak register gives is met
      noted-met : (o : Option Name) → noted m w ≡ o → (x : Name) → Among x (option_to_list o) → Among x met
      noted-met None q x j = absurd j
      noted-met (Some y) q x j =
          let held : Among y (contents (hold_native m.heap d (noted m w)).heap.native_registers) =
          subst (λ o. Among y (contents (hold_native m.heap d o).heap.native_registers)) (sym q) (held-there m.heap d y room) in
          let there : Among y (contents g.native_registers) = subst (λ (rs : Slots). Among y (contents rs)) ran.stands.native_registers held in
          ⊎_elim (λ f. subst (λ z. Among z met) f (later y (root-reached g y (Among-left y (contents g.native_registers) (contents g.script_registers) there)))) (λ f. absurd f) j

      -- what a weak register gives is none of those that are left
      untouched : IsUntouched left (noted m w)
      untouched y j l = not_back-out m.heap s.graph r.sound.well_formed r.well_made r.stands met ds y l (inl (given y (noted-met (noted m w) refl y j)))

      spares : Spares left (view m.heap) (view n.heap)
      spares = hold_native-spares now.doomed.0 left m.heap d (noted m w) untouched still

-- UNDER ANY ASK some of the names are left, and the others may be back.
ask-shrinks : (m : Machine) (s : State) (ask : Ask) (ds met : List Name) → IsRunning m s → IsTrue (ask_in_range ask) → HasReached s.graph met →
    HasReached (next s ask (do_ask m ask).answer).graph met → CannotMissNow m s.graph met ds →
    Shrinks met ds (first_units m ask).events (first_units m ask).progress (do_ask m ask).machine (next s ask (do_ask m ask).answer).graph
unfolding do_ask
ask-shrinks m s (taken c) ds met r i reached later now = go (class_of c) refl (any-runs m s (taken c) r i) later
  where
    go : (k : Class) → class_of c ≡ k → IsRunning (do_class m c k).machine (next s (taken c) (do_class m c k).answer) →
        HasReached (next s (taken c) (do_class m c k).answer).graph met → let n = (do_class m c k).machine in let d = first_units_of m n k in
        Shrinks met ds d.events d.progress n (next s (taken c) (do_class m c k).answer).graph
    go (reads_weak d w) e ran all = read-shrinks m s c ds met r i reached now d w e ran all
    go k e ran all = class-shrinks m s c ds met r i reached now k e refl
ask-shrinks m s ask ds met r i reached later now = record {
  left = ds;
  keeps = now.reflectors;
  followed = (refl, now.doomed);
  beside = λ p. now.beside;
  were = λ x j. j;
  others = λ x j. inl j;
}

-- Asks in a row

module _ (met ds : List Name) (d later : UnitsDone) (n k : Machine) (g e : Graph) (f : Shrinks met ds d.events d.progress n g)
    (back : (x : Name) → MayBeBack g met x → MayBeBack e met x)
    (spend : (es : List Name) → KeepsReflectors es → IsSpent n.heap es → IsSpent k.heap es)
    (more : (es : List Name) → CannotMissNow n g met es → Shrinks met es later.events later.progress k e) where
  -- names that are left, or may be back, are so later
  others-later : (x : Name) → Among x ds → Among x f.left ⊎ MayBeBack e met x
  others-later x j = ⊎_elim (λ l. inl l) (λ b. inr (back x b)) (f.others x j)

  -- ONE ASK AND LATER ONES leave of the names what the later ones leave of what the first left.
  pub then-shrinks : let c = then_later d later in Shrinks met ds c.events c.progress k e
  then-shrinks = go d.progress refl
    where
      followed_by : Progress → UnitsDone
      followed_by went_on = later
      followed_by _ = d

      go : (p : Progress) → d.progress ≡ p → Shrinks met ds (followed_by p).events (followed_by p).progress k e
      go went_on q =
          let h : IsFollowed f.left d.events went_on n = subst (λ p. IsFollowed f.left d.events p n) q f.followed in
          let r : Shrinks met f.left later.events later.progress k e = more f.left (record { doomed = h.1; reflectors = f.keeps; beside = f.beside q }) in
          record {
            left = r.left;
            keeps = r.keeps;
            followed = r.followed;
            beside = r.beside;
            were = λ x j. f.were x (r.were x j);
            others = λ x j. ⊎_elim (λ l. r.others x l) (λ b. inr b) (others-later x j);
          }
      go at_end q =
          let h : IsFollowed f.left d.events at_end n = subst (λ p. IsFollowed f.left d.events p n) q f.followed in
          let last : IsFollowed f.left d.events at_end k = (h.0, spend f.left f.keeps h.1, h.2) in
          record {
            left = f.left;
            keeps = f.keeps;
            followed = subst (λ p. IsFollowed f.left d.events p k) (sym q) last;
            beside = λ w. absurd (ended (sym q ∙ w));
            were = f.were;
            others = others-later;
          }
        where
          ended : at_end ≡ went_on → ⊥
          ended w = cc
      go refused q =
          let h : IsFollowed f.left d.events refused n = subst (λ p. IsFollowed f.left d.events p n) q f.followed in
          let last : IsFollowed f.left d.events refused k = h in
          record {
            left = f.left;
            keeps = f.keeps;
            followed = subst (λ p. IsFollowed f.left d.events p k) (sym q) last;
            beside = λ w. absurd (stopped (sym q ∙ w));
            were = f.were;
            others = others-later;
          }
        where
          stopped : refused ≡ went_on → ⊥
          stopped w = cc

-- A COLLECTION THAT CAN'T MISS NAMES BUT THOSE THAT MAY BE BACK, under any asks in a row
pub asks-shrink : (m : Machine) (s : State) (asks : List Ask) (ds met : List Name) → IsRunning m s → IsTrue (list_all ask_in_range asks) →
    HasMet s asks (turns m asks) met → CannotMissNow m s.graph met ds →
    let c = first_collection m asks in Shrinks met ds c.events c.progress (machine_after m asks) (state_after s asks (turns m asks)).graph
asks-shrink m s [] ds met r range all now = record {
  left = ds;
  keeps = now.reflectors;
  followed = (refl, now.doomed);
  beside = λ p. now.beside;
  were = λ x j. j;
  others = λ x j. inl j;
}
asks-shrink m s (ask ∷ asks) ds met r range all now =
    let both = and_parts (ask_in_range ask) (list_all ask_in_range asks) range in
    let t : Turn = do_ask m ask in
    let u : State = next s ask t.answer in
    let still : IsRunning t.machine u = any-runs m s ask r both.0 in
    let rest : HasMet u asks (turns t.machine asks) met = met-later s ask asks t.answer (turns t.machine asks) met all in
    then-shrinks met ds (first_units m ask) (first_collection t.machine asks) t.machine (machine_after t.machine asks) u.graph (state_after u asks (turns t.machine asks)).graph
    (ask-shrinks m s ask ds met r both.0 (met-first s (ask ∷ asks) (t.answer ∷ turns t.machine asks) met all) (met-first u asks (turns t.machine asks) met rest) now)
    (asks-stay u asks (turns t.machine asks) met rest)
    (λ es keeps spent. asks-spend t.machine u asks es still both.1 keeps spent)
    (λ es later. asks-shrink t.machine u asks es met still both.1 rest later)

-- the same for names that are beside what was met before the asks
pub now-shrinks : (m : Machine) (s : State) (asks : List Ask) (ds met : List Name) → IsRunning m s → IsTrue (list_all ask_in_range asks) → CannotMissNow m s.graph met ds →
    let c = first_collection m asks in Shrinks (met_then met m s asks) ds c.events c.progress (machine_after m asks) (graph_then m s asks)
now-shrinks m s asks ds met r range now = asks-shrink m s asks ds all r range (λ x i. Among-right x met (met_over s asks (turns m asks)) i) (record {
  doomed = now.doomed;
  reflectors = now.reflectors;
  beside = record {
    the_map = λ e j i. ⊎_elim (λ l. inl l) (λ b. inr (more e.the_map b)) (now.beside.the_map e j i);
    key = λ e j i. ⊎_elim (λ l. inl l) (λ b. inr (more e.key b)) (now.beside.key e j i);
  };
})
  where
    all : List Name
    all = met_then met m s asks

    more : (x : Name) → MayBeBack s.graph met x → MayBeBack s.graph all x
    more = back-more s.graph met all (λ x i. Among-left x met (met_over s asks (turns m asks)) i)
        (met-first s asks (turns m asks) all (λ x i. Among-right x met (met_over s asks (turns m asks)) i))

-- where some of the names are left and the others may be back, none is missed but these
pub shrunk-misses : (met : List Name) (m : Machine) (s : State) (asks : List Ask) (ds : List Name) →
    (let c = first_collection m asks in Shrinks (met_then met m s asks) ds c.events c.progress (machine_after m asks) (graph_then m s asks)) → MissesNone ds met m s asks
shrunk-misses met m s asks ds f = record {
  goes_on = λ e.
      let h : IsFollowed f.left c.events went_on n = subst (λ p. IsFollowed f.left c.events p n) e f.followed in
      (f.left, record { were = f.were; others = f.others }, record { doomed = h.1; reflectors = f.keeps; beside = f.beside e });
  unlinks = λ e i j out.
      let h : IsFollowed f.left c.events at_end n = subst (λ p. IsFollowed f.left c.events p n) e f.followed in
      ⊎_elim (λ l. h.0 i l) (λ b. absurd (⊎_elim out (λ r. apart i r.0 r.1) b)) (f.others (native i) j);
  abandoned = (followed-misses m asks f.left f.followed).abandoned;
}
  where
    c : UnitsDone
    c = first_collection m asks

    n : Machine
    n = machine_after m asks

    apart : (i k : ℕ) → native i ≡ reflector k → ⊥
    apart i k q = cc

-- where the collection ended, the names that are left are spent
pub shrunk-spent : (met : List Name) (m : Machine) (asks : List Ask) (ds : List Name) (g : Graph) →
    (let c = first_collection m asks in Shrinks met ds c.events c.progress (machine_after m asks) g) → (first_collection m asks).progress ≡ at_end →
    (left : List Name) × AreLeftOf g met ds left × IsSpent (machine_after m asks).heap left
shrunk-spent met m asks ds g f e = (f.left, record { were = f.were; others = f.others }, followed-spent m asks f.left f.followed e)

-- a `gc` after the asks takes away all names that may not be back
pub shrunk-gone : (met : List Name) (m : Machine) (s : State) (asks : List Ask) (ds : List Name) (g : Graph) → IsRunning (machine_after m asks) s →
    (let c = first_collection m asks in Shrinks met ds c.events c.progress (machine_after m asks) g) →
    (first_collection m (asks ++ taken Gc ∷ [])).progress ≢ refused → (x : Name) → Among x ds → ¬ (MayBeBack g met x) →
    ¬ (Among x (names_there (gc (machine_after m asks)).machine.heap))
shrunk-gone met m s asks ds g r f unrefused x i out = ⊎_elim (λ l. followed-gone m s asks f.left r f.followed unrefused x l) (λ b. absurd (out b)) (f.others x i)

-- The ask that begins a collection

-- a command that begins a collection where no marking goes on leaves the entries, where that goes on
has_units-entries : (m : Machine) (c : Command) (k : Class) → m.marking ≡ None → has_units k ≡ true → let n = (do_class m c k).machine in
    (first_units_of m n k).progress ≡ went_on → n.heap.entries ≡ m.heap.entries
has_units-entries m c (runs (so_many (suc u))) none e p = slice-entries m none (suc u) p
has_units-entries m c (runs whole) none e p = absurd (first-stops m none p)
has_units-entries m c _ none e p = absurd (false≢true e)

begin-entries : (m : Machine) (ask : Ask) → m.marking ≡ None → begins_one ask ≡ true → (first_units m ask).progress ≡ went_on →
    (do_ask m ask).machine.heap.entries ≡ m.heap.entries
unfolding do_ask
begin-entries m (taken c) none e p = has_units-entries m c (class_of c) none e p
begin-entries m _ none e p = absurd (false≢true e)

module _ (m : Machine) (s : State) (r : IsRunning m s) (dooms : Dooms m) (ask : Ask) (e : begins_one ask ≡ true) (met : List Name) where
  -- all that was lost is left by the ask that begins the collection
  begun-shrinks : HasReached s.graph met → let d = first_units m ask in
      Shrinks met (lost m.heap) d.events d.progress (do_ask m ask).machine (next s ask (do_ask m ask).answer).graph
  begun-shrinks reached = record {
    left = lost m.heap;
    keeps = lost-keeps m.heap r.sound;
    followed = begun-follows m s r dooms ask e;
    beside = λ p. beside-stays s.graph (next s ask (do_ask m ask).answer).graph met (lost m.heap) m.heap (do_ask m ask).machine.heap
        (ask-stays s ask (do_ask m ask).answer met reached)
        (gave-same (lost m.heap) m.heap (do_ask m ask).machine.heap (begin-entries m ask dooms.1 e p))
        (lost-beside m.heap s.graph r.sound r.well_made r.stands met reached);
    were = λ x j. j;
    others = λ x j. inl j;
  }

  -- WHAT WAS LOST AND MAY NOT BE BACK IS LEFT by that ask and later ones.
  pub all-shrink : (asks : List Ask) → IsTrue (list_all ask_in_range asks) → HasMet s (ask ∷ asks) (turns m (ask ∷ asks)) met →
      let c = first_collection m (ask ∷ asks) in Shrinks met (lost m.heap) c.events c.progress (machine_after m (ask ∷ asks)) (state_after s (ask ∷ asks) (turns m (ask ∷ asks))).graph
  all-shrink asks range all =
      let t : Turn = do_ask m ask in
      let u : State = next s ask t.answer in
      let still : IsRunning t.machine u = begin-runs m s ask r e in
      let rest : HasMet u asks (turns t.machine asks) met = met-later s ask asks t.answer (turns t.machine asks) met all in
      then-shrinks met (lost m.heap) (first_units m ask) (first_collection t.machine asks) t.machine (machine_after t.machine asks) u.graph (state_after u asks (turns t.machine asks)).graph
      (begun-shrinks (met-first s (ask ∷ asks) (t.answer ∷ turns t.machine asks) met all))
      (asks-stay u asks (turns t.machine asks) met rest)
      (λ es keeps spent. asks-spend t.machine u asks es still range keeps spent)
      (λ es later. asks-shrink t.machine u asks es met still range rest later)

-- Asks and then others

-- what is met under the first asks is met under all
pub met-front : (m : Machine) (s : State) (xs ys : List Ask) (met : List Name) → HasMet s (xs ++ ys) (turns m (xs ++ ys)) met → HasMet s xs (turns m xs) met
met-front m s [] ys met all x i = met-first s ys (turns m ys) met all x (listed-reached s.graph x i)
met-front m s (y ∷ xs) ys met all x i =
    let t : Turn = do_ask m y in
    let u : State = next s y t.answer in
    ⊎_elim
    (λ l. met-first s (y ∷ (xs ++ ys)) (t.answer ∷ turns t.machine (xs ++ ys)) met all x (listed-reached s.graph x l))
    (λ l. met-front t.machine u xs ys met (met-later s y (xs ++ ys) t.answer (turns t.machine (xs ++ ys)) met all) x l)
    (Among-append x (reached_names s.graph) (met_over u xs (turns t.machine xs)) i)

-- what may be back after the first asks may be back after all
pub front-stays : (m : Machine) (s : State) (xs ys : List Ask) (met : List Name) → HasMet s (xs ++ ys) (turns m (xs ++ ys)) met → (x : Name) →
    MayBeBack (state_after s xs (turns m xs)).graph met x → MayBeBack (state_after s (xs ++ ys) (turns m (xs ++ ys))).graph met x
front-stays m s [] ys met all x b = asks-stay s ys (turns m ys) met all x b
front-stays m s (y ∷ xs) ys met all x b =
    let t : Turn = do_ask m y in
    front-stays t.machine (next s y t.answer) xs ys met (met-later s y (xs ++ ys) t.answer (turns t.machine (xs ++ ys)) met all) x b

-- the state after asks in a row is that after the first, and then after the others
pub state_after-append : (m : Machine) (s : State) (xs ys : List Ask) →
    state_after s (xs ++ ys) (turns m (xs ++ ys)) ≡ state_after (state_after s xs (turns m xs)) ys (turns (machine_after m xs) ys)
state_after-append m s [] ys = refl
state_after-append m s (x ∷ xs) ys = let t : Turn = do_ask m x in state_after-append t.machine (next s x t.answer) xs ys
