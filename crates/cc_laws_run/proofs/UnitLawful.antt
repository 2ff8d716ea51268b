-- ONE UNIT OF A COLLECTION IS LAWFUL: the heaps go on running, and what it tells may be told.
use Rattle.std.proofs.Common.{◌≡◌, ℕ, ◌≤◌, Bool, true, false, ◌&&◌, ◌||◌, List, [], ◌∷◌, Option, Some, None, refl, sym, ◌∙◌, ap, subst, inl, ⊎_elim, arith}
use Rattle.std.proofs.lemmas.Bool.{true≢false}
use Rattle.cc_lists.specs.Members.{Among}
use Rattle.cc_lists.proofs.Members.{Among-left, Among-flat_map}
use Rattle.cc_names.specs.declared.name.Name.{Name}
use Rattle.cc_names.specs.Names.{native, is_native, natives_in}
use Rattle.cc_model.specs.declared.command.Command.{Command}
use Rattle.cc_model.specs.declared.item.Event.{Event}
use Rattle.cc_model.specs.declared.item.Event.TheVariants.{Unlinked, Freed, Abandoned}
use Rattle.cc_model.specs.Graph.{Graph}
use Rattle.cc_model.specs.WellMade.{IsWellMade}
use Rattle.cc_model.specs.Reached.{Reached}
use Rattle.cc_model.specs.Heap.{Heap, Buffered, Outcome}
use Rattle.cc_model.specs.View.{view}
use Rattle.cc_model.specs.WellFormed.{native_names, script_names, names_there}
use Rattle.cc_model.specs.Counts.{times}
use Rattle.cc_model.specs.Colours.{HasColourInvariant}
use Rattle.cc_model.specs.StandsFor.{StandsFor}
use Rattle.cc_model.specs.Snapshot.{untraversed, Node, Snapshot, white_natives}
use Rattle.cc_model.specs.Units.{is_untraversed, first_untraversed}
use Rattle.cc_model.specs.Fresh.{node}
use Rattle.cc_model.specs.End.{Progress, went_on, at_end, refused, UnitDone, take_away, heap_given_back, abandoned, ending, node_or_end, granted, unit}
use Rattle.cc_model.specs.Listed.{census_order, after_events}
use Rattle.cc_model.specs.Lawful.{MayBe, EachMayBe, runs_units, is_gc, has_none, runs, unlinked_in, unlinked_numbers}
use Rattle.cc_model.specs.Run.{census_names}
use Rattle.cc_laws_heap.specs.Sound.{IsSound}
use Rattle.cc_laws_heap.specs.Apart.{AreApart}
use Rattle.cc_laws_heap.specs.Ending.{freed_in, freed_numbers, AreThere, TakesAway}
use Rattle.cc_laws_heap.proofs.Kept.{IsBuffer, with_buffer}
use Rattle.cc_laws_heap.proofs.Coloured.{AreColoured-from_view, HasColourInvariant-from}
use Rattle.cc_laws_heap.proofs.NativesKeepScripts.{SameScripts-coloured}
use Rattle.cc_laws_heap.proofs.TakingAway.{take_away-sound, take_away-takes}
use Rattle.cc_laws_heap.proofs.EndsStand.{take_away-stands, take_away-unreached}
use Rattle.cc_laws_snapshot.proofs.Beginning.{begun-fresh}
use Rattle.cc_laws_snapshot.proofs.NodeUnit.{after_node-fresh}
use Rattle.cc_laws_run.specs.Running.{IsFreshNow}
use Rattle.cc_laws_snapshot.proofs.WhiteNatives.{white_natives-apart, white_natives-there, white_natives-unreached_in}
use Rattle.cc_laws_snapshot.proofs.GivingBack.{given_back, give_back-buffer, given_back-buffer}
use Rattle.cc_laws_heap.proofs.BufferStands.{IsSound-buffer, HasColourInvariant-buffer, StandsFor-buffer}
use Rattle.cc_laws_run.proofs.FreedListed.{there-listed, census_names-end}
use Rattle.cc_laws_run.proofs.EachNamed.{FreeLast, FreeLast-end, each-from}
use Rattle.cc_laws_run.proofs.RunsOfNumbers.{runs-rising, has_none-natives}
use Rattle.cc_laws_run.specs.Memory.{with_memory}

-- Whatever holds of a unit that is refused, and of one that has its memory, holds of each unit.
pub unit-cases : (h : Heap) (s : Option Snapshot) (memory : Bool) (P : UnitDone → Type 0) → P (abandoned h s) → P (granted h s) → P (unit h s memory)
unfolding unit
unit-cases h s memory P without with_memory = grind arith

-- What runs, and what is lawful

-- the heaps and their snapshot run beside a graph and the listed names
pub record RunsOn (g : Graph) (names : List Name) (h : Heap) (s : Option Snapshot) : Type 0 where
  pub sound : IsSound [] h
  pub colours : HasColourInvariant (view h)
  pub fresh : IsFreshNow h s
  pub stands : StandsFor h g
  pub listed : census_names h ≡ census_order names

-- what units tell, by what the last of them came to: nothing, one end, or one abandonment
abbrev pub TellsOnly : Progress → List Event → Type 0
TellsOnly went_on es = es ≡ []
TellsOnly at_end es = (has_none es ≡ true) × (runs (unlinked_numbers es) ≤ 1)
TellsOnly refused es = es ≡ Abandoned ∷ []

-- an end and an abandonment drop the snapshot
abbrev pub DropsAt : Progress → Option Snapshot → Type 0
DropsAt went_on s = Unit {0}
DropsAt _ s = s ≡ None

pub record UnitIsLawful (g : Graph) (names : List Name) (c : Command) (u : UnitDone) : Type 0 where
  pub still : RunsOn g (after_events names u.events) u.heap u.snapshot
  pub each : EachMayBe g names c u.events
  pub only : TellsOnly u.progress u.events
  pub drops : DropsAt u.progress u.snapshot

-- The units

-- where no untraversed node is found, none is there
pub traversed-none : (ns : List Node) → first_untraversed ns ≡ None → (x : Name) → ¬ (Among (node x untraversed) ns)
traversed-none [] e x m = m
traversed-none (n ∷ ns) e x m = go (traversed-none ns) (is_untraversed n.state) refl e
  where
    first_by : Bool → Option Name
    first_by true = Some n.name
    first_by false = first_untraversed ns

    go : (first_untraversed ns ≡ None → (x : Name) → ¬ (Among (node x untraversed) ns)) → (b : Bool) → is_untraversed n.state ≡ b → first_by b ≡ None → ⊥
    go ih true k f = absurd (cc)
    go ih false k f = ⊎_elim
        (λ s. true≢false (sym (ap (λ (o : Node). is_untraversed o.state) s) ∙ k))
        (λ t. ih f x t) m

module _ (g : Graph) (well : IsWellMade g) (c : Command) (moves : (runs_units c || is_gc c) ≡ true) (names : List Name) where
  -- THE END over natives that are there and apart, and that no register reaches
  pub end-lawful : (h : Heap) (ks : List ℕ) → IsSound [] h → HasColourInvariant (view h) → StandsFor h g → census_names h ≡ census_order names →
      AreThere ks h → AreApart h ks → ((k : ℕ) → Among k ks → ¬ (Reached g (native k))) → UnitIsLawful g names c (ending (take_away ks h))
  end-lawful h ks sound colours stands listed are apart unreached = record {
    still = record {
      sound = take_away-sound h ks sound are.there;
      colours = HasColourInvariant-from o.heap (take_away-sound h ks sound are.there).well_formed
          (SameScripts-coloured h o.heap (record { scripts = t.scripts; registers = t.script_registers })
          (AreColoured-from_view h sound.well_formed colours));
      fresh = tt;
      stands = take_away-stands h g ks sound are.there well stands apart;
      listed = census_names-end h o.heap names o.events freed sound.well_formed listed t.natives_alone t.told t.natives t.scripts;
    };
    each = each-from g c o.events names may last;
    only = (has_none-natives o.events t.natives_alone, subst (λ l. runs l ≤ 1) (sym t.unlinked) (runs-rising ks are.rising));
    drops = refl;
  }
    where
      o : Outcome
      o = take_away ks h

      freed : List ℕ
      freed = (take_away-takes h ks sound are.there).0

      -- what the end takes away
      t : TakesAway h ks freed o
      t = (take_away-takes h ks sound are.there).1

      -- nothing that is freed is named again
      last : FreeLast o.events
      last = subst FreeLast (sym t.in_two) (FreeLast-end t.unlinks t.unroots ks
          (λ e i. t.natives_alone e (subst (Among e) (sym t.in_two) i))
          (λ k. subst (λ es. times k (freed_numbers es) ≤ 1) t.in_two (subst (λ l. times k l ≤ 1) (sym t.told) (t.once k)))
          (ap unlinked_numbers (sym t.in_two) ∙ t.unlinked) t.first_unlinked t.none_of_them)

      -- a native that is there is listed
      is_listed : (x : Name) (k : ℕ) → x ≡ native k → Among (native k) (native_names h) → Among x names
      is_listed x k e m = there-listed h names x listed
          (subst (λ y. Among y (names_there h)) (sym e) (Among-left (native k) (native_names h) (script_names h) m))

      -- a native's own number is in its name
      own_number : (x : Name) (k : ℕ) → x ≡ native k → Among k (natives_in x)
      own_number x k e = subst (λ y. Among k (natives_in y)) (sym e) (inl refl)

      -- each event might be at the start
      may : (e : Event) → Among e o.events → MayBe g names c e
      may (Freed x) i =
          let k = t.natives_alone (Freed x) i in (
            is_listed x k.0 k.1 (t.were_there k.0 (subst (Among k.0) t.told (Among-flat_map freed_in (Freed x) k.0 o.events i (own_number x k.0 k.1)))),
            take_away-unreached h g ks sound are.there well stands apart x i,
            subst (λ y. (is_native y || (runs_units c || is_gc c)) ≡ true) (sym k.1) refl,
          )
      may (Unlinked x) i =
          let k = t.natives_alone (Unlinked x) i in
          let one : Among k.0 ks = subst (Among k.0) t.unlinked (Among-flat_map unlinked_in (Unlinked x) k.0 o.events i (own_number x k.0 k.1)) in (
            is_listed x k.0 k.1 (are.there k.0 one),
            subst (λ y. ¬ (Reached g y)) (sym k.1) (unreached k.0 one),
            subst (λ y. (is_native y && (runs_units c || is_gc c)) ≡ true) (sym k.1) moves,
          )
      may Abandoned i = tt

  -- with another buffer, and no snapshot, the heaps run
  buffer-runs : (h : Heap) (bs : List Buffered) (s : Option Snapshot) → RunsOn g names h s → IsBuffer h bs → RunsOn g names (with_buffer h bs) None
  buffer-runs h bs s r b = record {
    sound = IsSound-buffer h bs r.sound b;
    colours = HasColourInvariant-buffer h bs r.colours;
    fresh = tt;
    stands = StandsFor-buffer h bs g r.stands;
    listed = r.listed;
  }

  -- A UNIT THAT IS REFUSED
  abandoned-lawful : (h : Heap) (s : Option Snapshot) → RunsOn g names h s → UnitIsLawful g names c (abandoned h s)
  abandoned-lawful h s r = record { still = back s r; each = (tt, tt); only = refl; drops = refl }
    where
      back : (s : Option Snapshot) → RunsOn g names h s → RunsOn g names (heap_given_back h s) None
      back None r = r
      back (Some s) r = subst (λ k. RunsOn g names k None) (sym (give_back-buffer s.candidates h h.buffer))
          (buffer-runs h (given_back s.candidates h h.buffer) (Some s) r
          (given_back-buffer h s.candidates h.buffer (record { there = r.sound.well_formed.buffered; once = r.sound.well_formed.buffered_once })))

  -- A UNIT THAT HAS ITS MEMORY
  granted-lawful : (h : Heap) (s : Option Snapshot) → RunsOn g names h s → UnitIsLawful g names c (granted h s)
  granted-lawful h None r =
      let empty : RunsOn g names (with_buffer h []) None = buffer-runs h [] None r (record { there = λ b i. absurd i; once = λ k. omega arith }) in
      record {
        still = record { sound = empty.sound; colours = empty.colours; fresh = begun-fresh h r.sound r.colours; stands = empty.stands; listed = empty.listed };
        each = tt;
        only = refl;
        drops = tt;
      }
  granted-lawful h (Some s) r = go (first_untraversed s.nodes) refl
    where
      go : (o : Option Name) → first_untraversed s.nodes ≡ o → UnitIsLawful g names c (node_or_end h s o)
      go None e = end-lawful h (white_natives h s) r.sound r.colours r.stands r.listed (white_natives-there h s r.sound)
          (white_natives-apart h s r.sound r.fresh (traversed-none s.nodes e))
          (white_natives-unreached_in h s r.sound r.fresh (traversed-none s.nodes e) g well r.stands)
      go (Some x) e = record {
        still = record { sound = r.sound; colours = r.colours; fresh = after_node-fresh h s x r.sound r.fresh e; stands = r.stands; listed = r.listed };
        each = tt;
        only = refl;
        drops = tt;
      }

  -- A UNIT IS LAWFUL.
  pub unit-lawful : (h : Heap) (s : Option Snapshot) (memory : Bool) → RunsOn g names h s → UnitIsLawful g names c (unit h s memory)
  unit-lawful h s memory r = unit-cases h s memory (UnitIsLawful g names c) (abandoned-lawful h s r) (granted-lawful h s r)
