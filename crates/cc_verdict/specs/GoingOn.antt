-- WHETHER A CHECK CAN GO ON from where it stands: whether any lines may come there at all.
use Rattle.std.specs.Prelude.{◌≡◌, ℕ, false, not, ◌&&◌, ◌||◌, IsTrue, List, [], ◌∷◌, Some}
use Rattle.cc_lists.specs.Members.{Among}
use Rattle.cc_names.specs.declared.name.Name.{Name}
use Rattle.cc_names.specs.Names.{reflector}
use Rattle.cc_model.specs.declared.command.Command.{Command}
use Rattle.cc_model.specs.declared.command.Command.TheVariants.{Nothing}
use Rattle.cc_model.specs.Asks.{Ask, taken}
use Rattle.cc_model.specs.Graph.{Graph, GraphNative, native_in}
use Rattle.cc_model.specs.Mutating.{reads_weakly}
use Rattle.cc_model.specs.Lawful.{is_gc, is_refused, runs_units}
use Rattle.cc_model.specs.Listed.{after_reply}
use Rattle.cc_model.specs.Quiet.{CensusIsQuiet}
use Rattle.cc_model.specs.Ranges.{in_range}
use Rattle.cc_model.specs.Reached.{Reached}
use Rattle.cc_model.specs.Slots.{Slots, empty_slots, reflector_slots}
use Rattle.cc_model.specs.StandsFor.{IsNoKey, IsNoDelegate}
use Rattle.cc_model.specs.WellMade.{IsWellMade}
use Rattle.cc_verdict.specs.Following.{Place}
use Rattle.cc_verdict.specs.Hearing.{Hearing, is_heard}
use Rattle.cc_verdict.specs.Positions.{Position, reciting, within}

-- THE NEXT ANSWER CAN BE GIVEN: a census that must list exactly the reached names does. Lines that ask nothing are passed over.
abbrev pub CanAnswer : Place → List Ask → Type 0
CanAnswer p [] = Unit {0}
CanAnswer p (taken Nothing ∷ asks) = CanAnswer p asks
CanAnswer p (ask ∷ asks) = CensusIsQuiet p.row p.state ask

-- THE CHECK CAN GO ON: the next answer can be given; and an answer with events is no refusal by the graph
abbrev pub CanGoOn : Position → List Ask → Type 0
CanGoOn (reciting items p) asks = CanAnswer p asks
CanGoOn (within h) asks = IsTrue (is_refused h.reply && not (runs_units h.command)) → h.told.any ≡ false

-- the commands among asks are in their ranges
abbrev pub AreInRange : List Ask → Type 0
AreInRange asks = (c : Command) → Among (taken c) asks → IsTrue (in_range c)

-- and none of them reads a weak register: what is unlinked or freed may be led to by a native that has not ended, which such a
-- command brings back
abbrev pub ReadNone : List Ask → Type 0
ReadNone asks = (c : Command) → Among (taken c) asks → reads_weakly c ≡ false

-- a reflector that is not preserved has empty slots, and is the key of no entry and the delegate of no proxy
abbrev pub AreBlank : Graph → Type 0
AreBlank g = (k : ℕ) (n : GraphNative) (slots : Slots) → native_in g k ≡ Some n → n.preserved ≡ false → n.reflector ≡ Some slots →
    (slots ≡ empty_slots reflector_slots) × IsNoKey g (reflector k) × IsNoDelegate g (reflector k)

-- ALL THAT IS REACHED IS LISTED, in a graph that commands made
pub record ListsAll (g : Graph) (names : List Name) : Type 0 where
  pub well_made : IsWellMade g
  pub blank : AreBlank g
  pub listed : (x : Name) → Reached g x → Among x names

-- all is listed after the reply of the graph, which refuses no collection
pub record ListsAllIn (h : Hearing) : Type 0 where
  pub heard : IsTrue (is_heard h.command)
  pub granted : IsTrue (is_gc h.command || runs_units h.command) → is_refused h.reply ≡ false
  pub listed : ListsAll h.graph (after_reply h.told.names h.command (Some h.reply))

-- all is listed where the check stands
abbrev pub ListsAllAt : Position → Type 0
ListsAllAt (reciting items p) = ListsAll p.state.graph p.state.listed
ListsAllAt (within h) = ListsAllIn h
