-- HOW THE REGISTERS REACH AN OBJECT: steps, each of which follows from a register or from steps before it.
use Rattle.std.specs.Prelude.{ℕ, zero, suc, ◌+◌, ◌≤◌, Bool, true, false, ◌&&◌, ◌||◌, List, [], ◌∷◌, ◌++◌, map, length, Option, Some, None}
use Rattle.cc_lists.specs.Members.{Among, has}
use Rattle.cc_names.specs.declared.name.Name.{Name}
use Rattle.cc_names.specs.declared.register.Reg.{Reg}
use Rattle.cc_names.specs.declared.register.Reg.TheVariants.{N, S}
use Rattle.cc_names.specs.Names.{same_name}
use Rattle.cc_model.specs.declared.item.Reason.{Reason}
use Rattle.cc_model.specs.declared.item.Reason.TheVariants.{Root, Edge, Pair}
use Rattle.cc_model.specs.Answers.{Step, Answer, explaining}
use Rattle.cc_model.specs.declared.item.Reply.{Reply}
use Rattle.cc_model.specs.declared.item.Reply.TheVariants.{Done, Nothing}
use Rattle.cc_model.specs.Slots.{Slots, contents}
use Rattle.cc_model.specs.Entries.{Entry, Joint, joints_of, joints}
use Rattle.cc_model.specs.Checks.{slots_or_none}
use Rattle.cc_model.specs.Graph.{Graph}
use Rattle.cc_model.specs.Heap.{Heap}
use Rattle.cc_model.specs.Places.{places_made, places_in}
use Rattle.cc_model.specs.Reached.{names_of}

abbrev pub named : List Step → List Name
named steps = map (λ s. s.0) steps

-- what leads from one object to another, in the graph or in the heaps
pub record Leads : Type 0 where
  pub native_registers : Slots
  pub script_registers : Slots
  -- the places of an object
  pub places : Name → Slots
  pub entries : List Entry
  -- as many objects as there are, or more
  pub objects : ℕ

abbrev pub leads_made : Graph → Leads
leads_made g = record {
  native_registers = g.native_registers;
  script_registers = g.script_registers;
  places = λ x. slots_or_none (places_made g x);
  entries = g.entries;
  objects = length (names_of g);
}

abbrev pub leads_in : Heap → Leads
leads_in h = record {
  native_registers = h.native_registers;
  script_registers = h.script_registers;
  places = λ x. slots_or_none (places_in h x);
  entries = h.entries;
  objects = length h.natives + length h.scripts;
}

-- THAT WHAT LEADS ON HAS THESE NAMES alone, and no more of them than objects
pub record AreWithin (l : Leads) (names : List Name) : Type 0 where
  pub natives : (x : Name) → Among x (contents l.native_registers) → Among x names
  pub scripts : (x : Name) → Among x (contents l.script_registers) → Among x names
  pub places : (y x : Name) → Among x (contents (l.places y)) → Among x names
  pub joined : (j : Joint) → Among j (joints l.entries) → Among j.value names
  pub enough : length names ≤ l.objects

-- THE DERIVATION

-- the steps so far: those from whose objects the others were looked for, and those that wait for it, in order
pub record Walk : Type 0 where
  pub walked : List Step
  pub waiting : List Step

abbrev pub steps_of : Walk → List Step
steps_of w = w.walked ++ w.waiting

abbrev pub is_found : Walk → Name → Bool
is_found w x = has same_name (named (steps_of w)) x

-- an object goes last, where it is not there
abbrev pub with_step : Walk → Name → Reason → Walk
with_step w x r = elim (is_found w x) [ true ↦ w | false ↦ record w { waiting = w.waiting ++ (x, r) ∷ [] } ]

-- what a bank of registers holds, from its first register up
abbrev pub with_bank : (ℕ → Reg) → ℕ → Slots → Walk → Walk
with_bank reg k [] w = w
with_bank reg k (None ∷ slots) w = with_bank reg (k + 1) slots w
with_bank reg k (Some x ∷ slots) w = with_bank reg (k + 1) slots (with_step w x (Root (reg k)))

abbrev pub nothing_found : Walk
nothing_found = record { walked = []; waiting = [] }

-- native registers first
abbrev pub rooted : Leads → Walk
rooted l = with_bank S 0 l.script_registers (with_bank N 0 l.native_registers nothing_found)

-- what the places of an object hold, in their order
abbrev pub with_edges : Name → List Name → Walk → Walk
with_edges x [] w = w
with_edges x (y ∷ ys) w = with_edges x ys (with_step w y (Edge x))

-- what a joint gives, where both its members are there
abbrev pub with_joint : Walk → Joint → Walk
with_joint w j = elim (is_found w j.the_map && is_found w j.key) [ true ↦ with_step w j.value (Pair j.the_map j.key) | false ↦ w ]

abbrev pub with_joints : List Joint → Walk → Walk
with_joints [] w = w
with_joints (j ∷ js) w = with_joints js (with_joint w j)

abbrev pub is_delegate : Option Name → Name → Bool
is_delegate None x = false
is_delegate (Some d) x = same_name d x

-- whether an object is the map of an entry, its key, or the delegate of its key
abbrev pub is_member : Name → Entry → Bool
is_member x e = same_name e.the_map x || same_name e.key x || is_delegate e.delegate x

-- the entries of which it is one, in order: each may give its key first, and then its value
abbrev pub with_entries : Name → List Entry → Walk → Walk
with_entries x [] w = w
with_entries x (e ∷ es) w = with_entries x es (elim (is_member x e) [ true ↦ with_joints (joints_of e) w | false ↦ w ])

-- all that is found from an object
abbrev pub with_object : Leads → Name → Walk → Walk
with_object l x w = with_entries x l.entries (with_edges x (contents (l.places x)) w)

-- the first that waits is walked
abbrev pub walked_first : Leads → Step → List Step → Walk → Walk
walked_first l s ss w = with_object l s.0 (record { walked = w.walked ++ s ∷ []; waiting = ss })

-- until none waits, in at most so many steps
unfoldable pub walk : ℕ → Leads → Walk → Walk
walk zero l w = w
walk (suc n) l w = elim w.waiting [ [] ↦ w | s ∷ ss ↦ walk n l (walked_first l s ss w) ]

-- ALL THAT THE REGISTERS REACH, each once, in the order in which it is found: what registers hold, and then from one object
-- after another what its places hold and what entries give
abbrev pub derivation : Leads → List Step
derivation l = steps_of (walk l.objects l (rooted l))

-- A PATH: the steps that one of them needs

-- what a step rests on
abbrev pub grounds : Reason → List Name
grounds (Root r) = []
grounds (Edge x) = x ∷ []
grounds (Pair m k) = m ∷ k ∷ []

-- the steps that lead to some names, and the names that are wanted in front of them
pub record Needed : Type 0 where
  pub steps : List Step
  pub wanted : List Name

abbrev pub with_needed : Step → Needed → Needed
with_needed s n = elim (has same_name n.wanted s.0) [
  | true ↦ record { steps = s ∷ n.steps; wanted = grounds s.1 ++ n.wanted }
  | false ↦ n
]

-- from the last to the first
abbrev pub needed_for : List Step → List Name → Needed
needed_for [] wanted = record { steps = []; wanted = wanted }
needed_for (s ∷ ss) wanted = with_needed s (needed_for ss wanted)

-- THE STEPS THAT LEAD TO AN OBJECT, each once, itself last; none where nothing leads there
abbrev pub path_to : Leads → Name → List Step
path_to l x = (needed_for (derivation l) (x ∷ [])).steps

-- whether something does
abbrev pub is_led_to : Leads → Name → Bool
is_led_to l x = has same_name (named (derivation l)) x

abbrev pub done_or_nothing : Bool → Reply
done_or_nothing b = elim b [ true ↦ Done | false ↦ Nothing ]

-- WHAT `why` ANSWERS
abbrev pub why_of : Leads → Name → Answer
why_of l x = explaining (path_to l x) (done_or_nothing (is_led_to l x))
