-- COLOURS BY NAMES: the marks are closed, and black is, where the names that have them are least sets over slots and entries.
use Rattle.std.specs.Prelude.{◌↔◌}
use Rattle.std.proofs.Common.{arith, ◌≡◌, true, List, sym, ◌∙◌, ap, subst}
use Rattle.std.proofs.lemmas.Bool.{false≢true}
use Rattle.cc_lists.specs.Members.{Among, has}
use Rattle.cc_lists.specs.Least.{Rule, Least, system, closure}
use Rattle.cc_lists.proofs.Members.{Among-map, Among-map_cases, Among-filter, Among-filtered, Among-passes, Among-flat_map, Among-flat_map_cases}
use Rattle.cc_lists.proofs.Least.{derive-along}
use Rattle.cc_lists.proofs.Closure.{closure-decides}
use Rattle.cc_names.specs.declared.name.Name.{Name}
use Rattle.cc_names.specs.declared.kind.Colour.{Colour}
use Rattle.cc_names.specs.declared.kind.Colour.TheVariants.{White, Black}
use Rattle.cc_names.specs.Names.{same_name}
use Rattle.cc_names.proofs.NameTests.{same_name-exact}
use Rattle.cc_model.specs.Slots.{contents, from_to}
use Rattle.cc_model.specs.Entries.{Entry, Joint, joints, rules_of}
use Rattle.cc_model.proofs.Joints.{Gives, its_value, its_key, joint-cases, derive-joint}
use Rattle.cc_model.specs.Heap.{Heap, HeapScript, is_white_colour}
use Rattle.cc_model.specs.Places.{script_places_of}
use Rattle.cc_model.specs.View.{script_slot_edges}
use Rattle.cc_model.specs.Exposure.{slots_of_scripts}
use Rattle.cc_model.specs.Colours.{scripts_held, colour_by}
use Rattle.cc_model.specs.Sweep.{unmarked}
use Rattle.cc_model.specs.WellFormed.{IsWellFormed, script_names}
use Rattle.cc_laws_heap.specs.Marks.{Stays, AreMarksClosed, IsBlackClosed}
use Rattle.cc_laws_heap.proofs.ScriptNames.{delegate-there}
use Rattle.cc_laws_heap.proofs.Marking.{colour_of, colour_of-black, colour_of-white}

-- What is unmarked

-- what passes the test of white is white
is_white-true : (c : Colour) → is_white_colour c ≡ true → c ≡ White
is_white-true c e = grind arith

-- an unmarked name is that of a white script object
pub unmarked-white : (h : Heap) (x : Name) → Among x (unmarked h) → (o : HeapScript) × Among o h.scripts × (o.colour ≡ White) × (o.name ≡ x)
unmarked-white h x m = grind (arith, Among-map_cases, Among-filtered, is_white-true, Among-passes)

-- Edges and joints

-- what a script object has in a place over which marking goes is an edge
pub place-edge : (h : Heap) (o : HeapScript) (x : Name) → Among o h.scripts → Among x (contents (script_places_of o)) → Among (o.name, x) (slots_of_scripts h)
place-edge h o x m i = Among-flat_map script_slot_edges o (from_to o.name x) h.scripts m (Among-map (from_to o.name) x (contents (script_places_of o)) i)

-- an edge leads from a script object
pub edge-source : (h : Heap) (x y : Name) → Among (x, y) (slots_of_scripts h) → Among x (script_names h)
edge-source h x y e =
    let f = Among-flat_map_cases script_slot_edges h.scripts (x, y) e in
    let g = Among-map_cases (from_to f.0.name) (contents (script_places_of f.0)) (x, y) f.2 in
    subst (λ z. Among z (script_names h)) (ap (λ (p : Name × Name). p.0) g.2) (Among-map (λ (o : HeapScript). o.name) f.0 h.scripts f.1)

-- a joint leads from script objects
joint-sources : (h : Heap) → IsWellFormed h → (j : Joint) → Among j (joints h.entries) → Among j.the_map (script_names h) × Among j.key (script_names h)
joint-sources h w j m = let f = joint-cases h.entries j m in given f.0 f.1 j f.2
  where
    map_there : (e : Entry) → Among e h.entries → Among e.the_map (script_names h)
    map_there e at =
        let k = (w.entries e at).the_map in
        subst (λ x. Among x (script_names h)) k.2 (Among-map (λ (o : HeapScript). o.name) k.0 h.scripts k.1)

    given : (e : Entry) → Among e h.entries → (i : Joint) → Gives e i → Among i.the_map (script_names h) × Among i.key (script_names h)
    given e at _ its_value = (map_there e at, (w.entries e at).key)
    given e at _ (its_key d is) = (map_there e at, delegate-there h w e d at is)

-- What names lead to

-- the rules of what some names lead to over slots and entries, as marking goes
abbrev pub led_rules : Heap → List Name → List (Rule Name)
led_rules h roots = system roots (slots_of_scripts h) (rules_of (joints h.entries))

-- it is led to
abbrev pub IsLed : Heap → List Name → Name → Type 0
IsLed h roots = Least (led_rules h roots)

-- the names of what is led to
abbrev pub led_names : Heap → List Name → List Name
led_names h roots = closure same_name (led_rules h roots)

-- a name is led to where it stands in the list
pub led-decided : (h : Heap) (roots : List Name) (x : Name) → (has same_name (led_names h roots) x ≡ true) ↔ IsLed h roots x
led-decided h roots x = closure-decides same_name same_name-exact (led_rules h roots) x

-- Colours

-- the colours are those of the names that are black and of those that are marked
abbrev pub AreColoursBy : Heap → List Name → List Name → Type 0
AreColoursBy h blacks marks = (o : HeapScript) → Among o h.scripts → o.colour ≡ colour_by blacks marks o.name

module _ (h : Heap) (blacks roots : List Name) (c : AreColoursBy h blacks (led_names h roots)) where
  -- a white script object is not led to
  white-not_led : (o : HeapScript) → Among o h.scripts → o.colour ≡ White → ¬ (IsLed h roots o.name)
  white-not_led o m e d =
      let w = colour_of-white (has same_name blacks o.name) (has same_name (led_names h roots) o.name) (sym (c o m) ∙ e) in
      false≢true (sym w.1 ∙ (led-decided h roots o.name).1 d)

  -- What is led to stays.
  pub led-stays : (x : Name) → IsLed h roots x → Stays h x
  led-stays x d m = let f = unmarked-white h x m in white-not_led f.0 f.1 f.2 (subst (IsLed h roots) (sym f.3) d)

  module _ (b : (x : Name) → has same_name blacks x ≡ true → IsLed h roots x) where
    -- the colour of a script object that is there, by two tests
    colour-there : (o : HeapScript) → Among o h.scripts → o.colour ≡ colour_of (has same_name blacks o.name) (has same_name (led_names h roots) o.name)
    colour-there o m = c o m

    -- A script object that stays is led to, where what is black is.
    pub stays-led : (x : Name) → Among x (script_names h) → Stays h x → IsLed h roots x
    stays-led x m d = grind (arith, Among-map_cases, Among-map, Among-filter, b, led-decided, colour-there)

    -- THE MARKS ARE CLOSED where what is held from outside is led to.
    pub AreMarksClosed-led : IsWellFormed h → ((x : Name) → Among x (contents h.script_registers) → IsLed h roots x) →
        ((x : Name) → Among x (scripts_held h) → IsLed h roots x) → AreMarksClosed h
    AreMarksClosed-led w registers held = record {
      registers = λ x m. led-stays x (registers x m);
      held = λ x m. led-stays x (held x m);
      edges = λ x y e s. led-stays y (derive-along roots (slots_of_scripts h) (rules_of (joints h.entries)) x y e (stays-led x (edge-source h x y e) s));
      joints = λ j m p q.
          let there = joint-sources h w j m in
          led-stays j.value
          (derive-joint roots (slots_of_scripts h) (joints h.entries) j m (stays-led j.the_map there.0 p) (stays-led j.key there.1 q));
    }

module _ (h : Heap) (roots marks : List Name) (c : AreColoursBy h (led_names h roots) marks) where
  -- what is led to is black
  led-black : (o : HeapScript) → Among o h.scripts → IsLed h roots o.name → o.colour ≡ Black
  led-black o m d = c o m ∙ ap (λ b. colour_of b (has same_name marks o.name)) ((led-decided h roots o.name).1 d)

  -- a black script object is led to
  black-led : (o : HeapScript) → Among o h.scripts → o.colour ≡ Black → IsLed h roots o.name
  black-led o m e = (led-decided h roots o.name).0
      (colour_of-black (has same_name (led_names h roots) o.name) (has same_name marks o.name) (sym (c o m) ∙ e))

  -- BLACK IS CLOSED where what script registers hold is led to.
  pub IsBlackClosed-led : ((x : Name) → Among x (contents h.script_registers) → IsLed h roots x) → IsBlackClosed h
  IsBlackClosed-led registers = record {
    registers = λ o m i. led-black o m (registers o.name i);
    places = λ o p m n e i. led-black p n
        (derive-along roots (slots_of_scripts h) (rules_of (joints h.entries)) o.name p.name (place-edge h o p.name m i) (black-led o m e));
  }
