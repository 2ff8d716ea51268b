-- THE REFLECTOR OF A NATIVE THAT IS WRAPPED LEADS NOWHERE where its native does not preserve it: it is blank in the graph for which the
-- heaps stand.
use Rattle.std.proofs.Common.{arith, ◌≡◌, ℕ, Bool, true, false, List, Some, None, refl, sym, ◌∙◌, ap, subst, inl, ⊎_elim, option_to_list, is_some}
use Rattle.std.specs.Prelude.{IsTrue}
use Rattle.std.proofs.lemmas.Bool.{true≢false}
use Rattle.cc_lists.specs.Members.{Among}
use Rattle.cc_lists.proofs.Members.{Among-map_cases, Among-left, Among-right, Among-filter, Among-flat_map, Among-flat_map_cases}
use Rattle.cc_names.specs.declared.name.Name.{Name}
use Rattle.cc_names.specs.declared.name.Name.TheVariants as name
use Rattle.cc_names.specs.declared.kind.Kind.{Kind}
use Rattle.cc_names.specs.declared.kind.Kind.TheVariants.{Map}
use Rattle.cc_names.specs.Names.{native, reflector, is_script, number_of}
use Rattle.cc_names.specs.Places.{where_set}
use Rattle.cc_model.specs.declared.command.Command.{Command}
use Rattle.cc_model.specs.Deeds.{Deed, reflector_held, deed_of}
use Rattle.cc_model.specs.Ranges.{in_range}
use Rattle.cc_model.specs.Slots.{Slots, contents, empty_slots, reflector_slots, from_to}
use Rattle.cc_model.specs.Entries.{Entry, Joint}
use Rattle.cc_model.proofs.Joints.{Gives, its_value, its_key, joint-cases}
use Rattle.cc_model.proofs.Places.{contents-last, script_place-cases}
use Rattle.cc_model.specs.Graph.{Graph}
use Rattle.cc_model.specs.Reached.{roots_of}
use Rattle.cc_model.specs.Given.{Given, given, living_names}
use Rattle.cc_model.specs.Heap.{Heap, HeapNative, HeapScript, objects_of}
use Rattle.cc_model.specs.View.{script_slot_edges}
use Rattle.cc_model.specs.Places.{places_of_native, script_places_of}
use Rattle.cc_model.specs.Exposure.{slots_of_scripts}
use Rattle.cc_model.specs.Colours.{scripts_held, scripts_held_by}
use Rattle.cc_model.specs.WellFormed.{IsWellFormed, FitsName, is_proxy_kind, script_names}
use Rattle.cc_model.specs.StandsFor.{StandsFor, IsNoKey, shape_in, shape_of_held_native, shape_of_held_script}
use Rattle.cc_laws_heap.specs.Sound.{IsSound}
use Rattle.cc_laws_heap.proofs.Taken.{IsTaken}
use Rattle.cc_laws_heap.proofs.MayBeDone.{MayBeDone, may_be_done}
use Rattle.cc_laws_heap.proofs.Making.{contents-empty_none}
use Rattle.cc_laws_heap.proofs.ReachedAlike.{ArePart-among}
use Rattle.cc_laws_heap.proofs.Shapes.{IsOfNone}
use Rattle.cc_laws_heap.proofs.Following.{stands-follows}
use Rattle.cc_laws_heap.proofs.Standing.{stands-blank}
use Rattle.cc_laws_marking.specs.Unmarkable.{wrapped_by, LeadsNowhere}

-- a native that is wrapped stands in a native register
wrapped-native : (h : Heap) (d : Deed) → MayBeDone h d → (x : Name) → Among x (wrapped_by d) → (k : ℕ) × (reflector k ≡ x) × Among (native k) (contents h.native_registers)
wrapped-native h (reflector_held d (Some (name.Native k))) may x i = (k.0, ⊎_elim (λ e. e) (λ none. absurd none) i, may.held (native k.0) (inl refl))
wrapped-native h (reflector_held d (Some (name.Script k))) may x i = absurd i
wrapped-native h (reflector_held d (Some (name.Reflector k))) may x i = absurd i
wrapped-native h (reflector_held d None) may x i = absurd i
wrapped-native h _ may x i = absurd i

-- a reflector is no weak map
reflector-no_map : (k : ℕ) (x : Name) (kind : Kind) (slots : Slots) → FitsName x kind slots → x ≡ reflector k → kind ≡ Map → ⊥
reflector-no_map k x kind slots f e m = grind arith

-- a reflector is no proxy
reflector-no_proxy : (k : ℕ) (x : Name) (kind : Kind) (slots : Slots) → FitsName x kind slots → x ≡ reflector k → is_proxy_kind kind ≡ false
reflector-no_proxy k x kind slots f e = grind arith

module _ (h : Heap) (g : Graph) (w : IsWellFormed h) (s : StandsFor h g) (n : HeapNative) (there : Among n h.natives)
    (held : Among (native n.number) (contents h.native_registers)) (loose : ¬ (Among (reflector n.number) (scripts_held h))) where
  -- a native that a register holds is given
  its-given : Given h g (native n.number)
  its-given = given (native n.number) (Among-left (native n.number) (roots_of g) (living_names h)
      (Among-left (native n.number) (contents g.native_registers) (contents g.script_registers)
      (subst (λ (rs : Slots). Among (native n.number) (contents rs)) s.native_registers held)))

  -- what no native holds is not preserved
  its-loose : n.preserved ≡ false
  its-loose = go n.preserved refl
    where
      go : (b : Bool) → n.preserved ≡ b → b ≡ false
      go false e = refl
      go true e = absurd (loose (Among-flat_map scripts_held_by n (reflector n.number) h.natives there
          (Among-filter is_script (reflector n.number) (contents (places_of_native n))
          (subst (Among (reflector n.number)) (sym (contents-last n.slots (where_set n.preserved (Some (reflector n.number)))))
          (Among-right (reflector n.number) (contents n.slots) (option_to_list (where_set n.preserved (Some (reflector n.number))))
          (subst (λ b. Among (reflector n.number) (option_to_list (where_set b (Some (reflector n.number))))) (sym e) (inl refl))))
          refl)))

  -- the reflector of such a native holds nothing
  its-edges : (y : Name) → ¬ (Among (reflector n.number, y) (slots_of_scripts h))
  its-edges y e =
      let f = Among-flat_map_cases script_slot_edges h.scripts (reflector n.number, y) e in
      let p = Among-map_cases (from_to f.0.name) (contents (script_places_of f.0)) (reflector n.number, y) f.2 in
      let named : f.0.name ≡ reflector n.number = ap (λ (q : Name × Name). q.0) p.2 in
      ⊎_elim
      (λ slot. contents-empty_none reflector_slots p.0
      (subst (λ (slots : Slots). Among p.0 (contents slots)) (stands-blank h g w s n f.0 there its-loose its-given f.1 named) slot))
      (λ d. true≢false (sym (ap is_some d) ∙ (w.delegates f.0 f.1 ∙ reflector-no_proxy n.number f.0.name f.0.kind f.0.slots (w.kinds f.0 f.1) named)))
      (script_place-cases f.0 p.0 p.1)

  module _ (o : HeapScript) (at : Among o h.scripts) (named : o.name ≡ reflector n.number) where
    -- no entry goes by the reflector
    its-entries : (e : Entry) → Among e h.entries → (j : Joint) → Gives e j → (¬ (j.the_map ≡ reflector n.number)) × (¬ (j.key ≡ reflector n.number))
    its-entries e i j gives = (no_map j gives, no_key j gives)
      where
        blank : ((shape_of_held_script o).slots ≡ Some (empty_slots reflector_slots)) × IsNoKey g (reflector n.number) × IsOfNone g (reflector n.number)
        blank = (stands-follows h g w s).blank n.number (shape_of_held_native n) (shape_of_held_script o)
            ((stands-follows h g w s).objects.alike n there its-given) its-loose
            (ap (shape_in g) (sym named) ∙ (stands-follows h g w s).objects.scripts o at)

        map_other : ¬ (e.the_map ≡ reflector n.number)
        map_other is =
            let k = (w.entries e i).the_map in
            reflector-no_map n.number k.0.name k.0.kind k.0.slots (w.kinds k.0 k.1) (k.2 ∙ is) k.3

        no_map : (q : Joint) → Gives e q → ¬ (q.the_map ≡ reflector n.number)
        no_map _ its_value = map_other
        no_map _ (its_key d is) = map_other

        no_key : (q : Joint) → Gives e q → ¬ (q.key ≡ reflector n.number)
        no_key _ its_value = blank.1 e (ArePart-among h.entries g.entries e s.entries i)
        no_key _ (its_key d is) = λ same.
            let f = Among-map_cases (λ (p : HeapScript). p.name) h.scripts e.key (w.entries e i).key in
            blank.2 f.0.name (shape_of_held_script f.0) ((stands-follows h g w s).objects.scripts f.0 f.1)
            ((w.entries e i).delegate f.0 f.1 f.2 ∙ (is ∙ ap (λ y. Some y) same))

  -- THE REFLECTOR LEADS NOWHERE.
  its-nowhere : Among (reflector n.number) (script_names h) → LeadsNowhere h (reflector n.number)
  its-nowhere i =
      let o = Among-map_cases (λ (p : HeapScript). p.name) h.scripts (reflector n.number) i in
      record {
        edges = its-edges;
        members = λ j m. let f = joint-cases h.entries j m in its-entries o.0 o.1 o.2 f.0 f.1 j f.2;
      }

-- WHAT IS ANSWERED WHERE A NATIVE IS WRAPPED leads nowhere, unless a native holds it.
pub wrapped-nowhere : {owned : List ℕ} (h : Heap) (g : Graph) (c : Command) → IsSound owned h → StandsFor h g → IsTrue (in_range c) → IsTaken (objects_of h) c →
    (x : Name) → Among x (wrapped_by (deed_of (objects_of h) c)) → ¬ (Among x (scripts_held h)) → Among x (script_names h) → LeadsNowhere h x
wrapped-nowhere h g c s stands r t x i loose there =
    let k = wrapped-native h (deed_of (objects_of h) c) (may_be_done h c s r t) x i in
    let f = Among-map_cases (λ (n : HeapNative). native n.number) h.natives (native k.0) (s.well_formed.native_registers (native k.0) k.2) in
    let same : f.0.number ≡ k.0 = ap number_of f.2 in
    let is : reflector f.0.number ≡ x = ap reflector same ∙ k.1 in
    subst (LeadsNowhere h) is (its-nowhere h g s.well_formed stands f.0 f.1
    (subst (λ j. Among (native j) (contents h.native_registers)) (sym same) k.2)
    (subst (λ y. ¬ (Among y (scripts_held h))) (sym is) loose)
    (subst (λ y. Among y (script_names h)) (sym is) there))
