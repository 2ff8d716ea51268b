-- THE END OF A MARKING: where the heaps are under marking, the colours that it gives are closed, so what a sweep needs of them holds.
use Rattle.std.proofs.Common.{◌≡◌, ℕ, true, List, [], ◌++◌, sym, ◌∙◌, ap, refl}
use Rattle.cc_lists.specs.Members.{Among, has}
use Rattle.cc_lists.proofs.Members.{Among-left, Among-right, has-among}
use Rattle.cc_lists.specs.Least.{system, closure}
use Rattle.cc_lists.proofs.Least.{derive-root}
use Rattle.cc_lists.proofs.Closure.{derived-closure}
use Rattle.cc_lists.proofs.ListWrites.{each-map, flat_map-kept}
use Rattle.cc_names.specs.declared.name.Name.{Name}
use Rattle.cc_names.specs.Names.{same_name}
use Rattle.cc_names.proofs.NameTests.{same_name-exact}
use Rattle.cc_model.specs.Slots.{contents}
use Rattle.cc_model.specs.Entries.{joints, rules_of}
use Rattle.cc_model.specs.declared.item.Event.TheVariants.{Freed}
use Rattle.cc_model.specs.Graph.{Graph}
use Rattle.cc_model.specs.Reached.{Reached}
use Rattle.cc_model.specs.WellMade.{IsWellMade}
use Rattle.cc_model.specs.Heap.{Heap, HeapScript}
use Rattle.cc_model.specs.View.{view, script_slot_edges}
use Rattle.cc_model.specs.Exposure.{slots_of_scripts}
use Rattle.cc_model.specs.Colours.{HasColourInvariant, scripts_held, colour_by, coloured_by}
use Rattle.cc_model.specs.Sweep.{sweep}
use Rattle.cc_model.specs.WellFormed.{IsWellFormed, script_names}
use Rattle.cc_model.specs.Marking.{NewMarks, without_all, blacks_by_mark, marks_by_mark, ended_marks}
use Rattle.cc_model.specs.StandsFor.{StandsFor}
use Rattle.cc_laws_heap.specs.Sound.{IsSound}
use Rattle.cc_laws_heap.specs.Marks.{AreMarksClosed, IsBlackClosed}
use Rattle.cc_laws_heap.specs.Rounds.{FreesNames}
use Rattle.cc_laws_heap.specs.UnderMarking.{IsUnderMarking}
use Rattle.cc_laws_heap.proofs.Raising.{without_all-in}
use Rattle.cc_laws_heap.proofs.NativesHold.{held-there}
use Rattle.cc_laws_heap.proofs.Led.{IsLed, led_names, AreColoursBy, AreMarksClosed-led, IsBlackClosed-led}
use Rattle.cc_laws_heap.proofs.MarkingKeeps.{as_coloured, script_names-coloured, IsSound-coloured}
use Rattle.cc_laws_heap.proofs.FreedNames.{FreesNames-alike}
use Rattle.cc_laws_heap.proofs.Swept.{taken-sweep, sweep-frees, sweep-sound}
use Rattle.cc_laws_heap.proofs.SweepColours.{sweep-invariant}
use Rattle.cc_laws_heap.proofs.RoundsStand.{coloured-stands, sweep-stands, sweep-unreached}

module _ (h : Heap) (m : NewMarks) where
  -- the heaps with the colours that the end of a marking gives
  abbrev pub by_new_marks : Heap
  by_new_marks = coloured_by (blacks_by_mark h m) (marks_by_mark h m) h

  -- what is black by the new marks
  abbrev blacks : List Name
  blacks = without_all m.unblack (script_names h)

  -- what is marked by them
  abbrev marks : List Name
  marks = blacks_by_mark h m ++ without_all m.unmarked (script_names h)

  -- other colours keep the edges over script slots
  pub edges-kept : slots_of_scripts by_new_marks ≡ slots_of_scripts h
  edges-kept = flat_map-kept script_slot_edges (as_coloured (blacks_by_mark h m) (marks_by_mark h m)) h.scripts (λ o. refl)

  -- so what names lead to stays
  led-kept : (roots : List Name) → closure same_name (system roots (slots_of_scripts h) (rules_of (joints h.entries))) ≡ led_names by_new_marks roots
  led-kept roots = ap (λ edges. closure same_name (system roots edges (rules_of (joints h.entries)))) (sym edges-kept)

  -- each script object has the colour of its name
  colours-are : (o : HeapScript) → Among o by_new_marks.scripts → o.colour ≡ colour_by (blacks_by_mark h m) (marks_by_mark h m) o.name
  colours-are = each-map (λ o. o.colour ≡ colour_by (blacks_by_mark h m) (marks_by_mark h m) o.name) (as_coloured (blacks_by_mark h m) (marks_by_mark h m)) h.scripts (λ o i. refl)

  -- marked by what the marked ones lead to
  colours-marked : AreColoursBy by_new_marks (blacks_by_mark h m) (led_names by_new_marks marks)
  colours-marked o i = colours-are o i ∙ ap (λ xs. colour_by (blacks_by_mark h m) xs o.name) (led-kept marks)

  -- and black by what the black ones lead to
  colours-black : AreColoursBy by_new_marks (led_names by_new_marks blacks) (marks_by_mark h m)
  colours-black o i = colours-are o i ∙ ap (λ xs. colour_by xs (marks_by_mark h m) o.name) (led-kept blacks)

  module _ (w : IsWellFormed h) (u : IsUnderMarking h m) where
    -- what a script register holds is black
    register-black : (x : Name) → Among x (contents h.script_registers) → Among x blacks
    register-black x i = without_all-in m.unblack (script_names h) x (w.script_registers x i) (u.registers x i)

    -- so it is led to from the black ones,
    register-led : (x : Name) → Among x (contents h.script_registers) → IsLed by_new_marks blacks x
    register-led x i = derive-root blacks (slots_of_scripts by_new_marks) (rules_of (joints h.entries)) x (register-black x i)

    -- what stands among the marked ones is led to from them
    mark-led : (x : Name) → Among x marks → IsLed by_new_marks marks x
    mark-led x i = derive-root marks (slots_of_scripts by_new_marks) (rules_of (joints h.entries)) x i

    -- what is black is marked
    black-marked : (x : Name) → has same_name (blacks_by_mark h m) x ≡ true → IsLed by_new_marks marks x
    black-marked x e = mark-led x (Among-left x (blacks_by_mark h m) (without_all m.unmarked (script_names h))
        (has-among same_name same_name-exact (blacks_by_mark h m) x e))

    -- what a script register holds is marked
    register-marked : (x : Name) → Among x (contents h.script_registers) → IsLed by_new_marks marks x
    register-marked x i = mark-led x (Among-left x (blacks_by_mark h m) (without_all m.unmarked (script_names h))
        (derived-closure same_name same_name-exact (system blacks (slots_of_scripts h) (rules_of (joints h.entries))) x
        (derive-root blacks (slots_of_scripts h) (rules_of (joints h.entries)) x (register-black x i))))

    -- what natives hold is marked
    held-marked : (x : Name) → Among x (scripts_held h) → IsLed by_new_marks marks x
    held-marked x i = mark-led x (Among-right x (blacks_by_mark h m) (without_all m.unmarked (script_names h))
        (without_all-in m.unmarked (script_names h) x (held-there h w x i) (u.held x i)))

    module _ (v : IsWellFormed by_new_marks) where
      -- THE MARKS ARE CLOSED.
      closed-by_marks : AreMarksClosed by_new_marks
      closed-by_marks = AreMarksClosed-led by_new_marks (blacks_by_mark h m) marks colours-marked black-marked v register-marked held-marked

    -- BLACK IS CLOSED.
    pub black-by_marks : IsBlackClosed by_new_marks
    black-by_marks = IsBlackClosed-led by_new_marks blacks (marks_by_mark h m) colours-black register-led

-- THE MARKS THAT THE END OF A MARKING GIVES ARE CLOSED.
pub AreMarksClosed-ended : {owned : List ℕ} (h : Heap) (m : NewMarks) → IsSound owned h → IsUnderMarking h m → AreMarksClosed (by_new_marks h m)
AreMarksClosed-ended h m s u = closed-by_marks h m s.well_formed u (IsSound-coloured (blacks_by_mark h m) (marks_by_mark h m) h s).well_formed

-- BLACK IS CLOSED by the colours that the end of a marking gives.
pub IsBlackClosed-ended : {owned : List ℕ} (h : Heap) (m : NewMarks) → IsSound owned h → IsUnderMarking h m → IsBlackClosed (by_new_marks h m)
IsBlackClosed-ended h m s u = black-by_marks h m s.well_formed u

-- The sweep at the end

module _ (h : Heap) (m : NewMarks) (s : IsSound [] h) (u : IsUnderMarking h m) where
  -- other colours keep the heaps sound
  ending-sound : IsSound [] (by_new_marks h m)
  ending-sound = IsSound-coloured (blacks_by_mark h m) (marks_by_mark h m) h s

  -- AN END LEAVES THE HEAPS SOUND,
  pub ended-sound : IsSound [] (ended_marks h m).heap
  unfolding ended_marks
  ended-sound = sweep-sound (by_new_marks h m) (AreMarksClosed-ended h m s u) ending-sound

  -- WITH THE COLOUR INVARIANT.
  pub ended-invariant : HasColourInvariant (view (ended_marks h m).heap)
  unfolding ended_marks
  ended-invariant = sweep-invariant (by_new_marks h m) (AreMarksClosed-ended h m s u) ending-sound (IsBlackClosed-ended h m s u)

  -- What an end tells is what it takes out.
  pub ended-frees : (xs : List Name) × FreesNames h xs (ended_marks h m)
  unfolding ended_marks
  ended-frees =
      let f = taken-sweep (by_new_marks h m) ending-sound in (
        f.0,
        FreesNames-alike h (by_new_marks h m).scripts h.entries f.0 (sweep (by_new_marks h m))
            (script_names-coloured (blacks_by_mark h m) (marks_by_mark h m) h) (sweep-frees (by_new_marks h m) ending-sound),
      )

  module _ (g : Graph) (made : IsWellMade g) (t : StandsFor h g) where
    -- with other colours the heaps stand for the same graph
    ending-stands : StandsFor (by_new_marks h m) g
    ending-stands = coloured-stands (blacks_by_mark h m) (marks_by_mark h m) h g s made t

    -- AN END KEEPS STANDING FOR THE GRAPH.
    pub ended-stands : StandsFor (ended_marks h m).heap g
    unfolding ended_marks
    ended-stands = sweep-stands (by_new_marks h m) g (AreMarksClosed-ended h m s u) ending-sound made ending-stands

    -- AN END FREES NOTHING THAT IS REACHED.
    pub ended-unreached : (x : Name) → Among (Freed x) (ended_marks h m).events → ¬ (Reached g x)
    unfolding ended_marks
    ended-unreached x i = sweep-unreached (by_new_marks h m) g (AreMarksClosed-ended h m s u) ending-sound made ending-stands x i
