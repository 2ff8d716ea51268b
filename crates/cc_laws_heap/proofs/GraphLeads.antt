-- IN A GRAPH THAT IS WELL MADE objects lead to objects that were made, and there are steps enough to find them.
use Rattle.std.proofs.Common.{arith, ◌≡◌, Option, Some, None, refl, sym, ◌∙◌, ap, subst, inl, inr, ⊎_elim}
use Rattle.std.specs.Prelude.{IsTrue}
use Rattle.std.specs.Option.{option_to_list}
use Rattle.std.proofs.lemmas.Bool.{and_parts}
use Rattle.cc_lists.specs.Members.{Among}
use Rattle.cc_lists.proofs.Members.{Among-append}
use Rattle.cc_names.specs.declared.name.Name.{Name}
use Rattle.cc_names.specs.declared.name.Name.TheVariants as name
use Rattle.cc_names.specs.Names.{native, reflector, is_native, is_script}
use Rattle.cc_model.specs.Slots.{contents}
use Rattle.cc_model.specs.Entries.{Entry, Joint}
use Rattle.cc_model.specs.Checks.{slots_or_none}
use Rattle.cc_model.specs.Graph.{Graph, native_in, script_in}
use Rattle.cc_model.specs.Reached.{edges_of, names_of}
use Rattle.cc_model.specs.WellMade.{IsWellMade, was_made}
use Rattle.cc_model.specs.StandsFor.{Shape, shape_in}
use Rattle.cc_model.specs.Derivations.{AreWithin, leads_made}
use Rattle.cc_model.proofs.Joints.{Gives, its_value, its_key, joint-cases}
use Rattle.cc_model.proofs.Reaching.{native-named, script-named}
use Rattle.cc_laws_heap.proofs.Shapes.{slots_of_shape, slots_in-graph, further_of, edges_of_some, edges_of-shape, proxy-found}
use Rattle.cc_laws_heap.proofs.GraphParts.{is_some-found, reflector-made}
use Rattle.cc_laws_heap.proofs.GraphReads.{slots_in-made}

module _ (g : Graph) (w : IsWellMade g) where
  -- what was made stands among the names of all objects
  made-named : (x : Name) → IsTrue (was_made g x) → Among x (names_of g)
  made-named (name.Native k) m = let f = is_some-found (native_in g k.0) m in native-named g k.0 f.0 f.1 (native k.0) (inl refl)
  made-named (name.Script k) m = let f = is_some-found (script_in g k.0) m in script-named g k.0 f.0 f.1
  made-named (name.Reflector k) m = let f = reflector-made g k.0 m in native-named g k.0 f.0 f.1 (reflector k.0) (inr (inl refl))

  -- what an object refers to beside its slots was made
  further-made : (x y : Name) (s : Shape) → shape_in g x ≡ Some s → Among y (further_of x s) → IsTrue (was_made g y)
  further-made (name.Native k) y s e m = grind (arith, w.preserved)
  further-made (name.Script k) y s e m = go s.delegate refl m
    where
      go : (d : Option Name) → s.delegate ≡ d → Among y (option_to_list d) → IsTrue (was_made g y)
      go None q i = absurd i
      go (Some d) q i = ⊎_elim
          (λ is. let f = proxy-found g (name.Script k) s d e q in subst (λ z. IsTrue (was_made g z)) is (and_parts (is_script d) (was_made g d) (w.delegates f.0 d f.2)).1)
          (λ never. absurd never) i
  further-made (name.Reflector k) y s e m = grind arith

  -- an object refers to what was made
  edge-made : (x y : Name) → Among y (edges_of g x) → IsTrue (was_made g y)
  edge-made x y m = go (shape_in g x) refl (subst (Among y) (edges_of-shape g x) m)
    where
      go : (o : Option Shape) → shape_in g x ≡ o → Among y (edges_of_some x o) → IsTrue (was_made g y)
      go None e i = absurd i
      go (Some s) e i = ⊎_elim
          (λ a. slots_in-made g w x y (subst (λ o. Among y (contents (slots_or_none o))) (sym (slots_in-graph g x ∙ ap slots_of_shape e)) a))
          (λ b. further-made x y s e b)
          (Among-append y (contents (slots_or_none s.slots)) (further_of x s) i)

  pub graph-within : AreWithin (leads_made g) (names_of g)
  graph-within = record {
    natives = λ x m. made-named x (and_parts (is_native x) (was_made g x) (w.native_registers x m)).1;
    scripts = λ x m. made-named x (and_parts (is_script x) (was_made g x) (w.script_registers x m)).1;
    places = λ y x m. made-named x (edge-made y x m);
    joined = λ j m. let f = joint-cases g.entries j m in given f.0 f.1 j f.2;
    enough = omega arith;
  }
    where
      given : (e : Entry) → Among e g.entries → (j : Joint) → Gives e j → Among j.value (names_of g)
      given e m _ its_value = made-named e.value (and_parts (is_script e.value) (was_made g e.value) (w.entries e m).value).1
      given e m _ (its_key d is) = made-named e.key (and_parts (is_script e.key) (was_made g e.key) (w.entries e m).key).1
