-- WHAT IS LED TO IS WHAT IS REACHED, in a graph that is well made and in heaps that are well formed.
use Rattle.std.proofs.Common.{arith, ◌≡◌, true, [], Option, Some, None, refl, sym, subst, inl, inr}
use Rattle.cc_lists.specs.Members.{Among}
use Rattle.cc_lists.proofs.Members.{Among-left, Among-right, Among-append}
use Rattle.cc_lists.proofs.Least.{derive-root, derive-along}
use Rattle.cc_names.specs.declared.name.Name.{Name}
use Rattle.cc_names.specs.declared.register.Reg.{Reg}
use Rattle.cc_names.specs.declared.register.Reg.TheVariants.{N, S, W}
use Rattle.cc_model.specs.Slots.{contents}
use Rattle.cc_model.specs.Entries.{joint, joints, rules_of}
use Rattle.cc_model.specs.Checks.{slots_or_none}
use Rattle.cc_model.specs.Graph.{Graph}
use Rattle.cc_model.specs.Reached.{Reached, held, edge, value, key, names_of}
use Rattle.cc_model.specs.WellMade.{IsWellMade}
use Rattle.cc_model.specs.Heap.{Heap}
use Rattle.cc_model.specs.Places.{places_in}
use Rattle.cc_model.specs.View.{view, ReachedIn}
use Rattle.cc_model.specs.WellFormed.{IsWellFormed, names_there}
use Rattle.cc_model.specs.StandsFor.{Shape, shape_at}
use Rattle.cc_model.specs.Derivations.{leads_made, leads_in, is_led_to}
use Rattle.cc_model.proofs.Joints.{value-joint, delegate-joint, derive-joint, derived-by_joints}
use Rattle.cc_model.proofs.Reaching.{content-at}
use Rattle.cc_model.proofs.Derivations.{IsHeldBy}
use Rattle.cc_model.proofs.Leading.{led-within, register-led, place-led, joint-led, heap-within}
use Rattle.cc_laws_heap.proofs.HeapShapes.{places_in-shape, edge-held, held-edge}
use Rattle.cc_laws_heap.proofs.GraphLeads.{graph-within}

-- WHAT A WELL MADE GRAPH REACHES is led to.
pub reached-led : (g : Graph) → IsWellMade g → (x : Name) → Reached g x → is_led_to (leads_made g) x ≡ true
reached-led g w _ (held (N r) x e) = register-led (leads_made g) (names_of g) (graph-within g w) x (inl (content-at x g.native_registers r e))
reached-led g w _ (held (S r) x e) = register-led (leads_made g) (names_of g) (graph-within g w) x (inr (content-at x g.script_registers r e))
reached-led g w _ (held (W r) x e) = absurd (content-at x [] r e)
reached-led g w _ (edge x y d i) = place-led (leads_made g) (names_of g) (graph-within g w) x y (reached-led g w x d) i
reached-led g w _ (value e i a b) = joint-led (leads_made g) (names_of g) (graph-within g w) (joint e.the_map e.key e.value) (value-joint g.entries e i)
    (reached-led g w e.the_map a) (reached-led g w e.key b)
reached-led g w _ (key e d i q a b) = joint-led (leads_made g) (names_of g) (graph-within g w) (joint e.the_map d e.key) (delegate-joint g.entries e d i q)
    (reached-led g w e.the_map a) (reached-led g w d b)

module _ (h : Heap) (w : IsWellFormed h) where
  -- what has no shape has no places
  no_places : (x : Name) → shape_at h x ≡ None → places_in h x ≡ None
  no_places x e = grind arith

  -- what the places of an object hold is an edge of the flat view
  place-edge : (x y : Name) → Among y (contents (slots_or_none (places_in h x))) → Among (x, y) (view h).edges
  place-edge x y m = go (shape_at h x) refl
    where
      go : (o : Option Shape) → shape_at h x ≡ o → Among (x, y) (view h).edges
      go None e = absurd (subst (λ p. Among y (contents (slots_or_none p))) (no_places x e) m)
      go (Some s) e = held-edge h w x y s e (subst (Among y) (places_in-shape h w x s e) m)

  -- WHAT IS LED TO IN WELL FORMED HEAPS is what they reach,
  pub led-reached_in : (x : Name) → is_led_to (leads_in h) x ≡ true → ReachedIn (view h) x
  led-reached_in = led-within (leads_in h) (ReachedIn (view h)) root
      (λ y x d i. derive-along (view h).registers (view h).edges (rules_of (joints h.entries)) y x (place-edge y x i) d)
      (derive-joint (view h).registers (view h).edges (joints h.entries))
    where
      root : (r : Reg) (x : Name) → IsHeldBy (leads_in h) r x → ReachedIn (view h) x
      root (N k) x e = derive-root (view h).registers (view h).edges (rules_of (joints h.entries)) x
          (Among-left x (contents h.native_registers) (contents h.script_registers) (content-at x h.native_registers k e))
      root (S k) x e = derive-root (view h).registers (view h).edges (rules_of (joints h.entries)) x
          (Among-right x (contents h.native_registers) (contents h.script_registers) (content-at x h.script_registers k e))
      root (W k) x e = absurd e

  -- and what they reach is led to.
  pub reached_in-led : (x : Name) → ReachedIn (view h) x → is_led_to (leads_in h) x ≡ true
  reached_in-led = derived-by_joints (view h).registers (view h).edges (joints h.entries) (λ x. is_led_to (leads_in h) x ≡ true)
      (λ x m. register-led (leads_in h) (names_there h) (heap-within h w) x (Among-append x (contents h.native_registers) (contents h.script_registers) m))
      (λ x y m d. let f = edge-held h w x y m in
      place-led (leads_in h) (names_there h) (heap-within h w) x y d (subst (Among y) (sym (places_in-shape h w x f.0 f.1)) f.2))
      (joint-led (leads_in h) (names_there h) (heap-within h w))
