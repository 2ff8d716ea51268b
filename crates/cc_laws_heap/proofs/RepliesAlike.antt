-- HEAPS THAT STAND FOR A GRAPH ANSWER AS IT DOES: what the checks and the replies look at is the same in both.
use Rattle.std.proofs.Common.{arith, ◌≡◌, ℕ, Option, Some, None, is_none, slice_index_or, refl, sym, ◌∙◌, ap}
use Rattle.std.specs.Prelude.{IsTrue}
use Rattle.std.specs.Option.{option_and_then}
use Rattle.std.specs.List.{list_any}
use Rattle.std.proofs.Math.Path.{fun_ext}
use Rattle.cc_names.specs.declared.name.Name.{Name}
use Rattle.cc_names.specs.declared.register.Reg.{Reg}
use Rattle.cc_names.specs.declared.register.Reg.TheVariants.{N, S, W}
use Rattle.cc_names.specs.Names.{is_script}
use Rattle.cc_model.specs.declared.command.Command.{Command}
use Rattle.cc_model.specs.Slots.{Slots}
use Rattle.cc_model.specs.Checks.{Objects, slots_or_none, slots_at, slot_at, value_at, needed, lacks_object, is_map_in, has_wrong_object, has_no_slot, has_wrong_content, is_full, refusal_of, reply_if_taken}
use Rattle.cc_model.specs.Deeds.{source_of, deed_of}
use Rattle.cc_model.specs.Graph as graph
use Rattle.cc_model.specs.Graph.{Graph}
use Rattle.cc_model.specs.Reached.{Reached, held}
use Rattle.cc_model.specs.Heap as heap
use Rattle.cc_model.specs.Heap.{Heap}
use Rattle.cc_model.specs.StandsFor.{StandsFor}
use Rattle.cc_laws_heap.proofs.Standing.{stands-reached, stands-values}
use Rattle.cc_laws_heap.proofs.Shapes.{slots_of_shape, slots_in-graph, slots_in-heap, delegate_of_shape, delegate_in-shape, delegate_at-shape}

-- what the checks and the replies look at is the same
pub record AreAlike (o p : Objects) : Type 0 where
  pub register : (r : Reg) → o.register r ≡ p.register r
  pub slots : (r : Reg) → option_and_then o.slots (o.register r) ≡ option_and_then p.slots (p.register r)
  pub is_map : (r : Reg) → is_map_in o (o.register r) ≡ is_map_in p (p.register r)
  pub value : (a b : Reg) → value_at o (o.register a) (o.register b) ≡ value_at p (p.register a) (p.register b)
  pub natives_made : o.natives_made ≡ p.natives_made
  pub scripts_made : o.scripts_made ≡ p.scripts_made
  pub limits : o.limits ≡ p.limits

module _ (o p : Objects) (a : AreAlike o p) where
  -- what a register holds has the same slots
  slots_at-alike : (r : Reg) → slots_at o r ≡ slots_at p r
  slots_at-alike r = ap slots_or_none (a.slots r)

  -- and the same in each of them
  pub slot_at-alike : (r : Reg) (i : ℕ) → slot_at o r i ≡ slot_at p r i
  slot_at-alike r i = ap (λ (s : Slots). slice_index_or s i None) (slots_at-alike r)

  -- the five tests
  lacks_object-alike : (c : Command) → lacks_object o c ≡ lacks_object p c
  lacks_object-alike c = ap (λ (f : Reg → Option Name). list_any (λ r. is_none (f r)) (needed c)) (fun_ext a.register)

  -- the object in a register is of the wrong kind in both, or in neither
  has_wrong_object-alike : (c : Command) → has_wrong_object o c ≡ has_wrong_object p c
  has_wrong_object-alike c = grind arith

  -- an index is past the slots in both, or in neither
  has_no_slot-alike : (c : Command) → has_no_slot o c ≡ has_no_slot p c
  has_no_slot-alike c = grind (arith, slots_at-alike)

  -- what a slot holds is of the wrong kind in both, or in neither
  has_wrong_content-alike : (c : Command) → has_wrong_content o c ≡ has_wrong_content p c
  has_wrong_content-alike c = grind (arith, slot_at-alike)

  -- no more may be made in both, or in neither
  is_full-alike : (c : Command) → is_full o c ≡ is_full p c
  is_full-alike c = grind arith

  -- THE SAME IS REFUSED, for the same cause.
  pub refusal_of-alike : (c : Command) → refusal_of o c ≡ refusal_of p c
  unfolding refusal_of
  refusal_of-alike c = grind (arith, lacks_object-alike, has_wrong_object-alike, has_no_slot-alike, has_wrong_content-alike, is_full-alike)

  -- THE SAME IS REPLIED.
  pub reply_if_taken-alike : (c : Command) → reply_if_taken o c ≡ reply_if_taken p c
  unfolding reply_if_taken
  reply_if_taken-alike c = grind (arith, slot_at-alike)

  -- a source gives the same
  source_of-alike : (r : Option Reg) → source_of o r ≡ source_of p r
  source_of-alike None = refl
  source_of-alike (Some r) = a.register r

  -- THE SAME IS DONE.
  pub deed_of-alike : (c : Command) → deed_of o c ≡ deed_of p c
  unfolding deed_of
  deed_of-alike c = grind (arith, slot_at-alike, source_of-alike)

module _ (h : Heap) (g : Graph) (s : StandsFor h g) where
  -- the registers hold the same
  register-stands : (r : Reg) → heap.register h r ≡ graph.register g r
  register-stands (N r) = ap (λ (b : Slots). slice_index_or b r None) s.native_registers
  register-stands (S r) = ap (λ (b : Slots). slice_index_or b r None) s.script_registers
  register-stands (W r) = refl

  -- a reached object has the same slots
  slots_in-stands : (x : Name) → Reached g x → heap.slots_in h x ≡ graph.slots_in g x
  slots_in-stands x d = let k = stands-reached h g s x d in slots_in-heap h x ∙ (ap slots_of_shape (k.there ∙ sym k.made) ∙ sym (slots_in-graph g x))

  -- a reached script object has the same delegate
  pub delegate-stands : (x : Name) → IsTrue (is_script x) → Reached g x → heap.delegate_at h x ≡ graph.delegate_in g x
  delegate-stands x i d = let k = stands-reached h g s x d in delegate_at-shape h x i ∙ (ap delegate_of_shape (k.there ∙ sym k.made) ∙ sym (delegate_in-shape g x))

  -- What the checks and the replies look at is the same for the heaps and for the graph.
  pub objects-stand : AreAlike (heap.objects_of h) (graph.objects_of g)
  objects-stand = record {
    register = register-stands;
    slots = λ r. rw (register-stands r) (slots r (graph.register g r) refl);
    is_map = λ r. rw (register-stands r) (is_map r (graph.register g r) refl);
    value = λ a b. rw (register-stands a, register-stands b) (value a b (graph.register g a) refl (graph.register g b) refl);
    natives_made = s.natives_made;
    scripts_made = s.scripts_made;
    limits = s.limits;
  }
    where
      slots : (r : Reg) → (o : Option Name) → graph.register g r ≡ o → option_and_then (heap.slots_in h) o ≡ option_and_then (graph.slots_in g) o
      slots r None e = refl
      slots r (Some x) e = slots_in-stands x (held r x e)

      is_map : (r : Reg) → (o : Option Name) → graph.register g r ≡ o → is_map_in (heap.objects_of h) o ≡ is_map_in (graph.objects_of g) o
      is_map r None e = refl
      is_map r (Some x) e = ap is_none (slots_in-stands x (held r x e))

      value : (a b : Reg) → (o : Option Name) → graph.register g a ≡ o → (p : Option Name) → graph.register g b ≡ p →
          value_at (heap.objects_of h) o p ≡ value_at (graph.objects_of g) o p
      value a b (Some x) e (Some y) f = stands-values h g s x y (held a x e) (held b y f)
      value a b _ e _ f = refl
