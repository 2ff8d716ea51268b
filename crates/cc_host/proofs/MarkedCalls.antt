-- THE HEAPS' CALLS UNDER A SCRIPT MARKING: each leaves it going on as it should, where what it stores is black by the new mark.
use Rattle.std.proofs.Common.{◌≡◌, ℕ, [], Option, Some, None, option_map, Result, Ok, Err, OnOk, OnErr, sym, ◌∙◌, ap, subst, inl, ⊎_elim, option_to_list}
use Rattle.cc_lists.specs.Members.{Among}
use Rattle.cc_names.specs.declared.name.Name.{Name}
use Rattle.cc_names.specs.declared.kind.Kind.{Kind}
use Rattle.cc_names.specs.declared.number.NKey.{NKey}
use Rattle.cc_names.specs.Names.{native, reflector}
use Rattle.cc_model.specs.Heap.{preserve, set_slot}
use Rattle.cc_model.specs.Effects.{hold_native, hold_script, make_native, make_object, make_proxy, set_entry, wrapped}
use Rattle.cc_model.specs.Exposure.{exposed}
use Rattle.cc_model.specs.Marking.{exposed_marks}
use Rattle.cc_model.specs.WellFormed.{IsWellFormed, script_names}
use Rattle.cc_laws_heap.proofs.Face.{native-no_script}
use Rattle.cc_heaps.specs.Keyed.{Keyed, changed_to, left_with, number_at}
use Rattle.cc_heaps.specs.Changes.{moved_in, native_name, slot_held, stored_in}
use Rattle.cc_heaps.specs.Marks.{KeepsMarks, MarksGoOn}
use Rattle.cc_heaps.specs.NewMarks.{AreListed, marks_of}
use Rattle.cc_heaps.proofs.MarksKept.{marks-stay-changed}
use Rattle.cc_markslice.specs.Going.{IsMarkingWell}
use Rattle.cc_host.specs.Marked.{IsPastIfAny, KeepsMarking}
use Rattle.cc_host.proofs.Marked.{LeadsBut, exposed-past, marking-kept, marking-led, marking-same}
use Rattle.cc_host.proofs.MarkedSteps.{leads-entry, leads-exposed, leads-hold_native, leads-hold_script, leads-make_native, leads-make_object, leads-make_proxy, leads-moved, leads-preserve, leads-slot, leads-stored, leads-unset, leads-wrapped}

-- a native is past a marking: it has no new mark to get
pub native-past : (v : Keyed) (key : Option NKey) → IsWellFormed v.heap → IsMarkingWell v → IsPastIfAny v (native_name v key)
native-past v None w well y i m e b = absurd i
native-past v (Some key) w well y i m e b = go (number_at v key.0) i
  where
    go : (o : Option ℕ) → Among y (option_to_list (option_map native o)) → ⊥
    go None j = absurd j
    go (Some k) j =
        let both : Some m ≡ Some well.marks = sym e ∙ well.has_marks in
        let same : m ≡ well.marks = cc in
        let there = well.under.there y (subst (λ n. Among y n.unblack) same b) in
        ⊎_elim (λ is. native-no_script v.heap k w (subst (λ z. Among z (script_names v.heap)) (sym is) there)) (λ t. absurd t) j

module _ (v w : Keyed) where
  -- Natives

  pub held-marking : (r : ℕ) (x : Option Name) → w ≡ left_with v (hold_native v.heap r x).heap → KeepsMarks v w → KeepsMarking v w
  held-marking r x e k = marking-kept v w [] (subst (LeadsBut [] v.heap) (sym (ap (λ (u : Keyed). u.heap) e)) (leads-hold_native v.heap r x)) k (λ well y i. absurd i)

  pub made_native-marking : (r n : ℕ) → w.heap ≡ (make_native v.heap r n).heap → KeepsMarks v w → KeepsMarking v w
  made_native-marking r n e k = marking-kept v w [] (subst (LeadsBut [] v.heap) (sym e) (leads-make_native v.heap r n)) k (λ well y i. absurd i)

  pub stored-marking : (k i : ℕ) (x : Option Name) → w ≡ left_with v (stored_in v.heap k i x).heap → KeepsMarks v w → (IsMarkingWell v → IsPastIfAny v x) → KeepsMarking v w
  stored-marking k i x e marks past =
      marking-kept v w (option_to_list x) (subst (LeadsBut (option_to_list x) v.heap) (sym (ap (λ (u : Keyed). u.heap) e)) (leads-stored v.heap k i x)) marks past

  pub moved-marking : (k i m j : ℕ) → IsWellFormed v.heap → w.heap ≡ (moved_in v.heap k i m j).heap →
      marks_of w ≡ option_map (exposed_marks v.heap (slot_held v.heap m j)) (marks_of v) → MarksGoOn v w → KeepsMarking v w
  moved-marking k i m j well e marks on =
      let x = slot_held v.heap m j in
      marking-led v w x (λ listed. marks) on (option_to_list x) (subst (LeadsBut (option_to_list x) v.heap) (sym e) (leads-moved v.heap well k i m j)) (λ its y n. inl n)

  -- Exposures

  module _ (x : Option Name) (marks : marks_of w ≡ option_map (exposed_marks v.heap x) (marks_of v)) (on : MarksGoOn v w) (well : IsWellFormed v.heap) where
    pub exposed-marking : w.heap ≡ exposed v.heap x → KeepsMarking v w
    exposed-marking e = marking-led v w x (λ listed. marks) on [] (subst (LeadsBut [] v.heap) (sym e) (leads-exposed [] v.heap x well)) (λ its y i. absurd i)

    pub exposed-is_past : IsMarkingWell v → IsPastIfAny w x
    exposed-is_past = exposed-past v w x (λ listed. marks) on

    pub held_script-marking : (r : ℕ) → w.heap ≡ hold_script v.heap r x → KeepsMarking v w
    held_script-marking r e =
        marking-led v w x (λ listed. marks) on (option_to_list x) (subst (LeadsBut (option_to_list x) v.heap) (sym e) (leads-hold_script v.heap r x well)) (λ its y i. inl i)

  -- a native wrapped, or not for want of memory
  pub wrapped-marking : {A E : Type 0} (r : Result A E) (k : ℕ) → IsWellFormed v.heap → OnOk r (w.heap ≡ wrapped v.heap (Some (native k))) → OnErr r (w ≡ v) →
      (AreListed v → OnOk r (marks_of w ≡ option_map (exposed_marks v.heap (Some (reflector k))) (marks_of v))) → MarksGoOn v w → KeepsMarking v w
  wrapped-marking (Ok a) k well e same marks on =
      marking-led v w (Some (reflector k)) marks on [] (subst (LeadsBut [] v.heap) (sym e) (leads-wrapped v.heap k well)) (λ its y i. absurd i)
  wrapped-marking (Err a) k well e same marks on = marking-same v w same

  -- Script objects

  pub made_object-marking : (r : ℕ) (kind : Kind) (n : ℕ) → IsWellFormed v.heap → w.heap ≡ make_object v.heap r kind n None → KeepsMarks v w → KeepsMarking v w
  made_object-marking r kind n well e k =
      marking-kept v w [] (subst (LeadsBut [] v.heap) (sym e) (leads-make_object v.heap r kind n well)) k (λ its y i. absurd i)

  pub made_proxy-marking : (r : ℕ) (x : Option Name) → IsWellFormed v.heap → w.heap ≡ make_proxy v.heap r x → KeepsMarks v w → (IsMarkingWell v → IsPastIfAny v x) → KeepsMarking v w
  made_proxy-marking r x well e k past =
      marking-kept v w (option_to_list x) (subst (LeadsBut (option_to_list x) v.heap) (sym e) (leads-make_proxy v.heap r x well)) k past

  pub preserved-marking : (x : Option Name) → w ≡ changed_to v (preserve v.heap x) → (IsMarkingWell v → IsPastIfAny v x) → KeepsMarking v w
  preserved-marking x e past =
      marking-kept v w (option_to_list x) (subst (LeadsBut (option_to_list x) v.heap) (sym (ap (λ (u : Keyed). u.heap) e)) (leads-preserve v.heap x))
      (marks-stay-changed v w (preserve v.heap x) e) past

  pub slot-marking : (x : Option Name) (i : ℕ) (y : Option Name) → w.heap ≡ set_slot v.heap x i y → KeepsMarks v w → (IsMarkingWell v → IsPastIfAny v y) → KeepsMarking v w
  slot-marking x i y e k past = marking-kept v w (option_to_list y) (subst (LeadsBut (option_to_list y) v.heap) (sym e) (leads-slot v.heap x i y)) k past

  pub entry-marking : (m k x : Option Name) → w.heap ≡ set_entry v.heap m k x → KeepsMarks v w → (IsMarkingWell v → IsPastIfAny v k) → KeepsMarking v w
  entry-marking m k x e marks past = marking-kept v w (option_to_list k) (subst (LeadsBut (option_to_list k) v.heap) (sym e) (leads-entry v.heap m k x)) marks past

  pub unset-marking : (m k : Option Name) → w.heap ≡ set_entry v.heap m k None → KeepsMarks v w → KeepsMarking v w
  unset-marking m k e marks = marking-kept v w [] (subst (LeadsBut [] v.heap) (sym e) (leads-unset v.heap m k)) marks (λ its y i. absurd i)
