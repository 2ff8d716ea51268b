-- AN EXPOSURE OF WHAT IS BLACK CHANGES NOTHING: all that it reaches over slots and delegates is black.
use Rattle.std.proofs.Common.{◌≡◌, ℕ, Bool, true, false, [], ◌∷◌, Option, Some, None, IfSome, option_map, if◌then◌else◌, refl, sym, ◌∙◌, ap, subst, inl, ⊎_elim}
use Rattle.std.specs.Option.{option_to_list}
use Rattle.cc_lists.specs.Members.{Among, has}
use Rattle.cc_lists.proofs.Members.{Among-map_cases, Among-flat_map_cases}
use Rattle.cc_lists.proofs.ListWrites.{map-unchanged}
use Rattle.cc_lists.proofs.Least.{derived-within}
use Rattle.cc_lists.proofs.Closure.{closure-decides}
use Rattle.cc_names.specs.declared.name.Name.{Name}
use Rattle.cc_names.specs.declared.kind.Colour.TheVariants.{Black}
use Rattle.cc_names.specs.declared.register.Reg.TheVariants.{S}
use Rattle.cc_names.specs.Names.{same_name}
use Rattle.cc_names.proofs.NameTests.{same_name-exact}
use Rattle.cc_model.specs.Slots.{contents, from_to}
use Rattle.cc_model.specs.Heap.{Heap, HeapScript, register}
use Rattle.cc_model.specs.Places.{script_places_of}
use Rattle.cc_model.specs.View.{script_slot_edges}
use Rattle.cc_model.specs.Marking.{NewMarks, exposed_marks}
use Rattle.cc_model.specs.Exposure.{as_black, exposed, exposed_names, exposure_rules, slots_of_scripts}
use Rattle.cc_laws_heap.proofs.Face.{IsColoured, IsHeldBlack, contents-at-of_writes as contents-at}
use Rattle.cc_heaps.specs.Keyed.{Keyed}
use Rattle.cc_heaps.specs.NewMarks.{marks_of}
use Rattle.cc_wrappers.proofs.Marked.{exposed-black}
use Rattle.cc_mutator.specs.Commands.{AreHeldMarked}

module _ (h : Heap) (c : IsColoured h) where
  -- script objects of this name are black
  abbrev AreBlack : Name → Type 0
  AreBlack y = (o : HeapScript) → Among o h.scripts → o.name ≡ y → o.colour ≡ Black

  -- what a black one has in a place is black
  black-along : (x y : Name) → Among (x, y) (slots_of_scripts h) → AreBlack x → AreBlack y
  black-along x y m black o i e =
      let q = Among-flat_map_cases script_slot_edges h.scripts (x, y) m in
      let f = Among-map_cases (from_to q.0.name) (contents (script_places_of q.0)) (x, y) q.2 in
      let holder : q.0.colour ≡ Black = black q.0 q.1 (ap (λ (p : Name × Name). p.0) f.2) in
      let content : f.0 ≡ o.name = ap (λ (p : Name × Name). p.1) f.2 ∙ sym e in
      c.black_to_black q.0 o q.1 i holder (subst (λ z. Among z (contents (script_places_of q.0))) content f.1)

  -- all that is reached from what is black is black
  reached-black : (x : Name) → AreBlack x → (y : Name) → has same_name (exposed_names h x) y ≡ true → AreBlack y
  reached-black x black y e =
      derived-within (x ∷ []) (slots_of_scripts h) [] AreBlack
      (λ z m. ⊎_elim (λ s. subst AreBlack s black) (λ t. absurd t) m)
      black-along
      (λ ps z m. absurd m)
      y ((closure-decides same_name same_name-exact (exposure_rules h x) y).0 e)

  -- AN EXPOSURE of what is black changes nothing.
  pub exposed-same : (x : Option Name) → IsHeldBlack h.scripts x → exposed h x ≡ h
  unfolding exposed
  exposed-same None black = refl
  exposed-same (Some x) black =
      ap (λ os. record h { scripts = os })
      (map-unchanged (λ o. if has same_name (exposed_names h x) o.name then as_black o else o) h.scripts
      (λ o m. left o m (has same_name (exposed_names h x) o.name) refl))
    where
      left : (o : HeapScript) → Among o h.scripts → (b : Bool) → has same_name (exposed_names h x) o.name ≡ b → (if b then as_black o else o) ≡ o
      left o m false e = refl
      left o m true e =
          let is : o.colour ≡ Black = reached-black x (λ p i s. black p i (inl (sym s))) o.name e o m refl in
          ap (λ colour. record o { colour = colour }) (sym is)

  -- what a register holds is black
  pub register-black : (r : ℕ) → IsHeldBlack h.scripts (register h (S r))
  register-black r = λ o m i. c.held_black o m (contents-at h.script_registers r o.name i)

-- AN EXPOSURE OF WHAT A REGISTER HOLDS changes no new mark, where registers hold what is black by the new mark.
pub register-marked : (v : Keyed) (r : ℕ) → AreHeldMarked v →
    option_map (exposed_marks v.heap (register v.heap (S r))) (marks_of v) ≡ option_map (exposed_marks v.heap None) (marks_of v)
unfolding exposed_marks
register-marked v r black = go (register v.heap (S r)) (marks_of v) (λ x i. contents-at v.heap.script_registers r x i) black
  where
    go : (x : Option Name) (o : Option NewMarks) → ((y : Name) → Among y (option_to_list x) → Among y (contents v.heap.script_registers)) →
        IfSome o (λ m. (y : Name) → Among y (contents v.heap.script_registers) → ¬ (Among y m.unblack)) →
        option_map (exposed_marks v.heap x) o ≡ option_map (exposed_marks v.heap None) o
    go None o holds b = refl
    go (Some x) None holds b = refl
    go (Some x) (Some m) holds b = ap (λ n. Some n) (exposed-black v.heap x m (b x (holds x (inl refl))))
