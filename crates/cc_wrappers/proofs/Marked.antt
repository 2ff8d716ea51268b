-- WHAT IS BLACK BY THE NEW MARK IS EXPOSED without a change of the new marks: what was exposed before, and a reflector that is made.
use Rattle.std.proofs.Common.{◌≡◌, Bool, false, cond, not, List, [], ◌∷◌, Option, Some, None, option_map, refl, sym, ◌∙◌, ap, subst, inl}
use Rattle.std.specs.List.{filter}
use Rattle.cc_lists.specs.Members.{Among, has}
use Rattle.cc_lists.specs.Least.{system, closure}
use Rattle.cc_lists.proofs.Members.{Among-filtered, Among-map_cases, has-among}
use Rattle.cc_lists.proofs.CountsOf.{false-left}
use Rattle.cc_lists.proofs.Filtering.{filter-each}
use Rattle.cc_lists.proofs.Least.{derived-within}
use Rattle.cc_lists.proofs.Closure.{closure-decides}
use Rattle.cc_names.specs.declared.name.Name.{Name}
use Rattle.cc_names.specs.declared.kind.Colour.TheVariants.{Black}
use Rattle.cc_names.specs.Names.{same_name}
use Rattle.cc_names.proofs.NameTests.{same_name-exact}
use Rattle.cc_model.specs.Exposure.{slots_of_scripts}
use Rattle.cc_model.specs.Heap.{Heap}
use Rattle.cc_model.specs.Marking.{NewMarks, blackened_by_mark, edges_unblack, exposed_marks, without_all}
use Rattle.cc_model.specs.WellFormed.{script_names}
use Rattle.cc_laws_heap.proofs.Raising.{exposed-not_unblack}
use Rattle.cc_script.specs.Objects.{Object, is_below}
use Rattle.cc_heaps.specs.Keyed.{Keyed, named_objects}
use Rattle.cc_heaps.specs.NewMarks.{marks_of, new_marks_in}
use Rattle.cc_heaps.specs.ToScan.{ToScan}
use Rattle.cc_heaps.proofs.Keys.{object-name}

-- rules without roots give nothing
unrooted : (edges : List (Name × Name)) (x : Name) → has same_name (closure same_name (system [] edges [])) x ≡ false
unrooted edges x = false-left (has same_name (closure same_name (system [] edges [])) x)
    (λ e. derived-within [] edges [] (λ y. ⊥) (λ y m. m) (λ y z m n. n) (λ ps y m n. m) x
    ((closure-decides same_name same_name-exact (system [] edges []) x).0 e))

blackened-none : (names : List Name) → ((x : Name) → has same_name names x ≡ false) → (m : NewMarks) → blackened_by_mark m names ≡ m
blackened-none names none m = λ i. record m { unmarked = left m.unmarked i; unblack = left m.unblack i; gray_list = left m.gray_list i }
  where
    left : (xs : List Name) → without_all names xs ≡ xs
    left xs = filter-each (λ x. not (has same_name names x)) xs (λ x m. ap not (none x))

-- WHAT IS BLACK BY THE NEW MARK, or is no script object,
pub exposed-black : (h : Heap) (x : Name) (m : NewMarks) → ¬ (Among x m.unblack) → exposed_marks h (Some x) m ≡ m
unfolding exposed_marks
exposed-black h x m black =
    ap (λ (b : Bool). blackened_by_mark m (closure same_name (system (cond b (x ∷ []) []) (edges_unblack m (slots_of_scripts h)) [])))
    (false-left (has same_name m.unblack x) (λ e. black (has-among same_name same_name-exact m.unblack x e)))
    ∙ blackened-none (closure same_name (system [] (edges_unblack m (slots_of_scripts h)) [])) (unrooted (edges_unblack m (slots_of_scripts h))) m

-- what was exposed before,
pub exposed-again : (h g : Heap) (x : Name) (o : Option NewMarks) →
    option_map (exposed_marks g (Some x)) (option_map (exposed_marks h (Some x)) o) ≡ option_map (exposed_marks h (Some x)) o
exposed-again h g x None = refl
exposed-again h g x (Some m) = ap (λ n. Some n) (exposed-black g x (exposed_marks h (Some x) m) (exposed-not_unblack h (Some x) m x (inl refl)))

-- and what is not there
pub exposed-absent : (v : Keyed) → v.heap.scripts ≡ named_objects v.scripts → (h : Heap) (x : Name) → ¬ (Among x (script_names v.heap)) →
    marks_of v ≡ option_map (exposed_marks h (Some x)) (marks_of v)
exposed-absent v named h x absent = go v.marking
  where
    unmarked : (t : ToScan) → ¬ (Among x (new_marks_in v.scripts t).unblack)
    unmarked t i =
        let f = Among-map_cases (λ (o : Object). o.name) (filter (λ (o : Object). is_below o.new_mark Black) v.scripts) x i in
        absent (subst (λ y. Among y (script_names v.heap)) f.2
        (object-name v.heap v.scripts named f.0 (Among-filtered (λ (o : Object). is_below o.new_mark Black) f.0 v.scripts f.1)))

    go : (t : Option ToScan) → option_map (new_marks_in v.scripts) t ≡ option_map (exposed_marks h (Some x)) (option_map (new_marks_in v.scripts) t)
    go None = refl
    go (Some t) = ap (λ m. Some m) (sym (exposed-black h x (new_marks_in v.scripts t) (unmarked t)))
