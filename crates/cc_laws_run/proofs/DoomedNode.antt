-- THE UNIT OF A NODE KEEPS NAMES DOOMED: it notes references that are there, and nodes stay nodes.
use Rattle.std.proofs.Common.{◌≡◌, List, [], map, Option, Some, None, option_map, refl, sym, subst, inl, inr, ◌⊎◌, ⊎_elim}
use Rattle.std.specs.List.{filter}
use Rattle.cc_lists.specs.Members.{Among}
use Rattle.cc_lists.specs.Least.{Least, system}
use Rattle.cc_lists.proofs.Members.{Among-map_cases, Among-append, Among-filtered}
use Rattle.cc_lists.proofs.Least.{derive-root, derive-along, derived-within}
use Rattle.cc_names.specs.declared.name.Name.{Name}
use Rattle.cc_names.specs.Names.{same_name}
use Rattle.cc_names.proofs.NameTests.{same_name-exact}
use Rattle.cc_model.specs.Slots.{from_to}
use Rattle.cc_model.specs.Heap.{Heap}
use Rattle.cc_model.specs.View.{View, view}
use Rattle.cc_model.specs.WellFormed.{IsWellFormed}
use Rattle.cc_model.specs.Snapshot.{gone, traversed, Snapshot, node_names}
use Rattle.cc_model.specs.Units.{edges_in, is_noted, to_note, sample, with_state, noted, passed_over, after_node}
use Rattle.cc_lists.proofs.OnceEach.{with_all_last-keeps}
use Rattle.cc_laws_snapshot.proofs.OwnEdges.{edges_in-targets, HasTargets-edge}
use Rattle.cc_model.proofs.UnitsEnd.{names-with_state}
use Rattle.cc_laws_snapshot.proofs.NodeLists.{names_of, names-with_nodes}
use Rattle.cc_laws_run.specs.Doomed.{IsDoomed}

-- what is covered from some nodes is covered from more
covered-more : (edges : List (Name × Name)) (xs ys : List Name) → ((x : Name) → Among x xs → Among x ys) → (x : Name) →
    Least (system xs edges []) x → Least (system ys edges []) x
covered-more edges xs ys more = derived-within xs edges [] (Least (system ys edges []))
    (λ x m. derive-root ys edges [] x (more x m))
    (λ x y e d. derive-along ys edges [] x y e d)
    (λ ps y e d. absurd e)

-- more nodes, and more references that are there, keep names doomed
pub doomed-more : (v : View) (s t : Snapshot) (ds : List Name) → IsDoomed v s ds → ((x : Name) → Among x (node_names s) → Among x (node_names t)) →
    ((x y : Name) → Among (x, y) t.references → Among (x, y) s.references ⊎ Among (x, y) v.edges) → t.mappings ≡ s.mappings → IsDoomed v t ds
doomed-more v s t ds d nodes references mappings = record {
  natives = d.natives;
  scripts = d.scripts;
  unregistered = d.unregistered;
  unbuffered = d.unbuffered;
  unmarked = d.unmarked;
  holder = d.holder;
  joint = d.joint;
  noted_held = λ x y m b. ⊎_elim (λ l. d.noted_held x y l b) (λ e. e) (references x y m);
  mapping_held = λ m i b. d.mapping_held m (subst (λ ms. Among m ms) mappings i) b;
  covered = λ x b. covered-more v.edges (node_names s) (node_names t) nodes x (d.covered x b);
}

-- what the unit of a node notes is what its object holds
noted-held : (h : Heap) (x : Name) (ys : List Name) → IsWellFormed h → to_note h x ≡ Some ys → (y : Name) → Among y ys → Among (x, y) (view h).edges
noted-held h x ys w e y m = go (edges_in h x) refl e
  where
    go : (o : Option (List Name)) → edges_in h x ≡ o → option_map (filter (is_noted h)) o ≡ Some ys → Among (x, y) (view h).edges
    go None f g = absurd (cc)
    go (Some ts) f g =
        let same : filter (is_noted h) ts ≡ ys = cc in
        HasTargets-edge h x ts (edges_in-targets h x ts w f) y (Among-filtered (is_noted h) y ts (subst (λ zs. Among y zs) (sym same) m))

-- THE UNIT OF A NODE KEEPS NAMES DOOMED.
pub after_node-doomed : (h : Heap) (s : Snapshot) (x : Name) (ds : List Name) → IsWellFormed h → IsDoomed (view h) s ds →
    IsDoomed (view h) (after_node h s x (to_note h x)) ds
after_node-doomed h s x ds w d = go (to_note h x) refl
  where
    go : (o : Option (List Name)) → to_note h x ≡ o → IsDoomed (view h) (after_node h s x o) ds
    go None e = doomed-more (view h) s (passed_over s) ds d
        (λ y m. subst (λ xs. Among y xs) (sym (names-with_state gone s.nodes)) m)
        (λ y z m. inl m) refl
    go (Some ys) e = doomed-more (view h) s (noted s x (traversed (sample h x)) ys) ds d
        (λ y m. subst (λ xs. Among y xs) (sym (names-with_nodes (with_state (traversed (sample h x)) s.nodes) ys))
        (with_all_last-keeps same_name same_name-exact (names_of (with_state (traversed (sample h x)) s.nodes)) ys y
        (subst (λ xs. Among y xs) (sym (names-with_state (traversed (sample h x)) s.nodes)) m)))
        (λ y z m. ⊎_elim (λ l. inl l)
        (λ r.
        let f = Among-map_cases (from_to x) ys (y, z) r in
        inr (subst (λ p. Among p (view h).edges) f.2 (noted-held h x ys w e f.0 f.1)))
        (Among-append (y, z) s.references (map (from_to x) ys) m)) refl
