-- OBJECTS TAKEN OUT IN TURN are taken out together: what was told first is there no more, so nothing is told twice.
use Rattle.std.proofs.Common.{◌≡◌, List, [], ◌++◌, map, sym, ◌∙◌, ap, subst, ⊎_elim, arith}
use Rattle.std.specs.List.{filter}
use Rattle.std.proofs.lemmas.List.{map-append}
use Rattle.cc_lists.specs.Members.{Among}
use Rattle.cc_lists.proofs.Members.{Among-left, Among-right, Among-append}
use Rattle.cc_names.specs.declared.name.Name.{Name}
use Rattle.cc_model.specs.declared.item.Event.TheVariants.{Freed}
use Rattle.cc_model.specs.Heap.{Heap, Outcome, silently, after, HeapScript}
use Rattle.cc_model.specs.WellFormed.{native_names, script_names, names_there}
use Rattle.cc_laws_heap.specs.Rounds.{is_not_among, FreesNames}
use Rattle.cc_lists.proofs.Searching.{filter-true, filter-filter}
use Rattle.cc_laws_heap.proofs.NameLists.{names-once_append, is_not_among-append, left-apart}
use Rattle.cc_model.specs.Entries.{Entry}

-- two lists taken out in turn are taken out together
pub filter-not_among : {X : Type 0} (f : X → Name) (xs ys : List Name) (zs : List X) →
    filter (λ z. is_not_among ys (f z)) (filter (λ z. is_not_among xs (f z)) zs) ≡ filter (λ z. is_not_among (xs ++ ys) (f z)) zs
filter-not_among f xs ys zs = search (filter-filter, is_not_among-append)

-- where nothing was done nothing was taken out
pub FreesNames-silently : (h : Heap) → FreesNames h [] (silently h)
FreesNames-silently h = grind (arith, filter-true)

-- what is taken out of heaps with the same names, but for colours and entries, is taken out
pub FreesNames-alike : (h : Heap) (os : List HeapScript) (es : List Entry) (xs : List Name) (o : Outcome) → map (λ (s : HeapScript). s.name) os ≡ script_names h →
    FreesNames (record h { scripts = os; entries = es }) xs o → FreesNames h xs o
FreesNames-alike h os es xs o same f = grind arith

-- what is left was there before, and was not taken out
pub FreesNames-left : (h : Heap) (xs : List Name) (o : Outcome) → FreesNames h xs o → (x : Name) → Among x (names_there o.heap) →
    Among x (names_there h) × (¬ (Among x xs))
FreesNames-left h xs o f x m = ⊎_elim
    (λ l. let k = left-apart xs (native_names h) x (subst (Among x) f.natives l) in (Among-left x (native_names h) (script_names h) k.0, k.1))
    (λ r. let k = left-apart xs (script_names h) x (subst (Among x) f.scripts r) in (Among-right x (native_names h) (script_names h) k.0, k.1))
    (Among-append x (native_names o.heap) (script_names o.heap) m)

-- Objects taken out, and then others, are taken out together.
pub FreesNames-then : (h : Heap) (xs ys : List Name) (o p : Outcome) → FreesNames h xs o → FreesNames o.heap ys p →
    FreesNames h (xs ++ ys) (after o.events p)
FreesNames-then h xs ys o p f g = record {
  told = ap (λ es. es ++ p.events) f.told ∙ (ap (λ es. map Freed xs ++ es) g.told ∙ sym (map-append Freed xs ys));
  once = names-once_append xs ys f.once g.once (λ x m n. (FreesNames-left h xs o f x (g.were_there x n)).1 m);
  were_there = λ x m. ⊎_elim (f.were_there x) (λ r. (FreesNames-left h xs o f x (g.were_there x r)).0) (Among-append x xs ys m);
  natives = g.natives ∙ (ap (filter (is_not_among ys)) f.natives ∙ filter-not_among (λ x. x) xs ys (native_names h));
  scripts = g.scripts ∙ (ap (filter (is_not_among ys)) f.scripts ∙ filter-not_among (λ x. x) xs ys (script_names h));
  native_registers = g.native_registers ∙ f.native_registers;
  script_registers = g.script_registers ∙ f.script_registers;
  natives_made = g.natives_made ∙ f.natives_made;
  scripts_made = g.scripts_made ∙ f.scripts_made;
  limits = g.limits ∙ f.limits;
}
