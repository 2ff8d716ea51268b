-- A SCRIPT COLLECTION TELLS WHAT LEAVES, and nothing besides.
use Rattle.std.proofs.Common.{◌≡◌, List, [], length, length-append, sym, ◌∙◌, ap, arith}
use Rattle.std.specs.List.{filter}
use Rattle.std.proofs.lemmas.List.{length-map}
use Rattle.std.proofs.lemmas.List.Elements.{filter-append}
use Rattle.cc_lists.proofs.CountsOf.{count_by-agree}
use Rattle.cc_names.specs.declared.name.Name.{Name}
use Rattle.cc_names.specs.Names.{native, same_name}
use Rattle.cc_names.proofs.NameTests.{same_name-exact}
use Rattle.cc_model.specs.declared.item.Event.TheVariants.{Freed}
use Rattle.cc_model.specs.Heap.{Heap, Outcome}
use Rattle.cc_model.specs.WellFormed.{native_names, script_names, names_there}
use Rattle.cc_model.specs.Sweep.{collect_scripts}
use Rattle.cc_laws_heap.specs.Sound.{IsSound}
use Rattle.cc_laws_heap.specs.Rounds.{is_not_among, FreesNames}
use Rattle.cc_laws_heap.proofs.NameLists.{same_name-sym}
use Rattle.cc_laws_heap.proofs.CollectedColours.{collect_scripts-sound, collect_scripts-frees}
use Rattle.cc_laws_told.proofs.Counted.{length-filter_le, taken-few}
use Rattle.cc_laws_told.proofs.Few.{IsFew}

-- what is freed and told alone
pub freed-tells : (h : Heap) (xs : List Name) (o : Outcome) → FreesNames h xs o → IsSound [] o.heap → IsFew 0 h o.events o.heap
freed-tells h xs o f s = record {
  told = omega (
    arith,
    all,
    natives_left,
    scripts_left,
    taken-few same_name same_name-exact xs (names_there h) (λ x. omega (arith, f.once x, count_by-agree (λ y. same_name y x) (same_name x) xs (λ y m. same_name-sym y x))) f.were_there,
    ap length (filter-append (is_not_among xs) (native_names h) (script_names h)),
    length-append (filter (is_not_among xs) (native_names h)) (filter (is_not_among xs) (script_names h)),
    length-append (native_names h) (script_names h),
    length-map h.natives (λ n. native n.number),
    length-map h.scripts (λ o. o.name),
  );
  natives = omega (arith, natives_left, length-filter_le (is_not_among xs) (native_names h), length-map h.natives (λ n. native n.number));
  scripts = omega (arith, scripts_left, length-filter_le (is_not_among xs) (script_names h), length-map h.scripts (λ o. o.name));
  sound = s;
}
  where
    all : length o.events ≡ length xs
    all = ap length f.told ∙ length-map xs Freed

    natives_left : length o.heap.natives ≡ length (filter (is_not_among xs) (native_names h))
    natives_left = sym (length-map o.heap.natives (λ n. native n.number)) ∙ ap length f.natives

    scripts_left : length o.heap.scripts ≡ length (filter (is_not_among xs) (script_names h))
    scripts_left = sym (length-map o.heap.scripts (λ o. o.name)) ∙ ap length f.scripts

-- A SCRIPT COLLECTION TELLS FEW ITEMS.
pub collect_scripts-tells : (h : Heap) → IsSound [] h → IsFew 0 h (collect_scripts h).events (collect_scripts h).heap
collect_scripts-tells h s = let f = collect_scripts-frees h s in freed-tells h f.0 (collect_scripts h) f.1 (collect_scripts-sound h s)
