-- WHAT IS GRAY BY NAME: the one object of that name is.
use Rattle.cc_laws_heap.proofs.Face.{scripts-once}
use Rattle.std.proofs.Common.{◌≡◌, Bool, true, List, sym, ◌∙◌, ap}
use Rattle.std.specs.List.{find, filter}
use Rattle.cc_lists.specs.Members.{Among}
use Rattle.cc_lists.proofs.Members.{Among-map, Among-filter, Among-filtered, Among-passes}
use Rattle.cc_lists.proofs.Filtering.{find-among, find-passes}
use Rattle.cc_lists.proofs.ListWrites.{only-member}
use Rattle.cc_lists.proofs.Held.{is_some-found}
use Rattle.cc_names.specs.Names.{same_name}
use Rattle.cc_names.proofs.NameTests.{same_name-refl}
use Rattle.cc_model.specs.Heap.{Heap, HeapScript, is_gray_colour, is_gray_in}
use Rattle.cc_model.specs.WellFormed.{IsWellFormed}
use Rattle.cc_laws_snapshot.proofs.Face.{gray-tested}
use Rattle.cc_heaps.proofs.Reaching.{same-tests}

pub gray-named : (h : Heap) (o : HeapScript) → IsWellFormed h → Among o h.scripts → is_gray_in h o.name ≡ is_gray_colour o.colour
gray-named h o w m = same-tests (is_gray_in h o.name) (is_gray_colour o.colour) own
    (λ e. gray-tested h o.name (Among-map (λ (p : HeapScript). p.name) o (filter gray h.scripts) (Among-filter gray o h.scripts m e)))
  where
    gray : HeapScript → Bool
    gray p = is_gray_colour p.colour

    of_name : List HeapScript
    of_name = filter (λ p. same_name p.name o.name) h.scripts

    own : is_gray_in h o.name ≡ true → gray o ≡ true
    own e =
        let f = is_some-found (find gray of_name) e in
        let i : Among f.0 of_name = find-among gray of_name f.0 f.1 in
        let same : f.0 ≡ o = only-member (λ p. same_name p.name o.name) h.scripts f.0 o (scripts-once h w o.name)
        (Among-filtered (λ p. same_name p.name o.name) f.0 h.scripts i) (Among-passes (λ p. same_name p.name o.name) f.0 h.scripts i) m (same_name-refl o.name) in
        ap gray (sym same) ∙ find-passes gray of_name f.0 f.1
