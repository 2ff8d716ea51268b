-- Names of script objects are none of natives'.
use Rattle.std.proofs.Common.{arith, ◌≡◌, ℕ, true, false, subst, ◌≤◌, ◌∙◌, ap, count_by, Some, option_and_then, ⊎_elim}
use Rattle.std.proofs.Math.Path.{fun_ext}
use Rattle.cc_lists.specs.Members.{Among}
use Rattle.cc_lists.proofs.Members.{Among-map_cases}
use Rattle.cc_lists.proofs.Counting.{count_by-map}
use Rattle.cc_lists.proofs.Searching.{find-only}
use Rattle.cc_names.specs.declared.name.Name.{Name}
use Rattle.cc_names.specs.declared.kind.Kind.{Kind}
use Rattle.cc_names.specs.Names.{native, same_name, is_script}
use Rattle.cc_names.proofs.NameTests.{same_name-refl}
use Rattle.cc_model.proofs.Places.{script_place-cases}
use Rattle.cc_model.specs.Places.{script_places_of}
use Rattle.cc_model.specs.Slots.{Slots, contents}
use Rattle.cc_model.specs.Entries.{Entry}
use Rattle.cc_model.specs.Heap.{Heap, HeapScript, delegate_at, script_at}
use Rattle.cc_model.specs.WellFormed.{IsWellFormed, FitsName, script_names}
use Rattle.cc_laws_heap.proofs.NameLists.{same_name-sym}

-- a name that fits a script object is that of no native
fits-named : (x : Name) (kind : Kind) (slots : Slots) → FitsName x kind slots → is_script x ≡ true
fits-named x kind slots f = grind arith

-- so is that of a script object that is there
pub script-named : (h : Heap) → IsWellFormed h → (o : HeapScript) → Among o h.scripts → is_script o.name ≡ true
script-named h w o m = fits-named o.name o.kind o.slots (w.kinds o m)

-- the same of the names of script objects
pub script_names-named : (h : Heap) → IsWellFormed h → (x : Name) → Among x (script_names h) → is_script x ≡ true
script_names-named h w x m = grind (arith, Among-map_cases, script-named)

-- the map and the key of an entry are none of natives
pub entry-named : (h : Heap) → IsWellFormed h → (e : Entry) → Among e h.entries → (is_script e.the_map ≡ true) × (is_script e.key ≡ true)
entry-named h w e m =
    let k = w.entries e m in
    (subst (λ x. is_script x ≡ true) k.the_map.2 (script-named h w k.the_map.0 k.the_map.1), script_names-named h w e.key k.key)

-- the delegate of an entry is there,
pub delegate-there : (h : Heap) → IsWellFormed h → (e : Entry) (d : Name) → Among e h.entries → e.delegate ≡ Some d → Among d (script_names h)
delegate-there h w e d m is =
    let k = w.entries e m in
    let f = Among-map_cases (λ (o : HeapScript). o.name) h.scripts e.key k.key in
    w.delegate_there f.0 d f.1 (k.delegate f.0 f.1 f.2 ∙ is)

-- so it is none of a native
pub delegate-named : (h : Heap) → IsWellFormed h → (e : Entry) (d : Name) → Among e h.entries → e.delegate ≡ Some d → is_script d ≡ true
delegate-named h w e d m is = script_names-named h w d (delegate-there h w e d m is)

-- and they are told apart from those of natives
pub script-other : (x : Name) (k : ℕ) → is_script x ≡ true → same_name x (native k) ≡ false
script-other x k e = grind arith

-- at most one script object has a name
pub scripts-once : (h : Heap) → IsWellFormed h → (x : Name) → count_by (λ (o : HeapScript). same_name o.name x) h.scripts ≤ 1
scripts-once h w x = subst (λ n. n ≤ 1)
    (count_by-map (same_name x) (λ (o : HeapScript). o.name) h.scripts ∙ ap (λ p. count_by p h.scripts) (fun_ext (λ o. same_name-sym x o.name)))
    (w.distinct x)

-- a script object is found under its name,
pub script_at-member : (h : Heap) → IsWellFormed h → (o : HeapScript) → Among o h.scripts → script_at h o.name ≡ Some o
script_at-member h w o m = find-only (λ (p : HeapScript). same_name p.name o.name) h.scripts o (scripts-once h w o.name) m (same_name-refl o.name)

-- and its delegate with it
pub delegate_at-found : (h : Heap) → IsWellFormed h → (o : HeapScript) → Among o h.scripts → delegate_at h o.name ≡ o.delegate
delegate_at-found h w o m = ap (λ p. option_and_then (λ (q : HeapScript). q.delegate) p) (script_at-member h w o m)

-- what a place of a script object holds is there
pub place-there : (h : Heap) → IsWellFormed h → (o : HeapScript) → Among o h.scripts → (x : Name) → Among x (contents (script_places_of o)) → Among x (script_names h)
place-there h w o m x i = ⊎_elim (λ s. w.script_contents o x m s) (λ e. w.delegate_there o x m e) (script_place-cases o x i)
