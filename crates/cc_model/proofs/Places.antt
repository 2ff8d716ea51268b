-- THE EDGES OF AN OBJECT, place by place: those of its slots, and behind them those of its further places.
use Rattle.std.proofs.Common.{arith, ◌≡◌, ◌+◌, Bool, true, false, List, [], ◌∷◌, ◌++◌, map, count_by, Option, Some, None, refl, sym, ◌∙◌, ap, subst, inl, inr, ◌⊎◌, ⊎_elim}
use Rattle.std.specs.Option.{option_to_list}
use Rattle.std.proofs.lemmas.Grind.{flat_map-append}
use Rattle.std.proofs.lemmas.List.{map-append}
use Rattle.cc_lists.specs.Members.{Among}
use Rattle.cc_lists.proofs.Members.{Among-left, Among-right, Among-append}
use Rattle.cc_lists.proofs.Counting.{count_by-append}
use Rattle.cc_names.specs.declared.name.Name.{Name}
use Rattle.cc_names.specs.declared.name.Name.TheVariants as name
use Rattle.cc_names.specs.Names.{native, reflector, behind}
use Rattle.cc_names.specs.Places.{where_set}
use Rattle.cc_model.specs.Slots.{Slots, contents, from_to}
use Rattle.cc_model.specs.Checks.{native_of}
use Rattle.cc_model.specs.Heap.{HeapNative, HeapScript}
use Rattle.cc_model.specs.Places.{places_of_native, places_of_script, script_places_of}
use Rattle.cc_model.specs.View.{slot_edges, native_edges, script_slot_edges, script_edges}

-- where edges lead to
abbrev pub targets : List (Name × Name) → List Name
targets edges = map (λ e. e.1) edges

-- edges to some names lead to these
pub targets-from : (x : Name) (ys : List Name) → targets (map (from_to x) ys) ≡ ys
targets-from x [] = refl
targets-from x (y ∷ ys) = ap (λ zs. y ∷ zs) (targets-from x ys)

-- WHERE THE EDGES OF A NATIVE LEAD TO is what its places hold,
pub targets-native : (n : HeapNative) → targets (native_edges n) ≡ contents (places_of_native n)
targets-native n = targets-from (native n.number) (contents (places_of_native n))

-- and so it is with a script object.
pub targets-script : (o : HeapScript) → targets (script_edges o) ≡ contents (places_of_script o)
targets-script o = targets-from o.name (contents (places_of_script o))

-- what slots hold, and what one more place holds
pub contents-last : (slots : Slots) (last : Option Name) → contents (slots ++ last ∷ []) ≡ contents slots ++ option_to_list last
contents-last slots last = grind (arith, flat_map-append)

-- the edges of slots, and that of one more place
slot_edges-last : (x : Name) (slots : Slots) (last : Option Name) → slot_edges x (slots ++ last ∷ []) ≡ slot_edges x slots ++ map (from_to x) (option_to_list last)
slot_edges-last x slots last = ap (map (from_to x)) (contents-last slots last) ∙ map-append (from_to x) (contents slots) (option_to_list last)

-- the edge of a native to its preserved reflector
abbrev pub preserved_edge : HeapNative → List (Name × Name)
preserved_edge n = elim n.preserved [ true ↦ from_to (native n.number) (reflector n.number) ∷ [] | false ↦ [] ]

-- THE EDGES OF A NATIVE are those of its slots, and that to its preserved reflector.
pub native_edges-split : (n : HeapNative) → native_edges n ≡ slot_edges (native n.number) n.slots ++ preserved_edge n
native_edges-split n = slot_edges-last (native n.number) n.slots (where_set n.preserved (Some (reflector n.number)))
    ∙ ap (λ es. slot_edges (native n.number) n.slots ++ es) (by_flag n.preserved)
  where
    edge : Name × Name
    edge = from_to (native n.number) (reflector n.number)

    by_flag : (b : Bool) → map (from_to (native n.number)) (option_to_list (where_set b (Some (reflector n.number)))) ≡ elim b [ true ↦ edge ∷ [] | false ↦ [] ]
    by_flag true = refl
    by_flag false = refl

pub native_edges-count : (p : Name × Name → Bool) (n : HeapNative) →
    count_by p (native_edges n) ≡ count_by p (slot_edges (native n.number) n.slots) + count_by p (preserved_edge n)
native_edges-count p n = ap (count_by p) (native_edges-split n) ∙ count_by-append p (slot_edges (native n.number) n.slots) (preserved_edge n)

-- the edge of a reflector to its native
abbrev pub behind_edges : Name → List (Name × Name)
behind_edges x = map (λ k. from_to x (native k)) (behind x)

-- THE EDGES OF A SCRIPT OBJECT are those over which script and marking go, and that of a reflector to its native.
pub script_edges-split : (o : HeapScript) → script_edges o ≡ script_slot_edges o ++ behind_edges o.name
script_edges-split o = slot_edges-last o.name (script_places_of o) (native_of (Some o.name)) ∙ ap (λ es. script_slot_edges o ++ es) (by_name o.name o.name)
  where
    by_name : (x y : Name) → map (from_to x) (option_to_list (native_of (Some y))) ≡ map (λ k. from_to x (native k)) (behind y)
    by_name x (name.Native k) = refl
    by_name x (name.Script k) = refl
    by_name x (name.Reflector k) = refl

pub script_edges-count : (p : Name × Name → Bool) (o : HeapScript) →
    count_by p (script_edges o) ≡ count_by p (script_slot_edges o) + count_by p (behind_edges o.name)
script_edges-count p o = ap (count_by p) (script_edges-split o) ∙ count_by-append p (script_slot_edges o) (behind_edges o.name)

-- The places over which script and marking go, one by one: what a slot holds stands in one,
pub slot-place : (o : HeapScript) (x : Name) → Among x (contents o.slots) → Among x (contents (script_places_of o))
slot-place o x m = subst (Among x) (sym (contents-last o.slots o.delegate)) (Among-left x (contents o.slots) (option_to_list o.delegate) m)

-- and so does the delegate,
pub delegate-place : (o : HeapScript) (d : Name) → o.delegate ≡ Some d → Among d (contents (script_places_of o))
delegate-place o d e = subst (Among d) (sym (contents-last o.slots o.delegate))
    (Among-right d (contents o.slots) (option_to_list o.delegate) (subst (λ x. Among d (option_to_list x)) (sym e) (inl refl)))

-- and nothing else.
pub script_place-cases : (o : HeapScript) (x : Name) → Among x (contents (script_places_of o)) → Among x (contents o.slots) ⊎ (o.delegate ≡ Some x)
script_place-cases o x m = ⊎_elim (λ l. inl l) (λ r. inr (only o.delegate r))
    (Among-append x (contents o.slots) (option_to_list o.delegate) (subst (Among x) (contents-last o.slots o.delegate) m))
  where
    only : (d : Option Name) → Among x (option_to_list d) → d ≡ Some x
    only None n = absurd n
    only (Some y) n = ⊎_elim (λ e. ap Some e) (λ k. absurd k) n
