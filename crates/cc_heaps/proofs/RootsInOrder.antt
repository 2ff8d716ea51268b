-- WHAT REGISTERS AND NATIVES HOLD, by keys and by names in the same order; and a marking that is begun from them.
use Rattle.std.proofs.Common.{◌≡◌, ℕ, true, cond, List, [], ◌∷◌, ◌++◌, map, length, Option, Some, None, option_map, refl, sym, ◌∙◌, ap, inl, inr, arith}
use Rattle.std.specs.Prelude.{IsTrue}
use Rattle.std.specs.List.{filter, flat_map}
use Rattle.std.specs.Option.{option_to_list}
use Rattle.std.proofs.Math.Path.{fun_ext}
use Rattle.std.proofs.lemmas.List.{map-append}
use Rattle.std.proofs.lemmas.Simd.{map-map}
use Rattle.cc_lists.specs.Members.{Among}
use Rattle.cc_lists.proofs.Filtering.{filter-each}
use Rattle.cc_lists.proofs.ListWrites.{each-map, map-kept}
use Rattle.cc_names.specs.declared.name.Name.{Name}
use Rattle.cc_names.specs.declared.name.Name.TheVariants as name
use Rattle.cc_names.specs.declared.number.SKey.{SKey}
use Rattle.cc_names.specs.declared.kind.Colour.{Colour}
use Rattle.cc_names.specs.declared.kind.Colour.TheVariants.{White, Gray, Black}
use Rattle.cc_names.specs.Names.{is_script}
use Rattle.cc_model.specs.Slots.{Slots, contents}
use Rattle.cc_model.specs.Heap.{HeapNative}
use Rattle.cc_model.specs.Colours.{scripts_held, scripts_held_by}
use Rattle.cc_model.specs.Marking.{begun_marks, each_raised}
use Rattle.cc_model.specs.WellFormed.{IsWellFormed, script_names}
use Rattle.cc_counted.specs.Owning.{HasKeys}
use Rattle.cc_laws_heap.proofs.NativesHold.{held-there}
use Rattle.cc_script.specs.Objects.{Object, is_below, is_there, name_at, with_new_mark}
use Rattle.cc_heaps.specs.declared.heaps.Heaps.TheInside.{Inside}
use Rattle.cc_heaps.specs.ToScan.{Lists, HasSameRoom, nothing_listed}
use Rattle.cc_heaps.specs.Keyed.{IsInOrder, named_object, the_name_at}
use Rattle.cc_heaps.specs.Named.{IsHeldThere, IsScriptLive, named_native, script_named}
use Rattle.cc_heaps.specs.Fields.{heap_of, keyed_of, IsLinked}
use Rattle.cc_heaps.specs.NewMarks.{IsGoingOn, IsRemarked, marks_held, names_below, new_marks_in, raised_to}
use Rattle.cc_heaps.specs.Roots.{keys_held, keys_in, keys_in_registers, references_in}
use Rattle.cc_heaps.proofs.BegunNew.{begun-each}
use Rattle.cc_heaps.proofs.Naming.{name_in}
use Rattle.cc_heaps.proofs.ObjectsKept.{keys-counted}
use Rattle.cc_heaps.proofs.Reaching.{the_name-there}
use Rattle.cc_heaps.proofs.ReferenceNames.{references-there, references-named}
use Rattle.cc_heaps.proofs.Remarked.{one_key-remarked, one_name-remarked, remarked-length, remarked-name, remarked-then, room-same}
use Rattle.cc_heaps.proofs.RootNames.{script-named}

-- registers that hold what is there hold the names of their keys
registers-in_order : (objects : List Object) (xs : List (Option SKey)) → ((x : Option SKey) → Among x xs → IsScriptLive objects x) →
    map (the_name_at objects) (keys_in_registers xs) ≡ contents (map (script_named objects) xs)
registers-in_order objects [] live = refl
registers-in_order objects (None ∷ xs) live = registers-in_order objects xs (λ x m. live x (inr m))
registers-in_order objects (Some key ∷ xs) live =
    ap (λ ys. the_name_at objects key.0 ∷ ys) (registers-in_order objects xs (λ x m. live x (inr m)))
    ∙ ap (λ o. option_to_list o ++ contents (map (script_named objects) xs)) (sym (the_name-there objects key.0 (live (Some key) (inl refl))))

module _ (p : Inside) (l : IsLinked p) where
  -- and so do places of natives, as far as these are script objects
  places-in_order : (ss : Slots) → ((x : Name) → Among x (contents ss) → IsHeldThere p.scripts x) →
      map (the_name_at p.scripts) (keys_in ss) ≡ filter is_script (contents (map (name_in p.scripts) ss))
  places-in_order [] there = refl
  places-in_order (None ∷ ss) there = places-in_order ss there
  places-in_order (Some (name.Native k) ∷ ss) there = places-in_order ss (λ x m. there x (inr m))
  places-in_order (Some (name.Script k) ∷ ss) there =
      let here : IsTrue (is_there p.scripts k.0) = there (name.Script k) (inl refl) in
      let named : name_at p.scripts k.0 ≡ Some (the_name_at p.scripts k.0) = the_name-there p.scripts k.0 here in
      let rest : List Name = contents (map (name_in p.scripts) ss) in
      ap (λ ys. the_name_at p.scripts k.0 ∷ ys) (places-in_order ss (λ x m. there x (inr m)))
      ∙ (sym (ap (λ b. cond b (the_name_at p.scripts k.0 ∷ filter is_script rest) (filter is_script rest)) (script-named p l k.0 (the_name_at p.scripts k.0) named))
      ∙ ap (λ o. filter is_script (option_to_list o ++ rest)) (sym named))
  places-in_order (Some (name.Reflector k) ∷ ss) there = absurd (there (name.Reflector k) (inl refl))

  module _ (keyed : HasKeys p.counted) (w : IsWellFormed (heap_of p)) where
    natives-in_order : (ns : List HeapNative) → ((n : HeapNative) → Among n ns → Among n p.counted.natives) →
        map (the_name_at p.scripts) (keys_held p.counted ns) ≡ flat_map scripts_held_by (map (named_native p.scripts) ns)
    natives-in_order [] of = refl
    natives-in_order (n ∷ ns) of =
        map-append (the_name_at p.scripts) (keys_in (references_in p.counted n)) (keys_held p.counted ns)
        ∙ ((λ i. first i ++ natives-in_order ns (λ m i. of m (inr i)) i))
      where
        first : map (the_name_at p.scripts) (keys_in (references_in p.counted n)) ≡ scripts_held_by (named_native p.scripts n)
        first = places-in_order (references_in p.counted n) (λ x m. references-there p l keyed n x (of n (inl refl)) m)
            ∙ ap (λ ss. filter is_script (contents ss)) (references-named p l keyed w n (of n (inl refl)))

-- No object has a new mark

whitened-below : (objects : List Object) (to : Colour) → is_below White to ≡ true → names_below to (map (with_new_mark White) objects) ≡ map (λ o. o.name) objects
whitened-below objects to e =
    ap (map (λ (o : Object). o.name)) (filter-each (λ (o : Object). is_below o.new_mark to) (map (with_new_mark White) objects)
    (each-map (λ (o : Object). is_below o.new_mark to ≡ true) (with_new_mark White) objects (λ o m. e)))
    ∙ map-kept (λ (o : Object). o.name) (with_new_mark White) objects (λ o. refl)

-- A MARKING IS BEGUN from them
module _ {owned : List ℕ} (p : Inside) (l : IsLinked p) (o : IsInOrder owned (keyed_of p)) (white : List Object) (first : Lists)
    (unmarked : white ≡ map (with_new_mark White) p.scripts) (begun : first.marking ≡ Some nothing_listed) where
  pub same-white : IsRemarked p.scripts white
  same-white = (λ o. White, unmarked)

  names-white : script_names (heap_of p) ≡ map (λ o. o.name) p.scripts
  names-white = map-map (λ o. o.name) (named_object p.scripts) p.scripts

  none-marked : marks_held white first ≡ Some (record { unmarked = script_names (heap_of p); unblack = script_names (heap_of p); black_list = []; gray_list = [] })
  none-marked =
      (λ i. option_map (new_marks_in (unmarked i)) (begun i))
      ∙ (λ i. Some (record {
        unmarked = (whitened-below p.scripts Gray refl ∙ sym names-white) i;
        unblack = (whitened-below p.scripts Black refl ∙ sym names-white) i;
        black_list = [];
        gray_list = [];
      }))

  -- nothing is listed, so all that is listed is well listed
  pub begun-going_on : HasSameRoom p.to_scan first → IsGoingOn white first
  begun-going_on room = record {
    one_key = one_key-remarked p.scripts white same-white l.one_key;
    one_name = one_name-remarked p.scripts white same-white l.one_name;
    room = room-same p.to_scan first (length p.scripts) (length white) room (remarked-length p.scripts white same-white) l.room;
    listed = (nothing_listed, begun, record { black = λ k m. absurd m; gray = λ k m. absurd m; black_once = λ k. omega arith; gray_once = λ k. omega arith });
  }

  module _ (roots : List ℕ) (from_registers : roots ≡ keys_in_registers p.script_registers.items) (held : List ℕ) (from_natives : held ≡ keys_held p.counted p.counted.natives)
      (blackened : List Object) (second : Lists) (done : List Object) (last : Lists) (same : IsRemarked white blackened)
      (blacks : marks_held blackened second ≡ option_map (λ m. each_raised (raised_to Black) m (map (the_name_at white) roots)) (marks_held white first))
      (grays : marks_held done last ≡ option_map (λ m. each_raised (raised_to Gray) m (map (the_name_at blackened) held)) (marks_held blackened second)) where
    names-same : (os : List Object) → IsRemarked p.scripts os → (keys : List ℕ) → map (the_name_at os) keys ≡ map (the_name_at p.scripts) keys
    names-same os s keys = ap (λ f. map f keys) (fun_ext (remarked-name p.scripts os s))

    root-names : map (the_name_at white) roots ≡ contents (heap_of p).script_registers
    root-names = names-same white same-white roots
        ∙ (ap (map (the_name_at p.scripts)) from_registers ∙ registers-in_order p.scripts p.script_registers.items l.script_registers)

    held-names : map (the_name_at blackened) held ≡ scripts_held (heap_of p)
    held-names = names-same blackened (remarked-then p.scripts white blackened same-white same) held
        ∙ (ap (map (the_name_at p.scripts)) from_natives
        ∙ natives-in_order p l (keys-counted owned p l o) o.sound.well_formed p.counted.natives (λ n m. m))

    pub begun-marked : marks_held done last ≡ Some (begun_marks (heap_of p))
    begun-marked = grays
        ∙ ((λ i. option_map (λ m. each_raised (raised_to Gray) m (held-names i)) (blacks i))
        ∙ ((λ i. option_map (λ m. each_raised (raised_to Gray) m (scripts_held (heap_of p))) (option_map (λ m. each_raised (raised_to Black) m (root-names i)) (none-marked i)))
        ∙ ap (λ m. Some m) (begun-each (heap_of p) (λ y m. o.sound.well_formed.script_registers y m) (held-there (heap_of p) o.sound.well_formed))))
