-- A REFLECTOR MADE: the script heap has one object more, the native has its key, and one reference more. The parts fit
-- together once all three are done.
use Rattle.cc_heaps.proofs.ReflectorLists.{reflectors-set, within-read}
use Rattle.std.proofs.Common.{arith, IsTrue, ◌≡◌, ◌≢◌, ℕ, ◌+◌, true, false, List, [], ◌∷◌, ◌++◌, length, set, Option, Some, None, is_some, option_map, refl, sym, ◌∙◌, ap, subst}
use Rattle.std.specs.Option.{option_or}
use Rattle.std.specs.List.{find}
use Rattle.std.proofs.lemmas.Bool.{eq-eqb, ne_eqb}
use Rattle.std.proofs.lemmas.List.{length-append}
use Rattle.std.proofs.lemmas.List.Folds.{find-append}
use Rattle.cc_lists.specs.Members.{Among}
use Rattle.cc_lists.proofs.ListWrites.{each-push}
use Rattle.cc_names.specs.declared.kind.Kind.TheVariants.{Reflector}
use Rattle.cc_names.specs.declared.number.NKey.{NKey}
use Rattle.cc_names.specs.Names.{native, reflector, same_name}
use Rattle.cc_model.specs.Slots.{reflector_slots}
use Rattle.cc_model.specs.Heap.{Heap, has_reflector}
use Rattle.cc_model.specs.Cascade.{add_ref}
use Rattle.cc_model.specs.Effects.{with_reflector, with_script}
use Rattle.cc_model.specs.WellFormed.{native_names}
use Rattle.cc_laws_heap.specs.Sound.{IsSound}
use Rattle.cc_laws_heap.proofs.Face.{has_reflector-none, with_reflector-sound}
use Rattle.cc_counted.specs.Counts.{Counts, number_or_none, with_heap}
use Rattle.cc_counted.specs.Counts as counts
use Rattle.cc_script.specs.Objects.{Object, is_there, name_at, reflector_object}
use Rattle.cc_heaps.specs.declared.heaps.Heaps.TheInside.{Inside}
use Rattle.cc_heaps.specs.ToScan.{HasRoom}
use Rattle.cc_heaps.specs.Marks.{KeepsMarks}
use Rattle.cc_heaps.specs.Keyed.{Keyed, IsInOrder, Reflects, key_of, named_objects, number_at, reflectors_by, the_number}
use Rattle.cc_heaps.specs.Changes.{KeepsKeys}
use Rattle.cc_heaps.specs.Fields.{heap_of, keyed_of, IsLinked}
use Rattle.cc_heaps.proofs.Calls.{Changes, changed-keyed, changed-linked, number-there, root-changes}
use Rattle.cc_heaps.proofs.Content.{number-some}
use Rattle.cc_heaps.proofs.Keys.{HasKeys-keyed, HasKeys-names, HasKeys-numbers, Reflects-kept, counts_in, find-unnamed, numbers-changed}
use Rattle.cc_heaps.proofs.Linked.{with_counted}
use Rattle.cc_heaps.proofs.MarksKept.{marks-made}
use Rattle.cc_heaps.proofs.ScriptCalls.{KeepsNames-made, key_of-made, name_at-made, named-made, one_key-made, whole-made}
use Rattle.cc_heaps.proofs.ScriptsChanged.{KeepsNames, named_entries-kept, entries_there-kept, heap-objects, linked-reflected, with_objects}

module _ {owned : List ℕ} (p : Inside) (l : IsLinked p) (o : IsInOrder owned (keyed_of p)) (key : NKey) (live : is_some (number_at (keyed_of p) key.0) ≡ true)
    (lacks : has_reflector (heap_of p) (the_number (keyed_of p) key.0) ≡ false) (places : HasRoom p.to_scan (length p.scripts + 1)) (at : ℕ) (vacant : is_there p.scripts at ≡ false) where
  abbrev v : Keyed
  v = keyed_of p

  abbrev k : ℕ
  k = the_number v key.0

  -- the native
  numbered : number_at v key.0 ≡ Some k
  numbered = number-some (number_at v key.0) live

  there : Among (native k) (native_names v.heap)
  there = number-there owned v key.0 o live

  -- the object that is made, and all objects then
  abbrev new : Object
  new = reflector_object at key.0 k

  abbrev pub objects : List Object
  objects = p.scripts ++ new ∷ []

  -- it has no delegate
  none : (q : ℕ) → new.delegate ≡ Some q → IsTrue (is_there p.scripts q)
  none q e = absurd (cc)

  named : named_objects objects ≡ (with_script v.heap (reflector k) Reflector reflector_slots None).scripts
  named = named-made p.scripts l.one_key o.whole new reflector_slots refl none vacant

  pub name_at-reflector : name_at objects at ≡ Some (reflector k)
  name_at-reflector = name_at-made p.scripts l.one_key o.whole new reflector_slots refl none vacant

  -- the heaps by names
  abbrev pub made : Heap
  made = with_reflector v.heap k

  sound : IsSound owned made
  sound = with_reflector-sound owned v.heap k there lacks o.sound

  -- Natives and their reflectors

  -- the native has the new one
  key_of-own : key_of objects (reflector k) ≡ Some at
  key_of-own =
      ap (option_map (λ (q : Object). q.key)) (find-append (λ (q : Object). same_name q.name (reflector k)) p.scripts (new ∷ [])
      ∙ ((λ i. option_or (find-unnamed v.heap p.scripts refl (reflector k) (has_reflector-none v.heap k lacks) i) (find (λ (q : Object). same_name q.name (reflector k)) (new ∷ [])))
      ∙ here))
    where
      here : find (λ (q : Object). same_name q.name (reflector k)) (new ∷ []) ≡ Some new
      here = rw (eq-eqb k k refl) refl

  -- another has what it had
  key_of-other : (j : ℕ) → j ≢ k → key_of objects (reflector j) ≡ key_of p.scripts (reflector j)
  key_of-other j other = key_of-made p.scripts l.one_key o.whole new reflector_slots refl none vacant (reflector j) (ne_eqb k j (λ e. other (sym e)))

  abbrev with_own : List (Option ℕ)
  with_own = set p.counted.reflectors key.0 (Some at)

  with_own-is : with_own ≡ reflectors_by objects p.counted.keys
  with_own-is = grind (arith, reflectors-set, within-read, key_of-own, key_of-other)

  -- The parts

  kept : KeepsNames p.scripts objects
  kept = KeepsNames-made p.scripts l.one_key o.whole new reflector_slots refl none vacant

  -- before the reference is taken
  abbrev pub reflected : Inside
  reflected = record (with_objects p objects p.scripts_made) { counted = counts.with_reflector p.counted key.0 (Some at) }

  linked : IsLinked reflected
  linked = linked-reflected p objects p.scripts_made kept l made (sym named) sound.well_formed
      (one_key-made p.scripts l.one_key o.whole new reflector_slots refl none vacant)
      (subst (HasRoom p.to_scan) (sym (length-append p.scripts (new ∷ []))) places) with_own with_own-is

  module _ (next : Counts) (is : next ≡ with_heap reflected.counted (add_ref (counts.heap_of reflected.counted) k)) where
    -- and after
    abbrev pub whole : Inside
    whole = with_counted reflected next

    taken : Changes reflected next (add_ref (counts.heap_of reflected.counted) k) (add_ref (heap_of reflected) k)
    taken = root-changes reflected linked k is

    -- THE PARTS FIT TOGETHER,
    pub reflector-linked : IsLinked whole
    reflector-linked = changed-linked taken

    -- they hold the heaps in which the reflector is made,
    pub reflector-keyed : keyed_of whole ≡ record v { heap = made; scripts = objects }
    reflector-keyed =
        changed-keyed taken
        ∙ ap (λ h. record v { heap = add_ref h k; scripts = objects })
        (heap-objects p objects p.scripts_made kept l o.entries_there ∙ ap (λ scripts. record v.heap { scripts = scripts }) named)

    -- what is there keeps its key,
    pub reflector-keys : KeepsKeys v (keyed_of whole)
    reflector-keys = subst (KeepsKeys v) (sym reflector-keyed) (record { natives = λ q j e m. e; scripts = λ q x e m. kept q x e })

    -- a marking in slices is left as it is,
    pub reflector-marks : KeepsMarks v (keyed_of whole)
    reflector-marks = marks-made v (keyed_of whole) new refl refl refl

    -- and they stay in order.
    pub reflector-order : IsInOrder owned (keyed_of whole)
    reflector-order = subst (IsInOrder owned) (sym reflector-keyed) (record {
      sound = sound;
      keyed = HasKeys-keyed (record v { scripts = objects }) made p.counted.keys
          (HasKeys-numbers (counts_in v.heap p.counted.keys) made.natives made.buffer []
          (numbers-changed v.heap k (λ n. record n { count = n.count + 1 }) (λ n. refl)) (HasKeys-names v o.keyed));
      named = sym named;
      one_key = one_key-made p.scripts l.one_key o.whole new reflector_slots refl none vacant;
      whole = whole-made p.scripts l.one_key o.whole new reflector_slots refl none vacant;
      reflecting = each-push (λ (q : Object). Reflects (record v { heap = made; scripts = objects }) q.name q.native) p.scripts new
          (λ q m. Reflects-kept v (record v { heap = made; scripts = objects }) q.name q.native (λ r j is e. e) (o.reflecting q m)) numbered;
      limits = o.limits;
      entries = sym (named_entries-kept p.scripts objects kept p.weak o.entries_there);
      entries_there = entries_there-kept p.scripts objects kept p.weak o.entries_there;
    })

-- the second parts are those in which the reflector of native k is made at a key
pub record IsReflectorMade (owned : List ℕ) (p q : Inside) (k at : ℕ) : Type 0 where
  pub heap : heap_of q ≡ with_reflector (heap_of p) k
  pub natives : (keyed_of q).keys ≡ p.counted.keys
  pub name : name_at q.scripts at ≡ Some (reflector k)
  pub keys : KeepsKeys (keyed_of p) (keyed_of q)
  pub marks : KeepsMarks (keyed_of p) (keyed_of q)
  pub order : IsInOrder owned (keyed_of q)
  pub linked : IsLinked q

-- A REFLECTOR MADE: what the three calls come to
module _ {owned : List ℕ} (p : Inside) (l : IsLinked p) (o : IsInOrder owned (keyed_of p)) (key : NKey) (live : is_some (number_at (keyed_of p) key.0) ≡ true)
    (lacks : has_reflector (heap_of p) (the_number (keyed_of p) key.0) ≡ false) (places : HasRoom p.to_scan (length p.scripts + 1)) (at : ℕ) (vacant : is_there p.scripts at ≡ false) where
  pub reflector-made : (number : ℕ) → Some number ≡ number_at (keyed_of p) key.0 →
      (os : List Object) → os ≡ p.scripts ++ reflector_object at key.0 number ∷ [] →
      (d : Counts) → d ≡ counts.with_reflector p.counted key.0 (Some at) →
      (next : Counts) → next ≡ with_heap d (add_ref (counts.heap_of d) (counts.the_number d key.0)) →
      IsReflectorMade owned p (record p { counted = next; scripts = os }) (the_number (keyed_of p) key.0) at
  reflector-made number e os f d told next is =
      subst (λ objects. IsReflectorMade owned p (record p { counted = next; scripts = objects }) (the_number (keyed_of p) key.0) at)
      (sym (f ∙ ap (λ n. p.scripts ++ reflector_object at key.0 n ∷ []) (ap number_or_none e))) (record {
        heap = ap (λ (w : Keyed). w.heap) (reflector-keyed p l o key live lacks places at vacant next same);
        natives = ap (λ (w : Keyed). w.keys) (reflector-keyed p l o key live lacks places at vacant next same);
        name = name_at-reflector p l o key live lacks places at vacant;
        keys = reflector-keys p l o key live lacks places at vacant next same;
        marks = reflector-marks p l o key live lacks places at vacant next same;
        order = reflector-order p l o key live lacks places at vacant next same;
        linked = reflector-linked p l o key live lacks places at vacant next same;
      })
    where
      same : next ≡ with_heap (counts.with_reflector p.counted key.0 (Some at)) (add_ref (counts.heap_of p.counted) (the_number (keyed_of p) key.0))
      same = is ∙ ap (λ c. with_heap c (add_ref (counts.heap_of c) (counts.the_number c key.0))) told
