-- SCRIPT OBJECTS WRITTEN: each keeps its key, its name, its kind, its native and its delegate. An exposure and a slot written, by names.
use Rattle.cc_lists.proofs.Held.{find-renamed}
use Rattle.std.proofs.Common.{arith, ◌≡◌, ℕ, ◌≤◌, Bool, true, false, List, [], ◌∷◌, map, Option, Some, refl, sym, ◌∙◌, ap, subst, ⊎_elim, ◌==◌, if◌then◌else◌}
use Rattle.std.specs.Prelude.{IsTrue}
use Rattle.std.specs.Option.{option_and_then}
use Rattle.std.proofs.Math.Path.{fun_ext}
use Rattle.std.proofs.lemmas.Bool.{eqb-true, eq-eqb}
use Rattle.std.proofs.lemmas.List.{map-set}
use Rattle.std.proofs.lemmas.Simd.{map-map}
use Rattle.cc_lists.specs.Members.{Among, has}
use Rattle.cc_lists.proofs.ListWrites.{each-map, count_by-kept_map, Among-set_cases, map-agree, changed_where, changed_where-either}
use Rattle.cc_names.specs.declared.name.Name.{Name}
use Rattle.cc_names.specs.declared.kind.Colour.TheVariants.{Black}
use Rattle.cc_names.specs.Names.{reflector, same_name, is_native}
use Rattle.cc_names.proofs.NameTests.{same_name-true, same_name-refl}
use Rattle.cc_model.specs.Heap.{Heap, HeapScript, change_script, set_slot, with_script_slot}
use Rattle.cc_model.specs.Exposure.{as_black, exposed, exposed_names}
use Rattle.cc_script.specs.Objects.{Object, AreWhole, change_object, is_there, name_at, places_of, raised, raised_among, with_colour, with_slot}
use Rattle.cc_script.proofs.PlacesOf.{slot-place, delegate-place, place-cases}
use Rattle.cc_script.specs.Walking.{keys_reached}
use Rattle.cc_heaps.specs.Marks.{KeepsMarks}
use Rattle.cc_heaps.specs.Keyed.{Keyed, Reflects, key_of, name_held, named_object, named_objects, reflectors_by, named_with}
use Rattle.cc_heaps.proofs.MarksKept.{marks-mapped}
use Rattle.cc_heaps.proofs.Reaching.{AreNamesOf, HasOneKey, HasOneName, key-named, name_at-own, reached-alike_from, same-tests}
use Rattle.cc_heaps.proofs.ScriptsChanged.{KeepsNames, KeepsNames-there}

-- an object is written
pub record KeepsObjects (f : Object → Object) : Type 0 where
  pub key : (o : Object) → (f o).key ≡ o.key
  pub name : (o : Object) → (f o).name ≡ o.name
  pub kind : (o : Object) → (f o).kind ≡ o.kind
  pub native : (o : Object) → (f o).native ≡ o.native
  pub delegate : (o : Object) → (f o).delegate ≡ o.delegate

-- where it keeps its new mark too, a marking in slices is left as it is
pub marks-written : (v w : Keyed) (f : Object → Object) → KeepsObjects f → ((o : Object) → (f o).new_mark ≡ o.new_mark) →
    w.marking ≡ v.marking → w.scripts ≡ map f v.scripts → KeepsMarks v w
marks-written v w f keeps marks lists scripts = marks-mapped v w f lists scripts keeps.key keeps.name marks

module _ (f : Object → Object) (keeps : KeepsObjects f) (objects : List Object) where
  -- keys have the names that they had
  pub name_at-written : (key : ℕ) → name_at (map f objects) key ≡ name_at objects key
  name_at-written key = find-renamed f (λ p. p.key == key) (λ p. p.key == key) (λ p. p.name) (λ p. p.name) (λ o. ap (λ k. k == key) (keeps.key o)) keeps.name objects

  pub KeepsNames-written : KeepsNames objects (map f objects)
  KeepsNames-written key x e = name_at-written key ∙ e

  -- slots hold the names that they held
  pub name_held-written : name_held (map f objects) ≡ name_held objects
  name_held-written = ap option_and_then (fun_ext name_at-written)

  -- by names, where each object is written as its names are
  pub named-written : (g : HeapScript → HeapScript) → ((o : Object) → Among o objects → named_object objects (f o) ≡ g (named_object objects o)) →
      named_objects (map f objects) ≡ map g (named_objects objects)
  named-written g same =
      ap (λ hold. map (named_with hold) (map f objects)) name_held-written
      ∙ (map-map (named_object objects) f objects
      ∙ (map-agree (λ o. named_object objects (f o)) (λ o. g (named_object objects o)) objects same
      ∙ sym (map-map g (named_object objects) objects)))

  pub one_key-written : HasOneKey objects → HasOneKey (map f objects)
  one_key-written one key = subst (λ n. n ≤ 1) (sym (count_by-kept_map (λ o. o.key == key) f objects (λ o. ap (λ k. k == key) (keeps.key o)))) (one key)

  -- names have the keys that they had
  pub key_of-written : (x : Name) → key_of (map f objects) x ≡ key_of objects x
  key_of-written x = find-renamed f (λ p. same_name p.name x) (λ p. same_name p.name x) (λ p. p.key) (λ p. p.key) (λ o. ap (λ y. same_name y x) (keeps.name o)) keeps.key objects

  -- so natives have the reflectors that they had, and these their natives
  pub reflectors-written : (keys : List (Option ℕ)) → reflectors_by (map f objects) keys ≡ reflectors_by objects keys
  reflectors-written keys = ap (λ its. map (λ o. option_and_then its o) keys) (fun_ext (λ k. key_of-written (reflector k)))

  pub reflecting-written : (v : Keyed) → ((o : Object) → Among o objects → Reflects v o.name o.native) → (o : Object) → Among o (map f objects) → Reflects v o.name o.native
  reflecting-written v all = each-map (λ o. Reflects v o.name o.native) f objects
      (λ o m. subst (λ y. Reflects v y (f o).native) (sym (keeps.name o)) (subst (λ k. Reflects v o.name k) (sym (keeps.native o)) (all o m)))

  -- places have what is there, where each has what is there before
  pub whole-written : ((o : Object) (q : ℕ) → Among o objects → Among (Some q) (places_of (f o)) → IsTrue (is_there objects q)) → AreWhole (map f objects)
  whole-written held o q m = each-map (λ o. Among (Some q) (places_of o) → IsTrue (is_there (map f objects) q)) f objects
      (λ o m i. KeepsNames-there objects (map f objects) KeepsNames-written q (held o q m i)) o m

-- An exposure

-- raised to black, an object is black
raised-black : (o : Object) → raised Black o ≡ with_colour Black o
raised-black o = grind arith

-- the objects at these keys made black
abbrev pub raise_among : List ℕ → Object → Object
raise_among keys o = if has ◌==◌ keys o.key then raised Black o else o

raise-either : (P : Object → Type 0) (keys : List ℕ) (o : Object) → P (with_colour Black o) → P o → P (raise_among keys o)
raise-either P keys o black same = changed_where-either P (λ p. has ◌==◌ keys p.key) (raised Black) o (λ e. subst P (sym (raised-black o)) black) same

-- what is written to some objects is
KeepsObjects-where : (t : Object → Bool) (g : Object → Object) → KeepsObjects g → KeepsObjects (changed_where t g)
KeepsObjects-where t g keeps = grind (arith, changed_where-either)

pub KeepsObjects-raised : (keys : List ℕ) → KeepsObjects (raise_among keys)
KeepsObjects-raised keys = grind (arith, KeepsObjects-where, raised-black)

-- its new mark stays
pub new_mark-raised : (keys : List ℕ) (o : Object) → (raise_among keys o).new_mark ≡ o.new_mark
new_mark-raised keys o = raise-either (λ p. p.new_mark ≡ o.new_mark) keys o refl refl

pub whole-raised : (keys : List ℕ) (objects : List Object) → AreWhole objects → AreWhole (map (raise_among keys) objects)
whole-raised keys objects whole = whole-written (raise_among keys) (KeepsObjects-raised keys) objects
    (λ o q m. raise-either (λ p. Among (Some q) (places_of p) → IsTrue (is_there objects q)) keys o (whole o q m) (whole o q m))

module _ (objects : List Object) (one_key : HasOneKey objects) (one_name : HasOneName objects) (key : ℕ) (x : Name) (named : name_at objects key ≡ Some x) where
  names-of : AreNamesOf objects (key ∷ []) (x ∷ [])
  names-of = grind arith

  -- the heaps with these script objects
  abbrev with : Heap → List HeapScript → Heap
  with h scripts = record h { scripts = scripts }

  -- WHAT IS REACHED BY KEYS IS MADE BLACK, as an exposure of the name does.
  pub exposed-named : (h : Heap) → record h { scripts = named_objects (raised_among (keys_reached objects (key ∷ [])) Black objects) } ≡
      exposed (record h { scripts = named_objects objects }) (Some x)
  unfolding exposed
  exposed-named h = ap (with h) (named-written (raise_among keys) (KeepsObjects-raised keys) objects blacken at)
    where
      keys : List ℕ
      keys = keys_reached objects (key ∷ [])

      names : List Name
      names = exposed_names (record h { scripts = named_objects objects }) x

      blacken : HeapScript → HeapScript
      blacken o = if has same_name names o.name then as_black o else o

      go : (o : Object) (b : Bool) → named_object objects (if b then raised Black o else o) ≡ (if b then as_black (named_object objects o) else named_object objects o)
      go o true = ap (named_object objects) (raised-black o)
      go o false = refl

      at : (o : Object) → Among o objects → named_object objects (raise_among keys o) ≡ blacken (named_object objects o)
      at o m = ap (λ b. named_object objects (if b then raised Black o else o)) (reached-alike_from objects one_key one_name (key ∷ []) (x ∷ []) names-of o m)
          ∙ go o (has same_name names o.name)

-- A slot

-- the object at a key written
abbrev pub write_slot : ℕ → ℕ → Option ℕ → Object → Object
write_slot key i item o = if o.key == key then with_slot i item o else o

write-either : (P : Object → Type 0) (key i : ℕ) (item : Option ℕ) (o : Object) → P (with_slot i item o) → P o → P (write_slot key i item o)
write-either P key i item o written same = changed_where-either P (λ p. p.key == key) (with_slot i item) o (λ e. written) same

pub KeepsObjects-slot : (key i : ℕ) (item : Option ℕ) → KeepsObjects (write_slot key i item)
KeepsObjects-slot key i item = KeepsObjects-where (λ o. o.key == key) (with_slot i item) (record { key = λ o. refl; name = λ o. refl; kind = λ o. refl; native = λ o. refl; delegate = λ o. refl })

-- its new mark stays
pub new_mark-slot : (key i : ℕ) (item : Option ℕ) (o : Object) → (write_slot key i item o).new_mark ≡ o.new_mark
new_mark-slot key i item o = write-either (λ p. p.new_mark ≡ o.new_mark) key i item o refl refl

-- what comes into a slot is there
pub whole-slot : (objects : List Object) (key i : ℕ) (item : Option ℕ) → AreWhole objects → ((q : ℕ) → item ≡ Some q → IsTrue (is_there objects q)) →
    AreWhole (map (write_slot key i item) objects)
whole-slot objects key i item whole there = whole-written (write_slot key i item) (KeepsObjects-slot key i item) objects
    (λ o q m. write-either (λ p. Among (Some q) (places_of p) → IsTrue (is_there objects q)) key i item o
    (λ s. ⊎_elim
    (λ t. ⊎_elim (λ e. there q e) (λ t. whole o q m (slot-place o q t)) (Among-set_cases o.slots i item (Some q) t))
    (λ e. whole o q m (delegate-place o q e))
    (place-cases (with_slot i item o) q s))
    (whole o q m))

-- a slot of a script object is written by its name
set_slot-script : (h : Heap) (x : Name) (i : ℕ) (y : Option Name) → is_native x ≡ false → set_slot h (Some x) i y ≡ change_script h x (with_script_slot i y)
set_slot-script h x i y e = grind arith

module _ (objects : List Object) (one_key : HasOneKey objects) (one_name : HasOneName objects) (key : ℕ) (x : Name) (named : name_at objects key ≡ Some x)
    (is_script : is_native x ≡ false) (i : ℕ) (item : Option ℕ) where
  -- A SLOT WRITTEN BY KEYS is written by names.
  pub slot-named : (h : Heap) → record h { scripts = named_objects (change_object objects key (with_slot i item)) } ≡
      set_slot (record h { scripts = named_objects objects }) (Some x) i (name_held objects item)
  slot-named h = ap (with h) (named-written (write_slot key i item) (KeepsObjects-slot key i item) objects write at)
      ∙ sym (set_slot-script (record h { scripts = named_objects objects }) x i (name_held objects item) is_script)
    where
      with : Heap → List HeapScript → Heap
      with h scripts = record h { scripts = scripts }

      write : HeapScript → HeapScript
      write o = if same_name o.name x then with_script_slot i (name_held objects item) o else o

      same : (o : Object) → Among o objects → (o.key == key) ≡ same_name o.name x
      same o m = same-tests (o.key == key) (same_name o.name x)
          (λ e.
          let both : Some o.name ≡ Some x = sym (name_at-own objects one_key o m) ∙ (ap (name_at objects) (eqb-true o.key key e) ∙ named) in
          let is : o.name ≡ x = cc in
          subst (λ z. same_name z x ≡ true) (sym is) (same_name-refl x))
          (λ e. eq-eqb o.key key (key-named objects one_name key x named o m (same_name-true o.name x e)))

      go : (o : Object) (b : Bool) → named_object objects (if b then with_slot i item o else o) ≡
          (if b then with_script_slot i (name_held objects item) (named_object objects o) else named_object objects o)
      go o true = ap (λ slots. record (named_object objects o) { slots = slots }) (map-set (name_held objects) o.slots i item)
      go o false = refl

      at : (o : Object) → Among o objects → named_object objects (write_slot key i item o) ≡ write (named_object objects o)
      at o m = ap (λ b. named_object objects (if b then with_slot i item o else o)) (same o m) ∙ go o (same_name o.name x)
