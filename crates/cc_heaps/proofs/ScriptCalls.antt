-- WHAT CALLS DO TO SCRIPT OBJECTS AND SCRIPT REGISTERS: an exposure, a slot written, a register written, an object made.
use Rattle.cc_heaps.proofs.ObjectsKept.{there-named}
use Rattle.cc_script.proofs.InOrder.{object_at-left}
use Rattle.cc_laws_heap.proofs.Face.{IsDelegate, IsNewScript-object, exposed-sound, no_delegate, option_map-found, script_register-sound, script_slot-sound, with_script-sound}
use Rattle.cc_lists.proofs.Held.{is_some-none, once-push, map-replicate, map-held}
use Rattle.std.proofs.Common.{arith, ◌≡◌, ℕ, ◌+◌, ◌<◌, ◌≤◌, false, List, [], ◌∷◌, ◌++◌, length, map, replicate, Option, Some, None, option_map, refl, sym, ◌∙◌, ap, subst, ⊎_elim, ◌==◌}
use Rattle.std.specs.Prelude.{IsTrue, slice_set}
use Rattle.std.specs.Option.{is_some, option_and_then, option_or}
use Rattle.std.specs.Vec.{with_item}
use Rattle.std.proofs.Math.Path.{fun_ext}
use Rattle.std.proofs.lemmas.Bool.{eqb-true, eq-eqb}
use Rattle.std.proofs.lemmas.List.{length-append, length-map, length-replicate, length-set, map-set, map_push}
use Rattle.std.proofs.lemmas.List.Folds.{find-append}
use Rattle.cc_lists.specs.Members.{Among}
use Rattle.cc_lists.proofs.ListWrites.{each-push, Among-set_cases, map-agree}
use Rattle.cc_names.specs.declared.name.Name.{Name}
use Rattle.cc_names.specs.declared.number.SKey.{SKey}
use Rattle.cc_names.specs.declared.register.Reg.TheVariants.{S as s_register}
use Rattle.cc_names.specs.declared.kind.Kind.{Kind}
use Rattle.cc_names.specs.declared.kind.Colour.TheVariants.{Black}
use Rattle.cc_names.specs.Names.{object, reflector, same_name, is_native}
use Rattle.cc_names.specs.Sizes.{most_slots}
use Rattle.cc_model.specs.Banks.{IsBankLength}
use Rattle.cc_model.specs.Slots.{empty_slots}
use Rattle.cc_model.specs.Heap.{Heap, set_register, set_slot, new_script}
use Rattle.cc_model.specs.Effects.{with_object}
use Rattle.cc_model.specs.Exposure.{exposed}
use Rattle.cc_model.specs.WellFormed.{FitsName}
use Rattle.cc_laws_heap.specs.Sound.{IsSound}
use Rattle.cc_script.specs.Objects.{Object, AreWhole, change_object, colour_at, is_there, name_at, object_at, raised_among, with_slot}
use Rattle.cc_script.proofs.Wholeness as scripts
use Rattle.cc_script.specs.Walking.{keys_reached}
use Rattle.cc_heaps.specs.ToScan.{HasRoom}
use Rattle.cc_heaps.specs.Keyed.{Keyed, IsInOrder, Reflects, key_of, name_held, named_object, named_objects, reflectors_by}
use Rattle.cc_heaps.specs.Making.{IsDelegateThere, MayBeMade, delegate_name, delegate_to_make, kind_to_make, object_to_make, slots_to_make}
use Rattle.cc_heaps.specs.declared.heaps.to_make.ToMake.{ToMake}
use Rattle.cc_heaps.specs.declared.heaps.to_make.ToMake.TheVariants.{Plain, Map, Proxy}
use Rattle.cc_names.specs.declared.kind.Kind.TheVariants as kinds
use Rattle.cc_script.proofs.PlacesOf.{slot-place, delegate-place}
use Rattle.cc_heaps.specs.Changes.{IsScriptThere, KeepsKeys, script_name}
use Rattle.cc_heaps.specs.Named.{script_named, IsScriptLive}
use Rattle.cc_heaps.specs.Fields.{heap_of, keyed_of, IsLinked}
use Rattle.cc_heaps.specs.declared.heaps.Heaps.TheInside.{Inside}
use Rattle.cc_heaps.proofs.Keys.{Reflects-kept, name-in, script_name-in}
use Rattle.cc_heaps.proofs.Reaching.{HasOneKey, name_at-found}
use Rattle.cc_heaps.proofs.ScriptsChanged.{KeepsNames, KeepsNames-there, KeepsNames-same, with_objects, with_named, heap-objects, keys-objects, linked-objects, order-objects}
use Rattle.cc_heaps.proofs.ScriptWrites.{KeepsObjects, KeepsNames-written, one_key-written, reflectors-written, reflecting-written, raise_among, KeepsObjects-raised, whole-raised, exposed-named, write_slot, KeepsObjects-slot, whole-slot, slot-named}

-- the second parts hold these heaps, fit together and are in order, and what is there keeps its key and its name
pub record Becomes (owned : List ℕ) (p q : Inside) (h : Heap) : Type 0 where
  pub heap : heap_of q ≡ h
  pub names : KeepsNames p.scripts q.scripts
  pub keys : KeepsKeys (keyed_of p) (keyed_of q)
  pub order : IsInOrder owned (keyed_of q)
  pub linked : IsLinked q

-- what comes in keeps its name, and is there still
pub content-kept : (p q : Inside) → KeepsNames p.scripts q.scripts → (x : Option SKey) → IsScriptThere (keyed_of p) x →
    (script_name (keyed_of q) x ≡ script_name (keyed_of p) x) × IsScriptThere (keyed_of q) x
content-kept p q kept x t = grind (arith, KeepsNames-same, KeepsNames-there)

-- nothing comes in: nothing is exposed
pub nothing-exposed : (v : Keyed) (x : Option SKey) → ((key : SKey) → x ≡ Some key → ⊥) → exposed v.heap (script_name v x) ≡ v.heap
unfolding exposed
nothing-exposed v x none = grind arith

module _ {owned : List ℕ} (p : Inside) (l : IsLinked p) (o : IsInOrder owned (keyed_of p)) where
  -- other script objects, as the definitions change them
  becomes : (objects : List Object) (made : ℕ) (h : Heap) → KeepsNames p.scripts objects → with_named (heap_of p) objects made ≡ h → IsSound owned h →
      HasRoom p.to_scan (length objects) → HasOneKey objects → AreWhole objects →
      reflectors_by objects p.counted.keys ≡ reflectors_by p.scripts p.counted.keys → ((q : Object) → Among q objects → Reflects (keyed_of p) q.name q.native) →
      Becomes owned p (with_objects p objects made) h
  becomes objects made h kept e s room one whole reflectors reflecting =
      let sound : IsSound owned (with_named (heap_of p) objects made) = subst (IsSound owned) (sym e) s in record {
        heap = heap-objects p objects made kept l o.entries_there ∙ e;
        names = kept;
        keys = keys-objects p objects made kept l;
        order = order-objects p objects made kept l owned sound one reflectors whole reflecting o;
        linked = linked-objects p objects made kept l owned sound one reflectors room;
      }

  -- each object written
  pub becomes-written : (f : Object → Object) → KeepsObjects f → (h : Heap) → with_named (heap_of p) (map f p.scripts) p.scripts_made ≡ h → IsSound owned h →
      AreWhole (map f p.scripts) → Becomes owned p (with_objects p (map f p.scripts) p.scripts_made) h
  becomes-written f keeps h e s whole = becomes (map f p.scripts) p.scripts_made h (KeepsNames-written f keeps p.scripts) e s
      (subst (HasRoom p.to_scan) (sym (length-map p.scripts f)) l.room)
      (one_key-written f keeps p.scripts l.one_key) whole
      (reflectors-written f keeps p.scripts p.counted.keys) (reflecting-written f keeps p.scripts (keyed_of p) o.reflecting)

  -- AN EXPOSURE
  pub becomes-exposed : (key : ℕ) → IsTrue (is_there p.scripts key) → (objects : List Object) → objects ≡ raised_among (keys_reached p.scripts (key ∷ [])) Black p.scripts →
      Becomes owned p (with_objects p objects p.scripts_made) (exposed (heap_of p) (name_at p.scripts key))
  becomes-exposed key t objects e =
      let n = there-named p.scripts key t in
      subst (λ os. Becomes owned p (with_objects p os p.scripts_made) (exposed (heap_of p) (name_at p.scripts key))) (sym e)
      (becomes-written (raise_among (keys_reached p.scripts (key ∷ []))) (KeepsObjects-raised (keys_reached p.scripts (key ∷ []))) (exposed (heap_of p) (name_at p.scripts key))
      (exposed-named p.scripts l.one_key l.one_name key n.0 n.1 (heap_of p) ∙ ap (exposed (heap_of p)) (sym n.1))
      (exposed-sound owned (heap_of p) (name_at p.scripts key) o.sound)
      (whole-raised (keys_reached p.scripts (key ∷ [])) p.scripts o.whole))

  -- of what comes into a register
  pub content-exposed : (content : Option SKey) (key : SKey) → content ≡ Some key → IsScriptThere (keyed_of p) content → (objects : List Object) →
      objects ≡ raised_among (keys_reached p.scripts (key.0 ∷ [])) Black p.scripts →
      Becomes owned p (with_objects p objects p.scripts_made) (exposed (heap_of p) (script_name (keyed_of p) content))
  content-exposed content key is there objects e = subst (λ x. Becomes owned p (with_objects p objects p.scripts_made) (exposed (heap_of p) (script_name (keyed_of p) x))) (sym is)
      (becomes-exposed key.0 (subst (λ x. IsScriptThere (keyed_of p) x) is there) objects e)

  -- A SLOT WRITTEN
  pub becomes-slot : (key i : ℕ) (item : Option SKey) → IsTrue (is_there p.scripts key) → IsScriptThere (keyed_of p) item → (objects : List Object) →
      objects ≡ change_object p.scripts key (with_slot i (option_map (λ k. k.0) item)) →
      Becomes owned p (with_objects p objects p.scripts_made) (set_slot (heap_of p) (name_at p.scripts key) i (script_name (keyed_of p) item))
  becomes-slot key i item t there objects e =
      let n = there-named p.scripts key t in
      let f = name_at-found p.scripts key n.0 n.1 in
      subst (λ os. Becomes owned p (with_objects p os p.scripts_made) (set_slot (heap_of p) (name_at p.scripts key) i (script_name (keyed_of p) item))) (sym e)
      (becomes-written (write_slot key i (option_map (λ k. k.0) item)) (KeepsObjects-slot key i (option_map (λ k. k.0) item))
      (set_slot (heap_of p) (name_at p.scripts key) i (script_name (keyed_of p) item))
      (slot-named p.scripts l.one_key l.one_name key n.0 n.1 (subst (λ x. is_native x ≡ false) f.3 (l.script_names f.0 f.1)) i (option_map (λ k. k.0) item) (heap_of p)
      ∙ (λ j. set_slot (heap_of p) (sym n.1 j) i (content item j)))
      (script_slot-sound owned (heap_of p) (name_at p.scripts key) i (script_name (keyed_of p) item)
      (name-in (heap_of p) p.scripts refl key)
      (script_name-in (keyed_of p) refl item) o.sound)
      (whole-slot p.scripts key i (option_map (λ k. k.0) item) o.whole (item-there item there)))
    where
      content : (x : Option SKey) → name_held p.scripts (option_map (λ k. k.0) x) ≡ script_name (keyed_of p) x
      content None = refl
      content (Some k) = refl

      item-there : (x : Option SKey) → IsScriptThere (keyed_of p) x → (q : ℕ) → option_map (λ (k : SKey). k.0) x ≡ Some q → IsTrue (is_there p.scripts q)
      item-there None t q e = absurd (cc)
      item-there (Some k) t q e = let same : k.0 ≡ q = cc in subst (λ j. IsTrue (is_there p.scripts j)) same t

  -- A SCRIPT REGISTER WRITTEN
  abbrev pub with_register : ℕ → Option SKey → Inside
  with_register r content = record p { script_registers = with_item p.script_registers r content }

  register-same : (content : Option SKey) → script_named p.scripts content ≡ script_name (keyed_of p) content
  register-same content = grind arith

  pub becomes-register : (r : ℕ) (content : Option SKey) → IsScriptThere (keyed_of p) content →
      Becomes owned p (with_register r content) (set_register (heap_of p) (s_register r) (script_name (keyed_of p) content))
  becomes-register r content there = record {
    heap = registers;
    names = λ key x e. e;
    keys = record { natives = λ key k e m. e; scripts = λ key x e m. e };
    order = record {
      sound = subst (IsSound owned) (sym registers) (script_register-sound owned (heap_of p) r (script_name (keyed_of p) content) (script_name-in (keyed_of p) refl content) o.sound);
      keyed = o.keyed;
      named = refl;
      one_key = o.one_key;
      whole = o.whole;
      reflecting = λ q m. Reflects-kept (keyed_of p) (keyed_of (with_register r content)) q.name q.native (λ key k is at. at) (o.reflecting q m);
      limits = o.limits;
      entries = refl;
      entries_there = o.entries_there;
    };
    linked = record {
      native_registers = l.native_registers;
      script_registers = λ x m. ⊎_elim
          (λ e. subst (λ y. IsScriptLive p.scripts y) e (live content there))
          (λ t. l.script_registers x t)
          (Among-set_cases p.script_registers.items r content x m);
      registers = (l.registers.0, subst IsBankLength (sym (length-set p.script_registers.items r content)) l.registers.1);
      held = l.held;
      one_key = l.one_key;
      one_name = l.one_name;
      reflectors = l.reflectors;
      script_names = l.script_names;
      room = l.room;
    };
  }
    where
      registers : heap_of (with_register r content) ≡ set_register (heap_of p) (s_register r) (script_name (keyed_of p) content)
      registers = ap (λ slots. record (heap_of p) { script_registers = slots })
          (map-set (script_named p.scripts) p.script_registers.items r content
          ∙ ap (slice_set (map (script_named p.scripts) p.script_registers.items) r) (register-same content))

      live : (x : Option SKey) → IsScriptThere (keyed_of p) x → IsScriptLive p.scripts x
      live None t = t
      live (Some key) t = t

-- An object made

-- a new one at a key that held nothing, whose slots are empty, and whose delegate is there
module _ (objects : List Object) (one : HasOneKey objects) (whole : AreWhole objects) (new : Object) (n : ℕ) (empty : new.slots ≡ replicate n None)
    (held : (q : ℕ) → new.delegate ≡ Some q → IsTrue (is_there objects q)) (vacant : is_there objects new.key ≡ false) where
  -- with one more
  abbrev pub made_last : List Object
  made_last = objects ++ new ∷ []

  found-last : (k : ℕ) → object_at made_last k ≡ option_or (object_at objects k) (object_at (new ∷ []) k)
  found-last k = find-append (λ o. o.key == k) objects (new ∷ [])

  pub KeepsNames-made : KeepsNames objects made_last
  KeepsNames-made k x e = grind (arith, option_map-found, object_at-left)

  -- it is what stands at its key
  pub name_at-made : name_at made_last new.key ≡ Some new.name
  name_at-made = grind (arith, found-last, is_some-none, eq-eqb)

  pub one_key-made : HasOneKey made_last
  one_key-made k = once-push (λ o. o.key == k) objects new (one k)
      (λ e. subst (λ j. object_at objects j ≡ None) (eqb-true new.key k e) (is_some-none (object_at objects new.key) vacant))

  pub whole-made : AreWhole made_last
  whole-made = scripts.whole-made objects new n empty held whole

  -- by names it goes last too
  pub named-made : named_objects made_last ≡ named_objects objects ++ record (named_object objects new) { slots = empty_slots n } ∷ []
  named-made = map_push (named_object made_last) objects new
      ∙ (λ i. map-agree (named_object made_last) (named_object objects) objects same i
      ++ record (named_object objects new) { slots = (ap (map (name_held made_last)) empty ∙ map-replicate (name_held made_last) n None) i; delegate = kept new.delegate held i } ∷ [])
    where
      kept : (d : Option ℕ) → ((q : ℕ) → d ≡ Some q → IsTrue (is_there objects q)) → name_held made_last d ≡ name_held objects d
      kept None t = refl
      kept (Some q) t = KeepsNames-same objects made_last KeepsNames-made q (t q refl)

      same : (o : Object) → Among o objects → named_object made_last o ≡ named_object objects o
      same o m = λ i. record (named_object objects o) {
        slots = map-held (name_held made_last) (name_held objects) o.slots refl (λ q s. KeepsNames-same objects made_last KeepsNames-made q (whole o q m (slot-place o q s))) i;
        delegate = kept o.delegate (λ q e. whole o q m (delegate-place o q e)) i;
      }

  -- names other than its own have the keys that they had
  pub key_of-made : (x : Name) → same_name new.name x ≡ false → key_of made_last x ≡ key_of objects x
  key_of-made x other = grind (arith, find-append)

-- what is made fits its name, where it may be made
made-fits : (objects : List Object) (number : ℕ) (what : ToMake) → MayBeMade objects what → FitsName (object number) (kind_to_make what) (empty_slots (slots_to_make what))
made-fits objects number (Plain n) few = subst (λ k. k ≤ most_slots) (sym (length-replicate n None)) few
made-fits objects number Map few = refl
made-fits objects number (Proxy d) few = refl

-- a black object is there
pub black-there : (objects : List Object) (key : ℕ) → colour_at objects key ≡ Some Black → IsTrue (is_there objects key)
black-there objects key e = ap is_some (option_map-found (λ (o : Object). o.colour) (object_at objects key) Black e).1

-- so is the delegate of what may be made
pub delegate-there : (objects : List Object) (what : ToMake) → MayBeMade objects what → (q : ℕ) → delegate_to_make what ≡ Some q → IsTrue (is_there objects q)
delegate-there objects (Plain n) may q e = absurd (cc)
delegate-there objects Map may q e = absurd (cc)
delegate-there objects (Proxy d) may q e = let same : d.0 ≡ q = cc in subst (λ k. IsTrue (is_there objects k)) same (black-there objects d.0 may)

pub may-there : (objects : List Object) (what : ToMake) → MayBeMade objects what → IsDelegateThere objects what
may-there objects (Plain n) may = tt
may-there objects Map may = tt
may-there objects (Proxy d) may = black-there objects d.0 may

-- AN OBJECT MADE: a plain one, a weak map or a proxy
module _ {owned : List ℕ} (p : Inside) (l : IsLinked p) (o : IsInOrder owned (keyed_of p)) (key : ℕ) (what : ToMake) (may : MayBeMade p.scripts what)
    (vacant : is_there p.scripts key ≡ false) where
  abbrev new : Object
  new = object_to_make key (p.scripts_made + 1) what

  abbrev n : ℕ
  n = slots_to_make what

  abbrev kind : Kind
  kind = kind_to_make what

  -- the name of its delegate
  abbrev its : Option Name
  its = delegate_name (keyed_of p) what

  abbrev objects : List Object
  objects = p.scripts ++ new ∷ []

  held : (q : ℕ) → new.delegate ≡ Some q → IsTrue (is_there p.scripts q)
  held = delegate-there p.scripts what may

  -- its name
  pub name_at-object : name_at objects key ≡ Some (object (p.scripts_made + 1))
  name_at-object = name_at-made p.scripts l.one_key o.whole new n refl held vacant

  kept : KeepsNames p.scripts objects
  kept = KeepsNames-made p.scripts l.one_key o.whole new n refl held vacant

  -- its delegate keeps its name,
  pub delegate_name-made : (q : Keyed) → q.scripts ≡ objects → delegate_name q what ≡ its
  delegate_name-made q e = ap (λ os. name_held os (delegate_to_make what)) e ∙ go (delegate_to_make what) held
    where
      go : (d : Option ℕ) → ((k : ℕ) → d ≡ Some k → IsTrue (is_there p.scripts k)) → name_held objects d ≡ name_held p.scripts d
      go None t = refl
      go (Some k) t = KeepsNames-same p.scripts objects kept k (t k refl)

  -- and is there still
  pub delegate_there-made : (os : List Object) → os ≡ objects → IsDelegateThere os what
  delegate_there-made os e = subst (λ ps. IsDelegateThere ps what) (sym e) (go what (may-there p.scripts what may))
    where
      go : (w : ToMake) → IsDelegateThere p.scripts w → IsDelegateThere objects w
      go (Plain j) t = tt
      go Map t = tt
      go (Proxy d) t = KeepsNames-there p.scripts objects kept d.0 t

  named : named_objects objects ≡ named_objects p.scripts ++ new_script (object (p.scripts_made + 1)) kind n its ∷ []
  named = named-made p.scripts l.one_key o.whole new n refl held vacant

  -- it is no reflector
  reflectors : reflectors_by objects p.counted.keys ≡ reflectors_by p.scripts p.counted.keys
  reflectors = ap (λ its. map (λ j. option_and_then its j) p.counted.keys) (fun_ext (λ k. key_of-made p.scripts l.one_key o.whole new n refl held vacant (reflector k) refl))

  -- by names the delegate is one that it may have
  is_delegate : IsDelegate (heap_of p) kind its
  is_delegate = go what held
    where
      go : (w : ToMake) → ((q : ℕ) → delegate_to_make w ≡ Some q → IsTrue (is_there p.scripts q)) → IsDelegate (heap_of p) (kind_to_make w) (delegate_name (keyed_of p) w)
      go (Plain j) t = no_delegate (heap_of p) kinds.Plain refl
      go Map t = no_delegate (heap_of p) kinds.Map refl
      go (Proxy d) t = record {
        of_kind = ap is_some (there-named p.scripts d.0 (t d.0 refl)).1;
        there = name-in (heap_of p) p.scripts refl d.0;
      }

  pub becomes-made : p.scripts_made < p.limits.scripts → HasRoom p.to_scan (length p.scripts + 1) → (os : List Object) → os ≡ objects →
      Becomes owned p (with_objects p os (p.scripts_made + 1)) (with_object (heap_of p) kind n its)
  becomes-made room places os e =
      subst (λ os. Becomes owned p (with_objects p os (p.scripts_made + 1)) (with_object (heap_of p) kind n its)) (sym e)
      (becomes p l o objects (p.scripts_made + 1) (with_object (heap_of p) kind n its) kept
      (ap (λ scripts. record (heap_of p) { scripts = scripts; scripts_made = p.scripts_made + 1 }) named)
      (with_script-sound owned (heap_of p) (new_script (object (p.scripts_made + 1)) kind n its) (p.scripts_made + 1)
      (IsNewScript-object (heap_of p) kind n its o.sound.well_formed (made-fits p.scripts (p.scripts_made + 1) what may) is_delegate room) o.sound)
      (subst (HasRoom p.to_scan) (sym (length-append p.scripts (new ∷ []))) places)
      (one_key-made p.scripts l.one_key o.whole new n refl held vacant)
      (whole-made p.scripts l.one_key o.whole new n refl held vacant)
      reflectors
      (each-push (λ q. Reflects (keyed_of p) q.name q.native) p.scripts new o.reflecting refl))
