-- A WALK OVER BOTH HEAPS says nothing of them: objects stand otherwise in it, and nothing else changes.
use Rattle.std.proofs.Common.{◌≡◌, ℕ, Bool, true, false, ◌≤◌, List, map, Option, Some, None, option_map, refl, sym, ◌∙◌, ap, subst, if◌then◌else◌, ◌==◌}
use Rattle.std.specs.Prelude.{IfNone, IfSome, IsSome, IsTrue, MatchOption}
use Rattle.std.specs.Option.{is_some}
use Rattle.std.proofs.lemmas.List.{length-map, map-id}
use Rattle.cc_lists.specs.Members.{Among}
use Rattle.cc_lists.proofs.Filtering.{find-passes}
use Rattle.cc_lists.proofs.Held.{find-renamed}
use Rattle.cc_lists.proofs.ListWrites.{count_by-kept_map, each-map, map-agree}
use Rattle.cc_names.specs.declared.kind.Walked.{Walked}
use Rattle.cc_names.specs.declared.kind.Walked.TheVariants.{Out, Waiting, Given}
use Rattle.cc_names.specs.Names.{native, same_name, is_native}
use Rattle.cc_model.specs.WellFormed.{native_names, script_names}
use Rattle.cc_laws_heap.proofs.Face.{option_map-found}
use Rattle.cc_walk.specs.Walks.{is_walked}
use Rattle.cc_counted.specs.declared.held.Held.{Held}
use Rattle.cc_counted.specs.declared.held.Held.TheVariants as held
use Rattle.cc_names.specs.declared.number.NKey.{NKey}
use Rattle.cc_names.specs.declared.number.SKey.{SKey}
use Rattle.cc_counted.specs.Counts.{Counts, NoneWaits, none_walked, number_at, state_of, with_state_of}
use Rattle.cc_counted.specs.Counts.{unwalked as unwalked_counts}
use Rattle.cc_script.specs.Objects.{Object, NoObjectWaits, change_object, is_there, object_at, walked_at, with_walked}
use Rattle.cc_script.specs.Objects as objects
use Rattle.cc_heaps.specs.ToScan.{HasRoom}
use Rattle.cc_heaps.specs.Marks.{KeepsMarks}
use Rattle.cc_heaps.specs.Keyed.{Keyed, IsInOrder, named_entries, named_entry, named_objects}
use Rattle.cc_heaps.specs.Changes.{IsThere, KeepsKeys}
use Rattle.cc_heaps.specs.Standing.{KeepsColours, KeepsFresh, KeepsSuspected}
use Rattle.cc_heaps.specs.Keeping.{KeepsAll}
use Rattle.cc_heaps.specs.Fields.{heap_of, keyed_of, IsLinked}
use Rattle.cc_heaps.specs.Walking.{NothingWaits, restated, state_in, state_or_out, unwalked, with_state_in}
use Rattle.cc_heaps.specs.declared.heaps.Heaps.TheInside.{Inside}
use Rattle.cc_heaps.proofs.FewCounts.{few-owned}
use Rattle.cc_heaps.proofs.Kept.{KeepsAll-same}
use Rattle.cc_heaps.proofs.Linked.{with_counted}
use Rattle.cc_heaps.proofs.MarksKept.{marks-go_on, marks-stay, marks-stay-then}
use Rattle.cc_heaps.proofs.ObjectsKept.{entry-same}
use Rattle.cc_heaps.proofs.ScriptCalls.{becomes-written}
use Rattle.cc_heaps.proofs.ScriptsChanged.{HoldsSame, heap-held, registers-held, natives-held, with_objects}
use Rattle.cc_heaps.proofs.ScriptWrites.{KeepsObjects, KeepsNames-written, marks-written, name_at-written, named-written, one_key-written, reflectors-written, whole-written}

-- heaps of which nothing is said to change, and in which what is there keeps its key and its new mark, keep all
pub KeepsAll-alike : (v w : Keyed) → w.heap ≡ v.heap → KeepsKeys v w → ((owned : List ℕ) → IsInOrder owned v → IsInOrder owned w) → KeepsMarks v w → KeepsAll v w
KeepsAll-alike v w e keys order marks = record {
  keys = keys;
  order = order;
  counts = few-owned w;
  colours = subst (KeepsColours v.heap) (sym e) (λ k. k);
  fresh = subst (KeepsFresh v.heap) (sym e) (λ s k. k);
  suspected = subst (KeepsSuspected v.heap) (sym e) (λ candidates k. k);
  marks = marks-go_on marks;
}

-- Natives

-- natives stand otherwise
pub order-walks : (owned : List ℕ) (v : Keyed) (walks : List Walked) → IsInOrder owned v → IsInOrder owned (record v { walks = walks })
order-walks owned v walks o = record {
  sound = o.sound;
  keyed = record { key_of = o.keyed.key_of; there = o.keyed.there; one_key = o.keyed.one_key; rising = o.keyed.rising };
  named = o.named;
  one_key = o.one_key;
  whole = o.whole;
  reflecting = o.reflecting;
  limits = o.limits;
  entries = o.entries;
  entries_there = o.entries_there;
}

pub kept-walks : (v w : Keyed) (walks : List Walked) → w ≡ record v { walks = walks } → KeepsAll v w
kept-walks v w walks e = subst (KeepsAll v) (sym e)
    (KeepsAll-alike v (record v { walks = walks }) refl (record { natives = λ key k at there. at; scripts = λ key x at there. at }) (λ owned. order-walks owned v walks)
    (marks-stay v (record v { walks = walks }) refl refl))

pub linked-walks : (p : Inside) (walks : List Walked) → IsLinked p → IsLinked (with_counted p (record p.counted { walks = walks }))
linked-walks p walks l = record {
  native_registers = l.native_registers;
  script_registers = l.script_registers;
  registers = l.registers;
  held = l.held;
  one_key = l.one_key;
  one_name = l.one_name;
  reflectors = l.reflectors;
  script_names = l.script_names;
  room = l.room;
}

-- Script objects

-- each stands in the walk as it is said
abbrev pub stated : (Object → Walked) → Object → Object
stated states o = with_walked (states o) o

KeepsObjects-stated : (states : Object → Walked) → KeepsObjects (stated states)
KeepsObjects-stated states = record { key = λ o. refl; name = λ o. refl; kind = λ o. refl; native = λ o. refl; delegate = λ o. refl }

-- one that stands otherwise
abbrev pub at_key : ℕ → (Walked → Walked) → Object → Walked
at_key key change o = if o.key == key then change o.walked else o.walked

pub stated-at : (objects : List Object) (key : ℕ) (change : Walked → Walked) → change_object objects key (restated change) ≡ map (stated (at_key key change)) objects
stated-at objects key change = map-agree (λ o. if o.key == key then restated change o else o) (stated (at_key key change)) objects (λ o m. go o (o.key == key))
  where
    go : (o : Object) (b : Bool) → (if b then restated change o else o) ≡ with_walked (if b then change o.walked else o.walked) o
    go o true = refl
    go o false = refl

module _ (p : Inside) (l : IsLinked p) (states : Object → Walked) where
  abbrev pub restated_parts : Inside
  restated_parts = with_objects p (map (stated states) p.scripts) p.scripts_made

  keeps : KeepsObjects (stated states)
  keeps = KeepsObjects-stated states

  named-stated : named_objects (map (stated states) p.scripts) ≡ named_objects p.scripts
  named-stated = named-written (stated states) keeps p.scripts (λ o. o) (λ o m. refl) ∙ map-id (named_objects p.scripts)

  entries-stated : named_entries (map (stated states) p.scripts) p.weak ≡ named_entries p.scripts p.weak
  entries-stated = map-agree (named_entry (map (stated states) p.scripts)) (named_entry p.scripts) p.weak
      (λ e m. entry-same (map (stated states) p.scripts) p.scripts e (λ key i. name_at-written (stated states) keeps p.scripts key))

  holds : HoldsSame p (map (stated states) p.scripts)
  holds = record {
    registers = λ key m. name_at-written (stated states) keeps p.scripts key.0;
    natives = λ n key m i. name_at-written (stated states) keeps p.scripts key;
  }

  -- THE HEAPS ARE AS THEY WERE
  pub heap-stated : heap_of restated_parts ≡ heap_of p
  heap-stated = heap-held p (map (stated states) p.scripts) l.held holds ∙ (λ i. record (heap_of p) { scripts = named-stated i; entries = entries-stated i })

  pub keyed-stated : keyed_of restated_parts ≡ record (keyed_of p) { scripts = map (stated states) p.scripts }
  keyed-stated = λ i. record (keyed_of p) { heap = heap-stated i; scripts = map (stated states) p.scripts }

  pub linked-stated : IsLinked restated_parts
  linked-stated = record {
    native_registers = l.native_registers;
    script_registers = registers-held p (map (stated states) p.scripts) l.held holds l.script_registers;
    registers = l.registers;
    held = natives-held p (map (stated states) p.scripts) l.held holds;
    one_key = one_key-written (stated states) keeps p.scripts l.one_key;
    one_name = λ x. subst (λ n. n ≤ 1) (sym (count_by-kept_map (λ (o : Object). same_name o.name x) (stated states) p.scripts (λ o. refl))) (l.one_name x);
    reflectors = l.reflectors ∙ sym (reflectors-written (stated states) keeps p.scripts p.counted.keys);
    script_names = each-map (λ (o : Object). is_native o.name ≡ false) (stated states) p.scripts l.script_names;
    room = subst (HasRoom p.to_scan) (sym (length-map p.scripts (stated states))) l.room;
  }

  pub order-stated : (owned : List ℕ) → IsInOrder owned (keyed_of p) → IsInOrder owned (keyed_of restated_parts)
  order-stated owned o = (becomes-written p l o (stated states) keeps (heap_of p) (ap (λ scripts. record (heap_of p) { scripts = scripts }) named-stated) o.sound
      (whole-written (stated states) keeps p.scripts (λ q k m. o.whole q k m))).order

  pub keys-stated : KeepsKeys (keyed_of p) (keyed_of restated_parts)
  keys-stated = record { natives = λ key k at there. at; scripts = λ key x at there. KeepsNames-written (stated states) keeps p.scripts key x at }

  pub marks-stated : KeepsMarks (keyed_of p) (keyed_of restated_parts)
  marks-stated = marks-written (keyed_of p) (keyed_of restated_parts) (stated states) keeps (λ o. refl) refl refl

  pub kept-stated : KeepsAll (keyed_of p) (keyed_of restated_parts)
  kept-stated = KeepsAll-alike (keyed_of p) (keyed_of restated_parts) heap-stated keys-stated order-stated marks-stated

-- WHAT A CALL COMES TO

pub record IsWalked (p q : Inside) (now : Keyed) : Type 0 where
  pub keyed : keyed_of q ≡ now
  pub heap : heap_of q ≡ heap_of p
  pub marks : KeepsMarks (keyed_of p) (keyed_of q)
  pub kept : KeepsAll (keyed_of p) (keyed_of q)
  pub linked : IsLinked q

module _ (p : Inside) (l : IsLinked p) where
  pub walks-changed : (next : Counts) (walks : List Walked) → next ≡ record p.counted { walks = walks } → IsWalked p (with_counted p next) (record (keyed_of p) { walks = walks })
  walks-changed next walks e = subst (λ c. IsWalked p (with_counted p c) (record (keyed_of p) { walks = walks })) (sym e) (record {
    keyed = refl;
    heap = refl;
    marks = marks-stay (keyed_of p) (record (keyed_of p) { walks = walks }) refl refl;
    kept = kept-walks (keyed_of p) (record (keyed_of p) { walks = walks }) walks refl;
    linked = linked-walks p walks l;
  })

  pub objects-changed : (next : List Object) (states : Object → Walked) → next ≡ map (stated states) p.scripts →
      IsWalked p (record p { scripts = next }) (record (keyed_of p) { scripts = next })
  objects-changed next states e = subst (λ os. IsWalked p (record p { scripts = os }) (record (keyed_of p) { scripts = os })) (sym e) (record {
    keyed = keyed-stated p l states;
    heap = heap-stated p l states;
    marks = marks-stated p l states;
    kept = kept-stated p l states;
    linked = linked-stated p l states;
  })

  pub object-changed : (next : List Object) (key : ℕ) (change : Walked → Walked) → next ≡ change_object p.scripts key (restated change) →
      IsWalked p (record p { scripts = next }) (record (keyed_of p) { scripts = next })
  object-changed next key change e = objects-changed next (at_key key change) (e ∙ stated-at p.scripts key change)

-- first natives and then script objects
pub walked-then : (p q r : Inside) (v w : Keyed) → IsWalked p q v → IsWalked q r w → IsWalked p r w
walked-then p q r v w a b = record {
  keyed = b.keyed;
  heap = b.heap ∙ a.heap;
  marks = marks-stay-then a.marks b.marks;
  kept = KeepsAll-alike (keyed_of p) (keyed_of r) (b.heap ∙ a.heap)
      (record {
        natives = λ key k at there. b.kept.keys.natives key k (a.kept.keys.natives key k at (subst (λ h. Among (native k) (native_names h)) b.heap there)) there;
        scripts = λ key x at there. b.kept.keys.scripts key x (a.kept.keys.scripts key x at (subst (λ h. Among x (script_names h)) b.heap there)) there;
      })
      (λ owned o. b.kept.order owned (a.kept.order owned o))
      (marks-stay-then a.marks b.marks);
  linked = b.linked;
}

-- none stands in the walk
pub cleared : (p : Inside) → IsLinked p → (next : Counts) (left : List Object) → next ≡ unwalked_counts p.counted → left ≡ objects.unwalked p.scripts →
    IsWalked p (record p { counted = next; scripts = left }) (unwalked (keyed_of p))
cleared p l next left e f =
    subst (λ c. IsWalked p (record p { counted = c; scripts = left }) (unwalked (keyed_of p))) (sym e)
    (subst (λ os. IsWalked p (record p { counted = record p.counted { walks = none_walked p.counted.walks }; scripts = os }) (unwalked (keyed_of p))) (sym f)
    (walked-then p (with_counted p (record p.counted { walks = none_walked p.counted.walks })) (record p { counted = record p.counted { walks = none_walked p.counted.walks }; scripts = objects.unwalked p.scripts })
    (record (keyed_of p) { walks = none_walked p.counted.walks }) (unwalked (keyed_of p))
    (walks-changed p l (record p.counted { walks = none_walked p.counted.walks }) (none_walked p.counted.walks) refl)
    (objects-changed (with_counted p (record p.counted { walks = none_walked p.counted.walks })) (linked-walks p (none_walked p.counted.walks) l) (objects.unwalked p.scripts) (λ o. Out) refl)))

-- what stands in the walk is there
pub there-walked : (objects : List Object) (key : ℕ) (state : Walked) → walked_at objects key ≡ Some state → IsTrue (is_there objects key)
there-walked objects key state e = ap is_some (option_map-found (λ (o : Object). o.walked) (object_at objects key) state e).1

-- and stands there as it does
pub state-read : (o : Option Walked) (state : Walked) → o ≡ Some state → state_or_out o ≡ state
state-read o state e = ap state_or_out e

pub walked-read : (o : Option Walked) (answer : Bool) → option_map is_walked o ≡ Some answer → answer ≡ is_walked (state_or_out o)
walked-read None answer e = absurd (cc)
walked-read (Some state) answer e = let same : is_walked state ≡ answer = cc in sym same

-- ONE OBJECT STANDS OTHERWISE
module _ (p : Inside) (l : IsLinked p) (object : Held) (change : Walked → Walked) where
  pub native-stated : (key : NKey) → object ≡ held.Native key → (next : Counts) → next ≡ with_state_of p.counted key.0 (change (state_of p.counted key.0)) →
      IsWalked p (with_counted p next) (with_state_in (keyed_of p) object change)
  native-stated key is next e = subst (λ o. IsWalked p (with_counted p next) (with_state_in (keyed_of p) o change)) (sym is) (walks-changed p l next _ e)

  pub script-stated : (key : SKey) → object ≡ held.Script key → (next : List Object) → next ≡ change_object p.scripts key.0 (restated change) →
      IsWalked p (record p { scripts = next }) (with_state_in (keyed_of p) object change)
  script-stated key is next e =
      subst (λ o. IsWalked p (record p { scripts = next }) (with_state_in (keyed_of p) o change)) (sym is)
      (subst (λ os. IsWalked p (record p { scripts = next }) (record (keyed_of p) { scripts = os })) e (object-changed p l next key.0 change e))

-- ONE IS GIVEN, or none waits
abbrev pub GivesNext : Keyed → Keyed → Option Held → Type 0
GivesNext v w o = MatchOption o (NothingWaits v × (w ≡ v))
    (λ object. (state_in v object ≡ Waiting) × (w ≡ with_state_in v object (λ state. Given)) × IsThere v (Some object))

pub record IsGiven (p q : Inside) (o : Option Held) : Type 0 where
  pub next : GivesNext (keyed_of p) (keyed_of q) o
  pub heap : heap_of q ≡ heap_of p
  pub marks : KeepsMarks (keyed_of p) (keyed_of q)
  pub kept : KeepsAll (keyed_of p) (keyed_of q)
  pub linked : IsLinked q

module _ (p : Inside) (l : IsLinked p) where
  pub native-next : (key : NKey) (next : Counts) → (state_of p.counted key.0 ≡ Waiting) × (next ≡ with_state_of p.counted key.0 Given) × IsSome (number_at p.counted key.0) →
      IsGiven p (with_counted p next) (Some (held.Native key))
  native-next key next m =
      let w = native-stated p l (held.Native key) (λ state. Given) key refl next m.1 in
      record { next = (m.0, w.keyed, m.2); heap = w.heap; marks = w.marks; kept = w.kept; linked = w.linked }

  -- where no native waits, a script object
  pub script-next : (counted : Counts) → counted ≡ p.counted → NoneWaits p.counted.walks → (next : List Object) (o : Option SKey) →
      IfSome o (λ k. (walked_at p.scripts k.0 ≡ Some Waiting) × (next ≡ change_object p.scripts k.0 (with_walked Given))) →
      IfNone o (NoObjectWaits p.scripts × (next ≡ p.scripts)) → IsGiven p (record p { counted = counted; scripts = next }) (option_map held.Script o)
  script-next counted e none next None some nothing =
      subst (λ d. IsGiven p (record p { counted = d; scripts = next }) None) (sym e)
      (subst (λ os. IsGiven p (record p { scripts = os }) None) (sym nothing.1)
      (record { next = ((none, nothing.0), refl); heap = refl; marks = marks-stay (keyed_of p) (keyed_of p) refl refl; kept = KeepsAll-same (keyed_of p) (keyed_of p) refl; linked = l }))
  script-next counted e none next (Some key) some nothing =
      let w = script-stated p l (held.Script key) (λ state. Given) key refl next some.1 in
      subst (λ d. IsGiven p (record p { counted = d; scripts = next }) (Some (held.Script key))) (sym e) (record {
        next = (state-read (walked_at p.scripts key.0) Waiting some.0, w.keyed, there-walked p.scripts key.0 Waiting some.0);
        heap = w.heap;
        marks = w.marks;
        kept = w.kept;
        linked = w.linked;
      })

-- HOW ANOTHER STANDS THEN, and the one that was changed
module _ (objects : List Object) (key : ℕ) (change : Walked → Walked) where
  -- each script object stands as it did, but for the one at the key
  pub walked-changed : (q : ℕ) → walked_at (change_object objects key (restated change)) q ≡ option_map (at_key key change) (object_at objects q)
  walked-changed q =
      ap (λ os. walked_at os q) (stated-at objects key change)
      ∙ find-renamed (stated (at_key key change)) (λ (o : Object). o.key == q) (λ (o : Object). o.key == q) (λ (o : Object). o.walked) (at_key key change) (λ o. refl) (λ o. refl) objects

  -- the one at the key, where there is one
  pub state-changed : IsTrue (is_there objects key) → state_or_out (walked_at (change_object objects key (restated change)) key) ≡ change (state_or_out (walked_at objects key))
  state-changed there = ap state_or_out (walked-changed key) ∙ go (object_at objects key) refl there
    where
      go : (o : Option Object) → object_at objects key ≡ o → IsTrue (is_some o) →
          state_or_out (option_map (at_key key change) o) ≡ change (state_or_out (option_map (λ (p : Object). p.walked) o))
      go None e t = absurd (cc)
      go (Some o) e t =
          let found : (o.key == key) ≡ true = find-passes (λ (p : Object). p.key == key) objects o e in
          ap (λ b. if b then change o.walked else o.walked) found
