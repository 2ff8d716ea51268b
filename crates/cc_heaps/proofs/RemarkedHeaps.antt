-- THE HEAPS WITH OTHER NEW MARKS, and other lists of what is to be scanned: nothing else of them changes.
use Rattle.std.proofs.Common.{◌≡◌, ℕ, false, List, map, length, Option, refl, sym, ◌∙◌, ap, subst}
use Rattle.std.proofs.lemmas.List.{map-id}
use Rattle.cc_lists.proofs.ListWrites.{each-map, map-agree}
use Rattle.cc_names.specs.Names.{is_native}
use Rattle.cc_names.specs.declared.kind.Colour.{Colour}
use Rattle.cc_script.specs.Objects.{Object}
use Rattle.cc_heaps.specs.ToScan.{ToScan, Lists, HasRoom}
use Rattle.cc_heaps.specs.Keyed.{Keyed, IsInOrder, named_entries, named_entry, named_objects}
use Rattle.cc_heaps.specs.Changes.{KeepsKeys}
use Rattle.cc_heaps.specs.Standing.{KeepsColours, KeepsFresh, KeepsSuspected, StillStands}
use Rattle.cc_heaps.specs.Keeping.{KeepsAllButMarks}
use Rattle.cc_heaps.specs.Fields.{heap_of, keyed_of, IsLinked}
use Rattle.cc_heaps.specs.NewMarks.{IsRemarked}
use Rattle.cc_heaps.specs.declared.heaps.Heaps.TheInside.{Inside}
use Rattle.cc_heaps.proofs.FewCounts.{few-owned}
use Rattle.cc_heaps.proofs.ObjectsKept.{entry-same}
use Rattle.cc_heaps.proofs.ScriptCalls.{becomes-written}
use Rattle.cc_heaps.proofs.ScriptsChanged.{HoldsSame, heap-held, registers-held, natives-held, with_objects}
use Rattle.cc_heaps.proofs.ScriptWrites.{KeepsObjects, KeepsNames-written, name_at-written, named-written, one_key-written, reflectors-written, whole-written}
use Rattle.cc_heaps.proofs.Remarked.{KeepsObjects-remarked, one_name-remarked, remarked}

-- the lists are others
order-listed : (owned : List ℕ) (v : Keyed) (m : Option ToScan) → IsInOrder owned v → IsInOrder owned (record v { marking = m })
order-listed owned v m o = record {
  sound = o.sound;
  keyed = record { key_of = o.keyed.key_of; there = o.keyed.there; one_key = o.keyed.one_key; rising = o.keyed.rising };
  named = o.named;
  one_key = o.one_key;
  whole = o.whole;
  reflecting = o.reflecting;
  limits = o.limits;
  entries = o.entries;
  entries_there = o.entries_there;
}

-- the parts with other new marks
pub record AreRemarked (p q : Inside) : Type 0 where
  pub heap : heap_of q ≡ heap_of p
  pub rest : keyed_of q ≡ record (keyed_of p) { scripts = q.scripts; marking = q.to_scan.marking }
  pub kept : KeepsAllButMarks (keyed_of p) (keyed_of q)
  pub stands : StillStands (heap_of p) (heap_of q)
  pub linked : IsLinked q

module _ (p : Inside) (l : IsLinked p) (marks : Object → Colour) (lists : Lists) (room : HasRoom lists (length (map (remarked marks) p.scripts))) where
  abbrev next : List Object
  next = map (remarked marks) p.scripts

  abbrev after : Inside
  after = record p { scripts = next; to_scan = lists }

  keeps : KeepsObjects (remarked marks)
  keeps = KeepsObjects-remarked marks

  named-next : named_objects next ≡ named_objects p.scripts
  named-next = named-written (remarked marks) keeps p.scripts (λ o. o) (λ o m. refl) ∙ map-id (named_objects p.scripts)

  entries-next : named_entries next p.weak ≡ named_entries p.scripts p.weak
  entries-next = map-agree (named_entry next) (named_entry p.scripts) p.weak
      (λ e m. entry-same next p.scripts e (λ key i. name_at-written (remarked marks) keeps p.scripts key))

  holds : HoldsSame p next
  holds = record {
    registers = λ key m. name_at-written (remarked marks) keeps p.scripts key.0;
    natives = λ n key m i. name_at-written (remarked marks) keeps p.scripts key;
  }

  heap-next : heap_of after ≡ heap_of p
  heap-next = heap-held p next l.held holds ∙ (λ i. record (heap_of p) { scripts = named-next i; entries = entries-next i })

  order-next : (owned : List ℕ) → IsInOrder owned (keyed_of p) → IsInOrder owned (keyed_of after)
  order-next owned o = order-listed owned (keyed_of (with_objects p next p.scripts_made)) lists.marking
      (becomes-written p l o (remarked marks) keeps (heap_of p) (ap (λ scripts. record (heap_of p) { scripts = scripts }) named-next) o.sound
      (whole-written (remarked marks) keeps p.scripts (λ q k m. o.whole q k m))).order

  keys-next : KeepsKeys (keyed_of p) (keyed_of after)
  keys-next = record { natives = λ key k at there. at; scripts = λ key x at there. KeepsNames-written (remarked marks) keeps p.scripts key x at }

  linked-next : IsLinked after
  linked-next = record {
    native_registers = l.native_registers;
    script_registers = registers-held p next l.held holds l.script_registers;
    registers = l.registers;
    held = natives-held p next l.held holds;
    one_key = one_key-written (remarked marks) keeps p.scripts l.one_key;
    one_name = one_name-remarked p.scripts next (marks, refl) l.one_name;
    reflectors = l.reflectors ∙ sym (reflectors-written (remarked marks) keeps p.scripts p.counted.keys);
    script_names = each-map (λ (o : Object). is_native o.name ≡ false) (remarked marks) p.scripts l.script_names;
    room = room;
  }

  are-remarked : AreRemarked p after
  are-remarked = record {
    heap = heap-next;
    rest = λ i. record (keyed_of p) { heap = heap-next i; scripts = next; marking = lists.marking };
    kept = record {
      keys = keys-next;
      order = order-next;
      counts = few-owned (keyed_of after);
      colours = subst (KeepsColours (heap_of p)) (sym heap-next) (λ k. k);
      fresh = subst (KeepsFresh (heap_of p)) (sym heap-next) (λ s k. k);
      suspected = subst (KeepsSuspected (heap_of p)) (sym heap-next) (λ candidates k. k);
      marks = tt;
    };
    stands = subst (StillStands (heap_of p)) (sym heap-next) (λ g m k. k);
    linked = linked-next;
  }

-- THE HEAPS ARE AS THEY WERE but for new marks and lists
pub heaps-remarked : (p : Inside) → IsLinked p → (objects : List Object) (lists : Lists) → IsRemarked p.scripts objects → HasRoom lists (length objects) →
    AreRemarked p (record p { scripts = objects; to_scan = lists })
heaps-remarked p l objects lists same room = subst (λ os. AreRemarked p (record p { scripts = os; to_scan = lists })) (sym same.1)
    (are-remarked p l same.0 lists (subst (λ os. HasRoom lists (length os)) same.1 room))
