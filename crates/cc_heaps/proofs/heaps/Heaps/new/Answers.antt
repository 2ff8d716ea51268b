use Rattle.std.proofs.Common.{◌≡◌, ◌==◌, ◌≤◌, ℕ, false, List, [], count_by, length, replicate, Option, None, refl, sym, ◌∙◌, ap, subst, arith, rules}
use Rattle.std.specs.Global.{Vec}
use Rattle.cc_lists.specs.Members.{Among}
use Rattle.cc_names.specs.Allowance.{Allowance}
use Rattle.cc_names.specs.declared.name.Name.{Name}
use Rattle.cc_names.specs.declared.number.NKey.{NKey}
use Rattle.cc_names.specs.declared.number.SKey.{SKey}
use Rattle.cc_names.specs.Names.{same_name, is_native}
use Rattle.cc_names.specs.Sizes.{bank_length}
use Rattle.cc_model.specs.Banks.{IsBankLength}
use Rattle.cc_model.specs.Heap.{Heap, empty_heap}
use Rattle.cc_laws_heap.specs.Sound.{IsSound}
use Rattle.cc_counted.specs.Counts.{Counts, no_counts}
use Rattle.cc_script.specs.Objects.{Object}
use Rattle.cc_weakmaps.specs.Entries.{KeyedEntry}
use Rattle.cc_heaps.specs.declared.heaps.Heaps.TheInside.{Inside}
use Rattle.cc_heaps.specs.ToScan.{Lists, HasRoom}
use Rattle.cc_heaps.specs.Keyed.{Keyed, IsInOrder, reflectors_by}
use Rattle.cc_heaps.specs.Named.{named, script_named, IsLive, IsScriptLive}
use Rattle.cc_heaps.specs.Fields.{keyed_of, IsLinked}
use Rattle.cc_heaps.proofs.Keying.{AreHeldThere}
use Rattle.cc_heaps.proofs.Registers.{none-length, none-mapped, none-each}
use Rattle.cc_model.specs.Graph.{empty_graph}
use Rattle.cc_model.specs.StandsFor.{StandsFor}
use Rattle.cc_laws_heap.proofs.Face.{empty-stands}
use Rattle.cc_heaps.proofs.heaps.Heaps.new.Goals as goal

-- Nothing is there yet

abbrev empty_keyed : Allowance → Keyed
empty_keyed l = record { heap = empty_heap l; keys = []; scripts = []; entries = []; walks = []; marking = None }

empty-sound : (l : Allowance) → IsSound [] (empty_heap l)
empty-sound l = search rules

empty-order : (l : Allowance) → (l.natives ≤ 1000000) × (l.scripts ≤ 1000000) → IsInOrder [] (empty_keyed l)
empty-order l few = record {
  sound = empty-sound l;
  keyed = record { key_of = λ n m. absurd m; there = λ key k e. absurd (cc); one_key = λ p q k e f. absurd (cc); rising = tt };
  named = refl;
  one_key = λ key. omega arith;
  whole = λ o q m. absurd m;
  reflecting = λ o m. absurd m;
  limits = few;
  entries = refl;
  entries_there = λ e m. absurd m;
}

-- a bank is no shorter
shortest : IsBankLength bank_length
shortest = record { enough = omega arith; allowed = omega arith }

module _ (natives : Vec (Option NKey)) (scripts : Vec (Option SKey)) (limits : Allowance) (lists : Lists) {counted : Counts} {objects : List Object} {weak : List KeyedEntry}
    (no_natives : natives.items ≡ replicate bank_length None) (no_scripts : scripts.items ≡ replicate bank_length None) (none_counted : counted ≡ no_counts) (none_made : objects ≡ []) (none_set : weak ≡ [])
    (no_marking : lists.marking ≡ None) where
  abbrev p : Inside
  p = record { native_registers = natives; script_registers = scripts; counted = counted; scripts = objects; weak = weak; to_scan = lists; natives_made = 0; scripts_made = 0; limits = limits }

  empty-is : keyed_of p ≡ empty_keyed limits
  empty-is =
      (λ i. keyed_of (record p { counted = none_counted i; scripts = none_made i; weak = none_set i }))
      ∙ (λ i. record {
        heap = record (empty_heap limits) {
          native_registers = none-mapped bank_length natives.items no_natives (named []) refl i;
          script_registers = none-mapped bank_length scripts.items no_scripts (script_named []) refl i;
        };
        keys = [];
        scripts = [];
        entries = [];
        walks = [];
        marking = no_marking i;
      })

  empty-linked : IsLinked p
  empty-linked = record {
    native_registers = none-each bank_length natives.items no_natives (IsLive counted.keys) tt;
    script_registers = none-each bank_length scripts.items no_scripts (IsScriptLive objects) tt;
    registers = (subst IsBankLength (sym (none-length bank_length natives.items no_natives)) shortest, subst IsBankLength (sym (none-length bank_length scripts.items no_scripts)) shortest);
    held = subst (λ (c : Counts). AreHeldThere objects c.natives) (sym none_counted) (λ n x m. absurd m);
    one_key = subst (λ os. (key : ℕ) → count_by (λ (o : Object). o.key == key) os ≤ 1) (sym none_made) (λ key. omega arith);
    one_name = subst (λ os. (x : Name) → count_by (λ (o : Object). same_name o.name x) os ≤ 1) (sym none_made) (λ x. omega arith);
    reflectors = ap (λ (c : Counts). c.reflectors) none_counted ∙ sym (ap (λ (c : Counts). reflectors_by objects c.keys) none_counted);
    script_names = subst (λ os. (o : Object) → Among o os → is_native o.name ≡ false) (sym none_made) (λ o m. absurd m);
    room = subst (λ (os : List Object). HasRoom lists (length os)) (sym none_made) (omega arith, omega arith);
  }

pub returns-clause-empty : goal.returns-clause-empty
returns-clause-empty c =
    ap (λ (v : Keyed). v.heap) (empty-is c.in_ok-no_natives.field-0 c.in_ok-no_scripts.field-0 c.args.limits c.new-4.result c.in_ok-no_natives.ensures c.in_ok-no_scripts.ensures c.new.ensures.natives c.new-2.ensures c.new-3.ensures c.new-4.ensures)

pub returns-clause-order : goal.returns-clause-order
returns-clause-order c =
    subst (IsInOrder []) (sym (empty-is c.in_ok-no_natives.field-0 c.in_ok-no_scripts.field-0 c.args.limits c.new-4.result c.in_ok-no_natives.ensures c.in_ok-no_scripts.ensures c.new.ensures.natives c.new-2.ensures c.new-3.ensures c.new-4.ensures))
    (empty-order c.args.limits (omega (arith, c.natives.ensures.same, c.natives.ensures.within), omega (arith, c.scripts.ensures.same, c.scripts.ensures.within)))

pub invariant_of-result : goal.invariant_of-result
invariant_of-result c =
    empty-linked c.in_ok-no_natives.field-0 c.in_ok-no_scripts.field-0 c.args.limits c.new-4.result c.in_ok-no_natives.ensures c.in_ok-no_scripts.ensures c.new.ensures.natives c.new-2.ensures c.new-3.ensures c.new-4.ensures

pub returns-clause-stands : goal.returns-clause-stands
returns-clause-stands c = subst (λ (h : Heap). StandsFor h (empty_graph c.args.limits)) (sym (returns-clause-empty c)) (empty-stands c.args.limits)
