-- ROOM WAS MADE for one more script object, or a part of it where memory was wanting: nothing else is changed.
use Rattle.std.proofs.Common.{◌≡◌, ℕ, List, refl, sym, subst, arith}
use Rattle.std.specs.Prelude.{Result, Ok, Err, OnErr}
use Rattle.cc_heaps.specs.ToScan.{Lists, HasMoreRoom}
use Rattle.cc_heaps.specs.Marks.{KeepsMarks}
use Rattle.cc_heaps.specs.Keyed.{Keyed, IsInOrder}
use Rattle.cc_heaps.specs.Changes.{KeepsKeys}
use Rattle.cc_heaps.specs.Fields.{keyed_of, IsLinked}
use Rattle.cc_heaps.specs.declared.heaps.Heaps.TheInside.{Inside}
use Rattle.cc_heaps.proofs.KeysKept.{KeepsKeys-same}
use Rattle.cc_heaps.proofs.MarksKept.{marks-stay}

-- the parts with other lists of what is to be scanned
abbrev pub with_lists : Inside → Lists → Inside
with_lists p lists = record p { to_scan = lists }

module _ (p : Inside) (lists : Lists) (same : lists.marking ≡ p.to_scan.marking) where
  pub reserved-keyed : keyed_of (with_lists p lists) ≡ keyed_of p
  reserved-keyed = λ i. record (keyed_of p) { marking = same i }

  pub reserved-linked : HasMoreRoom p.to_scan lists → IsLinked p → IsLinked (with_lists p lists)
  reserved-linked more l = record {
    native_registers = l.native_registers;
    script_registers = l.script_registers;
    registers = l.registers;
    held = l.held;
    one_key = l.one_key;
    one_name = l.one_name;
    reflectors = l.reflectors;
    script_names = l.script_names;
    room = (omega (arith, l.room.0, more.0), omega (arith, l.room.1, more.1));
  }

-- Where nothing is changed

-- whatever a call answers
pub on-error : {T E P : Type 0} (r : Result T E) → P → OnErr r P
on-error (Ok x) p = tt
on-error (Err e) p = p

pub keys-unchanged : (v w : Keyed) → w ≡ v → KeepsKeys v w
keys-unchanged v w same = subst (KeepsKeys v) (sym same) (KeepsKeys-same v)

pub marks-unchanged : (v w : Keyed) → w ≡ v → KeepsMarks v w
marks-unchanged v w same = subst (KeepsMarks v) (sym same) (marks-stay v v refl refl)

pub order-unchanged : (v w : Keyed) → w ≡ v → (owned : List ℕ) → IsInOrder owned v → IsInOrder owned w
order-unchanged v w same owned o = subst (IsInOrder owned) (sym same) o
