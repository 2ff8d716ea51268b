-- HOW A CHECK ENDS: from lines that were given and tried to what is told of the bytes taken.
use Rattle.std.proofs.Common.{◌≡◌, ℕ, ◌+◌, ◌-◌, ◌≤◌, Bool, true, false, List, [], length, Option, Result, Err, refl, sym, ap, ◌∙◌, subst, arith}
use Rattle.cc_names.specs.Allowance.{Allowance}
use Rattle.cc_outside.specs.Reads.{Reads}
use Rattle.cc_reader.specs.declared.lines.Line.{Line}
use Rattle.cc_reader.specs.declared.read_stop.ReadStop.{ReadStop}
use Rattle.cc_reader.specs.declared.read_stop.ReadStop.TheVariants as stop
use Rattle.cc_reader.specs.Pending.{Pending, nothing_read}
use Rattle.cc_reader.specs.Given.{HasGiven, AreAllGiven, IsBroken, IsOver}
use Rattle.cc_reader.specs.HasRead.{HasRead, ReadsBytes, ReadsOn, ReadsToEnd}
use Rattle.cc_reader.proofs.Given.{HasGiven-none, HasRead-none}
use Rattle.cc_check.specs.declared.trial.Trial.{Trial}
use Rattle.cc_check.specs.Checked.{Ends, ReadsWhole, IsOverLimit}
use Rattle.cc_check.specs.Tried.{AreAllTried, AreTried, GoesOnTrying, IsTried, IsWithin, moment}

-- NO MORE IS TAKEN THAN MAY BE
pub given-within : (start now : Option (List ℕ)) (p : Pending) (lines : List (List ℕ)) → HasGiven start now p lines → IsWithin p
given-within start now p lines h = record { most = h.most; at_end = λ e. (h.at_end e).1 }

pub whole-within : (start now : Option (List ℕ)) (p : Pending) (lines : List (List ℕ)) → AreAllGiven start now p lines → IsWithin p
whole-within start now p lines h = record { most = omega (arith, h.counted, h.within); at_end = λ e. omega (arith, h.counted, h.within) }

broken-within : (start now : Option (List ℕ)) (p : Pending) (lines : List (List ℕ)) → IsBroken start now p lines → IsWithin p
broken-within start now p lines h = record { most = omega (arith, h.counted, h.within); at_end = λ e. omega (arith, h.counted, h.within) }

over-within : (start now : Option (List ℕ)) (p : Pending) (lines : List (List ℕ)) → IsOver start now p lines → IsWithin p
over-within start now p lines h = record { most = omega (arith, h.counted, h.above); at_end = λ e. absurd (let both : true ≡ false = sym e ∙ h.going in cc) }

pub stop-within : (start now : Option (List ℕ)) (p : Pending) (lines : List (List ℕ)) (why : ReadStop) (r : Result Line ReadStop) → r ≡ Err why →
    (r ≡ Err stop.Fault → IsBroken start now p lines) → (r ≡ Err stop.Limit → IsOver start now p lines) → IsWithin p
stop-within start now p lines stop.Fault r e broken over = broken-within start now p lines (broken e)
stop-within start now p lines stop.Limit r e broken over = over-within start now p lines (over e)

-- FROM A READER THAT BEGINS
module _ (limits : Allowance) (script : List ℕ) (left now : Option (List ℕ)) (r₀ r₁ : Reads) (p q : Pending) (t u : Trial)
    (small : length script ≤ limits.bytes) (begins : p ≡ nothing_read (limits.bytes - length script)) (limit : q.limit ≡ p.limit)
    (reads : ReadsOn r₀ r₁ p q) (tried : IsTried limits script t []) where
  abbrev e : Ends
  e = record { left = left; left_now = now; reads = r₀; reads_now = r₁ }

  first : AreTried HasGiven limits script left (moment left p t)
  first = record {
    lines = [];
    given = subst (λ (w : Pending). HasGiven left left w []) (sym begins) (HasGiven-none left (limits.bytes - length script));
    tried = tried;
  }

  bytes : q.limit + length script ≡ limits.bytes
  bytes = omega (arith, limit, ap (λ (w : Pending). w.limit) begins, small)

  read : HasRead r₀ r₁ q
  read = reads r₀ (subst (HasRead r₀ r₀) (sym begins) (HasRead-none r₀ (limits.bytes - length script)))

  -- the source is at its end
  whole : (lines : List (List ℕ)) (h : AreAllGiven left now q lines) → ReadsWhole limits.bytes script e h.given
  whole lines h = record {
    consumed = h.consumed;
    at_end = h.at_end;
    within = omega (arith, h.within, bytes);
    reads = subst (ReadsToEnd r₀ r₁) (sym h.counted) (read.at_end h.ended);
  }

  -- its lines were tried, all of them
  pub all-tried : GoesOnTrying AreAllGiven (moment left p t) (moment now q u) → (taken : ℕ) → taken ≡ q.taken → AreAllTried limits script e u taken
  all-tried goes taken is =
      let l = goes limits script left first in
      record {
        given = l.given.given;
        whole = whole l.lines l.given;
        counted = l.given.counted ∙ sym is;
        tried = subst (IsTried limits script u) l.given.lines_are l.tried;
      }

  -- the limit was passed
  pub found-over : GoesOnTrying IsOver (moment left p t) (moment now q u) → IsOverLimit limits script e
  found-over goes =
      let l = goes limits script left first in
      record {
        given = l.given.given;
        consumed = l.given.consumed;
        above = omega (arith, l.given.above, bytes);
        reads = subst (ReadsBytes r₀ r₁) (sym l.given.counted) (read.going l.given.going);
      }

  -- no read said the end where one failed
  pub broken-unended : GoesOnTrying IsBroken (moment left p t) (moment now q u) → r₁.ended ≡ r₀.ended
  broken-unended goes = (read.going (goes limits script left first).given.going).ended

  -- the reads that were answered
  pub reads-within : ((limits : Allowance) (script : List ℕ) (start : Option (List ℕ)) → AreTried HasGiven limits script start (moment left p t) → IsWithin q) →
      r₁.answered + length script ≤ r₀.answered + limits.bytes + 1
  reads-within within = by_end q.ended refl
    where
      by_end : (b : Bool) → q.ended ≡ b → r₁.answered + length script ≤ r₀.answered + limits.bytes + 1
      by_end false going = omega (arith, (read.going going).answered, (within limits script left first).most, bytes)
      by_end true ended = omega (arith, (read.at_end ended).answered, (within limits script left first).at_end ended, bytes)
