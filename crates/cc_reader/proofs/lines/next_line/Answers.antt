use Rattle.std.proofs.Common.{rules, arith, true, ◌≡◌, ◌<◌, ◌≤◌, ◌+◌, ℕ, List, [], ◌∷◌, ◌++◌, length, length-append, refl, sym, subst, ap, ◌∙◌}
use Rattle.cc_reader.specs.declared.lines.Line.TheVariants.{Text, TooLong, End}
use Rattle.cc_reader.specs.Pending.{weight}
use Rattle.cc_reader.specs.Given.{HasGiven}
use Rattle.cc_reader.specs.Used.{Begins}
use Rattle.cc_reader.proofs.Given.{Begins-line, Begins-byte, Begins-ended, Begins-last, Begins-whole, Begins-broken, Begins-over, whole-spent}
use Rattle.cc_reader.proofs.lines.next_line.Goals as goal

pub returns-then-is_spent-clause-whole : goal.returns-then-is_spent-clause-whole
returns-then-is_spent-clause-whole g c = search (whole-spent, c.is_spent.ensures.0)

pub bytes-init : goal.bytes-init
bytes-init g c = record {
  line = (
    [],
    record { short = λ _. sym c.requires; fits = grind (arith, ap length c.requires); long = λ e. absurd (cc) },
    Begins-line (g.S.Source.left c.args.source.now) c.args.window.now (λ s. let t : c.is_spent.result ≡ true = c.is_spent.ensures.1 s in cc),
    omega arith,
  );
  fits = grind (arith, ap length c.requires);
  calm = refl;
  limit = refl;
  reads = λ start h. h;
}

pub returns-in_err-byte-clause-broken : goal.returns-in_err-byte-clause-broken
returns-in_err-byte-clause-broken g c = λ e start lines.
    let left = g.S.Source.left in
    let i = c.bytes.invariant.line in
    Begins-broken (left c.args.source.now) (left c.bytes.source) (left c.next_byte.new.source) c.args.window.now c.bytes.window c.next_byte.new.self i.0 i.2
    c.in_err-byte.ensures.stop c.in_err-byte.ensures.none c.in_err-byte.ensures.unended (c.in_err-byte.ensures.below (search rules)) start lines

pub returns-in_err-byte-clause-over : goal.returns-in_err-byte-clause-over
returns-in_err-byte-clause-over g c = λ e start lines.
    let left = g.S.Source.left in
    let i = c.bytes.invariant.line in
    Begins-over (left c.args.source.now) (left c.bytes.source) (left c.next_byte.new.source) c.args.window.now c.bytes.window c.next_byte.new.self i.0 i.2
    c.in_err-byte.ensures.stop c.in_err-byte.ensures.none c.in_err-byte.ensures.unended (c.in_err-byte.ensures.over (search rules)) start lines

pub returns-then-byte-eq10-clause-long : goal.returns-then-byte-eq10-clause-long
returns-then-byte-eq10-clause-long g c = λ e.
    let left = g.S.Source.left in
    let i = c.bytes.invariant.line in
    let is : c.ended.result ≡ TooLong = cc in (
      i.0,
      i.1.long (c.ended.ensures.long is),
      Begins-ended (left c.args.source.now) (left c.bytes.source) (left c.next_byte.new.source) c.args.window.now c.bytes.window c.next_byte.new.self i.0 c.in-Some.byte i.2
          (rw c.in-Some.is at c.in_ok-byte.ensures.byte) c.if-byte-eq10.true ((rw c.in-Some.is at c.in_ok-byte.ensures.going) refl),
    )

pub returns-then-byte-eq10-clause-kept : goal.returns-then-byte-eq10-clause-kept
returns-then-byte-eq10-clause-kept g c = λ e start lines h.
    let left = g.S.Source.left in
    let i = c.bytes.invariant.line in
    let is : c.ended.result ≡ Text = cc in
    subst (λ (t : List ℕ). HasGiven start (left c.next_byte.new.source) c.next_byte.new.self (lines ++ t ∷ [])) (i.1.short (c.ended.ensures.text is))
    (Begins-ended (left c.args.source.now) (left c.bytes.source) (left c.next_byte.new.source) c.args.window.now c.bytes.window c.next_byte.new.self i.0 c.in-Some.byte i.2
    (rw c.in-Some.is at c.in_ok-byte.ensures.byte) c.if-byte-eq10.true ((rw c.in-Some.is at c.in_ok-byte.ensures.going) refl) start lines h)

pub bytes-preserved : goal.bytes-preserved
bytes-preserved g c =
    let left = g.S.Source.left in
    let i = c.bytes.invariant.line in
    record {
      line = (
        i.0 ++ c.in-Some.byte ∷ [],
        c.keep-is_long.ensures i.0 i.1,
        Begins-byte (left c.args.source.now) (left c.bytes.source) (left c.next_byte.new.source) c.args.window.now c.bytes.window c.next_byte.new.self i.0 c.in-Some.byte i.2
            (rw c.in-Some.is at c.in_ok-byte.ensures.byte) c.if-byte-eq10.false,
        (let falls : weight c.next_byte.new.self < weight c.bytes.window = (rw c.in-Some.is at c.in_ok-byte.ensures.falls) refl in
            let all : weight c.bytes.window + length i.0 ≤ weight c.args.window.now = i.3 in
            omega (arith, length-append i.0 (c.in-Some.byte ∷ []))),
      );
      fits = (c.keep-is_long.ensures i.0 i.1).fits;
      calm = c.in_ok-byte.ensures.calm ∙ c.bytes.invariant.calm;
      limit = c.next_byte.ensures.limit ∙ c.bytes.invariant.limit;
      reads = λ start h. c.next_byte.ensures.reads start (c.bytes.invariant.reads start h);
    }

pub returns-clause-long : goal.returns-clause-long
returns-clause-long g c = λ e.
    let left = g.S.Source.left in
    let i = c.bytes.invariant.line in
    let is : c.last.result ≡ TooLong = cc in
    let long : 120 < length i.0 = i.1.long (c.last.ensures.long is) in (
      i.0,
      long,
      Begins-last (left c.args.source.now) (left c.bytes.source) (left c.next_byte.new.source) c.args.window.now c.bytes.window c.next_byte.new.self i.0 i.2
          (c.in_ok-byte.ensures.end (search rules)) (c.in_ok-byte.ensures.spent (search rules))
          (λ none. let zero : length i.0 ≡ 0 = ap length none in absurd (omega arith)),
    )

pub returns-clause-whole : goal.returns-clause-whole
returns-clause-whole g c = λ e.
    let left = g.S.Source.left in
    let i = c.bytes.invariant.line in
    let is : c.last.result ≡ End = cc in
    let end = c.last.ensures.end is in
    let nothing : i.0 ≡ [] = i.1.short end.0 ∙ end.1 in
    Begins-whole (left c.args.source.now) (left c.bytes.source) (left c.next_byte.new.source) c.args.window.now c.bytes.window c.next_byte.new.self
    (subst (λ (t : List ℕ). Begins (left c.args.source.now) (left c.bytes.source) c.args.window.now c.bytes.window t) nothing i.2)
    (c.in_ok-byte.ensures.end (search rules)) (c.in_ok-byte.ensures.spent (search rules))

pub returns-clause-kept : goal.returns-clause-kept
returns-clause-kept g c = λ e start lines h.
    let left = g.S.Source.left in
    let i = c.bytes.invariant.line in
    let is : c.last.result ≡ Text = cc in
    let text = c.last.ensures.text is in
    let same : i.0 ≡ c.bytes.text = i.1.short text.0 in
    subst (λ (t : List ℕ). HasGiven start (left c.next_byte.new.source) c.next_byte.new.self (lines ++ t ∷ [])) same
    (Begins-last (left c.args.source.now) (left c.bytes.source) (left c.next_byte.new.source) c.args.window.now c.bytes.window c.next_byte.new.self i.0 i.2
    (c.in_ok-byte.ensures.end (search rules)) (c.in_ok-byte.ensures.spent (search rules)) (λ none. text.1 (sym same ∙ none)) start lines h)
