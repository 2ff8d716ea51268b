use Rattle.std.proofs.Common.{◌≡◌, ◌-◌, ◌+◌, set, count_by, rules, sym, ◌∙◌, ap, arith, inl}
use Rattle.cc_holders.specs.Entries.{in_page, is_known, is_marked}
use Rattle.cc_holders.proofs.Counting.{are-unknown, count-written, marked-known, none-known}
use Rattle.cc_holders.proofs.Places.{page-written}
use Rattle.cc_holders.proofs.page.Page.put.Goals as goal

pub invariant_of-self : goal.invariant_of-self
invariant_of-self c =
    let es = c.self.inside.entries.items in
    let written = set es c.args.place c.args.entry in
    let known : c.self.inside.known + c.count_known.result - c.count_known-2.result ≡ count_by is_known written
    = count-written is_known es c.args.place c.args.entry c.index-old.result.now _ _ _ (search rules) c.index-old.ensures c.self.invariant.known_in c.count_known.ensures c.count_known-2.ensures in
    let marked : c.self.inside.marked + c.count_marked.result - c.count_marked-2.result ≡ count_by is_marked written
    = count-written is_marked es c.args.place c.args.entry c.index-old.result.now _ _ _ (search rules) c.index-old.ensures c.self.invariant.marked_in c.count_marked.ensures c.count_marked-2.ensures in
    let none : count_by is_known written ≡ 0 = sym known ∙ c.if-self-eq0.true in
    let fewer = marked-known written in
    let no_mark : count_by is_marked written ≡ 0 = omega (arith, fewer, none) in
    record {
      whole = inl c.new.ensures.items;
      known_in = c.if-self-eq0.true ∙ sym (ap (count_by is_known) c.new.ensures.items);
      marked_in = marked ∙ (no_mark ∙ sym (ap (count_by is_marked) c.new.ensures.items));
    }

pub returns-then-self-eq0-clause-put : goal.returns-then-self-eq0-clause-put
returns-then-self-eq0-clause-put c = λ i.
    let es = c.self.inside.entries.items in
    let written = set es c.args.place c.args.entry in
    let known : c.self.inside.known + c.count_known.result - c.count_known-2.result ≡ count_by is_known written
    = count-written is_known es c.args.place c.args.entry c.index-old.result.now _ _ _ (search rules) c.index-old.ensures c.self.invariant.known_in c.count_known.ensures c.count_known-2.ensures in
    ap (λ xs. in_page xs i) c.new.ensures.items
    ∙ (sym (are-unknown written (sym known ∙ c.if-self-eq0.true) i)
    ∙ (page-written es c.args.place i c.args.entry (search rules) ∙ search rules))

pub returns-else-self-eq0-clause-given_back : goal.returns-else-self-eq0-clause-given_back
returns-else-self-eq0-clause-given_back c = λ unknown.
    let es = c.self.inside.entries.items in
    let written = set es c.args.place c.args.entry in
    let known : c.self.inside.known + c.count_known.result - c.count_known-2.result ≡ count_by is_known written
    = count-written is_known es c.args.place c.args.entry c.index-old.result.now _ _ _ (search rules) c.index-old.ensures c.self.invariant.known_in c.count_known.ensures c.count_known-2.ensures in
    absurd (c.if-self-eq0.false (known ∙ none-known written unknown))
