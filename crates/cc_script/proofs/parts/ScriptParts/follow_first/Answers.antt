use Rattle.std.proofs.Common.{ℕ, List, Option, Some, drop, ap, sym, subst, ◌∙◌, refl, inl, arith}
use Rattle.cc_lists.specs.Members.{Among}
use Rattle.cc_script.specs.Objects.{Object, is_there, places_at}
use Rattle.cc_script.specs.Lists.{Lists, objects_of, IsPlaced}
use Rattle.cc_script.specs.Marking.{Marking, AreRaised}
use Rattle.cc_script.specs.Parts.{shows, marking_of}
use Rattle.cc_script.proofs.Raising.{raised-front, raised-none}
use Rattle.cc_script.proofs.Popping.{front-popped, none-popped}
use Rattle.cc_script.proofs.Chained.{lists-waiting, marking-is}
use Rattle.cc_script.proofs.Underway.{first-looked, looked-none, places-there}
use Rattle.cc_script.proofs.parts.ScriptParts.follow_first.Goals as goal

pub pop_front-requires : goal.pop_front-requires
pop_front-requires c = ((marking_of c.args.self.now).waiting, c.requires.under_way.chained.waiting)

-- objects, and those that wait
abbrev marking : List Object → List ℕ → Marking
marking objects waiting = record { objects = objects; waiting = waiting }

pub returns-in_err-key-clause-looked : goal.returns-in_err-key-clause-looked
returns-in_err-key-clause-looked c =
    let p = c.args.self.now in
    let m = marking_of p in
    let u = c.requires.under_way in
    let popped = c.pop_front.ensures.keys m.waiting u.chained.waiting in
    let a = lists-waiting p u.chained c.pop_front.new.store c.pop_front.new.self _ popped c.pop_front.ensures.rest in
    let emptied = none-popped m.waiting (sym c.in_err-key.was ∙ c.pop_front.ensures.first m.waiting u.chained.waiting) in
    marking-is _ _ _ a ∙ (ap (marking (shows p)) (ap (drop 1) emptied ∙ sym emptied) ∙ sym (looked-none c.args.to m emptied))

pub returns-in_err-key-clause-under_way : goal.returns-in_err-key-clause-under_way
returns-in_err-key-clause-under_way c =
    let p = c.args.self.now in
    let m = marking_of p in
    let u = c.requires.under_way in
    let popped = c.pop_front.ensures.keys m.waiting u.chained.waiting in
    let a = lists-waiting p u.chained c.pop_front.new.store c.pop_front.new.self _ popped c.pop_front.ensures.rest in
    let emptied = none-popped m.waiting (sym c.in_err-key.was ∙ c.pop_front.ensures.first m.waiting u.chained.waiting) in
    let parts = record p { cells = c.pop_front.new.store; waiting = c.pop_front.new.self } in
    record {
      placed = subst IsPlaced (sym a.lists) u.placed;
      chained = a.chained;
      raised = raised-none c.args.to (shows parts) (marking_of parts).waiting (a.waits ∙ ap (drop 1) emptied);
    }

pub raise_places-requires-clause-under_way : goal.raise_places-requires-clause-under_way
raise_places-requires-clause-under_way c =
    let p = c.args.self.now in
    let m = marking_of p in
    let u = c.requires.under_way in
    let popped = c.pop_front.ensures.keys m.waiting u.chained.waiting in
    let a = lists-waiting p u.chained c.pop_front.new.store c.pop_front.new.self _ popped c.pop_front.ensures.rest in
    let front = front-popped m.waiting c.in_ok-key.key (sym c.in_ok-key.was ∙ c.pop_front.ensures.first m.waiting u.chained.waiting) in
    record {
      placed = subst IsPlaced (sym a.lists) u.placed;
      chained = a.chained;
      raised = subst (AreRaised c.args.to) (sym (marking-is _ _ _ a)) (raised-front c.args.to m c.in_ok-key.key (drop 1 m.waiting) front u.raised);
    }

pub raise_places-requires-clause-live : goal.raise_places-requires-clause-live
raise_places-requires-clause-live c =
    let p = c.args.self.now in
    let m = marking_of p in
    let u = c.requires.under_way in
    let popped = c.pop_front.ensures.keys m.waiting u.chained.waiting in
    let a = lists-waiting p u.chained c.pop_front.new.store c.pop_front.new.self _ popped c.pop_front.ensures.rest in
    let front = front-popped m.waiting c.in_ok-key.key (sym c.in_ok-key.was ∙ c.pop_front.ensures.first m.waiting u.chained.waiting) in
    ap (λ (l : Lists). is_there (objects_of l) c.in_ok-key.key) a.lists
    ∙ c.requires.there c.in_ok-key.key (subst (Among c.in_ok-key.key) (sym front) (inl refl))

pub raise_places-requires-clause-held : goal.raise_places-requires-clause-held
raise_places-requires-clause-held c q n =
    let p = c.args.self.now in
    let m = marking_of p in
    let u = c.requires.under_way in
    let popped = c.pop_front.ensures.keys m.waiting u.chained.waiting in
    let a = lists-waiting p u.chained c.pop_front.new.store c.pop_front.new.self _ popped c.pop_front.ensures.rest in
    ap (λ (l : Lists). is_there (objects_of l) q) a.lists
    ∙ places-there (shows p) c.in_ok-key.key q c.requires.whole
    (subst (λ (xs : List (Option ℕ)). Among (Some q) xs) (ap (λ (l : Lists). places_at (objects_of l) c.in_ok-key.key) a.lists) n)

pub returns-clause-looked : goal.returns-clause-looked
returns-clause-looked c = grind (arith, lists-waiting, front-popped, marking-is, first-looked, c.pop_front.ensures.keys, c.pop_front.ensures.first)
