use Rattle.std.proofs.Common.{◌≡◌, Some, sym, subst}
use Rattle.cc_lists.specs.Members.{Among}
use Rattle.cc_script.specs.Objects.{Object, object_at}
use Rattle.cc_script.specs.Marking.{Marking}
use Rattle.cc_script.specs.Underway.{IsMarked}
use Rattle.cc_script.specs.Parts.{lists_of, marking_of}
use Rattle.cc_script.proofs.Places.{object_at-own}
use Rattle.cc_script.proofs.Underway.{first-marked, marked-there}
use Rattle.cc_script.proofs.parts.ScriptParts.look_into_first.Goals as goal

pub follow_first-requires-clause-there : goal.follow_first-requires-clause-there
follow_first-requires-clause-there c = marked-there c.args.to (marking_of c.args.self.now) c.requires.begun.marked

pub returns-clause-begun : goal.returns-clause-begun
returns-clause-begun c =
    let looked = c.follow_first.ensures.looked in
    let under_way = c.follow_first.ensures.under_way in
    record {
      under_way = under_way;
      marked = subst (IsMarked c.args.to) (sym looked)
          (first-marked c.args.to (marking_of c.args.self.now) c.requires.whole
          (subst (λ (z : Marking). (o : Object) → Among o z.objects → object_at z.objects o.key ≡ Some o) looked (object_at-own (lists_of c.follow_first.new.self) under_way.placed))
          c.requires.begun.marked);
    }
