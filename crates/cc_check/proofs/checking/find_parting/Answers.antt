use Rattle.std.proofs.Common.{◌≡◌, ℕ, List, length, ap, arith}
use Rattle.cc_check.specs.declared.parting.Parting.TheVariants.{End, Lawful, Line}
use Rattle.cc_check.proofs.Read.{found-early, found-lawful, found-parted, given-all}
use Rattle.cc_check.proofs.checking.find_parting.Goals as goal

pub returns-clause-lawful : goal.returns-clause-lawful
returns-clause-lawful g c = λ is.
    let found : c.parting.result ≡ Lawful = cc in
    found-lawful c.args.limits c.args.script.now _ c.in_ok-tried.tried.0 c.in_ok-tried.tried.1 c.in_ok-tried.ensures.tried
    (λ text count tried. c.parting.ensures.lawful found c.args.limits c.args.script.now text count tried)

pub returns-clause-line : goal.returns-clause-line
returns-clause-line g c = λ b is.
    let found : c.parting.result ≡ Line b = cc in
    found-parted c.args.limits c.args.script.now _ c.in_ok-tried.tried.0 c.in_ok-tried.tried.1 c.in_ok-tried.ensures.tried b
    (λ lines tried. c.parting.ensures.line b found c.args.limits c.args.script.now lines tried)

pub returns-clause-end : goal.returns-clause-end
returns-clause-end g c = λ is.
    let found : c.parting.result ≡ End = cc in
    found-early c.args.limits c.args.script.now _ c.in_ok-tried.tried.0 c.in_ok-tried.tried.1 c.in_ok-tried.ensures.tried
    (λ text count tried. c.parting.ensures.end found c.args.limits c.args.script.now text count tried)

pub returns-clause-over_always : goal.returns-clause-over_always
returns-clause-over_always g c = λ bytes known above still room.
    let all = c.in_ok-tried.ensures.tried in
    absurd (omega (arith, all.whole.within, ap (λ (bs : List ℕ). length bs) (given-all _ _ all.given bytes all.whole.consumed all.whole.at_end known)))
