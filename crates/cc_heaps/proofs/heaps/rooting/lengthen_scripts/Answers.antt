use Rattle.std.proofs.Common.{◌≡◌, ◌-◌, ◌++◌, length, replicate, take, vec_len, None, ◌∙◌, ap, arith}
use Rattle.cc_heaps.proofs.Lengthened.{filled-up, left-long}
use Rattle.cc_heaps.proofs.heaps.rooting.lengthen_scripts.Goals as goal

pub returns-in_ok-resize-clause-items : goal.returns-in_ok-resize-clause-items
returns-in_ok-resize-clause-items c =
    let items = c.args.bank.now.items in
    let same : vec_len c.args.bank.now ≡ length c.args.bank.now.items = omega (arith, c.args.bank.now.ok.0) in
    c.in_ok-resize.ensures.items
    ∙ (ap (λ k. take c.args.places items ++ replicate (c.args.places - k) None) same ∙ filled-up items c.args.places (omega (arith, same)))

pub returns-else-len-places-clause-items : goal.returns-else-len-places-clause-items
returns-else-len-places-clause-items c =
    let same : vec_len c.args.bank.now ≡ length c.args.bank.now.items = omega (arith, c.args.bank.now.ok.0) in
    left-long c.args.bank.now.items c.args.places (omega (arith, same))
