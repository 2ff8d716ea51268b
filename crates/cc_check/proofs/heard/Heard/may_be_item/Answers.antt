use Rattle.std.proofs.Common.{◌≡◌, ◌<◌, Some, length, get_or, sym, arith}
use Rattle.cc_check.proofs.ItemLines.{long-no_item, other-no_item}
use Rattle.cc_check.proofs.heard.Heard.may_be_item.Goals as goal

pub returns-in_default : goal.returns-in_default
returns-in_default c = λ no line hd.
    let long : 120 < length line = grind arith in
    long-no_item line long

pub returns-then-mark-eq45 : goal.returns-then-mark-eq45
returns-then-mark-eq45 c = λ no line hd.
    let some : 0 < length line = grind arith in
    let here : get_or line 0 0 ≡ 45 = grind arith in
    other-no_item line 45 some (sym here) (λ e. omega arith) (λ e. omega arith) (λ e. omega arith) (λ e. omega arith)
    (λ f small is. let found : c.event.result ≡ Some f = c.event.ensures.complete line f hd is small in grind arith)
