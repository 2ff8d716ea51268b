use Rattle.std.proofs.Common.{◌≡◌, ◌^◌, ◌<◌, ap, ◌∙◌, arith}
use Rattle.std.specs.Result.{result_ok}
use Rattle.std.proofs.lemmas.Fmt.{IsAscii-decimal, parse-decimal}
use Rattle.std.proofs.lemmas.Str.{IsUtf8-from_ascii}
use Rattle.cc_check.proofs.heard.number_in.Goals as goal

pub returns-in_err-ok : goal.returns-in_err-ok
returns-in_err-ok c = grind (arith, IsAscii-decimal, IsUtf8-from_ascii)

pub returns : goal.returns
returns c = λ n is small.
    let few : n < 2 ^ 32 = omega arith in
    let wide : n < 2 ^ 64 = omega arith in
    let same : c.in_ok-ok.field-0.now ≡ c.args.text.now = grind arith in
    c.ok-2.ensures.value ∙ ap result_ok (parse-decimal 32 n c.in_ok-ok.field-0.now c.parse.result few wide (same ∙ is) c.parse.ensures.value.0)
