use Rattle.std.proofs.Common.{◌≡◌, ◌-◌, ◌++◌, [], length, take, sym, ap, ◌∙◌}
use Rattle.std.proofs.lemmas.Bool.Decides.{Decides-eqb}
use Rattle.std.proofs.lemmas.Slice.Eq.{slice_eq-Decides}
use Rattle.cc_model.specs.Texts.{words_of, text_of}
use Rattle.cc_check.proofs.Texts.{take-fed}
use Rattle.cc_check.proofs.heard.is_text_of.Goals as goal

pub returns : goal.returns
returns c =
    let out = c.write_item.new.out in
    let written : out ≡ [] ++ text_of c.args.item.now = c.write_item.ensures ∙ ap (λ bs. bs ++ text_of c.args.item.now) c.new-line.ensures in
    let cut : take (length c.bytes.result.now - 1) c.bytes-2.result.now ≡ words_of c.args.item.now =
    ap (λ n. take (length n - 1) c.bytes-2.result.now) c.bytes.ensures ∙ (ap (take (length out - 1)) c.bytes-2.ensures ∙ take-fed out (words_of c.args.item.now) written) in
    let same = slice_eq-Decides Decides-eqb c.args.text.now _ c.eq.result c.eq.ensures in
    (λ t. same.0 t ∙ cut, λ e. same.1 (e ∙ sym cut))
