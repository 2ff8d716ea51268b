use Rattle.std.proofs.Common.{◌≡◌, List, ℕ, ◌<◌, length, map, ◌∙◌, ap, sym, subst, arith, flat_map}
use Rattle.std.proofs.lemmas.List.{length-map}
use Rattle.std.proofs.lemmas.List.Folds.{flat_map-map}
use Rattle.std.specs.Io.KnownBytes.{Appends}
use Rattle.cc_lists.proofs.KnownBytes.{on_err_of}
use Rattle.cc_model.specs.Telling.{AppendsFront}
use Rattle.cc_replay.specs.declared.summary.Line.{Line}
use Rattle.cc_replay.specs.Summaries.{line_of}
use Rattle.cc_replay.proofs.Pieces.{written-more, written-part}
use Rattle.cc_replay.proofs.summary.write_summary.Goals as goal

abbrev named : Line → List ℕ × ℕ
named l = (l.0.now, l.1)

-- a place of ten lines
place_within : (lines : List Line) (to : List (List ℕ × ℕ)) (i : ℕ) → map named lines ≡ to → i < length to → i < length lines
place_within lines to i is within = omega (arith, within, ap length is, length-map lines named)

pub lines-preserved : goal.lines-preserved
lines-preserved g c =
    let written = g.K.Sink.written in
    record {
      lines = c.lines.invariant.lines;
      short = c.lines.invariant.short;
      grown = written-more (λ (l : Line). line_of (named l)) c.lines_of.result c.lines.line-index _ (place_within c.lines_of.result _ c.lines.line-index c.lines_of.ensures.lines c.lines-test.true)
          _ _ _ c.lines.invariant.grown (subst (Appends (written c.lines.sink) (written c.write_all.new.sink)) (c.bytes.ensures ∙ c.text_of.ensures) c.in_ok-write_all.ensures.whole);
      calm = c.in_ok-write_all.ensures.calm ∙ c.lines.invariant.calm;
    }

pub returns-in_err-write_all-clause-part : goal.returns-in_err-write_all-clause-part
returns-in_err-write_all-clause-part g c =
    let written = g.K.Sink.written in
    let part = written-part (λ (l : Line). line_of (named l)) c.lines_of.result c.lines.line-index _ (place_within c.lines_of.result _ c.lines.line-index c.lines_of.ensures.lines c.lines-test.true)
    _ _ _ c.lines.invariant.grown (subst (AppendsFront (written c.lines.sink) (written c.write_all.new.sink)) (c.bytes.ensures ∙ c.text_of.ensures) c.in_err-write_all.ensures.part) in
    on_err_of c.from_residual.result (subst (AppendsFront (written c.args.sink.now) (written c.write_all.new.sink))
    (sym (flat_map-map line_of named c.lines_of.result) ∙ ap (flat_map line_of) c.lines_of.ensures.lines) part)
