-- What the verdict on a transcript says of it.
use Rattle.std.proofs.Common.{◌≡◌, true, false}
use Rattle.std.proofs.lemmas.Bool.{iff_false}
use Rattle.cc_worked.specs.Examples.{default_limits}
use Rattle.cc_worked.specs.Transcripts.{Transcript, before_its_end, IsRight, IsUnlawfulAtItsEnd, IsUnquiet, IsUnquietAtItsEnd}
use Rattle.cc_worked.specs.Verdict.{is_lawful, is_quiet, verdict}
use Rattle.cc_worked.proofs.LawfulTest.{is_lawful-decided}
use Rattle.cc_worked.proofs.QuietTest.{is_quiet-decided, verdict-decided}

-- What passes the verdict is right.
pub right : (t : Transcript) → verdict default_limits t.asks t.answers ≡ true → IsRight t
right t h = (verdict-decided default_limits t.asks t.answers).0 h

-- What fails the test of quiet transcripts is not quiet.
pub unquiet : (t : Transcript) → is_quiet default_limits t.asks t.answers ≡ false → IsUnquiet t
unquiet t h = iff_false (is_quiet-decided default_limits t.asks t.answers) h

-- What passes the verdict without its last answer, and is quiet and not lawful with it, has one fault.
pub unlawful-at_its_end : (t : Transcript) →
    verdict default_limits (before_its_end t).asks (before_its_end t).answers ≡ true →
    is_quiet default_limits t.asks t.answers ≡ true → is_lawful default_limits t.asks t.answers ≡ false → IsUnlawfulAtItsEnd t
unlawful-at_its_end t before quiet unlawful = (
  right (before_its_end t) before,
  (is_quiet-decided default_limits t.asks t.answers).0 quiet,
  iff_false (is_lawful-decided default_limits t.asks t.answers) unlawful,
)

-- So has what is lawful and not quiet with it.
pub unquiet-at_its_end : (t : Transcript) →
    verdict default_limits (before_its_end t).asks (before_its_end t).answers ≡ true →
    is_lawful default_limits t.asks t.answers ≡ true → is_quiet default_limits t.asks t.answers ≡ false → IsUnquietAtItsEnd t
unquiet-at_its_end t before lawful loud = (
  right (before_its_end t) before,
  (is_lawful-decided default_limits t.asks t.answers).0 lawful,
  unquiet t loud,
)
