use Rattle.cc_reader.proofs.Using.{Uses-byte}
use Rattle.cc_reader.proofs.window.Window.next_byte.Goals as goal

pub returns-clause-byte : goal.returns-clause-byte
returns-clause-byte g c = search (Uses-byte)
