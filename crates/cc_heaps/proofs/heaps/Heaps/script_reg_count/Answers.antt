use Rattle.std.proofs.Common.{arith}
use Rattle.std.proofs.lemmas.List.{length-map}
use Rattle.cc_heaps.specs.Named.{script_named}
use Rattle.cc_heaps.proofs.heaps.Heaps.script_reg_count.Goals as goal

pub returns : goal.returns
returns c =
    let p = c.self.inside in
    rw (← c.self.view_is) (omega (arith, c.len.ensures, p.script_registers.ok.0, length-map p.script_registers.items (script_named p.scripts)))
