use Rattle.std.proofs.Common.{◌∙◌, length, ap}
use Rattle.cc_counted.specs.Counts.{Counts}
use Rattle.cc_heaps.specs.Keyed.{counts_of}
use Rattle.cc_host.specs.Hosted.{Hosted}
use Rattle.cc_host.proofs.Counting.{natives-many}
use Rattle.cc_host.proofs.runtime.Runtime.natives.Goals as goal

pub returns : goal.returns
returns c =
    c.len.ensures
    ∙ ap (λ (s : Counts). length s.natives) (c.counted.ensures ∙ ap (λ (h : Hosted). counts_of h.heaps) c.self.view_is)
    ∙ natives-many c.args.self.now.heaps
