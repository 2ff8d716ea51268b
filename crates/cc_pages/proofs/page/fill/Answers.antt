use Rattle.std.proofs.Common.{rules}
use Rattle.cc_pages.proofs.Putting.{page-filled}
use Rattle.cc_pages.proofs.page.fill.Goals as goal

pub returns-in_ok-resize-clause-same : goal.returns-in_ok-resize-clause-same
returns-in_ok-resize-clause-same c =
    page-filled c.args.page.now.items c.resize.new.self.items 128 (search rules) (search rules)
    (λ k d l. c.resize.ensures.by_index.0 k d (search rules) (search rules))
    (λ k d past l. c.resize.ensures.by_index.1 k d (search rules) (search rules) l)
