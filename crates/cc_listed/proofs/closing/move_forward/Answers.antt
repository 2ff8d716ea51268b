use Rattle.std.proofs.Common.{refl}
use Rattle.cc_listed.proofs.Finding.{found-alike, found-moved, moved-empty, moved-front}
use Rattle.cc_listed.proofs.Standing.{contents-moved}
use Rattle.cc_listed.proofs.closing.move_forward.Goals as goal

pub returns-in_err-set-clause-found : goal.returns-in_err-set-clause-found
returns-in_err-set-clause-found c = found-alike _ _ _ _ c.requires.found (λ k. refl) c.in_err-set.ensures.err

pub returns-clause-found : goal.returns-clause-found
returns-clause-found c =
    found-moved c.args.places.now.items c.args.from c.args.to c.args.name c.requires.name c.requires.order c.requires.empty
    c.args.by_name.now c.set.new.self c.requires.found c.in_ok-set.ensures.places

pub returns-clause-names : goal.returns-clause-names
returns-clause-names c = contents-moved c.args.places.now.items c.args.from c.args.to c.args.name c.requires.name c.requires.order c.requires.empty

pub returns-clause-empty : goal.returns-clause-empty
returns-clause-empty c = moved-empty c.args.places.now.items c.args.from c.args.to c.args.name c.requires.name c.requires.order c.requires.empty

pub returns-clause-front : goal.returns-clause-front
returns-clause-front c = moved-front c.args.places.now.items c.args.from c.args.to c.args.name c.requires.name c.requires.order c.requires.empty
