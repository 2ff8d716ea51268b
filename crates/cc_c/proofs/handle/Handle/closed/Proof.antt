-- `closed` makes a handle that owns nothing.
use Rattle.std.proofs.Common.{[], ◌∷◌, refl, lit<, ◌≡◌}
use Rattle.std.specs.Prelude.{None}
use contract.Running.{tables}
use contract.Monad.{fact, fact_i}
use base.Logic.{emp}
use types.Kit.{raw, ◌$◌, ◌∵◌, !, qed, by, drop, use0}
use types.Run.{lit, no_more, and_then, returns, enter}
use types.ByLocal.{alloc_all, pass_all, free_all, look_at, sets}
use types.Part.{agg}
use denote.RawPtr.{null_ptr}
use denote.Steps.{nothing}
use denote.Triple.Walked.{Stays, walk_of}
use Rattle.std.proofs.raw_atomic.Walks.{proved_at, leaves}
use Rattle.cc_c.specs.Own.{opened}
use Rattle.cc_c.proofs.HandleWord.{word, handle_in}
use Rattle.cc_c.specs.contracts.handle.Handle as handle
use Rattle.cc_c.specs.contracts.handle.Handle.closed as f
use Rattle.cc_c.proofs.handle.Handle.closed.Statement.{statement}
use Rattle.cc_c.proofs.handle.Handle.closed.Code as code

abbrev stayed : Stays f.ended.signature.params f.ended.kept
stayed = tt

pub closed_spec : {M : Type 1} → statement M
unfolding opened
closed_spec 𝓤 𝓛 𝓜 𝓡 wired =
    let c = f.clauses 𝓛 𝓜.mem 𝓡.returns in let 𝓣 = tables 𝓤 𝓛.H 𝓜 𝓡 𝓡.env in
    proved_at 𝓛 f.ended stayed c 𝓜 𝓡 tt f.Key.name code.function (code.unfolded 𝓤 𝓛.H 𝓜 𝓡 wired) (λ z are.
    let made : (handle.the_row).Denot = record { at = null_ptr; host = None } in
    let Post = (walk_of 𝓛 f.ended stayed c).post z in
    qed 𝓛 (raw ((walk_of 𝓛 f.ended stayed c).pre z) ∷ []) ∵ drop ! $
    enter ! 𝓣.C 𝓣.Λ code.function [] Post $ alloc_all ! (λ l. pass_all ! refl tt $
    sets ! (agg ! (and_then ! (lit ! tt) (no_more !))) refl (tt, (record { fits = lit< tt }, tt)) $
    returns ! (look_at ! 0 refl) $ free_all ! refl $
    use0 𝓛 (raw (fact 𝓤 (made.host ≡ None))) (fact_i 𝓤 (made.host ≡ None) (emp 𝓤) refl) $
    nothing ! $ handle_in ! null_ptr None $ nothing ! $ nothing ! $ by ! (leaves 𝓛 f.ended stayed c z (word null_ptr) made tt tt)))
