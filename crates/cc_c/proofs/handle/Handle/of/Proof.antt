-- `of` keeps the pointer.
use Rattle.std.proofs.Common.{List, [], ◌∷◌, ◌++◌, refl, sym, subst, ◌≡◌}
use Rattle.std.specs.Prelude.{Some}
use base.Logic.{SProp, ent, emp, id⊢}
use mir.Val.{Val, vptr}
use contract.Running.{tables}
use contract.Monad.{fact, fact_i}
use prog.Wp.{WpFn}
use types.Kit.{‵, raw, ◌⊛◌, ◌$◌, ◌∵◌, !, qed, by, move, keep, drop, split, fsplit, fjoin, use0, use1, suffices}
use types.Run.{of_opd, no_more, and_then, stop, fld, returns, enter}
use types.ByLocal.{alloc_all, pass_all, free_all, look_at, get, get_in, sets}
use types.Part.{agg, sub, whole}
use base.Fml.{ftrue}
use denote.Exit.{yes}
use denote.RattleType.{RattleType, owns}
use denote.Signature.{types_at, plain}
use denote.RawPtr.{block_ptr}
use denote.Steps.{nothing}
use denote.Triple.Walked.{Stays, stay_dropped, walk_of, Goes-dropped}
use Rattle.std.proofs.raw_atomic.Walks.{proved_at, leaves}
use Rattle.std.specs.contracts.alloc.Global as global
use Rattle.std.proofs.alloc.Global.TheLaws as global_laws
use Rattle.std.specs.contracts.impls.GlobalAllocator.TheImpl.{ghosts}
use Rattle.cc_host.specs.contracts.host.Host as host
use Rattle.cc_host.specs.contracts.loose.Loose as loose
use Rattle.cc_host.proofs.Values.{both, loose_good, loose_out}
use Rattle.cc_c.specs.Own.{opened}
use Rattle.cc_c.proofs.HandleWord.{word, handle_in}
use Rattle.cc_c.specs.contracts.handle.Handle as handle
use Rattle.cc_c.specs.contracts.handle.Handle.of as f
use Rattle.cc_c.proofs.handle.Handle.of.Statement.{statement}
use Rattle.cc_c.proofs.handle.Handle.of.Code as code

abbrev L : RattleType
L = loose.the_row host.the_row global.the_row ghosts

abbrev stayed : Stays f.ended.signature.params f.ended.kept
stayed = (stay_dropped (plain (λ _. L)) yes, tt)

pub of_spec : {M : Type 1} → statement M
unfolding opened
of_spec 𝓤 𝓛 𝓜 𝓡 wired =
    let c = f.clauses 𝓛 𝓜.mem 𝓡.returns in let 𝓣 = tables 𝓤 𝓛.H 𝓜 𝓡 𝓡.env in let Z = global.the_row in let LZ = global_laws.the_row_laws in
    proved_at 𝓛 f.ended stayed c 𝓜 𝓡 (Goes-dropped 𝓛 0 (plain (λ _. L)) yes (λ κs x g. refl), tt) f.Key.name code.function (code.unfolded 𝓤 𝓛.H 𝓜 𝓡 wired) (λ z are.
    let v = z.0.3.0 in let Post : Val → SProp 𝓤 = (walk_of 𝓛 f.ended stayed c).post z in let Run : List Val → SProp 𝓤 = λ ws. WpFn 𝓤 𝓛.H 𝓣.C 𝓣.Λ code.function ws Post in
    qed 𝓛 ((‵ ftrue ⊛ ‵ (owns (types_at f.signature.params z.0.0) z.0.3 z.0.4)) ∷ raw ((c z.0.0 z.0.3).requires z.1) ∷ []) ∵ split ! $ drop ! $ fsplit ! $ loose_out host.the_row Z LZ ghosts ! v z.0.4.0 (λ b o h e ws fits.
    let w : Val = both (vptr b o) h in let made : (handle.the_row).Denot = record { at = block_ptr b o; host = Some v.value } in
    suffices ! (Run (w ∷ [])) (subst (λ (us : List Val). ent 𝓤 (Run (w ∷ [])) (Run us)) (sym (λ i. ws i ++ [])) (id⊢ 𝓤 (Run (w ∷ [])))) $
    keep ! (0 ∷ []) $
    enter ! 𝓣.C 𝓣.Λ code.function (w ∷ []) Post $ alloc_all ! (λ l. pass_all ! refl (loose_good host.the_row Z LZ ghosts b o h fits, tt) $
    sets ! (of_opd ! (get_in ! (fld ! refl (stop !)) (sub ! 0 refl (whole !)))) refl (tt, tt) $
    sets ! (of_opd ! (get ! refl)) refl (tt, tt) $
    sets ! (agg ! (and_then ! (get ! refl) (no_more !))) refl (tt, (tt, tt)) $
    returns ! (look_at ! 0 refl) $ free_all ! refl $
    use1 𝓛 (‵ (opened (block_ptr b o) (Some v.value))) (id⊢ 𝓤 _) $ handle_in ! (block_ptr b o) (Some v.value) $
    use0 𝓛 (raw (fact 𝓤 (made.host ≡ Some v.value))) (fact_i 𝓤 (made.host ≡ Some v.value) (emp 𝓤) refl) $
    move ! (1 ∷ []) $ nothing ! $ nothing ! $ fjoin ! $ nothing ! $ by ! (leaves 𝓛 f.ended stayed c z (word (block_ptr b o)) made (tt, tt) (tt, tt)))))
