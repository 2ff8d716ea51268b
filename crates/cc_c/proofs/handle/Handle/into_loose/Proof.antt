-- `into_loose` makes the loose box again.
use Rattle.cc_host.specs.Hosts.{State}
use Rattle.std.proofs.Common.{List, [], ◌∷◌, ◌++◌, refl, sym, ap, subst, ◌≡◌, ◌∙◌}
use Rattle.std.specs.Prelude.{Option, None, Some, IsSome}
use Rattle.std.proofs.lemmas.Bool.{false≢true}
use base.Logic.{SProp, ent, emp, id⊢, never, fst∗}
use mir.Syntax.{impl, tnil, dnil}
use mir.Raw.{raw as bare}
use mir.Val.{Val, vptr}
use contract.Running.{tables}
use contract.Monad.{fact, fact_i}
use prog.Wp.{WpFn}
use types.Logic.{sem}
use types.Kit.{‵, raw, ◌⊛◌, ◌$◌, ◌∵◌, !, qed, by, move, keep, drop, split, fsplit, fjoin, rewrite, use0, suffices}
use types.Run.{of_opd, no_more, and_then, stop, fld, returns, enter}
use types.ByLocal.{alloc_all, pass_all, free_all, look_at, get, get_in, sets}
use types.Part.{agg, sub, whole}
use base.Fml.{ftrue}
use denote.Exit.{yes}
use denote.RattleType.{owns}
use denote.Signature.{types_at, plain}
use denote.Memory.{lone}
use denote.RawPtr.{Ptr, block_ptr, null_ptr, in_a_block}
use denote.Steps.{nothing, heard}
use denote.Triple.Walked.{Stays, stay_dropped, walk_of, Goes-dropped}
use Rattle.std.proofs.raw_atomic.Walks.{proved_at, leaves}
use Rattle.core.proofs.alloc.Calls.{Al, handle_tells}
use Rattle.std.specs.Box.Ownership.{box_owns}
use Rattle.std.specs.contracts.alloc.Global as global
use Rattle.std.proofs.alloc.Global.TheLaws as global_laws
use Rattle.std.specs.contracts.impls.GlobalAllocator.TheImpl.{ghosts}
use Rattle.cc_host.specs.contracts.host.Host as host
use Rattle.cc_host.specs.contracts.loose.Loose as loose
use Rattle.cc_host.proofs.Values.{both, loose_good, loose_in}
use Rattle.cc_c.specs.Own.{may_free, opened}
use Rattle.cc_c.proofs.HandleWord.{word, handle_out}
use Rattle.cc_c.specs.contracts.handle.Handle as handle
use Rattle.cc_c.specs.contracts.handle.Handle.into_loose as f
use Rattle.cc_c.proofs.handle.Handle.into_loose.Statement.{statement}
use Rattle.cc_c.proofs.handle.Handle.into_loose.Code as code

abbrev stayed : Stays f.ended.signature.params f.ended.kept
stayed = (stay_dropped (plain (λ _. handle.the_row)) yes, (stay_dropped (plain (λ _. global.the_row)) yes, tt))

some_of : (o : Option State) → IsSome o → (x : State) × (o ≡ Some x)
some_of None t = absurd (false≢true t)
some_of (Some x) t = (x, refl)

pub into_loose_spec : {M : Type 1} → statement M
unfolding opened
into_loose_spec 𝓤 𝓛 𝓜 𝓡 wired =
    let c = f.clauses 𝓛 𝓜.mem 𝓡.returns in let 𝓣 = tables 𝓤 𝓛.H 𝓜 𝓡 𝓡.env in let Z = global.the_row in let LZ = global_laws.the_row_laws in
    let al : Al = record { row = Z; laws = LZ; g = ghosts; d = impl [] tnil dnil; drops = impl [] tnil dnil } in
    proved_at 𝓛 f.ended stayed c 𝓜 𝓡 (Goes-dropped 𝓛 0 (plain (λ _. handle.the_row)) yes (λ κs x g. refl), (Goes-dropped 𝓛 0 (plain (λ _. Z)) yes (λ κs x g. refl), tt)) f.Key.name code.function (code.unfolded 𝓤 𝓛.H 𝓜 𝓡 wired) (λ z are.
    let v = z.0.3.0 in let a = z.0.3.1.0 in let Post : Val → SProp 𝓤 = (walk_of 𝓛 f.ended stayed c).post z in let Run : List Val → SProp 𝓤 = λ ws. WpFn 𝓤 𝓛.H 𝓣.C 𝓣.Λ code.function ws Post in
    qed 𝓛 ((‵ ftrue ⊛ ‵ (owns (types_at f.signature.params z.0.0) z.0.3 z.0.4)) ∷ raw (fact 𝓤 (IsSome v.host)) ∷ []) ∵ move ! (1 ∷ []) $ heard ! _ (λ some. split ! $ drop ! $ fsplit ! $
    let s = some_of v.host some in let x : State = s.0 in
    handle_out ! v z.0.4.0 (λ ev. rewrite ! 0 (λ (q : Option State). ‵ (opened v.at q)) s.1 refl $
    in_a_block ! v.at (λ p. box_owns may_free host.the_row p x) (fst∗ 𝓤 (never 𝓤) (sem 𝓛 (may_free (bare (lone (host.the_row).mir)) null_ptr))) (λ b o e.
    move ! (1 ∷ []) $ fsplit ! $ handle_tells al ! a z.0.4.1.0 (λ h ea fits.
    let w : Val = word (block_ptr b o) in let made : (loose.the_row host.the_row Z ghosts).Denot = record { at = block_ptr b o; alloc = a; value = x } in
    let ew : z.0.4.0 ≡ w ∷ [] = ev ∙ ap (λ (p : Ptr). word p ∷ []) e in
    suffices ! (Run (w ∷ h ∷ [])) (subst (λ (us : List Val). ent 𝓤 (Run (w ∷ h ∷ [])) (Run us)) (sym (λ i. ew i ++ (ea i ++ []))) (id⊢ 𝓤 (Run (w ∷ h ∷ [])))) $
    keep ! (2 ∷ 0 ∷ []) $
    enter ! 𝓣.C 𝓣.Λ code.function (w ∷ h ∷ []) Post $ alloc_all ! (λ l. pass_all ! refl ((tt, (tt, tt)), (fits, tt)) $
    sets ! (of_opd ! (get_in ! (fld ! refl (stop !)) (sub ! 0 refl (whole !)))) refl (tt, tt) $
    sets ! (of_opd ! (get ! refl)) refl (tt, tt) $
    sets ! (agg ! (and_then ! (get ! refl) (and_then ! (get ! refl) (no_more !)))) refl (loose_good host.the_row Z LZ ghosts b o h fits) $
    returns ! (look_at ! 0 refl) $ free_all ! refl $
    loose_in host.the_row Z LZ ghosts ! b o h a x $
    use0 𝓛 (raw (fact 𝓤 (Some x ≡ v.host))) (fact_i 𝓤 (Some x ≡ v.host) (emp 𝓤) (sym s.1)) $
    move ! (1 ∷ []) $ nothing ! $ nothing ! $ fjoin ! $ nothing ! $ fjoin ! $ nothing ! $ by ! (leaves 𝓛 f.ended stayed c z (both (vptr b o) h) made (tt, (tt, tt)) (tt, (tt, tt)))))))))
