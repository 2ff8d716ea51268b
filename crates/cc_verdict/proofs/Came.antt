-- EVENTS THAT CAME WHERE THEY MAY, one after the other, are in place together.
use Rattle.std.proofs.Common.{◌≡◌, ◌+◌, ◌≤◌, Bool, true, false, not, ◌&&◌, ◌||◌, List, [], ◌∷◌, nat_le, refl, sym, subst, ◌∙◌, arith}
use Rattle.std.proofs.lemmas.Bool.{and_parts, false≢true, true≢false, leb-true}
use Rattle.cc_names.specs.Names.{is_native}
use Rattle.cc_model.specs.declared.item.Event.{Event}
use Rattle.cc_model.specs.declared.item.Event.TheVariants.{Unlinked, Freed, Abandoned}
use Rattle.cc_model.specs.Lawful.{EachMayBe, is_gc, may_free, may_unlink, runs_allowed, runs_units, unlinked_numbers, has_none, ends_with_one, begins_with_at_most_one}
use Rattle.cc_verdict.specs.Hearing.{Hearing, may_go_on, runs_with, with_told}
use Rattle.cc_verdict.proofs.Comes.{EachMayCome, after-any, runs_on, told_all, unlink-runs}

-- each event that came may be there
pub came-each : (h : Hearing) (es : List Event) → EachMayCome h es → EachMayBe h.graph h.told.names h.command es
came-each h [] m = tt
came-each h (Freed x ∷ es) m = (
  (m.0.garbage.0, m.0.garbage.1, (and_parts (may_free h.command x) (may_go_on h.command h.told) m.0.kind).0),
  came-each (with_told h (Freed x)) es m.1,
)
came-each h (Unlinked x ∷ es) m = (
  (m.0.garbage.0, m.0.garbage.1, (and_parts (may_unlink h.command x) (may_go_on h.command h.told && nat_le (runs_with h.told x) (runs_allowed h.command)) m.0.kind).0),
  came-each (with_told h (Unlinked x)) es m.1,
)
came-each h (Abandoned ∷ es) m = (tt, came-each (with_told h Abandoned) es m.1)

-- the numbers of events that came make few runs
pub came-rising : (h : Hearing) (es : List Event) → EachMayCome h es → h.told.runs ≤ runs_allowed h.command →
    h.told.runs + runs_on h.told.last (unlinked_numbers es) ≤ runs_allowed h.command
came-rising h [] m few = omega arith
came-rising h (Freed x ∷ es) m few = came-rising (with_told h (Freed x)) es m.1 few
came-rising h (Unlinked x ∷ es) m few =
    let kinds = and_parts (may_unlink h.command x) (may_go_on h.command h.told && nat_le (runs_with h.told x) (runs_allowed h.command)) m.0.kind in
    let native : is_native x ≡ true = (and_parts (is_native x) (runs_units h.command || is_gc h.command) kinds.0).0 in
    let few_with : runs_with h.told x ≤ runs_allowed h.command = leb-true _ _ (and_parts (may_go_on h.command h.told) (nat_le (runs_with h.told x) (runs_allowed h.command)) kinds.1).1 in
    subst (λ n. n ≤ runs_allowed h.command) (sym (unlink-runs h.told x es native)) (came-rising (with_told h (Unlinked x)) es m.1 few_with)
came-rising h (Abandoned ∷ es) m few = came-rising (with_told h Abandoned) es m.1 few

-- Abandonments under other commands than `gc`

no-more : (gc abandoned : Bool) → gc ≡ false → abandoned ≡ true → ¬ ((gc || not abandoned) ≡ true)
no-more true abandoned g a e = true≢false g
no-more false true g a e = false≢true e
no-more false false g a e = false≢true a

abandon-kind : (gc units any abandoned : Bool) → gc ≡ false → elim gc [ true ↦ not any | false ↦ units && not abandoned ] ≡ true →
    (units ≡ true) × (abandoned ≡ false)
abandon-kind true units any abandoned g e = absurd (true≢false g)
abandon-kind false true any false g e = (refl, refl)
abandon-kind false true any true g e = absurd (false≢true e)
abandon-kind false false any abandoned g e = absurd (false≢true e)

-- nothing comes behind an abandonment
nothing-after : (h : Hearing) (es : List Event) → is_gc h.command ≡ false → h.told.abandoned ≡ true → EachMayCome h es → es ≡ []
nothing-after h [] g a m = refl
nothing-after h (Freed x ∷ es) g a m =
    absurd (no-more (is_gc h.command) h.told.abandoned g a (and_parts (may_free h.command x) (may_go_on h.command h.told) m.0.kind).1)
nothing-after h (Unlinked x ∷ es) g a m =
    let more = nat_le (runs_with h.told x) (runs_allowed h.command) in
    absurd (no-more (is_gc h.command) h.told.abandoned g a
    (and_parts (may_go_on h.command h.told) more (and_parts (may_unlink h.command x) (may_go_on h.command h.told && more) m.0.kind).1).0)
nothing-after h (Abandoned ∷ es) g a m =
    absurd (true≢false (sym a ∙ (abandon-kind (is_gc h.command) (runs_units h.command) h.told.any h.told.abandoned g m.0.kind).1))

-- an abandonment that is told stands last, and once
pub came-ending : (h : Hearing) (es : List Event) → is_gc h.command ≡ false → h.told.abandoned ≡ false → EachMayCome h es →
    (told_all h.told es).abandoned ≡ true → ends_with_one es ≡ true
came-ending h [] g a m told = absurd (false≢true (sym a ∙ told))
came-ending h (Freed x ∷ []) g a m told = absurd (false≢true (sym a ∙ told))
came-ending h (Unlinked x ∷ []) g a m told = absurd (false≢true (sym a ∙ told))
came-ending h (Abandoned ∷ []) g a m told = refl
came-ending h (Freed x ∷ f ∷ es) g a m told = came-ending (with_told h (Freed x)) (f ∷ es) g a m.1 told
came-ending h (Unlinked x ∷ f ∷ es) g a m told = came-ending (with_told h (Unlinked x)) (f ∷ es) g a m.1 told
came-ending h (Abandoned ∷ f ∷ es) g a m told = let none : f ∷ es ≡ [] = nothing-after (with_told h Abandoned) (f ∷ es) g refl m.1 in absurd (cc)

-- no abandonment comes where no units run
pub came-whole : (h : Hearing) (es : List Event) → is_gc h.command ≡ false → runs_units h.command ≡ false → EachMayCome h es → has_none es ≡ true
came-whole h [] g u m = refl
came-whole h (Freed x ∷ es) g u m = came-whole (with_told h (Freed x)) es g u m.1
came-whole h (Unlinked x ∷ es) g u m = came-whole (with_told h (Unlinked x)) es g u m.1
came-whole h (Abandoned ∷ es) g u m =
    absurd (true≢false (sym (abandon-kind (is_gc h.command) (runs_units h.command) h.told.any h.told.abandoned g m.0.kind).0 ∙ u))

-- Abandonments under `gc`

gc-kind : (gc any other : Bool) → gc ≡ true → elim gc [ true ↦ not any | false ↦ other ] ≡ true → any ≡ false
gc-kind true true other g e = absurd (false≢true e)
gc-kind true false other g e = refl
gc-kind false any other g e = absurd (false≢true g)

-- no abandonment comes behind another event
came-later : (h : Hearing) (es : List Event) → is_gc h.command ≡ true → h.told.any ≡ true → EachMayCome h es → has_none es ≡ true
came-later h [] g any m = refl
came-later h (Freed x ∷ es) g any m = came-later (with_told h (Freed x)) es g refl m.1
came-later h (Unlinked x ∷ es) g any m = came-later (with_told h (Unlinked x)) es g refl m.1
came-later h (Abandoned ∷ es) g any m =
    absurd (true≢false (sym any ∙ gc-kind (is_gc h.command) h.told.any (runs_units h.command && not h.told.abandoned) g m.0.kind))

-- an abandonment comes first, and at most once
pub came-first : (h : Hearing) (es : List Event) → is_gc h.command ≡ true → EachMayCome h es → begins_with_at_most_one es ≡ true
came-first h [] g m = refl
came-first h (e ∷ es) g m = came-later (with_told h e) es g (after-any h.told e) m.1
