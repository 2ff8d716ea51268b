-- ALL THAT IS REACHED STAYS LISTED: as a command's answer begins, after each of its events, and as it ends.
use Rattle.std.proofs.Common.{arith, ◌≡◌, ◌≢◌, Bool, true, false, not, ◌||◌, List, [], ◌∷◌, ◌++◌, Option, Some, None, refl, sym, ◌∙◌, ap, subst, inl, inr, ◌⊎◌, ⊎_elim, option_map}
use Rattle.std.specs.Prelude.{IsTrue}
use Rattle.std.specs.Option.{option_and_then}
use Rattle.std.proofs.lemmas.Bool.{false≢true, cases_Bool, not_from_false}
use Rattle.cc_lists.specs.Members.{Among, has, without, with_last}
use Rattle.cc_lists.proofs.Members.{Among-append, Among-filter, Among-left, Among-right, has-among}
use Rattle.cc_names.specs.Allowance.{Allowance}
use Rattle.cc_names.specs.declared.name.Name.{Name}
use Rattle.cc_names.specs.declared.register.Reg.TheVariants.{N, S, W}
use Rattle.cc_names.specs.Names.{native, reflector, same_name}
use Rattle.cc_names.proofs.NameTests.{same_name-true, same_name-exact}
use Rattle.cc_model.specs.declared.command.Command.{Command}
use Rattle.cc_model.specs.declared.command.Command.TheVariants as command
use Rattle.cc_model.specs.declared.item.Event.{Event}
use Rattle.cc_model.specs.declared.item.Event.TheVariants.{Unlinked, Freed, Abandoned}
use Rattle.cc_model.specs.declared.item.Refusal.{Refusal}
use Rattle.cc_model.specs.declared.item.Reply.{Reply}
use Rattle.cc_model.specs.declared.item.Reply.TheVariants.{Named, Refused}
use Rattle.cc_model.specs.Checks.{named_or_nothing, reflector_of, refusal_of, refused_or, reply_if_taken}
use Rattle.cc_model.specs.Deeds.{deed_of}
use Rattle.cc_model.specs.Graph.{Graph, GraphNative, changed, empty_graph, objects_of, register, reply_to, step, unless_refused}
use Rattle.cc_model.specs.Mutating.{reads_weakly}
use Rattle.cc_model.specs.Lawful.{reply_with, is_gc, is_refused, runs_units}
use Rattle.cc_model.specs.Listed.{after_event, after_reply}
use Rattle.cc_model.specs.Ranges.{in_range}
use Rattle.cc_model.specs.Reached.{Reached, held, edge, value, key}
use Rattle.cc_model.specs.Slots.{Slots, empty_slots}
use Rattle.cc_model.specs.StandsFor.{Shape, shape_in, shape_of_native, shape_of_reflector, script_shape}
use Rattle.cc_model.specs.WellMade.{IsWellMade}
use Rattle.cc_laws_heap.proofs.Following.{IsBlank, shape_in-native, shape_in-reflector}
use Rattle.cc_laws_heap.proofs.GraphCommands.{empty-well, step-well}
use Rattle.cc_laws_heap.proofs.MayBeDoneTo.{may_be_done_to}
use Rattle.cc_names.specs.Sizes.{bank_length}
use Rattle.cc_laws_heap.proofs.Holds.{contents-get}
use Rattle.cc_laws_heap.proofs.Making.{contents-empty_none}
use Rattle.cc_laws_heap.proofs.Numbered.{numbered-nothing}
use Rattle.cc_laws_heap.proofs.Shapes.{no_delegate-from, no_delegate-of_none}
use Rattle.cc_laws_heap.proofs.Taken.{IsTaken-from}
use Rattle.cc_verdict.specs.Following.{Place}
use Rattle.cc_verdict.specs.Hearing.{EndsAbandoned, EndsAsTheGraph, Hearing, MayCome, MayEnd, hearing, is_heard, place_ended, with_told}
use Rattle.cc_verdict.specs.GoingOn.{AreBlank, ListsAll, ListsAllIn}
use Rattle.cc_verdict.proofs.Stays.{step-plain, reply-plain}
use Rattle.cc_verdict.proofs.ReachedStays.{ReachesNoMore, done_to-reaches, new_by}

-- Reflectors that are not preserved

blank-from : (g : Graph) → AreBlank g → IsBlank g
blank-from g blank k a b e p f =
    let n = shape_in-native g k a e in
    let r = shape_in-reflector g k b f in
    let one : Some r.0 ≡ Some n.0 = sym r.2 ∙ n.1 in
    let same : r.0 ≡ n.0 = cc in
    let c = blank k n.0 r.1 n.1 (ap (λ (t : Shape). t.preserved) n.2 ∙ p) (sym (ap (λ (m : GraphNative). m.reflector) same) ∙ r.3) in
    (sym (ap (λ (t : Shape). t.slots) r.4) ∙ ap (λ l. Some l) c.0, c.1, no_delegate-of_none g (reflector k) c.2)

blank-to : (g : Graph) → IsBlank g → AreBlank g
blank-to g blank k n slots e p r =
    let made : shape_in g (native k) ≡ Some (shape_of_native n) = ap (option_map shape_of_native) e in
    let kept : shape_in g (reflector k) ≡ Some (script_shape (Some slots) None) = ap (option_and_then shape_of_reflector) e ∙ ap (option_map (λ l. script_shape (Some l) None)) r in
    let b = blank k (shape_of_native n) (script_shape (Some slots) None) made p kept in
    (some b.0, b.1, no_delegate-from g (reflector k) b.2)
  where
    some : {a b : Slots} → Some a ≡ Some b → a ≡ b
    some e = cc

-- What a reply puts in the list

put_by : Command → Reply → Option Name
put_by (command.Native d n) (Named x) = Some x
put_by (command.Script d n) (Named x) = Some x
put_by (command.WeakMap d) (Named x) = Some x
put_by (command.Proxy d s) (Named x) = Some x
put_by (command.Wrap d s) (Named x) = Some x
put_by c reply = None

abbrev IsThere : List Name → Option Name → Name → Type 0
IsThere names put x = Among x names ⊎ (put ≡ Some x)

pushed : (names : List Name) (y x : Name) → IsThere names (Some y) x → Among x (names ++ y ∷ [])
pushed names y x m = ⊎_elim (λ a. Among-left x names (y ∷ []) a) (λ e. let same : y ≡ x = cc in Among-right x names (y ∷ []) (inl same)) m

pushed-cases : (names : List Name) (y x : Name) → Among x (names ++ y ∷ []) → IsThere names (Some y) x
pushed-cases names y x m = ⊎_elim (λ a. inl a) (λ b. ⊎_elim (λ e. inr (ap (λ z. Some z) e)) (λ t. absurd t) b) (Among-append x names (y ∷ []) m)

last-pushed : (names : List Name) (y x : Name) → IsThere names (Some y) x → Among x (with_last same_name names y)
last-pushed names y x m = go (has same_name names y) refl
  where
    go : (b : Bool) → has same_name names y ≡ b → Among x (elim b [ true ↦ names | false ↦ names ++ y ∷ [] ])
    go true h = ⊎_elim (λ a. a) (λ e. let same : y ≡ x = cc in subst (λ z. Among z names) same (has-among same_name same_name-exact names y h)) m
    go false h = pushed names y x m

last-cases : (names : List Name) (y x : Name) → Among x (with_last same_name names y) → IsThere names (Some y) x
last-cases names y x m = go (has same_name names y) m
  where
    go : (b : Bool) → Among x (elim b [ true ↦ names | false ↦ names ++ y ∷ [] ]) → IsThere names (Some y) x
    go true i = inl i
    go false i = pushed-cases names y x i

kept : (names : List Name) (x : Name) → IsThere names None x → Among x names
kept names x m = ⊎_elim (λ a. a) (λ e. absurd (cc)) m

-- it is what is there then, beside what was
put-there : (names : List Name) (c : Command) (reply : Reply) (x : Name) → IsThere names (put_by c reply) x → Among x (after_reply names c (Some reply))
unfolding put_by
put-there names (command.Native d n) (Named y) x m = pushed names y x m
put-there names (command.Script d n) (Named y) x m = pushed names y x m
put-there names (command.WeakMap d) (Named y) x m = pushed names y x m
put-there names (command.Proxy d s) (Named y) x m = pushed names y x m
put-there names (command.Wrap d s) (Named y) x m = last-pushed names y x m
put-there names c reply x m = kept names x m

there-put : (names : List Name) (c : Command) (reply : Reply) (x : Name) → Among x (after_reply names c (Some reply)) → IsThere names (put_by c reply) x
unfolding put_by
there-put names (command.Native d n) (Named y) x m = pushed-cases names y x m
there-put names (command.Script d n) (Named y) x m = pushed-cases names y x m
there-put names (command.WeakMap d) (Named y) x m = pushed-cases names y x m
there-put names (command.Proxy d s) (Named y) x m = pushed-cases names y x m
there-put names (command.Wrap d s) (Named y) x m = last-cases names y x m
there-put names c reply x m = inl m

-- A step

-- THE GRAPH REFUSES NO COLLECTION.
pub collection-granted : (g : Graph) (c : Command) → IsTrue (is_gc c || runs_units c) → is_refused (reply_to g c) ≡ false
unfolding refusal_of reply_if_taken
collection-granted g command.Gc e = refl
collection-granted g (command.Mark n) e = refl
collection-granted g (command.Slice n) e = refl
collection-granted g command.Collect e = refl
collection-granted g c e = absurd (false≢true e)

-- the reply names what the deed makes or wraps
new-put : (g : Graph) (c : Command) (x : Name) → new_by g (deed_of (objects_of g) c) ≡ Some x → put_by c (reply_if_taken (objects_of g) c) ≡ Some x
unfolding put_by deed_of reply_if_taken
new-put g (command.Native d n) x e = e
new-put g (command.Script d n) x e = e
new-put g (command.WeakMap d) x e = e
new-put g (command.Proxy d s) x e = e
new-put g (command.Wrap d s) x e = go (reflector_of (register g (N s))) e
  where
    go : (o : Option Name) → o ≡ Some x → put_by (command.Wrap d s) (named_or_nothing o) ≡ Some x
    go None q = absurd (cc)
    go (Some y) q = q
new-put g (command.Drop (N d)) x e = absurd (cc)
new-put g (command.Drop (S d)) x e = absurd (cc)
new-put g (command.Drop (W d)) x e = absurd (cc)
new-put g (command.Get (N d) s i) x e = absurd (cc)
new-put g (command.Get (S d) s i) x e = absurd (cc)
new-put g (command.Get (W d) s i) x e = absurd (cc)
new-put g c x e = absurd (cc)

-- a refused command puts nothing in
refused-kept : (names : List Name) (c : Command) (r : Refusal) → after_reply names c (Some (Refused r)) ≡ names
refused-kept names c r = grind arith

-- ALL IS LISTED AFTER A STEP and the reply to it.
pub step-lists : (g : Graph) (names : List Name) (c : Command) → IsTrue (in_range c) → ListsAll g names → ListsAll (step g c) (after_reply names c (Some (reply_to g c)))
unfolding changed
step-lists g names c range l = go (refusal_of (objects_of g) c) refl
  where
    go : (o : Option Refusal) → refusal_of (objects_of g) c ≡ o →
        ListsAll (unless_refused o g (changed g c)) (after_reply names c (Some (refused_or o (reply_if_taken (objects_of g) c))))
    go (Some r) e = subst (ListsAll g) (sym (refused-kept names c r)) l
    go None e =
        let t : ReachesNoMore g (changed g c) (new_by g (deed_of (objects_of g) c)) =
        done_to-reaches g l.well_made (blank-from g l.blank) (deed_of (objects_of g) c) (may_be_done_to g l.well_made c range (IsTaken-from (objects_of g) c e)) in
        record {
          well_made = subst (λ o. IsWellMade (unless_refused o g (changed g c))) e (step-well g l.well_made c range);
          blank = blank-to (changed g c) t.blank;
          listed = λ x r. put-there names c (reply_if_taken (objects_of g) c) x (⊎_elim (λ old. inl (l.listed x old)) (λ new. inr (new-put g c x new)) (t.reached x r));
        }

-- Where a check begins

-- nothing is reached in the empty graph
empty-unreached : (limits : Allowance) (x : Name) → Reached (empty_graph limits) x → ⊥
empty-unreached limits _ (held (N r) x e) = contents-empty_none bank_length x (contents-get (empty_slots bank_length) r x e)
empty-unreached limits _ (held (S r) x e) = contents-empty_none bank_length x (contents-get (empty_slots bank_length) r x e)
empty-unreached limits _ (held (W r) x e) = contents-get [] r x e
empty-unreached limits _ (edge x y d i) = empty-unreached limits x d
empty-unreached limits _ (value e i a b) = i
empty-unreached limits _ (key e d i q a b) = i

pub start-lists : (limits : Allowance) → ListsAll (empty_graph limits) []
start-lists limits = record {
  well_made = empty-well limits;
  blank = λ k n slots e. absurd (numbered-nothing k n e);
  listed = λ x r. absurd (empty-unreached limits x r);
}

-- AS AN ANSWER BEGINS all is listed that the graph reaches then.
pub begins-lists : (p : Place) (c : Command) → IsTrue (is_heard c) → IsTrue (in_range c) → reads_weakly c ≡ false → ListsAll p.state.graph p.state.listed → ListsAllIn (hearing p c)
begins-lists p c heard range plain l = record {
  heard = heard;
  granted = λ e. ap is_refused (reply-plain p.state.ended p.state.graph c plain) ∙ collection-granted p.state.graph c e;
  listed = subst (λ (g : Graph). ListsAll g (after_reply p.state.listed c (Some (reply_with p.state.ended p.state.graph c)))) (sym (step-plain p.state.ended p.state.graph c plain))
      (subst (λ r. ListsAll (step p.state.graph c) (after_reply p.state.listed c (Some r))) (sym (reply-plain p.state.ended p.state.graph c plain)) (step-lists p.state.graph p.state.listed c range l));
}

-- An event

-- what is not freed is there still
unfreed : (names : List Name) (y x : Name) → x ≢ y → Among x names → Among x (without same_name y names)
unfreed names y x other m = Among-filter (λ z. not (same_name z y)) x names m (⊎_elim
    (λ same. absurd (other (same_name-true x y same)))
    (λ apart. not_from_false (same_name x y) apart)
    (cases_Bool (same_name x y)))

event-keeps : (h : Hearing) (e : Event) → MayCome h e → (x : Name) → Reached h.graph x → Among x h.told.names → Among x (after_event h.told.names e)
event-keeps h (Freed y) may x r m = unfreed h.told.names y x (λ same. may.garbage.1 (subst (Reached h.graph) same r)) m
event-keeps h (Unlinked y) may x r m = m
event-keeps h Abandoned may x r m = m

told-event : (h : Hearing) (e : Event) → (with_told h e).told.names ≡ after_event h.told.names e
told-event h (Freed y) = refl
told-event h (Unlinked y) = refl
told-event h Abandoned = refl

-- AFTER AN EVENT all is listed still.
pub event-lists : (h : Hearing) (e : Event) → MayCome h e → ListsAllIn h → ListsAllIn (with_told h e)
event-lists h e may l = record {
  heard = l.heard;
  granted = l.granted;
  listed = record {
    well_made = l.listed.well_made;
    blank = l.listed.blank;
    listed = λ x r. put-there (with_told h e).told.names h.command h.reply x (⊎_elim
        (λ a. inl (subst (Among x) (sym (told-event h e)) (event-keeps h e may x r a)))
        (λ n. inr n)
        (there-put h.told.names h.command h.reply x (l.listed.listed x r)));
  };
}

-- The end

-- a collection in units puts nothing in
units-kept : (names : List Name) (c : Command) (reply other : Reply) → runs_units c ≡ true → after_reply names c (Some reply) ≡ after_reply names c (Some other)
units-kept names (command.Slice n) reply other u = refl
units-kept names command.Collect reply other u = refl
units-kept names c reply other u = absurd (false≢true u)

-- AS AN ANSWER ENDS all is listed.
pub ends-lists : (h : Hearing) (reply : Reply) → MayEnd h reply → ListsAllIn h → ListsAll (place_ended h reply).state.graph (place_ended h reply).state.listed
ends-lists h reply may l = ⊎_elim
    (λ (a : EndsAsTheGraph h reply). subst (λ r. ListsAll h.graph (after_reply h.told.names h.command (Some r))) (sym a.same) l.listed)
    (λ (a : EndsAbandoned h reply). subst (ListsAll h.graph) (units-kept h.told.names h.command h.reply reply a.units) l.listed)
    may
