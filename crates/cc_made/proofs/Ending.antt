-- What a made script leaves: nothing, where its last collection is not given up.
use Rattle.std.proofs.Common.{◌≡◌, ℕ, zero, suc, ◌+◌, true, false, List, [], ◌∷◌, ◌++◌, length, drop, Option, Some, refl, ap, sym, subst, ◌∙◌, arith, inl}
use Rattle.std.specs.List.{list_all}
use Rattle.std.proofs.lemmas.Bool.{and_parts, true≢false}
use Rattle.std.proofs.lemmas.List.{drop-drop}
use Rattle.cc_lists.specs.Members.{Among}
use Rattle.cc_names.specs.declared.name.Name.{Name}
use Rattle.cc_names.specs.declared.register.Reg.TheVariants.{N, S}
use Rattle.cc_names.specs.Allowance.{Allowance}
use Rattle.cc_model.specs.declared.command.Command.{Command}
use Rattle.cc_model.specs.declared.command.Command.TheVariants.{Drop, Collect, Gc, Census}
use Rattle.cc_model.specs.declared.item.Reply.{Reply}
use Rattle.cc_model.specs.declared.item.Reply.TheVariants.{Done}
use Rattle.cc_model.specs.Answers.{Answer}
use Rattle.cc_model.specs.Asks.{Ask, taken}
use Rattle.cc_model.specs.Mutating.{is_mutator, class_of}
use Rattle.cc_model.specs.Checks.{Objects}
use Rattle.cc_model.specs.Deeds.{deed_of}
use Rattle.cc_model.specs.Graph.{changed, done_to, objects_of}
use Rattle.cc_model.specs.Lawful.{IsLawful, IsLawfulFrom, State, census_of, next, start}
use Rattle.cc_model.specs.Quiet.{IsQuiet, IsQuietFrom, Row, after_gc, nothing_yet, row_after, row_after_collect}
use Rattle.cc_made.specs.Ending.{LeavesNothing}
use Rattle.cc_made.specs.Asked.{writes_of_eight, tail_asks}
use Rattle.cc_made.proofs.Registers.{HasEmptied, drop-done, left-or-changed, next-kept, next-native-emptied, next-script-emptied, none-filled, none-reached}

-- what is left of a lawful and quiet transcript: these registers are empty, and these asks are answered
pub record IsLeft (natives scripts : ℕ) (row : Row) (asks : List Ask) (answers : List Answer) : Type 0 where
  pub state : State
  pub emptied : HasEmptied natives scripts state.graph
  pub lawful : IsLawfulFrom state asks answers
  pub quiet : IsQuietFrom row state asks answers

-- asks that write the first eight registers alone
pub after-asks : (asks later : List Ask) (answers : List Answer) (row : Row) → ((o : Objects) → list_all (writes_of_eight o) asks ≡ true) →
    IsLeft 0 0 row (asks ++ later) answers → (now : Row) × IsLeft 0 0 now later (drop (length asks) answers)
after-asks [] later answers row all l = (row, l)
after-asks (ask ∷ asks) later [] row all l = absurd l.lawful
after-asks (ask ∷ asks) later (a ∷ answers) row all l = after-asks asks later answers (row_after row ask a) (λ o. (and_parts _ _ (all o)).1) (record {
  state = next l.state ask a;
  emptied = next-kept l.state ask a (and_parts _ _ (all (objects_of l.state.graph))).0 l.emptied;
  lawful = l.lawful.1;
  quiet = l.quiet.1;
})

-- a register that is let go
pub after-native-drop : (a b : ℕ) (row : Row) (later : List Ask) (answers : List Answer) →
    IsLeft a b row (taken (Drop (N a)) ∷ later) answers → IsLeft (suc a) b nothing_yet later (drop 1 answers)
after-native-drop a b row later [] l = absurd l.lawful
after-native-drop a b row later (x ∷ answers) l = record {
  state = next l.state (taken (Drop (N a))) x;
  emptied = subst (HasEmptied (suc a) b) (sym (drop-done l.state (N a) x tt l.lawful.0)) (next-native-emptied a b l.state.graph l.emptied);
  lawful = l.lawful.1;
  quiet = l.quiet.1;
}

pub after-script-drop : (a b : ℕ) (row : Row) (later : List Ask) (answers : List Answer) →
    IsLeft a b row (taken (Drop (S b)) ∷ later) answers → IsLeft a (suc b) nothing_yet later (drop 1 answers)
after-script-drop a b row later [] l = absurd l.lawful
after-script-drop a b row later (x ∷ answers) l = record {
  state = next l.state (taken (Drop (S b))) x;
  emptied = subst (HasEmptied a (suc b)) (sym (drop-done l.state (S b) x tt l.lawful.0)) (next-script-emptied a b l.state.graph l.emptied);
  lawful = l.lawful.1;
  quiet = l.quiet.1;
}

-- registers that are let go, one after the other, and then other asks
abbrev pub native_drops : ℕ → ℕ → List Ask → List Ask
native_drops a zero later = later
native_drops a (suc n) later = taken (Drop (N a)) ∷ native_drops (suc a) n later

abbrev pub script_drops : ℕ → ℕ → List Ask → List Ask
script_drops b zero later = later
script_drops b (suc n) later = taken (Drop (S b)) ∷ script_drops (suc b) n later

after-native-drops : (n a b : ℕ) (later : List Ask) (answers : List Answer) →
    IsLeft a b nothing_yet (native_drops a n later) answers → IsLeft (a + n) b nothing_yet later (drop n answers)
after-native-drops zero a b later answers l =
    let P : ℕ → Type 0 = λ m. IsLeft m b nothing_yet later answers in
    let none : a ≡ a + zero = omega arith in
    subst P none l
after-native-drops (suc n) a b later [] l = absurd l.lawful
after-native-drops (suc n) a b later (x ∷ answers) l =
    let P : ℕ → Type 0 = λ m. IsLeft m b nothing_yet later (drop n answers) in
    let one : suc a + n ≡ a + suc n = omega arith in
    subst P one (after-native-drops n (suc a) b later answers (after-native-drop a b nothing_yet _ (x ∷ answers) l))

after-script-drops : (n a b : ℕ) (later : List Ask) (answers : List Answer) →
    IsLeft a b nothing_yet (script_drops b n later) answers → IsLeft a (b + n) nothing_yet later (drop n answers)
after-script-drops zero a b later answers l =
    let P : ℕ → Type 0 = λ m. IsLeft a m nothing_yet later answers in
    let none : b ≡ b + zero = omega arith in
    subst P none l
after-script-drops (suc n) a b later [] l = absurd l.lawful
after-script-drops (suc n) a b later (x ∷ answers) l =
    let P : ℕ → Type 0 = λ m. IsLeft a m nothing_yet later (drop n answers) in
    let one : suc b + n ≡ b + suc n = omega arith in
    subst P one (after-script-drops n a (suc b) later answers (after-script-drop a b nothing_yet _ (x ∷ answers) l))

-- the last four asks, before which all registers are empty
abbrev pub last_asks : List Ask
last_asks = taken Gc ∷ taken Collect ∷ taken Gc ∷ taken Census ∷ []

pub after-drops : (row : Row) (answers : List Answer) → IsLeft 0 0 row tail_asks answers → IsLeft 8 8 nothing_yet last_asks (drop 16 answers)
after-drops row answers l =
    let first = after-native-drop 0 0 row (native_drops 1 7 (script_drops 0 8 last_asks)) answers l in
    let natives = after-native-drops 7 1 0 (script_drops 0 8 last_asks) (drop 1 answers) first in
    let scripts = after-script-drops 8 8 0 last_asks (drop 7 (drop 1 answers)) natives in
    subst (IsLeft 8 8 nothing_yet last_asks) (ap (drop 8) (drop-drop 7 1 answers) ∙ drop-drop 8 8 answers) scripts

-- where nothing can be listed, nothing is
none-listed : (names : List Name) → ((x : Name) → Among x names → ⊥) → names ≡ []
none-listed [] none = refl
none-listed (x ∷ names) none = absurd (none x (inl refl))

-- `gc` and `collect` leave the graph
collection-kept : (s : State) (c : Command) (a : Answer) → changed s.graph c ≡ s.graph → is_mutator (class_of c) ≡ false → HasEmptied 8 8 s.graph →
    HasEmptied 8 8 (next s (taken c) a).graph
collection-kept s c a left other e = left-or-changed (HasEmptied 8 8) s.ended s.graph c a.reply e (subst (HasEmptied 8 8) (sym left) e)
    (λ d w is. absurd (true≢false (sym (ap is_mutator is) ∙ other)))

-- THE LAST CENSUS is that of nothing, where the collection before it was not given up
pub last-census : (swept collected swept_again census : Answer) →
    IsLeft 8 8 nothing_yet last_asks (swept ∷ collected ∷ swept_again ∷ census ∷ []) → collected.reply ≡ Some Done → census ≡ census_of []
unfolding changed done_to deed_of
last-census swept collected swept_again census l done =
    let first = next l.state (taken Gc) swept in
    let second = next first (taken Collect) collected in
    let third = next second (taken Gc) swept_again in
    let Quiet : Option Reply → Type 0 = λ reply. IsQuietFrom (row_after_collect after_gc reply) second (taken Gc ∷ taken Census ∷ []) (swept_again ∷ census ∷ []) in
    let quiet : Quiet (Some Done) = subst Quiet done l.quiet.1.1 in
    let emptied : HasEmptied 8 8 third.graph =
    collection-kept second Gc swept_again refl refl (collection-kept first Collect collected refl refl (collection-kept l.state Gc swept refl refl l.emptied)) in
    let none : third.listed ≡ [] = none-listed third.listed (λ x among. none-reached third.graph emptied x ((quiet.1.0 x).0 among)) in
    l.lawful.1.1.1.0 ∙ ap census_of none

-- THE END OF A MADE SCRIPT, behind asks that write the first eight registers alone
pub ends : (limits : Allowance) (asks : List Ask) (count : ℕ) (answers : List Answer) → ((o : Objects) → list_all (writes_of_eight o) asks ≡ true) → length asks ≡ count →
    IsLawful limits (asks ++ tail_asks) answers → IsQuiet limits (asks ++ tail_asks) answers → LeavesNothing count answers
ends limits asks count answers all many lawful quiet = λ swept collected swept_again census are done.
    let begun : IsLeft 0 0 nothing_yet (asks ++ tail_asks) answers = record {
      state = start limits;
      emptied = none-filled limits;
      lawful = lawful;
      quiet = quiet;
    } in
    let left = after-asks asks tail_asks answers nothing_yet all begun in
    let last = after-drops left.0 (drop (length asks) answers) left.1 in
    let place : drop 16 (drop (length asks) answers) ≡ drop (count + 16) answers =
    drop-drop 16 (length asks) answers ∙ ap (λ n. drop (n + 16) answers) many in
    last-census swept collected swept_again census (subst (IsLeft 8 8 nothing_yet last_asks) (place ∙ are) last) done
