-- THE ROUNDS THAT ARE LEFT GIVE WHAT ALL OF THEM GIVE.
use Rattle.std.proofs.Common.{◌≡◌, ℕ, zero, suc, ◌<◌, Bool, true, false, List, [], ◌++◌, length, refl, sym, ◌∙◌, ap, subst, arith}
use Rattle.cc_lists.specs.Members.{Among}
use Rattle.cc_lists.proofs.Members.{Among-filtered}
use Rattle.cc_names.specs.declared.name.Name.{Name}
use Rattle.cc_model.specs.declared.item.Event.{Event}
use Rattle.cc_model.specs.Heap.{Heap, Outcome, after, outcome_of}
use Rattle.cc_model.specs.Colours.{marked, HasColours, HasColourInvariant}
use Rattle.cc_model.specs.StandsFor.{StandsFor}
use Rattle.cc_model.specs.Suspected.{IsSuspected}
use Rattle.cc_model.specs.Sweep.{sweep, sweeps, rounds, collect_scripts}
use Rattle.cc_model.specs.Telling.{Telling, TellsEvents}
use Rattle.cc_model.specs.View.{view}
use Rattle.cc_model.specs.WellFormed.{native_names, script_names}
use Rattle.cc_model.proofs.Rounds.{length-marked, length-sweep-less}
use Rattle.cc_model.proofs.Tellings.{Tells-nil, TellsEvents-trans}
use Rattle.cc_laws_heap.specs.Sound.{IsSound}
use Rattle.cc_laws_heap.specs.Rounds.{is_not_among}
use Rattle.cc_laws_heap.proofs.Face.{collect_scripts-colours, collect_scripts-invariant, collect_scripts-stands, round-frees, script_names-marked}
use Rattle.cc_laws_snapshot.proofs.Face.{collect_scripts-suspected}
use Rattle.cc_heaps.specs.Keyed.{Keyed, IsInOrder}
use Rattle.cc_heaps.specs.Changes.{KeepsKeys}
use Rattle.cc_heaps.specs.Few.{AreFewIfOwnedOnce}
use Rattle.cc_heaps.specs.Standing.{StillStands}
use Rattle.cc_heaps.proofs.FewCounts.{few-owned}

-- Keys that are kept, and kept again

-- what is there after the first is all that can be there after the second
pub KeepsKeys-then : (a b c : Keyed) → KeepsKeys a b → KeepsKeys b c → ((x : Name) → Among x (native_names c.heap) → Among x (native_names b.heap)) →
    ((x : Name) → Among x (script_names c.heap) → Among x (script_names b.heap)) → KeepsKeys a c
KeepsKeys-then a b c p q natives scripts = record {
  natives = λ key k at there. q.natives key k (p.natives key k at (natives _ there)) there;
  scripts = λ key x at there. q.scripts key x (p.scripts key x at (scripts x there)) there;
}

-- a native that is left after a round was there
pub native-before : {owned : List ℕ} (h : Heap) → IsSound owned h → (x : Name) → Among x (native_names (sweep (marked h)).heap) → Among x (native_names h)
native-before h s x m =
    let f = round-frees h s in
    Among-filtered (is_not_among f.0) x (native_names h) (subst (Among x) f.1.natives m)

-- and so was a script object
pub script-before : {owned : List ℕ} (h : Heap) → IsSound owned h → (x : Name) → Among x (script_names (sweep (marked h)).heap) → Among x (script_names h)
script-before h s x m =
    let f = round-frees h s in
    Among-filtered (is_not_among f.0) x (script_names h) (subst (Among x) f.1.scripts m)

-- a round keeps the keys, where marking and sweeping do
pub KeepsKeys-round : {owned : List ℕ} (a b c : Keyed) → IsSound owned a.heap → b.heap ≡ marked a.heap → c.heap ≡ (sweep b.heap).heap → KeepsKeys a b → KeepsKeys b c → KeepsKeys a c
unfolding marked
KeepsKeys-round a b c s m w p q =
    let swept : c.heap ≡ (sweep (marked a.heap)).heap = w ∙ ap (λ h. (sweep h).heap) m in
    KeepsKeys-then a b c p q
    (λ x i. subst (λ h. Among x (native_names h)) (sym m) (native-before a.heap s x (subst (λ h. Among x (native_names h)) swept i)))
    (λ x i. subst (Among x) (sym (ap script_names m ∙ script_names-marked a.heap)) (script-before a.heap s x (subst (λ h. Among x (script_names h)) swept i)))

-- The rounds that are left

abbrev outcome : Heap → List Event → Outcome
outcome h es = outcome_of h es

-- what is in order, whatever is owned besides, is so afterwards
abbrev pub KeepsOrder : Keyed → Keyed → Type 0
KeepsOrder old new = (owned : List ℕ) → IsInOrder owned old → IsInOrder owned new

-- the rounds so far told these events, and those that are left give what the collection gives
pub record IsCollecting (old now : Keyed) (before here : Telling) : Type 0 where
  pub left : ℕ
  pub events : List Event
  pub enough : length now.heap.scripts < left
  pub rest : rounds left (outcome_of now.heap events) ≡ collect_scripts old.heap
  pub told : TellsEvents before here events
  pub keys : KeepsKeys old now
  pub order : KeepsOrder old now

pub IsCollecting-start : (v : Keyed) (t : Telling) → IsCollecting v v t t
unfolding collect_scripts
IsCollecting-start v t = record {
  left = suc (length v.heap.scripts);
  events = [];
  enough = omega arith;
  rest = refl;
  told = Tells-nil t;
  keys = record { natives = λ key k at there. at; scripts = λ key x at there. at };
  order = λ owned o. o;
}

-- what a round does
pub record IsRound (v w : Keyed) (t u : Telling) (swept : Bool) : Type 0 where
  pub swept_is : swept ≡ sweeps (marked v.heap)
  pub heap : w.heap ≡ (sweep (marked v.heap)).heap
  pub told : TellsEvents t u (sweep (marked v.heap)).events
  pub keys : KeepsKeys v w
  pub order : KeepsOrder v w

-- what the whole collection does
pub record IsCollected (old new : Keyed) (before after : Telling) : Type 0 where
  pub heap : new.heap ≡ (collect_scripts old.heap).heap
  pub told : TellsEvents before after (collect_scripts old.heap).events
  pub stands : StillStands old.heap new.heap
  pub suspected : IsSuspected (view old.heap) [] → IsSuspected (view new.heap) []
  pub colours : HasColours new.heap
  pub invariant : HasColourInvariant (view new.heap)
  pub keys : KeepsKeys old new
  pub order : KeepsOrder old new
  pub counts : AreFewIfOwnedOnce new

-- a round that sweeps, and the rounds after it
rounds-sweeps : (n : ℕ) (o : Outcome) → sweeps (marked o.heap) ≡ true → rounds (suc n) o ≡ rounds n (after o.events (sweep (marked o.heap)))
unfolding rounds
rounds-sweeps n o e = ap (λ b. elim b [ true ↦ rounds n (after o.events (sweep (marked o.heap))) | false ↦ after o.events (sweep (marked o.heap)) ]) e

-- a round that doesn't is the last
rounds-rests : (n : ℕ) (o : Outcome) → sweeps (marked o.heap) ≡ false → rounds (suc n) o ≡ after o.events (sweep (marked o.heap))
unfolding rounds
rounds-rests n o e = ap (λ b. elim b [ true ↦ rounds n (after o.events (sweep (marked o.heap))) | false ↦ after o.events (sweep (marked o.heap)) ]) e

module _ (old v w : Keyed) (b t u : Telling) (c : IsCollecting old v b t) (known : (owned : List ℕ) × IsInOrder owned old) where
  sound-now : IsSound known.0 v.heap
  sound-now = (c.order known.0 known.1).sound

  keys-then : (swept : Bool) → IsRound v w t u swept → KeepsKeys old w
  keys-then swept r = KeepsKeys-then old v w c.keys r.keys
      (λ x i. native-before v.heap sound-now x (subst (λ h. Among x (native_names h)) r.heap i))
      (λ x i. script-before v.heap sound-now x (subst (λ h. Among x (script_names h)) r.heap i))

  -- after a round that sweeps there are fewer script objects
  pub IsCollecting-fewer : IsRound v w t u true → length w.heap.scripts < length v.heap.scripts
  IsCollecting-fewer r =
      let less = length-sweep-less (marked v.heap) (sym r.swept_is) in
      let same = length-marked v.heap in
      let now = ap (λ h. length h.scripts) r.heap in
      omega arith

  -- and the rounds that are left give what all of them give
  pub IsCollecting-next : IsRound v w t u true → IsCollecting old w b u
  IsCollecting-next r = go c.left refl
    where
      go : (n : ℕ) → c.left ≡ n → IsCollecting old w b u
      go zero e = absurd (omega (arith, c.enough))
      go (suc n) e = record {
        left = n;
        events = c.events ++ (sweep (marked v.heap)).events;
        enough = omega (arith, IsCollecting-fewer r, c.enough);
        rest = ap (λ h. rounds n (outcome h (c.events ++ (sweep (marked v.heap)).events))) r.heap
            ∙ (sym (rounds-sweeps n (outcome v.heap c.events) (sym r.swept_is))
            ∙ (ap (λ m. rounds m (outcome v.heap c.events)) (sym e) ∙ c.rest));
        told = TellsEvents-trans b t u c.events (sweep (marked v.heap)).events c.told r.told;
        keys = keys-then true r;
        order = λ owned o. r.order owned (c.order owned o);
      }

  -- a round that sweeps nothing gives what the collection gives
  collected-last : IsRound v w t u false → outcome w.heap (c.events ++ (sweep (marked v.heap)).events) ≡ collect_scripts old.heap
  collected-last r = go c.left refl
    where
      go : (n : ℕ) → c.left ≡ n → outcome w.heap (c.events ++ (sweep (marked v.heap)).events) ≡ collect_scripts old.heap
      go zero e = absurd (omega (arith, c.enough))
      go (suc n) e = ap (λ h. outcome h (c.events ++ (sweep (marked v.heap)).events)) r.heap
          ∙ (sym (rounds-rests n (outcome v.heap c.events) (sym r.swept_is))
          ∙ (ap (λ m. rounds m (outcome v.heap c.events)) (sym e) ∙ c.rest))

  -- and that is all the collection
  pub IsCollected-last : IsRound v w t u false → IsCollected old w b u
  IsCollected-last r =
      let last = collected-last r in
      record {
        heap = ap (λ (o : Outcome). o.heap) last;
        told = subst (λ (o : Outcome). TellsEvents b u o.events) last (TellsEvents-trans b t u c.events (sweep (marked v.heap)).events c.told r.told);
        stands = λ g made stands. subst (λ (o : Outcome). StandsFor o.heap g) (sym last) (collect_scripts-stands old.heap g known.1.sound made stands);
        suspected = λ suspected. subst (λ (o : Outcome). IsSuspected (view o.heap) []) (sym last) (collect_scripts-suspected old.heap known.1.sound suspected);
        colours = subst (λ (o : Outcome). HasColours o.heap) (sym last) (collect_scripts-colours old.heap);
        invariant = subst (λ (o : Outcome). HasColourInvariant (view o.heap)) (sym last) (collect_scripts-invariant old.heap known.1.sound);
        keys = keys-then false r;
        order = λ owned o. r.order owned (c.order owned o);
        counts = few-owned w;
      }
