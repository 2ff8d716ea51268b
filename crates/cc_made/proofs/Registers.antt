-- Which registers of a graph are empty while a made script runs.
use Rattle.std.proofs.Common.{◌≡◌, ◌⊎◌, ℕ, zero, suc, ◌<◌, ◌≤◌, Bool, true, false, List, [], ◌∷◌, Option, None, Some, get_or, set, refl, ap, sym, ◌∙◌, arith, inl, inr, ⊎_elim, subst}
use Rattle.std.proofs.lemmas.Bool.{false≢true, ltb-true}
use Rattle.std.proofs.lemmas.Bool.Decides.{leb_tells}
use Rattle.std.proofs.lemmas.List.{get_or-set_other}
use Rattle.cc_names.specs.Allowance.{Allowance}
use Rattle.cc_names.specs.declared.name.Name.{Name}
use Rattle.cc_names.specs.declared.name.Name.TheVariants as name
use Rattle.cc_names.specs.declared.register.Reg.{Reg}
use Rattle.cc_names.specs.declared.register.Reg.TheVariants.{N, S, W}
use Rattle.cc_names.specs.Sizes.{bank_length}
use Rattle.cc_model.specs.declared.command.Command.{Command}
use Rattle.cc_model.specs.declared.command.Command.TheVariants.{Deref, Drop}
use Rattle.cc_model.specs.declared.item.Refusal.{Refusal}
use Rattle.cc_model.specs.declared.item.Reply.{Reply}
use Rattle.cc_model.specs.Answers.{Answer}
use Rattle.cc_model.specs.Asks.{Ask, long, bad, taken}
use Rattle.cc_model.specs.Checks.{Objects, refusal_of, reply_if_taken}
use Rattle.cc_model.specs.Deeds.{Deed, nothing_done, native_made, plain_made, map_made, proxy_made, native_held, script_held, script_copied, native_stored, slot_moved, script_stored, reflector_held, reflector_preserved, entry_written, object_exposed, weak_written, deed_of}
use Rattle.cc_model.specs.Graph.{Graph, GraphNative, GraphScript, proxy, done_to, changed, empty_graph, objects_of, preserve, register, set_entry, set_native, set_register, set_script, set_slot, step, unless_refused, with_proxy, with_script, wrapped}
use Rattle.cc_model.specs.Slots.{empty_slots}
use Rattle.cc_model.specs.Mutating.{Class, reads_weak, class_of}
use Rattle.cc_model.specs.Lawful.{AnswersTaken, ReplyAnswers, State, graph_after, is_without_memory, next, noted_in, step_of, step_with}
use Rattle.cc_model.specs.Reached.{Reached, held, edge, value, key}
use Rattle.cc_made.specs.Asked.{written_by, written_in, writes_of_eight, is_of_eight}

-- the first registers of each bank, so many of them, and all from the eighth on are empty
pub record HasEmptied (natives scripts : ℕ) (g : Graph) : Type 0 where
  pub in_natives : (r : ℕ) → (r < natives) ⊎ (8 ≤ r) → register g (N r) ≡ None
  pub in_scripts : (r : ℕ) → (r < scripts) ⊎ (8 ≤ r) → register g (S r) ≡ None

-- no register is filled at the beginning
none-at : (n r : ℕ) → get_or (empty_slots n) r None ≡ None
none-at zero r = refl
none-at (suc n) zero = refl
none-at (suc n) (suc r) = none-at n r

pub none-filled : (limits : Allowance) → HasEmptied 0 0 (empty_graph limits)
none-filled limits = record { in_natives = λ r i. none-at bank_length r; in_scripts = λ r i. none-at bank_length r }

-- both have the same registers
pub record SameBanks (g h : Graph) : Type 0 where
  pub natives : h.native_registers ≡ g.native_registers
  pub scripts : h.script_registers ≡ g.script_registers

same : (g : Graph) → SameBanks g g
same g = record { natives = refl; scripts = refl }

native-banks : (g : Graph) (k : ℕ) (n : Option GraphNative) → SameBanks g (set_native g k n)
native-banks g k None = record { natives = refl; scripts = refl }
native-banks g k (Some n) = record { natives = refl; scripts = refl }

script-banks : (g : Graph) (k : ℕ) (o : Option GraphScript) → SameBanks g (set_script g k o)
script-banks g k None = record { natives = refl; scripts = refl }
script-banks g k (Some o) = record { natives = refl; scripts = refl }

preserve-banks : (g : Graph) (x : Option Name) → SameBanks g (preserve g x)
preserve-banks g None = same g
preserve-banks g (Some (name.Native k)) = same g
preserve-banks g (Some (name.Script k)) = same g
preserve-banks g (Some (name.Reflector k)) = native-banks g k.0 _

wrapped-banks : (g : Graph) (x : Option Name) → SameBanks g (wrapped g x)
wrapped-banks g None = same g
wrapped-banks g (Some (name.Native k)) = native-banks g k.0 _
wrapped-banks g (Some (name.Script k)) = same g
wrapped-banks g (Some (name.Reflector k)) = same g

slot-banks : (g : Graph) (x : Option Name) (i : ℕ) (y : Option Name) → SameBanks g (set_slot g x i y)
slot-banks g None i y = same g
slot-banks g (Some (name.Native k)) i y = native-banks g k.0 _
slot-banks g (Some (name.Script k)) i y = script-banks g k.0 _
slot-banks g (Some (name.Reflector k)) i y = native-banks g k.0 _

entry-banks : (g : Graph) (m k v : Option Name) → SameBanks g (set_entry g m k v)
entry-banks g None k v = same g
entry-banks g (Some m) None v = same g
entry-banks g (Some m) (Some k) None = record { natives = refl; scripts = refl }
entry-banks g (Some m) (Some k) (Some v) = record { natives = (preserve-banks g (Some k)).natives; scripts = (preserve-banks g (Some k)).scripts }

banks-then : (f g h : Graph) → SameBanks f g → SameBanks g h → SameBanks f h
banks-then f g h p q = record { natives = q.natives ∙ p.natives; scripts = q.scripts ∙ p.scripts }

proxy-banks : (g : Graph) (x : Name) → SameBanks g (with_script (preserve g (Some x)) (proxy x))
proxy-banks g x = record { natives = (preserve-banks g (Some x)).natives; scripts = (preserve-banks g (Some x)).scripts }

-- the same are empty where the registers are the same
kept : (a b : ℕ) (g h : Graph) → SameBanks g h → HasEmptied a b g → HasEmptied a b h
kept a b g h s e = record {
  in_natives = λ r i. ap (λ l. get_or l r None) s.natives ∙ e.in_natives r i;
  in_scripts = λ r i. ap (λ l. get_or l r None) s.scripts ∙ e.in_scripts r i;
}

-- one of the eight is written
written : (g h : Graph) (r : Reg) (x : Option Name) → SameBanks g h → is_of_eight (Some r) ≡ true → HasEmptied 0 0 g → HasEmptied 0 0 (set_register h r x)
written g h (N d) x s low e =
    let below : d < 8 = ltb-true _ _ low in
    record {
      in_natives = λ r i. get_or-set_other h.native_registers d r x None (λ same. ⊎_elim (λ none. omega (arith, none)) (λ far. omega (arith, far, same, below)) i)
          ∙ (kept 0 0 g h s e).in_natives r i;
      in_scripts = (kept 0 0 g h s e).in_scripts;
    }
written g h (S d) x s low e =
    let below : d < 8 = ltb-true _ _ low in
    record {
      in_natives = (kept 0 0 g h s e).in_natives;
      in_scripts = λ r i. get_or-set_other h.script_registers d r x None (λ same. ⊎_elim (λ none. omega (arith, none)) (λ far. omega (arith, far, same, below)) i)
          ∙ (kept 0 0 g h s e).in_scripts r i;
    }
written g h (W d) x s low e = absurd (false≢true low)

-- a slot that is emptied is empty, and so is each that was
set-none : {X : Type 0} (xs : List (Option X)) (i j : ℕ) → ((j ≡ i → ⊥) → get_or xs j None ≡ None) → get_or (set xs i None) j None ≡ None
set-none [] i j h = refl
set-none (x ∷ xs) zero zero h = refl
set-none (x ∷ xs) zero (suc j) h = h (λ e. omega (arith, e))
set-none (x ∷ xs) (suc i) zero h = h (λ e. omega (arith, e))
set-none (x ∷ xs) (suc i) (suc j) h = set-none xs i j (λ other. h (λ e. other (omega (arith, e))))

-- a proxy that is made writes one of the eight, where its register holds something
proxy-kept : (g : Graph) (d : ℕ) (x : Option Name) → is_of_eight (Some (S d)) ≡ true → HasEmptied 0 0 g → HasEmptied 0 0 (with_proxy g d x)
proxy-kept g d None low e = e
proxy-kept g d (Some x) low e = written g (with_script (preserve g (Some x)) (proxy x)) (S d) _ (proxy-banks g x) low e

-- the next one is emptied
before-next : (a r : ℕ) → (r < suc a) ⊎ (8 ≤ r) → (r ≡ a → ⊥) → (r < a) ⊎ (8 ≤ r)
before-next a r i other = ⊎_elim (λ near. inl (omega (arith, near, other))) (λ far. inr far) i

pub next-native-emptied : (a b : ℕ) (g : Graph) → HasEmptied a b g → HasEmptied (suc a) b (set_register g (N a) None)
next-native-emptied a b g e = record {
  in_natives = λ r i. set-none g.native_registers a r (λ other. e.in_natives r (before-next a r i other));
  in_scripts = e.in_scripts;
}

pub next-script-emptied : (a b : ℕ) (g : Graph) → HasEmptied a b g → HasEmptied a (suc b) (set_register g (S b) None)
next-script-emptied a b g e = record {
  in_natives = e.in_natives;
  in_scripts = λ r i. set-none g.script_registers b r (λ other. e.in_scripts r (before-next b r i other));
}

-- a deed that writes one of the eight, or none
done_to-kept : (g : Graph) (d : Deed) → is_of_eight (written_by d) ≡ true → HasEmptied 0 0 g → HasEmptied 0 0 (done_to g d)
unfolding done_to
done_to-kept g nothing_done low e = e
done_to-kept g (native_made d n) low e = written g _ (N d) _ (record { natives = refl; scripts = refl }) low e
done_to-kept g (plain_made d n) low e = written g _ (S d) _ (record { natives = refl; scripts = refl }) low e
done_to-kept g (map_made d) low e = written g _ (S d) _ (record { natives = refl; scripts = refl }) low e
done_to-kept g (proxy_made d x) low e = proxy-kept g d x low e
done_to-kept g (native_held d x) low e = written g g (N d) x (same g) low e
done_to-kept g (script_held d x) low e = written g g (S d) x (same g) low e
done_to-kept g (script_copied d x) low e = written g g (S d) x (same g) low e
done_to-kept g (native_stored d i x) low e = kept 0 0 g _ (slot-banks g _ i _) e
done_to-kept g (slot_moved d i s j) low e = kept 0 0 g _ (banks-then g _ _ (slot-banks g _ j _) (slot-banks _ _ i _)) e
done_to-kept g (script_stored x i y) low e = kept 0 0 g _ (banks-then g _ _ (preserve-banks g _) (slot-banks _ _ i _)) e
done_to-kept g (reflector_held d x) low e = written g _ (S d) _ (wrapped-banks g _) low e
done_to-kept g (reflector_preserved x) low e = kept 0 0 g _ (preserve-banks g _) e
done_to-kept g (entry_written m k v) low e = kept 0 0 g _ (entry-banks g _ _ _) e
done_to-kept g (object_exposed x) low e = e
done_to-kept g (weak_written w x) low e = absurd (false≢true low)

-- a command that writes one of the eight, or none
changed-kept : (g : Graph) (c : Command) → is_of_eight (written_by (deed_of (objects_of g) c)) ≡ true → HasEmptied 0 0 g → HasEmptied 0 0 (changed g c)
unfolding changed
changed-kept g c low e = done_to-kept g (deed_of (objects_of g) c) low e

-- after a reply the graph is as it was, or as the command changes it, or a register holds what a weak one gives
pub left-or-changed : (P : Graph → Type 0) (ended : List Name) (g : Graph) (c : Command) (reply : Option Reply) → P g → P (changed g c) →
    ((d w : ℕ) → class_of c ≡ reads_weak d w → P (set_register g (N d) (noted_in ended g w))) → P (graph_after ended g c reply)
left-or-changed P ended g c None left new read = left
left-or-changed P ended g c (Some reply) left new read = go (is_without_memory reply)
  where
    stepped : (refusal : Option Refusal) → P (unless_refused refusal g (changed g c))
    stepped None = new
    stepped (Some refusal) = left

    by_class : (k : Class) → class_of c ≡ k → P (step_of ended g c k)
    by_class (reads_weak d w) is = read d w is
    by_class _ is = stepped (refusal_of (objects_of g) c)

    go : (wants : Bool) → P (elim wants [ true ↦ g | false ↦ step_with ended g c ])
    go true = left
    go false = by_class (class_of c) refl

-- a command that writes one of the eight does a deed that writes one, or none
deed-low : (o : Objects) (c : Command) → writes_of_eight o (taken c) ≡ true → is_of_eight (written_by (deed_of o c)) ≡ true
unfolding deed_of
deed-low o (Deref d w) low = refl
deed-low o c low = low

-- no ask of a made script writes another
pub next-kept : (s : State) (ask : Ask) (a : Answer) → writes_of_eight (objects_of s.graph) ask ≡ true → HasEmptied 0 0 s.graph → HasEmptied 0 0 (next s ask a).graph
next-kept s long a low e = e
next-kept s bad a low e = e
next-kept s (taken c) a low e = left-or-changed (HasEmptied 0 0) s.ended s.graph c a.reply e (changed-kept s.graph c (deed-low (objects_of s.graph) c low) e)
    (λ d w is. written s.graph s.graph (N d) _ (same s.graph) (subst (λ k. is_of_eight (written_in (deed_of (objects_of s.graph) c) k) ≡ true) is low) e)

-- a register that is a root
abbrev pub IsRoot : Reg → Type 0
IsRoot (N d) = Unit {0}
IsRoot (S d) = Unit {0}
IsRoot (W d) = ⊥

-- what is let go leaves its register empty
changed-drop : (g : Graph) (r : Reg) → IsRoot r → changed g (Drop r) ≡ set_register g r None
unfolding changed done_to deed_of
changed-drop g (N d) root = refl
changed-drop g (S d) root = refl
changed-drop g (W d) root = absurd root

-- a root that is let go is emptied: that wants no memory, and is not refused
pub drop-done : (s : State) (r : Reg) (a : Answer) → IsRoot r → AnswersTaken s (Drop r) a → graph_after s.ended s.graph (Drop r) a.reply ≡ set_register s.graph r None
unfolding refusal_of reply_if_taken
drop-done s r a root answered = go a.reply answered.2
  where
    go : (reply : Option Reply) → ReplyAnswers s (Drop r) a reply → graph_after s.ended s.graph (Drop r) reply ≡ set_register s.graph r None
    go None p = absurd p
    go (Some reply) p = ⊎_elim (λ e. ap (λ y. graph_after s.ended s.graph (Drop r) (Some y)) e ∙ changed-drop s.graph r root) (λ wants. absurd (false≢true wants.command_may)) p.replies

-- a register is one of the eight or beyond them
near-or-far : (r : ℕ) → (r < 8) ⊎ (8 ≤ r)
near-or-far r = ⊎_elim (λ far. inr far.1) (λ near. inl near.1) (leb_tells 8 r)

all-empty : (g : Graph) → HasEmptied 8 8 g → (r : Reg) → register g r ≡ None
all-empty g e (N r) = e.in_natives r (near-or-far r)
all-empty g e (S r) = e.in_scripts r (near-or-far r)
all-empty g e (W r) = refl

-- where all registers are empty nothing is reached
pub none-reached : (g : Graph) → HasEmptied 8 8 g → (x : Name) → Reached g x → ⊥
none-reached g e _ (held r x h) = let none : None ≡ Some x = sym (all-empty g e r) ∙ h in cc
none-reached g e _ (edge y z reached among) = none-reached g e y reached
none-reached g e _ (value entry among map_reached key_reached) = none-reached g e entry.key key_reached
none-reached g e _ (key entry d among is map_reached delegate_reached) = none-reached g e entry.the_map map_reached
