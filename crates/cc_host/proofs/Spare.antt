-- THE SPARE REGISTER: what it is to write a native register that holds nothing, and what a change comes to round which it is
-- written and emptied again.
use Rattle.std.proofs.Common.{◌≡◌, ℕ, zero, suc, ◌<◌, [], ◌∷◌, length, get_or, set, Option, Some, None, option_map, refl, sym, ◌∙◌, ap, subst, inl, inr, ⊎_elim, arith, set-set}
use Rattle.std.specs.Option.{option_to_list}
use Rattle.std.proofs.lemmas.List.{get_or-set_other, get_or-set_same, set-get_or}
use Rattle.cc_lists.specs.Members.{Among}
use Rattle.cc_lists.proofs.Members.{Among-left, Among-right, Among-append}
use Rattle.cc_names.specs.declared.name.Name.{Name}
use Rattle.cc_names.specs.declared.name.Name.TheVariants as name
use Rattle.cc_names.specs.declared.number.NKey.{NKey}
use Rattle.cc_names.specs.declared.register.Reg.TheVariants.{N}
use Rattle.cc_names.specs.Names.{native}
use Rattle.cc_model.specs.Slots.{Slots, contents}
use Rattle.cc_model.specs.Entries.{joints}
use Rattle.cc_model.specs.Graph as graph
use Rattle.cc_model.specs.Graph.{Graph, GraphNative, GraphScript, native_in, script_in, set_native, set_script}
use Rattle.cc_model.specs.WellMade.{IsWellMade}
use Rattle.cc_model.specs.Heap.{Heap, Outcome, native_at, register, set_register, silently}
use Rattle.cc_model.specs.Cascade.{take_up, let_go}
use Rattle.cc_model.specs.Effects.{hold_native}
use Rattle.cc_model.specs.End.{slots_now}
use Rattle.cc_model.specs.View.{view, ReachedIn}
use Rattle.cc_model.specs.WellFormed.{IsWellFormed, native_names, names_there}
use Rattle.cc_model.specs.StandsFor.{StandsFor}
use Rattle.cc_laws_heap.specs.Freeing.{SameBeside}
use Rattle.cc_laws_heap.proofs.Face.{HoldsTheSame-take_up, Leaves-let_go, native_names-alike, names_there-alike}
use Rattle.cc_laws_snapshot.proofs.Face.{edges-alike, reached-kept}
use Rattle.cc_heaps.specs.Keyed.{Keyed, left_with}
use Rattle.cc_heaps.specs.Changes.{native_name}
use Rattle.cc_heaps.specs.Keeping.{KeepsAll}
use Rattle.cc_heaps.specs.Standing.{IsReached, StandsAfter}
use Rattle.cc_heaps.proofs.Calls.{number-named}
use Rattle.cc_heaps.proofs.LeftWith.{keys-there}
use Rattle.cc_heaps.proofs.SlotsHeld.{slots-taken}
use Rattle.cc_host.specs.Hosted.{roots, spare}
use Rattle.cc_host.specs.Holding.{IsHeld}
use Rattle.cc_host.specs.Missing.{KeepsDoomed}
use Rattle.cc_host.proofs.KeptDoomed.{hold_native-doomed}
use Rattle.cc_host.specs.Changes.{IsReady}
use Rattle.cc_host.proofs.Composing.{stands-then}

-- What registers hold

-- where a place holds nothing, what is written into it takes nothing away
pub contents-kept : (slots : Slots) (i : ℕ) (x : Option Name) → get_or slots i None ≡ None → (y : Name) → Among y (contents slots) → Among y (contents (set slots i x))
contents-kept [] i x e y m = m
contents-kept (None ∷ slots) zero x e y m = Among-right y (option_to_list x) (contents slots) m
contents-kept (Some z ∷ slots) zero x e y m = absurd (cc)
contents-kept (None ∷ slots) (suc i) x e y m = contents-kept slots i x e y m
contents-kept (Some z ∷ slots) (suc i) x e y m = ⊎_elim (λ f. inl f) (λ r. inr (contents-kept slots i x e y r)) m

module _ (h : Heap) (r : ℕ) (x : Option Name) where
  -- the heaps with a register written, before what it held is given up
  abbrev pub written : Heap
  written = set_register (take_up h x) (N r) x

  beside : SameBeside h (take_up h x)
  beside = (HoldsTheSame-take_up h x).beside

  -- the others hold what they held
  pub hold_native-registers : (hold_native h r x).heap.native_registers ≡ set h.native_registers r x
  unfolding hold_native
  hold_native-registers =
      (Leaves-let_go written (register (take_up h x) (N r))).beside.native_registers
      ∙ ap (λ (rs : Slots). set rs r x) beside.native_registers

  -- the same objects are there
  written-natives : native_names written ≡ native_names h
  written-natives = native_names-alike h (take_up h x) (HoldsTheSame-take_up h x)

  pub written-names : names_there written ≡ names_there h
  written-names = names_there-alike h (take_up h x) (HoldsTheSame-take_up h x)

  module _ (empty : register h (N r) ≡ None) where
    -- WHERE IT HELD NOTHING nothing is given up.
    hold_native-empty : hold_native h r x ≡ silently written
    unfolding hold_native
    hold_native-empty = ap (let_go written) (ap (λ (rs : Slots). get_or rs r None) beside.native_registers ∙ empty)

    -- What is reached stays reached.
    written-reached : IsWellFormed written → (y : Name) → ReachedIn (view h) y → ReachedIn (view written) y
    written-reached w = reached-kept h written w (record {
      registers = λ y m. ⊎_elim
          (λ l. Among-left y (contents written.native_registers) (contents written.script_registers)
          (subst (λ (rs : Slots). Among y (contents (set rs r x))) (sym beside.native_registers) (contents-kept h.native_registers r x empty y l)))
          (λ s. Among-right y (contents written.native_registers) (contents written.script_registers)
          (subst (λ (rs : Slots). Among y (contents rs)) (sym beside.script_registers) s))
          (Among-append y (contents h.native_registers) (contents h.script_registers) m);
      edges = λ y z d i m. subst (Among (y, z)) (sym (edges-alike h (take_up h x) (HoldsTheSame-take_up h x))) m;
      joints = λ j m i l. subst (λ es. Among j (joints es)) (sym beside.entries) m;
    })

-- A ROOT WRITTEN leaves the host's own register empty.
pub root-spared : (v w : Keyed) (r : ℕ) (x : Option Name) → r < roots → IsReady v → w ≡ left_with v (hold_native v.heap r x).heap → register w.heap (N spare) ≡ None
root-spared v w r x few ready is =
    ap (λ (u : Keyed). get_or u.heap.native_registers spare None) is
    ∙ (ap (λ (rs : Slots). get_or rs spare None) (hold_native-registers v.heap r x)
    ∙ (get_or-set_other v.heap.native_registers r spare x None (λ e. omega (arith, few, e)) ∙ ready.spared))

-- A root written holds what it was given.
pub root-held : (v w : Keyed) (r : ℕ) (x : Option Name) → r < length v.heap.native_registers → w ≡ left_with v (hold_native v.heap r x).heap → register w.heap (N r) ≡ x
root-held v w r x few is =
    ap (λ (u : Keyed). get_or u.heap.native_registers r None) is
    ∙ (ap (λ (rs : Slots). get_or rs r None) (hold_native-registers v.heap r x) ∙ get_or-set_same v.heap.native_registers r x None few)

-- THE HOST'S OWN REGISTER HOLDS what is at a key
module _ (v : Keyed) (key : NKey) (ready : IsReady v) where
  abbrev content : Option Name
  content = native_name v (Some key)

  pub held-silently : hold_native v.heap spare content ≡ silently (written v.heap spare content)
  held-silently = hold_native-empty v.heap spare content ready.spared

  still-there : (k : ℕ) → Among (native k) (native_names v.heap) → Among (native k) (native_names (hold_native v.heap spare content).heap)
  still-there k m = subst (λ (o : Outcome). Among (native k) (native_names o.heap)) (sym held-silently)
      (subst (Among (native k)) (sym (written-natives v.heap spare content)) m)

  module _ (w : Keyed) (is : w ≡ left_with v (hold_native v.heap spare content).heap) (kept : KeepsAll v w) where
    is-written : w.heap ≡ written v.heap spare content
    is-written = ap (λ (u : Keyed). u.heap) is ∙ ap (λ (o : Outcome). o.heap) held-silently

    still-reached : (y : Option Name) → IsReached v.heap y → IsReached w.heap y
    still-reached None d = tt
    still-reached (Some y) d = subst (λ h. ReachedIn (view h) y) (sym is-written)
        (written-reached v.heap spare content ready.spared (subst IsWellFormed is-written (kept.order [] ready.order).sound.well_formed) y d)

    is-held : (IsReached v.heap content → StandsAfter v.heap w.heap (λ g. graph.set_register g (N spare) content)) → IsHeld key v w
    is-held stands = record {
      kept = kept;
      heap = is-written;
      held = ap (λ (u : Keyed). get_or u.heap.native_registers spare None) is
          ∙ (ap (λ (rs : Slots). get_or rs spare None) (hold_native-registers v.heap spare content)
          ∙ get_or-set_same v.heap.native_registers spare content None (omega (arith, ready.order.sound.well_formed.registers.0.enough)));
      stands = stands;
      doomed = λ p. subst (KeepsDoomed v.heap) (sym (ap (λ (u : Keyed). u.heap) is)) (hold_native-doomed v.heap spare content p);
      keys = ap (λ (u : Keyed). u.keys) is ∙ keys-there (hold_native v.heap spare content).heap v.keys (λ q k e. still-there k (number-named v [] q k ready.order e));
      scripts = ap (λ (u : Keyed). u.scripts) is;
      names = ap names_there is-written ∙ written-names v.heap spare content;
      slots = λ k. ap (λ h. slots_now (native_at h k)) is-written ∙ slots-taken v.heap content k;
      reached = still-reached;
    }

pub held-from : (v w : Keyed) (key : NKey) → IsReady v → w ≡ left_with v (hold_native v.heap spare (native_name v (Some key))).heap → KeepsAll v w →
    (IsReached v.heap (native_name v (Some key)) → StandsAfter v.heap w.heap (λ g. graph.set_register g (N spare) (native_name v (Some key)))) → IsHeld key v w
held-from v w key ready is kept stands = is-held v key ready w is kept stands

-- In the graph

-- a change that looks at no native register, and writes none
abbrev pub LeavesRegisters : (Graph → Graph) → Type 0
LeavesRegisters change = (g : Graph) (rs : Slots) → change (record g { native_registers = rs }) ≡ record (change g) { native_registers = rs }

native-leaves : (f : GraphNative → GraphNative) (k : ℕ) → LeavesRegisters (λ g. set_native g k (option_map f (native_in g k)))
native-leaves f k g rs = go (option_map f (native_in g k))
  where
    go : (o : Option GraphNative) → set_native (record g { native_registers = rs }) k o ≡ record (set_native g k o) { native_registers = rs }
    go None = refl
    go (Some n) = refl

script-leaves : (f : GraphScript → GraphScript) (k : ℕ) → LeavesRegisters (λ g. set_script g k (option_map f (script_in g k)))
script-leaves f k g rs = go (option_map f (script_in g k))
  where
    go : (o : Option GraphScript) → set_script (record g { native_registers = rs }) k o ≡ record (set_script g k o) { native_registers = rs }
    go None = refl
    go (Some n) = refl

pub slot-leaves : (x : Option Name) (i : ℕ) (y : Option Name) → LeavesRegisters (λ g. graph.set_slot g x i y)
slot-leaves None i y = λ g rs. refl
slot-leaves (Some (name.Native k)) i y = native-leaves (graph.with_slot i y) k.0
slot-leaves (Some (name.Script k)) i y = script-leaves (graph.with_script_slot i y) k.0
slot-leaves (Some (name.Reflector k)) i y = native-leaves (graph.with_reflector_slot i y) k.0

pub move-leaves : (x : Option Name) (i : ℕ) (y : Option Name) (j : ℕ) (z : Option Name) → LeavesRegisters (λ g. graph.move_slot g x i y j z)
move-leaves x i y j z = λ g rs. ap (λ k. graph.set_slot k x i z) (slot-leaves y j None g rs) ∙ slot-leaves x i z (graph.set_slot g y j None) rs

pub wrapped-leaves : (x : Option Name) → LeavesRegisters (λ g. graph.wrapped g x)
wrapped-leaves None = λ g rs. refl
wrapped-leaves (Some (name.Native k)) = native-leaves graph.as_wrapped k.0
wrapped-leaves (Some (name.Script k)) = λ g rs. refl
wrapped-leaves (Some (name.Reflector k)) = λ g rs. refl

-- ROUND SUCH A CHANGE a register that held nothing may be written and emptied
around : (change : Graph → Graph) → LeavesRegisters change → (g : Graph) (r : ℕ) (x : Option Name) → graph.register g (N r) ≡ None →
    graph.set_register (change (graph.set_register g (N r) x)) (N r) None ≡ change g
around change leaves g r x none =
    let rs = g.native_registers in
    ap (λ k. graph.set_register k (N r) None) (leaves g (set rs r x))
    ∙ (ap (λ (ss : Slots). record (change g) { native_registers = ss }) (set-set rs r x None ∙ (ap (set rs r) (sym none) ∙ set-get_or rs r None))
    ∙ sym (leaves g rs))

module _ (a b c d : Heap) (r : ℕ) (x : Option Name) (change : Graph → Graph) where
  pub stands-around : register a (N r) ≡ None → LeavesRegisters change → StandsAfter a b (λ g. graph.set_register g (N r) x) → StandsAfter b c change →
      StandsAfter c d (λ g. graph.set_register g (N r) None) → StandsAfter a d change
  stands-around none leaves s t u g m p =
      subst (λ e. IsWellMade e × StandsFor d e)
      (around change leaves g r x (sym (ap (λ (rs : Slots). get_or rs r None) p.native_registers) ∙ none))
      (stands-then a c d (λ g. change (graph.set_register g (N r) x)) (λ g. graph.set_register g (N r) None)
      (stands-then a b c (λ g. graph.set_register g (N r) x) change s t) u g m p)
