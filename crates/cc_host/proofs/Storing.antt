-- WHAT IS WRITTEN WHILE A NATIVE IS HELD: nothing comes by it, all is kept, and the heaps stand for the graph in which it is written.
use Rattle.std.proofs.Common.{◌≡◌, ℕ, ◌<◌, [], ◌++◌, length, get_or, Option, Some, None, IsSome, option_map, refl, sym, ◌∙◌, ap, subst, option_and_then}
use Rattle.std.proofs.lemmas.List.{length-map}
use Rattle.cc_lists.specs.Members.{Among}
use Rattle.cc_lists.proofs.Least.{derive-root}
use Rattle.cc_lists.proofs.Members.{Among-left}
use Rattle.cc_names.specs.declared.name.Name.{Name}
use Rattle.cc_names.specs.declared.number.NKey.{NKey}
use Rattle.cc_names.specs.Names.{native}
use Rattle.cc_model.specs.Slots.{Slots, contents}
use Rattle.cc_model.specs.Entries.{joints, rules_of}
use Rattle.cc_model.specs.Graph as graph
use Rattle.cc_model.specs.Heap.{Heap, native_at, set_slot, with_native_slot}
use Rattle.cc_model.specs.Cascade.{take_up}
use Rattle.cc_model.specs.End.{slots_now}
use Rattle.cc_model.specs.View.{view, ReachedIn}
use Rattle.cc_model.specs.WellFormed.{IsWellFormed, names_there, script_names}
use Rattle.cc_laws_heap.proofs.Face.{HoldsTheSame-take_up, Leaves-let_go, contents-get, names_there-alike, native_names-change, taken_out-names, touched-registers}
use Rattle.cc_counted.specs.Counts.{slots_of}
use Rattle.cc_counted.specs.declared.held.Held.{Held}
use Rattle.cc_counted.specs.declared.held.Held.TheVariants as held
use Rattle.cc_script.specs.Objects.{colour_at}
use Rattle.cc_heaps.specs.Keyed.{Keyed, IsInOrder, counts_of, keyed_name, left_with, number_at, the_number}
use Rattle.cc_heaps.specs.Changes.{IsBlackHeld, IsThere, held_name, moved_in, native_name, slot_held, stored_in, taken_from, written_in}
use Rattle.cc_heaps.specs.Keeping.{KeepsAll, KeepsAllIf, KeepsAllIfReached}
use Rattle.cc_heaps.specs.Leaving.{NoneCame}
use Rattle.cc_heaps.specs.Standing.{IsReached, IsReachedOrReflects, StandsAfter}
use Rattle.cc_heaps.proofs.Content.{held-in, number-some}
use Rattle.cc_heaps.proofs.Following.{slots-keyed}
use Rattle.cc_heaps.proofs.Kept.{KeepsAll-both, KeepsAll-reached}
use Rattle.cc_heaps.proofs.Moving.{number-same}
use Rattle.cc_host.specs.Hosted.{spare}
use Rattle.cc_host.specs.Holding.{IsHeld}
use Rattle.cc_host.specs.Missing.{KeepsDoomed}
use Rattle.cc_host.proofs.KeptDoomed.{moved-doomed, stored-doomed}
use Rattle.cc_host.proofs.Around.{left-none_came}
use Rattle.cc_host.proofs.Exposing.{stays-same}
use Rattle.cc_host.proofs.Reflects.{reflects-kept, stored_in-reflects}

-- What comes

-- a slot of a native written
written-none_came : (h : Heap) (k i : ℕ) (x : Option Name) → NoneCame h (written_in h k i x).heap
written-none_came h k i x y m = subst (λ xs. Among y (xs ++ script_names h)) (native_names-change h k (with_native_slot i x) (λ n. refl))
    (left-none_came (set_slot h (Some (native k)) i x) (written_in h k i x).heap (Leaves-let_go (set_slot h (Some (native k)) i x) (slot_held h k i)) y m)

pub stored-none_came : (v w : Keyed) (k i : ℕ) (x : Option Name) → w ≡ left_with v (stored_in v.heap k i x).heap → NoneCame v.heap w.heap
stored-none_came v w k i x is y m = subst (Among y) (names_there-alike v.heap (take_up v.heap x) (HoldsTheSame-take_up v.heap x))
    (written-none_came (take_up v.heap x) k i x y (subst (λ (u : Keyed). Among y (names_there u.heap)) is m))

-- what another held moved into it
pub moved-none_came : (h g : Heap) (k i m j : ℕ) → IsWellFormed h → g ≡ (moved_in h k i m j).heap → NoneCame h g
moved-none_came h g k i m j w is y n = subst (Among y) (taken_out-names h m j (slot_held h m j) w)
    (written-none_came (taken_from h m j) k i (slot_held h m j) y (subst (λ f. Among y (names_there f)) is n))

-- By keys

-- a native has as many slots by its key as by its name
pub slots-counted : (v : Keyed) (key : ℕ) → length (slots_of (counts_of v) key) ≡ length (slots_now (native_at v.heap (the_number v key)))
slots-counted v key = ap length (slots-keyed v (the_number v key)) ∙ length-map (slots_now (native_at v.heap (the_number v key))) (λ x. option_and_then (keyed_name v.scripts) x)

module _ (v w : Keyed) (keys : w.keys ≡ v.keys) where
  -- where keys are the same, so are the names of natives,
  pub native_name-same : (key : NKey) → native_name w (Some key) ≡ native_name v (Some key)
  native_name-same key = ap (λ ks. option_map native (get_or ks key.0 None)) keys

  pub live-same : (key : NKey) → IsSome (number_at v key.0) → IsSome (number_at w key.0)
  live-same key live = subst (λ ks. IsSome (get_or ks key.0 None)) (sym keys) live

  pub native_name-is : (key : NKey) → IsSome (number_at v key.0) → native_name v (Some key) ≡ Some (native (the_number w key.0))
  native_name-is key live = sym (native_name-same key) ∙ ap (option_map native) (number-some (number_at w key.0) (live-same key live))

  module _ (slots : (k : ℕ) → slots_now (native_at w.heap k) ≡ slots_now (native_at v.heap k)) where
    -- and, where slots are the same, what they hold
    slots-same : (key : ℕ) → slots_now (native_at w.heap (the_number w key)) ≡ slots_now (native_at v.heap (the_number v key))
    slots-same key = ap (λ k. slots_now (native_at w.heap k)) (number-same v w key keys) ∙ slots (the_number v key)

    pub slot_held-same : (key j : ℕ) → slot_held w.heap (the_number w key) j ≡ slot_held v.heap (the_number v key) j
    slot_held-same key j = ap (λ ss. get_or ss j None) (slots-same key)

    pub within-same : (key i : ℕ) → i < length (slots_of (counts_of v) key) → i < length (slots_of (counts_of w) key)
    within-same key i l = subst (λ n. i < n) (slots-counted v key ∙ (ap length (sym (slots-same key)) ∙ sym (slots-counted w key))) l

-- what is black is black where script objects are the same
pub black-same : (v w : Keyed) → w.scripts ≡ v.scripts → (x : Option Held) → IsBlackHeld v x → IsBlackHeld w x
black-same v w e None b = tt
black-same v w e (Some (held.Native key)) b = tt
black-same v w e (Some (held.Script key)) b = ap (λ os. colour_at os key.0) e ∙ b

-- What is reached

-- what a native register holds
pub register-reached : (h : Heap) (r : ℕ) (x : Name) → get_or h.native_registers r None ≡ Some x → ReachedIn (view h) x
register-reached h r x e = derive-root (view h).registers (view h).edges (rules_of (joints h.entries)) x
    (Among-left x (contents h.native_registers) (contents h.script_registers) (contents-get h.native_registers r x e))

module _ {key : NKey} (a b : Keyed) (h : IsHeld key a b) (live : IsSome (number_at a key.0)) where
  -- the native that is held
  pub held-reached : IsReached b.heap (Some (native (the_number b key.0)))
  held-reached = register-reached b.heap spare (native (the_number b key.0)) (h.held ∙ native_name-is a b h.keys key live)

  -- A SLOT OF IT IS WRITTEN.
  module _ (c : Keyed) (i : ℕ) (content : Option Held) (there : IsThere a content) where
    pub stored-kept : IsBlackHeld a content → KeepsAllIf (IsBlackHeld b content) (IsReached b.heap (Some (native (the_number b key.0)))) b c → KeepsAll b c
    stored-kept black kept = KeepsAll-both kept (black-same a b h.scripts content black) held-reached

    -- the content is reached, or the reflector of a native that is
    still-handed : IsReachedOrReflects a.heap (held_name a content) → IsReachedOrReflects b.heap (held_name b content)
    still-handed reached = subst (IsReachedOrReflects b.heap) (sym ((stays-same a b h.keys h.scripts).same content there))
        (reflects-kept a.heap b.heap h.reached (held_name a content) reached)

    pub stored-stands : IsInOrder [] a → KeepsAll b c → c ≡ left_with b (stored_in b.heap (the_number b key.0) i (held_name b content)).heap →
        IsReachedOrReflects a.heap (held_name a content) → StandsAfter b.heap c.heap (λ g. graph.set_slot g (native_name a (Some key)) i (held_name a content))
    stored-stands order kept is reached =
        let same = (stays-same a b h.keys h.scripts).same content there in
        let now = h.kept.order [] order in
        let heap = ap (λ (u : Keyed). u.heap) is in
        let stands : StandsAfter b.heap c.heap (λ g. graph.set_slot g (Some (native (the_number b key.0))) i (held_name b content)) =
        subst (λ k. StandsAfter b.heap k (λ g. graph.set_slot g (Some (native (the_number b key.0))) i (held_name b content))) (sym heap)
        (stored_in-reflects b.heap (the_number b key.0) i (held_name b content) now.sound.well_formed (held-in [] b content now) held-reached (still-handed reached)
        (subst IsWellFormed heap (kept.order [] now).sound.well_formed)) in
        subst (λ x. StandsAfter b.heap c.heap (λ g. graph.set_slot g x i (held_name a content))) (sym (native_name-is a b h.keys key live))
        (subst (λ y. StandsAfter b.heap c.heap (λ g. graph.set_slot g (Some (native (the_number b key.0))) i y)) same
        stands)

    pub stored-leaves : c ≡ left_with b (stored_in b.heap (the_number b key.0) i (held_name b content)).heap → IsReachedOrReflects a.heap (held_name a content) →
        KeepsDoomed b.heap c.heap
    stored-leaves is reached = subst (KeepsDoomed b.heap) (sym (ap (λ (u : Keyed). u.heap) is))
        (stored-doomed b.heap (the_number b key.0) i (held_name b content) held-reached (still-handed reached))

  -- WHAT A SLOT OF ANOTHER HOLDS IS MOVED into one of it.
  module _ (c : Keyed) (i : ℕ) (from : NKey) (j : ℕ) (from_live : IsSome (number_at a from.0)) where
    -- it is reached still, once that is taken out
    held-taken : IsReached (taken_from b.heap (the_number b from.0) j) (Some (native (the_number b key.0)))
    held-taken = register-reached (taken_from b.heap (the_number b from.0) j) spare (native (the_number b key.0))
        (ap (λ (rs : Slots). get_or rs spare None) (touched-registers b.heap (slot_held b.heap (the_number b from.0) j)) ∙ (h.held ∙ native_name-is a b h.keys key live))

    pub moved-kept : KeepsAllIfReached (IsReached (taken_from b.heap (the_number b from.0) j) (Some (native (the_number b key.0)))) b c → KeepsAll b c
    moved-kept kept = KeepsAll-reached kept held-taken

    pub moved-leaves : c.heap ≡ (moved_in b.heap (the_number b key.0) i (the_number b from.0) j).heap → IsReached a.heap (native_name a (Some from)) →
        KeepsDoomed b.heap c.heap
    moved-leaves is reached = subst (KeepsDoomed b.heap) (sym is)
        (moved-doomed b.heap (the_number b key.0) i (the_number b from.0) j held-reached
        (subst (IsReached b.heap) (native_name-is a b h.keys from from_live) (h.reached (native_name a (Some from)) reached)))

    pub moved-stands : (IsReached b.heap (Some (native (the_number b key.0))) → IsReached b.heap (Some (native (the_number b from.0))) →
        StandsAfter b.heap c.heap (λ g. graph.move_slot g (Some (native (the_number b key.0))) i (Some (native (the_number b from.0))) j (slot_held b.heap (the_number b from.0) j))) →
        IsReached a.heap (native_name a (Some from)) →
        StandsAfter b.heap c.heap (λ g. graph.move_slot g (native_name a (Some key)) i (native_name a (Some from)) j (slot_held a.heap (the_number a from.0) j))
    moved-stands stands reached =
        let to_is = native_name-is a b h.keys key live in
        let from_is = native_name-is a b h.keys from from_live in
        subst (λ x. StandsAfter b.heap c.heap (λ g. graph.move_slot g x i (native_name a (Some from)) j (slot_held a.heap (the_number a from.0) j))) (sym to_is)
        (subst (λ y. StandsAfter b.heap c.heap (λ g. graph.move_slot g (Some (native (the_number b key.0))) i y j (slot_held a.heap (the_number a from.0) j))) (sym from_is)
        (subst (λ z. StandsAfter b.heap c.heap (λ g. graph.move_slot g (Some (native (the_number b key.0))) i (Some (native (the_number b from.0))) j z))
        (slot_held-same a b h.keys h.slots from.0 j)
        (stands held-reached (subst (IsReached b.heap) from_is (h.reached (native_name a (Some from)) reached)))))
