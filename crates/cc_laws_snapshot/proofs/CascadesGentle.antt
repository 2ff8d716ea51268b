-- A CASCADE IS GENTLE: what is outside the buffer after it was so before, and no native that was freed held it.
use Rattle.std.proofs.Common.{◌≡◌, ℕ, List, [], ◌∷◌, ◌++◌, Option, Some, None, inl, inr, ⊎_elim}
use Rattle.std.specs.Option.{option_to_list}
use Rattle.cc_lists.specs.Members.{Among}
use Rattle.cc_lists.proofs.Members.{Among-left, Among-right, Among-append}
use Rattle.cc_names.specs.declared.name.Name.{Name}
use Rattle.cc_names.specs.declared.name.Name.TheVariants as name
use Rattle.cc_names.specs.Names.{native}
use Rattle.cc_model.specs.declared.item.Event.{Event}
use Rattle.cc_model.specs.Heap.{Heap}
use Rattle.cc_model.specs.Cascade.{cascade, let_go, natives_of_slots}
use Rattle.cc_model.specs.View.{View, view}
use Rattle.cc_laws_heap.specs.Sound.{IsSound, numbers_of}
use Rattle.cc_laws_heap.specs.Stages.{Stage, stage}
use Rattle.cc_laws_heap.proofs.Folding.{IsKept}
use Rattle.cc_laws_heap.proofs.Giving.{cascade-keeps}
use Rattle.cc_laws_heap.proofs.Cascades.{IsBalanced-at_rest}
use Rattle.cc_laws_snapshot.specs.Kinds.{counting}
use Rattle.cc_laws_snapshot.proofs.SoundView.{living-native}
use Rattle.cc_laws_snapshot.proofs.GentleBut.{IsGentleBut, AreGentle, AreGentle-refl, IsGentleBut-registers, IsGentleBut-then}
use Rattle.cc_laws_snapshot.proofs.KindsGivenUp.{lowered-gently, queued-gently, removed-gently}
use Rattle.cc_laws_snapshot.proofs.CascadeLoses.{held-found}

-- what is seen of a stage: natives that wait, and those in hand, count as in the buffer
abbrev seen : Stage → View
seen s = counting (s.hand ++ s.queue) (view s.heap)

-- what is seen changes gently
abbrev GentleTo : Stage → List Event → Stage → Type 0
GentleTo s es t = IsGentleBut [] s.heap.natives_made t.heap.natives_made (seen s) (seen t)

-- WHAT A CASCADE DOES IS GENTLE, kind by kind.
gentle-kept : IsKept GentleTo
gentle-kept = record {
  nothing = λ s. IsGentleBut-registers s.heap.natives_made (seen s) (seen s).registers;
  followed = λ s t u xs ys a b. IsGentleBut-then [] s.heap.natives_made t.heap.natives_made u.heap.natives_made (seen s) (seen t) (seen u) a b (λ v c m o n. n);
  suspected = λ hand queue h k n e c. lowered-gently h k (hand ++ queue);
  waits = λ hand queue h k n e c. queued-gently h k hand queue;
  freed = λ hand ks h k n e d r.
      let held : List ℕ = natives_of_slots (Some n) in
      removed-gently h k held (λ o m q j i. held-found h k j n d e (o, m, q, i)) (hand ++ k ∷ ks) ((held ++ hand) ++ ks)
      (λ j i. Among-left j (held ++ hand) ks (Among-left j held hand i))
      (λ j i. ⊎_elim
      (λ l. inr (Among-left j (held ++ hand) ks (Among-right j held hand l)))
      (λ l. ⊎_elim (λ q. inl q) (λ q. inr (Among-right j (held ++ hand) ks q)) l)
      (Among-append j hand (k ∷ ks) i));
}

module _ (owned : List ℕ) (h : Heap) (k : ℕ) (s : IsSound (k ∷ owned) h) where
  -- the heaps after the cascade
  abbrev after : Heap
  after = (cascade h k).heap

  -- a cascade is gentle where the native given up counts as in the buffer before
  cascade-seen : GentleTo (stage (k ∷ []) [] h) (cascade h k).events (stage [] [] after)
  cascade-seen = cascade-keeps GentleTo gentle-kept [] owned h k (IsBalanced-at_rest (k ∷ owned) h s)

  -- who is outside the buffer is so where none waits
  outside-seen : (u : Name) → ¬ (Among u (view after).buffer) → ¬ (Among u ((view after).buffer ++ []))
  outside-seen u o m = ⊎_elim o (λ x. x) (Among-append u (view after).buffer [] m)

  -- A cascade is gentle,
  cascade-gentle : AreGentle h after
  cascade-gentle =
      let g = cascade-seen in
      record {
        made_more = g.made_more;
        outside = λ u c m o n. let e = g.outside u c m (outside-seen u o) n in (e.0, λ b. e.1 (Among-left u (view h).buffer (native k ∷ []) b));
        as_often = λ u w c m o n. g.as_often u w c m (outside-seen u o) n;
        gray_edge = g.gray_edge;
        gray_joint = g.gray_joint;
        black_stays = g.black_stays;
        scripts_stay = g.scripts_stay;
        lives = g.lives;
      }

  -- and leaves the native to which the reference was given up in the buffer, where it leaves it.
  cascade-caught : (u : Name) (c : ℕ) → Among (u, c) (view (cascade h k).heap).natives → ¬ (Among u (view (cascade h k).heap).buffer) → ¬ (native k ≡ u)
  cascade-caught u c m o e = (cascade-seen.outside u c m (outside-seen u o) (λ x. x)).1 (Among-right u (view h).buffer (native k ∷ []) (inl e))

-- What a register or a slot held given up is gentle,
pub let_go-gentle : (owned : List ℕ) (h : Heap) (x : Option Name) → IsSound (numbers_of x ++ owned) h → AreGentle h (let_go h x).heap
let_go-gentle owned h (Some (name.Native k)) s = cascade-gentle owned h k.0 s
let_go-gentle owned h _ s = AreGentle-refl h

-- and leaves no native that it held outside the buffer.
pub let_go-caught : (owned : List ℕ) (h : Heap) (x : Option Name) → IsSound (numbers_of x ++ owned) h → (u : Name) (c : ℕ) →
    Among (u, c) (view (let_go h x).heap).natives → ¬ (Among u (view (let_go h x).heap).buffer) → ¬ (Among u (option_to_list x))
let_go-caught owned h None s u c m o i = i
let_go-caught owned h (Some (name.Native k)) s u c m o i = ⊎_elim (λ e. cascade-caught owned h k.0 s u c m o e) (λ t. t) i
let_go-caught owned h _ s u c m o i = ⊎_elim (λ e. let f = living-native h u c m in absurd (cc)) (λ t. t) i
