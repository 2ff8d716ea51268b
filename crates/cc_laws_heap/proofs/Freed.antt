-- WHAT A CASCADE HAS TAKEN OUT SO FAR, whatever the counts: each step tells one native more, and takes out that one alone.
use Rattle.std.proofs.Common.{◌≡◌, ℕ, Bool, not, ◌&&◌, List, [], ◌∷◌, ◌++◌, map, sym, ◌∙◌, ap, arith, ◌==◌}
use Rattle.std.specs.List.{filter}
use Rattle.std.proofs.Math.Path.{fun_ext}
use Rattle.std.proofs.lemmas.List.{map-append}
use Rattle.cc_names.specs.Names.{native}
use Rattle.cc_model.specs.declared.item.Event.{Event}
use Rattle.cc_model.specs.declared.item.Event.TheVariants.{Freed}
use Rattle.cc_model.specs.Heap.{Heap, HeapNative, Outcome, native_at, silently, outcome_of}
use Rattle.cc_model.specs.Cascade.{Draining, give_up_each, natives_of_slots, told_free, free_front, at_rest}
use Rattle.cc_laws_heap.specs.Freeing.{uncounted, is_none_of, SameBeside, Frees}
use Rattle.cc_lists.proofs.Searching.{filter-true, filter-map, filter-filter}
use Rattle.cc_lists.proofs.Numbers.{eqb-sym}
use Rattle.cc_laws_heap.proofs.Beside.{SameBeside-refl, SameBeside-trans}
use Rattle.cc_laws_heap.proofs.DrainingAlike.{IsAlike, IsAlike-give_up_each}

-- the heaps and what was told so far
abbrev pub outcome : Draining → Outcome
outcome d = outcome_of d.heap d.events

-- what is told of a native that was freed
abbrev pub freed_event : ℕ → Event
freed_event k = Freed (native k)

-- to be none of a list and one more is to be none of the list, and not that one
is_none_of-push : (ks : List ℕ) (k : ℕ) (u : HeapNative) → is_none_of (ks ++ k ∷ []) u ≡ (is_none_of ks u && not (u.number == k))
is_none_of-push [] k u = grind (arith, eqb-sym)
is_none_of-push (i ∷ js) k u = grind (arith, is_none_of-push js k u)

-- the natives `ks` are told and taken out, and nothing changes beside them but counts and the buffer
pub record TakesOut (h : Heap) (ks : List ℕ) (o : Outcome) : Type 0 where
  pub told : o.events ≡ map freed_event ks
  pub natives : map uncounted o.heap.natives ≡ filter (is_none_of ks) (map uncounted h.natives)
  pub beside : SameBeside h o.heap

-- heaps left as they are
pub TakesOut-silently : (h : Heap) → TakesOut h [] (silently h)
TakesOut-silently h = grind (arith, filter-true, SameBeside-refl)

-- alike heaps have taken out the same
pub TakesOut-alike : (h : Heap) (ks : List ℕ) (d e : Draining) → IsAlike d e → TakesOut h ks (outcome d) → TakesOut h ks (outcome e)
TakesOut-alike h ks d e a f = grind (arith, SameBeside-trans)

-- the front of the queue is one more
pub TakesOut-free_front : (h : Heap) (told : List ℕ) (d : Draining) (k : ℕ) (ks : List ℕ) → TakesOut h told (outcome d) → TakesOut h (told ++ k ∷ []) (outcome (free_front d k ks))
TakesOut-free_front h told d k ks f = record {
  told = a.events ∙ (ap (λ es. es ++ freed_event k ∷ []) f.told ∙ sym (map-append freed_event told (k ∷ [])));
  natives =
      sym (filter-map others uncounted after.heap.natives)
      ∙ (ap (filter others) (a.natives ∙ f.natives)
      ∙ (filter-filter others (is_none_of told) (map uncounted h.natives)
      ∙ ap (λ p. filter p (map uncounted h.natives)) (fun_ext (λ u. sym (is_none_of-push told k u)))));
  beside = SameBeside-trans h d.heap (free_front d k ks).heap f.beside beside;
}
  where
    others : HeapNative → Bool
    others u = not (u.number == k)

    held : List ℕ
    held = natives_of_slots (native_at d.heap k)

    after : Draining
    after = give_up_each (told_free d k ks) held

    a : IsAlike (told_free d k ks) after
    a = IsAlike-give_up_each (told_free d k ks) held

    beside : SameBeside d.heap (free_front d k ks).heap
    beside = record {
      native_registers = a.beside.native_registers;
      script_registers = a.beside.script_registers;
      scripts = a.beside.scripts;
      entries = a.beside.entries;
      natives_made = a.beside.natives_made;
      scripts_made = a.beside.scripts_made;
      limits = a.beside.limits;
    }

-- heaps at rest have freed nothing
pub Frees-at_rest : (h : Heap) → Frees h [] (outcome (at_rest h))
Frees-at_rest h = grind (arith, TakesOut-silently)
