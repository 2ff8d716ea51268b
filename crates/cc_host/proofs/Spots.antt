-- WHAT A CHANGE DOES TO EACH SPOT.
use Rattle.std.proofs.Common.{arith, ◌≡◌, ◌⊎◌, ℕ, Bool, true, false, List, map, get_or, Option, Some, None, option_map, refl, sym, ◌∙◌, ap, inl, inr, ⊎_elim, ◌==◌}
use Rattle.std.specs.List.{filter, find}
use Rattle.std.specs.Option.{option_and_then}
use Rattle.std.proofs.lemmas.Bool.{eqb-true}
use Rattle.cc_lists.specs.Members.{Among, has}
use Rattle.cc_lists.proofs.Searching.{find-map, find-filter, find-dropped}
use Rattle.cc_names.specs.declared.name.Name.{Name}
use Rattle.cc_names.specs.declared.name.Name.TheVariants as name
use Rattle.cc_names.specs.declared.register.Reg.TheVariants.{N, S, W}
use Rattle.cc_names.specs.Names.{object, reflector, same_name}
use Rattle.cc_names.specs.Places.{where_set}
use Rattle.cc_model.specs.Slots.{Slots}
use Rattle.cc_model.specs.Checks.{slots_or_none}
use Rattle.cc_model.specs.Entries.{Entry, value_in}
use Rattle.cc_model.specs.Heap.{Heap, HeapNative, HeapScript, native_at, slots_of_script}
use Rattle.cc_model.specs.Cascade.{let_go, take_up}
use Rattle.cc_laws_heap.specs.Balance.{has_number}
use Rattle.cc_laws_heap.specs.Freeing.{SameBeside, is_none_of, uncounted}
use Rattle.cc_laws_heap.proofs.Face.{HoldsTheSame-take_up, TakesOut-let_go}
use Rattle.cc_host.specs.Spots.{Spot, reads}

-- the native that has a spot is not there
abbrev pub IsGone : Heap → Spot → Type 0
IsGone k (Spot.slot (name.Native j) i) = native_at k j.0 ≡ None
IsGone k (Spot.preserved (name.Reflector j)) = native_at k j.0 ≡ None
IsGone k _ = ⊥

-- SPOTS BUT THESE READ AS BEFORE, or the native that has them is gone; none comes
pub record Alters (spots : List Spot) (h k : Heap) : Type 0 where
  pub others : (s : Spot) → ¬ (Among s spots) → IsGone k s ⊎ (reads k s ≡ reads h s)
  pub none_comes : (j : ℕ) → native_at h j ≡ None → native_at k j ≡ None

-- what is gone stays gone
pub gone-still : (h k : Heap) → ((j : ℕ) → native_at h j ≡ None → native_at k j ≡ None) → (s : Spot) → IsGone h s → IsGone k s
gone-still h k none (Spot.slot (name.Native j) i) g = none j.0 g
gone-still h k none (Spot.slot (name.Script j) i) g = absurd g
gone-still h k none (Spot.slot (name.Reflector j) i) g = absurd g
gone-still h k none (Spot.preserved (name.Native j)) g = absurd g
gone-still h k none (Spot.preserved (name.Script j)) g = absurd g
gone-still h k none (Spot.preserved (name.Reflector j)) g = none j.0 g
gone-still h k none (Spot.register r) g = absurd g
gone-still h k none (Spot.entry m x) g = absurd g
gone-still h k none (Spot.delegate x) g = absurd g

module _ (spots : List Spot) where
  -- nothing changes
  pub alters-same : (h : Heap) → Alters spots h h
  alters-same h = record { others = λ s out. inr refl; none_comes = λ j e. e }

  -- ONE CHANGE AFTER ANOTHER
  pub alters-then : (h k m : Heap) → Alters spots h k → Alters spots k m → Alters spots h m
  alters-then h k m f g = record {
    others = λ s out. ⊎_elim
        (λ gone. inl gone)
        (λ e. ⊎_elim (λ gone. inl (gone-still k m g.none_comes s gone)) (λ d. inr (e ∙ d)) (f.others s out))
        (g.others s out);
    none_comes = λ j e. g.none_comes j (f.none_comes j e);
  }

  -- NATIVES THAT ARE LEFT ARE AS THEY WERE but for their counts, and nothing changes beside them
  module _ (h k : Heap) (beside : SameBeside h k) (natives : (j : ℕ) → (native_at k j ≡ None) ⊎ (option_map uncounted (native_at k j) ≡ option_map uncounted (native_at h j))) where
    read-slots : (o p : Option HeapNative) → option_map uncounted p ≡ option_map uncounted o → option_map (λ (n : HeapNative). n.slots) p ≡ option_map (λ (n : HeapNative). n.slots) o
    read-slots o p e = grind arith

    read-preserved : (x : Option Name) (o p : Option HeapNative) → option_map uncounted p ≡ option_map uncounted o →
        option_and_then (λ (n : HeapNative). where_set n.preserved x) p ≡ option_and_then (λ (n : HeapNative). where_set n.preserved x) o
    read-preserved x o p e = grind arith

    none-left : (o p : Option HeapNative) → option_map uncounted p ≡ option_map uncounted o → o ≡ None → p ≡ None
    none-left o p e f = grind arith

    read-others : (s : Spot) → ¬ (Among s spots) → IsGone k s ⊎ (reads k s ≡ reads h s)
    read-others (Spot.register (N r)) out = inr (ap (λ (rs : Slots). get_or rs r None) beside.native_registers)
    read-others (Spot.register (S r)) out = inr (ap (λ (rs : Slots). get_or rs r None) beside.script_registers)
    read-others (Spot.register (W r)) out = inr refl
    read-others (Spot.slot (name.Native j) i) out = ⊎_elim
        (λ g. inl g)
        (λ e. inr (ap (λ (ss : Option Slots). get_or (slots_or_none ss) i None) (read-slots (native_at h j.0) (native_at k j.0) e)))
        (natives j.0)
    read-others (Spot.slot (name.Script j) i) out = inr (ap (λ (os : List HeapScript). get_or (slots_or_none (option_and_then slots_of_script (find (λ o. same_name o.name (object j.0)) os))) i None) beside.scripts)
    read-others (Spot.slot (name.Reflector j) i) out = inr (ap (λ (os : List HeapScript). get_or (slots_or_none (option_and_then slots_of_script (find (λ o. same_name o.name (reflector j.0)) os))) i None) beside.scripts)
    read-others (Spot.entry m x) out = inr (ap (λ (es : List Entry). value_in es m x) beside.entries)
    read-others (Spot.delegate x) out = inr (ap (λ (os : List HeapScript). option_and_then (λ (o : HeapScript). o.delegate) (find (λ o. same_name o.name x) os)) beside.scripts)
    read-others (Spot.preserved (name.Native j)) out = inr refl
    read-others (Spot.preserved (name.Script j)) out = inr refl
    read-others (Spot.preserved (name.Reflector j)) out = ⊎_elim (λ g. inl g) (λ e. inr (read-preserved (Some (reflector j.0)) (native_at h j.0) (native_at k j.0) e)) (natives j.0)

    pub alters-natives : Alters spots h k
    alters-natives = record {
      others = read-others;
      none_comes = λ j e. ⊎_elim (λ g. g) (λ f. none-left (native_at h j) (native_at k j) f e) (natives j);
    }

-- Natives found

-- a native without its count, found by its number
uncounted-found : (h : Heap) (j : ℕ) → option_map uncounted (native_at h j) ≡ find (has_number j) (map uncounted h.natives)
uncounted-found h j = sym (find-map (has_number j) uncounted h.natives)

-- where some were taken out
left-found : (h k : Heap) (ks : List ℕ) → map uncounted k.natives ≡ filter (is_none_of ks) (map uncounted h.natives) → (j : ℕ) →
    (native_at k j ≡ None) ⊎ (option_map uncounted (native_at k j) ≡ option_map uncounted (native_at h j))
left-found h k ks e j = go (has ◌==◌ ks j) refl
  where
    found : option_map uncounted (native_at k j) ≡ find (has_number j) (filter (is_none_of ks) (map uncounted h.natives))
    found = uncounted-found k j ∙ ap (find (has_number j)) e

    none : (o : Option HeapNative) → option_map uncounted o ≡ None → o ≡ None
    none o d = grind arith

    go : (b : Bool) → has ◌==◌ ks j ≡ b → (native_at k j ≡ None) ⊎ (option_map uncounted (native_at k j) ≡ option_map uncounted (native_at h j))
    go true t = inl (none (native_at k j) (found ∙ find-dropped (has_number j) (is_none_of ks) (map uncounted h.natives) (λ u p. grind (arith, eqb-true))))
    go false t = inr (found ∙ (find-filter (has_number j) (is_none_of ks) (map uncounted h.natives) (λ u p. grind (arith, eqb-true)) ∙ sym (uncounted-found h j)))

module _ (spots : List Spot) (h : Heap) where
  -- A REFERENCE TAKEN
  pub alters-take_up : (x : Option Name) → Alters spots h (take_up h x)
  alters-take_up x =
      let t = HoldsTheSame-take_up h x in
      alters-natives spots h (take_up h x) t.beside (λ j. inr (uncounted-found (take_up h x) j ∙ (ap (find (has_number j)) t.natives ∙ sym (uncounted-found h j))))

  -- A REFERENCE GIVEN UP, with all that it deletes
  pub alters-let_go : (x : Option Name) → Alters spots h (let_go h x).heap
  alters-let_go x =
      let t = TakesOut-let_go h x in
      alters-natives spots h (let_go h x).heap t.1.beside (left-found h (let_go h x).heap t.0 t.1.natives)
