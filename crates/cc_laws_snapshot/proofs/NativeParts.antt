-- PARTS OF COMMANDS THAT CHANGE NATIVES, each gentle: a reference taken, a register or a slot written, a reflector
-- preserved, a native made.
use Rattle.std.proofs.Common.{◌≡◌, ℕ, ◌+◌, ◌<◌, Bool, true, false, List, [], ◌∷◌, ◌++◌, length, set, get_or, Option, Some, None, refl, sym, ◌∙◌, ap, subst, inl, inr, ◌⊎◌, ⊎_elim, arith, count_by}
use Rattle.std.specs.List.{flat_map}
use Rattle.std.specs.Option.{option_to_list}
use Rattle.std.proofs.lemmas.Bool.{and_parts, eqb-true}
use Rattle.std.proofs.lemmas.Grind.{flat_map-append}
use Rattle.cc_lists.specs.Members.{Among}
use Rattle.cc_lists.proofs.Members.{Among-map, Among-map_cases, Among-append, Among-flat_map, Among-flat_map_cases}
use Rattle.cc_lists.proofs.Counting.{count_by-append, count_by-map}
use Rattle.cc_names.specs.declared.name.Name.{Name}
use Rattle.cc_names.specs.declared.name.Name.TheVariants as name
use Rattle.cc_names.specs.declared.register.Reg.{Reg}
use Rattle.cc_names.specs.declared.register.Reg.TheVariants.{N, S, W}
use Rattle.cc_names.specs.Names.{native, reflector, same_name}
use Rattle.cc_names.proofs.NameTests.{same_name-true}
use Rattle.cc_model.proofs.Places.{native_edges-split, native_edges-count}
use Rattle.cc_model.specs.Slots.{contents, from_to}
use Rattle.cc_model.specs.Heap.{Heap, HeapNative, native_at, set_register, change_native, with_native_slot, set_preserved, preserve, with_mark, native_to_make}
use Rattle.cc_model.specs.Cascade.{add_ref, take_up}
use Rattle.cc_model.specs.Effects.{with_native}
use Rattle.cc_model.specs.View.{view, between, slot_edges, native_edges}
use Rattle.cc_model.specs.WellFormed.{IsWellFormed, native_names}
use Rattle.cc_laws_heap.proofs.Natives.{native_at-member, IsWellFormed-distinct}
use Rattle.cc_laws_heap.specs.Balance.{has_number}
use Rattle.cc_laws_heap.proofs.HoldsTheSame.{raise_native}
use Rattle.cc_lists.proofs.ListWrites.{count_by-flat_map_set, Among-flat_map_set, each-push}
use Rattle.cc_laws_heap.proofs.Making.{contents-empty_none}
use Rattle.cc_lists.proofs.CountsOf.{false-left, count_by-none}
use Rattle.cc_laws_snapshot.proofs.Marked.{names_in, with_mark-there, with_mark-keeps}
use Rattle.cc_laws_snapshot.proofs.GentleBut.{AreGentleBut, AreGentle, IsGentleBut-registers, AreGentle-refl}
use Rattle.cc_laws_snapshot.proofs.NativesChange.{IsOut, AreGentleBut-natives, AreGentleBut-one}
use Rattle.cc_laws_heap.proofs.ViewEdges.{native_edges-are}
use Rattle.cc_laws_snapshot.proofs.Edges.{native_edges-has}

-- Registers

-- A register written is gentle: registers count no reference of their own.
pub register-gentle : (h : Heap) (r : Reg) (x : Option Name) → AreGentle h (set_register h r x)
register-gentle h (N d) x = IsGentleBut-registers h.natives_made (view h) (view (set_register h (N d) x)).registers
register-gentle h (S d) x = IsGentleBut-registers h.natives_made (view h) (view (set_register h (S d) x)).registers
register-gentle h (W d) x = AreGentle-refl h

-- References taken

-- A reference taken is gentle: its native is in the buffer.
pub add_ref-gentle : (h : Heap) (k : ℕ) → AreGentle h (add_ref h k)
add_ref-gentle h k = AreGentleBut-one [] h k raise_native (with_mark false k h.buffer) (record {
  number = λ n. refl;
  buffer = with_mark-keeps false k h.buffer;
  count = λ n o. absurd (o.0 (with_mark-there false k h.buffer));
  as_often = λ n w j m e o. refl;
  gray_edge = λ n e s m g. m;
})

-- So is a reference to what a register or a slot is to hold.
pub take_up-gentle : (h : Heap) (x : Option Name) → AreGentle h (take_up h x)
take_up-gentle h (Some (name.Native k)) = add_ref-gentle h k.0
take_up-gentle h _ = AreGentle-refl h

-- the natives among what is to be held are in the buffer
abbrev pub AreTaken : Heap → Option Name → Type 0
AreTaken h x = (k : ℕ) → Among (native k) (option_to_list x) → Among (native k) (names_in h.buffer)

-- and are once their reference is taken
pub take_up-taken : (h : Heap) (x : Option Name) → AreTaken (take_up h x) x
take_up-taken h x k m = grind (arith, with_mark-there)

-- Slots of natives

-- what is to be held is not gray
abbrev pub IsNotGray : Heap → Option Name → Type 0
IsNotGray h x = (y : Name) → Among y (option_to_list x) → ¬ (Among y (view h).gray)

-- the flag of a native makes no edge to a native
pub between-preserved : (w : Name) (k j : ℕ) (b : Bool) →
    count_by (between w (native k)) (elim b [ true ↦ from_to (native j) (reflector j) ∷ [] | false ↦ [] ]) ≡ 0
between-preserved w k j b = grind arith

-- names of which native k is none make no edge to it
pub none-to : (w x : Name) (k : ℕ) (ys : List Name) → ¬ (Among (native k) ys) → count_by (λ y. between w (native k) (from_to x y)) ys ≡ 0
none-to w x k ys d = count_by-none (λ y. between w (native k) (from_to x y)) ys
    (λ y m. false-left (between w (native k) (from_to x y))
    (λ e. d (subst (λ z. Among z ys) (same_name-true y (native k) (and_parts (same_name y (native k)) (same_name x w) e).0) m)))

module _ (h : Heap) (k i : ℕ) (there : HeapNative) (x : Option Name) (w : IsWellFormed h) (found : native_at h k ≡ Some there) where
  -- the only native with the number k
  it-is : (n : HeapNative) → Among n h.natives → has_number k n ≡ true → n ≡ there
  it-is n m e =
      let here : native_at h k ≡ Some n =
      subst (λ j. native_at h j ≡ Some n) (eqb-true n.number k e) (native_at-member h (IsWellFormed-distinct h w) n m) in
      let both : Some n ≡ Some there = sym here ∙ found in
      cc

  -- another native than the old and the new content is held as often
  slot-as_often : i < length there.slots → AreTaken h x → (n : HeapNative) (v : Name) (j : ℕ) → Among n h.natives →
      IsOut (option_to_list (get_or there.slots i None)) h.buffer j → has_number k n ≡ true →
      count_by (between v (native j)) (native_edges (with_native_slot i x n)) ≡ count_by (between v (native j)) (native_edges n)
  slot-as_often room taken n v j m o e =
      omega (
        arith,
        native_edges-count test (with_native_slot i x n),
        native_edges-count test n,
        count_by-map test (from_to here) (contents (set n.slots i x)),
        count_by-map test (from_to here) (contents n.slots),
        count_by-flat_map_set (λ y. test (from_to here y)) option_to_list n.slots i x None within,
        none-to v here j (option_to_list x) (λ t. o.0 (taken j t)),
        none-to v here j (option_to_list (get_or n.slots i None)) (subst (λ (p : HeapNative). ¬ (Among (native j) (option_to_list (get_or p.slots i None)))) (sym same) o.1),
      )
    where
      test : Name × Name → Bool
      test = between v (native j)

      here : Name
      here = native n.number

      same : n ≡ there
      same = it-is n m e

      within : i < length n.slots
      within = subst (λ (p : HeapNative). i < length p.slots) (sym same) room

  -- what is held that is gray was held
  slot-gray : IsNotGray h x → (n : HeapNative) (e : Name × Name) → Among e (native_edges (with_native_slot i x n)) → Among e.1 (view h).gray → Among e (native_edges n)
  slot-gray pale n e m g =
      let p = native_edges-are (with_native_slot i x n) e.0 e.1 m in
      native_edges-has n e.0 e.1 p.0 (⊎_elim
      (λ c. ⊎_elim (λ new. absurd (pale e.1 new g)) (λ old. inl old) (Among-flat_map_set option_to_list n.slots i x e.1 c))
      (λ q. inr q) p.1)

  -- A slot of a native written is gentle but for what it held.
  pub native_slot-gentle : i < length there.slots → AreTaken h x → IsNotGray h x →
      AreGentleBut (option_to_list (get_or there.slots i None)) h (change_native h k (with_native_slot i x))
  native_slot-gentle room taken pale = AreGentleBut-one (option_to_list (get_or there.slots i None)) h k (with_native_slot i x) h.buffer (record {
    number = λ n. refl;
    buffer = λ y m. m;
    count = λ n o. refl;
    as_often = λ n v j m e o. slot-as_often room taken n v j m o e;
    gray_edge = λ n e s m g. slot-gray pale n e m g;
  })

-- Preserved reflectors

-- A flag written is gentle, where it preserves nothing gray.
pub flag-gentle : (h : Heap) (k : ℕ) (on : Bool) → (on ≡ true → ¬ (Among (reflector k) (view h).gray)) → AreGentle h (set_preserved h k on)
flag-gentle h k on pale = AreGentleBut-one [] h k flagged h.buffer (record {
  number = λ n. refl;
  buffer = λ y m. m;
  count = λ n o. refl;
  as_often = λ n v j m e o. as_often n v j;
  gray_edge = λ n e s m g. gray n e s m g;
})
  where
    flagged : HeapNative → HeapNative
    flagged n = record n { preserved = on }

    as_often : (n : HeapNative) (v : Name) (j : ℕ) →
        count_by (between v (native j)) (native_edges (flagged n)) ≡ count_by (between v (native j)) (native_edges n)
    as_often n v j =
        omega (
          arith,
          native_edges-count (between v (native j)) (flagged n),
          native_edges-count (between v (native j)) n,
          between-preserved v j n.number on,
          between-preserved v j n.number n.preserved,
        )

    -- what a flag that was set leads to is not gray
    gray : (n : HeapNative) (e : Name × Name) → has_number k n ≡ true → Among e (native_edges (flagged n)) → Among e.1 (view h).gray → Among e (native_edges n)
    gray n e s m g =
        let p = native_edges-are (flagged n) e.0 e.1 m in
        native_edges-has n e.0 e.1 p.0 (⊎_elim (λ c. inl c)
        (λ q. absurd (pale q.0 (subst (λ y. Among y (view h).gray) (sym (ap reflector (sym (eqb-true n.number k s)) ∙ q.1)) g))) p.1)

-- So is a reflector preserved, where it is one and not gray.
pub preserve-gentle : (h : Heap) (x : Option Name) → IsNotGray h x → AreGentle h (preserve h x)
preserve-gentle h (Some (name.Reflector k)) pale = flag-gentle h k.0 true (λ e. pale (reflector k.0) (inl refl))
preserve-gentle h _ pale = AreGentle-refl h

-- Natives made

module _ (h : Heap) (n : ℕ) where
  -- a native that was made holds nothing
  new-holds_none : (e : Name × Name) → ¬ (Among e (native_edges (native_to_make h n)))
  new-holds_none e m = ⊎_elim
      (λ l. let f = Among-map_cases (from_to (native (h.natives_made + 1))) (contents (native_to_make h n).slots) e l in contents-empty_none n f.0 f.1)
      (λ r. r)
      (Among-append e (slot_edges (native (h.natives_made + 1)) (native_to_make h n).slots) [] (subst (Among e) (native_edges-split (native_to_make h n)) m))

  -- A native made is gentle: it is in the buffer.
  pub with_native-gentle : AreGentle h (with_native h n)
  with_native-gentle = AreGentleBut-natives [] h (h.natives ++ native_to_make h n ∷ []) (with_mark false made h.buffer) made (record {
    more = omega arith;
    outside = each-push (λ m. IsOut [] (with_mark false made h.buffer) m.number → _) h.natives (native_to_make h n)
        (λ m i o. (m, i, refl, λ b. o.0 (with_mark-keeps false made h.buffer (native m.number) b)))
        (λ o. absurd (o.0 (with_mark-there false made h.buffer)));
    as_often = λ m w i o. none_more (between w (native m.number));
    gray_edge = λ e i g.
        let f = Among-flat_map_cases native_edges (h.natives ++ native_to_make h n ∷ []) e i in
        each-push (λ m. Among e (native_edges m) → Among e (flat_map native_edges h.natives)) h.natives (native_to_make h n)
        (λ m j t. Among-flat_map native_edges m e h.natives j t) (λ t. absurd (new-holds_none e t)) f.0 f.1 f.2;
    lives = each-push (λ m. Among (native m.number) (native_names h) ⊎ (h.natives_made < m.number)) h.natives (native_to_make h n)
        (λ m i. inl (Among-map (λ (o : HeapNative). native o.number) m h.natives i)) (inr (omega arith));
  })
    where
      made : ℕ
      made = h.natives_made + 1

      none_more : (p : Name × Name → Bool) →
          count_by p (flat_map native_edges (h.natives ++ native_to_make h n ∷ [])) ≡ count_by p (flat_map native_edges h.natives)
      none_more p =
          let rest : List (Name × Name) = flat_map native_edges (native_to_make h n ∷ []) in
          let none : count_by p rest ≡ 0 = count_by-none p rest
          (λ e m. let f = Among-flat_map_cases native_edges (native_to_make h n ∷ []) e m in
          absurd (⊎_elim (λ s. new-holds_none e (subst (λ (o : HeapNative). Among e (native_edges o)) (sym s) f.2)) (λ t. t) f.1)) in
          omega (arith, ap (count_by p) (flat_map-append native_edges h.natives (native_to_make h n ∷ [])), count_by-append p (flat_map native_edges h.natives) rest)
