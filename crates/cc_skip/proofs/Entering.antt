-- OBJECTS COME INTO THE WALK one after another.
use Rattle.std.proofs.Common.{◌≡◌, ℕ, ◌+◌, ◌<◌, ◌≤◌, List, [], ◌∷◌, ◌++◌, take, length, get_or, Option, Some, None, refl, sym, ◌∙◌, ap, subst, inl, inr, ◌⊎◌, ⊎_elim, arith}
use Rattle.std.specs.Prelude.{IsTrue}
use Rattle.std.specs.Option.{option_to_list}
use Rattle.std.proofs.Math.Seq.{take-length}
use Rattle.std.proofs.lemmas.Grind.{flat_map-append}
use Rattle.std.proofs.lemmas.List.{append-nil, take_more}
use Rattle.cc_lists.specs.Members.{Among}
use Rattle.cc_lists.proofs.Held.{held-is}
use Rattle.cc_lists.proofs.Members.{Among-append, Among-left, Among-right}
use Rattle.cc_names.specs.declared.name.Name.{Name}
use Rattle.cc_names.specs.Names.{native}
use Rattle.cc_model.specs.Slots.{Slots, contents}
use Rattle.cc_model.specs.WellFormed.{native_names, script_names}
use Rattle.cc_walk.specs.Walks.{entered, is_walked}
use Rattle.cc_counted.specs.declared.held.Held.{Held}
use Rattle.cc_heaps.specs.Keyed.{Keyed}
use Rattle.cc_heaps.specs.Changes.{held_name}
use Rattle.cc_heaps.specs.Keeping.{KeepsAll}
use Rattle.cc_heaps.specs.Places.{places_at}
use Rattle.cc_heaps.specs.Walking.{state_in, unwalked, with_state_in}
use Rattle.cc_heaps.proofs.Kept.{KeepsAll-same}
use Rattle.cc_heaps.proofs.MarksKept.{marks-then}
use Rattle.cc_skip.specs.Walked.{Enters, IsInWalk, is_given, left_to_give}
use Rattle.cc_skip.proofs.States.{IsOne, entered-given, entered-walked, left-kept, named-rest, places-rest, rest-stated, stated-cases}

-- ALL IS KEPT by two changes in a row, where the second leaves which objects there are
pub kept-over : (a b c : Keyed) → native_names c.heap ≡ native_names b.heap → script_names c.heap ≡ script_names b.heap → KeepsAll a b → KeepsAll b c → KeepsAll a c
kept-over a b c natives scripts s t = record {
  keys = record {
    natives = λ key k at there. t.keys.natives key k (s.keys.natives key k at (subst (Among (native k)) natives there)) there;
    scripts = λ key x at there. t.keys.scripts key x (s.keys.scripts key x at (subst (Among x) scripts there)) there;
  };
  order = λ owned o. t.order owned (s.order owned o);
  counts = t.counts;
  colours = λ k. t.colours (s.colours k);
  fresh = λ x k. t.fresh x (s.fresh x k);
  suspected = λ x k. t.suspected x (s.suspected x k);
  marks = marks-then s.marks t.marks;
}

-- the second changes the walk alone
pub kept-walked : (a b c : Keyed) → unwalked c ≡ unwalked b → KeepsAll a b → KeepsAll b c → KeepsAll a c
kept-walked a b c e s t = kept-over a b c (ap (λ (u : Keyed). native_names u.heap) e) (ap (λ (u : Keyed). script_names u.heap) e) s t

-- what is in the walk is there under its name still, however it stands there
pub in_walk-named : (v w : Keyed) → unwalked w ≡ unwalked v → (x : Name) (o : Held) → held_name v (Some o) ≡ Some x → IsTrue (is_walked (state_in w o)) → IsInWalk w x
in_walk-named v w e x o named t = (o, named-rest v w e (Some o) ∙ named, t)

-- NOTHING comes in
pub Enters-none : (v : Keyed) → Enters v v []
Enters-none v = record {
  rest = refl;
  in_it = λ x m. absurd m;
  stays = λ x i. i;
  came = λ x i. inl i;
  given = λ o. refl;
  left = refl;
  kept = KeepsAll-same v v refl;
}

-- ONE AFTER ANOTHER
pub Enters-then : (a b c : Keyed) (xs ys : List Name) → Enters a b xs → Enters b c ys → Enters a c (xs ++ ys)
Enters-then a b c xs ys s t = record {
  rest = t.rest ∙ s.rest;
  in_it = λ x m. ⊎_elim (λ l. t.stays x (s.in_it x l)) (λ r. t.in_it x r) (Among-append x xs ys m);
  stays = λ x i. t.stays x (s.stays x i);
  came = λ x i. ⊎_elim
      (λ l. ⊎_elim (λ j. inl j) (λ m. inr (Among-left x xs ys m)) (s.came x l))
      (λ r. inr (Among-right x xs ys r))
      (t.came x i);
  given = λ o. t.given o ∙ s.given o;
  left = t.left ∙ s.left;
  kept = kept-walked a b c t.rest s.kept t.kept;
}

-- ONE comes in
pub Enters-one : (v w : Keyed) (x : Held) → w ≡ with_state_in v x entered → state_in w x ≡ entered (state_in v x) → KeepsAll v w → Enters v w (option_to_list (held_name v (Some x)))
Enters-one v w x e stands kept = record {
  rest = same;
  in_it = λ y m. in_walk-named v w same y x (held-is (held_name v (Some x)) y m) (ap is_walked stands ∙ entered-walked (state_in v x));
  stays = λ y i. in_walk-named v w same y i.0 i.1 (⊎_elim
      (λ s. ap is_walked s ∙ i.2)
      (λ one. ap is_walked (one.is ∙ stands) ∙ entered-walked (state_in v x))
      (cases i.0));
  came = λ y i. ⊎_elim
      (λ s. inl (i.0, sym (named-rest v w same (Some i.0)) ∙ i.1, ap is_walked (sym s) ∙ i.2))
      (λ one. inr (subst (λ n. Among y (option_to_list n)) (sym (sym one.name ∙ (sym (named-rest v w same (Some i.0)) ∙ i.1))) (inl refl)))
      (cases i.0);
  given = λ o. ⊎_elim
      (λ s. ap is_given s)
      (λ one. ap is_given (one.is ∙ stands) ∙ (entered-given (state_in v x) ∙ ap is_given (sym one.was)))
      (cases o);
  left = ap left_to_give e ∙ left-kept v x entered entered-given;
  kept = kept;
}
  where
    same : unwalked w ≡ unwalked v
    same = ap unwalked e ∙ rest-stated v x entered

    cases : (y : Held) → (state_in w y ≡ state_in v y) ⊎ IsOne v w x y
    cases y = subst (λ u. (state_in u y ≡ state_in v y) ⊎ IsOne v u x y) (sym e) (stated-cases v x y entered)

-- MORE OF THE PLACES of a list: what one more of them holds comes in
contents-more : (slots : Slots) (i : ℕ) → i < length slots → contents (take (i + 1) slots) ≡ contents (take i slots) ++ option_to_list (get_or slots i None)
contents-more slots i within =
    ap contents (take_more slots i None within)
    ∙ (flat_map-append option_to_list (take i slots) (get_or slots i None ∷ [])
    ∙ ap (λ xs. contents (take i slots) ++ xs) (append-nil (option_to_list (get_or slots i None))))

pub Enters-more : (a b c : Keyed) (slots : Slots) (i : ℕ) (x : Option Name) → i < length slots → get_or slots i None ≡ x →
    Enters a b (contents (take i slots)) → Enters b c (option_to_list x) → Enters a c (contents (take (i + 1) slots))
Enters-more a b c slots i x within is s t = subst (Enters a c) (sym (contents-more slots i within))
    (Enters-then a b c (contents (take i slots)) (option_to_list (get_or slots i None)) s (subst (λ o. Enters b c (option_to_list o)) (sym is) t))

-- ONE MORE PLACE OF AN OBJECT: what is read there comes in
pub Enters-place : (a b c : Keyed) (o : Held) (i : ℕ) (x : Option Name) → i < length (places_at a o) → x ≡ get_or (places_at b o) i None →
    Enters a b (contents (take i (places_at a o))) → Enters b c (option_to_list x) → Enters a c (contents (take (i + 1) (places_at a o)))
Enters-place a b c o i x within read s t =
    Enters-more a b c (places_at a o) i x within (ap (λ slots. get_or slots i None) (sym (places-rest a b s.rest o)) ∙ sym read) s t

-- THE LAST PLACE, and so all of them
pub Enters-last : (a b c : Keyed) (o : Held) (n : ℕ) (x : Option Name) → length (places_at a o) ≡ n + 1 → x ≡ get_or (places_at b o) n None →
    Enters a b (contents (take n (places_at a o))) → Enters b c (option_to_list x) → Enters a c (contents (places_at a o))
Enters-last a b c o n x many read s t = subst (λ slots. Enters a c (contents slots)) (ap (λ i. take i (places_at a o)) (sym many) ∙ take-length (places_at a o))
    (Enters-place a b c o n x (omega (arith, many)) read s t)

-- those of all slots, where a walk over them ended
pub Enters-slots : (a b : Keyed) (o : Held) (i n : ℕ) → i ≤ n → n ≤ i → Enters a b (contents (take i (places_at a o))) → Enters a b (contents (take n (places_at a o)))
Enters-slots a b o i n below above s = let same : i ≡ n = omega (arith, below, above) in subst (λ j. Enters a b (contents (take j (places_at a o)))) same s
