-- WHICH NATIVES HAVE ENDED after what the heaps tell: those that had, and those that a free or an unlink line has. They are those that are
-- gone, and those that were unlinked.
use Rattle.std.proofs.Common.{◌≡◌, ℕ, ◌≤◌, ◌<◌, Bool, true, false, not, ◌&&◌, ◌||◌, List, [], ◌∷◌, ◌++◌, Option, Some, None, is_some, refl, sym, ◌∙◌, ap, subst, inl, inr, ◌⊎◌, ⊎_elim, nat_le, arith}
use Rattle.std.specs.List.{filter}
use Rattle.std.proofs.lemmas.Bool.{false≢true, true≢false, cases_Bool, le-leb, leb-true}
use Rattle.cc_lists.specs.Members.{Among, has}
use Rattle.cc_lists.proofs.Members.{Among-left, Among-right, Among-filter, Among_or_not, has-among, has-there}
use Rattle.cc_names.specs.declared.name.Name.{Name}
use Rattle.cc_names.specs.declared.name.Name.TheVariants as name
use Rattle.cc_names.specs.Names.{native, number_of, same_name}
use Rattle.cc_names.proofs.NameTests.{same_name-exact}
use Rattle.cc_model.specs.declared.item.Event.{Event}
use Rattle.cc_model.specs.declared.item.Event.TheVariants.{Unlinked, Freed, Abandoned}
use Rattle.cc_model.specs.Heap.{Heap, HeapNative, native_at}
use Rattle.cc_model.specs.Given.{is_usable_native, is_usable}
use Rattle.cc_model.specs.Ended.{EndedAgrees}
use Rattle.cc_model.specs.WellFormed.{IsWellFormed, native_names}
use Rattle.cc_model.specs.Listed.{ended_with, ended_after}
use Rattle.cc_model.specs.Lawful.{unlinked_numbers}
use Rattle.cc_laws_heap.specs.Balance.{HasDistinctNumbers}
use Rattle.cc_laws_heap.specs.Rounds.{is_not_among}
use Rattle.cc_laws_heap.proofs.NameLists.{is_not_among-from, left-apart}
use Rattle.cc_laws_heap.proofs.Natives.{IsWellFormed-distinct, native_at-there, native_at-number, native_at-named, native_at-member, named-member}
use Rattle.cc_laws_heap.proofs.UnlinkedKept.{WasThere, WasThereOrMade, usable-kept}
use Rattle.cc_laws_run.proofs.FreedListed.{freed_names}

-- What events tell

-- a native is told freed or unlinked
abbrev pub IsTold : List Event → ℕ → Type 0
IsTold es j = Among (native j) (freed_names es) ⊎ Among j (unlinked_numbers es)

-- who is told is among the ended names after events, and so is who was
pub ended-stays : (es : List Event) (ended : List Name) (x : Name) → Among x ended → Among x (ended_after ended es)
ended-stays [] ended x m = m
ended-stays (Freed y ∷ es) ended x m = ended-stays es (y ∷ ended) x (inr m)
ended-stays (Unlinked y ∷ es) ended x m = ended-stays es (y ∷ ended) x (inr m)
ended-stays (Abandoned ∷ es) ended x m = ended-stays es ended x m

ended-told : (es : List Event) (ended : List Name) (j : ℕ) → IsTold es j → Among (native j) (ended_after ended es)
ended-told [] ended j t = ⊎_elim (λ f. absurd f) (λ u. absurd u) t
ended-told (Freed y ∷ es) ended j t = ⊎_elim
    (λ f. ⊎_elim (λ e. ended-stays es (y ∷ ended) (native j) (inl e)) (λ r. ended-told es (y ∷ ended) j (inl r)) f)
    (λ u. ended-told es (y ∷ ended) j (inr u))
    t
ended-told (Abandoned ∷ es) ended j t = ended-told es ended j t
ended-told (Unlinked (name.Native k) ∷ es) ended j t = ⊎_elim
    (λ f. ended-told es (name.Native k ∷ ended) j (inl f))
    (λ u. ⊎_elim (λ e. ended-stays es (name.Native k ∷ ended) (native j) (inl (ap native e))) (λ r. ended-told es (name.Native k ∷ ended) j (inr r)) u)
    t
ended-told (Unlinked (name.Script k) ∷ es) ended j t = ended-told es (name.Script k ∷ ended) j t
ended-told (Unlinked (name.Reflector k) ∷ es) ended j t = ended-told es (name.Reflector k ∷ ended) j t

-- a native among the ended names was among them, or is told
ended-cases : (es : List Event) (ended : List Name) (j : ℕ) → Among (native j) (ended_after ended es) → Among (native j) ended ⊎ IsTold es j
ended-cases [] ended j m = inl m
ended-cases (Freed y ∷ es) ended j m = ⊎_elim
    (λ a. ⊎_elim (λ e. inr (inl (inl e))) (λ r. inl r) a)
    (λ t. inr (⊎_elim (λ f. inl (inr f)) (λ u. inr u) t))
    (ended-cases es (y ∷ ended) j m)
ended-cases (Abandoned ∷ es) ended j m = ended-cases es ended j m
ended-cases (Unlinked (name.Native k) ∷ es) ended j m = ⊎_elim
    (λ a. ⊎_elim (λ e. inr (inr (inl (ap number_of e)))) (λ r. inl r) a)
    (λ t. inr (⊎_elim (λ f. inl f) (λ u. inr (inr u)) t))
    (ended-cases es (name.Native k ∷ ended) j m)
ended-cases (Unlinked (name.Script k) ∷ es) ended j m = ⊎_elim
    (λ a. ⊎_elim (λ e. absurd (cc)) (λ r. inl r) a)
    (λ t. inr t)
    (ended-cases es (name.Script k ∷ ended) j m)
ended-cases (Unlinked (name.Reflector k) ∷ es) ended j m = ⊎_elim
    (λ a. ⊎_elim (λ e. absurd (cc)) (λ r. inl r) a)
    (λ t. inr t)
    (ended-cases es (name.Reflector k ∷ ended) j m)

-- one list of events after another
pub ended_after-append : (es fs : List Event) (ended : List Name) → ended_after ended (es ++ fs) ≡ ended_after (ended_after ended es) fs
ended_after-append [] fs ended = refl
ended_after-append (e ∷ es) fs ended = ended_after-append es fs (ended_with ended e)

-- What the heaps come to

-- THE HEAPS END what they tell: a native that is told is not usable any more; one that was usable and is no more is told; what was not
-- usable stays so; and only what was made is told
pub record EndsWhatItTells (h k : Heap) (es : List Event) : Type 0 where
  pub more : h.natives_made ≤ k.natives_made
  pub gone : (j : ℕ) → IsTold es j → is_usable k (native j) ≡ false
  pub told : (j : ℕ) → j ≤ h.natives_made → is_usable h (native j) ≡ true → is_usable k (native j) ≡ false → IsTold es j
  pub stays : (j : ℕ) → j ≤ h.natives_made → is_usable h (native j) ≡ false → is_usable k (native j) ≡ false
  pub made : (j : ℕ) → h.natives_made < j → j ≤ k.natives_made → is_usable k (native j) ≡ false → IsTold es j
  pub within : (j : ℕ) → IsTold es j → j ≤ k.natives_made

-- THE ENDED NATIVES: they agree with the heaps, and each was made
pub record EndedIn (h : Heap) (ended : List Name) : Type 0 where
  pub agrees : EndedAgrees h ended
  pub made : (j : ℕ) → Among (native j) ended → j ≤ h.natives_made

-- two tests that hold where the other does not
opposite : (a b : Bool) → (a ≡ true → b ≡ false) → (b ≡ false → a ≡ true) → a ≡ not b
opposite true true f g = absurd (true≢false (f refl))
opposite true false f g = refl
opposite false true f g = refl
opposite false false f g = g refl

-- what the list has is among it, and what is among it the list has
has-ended : (ended : List Name) (j : ℕ) → has same_name ended (native j) ≡ true → Among (native j) ended
has-ended ended j e = has-among same_name same_name-exact ended (native j) e

ended-has : (ended : List Name) (j : ℕ) → Among (native j) ended → has same_name ended (native j) ≡ true
ended-has ended j m = has-there same_name same_name-exact ended (native j) m

-- SO THEY AGREE AFTERWARDS.
pub ended-after : (h k : Heap) (ended : List Name) (es : List Event) → EndsWhatItTells h k es → EndedIn h ended → EndedIn k (ended_after ended es)
ended-after h k ended es t a = record {
  agrees = λ j one few. opposite (has same_name (ended_after ended es) (native j)) (is_usable k (native j))
      (λ e. ⊎_elim (λ was. was-gone j one was) (λ told. t.gone j told) (ended-cases es ended j (has-ended (ended_after ended es) j e)))
      (λ e. ended-has (ended_after ended es) j (unusable j one few e));
  made = λ j m. ⊎_elim (λ was. omega (arith, a.made j was, t.more)) (λ told. t.within j told) (ended-cases es ended j m);
}
  where
    was-gone : (j : ℕ) → 1 ≤ j → Among (native j) ended → is_usable k (native j) ≡ false
    was-gone j one m =
        let few : j ≤ h.natives_made = a.made j m in
        let is : not (is_usable h (native j)) ≡ true = sym (a.agrees j one few) ∙ ended-has ended j m in
        t.stays j few (negated (is_usable h (native j)) is)
      where
        negated : (b : Bool) → not b ≡ true → b ≡ false
        negated true e = absurd (false≢true e)
        negated false e = refl

    unusable : (j : ℕ) → 1 ≤ j → j ≤ k.natives_made → is_usable k (native j) ≡ false → Among (native j) (ended_after ended es)
    unusable j one few e = ⊎_elim
        (λ old. ⊎_elim
        (λ u. ended-told es ended j (t.told j old u e))
        (λ u. ended-stays es ended (native j) (has-ended ended j (a.agrees j one old ∙ ap not u)))
        (cases_Bool (is_usable h (native j))))
        (λ new. ended-told es ended j (t.made j new few e))
        (below j h.natives_made)
      where
        above : (i n : ℕ) → ¬ (i ≤ n) → n < i
        above i n d = omega (arith, d)

        below : (i n : ℕ) → (i ≤ n) ⊎ (n < i)
        below i n = ⊎_elim (λ e. inl (leb-true i n e)) (λ e. inr (above i n (λ l. true≢false (sym (le-leb i n l) ∙ e)))) (cases_Bool (nat_le i n))

-- The heaps that keep what they do not tell

-- a native that is usable is there
usable-there : (h : Heap) (j : ℕ) → is_usable h (native j) ≡ true → Among (native j) (native_names h)
usable-there h j e = go (native_at h j) refl e
  where
    go : (o : Option HeapNative) → native_at h j ≡ o → (is_usable_native o || false) ≡ true → Among (native j) (native_names h)
    go None f e = absurd (false≢true e)
    go (Some n) f e = native_at-named h j n f

-- one that is not there is not usable
there-usable : (h : Heap) (j : ℕ) → ¬ (Among (native j) (native_names h)) → is_usable h (native j) ≡ false
there-usable h j d = ⊎_elim (λ e. absurd (d (usable-there h j e))) (λ e. e) (cases_Bool (is_usable h (native j)))

-- what is there is found
there-found : (h : Heap) (j : ℕ) → HasDistinctNumbers h → Among (native j) (native_names h) → (n : HeapNative) × (native_at h j ≡ Some n)
there-found h j d m = let n = named-member h j m in (n.0, ap (native_at h) (sym n.2) ∙ native_at-member h d n.0 n.1)

-- what was made is usable where it is there
made-usable : (h k : Heap) (j : ℕ) → IsWellFormed h → IsWellFormed k → ((p : HeapNative) → Among p k.natives → WasThereOrMade h p) → h.natives_made < j →
    Among (native j) (native_names k) → is_usable k (native j) ≡ true
made-usable h k j w v keep new m =
    let n = there-found k j (IsWellFormed-distinct k v) m in
    let number : n.0.number ≡ j = native_at-number k j n.0 n.1 in
    ⊎_elim
    (λ (l : WasThere h n.0). let few = w.native_numbers l.0 l.1 in absurd (omega (arith, few.1, l.2, number, new)))
    (λ l. ap (λ o. is_usable_native o || false) n.1 ∙ ap (λ b. not b || false) l.1)
    (keep n.0 (native_at-there k j n.0 n.1))

module _ (h k : Heap) (es : List Event) (made : List Name) (w : IsWellFormed h) (v : IsWellFormed k) (keep : (p : HeapNative) → Among p k.natives → WasThereOrMade h p)
    (more : h.natives_made ≤ k.natives_made) (names : native_names k ≡ filter (is_not_among (freed_names es)) (native_names h ++ made))
    (makes : (j : ℕ) → h.natives_made < j → j ≤ k.natives_made → Among (native j) made) (none : unlinked_numbers es ≡ [])
    (there : (j : ℕ) → Among (native j) (freed_names es) → j ≤ k.natives_made) where
  -- who is told is told freed
  told-freed : (j : ℕ) → IsTold es j → Among (native j) (freed_names es)
  told-freed j t = ⊎_elim (λ f. f) (λ u. absurd (subst (Among j) none u)) t

  -- who was there, or was made, is there or told
  there-or-told : (j : ℕ) → Among (native j) (native_names h ++ made) → Among (native j) (native_names k) ⊎ IsTold es j
  there-or-told j m = ⊎_elim
      (λ f. inr (inl f))
      (λ d. inl (subst (Among (native j)) (sym names) (Among-filter (is_not_among (freed_names es)) (native j) (native_names h ++ made) m (is_not_among-from (freed_names es) (native j) d))))
      (Among_or_not same_name same_name-exact (freed_names es) (native j))

  -- WHERE NOTHING IS UNLINKED, and what is told freed is what leaves, the heaps end what they tell.
  pub ends-freed : EndsWhatItTells h k es
  ends-freed = record {
    more = more;
    gone = λ j t. there-usable k j (λ m. (left-apart (freed_names es) (native_names h ++ made) (native j) (subst (Among (native j)) names m)).1 (told-freed j t));
    told = λ j few u e. ⊎_elim
        (λ m.
        let n = there-found k j (IsWellFormed-distinct k v) m in
        let still : is_usable k (native j) ≡ true = usable-kept h k j (IsWellFormed-distinct h w) keep few ∙ (ap (λ b. b && is_some (native_at k j)) u ∙ ap is_some n.1) in
        absurd (true≢false (sym still ∙ e)))
        (λ t. t)
        (there-or-told j (Among-left (native j) (native_names h) made (usable-there h j u)));
    stays = λ j few u. usable-kept h k j (IsWellFormed-distinct h w) keep few ∙ ap (λ b. b && is_some (native_at k j)) u;
    made = λ j new few e. ⊎_elim
        (λ m. absurd (true≢false (sym (made-usable h k j w v keep new m) ∙ e)))
        (λ t. t)
        (there-or-told j (Among-right (native j) (native_names h) made (makes j new few)));
    within = λ j t. there j (told-freed j t);
  }
