-- NATIVES THAT GO BACK TO THE BUFFER with the purple mark, and a buffer that is emptied: what is suspected stays suspected.
use Rattle.std.proofs.Common.{arith, ◌≡◌, ℕ, Bool, true, false, List, [], ◌∷◌, ◌++◌, map, Option, Some, None, refl, sym, subst, inl, inr, ◌⊎◌, ⊎_elim}
use Rattle.std.specs.List.{filter}
use Rattle.std.specs.Option.{is_some}
use Rattle.cc_lists.specs.Members.{Among}
use Rattle.cc_lists.proofs.Members.{Among-map, Among-map_cases, Among-left, Among-right, Among-append}
use Rattle.cc_lists.proofs.Least.{derive-root, derive-along, derived-within}
use Rattle.cc_names.specs.declared.name.Name.{Name}
use Rattle.cc_names.specs.Names.{native}
use Rattle.cc_model.specs.Heap.{Heap, HeapNative, Buffered, native_at, with_mark, buffered_as}
use Rattle.cc_model.specs.View.{View, view, buffered}
use Rattle.cc_model.specs.Units.{candidates_of, with_empty_buffer}
use Rattle.cc_model.specs.End.{give_back}
use Rattle.cc_model.specs.Fresh.{IsLiving}
use Rattle.cc_model.specs.Suspected.{unreached_scripts, IsCovered, IsFromCandidate, IsSuspected}
use Rattle.cc_model.specs.WellFormed.{native_names}
use Rattle.cc_laws_heap.specs.Sound.{IsSound}
use Rattle.cc_laws_heap.proofs.Natives.{native_at-named, named-found}
use Rattle.cc_laws_heap.proofs.Making.{with_mark-cases, places-with_mark}
use Rattle.cc_laws_heap.proofs.Kept.{IsBuffer, with_buffer}
use Rattle.cc_laws_snapshot.proofs.Marked.{IsPurpleName, purple-name, purple-place, with_mark-place, with_mark-stays, with_mark-keeps}
use Rattle.cc_laws_snapshot.proofs.SoundView.{IsSoundView, IsSound-view, living-native}

-- A buffer emptied

-- Begin hands the suspects on to the candidates.
pub begin-suspected : (h : Heap) → IsSuspected (view h) [] → IsSuspected (view (with_empty_buffer h)) (candidates_of h)
begin-suspected h s u c m unreached = ⊎_elim
    (λ covered. ⊎_elim (λ d. inl d) (λ d. inr (λ i. i, d)) (split u covered))
    (λ p. absurd (derived-within [] (view h).edges [] (λ x. ⊥) (λ x i. i) (λ x y i d. d) (λ ps y i d. i) u p.1))
    (s u c m unreached)
  where
    k : View
    k = view (with_empty_buffer h)

    split : (x : Name) → IsCovered (view h) x → IsCovered k x ⊎ IsFromCandidate k (candidates_of h) x
    split = derived-within ((view h).purple ++ unreached_scripts (view h)) (view h).edges [] (λ x. IsCovered k x ⊎ IsFromCandidate k (candidates_of h) x)
        (λ x i. ⊎_elim
        (λ p. let f = Among-map_cases buffered (filter (λ b. b.purple) h.buffer) x p in
        inr (derive-root (map native (candidates_of h)) (view h).edges [] x
        (subst (λ y. Among y (map native (candidates_of h))) f.2
        (Among-map native f.0.number (candidates_of h) (Among-map (λ (b : Buffered). b.number) f.0 (filter (λ b. b.purple) h.buffer) f.1)))))
        (λ o. inl (derive-root (k.purple ++ unreached_scripts k) k.edges [] x (Among-right x k.purple (unreached_scripts k) o)))
        (Among-append x (view h).purple (unreached_scripts (view h)) i))
        (λ x y i d. ⊎_elim
        (λ a. inl (derive-along (k.purple ++ unreached_scripts k) k.edges [] x y i a))
        (λ b. inr (derive-along (map native (candidates_of h)) k.edges [] x y i b)) d)
        (λ ps y i d. absurd i)

-- A larger buffer

-- who is purple in a buffer
abbrev pub IsPurpleIn : List Buffered → ℕ → Type 0
IsPurpleIn bs i = Among (native i) (map buffered (filter (λ b. b.purple) bs))

-- Where who was purple stays purple, what was covered stays covered.
pub covered-stays : (h : Heap) (bs : List Buffered) → ((x : Name) → Among x (view h).purple → Among x (view (with_buffer h bs)).purple) →
    (x : Name) → IsCovered (view h) x → IsCovered (view (with_buffer h bs)) x
covered-stays h bs stays = derived-within ((view h).purple ++ unreached_scripts (view h)) (view h).edges [] (IsCovered k)
    (λ x i. derive-root (k.purple ++ unreached_scripts k) k.edges [] x (⊎_elim
    (λ p. Among-left x k.purple (unreached_scripts k) (stays x p))
    (λ o. Among-right x k.purple (unreached_scripts k) o)
    (Among-append x (view h).purple (unreached_scripts (view h)) i)))
    (λ x y i d. derive-along (k.purple ++ unreached_scripts k) k.edges [] x y i d)
    (λ ps y i d. absurd i)
  where
    k : View
    k = view (with_buffer h bs)

-- Where the candidates that are there are purple, too, natives are suspected without candidates.
buffer-suspected : (h : Heap) (bs : List Buffered) (candidates : List ℕ) → IsSound [] h →
    ((x : Name) → Among x (view h).purple → Among x (view (with_buffer h bs)).purple) →
    ((i : ℕ) → Among i candidates → Among (native i) (native_names h) → IsPurpleIn bs i) →
    IsSuspected (view h) candidates → IsSuspected (view (with_buffer h bs)) []
buffer-suspected h bs candidates sound stays given s u c m unreached = inl (⊎_elim
    (λ covered. covered-stays h bs stays u covered)
    (λ p. from_candidate u p.1 (inl (c, m)))
    (s u c m unreached))
  where
    k : View
    k = view (with_buffer h bs)

    v : IsSoundView h.natives_made (view h)
    v = IsSound-view h sound

    -- it is there, or it holds something
    IsSomewhere : Name → Type 0
    IsSomewhere x = IsLiving (view h) x ⊎ ((y : Name) × Among (x, y) (view h).edges)

    purple : (i : ℕ) → Among i candidates → IsSomewhere (native i) → IsCovered k (native i)
    purple i n w =
        let there : IsLiving (view h) (native i) = ⊎_elim (λ l. l) (λ e. v.source_lives i e.0 e.1) w in
        let f = living-native h (native i) there.0 there.1 in
        derive-root (k.purple ++ unreached_scripts k) k.edges [] (native i)
        (Among-left (native i) k.purple (unreached_scripts k) (given i n
        (subst (λ x. Among x (native_names h)) f.2 (Among-map (λ (n : HeapNative). native n.number) f.0 h.natives f.1))))

    from_candidate : (x : Name) → IsFromCandidate (view h) candidates x → IsSomewhere x → IsCovered k x
    from_candidate = derived-within (map native candidates) (view h).edges [] (λ x. IsSomewhere x → IsCovered k x)
        (λ x i w. let f = Among-map_cases native candidates x i in
        subst (IsCovered k) f.2 (purple f.0 f.1 (subst IsSomewhere (sym f.2) w)))
        (λ x y i d w. derive-along (k.purple ++ unreached_scripts k) k.edges [] x y i (d (inr (y, i))))
        (λ ps y i d w. absurd i)

-- Marks in the buffer

-- the names in a buffer
abbrev pub IsNameIn : List Buffered → Name → Type 0
IsNameIn bs x = Among x (map buffered bs)

-- a native that is suspected is purple
suspected-purple : (k : ℕ) (bs : List Buffered) → IsPurpleName (with_mark true k bs) (native k)
suspected-purple k bs =
    purple-name (with_mark true k bs) (buffered_as k true) (with_mark-place true k bs) refl

-- a purple name stays purple, or it is that of the native that is marked
pub purple-stays : (m : Bool) (k : ℕ) (bs : List Buffered) (x : Name) → IsPurpleName bs x → (x ≡ native k) ⊎ IsPurpleName (with_mark m k bs) x
purple-stays m k bs x i = grind (arith, purple-place, purple-name, with_mark-stays)

-- a name in the buffer was there, or is that of the native that was marked
pub name-was : (m : Bool) (k : ℕ) (bs : List Buffered) (x : Name) → IsNameIn (with_mark m k bs) x → (x ≡ native k) ⊎ IsNameIn bs x
name-was m k bs x i = grind (arith, Among-map_cases, Among-map, with_mark-cases)

-- a purple name was purple, or is that of the native that was marked
purple-was : (m : Bool) (k : ℕ) (bs : List Buffered) (x : Name) → IsPurpleName (with_mark m k bs) x → (x ≡ native k) ⊎ IsPurpleName bs x
purple-was m k bs x i = grind (arith, purple-place, purple-name, with_mark-cases)

-- Natives given back

-- the buffer after natives that are there went back to it
abbrev pub given_back : List ℕ → Heap → List Buffered → List Buffered
given_back [] h bs = bs
given_back (k ∷ ks) h bs = elim (is_some (native_at h k)) [ true ↦ given_back ks h (with_mark true k bs) | false ↦ given_back ks h bs ]

-- Natives that go back change the buffer alone.
pub give_back-buffer : (ks : List ℕ) (h : Heap) (bs : List Buffered) → give_back ks (with_buffer h bs) ≡ with_buffer h (given_back ks h bs)
give_back-buffer [] h bs = refl
give_back-buffer (k ∷ ks) h bs = go (give_back-buffer ks h) (is_some (native_at h k))
  where
    go : ((cs : List Buffered) → give_back ks (with_buffer h cs) ≡ with_buffer h (given_back ks h cs)) → (b : Bool) →
        elim b [ true ↦ give_back ks (with_buffer h (with_mark true k bs)) | false ↦ give_back ks (with_buffer h bs) ]
        ≡ with_buffer h (elim b [ true ↦ given_back ks h (with_mark true k bs) | false ↦ given_back ks h bs ])
    go ih true = ih (with_mark true k bs)
    go ih false = ih bs

-- what a mark set on a native that is there keeps, natives that go back keep
given_back-keep : (P : List Buffered → Type 0) (h : Heap) → ((k : ℕ) (bs : List Buffered) → Among (native k) (native_names h) → P bs → P (with_mark true k bs)) →
    (ks : List ℕ) (bs : List Buffered) → P bs → P (given_back ks h bs)
given_back-keep P h step [] bs p = p
given_back-keep P h step (k ∷ ks) bs p = go (given_back-keep P h step ks) (native_at h k) refl
  where
    go : ((cs : List Buffered) → P cs → P (given_back ks h cs)) → (o : Option HeapNative) → native_at h k ≡ o →
        P (elim (is_some o) [ true ↦ given_back ks h (with_mark true k bs) | false ↦ given_back ks h bs ])
    go ih None e = ih bs p
    go ih (Some n) e = ih (with_mark true k bs) (step k bs (native_at-named h k n e) p)

-- who was purple stays purple
pub given_back-purple : (h : Heap) (x : Name) (ks : List ℕ) (bs : List Buffered) → IsPurpleName bs x → IsPurpleName (given_back ks h bs) x
given_back-purple h x = given_back-keep (λ bs. IsPurpleName bs x) h
    (λ k bs m p. ⊎_elim (λ e. subst (IsPurpleName (with_mark true k bs)) (sym e) (suspected-purple k bs)) (λ s. s) (purple-stays true k bs x p))

-- who stands in the buffer stays there
pub given_back-name : (h : Heap) (x : Name) (ks : List ℕ) (bs : List Buffered) → IsNameIn bs x → IsNameIn (given_back ks h bs) x
given_back-name h x = given_back-keep (λ bs. IsNameIn bs x) h (λ k bs m p. with_mark-keeps true k bs x p)

-- natives that are there and go back are purple
pub given_back-there : (h : Heap) (ks : List ℕ) (bs : List Buffered) (i : ℕ) → Among i ks → Among (native i) (native_names h) → IsPurpleName (given_back ks h bs) (native i)
given_back-there h [] bs i m there = absurd m
given_back-there h (k ∷ ks) bs i m there = ⊎_elim first (λ t. go (λ cs. given_back-there h ks cs i t there) (is_some (native_at h k))) m
  where
    go : ((cs : List Buffered) → IsPurpleName (given_back ks h cs) (native i)) → (b : Bool) →
        IsPurpleName (elim b [ true ↦ given_back ks h (with_mark true k bs) | false ↦ given_back ks h bs ]) (native i)
    go ih true = ih (with_mark true k bs)
    go ih false = ih bs

    first : k ≡ i → IsPurpleName (given_back (k ∷ ks) h bs) (native i)
    first e =
        let found = named-found h k (subst (λ j. Among (native j) (native_names h)) (sym e) there) in
        let test : is_some (native_at h k) ≡ true = rw found.1 refl in
        subst (λ b. IsPurpleName (elim b [ true ↦ given_back ks h (with_mark true k bs) | false ↦ given_back ks h bs ]) (native i)) (sym test)
        (given_back-purple h (native i) ks (with_mark true k bs) (subst (λ j. IsPurpleName (with_mark true k bs) (native j)) e (suspected-purple k bs)))

-- no others are made purple
pub given_back-was : (h : Heap) (x : Name) (ks : List ℕ) (bs : List Buffered) → IsPurpleName (given_back ks h bs) x →
    IsPurpleName bs x ⊎ ((i : ℕ) × (x ≡ native i) × Among i ks)
given_back-was h x [] bs p = inl p
given_back-was h x (k ∷ ks) bs p = go (given_back-was h x ks) (is_some (native_at h k)) p
  where
    later : (cs : List Buffered) → IsPurpleName cs x ⊎ ((i : ℕ) × (x ≡ native i) × Among i ks) → IsPurpleName cs x ⊎ ((i : ℕ) × (x ≡ native i) × Among i (k ∷ ks))
    later cs q = ⊎_elim (λ s. inl s) (λ n. inr (n.0, n.1, inr n.2)) q

    go : ((cs : List Buffered) → IsPurpleName (given_back ks h cs) x → IsPurpleName cs x ⊎ ((i : ℕ) × (x ≡ native i) × Among i ks)) → (b : Bool) →
        IsPurpleName (elim b [ true ↦ given_back ks h (with_mark true k bs) | false ↦ given_back ks h bs ]) x →
        IsPurpleName bs x ⊎ ((i : ℕ) × (x ≡ native i) × Among i (k ∷ ks))
    go ih true q = ⊎_elim
        (λ s. ⊎_elim (λ e. inr (k, e, inl refl)) (λ t. inl t) (purple-was true k bs x s))
        (λ n. inr (n.0, n.1, inr n.2)) (ih (with_mark true k bs) q)
    go ih false q = later bs (ih bs q)

-- the buffer stays one of natives that are there, each once
pub given_back-buffer : (h : Heap) (ks : List ℕ) (bs : List Buffered) → IsBuffer h bs → IsBuffer h (given_back ks h bs)
given_back-buffer h = given_back-keep (IsBuffer h) h (λ k bs m p. record {
  there = λ b i. ⊎_elim (λ e. subst (λ j. Among (native j) (native_names h)) (sym e) m) (λ t. p.there b t) (with_mark-cases true k bs b i);
  once = places-with_mark true k bs p.once;
})

-- ABANDONMENT: candidates that are there go back, and natives are suspected without candidates.
pub give_back-suspected : (h : Heap) (candidates : List ℕ) → IsSound [] h → IsSuspected (view h) candidates → IsSuspected (view (give_back candidates h)) []
give_back-suspected h candidates sound s = subst (λ k. IsSuspected (view k) []) (sym (give_back-buffer candidates h h.buffer))
    (buffer-suspected h (given_back candidates h h.buffer) candidates sound
    (λ x p. given_back-purple h x candidates h.buffer p)
    (λ i m there. given_back-there h candidates h.buffer i m there) s)
