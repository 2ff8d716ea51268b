-- THE THREE PASSES ARE THE END OF A COLLECTION: what they leave and what they tell, one after another.
use Rattle.std.proofs.Common.{◌≡◌, ℕ, List, [], ◌∷◌, ◌++◌, refl, sym, ◌∙◌, ap, subst, append_assoc}
use Rattle.std.proofs.lemmas.List.{append-nil}
use Rattle.cc_lists.specs.Members.{Among}
use Rattle.cc_names.specs.Names.{native}
use Rattle.cc_model.specs.Telling.{Telling, TellsEvents}
use Rattle.cc_model.specs.Heap.{Heap, Outcome, silently, after, outcome_of}
use Rattle.cc_model.specs.Cascade.{cascade}
use Rattle.cc_model.specs.End.{root_each, unlink_each, unroot_each, take_away}
use Rattle.cc_model.specs.WellFormed.{native_names}
use Rattle.cc_model.proofs.Tellings.{TellsEvents-trans}
use Rattle.cc_laws_heap.specs.Sound.{IsSound}
use Rattle.cc_laws_heap.specs.Ending.{freed_numbers}
use Rattle.cc_laws_heap.specs.Stages.{Stage, stage}
use Rattle.cc_laws_heap.specs.Stages.Done.{nothing}
use Rattle.cc_laws_heap.proofs.Face.{IsTaking, Leave-before, done-leaves, unroot_each-taking}
use Rattle.cc_heaps.specs.Keyed.{Keyed, IsInOrder, changed_to, left_with}
use Rattle.cc_heaps.proofs.LeftWith.{left_with-then}

-- what was told before the natives are unrooted stands in front
unroot_each-after : (ks : List ℕ) (o : Outcome) → unroot_each ks o ≡ after o.events (unroot_each ks (silently o.heap))
unroot_each-after [] o = ap (λ es. outcome_of o.heap es) (sym (append-nil o.events))
unroot_each-after (k ∷ ks) o =
    let c : Outcome = cascade o.heap k in
    let rest : Outcome = unroot_each ks (silently c.heap) in
    unroot_each-after ks (after o.events c)
    ∙ (ap (λ es. outcome_of rest.heap es) (append_assoc o.events c.events rest.events) ∙ ap (after o.events) (sym (unroot_each-after ks c)))

-- the end as a whole is what is told while natives are unlinked, and then what unrooting does
take_away-parts : (ks : List ℕ) (h : Heap) →
    take_away ks h ≡ after (unlink_each ks (silently (root_each ks h))).events (unroot_each ks (silently (unlink_each ks (silently (root_each ks h))).heap))
unfolding take_away
take_away-parts ks h = unroot_each-after ks (unlink_each ks (silently (root_each ks h)))

-- natives that are there after others were unrooted were there before
unrooted-before : (ks : List ℕ) (h : Heap) → IsSound ks h → (k : ℕ) → Among (native k) (native_names (unroot_each ks (silently h)).heap) → Among (native k) (native_names h)
unrooted-before ks h s k m =
    let start : Stage = stage (ks ++ []) [] h in
    let o : Outcome = unroot_each ks (silently h) in
    let way : IsTaking [] start [] [] o = unroot_each-taking [] start ks [] [] (silently h)
    (record { sound = subst (λ owned. IsSound owned h) (sym (append-nil ks)) s; done = nothing start; told = refl; taken = λ n i e. absurd e }) in
    Leave-before h (freed_numbers o.events) o.heap (done-leaves [] start o.events (stage [] [] o.heap) way.done) k m

-- the heaps before, and after each pass
module _ (ks : List ℕ) (first rooted unlinked unrooted : Keyed)
    (root : rooted ≡ changed_to first (root_each ks first.heap))
    (unlink : unlinked ≡ left_with rooted (unlink_each ks (silently rooted.heap)).heap) where
  unlinked_heap : unlinked.heap ≡ (unlink_each ks (silently (root_each ks first.heap))).heap
  unlinked_heap = ap (λ (v : Keyed). v.heap) unlink ∙ ap (λ (v : Keyed). (unlink_each ks (silently v.heap)).heap) root

  -- WHAT THEY LEAVE
  pub WhiteEnd-heap : IsInOrder ks unlinked → unrooted ≡ left_with unlinked (unroot_each ks (silently unlinked.heap)).heap →
      unrooted ≡ left_with first (take_away ks first.heap).heap
  WhiteEnd-heap order e =
      e ∙ (ap (λ v. left_with v last) same
      ∙ (left_with-then rooted unlinked.heap last (unrooted-before ks unlinked.heap order.sound)
      ∙ (ap (λ v. left_with v last) root ∙ ap (left_with first) all)))
    where
      last : Heap
      last = (unroot_each ks (silently unlinked.heap)).heap

      same : unlinked ≡ left_with rooted unlinked.heap
      same = unlink ∙ ap (left_with rooted) (sym (ap (λ (v : Keyed). v.heap) unlink))

      all : last ≡ (take_away ks first.heap).heap
      all = ap (λ h. (unroot_each ks (silently h)).heap) unlinked_heap ∙ sym (ap (λ (o : Outcome). o.heap) (take_away-parts ks first.heap))

  -- AND WHAT THEY TELL
  pub WhiteEnd-told : (before between now : Telling) → TellsEvents before between (unlink_each ks (silently rooted.heap)).events →
      TellsEvents between now (unroot_each ks (silently unlinked.heap)).events →
      TellsEvents before now (take_away ks first.heap).events
  WhiteEnd-told before between now t u =
      subst (TellsEvents before now) all
      (TellsEvents-trans before between now (unlink_each ks (silently rooted.heap)).events (unroot_each ks (silently unlinked.heap)).events t u)
    where
      all : (unlink_each ks (silently rooted.heap)).events ++ (unroot_each ks (silently unlinked.heap)).events ≡ (take_away ks first.heap).events
      all = ap (λ (v : Keyed). (unlink_each ks (silently v.heap)).events ++ (unroot_each ks (silently unlinked.heap)).events) root
          ∙ (ap (λ h. (unlink_each ks (silently (root_each ks first.heap))).events ++ (unroot_each ks (silently h)).events) unlinked_heap
          ∙ sym (ap (λ (o : Outcome). o.events) (take_away-parts ks first.heap)))
