-- A HOST HAS ROOM after each call, where it had some before.
use Rattle.std.proofs.Common.{◌≡◌, ℕ, ◌+◌, ◌≤◌, false, List, [], ◌∷◌, ◌++◌, map, length, refl, sym, ap, subst, inl, inr, ⊎_elim, arith, Result, Ok, Err, IfOk, OnErr, OnOk, ◌∙◌}
use Rattle.std.proofs.lemmas.List.{length-append, length-map}
use Rattle.cc_lists.specs.Members.{Among}
use Rattle.cc_lists.proofs.Members.{Among-left, Among-right}
use Rattle.cc_names.specs.declared.name.Name.{Name}
use Rattle.cc_model.specs.WellFormed.{names_there}
use Rattle.cc_model.specs.declared.item.Event.{Event}
use Rattle.cc_model.specs.declared.item.Item.TheVariants.{Event as of_event}
use Rattle.cc_laws_told.specs.Told.{objects}
use Rattle.cc_laws_told.proofs.Face.{natives-left, objects-left}
use Rattle.cc_host.specs.Calls.{Comes, NoneComes, TellsFew, TellsFreed}
use Rattle.cc_host.specs.Hosted.{Hosted, IsKept}
use Rattle.cc_host.specs.declared.object.Object.{Object}
use Rattle.cc_host.specs.declared.stop.Stop.{Stop}
use Rattle.cc_host.specs.Queues.{LosesNone, Queued, telling_of, told_all}
use Rattle.cc_heaps.specs.Leaving.{freed}
use Rattle.cc_host.specs.Hosts.{HasRoom, most_told}
use Rattle.cc_host.proofs.Room.{IsWhole, kept-whole}
use Rattle.cc_host.proofs.WholeTellings.{freed-whole}

-- no object comes but these
abbrev pub ComeFrom : List Name → Hosted → Hosted → Type 0
ComeFrom made h k = (x : Name) → Among x (names_there k.heaps.heap) → Among x (names_there h.heaps.heap ++ made)

-- THERE IS ROOM FOR SO MANY OBJECTS MORE
pub record HasRoomFor (more : ℕ) (h : Hosted) (q : Queued) : Type 0 where
  pub kept : IsKept h
  pub whole : q.broken ≡ false
  pub each : length q.items + (objects h.heaps.heap + more) + 1 ≤ q.room
  pub all : most_told h + (more + more + more) ≤ q.room

-- room for none more
HasRoom-for : (h : Hosted) (q : Queued) → HasRoom h q → HasRoomFor 0 h q
HasRoom-for h q r = record { kept = r.kept; whole = r.whole; each = omega (arith, r.each); all = omega (arith, r.all) }

-- where a place was taken for each of them
pub HasRoom-reserved : (h : Hosted) (q p : Queued) → HasRoom h q → p.items ≡ q.items → p.broken ≡ q.broken → length q.items + (most_told h + 4) ≤ p.room → HasRoomFor 1 h p
HasRoom-reserved h q p r items broken room = record {
  kept = r.kept;
  whole = subst (λ b. b ≡ false) (sym broken) r.whole;
  each = omega (arith, room, ap length items);
  all = omega (arith, room);
}

-- Room for a collection

-- THERE IS ROOM FOR ALL THAT A CALL CAN TELL, besides what waits
pub record MayCollect (h : Hosted) (q : Queued) : Type 0 where
  pub whole : q.broken ≡ false
  pub room : length q.items + most_told h ≤ q.room

-- it was taken
pub may-collect : (h : Hosted) (q p : Queued) → HasRoom h q → p.items ≡ q.items → p.broken ≡ q.broken → length q.items + most_told h ≤ p.room → MayCollect h p
may-collect h q p r items broken room = record { whole = subst (λ b. b ≡ false) (sym broken) r.whole; room = omega (arith, room, ap length items) }

-- What is told leaves room

module _ (h k : Hosted) (q p : Queued) (loses : LosesNone p) where
  -- WHAT IS FREED is kept, and there is room after it
  pub freed-room : (made : List Name) → IsKept k → ComeFrom made h k → HasRoomFor (length made) h q → TellsFreed h k (telling_of q) (telling_of p) → HasRoom k p
  freed-room made after came r t =
      let left = objects-left h.heaps.heap k.heaps.heap r.kept.runs.order.sound.well_formed after.runs.order.sound.well_formed made came t.numbers t.left.once
      (λ j m. (t.left.each j m).before) (λ j m. (t.left.each j m).gone) in
      let natives = natives-left h.heaps.heap k.heaps.heap r.kept.runs.order.sound.well_formed after.runs.order.sound.well_formed made came in
      let items = map of_event (map freed t.numbers) in
      let long : length items ≡ length t.numbers = omega (arith, length-map (map freed t.numbers) of_event, length-map t.numbers freed) in
      let w : IsWhole q items p = kept-whole q p r.whole loses items t.told (omega (arith, long, r.each, left)) in
      record {
        kept = after;
        whole = w.broken;
        each = omega (arith, w.room, ap length w.items, length-append q.items items, long, left, r.each);
        all = omega (arith, w.room, r.all, left, natives);
      }

  -- WHAT A COLLECTION TELLS is kept where room was taken for it, and there is room after it
  pub few-room : (besides : ℕ) → IsKept k → besides ≤ length h.heaps.heap.natives + length h.heaps.heap.natives + 2 → MayCollect h q → TellsFew besides h k (telling_of q) (telling_of p) → HasRoom k p
  unfolding TellsFew
  few-room besides after few ready t =
      let es : List Event = t.0 in
      let items = map of_event es in
      let long : length items ≡ length es = length-map es of_event in
      let w : IsWhole q items p = kept-whole q p ready.whole loses items t.1 (omega (arith, long, ready.room, few, t.2.told)) in
      record {
        kept = after;
        whole = w.broken;
        each = omega (arith, w.room, ap length w.items, length-append q.items items, long, ready.room, few, t.2.told);
        all = omega (arith, w.room, ready.room, t.2.natives, t.2.scripts);
      }

-- WHERE NOTHING IS TOLD there is room after a call
pub quiet-room : (h k : Hosted) (q : Queued) (made : List Name) → IsKept k → ComeFrom made h k → HasRoomFor (length made) h q → HasRoom k q
quiet-room h k q made after came r =
    let left = objects-left h.heaps.heap k.heaps.heap r.kept.runs.order.sound.well_formed after.runs.order.sound.well_formed made came [] (λ j. omega arith) (λ j m. absurd m) (λ j m. absurd m) in
    let natives = natives-left h.heaps.heap k.heaps.heap r.kept.runs.order.sound.well_formed after.runs.order.sound.well_formed made came in
    record { kept = after; whole = r.whole; each = omega (arith, left, r.each); all = omega (arith, r.all, left, natives) }

-- none came
pub none-come : (h k : Hosted) → NoneComes h k → ComeFrom [] h k
none-come h k none x m = Among-left x (names_there h.heaps.heap) [] (none x m)

-- that one came
pub one-comes : (h k : Hosted) (made : Name) → Comes made h k → ComeFrom (made ∷ []) h k
one-comes h k made one x m = ⊎_elim (λ l. Among-left x (names_there h.heaps.heap) (made ∷ []) l) (λ e. Among-right x (names_there h.heaps.heap) (made ∷ []) (inl (sym e))) (one x m)

-- The room after a call that makes nothing, by what it promises

module _ (h k : Hosted) (q : Queued) (after : IsKept k) (none : NoneComes h k) (room : HasRoom h q) where
  -- where nothing is told
  pub after_nothing : HasRoom k q
  after_nothing = quiet-room h k q [] after (none-come h k none) (HasRoom-for h q room)

  module _ (p : Queued) (loses : LosesNone p) (tells : TellsFreed h k (telling_of q) (telling_of p)) where
    -- where what is freed is told
    pub after_freeing : HasRoom k p
    after_freeing = freed-room h k q p loses [] after (none-come h k none) (HasRoom-for h q room) tells

    -- and all of it is told
    pub told_freed : TellsFreed h k (told_all q.items) (told_all p.items)
    told_freed = freed-whole q q p refl room.whole after_freeing.whole h k tells

-- The room after a call that makes an object, for which room was taken

-- where there is room for more there is room for fewer
fewer-room : (few more : ℕ) (h : Hosted) (q : Queued) → few ≤ more → HasRoomFor more h q → HasRoomFor few h q
fewer-room few more h q le r = record { kept = r.kept; whole = r.whole; each = omega (arith, r.each, le); all = omega (arith, r.all, le) }

-- what comes is what is answered
pub came-named : (r : Result Object Stop) (h k : Hosted) (made : Name) → OnOk r (Comes made h k) → IfOk r (λ x. x.name ≡ made) → IfOk r (λ x. Comes x.name h k)
came-named (Ok x) h k made c e = λ y m. ⊎_elim (λ l. inl l) (λ n. inr (n ∙ sym e)) (c y m)
came-named (Err s) h k made c e = c

-- where nothing changes none comes
pub none-where_same : (h k : Hosted) → k ≡ h → NoneComes h k
none-where_same h k e x m = subst (λ (j : Hosted). Among x (names_there j.heaps.heap)) e m

-- and where that is so of a refusal
pub none-where_refused : (r : Result Object Stop) (h k : Hosted) → OnErr r (k ≡ h) → OnErr r (NoneComes h k)
none-where_refused (Ok x) h k e = e
none-where_refused (Err s) h k e = none-where_same h k e

module _ (r : Result Object Stop) (h k : Hosted) (q : Queued) (after : IsKept k) (room : HasRoomFor 1 h q) (came : IfOk r (λ x. Comes x.name h k)) (none : OnErr r (NoneComes h k)) where
  -- what came, one object at most
  made : (xs : List Name) × (length xs ≤ 1) × ComeFrom xs h k
  made = go r came none
    where
      go : (s : Result Object Stop) → IfOk s (λ x. Comes x.name h k) → OnErr s (NoneComes h k) → (xs : List Name) × (length xs ≤ 1) × ComeFrom xs h k
      go (Ok x) c n = (x.name ∷ [], omega arith, one-comes h k x.name c)
      go (Err e) c n = ([], omega arith, none-come h k n)

  enough : HasRoomFor (length made.0) h q
  enough = fewer-room (length made.0) 1 h q made.1 room

  -- where nothing is told
  pub after_making : HasRoom k q
  after_making = quiet-room h k q made.0 after made.2 enough

  module _ (p : Queued) (loses : LosesNone p) (tells : TellsFreed h k (telling_of q) (telling_of p)) where
    -- where what is freed is told
    pub after_making_freed : HasRoom k p
    after_making_freed = freed-room h k q p loses made.0 after made.2 enough tells

    -- and all of it is told
    pub told_making : (o : Queued) → q.items ≡ o.items → TellsFreed h k (told_all o.items) (told_all p.items)
    told_making o waited = freed-whole o q p waited room.whole after_making_freed.whole h k tells
