-- ROOM FOR WHAT IS TOLD: where there is room for all of it and one item more, none of it is left out.
use Rattle.std.proofs.Common.{◌≡◌, ◌+◌, ◌≤◌, Bool, true, false, List, ◌++◌, length, Some, refl, ap, arith}
use Rattle.std.proofs.lemmas.Bool.{false≢true}
use Rattle.std.proofs.lemmas.List.{length-append}
use Rattle.cc_model.specs.declared.item.Item.{Item}
use Rattle.cc_model.specs.Telling.{Tells}
use Rattle.cc_host.specs.Queues.{LosesNone, Queued, telling_of, told_all}

-- WHAT WAS TOLD IS KEPT WHOLE
pub record IsWhole (q : Queued) (is : List Item) (p : Queued) : Type 0 where
  pub broken : p.broken ≡ false
  pub items : p.items ≡ q.items ++ is
  pub room : p.room ≡ q.room

-- the items of what is known
some-items : (xs ys : List Item) → Some xs ≡ Some ys → xs ≡ ys
some-items xs ys e = grind arith

module _ (q p : Queued) (whole : q.broken ≡ false) (loses : LosesNone p) where
  -- WHERE THERE IS ROOM for what is told and one item more, all of it is kept.
  pub kept-whole : (is : List Item) → Tells (telling_of q) (telling_of p) is → length q.items + length is + 1 ≤ q.room → IsWhole q is p
  kept-whole is t room = go p.broken refl
    where
      go : (b : Bool) → p.broken ≡ b → IsWhole q is p
      go false e = record { broken = e; items = some-items p.items (q.items ++ is) (t.whole e).kept; room = t.sink }
      go true e =
          let f = (t.broke whole e).front in
          absurd (omega (
            arith,
            loses e,
            t.sink,
            room,
            ap length (some-items p.items (q.items ++ f.front) f.kept),
            length-append q.items f.front,
            ap length f.whole,
            length-append f.front f.rest,
          ))

-- what was told to the one was told to a receiver that keeps every item
pub told-whole : (q p : Queued) (is : List Item) → q.broken ≡ false → p.broken ≡ false → Tells (telling_of q) (telling_of p) is → Tells (told_all q.items) (told_all p.items) is
told-whole q p is e f t = record {
  sink = refl;
  stays = λ b. absurd (false≢true b);
  whole = λ b. record { grown = (t.whole f).grown; faults = refl; summed = (t.whole f).summed; kept = (t.whole f).kept };
  broke = λ b c. absurd (false≢true c);
}
