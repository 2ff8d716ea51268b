-- Items told one after another.
use Rattle.std.proofs.Common.{◌≡◌, List, [], ◌∷◌, ◌++◌, map, Bool, true, false, Option, Some, None, refl, sym, ◌∙◌, ap, subst, append_assoc, append-nil}
use Rattle.std.proofs.lemmas.Grind.{flat_map-append}
use Rattle.std.proofs.lemmas.List.{map-append}
use Rattle.cc_lists.proofs.KnownBytes.{Appends-nil, Appends-trans}
use Rattle.std.specs.Io.KnownBytes.{Appends}
use Rattle.cc_lists.specs.Faults.{raised}
use Rattle.cc_model.specs.declared.item.Event.{Event}
use Rattle.cc_model.specs.declared.item.Item.{Item}
use Rattle.cc_model.specs.declared.item.Item.TheVariants.{Event as of_event}
use Rattle.cc_model.specs.declared.sums.Sums.{Sums}
use Rattle.cc_model.specs.Summed.{summed, sums_after, with_item}
use Rattle.cc_model.specs.Telling.{Telling, Tells, TellsEvents, Broke, Grew, items_after}
use Rattle.cc_model.specs.Texts.{text_of, texts_of}

-- the lines of items, and of others after them
texts-append : (x y : List Item) → texts_of (x ++ y) ≡ texts_of x ++ texts_of y
texts-append x y = flat_map-append text_of x y

-- their sums
summed-append : (x y : List Item) (s : Sums) → summed (x ++ y) s ≡ summed y (summed x s)
summed-append [] y s = refl
summed-append (item ∷ x) y s = summed-append x y (with_item item s)

sums_after-nil : (o : Option Sums) → o ≡ sums_after [] o
sums_after-nil None = refl
sums_after-nil (Some s) = refl

sums_after-append : (x y : List Item) (a b c : Option Sums) → b ≡ sums_after x a → c ≡ sums_after y b → c ≡ sums_after (x ++ y) a
sums_after-append x y None b c e f = f ∙ ap (sums_after y) e
sums_after-append x y (Some s) b c e f = f ∙ (ap (sums_after y) e ∙ ap (λ t. Some t) (sym (summed-append x y s)))

-- the items that are kept
items_after-nil : (o : Option (List Item)) → o ≡ items_after [] o
items_after-nil None = refl
items_after-nil (Some kept) = ap (λ l. Some l) (sym (append-nil kept))

items_after-append : (x y : List Item) (a b c : Option (List Item)) → b ≡ items_after x a → c ≡ items_after y b → c ≡ items_after (x ++ y) a
items_after-append x y None b c e f = f ∙ ap (items_after y) e
items_after-append x y (Some kept) b c e f = f ∙ (ap (items_after y) e ∙ ap (λ l. Some l) (append_assoc kept x y))

pub Tells-nil : (s : Telling) → Tells s s []
Tells-nil s = record {
  sink = refl;
  stays = λ _. refl;
  whole = λ _. record { grown = Appends-nil s.told; faults = refl; summed = sums_after-nil s.sums; kept = items_after-nil s.items };
  broke = λ p q. let bad : true ≡ false = sym q ∙ p in cc;
}

-- nothing is told where it was broken before: front and rest are the front nothing
part_first : (a b c : Telling) (x y : List Item) → Broke a b x → c ≡ b → Broke a c (x ++ y)
part_first a b c x y h e = subst (λ s. Broke a s (x ++ y)) (sym e) (record {
  part = record {
    front = h.part.front;
    rest = h.part.rest ++ texts_of y;
    whole = texts-append x y ∙ (ap (λ l. l ++ texts_of y) h.part.whole ∙ append_assoc h.part.front h.part.rest (texts_of y));
    grown = h.part.grown;
  };
  faults = h.faults;
  front = record {
    front = h.front.front;
    rest = h.front.rest ++ y;
    whole = ap (λ l. l ++ y) h.front.whole ∙ append_assoc h.front.front h.front.rest y;
    summed = h.front.summed;
    kept = h.front.kept;
  };
})

part_second : (a b c : Telling) (x y : List Item) → Grew a b x → Broke b c y → Broke a c (x ++ y)
part_second a b c x y g h = record {
  part = record {
    front = texts_of x ++ h.part.front;
    rest = h.part.rest;
    whole = texts-append x y ∙ (ap (λ l. texts_of x ++ l) h.part.whole ∙ sym (append_assoc (texts_of x) h.part.front h.part.rest));
    grown = Appends-trans a.told b.told c.told (texts_of x) h.part.front g.grown h.part.grown;
  };
  faults = h.faults ∙ ap (λ n. raised n 1) g.faults;
  front = record {
    front = x ++ h.front.front;
    rest = h.front.rest;
    whole = ap (λ l. x ++ l) h.front.whole ∙ sym (append_assoc x h.front.front h.front.rest);
    summed = sums_after-append x h.front.front a.sums b.sums c.sums g.summed h.front.summed;
    kept = items_after-append x h.front.front a.items b.items c.items g.kept h.front.kept;
  };
}

join_broke : (a b c : Telling) (x y : List Item) (v : Bool) → b.broken ≡ v → Tells a b x → Tells b c y → a.broken ≡ false → c.broken ≡ true → Broke a c (x ++ y)
join_broke a b c x y true e p q u w = part_first a b c x y (p.broke u e) (q.stays e)
join_broke a b c x y false e p q u w = part_second a b c x y (p.whole e) (q.broke e w)

join_whole : (a b c : Telling) (x y : List Item) (v : Bool) → b.broken ≡ v → Tells a b x → Tells b c y → c.broken ≡ false → Grew a c (x ++ y)
join_whole a b c x y true e p q w = let same : c.broken ≡ b.broken = ap (λ s. s.broken) (q.stays e) in let bad : true ≡ false = sym e ∙ sym same ∙ w in cc
join_whole a b c x y false e p q w = let g = p.whole e in let h = q.whole w in
    record {
      grown = subst (Appends a.told c.told) (sym (texts-append x y)) (Appends-trans a.told b.told c.told (texts_of x) (texts_of y) g.grown h.grown);
      faults = h.faults ∙ g.faults;
      summed = sums_after-append x y a.sums b.sums c.sums g.summed h.summed;
      kept = items_after-append x y a.items b.items c.items g.kept h.kept;
    }

join_stays : (a b c : Telling) (x y : List Item) → Tells a b x → Tells b c y → a.broken ≡ true → c ≡ a
join_stays a b c x y p q u = let e = p.stays u in q.stays (ap (λ s. s.broken) e ∙ u) ∙ e

pub Tells-trans : (a b c : Telling) (x y : List Item) → Tells a b x → Tells b c y → Tells a c (x ++ y)
Tells-trans a b c x y p q = record {
  sink = q.sink ∙ p.sink;
  stays = join_stays a b c x y p q;
  whole = join_whole a b c x y b.broken refl p q;
  broke = join_broke a b c x y b.broken refl p q;
}

-- EVENTS TOLD ONE AFTER THE OTHER.
pub TellsEvents-trans : (a b c : Telling) (es fs : List Event) → TellsEvents a b es → TellsEvents b c fs → TellsEvents a c (es ++ fs)
TellsEvents-trans a b c es fs p q = subst (Tells a c) (sym (map-append of_event es fs)) (Tells-trans a b c (map of_event es) (map of_event fs) p q)
