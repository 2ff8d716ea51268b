-- TEXTS WRITTEN ONE AFTER THE OTHER: one more, and a front of one more.
use Rattle.std.proofs.Common.{◌≡◌, ℕ, ◌+◌, ◌<◌, List, [], ◌∷◌, ◌++◌, length, take, drop, get_or, Option, sym, ap, subst, ◌∙◌, append_assoc, append-nil, flat_map}
use Rattle.std.proofs.lemmas.Grind.{flat_map-append}
use Rattle.std.proofs.lemmas.List.{take-append-drop, take_more}
use Rattle.std.proofs.Math.Seq.{take-add}
use Rattle.std.specs.Io.KnownBytes.{Appends}
use Rattle.cc_lists.proofs.KnownBytes.{Appends-trans}
use Rattle.cc_model.specs.Telling.{AppendsFront}

module _ {X : Type 0} (text : X → List ℕ) (xs : List X) (i : ℕ) (d : X) (within : i < length xs) where
  -- the texts of the first ones and of the next
  texts-more : flat_map text (take (i + 1) xs) ≡ flat_map text (take i xs) ++ text (get_or xs i d)
  texts-more =
      ap (flat_map text) (take_more xs i d within)
      ∙ (flat_map-append text (take i xs) (get_or xs i d ∷ []) ∙ ap (λ l. flat_map text (take i xs) ++ l) (append-nil (text (get_or xs i d))))

  -- these, and the texts of the rest
  texts-all : flat_map text xs ≡ flat_map text (take i xs) ++ (text (get_or xs i d) ++ flat_map text (drop (i + 1) xs))
  texts-all =
      ap (flat_map text) (sym (take-append-drop (i + 1) xs))
      ∙ (flat_map-append text (take (i + 1) xs) (drop (i + 1) xs)
      ∙ (ap (λ l. l ++ flat_map text (drop (i + 1) xs)) texts-more
      ∙ append_assoc (flat_map text (take i xs)) (text (get_or xs i d)) (flat_map text (drop (i + 1) xs))))

  -- ONE MORE WAS WRITTEN
  pub written-more : (a b c : Option (List ℕ)) → Appends a b (flat_map text (take i xs)) → Appends b c (text (get_or xs i d)) →
      Appends a c (flat_map text (take (i + 1) xs))
  written-more a b c p q = subst (Appends a c) (sym texts-more) (Appends-trans a b c (flat_map text (take i xs)) (text (get_or xs i d)) p q)

  -- A FRONT OF ONE MORE WAS WRITTEN
  pub written-part : (a b c : Option (List ℕ)) → Appends a b (flat_map text (take i xs)) → AppendsFront b c (text (get_or xs i d)) →
      AppendsFront a c (flat_map text xs)
  written-part a b c p q = record {
    front = flat_map text (take i xs) ++ q.front;
    rest = q.rest ++ flat_map text (drop (i + 1) xs);
    whole = texts-all
        ∙ (ap (λ l. flat_map text (take i xs) ++ (l ++ flat_map text (drop (i + 1) xs))) q.whole
        ∙ (ap (λ l. flat_map text (take i xs) ++ l) (append_assoc q.front q.rest (flat_map text (drop (i + 1) xs)))
        ∙ sym (append_assoc (flat_map text (take i xs)) q.front (q.rest ++ flat_map text (drop (i + 1) xs)))));
    grown = Appends-trans a b c (flat_map text (take i xs)) q.front p q.grown;
  }

-- ONE MORE PIECE OF A SLICE WAS WRITTEN
pub Appends-more : (a b c : Option (List ℕ)) (bytes : List ℕ) (n m : ℕ) → Appends a b (take n bytes) → Appends b c (take m (drop n bytes)) → Appends a c (take (n + m) bytes)
Appends-more a b c bytes n m p q = rw take-add (Appends-trans a b c (take n bytes) (take m (drop n bytes)) p q)
