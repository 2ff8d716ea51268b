-- A SLAB AND A LIST BESIDE IT: what is read at a key, and what a write of either changes.
use Rattle.std.proofs.Common.{◌≡◌, ◌≢◌, ℕ, ◌<◌, zero, suc, List, [], ◌∷◌, length, count_by, drop, get_or, Option, Some, None, option_map, is_some, true, refl, sym, ◌∙◌, ap, arith}
use Rattle.std.proofs.Math.ListN.{set}
use Rattle.cc_lists.proofs.Counting.{count_by-cons}
use Rattle.slab.specs.Slab.{Slab, ContainsKey, Updates, get}
use Rattle.cc_script.specs.Paired.{paired, paired_slab, Reaches}

module _ {X Y Z : Type 0} (pair : Y → X → Z) (none : Y) where
  -- what stands in the list at the next key
  next-apart : (apart : List Y) (key : ℕ) → get_or (drop 1 apart) key none ≡ get_or apart (suc key) none
  next-apart apart key = grind arith

  -- what stands at a key
  pub paired-at : (slots : List (Option X)) (apart : List Y) (key : ℕ) → get_or (paired pair none slots apart) key None ≡ option_map (pair (get_or apart key none)) (get_or slots key None)
  paired-at [] apart key = refl
  paired-at (o ∷ slots) apart zero = refl
  paired-at (o ∷ slots) apart (suc key) = paired-at slots (drop 1 apart) key ∙ ap (λ y. option_map (pair y) (get_or slots key None)) (next-apart apart key)

  map-held : (y : Y) (o : Option X) → is_some (option_map (pair y) o) ≡ is_some o
  map-held y o = grind arith

  -- it stands there where something stands in the slab
  pub paired-held : (slots : List (Option X)) (apart : List Y) (key : ℕ) → is_some (get_or (paired pair none slots apart) key None) ≡ is_some (get_or slots key None)
  paired-held slots apart key = ap is_some (paired-at slots apart key) ∙ map-held (get_or apart key none) (get_or slots key None)

  -- so there are as many
  pub paired-counted : (slots : List (Option X)) (apart : List Y) → count_by is_some (paired pair none slots apart) ≡ count_by is_some slots
  paired-counted [] apart = refl
  paired-counted (o ∷ slots) apart = rw (
    count_by-cons is_some (option_map (pair (get_or apart 0 none)) o) (paired pair none slots (drop 1 apart)),
    count_by-cons is_some o slots,
    map-held (get_or apart 0 none) o,
    paired-counted slots (drop 1 apart),
  ) refl

  -- the slab written
  pub paired-set : (slots : List (Option X)) (apart : List Y) (key : ℕ) (o : Option X) →
      paired pair none (set slots key o) apart ≡ set (paired pair none slots apart) key (option_map (pair (get_or apart key none)) o)
  paired-set [] apart key o = refl
  paired-set (x ∷ slots) apart zero o = refl
  paired-set (x ∷ slots) apart (suc key) o =
      ap (λ rest. option_map (pair (get_or apart 0 none)) x ∷ rest)
      (paired-set slots (drop 1 apart) key o ∙ ap (λ y. set (paired pair none slots (drop 1 apart)) key (option_map (pair y) o)) (next-apart apart key))

  -- the list written
  pub paired-written : (slots : List (Option X)) (apart : List Y) (key : ℕ) (y : Y) (x : X) → key < length apart → get_or slots key None ≡ Some x →
      paired pair none slots (set apart key y) ≡ set (paired pair none slots apart) key (Some (pair y x))
  paired-written [] apart key y x l at = absurd (cc)
  paired-written (o ∷ slots) [] key y x l at = absurd (omega (arith, l))
  paired-written (o ∷ slots) (z ∷ apart) zero y x l at = ap (λ p. option_map (pair y) p ∷ paired pair none slots apart) at
  paired-written (o ∷ slots) (z ∷ apart) (suc key) y x l at = ap (λ rest. option_map (pair z) o ∷ rest) (paired-written slots apart key y x (omega (arith, l)) at)

  -- the list changed where nothing stands in the slab
  pub paired-same : (slots : List (Option X)) (apart other : List Y) → ((key : ℕ) → is_some (get_or slots key None) ≡ true → get_or other key none ≡ get_or apart key none) →
      paired pair none slots other ≡ paired pair none slots apart
  paired-same [] apart other same = refl
  paired-same (o ∷ slots) apart other same =
      ap (λ x. x ∷ paired pair none slots (drop 1 other)) (go o (λ h. same 0 h))
      ∙ ap (λ rest. option_map (pair (get_or apart 0 none)) o ∷ rest)
      (paired-same slots (drop 1 apart) (drop 1 other) (λ key h. next-apart other key ∙ (same (suc key) h ∙ sym (next-apart apart key))))
    where
      go : (o : Option X) → (is_some o ≡ true → get_or other 0 none ≡ get_or apart 0 none) → option_map (pair (get_or other 0 none)) o ≡ option_map (pair (get_or apart 0 none)) o
      go None e = refl
      go (Some x) e = ap (λ y. Some (pair y x)) (e refl)

  module _ (s : Slab X) (apart : List Y) (key : ℕ) where
    -- it stands at a key where something stands in the slab
    pub held-in : ContainsKey (paired_slab pair none s apart) key → ContainsKey s key
    held-in h = sym (paired-held s.slots apart key) ∙ h

    pub held-out : ContainsKey s key → ContainsKey (paired_slab pair none s apart) key
    held-out h = paired-held s.slots apart key ∙ h

    -- what is read there
    pub read-at : (x : X) → get s key ≡ Some x → get (paired_slab pair none s apart) key ≡ Some (pair (get_or apart key none) x)
    read-at x at = paired-at s.slots apart key ∙ ap (option_map (pair (get_or apart key none))) at

    pub vacant-at : get s key ≡ None → get (paired_slab pair none s apart) key ≡ None
    vacant-at at = paired-at s.slots apart key ∙ ap (option_map (pair (get_or apart key none))) at

    -- one made at the key
    pub updates-made : (mid : Slab X) (list : List Y) (x : X) (y : Y) → Reaches s apart → Updates s mid key (Some x) → get_or list key none ≡ y →
        ((k : ℕ) → k ≢ key → k < length apart → get_or list k none ≡ get_or apart k none) → Updates (paired_slab pair none s apart) (paired_slab pair none mid list) key (Some (pair y x))
    updates-made mid list x y reaches updates here others = grind (arith, paired-at, updates.changed, updates.others)

    -- the one there taken out
    pub updates-taken : (mid : Slab X) → Updates s mid key None → Updates (paired_slab pair none s apart) (paired_slab pair none mid apart) key None
    updates-taken mid updates = grind (arith, paired-at, updates.others)
