-- WHAT AN EXPOSURE BLACKENS: a walk that goes on from what it raised alone comes to exactly the keys that the rules give. Meanwhile
-- the new marks stand in for the colours.
use Rattle.std.proofs.Common.{◌≡◌, ℕ, Bool, true, false, List, [], ◌∷◌, map, Option, Some, None, option_map, is_some, refl, sym, ◌∙◌, ap, subst, inl, ⊎_elim, ◌==◌, ◌&&◌, if◌then◌else◌, arith}
use Rattle.std.specs.List.{filter}
use Rattle.std.proofs.lemmas.Bool.{and_from, and_parts, true≢false}
use Rattle.std.proofs.lemmas.List.{map-id}
use Rattle.std.proofs.lemmas.Simd.{map-map}
use Rattle.cc_lists.specs.Members.{Among, has}
use Rattle.cc_lists.specs.Least.{Least}
use Rattle.cc_lists.proofs.Closure.{closure-decides}
use Rattle.cc_lists.proofs.Least.{derived-within, derive-along, derive-root}
use Rattle.cc_lists.proofs.ListWrites.{changed_where-either, map-agree}
use Rattle.cc_lists.proofs.Members.{Among-filter, Among-filtered, Among-map, Among-map_cases, Among-passes, has-among, has-there}
use Rattle.cc_lists.proofs.Numbers.{number-exact}
use Rattle.cc_names.specs.declared.kind.Colour.{Colour}
use Rattle.cc_names.specs.declared.kind.Colour.TheVariants.{Black}
use Rattle.cc_script.specs.Objects.{Object, AreWhole, is_below, is_there, object_at, places_of, raised, raised_among, with_colour, with_new_mark}
use Rattle.cc_script.specs.Walking.{edges}
use Rattle.cc_script.specs.ColourOrder.{HasColourOrder}
use Rattle.cc_script.specs.NewMarks.{exchanged, edges_unblack, exposure_rules_by_mark, is_unblack, keys_to_blacken, newly_blackened}
use Rattle.cc_script.specs.Marking.{Marking, is_lower}
use Rattle.cc_script.proofs.Keys.{object_at-map}
use Rattle.cc_script.proofs.Raising.{is_there-kept, lower-some}
use Rattle.cc_script.proofs.Reaching.{edge-slot, slot-edge}
use Rattle.cc_script.proofs.Walked.{HasColourOrder-mapped}
use Rattle.cc_script.proofs.Walks.{LeadsOn, IsMet, IsWalk, risen, risen-agree, walk-followed}
use Rattle.cc_script.proofs.Wholeness.{there-raised, whole-mapped}

-- tests that hold together are the same
same-tests : (a b : Bool) → (a ≡ true → b ≡ true) → (b ≡ true → a ≡ true) → a ≡ b
same-tests true b f g = sym (f refl)
same-tests false true f g = g refl
same-tests false false f g = refl

-- The walk, over colours

module _ (before : List Object) (root : ℕ) where
  abbrev marked : List Object
  marked = map exchanged before

  unblack-lower : (k : ℕ) → is_unblack marked k ≡ is_lower Black (object_at before k)
  unblack-lower k = ap (λ o. unblack (option_map (λ (z : Object). z.new_mark) o)) (object_at-map exchanged (λ o. refl) before k) ∙ go (object_at before k)
    where
      unblack : Option Colour → Bool
      unblack o = elim o [ None ↦ false | Some mark ↦ is_below mark Black ]

      go : (o : Option Object) → unblack (option_map (λ (z : Object). z.new_mark) (option_map exchanged o)) ≡ is_lower Black o
      go None = refl
      go (Some o) = refl

  abbrev roots : List ℕ
  roots = filter (is_unblack marked) (root ∷ [])

  abbrev along : List (ℕ × ℕ)
  along = edges_unblack marked

  -- what the rules give
  abbrev pub Blackens : ℕ → Type 0
  Blackens = Least (exposure_rules_by_mark (map exchanged before) root)

  -- each end of an edge is lower
  both : (x y : ℕ) → Among (x, y) along → (is_unblack marked x ≡ true) × (is_unblack marked y ≡ true)
  both x y m = and_parts (is_unblack marked x) (is_unblack marked y) (Among-passes (λ (e : ℕ × ℕ). is_unblack marked e.0 && is_unblack marked e.1) (x, y) (edges marked) m)

  blackens-unblack : (k : ℕ) → Blackens k → is_unblack marked k ≡ true
  blackens-unblack = derived-within roots along [] (λ k. is_unblack marked k ≡ true)
      (λ x m. Among-passes (is_unblack marked) x (root ∷ []) m) (λ x y m h. (both x y m).1) (λ ps v m. absurd m)

  blackens-lower : (k : ℕ) → Blackens k → is_lower Black (object_at before k) ≡ true
  blackens-lower k b = sym (unblack-lower k) ∙ blackens-unblack k b

  pub blackens-leads : LeadsOn before Black Blackens root
  blackens-leads = record {
    first = λ e. derive-root roots along [] root (Among-filter (is_unblack marked) root (root ∷ []) (inl refl) (unblack-lower root ∙ e));
    onward = λ o q m s r e. derive-along roots along [] o.key q
        (Among-filter (λ (p : ℕ × ℕ). is_unblack marked p.0 && is_unblack marked p.1) (o.key, q) (edges marked)
        (slot-edge marked (exchanged o) q (Among-map exchanged o before m) s)
        (and_from (is_unblack marked o.key) (is_unblack marked q) (blackens-unblack o.key r) (unblack-lower q ∙ e))) r;
  }

  -- what waits is there
  pub waiting-there : (m : Marking) → IsWalk before Black Blackens root m → (k : ℕ) → Among k m.waiting → is_there m.objects k ≡ true
  waiting-there m w k n =
      let lower = lower-some Black (object_at before k) (blackens-lower k (w.marking.allowed k (w.marking.waits k n))) in
      ap (λ os. is_there os k) w.marking.objects ∙ (there-raised w.marking.keys Black before k ∙ ap is_some lower.1)

  -- THE END: where nothing waits, all that the rules give was raised
  module _ (own : (o : Object) → Among o before → object_at before o.key ≡ Some o) (m : Marking) (w : IsWalk before Black Blackens root m) (emptied : m.waiting ≡ []) where
    abbrev keys : List ℕ
    keys = w.marking.keys

    met-lower : (q : ℕ) → is_unblack marked q ≡ true → IsMet before Black keys q → Among q keys
    met-lower q e met = ⊎_elim (λ t. t) (λ f. absurd (true≢false (sym e ∙ (unblack-lower q ∙ f)))) met

    step : (x y : ℕ) → Among (x, y) along → Among x keys → Among y keys
    step x y n there =
        let f = edge-slot marked x y (Among-filtered (λ (e : ℕ × ℕ). is_unblack marked e.0 && is_unblack marked e.1) (x, y) (edges marked) n) in
        let o = Among-map_cases exchanged before f.0 f.1 in
        met-lower y (both x y n).1
        (walk-followed before Black Blackens root own m w emptied o.0 y o.1
        (subst (λ (z : Object). Among (Some y) (places_of z)) (sym o.2) f.3)
        (subst (λ k. Among k keys) (sym f.2 ∙ ap (λ (z : Object). z.key) (sym o.2)) there))

    blackened : (k : ℕ) → Blackens k → Among k keys
    blackened = derived-within roots along [] (λ k. Among k keys)
        (λ x n. met-lower x (Among-passes (is_unblack marked) x (root ∷ []) n)
        (⊎_elim (λ e. subst (IsMet before Black keys) e w.begun) (λ b. absurd b) (Among-filtered (is_unblack marked) x (root ∷ []) n)))
        step (λ ps v n. absurd n)

    decides : (k : ℕ) → has ◌==◌ keys k ≡ has ◌==◌ (keys_to_blacken marked root) k
    decides k =
        let by_rules = closure-decides ◌==◌ number-exact (exposure_rules_by_mark marked root) k in
        same-tests (has ◌==◌ keys k) (has ◌==◌ (keys_to_blacken marked root) k)
        (λ e. by_rules.1 (w.marking.allowed k (has-among ◌==◌ number-exact keys k e)))
        (λ e. has-there ◌==◌ number-exact keys k (blackened k (by_rules.0 e)))

    pub blacken-end : m.objects ≡ raised_among (keys_to_blacken (map exchanged before) root) Black before
    blacken-end = w.marking.objects ∙ risen-agree keys (keys_to_blacken marked root) Black before (λ o n. decides o.key)

-- New marks and colours exchanged, and back

pub exchanged-twice : (objects : List Object) → map exchanged (map exchanged objects) ≡ objects
exchanged-twice objects = map-map exchanged exchanged objects ∙ map-id objects

pub there-exchanged : (objects : List Object) (k : ℕ) → is_there (map exchanged objects) k ≡ is_there objects k
there-exchanged objects k = is_there-kept exchanged (λ o. refl) objects k

pub whole-exchanged : (objects : List Object) → AreWhole objects → AreWhole (map exchanged objects)
whole-exchanged objects = whole-mapped exchanged (λ o. refl) (λ o. refl) objects

-- what isn't below black is black
not_below-black : (a : Colour) → is_below a Black ≡ false → a ≡ Black
not_below-black a e = grind (arith, true≢false)

pub blackened-exchanged : (keys : List ℕ) (objects : List Object) → map exchanged (raised_among keys Black (map exchanged objects)) ≡ newly_blackened keys objects
blackened-exchanged keys objects =
    ap (map exchanged) (map-map (risen keys Black) exchanged objects)
    ∙ (map-map exchanged (λ o. risen keys Black (exchanged o)) objects
    ∙ map-agree (λ o. exchanged (risen keys Black (exchanged o))) (λ o. if has ◌==◌ keys o.key then with_new_mark Black o else o) objects (λ o m. each o (has ◌==◌ keys o.key)))
  where
    black : (o : Object) (b : Bool) → is_below o.new_mark Black ≡ b → exchanged (elim b [ true ↦ with_colour Black (exchanged o) | false ↦ exchanged o ]) ≡ with_new_mark Black o
    black o true e = refl
    black o false e = ap (λ mark. with_new_mark mark o) (not_below-black o.new_mark e)

    each : (o : Object) (b : Bool) → exchanged (if b then raised Black (exchanged o) else exchanged o) ≡ (if b then with_new_mark Black o else o)
    each o true = black o (is_below o.new_mark Black) refl
    each o false = refl

-- colours stay
pub order-blackened : (keys : List ℕ) (objects : List Object) → HasColourOrder objects → HasColourOrder (newly_blackened keys objects)
order-blackened keys objects = HasColourOrder-mapped (λ o. if has ◌==◌ keys o.key then with_new_mark Black o else o)
    (λ o. changed_where-either (λ z. z.key ≡ o.key) (λ z. has ◌==◌ keys z.key) (with_new_mark Black) o (λ e. refl) refl)
    (λ o. changed_where-either (λ z. places_of z ≡ places_of o) (λ z. has ◌==◌ keys z.key) (with_new_mark Black) o (λ e. refl) refl)
    (λ o. changed_where-either (λ z. z.colour ≡ o.colour) (λ z. has ◌==◌ keys z.key) (with_new_mark Black) o (λ e. refl) refl) objects
