-- MARKS CARRIED ON: objects of which none holds a lower one hold none after it either, and the two steps of it, to black and to gray,
-- leave the colours of a mark from what had them.
use Rattle.std.specs.Prelude.{IsTrue}
use Rattle.std.proofs.Common.{◌≡◌, ℕ, ◌==◌, Bool, true, false, cond, not, List, ◌++◌, Option, Some, option_map, if◌then◌else◌, refl, sym, ◌∙◌, ap, subst, ⊎_elim, arith}
use Rattle.std.proofs.lemmas.Bool.{cases_Bool, not-true, true≢false, false≢true}
use Rattle.std.proofs.lemmas.Bool.Decides.{same_from_decides}
use Rattle.cc_lists.specs.Members.{Among, has}
use Rattle.cc_lists.proofs.ListWrites.{map-agree}
use Rattle.cc_lists.proofs.Members.{Among-append, Among-left, Among-map_cases, Among-right, has-among, has-there}
use Rattle.cc_lists.proofs.Numbers.{number-exact}
use Rattle.cc_names.specs.declared.kind.Colour.{Colour}
use Rattle.cc_names.specs.declared.kind.Colour.TheVariants.{White, Gray, Black}
use Rattle.cc_script.specs.ColourOrder.{HasColourOrder}
use Rattle.cc_script.specs.Objects.{Object, AreWhole, HaveOwnKeys, colour_at, colour_by, is_below, is_there, object_at, places_of, raised, raised_among, with_colour}
use Rattle.cc_script.specs.Walking.{edges}
use Rattle.cc_script.proofs.Colours.{not_below-cases, not_below-trans, raised-below, raised-enough, raised-keeps, raised-same}
use Rattle.cc_script.proofs.Keys.{object_at-key, object_at-map}
use Rattle.cc_script.proofs.Reaching.{edge-slot, slot-edge}
use Rattle.cc_script.proofs.Walks.{risen, risen-key, risen-places}
use Rattle.cc_script.proofs.Wholeness.{there-object, whole-raised}
use Rattle.cc_weakmaps.specs.Entries.{KeyedEntry}
use Rattle.cc_marking.specs.Carrying.{carried_on, marked_on}
use Rattle.cc_marking.specs.Levels.{AreOrdered, has_at_least, is_at_least, keys_at_least}
use Rattle.cc_marking.specs.Marking.{AreEntriesThere, IsMarkedFrom, black_keys, keys_marked, marked_from, marked_keys}
use Rattle.cc_marking.proofs.Levels.{at_least-cases, at_least-there, at_least-kept, at_least-listed, at_least-risen, listed-at_least}
use Rattle.cc_marking.proofs.Marks.{marked-again, marked-alike, marked-decided, marked-leads, marked-root, marked-there}
use Rattle.cc_marking.proofs.Painting.{painted, painted-twice}
use Rattle.cc_marking.proofs.Raising.{at_least, edges-raised, raised_to, raised_among-painted}
use Rattle.cc_marking.proofs.Steps.{colour_by_tests}
use Rattle.cc_marking.proofs.There.{AreThere, AreEntriesThere-stay, StayThere-raised}

-- A COLOUR ORDER: what has at least a colour leads to such alone

module _ (to : Colour) (objects : List Object) (whole : AreWhole objects) (own : HaveOwnKeys objects) (order : HasColourOrder objects) where
  -- the colour of an object is that at its key
  own-colour : (o : Object) → Among o objects → colour_at objects o.key ≡ Some o.colour
  own-colour o m = ap (option_map (λ (z : Object). z.colour)) (own o m)

  -- what is there has at least white
  there-white : (q : ℕ) → IsTrue (is_there objects q) → to ≡ White → IsTrue (has_at_least to objects q)
  there-white q there white = let f = there-object objects q there in grind (arith)

  -- what one of a colour holds has that colour at least
  held-at_least : (o : Object) (q : ℕ) → Among o objects → Among (Some q) (places_of o) → is_below o.colour to ≡ false → IsTrue (has_at_least to objects q)
  held-at_least o q m s enough = ⊎_elim
      (λ white. there-white q (whole o q m s) white)
      (λ above.
      let d = order.held o q m above s in
      ap (λ (z : Option Object). is_at_least to (option_map (λ (y : Object). y.colour) z)) d.1 ∙ ap not (not_below-trans d.0.colour o.colour to d.2 enough))
      (not_below-cases o.colour to enough)

  has-colour : (o : Object) → Among o objects → IsTrue (has_at_least to objects o.key) → is_below o.colour to ≡ false
  has-colour o m h = not-true (is_below o.colour to) (sym (ap (is_at_least to) (own-colour o m)) ∙ h)

  pub AreOrdered-coloured : AreOrdered to objects
  AreOrdered-coloured = record {
    whole = whole;
    closed = λ x y edge h.
        let k = edge-slot objects x y edge in
        held-at_least k.0 y k.1 k.3 (has-colour k.0 k.1 (subst (λ z. IsTrue (has_at_least to objects z)) (sym k.2) h));
    alike = own-colour;
  }

-- Raised objects have such an order, where the keys lead to such keys alone
module _ (keys : List ℕ) (to : Colour) (objects : List Object) (whole : AreWhole objects) (order : HasColourOrder objects)
    (leads : (x y : ℕ) → Among (x, y) (edges objects) → IsTrue (has ◌==◌ keys x) → IsTrue (has ◌==◌ keys y)) where
  -- an object of a colour, at a key
  abbrev IsHeldBy : Colour → ℕ → Type 0
  IsHeldBy colour q = (d : Object) × (object_at (raised_among keys to objects) q ≡ Some d) × (is_below d.colour colour ≡ false)

  found-risen : (q : ℕ) (d : Object) → object_at objects q ≡ Some d → object_at (raised_among keys to objects) q ≡ Some (risen keys to d)
  found-risen q d f = object_at-map (risen keys to) (risen-key keys to) objects q ∙ ap (option_map (risen keys to)) f

  -- what was not lower than the holder is not after it,
  held-kept : (o : Object) (q : ℕ) → Among o objects → is_below White o.colour ≡ true → Among (Some q) (places_of o) → IsHeldBy o.colour q
  held-kept o q m above s =
      let d = order.held o q m above s in
      (risen keys to d.0, found-risen q d.0 d.1, risen-keeps d.0 o.colour d.2)
    where
      risen-keeps : (d : Object) (c : Colour) → is_below d.colour c ≡ false → is_below (risen keys to d).colour c ≡ false
      risen-keeps d c e = ⊎_elim
          (λ t. ap (λ (b : Bool). is_below (if b then raised to d else d).colour c) t ∙ raised-keeps to d c e)
          (λ f. ap (λ (b : Bool). is_below (if b then raised to d else d).colour c) f ∙ e)
          (cases_Bool (has ◌==◌ keys d.key))

  -- and what a raised one holds was raised
  held-risen : (o : Object) (q : ℕ) → Among o objects → Among (Some q) (places_of o) → IsTrue (has ◌==◌ keys o.key) → IsHeldBy to q
  held-risen o q m s among =
      let d = there-object objects q (whole o q m s) in
      let too : IsTrue (has ◌==◌ keys d.0.key) = subst (λ z. IsTrue (has ◌==◌ keys z)) (sym (object_at-key objects q d.0 d.1)) (leads o.key q (slot-edge objects o q m s) among) in
      (risen keys to d.0, found-risen q d.0 d.1, ap (λ (b : Bool). is_below (if b then raised to d.0 else d.0).colour to) too ∙ raised-enough to d.0)

  held : (o : Object) (q : ℕ) → Among o objects → is_below White (risen keys to o).colour ≡ true → Among (Some q) (places_of o) → IsHeldBy (risen keys to o).colour q
  held o q m above s = go (has ◌==◌ keys o.key) refl (is_below o.colour to) refl
    where
      stays : risen keys to o ≡ o → IsHeldBy (risen keys to o).colour q
      stays same = subst (λ (z : Object). IsHeldBy z.colour q) (sym same) (held-kept o q m (ap (λ (z : Object). is_below White z.colour) (sym same) ∙ above) s)

      go : (b : Bool) → has ◌==◌ keys o.key ≡ b → (c : Bool) → is_below o.colour to ≡ c → IsHeldBy (risen keys to o).colour q
      go false among c lower = stays (ap (λ (b : Bool). if b then raised to o else o) among)
      go true among false lower = stays (ap (λ (b : Bool). if b then raised to o else o) among ∙ raised-same to o lower)
      go true among true lower =
          subst (λ (z : Object). IsHeldBy z.colour q) (sym (ap (λ (b : Bool). if b then raised to o else o) among ∙ raised-below to o lower)) (held-risen o q m s among)

  pub HasColourOrder-raised : HasColourOrder (raised_among keys to objects)
  HasColourOrder-raised = record {
    held = λ p q n above s.
        let k = Among-map_cases (risen keys to) objects p n in
        subst (λ (z : Object). IsHeldBy z.colour q) k.2
        (held k.0 q k.1 (ap (λ (z : Object). is_below White z.colour) k.2 ∙ above)
        (subst (λ places. Among (Some q) places) (ap places_of (sym k.2) ∙ risen-places keys to k.0) s));
  }

-- THE TWO STEPS

-- the colour that they leave of another, by whether it becomes black and whether it becomes gray then
abbrev in_steps : Bool → Bool → Colour → Colour
in_steps black gray c = cond gray (at_least Gray (cond black (at_least Black c) c)) (cond black (at_least Black c) c)

steps-colour : (black gray : Bool) (c : Colour) → (c ≡ Black → black ≡ true) → (is_below c Gray ≡ false → gray ≡ true) → in_steps black gray c ≡ colour_by_tests black gray
steps-colour black gray c blacks_in grays_in = grind (arith, true≢false, false≢true)

module _ (entries : List KeyedEntry) (old : List Object) (whole : AreWhole old) (there : AreEntriesThere old entries) where
  -- the keys that have a colour at least, and what becomes black
  abbrev blacks : List ℕ
  blacks = keys_at_least Black old

  abbrev grays : List ℕ
  grays = keys_at_least Gray old

  abbrev black : List ℕ
  black = black_keys old entries blacks

  abbrev now : List Object
  now = carried_on Black entries old

  pub blacked-whole : AreWhole now
  blacked-whole = whole-raised black Black old whole

  pub blacked-entries : AreEntriesThere now entries
  blacked-entries = AreEntriesThere-stay old now (StayThere-raised black Black old now refl) entries there

  pub blacked-order : HasColourOrder old → HasColourOrder now
  blacked-order order = HasColourOrder-raised black Black old whole order (λ x y edge h. marked-leads old blacks x y edge entries h)

  -- what has a colour is there
  roots-there : (to : Colour) → AreThere (keys_at_least to old) old
  roots-there to key m = at_least-there to old key (listed-at_least to old key m)

  -- THE GRAY ONES: a mark from what has a mark then comes to what one from the black ones and from those that had one comes to
  abbrev gray : List ℕ
  gray = keys_marked now entries (keys_at_least Gray now)

  abbrev marked : List ℕ
  marked = marked_keys old entries blacks grays

  black-there : (key : ℕ) → Among key black → IsTrue (is_there old key)
  black-there key m = marked-there old entries whole there blacks (roots-there Black) key
      ((marked-decided old entries blacks key).0 (has-there ◌==◌ number-exact black key m))

  gray_before : (key : ℕ) → Among key (keys_at_least Gray now) → Among key (black ++ grays)
  gray_before key m = ⊎_elim
      (λ had. Among-right key black grays (at_least-listed Gray old key had))
      (λ risen. Among-left key black grays (has-among ◌==◌ number-exact black key risen))
      (at_least-cases black Black Gray refl old key (listed-at_least Gray now key m))

  before_gray : (key : ℕ) → Among key (black ++ grays) → Among key (keys_at_least Gray now)
  before_gray key m = at_least-listed Gray now key (⊎_elim
      (λ l. at_least-risen black Black Gray refl old key (black-there key l) (has-there ◌==◌ number-exact black key l))
      (λ r. at_least-kept black Black Gray refl old key (listed-at_least Gray old key r))
      (Among-append key black grays m))

  same_edges : edges now ≡ edges old
  same_edges = edges-raised black Black old

  same_marks : (key : ℕ) → has ◌==◌ gray key ≡ has ◌==◌ marked key
  same_marks key =
      let all = black ++ grays in
      let later = keys_at_least Gray now in
      let decided = marked-decided old entries all key in
      let decided_now = marked-decided now entries later key in
      same_from_decides {P = IsMarkedFrom old entries all key} _ _ (
        λ h. marked-again old entries later all (λ x n. marked-root old entries all x (gray_before x n)) key (marked-alike old now entries later same_edges key (decided_now.0 h)),
        λ d. decided_now.1 (marked-again now entries all later (λ x n. marked-root now entries later x (before_gray x n)) key (marked-alike now old entries all (sym same_edges) key d)),
      )
      (decided.0, decided.1)

  -- THE COLOURS
  module _ (own : HaveOwnKeys old) where
    -- an object that has a colour is among the roots
    own-listed : (to : Colour) (o : Object) → Among o old → is_below o.colour to ≡ false → Among o.key (keys_at_least to old)
    own-listed to o m enough = at_least-listed to old o.key (ap (λ (z : Option Object). is_at_least to (option_map (λ (y : Object). y.colour) z)) (own o m) ∙ ap not enough)

    root-has : (keys : List ℕ) (key : ℕ) → Among key keys → IsTrue (has ◌==◌ (keys_marked old entries keys) key)
    root-has keys key m = (marked-decided old entries keys key).1 (marked-root old entries keys key m)

    -- what had black is black, and what had gray is marked
    black-has : (o : Object) → Among o old → o.colour ≡ Black → has ◌==◌ black o.key ≡ true
    black-has o m is = root-has blacks o.key (own-listed Black o m (ap (λ c. is_below c Black) is))

    gray-has : (o : Object) → Among o old → is_below o.colour Gray ≡ false → has ◌==◌ marked o.key ≡ true
    gray-has o m enough = root-has (black ++ grays) o.key (Among-right o.key black grays (own-listed Gray o m enough))

    each : (o : Object) → Among o old → in_steps (has ◌==◌ black o.key) (has ◌==◌ gray o.key) o.colour ≡ colour_by black marked o.key
    each o m =
        ap (λ g. in_steps (has ◌==◌ black o.key) g o.colour) (same_marks o.key)
        ∙ steps-colour (has ◌==◌ black o.key) (has ◌==◌ marked o.key) o.colour (black-has o m) (gray-has o m)

    marked_on-colours : marked_on entries old ≡ marked_from blacks grays entries old
    marked_on-colours =
        ap (raised_among gray Gray) (raised_among-painted black Black old)
        ∙ (raised_among-painted gray Gray (painted (raised_to black Black) old)
        ∙ (painted-twice (raised_to black Black) (raised_to gray Gray) old
        ∙ map-agree _ _ old (λ o m. ap (λ c. with_colour c o) (each o m))))

    -- THE COLOURS of both steps
    pub colours-by_steps : (next end : List Object) → next ≡ now → end ≡ carried_on Gray entries next → end ≡ marked_from blacks grays entries old
    colours-by_steps next end blacked grayed = grayed ∙ (ap (carried_on Gray entries) blacked ∙ marked_on-colours)
