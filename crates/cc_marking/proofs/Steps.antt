-- A MARKING IN STEPS: white objects to black, and then to gray.
use Rattle.std.specs.Prelude.{IsTrue}
use Rattle.std.proofs.Common.{◌≡◌, ℕ, ◌==◌, Bool, true, false, cond, ◌||◌, not, ◌&&◌, List, ◌++◌, refl, sym, ◌∙◌, ap, subst, arith, ⊎_elim}
use Rattle.std.proofs.lemmas.Bool.{and_parts, or_cases, or_right, false≢true}
use Rattle.std.proofs.lemmas.Bool.Decides.{same_from_decides}
use Rattle.cc_lists.specs.Members.{Among, has}
use Rattle.cc_lists.specs.Least.{system, closure}
use Rattle.cc_lists.proofs.ListWrites.{flat_map-kept}
use Rattle.cc_lists.proofs.Members.{Among-append, Among-left, Among-right, has-among, has-there}
use Rattle.cc_lists.proofs.Numbers.{number-exact}
use Rattle.cc_names.specs.declared.kind.Colour.{Colour}
use Rattle.cc_names.specs.declared.kind.Colour.TheVariants.{White, Gray, Black}
use Rattle.cc_script.specs.Objects.{Object, AreWhole, is_below, with_colour, whitened, raised_among, colour_by, coloured_by}
use Rattle.cc_script.specs.Staying.{StayThere}
use Rattle.cc_script.specs.Walking.{slot_edges, edges}
use Rattle.cc_weakmaps.specs.Entries.{KeyedEntry}
use Rattle.cc_marking.specs.Marking.{AreEntriesThere, IsMarkedFrom, keys_marked, black_keys, marked_keys, marked_from}
use Rattle.cc_marking.specs.Joints.{joints, rules_of}
use Rattle.cc_marking.specs.Levels.{AreFollowed, AreOrdered, has_at_least, is_due, keys_at_least}
use Rattle.cc_marking.proofs.There.{AreThere, StayThere-raised, StayThere-whitened}
use Rattle.cc_marking.proofs.Painting.{painted, painted-alike, painted-twice}
use Rattle.cc_marking.proofs.Raising.{at_least, edges-raised, raised_to, raised_among-painted}
use Rattle.cc_marking.proofs.Levels.{AreOrdered-raised, AreOrdered-whitened, at_least-cases, at_least-listed, at_least-risen, listed-at_least, white-none_listed, white-not_at_least}
use Rattle.cc_marking.proofs.Marks.{marked-again, marked-alike, marked-decided, marked-leads, marked-root, marked-there, marked-value}

-- objects that hold the same have the same lists of what is marked
keys_marked-alike : (old new : List Object) (entries : List KeyedEntry) (keys : List ℕ) → edges new ≡ edges old → keys_marked new entries keys ≡ keys_marked old entries keys
keys_marked-alike old new entries keys same = ap (λ es. closure ◌==◌ (system keys es (rules_of (joints entries)))) same

-- WHITE OBJECTS, what first roots then raise to black, and what second roots then raise to gray

-- the colour, by whether the key is black and whether it is marked
abbrev pub colour_by_tests : Bool → Bool → Colour
colour_by_tests black marked = elim black [ true ↦ Black | false ↦ elim marked [ true ↦ Gray | false ↦ White ] ]

-- white objects, what black roots raise to black, and what gray roots then raise to gray
colours-in_steps : (blacks grays marks : List ℕ) (objects : List Object) → ((key : ℕ) → has ◌==◌ marks key ≡ (has ◌==◌ blacks key || has ◌==◌ grays key)) →
    raised_among grays Gray (raised_among blacks Black (whitened objects)) ≡ coloured_by blacks marks objects
colours-in_steps blacks grays marks objects either =
    ap (raised_among grays Gray) (raised_among-painted blacks Black (whitened objects))
    ∙ (raised_among-painted grays Gray (painted (raised_to blacks Black) (whitened objects))
    ∙ (painted-twice (raised_to blacks Black) (raised_to grays Gray) (whitened objects)
    ∙ (painted-twice (λ o. White) (λ o. raised_to grays Gray (with_colour (raised_to blacks Black o) o)) objects
    ∙ painted-alike _ _ objects each)))
  where
    each : (o : Object) →
        cond (has ◌==◌ grays o.key) (at_least Gray (cond (has ◌==◌ blacks o.key) Black White)) (cond (has ◌==◌ blacks o.key) Black White)
        ≡ colour_by blacks marks o.key
    each o = go (has ◌==◌ blacks o.key) (has ◌==◌ grays o.key) ∙ sym (ap (colour_by_tests (has ◌==◌ blacks o.key)) (either o.key))
      where
        go : (a b : Bool) →
            cond b (at_least Gray (cond a Black White)) (cond a Black White)
            ≡ colour_by_tests a (a || b)
        go true true = refl
        go true false = refl
        go false true = refl
        go false false = refl

module _ (objects : List Object) (white : List Object) (cleared : white ≡ whitened objects) where
  edges-white : edges white ≡ edges objects
  edges-white = ap edges cleared ∙ flat_map-kept slot_edges (with_colour White) objects (λ o. refl)

  pub AreOrdered-white : (to : Colour) → is_below White to ≡ true → AreWhole objects → AreOrdered to white
  AreOrdered-white to above whole = subst (AreOrdered to) (sym cleared) (AreOrdered-whitened to above objects whole)

  -- none of them is due
  pub AreFollowed-white : (to : Colour) → is_below White to ≡ true → (entries : List KeyedEntry) → AreFollowed to white entries
  AreFollowed-white to above entries e m = grind (arith, white-not_at_least)

module _ (objects : List Object) (entries : List KeyedEntry) (blacks : List ℕ) (white now : List Object) (cleared : white ≡ whitened objects)
    (blackened : now ≡ raised_among (keys_marked white entries (keys_at_least Black white ++ blacks)) Black white) where
  -- THE BLACK ONES are those that a mark from the first roots comes to
  abbrev black : List ℕ
  black = black_keys objects entries blacks

  risen_black : now ≡ raised_among black Black white
  risen_black =
      blackened
      ∙ ap (λ keys. raised_among keys Black white)
      (ap (λ keys. keys_marked white entries (keys ++ blacks)) (ap (keys_at_least Black) cleared ∙ white-none_listed Black refl objects)
      ∙ keys_marked-alike objects white entries blacks (edges-white objects white cleared))

  pub StayThere-black : StayThere objects now
  StayThere-black key there = StayThere-raised black Black white now risen_black key (StayThere-whitened objects white cleared key there)

  pub AreOrdered-black : AreWhole objects → AreOrdered Gray now
  AreOrdered-black whole = subst (AreOrdered Gray) (sym risen_black)
      (AreOrdered-raised black Black Gray refl white
      (λ x y edge h. marked-leads objects blacks x y (subst (Among (x, y)) (edges-white objects white cleared) edge) entries h)
      (AreOrdered-white objects white cleared Gray refl whole))

  -- THE GRAY ONES. What has a mark before them is black;
  gray_before : (key : ℕ) → Among key (keys_at_least Gray now) → Among key black
  gray_before key m = grind (arith, false≢true, white-not_at_least, has-among, number-exact, at_least-cases, risen_black, listed-at_least)

  -- and what is black has a mark.
  before_gray : AreWhole objects → AreEntriesThere objects entries → AreThere blacks objects → (key : ℕ) → Among key black → Among key (keys_at_least Gray now)
  before_gray whole there live key m =
      let is_black : IsTrue (has ◌==◌ black key) = has-there ◌==◌ number-exact black key m in
      let here = marked-there objects entries whole there blacks live key ((marked-decided objects entries blacks key).0 is_black) in
      at_least-listed Gray now key (subst (λ os. IsTrue (has_at_least Gray os key)) (sym risen_black)
      (at_least-risen black Black Gray refl white key (StayThere-whitened objects white cleared key here) is_black))

  -- So no entry is due to gray,
  pub AreFollowed-black : AreWhole objects → AreEntriesThere objects entries → AreThere blacks objects → AreFollowed Gray now entries
  AreFollowed-black whole there live j m = go (has_at_least Gray now j.the_map && has_at_least Gray now j.key) refl
    where
      is_black : (key : ℕ) → IsTrue (has_at_least Gray now key) → IsMarkedFrom objects entries blacks key
      is_black key h = (marked-decided objects entries blacks key).0 (has-there ◌==◌ number-exact black key (gray_before key (at_least-listed Gray now key h)))

      none : (b c : Bool) → b ≡ true → (c && not b) ≡ false
      none true true e = refl
      none true false e = refl
      none false c e = absurd (false≢true e)

      go : (b : Bool) → (has_at_least Gray now j.the_map && has_at_least Gray now j.key) ≡ b → is_due Gray now j ≡ false
      go false f = ap (λ b. b && not (has_at_least Gray now j.value)) f
      go true f =
          let each = and_parts (has_at_least Gray now j.the_map) (has_at_least Gray now j.key) f in
          let value = marked-value objects entries blacks j m (is_black j.the_map each.0) (is_black j.key each.1) in
          let marked = has-among ◌==◌ number-exact black j.value ((marked-decided objects entries blacks j.value).1 value) in
          none (has_at_least Gray now j.value) (has_at_least Gray now j.the_map && has_at_least Gray now j.key) (listed-at_least Gray now j.value (before_gray whole there live j.value marked))

  module _ (grays : List ℕ) (whole : AreWhole objects) (there : AreEntriesThere objects entries) (live : AreThere blacks objects) where
    abbrev gray_from : List ℕ
    gray_from = keys_at_least Gray now ++ grays

    abbrev gray : List ℕ
    gray = keys_marked now entries gray_from

    edges-black : edges now ≡ edges objects
    edges-black = ap edges risen_black ∙ (edges-raised black Black white ∙ edges-white objects white cleared)

    -- all marked ones are black, or marked then
    marked-either : (key : ℕ) → has ◌==◌ (marked_keys objects entries blacks grays) key ≡ (has ◌==◌ black key || has ◌==◌ gray key)
    marked-either key =
        let decided = marked-decided objects entries (black ++ grays) key in
        let later = marked-decided now entries gray_from key in
        same_from_decides {P = IsMarkedFrom objects entries (black ++ grays) key} _ _
        (decided.0, decided.1) (
          λ e. ⊎_elim
              (λ l. marked-root objects entries (black ++ grays) key (Among-left key black grays (has-among ◌==◌ number-exact black key l)))
              (λ r. marked-again objects entries gray_from (black ++ grays) into key (marked-alike objects now entries gray_from edges-black key (later.0 r)))
              (or_cases (has ◌==◌ black key) (has ◌==◌ gray key) e),
          λ d. or_right (has ◌==◌ black key) (has ◌==◌ gray key)
              (later.1 (marked-alike now objects entries gray_from (sym edges-black) key (marked-again objects entries (black ++ grays) gray_from onto key d))),
        )
      where
        into : (x : ℕ) → Among x gray_from → IsMarkedFrom objects entries (black ++ grays) x
        into x m = marked-root objects entries (black ++ grays) x (⊎_elim
            (λ l. Among-left x black grays (gray_before x l))
            (λ r. Among-right x black grays r)
            (Among-append x (keys_at_least Gray now) grays m))

        onto : (x : ℕ) → Among x (black ++ grays) → IsMarkedFrom objects entries gray_from x
        onto x m = marked-root objects entries gray_from x (⊎_elim
            (λ l. Among-left x (keys_at_least Gray now) grays (before_gray whole there live x l))
            (λ r. Among-right x (keys_at_least Gray now) grays r)
            (Among-append x black grays m))

    -- THE MARKING
    pub marked-by_steps : (end : List Object) → end ≡ raised_among gray Gray now → end ≡ marked_from blacks grays entries objects
    marked-by_steps end grayed = grind (arith, risen_black, colours-in_steps, marked-either)

-- what is black is at least gray
pub black-gray : (objects : List Object) (key : ℕ) → IsTrue (has_at_least Black objects key) → IsTrue (has_at_least Gray objects key)
black-gray objects key = grind (arith, false≢true)
