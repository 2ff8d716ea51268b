-- OBJECTS STARTED from where a mark begins, over roots or over all entries once: what goes on from there comes to what the mark
-- comes to.
use Rattle.std.specs.Prelude.{IsTrue}
use Rattle.std.proofs.Common.{◌≡◌, ℕ, ◌≤◌, ◌==◌, List, [], ◌++◌, Some, option_map, refl, sym, ◌∙◌, ap, subst, ⊎_elim, arith}
use Rattle.std.proofs.lemmas.Bool.{and_from, cases_Bool, true≢false, or_cases, or_right}
use Rattle.std.proofs.lemmas.Bool.Decides.{same_from_decides}
use Rattle.cc_lists.specs.Members.{Among, has}
use Rattle.cc_lists.proofs.ListWrites.{map-agree}
use Rattle.cc_lists.proofs.Members.{Among-append, Among-left, Among-map_cases, Among-right}
use Rattle.cc_names.specs.declared.kind.Colour.{Colour}
use Rattle.cc_script.specs.Objects.{Object, HaveOwnKeys, is_there, object_at, raised_among}
use Rattle.cc_script.specs.Marking.{Marking}
use Rattle.cc_script.specs.Underway.{Underway, marks_of}
use Rattle.cc_script.specs.Walking.{edges}
use Rattle.cc_script.proofs.Colours.{not_below-self}
use Rattle.cc_script.proofs.Keys.{object_at-map}
use Rattle.cc_script.proofs.Walks.{risen, risen-key}
use Rattle.cc_script.proofs.Wholeness.{there-raised}
use Rattle.cc_weakmaps.specs.Entries.{KeyedEntry}
use Rattle.cc_marking.specs.Carrying.{IsCarriedSoFar, carried_on, is_looked_into}
use Rattle.cc_marking.specs.Joints.{Joint, joints}
use Rattle.cc_marking.specs.Levels.{AreFollowed, AreOrdered, has_at_least, keys_at_least}
use Rattle.cc_marking.specs.Looking.{sides_left, with_all_started, with_joints}
use Rattle.cc_marking.specs.Marking.{AreEntriesThere, IsMarkedFrom, keys_marked}
use Rattle.cc_marking.proofs.Joints.{joint-there}
use Rattle.cc_marking.proofs.Levels.{at_least-listed, at_least-risen, listed-at_least, member-there}
use Rattle.cc_marking.proofs.Looked.{sides-less}
use Rattle.cc_marking.proofs.Marks.{marked-again, marked-alike, marked-decided, marked-root, marked-value}
use Rattle.cc_marking.proofs.Raising.{edges-raised, raised-twice}
use Rattle.cc_marking.proofs.Started.{AllHave, IsFurther, further-joints, further-more, further-roots, has-append, joints-here, roots-here}
use Rattle.cc_marking.proofs.There.{AreEntriesThere-stay, AreThere}

-- raised objects have their own keys
pub HaveOwnKeys-raised : (keys : List ℕ) (to : Colour) (objects : List Object) → HaveOwnKeys objects → HaveOwnKeys (raised_among keys to objects)
HaveOwnKeys-raised keys to objects own p m =
    let f = Among-map_cases (risen keys to) objects p m in
    subst (λ (q : Object). object_at (raised_among keys to objects) q.key ≡ Some q) f.2
    (ap (object_at (raised_among keys to objects)) (risen-key keys to f.0)
    ∙ (object_at-map (risen keys to) (risen-key keys to) objects f.0.key ∙ ap (option_map (risen keys to)) (own f.0 f.1)))

module _ (to : Colour) (entries : List KeyedEntry) (old : List Object) where
  -- none of them waits
  abbrev pub at_first : Underway
  at_first = record { objects = old; waiting = []; to = to }

  abbrev pub first : Marking
  first = marks_of at_first

  -- THE BEGIN of a mark from these keys: they have the colour, with what the mark comes to alone; and what had it has given it on
  -- over entries
  pub record IsBegunFrom (from : List ℕ) (m : Marking) : Type 0 where
    pub further : IsFurther to (IsMarkedFrom old entries from) first m
    pub had : AllHave to (IsMarkedFrom old entries from) first
    pub rooted : (key : ℕ) → Among key from → IsTrue (has_at_least to m.objects key)
    pub followed : (j : Joint) → Among j (joints entries) → IsTrue (has_at_least to old j.the_map) → IsTrue (has_at_least to old j.key) →
        IsTrue (has_at_least to m.objects j.value)

  -- none waits, so all that have the colour were looked into
  all_looked : (key : ℕ) → is_looked_into to first key ≡ has_at_least to old key
  all_looked key = grind arith

  module _ (from : List ℕ) (m : Marking) (b : IsBegunFrom from m) where
    more : (key : ℕ) → IsTrue (has_at_least to old key) → IsTrue (has_at_least to m.objects key)
    more key h = further-more to (IsMarkedFrom old entries from) first m b.further key h

    now_looked : (key : ℕ) → is_looked_into to m key ≡ has_at_least to old key
    now_looked key = b.further.looked key ∙ all_looked key

    same_edges : edges m.objects ≡ edges old
    same_edges = ap edges b.further.raised ∙ edges-raised b.further.keys to old

    own-still : HaveOwnKeys old → HaveOwnKeys m.objects
    own-still own = subst HaveOwnKeys (sym b.further.raised) (HaveOwnKeys-raised b.further.keys to old own)

    there-still : AreEntriesThere old entries → AreEntriesThere m.objects entries
    there-still there =
        AreEntriesThere-stay old m.objects (λ key h. ap (λ os. is_there os key) b.further.raised ∙ (there-raised b.further.keys to old key ∙ h)) entries there

    -- what does not wait gave its colour on
    pub begun-so_far : AreOrdered to old → HaveOwnKeys old → AreEntriesThere old entries → IsCarriedSoFar to entries m
    begun-so_far ordered own there = record {
      tidy = b.further.tidy (record { risen = λ key n. absurd n; once = λ key. omega arith });
      there = there-still there;
      own = own-still own;
      closed = λ x y edge h. more y (ordered.closed x y (subst (Among (x, y)) same_edges edge) (sym (now_looked x) ∙ h));
      followed = λ j a the_map key. b.followed j a (sym (now_looked j.the_map) ∙ the_map) (sym (now_looked j.key) ∙ key);
    }

    -- no more sides are left than before
    pub begun-sides : sides_left (is_looked_into to m) entries ≤ sides_left (has_at_least to old) entries
    begun-sides = sides-less (has_at_least to old) (is_looked_into to m) entries (λ key h. now_looked key ∙ h)

    -- FROM THEN ON it comes to what the mark comes to
    abbrev marks : List ℕ
    marks = keys_marked old entries from

    abbrev later : List ℕ
    later = keys_marked m.objects entries (keys_at_least to m.objects)

    have : (key : ℕ) → IsTrue (has_at_least to m.objects key) → IsMarkedFrom old entries from key
    have = b.further.have b.had

    later-marked : (key : ℕ) → IsTrue (has ◌==◌ later key) → IsMarkedFrom old entries from key
    later-marked key h = marked-again old entries (keys_at_least to m.objects) from (λ x n. have x (listed-at_least to m.objects x n)) key
        (marked-alike old m.objects entries (keys_at_least to m.objects) same_edges key ((marked-decided m.objects entries (keys_at_least to m.objects) key).0 h))

    marked-later : (key : ℕ) → IsMarkedFrom old entries from key → IsTrue (has ◌==◌ later key)
    marked-later key d = (marked-decided m.objects entries (keys_at_least to m.objects) key).1
        (marked-again m.objects entries from (keys_at_least to m.objects)
        (λ x n. marked-root m.objects entries (keys_at_least to m.objects) x (at_least-listed to m.objects x (b.rooted x n))) key
        (marked-alike m.objects old entries from (sym same_edges) key d))

    raised-marked : (key : ℕ) → IsTrue (is_there old key) → IsTrue (has ◌==◌ b.further.keys key) → IsMarkedFrom old entries from key
    raised-marked key there h = have key (ap (λ os. has_at_least to os key) b.further.raised ∙ at_least-risen b.further.keys to to (not_below-self to) old key there h)

    either : (key : ℕ) → IsTrue (is_there old key) → has ◌==◌ (b.further.keys ++ later) key ≡ has ◌==◌ marks key
    either key there =
        let decided = marked-decided old entries from key in
        has-append b.further.keys later key
        ∙ same_from_decides {P = IsMarkedFrom old entries from key} _ _ (
          λ e. ⊎_elim (raised-marked key there) (later-marked key) (or_cases (has ◌==◌ b.further.keys key) (has ◌==◌ later key) e),
          λ d. or_right (has ◌==◌ b.further.keys key) (has ◌==◌ later key) (marked-later key d),
        )
        (decided.0, decided.1)

    each : (o : Object) → Among o old → risen (b.further.keys ++ later) to o ≡ risen marks to o
    each o a = rw (either o.key (member-there old o a)) refl

    pub begun-carried : carried_on to entries m.objects ≡ raised_among marks to old
    begun-carried =
        ap (raised_among later to) b.further.raised
        ∙ (raised-twice b.further.keys later (b.further.keys ++ later) to old (has-append b.further.keys later)
        ∙ map-agree (risen (b.further.keys ++ later) to) (risen marks to) old each)

  -- a joint of which the first two have the colour has given it to the third, where none is due
  followed-value : AreFollowed to old entries → (j : Joint) → Among j (joints entries) →
      IsTrue (has_at_least to old j.the_map) → IsTrue (has_at_least to old j.key) → IsTrue (has_at_least to old j.value)
  followed-value followed j m the_map key = grind (arith, and_from, true≢false, cases_Bool)

  -- OVER ROOTS, where no entry is due
  pub roots-begin : (roots : List ℕ) → AreFollowed to old entries → AreThere roots old → (u v : Underway) → u ≡ at_first →
      marks_of v ≡ with_all_started u.to roots (marks_of u) → IsBegunFrom (keys_at_least to old ++ roots) (marks_of v)
  roots-begin roots followed live u v was e = subst (IsBegunFrom from) (sym (e ∙ ap (λ (w : Underway). with_all_started w.to roots (marks_of w)) was)) (record {
    further = further;
    had = had;
    rooted = λ key n. ⊎_elim (λ l. kept key (listed-at_least to old key l)) (λ r. roots-here to roots first live key r) (Among-append key (keys_at_least to old) roots n);
    followed = λ j a the_map key. kept j.value (followed-value followed j a the_map key);
  })
    where
      from : List ℕ
      from = keys_at_least to old ++ roots

      further : IsFurther to (IsMarkedFrom old entries from) first (with_all_started to roots first)
      further = further-roots to (IsMarkedFrom old entries from) roots first (λ key n. marked-root old entries from key (Among-right key (keys_at_least to old) roots n))

      had : AllHave to (IsMarkedFrom old entries from) first
      had key h = marked-root old entries from key (Among-left key (keys_at_least to old) roots (at_least-listed to old key h))

      kept : (key : ℕ) → IsTrue (has_at_least to old key) → IsTrue (has_at_least to (with_all_started to roots first).objects key)
      kept key h = further-more to (IsMarkedFrom old entries from) first (with_all_started to roots first) further key h

  -- OVER ALL ENTRIES ONCE
  pub entries-begin : AreEntriesThere old entries → (u v : Underway) → u ≡ at_first →
      marks_of v ≡ with_joints to (joints entries) (marks_of u) → IsBegunFrom (keys_at_least to old) (marks_of v)
  entries-begin there u v was e = subst (IsBegunFrom from) (sym (e ∙ ap (λ (w : Underway). with_joints to (joints entries) (marks_of w)) was)) (record {
    further = further;
    had = had;
    rooted = λ key n. kept key (listed-at_least to old key n);
    followed = λ j a the_map key. joints-here to (joints entries) first j a (joint-there old entries there j a) (all_looked j.the_map ∙ the_map) (all_looked j.key ∙ key);
  })
    where
      from : List ℕ
      from = keys_at_least to old

      had : AllHave to (IsMarkedFrom old entries from) first
      had key h = marked-root old entries from key (at_least-listed to old key h)

      further : IsFurther to (IsMarkedFrom old entries from) first (with_joints to (joints entries) first)
      further = further-joints to (IsMarkedFrom old entries from) entries (λ j a. marked-value old entries from j a) (joints entries) first (λ j a. a) had

      kept : (key : ℕ) → IsTrue (has_at_least to old key) → IsTrue (has_at_least to (with_joints to (joints entries) first).objects key)
      kept key h = further-more to (IsMarkedFrom old entries from) first (with_joints to (joints entries) first) further key h
