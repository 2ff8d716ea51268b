-- A MARKING IN ONE COLOUR, UNDER WAY: what was looked into leads to what has the colour, over slots and over entries, and
-- each look at an entry leaves one side of it less. Where none waits any more, all that a mark comes to was raised.
use Rattle.std.specs.Prelude.{IsTrue}
use Rattle.std.proofs.Common.{◌≡◌, ℕ, ◌+◌, ◌≤◌, ◌==◌, true, false, ◌||◌, List, [], ◌∷◌, ◌++◌, length, Some, option_map, refl, sym, ◌∙◌, ap, subst, inl, inr, ◌⊎◌, ⊎_elim, arith, count_by}
use Rattle.std.proofs.lemmas.Bool.{cases_Bool, or_cases, true≢false, eqb-true}
use Rattle.std.proofs.lemmas.List.{map-id}
use Rattle.std.proofs.lemmas.Option.{slice_get_within}
use Rattle.cc_lists.specs.Members.{Among, has}
use Rattle.cc_lists.proofs.ListWrites.{map-agree}
use Rattle.cc_lists.proofs.Places.{among-place}
use Rattle.cc_names.specs.declared.kind.Colour.{Colour}
use Rattle.cc_script.specs.Objects.{Object, AreWhole, HaveOwnKeys, colour_at, is_there, places_at, raised_among}
use Rattle.cc_script.specs.Marking.{Marking, raise_each}
use Rattle.cc_script.specs.Walking.{edges}
use Rattle.cc_script.proofs.Colours.{not_below-self, raised-same}
use Rattle.cc_script.proofs.Keys.{object_at-among, object_at-key}
use Rattle.cc_script.proofs.Raising.{places_at-kept}
use Rattle.cc_script.proofs.Reaching.{edge-slot, slot-edge}
use Rattle.cc_script.proofs.Walks.{risen, risen-key, risen-places}
use Rattle.cc_script.proofs.Wholeness.{there-raised}
use Rattle.cc_weakmaps.specs.Entries.{KeyedEntry}
use Rattle.cc_weakmaps.specs.Index.{has_object}
use Rattle.cc_marking.specs.Carrying.{IsCarriedSoFar, IsTidy, is_looked_into}
use Rattle.cc_marking.specs.Joints.{Joint, joints, joints_of}
use Rattle.cc_marking.specs.Levels.{has_at_least, keys_at_least}
use Rattle.cc_marking.specs.Looking.{sides_left, with_all_given}
use Rattle.cc_marking.specs.Marking.{AreEntriesThere, IsMarkedFrom, keys_marked}
use Rattle.cc_marking.proofs.Joints.{entry-joint, joint-entry, joint-gives, joint-has_key, joint-has_map, joint-there}
use Rattle.cc_marking.proofs.Levels.{at_least-cases, at_least-kept, at_least-listed, at_least-risen, listed-at_least, member-there}
use Rattle.cc_marking.proofs.Looked.{sides-fewer, sides-less}
use Rattle.cc_marking.proofs.Marks.{marked-along, marked-decided, marked-root, marked-value, marked-within}
use Rattle.cc_marking.proofs.Started.{IsFurther, AllHave, further-more, further-there, further-then, further-slots, slots-here, further-values, values-here, left-tidy, left-looked, front-waits, has-append}
use Rattle.cc_marking.proofs.Raising.{raised-twice}

module _ (to : Colour) (entries : List KeyedEntry) (old : List Object) where
  -- where a mark begins
  abbrev pub from_all : List ℕ
  from_all = keys_at_least to old

  abbrev pub IsFrom : ℕ → Type 0
  IsFrom = IsMarkedFrom old entries from_all

  -- SO FAR, with so many steps taken, of so many at most
  pub record IsUnderWay (most now : ℕ) (m : Marking) : Type 0 where
    pub keys : List ℕ
    pub raised : m.objects ≡ raised_among keys to old
    pub tidy : IsTidy to m
    pub have : AllHave to IsFrom m
    pub closed : (x y : ℕ) → Among (x, y) (edges old) → IsTrue (is_looked_into to m x) → IsTrue (has_at_least to m.objects y)
    pub followed : (j : Joint) → Among j (joints entries) → IsTrue (is_looked_into to m j.the_map) → IsTrue (is_looked_into to m j.key) → IsTrue (has_at_least to m.objects j.value)
    pub few : now + sides_left (is_looked_into to m) entries ≤ most

  -- THE BEGIN: what does not wait gave its colour on
  pub under_way-begins : (n : ℕ) (m : Marking) → m.objects ≡ old → IsCarriedSoFar to entries m → IsUnderWay (n + sides_left (is_looked_into to m) entries) n m
  under_way-begins n m same h = record {
    keys = [];
    raised = same ∙ sym (map-id old);
    tidy = h.tidy;
    have = λ key has. marked-root old entries from_all key (at_least-listed to old key (subst (λ os. IsTrue (has_at_least to os key)) same has));
    closed = λ x y edge looked. h.closed x y (subst (λ os. Among (x, y) (edges os)) (sym same) edge) looked;
    followed = h.followed;
    few = omega arith;
  }

  -- A TURN: the first of those that wait leaves, what its slots hold is started, and then the values of its entries
  module _ (whole : AreWhole old) (own : HaveOwnKeys old) (there : AreEntriesThere old entries) (most now : ℕ) (m : Marking) (u : IsUnderWay most now m)
      (key : ℕ) (rest : List ℕ) (front : m.waiting ≡ key ∷ rest) where
    abbrev gone : Marking
    gone = record { objects = m.objects; waiting = rest }

    abbrev slotted : Marking
    slotted = raise_each to (places_at m.objects key) gone

    abbrev valued : Marking
    valued = with_all_given to entries key (length entries) slotted

    there_still : (q : ℕ) → is_there m.objects q ≡ is_there old q
    there_still q = ap (λ os. is_there os q) u.raised ∙ there-raised u.keys to old q

    places_still : places_at m.objects key ≡ places_at old key
    places_still = ap (λ os. places_at os key) u.raised ∙ places_at-kept (risen u.keys to) (risen-key u.keys to) (risen-places u.keys to) old key

    -- what the slots hold, an edge leads to, and the other way round
    place-leads : (q : ℕ) → Among (Some q) (places_at m.objects key) → Among (key, q) (edges old)
    place-leads q n = grind (arith, places_still, object_at-key, slot-edge, object_at-among)

    edge-held : (q : ℕ) → Among (key, q) (edges old) → Among (Some q) (places_at m.objects key)
    edge-held q edge = grind (arith, edge-slot, places_still)

    place-there : (q : ℕ) → Among (Some q) (places_at m.objects key) → IsTrue (is_there m.objects q)
    place-there q n = let f = edge-slot old key q (place-leads q n) in there_still q ∙ whole f.0 q f.1 f.3

    here : IsTrue (has_at_least to m.objects key)
    here = u.tidy.risen key (subst (Among key) (sym front) (inl refl))

    -- further over slots, and then over entries
    over_slots : IsFurther to IsFrom gone slotted
    over_slots = further-slots to IsFrom (places_at m.objects key) gone (λ q n. marked-along old entries from_all key q (place-leads q n) (u.have key here))

    over_entries : IsFurther to IsFrom slotted valued
    over_entries = further-values to IsFrom entries (λ e a. marked-value old entries from_all e a) entries (λ e a. a) key (length entries) slotted (over_slots.have u.have)

    both : IsFurther to IsFrom gone valued
    both = further-then to IsFrom gone slotted valued over_slots over_entries

    more : (q : ℕ) → IsTrue (has_at_least to m.objects q) → IsTrue (has_at_least to valued.objects q)
    more q h = further-more to IsFrom gone valued both q h

    -- one object more was looked into
    now_looked : (j : ℕ) → is_looked_into to valued j ≡ (is_looked_into to m j || key == j)
    now_looked j = both.looked j ∙ left-looked to m key rest front u.tidy j

    looked-cases : (j : ℕ) → IsTrue (is_looked_into to valued j) → IsTrue (is_looked_into to m j) ⊎ (key ≡ j)
    looked-cases j h = ⊎_elim (λ a. inl a) (λ b. inr (eqb-true key j b)) (or_cases (is_looked_into to m j) (key == j) (sym (now_looked j) ∙ h))

    -- a joint of an entry that has it was looked at
    looked-value : (e : KeyedEntry) (j : Joint) → Among e entries → Among j (joints_of e) → has_object key e ≡ true →
        IsTrue (is_looked_into to valued j.the_map) → IsTrue (is_looked_into to valued j.key) → IsTrue (has_at_least to valued.objects j.value)
    looked-value e j a n has the_map key_looked =
        let at = among-place e entries a in
        values-here to entries key (length entries) slotted at.0 e j n (slice_get_within entries at.0 e at.1) at.1 has
        (further-there to IsFrom gone slotted over_slots j.value ∙ (there_still j.value ∙ joint-there old entries there j (entry-joint entries e j a n)))
        (sym (over_entries.looked j.the_map) ∙ the_map)
        (sym (over_entries.looked j.key) ∙ key_looked)

    -- one of another was before
    other-value : (e : KeyedEntry) (j : Joint) → Among e entries → Among j (joints_of e) → has_object key e ≡ false →
        IsTrue (is_looked_into to valued j.the_map) → IsTrue (is_looked_into to valued j.key) → IsTrue (has_at_least to valued.objects j.value)
    other-value e j a n lacks the_map key_looked =
        let gives = joint-gives e j n in
        more j.value (u.followed j (entry-joint entries e j a n)
        (⊎_elim (λ h. h) (λ s. absurd (true≢false (sym (joint-has_map e j key gives s) ∙ lacks))) (looked-cases j.the_map the_map))
        (⊎_elim (λ h. h) (λ s. absurd (true≢false (sym (joint-has_key e j key gives s) ∙ lacks))) (looked-cases j.key key_looked)))

    pub under_way-turns : (n : Marking) → n ≡ valued → IsUnderWay most (now + count_by (has_object key) entries) n
    under_way-turns n e = subst (IsUnderWay most (now + count_by (has_object key) entries)) (sym e) (record {
      keys = u.keys ++ both.keys;
      raised = both.raised ∙ (ap (raised_among both.keys to) u.raised ∙ raised-twice u.keys both.keys (u.keys ++ both.keys) to old (has-append u.keys both.keys));
      tidy = both.tidy (left-tidy to m key rest front u.tidy);
      have = both.have u.have;
      closed = λ x y edge h. ⊎_elim
          (λ was. more y (u.closed x y edge was))
          (λ s. further-more to IsFrom slotted valued over_entries y
          (slots-here to (places_at m.objects key) gone place-there y (edge-held y (subst (λ z. Among (z, y) (edges old)) (sym s) edge))))
          (looked-cases x h);
      followed = λ j a the_map key_looked.
          let f = joint-entry entries j a in
          ⊎_elim
          (λ has. looked-value f.0 j f.1 f.2 has the_map key_looked)
          (λ lacks. other-value f.0 j f.1 f.2 lacks the_map key_looked)
          (cases_Bool (has_object key f.0));
      few =
          let fewer = sides-fewer (is_looked_into to m) (is_looked_into to valued) key entries (front-waits to m key rest front u.tidy) now_looked in
          let so_far = u.few in
          omega (arith, fewer, so_far);
    })

  -- THE END: none waits
  module _ (own : HaveOwnKeys old) (most now : ℕ) (m : Marking) (u : IsUnderWay most now m) (done : m.waiting ≡ []) where
    looked_all : (key : ℕ) → is_looked_into to m key ≡ has_at_least to m.objects key
    looked_all key = grind arith

    -- all that a mark comes to has the colour
    marked-at_least : (key : ℕ) → IsFrom key → IsTrue (has_at_least to m.objects key)
    marked-at_least = marked-within old entries from_all (λ key. IsTrue (has_at_least to m.objects key)) begins along value
      where
        begins : (key : ℕ) → Among key from_all → IsTrue (has_at_least to m.objects key)
        begins key a = ap (λ os. has_at_least to os key) u.raised ∙ at_least-kept u.keys to to (not_below-self to) old key (listed-at_least to old key a)

        along : (x y : ℕ) → Among (x, y) (edges old) → IsTrue (has_at_least to m.objects x) → IsTrue (has_at_least to m.objects y)
        along x y edge h = u.closed x y edge (looked_all x ∙ h)

        value : (e : Joint) → Among e (joints entries) → IsTrue (has_at_least to m.objects e.the_map) → IsTrue (has_at_least to m.objects e.key) → IsTrue (has_at_least to m.objects e.value)
        value e a the_map key = u.followed e a (looked_all e.the_map ∙ the_map) (looked_all e.key ∙ key)

    abbrev marks : List ℕ
    marks = keys_marked old entries from_all

    alike : (o : Object) → Among o old → colour_at old o.key ≡ Some o.colour
    alike o a = ap (option_map (λ (z : Object). z.colour)) (own o a)

    -- an object was raised, or has the colour from before, exactly where it is marked
    each : (o : Object) → Among o old → risen u.keys to o ≡ risen marks to o
    each o a =
        grind (arith, raised-same, marked-decided, at_least-risen, not_below-self, member-there, true≢false, at_least-cases, marked-at_least, risen, alike, u.have)

    pub under_way-ends : m.objects ≡ raised_among marks to old
    under_way-ends = u.raised ∙ map-agree (risen u.keys to) (risen marks to) old each

    pub under_way-spent : now + sides_left (has_at_least to m.objects) entries ≤ most
    under_way-spent = let fewer = sides-less (is_looked_into to m) (has_at_least to m.objects) entries (λ k h. sym (looked_all k) ∙ h) in let so_far = u.few in omega (arith, fewer, so_far)
