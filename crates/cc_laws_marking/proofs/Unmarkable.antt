-- WHAT CAN'T BE MARKED stays so through begin and scans, and an end frees it.
use Rattle.std.specs.Prelude.{◌↔◌}
use Rattle.std.proofs.Common.{◌≡◌, ℕ, Bool, true, false, not, ◌⊎◌, List, [], ◌∷◌, ◌++◌, Some, None, Option, refl, sym, ◌∙◌, ap, subst, inl, inr, ⊎_elim, option_map}
use Rattle.std.specs.List.{filter}
use Rattle.cc_lists.specs.Members.{Among, has, without}
use Rattle.cc_lists.proofs.Members.{Among-map, Among-map_cases, Among-left, Among-right, Among-append, Among-filter, Among-passes, Among-flat_map, Among_or_not, has-among}
use Rattle.cc_lists.proofs.CountsOf.{false-left}
use Rattle.cc_lists.proofs.Filtering.{find-among, find-passes}
use Rattle.cc_lists.proofs.Least.{derive-root, derive-along}
use Rattle.cc_lists.proofs.Closure.{closure-derived, derived-closure}
use Rattle.cc_lists.proofs.OnceEach.{with_all_last-cases}
use Rattle.cc_lists.proofs.ListWrites.{each-map}
use Rattle.cc_names.specs.declared.name.Name.{Name}
use Rattle.cc_names.specs.declared.kind.Colour.TheVariants.{White}
use Rattle.cc_names.specs.Names.{same_name}
use Rattle.cc_names.proofs.NameTests.{same_name-exact, same_name-true}
use Rattle.cc_model.specs.declared.item.Event.TheVariants.{Freed}
use Rattle.cc_model.specs.Slots.{contents, from_to}
use Rattle.cc_model.specs.Checks.{slots_or_none}
use Rattle.cc_model.specs.Entries.{Entry, Joint, joints, rules_of}
use Rattle.cc_model.proofs.Joints.{Gives, its_value, its_key, joint-cases, derive-joint, derived-by_joints}
use Rattle.cc_model.specs.Heap.{Heap, HeapScript, script_at, is_white_colour}
use Rattle.cc_model.specs.View.{script_slot_edges}
use Rattle.cc_model.specs.Places.{script_places_of}
use Rattle.cc_model.specs.Exposure.{slots_of_scripts}
use Rattle.cc_model.specs.Colours.{black_rules, black_names, scripts_held, mark_rules, IsMarked, marked_names, colour_by}
use Rattle.cc_model.specs.Sweep.{sweep, unmarked}
use Rattle.cc_model.specs.WellFormed.{IsWellFormed, script_names}
use Rattle.cc_model.specs.Marking.{NewMarks, without_all, each_once, registered, begun_marks, held_by_script, raised_black, raised_gray, each_raised, scanned, black_rules_by_mark, blacks_by_mark, mark_rules_by_mark, marks_by_mark, ended_marks}
use Rattle.cc_laws_heap.specs.Sound.{IsSound}
use Rattle.cc_laws_heap.specs.Rounds.{is_not_among}
use Rattle.cc_laws_heap.specs.UnderMarking.{IsUnderMarking, IsScannedSoFar}
use Rattle.cc_laws_heap.proofs.NameLists.{is_not_among-apart}
use Rattle.cc_laws_heap.proofs.ScriptNames.{delegate-there}
use Rattle.cc_laws_heap.proofs.Led.{edge-source}
use Rattle.cc_laws_heap.proofs.Raising.{without_all-cases, without_all-in}
use Rattle.cc_laws_heap.proofs.Marking.{colour_of}
use Rattle.cc_laws_heap.proofs.MarkedWellFormed.{is_spared}
use Rattle.cc_laws_heap.proofs.MarkingKeeps.{as_coloured, script_names-coloured, IsSound-coloured}
use Rattle.cc_laws_heap.proofs.Swept.{scripts-sweep, taken-sweep, sweep-frees}
use Rattle.cc_laws_heap.proofs.MarkingEnded.{by_new_marks}
use Rattle.cc_laws_marking.specs.Unmarkable.{IsUnmarkable, not_marked}

-- What is not marked

-- what is not marked is there, and the least sets do not mark it
pub not_marked-cases : (h : Heap) (x : Name) → Among x (not_marked h) ↔ (Among x (script_names h) × (¬ (IsMarked h x)))
not_marked-cases h x = (
  λ i. let c = without_all-cases (marked_names h) (script_names h) x i in (c.0, λ d. c.1 (derived-closure same_name same_name-exact (mark_rules h) x d)),
  λ k. without_all-in (marked_names h) (script_names h) x k.0 (λ i. k.1 (closure-derived same_name same_name-exact (mark_rules h) x i)),
)

module _ (h : Heap) where
  -- what a script register holds is marked
  register-marked : (x : Name) → Among x (contents h.script_registers) → IsMarked h x
  register-marked x i = derive-root (black_names h ++ scripts_held h) (slots_of_scripts h) (rules_of (joints h.entries)) x
      (Among-left x (black_names h) (scripts_held h)
      (derived-closure same_name same_name-exact (black_rules h) x (derive-root (contents h.script_registers) (slots_of_scripts h) (rules_of (joints h.entries)) x i)))

  -- what a native holds is marked
  held-marked : (x : Name) → Among x (scripts_held h) → IsMarked h x
  held-marked x i = derive-root (black_names h ++ scripts_held h) (slots_of_scripts h) (rules_of (joints h.entries)) x
      (Among-right x (black_names h) (scripts_held h) i)

  -- a script object is marked, or it is not
  marked_or_not : (x : Name) → Among x (script_names h) → IsMarked h x ⊎ Among x (not_marked h)
  marked_or_not x there = ⊎_elim
      (λ i. inl (closure-derived same_name same_name-exact (mark_rules h) x i))
      (λ d. inr (without_all-in (marked_names h) (script_names h) x there d))
      (Among_or_not same_name same_name-exact (marked_names h) x)

  -- an entry leads from script objects
  joint-sources : IsWellFormed h → (j : Joint) → Among j (joints h.entries) → Among j.the_map (script_names h) × Among j.key (script_names h)
  joint-sources w j m = let f = joint-cases h.entries j m in given f.0 f.1 j f.2
    where
      map_there : (e : Entry) → Among e h.entries → Among e.the_map (script_names h)
      map_there e at =
          let k = (w.entries e at).the_map in
          subst (λ x. Among x (script_names h)) k.2 (Among-map (λ (o : HeapScript). o.name) k.0 h.scripts k.1)

      given : (e : Entry) → Among e h.entries → (i : Joint) → Gives e i → Among i.the_map (script_names h) × Among i.key (script_names h)
      given e at _ its_value = (map_there e at, (w.entries e at).key)
      given e at _ (its_key d is) = (map_there e at, delegate-there h w e d at is)

  -- WHAT IS NOT MARKED WHEN A MARKING BEGINS CAN'T BE MARKED BY IT.
  pub IsUnmarkable-begun : {owned : List ℕ} → IsSound owned h → IsUnmarkable h (begun_marks h) (not_marked h)
  unfolding begun_marks
  IsUnmarkable-begun s = record {
    unmarked = λ x i.
        let c = (not_marked-cases h x).0 i in
        without_all-in (registered h ++ grays) (script_names h) x c.0 (λ l. c.1 (listed x (Among-append x (registered h) grays l)));
    registers = λ x i r. ((not_marked-cases h x).0 i).1 (register-marked x r);
    held = λ x i r. ((not_marked-cases h x).0 i).1 (held-marked x r);
    holders = λ x y e i. ⊎_elim
        (λ d. absurd (((not_marked-cases h y).0 i).1
        (derive-along (black_names h ++ scripts_held h) (slots_of_scripts h) (rules_of (joints h.entries)) x y e d)))
        (λ n. n)
        (marked_or_not x (edge-source h x y e));
    members = λ j m i.
        let there = joint-sources s.well_formed j m in
        ⊎_elim
        (λ a. ⊎_elim
        (λ b. absurd (((not_marked-cases h j.value).0 i).1
        (derive-joint (black_names h ++ scripts_held h) (slots_of_scripts h) (joints h.entries) j m a b)))
        (λ n. inr n)
        (marked_or_not j.key there.1))
        (λ n. inl n)
        (marked_or_not j.the_map there.0);
  }
    where
      grays : List Name
      grays = without_all (registered h) (each_once (scripts_held h))

      -- each name of a list of each once stands in the list
      from_once : (names : List Name) (x : Name) → Among x (each_once names) → Among x names
      from_once names x i = ⊎_elim (λ none. absurd none) (λ e. e) (with_all_last-cases same_name same_name-exact [] names x i)

      -- what is black or gray is marked
      listed : (x : Name) → Among x (registered h) ⊎ Among x grays → IsMarked h x
      listed x l = ⊎_elim
          (λ black. register-marked x (from_once (contents h.script_registers) x black))
          (λ gray. held-marked x (from_once (scripts_held h) x (without_all-cases (registered h) (each_once (scripts_held h)) x gray).0))
          l

-- A scan

-- a name stays where another is left out
without-in : (y : Name) (xs : List Name) (x : Name) → Among x xs → ¬ (x ≡ y) → Among x (without same_name y xs)
without-in y xs x i d = Among-filter (λ z. not (same_name z y)) x xs i
    (ap not (false-left (same_name x y) (λ e. d ((same_name-exact x y).0 e))))

-- one raised to black leaves the others without a mark
black-unmarked : (m : NewMarks) (y x : Name) → ¬ (x ≡ y) → Among x m.unmarked → Among x (raised_black m y).unmarked
black-unmarked m y x d i = go (has same_name m.unblack y)
  where
    chosen : Bool → NewMarks
    chosen b = elim b [
      | true ↦ record {
        unmarked = without same_name y m.unmarked;
        unblack = without same_name y m.unblack;
        black_list = m.black_list ++ y ∷ [];
        gray_list = without same_name y m.gray_list;
      }
      | false ↦ m
    ]

    go : (b : Bool) → Among x (chosen b).unmarked
    go true = without-in y m.unmarked x i d
    go false = i

-- one raised to gray leaves the others without a mark
gray-unmarked : (m : NewMarks) (y x : Name) → ¬ (x ≡ y) → Among x m.unmarked → Among x (raised_gray m y).unmarked
gray-unmarked m y x d i = go (has same_name m.unmarked y)
  where
    chosen : Bool → NewMarks
    chosen b = elim b [
      | true ↦ record m { unmarked = without same_name y m.unmarked; gray_list = m.gray_list ++ y ∷ [] }
      | false ↦ m
    ]

    go : (b : Bool) → Among x (chosen b).unmarked
    go true = without-in y m.unmarked x i d
    go false = i

-- many raised leave the others without a mark
each-unmarked : (raise : NewMarks → Name → NewMarks) → ((m : NewMarks) (y x : Name) → ¬ (x ≡ y) → Among x m.unmarked → Among x (raise m y).unmarked) →
    (m : NewMarks) (ys : List Name) (x : Name) → ¬ (Among x ys) → Among x m.unmarked → Among x (each_raised raise m ys).unmarked
each-unmarked raise one m [] x d i = i
each-unmarked raise one m (y ∷ ys) x d i = each-unmarked raise one (raise m y) ys x (λ t. d (inr t)) (one m y x (λ e. d (inl (sym e))) i)

-- what an object holds is what an edge leads to
held-edge : (h : Heap) (x y : Name) → Among y (held_by_script h x) → Among (x, y) (slots_of_scripts h)
held-edge h x y i = go (script_at h x) refl i
  where
    go : (o : Option HeapScript) → script_at h x ≡ o → Among y (contents (slots_or_none (option_map script_places_of o))) → Among (x, y) (slots_of_scripts h)
    go None e j = absurd j
    go (Some o) e j =
        let named : o.name ≡ x = same_name-true o.name x (find-passes (λ p. same_name p.name x) h.scripts o e) in
        subst (λ z. Among (z, y) (slots_of_scripts h)) named
        (Among-flat_map script_slot_edges o (from_to o.name y) h.scripts (find-among (λ p. same_name p.name x) h.scripts o e)
        (Among-map (from_to o.name) y (contents (script_places_of o)) j))

module _ (h : Heap) (m : NewMarks) (them : List Name) (u : IsUnderMarking h m) (w : IsUnmarkable h m them) where
  -- what is scanned holds none of them, since it has a mark
  scanned-other : (x y : Name) → ¬ (Among x m.unmarked) → Among y them → ¬ (Among y (held_by_script h x))
  scanned-other x y marked i j = marked (w.unmarked x (w.holders x y (held-edge h x y j) i))

  -- A SCAN MARKS NONE OF THEM.
  pub IsUnmarkable-scanned : IsScannedSoFar h m → IsUnmarkable h (scanned h m) them
  unfolding scanned
  IsUnmarkable-scanned s = record {
    unmarked = λ x i. go x i m.black_list m.gray_list refl refl;
    registers = w.registers;
    held = w.held;
    holders = w.holders;
    members = w.members;
  }
    where
      go : (x : Name) → Among x them → (blacks grays : List Name) → m.black_list ≡ blacks → m.gray_list ≡ grays → Among x (elim blacks as (λ _. NewMarks) [
        | z ∷ zs ↦ each_raised raised_black (record m { black_list = zs }) (held_by_script h z)
        | [] ↦ elim grays [
          | z ∷ zs ↦ each_raised raised_gray (record m { gray_list = zs }) (held_by_script h z)
          | [] ↦ m
        ]
      ]).unmarked
      go x i (z ∷ zs) grays b g = each-unmarked raised_black black-unmarked (record m { black_list = zs }) (held_by_script h z) x
          (scanned-other z x (λ k. (s.black_list z (subst (Among z) (sym b) (inl refl))).1 (u.within z k)) i) (w.unmarked x i)
      go x i [] (z ∷ zs) b g = each-unmarked raised_gray gray-unmarked (record m { gray_list = zs }) (held_by_script h z) x
          (scanned-other z x (s.gray_list z (subst (Among z) (sym g) (inl refl))).1 i) (w.unmarked x i)
      go x i [] [] b g = w.unmarked x i

  -- The end

  -- what is none of them leads over entries to none of them
  joint-other : (j : Joint) → Among j (joints h.entries) → ¬ (Among j.the_map them) → ¬ (Among j.key them) → ¬ (Among j.value them)
  joint-other j i a b v = ⊎_elim a b (w.members j i v)

  -- what is none of them leads over slots to none of them
  edge-other : (x y : Name) → Among (x, y) (slots_of_scripts h) → ¬ (Among x them) → ¬ (Among y them)
  edge-other x y e d i = d (w.holders x y e i)

  -- none of them is black at the end
  not_black : (x : Name) → Among x (blacks_by_mark h m) → ¬ (Among x them)
  not_black x i = derived-by_joints (without_all m.unblack (script_names h)) (slots_of_scripts h) (joints h.entries) (λ y. ¬ (Among y them))
      (λ y r t. (without_all-cases m.unblack (script_names h) y r).1 (u.within y (w.unmarked y t))) edge-other joint-other x
      (closure-derived same_name same_name-exact (black_rules_by_mark h m) x i)

  -- none of them is marked at the end
  not_marked_then : (x : Name) → Among x (marks_by_mark h m) → ¬ (Among x them)
  not_marked_then x i = derived-by_joints (blacks_by_mark h m ++ without_all m.unmarked (script_names h)) (slots_of_scripts h) (joints h.entries) (λ y. ¬ (Among y them))
      (λ y r. ⊎_elim (not_black y) (λ k t. (without_all-cases m.unmarked (script_names h) y k).1 (w.unmarked y t))
      (Among-append y (blacks_by_mark h m) (without_all m.unmarked (script_names h)) r))
      edge-other joint-other x
      (closure-derived same_name same_name-exact (mark_rules_by_mark h m) x i)

  -- each of them is white at the end
  white-then : (x : Name) → Among x them → colour_by (blacks_by_mark h m) (marks_by_mark h m) x ≡ White
  white-then x i =
      ap (λ b. colour_of b (has same_name (marks_by_mark h m) x))
      (false-left (has same_name (blacks_by_mark h m) x) (λ e. not_black x (has-among same_name same_name-exact (blacks_by_mark h m) x e) i))
      ∙ ap (λ b. colour_of false b)
      (false-left (has same_name (marks_by_mark h m) x) (λ e. not_marked_then x (has-among same_name same_name-exact (marks_by_mark h m) x e) i))

  -- each of them is to be swept
  swept-then : (x : Name) → Among x them → Among x (unmarked (by_new_marks h m))
  swept-then x i =
      let f = Among-map_cases (λ (o : HeapScript). o.name) (by_new_marks h m).scripts x
      (subst (Among x) (sym (script_names-coloured (blacks_by_mark h m) (marks_by_mark h m) h)) (u.there x (u.within x (w.unmarked x i)))) in
      let colour = each-map (λ (o : HeapScript). o.colour ≡ colour_by (blacks_by_mark h m) (marks_by_mark h m) o.name)
      (as_coloured (blacks_by_mark h m) (marks_by_mark h m)) h.scripts (λ o k. refl) f.0 f.1 in
      let white : f.0.colour ≡ White = colour ∙ (ap (colour_by (blacks_by_mark h m) (marks_by_mark h m)) f.2 ∙ white-then x i) in
      subst (λ y. Among y (unmarked (by_new_marks h m))) f.2
      (Among-map (λ (o : HeapScript). o.name) f.0 (filter (λ (o : HeapScript). is_white_colour o.colour) (by_new_marks h m).scripts)
      (Among-filter (λ (o : HeapScript). is_white_colour o.colour) f.0 (by_new_marks h m).scripts f.1 (ap is_white_colour white)))

  -- AN END TELLS EACH OF THEM AS FREED.
  pub unmarkable-freed : IsSound [] h → (x : Name) → Among x them → Among (Freed x) (ended_marks h m).events
  unfolding ended_marks
  unmarkable-freed s x i = told (Among_or_not same_name same_name-exact xs x)
    where
      k : Heap
      k = by_new_marks h m

      sound : IsSound [] k
      sound = IsSound-coloured (blacks_by_mark h m) (marks_by_mark h m) h s

      xs : List Name
      xs = (taken-sweep k sound).0

      -- it is not there after the sweep
      gone : ¬ (Among x (script_names (sweep k).heap))
      gone j =
          let f = Among-map_cases (λ (o : HeapScript). o.name) (sweep k).heap.scripts x j in
          let left : Among f.0 (filter (is_spared (unmarked k)) k.scripts) = subst (Among f.0) (scripts-sweep k) f.1 in
          is_not_among-apart (unmarked k) f.0.name (Among-passes (is_spared (unmarked k)) f.0 k.scripts left)
          (subst (λ y. Among y (unmarked k)) (sym f.2) (swept-then x i))

      there : Among x (script_names k)
      there = subst (Among x) (sym (script_names-coloured (blacks_by_mark h m) (marks_by_mark h m) h)) (u.there x (u.within x (w.unmarked x i)))

      told : Among x xs ⊎ (¬ (Among x xs)) → Among (Freed x) (sweep k).events
      told a = ⊎_elim
          (λ j. subst (Among (Freed x)) (sym (sweep-frees k sound).told) (Among-map Freed x xs j))
          (λ d. absurd (gone (subst (Among x) (sym (sweep-frees k sound).scripts)
          (Among-filter (is_not_among xs) x (script_names k) there (ap not (false-left (has same_name xs x) (λ e. d (has-among same_name same_name-exact xs x e))))))))
          a
