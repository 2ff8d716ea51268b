-- WHAT FREES OBJECTS THAT NO ROOT REACHES IS LAWFUL under commands that collect: the heaps go on running, and each of them may be told.
use Rattle.std.proofs.Common.{◌≡◌, ◌+◌, ◌≤◌, true, List, [], ◌∷◌, map, Option, refl, sym, ◌∙◌, ap, subst, arith, count_by}
use Rattle.std.specs.List.{filter}
use Rattle.std.proofs.lemmas.Bool.{or_right}
use Rattle.cc_lists.specs.Members.{Among}
use Rattle.cc_lists.proofs.Members.{Among-map_cases}
use Rattle.cc_lists.proofs.Counting.{count_by-cons}
use Rattle.cc_names.specs.declared.name.Name.{Name}
use Rattle.cc_names.specs.Names.{same_name, is_native}
use Rattle.cc_names.proofs.NameTests.{same_name-refl}
use Rattle.cc_model.specs.declared.command.Command.{Command}
use Rattle.cc_model.specs.declared.item.Event.{Event}
use Rattle.cc_model.specs.declared.item.Event.TheVariants.{Freed}
use Rattle.cc_model.specs.Graph.{Graph}
use Rattle.cc_model.specs.WellMade.{IsWellMade}
use Rattle.cc_model.specs.Heap.{Heap, Outcome}
use Rattle.cc_model.specs.Snapshot.{Snapshot}
use Rattle.cc_model.specs.WellFormed.{native_names, script_names}
use Rattle.cc_model.specs.Listed.{after_events}
use Rattle.cc_model.specs.Lawful.{MayBe, EachMayBe, collects, has_none, unlinked_numbers}
use Rattle.cc_laws_heap.specs.Rounds.{is_not_among}
use Rattle.cc_laws_heap.proofs.NameLists.{names-some}
use Rattle.cc_laws_run.specs.Running.{IsFreshNow}
use Rattle.cc_laws_run.proofs.FreedListed.{freed_names, freed_names-freed, there-listed, census_names-left}
use Rattle.cc_laws_run.proofs.EachNamed.{Names, NotAgain, FreeLast, each-from}
use Rattle.cc_laws_run.proofs.RunsOfNumbers.{has_none-freed, unlinked-freed}
use Rattle.cc_laws_run.proofs.Swept.{IsSwept}
use Rattle.cc_laws_run.proofs.UnitLawful.{RunsOn}

-- distinct names that are freed are not named again
FreeLast-freed : (xs : List Name) → ((x : Name) → count_by (same_name x) xs ≤ 1) → FreeLast (map Freed xs)
FreeLast-freed [] once = tt
FreeLast-freed (x ∷ xs) once = (again, FreeLast-freed xs (λ y. omega (arith, once y, count_by-cons (same_name y) x xs)))
  where
    gone : ¬ (Among x xs)
    gone m =
        let some : 1 ≤ count_by (same_name x) xs = names-some x xs m in
        let two : count_by (same_name x) (x ∷ xs) ≡ 1 + count_by (same_name x) xs = rw (count_by-cons (same_name x) x xs, same_name-refl x) refl in
        let few : count_by (same_name x) (x ∷ xs) ≤ 1 = once x in
        absurd (omega arith)

    again : NotAgain (Freed x) (map Freed xs)
    again e i named =
        let f = Among-map_cases Freed xs e i in
        let same : f.0 ≡ x = subst (λ d. Names d x) (sym f.2) named in
        gone (subst (λ y. Among y xs) same f.1)

-- it unlinks none, and has no abandonment
pub swept-unlinks_none : (h : Heap) (o : Outcome) → IsSwept h o → unlinked_numbers o.events ≡ []
swept-unlinks_none h o w = ap unlinked_numbers w.frees.told ∙ unlinked-freed w.names

pub swept-has_none : (h : Heap) (o : Outcome) → IsSwept h o → has_none o.events ≡ true
swept-has_none h o w = subst (λ es. has_none es ≡ true) (sym w.frees.told) (has_none-freed w.names)

-- what it frees is what it tells
pub swept-freed : (h : Heap) (o : Outcome) (w : IsSwept h o) → freed_names o.events ≡ w.names
swept-freed h o w = ap freed_names w.frees.told ∙ freed_names-freed w.names

module _ (g : Graph) (well : IsWellMade g) (c : Command) (moves : collects c ≡ true) (names : List Name) (h : Heap) (s : Option Snapshot) (r : RunsOn g names h s)
    (o : Outcome) (w : IsSwept h o) where
  -- THE HEAPS GO ON RUNNING,
  pub swept-runs : (later : Option Snapshot) → IsFreshNow o.heap later → RunsOn g (after_events names o.events) o.heap later
  swept-runs later fresh = record {
    sound = w.sound;
    colours = w.colours;
    fresh = fresh;
    stands = w.stands g well r.stands;
    listed = census_names-left h o.heap names o.events r.listed
        (w.frees.natives ∙ ap (λ ys. filter (is_not_among ys) (native_names h)) (sym (swept-freed h o w)))
        (w.frees.scripts ∙ ap (λ ys. filter (is_not_among ys) (script_names h)) (sym (swept-freed h o w)));
  }

  -- AND EACH OBJECT MAY BE FREED.
  pub swept-each : EachMayBe g names c o.events
  swept-each = each-from g c o.events names may (subst FreeLast (sym w.frees.told) (FreeLast-freed w.names w.frees.once))
    where
      may : (e : Event) → Among e o.events → MayBe g names c e
      may e i =
          let a = Among-map_cases Freed w.names e (subst (Among e) w.frees.told i) in
          subst (MayBe g names c) a.2 (
            there-listed h names a.0 r.listed (w.frees.were_there a.0 a.1),
            w.unreached g a.0 well r.stands (subst (λ d. Among d o.events) (sym a.2) i),
            or_right (is_native a.0) (collects c) moves,
          )
