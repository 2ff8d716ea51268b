-- FEWER NAMES ARE DOOMED where some of them may be back: the others are still only held by such names.
use Rattle.std.proofs.Common.{◌≡◌, ℕ, not, List, filter, refl, sym, ◌∙◌, ap, inl, inr, ◌⊎◌, ⊎_elim}
use Rattle.std.proofs.lemmas.Bool.{cases_Bool, false≢true}
use Rattle.cc_lists.specs.Members.{Among}
use Rattle.cc_lists.proofs.Members.{Among-filter, Among-filtered, Among-passes}
use Rattle.cc_names.specs.declared.name.Name.{Name}
use Rattle.cc_names.specs.Names.{native, reflector}
use Rattle.cc_model.specs.Entries.{Joint}
use Rattle.cc_model.specs.Graph.{Graph}
use Rattle.cc_model.specs.Given.{GivenFrom}
use Rattle.cc_model.specs.WellMade.{IsWellMade}
use Rattle.cc_model.specs.StandsFor.{StandsFor}
use Rattle.cc_model.specs.Heap.{Heap}
use Rattle.cc_model.specs.View.{View, view}
use Rattle.cc_model.specs.WellFormed.{IsWellFormed}
use Rattle.cc_model.specs.Snapshot.{Snapshot}
use Rattle.cc_laws_run.specs.Doomed.{IsDoomed, KeepsReflectors}
use Rattle.cc_laws_run.specs.Returning.{MayBeBack, AreBeside}
use Rattle.cc_laws_run.proofs.GivenNames.{may_be_back, test-back, back-test}
use Rattle.cc_laws_run.proofs.GivenHeaps.{edge-back, joint-back}

-- some of the doomed names, which only such names hold, are doomed
doomed-some : (v : View) (s : Snapshot) (ds es : List Name) → IsDoomed v s ds → ((x : Name) → Among x es → Among x ds) →
    ((x y : Name) → Among (x, y) v.edges → Among y es → Among x es) →
    ((e : Joint) → Among e v.joints → Among e.value es → Among e.the_map es ⊎ Among e.key es) → IsDoomed v s es
doomed-some v s ds es d within holder joint = record {
  natives = λ i m. d.natives i (within (native i) m);
  scripts = λ x m e. d.scripts x (within x m) e;
  unregistered = λ x m. d.unregistered x (within x m);
  unbuffered = λ x m. d.unbuffered x (within x m);
  unmarked = λ x m. d.unmarked x (within x m);
  holder = holder;
  joint = joint;
  noted_held = λ x y m i. d.noted_held x y m (within y i);
  mapping_held = λ m i b. let e = d.mapping_held m i (within m.value b) in (
    e.0,
    e.1,
    record {
      value = e.2.value;
      the_map = λ l. e.2.the_map (within e.0.the_map l);
      key = λ l. e.2.key (within e.0.key l);
    },
  );
  covered = λ x m. d.covered x (within x m);
}

module _ (h : Heap) (g : Graph) (w : IsWellFormed h) (well : IsWellMade g) (stands : StandsFor h g) (met : List Name) (ds : List Name) where
  -- the names that are left: those that may not be back
  abbrev pub not_back : List Name
  not_back = filter (λ x. not (may_be_back g met x)) ds

  -- a name that is left was one of the names
  pub not_back-were : (x : Name) → Among x not_back → Among x ds
  not_back-were x m = Among-filtered (λ x. not (may_be_back g met x)) x ds m

  -- no name that is left may be back
  pub not_back-out : (x : Name) → Among x not_back → ¬ (MayBeBack g met x)
  not_back-out x m b = false≢true (sym (ap not (back-test g met x b)) ∙ Among-passes (λ x. not (may_be_back g met x)) x ds m)

  -- each of the names is left, or may be back
  pub not_back-cases : (x : Name) → Among x ds → Among x not_back ⊎ MayBeBack g met x
  not_back-cases x m = ⊎_elim (λ e. inr (test-back g met x e)) (λ e. inl (Among-filter (λ x. not (may_be_back g met x)) x ds m (ap not e)))
      (cases_Bool (may_be_back g met x))

  -- a reflector is left only with its native
  pub not_back-keeps : KeepsReflectors ds → KeepsReflectors not_back
  not_back-keeps keeps k m = ⊎_elim (λ l. l)
      (λ b. absurd (not_back-out (reflector k) m (inr (k, refl, of_native b))))
      (not_back-cases (native k) (keeps k (not_back-were (reflector k) m)))
    where
      of_native : MayBeBack g met (native k) → GivenFrom g met (native k)
      of_native b = ⊎_elim (λ l. l) (λ r. absurd (apart r.0 r.1)) b
        where
          apart : (j : ℕ) → native k ≡ reflector j → ⊥
          apart j q = cc

  -- a member of a joint is left, or may be back
  left-or_back : (x : Name) → Among x ds ⊎ MayBeBack g met x → Among x not_back ⊎ MayBeBack g met x
  left-or_back x c = ⊎_elim (λ l. not_back-cases x l) (λ r. inr r) c

  module _ (beside : AreBeside g met (view h) ds) where
    -- what is beside the names is beside those that are left
    pub not_back-beside : AreBeside g met (view h) not_back
    not_back-beside = record {
      the_map = λ e m i. left-or_back e.the_map (beside.the_map e m (not_back-were e.value i));
      key = λ e m i. left-or_back e.key (beside.key e m (not_back-were e.value i));
    }

    -- THE NAMES THAT ARE LEFT ARE DOOMED, where all were.
    pub not_back-doomed : (s : Snapshot) → IsDoomed (view h) s ds → IsDoomed (view h) s not_back
    not_back-doomed s d = doomed-some (view h) s ds not_back d not_back-were
        (λ x y m i. ⊎_elim (λ l. l) (λ b. absurd (not_back-out y i (edge-back h g w well stands met x y m b)))
        (not_back-cases x (d.holder x y m (not_back-were y i))))
        (λ e m i. ⊎_elim (λ l. inl l)
        (λ a. ⊎_elim (λ r. inr r)
        (λ b. absurd (not_back-out e.value i (joint-back h g w well stands met e m a b)))
        (not_back-beside.key e m i))
        (not_back-beside.the_map e m i))
