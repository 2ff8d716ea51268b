-- A GENTLE CHANGE KEEPS EVERY SNAPSHOT FRESH.
use Rattle.std.proofs.Common.{ℕ, ◌≤◌, ⊎_elim, sym, ◌∙◌, subst, inl, inr, arith, Option}
use Rattle.cc_names.specs.declared.name.Name.{Name}
use Rattle.cc_names.specs.Names.{native}
use Rattle.cc_model.specs.Entries.{Entry}
use Rattle.cc_model.specs.View.{View}
use Rattle.cc_model.specs.Snapshot.{Snapshot, Mapping}
use Rattle.cc_model.specs.Fresh.{IsLiving, MemberOf, IsMappingOf, IsFresh}
use Rattle.cc_laws_snapshot.specs.Gentle.{IsGentle}

module _ (made now_made : ℕ) (h k : View) (g : IsGentle made now_made h k) where
  -- a mapping's member stays that of the entry: what is black stays black
  MemberOf-stays : (member : Option Name) (x : Name) → MemberOf h member x → MemberOf k member x
  MemberOf-stays member x m = ⊎_elim (λ e. inl e) (λ b. inr (b.0, g.black_stays x b.1)) m

  -- so a mapping stays that of the entry
  IsMappingOf-stays : (e : Entry) (m : Mapping) → IsMappingOf h e m → IsMappingOf k e m
  IsMappingOf-stays e m i = record {
    value = i.value;
    the_map = MemberOf-stays m.the_map e.the_map i.the_map;
    key = MemberOf-stays m.key e.key i.key;
  }

  -- a native that was made and is no more does not come back
  still_dead : (i : ℕ) → i ≤ made → ¬ (IsLiving h (native i)) → ¬ (IsLiving k (native i))
  still_dead i few dead l = ⊎_elim dead (λ new. absurd (omega arith)) (g.lives i l.0 l.1)

  -- A snapshot that was fresh is fresh.
  pub fresh-kept : (s : Snapshot) → IsFresh made h s → IsFresh now_made k s
  fresh-kept s f = record {
    sampled = λ u c n out t. f.sampled u c n (g.outside u c out.0 out.1) t;
    as_held = λ u c w out t. f.as_held u c w (g.outside u c out.0 out.1) t ∙ sym (g.as_often u w c out.0 out.1);
    gray_noted = λ w y t e c. let b = g.gray_edge w y e c in f.gray_noted w y t b.0 b.1;
    gray_held = λ i y e c. let b = g.gray_edge (native i) y e c in f.gray_held i y b.0 b.1;
    gray_value = λ e m c. let b = g.gray_entry e m c in let v = f.gray_value e b.0 b.1 in (v.0, v.1, IsMappingOf-stays e v.0 v.2);
    colours = g.colours;
    from_node = f.from_node;
    to_node = f.to_node;
    members = f.members;
    values = f.values;
    candidates = f.candidates;
    distinct = f.distinct;
    native_nodes = λ i n. let b = f.native_nodes i n in (b.0, omega (arith, b.1, g.made_more));
    script_nodes = λ x n e. g.scripts_stay x (f.script_nodes x n e);
    in_order = f.in_order;
    nothing_from_untraversed = f.nothing_from_untraversed;
    nothing_from_gone = f.nothing_from_gone;
    gone_is_dead = λ x n. let d = f.gone_is_dead x n in (
      d.0,
      d.1,
      d.2,
      omega (arith, d.3, g.made_more),
      λ l. still_dead d.0 d.3 (subst (λ y. ¬ (IsLiving h y)) d.1 d.4) (subst (IsLiving k) d.1 l),
    );
  }
