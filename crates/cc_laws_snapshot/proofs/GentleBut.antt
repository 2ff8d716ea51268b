-- CHANGES FROM ONE VIEW TO ANOTHER, one after another: gentle but for some natives, and colours aside.
use Rattle.std.proofs.Common.{◌≡◌, ℕ, ◌<◌, ◌≤◌, ◌⊎◌, ⊎_elim, List, [], refl, ◌∙◌, inl, inr, arith, count_by}
use Rattle.cc_lists.specs.Members.{Among}
use Rattle.cc_names.specs.declared.name.Name.{Name}
use Rattle.cc_names.specs.Names.{native}
use Rattle.cc_model.specs.Entries.{Joint}
use Rattle.cc_model.specs.Heap.{Heap}
use Rattle.cc_model.specs.View.{View, view, between, scripts_there}
use Rattle.cc_model.specs.Colours.{HasColourInvariant}
use Rattle.cc_laws_snapshot.specs.Gentle.{IsGentle}

-- a change that is gentle for all natives but those of `loose`, whatever the colours are afterwards
pub record IsGentleBut (loose : List Name) (made now_made : ℕ) (h k : View) : Type 0 where
  pub made_more : made ≤ now_made
  pub outside : (u : Name) (c : ℕ) → Among (u, c) k.natives → ¬ (Among u k.buffer) → ¬ (Among u loose) → Among (u, c) h.natives × (¬ (Among u h.buffer))
  pub as_often : (u w : Name) (c : ℕ) → Among (u, c) k.natives → ¬ (Among u k.buffer) → ¬ (Among u loose) →
      count_by (between w u) k.edges ≡ count_by (between w u) h.edges
  pub gray_edge : (x y : Name) → Among (x, y) k.edges → Among y k.gray → Among (x, y) h.edges × Among y h.gray
  pub gray_joint : (e : Joint) → Among e k.joints → Among e.value k.gray → Among e h.joints × Among e.value h.gray
  pub black_stays : (x : Name) → Among x h.black → Among x k.black
  pub scripts_stay : (x : Name) → Among x (scripts_there h) → Among x (scripts_there k)
  pub lives : (i c : ℕ) → Among (native i, c) k.natives → ((d : ℕ) × Among (native i, d) h.natives) ⊎ (made < i)

-- the same of two heaps
abbrev pub AreGentleBut : List Name → Heap → Heap → Type 0
AreGentleBut loose h g = IsGentleBut loose h.natives_made g.natives_made (view h) (view g)

-- the same for all natives
abbrev pub AreGentle : Heap → Heap → Type 0
AreGentle h g = AreGentleBut [] h g

-- what registers hold is not asked
pub IsGentleBut-registers : (made : ℕ) (h : View) (names : List Name) → IsGentleBut [] made made h (record h { registers = names })
IsGentleBut-registers made h names = record {
  made_more = omega arith;
  outside = λ u c m o l. (m, o);
  as_often = λ u w c m o l. refl;
  gray_edge = λ x y m g. (m, g);
  gray_joint = λ e m g. (m, g);
  black_stays = λ x m. m;
  scripts_stay = λ x m. m;
  lives = λ i c m. inl (c, m);
}

-- heaps that stay
pub AreGentle-refl : (h : Heap) → AreGentle h h
AreGentle-refl h = IsGentleBut-registers h.natives_made (view h) (view h).registers

-- One change after another: what the first may change is in the buffer, or no more, after the second.
pub IsGentleBut-then : (loose : List Name) (made then_made now_made : ℕ) (h k l : View) →
    IsGentleBut loose made then_made h k → IsGentleBut [] then_made now_made k l →
    ((u : Name) (c : ℕ) → Among (u, c) l.natives → ¬ (Among u l.buffer) → ¬ (Among u loose)) →
    IsGentleBut [] made now_made h l
IsGentleBut-then loose made then_made now_made h k l a b caught = record {
  made_more = omega (arith, a.made_more, b.made_more);
  outside = λ u c m o n. let e = b.outside u c m o n in a.outside u c e.0 e.1 (caught u c m o);
  as_often = λ u w c m o n. let e = b.outside u c m o n in b.as_often u w c m o n ∙ a.as_often u w c e.0 e.1 (caught u c m o);
  gray_edge = λ x y m g. let e = b.gray_edge x y m g in a.gray_edge x y e.0 e.1;
  gray_joint = λ d m g. let e = b.gray_joint d m g in a.gray_joint d e.0 e.1;
  black_stays = λ x m. b.black_stays x (a.black_stays x m);
  scripts_stay = λ x m. b.scripts_stay x (a.scripts_stay x m);
  lives = λ i c m. ⊎_elim (λ e. a.lives i e.0 e.1) (λ new. inr (omega (arith, new, a.made_more))) (b.lives i c m);
}

-- the same of heaps, where nothing is loose
pub AreGentle-then : (h g f : Heap) → AreGentle h g → AreGentle g f → AreGentle h f
AreGentle-then h g f a b = IsGentleBut-then [] h.natives_made g.natives_made f.natives_made (view h) (view g) (view f) a b (λ u c m o n. n)

-- A change that is gentle for all natives, and leaves the colours as they should be, is gentle.
pub IsGentle-from : (made now_made : ℕ) (h k : View) → IsGentleBut [] made now_made h k → HasColourInvariant k → IsGentle made now_made h k
IsGentle-from made now_made h k g c = record {
  made_more = g.made_more;
  outside = λ u c m o. g.outside u c m o (λ n. n);
  as_often = λ u w c m o. g.as_often u w c m o (λ n. n);
  gray_edge = g.gray_edge;
  gray_joint = g.gray_joint;
  black_stays = g.black_stays;
  scripts_stay = g.scripts_stay;
  lives = g.lives;
  colours = c;
}
