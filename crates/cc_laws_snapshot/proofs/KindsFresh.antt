-- HOW A CHANGE KEEPS SNAPSHOTS FRESH where natives that wait count as in the buffer: as a gentle change of the view with
-- more in its buffer; and how the colours are kept where nothing becomes black.
use Rattle.std.proofs.Common.{◌≡◌, ℕ, List, [], ◌++◌, map, refl, ◌∙◌, subst, inl, ◌⊎◌, ⊎_elim, arith}
use Rattle.std.specs.Prelude.{IsTrue}
use Rattle.std.proofs.lemmas.List.{append-nil}
use Rattle.cc_lists.specs.Members.{Among}
use Rattle.cc_lists.proofs.Members.{Among-map, Among-map_cases, Among-left, Among-right, Among-append}
use Rattle.cc_names.specs.declared.name.Name.{Name}
use Rattle.cc_names.specs.Names.{native, is_script}
use Rattle.cc_model.specs.Heap.{Heap}
use Rattle.cc_model.specs.View.{View, view}
use Rattle.cc_model.specs.Colours.{HasColourInvariant}
use Rattle.cc_model.specs.Snapshot.{Snapshot}
use Rattle.cc_model.specs.Fresh.{IsFresh}
use Rattle.cc_model.specs.WellFormed.{IsWellFormed}
use Rattle.cc_laws_heap.proofs.Coloured.{IsColoured, AreColoured-from_view, HasColourInvariant-from}
use Rattle.cc_laws_snapshot.specs.Kinds.{counting, IsFreshIn, IsFreshCounting}
use Rattle.cc_laws_snapshot.proofs.GentleBut.{IsGentleBut, AreGentle, IsGentle-from, IsGentleBut-registers}
use Rattle.cc_laws_snapshot.proofs.GentleKeeps.{fresh-kept}

-- the view with another buffer
abbrev pub with_buffer : List Name → List Name → View → View
with_buffer buffer purple v = record v { buffer = buffer; purple = purple }

-- Other buffers on both sides: the later one has what the change may leave loose, what stood in the later buffer, and
-- what stood in the earlier one and is still there.
pub IsGentleBut-buffers : (loose : List Name) (made now_made : ℕ) (h k : View) (early early_purple late late_purple : List Name) →
    IsGentleBut loose made now_made h k →
    ((u : Name) → Among u k.buffer → Among u late) →
    ((u : Name) (c : ℕ) → Among (u, c) k.natives → Among u loose → Among u late) →
    ((u : Name) (c : ℕ) → Among (u, c) k.natives → Among u early → Among u late) →
    IsGentleBut [] made now_made (with_buffer early early_purple h) (with_buffer late late_purple k)
IsGentleBut-buffers loose made now_made h k early early_purple late late_purple g kept caught waits = record {
  made_more = g.made_more;
  outside = λ u c m o n. ((g.outside u c m (λ b. o (kept u b)) (λ l. o (caught u c m l))).0, λ i. o (waits u c m i));
  as_often = λ u w c m o n. g.as_often u w c m (λ b. o (kept u b)) (λ l. o (caught u c m l));
  gray_edge = g.gray_edge;
  gray_joint = g.gray_joint;
  black_stays = g.black_stays;
  scripts_stay = g.scripts_stay;
  lives = g.lives;
}

-- what a change does to colours and registers, where nothing becomes black
pub record KeepsColours (h k : View) : Type 0 where
  pub black : (x : Name) → Among x k.black → Among x h.black
  pub white : k.white ≡ h.white
  pub held : (x : Name) → Among x k.registers → IsTrue (is_script x) → Among x h.registers ⊎ Among x k.black

module _ (loose : List Name) (made now_made : ℕ) (h k : View) (g : IsGentleBut loose made now_made h k) (c : KeepsColours h k) where
  -- The colour invariant is kept,
  colours-kept : HasColourInvariant h → HasColourInvariant k
  colours-kept i = record {
    black_to_black = λ x y b m y_gray. let e = g.gray_edge x y m y_gray in i.black_to_black x y (c.black x b) e.0 e.1;
    held_black = λ x m is_it. ⊎_elim (λ l. g.black_stays x (i.held_black x l is_it)) (λ b. b) (c.held x m is_it);
    none_white = c.white ∙ i.none_white;
  }

-- and every snapshot stays fresh.
pub fresh-by : (made now_made : ℕ) (h k : View) → IsGentleBut [] made now_made h k → KeepsColours h k → (s : Snapshot) → IsFresh made h s → IsFresh now_made k s
fresh-by made now_made h k g c s f = search (fresh-kept, IsGentle-from, colours-kept)

-- the same of heaps whose script objects keep their colours
pub fresh-coloured : (h g : Heap) → IsWellFormed h → IsWellFormed g → AreGentle h g → (IsColoured h → IsColoured g) → (s : Snapshot) → IsFreshIn h s → IsFreshIn g s
fresh-coloured h g early late gentle coloured s f = search (fresh-kept, IsGentle-from, HasColourInvariant-from, AreColoured-from_view)

-- A snapshot that is fresh stays so while more counts as in the buffer.
pub fresh-more : (made : ℕ) (v : View) (buffer purple : List Name) → ((u : Name) → Among u v.buffer → Among u buffer) →
    (s : Snapshot) → IsFresh made v s → IsFresh made (with_buffer buffer purple v) s
fresh-more made v buffer purple more = fresh-by made made v (with_buffer buffer purple v)
    (IsGentleBut-buffers [] made made v v v.buffer v.purple buffer purple (IsGentleBut-registers made v v.registers)
    more (λ u c m l. absurd l) (λ u c m i. more u i))
    (record { black = λ x m. m; white = refl; held = λ x m i. inl m })

-- A snapshot that is fresh stays so while other natives wait, where who waits no more stands in the buffer.
pub buffered_wait-fresh : (h : Heap) (s : Snapshot) (ks js : List ℕ) → ((k : ℕ) → Among k ks → Among k js ⊎ Among (native k) (view h).buffer) →
    IsFreshCounting ks h s → IsFreshCounting js h s
buffered_wait-fresh h s ks js more = fresh-more h.natives_made (counting ks (view h)) (counting js (view h)).buffer (counting js (view h)).purple
    (λ u m. ⊎_elim
    (λ b. Among-left u (view h).buffer (map native js) b)
    (λ w. let f = Among-map_cases native ks u w in
    subst (λ v. Among v ((view h).buffer ++ map native js)) f.2 (⊎_elim
    (λ j. Among-right (native f.0) (view h).buffer (map native js) (Among-map native f.0 js j))
    (λ b. Among-left (native f.0) (view h).buffer (map native js) b)
    (more f.0 f.1)))
    (Among-append u (view h).buffer (map native ks) m)) s

-- A snapshot that is fresh stays so while more natives wait.
pub more_wait-fresh : (h : Heap) (s : Snapshot) (ks js : List ℕ) → ((k : ℕ) → Among k ks → Among k js) → IsFreshCounting ks h s → IsFreshCounting js h s
more_wait-fresh h s ks js more = buffered_wait-fresh h s ks js (λ k m. inl (more k m))

-- And while some wait where none did.
pub some_wait-fresh : (h : Heap) (s : Snapshot) (ks : List ℕ) → IsFreshIn h s → IsFreshCounting ks h s
some_wait-fresh h s ks = fresh-more h.natives_made (view h) (counting ks (view h)).buffer (counting ks (view h)).purple
    (λ u b. Among-left u (view h).buffer (map native ks) b) s

-- Where none waits the buffer alone counts.
pub none_waits-fresh : (h : Heap) (s : Snapshot) → IsFreshCounting [] h s → IsFreshIn h s
none_waits-fresh h s = grind (arith, append-nil)
