-- WHAT A SLOT OF A NATIVE HOLDS, MOVED INTO ANOTHER: it is touched or exposed and taken out, and then the other slot takes it. The
-- colours and snapshots stay as they should be, none is forgotten, and the heaps stand for the graph in which it is moved.
use Rattle.std.proofs.Common.{arith, ◌≡◌, ℕ, ◌<◌, ◌==◌, List, [], ◌++◌, find, map, length, get_or, Option, Some, None, option_and_then, refl, sym, ◌∙◌, ap, subst, inl, IsTrue}
use Rattle.std.specs.Option.{option_to_list}
use Rattle.std.proofs.Math.ListN.{get_or-map}
use Rattle.cc_lists.specs.Members.{Among}
use Rattle.cc_lists.proofs.Least.{derive-along}
use Rattle.cc_lists.proofs.Members.{Among-left, Among-map}
use Rattle.cc_names.specs.declared.name.Name.{Name}
use Rattle.cc_names.specs.Names.{native, reflector}
use Rattle.cc_names.specs.Places.{where_set}
use Rattle.cc_model.specs.Slots.{contents, from_to}
use Rattle.cc_model.specs.Entries.{rules_of}
use Rattle.cc_model.specs.Places.{places_of_native}
use Rattle.cc_model.proofs.Places.{contents-last}
use Rattle.cc_model.specs.Graph as graph
use Rattle.cc_model.specs.Graph.{Graph}
use Rattle.cc_model.specs.Given.{Given}
use Rattle.cc_model.specs.Heap.{Heap, HeapNative, Outcome, native_at, set_slot, change_native, with_native_slot}
use Rattle.cc_model.specs.Cascade.{let_go}
use Rattle.cc_model.specs.End.{slots_now}
use Rattle.cc_model.specs.Effects.{touched}
use Rattle.cc_model.specs.Exposure.{exposed}
use Rattle.cc_model.specs.Telling.{Telling, TellsEvents}
use Rattle.cc_model.specs.View.{view, ReachedIn, native_edges}
use Rattle.cc_model.specs.WellFormed.{IsWellFormed, script_names, names_there}
use Rattle.cc_laws_heap.specs.Sound.{IsSound, numbers_of}
use Rattle.cc_laws_heap.proofs.Face.{Follows-left, Follows-slot, Grows, Grows-change_native, IsIn, IsWellMade-change_native, KeepsNative-slot, Leaves-let_go, Leaves-touched, Made, OfSome-then, SameScripts-coloured, contents-get, native_at-number, native_at-there, native_names-change, script_names-exposed, slot-there, taken_out-black, taken_out-coloured, taken_out-length, taken_out-names, taken_out-sound, taken_out-there, touched-natives}
use Rattle.cc_laws_snapshot.proofs.Face.{AreGentle-then, moved-loyal, native-edge, taken_out-gentle, taken_out-taken}
use Rattle.cc_counted.specs.Counts.{Counts, is_live, key_left, name_of, number_or_none, slots_of}
use Rattle.cc_counted.specs.declared.held.Held.{Held}
use Rattle.cc_script.specs.Objects.{name_at}
use Rattle.cc_heaps.specs.Keyed.{Keyed, IsInOrder, changed_to, counts_of, keyed_name, left_with, the_number}
use Rattle.cc_heaps.specs.Changes.{KeepsKeys, held_name, moved_in, slot_held, taken_from, written_in}
use Rattle.cc_heaps.specs.Leaving.{TellsWhatIsFreed}
use Rattle.cc_heaps.specs.Marks.{MarksGoOn}
use Rattle.cc_heaps.specs.Standing.{IsReached, StandsAfter}
use Rattle.cc_heaps.proofs.ContentNames.{IsHeldAs, content-named}
use Rattle.cc_heaps.proofs.Following.{Follows, Follows-from, Remembers, Remembers-from, name_at-there, put-sound, put-gentle, put-scripts, slots-keyed, within-named}
use Rattle.cc_heaps.proofs.Leaving.{given-up}
use Rattle.cc_heaps.proofs.LeftWith.{key_left-there}
use Rattle.cc_heaps.proofs.SlotsHeld.{has-slot}
use Rattle.cc_heaps.proofs.StandingAfter.{StandsAfter-from, handed-made}
use Rattle.cc_heaps.proofs.MarksKept.{marks-same, marks-then}
use Rattle.cc_heaps.proofs.ReflectingWritten.{handed-given}

-- a script object is exposed, where no native is what is touched
pub touched-exposed : (h : Heap) (x : Option Name) → numbers_of x ≡ [] → exposed h x ≡ touched h x
unfolding exposed
touched-exposed h x e = grind arith

-- what is there among script objects stays
pub touched-scripts : (h : Heap) (x : Option Name) → IsWellFormed h → script_names (touched h x) ≡ script_names h
touched-scripts h x w = grind (arith, script_names-exposed)

module _ (h : Heap) (k i m j : ℕ) (to : i < length (slots_now (native_at h k))) (from : j < length (slots_now (native_at h m))) where
  -- what moves, and the heaps from which it is taken
  abbrev x : Option Name
  x = slot_held h m j

  abbrev t : Heap
  t = taken_from h m j

  a : (n : HeapNative) × (native_at h m ≡ Some n)
  a = has-slot (native_at h m) j from

  b : (n : HeapNative) × (native_at t k ≡ Some n)
  b = has-slot (native_at t k) i (subst (λ n. i < n) (sym (taken_out-length h m j x k)) to)

  room : j < length a.0.slots
  room = subst (λ o. j < length (slots_now o)) a.1 from

  room_then : i < length b.0.slots
  room_then = subst (λ o. i < length (slots_now o)) b.1 (subst (λ n. i < n) (sym (taken_out-length h m j x k)) to)

  is : get_or a.0.slots j None ≡ x
  is = sym (ap (λ o. get_or (slots_now o) j None) a.1)

  -- the heaps once the other slot holds it, as that slot held something
  abbrev last : Option HeapNative → Heap
  last o = (let_go (change_native t k (with_native_slot i x)) (get_or (slots_now o) i None)).heap

  -- what a slot of a reached native holds is reached
  x-reached : IsReached h (Some (native m)) → IsReached h x
  x-reached r = go x refl
    where
      go : (y : Option Name) → x ≡ y → IsReached h y
      go None e = tt
      go (Some y) e = derive-along (view h).registers (view h).edges (rules_of (view h).joints) (native m) y
          (native-edge h a.0 (native m) y (native_at-there h m a.0 a.1)
          (subst (λ n. Among (native n, y) (native_edges a.0)) (native_at-number h m a.0 a.1)
          (Among-map (from_to (native a.0.number)) y (contents (places_of_native a.0))
          (subst (Among y) (sym (contents-last a.0.slots (where_set a.0.preserved (Some (reflector a.0.number)))))
          (Among-left y (contents a.0.slots) (option_to_list (where_set a.0.preserved (Some (reflector a.0.number))))
          (contents-get a.0.slots j y (is ∙ e))))))) r

  module _ {owned : List ℕ} (s : IsSound owned h) where
    there : IsIn (names_there t) x
    there = taken_out-there h m j a.0 x s.well_formed a.1 is

    sound : IsSound (numbers_of x ++ owned) t
    sound = taken_out-sound h m j x owned a.0 a.1 room is s

    well : IsWellFormed (last (Some b.0))
    well = (put-sound owned t k i x b.0 b.1 room_then there (taken_out-taken h m j x) sound).well_formed

    -- THE COLOURS AND SNAPSHOTS stay as they should be
    pub moved_in-follows : Follows h (moved_in h k i m j).heap
    moved_in-follows = subst (λ o. Follows h (last o)) (sym b.1)
        (Follows-from h (last (Some b.0)) s.well_formed well
        (AreGentle-then h t (last (Some b.0)) (taken_out-gentle h m j x owned a.0 a.1 room is s)
        (put-gentle owned t k i x b.0 b.1 room_then there (taken_out-taken h m j x) sound (taken_out-black h m j x s.well_formed)))
        (λ c. SameScripts-coloured t (last (Some b.0)) (put-scripts owned t k i x b.0 b.1 room_then there (taken_out-taken h m j x) sound) (taken_out-coloured h m j x c)))

    -- NONE IS FORGOTTEN where the native that receives is reached then
    pub moved_in-remembers : ReachedIn (view t) (native k) → Remembers h (moved_in h k i m j).heap
    moved_in-remembers reached = subst (λ o. Remembers h (last o)) (sym b.1)
        (Remembers-from h (last (Some b.0)) s.well_formed well (moved-loyal h m j a.0 x k i b.0 a.1 room is b.1 room_then reached s))

    -- THE HEAPS STAND for the graph in which it is moved
    pub moved_in-stands : IsWellFormed (moved_in h k i m j).heap → IsReached h (Some (native k)) → IsReached h (Some (native m)) →
        StandsAfter h (moved_in h k i m j).heap (λ g. graph.move_slot g (Some (native k)) i (Some (native m)) j x)
    moved_in-stands late p q = StandsAfter-from h (moved_in h k i m j).heap (λ g. graph.move_slot g (Some (native k)) i (Some (native m)) j x) s.well_formed late
        (λ g w f.
        let emptied : Graph = graph.set_slot g (Some (native m)) j None in
        let more : Grows g emptied = Grows-change_native g m (graph.with_slot j None) (λ n e. e) in
        IsWellMade-change_native emptied k (graph.with_slot i x) (λ n e. e)
        (IsWellMade-change_native g m (graph.with_slot j None) (λ n e. e) w (KeepsNative-slot g m j None tt))
        (KeepsNative-slot emptied k i x (OfSome-then (Made g) (Made emptied) more.made x (handed-made h g s.well_formed w f x (x-reached q)))))
        (λ g w f d. Follows-left (Given h g) (set_slot t (Some (native k)) i x) (moved_in h k i m j).heap (graph.move_slot g (Some (native k)) i (Some (native m)) j x)
        (Leaves-let_go (set_slot t (Some (native k)) i x) (slot_held t k i))
        (Follows-slot (Given h g) t (graph.set_slot g (Some (native m)) j None) (Some (native k)) i x
        (handed-given h g (Some (native k)) s.well_formed w f p) (handed-given h g x s.well_formed w f (x-reached q)) (λ l n e. absurd (cc))
        (Follows-slot (Given h g) (touched h x) g (Some (native m)) j None (handed-given h g (Some (native m)) s.well_formed w f q) tt (λ l n e. absurd (cc))
        (Follows-left (Given h g) h (touched h x) g (Leaves-touched h x) d))))

-- The heaps with their keys

-- what the counted heap answers of a slot is held under the name of what the slot holds
pub slot-named : (owned : List ℕ) (v : Keyed) (o : IsInOrder owned v) (d : Counts) → d ≡ counts_of v → (key j : ℕ) (x : Option Held) → j < length (slots_of (counts_of v) key) →
    name_of d x ≡ get_or (slots_of d key) j None → IsTrue (is_live d x) → IsHeldAs v x (slot_held v.heap (the_number v key) j)
slot-named owned v o d is key j x within e live =
    let k = the_number v key in
    let a = has-slot (native_at v.heap k) j (within-named v key j within) in
    content-named owned v o (slot_held v.heap k j) x (slot-there v.heap k j a.0 (slot_held v.heap k j) o.sound.well_formed a.1 (sym (ap (λ n. get_or (slots_now n) j None) a.1)))
    (subst (λ (d : Counts). name_of d x ≡ get_or (slots_of d key) j None) is e
    ∙ (ap (λ ss. get_or ss j None) (slots-keyed v k) ∙ get_or-map (λ y. option_and_then (keyed_name v.scripts) y) (slots_now (native_at v.heap k)) j None))
    (subst (λ (d : Counts). IsTrue (is_live d x)) is live)

-- the number at a key, where keys are the same
pub number-same : (v w : Keyed) (key : ℕ) → w.keys ≡ v.keys → the_number w key ≡ the_number v key
number-same v w key e = ap (λ ks. number_or_none (get_or ks key None)) e

-- once something is touched, slots hold what they did
pub slots-touched : (v w : Keyed) (key : ℕ) (x : Option Name) → w.keys ≡ v.keys → w.heap ≡ touched v.heap x →
    slots_now (native_at w.heap (the_number w key)) ≡ slots_now (native_at v.heap (the_number v key))
slots-touched v w key x keys e = λ i. slots_now (find (λ (n : HeapNative). n.number == number-same v w key keys i) ((ap (λ (h : Heap). h.natives) e ∙ touched-natives v.heap x) i))

-- there is room in a slot once another is emptied
pub within-taken : (v w : Keyed) (key i from j : ℕ) → w.keys ≡ v.keys → w.heap ≡ taken_from v.heap from j → i < length (slots_of (counts_of v) key) →
    i < length (slots_now (native_at w.heap (the_number w key)))
within-taken v w key i from j keys e within =
    let same : length (slots_now (native_at w.heap (the_number w key))) ≡ length (slots_now (native_at (taken_from v.heap from j) (the_number v key))) =
    λ l. length (slots_now (native_at (e l) (number-same v w key keys l))) in
    omega (arith, same, within-named v key i within, taken_out-length v.heap from j (slot_held v.heap from j) (the_number v key))

-- the calls of a move, by what each comes to
pub record Moves (v t put w : Keyed) (to from : ℕ) (i j : ℕ) (content held : Option Held) : Type 0 where
  pub taken : t.heap ≡ taken_from v.heap (the_number v from) j
  pub keys : t.keys ≡ v.keys
  pub kept : KeepsKeys v t
  pub name : held_name t content ≡ slot_held v.heap (the_number v from) j
  pub put_is : put ≡ changed_to t (set_slot t.heap (Some (native (the_number t to))) i (held_name t content))
  pub held_is : held_name t held ≡ slot_held t.heap (the_number t to) i
  pub left : w ≡ left_with put (let_go put.heap (held_name put held)).heap

module _ {v t put w : Keyed} {to from i j : ℕ} {content held : Option Held} (c : Moves v t put w to from i j content held) where
  abbrev moved : Outcome
  moved = moved_in v.heap (the_number v to) i (the_number v from) j

  -- they give up what the definitions do
  pub moved-is : let_go put.heap (held_name put held) ≡ moved
  moved-is =
      ap (λ (u : Keyed). let_go u.heap (held_name u held)) c.put_is
      ∙ (ap (let_go (set_slot t.heap (Some (native (the_number t to))) i (held_name t content))) c.held_is
      ∙ (λ e. written_in (c.taken e) (number-same v t to c.keys e) i (c.name e)))

  pub moved-heap : w.heap ≡ moved.heap
  moved-heap = ap (λ (u : Keyed). u.heap) c.left ∙ ap (λ (o : Outcome). o.heap) moved-is

  pub moved-keys : w.keys ≡ map (key_left w.heap) v.keys
  moved-keys = ap (λ (u : Keyed). u.keys) c.left
      ∙ (λ e. map (key_left (sym (ap (λ (u : Keyed). u.heap) c.left) e)) ((ap (λ (u : Keyed). u.keys) c.put_is ∙ c.keys) e))

  -- an object that is there has the key that it had
  pub moved-kept : {owned : List ℕ} → IsInOrder owned v → KeepsKeys v w
  moved-kept {owned} o = record {
    natives = λ key n at there. ap (λ ks. get_or ks key None) moved-keys ∙ (get_or-map (key_left w.heap) v.keys key None ∙ (ap (key_left w.heap) at ∙ key_left-there w.heap n there));
    scripts = λ key y at there. ap (λ (u : Keyed). name_at u.scripts key) c.left ∙ (ap (λ (u : Keyed). name_at u.scripts key) c.put_is
        ∙ c.kept.scripts key y at (subst (λ h. Among y (script_names h)) (sym c.taken)
        (subst (Among y) (sym (touched-scripts v.heap (slot_held v.heap (the_number v from) j) o.sound.well_formed))
        (name_at-there owned v o key y (subst (λ q. Among y (option_to_list q)) (sym at) (inl refl))))));
  }

  -- a marking in slices is left as what was taken out left it
  pub moved-marks : MarksGoOn v t → MarksGoOn v w
  moved-marks k = marks-then k (marks-same t w (ap (λ (u : Keyed). u.marking) c.left ∙ ap (λ (u : Keyed). u.marking) c.put_is)
      (ap (λ (u : Keyed). u.scripts) c.left ∙ ap (λ (u : Keyed). u.scripts) c.put_is))

  -- the names before what the slot held is given up
  put-names : IsWellFormed v.heap → names_there put.heap ≡ names_there v.heap
  put-names well =
      ap (λ (u : Keyed). names_there u.heap) c.put_is
      ∙ (ap (λ xs. xs ++ script_names t.heap) (native_names-change t.heap (the_number t to) (with_native_slot i (held_name t content)) (λ n. refl))
      ∙ (ap names_there c.taken ∙ taken_out-names v.heap (the_number v from) j (slot_held v.heap (the_number v from) j) well))

  -- all that leaves is told
  pub moved-tells : {owned late : List ℕ} → IsInOrder owned v → IsSound (numbers_of (held_name put held) ++ late) put.heap → IsInOrder late w → (before after : Telling) →
      TellsEvents before after (let_go put.heap (held_name put held)).events → TellsWhatIsFreed v.heap w.heap before after
  moved-tells {owned} {late} o s p before after told =
      let names = put-names o.sound.well_formed in
      given-up late v.heap put.heap w.heap (held_name put held) before after s (ap (λ (u : Keyed). u.heap) c.left) p.sound.well_formed
      (λ y m. subst (Among y) (sym names) m) (λ n m out. subst (Among (native n)) names m) told
