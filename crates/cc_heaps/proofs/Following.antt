-- WHAT FOLLOWS FROM THE CHANGES OF CALLS: the colour invariant stays, every snapshot that was fresh is fresh, and no
-- unreached native is forgotten.
use Rattle.cc_heaps.proofs.ObjectsKept.{there-named}
use Rattle.cc_lists.proofs.Held.{held-is, of-one}
use Rattle.cc_heaps.proofs.Keys.{name-in, script_name-in}
use Rattle.std.proofs.Common.{◌≡◌, ℕ, ◌+◌, ◌<◌, ◌≤◌, true, List, ◌++◌, false, map, length, get_or, Option, Some, None, is_none, option_map, option_and_then, refl, sym, ◌∙◌, ap, subst, inl, inr, ⊎_elim, arith}
use Rattle.std.specs.Prelude.{IsTrue, IfSome}
use Rattle.std.specs.Option.{option_to_list}
use Rattle.std.proofs.lemmas.List.{length-map}
use Rattle.cc_lists.specs.Members.{Among}
use Rattle.cc_lists.proofs.Members.{Among-map_cases}
use Rattle.cc_lists.proofs.Searching.{find-map}
use Rattle.cc_names.specs.declared.name.Name.{Name}
use Rattle.cc_names.specs.declared.name.Name.TheVariants as name
use Rattle.cc_names.specs.Names.{native, object, reflector}
use Rattle.cc_names.specs.declared.kind.Colour.TheVariants.{Black}
use Rattle.cc_names.specs.declared.number.SKey.{SKey}
use Rattle.cc_names.specs.declared.register.Reg.TheVariants.{S}
use Rattle.cc_names.specs.Sizes.{most_slots}
use Rattle.cc_model.specs.Slots.{Slots}
use Rattle.cc_model.specs.Deeds.{Deed, native_made, plain_made, map_made, proxy_made, native_held, script_held, object_exposed}
use Rattle.cc_model.specs.Heap.{Heap, HeapNative, HeapScript, native_at, preserve, set_register, set_slot, change_script, change_native, with_native_slot, with_script_slot, suspect}
use Rattle.cc_model.specs.Cascade.{take_up, let_go}
use Rattle.cc_model.specs.End.{slots_now}
use Rattle.cc_model.specs.View.{view, ReachedIn}
use Rattle.cc_model.specs.Colours.{HasColourInvariant}
use Rattle.cc_model.specs.Effects.{done_in, hold_native, hold_script, make_native, make_object, make_proxy, with_object}
use Rattle.cc_model.specs.Exposure.{exposed}
use Rattle.cc_model.specs.Snapshot.{Snapshot}
use Rattle.cc_model.specs.Fresh.{IsFresh}
use Rattle.cc_model.specs.Suspected.{IsSuspected}
use Rattle.cc_model.specs.WellFormed.{IsWellFormed, native_names, names_there, script_names}
use Rattle.cc_laws_heap.specs.Sound.{IsSound, numbers_of}
use Rattle.cc_laws_heap.proofs.Face.{AreColoured-from_view, AreColoured-slot, HasColourInvariant-from, IsColoured, IsHeldBlack, IsIn, MayBeDone, SameScripts, SameScripts-coloured, SameScripts-take_up, done_in-coloured, done_in-sound, let_go-scripts, let_go-sound, option_map-found, names_there-take_up, native-no_script, native_slot-sound, script-named, script_slot-sound, take_up-sound}
use Rattle.cc_laws_snapshot.specs.Losing.{IsLoyal}
use Rattle.cc_laws_snapshot.proofs.Face.{AreGentle, AreGentle-then, AreTaken, IsGentleBut-then, done_in-fresh, done_in-loyal, fresh-coloured, fresh-more, let_go-caught, let_go-gentle, loyal-suspected, marked-buffer, native-name_of, native-no_script as native-is_no_script, native_slot-gentle, not_gray-held, script_slot-gentle, script_slot_written-suspected, stored-loyal, suspect-keeps_purple, suspect-purple, take_up-gentle, take_up-taken, with_mark-keeps}
use Rattle.cc_counted.specs.Counts.{slots_of}
use Rattle.cc_counted.specs.Counts as counts
use Rattle.cc_counted.specs.declared.held.Held.{Held}
use Rattle.cc_script.specs.Objects.{Object, colour_at, is_there, name_at, object_at}
use Rattle.cc_heaps.specs.Keyed.{Keyed, IsInOrder, counts_of, keyed_name, left_with, named_object, the_number}
use Rattle.cc_heaps.specs.Making.{MayBeMade, delegate_name, kind_to_make, slots_to_make}
use Rattle.cc_heaps.specs.declared.heaps.to_make.ToMake.{ToMake}
use Rattle.cc_heaps.specs.declared.heaps.to_make.ToMake.TheVariants.{Plain, Map, Proxy}
use Rattle.cc_names.specs.declared.kind.Kind.TheVariants as kind
use Rattle.cc_heaps.specs.Changes.{IsBlackHeld, held_name, script_name, stored_in}
use Rattle.cc_heaps.proofs.Content.{held-in, native-in}
use Rattle.cc_heaps.proofs.Reaching.{key-named, object_at-own}
use Rattle.cc_heaps.proofs.ScriptsChanged.{HasOneName-named}
use Rattle.cc_heaps.proofs.SlotsHeld.{slots-taken}

-- from one heap to the next the colours and every snapshot stay as they should be
pub record Follows (h g : Heap) : Type 0 where
  pub colours : HasColourInvariant (view h) → HasColourInvariant (view g)
  pub fresh : (s : Snapshot) → IsFresh h.natives_made (view h) s → IsFresh g.natives_made (view g) s

-- no unreached native is forgotten, whatever the candidates are
abbrev pub Remembers : Heap → Heap → Type 0
Remembers h g = (candidates : List ℕ) → IsSuspected (view h) candidates → IsSuspected (view g) candidates

-- both
pub record Keeps (h g : Heap) : Type 0 where
  pub follows : Follows h g
  pub suspected : Remembers h g

-- a gentle change that keeps the colours
pub Follows-from : (h g : Heap) → IsWellFormed h → IsWellFormed g → AreGentle h g → (IsColoured h → IsColoured g) → Follows h g
Follows-from h g early late gentle coloured = grind (arith, HasColourInvariant-from, AreColoured-from_view, fresh-coloured)

-- a loyal change
pub Remembers-from : (h g : Heap) → IsWellFormed h → IsWellFormed g → IsLoyal (view h) (view g) → Remembers h g
Remembers-from h g early late loyal candidates = loyal-suspected h g candidates early late loyal

-- WHATEVER A COMMAND COMES TO KEEPS BOTH.
pub done_in-keeps : {owned : List ℕ} (h : Heap) (d : Deed) → IsSound owned h → MayBeDone h d → Keeps h (done_in h d).heap
done_in-keeps h d s m = record {
  follows = record {
    colours = λ c. HasColourInvariant-from (done_in h d).heap after (done_in-coloured h d s (AreColoured-from_view h s.well_formed c) m);
    fresh = λ t f. done_in-fresh h t d s f m;
  };
  suspected = Remembers-from h (done_in h d).heap s.well_formed after (done_in-loyal h d s m);
}
  where
    after : IsWellFormed (done_in h d).heap
    after = (done_in-sound h d s m).well_formed

-- Script objects

-- Something is exposed.
pub exposed-keeps : {owned : List ℕ} (h : Heap) (x : Option Name) → IsSound owned h → Keeps h (exposed h x)
unfolding done_in
exposed-keeps h x s = done_in-keeps h (object_exposed x) s tt

-- A script register is written.
pub hold_script-keeps : {owned : List ℕ} (h : Heap) (d : ℕ) (x : Option Name) → IsIn (script_names h) x → IsSound owned h → Keeps h (hold_script h d x)
unfolding done_in
hold_script-keeps h d x there s = done_in-keeps h (script_held d x) s there

-- a slot of what has a name
script_slot : {owned : List ℕ} (h : Heap) (x : Name) (i : ℕ) (y : Option Name) → IsWellFormed (change_script h x (with_script_slot i y)) → IsIn (script_names h) y →
    IsHeldBlack h.scripts y → IsSound owned h → Keeps h (change_script h x (with_script_slot i y))
script_slot h x i y late there black s = record {
  follows = Follows-from h (change_script h x (with_script_slot i y)) s.well_formed late
      (script_slot-gentle h x i y s.well_formed there (not_gray-held h y black))
      (AreColoured-slot h.scripts h.script_registers x i y black);
  suspected = λ candidates. script_slot_written-suspected h candidates x i y s.well_formed;
}

-- A slot of a script object is written.
pub script_slot-keeps : {owned : List ℕ} (h : Heap) (x : Name) (i : ℕ) (y : Option Name) → Among x (script_names h) → IsIn (script_names h) y → IsHeldBlack h.scripts y →
    IsSound owned h → Keeps h (set_slot h (Some x) i y)
script_slot-keeps {owned} h (name.Native k) i y at there black s = absurd (native-no_script h k.0 s.well_formed at)
script_slot-keeps {owned} h (name.Script k) i y at there black s = script_slot h (object k.0) i y
    (script_slot-sound owned h (Some (object k.0)) i y (of-one (λ w. Among w (script_names h)) (object k.0) at) there s).well_formed there black s
script_slot-keeps {owned} h (name.Reflector k) i y at there black s = script_slot h (reflector k.0) i y
    (script_slot-sound owned h (Some (reflector k.0)) i y (of-one (λ w. Among w (script_names h)) (reflector k.0) at) there s).well_formed there black s

-- Natives

-- A native is made.
pub make_native-keeps : {owned : List ℕ} (h : Heap) (d n : ℕ) → d < length h.native_registers → n ≤ most_slots → h.natives_made < h.limits.natives → IsSound owned h → Keeps h (make_native h d n).heap
unfolding done_in
make_native-keeps h d n room few allowed s = done_in-keeps h (native_made d n) s (record { register = room; few = few; room = allowed })

-- A native register is written.
pub hold_native-keeps : {owned : List ℕ} (h : Heap) (d : ℕ) (x : Option Name) → d < length h.native_registers → IsIn (native_names h) x → IsSound owned h → Keeps h (hold_native h d x).heap
unfolding done_in
hold_native-keeps h d x room there s = done_in-keeps h (native_held d x) s (room, there)

-- a native that is suspected: who enters the buffer is purple
suspect-loyal : (h : Heap) (k : ℕ) → IsLoyal (view h) (view (suspect h k))
suspect-loyal h k = record {
  edge = λ x i m. inl m;
  register = λ i m. inl m;
  purple = λ i p. inl (inl (suspect-keeps_purple h k i p));
  buffer = λ x m. ⊎_elim
      (λ e. inr (inl (subst (λ z. Among z (view (suspect h k)).purple) e (suspect-purple h k))))
      (λ o. inl o)
      (marked-buffer h true k x m);
  living = λ x l. inl l;
}

-- A native is suspected.
pub suspect-keeps : (h : Heap) (k : ℕ) → IsWellFormed h → IsWellFormed (suspect h k) → Keeps h (suspect h k)
suspect-keeps h k early late = record {
  follows = record {
    colours = λ c. record { black_to_black = c.black_to_black; held_black = c.held_black; none_white = c.none_white };
    fresh = fresh-more h.natives_made (view h) (view (suspect h k)).buffer (view (suspect h k)).purple (with_mark-keeps true k h.buffer);
  };
  suspected = Remembers-from h (suspect h k) early late (suspect-loyal h k);
}

-- a slot whose new reference is taken
module _ (owned : List ℕ) (t : Heap) (k i : ℕ) (x : Option Name) (n : HeapNative) (found : native_at t k ≡ Some n) (within : i < length n.slots)
    (there : IsIn (names_there t) x) (taken : AreTaken t x) (s : IsSound (numbers_of x ++ owned) t) where
  abbrev old : Option Name
  old = get_or n.slots i None

  abbrev written : Heap
  written = change_native t k (with_native_slot i x)

  owed : IsSound (numbers_of old ++ owned) written
  owed = native_slot-sound owned t k i n x found within there s

  pub put-sound : IsSound owned (let_go written old).heap
  put-sound = let_go-sound owned written old owed

  pub put-gentle : IsHeldBlack t.scripts x → AreGentle t (let_go written old).heap
  put-gentle black = IsGentleBut-then (option_to_list old) t.natives_made t.natives_made (let_go written old).heap.natives_made
      (view t) (view written) (view (let_go written old).heap)
      (native_slot-gentle t k i n x s.well_formed found within taken (not_gray-held t x black))
      (let_go-gentle owned written old owed)
      (let_go-caught owned written old owed)

  pub put-scripts : SameScripts t (let_go written old).heap
  put-scripts = grind (arith, let_go-scripts)

-- A slot of a native is written: the colour invariant stays.
pub stored_in-colours : {owned : List ℕ} (h : Heap) (k i : ℕ) (x : Option Name) → i < length (slots_now (native_at h k)) → IsIn (names_there h) x →
    IsSound owned h → HasColourInvariant (view h) → HasColourInvariant (view (stored_in h k i x).heap)
stored_in-colours {owned} h k i x within there s colours = go (native_at t k) refl (subst (λ (ss : Slots). i < length ss) (sym (slots-taken h x k)) within)
  where
    t : Heap
    t = take_up h x

    go : (o : Option HeapNative) → native_at t k ≡ o → i < length (slots_now o) →
        HasColourInvariant (view (let_go (change_native t k (with_native_slot i x)) (get_or (slots_now o) i None)).heap)
    go None e l = absurd (omega arith)
    go (Some n) e l =
        let sound : IsSound (numbers_of x ++ owned) t = take_up-sound owned h x there s in
        let in_place : IsIn (names_there t) x = names_there-take_up h x there in
        let last : Heap = (let_go (change_native t k (with_native_slot i x)) (get_or n.slots i None)).heap in
        HasColourInvariant-from last (put-sound owned t k i x n e l in_place (take_up-taken h x) sound).well_formed
        (SameScripts-coloured t last (put-scripts owned t k i x n e l in_place (take_up-taken h x) sound)
        (SameScripts-coloured h t (SameScripts-take_up h x) (AreColoured-from_view h s.well_formed colours)))

-- It keeps snapshots fresh besides, where what comes in is black.
pub stored_in-follows : {owned : List ℕ} (h : Heap) (k i : ℕ) (x : Option Name) → i < length (slots_now (native_at h k)) → IsIn (names_there h) x → IsHeldBlack h.scripts x →
    IsSound owned h → Follows h (stored_in h k i x).heap
stored_in-follows {owned} h k i x within there black s = go (native_at t k) refl (subst (λ (ss : Slots). i < length ss) (sym (slots-taken h x k)) within)
  where
    t : Heap
    t = take_up h x

    same : SameScripts h t
    same = SameScripts-take_up h x

    go : (o : Option HeapNative) → native_at t k ≡ o → i < length (slots_now o) → Follows h (let_go (change_native t k (with_native_slot i x)) (get_or (slots_now o) i None)).heap
    go None e l = absurd (omega arith)
    go (Some n) e l =
        let sound : IsSound (numbers_of x ++ owned) t = take_up-sound owned h x there s in
        let in_place : IsIn (names_there t) x = names_there-take_up h x there in
        let black_still : IsHeldBlack t.scripts x = subst (λ os. IsHeldBlack os x) (sym same.scripts) black in
        let last : Heap = (let_go (change_native t k (with_native_slot i x)) (get_or n.slots i None)).heap in
        Follows-from h last s.well_formed (put-sound owned t k i x n e l in_place (take_up-taken h x) sound).well_formed
        (AreGentle-then h t last (take_up-gentle h x) (put-gentle owned t k i x n e l in_place (take_up-taken h x) sound black_still))
        (λ c. SameScripts-coloured t last (put-scripts owned t k i x n e l in_place (take_up-taken h x) sound) (SameScripts-coloured h t same c))

-- It forgets none, where the native is reached.
pub stored_in-remembers : {owned : List ℕ} (h : Heap) (k i : ℕ) (x : Option Name) → i < length (slots_now (native_at h k)) → IsIn (names_there h) x → ReachedIn (view h) (native k) →
    IsSound owned h → IsSound owned (stored_in h k i x).heap → Remembers h (stored_in h k i x).heap
stored_in-remembers h k i x within there reached s after = Remembers-from h (stored_in h k i x).heap s.well_formed after.well_formed
    (go (native_at (take_up h x) k) refl (subst (λ (ss : Slots). i < length ss) (sym (slots-taken h x k)) within))
  where
    go : (o : Option HeapNative) → native_at (take_up h x) k ≡ o → i < length (slots_now o) →
        IsLoyal (view h) (view (let_go (change_native (take_up h x) k (with_native_slot i x)) (get_or (slots_now o) i None)).heap)
    go None e l = absurd (omega arith)
    go (Some n) e l = stored-loyal h k i n x there e l reached s

-- The heaps with their keys

module _ (owned : List ℕ) (v : Keyed) (o : IsInOrder owned v) where
  pub name_at-there : (key : ℕ) → IsIn (script_names v.heap) (name_at v.scripts key)
  name_at-there key = name-in v.heap v.scripts o.named key

  pub script_name-there : (x : Option SKey) → IsIn (script_names v.heap) (script_name v x)
  script_name-there x = script_name-in v o.named x

  -- and black, where its colour is
  name_at-black : (key : ℕ) → colour_at v.scripts key ≡ Some Black → IsHeldBlack v.heap.scripts (name_at v.scripts key)
  name_at-black key e s m i =
      let f = Among-map_cases (named_object v.scripts) v.scripts s (subst (Among s) o.named m) in
      let at : f.0.key ≡ key = key-named v.scripts (HasOneName-named v.heap v.scripts o.named o.sound.well_formed) key s.name (held-is (name_at v.scripts key) s.name i)
      f.0 f.1 (ap (λ (p : HeapScript). p.name) f.2) in
      let both : Some f.0.colour ≡ Some Black =
      sym (ap (option_map (λ (p : Object). p.colour)) (object_at-own v.scripts o.one_key f.0 f.1)) ∙ (ap (colour_at v.scripts) at ∙ e) in
      sym (ap (λ (p : HeapScript). p.colour) f.2) ∙ (cc)

  pub script_name-black : (x : Option SKey) → IfSome x (λ k. colour_at v.scripts k.0 ≡ Some Black) → IsHeldBlack v.heap.scripts (script_name v x)
  script_name-black x b = grind (arith, name_at-black)

  -- what is held is black, where it is a script object
  pub held_name-black : (x : Option Held) → IsBlackHeld v x → IsHeldBlack v.heap.scripts (held_name v x)
  held_name-black x b = grind (arith, name_at-black, native-is_no_script, native-name_of, native-in, script-named)

-- A script object is made, and a register holds it: the heaps afterwards
abbrev pub made_by : Keyed → ℕ → ToMake → Heap
made_by v d what = make_object (preserve v.heap (delegate_name v what)) d (kind_to_make what) (slots_to_make what) (delegate_name v what)

-- the same where the delegate is preserved once the object is made
pub made_first : (v : Keyed) (d : ℕ) (what : ToMake) →
    set_register (preserve (with_object v.heap (kind_to_make what) (slots_to_make what) (delegate_name v what)) (delegate_name v what)) (S d) (Some (object (v.heap.scripts_made + 1))) ≡
    made_by v d what
made_first v d what = go (delegate_name v what)
  where
    go : (x : Option Name) → set_register (preserve (with_object v.heap (kind_to_make what) (slots_to_make what) x) x) (S d) (Some (object (v.heap.scripts_made + 1))) ≡
        make_object (preserve v.heap x) d (kind_to_make what) (slots_to_make what) x
    go None = refl
    go (Some (name.Native k)) = refl
    go (Some (name.Script k)) = refl
    go (Some (name.Reflector k)) = refl

-- of a proxy they are those of the definitions
pub proxy-made : (v : Keyed) (d : ℕ) (k : SKey) → colour_at v.scripts k.0 ≡ Some Black → make_proxy v.heap d (name_at v.scripts k.0) ≡ made_by v d (Proxy k)
proxy-made v d k black =
    let f = option_map-found (λ (q : Object). q.colour) (object_at v.scripts k.0) Black black in
    let n : name_at v.scripts k.0 ≡ Some f.0.name = ap (option_map (λ (q : Object). q.name)) f.1 in
    ap (make_proxy v.heap d) n ∙ ap (λ x. make_object (preserve v.heap x) d kind.Proxy 0 x) (sym n)

-- what has a colour is there
coloured-there : (v : Keyed) (k : SKey) → colour_at v.scripts k.0 ≡ Some Black → is_none (name_at v.scripts k.0) ≡ false
coloured-there v k black =
    let f = option_map-found (λ (q : Object). q.colour) (object_at v.scripts k.0) Black black in
    ap (λ o. is_none (option_map (λ (q : Object). q.name) o)) f.1

pub make_object-keeps : {owned : List ℕ} (v : Keyed) (o : IsInOrder owned v) (d : ℕ) (what : ToMake) → MayBeMade v.scripts what → v.heap.scripts_made < v.heap.limits.scripts →
    Keeps v.heap (made_by v d what)
unfolding done_in
make_object-keeps v o d (Plain n) few allowed = done_in-keeps v.heap (plain_made d n) o.sound (few, allowed)
make_object-keeps v o d Map few allowed = done_in-keeps v.heap (map_made d) o.sound allowed
make_object-keeps {owned} v o d (Proxy k) black allowed = subst (Keeps v.heap) (proxy-made v d k black)
    (done_in-keeps v.heap (proxy_made d (name_at v.scripts k.0)) o.sound
    (record { there = name_at-there owned v o k.0; black = λ c. name_at-black owned v o k.0 black }, coloured-there v k black, allowed))

-- A slot of the script object at a key is written.
pub object_slot-keeps : {owned : List ℕ} (v : Keyed) (o : IsInOrder owned v) (key i : ℕ) (x : Option SKey) → IsTrue (is_there v.scripts key) →
    IfSome x (λ k. colour_at v.scripts k.0 ≡ Some Black) → Keeps v.heap (set_slot v.heap (name_at v.scripts key) i (script_name v x))
object_slot-keeps {owned} v o key i x live black =
    let n = there-named v.scripts key live in
    subst (λ y. Keeps v.heap (set_slot v.heap y i (script_name v x))) (sym n.1)
    (script_slot-keeps v.heap n.0 i (script_name v x) (subst (IsIn (script_names v.heap)) n.1 (name_at-there owned v o key) n.0 (inl refl))
    (script_name-there owned v o x) (script_name-black owned v o x black) o.sound)

-- A slot of a native is written with what is held.
pub held-colours : {owned : List ℕ} (v w : Keyed) (o : IsInOrder owned v) (k i : ℕ) (x : Option Held) → i < length (slots_now (native_at v.heap k)) →
    w ≡ left_with v (stored_in v.heap k i (held_name v x)).heap → HasColourInvariant (view v.heap) → HasColourInvariant (view w.heap)
held-colours {owned} v w o k i x within e colours = subst (λ h. HasColourInvariant (view h)) (sym (ap (λ (u : Keyed). u.heap) e))
    (stored_in-colours v.heap k i (held_name v x) within (held-in owned v x o) o.sound colours)

pub held-follows : {owned : List ℕ} (v w : Keyed) (o : IsInOrder owned v) (k i : ℕ) (x : Option Held) → i < length (slots_now (native_at v.heap k)) → IsBlackHeld v x →
    w ≡ left_with v (stored_in v.heap k i (held_name v x)).heap → Follows v.heap w.heap
held-follows {owned} v w o k i x within black e = subst (Follows v.heap) (sym (ap (λ (u : Keyed). u.heap) e))
    (stored_in-follows v.heap k i (held_name v x) within (held-in owned v x o) (held_name-black owned v o x black) o.sound)

-- It forgets none, where the native is reached.
pub held-remembers : {owned : List ℕ} (v w : Keyed) (o : IsInOrder owned v) (k i : ℕ) (x : Option Held) → i < length (slots_now (native_at v.heap k)) → ReachedIn (view v.heap) (native k) →
    IsSound owned w.heap → w ≡ left_with v (stored_in v.heap k i (held_name v x)).heap → Remembers v.heap w.heap
held-remembers {owned} v w o k i x within reached after e =
    let same : w.heap ≡ (stored_in v.heap k i (held_name v x)).heap = ap (λ (u : Keyed). u.heap) e in
    subst (Remembers v.heap) (sym same)
    (stored_in-remembers v.heap k i (held_name v x) within (held-in owned v x o) reached o.sound (subst (IsSound owned) same after))

-- the slots of a native, as the counted heap shows them
pub slots-keyed : (v : Keyed) (k : ℕ) → counts.slots_at (native_at (counts.heap_of (counts_of v)) k) ≡ map (λ x. option_and_then (keyed_name v.scripts) x) (slots_now (native_at v.heap k))
slots-keyed v k = grind (arith, find-map)

-- there is room in a slot, by the counted natives and by the definitions
slots-counted : (v : Keyed) (k : ℕ) → length (counts.slots_at (native_at (counts.heap_of (counts_of v)) k)) ≡ length (slots_now (native_at v.heap k))
slots-counted v k = grind (arith, slots-keyed, length-map)

pub within-named : (v : Keyed) (key i : ℕ) → i < length (slots_of (counts_of v) key) → i < length (slots_now (native_at v.heap (the_number v key)))
within-named v key i within = omega (arith, within, slots-counted v (the_number v key))
