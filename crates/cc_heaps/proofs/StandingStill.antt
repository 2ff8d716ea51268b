-- HEAPS GO ON STANDING FOR THE SAME GRAPHS, and the colours stay as they should be: where something changes that no graph
-- sees, where references are taken and given up, and where what no register reaches is unlinked.
use Rattle.std.proofs.Common.{arith, ◌≡◌, ℕ, Bool, List, [], ◌∷◌, Option, Some, None, refl, sym, ◌∙◌, subst, inl, IsSome, MatchOption}
use Rattle.cc_lists.specs.Members.{Among}
use Rattle.cc_names.specs.declared.name.Name.{Name}
use Rattle.cc_names.specs.declared.number.NKey.{NKey}
use Rattle.cc_names.specs.Names.{native}
use Rattle.cc_model.specs.Given.{Given}
use Rattle.cc_model.specs.Heap.{Heap, Buffered, buffered_as}
use Rattle.cc_model.specs.View.{view}
use Rattle.cc_model.specs.Cascade.{add_ref, cascade}
use Rattle.cc_model.specs.End.{unlink}
use Rattle.cc_model.specs.Exposure.{exposed}
use Rattle.cc_model.specs.Colours.{HasColourInvariant}
use Rattle.cc_model.specs.WellFormed.{IsWellFormed, native_names}
use Rattle.cc_model.specs.StandsFor.{shape_at}
use Rattle.cc_laws_heap.specs.Sound.{IsSound}
use Rattle.cc_laws_heap.specs.Apart.{AreApart}
use Rattle.cc_laws_heap.specs.Freeing.{SameBeside}
use Rattle.cc_laws_heap.proofs.Face.{AreColoured-from_view, Follows-left, HasColourInvariant-from, HoldsTheSame-add_ref, Leaves, Leaves-exposed, add_ref-sound, add_ref-stands, cascade-frees, cascade-sound, cascade-stands, exposed-sound, follows-stands, stands-follows, unlink-keeps, unlink-stands}
use Rattle.cc_heaps.specs.Keyed.{Keyed, IsInOrder, changed_to, number_at, the_number}
use Rattle.cc_heaps.specs.Standing.{StillStands}
use Rattle.cc_heaps.proofs.Calls.{number-there}

-- from one heap to the next the graphs stay, and the colours stay as they should be
pub record GoesOn (h k : Heap) : Type 0 where
  pub stands : StillStands h k
  pub colours : HasColourInvariant (view h) → HasColourInvariant (view k)

-- What no graph sees

-- objects that keep their names and shapes, or are left out
StillStands-left : (h k : Heap) → IsWellFormed h → IsWellFormed k → Leaves h k → StillStands h k
StillStands-left h k w v l g m s = follows-stands (Given h g) k g v m (Follows-left (Given h g) h k g l (stands-follows h g w s))

-- Something is exposed.
pub exposed-still : {owned : List ℕ} (h : Heap) (x : Option Name) → IsSound owned h → StillStands h (exposed h x)
exposed-still {owned} h x s = StillStands-left h (exposed h x) s.well_formed (exposed-sound owned h x s).well_formed (Leaves-exposed h x)

-- The buffer

module _ (h : Heap) (buffer : List Buffered) where
  abbrev rebuffered : Heap
  rebuffered = record h { buffer = buffer }

  shape_at-buffer : (x : Name) → shape_at rebuffered x ≡ shape_at h x
  shape_at-buffer x = grind arith

  -- The buffer changes.
  pub buffer-goes_on : GoesOn h (record h { buffer = buffer })
  buffer-goes_on = record {
    stands = λ g m s. record {
      native_registers = s.native_registers;
      script_registers = s.script_registers;
      limits = s.limits;
      natives_made = s.natives_made;
      scripts_made = s.scripts_made;
      natives = s.natives;
      scripts = s.scripts;
      given = λ x d. let k = s.given x d in record { shape = k.shape; made = k.made; there = shape_at-buffer x ∙ k.there };
      values = s.values;
      spent = s.spent;
      entries = s.entries;
      blank = s.blank;
    };
    colours = λ c. record { black_to_black = c.black_to_black; held_black = c.held_black; none_white = c.none_white };
  }

-- a native and its mark
abbrev pub Front : Type 0
Front = NKey × Bool

-- the front of the buffer taken out, where there is one
abbrev pub TakesFront : Keyed → Keyed → Option Front → Type 0
TakesFront v w o = MatchOption o ((v.heap.buffer ≡ []) × (w ≡ v))
    (λ front. (v.heap.buffer ≡ buffered_as (the_number v front.0.0) front.1 ∷ w.heap.buffer)
    × (w ≡ changed_to v (record v.heap { buffer = w.heap.buffer })) × IsSome (number_at v front.0.0))

-- The front of the buffer is taken out.
pub front-goes_on : (v w : Keyed) (o : Option Front) → TakesFront v w o → GoesOn v.heap w.heap
front-goes_on v w None t = subst (λ (u : Keyed). GoesOn v.heap u.heap) (sym t.1) (record { stands = λ g m s. s; colours = λ c. c })
front-goes_on v w (Some front) t = subst (λ (u : Keyed). GoesOn v.heap u.heap) (sym t.1) (buffer-goes_on v.heap w.heap.buffer)

-- Natives

-- what changes natives and the buffer alone leaves the colours
colours-beside : (h k : Heap) → IsWellFormed h → IsWellFormed k → SameBeside h k → HasColourInvariant (view h) → HasColourInvariant (view k)
colours-beside h k w v b c = HasColourInvariant-from k v (rw (b.scripts, b.script_registers) (AreColoured-from_view h w c))

-- A reference is taken.
pub add_ref-goes_on : (owned : List ℕ) (v : Keyed) (key : ℕ) → IsInOrder owned v → IsSome (number_at v key) → GoesOn v.heap (add_ref v.heap (the_number v key))
add_ref-goes_on owned v key o live = record {
  stands = λ g m t. add_ref-stands owned v.heap g (the_number v key) o.sound there m t;
  colours = colours-beside v.heap (add_ref v.heap (the_number v key)) o.sound.well_formed (add_ref-sound owned v.heap (the_number v key) there o.sound).well_formed
      (HoldsTheSame-add_ref v.heap (the_number v key)).beside;
}
  where
    there : Among (native (the_number v key)) (native_names v.heap)
    there = number-there owned v key o live

-- A reference is given up, with all that is deleted then.
pub cascade-goes_on : (owned : List ℕ) (h : Heap) (k : ℕ) → IsSound (k ∷ owned) h → GoesOn h (cascade h k).heap
cascade-goes_on owned h k s = record {
  stands = λ g m t. cascade-stands owned h g k s m t;
  colours = colours-beside h (cascade h k).heap s.well_formed (cascade-sound owned h k s).well_formed (cascade-frees owned h k s).1.beside;
}

module _ (owned : List ℕ) (h : Heap) (k : ℕ) (s : IsSound (k ∷ owned) h) where
  -- A native that is apart is unlinked.
  pub unlink-still : AreApart h (k ∷ []) → StillStands h (unlink h k).heap
  unlink-still apart g m t = unlink-stands (k ∷ owned) h g k s (inl refl) m t apart

  -- Any that is unlinked leaves the colours.
  pub unlink-colours : HasColourInvariant (view h) → HasColourInvariant (view (unlink h k).heap)
  unlink-colours =
      let u = unlink-keeps (k ∷ owned) h k s (inl refl) in
      colours-beside h (unlink h k).heap s.well_formed u.1.well_formed u.2.leaves.beside
