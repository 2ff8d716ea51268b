-- A NATIVE BROUGHT BACK: one of the heaps that was not unlinked, which a native register holds from then on.
use Rattle.std.proofs.Common.{◌≡◌, ℕ, ◌<◌, Bool, true, false, ◌||◌, List, length, Option, Some, None, is_some, refl, sym, ◌∙◌, ap, subst, ⊎_elim}
use Rattle.std.specs.Prelude.{IsTrue}
use Rattle.std.proofs.lemmas.Bool.{false≢true}
use Rattle.cc_lists.specs.Members.{Among}
use Rattle.cc_lists.proofs.Members.{Among-map}
use Rattle.cc_names.specs.declared.name.Name.{Name}
use Rattle.cc_names.specs.declared.name.Name.TheVariants as name
use Rattle.cc_names.specs.declared.register.Reg.TheVariants.{N}
use Rattle.cc_names.specs.Names.{native, is_native}
use Rattle.cc_model.specs.declared.item.Event.TheVariants.{Freed}
use Rattle.cc_model.specs.Deeds.{native_held}
use Rattle.cc_model.specs.Graph.{Graph, set_register}
use Rattle.cc_model.specs.Reached.{Reached}
use Rattle.cc_model.specs.Given.{Given, is_usable_native, is_usable, MayComeBack}
use Rattle.cc_model.specs.WellMade.{IsWellMade}
use Rattle.cc_model.specs.Heap as heap
use Rattle.cc_model.specs.Heap.{Heap, HeapNative, native_at}
use Rattle.cc_model.specs.Cascade.{take_up}
use Rattle.cc_model.specs.Effects.{done_in, hold_native}
use Rattle.cc_model.specs.View.{view}
use Rattle.cc_model.specs.WellFormed.{IsWellFormed, native_names, names_there}
use Rattle.cc_model.specs.Colours.{HasColourInvariant}
use Rattle.cc_model.specs.StandsFor.{StandsFor}
use Rattle.cc_laws_heap.specs.Sound.{IsSound}
use Rattle.cc_laws_heap.proofs.Natives.{native_at-there, native_at-number}
use Rattle.cc_laws_heap.proofs.References.{native-there}
use Rattle.cc_laws_heap.proofs.Owning.{IsIn}
use Rattle.cc_laws_heap.proofs.Holds.{OfSome, OfSome-then}
use Rattle.cc_laws_heap.proofs.Coloured.{AreColoured-from_view, HasColourInvariant-from}
use Rattle.cc_laws_heap.proofs.CommandsSound.{done_in-sound}
use Rattle.cc_laws_heap.proofs.CommandsColours.{done_in-coloured}
use Rattle.cc_laws_heap.proofs.CascadeTakesOut.{let_go-gone}
use Rattle.cc_laws_heap.proofs.Given.{living-given}
use Rattle.cc_laws_heap.proofs.ReachedAlike.{reached-there}
use Rattle.cc_laws_heap.proofs.GraphReads.{MadeNative}
use Rattle.cc_laws_heap.proofs.GraphWrites.{IsWellMade-native_register}
use Rattle.cc_laws_heap.proofs.HeapShapes.{shape_at-there}
use Rattle.cc_laws_heap.proofs.Following.{shape_in-native, stands-follows}
use Rattle.cc_laws_heap.proofs.Standing.{follows-stands}
use Rattle.cc_laws_heap.proofs.StepsAlike.{Follows-hold}

-- What may come back

-- WHAT IS USABLE is a native of the heaps that was not unlinked.
pub usable-native : (h : Heap) (x : Name) → is_usable h x ≡ true → (n : HeapNative) × Among n h.natives × (n.unlinked ≡ false) × (native n.number ≡ x)
usable-native h (name.Native k) e = go (native_at h k.0) refl e
  where
    living : (n : HeapNative) (b : Bool) → n.unlinked ≡ b → elim b [ true ↦ false | false ↦ true ] || false ≡ true → n.unlinked ≡ false
    living n true p q = absurd (false≢true q)
    living n false p q = p

    go : (o : Option HeapNative) → native_at h k.0 ≡ o → is_usable_native o || false ≡ true →
        (n : HeapNative) × Among n h.natives × (n.unlinked ≡ false) × (native n.number ≡ name.Native k)
    go None p q = absurd (false≢true q)
    go (Some n) p q = (n, native_at-there h k.0 n p, living n n.unlinked refl q, ap native (native_at-number h k.0 n p))
usable-native h (name.Script k) e = absurd (false≢true e)
usable-native h (name.Reflector k) e = absurd (false≢true e)

-- what is usable is given
pub usable-given : (h : Heap) (g : Graph) (x : Name) → is_usable h x ≡ true → Given h g x
usable-given h g x e = let f = usable-native h x e in subst (Given h g) f.3 (living-given h g f.0 f.1 f.2)

-- A native that is given, or nothing
abbrev pub IsGivenNative : Heap → Graph → Option Name → Type 0
IsGivenNative h g x = OfSome (λ y. IsTrue (is_native y) × Given h g y) x

-- what may come back is such a native, or nothing
pub come_back-given : (h : Heap) (g : Graph) (x : Option Name) → MayComeBack h x → IsGivenNative h g x
come_back-given h g None u = tt
come_back-given h g (Some x) u = (let f = usable-native h x u in subst (λ y. IsTrue (is_native y)) f.3 refl, usable-given h g x u)

-- WHAT MAY COME BACK is there, or nothing.
pub come_back-there : (h : Heap) (x : Option Name) → MayComeBack h x → IsIn (native_names h) x
come_back-there h None u = λ y i. absurd i
come_back-there h (Some x) u = λ y i. ⊎_elim
    (λ e. let f = usable-native h x u in subst (λ z. Among z (native_names h)) (f.3 ∙ e) (Among-map (λ (n : HeapNative). native n.number) f.0 h.natives f.1))
    (λ n. absurd n) i

-- What is given

-- a native that is given was made
given-made : (h : Heap) (g : Graph) (x : Option Name) → StandsFor h g → IsGivenNative h g x → OfSome (MadeNative g) x
given-made h g None s u = tt
given-made h g (Some (name.Native k)) s u =
    let kept = s.given (name.Native k) u.1 in
    ap is_some (shape_in-native g k.0 kept.shape kept.made).1
given-made h g (Some (name.Script k)) s u = absurd (false≢true u.0)
given-made h g (Some (name.Reflector k)) s u = absurd (false≢true u.0)

-- a native that is given is there
given-there : (h : Heap) (g : Graph) (x : Option Name) → IsWellFormed h → StandsFor h g → IsGivenNative h g x → IsIn (native_names h) x
given-there h g None w s u = λ y i. absurd i
given-there h g (Some (name.Native k)) w s u = λ y i. ⊎_elim
    (λ e. let kept = s.given (name.Native k) u.1 in
    subst (λ z. Among z (native_names h)) e (native-there h k.0 w (shape_at-there h (native k.0) kept.shape kept.there)))
    (λ n. absurd n) i
given-there h g (Some (name.Script k)) w s u = absurd (false≢true u.0)
given-there h g (Some (name.Reflector k)) w s u = absurd (false≢true u.0)

-- A register holds it

-- THE HEAPS ARE SOUND where a native register holds a native that is there from then on, or nothing.
pub hold-sound : {owned : List ℕ} (h : Heap) (d : ℕ) (x : Option Name) → IsSound owned h → d < length h.native_registers → IsIn (native_names h) x →
    IsSound owned (hold_native h d x).heap
unfolding done_in
hold-sound h d x s place there = done_in-sound h (native_held d x) s (place, there)

-- THE COLOUR INVARIANT STAYS where a native register holds a native that is there from then on, or nothing.
pub hold-invariant : {owned : List ℕ} (h : Heap) (d : ℕ) (x : Option Name) → IsSound owned h → HasColourInvariant (view h) → d < length h.native_registers → IsIn (native_names h) x →
    HasColourInvariant (view (hold_native h d x).heap)
unfolding done_in
hold-invariant h d x s c place there = HasColourInvariant-from (hold_native h d x).heap (hold-sound h d x s place there).well_formed
    (done_in-coloured h (native_held d x) s (AreColoured-from_view h s.well_formed c) (place, there))

module _ {owned : List ℕ} (h : Heap) (g : Graph) (d : ℕ) (x : Option Name) (s : IsSound owned h) (m : IsWellMade g) (t : StandsFor h g)
    (place : d < length h.native_registers) (u : IsGivenNative h g x) where
  -- the graph is well made then
  pub hold-well : IsWellMade (set_register g (N d) x)
  hold-well = IsWellMade-native_register g d x m (given-made h g x t u)

  -- the heaps are well formed then
  formed : IsWellFormed (hold_native h d x).heap
  formed = (hold-sound h d x s place (given-there h g x s.well_formed t u)).well_formed

  -- THE HEAPS STAND FOR THE GRAPH where a register of both holds a native from then on that is given, or nothing.
  pub hold-stands : StandsFor (hold_native h d x).heap (set_register g (N d) x)
  hold-stands = follows-stands (Given h g) (hold_native h d x).heap (set_register g (N d) x) formed hold-well
      (Follows-hold (Given h g) h g d x x refl (OfSome-then (λ y. IsTrue (is_native y) × Given h g y) (Given h g) (λ y v. v.1) x u) (stands-follows h g s.well_formed t))

  -- NOTHING THAT IS FREED meanwhile is reached.
  pub hold-unreached : (y : Name) → Among (Freed y) (hold_native h d x).events → ¬ (Reached (set_register g (N d) x) y)
  unfolding hold_native
  hold-unreached y told r =
      let k : Heap = (hold_native h d x).heap in
      let gone = let_go-gone (heap.set_register (take_up h x) (N d) x) (heap.register (take_up h x) (N d)) y told in
      let there : Among y (names_there k) = reached-there k (set_register g (N d) x) y hold-stands r in
      gone.1 (subst (λ z. Among z (native_names k)) gone.0.1
      (native-there k gone.0.0 formed (subst (λ z. Among z (names_there k)) (sym gone.0.1) there)))
