-- WHAT IS MADE, AND WHAT IS EXPOSED, keeps every snapshot fresh.
use Rattle.std.proofs.Common.{◌≡◌, ℕ, ◌+◌, ◌<◌, ◌≤◌, Bool, true, false, List, length, Option, Some, None, is_some, refl, ap, inl}
use Rattle.cc_lists.specs.Members.{Among}
use Rattle.cc_names.specs.declared.name.Name.{Name}
use Rattle.cc_names.specs.declared.name.Name.TheVariants as name
use Rattle.cc_names.specs.declared.kind.Kind.{Kind}
use Rattle.cc_names.specs.declared.kind.Kind.TheVariants.{Reflector}
use Rattle.cc_names.specs.declared.kind.Colour.{Colour}
use Rattle.cc_names.specs.declared.kind.Colour.TheVariants.{White, Gray, Black}
use Rattle.cc_names.specs.Names.{native, object, reflector}
use Rattle.cc_names.specs.Sizes.{most_slots}
use Rattle.cc_model.specs.Slots.{empty_slots, reflector_slots}
use Rattle.cc_model.specs.Heap.{Heap, is_gray_colour, has_reflector, new_script}
use Rattle.cc_model.specs.View.{view}
use Rattle.cc_model.specs.Effects.{make_native, make_object, with_reflector, wrapped}
use Rattle.cc_model.specs.Exposure.{exposed}
use Rattle.cc_model.specs.WellFormed.{FitsName, is_proxy_kind, native_names, script_names}
use Rattle.cc_model.specs.Snapshot.{Snapshot}
use Rattle.cc_laws_heap.specs.Sound.{IsSound}
use Rattle.cc_laws_heap.proofs.CommandsColours.{blank-holds, make_object-coloured}
use Rattle.cc_laws_heap.proofs.Owning.{IsIn}
use Rattle.cc_laws_heap.proofs.ScriptsKept.{exposed-sound}
use Rattle.cc_laws_heap.proofs.ScriptCommands.{make_object-sound, with_reflector-sound}
use Rattle.cc_laws_heap.proofs.NativeCommands.{make_native-sound}
use Rattle.cc_laws_heap.proofs.NativesKeepScripts.{SameScripts-coloured, make_native-scripts}
use Rattle.cc_laws_heap.proofs.Coloured.{IsColoured, is_gray, names_with-there}
use Rattle.cc_laws_heap.proofs.ColourChanges.{IsHeldBlack, AreColoured-push, exposed-coloured}
use Rattle.cc_laws_snapshot.specs.Kinds.{IsFreshIn, IsNativeThere, IsNotGrayIn, IsThereIn, IsScriptObject}
use Rattle.cc_laws_snapshot.proofs.SoundView.{named-there}
use Rattle.cc_laws_snapshot.proofs.NativesHeld.{make_native-gentle}
use Rattle.cc_laws_snapshot.proofs.ScriptParts.{exposed-gentle, make_object-gentle, with_reflector-gentle}
use Rattle.cc_laws_snapshot.proofs.KindsFresh.{fresh-coloured}

-- A native is made, and a register holds it.
pub native_made-fresh : (owned : List ℕ) (h : Heap) (s : Snapshot) (d n : ℕ) → IsSound owned h → d < length h.native_registers → n ≤ most_slots → h.natives_made < h.limits.natives →
    IsFreshIn h s → IsFreshIn (make_native h d n).heap s
native_made-fresh owned h s d n sound room few allowed =
    fresh-coloured h (make_native h d n).heap sound.well_formed (make_native-sound owned h d n room few allowed sound).well_formed
    (make_native-gentle owned h d n room few allowed sound)
    (SameScripts-coloured h (make_native h d n).heap (make_native-scripts h d n)) s

-- where none is white, what is not gray is black
not_gray-black : (h : Heap) (x : Option Name) → IsColoured h → IsNotGrayIn (view h) x → IsHeldBlack h.scripts x
not_gray-black h x c pale o m i = go o.colour refl
  where
    go : (k : Colour) → o.colour ≡ k → k ≡ Black
    go White e = absurd (c.none_white o m e)
    go Gray e = absurd (pale o.name i (names_with-there is_gray h.scripts o m (ap is_gray_colour e)))
    go Black e = refl

-- A script object is made, and a register holds it; a delegate that it has is a script object that is there and not gray.
pub object_made-fresh : (owned : List ℕ) (h : Heap) (s : Snapshot) (d : ℕ) (kind : Kind) (n : ℕ) (its_delegate : Option Name) → IsSound owned h →
    FitsName (object (h.scripts_made + 1)) kind (empty_slots n) → is_some its_delegate ≡ is_proxy_kind kind →
    IsScriptObject its_delegate → IsThereIn (view h) its_delegate → IsNotGrayIn (view h) its_delegate →
    h.scripts_made < h.limits.scripts → IsFreshIn h s → IsFreshIn (make_object h d kind n its_delegate) s
object_made-fresh owned h s d kind n its_delegate sound fits of_kind script there pale room =
    fresh-coloured h (make_object h d kind n its_delegate) sound.well_formed
    (make_object-sound owned h d kind n its_delegate fits (record { of_kind = of_kind; there = is_there }) room sound).well_formed
    (make_object-gentle h d kind n its_delegate sound.well_formed is_there pale)
    (λ c. make_object-coloured h d kind n its_delegate sound.well_formed (not_gray-black h its_delegate c pale) c) s
  where
    is_there : IsIn (script_names h) its_delegate
    is_there y m = named-there h y (there y m (script y m))

-- A reflector is made for a native that has none.
pub reflector_made-fresh : (owned : List ℕ) (h : Heap) (s : Snapshot) (k : ℕ) → IsSound owned h → Among (native k) (native_names h) →
    has_reflector h k ≡ false → IsFreshIn h s → IsFreshIn (with_reflector h k) s
reflector_made-fresh owned h s k sound there none =
    fresh-coloured h (with_reflector h k) sound.well_formed (with_reflector-sound owned h k there none sound).well_formed
    (with_reflector-gentle owned h k there sound)
    (λ c. AreColoured-push h.scripts h.script_registers (new_script (reflector k) Reflector reflector_slots None) refl
    (λ o m i. absurd (no_delegate (blank-holds (reflector k) Reflector reflector_slots None o.name i))) c) s
  where
    no_delegate : {x : Name} → None ≡ Some x → ⊥
    no_delegate e = cc

-- Something is exposed.
pub exposed-fresh : (owned : List ℕ) (h : Heap) (s : Snapshot) (x : Option Name) → IsSound owned h → IsFreshIn h s → IsFreshIn (exposed h x) s
exposed-fresh owned h s x sound =
    fresh-coloured h (exposed h x) sound.well_formed (exposed-sound owned h x sound).well_formed (exposed-gentle h x sound.well_formed) (exposed-coloured h x) s

-- A native is wrapped.
pub wrapped-fresh : (owned : List ℕ) (h : Heap) (s : Snapshot) (x : Option Name) → IsSound owned h → IsNativeThere h x → IsFreshIn h s → IsFreshIn (wrapped h x) s
wrapped-fresh owned h s (Some (name.Native k)) sound there f = go (has_reflector h k.0) refl
  where
    go : (b : Bool) → has_reflector h k.0 ≡ b → IsFreshIn (elim b [ true ↦ exposed h (Some (reflector k.0)) | false ↦ with_reflector h k.0 ]) s
    go true e = exposed-fresh owned h s (Some (reflector k.0)) sound f
    go false e = reflector_made-fresh owned h s k.0 sound (there (native k.0) (inl refl)) e f
wrapped-fresh owned h s _ sound there f = f
