-- WHAT IS MADE, REFERRED TO, EXPOSED OR WRITTEN BESIDE NATIVES keeps every unreached native suspected.
use Rattle.std.proofs.Common.{◌≡◌, ℕ, ◌+◌, ◌<◌, ◌≤◌, Bool, true, false, List, [], ◌∷◌, ◌++◌, map, length, Option, Some, None, refl, ◌∙◌, ap, subst, inl, ⊎_elim, arith}
use Rattle.std.proofs.lemmas.List.{map_push}
use Rattle.cc_lists.specs.Members.{Among}
use Rattle.cc_lists.proofs.Members.{Among-append}
use Rattle.cc_names.specs.declared.name.Name.{Name}
use Rattle.cc_names.specs.declared.name.Name.TheVariants as name
use Rattle.cc_names.specs.declared.kind.Kind.{Kind}
use Rattle.cc_names.specs.declared.kind.Kind.TheVariants.{Reflector}
use Rattle.cc_names.specs.Names.{native, object, reflector, same_name, is_script}
use Rattle.cc_names.specs.Sizes.{most_slots}
use Rattle.cc_model.specs.Slots.{reflector_slots}
use Rattle.cc_model.specs.Heap.{Heap, HeapScript, touch, has_reflector, change_script, with_script_slot, set_preserved, new_script}
use Rattle.cc_model.specs.View.{view, ReachedIn}
use Rattle.cc_model.specs.Cascade.{add_ref}
use Rattle.cc_model.specs.Exposure.{exposed}
use Rattle.cc_model.specs.Effects.{make_native, make_object, with_reflector, wrapped, set_entry}
use Rattle.cc_model.specs.WellFormed.{IsWellFormed, native_names, script_names}
use Rattle.cc_laws_heap.specs.Sound.{IsSound}
use Rattle.cc_laws_heap.proofs.NativeCommands.{make_native-sound}
use Rattle.cc_laws_heap.proofs.HoldsTheSame.{HoldsTheSame-add_ref, native_names-alike}
use Rattle.cc_lists.proofs.ListWrites.{changed_where, changed_where-either, map-kept}
use Rattle.cc_laws_snapshot.specs.KindsSuspected.{IsSuspectedIn, IsReachedNative}
use Rattle.cc_laws_snapshot.proofs.LoyalSuspected.{loyal-suspected}
use Rattle.cc_laws_snapshot.proofs.Handing.{hands-loyal}
use Rattle.cc_laws_snapshot.proofs.Handed.{TakesUp, TakesUp-nothing, TakesUp-add_ref, TakesUp-touch, Still}
use Rattle.cc_laws_snapshot.proofs.StillNatives.{Still-refl, Still-script_last, Still-exposed, Still-change_script, Still-flag, Still-set_entry, Still-make_object, Hands-taken}
use Rattle.cc_laws_snapshot.proofs.KindsLoyal.{HasScriptNames, HasScriptNames-well_formed, buffers-suspected}
use Rattle.cc_laws_snapshot.proofs.CommandsLoyal.{make_native-loyal}

-- A native made

-- A native is made, and a register holds it.
pub native_made-suspected : (owned : List ℕ) (h : Heap) (candidates : List ℕ) (d n : ℕ) → IsSound owned h → d < length h.native_registers → n ≤ most_slots →
    h.natives_made < h.limits.natives → IsSuspectedIn h candidates → IsSuspectedIn (make_native h d n).heap candidates
native_made-suspected owned h candidates d n s room few allowed = loyal-suspected h (make_native h d n).heap candidates s.well_formed
    (make_native-sound owned h d n room few allowed s).well_formed (make_native-loyal h d n room few allowed s)

-- Natives as they are, or one of them referred to that is reached

-- first one native may get a reference, then only what stands beside natives changes
taken-suspected : (h i g : Heap) (candidates : List ℕ) (x : Option Name) → IsWellFormed h → HasScriptNames g → TakesUp h i x →
    native_names i ≡ native_names h → Still i g → IsReachedNative (view g) x → IsSuspectedIn h candidates → IsSuspectedIn g candidates
taken-suspected h i g candidates x w named t names s reached =
    buffers-suspected h g candidates (view h).buffer (view h).purple (view g).buffer (view g).purple w named
    (hands-loyal h g w (Hands-taken h i g x t names s reached))

-- natives stay as they are
still-suspected : (h g : Heap) (candidates : List ℕ) → IsWellFormed h → HasScriptNames g → Still h g → IsSuspectedIn h candidates → IsSuspectedIn g candidates
still-suspected h g candidates w named s = taken-suspected h h g candidates None w named (TakesUp-nothing h None) refl s (λ k m. absurd m)

-- one more script object
HasScriptNames-push : (h g : Heap) (o : HeapScript) → g.scripts ≡ h.scripts ++ o ∷ [] → is_script o.name ≡ true → HasScriptNames h → HasScriptNames g
HasScriptNames-push h g o e named all x m = ⊎_elim (all x) (λ n. ⊎_elim (λ t. subst (λ z. is_script z ≡ true) t named) (λ b. absurd b) n)
    (Among-append x (script_names h) (o.name ∷ [])
    (subst (Among x) (ap (map (λ (p : HeapScript). p.name)) e ∙ map_push (λ (p : HeapScript). p.name) h.scripts o) m))

-- script objects changed that keep their names
HasScriptNames-map : (h : Heap) (f : HeapScript → HeapScript) → ((o : HeapScript) → (f o).name ≡ o.name) → HasScriptNames h →
    HasScriptNames (record h { scripts = map f h.scripts })
HasScriptNames-map h f e all x m = all x (subst (Among x) (map-kept (λ (o : HeapScript). o.name) f h.scripts e) m)

-- A script object is made, and a register holds it.
pub object_made-suspected : (h : Heap) (candidates : List ℕ) (d : ℕ) (kind : Kind) (n : ℕ) (its_delegate : Option Name) → IsWellFormed h →
    IsSuspectedIn h candidates → IsSuspectedIn (make_object h d kind n its_delegate) candidates
object_made-suspected h candidates d kind n its_delegate w = still-suspected h (make_object h d kind n its_delegate) candidates w
    (HasScriptNames-push h (make_object h d kind n its_delegate) (new_script (object (h.scripts_made + 1)) kind n its_delegate) refl refl (HasScriptNames-well_formed h w))
    (Still-make_object h d kind n its_delegate)

-- A native gets a reference that is reached.
pub reference_added-suspected : (h : Heap) (candidates : List ℕ) (k : ℕ) → IsWellFormed h → ReachedIn (view (add_ref h k)) (native k) →
    IsSuspectedIn h candidates → IsSuspectedIn (add_ref h k) candidates
reference_added-suspected h candidates k w r = taken-suspected h (add_ref h k) (add_ref h k) candidates (Some (native k)) w
    (HasScriptNames-well_formed h w) (TakesUp-add_ref h k) (native_names-alike h (add_ref h k) (HoldsTheSame-add_ref h k)) (Still-refl (add_ref h k))
    (λ j m. ⊎_elim (λ e. subst (ReachedIn (view (add_ref h k))) e r) (λ b. absurd b) m)

-- A native is touched that is reached.
pub touched-suspected : (h : Heap) (candidates : List ℕ) (k : ℕ) → IsWellFormed h → ReachedIn (view h) (native k) →
    IsSuspectedIn h candidates → IsSuspectedIn (touch h k) candidates
touched-suspected h candidates k w r = taken-suspected h (touch h k) (touch h k) candidates (Some (native k)) w
    (HasScriptNames-well_formed h w) (TakesUp-touch h k) refl (Still-refl (touch h k))
    (λ j m. ⊎_elim (λ e. subst (ReachedIn (view h)) e r) (λ b. absurd b) m)

-- A reflector is made of a native that is reached.
pub reflector_made-suspected : (h : Heap) (candidates : List ℕ) (k : ℕ) → IsWellFormed h → ReachedIn (view (with_reflector h k)) (native k) →
    IsSuspectedIn h candidates → IsSuspectedIn (with_reflector h k) candidates
reflector_made-suspected h candidates k w r = taken-suspected h (add_ref h k) (with_reflector h k) candidates (Some (native k)) w
    (HasScriptNames-push h (with_reflector h k) (new_script (reflector k) Reflector reflector_slots None) refl refl (HasScriptNames-well_formed h w))
    (TakesUp-add_ref h k) (native_names-alike h (add_ref h k) (HoldsTheSame-add_ref h k))
    (Still-script_last (add_ref h k) (new_script (reflector k) Reflector reflector_slots None) h.scripts_made)
    (λ j m. ⊎_elim (λ e. subst (ReachedIn (view (with_reflector h k))) e r) (λ b. absurd b) m)

-- an exposure keeps names
HasScriptNames-exposed : (h : Heap) (x : Option Name) → HasScriptNames h → HasScriptNames (exposed h x)
unfolding exposed
HasScriptNames-exposed h x all = grind (arith, HasScriptNames-map, changed_where-either)

-- Something is exposed.
pub exposed-suspected : (h : Heap) (candidates : List ℕ) (x : Option Name) → IsWellFormed h → IsSuspectedIn h candidates → IsSuspectedIn (exposed h x) candidates
exposed-suspected h candidates x w = still-suspected h (exposed h x) candidates w (HasScriptNames-exposed h x (HasScriptNames-well_formed h w)) (Still-exposed h x)

-- A native that is reached is wrapped.
pub wrapped-suspected : (h : Heap) (candidates : List ℕ) (x : Option Name) → IsWellFormed h → IsReachedNative (view (wrapped h x)) x →
    IsSuspectedIn h candidates → IsSuspectedIn (wrapped h x) candidates
wrapped-suspected h candidates (Some (name.Native k)) w r s = go (has_reflector h k.0) (r k.0 (inl refl))
  where
    go : (b : Bool) → ReachedIn (view (elim b [ true ↦ exposed h (Some (reflector k.0)) | false ↦ with_reflector h k.0 ])) (native k.0) →
        IsSuspectedIn (elim b [ true ↦ exposed h (Some (reflector k.0)) | false ↦ with_reflector h k.0 ]) candidates
    go true q = exposed-suspected h candidates (Some (reflector k.0)) w s
    go false q = reflector_made-suspected h candidates k.0 w q s
wrapped-suspected h candidates _ w r s = s

-- Slots of script objects, flags and entries

-- A slot of a script object is written.
pub script_slot_written-suspected : (h : Heap) (candidates : List ℕ) (o : Name) (i : ℕ) (x : Option Name) → IsWellFormed h →
    IsSuspectedIn h candidates → IsSuspectedIn (change_script h o (with_script_slot i x)) candidates
script_slot_written-suspected h candidates o i x w = still-suspected h (change_script h o (with_script_slot i x)) candidates w
    (HasScriptNames-map h (changed_where (λ p. same_name p.name o) (λ p. with_script_slot i x p))
    (λ p. changed_where-either (λ q. q.name ≡ p.name) (λ q. same_name q.name o) (λ p. with_script_slot i x p) p (λ e. refl) refl)
    (HasScriptNames-well_formed h w))
    (Still-change_script h o i x)

-- A flag is written.
pub flag_written-suspected : (h : Heap) (candidates : List ℕ) (k : ℕ) (on : Bool) → IsWellFormed h →
    IsSuspectedIn h candidates → IsSuspectedIn (set_preserved h k on) candidates
flag_written-suspected h candidates k on w = still-suspected h (set_preserved h k on) candidates w (HasScriptNames-well_formed h w) (Still-flag h k on)

-- an entry written leaves script objects
set_entry-scripts : (h : Heap) (m k : Name) (v : Option Name) → HasScriptNames h → HasScriptNames (set_entry h (Some m) (Some k) v)
set_entry-scripts h m k v all = grind arith

-- An entry is written.
pub entry_written-suspected : (h : Heap) (candidates : List ℕ) (m k : Name) (v : Option Name) → IsWellFormed h →
    IsSuspectedIn h candidates → IsSuspectedIn (set_entry h (Some m) (Some k) v) candidates
entry_written-suspected h candidates m k v w = still-suspected h (set_entry h (Some m) (Some k) v) candidates w
    (set_entry-scripts h m k v (HasScriptNames-well_formed h w)) (Still-set_entry h (Some m) (Some k) v)
