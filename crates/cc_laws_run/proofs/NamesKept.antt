-- WHAT LEAVES THE NAMES OF ALL OBJECTS: what changes slots, flags, counts and colours.
use Rattle.std.proofs.Common.{arith, ◌≡◌, ℕ, Option, Some, None, refl, ◌∙◌}
use Rattle.cc_names.specs.declared.name.Name.{Name}
use Rattle.cc_names.specs.declared.name.Name.TheVariants as name
use Rattle.cc_names.specs.Names.{object, reflector}
use Rattle.cc_model.specs.Heap.{Heap, HeapNative, HeapScript, change_native, change_script, set_slot, preserve}
use Rattle.cc_model.specs.Exposure.{exposed}
use Rattle.cc_model.specs.Effects.{touched, taken_out, put_in_script, set_entry}
use Rattle.cc_model.specs.WellFormed.{IsWellFormed, native_names, script_names}
use Rattle.cc_lists.proofs.ListWrites.{map-kept}
use Rattle.cc_laws_heap.proofs.Natives.{KeepsNumber, changed_at-number}
use Rattle.cc_laws_heap.proofs.HoldsTheSame.{HoldsTheSame, native_names-alike, script_names-alike}
use Rattle.cc_laws_heap.proofs.ScriptsKept.{script_names-exposed}

-- the same natives and the same script objects are there
pub record SameNames (h g : Heap) : Type 0 where
  pub natives : native_names g ≡ native_names h
  pub scripts : script_names g ≡ script_names h

-- heaps have the same names as themselves
pub SameNames-refl : (h : Heap) → SameNames h h
SameNames-refl h = record { natives = refl; scripts = refl }

-- one change after another
pub SameNames-trans : (h g f : Heap) → SameNames h g → SameNames g f → SameNames h f
SameNames-trans h g f a b = record { natives = b.natives ∙ a.natives; scripts = b.scripts ∙ a.scripts }

-- a change of counts and the buffer
pub SameNames-alike : (h g : Heap) → HoldsTheSame h g → SameNames h g
SameNames-alike h g a = record { natives = native_names-alike h g a; scripts = script_names-alike h g a }

-- a native changed
pub SameNames-change_native : (h : Heap) (k : ℕ) (f : HeapNative → HeapNative) → KeepsNumber f → SameNames h (change_native h k f)
SameNames-change_native h k f e = grind (arith, map-kept, changed_at-number)

-- a script object changed
SameNames-change_script : (h : Heap) (x : Name) (f : HeapScript → HeapScript) → ((o : HeapScript) → (f o).name ≡ o.name) → SameNames h (change_script h x f)
SameNames-change_script h x f e = grind (arith, map-kept)

-- a slot written
SameNames-set_slot : (h : Heap) (x : Option Name) (i : ℕ) (y : Option Name) → SameNames h (set_slot h x i y)
SameNames-set_slot h x i y = grind (arith, SameNames-refl, SameNames-change_native, SameNames-change_script)

-- a reflector preserved
pub SameNames-preserve : (h : Heap) (x : Option Name) → SameNames h (preserve h x)
SameNames-preserve h x = grind (arith, SameNames-change_native, SameNames-refl)

-- a reflector preserved, and a slot of a script object written
pub SameNames-put_in_script : (h : Heap) (x : Option Name) (i : ℕ) (y : Option Name) → SameNames h (put_in_script h x i y)
SameNames-put_in_script h x i y = SameNames-trans h (preserve h x) (put_in_script h x i y) (SameNames-preserve h x) (SameNames-set_slot (preserve h x) x i y)

-- an entry set or taken out
pub SameNames-set_entry : (h : Heap) (m k v : Option Name) → SameNames h (set_entry h m k v)
SameNames-set_entry h (Some m) (Some k) None = record { natives = refl; scripts = refl }
SameNames-set_entry h (Some m) (Some k) (Some v) = let p = SameNames-preserve h (Some k) in record { natives = p.natives; scripts = p.scripts }
SameNames-set_entry h _ _ v = SameNames-refl h

-- an exposure changes script objects alone
native_names-exposed : (h : Heap) (x : Option Name) → native_names (exposed h x) ≡ native_names h
unfolding exposed
native_names-exposed h x = grind arith

-- an exposure
pub SameNames-exposed : (h : Heap) (x : Option Name) → IsWellFormed h → SameNames h (exposed h x)
SameNames-exposed h x w = record { natives = native_names-exposed h x; scripts = script_names-exposed h x w }

-- what is taken out of a slot
pub SameNames-taken_out : (h : Heap) (from : Option Name) (j : ℕ) (x : Option Name) → IsWellFormed h → SameNames h (taken_out h from j x)
SameNames-taken_out h from j x w = SameNames-trans h (touched h x) (taken_out h from j x) (go x) (SameNames-set_slot (touched h x) from j None)
  where
    go : (y : Option Name) → SameNames h (touched h y)
    go None = SameNames-refl h
    go (Some (name.Native k)) = record { natives = refl; scripts = refl }
    go (Some (name.Script k)) = SameNames-exposed h (Some (object k.0)) w
    go (Some (name.Reflector k)) = SameNames-exposed h (Some (reflector k.0)) w
