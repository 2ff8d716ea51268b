-- NOTHING COMES BACK, through calls in any order.
use Rattle.std.proofs.Common.{◌≡◌, ◌≢◌, ℕ, ◌+◌, ◌≤◌, ◌==◌, [], Bool, true, false, not, Option, Some, None, sym, ◌∙◌, ap, subst, ⊎_elim, arith}
use Rattle.std.proofs.lemmas.Bool.{cases_Bool, eq-eqb, eqb-true, false≢true, true≢false}
use Rattle.cc_lists.specs.Members.{Among}
use Rattle.cc_lists.proofs.Members.{Among-append, Among-left, Among-map_cases, Among-right}
use Rattle.cc_names.specs.declared.name.Name.{Name}
use Rattle.cc_names.specs.declared.name.Name.TheVariants as name
use Rattle.cc_names.specs.Names.{is_reflector, native, object, reflector}
use Rattle.cc_model.specs.Checks.{reflector_of}
use Rattle.cc_model.specs.Heap.{Heap, HeapNative}
use Rattle.cc_model.specs.WellFormed.{IsWellFormed, names_there, native_names, script_names}
use Rattle.cc_laws_heap.proofs.Face.{named-member, native-there}
use Rattle.cc_heaps.proofs.Calls.{number-named}
use Rattle.cc_script.specs.Objects.{name_at}
use Rattle.cc_wrappers.proofs.ReflectorKeys.{name-held}
use Rattle.cc_host.specs.declared.object.Object.{Object}
use Rattle.cc_host.specs.declared.stop.Stop.TheVariants.{Foreign, Gone, Kind}
use Rattle.cc_host.specs.Hosted.{Hosted, IsKept, is_name, is_usable_at}
use Rattle.cc_host.specs.Stops.{first, stop_at, where_so}
use Rattle.cc_host.specs.Lasting.{Later, Lasts, WasGiven, called, none_called}
use Rattle.cc_host.specs.Freed.{Leaves}
use Rattle.cc_host.proofs.LastingObjects.{named-is, script-there}
use Rattle.cc_host.proofs.Referring.{found-there}

-- One call

-- what was given was given afterwards
pub given-on : {but : Option Name} (a b : Hosted) → Lasts but a b → (x : Name) → WasGiven a.heaps.heap x → WasGiven b.heaps.heap x
given-on a b l (name.Native k) g = omega (arith, g, l.natives)
given-on a b l (name.Script k) g = omega (arith, g, l.scripts)
given-on a b l (name.Reflector k) g = omega (arith, g, l.natives)

pub lasts-then : (but : Option Name) (a b c : Hosted) → Lasts but a b → Lasts but b c → Lasts but a c
lasts-then but a b c f g = record {
  natives = omega (arith, f.natives, g.natives);
  scripts = omega (arith, f.scripts, g.scripts);
  away = λ x given other none. g.away x (given-on a b f x given) other (f.away x given other none);
  gone = λ x given other e. g.gone x (given-on a b f x.name given) other (f.gone x given other e);
}

-- what is no reflector is no reflector of a native
no-reflector : (x : Name) (y : Option Name) → is_reflector x ≡ false → Some x ≢ reflector_of y
no-reflector x None plain e = absurd (cc)
no-reflector x (Some (name.Script k)) plain e = absurd (cc)
no-reflector x (Some (name.Reflector k)) plain e = absurd (cc)
no-reflector x (Some (name.Native k)) plain e =
    let same : x ≡ reflector k.0 = cc in
    false≢true (sym plain ∙ ap is_reflector same)

-- Calls in any order

pub later-given : (a b : Hosted) → Later a b → (x : Name) → WasGiven a.heaps.heap x → WasGiven b.heaps.heap x
later-given a b none_called x g = g
later-given a c (called b _ y l f) x g = given-on b c f x (later-given a b l x g)

pub later-away : (a b : Hosted) → Later a b → (x : Name) → is_reflector x ≡ false → WasGiven a.heaps.heap x → ¬ (Among x (names_there a.heaps.heap)) → ¬ (Among x (names_there b.heaps.heap))
later-away a b none_called x plain g none = none
later-away a c (called b _ y l f) x plain g none = f.away x (later-given a b l x g) (no-reflector x y plain) (later-away a b l x plain g none)

pub later-gone : (a b : Hosted) → Later a b → (x : Object) → is_reflector x.name ≡ false → WasGiven a.heaps.heap x.name → stop_at a x ≡ Some Gone → stop_at b x ≡ Some Gone
later-gone a b none_called x plain g e = e
later-gone a c (called b _ y l f) x plain g e = f.gone x (later-given a b l x.name g) (no-reflector x.name y plain) (later-gone a b l x plain g e)

-- What left

-- what is there was given
pub there-given : (h : Hosted) → IsKept h → (x : Name) → is_reflector x ≡ false → Among x (names_there h.heaps.heap) → WasGiven h.heaps.heap x
there-given h k x plain m = go x plain m
  where
    w : IsWellFormed h.heaps.heap
    w = k.runs.order.sound.well_formed

    go : (x : Name) → is_reflector x ≡ false → Among x (names_there h.heaps.heap) → WasGiven h.heaps.heap x
    go (name.Reflector j) plain m = absurd (true≢false plain)
    go (name.Native j) plain m =
        let n = named-member h.heaps.heap j.0 (native-there h.heaps.heap j.0 w m) in
        omega (arith, (w.native_numbers n.0 n.1).1, n.2)
    go (name.Script j) plain m = ⊎_elim
        (λ n. let f = Among-map_cases (λ (n : HeapNative). native n.number) h.heaps.heap.natives (name.Script j) n in let apart : native f.0.number ≡ name.Script j = f.2 in absurd (cc))
        (λ s. (w.object_numbers j.0 s).1)
        (Among-append (name.Script j) (native_names h.heaps.heap) (script_names h.heaps.heap) m)

-- WHAT LEFT IS NEVER THERE AGAIN.
pub left-away : (a b c : Hosted) (x : Name) → IsKept a → is_reflector x ≡ false → Among x (names_there a.heaps.heap) → ¬ (Among x (names_there b.heaps.heap)) → Later a b → Later b c →
    ¬ (Among x (names_there c.heaps.heap))
left-away a b c x k plain there gone l m = later-away b c m x plain (later-given a b l x (there-given a k x plain there)) gone

-- the last of the answers
gone-last : (z a f : Bool) → z ≡ false → a ≡ true → f ≡ false → first (where_so z Kind) (first (where_so (not a) Foreign) (where_so (not f) Gone)) ≡ Some Gone
gone-last z a f e g h = ap (λ c. first (where_so c Kind) (first (where_so (not a) Foreign) (where_so (not f) Gone))) e
    ∙ (ap (λ c. first (where_so (not c) Foreign) (where_so (not f) Gone)) g ∙ ap (λ c. where_so (not c) Gone) h)

-- WHAT LEFT IS GONE for each object of its name
module _ (a b : Hosted) (x : Object) (ka : IsKept a) (kb : IsKept b) (mark : x.mark ≡ b.mark) where
  w : IsWellFormed a.heaps.heap
  w = ka.runs.order.sound.well_formed

  -- a number that was made is not 0
  no_zero : (j : ℕ) → 1 ≤ j → (j == 0) ≡ false
  no_zero j above = ⊎_elim (λ t. absurd (let zero : j ≡ 0 = eqb-true j 0 t in omega (arith, zero, above))) (λ f. f) (cases_Bool (j == 0))

  pub left-gone : is_reflector x.name ≡ false → Leaves x.name a b → stop_at b x ≡ Some Gone
  left-gone plain left = go x.name plain left
    where
      go : (y : Name) → is_reflector y ≡ false → Leaves y a b → stop_at b (record x { name = y }) ≡ Some Gone
      go (name.Reflector j) plain left = absurd (true≢false plain)
      go (name.Native j) plain left =
          let n = named-member a.heaps.heap j.0 (native-there a.heaps.heap j.0 w left.before) in
          gone-last (j.0 == 0) (x.mark == b.mark) (is_usable_at b.heaps x.key j) (no_zero j.0 (omega (arith, (w.native_numbers n.0 n.1).0, n.2))) (eq-eqb x.mark b.mark mark)
          (⊎_elim
          (λ t. absurd (left.gone (Among-left (native j.0) (native_names b.heaps.heap) (script_names b.heaps.heap)
          (number-named b.heaps [] x.key j.0 kb.runs.order (found-there b.heaps x.key j t).0))))
          (λ f. f)
          (cases_Bool (is_usable_at b.heaps x.key j)))
      go (name.Script j) plain left =
          let there : Among (name.Script j) (script_names a.heaps.heap) = script-there a.heaps.heap (name.Script j) (λ i e. let apart : native i ≡ name.Script j = e in cc) left.before in
          gone-last (j.0 == 0) (x.mark == b.mark) (is_name (name.Script j) (name_at b.heaps.scripts x.key)) (no_zero j.0 (w.object_numbers j.0 there).0) (eq-eqb x.mark b.mark mark)
          (⊎_elim
          (λ t. absurd (left.gone (Among-right (name.Script j) (native_names b.heaps.heap) (script_names b.heaps.heap)
          (name-held [] b.heaps kb.runs.order x.key (name.Script j) (named-is (name.Script j) (name_at b.heaps.scripts x.key) t)))))
          (λ f. f)
          (cases_Bool (is_name (name.Script j) (name_at b.heaps.scripts x.key))))

-- AND NO CALL LETS IT LEAVE AGAIN.
pub left-once : (a b c d : Hosted) (x : Name) → IsKept a → is_reflector x ≡ false → Leaves x a b → Later a b → Later b c → ¬ (Leaves x c d)
left-once a b c d x k plain left l m again = left-away a b c x k plain left.before left.gone l m again.before

-- NO NUMBER TWICE: what was given is not what a host makes next
pub given-apart : (a b : Hosted) → Later a b → (x : Name) → WasGiven a.heaps.heap x →
    (x ≢ native (b.heaps.heap.natives_made + 1)) × (x ≢ object (b.heaps.heap.scripts_made + 1))
given-apart a b l x g =
    let h : Heap = b.heaps.heap in (
      (λ e. let few : h.natives_made + 1 ≤ h.natives_made = subst (WasGiven h) e (later-given a b l x g) in omega (arith, few)),
      (λ e. let few : h.scripts_made + 1 ≤ h.scripts_made = subst (WasGiven h) e (later-given a b l x g) in omega (arith, few)),
    )
