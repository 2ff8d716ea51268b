-- CALLS AT PLACES: what a place holds is reached, and what a place takes, and gives up, is a change of the host.
use Rattle.std.proofs.Common.{◌≡◌, ◌⊎◌, ℕ, ◌+◌, true, false, [], Option, Some, None, Result, Ok, Err, OnOk, OnErr, option_map, refl, sym, ◌∙◌, ap, subst, ⊎_elim, arith}
use Rattle.std.proofs.lemmas.Bool.{false≢true}
use Rattle.cc_lists.proofs.Least.{derive-root}
use Rattle.cc_lists.proofs.Members.{Among-right}
use Rattle.cc_names.specs.declared.name.Name.{Name}
use Rattle.cc_names.specs.declared.name.Name.TheVariants as name
use Rattle.cc_names.specs.declared.number.NKey.{NKey}
use Rattle.cc_names.specs.declared.number.SKey.{SKey}
use Rattle.cc_names.specs.declared.number.NativeNo.{NativeNo}
use Rattle.cc_names.specs.declared.number.ScriptNo.{ScriptNo}
use Rattle.cc_names.specs.declared.register.Reg.TheVariants.{N, S}
use Rattle.cc_names.specs.Names.{is_native, native}
use Rattle.cc_names.proofs.NameTests.{same_name-exact}
use Rattle.cc_model.specs.Slots.{contents}
use Rattle.cc_model.specs.Entries.{joints, rules_of}
use Rattle.cc_model.specs.Graph as graph
use Rattle.cc_model.specs.Graph.{Graph}
use Rattle.cc_model.specs.Heap.{Heap, register}
use Rattle.cc_model.specs.Telling.{Telling}
use Rattle.cc_model.specs.View.{view}
use Rattle.cc_model.proofs.Tellings.{Tells-nil}
use Rattle.cc_laws_heap.proofs.Face.{contents-get}
use Rattle.cc_script.specs.Objects.{name_at}
use Rattle.cc_heaps.specs.Keyed.{Keyed}
use Rattle.cc_heaps.specs.Changes.{native_name, script_name}
use Rattle.cc_heaps.specs.Leaving.{NoneCame, NothingLeft, TellsWhatIsFreed}
use Rattle.cc_heaps.specs.Standing.{IsReached, IsReachedOrReflects, MayBeHeld, StandsAfter}
use Rattle.cc_collector.specs.Kept.{Kept}
use Rattle.cc_host.specs.declared.runtime.rooted.TheConstants.{FIRST_PLACE}
use Rattle.cc_host.specs.declared.object.Object.{Object}
use Rattle.cc_host.specs.Calls.{Brings, Does}
use Rattle.cc_host.specs.Changes.{IsChange, IsReady}
use Rattle.cc_host.specs.Hosted.{Hosted, IsKept, IsRootedIfAny, is_name, named}
use Rattle.cc_host.specs.Marked.{KeepsMarking}
use Rattle.cc_host.specs.Missing.{KeepsDoomedBut}
use Rattle.cc_host.specs.Places.{placed, unplaced}
use Rattle.cc_host.specs.Stops.{stop_at}
use Rattle.cc_host.proofs.Composing.{KeepsAll-then, stands-then, tells-after}
use Rattle.cc_host.proofs.Keeping.{change-keeps, hosted}
use Rattle.cc_host.proofs.KeptDoomed.{doomed-then}
use Rattle.cc_host.proofs.Referring.{found-native, found-there, key-held}
use Rattle.cc_host.proofs.Storing.{register-reached}

-- What a place holds

-- what a register holds, if anything, is reached
native-held : (h : Heap) (r : ℕ) → IsReached h (register h (N r))
native-held h r = go (register h (N r)) refl
  where
    go : (o : Option Name) → register h (N r) ≡ o → IsReached h o
    go None e = tt
    go (Some x) e = register-reached h r x e

script-held : (h : Heap) (r : ℕ) → IsReached h (register h (S r))
script-held h r = go (register h (S r)) refl
  where
    go : (o : Option Name) → register h (S r) ≡ o → IsReached h o
    go None e = tt
    go (Some x) e = derive-root (view h).registers (view h).edges (rules_of (joints h.entries)) x
        (Among-right x (contents h.native_registers) (contents h.script_registers) (contents-get h.script_registers r x e))

-- and so is what is read from it
pub native-rooted : (h : Hosted) (r : ℕ) (o : Option NKey) (key : NKey) → o ≡ Some key → native_name h.heaps o ≡ register h.heaps.heap (N r) →
    (x : Option Object) → named x ≡ native_name h.heaps (Some key) → IsRootedIfAny h x
native-rooted h r o key is at x name = subst (IsReached h.heaps.heap) (sym (name ∙ (ap (native_name h.heaps) (sym is) ∙ at))) (native-held h.heaps.heap r)

pub script-rooted : (h : Hosted) (r : ℕ) (o : Option SKey) → script_name h.heaps o ≡ register h.heaps.heap (S r) →
    (x : Option Object) → named x ≡ script_name h.heaps o → IsRootedIfAny h x
script-rooted h r o at x name = subst (IsReached h.heaps.heap) (sym (name ∙ at)) (script-held h.heaps.heap r)

-- What stands at the key of an object at which no call stops

native-here : (h : Hosted) (x : Object) (number : NativeNo) → x.name ≡ name.Native number → stop_at h x ≡ None →
    native_name h.heaps (Some (record { 0 = x.key })) ≡ Some (name.Native number)
native-here h x number is none = ap (option_map native) (found-there h.heaps x.key number (found-native h x number is none)).0

is_name-exact : (y : Name) (o : Option Name) → is_name y o ≡ true → o ≡ Some y
is_name-exact y None e = absurd (false≢true e)
is_name-exact y (Some z) e = ap (λ u. Some u) ((same_name-exact z y).0 e)

-- a script object, by its name
pub of-script : (x : Name) → ((k : ScriptNo) × (x ≡ name.Script k)) ⊎ ((k : NativeNo) × (x ≡ name.Reflector k)) → is_native x ≡ false
of-script x is = ⊎_elim (λ l. ap is_native l.1) (λ r. ap is_native r.1) is

pub script-here : (h : Hosted) (x : Object) → is_native x.name ≡ false → stop_at h x ≡ None → script_name h.heaps (Some (record { 0 = x.key })) ≡ Some x.name
script-here h x is none = is_name-exact x.name (name_at h.heaps.scripts x.key) (grind (arith, is, none))

-- A change is what a call does
change-does : {premise : Type 0} {change : Graph → Graph} (v w : Keyed) (c : Kept) (m : ℕ) → IsChange premise change v w → Does premise change (hosted v c m) (hosted w c m)
change-does v w c m t = record { stands = t.stands; doomed = t.doomed; keys = t.kept.keys; running = refl; marking = refl; mark = refl }

-- also where it was refused, which changes nothing
pub placed-keeps : {A E : Type 0} (premise : Type 0) (change : Graph → Graph) (v w : Keyed) (c : Kept) (m : ℕ) (r : Result A E) → OnOk r (IsChange premise change v w) → OnErr r (w ≡ v) →
    KeepsMarking v w → IsKept (hosted v c m) → IsKept (hosted w c m)
placed-keeps premise change v w c m (Ok a) t same marks k = change-keeps v w c m t marks.well k
placed-keeps premise change v w c m (Err e) t same marks k = subst (λ (u : Keyed). IsKept (hosted u c m)) (sym same) k

-- A PLACE TAKES A NATIVE.
module _ (h : Hosted) (v w : Keyed) (c : Kept) (m p : ℕ) (is_view : hosted v c m ≡ h) (x : Object) (number : NativeNo) (is : x.name ≡ name.Native number) (none : stop_at h x ≡ None) where
  abbrev key : NKey
  key = record { 0 = x.key }

  -- under its name
  its-name : native_name v (Some key) ≡ Some (name.Native number)
  its-name = subst (λ (k : Hosted). native_name k.heaps (Some key) ≡ Some (name.Native number)) (sym is_view) (native-here h x number is none)

  pub native-does : IsChange (IsReached v.heap (native_name v (Some key))) (λ g. graph.root_at g (N (FIRST_PLACE + p)) (native_name v (Some key))) v w →
      Does (IsReachedOrReflects h.heaps.heap (Some x.name)) (placed p x.name) h (hosted w c m)
  native-does t =
      let change : IsChange (IsReachedOrReflects v.heap (Some (name.Native number))) (placed p (name.Native number)) v w =
      subst (λ y. IsChange (IsReached v.heap y) (λ g. graph.root_at g (N (FIRST_PLACE + p)) y) v w) its-name t in
      subst (λ y. Does (IsReachedOrReflects h.heaps.heap (Some y)) (placed p y) h (hosted w c m)) (sym is)
      (subst (λ (k : Hosted). Does (IsReachedOrReflects k.heaps.heap (Some (name.Native number))) (placed p (name.Native number)) k (hosted w c m)) is_view
      (change-does v w c m change))

  pub native-brings : IsKept h → IsChange (IsReached v.heap (native_name v (Some key))) (λ g. graph.root_at g (N (FIRST_PLACE + p)) (native_name v (Some key))) v w →
      (MayBeHeld v.heap (native_name v (Some key)) → StandsAfter v.heap w.heap (λ g. graph.root_at g (N (FIRST_PLACE + p)) (native_name v (Some key)))) →
      KeepsDoomedBut (native_name v (Some key)) v.heap w.heap → Brings (Some x.name) (placed p x.name) h (hosted w c m)
  native-brings kept t stands doomed =
      let usable : MayBeHeld v.heap (native_name v (Some key)) =
      subst (λ (k : Hosted). MayBeHeld k.heaps.heap (native_name k.heaps (Some key))) (sym is_view) (key-held h.heaps [] kept.runs.order key number (found-native h x number is none)) in
      subst (λ y. Brings (Some y) (placed p y) h (hosted w c m)) (sym is)
      (subst (λ (k : Hosted). Brings (Some (name.Native number)) (placed p (name.Native number)) k (hosted w c m)) is_view
      (record {
        held = subst (MayBeHeld v.heap) its-name usable;
        stands = subst (λ y. StandsAfter v.heap w.heap (λ g. graph.root_at g (N (FIRST_PLACE + p)) y)) its-name (stands usable);
        doomed = subst (λ y. KeepsDoomedBut y v.heap w.heap) its-name doomed;
        keys = t.kept.keys;
        running = refl;
        marking = refl;
        mark = refl;
      }))

-- or a script object
pub script-does : (h : Hosted) (v w : Keyed) (c : Kept) (m p : ℕ) → hosted v c m ≡ h → (x : Object) → is_native x.name ≡ false → stop_at h x ≡ None →
    IsChange (IsReachedOrReflects v.heap (script_name v (Some (record { 0 = x.key })))) (λ g. graph.root_at g (S (FIRST_PLACE + p)) (script_name v (Some (record { 0 = x.key })))) v w →
    Does (IsReachedOrReflects h.heaps.heap (Some x.name)) (placed p x.name) h (hosted w c m)
script-does h v w c m p is_view x is none t =
    let its_name : script_name v (Some (record { 0 = x.key })) ≡ Some x.name =
    subst (λ (k : Hosted). script_name k.heaps (Some (record { 0 = x.key })) ≡ Some x.name) (sym is_view) (script-here h x is none) in
    let change : IsChange (IsReachedOrReflects v.heap (Some x.name)) (placed p x.name) v w =
    subst (λ b. IsChange (IsReachedOrReflects v.heap (Some x.name)) (λ g. graph.root_at g (elim b [ true ↦ N (FIRST_PLACE + p) | false ↦ S (FIRST_PLACE + p) ]) (Some x.name)) v w) (sym is)
    (subst (λ y. IsChange (IsReachedOrReflects v.heap y) (λ g. graph.root_at g (S (FIRST_PLACE + p)) y) v w) its_name t) in
    subst (λ (k : Hosted). Does (IsReachedOrReflects k.heaps.heap (Some x.name)) (placed p x.name) k (hosted w c m)) is_view (change-does v w c m change)

-- A PLACE GIVES UP WHAT IT HELD: both its registers are emptied.
module _ (v mid w : Keyed) (p : ℕ) (ready : IsReady v) (one : IsChange (Unit {0}) (λ g. graph.set_register g (S (FIRST_PLACE + p)) None) v mid)
    (two : IsChange (Unit {0}) (λ g. graph.set_register g (N (FIRST_PLACE + p)) None) mid w) (came : NoneCame mid.heap w.heap) where
  pub unplaced-change : IsChange (Unit {0}) (unplaced p) v w
  unplaced-change = record {
    kept = KeepsAll-then v mid w ready.order came one.kept two.kept;
    spared = two.spared;
    stands = λ t. stands-then v.heap mid.heap w.heap (λ g. graph.set_register g (S (FIRST_PLACE + p)) None) (λ g. graph.set_register g (N (FIRST_PLACE + p)) None) (one.stands tt) (two.stands tt);
    doomed = λ t. doomed-then v.heap mid.heap w.heap (one.doomed tt) (two.doomed tt);
  }

  pub unplaced-does : (h : Hosted) (c : Kept) (m : ℕ) → hosted v c m ≡ h → Does (Unit {0}) (unplaced p) h (hosted w c m)
  unplaced-does h c m is = subst (λ (k : Hosted). Does (Unit {0}) (unplaced p) k (hosted w c m)) is (change-does v w c m unplaced-change)

  pub unplaced-tells : NoneCame v.heap mid.heap → NothingLeft v.heap mid.heap → (before after : Telling) → TellsWhatIsFreed mid.heap w.heap before after → TellsWhatIsFreed v.heap w.heap before after
  unplaced-tells back stays before after t = tells-after v.heap mid.heap w.heap before before after (Tells-nil before) stays (λ j i. back (native j) i) t

-- what holds where a call is done holds where it was done
pub on-ok : {A E P : Type 0} (r : Result A E) (a : A) → r ≡ Ok a → OnOk r P → P
on-ok (Ok a) b is p = p
on-ok (Err e) b is p = absurd (cc)
